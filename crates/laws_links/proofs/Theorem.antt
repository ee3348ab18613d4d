-- One link's word about another: the theorems of 02 Req 13. Assumes nothing.
use mathlib.Core.Path.{◌≡◌, refl}
use mathlib.Core.List.{List, [], ◌∷◌}
use Prim.Native.Nat.{ℕ}
use lib.ListN.{get_or}
use Rattle.model.specs.Map.{Image}
use Rattle.model.specs.State.{State}
use Rattle.model.specs.Work.{early}
use Rattle.model.specs.Start.{started_state}
use Rattle.model.specs.Step.{step, ending}
use Rattle.model.specs.declared.event.Event.{Event}
use Rattle.laws_frames.proofs.Alike.{alike_refl}
use Rattle.laws_sound.proofs.Quiet.{Well}
use Rattle.laws_sound.proofs.Starting.{start_well}
use Rattle.laws_sound.proofs.Steps.{step_well}
use Rattle.laws_links.specs.Links.{Parted, Allowed, SameModule, Together, begun, in_both, in_first, in_second, SameOutside, SameWord, Moment, in_both_runs, in_first_alone, in_second_alone, first_events, second_events, Supposed, unsaid}
use Rattle.laws_links.proofs.Owned.{said_own}
use Rattle.laws_links.proofs.Holding.{Held, step-held, start-held}
use Rattle.laws_links.proofs.Nearness.{Near, near_sym}
use Rattle.laws_links.proofs.Stepping.{step_both, step_alone}

module _ (A : ℕ) where
  -- what two such runs keep: each is sound and has its groups in progress parted, and they are near
  record Kept (s t : State) : Type 0 where
    pub two : ℕ
    pub well : Well two s
    pub well' : Well two t
    pub held : Held A s.working
    pub held' : Held A t.working
    pub near : Near A s t

  near_refl : (s : State) → Near A s s
  near_refl s = record { image = alike_refl (unsaid A) s.image; stages = λ l h a. refl; ons = λ l h a. refl; line = refl }

  kept : {s t : State} → Together A s t → Kept s t
  kept (begun x) = record {
    two = get_or x 2 0;
    well = start_well x;
    well' = start_well x;
    held = start-held A x;
    held' = start-held A x;
    near = near_refl (started_state x);
  }
  kept (in_both {s} {t} T room e e' G G' m q) = let K = kept T in record {
    two = K.two;
    well = step_well K.two room s e K.well;
    well' = step_well K.two room t e' K.well';
    held = step-held A room s e G K.held;
    held' = step-held A room t e' G' K.held';
    near = (step_both A K.two s t K.near K.well K.well' K.held room e e' G G' m q).0;
  }
  kept (in_first {s} {t} T room e G m q) = let K = kept T in record {
    two = K.two;
    well = step_well K.two room s e K.well;
    well' = K.well';
    held = step-held A room s e G K.held;
    held' = K.held';
    near = step_alone A K.two s t K.near K.well K.held room e G m;
  }
  kept (in_second {s} {t} T room e G m q) = let K = kept T in record {
    two = K.two;
    well = K.well;
    well' = step_well K.two room t e K.well';
    held = K.held;
    held' = step-held A room t e G K.held';
    near = near_sym A (step_alone A K.two t s (near_sym A K.near) K.well' K.held' room e G m);
  }

  near_outside : {s t : State} → Near A s t → SameOutside A s t
  near_outside {s} {t} N = record {
    bits = λ l i b h o. N.image.bits i b (said_own A l i b h.1 o);
    records = λ l h i. record { stage = N.stages l h.0 h.1 i; on = N.ons l h.0 h.1 i };
  }

  -- whatever was done to the lanes of A, every bit of every other lane is the same in both runs, and so is its record
  pub links_apart : {s t : State} → Together A s t → SameOutside A s t
  links_apart T = near_outside (kept T).near

  -- and so is the word that each gives of it
  pub links_answer : {s t : State} → Together A s t → (room : ℕ) (e e' : Event) → Parted A s e → Parted A t e' → Allowed A s e e'
      → SameModule (step early room s e).state (step early room t e').state → SameWord A s e (step early room s e) (step early room t e')
  links_answer {s} {t} T room e e' G G' m q = let K = kept T in (step_both A K.two s t K.near K.well K.well' K.held room e e' G G' m q).1

  -- two whole runs of events, laid side by side
  ends_together : (room : ℕ) (ms : List Moment) (s t : State) → Together A s t → Supposed A room s t ms
      → Together A (ending early room s (first_events ms)) (ending early room t (second_events ms))
  unfolding Supposed ending
  ends_together room [] s t T H = T
  ends_together room (in_both_runs e e' ∷ ms) s t T H = ends_together room ms _ _ (in_both T room e e' H.0 H.1 H.2 H.3) H.4
  ends_together room (in_first_alone e ∷ ms) s t T H = ends_together room ms _ t (in_first T room e H.0 H.1 H.2) H.3
  ends_together room (in_second_alone e ∷ ms) s t T H = ends_together room ms s _ (in_second T room e H.0 H.1 H.2) H.3

  pub two_runs : (room : ℕ) (x : Image) (ms : List Moment) → Supposed A room (started_state x) (started_state x) ms
      → SameOutside A (ending early room (started_state x) (first_events ms)) (ending early room (started_state x) (second_events ms))
  two_runs room x ms H = links_apart (ends_together room ms (started_state x) (started_state x) (begun x) H)

  -- a run in which nothing at all is done to A, beside one in which anything is that is allowed: a list of moments that are of both runs or of the first alone
  pub nothing_done : (room : ℕ) (x : Image) (ms : List Moment) → Supposed A room (started_state x) (started_state x) ms → second_events ms ≡ []
      → SameOutside A (ending early room (started_state x) (first_events ms)) (started_state x)
  unfolding ending
  nothing_done room x ms H e = rw e at (two_runs room x ms H)
