-- DEMAND 3: public calls after a start are the run in which each accepted group is carried out whole at its closing step. specs/Whole says what is the same.
use mathlib.Core.Path.{◌≡◌, refl, sym, ap, ap₂, ◌∙◌}
use mathlib.Core.Bool.{true, false}
use mathlib.Core.List.{List, [], ◌∷◌, map}
use mathlib.Core.Logic.{◌⊎◌, inl, inr}
use Prim.Native.Nat.{ℕ, ◌+◌, ◌≤◌, ◌<◌}
use lib.ListN.{length, get_or}
use Rattle.model.specs.Map.{Image, active_set, set_length}
use Rattle.bits.specs.Sets.{lane_count}
use Rattle.model.specs.Records.{stage_at, is_in_progress}
use Rattle.model.specs.View.{settings_at}
use Rattle.model.specs.State.{State}
use Rattle.model.specs.Work.{early, late}
use Rattle.model.specs.Start.{reset_state}
use Rattle.model.specs.Step.{event, read_count, Stepped, event_effect, step}
use Rattle.model.specs.Outcome.{Outcome, start_outcome, step_outcome}
use Rattle.model.specs.declared.answer.Answer.TheVariants.{Done}
use Rattle.model.specs.declared.event.Call.TheVariants.{Write}
use Rattle.model.specs.declared.event.Event.{Event}
use Rattle.laws.specs.Calls.{Called, outcome_at, outcomes, state_after}
use Rattle.laws.proofs.Reading.{step_reads}
use Rattle.laws_frames.specs.Frames.{is_reset}
use Rattle.laws_frames.proofs.Registers.{settings_at_same}
use Rattle.laws_step.proofs.Writing.{write-resets}
use Rattle.laws_sound.specs.Reached.{Accepted, StartDone, reached_by, along, through}
use Rattle.laws_sound.proofs.Starting.{start-blank, idle-lane}
use Rattle.laws_sound.proofs.Reached.{start_leaves, start-accepted, still_accepted, call_is_step}
use Rattle.laws_whole.specs.Whole.{whole_at, compared_by, hidden, SameState, ResetInBoth, Fresh, SameStep, SameOutcome, Reached, begun, then}
use Rattle.laws_whole.proofs.Agree.{alike_below, alike_above, alike-setting}
use Rattle.laws_whole.proofs.Events.{reset_same}
use Rattle.laws_whole.proofs.Runs.{same-state, both-step, reached_twin}
use Rattle.laws_whole.proofs.Buffers.{same-buffer, untouched_buffer}

-- ---- what two such states have in common

-- every byte outside 11h:206-234 is the same, whatever is in progress ..
pub whole-registers : {s a : State} → SameState s a → (i : ℕ) → (i < active_set) ⊎ (active_set + set_length ≤ i) → get_or s.image i 0 ≡ get_or a.image i 0
unfolding hidden
whole-registers S i (inl b) = alike_below _ _ _ S.image i b
whole-registers S i (inr b) = alike_above _ _ _ S.image i b

-- .. and so are the active settings of every lane that is not in progress
pub whole-settings : {s a : State} → SameState s a → (l : ℕ) → l < lane_count → is_in_progress (stage_at s.working l) ≡ false
    → settings_at active_set s.image l ≡ settings_at active_set a.image l
unfolding hidden
whole-settings {s} {a} S l b f = settings_at_same active_set a.image s.image l (λ k h.
    alike-setting (λ m. is_in_progress (stage_at s.working m)) s.image a.image S.image k l h b f)

-- ---- states that the two runs reach from one start by the same events

-- they have one working state; their images are alike but for active-setting bits of lanes in progress, and equal if no lane is
pub whole-states : {s a : State} → Reached s a → SameState s a
whole-states r = same-state _ _ (reached_twin r).paired

-- whatever event comes next: one answer, one commission mask, bytes read alike but for such bits, and such states again
pub whole_steps : {s a : State} → Reached s a → (room : ℕ) (e : Event) → SameStep s e.call (step early room s e) (step late room a e)
whole_steps {s} {a} r room e =
    let b = both-step room e s a (reached_twin r) in
    record { answer = b.answer; mask = b.mask; bytes = b.bytes; state = same-state _ _ b.paired }

-- ---- calls beside the comparison run

-- a state that calls reach, which is never refused, and its pair in the comparison run
record Beside (s a : State) : Type 0 where
  pub accepted : Accepted s
  pub reached : Reached s a

beside_start : (x : Image) → StartDone x → Beside (start_outcome x).state (start_outcome x).state
beside_start x d = rw (start_leaves x d) (record { accepted = start-accepted x d; reached = begun x })

module _ (s a : State) (c : Called) (B : Beside s a) where
  beside_next : Beside (outcome_at s c).state (whole_at a c).state
  unfolding step_outcome
  beside_next = rw (call_is_step s c B.accepted) (record {
    accepted = still_accepted (length c.buffer) s c.event B.accepted;
    reached = then B.reached (length c.buffer) c.event;
  })

  beside_outcome : SameOutcome s c (outcome_at s c) (whole_at a c)
  unfolding step_outcome
  beside_outcome =
      let S = whole_steps B.reached (length c.buffer) c.event in
      rw (call_is_step s c B.accepted) (record {
        answer = S.answer;
        mask = S.mask;
        buffer = elim (step_reads early s (length c.buffer) c.event) [
          | inl r ↦ same-buffer _ _ _ c.buffer S.bytes (read_count c.event.call) r.1
          | inr r ↦ untouched_buffer _ _ _ c.buffer S.bytes (read_count c.event.call) r.1
        ];
        state = S.state;
      })

beside_calls : (cs : List Called) (s a : State) → Beside s a → Beside (state_after s cs) (through whole_at a cs)
unfolding state_after through
beside_calls [] s a B = B
beside_calls (c ∷ cs) s a B = beside_calls cs _ _ (beside_next s a c B)

-- what is the same of every call is the same of all
beside_all : {A : Type 0} (f : Outcome → A) → ((s : State) (c : Called) (o p : Outcome) → SameOutcome s c o p → f o ≡ f p)
    → (cs : List Called) (s a : State) → Beside s a → map f (outcomes s cs) ≡ map f (along whole_at a cs)
unfolding outcomes along
beside_all f h [] s a B = refl
beside_all f h (c ∷ cs) s a B = ap₂ ◌∷◌ (h s c _ _ (beside_outcome s a c B)) (beside_all f h cs _ _ (beside_next s a c B))

-- ---- DEMAND 3: after a start that is done and any calls, each with any event and any buffer
module _ (x : Image) (d : StartDone x) (cs : List Called) where
  -- the states
  pub demand_3 : SameState (reached_by x cs) (compared_by x cs)
  demand_3 = whole-states (beside_calls cs _ _ (beside_start x d)).reached

  -- the call after them
  pub demand_3_next : (c : Called) → SameOutcome (reached_by x cs) c (outcome_at (reached_by x cs) c) (whole_at (compared_by x cs) c)
  demand_3_next c = beside_outcome _ _ c (beside_calls cs _ _ (beside_start x d))

  -- all answers, and all commission masks
  pub demand_3_answers : map (λ (o : Outcome). o.answer) (outcomes (start_outcome x).state cs) ≡ map (λ (o : Outcome). o.answer) (along whole_at (start_outcome x).state cs)
  demand_3_answers = beside_all (λ o. o.answer) (λ s c o p S. S.answer) cs _ _ (beside_start x d)

  pub demand_3_masks : map (λ (o : Outcome). o.mask) (outcomes (start_outcome x).state cs) ≡ map (λ (o : Outcome). o.mask) (along whole_at (start_outcome x).state cs)
  demand_3_masks = beside_all (λ o. o.mask) (λ s c o p S. S.mask) cs _ _ (beside_start x d)

-- ---- after a reset: one state in both runs, and nothing of what was under way

-- whatever state is reset
pub reset_fresh : (s : State) → Fresh (reset_state s)
unfolding reset_state
reset_fresh s = record { idle = idle-lane s.working.line; blank = start-blank s.image }

module _ (x : Image) (d : StartDone x) (cs : List Called) (address count : ℕ) (bytes buffer : List ℕ) where
  -- a write after the calls
  abbrev write : Called
  write = record { event = event (Write address count) bytes; buffer = buffer }

  -- a write does not look at the mode
  write-whole : (a : State) → step late (length buffer) a (event (Write address count) bytes) ≡ step early (length buffer) a (event (Write address count) bytes)
  unfolding step event_effect
  write-whole a = refl

  -- one that is done and resets the module
  pub demand_3_reset : is_reset bytes (Write address count) ≡ true → (outcome_at (reached_by x cs) write).answer ≡ Done
      → ResetInBoth (reached_by x cs) (outcome_at (reached_by x cs) write).state (whole_at (compared_by x cs) write).state
  unfolding step_outcome
  demand_3_reset r done =
      let s = reached_by x cs in
      let a = compared_by x cs in
      let B = beside_calls cs _ _ (beside_start x d) in
      let k = call_is_step s write B.accepted in
      let e = sym (ap (λ (o : Outcome). o.answer) k) ∙ done in
      let w = ap (λ (o : Stepped). o.answer) (sym (write-whole a)) ∙ sym (whole_steps B.reached (length buffer) (event (Write address count) bytes)).answer ∙ e in
      record {
        calls = ap (λ (o : Outcome). o.state) k ∙ write-resets (length buffer) s bytes address count e r;
        whole = ap (λ (o : Stepped). o.state) (write-whole a) ∙ write-resets (length buffer) a bytes address count w r ∙ reset_same s a (reached_twin B.reached).paired;
      }
