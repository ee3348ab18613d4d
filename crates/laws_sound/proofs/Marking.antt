-- A trigger marks groups: soundness stays, over what it looks at. Assumes nothing.
use Rattle.std.proofs.Common.{Some, Option}
use mathlib.Core.Path.{◌≡◌, refl, sym, ap, ◌∙◌}
use mathlib.Core.Bool.{true, false}
use mathlib.Core.Logic.{inl, inr}
use Prim.Native.Nat.{ℕ, ◌<◌}
use native.Mathlib.Omega.{arith}
use lib.Dec.{eqb}
use borrow.Author.Tests.{eqb-true, eq-eqb, le-leb, not-true}
use Rattle.bits.specs.Choice.{pick}
use Rattle.bits.specs.Sets.{has, first_in}
use Rattle.bits.proofs.Tests.{split, clash, both_l, both_r, both_i, either_cases, bool_eq, pick_true, pick-false}
use Rattle.bits.proofs.Loops.{any_none}
use Rattle.bits.proofs.Masks.{mask_ext, first_in_lem, next_skips}
use Rattle.model.specs.Statuses.{in_progress}
use Rattle.model.specs.PathStates.{state_of, resting}
use Rattle.model.specs.Records.{stage_at, is_in_progress, is_passing, held_in, any_in_progress, progress_of}
use Rattle.model.specs.View.{View, of, state_in, is_used, same_path, path_of, fills}
use Rattle.model.specs.Groups.{in_group, group_of}
use Rattle.model.specs.Verdicts.{deactivated, verdict_of}
use Rattle.model.specs.Triggers.{is_marked, marked_stage, stage_after}
use Rattle.model.specs.declared.lane.Trigger.{Trigger}
use Rattle.model.specs.declared.lane.StagedSet.{StagedSet}
use Rattle.model.specs.declared.lane.Verdict.TheVariants.{Pass}
use Rattle.model.specs.declared.lane.Progress.{Progress}
use Rattle.model.specs.declared.lane.Working.{Working}
use Rattle.laws_sound.specs.Sound.{Seen, held, Mate, Grouped, OnePath, Passes, Sound}
use Rattle.laws_frames.specs.Frames.{Fits}
use Rattle.laws_sound.proofs.Paths.{same_together, same_sym, same_trans, path_has}
use Rattle.laws_sound.proofs.Test.{copied-not, one_fewer, one_none}
use Rattle.laws_sound.proofs.Stranger.{in_progress_lem, idle_passing}
use Rattle.laws_sound.proofs.Groups.{in_used, in_unused, group-same, group_selected, group_self, from_first, group_ext, fair, apply_pass, release_pass, released_path}

-- ---- which lanes are marked
module _ (v : View) (w : Working) (sel : ℕ) where
  marked_selected : (l : ℕ) → is_marked v w sel l ≡ true → has sel l ≡ true
  unfolding is_marked
  marked_selected l e = both_l _ _ e

  marked_free : (l m : ℕ) → is_marked v w sel l ≡ true → m < 8 → has (group_of v sel l) m ≡ true → is_in_progress (stage_at w m) ≡ false
  unfolding is_marked any_in_progress
  marked_free l m e b i = split (is_in_progress (stage_at w m))
      (λ y. absurd (clash (both_i i y) (any_none 8 _ (not-true _ (both_r _ _ e)) m b)))
      (λ y. y)

  marked-idle : (l : ℕ) → l < 8 → is_marked v w sel l ≡ true → is_in_progress (stage_at w l) ≡ false
  marked-idle l b e = marked_free l l e b (group_self v sel l b (marked_selected l e))

  -- a group is marked whole
  marked-mate : (l m : ℕ) → is_marked v w sel l ≡ true → m < 8 → has (group_of v sel l) m ≡ true → is_marked v w sel m ≡ true
  unfolding is_marked
  marked-mate l m e b i = both_i (group_selected v sel l m b i) (rw (group-same v sel l m b i) (both_r _ _ e))

  busy_unmarked : (l : ℕ) → l < 8 → is_in_progress (stage_at w l) ≡ true → is_marked v w sel l ≡ false
  busy_unmarked l b y = split (is_marked v w sel l) (λ e. absurd (clash y (marked-idle l b e))) (λ e. e)

-- the record that a marked lane gets
record Marked (t : Trigger) (staged : StagedSet) (v : View) (sel l : ℕ) (p : Progress) : Type 0 where
  pub group : p.group ≡ group_of v sel l
  pub held : p.held ≡ of v.staged l
  pub trigger : p.trigger ≡ t
  pub set : p.set ≡ staged
  pub verdict : p.verdict ≡ verdict_of t v (group_of v sel l)

marked_record : (t : Trigger) (set : StagedSet) (v : View) (sel l : ℕ) (p : Progress) → marked_stage t set v sel l ≡ Some p → Marked t set v sel l p
unfolding marked_stage
marked_record t set v sel l p e =
    let r : p ≡ progress_of t set (group_of v sel l) (of v.staged l) (verdict_of t v (group_of v sel l)) = cc in
    record {
      group = ap (λ (z : Progress). z.group) r;
      held = ap (λ (z : Progress). z.held) r;
      trigger = ap (λ (z : Progress). z.trigger) r;
      set = ap (λ (z : Progress). z.set) r;
      verdict = ap (λ (z : Progress). z.verdict) r;
    }

marked-held : (t : Trigger) (set : StagedSet) (v : View) (sel l : ℕ) → held_in (marked_stage t set v sel l) ≡ of v.staged l
unfolding marked_stage held_in
marked-held t set v sel l = refl

marked_in_progress : (t : Trigger) (set : StagedSet) (v : View) (sel l : ℕ) → is_in_progress (marked_stage t set v sel l) ≡ true
unfolding marked_stage is_in_progress
marked_in_progress t set v sel l = refl

marked_is_mate : (t : Trigger) (set : StagedSet) (v : View) (sel l m : ℕ) (p : Progress) → Marked t set v sel l p → group_of v sel m ≡ group_of v sel l → Mate p (marked_stage t set v sel m)
unfolding marked_stage
marked_is_mate t set v sel l m p K e = record {
  its = progress_of t set (group_of v sel m) (of v.staged m) (verdict_of t v (group_of v sel m));
  stage = refl;
  group = e ∙ sym K.group;
  trigger = sym K.trigger;
  set = sym K.set;
  verdict = ap (verdict_of t v) e ∙ sym K.verdict;
}

one-rests : (n : ℕ) → n ≡ deactivated → resting (state_of n) ≡ true
unfolding state_of resting pick
one-rests n e = rw e

-- ---- the trigger
module _ (t : Trigger) (set : StagedSet) (v : View) (w : Working) (sel : ℕ) (cs pd : ℕ → ℕ)
    (S : Sound (record { stage = stage_at w; active = v.active; states = v.states; applications = v.applications; status = cs; pending = pd })) where
  abbrev o : Seen
  o = record { stage = stage_at w; active = v.active; states = v.states; applications = v.applications; status = cs; pending = pd }

  -- ---- a group that is marked and passes, given by one of its lanes
  module _ (l n : ℕ) (b : l < 8) (k : is_marked v w sel l ≡ true) (ev : verdict_of t v (group_of v sel l) ≡ Pass n) where
    abbrev g : ℕ
    g = group_of v sel l

    abbrev first : ℕ
    first = first_in g

    first_lane : (first < 8) × (has g first ≡ true)
    first_lane = first_in_lem 8 g 0 l (omega arith) b (group_self v sel l b (marked_selected v w sel l k))

    with_first : (m : ℕ) → m < 8 → has g m ≡ true → in_group v sel first m ≡ true
    with_first m bm i = from_first v sel l m b bm (marked_selected v w sel l k) i

    free : (m : ℕ) → m < 8 → has g m ≡ true → is_passing (stage_at w m) ≡ false
    free m bm i = idle_passing (stage_at w m) (marked_free v w sel l m k bm i)

    -- the staged settings make a whole path of exactly the group, or release it
    staged_path : OnePath v.applications (of v.staged) (has g) g
    unfolding fills
    staged_path = split (is_used (of v.staged first))
        (λ u. let A = apply_pass t v g n ev u in record {
          alike = λ m j bm bj i ij um. (
            A.alike j bj ij ∙ sym (A.alike m bm i),
            sym (in_used v sel first j (with_first j bj ij) u).1 ∙ (in_used v sel first m (with_first m bm i) u).1,
          );
          whole = λ m bm i um. rw (A.alike m bm i, ← (in_used v sel first m (with_first m bm i) u).1, A.found)
              (both_i A.allowed (both_i (le-leb _ _ A.room) (eq-eqb _ _ (group_ext v sel l _ A.exact))));
        })
        (λ u. one_none _ _ _ _ (λ m bm i. (in_unused v sel first m (with_first m bm i) u).0))

    -- a used lane's active path is the group
    own_path : (m : ℕ) → m < 8 → has g m ≡ true → is_used (of v.active m) ≡ true → path_of v.active m ≡ g
    unfolding path_of
    own_path m bm i um = split (is_used (of v.staged first))
        (λ u. (apply_pass t v g n ev u).own_path m bm i um)
        (λ u. elim (either_cases _ _ (in_unused v sel first m (with_first m bm i) u).1) [
          | inl e ↦ let q : first ≡ m = eqb-true _ _ e in
              rw (← q) (released_path t v g n (rw q um) (release_pass t v g n ev u)).0
          | inr s ↦ mask_ext 8 _ _ (λ j bj. same-lanes m j s) ∙ (released_path t v g n (same_together v.active first m s).one (release_pass t v g n ev u)).0
        ])
      where
        same-lanes : (m j : ℕ) → same_path v.active first m ≡ true → same_path v.active m j ≡ same_path v.active first j
        same-lanes m j s = bool_eq _ _ (same_trans v.active first m j s) (same_trans v.active m first j (same_sym v.active first m s))

    path_lane : (m j : ℕ) → m < 8 → j < 8 → has g m ≡ true → has g j ≡ true → is_used (of v.active m) ≡ true → same_path v.active m j ≡ true
    path_lane m j bm bj i ij u = sym (path_has v.active m j bj) ∙ ap (λ z. has z j) (own_path m bm i u) ∙ ij

    active_path : OnePath v.applications (of v.active) (has g) g
    active_path = record {
      alike = λ m j bm bj i ij u. let s = path_lane m j bm bj i ij u in
          ((S.used m bm (free m bm i) u).alike j bj s, sym (same_together v.active m j s).id);
      whole = λ m bm i u. rw (own_path m bm i u) at (S.used m bm (free m bm i) u).whole;
    }

    agree : (m j : ℕ) → m < 8 → j < 8 → has g m ≡ true → has g j ≡ true → state_in v.states m ≡ state_in v.states j
    agree m j bm bj i ij = split (is_used (of v.active m))
        (λ u. sym ((S.used m bm (free m bm i) u).agree j bj (path_lane m j bm bj i ij u)))
        (λ u. split (is_used (of v.active j))
        (λ y. (S.used j bj (free j bj ij) y).agree m bm (path_lane j m bj bm ij i y))
        (λ y. (S.unused m bm (free m bm i) u).state ∙ sym (S.unused j bj (free j bj ij) y).state))

    -- a release passes in DPDeactivated alone
    release-state : is_used (of v.staged first) ≡ false → state_in v.states first ≡ deactivated
    release-state u = split (is_used (of v.active first))
        (λ y. (released_path t v g n y (release_pass t v g n ev u)).1)
        (λ y. (S.unused first first_lane.0 (free first first_lane.0 first_lane.1) y).state)

    first_rests : resting (state_of (state_in v.states first)) ≡ true
    first_rests = split (is_used (of v.staged first))
        (λ u. (apply_pass t v g n ev u).rests)
        (λ u. one-rests _ (release-state u))

    release : (m : ℕ) → m < 8 → has g m ≡ true → is_used (of v.staged m) ≡ false → state_in v.states m ≡ deactivated
    release m bm i u = agree m first bm first_lane.0 i first_lane.1
        ∙ release-state (split (is_used (of v.staged first))
        (λ y. absurd (clash (in_used v sel first m (with_first m bm i) y).0 u)) (λ y. y))

  -- ---- the lanes after it
  module _ (st : ℕ → Option Progress) (cs' : ℕ → ℕ)
      (new : (l : ℕ) → l < 8 → st l ≡ stage_after t set v w sel l)
      (status_in : (l : ℕ) → l < 8 → is_marked v w sel l ≡ true → cs' l ≡ in_progress)
      (status-out : (l : ℕ) → l < 8 → is_marked v w sel l ≡ false → cs' l ≡ cs l)
      (staged-fits : (l : ℕ) → l < 8 → Fits (of v.staged l)) where
    marks : (l : ℕ) → l < 8 → is_marked v w sel l ≡ true → st l ≡ marked_stage t set v sel l
    unfolding stage_after
    marks l b k = new l b ∙ pick_true _ _ k

    keeps : (l : ℕ) → l < 8 → is_marked v w sel l ≡ false → st l ≡ stage_at w l
    unfolding stage_after
    keeps l b k = new l b ∙ pick-false _ _ k

    came : {P : Type 0} (l : ℕ) (p : Progress) → l < 8 → st l ≡ Some p
        → (is_marked v w sel l ≡ true → Marked t set v sel l p → P) → (is_marked v w sel l ≡ false → stage_at w l ≡ Some p → P) → P
    came l p b e f h = split (is_marked v w sel l)
        (λ k. f k (marked_record t set v sel l p (sym (marks l b k) ∙ e)))
        (λ k. h k (sym (keeps l b k) ∙ e))

    was : (l : ℕ) → l < 8 → is_passing (st l) ≡ false → is_passing (stage_at w l) ≡ false
    was l b f = split (is_marked v w sel l)
        (λ k. idle_passing (stage_at w l) (marked-idle v w sel l b k))
        (λ k. ap is_passing (sym (keeps l b k)) ∙ f)

    -- a lane of a group in progress already is as it was
    kept-mate : (l m : ℕ) (p : Progress) → l < 8 → m < 8 → stage_at w l ≡ Some p → has p.group m ≡ true → st m ≡ stage_at w m
    kept-mate l m p b bm e i = let M : Mate p (stage_at w m) = (S.grouped l p b e).mate m bm i in
        keeps m bm (busy_unmarked v w sel m bm (in_progress_lem M.stage))

    abbrev o' : Seen
    o' = record { stage = st; active = v.active; states = v.states; applications = v.applications; status = cs'; pending = pd }

    told-after : (l : ℕ) → l < 8 → eqb (cs' l) in_progress ≡ is_in_progress (st l)
    told-after l b = split (is_marked v w sel l)
        (λ k. rw (status_in l b k, marks l b k) (sym (marked_in_progress t set v sel l)))
        (λ k. rw (status-out l b k, keeps l b k) (S.told l b))

    new_grouped : (l : ℕ) (p : Progress) → l < 8 → is_marked v w sel l ≡ true → Marked t set v sel l p → Grouped o' l p
    new_grouped l p b k K = record {
      own = rw K.group (group_self v sel l b (marked_selected v w sel l k));
      mate = λ m bm i. let j : has (group_of v sel l) m ≡ true = rw K.group at i in
          rw (marks m bm (marked-mate v w sel l m k bm j)) (marked_is_mate t set v sel l m p K (group-same v sel l m bm j));
      fits = rw K.held (staged-fits l b);
      code = λ c q. (fair t v (group_of v sel l)).code c (sym K.verdict ∙ q);
      next = λ n q. let e : n ≡ first_in (group_of v sel l) = (fair t v (group_of v sel l)).next n (sym K.verdict ∙ q) in
          let f = first_in_lem 8 (group_of v sel l) 0 l (omega arith) b (group_self v sel l b (marked_selected v w sel l k)) in
          rw (e, K.group) (omega (arith, f.0), λ h. f.1);
    }

    new_passes : (l n : ℕ) (p : Progress) → l < 8 → is_marked v w sel l ≡ true → Marked t set v sel l p → p.verdict ≡ Pass n → Passes o' (group_of v sel l) n
    new_passes l n p b k K q = record {
      purpose = one_fewer _ (of v.staged) _ _ _ _ (λ m bm i. (i, sym (holds m bm i))) (staged_path l n b k ev);
      agree = agree l n b k ev;
      rests = λ m bm i. let f = first_lane l n b k ev in rw (agree l n b k ev m _ bm f.0 i f.1) (first_rests l n b k ev);
      release = λ m bm i u. release l n b k ev m bm i (rw (holds m bm i) at u);
      copied = λ m bm i h. absurd (clash i (next_skips 8 (group_of v sel l) 0 m (omega arith) (rw at_first_lem at h)));
      remain = one_fewer _ (of v.active) _ _ _ _ (λ m bm c. ((copied-not (group_of v sel l) n m c).0, refl)) (active_path l n b k ev);
    }
      where
        ev : verdict_of t v (group_of v sel l) ≡ Pass n
        ev = sym K.verdict ∙ q

        at_first_lem : n ≡ first_in (group_of v sel l)
        at_first_lem = (fair t v (group_of v sel l)).next n ev

        holds : (m : ℕ) → m < 8 → has (group_of v sel l) m ≡ true → held_in (st m) ≡ of v.staged m
        holds m bm i = ap held_in (marks m bm (marked-mate v w sel l m k bm i)) ∙ marked-held t set v sel m

    old_passes : (l n : ℕ) (p : Progress) → l < 8 → stage_at w l ≡ Some p → p.verdict ≡ Pass n → Passes o' p.group n
    old_passes l n p b e q =
        let P : Passes o p.group n = S.passes l n p b e q in
        record {
          purpose = one_fewer _ (held o) _ _ _ _ (λ m bm i. (i, ap held_in (sym (kept-mate l m p b bm e i)))) P.purpose;
          agree = P.agree;
          rests = P.rests;
          release = λ m bm i u. P.release m bm i (rw (kept-mate l m p b bm e i) at u);
          copied = λ m bm i h. rw (kept-mate l m p b bm e i) (P.copied m bm i h);
          remain = P.remain;
        }

    pub marking : Sound o'
    marking = record {
      told = told-after;
      grouped = λ l p b e. came l p b e (λ k K. new_grouped l p b k K) (λ k e'. let G = S.grouped l p b e' in record {
        own = G.own;
        mate = λ m bm i. rw (kept-mate l m p b bm e' i) (G.mate m bm i);
        fits = G.fits;
        code = G.code;
        next = G.next;
      });
      used = λ l b f u. let W = S.used l b (was l b f) u in record { alike = W.alike; whole = W.whole; agree = W.agree; low = W.low; high = W.high };
      unused = λ l b f u. let R = S.unused l b (was l b f) u in record { state = R.state; pending = R.pending };
      passes = λ l n p b e q. came l p b e (λ k K. rw K.group (new_passes l n p b k K q)) (λ k e'. old_passes l n p b e' q);
    }
