-- What is known of a group holds for each of its lanes; which lanes are planned, and planning lane by lane. Assumes nothing.
use Rattle.std.proofs.Common.{None, Some, Option}
use mathlib.Core.Path.{◌≡◌, refl, sym, ap, ◌∙◌}
use mathlib.Core.Bool.{Bool, true, false, not}
use Prim.Native.Nat.{ℕ, zero, suc, ◌+◌, ◌≤◌, ◌<◌}
use native.Mathlib.Numerals.{add-one}
use native.Mathlib.Omega.{arith}
use borrow.Author.Tests.{not-true}
use mir.Val.{bool_byte}
use lib.ListN.{set}
use Rattle.bits.specs.Choice.{pick, both}
use Rattle.bits.specs.Loop.{each, tab}
use Rattle.bits.specs.Number.{with_field}
use Rattle.bits.specs.Sets.{has, mask_of, next_in, lane_count, some_in}
use Rattle.bits.proofs.Loops.{each_begin, each_turn, each_pass}
use Rattle.bits.proofs.Masks.{mask_lt, next_skips, next_bound}
use Rattle.bits.proofs.Number.{back, field_past}
use Rattle.bits.proofs.Tests.{pick-false}
use Rattle.bits.proofs.Turns.{mask_begin, mask_turn}
use Rattle.view_settings.proofs.View.{settings-of}
use Rattle.model.specs.Map.{Image, staged_base}
use Rattle.model.specs.Records.{progress_of}
use Rattle.model.specs.View.{View, settings_at, view_of}
use Rattle.model.specs.Groups.{group_of}
use Rattle.model.specs.Verdicts.{verdict_of}
use Rattle.model.specs.Triggers.{marked_stage}
use Rattle.model.specs.declared.lane.Trigger.{Trigger}
use Rattle.model.specs.declared.lane.StagedSet.{StagedSet}
use Rattle.model.specs.declared.lane.Verdict.{Verdict}
use Rattle.model.specs.declared.lane.Verdict.TheVariants.{Pass}
use Rattle.model.specs.declared.lane.Progress.{Progress}
use Rattle.apply_plans.specs.declared.Found.{Found}
use Rattle.apply_plans.specs.declared.Given.{Given}
use Rattle.apply_plans.specs.declared.Planned.{Planned}
use Rattle.apply_plans.specs.Plans.{known_of, found_for, is_planned, given, Plans}
use Rattle.apply_plans.proofs.Groups.{group-same}

-- ---- groups

module _ (t : Trigger) (v : View) (busy l g : ℕ) where
  pub known_busy : some_in g (has busy) ≡ true → record { lane = l; group = g; verdict = None } ≡ known_of t v busy l g
  unfolding known_of pick
  known_busy e = rw (e, pick)

  pub known_free : (d : Verdict) → some_in g (has busy) ≡ false → d ≡ verdict_of t v g → record { lane = l; group = g; verdict = Some d } ≡ known_of t v busy l g
  unfolding known_of pick
  known_free d e p = rw (e, pick, p)

-- what was found last serves each lane of its group
pub found_again : (t : Trigger) (v : View) (busy selected l : ℕ) (f : Found) → f ≡ found_for t v busy selected f.lane → has f.group l ≡ true → l < lane_count
    → record { lane = l; group = f.group; verdict = f.verdict } ≡ found_for t v busy selected l
unfolding found_for known_of
found_again t v busy selected l f e h b =
    let g : f.group ≡ group_of v selected f.lane = ap (λ q. q.group) e in
    let s : group_of v selected l ≡ group_of v selected f.lane = group-same v selected f.lane l (rw g at h) b in
    λ i. record { lane = l; group = (g ∙ sym s) i; verdict = (ap (λ q. q.verdict) e ∙ ap (λ q. pick (some_in q (has busy)) None (Some (verdict_of t v q))) (sym s)) i }

-- what was found of a lane names it
pub found_own : (t : Trigger) (v : View) (busy selected l : ℕ) (f : Found) → f ≡ found_for t v busy selected l → f ≡ found_for t v busy selected f.lane
unfolding found_for known_of
found_own t v busy selected l f e = e ∙ ap (found_for t v busy selected) (sym (ap (λ q. q.lane) e))

-- ---- lane by lane

pub unselected : (v : View) (busy selected l : ℕ) → has selected l ≡ false → is_planned v busy selected l ≡ false
unfolding is_planned both
unselected v busy selected l e = rw (e, both)

-- a group without a verdict has a lane in progress, and one with a verdict has none
no_verdict : (b : Bool) (d : Verdict) → pick b None (Some d) ≡ None → not b ≡ false
unfolding pick
no_verdict true d e = refl
no_verdict false d e = absurd (cc)

a_verdict : (b : Bool) (d u : Verdict) → pick b None (Some d) ≡ Some u → (b ≡ false) × (d ≡ u)
unfolding pick
a_verdict true d u e = absurd (cc)
a_verdict false d u e = (refl, cc)

pub selected_busy : (t : Trigger) (v : View) (busy selected l : ℕ) (f : Found) → has selected l ≡ true → f ≡ found_for t v busy selected l
    → f.verdict ≡ None → is_planned v busy selected l ≡ false
unfolding is_planned both found_for known_of
selected_busy t v busy selected l f e h p = rw (e, both) (no_verdict _ _ (sym (ap (λ q. q.verdict) h) ∙ p))

pub selected_free : (t : Trigger) (v : View) (busy selected l : ℕ) (f : Found) (u : Verdict) → has selected l ≡ true → f ≡ found_for t v busy selected l
    → f.verdict ≡ Some u → is_planned v busy selected l ≡ true
unfolding is_planned both found_for known_of
selected_free t v busy selected l f u e h p = rw (e, both) (ap not (a_verdict _ _ u (sym (ap (λ q. q.verdict) h) ∙ p)).0)

-- nothing planned yet
abbrev pub none : Planned
none = record { marked = 0; given = tab lane_count (λ l. given None) }

mask_pass : (p : ℕ → Bool) (n : ℕ) → p n ≡ false → mask_of n p ≡ mask_of (n + 1) p
unfolding mask_of
mask_pass p n e =
    rw (add-one n, e)
    (sym (rw (field_past (mask_of n p) n n 1 (mask_lt n p) (omega arith)) at (back (mask_of n p) n 1)))

module _ (t : Trigger) (staged : StagedSet) (x : Image) (busy selected : ℕ) where
  abbrev base : ℕ
  base = staged_base staged

  abbrev v : View
  v = view_of base x

  plan_begin : Plans t staged v busy selected 0 none
  plan_begin = record { marked = mask_begin _; given = each_begin _ _ _ }

  module _ (n : ℕ) (p : Planned) where
    pub plan_pass : is_planned v busy selected n ≡ false → Plans t staged v busy selected n p → Plans t staged v busy selected (n + 1) p
    plan_pass e h =
        record {
          marked = h.marked ∙ mask_pass _ n e;
          given = each_pass _ _ n _ p.given h.given e;
        }

    -- the stage that a planned lane is given
    stage_by : (f : Found) (own : Option Progress) (u : Verdict) → n < lane_count → f ≡ found_for t v busy selected n → f.verdict ≡ Some u
        → own ≡ Some (progress_of t staged f.group (settings_at base x n) u) → own ≡ marked_stage t staged v selected n
    unfolding marked_stage view_of found_for known_of
    stage_by f own u b h e r =
        let g : f.group ≡ group_of v selected n = ap (λ q. q.group) h in
        let d : verdict_of t v (group_of v selected n) ≡ u = (a_verdict _ _ u (sym (ap (λ q. q.verdict) h) ∙ e)).1 in
        rw (r, ← d, g, settings-of base x n b)

    pub plan_turn : (f : Found) (own : Option Progress) (u : Verdict) (k : ℕ) → n < lane_count → is_planned v busy selected n ≡ true → Plans t staged v busy selected n p
        → f ≡ found_for t v busy selected n → f.verdict ≡ Some u
        → own ≡ Some (progress_of t staged f.group (settings_at base x n) u) → k ≡ with_field p.marked n 1 (bool_byte true)
        → Plans t staged v busy selected (n + 1) (record { marked = k; given = set p.given n (given own) })
    plan_turn f own u k b e h q r s z =
        record {
          marked = mask_turn _ n p.marked k true h.marked (sym e) z;
          given = rw (stage_by f own u b q r s) (each_turn _ _ n _ p.given h.given e);
        }

  -- lanes that are not to be marked, from the first on
  plan_skip : (n : ℕ) → ((l : ℕ) → l < n → is_planned v busy selected l ≡ false) → Plans t staged v busy selected n none
  plan_skip zero h = plan_begin
  plan_skip (suc n) h = rw (add-one n) at (plan_pass n none (h n (omega arith)) (plan_skip n (λ l b. h l (omega arith))))

  -- up to the first selected lane there are none
  pub plan_first : (first : ℕ) → first ≡ next_in lane_count selected 0 → Plans t staged v busy selected first none
  plan_first first e = plan_skip first (λ l b. unselected v busy selected l (next_skips lane_count selected 0 l (omega arith) (rw e at b)))

  pub plan_empty : (first : ℕ) → first ≡ next_in lane_count selected 0 → lane_count ≤ first → Plans t staged v busy selected lane_count none
  plan_empty first e h =
      let all : first ≡ lane_count = omega (arith, e, next_bound lane_count selected 0 (omega arith)) in
      rw all at (plan_first first e)
