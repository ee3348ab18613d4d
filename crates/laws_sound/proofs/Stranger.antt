-- Two facts about sound lanes that every proof of an event rests on: groups share no lane, and no lane of a passing group is on a path outside it.
use Rattle.std.proofs.Common.{None, Some, Option}
use mathlib.Core.Path.{◌≡◌, refl, sym, ap, ◌∙◌}
use mathlib.Core.Bool.{true, false}
use Prim.Native.Nat.{ℕ, ◌<◌}
use native.Mathlib.Omega.{arith}
use lib.Dec.{ltb}
use borrow.Author.Tests.{ltb-true, ltb-false}
use Rattle.bits.specs.Sets.{has}
use Rattle.bits.proofs.Tests.{split, clash}
use Rattle.model.specs.Records.{is_in_progress, is_pass, is_passing}
use Rattle.model.specs.View.{of, application_in, app_sel, path_id, is_used, same_path, path_of, fills}
use Rattle.model.specs.Work.{written_settings}
use Rattle.model.specs.declared.lane.Verdict.{Verdict}
use Rattle.model.specs.declared.lane.Verdict.TheVariants.{Pass, Reject}
use Rattle.model.specs.declared.lane.Progress.{Progress}
use Rattle.laws_sound.specs.Sound.{Seen, held, Mate, InWhole, Passes, Sound}
use Rattle.laws_sound.proofs.Paths.{same_together, together_same, path_has, fills_first, fills_same, written_app, written_id, written_used}
use Rattle.laws_sound.proofs.Test.{not-copied}

-- ---- stages

pub not-idle : {s : Option Progress} {p : Progress} → s ≡ None → s ≡ Some p → ⊥
not-idle a b = let z : ◌≡◌ {A = ℕ} 0 1 = cc in omega arith

pub not-rejected : {v : Verdict} {n c : ℕ} → v ≡ Pass n → v ≡ Reject c → ⊥
not-rejected a b = let z : ◌≡◌ {A = ℕ} 0 1 = cc in omega arith

pub in_progress_lem : {s : Option Progress} {p : Progress} → s ≡ Some p → is_in_progress s ≡ true
unfolding is_in_progress
in_progress_lem e = ap is_in_progress e

pub is_passing_lem : {s : Option Progress} {p : Progress} {n : ℕ} → s ≡ Some p → p.verdict ≡ Pass n → is_passing s ≡ true
unfolding is_passing is_pass
is_passing_lem e q = ap is_passing e ∙ ap is_pass q

pub is_rejected : {s : Option Progress} {p : Progress} {c : ℕ} → s ≡ Some p → p.verdict ≡ Reject c → is_passing s ≡ false
unfolding is_passing is_pass
is_rejected e q = ap is_passing e ∙ ap is_pass q

-- a passing stage, taken apart
pub record Pass_of (s : Option Progress) : Type 0 where
  pub record_of_lem : Progress
  pub next : ℕ
  pub stage : s ≡ Some record_of_lem
  pub verdict : record_of_lem.verdict ≡ Pass next

pass_verdict : (p : Progress) (v : Verdict) → p.verdict ≡ v → is_pass v ≡ true → Pass_of (Some p)
unfolding is_pass
pass_verdict p (Pass n) e t = record { record_of_lem = p; next = n; stage = refl; verdict = e }
pass_verdict p (Reject c) e t = absurd (clash t refl)

pub passing_of : (s : Option Progress) → is_passing s ≡ true → Pass_of s
unfolding is_passing
passing_of None t = absurd (clash t refl)
passing_of (Some p) t = pass_verdict p p.verdict refl t

pub idle_passing : (s : Option Progress) → is_in_progress s ≡ false → is_passing s ≡ false
unfolding is_in_progress is_passing
idle_passing None e = refl
idle_passing (Some p) e = absurd (clash refl e)

-- the records of two lanes of one group are the same, but for what they hold
pub record Same-group (p q : Progress) : Type 0 where
  pub group : q.group ≡ p.group
  pub trigger : q.trigger ≡ p.trigger
  pub set : q.set ≡ p.set
  pub verdict : q.verdict ≡ p.verdict

module _ (o : Seen) (S : Sound o) where
  -- ---- groups

  pub own : (l : ℕ) (p : Progress) → l < 8 → o.stage l ≡ Some p → has p.group l ≡ true
  own l p b e = (S.grouped l p b e).own

  pub in_group_lem : (l m : ℕ) (p q : Progress) → l < 8 → m < 8 → o.stage l ≡ Some p → o.stage m ≡ Some q → has p.group m ≡ true → Same-group p q
  in_group_lem l m p q b bm e f i =
      let M : Mate p (o.stage m) = (S.grouped l p b e).mate m bm i in
      let r : M.its ≡ q = cc in
      record {
        group = ap (λ (z : Progress). z.group) (sym r) ∙ M.group;
        trigger = ap (λ (z : Progress). z.trigger) (sym r) ∙ M.trigger;
        set = ap (λ (z : Progress). z.set) (sym r) ∙ M.set;
        verdict = ap (λ (z : Progress). z.verdict) (sym r) ∙ M.verdict;
      }

  -- a lane outside a group has no lane of it in its own
  pub groups-apart : (l m k : ℕ) (p q : Progress) → l < 8 → m < 8 → k < 8 → o.stage l ≡ Some p → o.stage m ≡ Some q
      → has p.group m ≡ false → has q.group k ≡ true → has p.group k ≡ false
  groups-apart l m k p q b bm bk e f n i = split (has p.group k)
      (λ j. let M : Mate p (o.stage k) = (S.grouped l p b e).mate k bk j in
      let r = in_group_lem m k q M.its bm bk f M.stage i in
      let eg : q.group ≡ p.group = sym r.group ∙ M.group in
      absurd (clash (ap (λ z. has z m) (sym eg) ∙ own m q bm f) n))
      (λ j. j)

  -- ---- passing groups and paths

  -- what a lane of a passing group has active names a whole path that is the group
  pub now_fills : (m n : ℕ) (p : Progress) → m < 8 → o.stage m ≡ Some p → p.verdict ≡ Pass n → is_used (of o.active m) ≡ true
      → fills (application_in o.applications (app_sel (of o.active m))) (path_id (of o.active m)) p.group ≡ true
  now_fills m n p b e q u =
      let P : Passes o p.group n = S.passes m n p b e q in
      let i : has p.group m ≡ true = own m p b e in
      split (ltb m n)
      (λ t. let c : of o.active m ≡ written_settings (held o m) = P.copied m b i (ltb-true m n t) in
      let uh : is_used (held o m) ≡ true = sym (written_used (held o m)) ∙ ap is_used (sym c) ∙ u in
      rw (c, written_app (held o m) uh, written_id (held o m) uh) (P.purpose.whole m b i uh))
      (λ t. P.remain.whole m b (not-copied p.group n m i (ltb-false m n t)) u)

  on-own_path : (l : ℕ) → l < 8 → is_used (of o.active l) ≡ true → has (path_of o.active l) l ≡ true
  on-own_path l b u = path_has o.active l l b ∙ together_same o.active l l u u refl

  -- THE LEMMA: a lane of a passing group is on no path of a lane outside the passing groups
  pub stranger : (l m n : ℕ) (p : Progress) → l < 8 → is_passing (o.stage l) ≡ false → m < 8 → o.stage m ≡ Some p → p.verdict ≡ Pass n
      → same_path o.active l m ≡ false
  stranger l m n p b f bm e q = split (same_path o.active l m) (λ s. absurd (no_way s)) (λ s. s)
    where
      no_way : same_path o.active l m ≡ true → ⊥
      no_way s =
          let t = same_together o.active l m s in
          let W : InWhole o l = S.used l b f t.one in
          let now : fills (application_in o.applications (app_sel (of o.active l))) (path_id (of o.active l)) p.group ≡ true
          = rw (W.alike m bm s, ← t.id) at (now_fills m n p bm e q t.other) in
          let eg : p.group ≡ path_of o.active l = fills_same _ _ _ _ now W.whole in
          let M : Mate p (o.stage l) = (S.grouped m p bm e).mate l b (ap (λ z. has z l) eg ∙ on-own_path l b t.one) in
          clash (is_passing_lem M.stage (M.verdict ∙ q)) f

  -- the lane that a path's id names is on it
  pub home : (l : ℕ) → l < 8 → is_passing (o.stage l) ≡ false → is_used (of o.active l) ≡ true
      → (path_id (of o.active l) < 8) × (same_path o.active l (path_id (of o.active l)) ≡ true)
  home l b f u =
      let W : InWhole o l = S.used l b f u in
      let r = fills_first _ _ _ l W.whole b (on-own_path l b u) in
      (r.0, sym (path_has o.active l _ r.0) ∙ r.1)

  -- so a path outside the passing groups does not have the id of a lane in one
  pub home_free : (l n i : ℕ) (p : Progress) → l < 8 → is_passing (o.stage l) ≡ false → is_used (of o.active l) ≡ true
      → path_id (of o.active l) ≡ i → o.stage i ≡ Some p → p.verdict ≡ Pass n → ⊥
  home_free l n i p b f u e s q =
      let r = home l b f u in
      let bi : i < 8 = rw e at r.0 in
      clash (rw e at r.1) (stranger l i n p b f bi s q)
