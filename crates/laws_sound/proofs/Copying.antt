-- A work step copies a lane: soundness stays, over what it looks at. Assumes nothing.
use Rattle.std.proofs.Common.{None, Some, Option}
use mathlib.Core.Path.{◌≡◌, refl, sym, ap, ◌∙◌}
use mathlib.Core.Bool.{true, false}
use mathlib.Core.List.{List}
use mathlib.Core.Logic.{◌≢◌}
use Prim.Native.Nat.{ℕ, suc, ◌<◌}
use native.Mathlib.Decide.{ℕ_discrete, dec_lt}
use native.Mathlib.Omega.{arith}
use Rattle.bits.specs.Sets.{has, next_in}
use Rattle.bits.proofs.Tests.{split, clash}
use Rattle.bits.proofs.Masks.{mask_ext, next_le, next_bound, next_skips, next_in_lem}
use Rattle.model.specs.Records.{is_in_progress, is_pass, is_passing, held_in, progress_with, with_verdict}
use Rattle.model.specs.View.{of, path_id, is_used, same_path, path_of}
use Rattle.model.specs.Work.{written_settings}
use Rattle.model.specs.Sound.{not_copied}
use Rattle.model.specs.declared.lane.Settings.{Settings}
use Rattle.model.specs.declared.lane.Verdict.{Verdict}
use Rattle.model.specs.declared.lane.Verdict.TheVariants.{Pass}
use Rattle.model.specs.declared.lane.Progress.{Progress}
use Rattle.laws_sound.specs.Sound.{Seen, held, Mate, Grouped, InWhole, AtRest, OnePath, Passes, Sound}
use Rattle.laws_sound.proofs.Paths.{Together, same_together, fills_first, written_id, written_used}
use Rattle.laws_sound.proofs.Test.{not-copied, copied-not, one_fewer, one_ext}
use Rattle.laws_sound.proofs.Stranger.{not-rejected, in_group_lem, groups-apart, stranger, home_free}

-- ---- a stage with another verdict

-- the record p is the record q with verdict u
pub record Turned (q p : Progress) (u : Verdict) : Type 0 where
  pub group : p.group ≡ q.group
  pub held : p.held ≡ q.held
  pub trigger : p.trigger ≡ q.trigger
  pub set : p.set ≡ q.set
  pub verdict : p.verdict ≡ u

turned : (s : Option Progress) (p : Progress) (u : Verdict) → with_verdict s u ≡ Some p → (q : Progress) × (s ≡ Some q) × Turned q p u
unfolding with_verdict
turned None p u e = let z : ◌≡◌ {A = ℕ} 0 1 = cc in absurd (omega arith)
turned (Some q) p u e =
    let r : p ≡ progress_with q u = cc in (
      q,
      refl,
      record {
        group = ap (λ (z : Progress). z.group) r;
        held = ap (λ (z : Progress). z.held) r;
        trigger = ap (λ (z : Progress). z.trigger) r;
        set = ap (λ (z : Progress). z.set) r;
        verdict = ap (λ (z : Progress). z.verdict) r;
      },
    )

turned_held : (s : Option Progress) (u : Verdict) → held_in (with_verdict s u) ≡ held_in s
unfolding held_in with_verdict
turned_held None u = refl
turned_held (Some p) u = refl

turned_in_progress : (s : Option Progress) (u : Verdict) → is_in_progress (with_verdict s u) ≡ is_in_progress s
unfolding is_in_progress with_verdict
turned_in_progress None u = refl
turned_in_progress (Some p) u = refl

turned_passing : {s : Option Progress} {p : Progress} (n : ℕ) → s ≡ Some p → is_passing (with_verdict s (Pass n)) ≡ true
unfolding is_passing is_pass with_verdict
turned_passing n e = ap (λ z. is_passing (with_verdict z (Pass n))) e

turned_mate : (q p : Progress) (u : Verdict) (s : Option Progress) → Turned q p u → Mate q s → Mate p (with_verdict s u)
unfolding with_verdict
turned_mate q p u s T M = record {
  its = progress_with M.its u;
  stage = ap (λ z. with_verdict z u) M.stage;
  group = M.group ∙ sym T.group;
  trigger = M.trigger ∙ sym T.trigger;
  set = M.set ∙ sym T.set;
  verdict = sym T.verdict;
}

-- ---- lane n of a passing group is copied, and the group's next lane follows
module _ (o : Seen) (S : Sound o) (k n : ℕ) (p₀ : Progress) (b₀ : k < 8) (e₀ : o.stage k ≡ Some p₀) (q₀ : p₀.verdict ≡ Pass n) (bn : n < 8) where
  n_in : has p₀.group n ≡ true
  n_in = ((S.grouped k p₀ b₀ e₀).next n q₀).1 bn

  abbrev n' : ℕ
  n' = next_in 8 p₀.group (suc n)

  P₀ : Passes o p₀.group n
  P₀ = S.passes k n p₀ b₀ e₀ q₀

  mate₀ : (l : ℕ) → l < 8 → has p₀.group l ≡ true → Mate p₀ (o.stage l)
  mate₀ l b i = (S.grouped k p₀ b₀ e₀).mate l b i

  not_n : (m : ℕ) → has p₀.group m ≡ false → m ≢ n
  not_n m f e = clash n_in (rw e at f)

  module _ (st : ℕ → Option Progress) (av : List Settings)
      (went_on : (l : ℕ) → l < 8 → has p₀.group l ≡ true → st l ≡ with_verdict (o.stage l) (Pass n'))
      (kept : (l : ℕ) → l < 8 → has p₀.group l ≡ false → st l ≡ o.stage l)
      (at_n : of av n ≡ written_settings (held o n))
      (at_other : (l : ℕ) → l < 8 → l ≢ n → of av l ≡ of o.active l) where
    held_same : (l : ℕ) → l < 8 → held_in (st l) ≡ held o l
    held_same l b = split (has p₀.group l)
        (λ i. ap held_in (went_on l b i) ∙ turned_held (o.stage l) (Pass n'))
        (λ i. ap held_in (kept l b i))

    -- each lane in progress, from what it was
    came : {P : Type 0} (l : ℕ) (p : Progress) → l < 8 → st l ≡ Some p
        → ((q : Progress) → o.stage l ≡ Some q → q.group ≡ p₀.group → Turned q p (Pass n') → P)
        → (has p₀.group l ≡ false → o.stage l ≡ Some p → P) → P
    came l p b e f h = split (has p₀.group l)
        (λ i. let r = turned (o.stage l) p (Pass n') (sym (went_on l b i) ∙ e) in
        f r.0 r.1 (in_group_lem o S k l p₀ r.0 b₀ b e₀ r.1 i).group r.2)
        (λ i. h i (sym (kept l b i) ∙ e))

    -- a lane outside the passing groups is outside this one, and was
    was : (l : ℕ) → l < 8 → is_passing (st l) ≡ false → (has p₀.group l ≡ false) × (is_passing (o.stage l) ≡ false)
    was l b f = split (has p₀.group l)
        (λ i. absurd (clash (ap is_passing (went_on l b i) ∙ turned_passing n' (mate₀ l b i).stage) f))
        (λ i. (i, ap is_passing (sym (kept l b i)) ∙ f))

    -- ---- paths outside

    still_stranger : (l : ℕ) → l < 8 → is_passing (st l) ≡ false → same_path av l n ≡ false
    still_stranger l b f = split (same_path av l n) (λ s. absurd (no_way s)) (λ s. s)
      where
        no_way : same_path av l n ≡ true → ⊥
        no_way s =
            let r = was l b f in
            let t : Together av l n = same_together av l n s in
            let d : l ≢ n = not_n l r.0 in
            let u : is_used (of o.active l) ≡ true = rw (at_other l b d) at t.one in
            let uh : is_used (held o n) ≡ true = sym (written_used (held o n)) ∙ ap is_used (sym at_n) ∙ t.other in
            let i : path_id (of o.active l) ≡ path_id (held o n) = ap path_id (sym (at_other l b d)) ∙ t.id ∙ ap path_id at_n ∙ written_id (held o n) uh in
            let first = fills_first _ _ _ n (P₀.purpose.whole n bn n_in uh) bn n_in in
            let M : Mate p₀ (o.stage (path_id (held o n))) = mate₀ (path_id (held o n)) first.0 first.1 in
            home_free o S l n (path_id (held o n)) M.its b r.1 u i M.stage (M.verdict ∙ q₀)

    same_path_lem : (l m : ℕ) → l < 8 → m < 8 → is_passing (st l) ≡ false → same_path av l m ≡ same_path o.active l m
    unfolding same_path
    same_path_lem l m b bm f = let r = was l b f in elim (ℕ_discrete m n) [
      | yes e ↦ rw e (still_stranger l b f ∙ sym (stranger o S l n n (mate₀ n bn n_in).its b r.1 bn (mate₀ n bn n_in).stage ((mate₀ n bn n_in).verdict ∙ q₀)))
      | no d ↦ rw (at_other l b (not_n l r.0), at_other m bm d)
    ]

    path_same : (l : ℕ) → l < 8 → is_passing (st l) ≡ false → path_of av l ≡ path_of o.active l
    unfolding path_of
    path_same l b f = mask_ext 8 _ _ (λ m bm. same_path_lem l m b bm f)

    on_path : (l m : ℕ) → l < 8 → m < 8 → is_passing (st l) ≡ false → same_path av l m ≡ true → of av m ≡ of o.active m
    on_path l m b bm f s = at_other m bm (λ e. clash (rw e at s) (still_stranger l b f))

    abbrev o' : Seen
    o' = record { stage = st; active = av; states = o.states; applications = o.applications; status = o.status; pending = o.pending }

    whole-after : (l : ℕ) → l < 8 → is_passing (st l) ≡ false → is_used (of av l) ≡ true → InWhole o' l
    whole-after l b f u =
        let r = was l b f in
        let a : of av l ≡ of o.active l = at_other l b (not_n l r.0) in
        let W : InWhole o l = S.used l b r.1 (rw a at u) in
        record {
          alike = λ m bm s. rw (a, on_path l m b bm f s) (W.alike m bm (sym (same_path_lem l m b bm f) ∙ s));
          whole = rw (a, path_same l b f) W.whole;
          agree = λ m bm s. W.agree m bm (sym (same_path_lem l m b bm f) ∙ s);
          low = W.low;
          high = W.high;
        }

    -- ---- the groups

    grouped-after : (l : ℕ) (p : Progress) → l < 8 → st l ≡ Some p → Grouped o' l p
    grouped-after l p b e = came l p b e
        (λ q e' eg T. let G : Grouped o l q = S.grouped l q b e' in
        let g : p.group ≡ p₀.group = T.group ∙ eg in
        record {
          own = rw T.group G.own;
          mate = λ m bm i. let j : has p₀.group m ≡ true = rw g at i in
              rw (went_on m bm j) (turned_mate q p (Pass n') (o.stage m) T (G.mate m bm (rw T.group at i)));
          fits = rw T.held G.fits;
          code = λ c z. absurd (not-rejected T.verdict z);
          next = λ j z. let r : n' ≡ j = cc (T.verdict, z) in
              rw (← r, g) (next_bound 8 p₀.group (suc n) (omega arith), λ h. next_in_lem 8 p₀.group (suc n) h);
        })
        (λ f e'. let G : Grouped o l p = S.grouped l p b e' in
        record {
          own = G.own;
          mate = λ m bm i. rw (kept m bm (groups-apart o S k l m p₀ p b₀ b bm e₀ e' f i)) (G.mate m bm i);
          fits = G.fits;
          code = G.code;
          next = G.next;
        })

    -- what is copied now: the lanes copied before, and lane n
    copied_now : (m : ℕ) → m < 8 → has p₀.group m ≡ true → m < n' → of av m ≡ written_settings (held o m)
    copied_now m b i h = elim (ℕ_discrete m n) [
      | yes e ↦ rw e at_n
      | no d ↦ elim (dec_lt m n) [
        | yes l ↦ at_other m b d ∙ P₀.copied m b i l
        | no l ↦ absurd (clash i (next_skips 8 p₀.group (suc n) m (omega arith) h))
      ]
    ]

    remain_now : OnePath o.applications (of av) (not_copied p₀.group n') p₀.group
    remain_now = one_fewer _ (of o.active) _ _ _ _ (λ m b c.
        let r = copied-not p₀.group n' m c in
        let h : n < m = omega (arith, r.1, next_le 8 p₀.group (suc n)) in
        (not-copied p₀.group n m r.0 (omega arith), sym (at_other m b (λ e. omega arith)))) P₀.remain

    this_passes : Passes o' p₀.group n'
    this_passes = record {
      purpose = one_ext _ (held o) _ _ _ (λ m b. sym (held_same m b)) P₀.purpose;
      agree = P₀.agree;
      rests = P₀.rests;
      release = λ m b i u. P₀.release m b i (rw (held_same m b) at u);
      copied = λ m b i h. rw (held_same m b) (copied_now m b i h);
      remain = remain_now;
    }

    other_passes : (l j : ℕ) (p : Progress) → l < 8 → o.stage l ≡ Some p → has p₀.group l ≡ false → p.verdict ≡ Pass j → Passes o' p.group j
    other_passes l j p b e f z =
        let P : Passes o p.group j = S.passes l j p b e z in
        record {
          purpose = one_ext _ (held o) _ _ _ (λ m bm. sym (held_same m bm)) P.purpose;
          agree = P.agree;
          rests = P.rests;
          release = λ m bm i u. P.release m bm i (rw (held_same m bm) at u);
          copied = λ m bm i h. rw (held_same m bm) (at_other m bm (beside m bm i) ∙ P.copied m bm i h);
          remain = one_fewer _ (of o.active) _ _ _ _ (λ m bm c. (c, sym (at_other m bm (beside m bm (copied-not p.group j m c).0)))) P.remain;
        }
      where
        beside : (m : ℕ) → m < 8 → has p.group m ≡ true → m ≢ n
        beside m bm i = not_n m (groups-apart o S k l m p₀ p b₀ b bm e₀ e f i)

    pub copying : Sound o'
    copying = record {
      told = λ l b. split (has p₀.group l)
          (λ i. S.told l b ∙ sym (ap is_in_progress (went_on l b i) ∙ turned_in_progress (o.stage l) (Pass n')))
          (λ i. S.told l b ∙ sym (ap is_in_progress (kept l b i)));
      grouped = grouped-after;
      used = whole-after;
      unused = λ l b f u. let r = was l b f in
          let R : AtRest o l = S.unused l b r.1 (rw (at_other l b (not_n l r.0)) at u) in
          record { state = R.state; pending = R.pending };
      passes = λ l j p b e z. came l p b e
          (λ q e' eg T. let g : p.group ≡ p₀.group = T.group ∙ eg in
          let r : n' ≡ j = cc (T.verdict, z) in
          rw (g, ← r) this_passes)
          (λ f e'. other_passes l j p b e' f z);
    }
