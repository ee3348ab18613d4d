-- The computed test of soundness and the propositions are the same. Assumes nothing.
use Rattle.std.proofs.Common.{Option, None, Some}
use mathlib.Core.Path.{◌≡◌, refl, sym, ap, ◌∙◌}
use mathlib.Core.Bool.{Bool, true, false}
use mathlib.Core.List.{List}
use mathlib.Core.Logic.{inl, inr}
use Prim.Native.Nat.{ℕ, ◌≤◌, ◌<◌}
use native.Mathlib.Omega.{arith}
use lib.Dec.{leb, ltb}
use lib.ListN.{get_or}
use borrow.Author.Tests.{ltb-true, ltb-false, leb-true, eqb-true, lt-ltb, le-leb, eq-eqb, not-true}
use Rattle.bits.specs.Choice.{both, same}
use Rattle.bits.specs.Sets.{has, next_in, first_in, some_in, every_in}
use Rattle.bits.proofs.Tests.{split, clash, both_l, both_r, both_i, either_cases, either_i_l, either_i_r, implies_use, implies_i}
use Rattle.bits.proofs.Loops.{all_at, all_intro, any_find, any_none, none_any, tab_at}
use Rattle.bits.proofs.Masks.{has-mask, first_in_lem, next_le}
use Rattle.model.specs.Map.{Image, active_set, staged_set0, lasting_count}
use Rattle.model.specs.Records.{stage_at, is_passing, held_in, no_settings}
use Rattle.model.specs.View.{View, view_of, settings_of, applications_of, of, application_in, app_sel, path_id, is_used, same_path, path_of, fills, setting_values}
use Rattle.model.specs.State.{State}
use Rattle.model.specs.Work.{is_release}
use Rattle.model.specs.Sound.{status_tells, same_trigger, same_set, same_verdict, agrees, settings_fit, verdict_fits, stage_fits, share, make_path, agree_on_state, in_whole_path, is_at_rest, outside_passing, held_settings_of, has_purpose, rests, same_settings, holds_copied, not_copied, rest_is_whole, passing_fits, group_fits, lane_sound, on_fits, is_sound}
use Rattle.model.specs.declared.lane.Settings.{Settings}
use Rattle.model.specs.declared.lane.Trigger.{Trigger}
use Rattle.model.specs.declared.lane.Trigger.TheVariants.{DpInit, Immediate}
use Rattle.model.specs.declared.lane.StagedSet.{StagedSet}
use Rattle.model.specs.declared.lane.StagedSet.TheVariants.{Set0, Set1}
use Rattle.model.specs.declared.lane.Verdict.{Verdict}
use Rattle.model.specs.declared.lane.Verdict.TheVariants.{Pass, Reject}
use Rattle.model.specs.declared.lane.Progress.{Progress}
use Rattle.model.specs.declared.lane.Working.{Working}
use Rattle.model.specs.declared.application.Descriptor.{Descriptor}
use Rattle.laws_frames.proofs.Registers.{settings_path}
use Rattle.laws_sound.proofs.Paths.{same_together, used_app}
use Rattle.laws_sound.specs.Sound.{Seen, seen_of, held, state_on, Mate, Grouped, InWhole, AtRest, OnePath, Passes, Sound, AllOnFit, AllSix}

-- ---- small tests

same-eq : (a b : Bool) → same a b ≡ true → a ≡ b
unfolding same
same-eq true true e = refl
same-eq true false e = sym e
same-eq false true e = absurd (clash e refl)
same-eq false false e = refl

eq-same : (a b : Bool) → a ≡ b → same a b ≡ true
unfolding same
eq-same true b e = rw (← e)
eq-same false b e = rw (← e)

every_at : (g : ℕ) (p : ℕ → Bool) → every_in g p ≡ true → (m : ℕ) → m < 8 → has g m ≡ true → p m ≡ true
unfolding every_in
every_at g p e m b i = implies_use _ _ (all_at 8 _ e m b) i

every_i : (g : ℕ) (p : ℕ → Bool) → ((m : ℕ) → m < 8 → has g m ≡ true → p m ≡ true) → every_in g p ≡ true
unfolding every_in
every_i g p h = all_intro 8 _ (λ m b. implies_i _ _ (h m b))

pub some_none : (g : ℕ) (p : ℕ → Bool) → some_in g p ≡ false → (m : ℕ) → m < 8 → has g m ≡ true → p m ≡ false
unfolding some_in
some_none g p e m b i = split (p m) (λ t. absurd (clash (both_i i t) (any_none 8 _ e m b))) (λ t. t)

none_some : (g : ℕ) (p : ℕ → Bool) → ((m : ℕ) → m < 8 → has g m ≡ true → p m ≡ false) → some_in g p ≡ false
unfolding some_in
none_some g p h = none_any 8 _ (λ m b. split (both (has g m) (p m))
    (λ t. absurd (clash (both_r _ _ t) (h m b (both_l _ _ t)))) (λ t. t))

some_find : (g : ℕ) (p : ℕ → Bool) → some_in g p ≡ true → (m : ℕ) × (m < 8) × (has g m ≡ true) × (p m ≡ true)
unfolding some_in
some_find g p e = let r = any_find 8 _ e in (r.0, r.1, both_l _ _ r.2, both_r _ _ r.2)

trigger-eq : (t u : Trigger) → same_trigger t u ≡ true → u ≡ t
unfolding same_trigger
trigger-eq DpInit DpInit e = refl
trigger-eq DpInit Immediate e = absurd (clash e refl)
trigger-eq Immediate DpInit e = absurd (clash e refl)
trigger-eq Immediate Immediate e = refl

trigger-same : (t : Trigger) → same_trigger t t ≡ true
unfolding same_trigger
trigger-same DpInit = refl
trigger-same Immediate = refl

set-eq : (a b : StagedSet) → same_set a b ≡ true → b ≡ a
unfolding same_set
set-eq Set0 Set0 e = refl
set-eq Set0 Set1 e = absurd (clash e refl)
set-eq Set1 Set0 e = absurd (clash e refl)
set-eq Set1 Set1 e = refl

set_same : (a : StagedSet) → same_set a a ≡ true
unfolding same_set
set_same Set0 = refl
set_same Set1 = refl

verdict-eq : (v u : Verdict) → same_verdict v u ≡ true → u ≡ v
unfolding same_verdict
verdict-eq (Pass n) (Pass m) e = ap Pass (sym (eqb-true n m e))
verdict-eq (Pass n) (Reject d) e = absurd (clash e refl)
verdict-eq (Reject c) (Pass m) e = absurd (clash e refl)
verdict-eq (Reject c) (Reject d) e = ap Reject (sym (eqb-true c d e))

verdict-same : (v : Verdict) → same_verdict v v ≡ true
unfolding same_verdict
verdict-same (Pass n) = eq-eqb n n refl
verdict-same (Reject c) = eq-eqb c c refl

settings-eq : (h k : Settings) → same_settings h k ≡ true → h ≡ k
unfolding same_settings setting_values
settings-eq h k e = settings_path (at 0 (omega arith)) (at 1 (omega arith)) (at 2 (omega arith)) (at 3 (omega arith))
    (at 4 (omega arith)) (at 5 (omega arith)) (at 6 (omega arith)) (at 7 (omega arith))
  where
    at : (j : ℕ) → j < 8 → get_or (setting_values h) j 0 ≡ get_or (setting_values k) j 0
    at j b = eqb-true _ _ (all_at 8 _ e j b)

eq-settings : (h k : Settings) → h ≡ k → same_settings h k ≡ true
unfolding same_settings
eq-settings h k e = all_intro 8 _ (λ j b. eq-eqb _ _ (ap (λ z. get_or (setting_values z) j 0) e))

-- ---- paths of any settings

pub not-copied : (g n m : ℕ) → has g m ≡ true → n ≤ m → not_copied g n m ≡ true
unfolding not_copied
not-copied g n m i h = both_i i (le-leb n m h)

pub copied-not : (g n m : ℕ) → not_copied g n m ≡ true → (has g m ≡ true) × (n ≤ m)
unfolding not_copied
copied-not g n m e = (both_l _ _ e, leb-true n m (both_r _ _ e))

-- fewer lanes, with the same settings
pub one_fewer : (apps : List (Option Descriptor)) (h k : ℕ → Settings) (c d : ℕ → Bool) (g : ℕ) → ((m : ℕ) → m < 8 → d m ≡ true → (c m ≡ true) × (h m ≡ k m))
    → OnePath apps h c g → OnePath apps k d g
one_fewer apps h k c d g e P = record {
  alike = λ m j bm bj dm dj u. rw (← (e m bm dm).1, ← (e j bj dj).1) (P.alike m j bm bj (e m bm dm).0 (e j bj dj).0 (rw (e m bm dm).1 u));
  whole = λ m b dm u. rw (← (e m b dm).1) (P.whole m b (e m b dm).0 (rw (e m b dm).1 u));
}

pub one_ext : (apps : List (Option Descriptor)) (h k : ℕ → Settings) (c : ℕ → Bool) (g : ℕ) → ((m : ℕ) → m < 8 → h m ≡ k m) → OnePath apps h c g → OnePath apps k c g
one_ext apps h k c g e P = one_fewer apps h k c c g (λ m b t. (t, e m b)) P

pub one_none : (apps : List (Option Descriptor)) (h : ℕ → Settings) (c : ℕ → Bool) (g : ℕ) → ((m : ℕ) → m < 8 → c m ≡ true → is_used (h m) ≡ false) → OnePath apps h c g
one_none apps h c g n = record {
  alike = λ m j bm bj cm cj u. absurd (clash u (n m bm cm));
  whole = λ m b cm u. absurd (clash u (n m b cm));
}

module _ (apps : List (Option Descriptor)) (hs : List Settings) (c : ℕ → Bool) (f g : ℕ) where
  make_shares : make_path apps hs c f g ≡ true → (m : ℕ) → m < 8 → c m ≡ true
      → (app_sel (of hs m) ≡ app_sel (of hs f)) × (path_id (of hs m) ≡ path_id (of hs f))
  unfolding make_path share
  make_shares e m b t =
      let r = implies_use _ _ (all_at 8 _ (both_r _ _ (both_l _ _ e)) m b) t in
      (eqb-true _ _ (both_l _ _ r), eqb-true _ _ (both_r _ _ r))

  make_fills : make_path apps hs c f g ≡ true → fills (application_in apps (app_sel (of hs f))) (path_id (of hs f)) g ≡ true
  unfolding make_path
  make_fills e = both_r _ _ e

  make_one : make_path apps hs c f g ≡ true → OnePath apps (of hs) c g
  make_one e = record {
    alike = λ m k bm bk cm ck u. let a = make_shares e m bm cm in let b = make_shares e k bk ck in (b.0 ∙ sym a.0, b.1 ∙ sym a.1);
    whole = λ m b cm u. let a = make_shares e m b cm in rw (a.0, a.1) (make_fills e);
  }

  one_make : OnePath apps (of hs) c g → f < 8 → c f ≡ true → is_used (of hs f) ≡ true → make_path apps hs c f g ≡ true
  unfolding make_path share
  one_make P b cf u = both_i (both_i u (all_intro 8 _ (λ m bm. implies_i _ _ (λ cm.
      let r = P.alike f m b bm cf cm u in both_i (eq-eqb _ _ r.0) (eq-eqb _ _ r.1)))))
      (P.whole f b cf u)

-- ---- the test tells the propositions
module _ (x : Image) (w : Working) (l : ℕ) (b : l < 8) where
  abbrev o : Seen
  o = seen_of (record { image = x; working = w })

  abbrev v : View
  v = view_of staged_set0 x

  mate_e : (p : Progress) (s : Option Progress) → agrees p s ≡ true → Mate p s
  unfolding agrees
  mate_e p None e = absurd (clash e refl)
  mate_e p (Some q) e = record {
    its = q;
    stage = refl;
    group = sym (eqb-true _ _ (both_l _ _ e));
    trigger = trigger-eq _ _ (both_l _ _ (both_r _ _ e));
    set = set-eq _ _ (both_l _ _ (both_r _ _ (both_r _ _ e)));
    verdict = verdict-eq _ _ (both_r _ _ (both_r _ _ (both_r _ _ e)));
  }

  code_e : (g c : ℕ) (u : Verdict) → verdict_fits g u ≡ true → u ≡ Reject c → (2 ≤ c) × (c ≤ 7)
  unfolding verdict_fits
  code_e g c (Pass n) e q = let z : ◌≡◌ {A = ℕ} 0 1 = cc in absurd (omega arith)
  code_e g c (Reject d) e q = let r : d ≡ c = cc in rw (← r) (leb-true _ _ (both_l _ _ e), leb-true _ _ (both_r _ _ e))

  next_e : (g n : ℕ) (u : Verdict) → verdict_fits g u ≡ true → u ≡ Pass n → (n ≤ 8) × (n < 8 → has g n ≡ true)
  unfolding verdict_fits
  next_e g n (Reject d) e q = let z : ◌≡◌ {A = ℕ} 0 1 = cc in absurd (omega arith)
  next_e g n (Pass k) e q = let r : k ≡ n = cc in rw (← r) (elim (either_cases _ _ e) [
    | inl t ↦ let z : k ≡ 8 = eqb-true _ _ t in (omega arith, λ h. absurd (omega arith))
    | inr t ↦ let z : k < 8 = ltb-true _ _ (both_l _ _ t) in (omega arith, λ h. both_r _ _ t)
  ])

  grouped_e : (p : Progress) → stage_fits w l (Some p) ≡ true → Grouped o l p
  unfolding stage_fits settings_fit
  grouped_e p e = record {
    own = both_l _ _ (both_l _ _ e);
    mate = λ m bm i. mate_e p (stage_at w m) (every_at _ _ (both_r _ _ (both_l _ _ e)) m bm i);
    fits = λ k h. ltb-true _ _ (all_at 8 _ (both_l _ _ (both_r _ _ e)) k h);
    code = λ c q. code_e p.group c p.verdict (both_r _ _ (both_r _ _ e)) q;
    next = λ n q. next_e p.group n p.verdict (both_r _ _ (both_r _ _ e)) q;
  }

  whole_e : in_whole_path v l ≡ true → InWhole o l
  unfolding in_whole_path view_of agree_on_state path_of
  whole_e e = record {
    alike = λ m bm t. (make_shares _ _ _ l _ (both_l _ _ e) m bm t).0;
    whole = make_fills _ _ (same_path o.active l) l _ (both_l _ _ e);
    agree = λ m bm t. eqb-true _ _ (every_at _ _ (both_l _ _ (both_r _ _ e)) m bm (has-mask 8 (same_path o.active l) m bm ∙ t));
    low = leb-true _ _ (both_l _ _ (both_r _ _ (both_r _ _ e)));
    high = leb-true _ _ (both_r _ _ (both_r _ _ (both_r _ _ e)));
  }

  rest_e : is_at_rest x v l ≡ true → AtRest o l
  unfolding is_at_rest view_of
  rest_e e = record { state = eqb-true _ _ (both_l _ _ e); pending = eqb-true _ _ (both_r _ _ e) }

  module _ (g n : ℕ) (i : has g l ≡ true) where
    first_lane : (first_in g < 8) × (has g (first_in g) ≡ true)
    first_lane = first_in_lem 8 g 0 l (omega arith) b i

    held_at : (m : ℕ) → m < 8 → of (held_settings_of w) m ≡ held o m
    unfolding held_settings_of
    held_at m bm = tab_at 8 (λ k. held_in (stage_at w k)) m no_settings bm

    released : is_release w g ≡ true → (m : ℕ) → m < 8 → has g m ≡ true → is_used (held o m) ≡ false
    unfolding is_release
    released e m bm j = some_none g _ (not-true _ e) m bm j

    pub releases : ((m : ℕ) → m < 8 → has g m ≡ true → is_used (held o m) ≡ false) → is_release w g ≡ true
    unfolding is_release
    releases h = rw (none_some g (λ m. is_used (held o m)) h)

    purpose_e : has_purpose v w g ≡ true → OnePath o.applications (held o) (has g) g
    unfolding has_purpose view_of
    purpose_e e = elim (either_cases _ _ e) [
      | inl r ↦ one_none _ _ _ _ (released r)
      | inr r ↦ one_ext _ (of (held_settings_of w)) (held o) _ _ held_at (make_one _ _ _ _ _ r)
    ]

    remain_e : rest_is_whole v g n ≡ true → OnePath o.applications (of o.active) (not_copied g n) g
    unfolding rest_is_whole not_copied view_of
    remain_e e = elim (either_cases _ _ e) [
      | inl r ↦ one_none _ _ _ _ (λ m bm c. split (is_used (of o.active m))
          (λ u. absurd (clash (both_i (both_r _ _ c) u) (some_none g _ (not-true _ r) m bm (both_l _ _ c)))) (λ u. u))
      | inr r ↦ make_one _ _ _ _ _ r
    ]

    -- one unused lane, and the whole group is a release
    pub all_unused : OnePath o.applications (held o) (has g) g → (m : ℕ) → m < 8 → has g m ≡ true → is_used (held o m) ≡ false
        → (k : ℕ) → k < 8 → has g k ≡ true → is_used (held o k) ≡ false
    all_unused P m bm im u k bk ik = split (is_used (held o k))
        (λ t. absurd (clash (used_app _ _ (P.alike k m bk bm ik im t).0 t) u)) (λ t. t)

    passes_e : passing_fits v w g (Pass n) ≡ true → Passes o g n
    unfolding passing_fits rests view_of agree_on_state holds_copied
    passes_e e = record {
      purpose = pur;
      agree = λ m k bm bk im ik. to_first m bm im ∙ sym (to_first k bk ik);
      rests = λ m bm im. rw (to_first m bm im) (both_l _ _ (both_r _ _ rs));
      release = λ m bm im u. to_first m bm im
          ∙ eqb-true _ _ (implies_use _ _ (both_r _ _ (both_r _ _ rs)) (releases (all_unused pur m bm im u)));
      copied = λ m bm im h. settings-eq _ _ (implies_use _ _ (every_at g _ (both_l _ _ (both_r _ _ e)) m bm im) (lt-ltb _ _ h));
      remain = remain_e (both_r _ _ (both_r _ _ e));
    }
      where
        pur : OnePath o.applications (held o) (has g) g
        pur = purpose_e (both_l _ _ (both_l _ _ e))

        rs : rests v w g ≡ true
        rs = both_r _ _ (both_l _ _ e)

        to_first : (m : ℕ) → m < 8 → has g m ≡ true → state_on o m ≡ state_on o (first_in g)
        to_first m bm im = eqb-true _ _ (every_at g _ (both_l _ _ rs) m bm im)

five_e : (s : State) → is_sound s ≡ true → Sound (seen_of s)
unfolding is_sound lane_sound status_tells outside_passing group_fits view_of
five_e s t = record {
  told = λ l b. same-eq _ _ (both_l _ _ (both_l _ _ (at l b)));
  grouped = λ l p b e. grouped_e x w l b p (fit l p b e);
  used = λ l b f u. whole_e x w l b (implies_use _ _ (both_l _ _ (outside l b f)) u);
  unused = λ l b f u. rest_e x w l b (implies_use _ _ (both_r _ _ (outside l b f)) (rw u));
  passes = λ l n p b e q. passes_e x w l b p.group n (grouped_e x w l b p (fit l p b e)).own (rw q at (fits l p b e));
}
  where
    x : Image
    x = s.image

    w : Working
    w = s.working

    at : (l : ℕ) → l < 8 → lane_sound x (view_of staged_set0 x) w l ≡ true
    at l b = both_l _ _ (all_at 8 _ t l b)

    outside : (l : ℕ) → l < 8 → is_passing (stage_at w l) ≡ false → outside_passing x (view_of staged_set0 x) w l ≡ true
    outside l b f = implies_use _ _ (both_l _ _ (both_r _ _ (at l b))) (rw f)

    fit : (l : ℕ) (p : Progress) → l < 8 → stage_at w l ≡ Some p → stage_fits w l (Some p) ≡ true
    fit l p b e = rw e at (both_r _ _ (both_l _ _ (at l b)))

    fits : (l : ℕ) (p : Progress) → l < 8 → stage_at w l ≡ Some p → passing_fits (view_of staged_set0 x) w p.group p.verdict ≡ true
    fits l p b e = rw e at (both_r _ _ (both_r _ _ (at l b)))

-- ---- and the propositions pass the test
module _ (s : State) (S : Sound (seen_of s)) (l : ℕ) (b : l < 8) where
  mate_i : (p : Progress) (t : Option Progress) → Mate p t → agrees p t ≡ true
  unfolding agrees
  mate_i p t M = rw M.stage (both_i (eq-eqb _ _ (sym M.group))
      (both_i (rw M.trigger (trigger-same p.trigger)) (both_i (rw M.set (set_same p.set)) (rw M.verdict (verdict-same p.verdict)))))

  verdict_i : (g : ℕ) (u : Verdict) → ((c : ℕ) → u ≡ Reject c → (2 ≤ c) × (c ≤ 7)) → ((n : ℕ) → u ≡ Pass n → (n ≤ 8) × (n < 8 → has g n ≡ true))
      → verdict_fits g u ≡ true
  unfolding verdict_fits
  verdict_i g (Reject c) f h = both_i (le-leb _ _ (f c refl).0) (le-leb _ _ (f c refl).1)
  verdict_i g (Pass n) f h = split (ltb n 8)
      (λ t. either_i_r _ _ (both_i t ((h n refl).1 (ltb-true _ _ t))))
      (λ t. either_i_l _ _ (eq-eqb n 8 (omega (arith, ltb-false n 8 t, (h n refl).0))))

  stage_i : (t : Option Progress) → stage_at s.working l ≡ t → stage_fits s.working l t ≡ true
  unfolding stage_fits settings_fit
  stage_i None e = refl
  stage_i (Some p) e = let G : Grouped (seen_of s) l p = S.grouped l p b e in
      both_i (both_i G.own (every_i _ _ (λ m bm i. mate_i p (stage_at s.working m) (G.mate m bm i))))
      (both_i (all_intro 8 _ (λ k h. lt-ltb _ _ (G.fits k h))) (verdict_i p.group p.verdict G.code G.next))

  whole_i : is_used (of (settings_of active_set s.image) l) ≡ true → InWhole (seen_of s) l → in_whole_path (view_of staged_set0 s.image) l ≡ true
  unfolding in_whole_path view_of agree_on_state path_of make_path share
  whole_i u W = both_i (both_i (both_i u (all_intro 8 _ (λ m bm. implies_i _ _ (λ t.
      both_i (eq-eqb _ _ (W.alike m bm t)) (eq-eqb _ _ (sym (same_together av l m t).id))))))
      W.whole)
      (both_i (every_i _ _ (λ m bm i. eq-eqb _ _ (W.agree m bm (sym (has-mask 8 (same_path av l) m bm) ∙ i))))
      (both_i (le-leb _ _ W.low) (le-leb _ _ W.high)))
    where
      av : List Settings
      av = settings_of active_set s.image

  rest_i : AtRest (seen_of s) l → is_at_rest s.image (view_of staged_set0 s.image) l ≡ true
  unfolding is_at_rest view_of
  rest_i R = both_i (eq-eqb _ _ R.state) (eq-eqb _ _ R.pending)

  outside_i : is_passing (stage_at s.working l) ≡ false → outside_passing s.image (view_of staged_set0 s.image) s.working l ≡ true
  unfolding outside_passing view_of
  outside_i f = both_i (implies_i _ _ (λ u. whole_i u (S.used l b f u))) (implies_i _ _ (λ u. rest_i (S.unused l b f (not-true _ u))))

  module _ (g n : ℕ) (i : has g l ≡ true) (P : Passes (seen_of s) g n) where
    first : (first_in g < 8) × (has g (first_in g) ≡ true)
    first = first_lane s.image s.working l b g n i

    purpose_i : has_purpose (view_of staged_set0 s.image) s.working g ≡ true
    unfolding has_purpose view_of
    purpose_i = split (is_used (held (seen_of s) (first_in g)))
        (λ u. either_i_r _ _ (one_make _ (held_settings_of s.working) (has g) (first_in g) g
        (one_ext _ (held (seen_of s)) (of (held_settings_of s.working)) _ _ (λ m bm. sym (same-held m bm)) P.purpose)
        first.0 first.1 (rw (same-held (first_in g) first.0) u)))
        (λ u. either_i_l _ _ (releases s.image s.working l b g n i
        (all_unused s.image s.working l b g n i P.purpose (first_in g) first.0 first.1 u)))
      where
        same-held : (m : ℕ) → m < 8 → of (held_settings_of s.working) m ≡ held (seen_of s) m
        same-held = held_at s.image s.working l b g n i

    rests_i : rests (view_of staged_set0 s.image) s.working g ≡ true
    unfolding rests view_of agree_on_state
    rests_i = both_i (every_i _ _ (λ m bm im. eq-eqb _ _ (P.agree m (first_in g) bm first.0 im first.1)))
        (both_i (P.rests (first_in g) first.0 first.1)
        (implies_i _ _ (λ r. eq-eqb _ _ (P.release (first_in g) first.0 first.1
        (released s.image s.working l b g n i r (first_in g) first.0 first.1)))))

    copied_i : holds_copied (view_of staged_set0 s.image) s.working g n ≡ true
    unfolding holds_copied view_of
    copied_i = every_i _ _ (λ m bm im. implies_i _ _ (λ h. eq-settings _ _ (P.copied m bm im (ltb-true _ _ h))))

    remain_i : rest_is_whole (view_of staged_set0 s.image) g n ≡ true
    unfolding rest_is_whole view_of
    remain_i = split (some_in g (λ m. both (leb n m) (is_used (of av m))))
        (λ t. either_i_r _ _ (some t))
        (λ t. either_i_l _ _ (rw t))
      where
        av : List Settings
        av = settings_of active_set s.image

        some : some_in g (λ m. both (leb n m) (is_used (of av m))) ≡ true
            → make_path (applications_of s.image) av (not_copied g n) (next_in 8 g n) g ≡ true
        some t =
            let r = some_find g _ t in
            let h : n ≤ r.0 = leb-true _ _ (both_l _ _ r.3) in
            let c : not_copied g n r.0 ≡ true = not-copied g n r.0 r.2 h in
            let f = first_in_lem 8 g n r.0 h r.1 r.2 in
            let d : not_copied g n (next_in 8 g n) ≡ true = not-copied g n (next_in 8 g n) f.1 (next_le 8 g n) in
            one_make _ av (not_copied g n) (next_in 8 g n) g P.remain f.0 d
            (used_app _ _ (P.remain.alike r.0 (next_in 8 g n) r.1 f.0 c d (both_r _ _ r.3)).0 (both_r _ _ r.3))

  passing_i : (g : ℕ) (u : Verdict) → has g l ≡ true → ((n : ℕ) → u ≡ Pass n → Passes (seen_of s) g n)
      → passing_fits (view_of staged_set0 s.image) s.working g u ≡ true
  unfolding passing_fits
  passing_i g (Reject c) i h = refl
  passing_i g (Pass n) i h = let P : Passes (seen_of s) g n = h n refl in
      both_i (both_i (purpose_i g n i P) (rests_i g n i P)) (both_i (copied_i g n i P) (remain_i g n i P))

  group_i : (t : Option Progress) → stage_at s.working l ≡ t → group_fits (view_of staged_set0 s.image) s.working t ≡ true
  unfolding group_fits
  group_i None e = refl
  group_i (Some p) e = passing_i p.group p.verdict (S.grouped l p b e).own (λ n q. S.passes l n p b e q)

  lane_i : lane_sound s.image (view_of staged_set0 s.image) s.working l ≡ true
  unfolding lane_sound status_tells
  lane_i = both_i (both_i (eq-same _ _ (S.told l b)) (stage_i (stage_at s.working l) refl))
      (both_i (implies_i _ _ (λ f. outside_i (not-true _ f))) (group_i (stage_at s.working l) refl))

-- ---- (f)

on_e : (s : State) → is_sound s ≡ true → AllOnFit s
unfolding is_sound on_fits
on_e s t l b = record {
  few = ltb-true _ _ (both_l _ _ at);
  shows = λ k h e. eqb-true _ _ (implies_use _ _ (all_at lasting_count _ (both_r _ _ at) k h) e);
}
  where
    at : on_fits s.image s.working l ≡ true
    at = both_r _ _ (all_at 8 _ t l b)

on_i : (s : State) → AllOnFit s → (l : ℕ) → l < 8 → on_fits s.image s.working l ≡ true
unfolding on_fits
on_i s O l b = both_i (lt-ltb _ _ (O l b).few)
    (all_intro lasting_count _ (λ k h. implies_i _ _ (λ e. eq-eqb _ _ ((O l b).shows k h e))))

-- ---- all six

pub test_sound : (s : State) → is_sound s ≡ true → AllSix s
test_sound s t = record { five = five_e s t; on = on_e s t }

pub sound_test : (s : State) → AllSix s → is_sound s ≡ true
unfolding is_sound
sound_test s S = all_intro 8 _ (λ l b. both_i (lane_i s S.five l b) (on_i s S.on l b))
