-- A group closes: soundness stays, over what it looks at. Assumes nothing.
use Rattle.std.proofs.Common.{None, Some, Option}
use mathlib.Core.Path.{◌≡◌, refl, sym, ap, ◌∙◌}
use mathlib.Core.Bool.{true, false}
use Prim.Native.Nat.{ℕ, zero, suc, ◌≤◌, ◌<◌}
use native.Mathlib.Decide.{dec_lt}
use native.Mathlib.Omega.{arith}
use lib.Dec.{eqb}
use borrow.Author.Tests.{ne_eqb}
use Rattle.bits.specs.Choice.{pick}
use Rattle.bits.specs.Sets.{has}
use Rattle.bits.proofs.Tests.{split, clash, bool_eq}
use Rattle.model.specs.Statuses.{in_progress}
use Rattle.model.specs.PathStates.{state_of, resting}
use Rattle.model.specs.Records.{is_in_progress, is_passing, held_in}
use Rattle.model.specs.View.{of, application_in, app_sel, path_id, is_used, same_path, path_of, fills}
use Rattle.model.specs.Verdicts.{deactivated}
use Rattle.model.specs.Work.{written_settings}
use Rattle.model.specs.declared.lane.Verdict.TheVariants.{Pass, Reject}
use Rattle.model.specs.declared.lane.Progress.{Progress}
use Rattle.laws_sound.specs.Sound.{Seen, held, state_on, Mate, InWhole, Passes, Sound}
use Rattle.laws_sound.proofs.Paths.{Together, same_together, together_same, used_app, fills_first, fills_ext, written_app, written_id, written_used}
use Rattle.laws_sound.proofs.Test.{one_fewer, one_ext}
use Rattle.laws_sound.proofs.Stranger.{not-idle, is_rejected, Pass_of, passing_of, own, groups-apart, now_fills, home_free}

-- ---- nothing that soundness looks at changes: statuses and pending bits below 8 read the same
pub quiet-sound : (o : Seen) (cs pd : ℕ → ℕ) → ((l : ℕ) → l < 8 → cs l ≡ o.status l) → ((l : ℕ) → l < 8 → pd l ≡ o.pending l) → Sound o
    → Sound (record { stage = o.stage; active = o.active; states = o.states; applications = o.applications; status = cs; pending = pd })
quiet-sound o cs pd ec ep S = record {
  told = λ l b. rw (ec l b) (S.told l b);
  grouped = λ l p b e. let G = S.grouped l p b e in record { own = G.own; mate = G.mate; fits = G.fits; code = G.code; next = G.next };
  used = λ l b f u. let W = S.used l b f u in record { alike = W.alike; whole = W.whole; agree = W.agree; low = W.low; high = W.high };
  unused = λ l b f u. let R = S.unused l b f u in record { state = R.state; pending = ep l b ∙ R.pending };
  passes = λ l n p b e q. let P = S.passes l n p b e q in
      record { purpose = P.purpose; agree = P.agree; rests = P.rests; release = P.release; copied = P.copied; remain = P.remain };
}

-- .. and so do the stages
pub restaged_sound : (o : Seen) (st : ℕ → Option Progress) → ((l : ℕ) → l < 8 → st l ≡ o.stage l) → Sound o
    → Sound (record { stage = st; active = o.active; states = o.states; applications = o.applications; status = o.status; pending = o.pending })
restaged_sound o st e S = record {
  told = λ l b. rw (e l b) (S.told l b);
  grouped = λ l p b q. let G = S.grouped l p b (sym (e l b) ∙ q) in
      record { own = G.own; mate = λ m c i. rw (e m c) (G.mate m c i); fits = G.fits; code = G.code; next = G.next };
  used = λ l b f u. let W = S.used l b (rw (e l b) at f) u in record { alike = W.alike; whole = W.whole; agree = W.agree; low = W.low; high = W.high };
  unused = λ l b f u. let R = S.unused l b (rw (e l b) at f) u in record { state = R.state; pending = R.pending };
  passes = λ l n p b q v. let P = S.passes l n p b (sym (e l b) ∙ q) v in record {
    purpose = one_ext _ (held o) (λ m. held_in (st m)) _ _ (λ m c. ap held_in (sym (e m c))) P.purpose;
    agree = P.agree;
    rests = P.rests;
    release = λ m c i u. P.release m c i (rw (e m c) at u);
    copied = λ m c i h. P.copied m c i h ∙ ap (λ t. written_settings (held_in t)) (sym (e m c));
    remain = P.remain;
  };
}

-- ---- lanes of a group go idle
module _ (o : Seen) (S : Sound o) (k : ℕ) (p₀ : Progress) (b₀ : k < 8) (e₀ : o.stage k ≡ Some p₀) where
  module _ (st : ℕ → Option Progress) (cs pd : ℕ → ℕ) (code : ℕ)
      (idle : (l : ℕ) → l < 8 → has p₀.group l ≡ true → st l ≡ None)
      (kept : (l : ℕ) → l < 8 → has p₀.group l ≡ false → st l ≡ o.stage l)
      (status_in : (l : ℕ) → l < 8 → has p₀.group l ≡ true → cs l ≡ code)
      (status-out : (l : ℕ) → l < 8 → has p₀.group l ≡ false → cs l ≡ o.status l)
      (low : code < in_progress)
      (pending-out : (l : ℕ) → l < 8 → has p₀.group l ≡ false → pd l ≡ o.pending l) where
    -- a lane that is still in progress is outside the group, and as it was
    still : (l : ℕ) (p : Progress) → l < 8 → st l ≡ Some p → (o.stage l ≡ Some p) × (has p₀.group l ≡ false)
    still l p b e = split (has p₀.group l)
        (λ i. absurd (not-idle (idle l b i) e))
        (λ i. (sym (kept l b i) ∙ e, i))

    kept-mate : (l m : ℕ) (p : Progress) → l < 8 → m < 8 → st l ≡ Some p → has p.group m ≡ true → st m ≡ o.stage m
    kept-mate l m p b bm e i = let t = still l p b e in
        kept m bm (groups-apart o S k l m p₀ p b₀ b bm e₀ t.0 t.1 i)

    told-after : (l : ℕ) → l < 8 → eqb (cs l) in_progress ≡ is_in_progress (st l)
    unfolding is_in_progress
    told-after l b = split (has p₀.group l)
        (λ i. rw (idle l b i, status_in l b i) (ne_eqb code in_progress (omega arith)))
        (λ i. rw (kept l b i, status-out l b i) (S.told l b))

    pub closing : ((l : ℕ) → l < 8 → has p₀.group l ≡ true → is_used (of o.active l) ≡ true → InWhole o l)
        → ((l : ℕ) → l < 8 → has p₀.group l ≡ true → is_used (of o.active l) ≡ false → (state_on o l ≡ deactivated) × (pd l ≡ 0))
        → Sound (record { stage = st; active = o.active; states = o.states; applications = o.applications; status = cs; pending = pd })
    closing whole rest = record {
      told = told-after;
      grouped = λ l p b e. let G = S.grouped l p b (still l p b e).0 in record {
        own = G.own;
        mate = λ m bm i. rw (kept-mate l m p b bm e i) (G.mate m bm i);
        fits = G.fits;
        code = G.code;
        next = G.next;
      };
      used = λ l b f u. let W : InWhole o l = split (has p₀.group l)
          (λ i. whole l b i u)
          (λ i. S.used l b (rw (kept l b i) at f) u) in
          record { alike = W.alike; whole = W.whole; agree = W.agree; low = W.low; high = W.high };
      unused = λ l b f u. split (has p₀.group l)
          (λ i. let r = rest l b i u in record { state = r.0; pending = r.1 })
          (λ i. let R = S.unused l b (rw (kept l b i) at f) u in record { state = R.state; pending = pending-out l b i ∙ R.pending });
      passes = λ l n p b e q. let P = S.passes l n p b (still l p b e).0 q in record {
        purpose = one_fewer _ (held o) _ _ _ _ (λ m bm i. (i, ap held_in (sym (kept-mate l m p b bm e i)))) P.purpose;
        agree = P.agree;
        rests = P.rests;
        release = λ m bm i u. P.release m bm i (rw (kept-mate l m p b bm e i) at u);
        copied = λ m bm i h. rw (kept-mate l m p b bm e i) (P.copied m bm i h);
        remain = P.remain;
      };
    }

  -- a rejection: its lanes were outside the passing groups all the time
  module _ (c : ℕ) (q₀ : p₀.verdict ≡ Reject c) where
    rejected : (l : ℕ) → l < 8 → has p₀.group l ≡ true → is_passing (o.stage l) ≡ false
    rejected l b i = let M : Mate p₀ (o.stage l) = (S.grouped k p₀ b₀ e₀).mate l b i in is_rejected M.stage (M.verdict ∙ q₀)

    pub reject_whole : (l : ℕ) → l < 8 → has p₀.group l ≡ true → is_used (of o.active l) ≡ true → InWhole o l
    reject_whole l b i u = S.used l b (rejected l b i) u

    pub reject_rest : (l : ℕ) → l < 8 → has p₀.group l ≡ true → is_used (of o.active l) ≡ false → (state_on o l ≡ deactivated) × (o.pending l ≡ 0)
    reject_rest l b i u = let R = S.unused l b (rejected l b i) u in (R.state, R.pending)

-- a state that a path rests in is one of 1 to 7
high_reserved : (n : ℕ) → 8 ≤ n → resting (state_of n) ≡ false
unfolding state_of resting pick
high_reserved n h =
    rw (
      ne_eqb n 1 (omega arith),
      ne_eqb n 2 (omega arith),
      ne_eqb n 3 (omega arith),
      ne_eqb n 4 (omega arith),
      ne_eqb n 5 (omega arith),
      ne_eqb n 6 (omega arith),
      ne_eqb n 7 (omega arith),
      pick,
      resting,
    )

zero_reserved : resting (state_of 0) ≡ false
unfolding state_of resting pick
zero_reserved = refl

resting-low : (n : ℕ) → resting (state_of n) ≡ true → 1 ≤ n
resting-low zero e = absurd (clash e zero_reserved)
resting-low (suc n) e = omega arith

resting-high : (n : ℕ) → resting (state_of n) ≡ true → n ≤ 7
resting-high n e = elim (dec_lt n 8) [ yes h ↦ omega arith | no h ↦ absurd (clash e (high_reserved n (omega arith))) ]

-- ---- a pass, all its lanes copied
module _ (o : Seen) (S : Sound o) (k n : ℕ) (p₀ : Progress) (b₀ : k < 8) (e₀ : o.stage k ≡ Some p₀) (q₀ : p₀.verdict ≡ Pass n) (all : 8 ≤ n) where
  P₀ : Passes o p₀.group n
  P₀ = S.passes k n p₀ b₀ e₀ q₀

  copied : (m : ℕ) → m < 8 → has p₀.group m ≡ true → of o.active m ≡ written_settings (held o m)
  copied m b i = P₀.copied m b i (omega arith)

  held-used : (m : ℕ) → m < 8 → has p₀.group m ≡ true → is_used (held o m) ≡ is_used (of o.active m)
  held-used m b i = sym (written_used (held o m)) ∙ ap is_used (sym (copied m b i))

  module _ (l : ℕ) (b : l < 8) (i : has p₀.group l ≡ true) (u : is_used (of o.active l) ≡ true) where
    uh : is_used (held o l) ≡ true
    uh = held-used l b i ∙ u

    app_l : app_sel (of o.active l) ≡ app_sel (held o l)
    app_l = ap app_sel (copied l b i) ∙ written_app (held o l) uh

    id_l : path_id (of o.active l) ≡ path_id (held o l)
    id_l = ap path_id (copied l b i) ∙ written_id (held o l) uh

    filled : fills (application_in o.applications (app_sel (of o.active l))) (path_id (of o.active l)) p₀.group ≡ true
    filled = rw (app_l, id_l) (P₀.purpose.whole l b i uh)

    -- the other lanes of the group have its AppSel and are on its path
    joined : (m : ℕ) → m < 8 → has p₀.group m ≡ true → (app_sel (of o.active m) ≡ app_sel (of o.active l)) × (same_path o.active l m ≡ true)
    joined m bm j =
        let r = P₀.purpose.alike l m b bm i j uh in
        let um : is_used (held o m) ≡ true = used_app _ _ r.0 uh in
        let am : app_sel (of o.active m) ≡ app_sel (held o m) = ap app_sel (copied m bm j) ∙ written_app (held o m) um in
        let im : path_id (of o.active m) ≡ path_id (held o m) = ap path_id (copied m bm j) ∙ written_id (held o m) um in
        (am ∙ r.0 ∙ sym app_l, together_same o.active l m u (sym (held-used m bm j) ∙ um) (id_l ∙ sym r.1 ∙ sym im))

    -- no lane beside the group is
    only : (m : ℕ) → m < 8 → same_path o.active l m ≡ true → has p₀.group m ≡ true
    only m bm s =
        let t : Together o.active l m = same_together o.active l m s in
        let f = fills_first _ (path_id (of o.active l)) _ l filled b i in
        let M : Mate p₀ (o.stage (path_id (of o.active l))) = (S.grouped k p₀ b₀ e₀).mate _ f.0 f.1 in
        split (is_passing (o.stage m))
        (λ z. let r : Pass_of (o.stage m) = passing_of (o.stage m) z in
        let h = fills_first _ (path_id (of o.active m)) _ m (now_fills o S m r.next r.record_of_lem bm r.stage r.verdict t.other) bm
        (own o S m r.record_of_lem bm r.stage) in
        split (has p₀.group m) (λ j. j)
        (λ j. absurd (clash f.1 (groups-apart o S k m (path_id (of o.active l)) p₀ r.record_of_lem b₀ bm f.0 e₀ r.stage j (rw (← t.id) at h.1)))))
        (λ z. absurd (home_free o S m n (path_id (of o.active l)) M.its bm z t.other (sym t.id) M.stage (M.verdict ∙ q₀)))

    pub pass_whole : InWhole o l
    unfolding path_of
    pass_whole = record {
      alike = λ m bm s. (joined m bm (only m bm s)).0;
      whole = rw (fills_ext _ _ _ (same_path o.active l) filled (λ m bm. bool_eq _ _ (only m bm) (λ j. (joined m bm j).1))) filled;
      agree = λ m bm s. P₀.agree m l bm b (only m bm s) i;
      low = resting-low _ (P₀.rests l b i);
      high = resting-high _ (P₀.rests l b i);
    }

  pub pass_rest : (l : ℕ) → l < 8 → has p₀.group l ≡ true → is_used (of o.active l) ≡ false → (is_used (held o l) ≡ false) × (state_on o l ≡ deactivated)
  pass_rest l b i u = let z : is_used (held o l) ≡ false = held-used l b i ∙ u in (z, P₀.release l b i z)
