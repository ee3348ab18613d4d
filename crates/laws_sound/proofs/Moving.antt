-- A path outside the passing groups moves to a state: soundness stays, over what it looks at. Assumes nothing.
use Rattle.std.proofs.Common.{Some}
use mathlib.Core.Path.{◌≡◌, sym, ◌∙◌}
use mathlib.Core.Bool.{true, false}
use mathlib.Core.List.{List}
use Prim.Native.Nat.{ℕ, ◌≤◌, ◌<◌}
use Rattle.bits.specs.Sets.{has}
use Rattle.bits.proofs.Tests.{split, clash}
use Rattle.model.specs.Records.{is_passing}
use Rattle.model.specs.View.{of, state_in, is_used, same_path}
use Rattle.model.specs.declared.lane.Verdict.TheVariants.{Pass}
use Rattle.model.specs.declared.lane.Progress.{Progress}
use Rattle.laws_sound.specs.Sound.{Seen, state_on, Mate, InWhole, AtRest, Passes, Sound}
use Rattle.laws_sound.proofs.Paths.{same_together, same_sym, same_trans}
use Rattle.laws_sound.proofs.Stranger.{stranger}

module _ (o : Seen) (S : Sound o) (l₀ : ℕ) (b₀ : l₀ < 8) (f₀ : is_passing (o.stage l₀) ≡ false)
    (sv : List ℕ) (pd : ℕ → ℕ) (code : ℕ) (low : 1 ≤ code) (high : code ≤ 7)
    (moved_in : (m : ℕ) → m < 8 → same_path o.active l₀ m ≡ true → state_in sv m ≡ code)
    (moved_out : (m : ℕ) → m < 8 → same_path o.active l₀ m ≡ false → state_in sv m ≡ state_on o m)
    (pending-out : (m : ℕ) → m < 8 → same_path o.active l₀ m ≡ false → pd m ≡ o.pending m) where
  abbrev o' : Seen
  o' = record { stage = o.stage; active = o.active; states = sv; applications = o.applications; status = o.status; pending = pd }

  whole-after : (l : ℕ) → l < 8 → is_passing (o.stage l) ≡ false → is_used (of o.active l) ≡ true → InWhole o' l
  whole-after l b f u = let W : InWhole o l = S.used l b f u in split (same_path o.active l₀ l)
      (λ t. record {
        alike = W.alike;
        whole = W.whole;
        agree = λ m bm s. moved_in m bm (same_trans o.active l₀ l m t s) ∙ sym (moved_in l b t);
        low = rw (moved_in l b t) low;
        high = rw (moved_in l b t) high;
      })
      (λ t. record {
        alike = W.alike;
        whole = W.whole;
        agree = λ m bm s. moved_out m bm (off l m t s) ∙ W.agree m bm s ∙ sym (moved_out l b t);
        low = rw (moved_out l b t) W.low;
        high = rw (moved_out l b t) W.high;
      })
    where
      off : (l m : ℕ) → same_path o.active l₀ l ≡ false → same_path o.active l m ≡ true → same_path o.active l₀ m ≡ false
      off l m t s = split (same_path o.active l₀ m)
          (λ r. absurd (clash (same_trans o.active l₀ m l r (same_sym o.active l m s)) t))
          (λ r. r)

  rest-after : (l : ℕ) → l < 8 → is_passing (o.stage l) ≡ false → is_used (of o.active l) ≡ false → AtRest o' l
  rest-after l b f u =
      let R : AtRest o l = S.unused l b f u in
      let t : same_path o.active l₀ l ≡ false = split (same_path o.active l₀ l)
      (λ s. absurd (clash (same_together o.active l₀ l s).other u)) (λ s. s) in
      record { state = moved_out l b t ∙ R.state; pending = pending-out l b t ∙ R.pending }

  passes-after : (l n : ℕ) (p : Progress) → l < 8 → o.stage l ≡ Some p → p.verdict ≡ Pass n → Passes o' p.group n
  passes-after l n p b e q =
      let P : Passes o p.group n = S.passes l n p b e q in
      record {
        purpose = P.purpose;
        agree = λ m k bm bk i j. stays m bm i ∙ P.agree m k bm bk i j ∙ sym (stays k bk j);
        rests = λ m bm i. rw (stays m bm i) (P.rests m bm i);
        release = λ m bm i u. stays m bm i ∙ P.release m bm i u;
        copied = P.copied;
        remain = P.remain;
      }
    where
      stays : (m : ℕ) → m < 8 → has p.group m ≡ true → state_in sv m ≡ state_on o m
      stays m bm i = let M : Mate p (o.stage m) = (S.grouped l p b e).mate m bm i in
          moved_out m bm (stranger o S l₀ m n M.its b₀ f₀ bm M.stage (M.verdict ∙ q))

  pub moving : Sound o'
  moving = record {
    told = S.told;
    grouped = λ l p b e. let G = S.grouped l p b e in record { own = G.own; mate = G.mate; fits = G.fits; code = G.code; next = G.next };
    used = whole-after;
    unused = rest-after;
    passes = passes-after;
  }
