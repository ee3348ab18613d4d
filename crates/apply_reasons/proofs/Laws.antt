-- The limits by the code's tests, and a state that no staged set has part in. Assumes nothing.
use mathlib.Core.Path.{◌≡◌, refl, ap, ◌∙◌}
use mathlib.Core.Bool.{Bool, not, ◌&&◌, ◌||◌}
use Prim.Native.Nat.{ℕ}
use lib.Dec.{eqb, ltb}
use lib.ListN.{get_or}
use Rattle.bits.specs.Choice.{both, either}
use Rattle.bits.specs.Number.{field}
use Rattle.bits.specs.Place.{get}
use Rattle.bits.specs.Sets.{has}
use Rattle.bits.proofs.Tests.{and_both, or_either}
use Rattle.model.specs.Map.{Image, on, page01}
use Rattle.model.specs.View.{explicit, limits_of, view_of}
use Rattle.model.specs.Verdicts.{out_of_limits, too_late, wrong_state}
use Rattle.model.specs.declared.lane.Settings.{Settings}
use Rattle.model.specs.declared.lane.Trigger.{Trigger}
use Rattle.model.specs.declared.lane.Trigger.TheVariants.{DpInit, Immediate}

-- each test with the register that it reads
pub limits_by : (x : Image) (h : Settings) (e q p o a : ℕ) (r : Bool)
    → q ≡ field (get_or x (on page01 153) 0) 0 4 → p ≡ field (get_or x (on page01 154) 0) 0 4 → o ≡ field (get_or x (on page01 154) 0) 4 4 → a ≡ field (get_or x (on page01 153) 0) 4 4
    → r ≡ either (ltb 3 h.amplitude) (not (has a h.amplitude)) → e ≡ explicit h
    → (eqb e 1 && (ltb q h.equalizer || (ltb p h.pre || (ltb o h.post || r)))) ≡ out_of_limits (limits_of x) h
unfolding out_of_limits limits_of get
limits_by x h e q p o a r hq hp ho ha hr he =
    rw (hq, hp, ho, hr, ha, he)
    (and_both _ _ ∙ ap (both _) (or_either _ _ ∙ ap (either _) (or_either _ _ ∙ ap (either _) (or_either _ _))))

-- the staged set has no part in the state
pub any_set : (t : Trigger) (base other g a : ℕ) (x : Image) → wrong_state t (view_of base x) g a ≡ wrong_state t (view_of other x) g a
unfolding wrong_state too_late view_of
any_set DpInit base other g a x = refl
any_set Immediate base other g a x = refl
