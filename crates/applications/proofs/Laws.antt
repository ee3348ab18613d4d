-- Descriptors lie in the image; the tests of a lookup; and the view's Applications are those that are looked up. Assumes nothing.
use Rattle.std.proofs.Common.{None, Some}
use mathlib.Core.Path.{◌≡◌, refl, sym, ap, ◌∙◌}
use mathlib.Core.Bool.{Bool, true, false, ◌&&◌}
use Prim.Native.Nat.{ℕ, ◌+◌, ◌≤◌, ◌<◌}
use native.Mathlib.Decide.{dec_lt}
use native.Mathlib.Omega.{arith}
use borrow.Author.Tests.{le-leb, lt-leb}
use lib.Dec.{leb}
use lib.ListN.{get_or}
use Rattle.bits.specs.Choice.{both}
use Rattle.bits.specs.Number.{field}
use Rattle.bits.proofs.Loops.{tab_at}
use Rattle.bits.proofs.Tests.{pick_true, pick-false}
use Rattle.model.specs.Map.{Image, image_length}
use Rattle.model.specs.Applications.{application_count, first_on_page, descriptor_at, list_reaches, host_lane_count, is_present, lookup}
use Rattle.model.specs.View.{applications_of, application_in}
use Rattle.model.proofs.Descriptors.{in_lower, on_page}

and_three : (a b c : Bool) → ((a && b) && c) ≡ both a (both b c)
unfolding both
and_three true true c = refl
and_three true false c = refl
and_three false b c = refl

-- the last byte of a descriptor lies in the image
pub descriptor_fits : {a at : ℕ} → at ≡ descriptor_at a → a ≤ application_count → at + 3 < image_length
descriptor_fits {a} e h = elim (dec_lt a first_on_page) [
  | yes p ↦ omega (arith, in_lower a p)
  | no n ↦ omega (arith, on_page a (omega arith))
]

-- no descriptor has number 0, or one above 15
pub below_first : (x : Image) (a : ℕ) → a ≡ 0 → None ≡ lookup x a
unfolding lookup is_present both
below_first x a e = sym (pick-false _ _ (rw (lt-leb 1 a (omega arith), both)))

pub above_last : (x : Image) (a : ℕ) → application_count < a → None ≡ lookup x a
unfolding lookup is_present both
above_last x a h = sym (pick-false _ _ (rw (le-leb 1 a (omega arith), lt-leb a application_count h, both)))

-- a lookup by the code's tests
module _ (x : Image) (a at count : ℕ) (reaches : Bool) (low : 1 ≤ a) (high : a ≤ application_count)
    (begins : at ≡ descriptor_at a) (counts : count ≡ field (get_or x (at + 2) 0) 4 4) (reached : reaches ≡ list_reaches x a) where
  own-count : count ≡ host_lane_count x a
  unfolding host_lane_count
  own-count = counts ∙ ap (λ i. field (get_or x (i + 2) 0) 4 4) begins

  present_test : ((reaches && leb 1 count) && leb count 8) ≡ is_present x a
  unfolding is_present both
  present_test = and_three reaches (leb 1 count) (leb count 8) ∙ rw (own-count, reached, le-leb 1 a low, le-leb a application_count high, both)

  pub found_by : ((reaches && leb 1 count) && leb count 8) ≡ true → Some (record { count = count; firsts = get_or x (at + 3) 0 }) ≡ lookup x a
  unfolding lookup
  found_by t = (λ i. Some (record { count = own-count i; firsts = get_or x (begins i + 3) 0 })) ∙ sym (pick_true _ _ (sym present_test ∙ t))

  pub missing_by : ((reaches && leb 1 count) && leb count 8) ≡ false → None ≡ lookup x a
  unfolding lookup
  missing_by t = sym (pick-false _ _ (sym present_test ∙ t))

-- the view's Application a is what is looked up
pub application_in_lem : (x : Image) (a : ℕ) → a < 16 → application_in (applications_of x) a ≡ lookup x a
unfolding applications_of
application_in_lem x a h = tab_at 16 (lookup x) a _ h
