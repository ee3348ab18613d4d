-- The search for an unmasked flag bit, whole words of flag bytes at once, and the interrupt bit. Assumes nothing.
use mathlib.Core.Path.{◌≡◌, refl, sym, ap, ap₂, ◌∙◌}
use mathlib.Core.Bool.{Bool, true, false, not}
use Prim.Native.Nat.{ℕ, ◌+◌, ◌-◌, ◌*◌, ◌^◌, ◌<◌}
use native.Mathlib.Nat.{zero-add}
use native.Mathlib.Omega.{arith}
use borrow.Author.Tests.{lt-ltb}
use lib.Bits.{bit_and, bit_or, and_le_l}
use lib.Dec.{eqb}
use lib.ListN.{get_or}
use mir.Val.{bool_byte}
use Rattle.bits.specs.Choice.{pick, both, either}
use Rattle.bits.specs.Loop.{any_below, any_of}
use Rattle.bits.specs.Number.{field}
use Rattle.bits.specs.Place.{digit}
use Rattle.bits.specs.Sets.{has}
use Rattle.bits.proofs.Loops.{any_ext}
use Rattle.bits.proofs.Members.{any_of-tab}
use Rattle.bits.proofs.Places.{Bytes}
use Rattle.bits.proofs.Sets.{has_and, has_below}
use Rattle.bits_low.specs.LowFirst.{low_first}
use Rattle.bits_low.proofs.Low.{low-lt, low_digit, any_split, any_bytes}
use Rattle.model.specs.Map.{Image, module_flags, module_masks, module_pair, flag_bytes, flag_masks, flag_byte_count}
use Rattle.model.specs.Flags.{is_unmasked, interrupts}
use Rattle.flags_interrupt.specs.Open.{lane_pair, open_at}
use Rattle.flags_interrupt.proofs.Unmasked.{unmasked, or_nonzero}

-- ---- a flag byte and its mask: which of the bits that count are unmasked

turned : (a b c : Bool) → both (both a b) c ≡ both b (both a c)
unfolding both
turned true b c = refl
turned false true c = refl
turned false false c = refl

-- .. some bits do
some_bits : (bits f m : ℕ) → f < 2 ^ 8 → m < 2 ^ 8
    → not (eqb (bit_and (bit_and f bits) (2 ^ 8 - 1 - m)) 0) ≡ any_below 8 (λ b. both (has bits b) (both (eqb (field f b 1) 1) (eqb (field m b 1) 0)))
unfolding has
some_bits bits f m h l =
    unmasked 8 (bit_and f bits) m (omega (arith, and_le_l f bits)) l
    ∙ any_ext 8 _ _ (λ b k. ap (λ t. both t (eqb (field m b 1) 0)) (has_and f bits b) ∙ turned (has f b) (has bits b) (eqb (field m b 1) 0))

-- ---- words of flag bytes

-- the flags of n bytes from flag byte k on, without the masked ones, are not all zero exactly where one of the bytes has an unmasked bit: every bit counts
pub open_word : (n : ℕ) (x : Image) (k : ℕ) → Bytes x
    → not (eqb (bit_and (low_first n x (flag_bytes + k)) (2 ^ (8 * n) - 1 - low_first n x (flag_masks + k))) 0) ≡ any_below n (λ j. open_at x (k + j))
unfolding open_at is_unmasked both
open_word n x k h =
    unmasked (8 * n) _ _ (low-lt n x (flag_bytes + k) h) (low-lt n x (flag_masks + k) h)
    ∙ any_bytes n _
    ∙ any_ext n _ _ (λ j d. any_ext 8 _ _ (λ b l. here j b d l))
  where
    here : (j b : ℕ) → j < n → b < 8
        → both (eqb (field (low_first n x (flag_bytes + k)) (8 * j + b) 1) 1) (eqb (field (low_first n x (flag_masks + k)) (8 * j + b) 1) 0)
        ≡ is_unmasked x (lane_pair (k + j)) b
    here j b d l =
        let e : flag_bytes + k + j ≡ flag_bytes + (k + j) = omega arith in
        let f : flag_masks + k + j ≡ flag_masks + (k + j) = omega arith in
        rw (low_digit n x (flag_bytes + k) j b h d l, low_digit n x (flag_masks + k) j b h d l, e, f, has_below 8 b, lt-ltb b 8 l)

-- ---- all of them

-- twenty are eight, eight and four
in_words : (p : ℕ → Bool) → either (either (any_below 8 (λ j. p (0 + j))) (any_below 8 (λ j. p (8 + j)))) (any_below 4 (λ j. p (16 + j))) ≡ any_below flag_byte_count p
in_words p =
    ap (λ t. either (either t (any_below 8 (λ j. p (8 + j)))) (any_below 4 (λ j. p (16 + j)))) (any_ext 8 _ _ (λ j d. ap p (zero-add j)))
    ∙ sym (any_split 16 4 p ∙ ap (λ t. either t (any_below 4 (λ j. p (16 + j)))) (any_split 8 8 p))

-- and the module's own
pub gathered : (x : Image) (a b c : ℕ) → Bytes x → not (eqb a 0) ≡ any_below 8 (λ j. open_at x (0 + j)) → not (eqb b 0) ≡ any_below 8 (λ j. open_at x (8 + j))
    → not (eqb c 0) ≡ any_below 4 (λ j. open_at x (16 + j))
    → not (eqb (bit_or (bit_and (bit_and (get_or x module_flags 0) module_pair.bits) (2 ^ 8 - 1 - get_or x module_masks 0)) (bit_or (bit_or a b) c)) 0) ≡ interrupts x
unfolding interrupts any_of is_unmasked digit open_at
gathered x a b c h p q r =
    or_nonzero (bit_and (bit_and (get_or x module_flags 0) module_pair.bits) (2 ^ 8 - 1 - get_or x module_masks 0)) (bit_or (bit_or a b) c)
    ∙ ap₂ either (some_bits module_pair.bits (get_or x module_flags 0) (get_or x module_masks 0) (h module_flags) (h module_masks))
    (or_nonzero (bit_or a b) c ∙ ap₂ either (or_nonzero a b ∙ ap₂ either p q) r ∙ in_words (open_at x)
    ∙ sym (any_of-tab flag_byte_count lane_pair (λ t. any_below 8 (λ i. is_unmasked x t i))))

-- the interrupt bit: 0 where the search has found one
pub quiet-bit : (b : Bool) → bool_byte (not b) ≡ pick b 0 1
unfolding pick
quiet-bit true = refl
quiet-bit false = refl
