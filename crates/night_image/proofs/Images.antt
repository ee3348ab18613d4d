-- Laws of an image laid out at today's length: the bytes that a file carries, and zeros after them. Assumes nothing.
use mathlib.Core.Path.{◌≡◌, sym, ap, ◌∙◌}
use mathlib.Core.List.{List}
use Prim.Native.Nat.{ℕ, ◌+◌, ◌-◌, ◌≤◌}
use native.Mathlib.Decide.{dec_lt}
use native.Mathlib.Omega.{arith}
use borrow.Author.Rules.{rules}
use borrow.Rule.Slice.PartMut.{put_mid}
use Rattle.std.proofs.lemmas.List.{places, get_or_past, get_or-replicate}
use lib.ListN.{length, get_or, length-replicate, length-drop, length-take, take, drop, replicate}
use lib.Seq.{length-take-le}
use Rattle.model.specs.Map.{image_length}
use Rattle.model.specs.File.{laid_out}
use Rattle.model.proofs.Editions.{laid_out-same, laid_out-whole}

after-front : (x zeros : List ℕ) (n m i : ℕ) → n ≤ i → n + m ≡ length x → length zeros ≡ m → get_or (put_mid n m x zeros) i 0 ≡ get_or zeros (i - n) 0
after-front x zeros n m i f k g = search (rules, places)

-- zeros over the last m bytes, after those that are laid out
filled : (x zeros : List ℕ) (n m : ℕ) → n + m ≡ length x → zeros ≡ replicate (length (take m (drop n x))) 0 → zeros ≡ replicate m 0
filled x zeros n m k e = e ∙ ap (λ k. replicate k 0) (length-take-le m (drop n x) (omega (arith, length-drop n x)))

zeroed : (x zeros : List ℕ) (n m : ℕ) → length x ≡ image_length → n + m ≡ length x → zeros ≡ replicate m 0 → length zeros ≡ m → put_mid n m x zeros ≡ laid_out (take n x)
zeroed x zeros n m l k f g =
    sym (laid_out-whole (put_mid n m x zeros) (search (rules, places)))
    ∙ laid_out-same (put_mid n m x zeros) (take n x) (λ i b. elim (dec_lt i n) [
      | yes a ↦ search (rules, places)
      | no a ↦
          after-front x zeros n m i (omega arith) k g
          ∙ ap (λ r. get_or r (i - n) 0) f
          ∙ get_or-replicate m (i - n) 0 0 (omega arith)
          ∙ sym (get_or_past (take n x) i 0 (omega (arith, length-take n x)))
    ])

pub cleared : (x zeros : List ℕ) (n m : ℕ) → length x ≡ image_length → n + m ≡ length x → zeros ≡ replicate (length (take m (drop n x))) 0
    → put_mid n m x zeros ≡ laid_out (take n x)
cleared x zeros n m l k e = let f = filled x zeros n m k e in zeroed x zeros n m l k f (ap length f ∙ length-replicate m 0)
