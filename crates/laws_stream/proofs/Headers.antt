-- A header is its 16 bytes: what is read off it is the same wherever these are. Assumes nothing.
use mathlib.Core.Path.{◌≡◌, ap}
use mathlib.Core.Bool.{true}
use mathlib.Core.Logic.{◌⊎◌, inl, inr}
use Prim.Native.Nat.{◌+◌, ◌≤◌, ◌<◌}
use native.Mathlib.Omega.{arith}
use lib.Dec.{leb}
use lib.ListN.{get_or, take}
use lib.Seq.{get_or-take}
use borrow.Author.Tests.{leb-true, le-leb}
use Rattle.bits.proofs.Tests.{both_l, both_r, both_i}
use Rattle.bits.proofs.Words.{word_ext}
use Rattle.model.specs.Numbers.{Bytes, Count, Index}
use Rattle.model.specs.File.{image_offset, record_count, is_header}

-- two headers that differ in their counts alone are judged alike, if the counts are
pub header_same : (limit : Count) (g h : Bytes) → ((j : Index) → j < image_offset → (j < 4) ⊎ (8 ≤ j) → get_or g j 0 ≡ get_or h j 0)
    → leb (record_count g) limit ≡ leb (record_count h) limit → is_header limit g ≡ is_header limit h
unfolding is_header
header_same limit g h same count =
    rw (
      same 0 (omega arith) (inl (omega arith)),
      same 1 (omega arith) (inl (omega arith)),
      same 2 (omega arith) (inl (omega arith)),
      same 3 (omega arith) (inl (omega arith)),
      count,
      word_ext 4 g h 8 (λ k b. same (8 + k) (omega arith) (inr (omega arith))),
      word_ext 4 g h 12 (λ k b. same (12 + k) (omega arith) (inr (omega arith))),
    )

-- the first 16 bytes of a file
pub count-front : (bytes : Bytes) → record_count (take image_offset bytes) ≡ record_count bytes
unfolding record_count
count-front bytes = word_ext 4 (take image_offset bytes) bytes 4 (λ k b. get_or-take image_offset bytes (4 + k) 0 (omega arith))

pub header_front : (limit : Count) (bytes : Bytes) → is_header limit (take image_offset bytes) ≡ is_header limit bytes
header_front limit bytes =
    header_same limit (take image_offset bytes) bytes (λ j b s. get_or-take image_offset bytes j 0 b) (ap (λ n. leb n limit) (count-front bytes))

-- a right header is right where more records are allowed
pub header_wider : (limit wider : Count) (header : Bytes) → limit ≤ wider → is_header limit header ≡ true → is_header wider header ≡ true
unfolding is_header
header_wider limit wider header h e =
    let count : record_count header ≤ limit = leb-true _ _ (both_l _ _ (both_r _ _ (both_r _ _ e))) in
    both_i (both_l _ _ e)
    (both_i (both_l _ _ (both_r _ _ e)) (both_i (le-leb (record_count header) wider (omega arith)) (both_r _ _ (both_r _ _ (both_r _ _ e)))))
