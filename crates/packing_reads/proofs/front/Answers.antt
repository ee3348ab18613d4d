use mathlib.Core.Path.{◌≡◌, refl, ap, ◌∙◌}
use mathlib.Core.List.{List, []}
use Prim.Native.Nat.{ℕ, zero, suc, ◌<◌}
use native.Mathlib.Omega.{arith}
use lib.ListN.{take}
use Rattle.std.proofs.Common.{slice_index_or}
use Rattle.std.specs.Simd.{first_chunks}
use Rattle.packing.specs.Packing.{state_length}
use Rattle.packing_reads.proofs.front.Goals as goal

-- the first of some chunks
first_chunk_of : (n k : ℕ) (xs : List ℕ) → 0 < k → slice_index_or (first_chunks n k xs) 0 [] ≡ take n xs
first_chunk_of n zero xs h = absurd (omega arith)
first_chunk_of n (suc k) xs h = refl

pub returns : goal.returns
returns c =
    ap (λ xs. slice_index_or xs 0 []) c.as_chunks.ensures.front ∙ first_chunk_of state_length _ c.args.state.now (omega (arith, c.requires))
