use mathlib.Core.Path.{◌≡◌, ap, ◌∙◌}
use mathlib.Core.List.{[]}
use Prim.Native.Nat.{◌/◌}
use native.Mathlib.Omega.{arith}
use lib.ListN.{length}
use lib.Seq.{take_all}
use Rattle.std.proofs.Common.{slice_index_or}
use Rattle.std.specs.Simd.{first_chunks}
use Rattle.model.specs.Map.{image_length}
use Rattle.start_image.proofs.whole.Goals as goal

pub returns : goal.returns
returns c =
    let bytes = c.args.bytes.now in
    let one : length bytes / image_length ≡ 1 = omega (arith, c.requires) in
    ap (λ xs. slice_index_or xs 0 []) (c.as_chunks.ensures.front ∙ ap (λ n. first_chunks image_length n bytes) one)
    ∙ take_all image_length bytes (omega (arith, c.requires))
