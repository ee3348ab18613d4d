use mathlib.Core.Path.{◌∙◌}
use Prim.Native.Nat.{◌+◌}
use native.Mathlib.Omega.{arith}
use lib.ListN.{get_or}
use Rattle.model.specs.Map.{active_set}
use Rattle.hardware_paths.proofs.Found.{left_bytewise, path_found}
use Rattle.hardware_paths.proofs.path_of.Goals as goal

pub gather-requires : goal.gather-requires
gather-requires c = let s = c.args in left_bytewise c.word8-all.result (get_or s.image.now (active_set + s.lane) 0)

pub returns : goal.returns
returns c = let s = c in
    c.gather.ensures
    ∙ rw c.word8-all.ensures
    (path_found s.args.image.now s.args.lane (λ i. omega (arith, c.fits-image i)) s.requires.0 s.requires.1)
