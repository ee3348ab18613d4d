-- Laws of the part of a file that is its image. Assumes nothing.
use mathlib.Core.Path.{◌≡◌}
use mathlib.Core.List.{List}
use Prim.Native.Nat.{ℕ, ◌-◌, ◌≤◌}
use native.Mathlib.Omega.{arith}
use lib.ListN.{length, get_or, take, drop, length-take}
use Rattle.model.specs.Map.{image_length}
use Rattle.model.specs.File.{edition_of, image_offset, records_offset, carried_image, laid_out, image_in}
use Rattle.model.proofs.Editions.{edition-fits}

module _ (file : List ℕ) (offset : ℕ) (begins : offset ≡ records_offset (edition_of file)) where
  abbrev pub image_part : List ℕ
  image_part = take (offset - image_offset) (drop image_offset file)

  pub part_image : laid_out image_part ≡ image_in file
  unfolding carried_image
  part_image = let e : offset - image_offset ≡ (edition_of file).image_bytes = omega arith in rw e

  pub part_fits : length image_part ≤ image_length
  part_fits = omega (arith, length-take (offset - image_offset) (drop image_offset file), edition-fits (get_or file 2 0))
