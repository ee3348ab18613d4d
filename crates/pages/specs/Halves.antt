-- The halves of memory: an address is a place of lower memory or of the selected page, counted from where its half starts.
use Rattle.std.specs.Prelude.{ℕ, ltb}
use Rattle.bits.specs.Choice.{pick}
use Rattle.model.specs.Map.{Image}
use Rattle.model.specs.Pages.{selected_start}

-- the bytes of a half of memory: of lower memory, or of a page
abbrev pub half_length : ℕ
half_length = 128

-- where the half of memory starts that an address lies in
unfoldable pub half_start : Image → ℕ → ℕ
half_start x address = pick (ltb address half_length) 0 (selected_start x)
