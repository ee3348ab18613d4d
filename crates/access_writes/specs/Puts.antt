-- A plain write, which meets neither a trigger nor lower 26: the lanes' records stay, and the half of memory that it lies in starts where it did.
use Rattle.std.specs.Prelude.{ℕ, suc, Bool, not, List, [], ◌∷◌, eqb, leb, set}
use Rattle.bits.specs.Choice.{pick, either}
use Rattle.model.specs.Map.{Image, module_controls, page_select, writable}
use Rattle.map_triggers.specs.Meets.{meets_triggers}
use Rattle.model.specs.Pages.{selected_image}

-- none of n places from i on is a trigger's, and all lie past lower 26
unfoldable pub is_plain : ℕ → ℕ → Bool
is_plain i n = not (either (meets_triggers i n) (leb i module_controls))

-- a byte put at such a place
unfoldable pub byte_put : ℕ → ℕ → Image → Image
byte_put i v x = pick (eqb i page_select) (selected_image v x) (pick (writable i) (set x i v) x)

-- bytes put from a place on
unfoldable pub bytes_put : ℕ → List ℕ → Image → Image
bytes_put i [] x = x
bytes_put i (v ∷ vs) x = bytes_put (suc i) vs (byte_put i v x)
