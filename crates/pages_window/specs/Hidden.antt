-- Bytes that may show otherwise than they are stored.
use Rattle.std.specs.Prelude.{Bool, leb}
use Rattle.bits.specs.Choice.{either}
use Rattle.model.specs.Numbers.{Count, Index}
use Rattle.model.specs.Map.{module_controls}
use Rattle.map_triggers.specs.Meets.{meets_triggers}

-- of n bytes from i on one may be lower 26 or a trigger; every byte up to lower 26 counts as if it were
unfoldable pub meets_hidden : Index → Count → Bool
meets_hidden i n = either (leb i module_controls) (meets_triggers i n)
