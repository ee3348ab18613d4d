-- A run of bytes that may meet a trigger.
use Rattle.std.specs.Prelude.{◌+◌, Bool, leb, ltb}
use Rattle.bits.specs.Choice.{both, either}
use Rattle.model.specs.Numbers.{Count, Index}
use Rattle.model.specs.Map.{apply_dpinit0, apply_immediate0, apply_dpinit1, apply_immediate1}

-- one of n bytes from i on is a trigger: the two of each staged set stand side by side
unfoldable pub meets_triggers : Index → Count → Bool
meets_triggers i n =
    either (both (leb i apply_immediate0) (ltb apply_dpinit0 (i + n))) (both (leb i apply_immediate1) (ltb apply_dpinit1 (i + n)))
