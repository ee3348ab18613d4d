-- The flag bytes against their masks.
use Rattle.std.specs.Prelude.{◌+◌, Bool}
use Rattle.bits.specs.Loop.{any_below}
use Rattle.model.specs.Numbers.{Index}
use Rattle.model.specs.Map.{Image, FlagPair, flag_bytes, flag_masks}
use Rattle.model.specs.Flags.{is_unmasked}

-- the pair of flag byte k of 11h
abbrev pub lane_pair : Index → FlagPair
lane_pair k = record { flag = flag_bytes + k; mask = flag_masks + k; bits = 0xff }

-- a bit of flag byte k is set that its mask does not cover
unfoldable pub open_at : Image → Index → Bool
open_at x k = any_below 8 (λ b. is_unmasked x (lane_pair k) b)
