use native.Mathlib.Nat.{one-mul}
use native.Mathlib.Omega.{arith}
use mathlib.Core.Path.{◌≡◌}
use mathlib.Core.Bool.{Bool, true, false}
use mir.Val.{bool_byte}
use Prim.Native.Nat.{ℕ, ◌*◌, ◌%◌, ◌^◌, ◌<◌}
use lib.Pow.{shl_exact}
use Rattle.bits.proofs.Sets.{put_lane}
use Rattle.bits.specs.Sets.{lane_count}
use Rattle.bits_sets.proofs.with_lane.Goals as goal

-- a lane's bit fits a byte
fits : (b : Bool) (l : ℕ) → l < lane_count → bool_byte b * 2 ^ l % 2 ^ lane_count ≡ bool_byte b * 2 ^ l
fits true l h = shl_exact 1 l lane_count (omega arith) (omega arith)
fits false l h = shl_exact 1 l lane_count (omega arith) (omega arith)

pub returns : goal.returns
returns c = let s = c.args in
    rw (fits true s.lane c.requires, one-mul (2 ^ s.lane), fits s.yes s.lane c.requires)
    (put_lane lane_count s.set s.lane s.yes (omega arith) c.requires)
