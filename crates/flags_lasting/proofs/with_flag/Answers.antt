use native.Mathlib.Nat.{one-mul}
use native.Mathlib.Omega.{arith}
use mathlib.Core.Path.{◌≡◌}
use mathlib.Core.Bool.{Bool, true, false}
use mir.Val.{bool_byte}
use Prim.Native.Nat.{ℕ, ◌*◌, ◌%◌, ◌^◌, ◌<◌}
use lib.Pow.{shl_exact}
use Rattle.bits.proofs.Sets.{put_lane}
use Rattle.model.specs.Records.{with_flag_on}
use Rattle.flags_lasting.proofs.with_flag.Goals as goal

-- a flag's bit fits
fits : (b : Bool) (k : ℕ) → k < 16 → bool_byte b * 2 ^ k % 2 ^ 16 ≡ bool_byte b * 2 ^ k
fits true k h = shl_exact 1 k 16 (omega arith) (omega arith)
fits false k h = shl_exact 1 k 16 (omega arith) (omega arith)

pub returns : goal.returns
unfolding with_flag_on
returns c = let s = c.args in
    let h : s.flag < 16 = omega arith in
    rw (fits true s.flag h, one-mul (2 ^ s.flag), fits s.yes s.flag h)
    (put_lane 16 s.on s.flag s.yes (omega arith) h)
