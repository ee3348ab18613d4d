use Rattle.std.proofs.Common.{ℕ, ◌≡◌, ◌+◌, ◌*◌, ◌/◌, ◌%◌, ◌^◌, ◌<◌, ◌≤◌, arith}
use Rattle.bits.specs.Number.{with_field}
use Rattle.bits.proofs.Number.{stays}
use Rattle.bits.proofs.put_field.Goals as goal

-- the whole sum is a byte
whole : (x s w v high low fit : ℕ) → x < 2 ^ 8 → w + s ≤ 8 → high ≡ 2 ^ (w + s) → low ≡ 2 ^ s → fit ≡ 2 ^ w
    → x / high * high + (v % fit * low + x % low) < 2 ^ 8
unfolding with_field
whole x s w v high low fit b h p q r = rw (p, q, r) (stays x s w v 8 h b)

pub overflow_cast-result : goal.overflow_cast-result
overflow_cast-result c =
    let a = c.args in
    let w = whole a.x a.shift a.width a.v _ _ _ c.ranges.x.fits c.requires c.pow2-high.ensures c.pow2-low.ensures c.pow2.ensures in
    omega arith

pub returns : goal.returns
unfolding with_field
returns c = rw (c.pow2-high.ensures, c.pow2-low.ensures, c.pow2.ensures)
