-- Sets of lanes with a byte for each lane: lane m's bit is the lowest of byte m.
use Rattle.std.specs.Prelude.{ℕ, ◌*◌, ◌/◌, ◌%◌, eqb}
use Rattle.bits.specs.Choice.{both}
use Rattle.bits.specs.Sets.{LaneSet, lane_count, has, mask_of}

-- the lanes of a set, a byte for each
unfoldable pub bytewise : LaneSet → ℕ
bytewise g = mask_of 64 (λ k. both (eqb (k % 8) 0) (has g (k / 8)))

-- the lanes whose byte has its lowest bit 1
unfoldable pub lowest_bits : ℕ → LaneSet
lowest_bits z = mask_of lane_count (λ m. has z (8 * m))
