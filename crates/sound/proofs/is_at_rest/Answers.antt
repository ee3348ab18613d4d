use native.Mathlib.Omega.{arith}
use Rattle.sound.proofs.Conditions.{rest_by}
use Rattle.sound.proofs.is_at_rest.Goals as goal

pub returns : goal.returns
returns c = rest_by _ _ _ _ (omega arith) c.nibble-state.ensures c.lane_bit-pending.ensures
