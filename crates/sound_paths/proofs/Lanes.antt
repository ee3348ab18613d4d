-- What the records have of each lane. Assumes nothing.
use mathlib.Core.Path.{◌≡◌}
use Prim.Native.Nat.{ℕ, ◌<◌}
use Rattle.bits.proofs.Loops.{tab_at}
use Rattle.bits.specs.Sets.{lane_count}
use Rattle.model.specs.Records.{stage_at, held_in}
use Rattle.model.specs.View.{of}
use Rattle.model.specs.Sound.{held_settings_of}
use Rattle.model.specs.declared.lane.Working.{Working}

pub held_of : (w : Working) (l : ℕ) → l < lane_count → of (held_settings_of w) l ≡ held_in (stage_at w l)
unfolding held_settings_of
held_of w l h = tab_at lane_count _ l _ h
