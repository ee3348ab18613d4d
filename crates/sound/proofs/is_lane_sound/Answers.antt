use Rattle.sound.proofs.Conditions.{lane-sound_by}
use Rattle.sound.proofs.is_lane_sound.Goals as goal

pub returns : goal.returns
returns c = lane-sound_by _ _ _ _ _ _ _ _ _
    c.stage_at-stage.ensures
    c.status_tells.ensures
    c.stage_fits.ensures
    c.is_passing.ensures
    c.outside_passing.ensures
    c.group_fits.ensures
