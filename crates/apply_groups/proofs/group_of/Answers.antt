use mathlib.Core.Path.{sym, ◌∙◌}
use native.Mathlib.Omega.{arith}
use Rattle.bits.proofs.Sets.{in_set}
use Rattle.bits.specs.Sets.{lane_count}
use Rattle.model.specs.View.{view_of}
use Rattle.apply_groups.proofs.Laws.{group-used, group_released}
use Rattle.apply_groups.proofs.group_of.Goals as goal

pub returns-then-is_in : goal.returns-then-is_in
unfolding view_of
returns-then-is_in c = let u = c.used_lanes-used.ensures in
    group-used _ _ _ _ (omega arith) u _ _
    (sym (in_set lane_count _ u _ (omega arith)) ∙ sym c.is_in.ensures ∙ c.if-is_in.true)
    c.id_at-id.ensures
    c.lanes_with_id.ensures

pub returns : goal.returns
unfolding view_of
returns c = let u = c.used_lanes-used.ensures in
    group_released _ _ _ _ (omega arith) u _ _
    (sym (in_set lane_count _ u _ (omega arith)) ∙ sym c.is_in.ensures ∙ c.if-is_in.false)
    (omega arith)
    c.path_of-path.ensures
    c.with_lane.ensures
