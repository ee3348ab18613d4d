use mathlib.Core.Path.{sym, ◌∙◌}
use native.Mathlib.Omega.{arith}
use Rattle.bits.proofs.Sets.{in_set}
use Rattle.bits.specs.Sets.{lane_count}
use Rattle.view_paths.proofs.Lanes.{path_none, path_used}
use Rattle.view_paths.proofs.path_of.Goals as goal

pub returns-then-not-is_in : goal.returns-then-not-is_in
returns-then-not-is_in c = path_none _ _ (sym (in_set lane_count _ c.used_lanes-used.ensures _ (omega arith)) ∙ sym c.is_in.ensures ∙ c.if-not-is_in.true)

pub returns : goal.returns
returns c = let u = c.used_lanes-used.ensures in
    path_used _ _ _ _ _
    (sym (in_set lane_count _ u _ (omega arith)) ∙ sym c.is_in.ensures ∙ c.if-not-is_in.false)
    u
    c.id_at-id.ensures
    c.lanes_with_id.ensures
