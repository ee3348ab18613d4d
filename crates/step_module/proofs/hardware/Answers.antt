use mathlib.Core.Bool.{not}
use mathlib.Core.Path.{ap}
use mathlib.Core.Path.{refl, sym, ap₂, ◌∙◌}
use borrow.Author.Tests.{not-true, not-false}
use Rattle.bits.specs.Place.{get}
use Rattle.model.specs.Answers.{is_done}
use Rattle.model.specs.Hardware.{moved_path_image, hardware_image}
use Rattle.model.specs.Map.{state_at}
use Rattle.model.specs.PathStates.{state_of}
use Rattle.model.specs.Step.{event_effect}
use Rattle.model.specs.declared.answer.Answer.TheVariants.{NoSuchTarget, Busy, NothingOnLane}
use Rattle.step_answers.proofs.Outcomes.{refused_leaves, image_leaves}
use Rattle.step_answers.proofs.Answered.{busy_own, busy_by, busy_unused, hardware_nowhere, hardware_busy, hardware-unused, hardware_done}
use Rattle.step_module.proofs.hardware.Goals as goal

pub returns-then-lane-ge-COUNT : goal.returns-then-lane-ge-COUNT
unfolding is_done
returns-then-lane-ge-COUNT c = refused_leaves _ _ _ _ NoSuchTarget _ (hardware_nowhere _ _ _ c.if-lane-ge-COUNT.true) refl c.reply.ensures

-- the lane is in progress itself
pub returns-then-is_busy : goal.returns-then-is_busy
unfolding is_done
returns-then-is_busy c = refused_leaves _ _ _ _ Busy _
    (hardware_busy _ _ _ c.if-lane-ge-COUNT.false (busy_own _ _ _ (sym c.is_busy.ensures ∙ c.if-is_busy.true)))
    refl c.reply-then-is_busy.ensures

-- it is unused, and has no path
pub returns-then-not-used_at : goal.returns-then-not-used_at
unfolding is_done
returns-then-not-used_at c = let own = sym c.is_busy.ensures ∙ c.if-is_busy.false in
    let unused = sym c.used_at.ensures ∙ not-true _ (ap not c.if-not-used_at.true) in
    refused_leaves _ _ _ _ NothingOnLane _ (hardware-unused _ _ _ c.if-lane-ge-COUNT.false (busy_unused _ _ _ own unused) unused) refl c.reply-then-not-used_at.ensures

-- its path has a lane in progress
pub returns-then-meets : goal.returns-then-meets
unfolding is_done
returns-then-meets c = let own = sym c.is_busy.ensures ∙ c.if-is_busy.false in
    let busy = busy_by _ _ _ _ _ _ own c.path_of-path.ensures c.busy_lanes-busy.ensures c.meets.ensures in
    refused_leaves _ _ _ _ Busy _ (hardware_busy _ _ _ c.if-lane-ge-COUNT.false (sym busy ∙ c.if-meets.true)) refl c.reply-then-meets.ensures

pub returns-else-meets : goal.returns-else-meets
unfolding event_effect hardware_image
returns-else-meets c = let s = c.args in
    let x = s.image.now in
    let path = c.path_of-path.ensures in
    let own = sym c.is_busy.ensures ∙ c.if-is_busy.false in
    let busy = busy_by _ _ _ _ _ _ own path c.busy_lanes-busy.ensures c.meets.ensures in
    let used = sym c.used_at.ensures ∙ not-false _ (ap not c.if-not-used_at.false) in
    let moved = c.move_path.ensures ∙ ap₂ (λ d g. moved_path_image d x g (state_of (get x (state_at s.lane)))) c.holds_down-down.ensures path in
    image_leaves _ _ _ _ _ _ _ _ (hardware_done _ _ _ c.if-lane-ge-COUNT.false (sym busy ∙ c.if-meets.false) used) refl moved c.settle.ensures c.reply-else-meets.ensures
