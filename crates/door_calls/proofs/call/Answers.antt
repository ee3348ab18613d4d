use mathlib.Core.Bool.{not}
use mathlib.Core.Path.{ap}
use borrow.Author.Tests.{not-true, not-false}
use mathlib.Core.Path.{sym, ◌∙◌}
use Rattle.packing.proofs.States.{has_room}
use Rattle.door_calls.proofs.Calls.{handed, call_strange, call_done}
use Rattle.door_calls.proofs.call.Goals as goal

-- Assumes nothing.
pub returns-then-not-is_packing : goal.returns-then-not-is_packing
returns-then-not-is_packing c = call_strange _ _ _ _ _ _
    (sym c.is_packing.ensures ∙ not-true _ (ap not c.if-not-is_packing.true))
    c.strange_refusal-answer.ensures
    c.answered.ensures

pub unpack-requires : goal.unpack-requires
unpack-requires c = has_room _ (sym c.is_packing.ensures ∙ not-false _ (ap not c.if-not-is_packing.false))

pub hand_back-requires : goal.hand_back-requires
hand_back-requires c = has_room _ (sym c.is_packing.ensures ∙ not-false _ (ap not c.if-not-is_packing.false))

pub returns : goal.returns
returns c = call_done _ _ _ _ _ _ _ _
    (sym c.is_packing.ensures ∙ not-false _ (ap not c.if-not-is_packing.false))
    (handed _ _ _ _ _ _ _ (rw c.unpack.ensures at c.call-left.ensures) c.hand_back.ensures.0 c.hand_back.ensures.1)
