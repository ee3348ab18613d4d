use Rattle.apply_reasons.proofs.Crossing.{cross_none, cross_first}
use Rattle.apply_reasons.proofs.is_crossing.Goals as goal

pub returns-then-first-lt-COUNT : goal.returns-then-first-lt-COUNT
returns-then-first-lt-COUNT c = rw c.path_of.ensures
    (cross_first _ _ _ _ c.used_lanes.ensures c.next_in-first.ensures c.if-first-lt-COUNT.true)

pub returns : goal.returns
returns c = cross_none _ _ _ _ c.used_lanes.ensures c.next_in-first.ensures c.if-first-lt-COUNT.false
