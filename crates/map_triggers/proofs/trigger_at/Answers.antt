use native.Mathlib.Omega.{arith}
use mathlib.Core.Path.{sym}
use borrow.Author.Tests.{ne_eqb}
use Rattle.bits.specs.Choice.{pick}
use Rattle.model.specs.Map.{find_trigger, trigger_at}
use Rattle.map_triggers.proofs.Triggers.{other_place}
use Rattle.map_triggers.proofs.trigger_at.Goals as goal

pub returns-in-527 : goal.returns-in-527
unfolding trigger_at find_trigger pick
returns-in-527 c = rw c.in-527.is c.applies.ensures

pub returns-in-528 : goal.returns-in-528
unfolding trigger_at find_trigger pick
returns-in-528 c = rw c.in-528.is c.applies-in-528.ensures

pub returns-in-562 : goal.returns-in-562
unfolding trigger_at find_trigger pick
returns-in-562 c = rw c.in-562.is c.applies-in-562.ensures

pub returns-in-563 : goal.returns-in-563
unfolding trigger_at find_trigger pick
returns-in-563 c = rw c.in-563.is c.applies-in-563.ensures

pub returns-in_default : goal.returns-in_default
returns-in_default c = sym (other_place c.args.i (ne_eqb c.args.i 527 (omega arith)) (ne_eqb c.args.i 528 (omega arith)) (ne_eqb c.args.i 562 (omega arith)) (ne_eqb c.args.i 563 (omega arith)))
