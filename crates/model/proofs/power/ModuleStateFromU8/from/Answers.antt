use native.Mathlib.Omega.{arith}
use borrow.Author.Tests.{ne_eqb}
use Rattle.bits.specs.Choice.{pick}
use Rattle.model.specs.Power.{module_state_of}
use Rattle.model.proofs.power.ModuleStateFromU8.from.Goals as goal

pub returns-in-1 : goal.returns-in-1
unfolding module_state_of pick
returns-in-1 c = rw c.in-1.is

pub returns-in-2 : goal.returns-in-2
unfolding module_state_of pick
returns-in-2 c = rw c.in-2.is

pub returns-in-3 : goal.returns-in-3
unfolding module_state_of pick
returns-in-3 c = rw c.in-3.is

pub returns-in-4 : goal.returns-in-4
unfolding module_state_of pick
returns-in-4 c = rw c.in-4.is

pub returns-in_default : goal.returns-in_default
unfolding module_state_of pick
returns-in_default c = rw (ne_eqb c.args.code 1 (omega arith), ne_eqb c.args.code 2 (omega arith), ne_eqb c.args.code 3 (omega arith), ne_eqb c.args.code 4 (omega arith))
