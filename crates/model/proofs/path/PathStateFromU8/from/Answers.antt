use native.Mathlib.Omega.{arith}
use borrow.Author.Tests.{ne_eqb}
use Rattle.bits.specs.Choice.{pick}
use Rattle.model.specs.PathStates.{state_of}
use Rattle.model.proofs.path.PathStateFromU8.from.Goals as goal

pub returns-in-1 : goal.returns-in-1
unfolding state_of pick
returns-in-1 c = rw c.in-1.is

pub returns-in-2 : goal.returns-in-2
unfolding state_of pick
returns-in-2 c = rw c.in-2.is

pub returns-in-3 : goal.returns-in-3
unfolding state_of pick
returns-in-3 c = rw c.in-3.is

pub returns-in-4 : goal.returns-in-4
unfolding state_of pick
returns-in-4 c = rw c.in-4.is

pub returns-in-5 : goal.returns-in-5
unfolding state_of pick
returns-in-5 c = rw c.in-5.is

pub returns-in-6 : goal.returns-in-6
unfolding state_of pick
returns-in-6 c = rw c.in-6.is

pub returns-in-7 : goal.returns-in-7
unfolding state_of pick
returns-in-7 c = rw c.in-7.is

pub returns-in_default : goal.returns-in_default
unfolding state_of pick
returns-in_default c = rw (ne_eqb c.args.code 1 (omega arith), ne_eqb c.args.code 2 (omega arith), ne_eqb c.args.code 3 (omega arith), ne_eqb c.args.code 4 (omega arith), ne_eqb c.args.code 5 (omega arith), ne_eqb c.args.code 6 (omega arith), ne_eqb c.args.code 7 (omega arith))
