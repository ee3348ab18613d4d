use native.Mathlib.Omega.{arith}
use borrow.Author.Tests.{ne_eqb}
use Rattle.bits.specs.Choice.{pick}
use Rattle.model.specs.Commands.{status_among}
use Rattle.model.proofs.command.CommandStatusFromU16.from.Goals as goal

pub returns-in-0 : goal.returns-in-0
unfolding status_among pick
returns-in-0 c = rw c.in-0.is

pub returns-in-64 : goal.returns-in-64
unfolding status_among pick
returns-in-64 c = rw c.in-64.is

pub returns-in-65 : goal.returns-in-65
unfolding status_among pick
returns-in-65 c = rw c.in-65.is

pub returns-in-256 : goal.returns-in-256
unfolding status_among pick
returns-in-256 c = rw c.in-256.is

pub returns-in_default : goal.returns-in_default
unfolding status_among pick
returns-in_default c = rw (ne_eqb c.args.number 0 (omega arith), ne_eqb c.args.number 64 (omega arith), ne_eqb c.args.number 65 (omega arith), ne_eqb c.args.number 256 (omega arith))
