use native.Mathlib.Omega.{arith}
use borrow.Author.Tests.{ne_eqb}
use Rattle.bits.specs.Choice.{pick}
use Rattle.model.specs.Commands.{reply_byte}
use Rattle.commands_replies.proofs.query_status_byte.Goals as goal

pub returns-in-136 : goal.returns-in-136
unfolding reply_byte pick
returns-in-136 c = rw c.in-136.is

pub returns-in_default : goal.returns-in_default
unfolding reply_byte pick
returns-in_default c = rw (ne_eqb c.args.address 136 (omega arith))
