use native.Mathlib.Omega.{arith}
use borrow.Author.Tests.{ne_eqb}
use Rattle.bits.specs.Choice.{pick}
use Rattle.model.specs.Commands.{reply_byte}
use Rattle.commands_replies.proofs.firmware_info_byte.Goals as goal

pub returns-in-137 : goal.returns-in-137
unfolding reply_byte pick
returns-in-137 c = rw c.in-137.is

pub returns-in-210 : goal.returns-in-210
unfolding reply_byte pick
returns-in-210 c = rw c.in-210.is

pub returns-in-211 : goal.returns-in-211
unfolding reply_byte pick
returns-in-211 c = rw c.in-211.is

pub returns-in_default : goal.returns-in_default
unfolding reply_byte pick
returns-in_default c = rw (ne_eqb c.args.address 137 (omega arith), ne_eqb c.args.address 210 (omega arith), ne_eqb c.args.address 211 (omega arith))
