use native.Mathlib.Omega.{arith}
use Rattle.model.specs.Commands.{check_code}
use Rattle.commands_messages.proofs.check_code.Goals as goal

pub returns : goal.returns
unfolding check_code
returns c = omega arith
