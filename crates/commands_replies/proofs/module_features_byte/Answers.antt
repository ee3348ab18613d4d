use native.Mathlib.Omega.{arith}
use mathlib.Core.Path.{sym}
use Rattle.commands_replies.proofs.Replies.{features_138, features_146, features_none}
use Rattle.commands_replies.proofs.module_features_byte.Goals as goal

pub returns-in-138 : goal.returns-in-138
returns-in-138 c = rw c.in-138.is (sym features_138)

pub returns-in-146 : goal.returns-in-146
returns-in-146 c = rw c.in-146.is (sym features_146)

pub returns-in_default : goal.returns-in_default
returns-in_default c = sym (features_none c.args.address (omega arith) (omega arith))
