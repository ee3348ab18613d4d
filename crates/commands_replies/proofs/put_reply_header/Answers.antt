use borrow.Author.Rules.{rules}
use Rattle.model.specs.Commands.{with_reply_header}
use Rattle.commands_replies.proofs.put_reply_header.Goals as goal

pub returns : goal.returns
unfolding with_reply_header
returns c = search rules
