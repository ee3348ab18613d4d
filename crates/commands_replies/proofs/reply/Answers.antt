use Rattle.model.specs.Commands.{replied_image}
use Rattle.commands_replies.proofs.reply.Goals as goal

pub returns-in-UnknownNumber : goal.returns-in-UnknownNumber
unfolding replied_image
returns-in-UnknownNumber c = rw c.in-UnknownNumber.is c.put_reply_header.ensures

pub returns-in-WrongCode : goal.returns-in-WrongCode
unfolding replied_image
returns-in-WrongCode c = rw c.in-WrongCode.is c.put_reply_header-in-WrongCode.ensures
