use Rattle.commands_replies.proofs.Replies.{reply_by}
use Rattle.commands_replies.proofs.put_reply.Goals as goal

pub returns : goal.returns
returns c = reply_by _ _ _ _ _ _ _
    c.reply_length-count.ensures
    c.reply_sum.ensures
    c.check_code.ensures
    c.put_reply_header.ensures
    c.put_reply_body.ensures
