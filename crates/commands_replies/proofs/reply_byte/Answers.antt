use Rattle.model.specs.Commands.{reply_byte}
use Rattle.commands_replies.proofs.reply_byte.Goals as goal

pub returns-in-QueryStatus : goal.returns-in-QueryStatus
unfolding reply_byte
returns-in-QueryStatus c = rw c.in-QueryStatus.is c.query_status_byte.ensures

pub returns-in-ModuleFeatures : goal.returns-in-ModuleFeatures
unfolding reply_byte
returns-in-ModuleFeatures c = rw c.in-ModuleFeatures.is c.module_features_byte.ensures

pub returns-in-FirmwareFeatures : goal.returns-in-FirmwareFeatures
unfolding reply_byte
returns-in-FirmwareFeatures c = rw c.in-FirmwareFeatures.is
