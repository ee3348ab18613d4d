-- The call of a record of the module's power: it is listed in the fourth edition, and reads as a sample in the others.
use Rattle.model.specs.Numbers.{Bytes}
use Rattle.model.specs.File.{sample_call}
use Rattle.model.specs.declared.event.Call.{Call}
use Rattle.night_records.specs.declared.Edition.{Edition}
use Rattle.night_records.specs.declared.Edition.TheVariants.{First, Second, Third, Fourth}

abbrev pub power_call : Edition → Call → Bytes → Call
power_call First listed bytes = sample_call bytes
power_call Second listed bytes = sample_call bytes
power_call Third listed bytes = sample_call bytes
power_call Fourth listed bytes = listed
