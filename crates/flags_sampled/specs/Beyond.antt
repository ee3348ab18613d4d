-- What is on after a sample, by the limits that it lies beyond.
use Rattle.model.specs.Numbers.{OnBits}
use Rattle.model.specs.Map.{lasting_index, high_alarm_flag, low_alarm_flag, high_warning_flag, low_warning_flag}
use Rattle.model.specs.Records.{with_flag_on}
use Rattle.flags.specs.declared.Crossing.{Crossing}

-- the lane's four flags of received power, each on where the sample lies beyond its limit
unfoldable pub beyond_on : Crossing → OnBits → OnBits
beyond_on beyond on =
    with_flag_on (lasting_index low_warning_flag) beyond.below_warning
    (with_flag_on (lasting_index high_warning_flag) beyond.above_warning
    (with_flag_on (lasting_index low_alarm_flag) beyond.below_alarm
    (with_flag_on (lasting_index high_alarm_flag) beyond.above_alarm on)))
