-- The answers and their numbers (01 "When the desk says no", Req 08).
use Rattle.std.specs.Prelude.{Bool, eqb}
use Rattle.model.specs.Numbers.{AnswerNumber}
use Rattle.model.specs.declared.answer.Answer.{Answer}
use Rattle.model.specs.declared.answer.Answer.TheVariants.{Done, WrongLength, FlatMemory, Unsound, BadAccess, ShortBuffer, NothingOnLane, Busy, NoSuchTarget, Malformed, BackToFront}

abbrev pub number : Answer → AnswerNumber
number Done = 0
number WrongLength = 1
number FlatMemory = 2
number Unsound = 3
number BadAccess = 4
number ShortBuffer = 5
number NothingOnLane = 6
number Busy = 7
number NoSuchTarget = 8
number Malformed = 9
number BackToFront = 10

unfoldable pub is_done : Answer → Bool
is_done a = eqb (number a) 0
