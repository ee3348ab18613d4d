-- A night file replayed into a lent buffer: the room that it asks for.
use Rattle.std.specs.Prelude.{ℕ, ◌*◌, Err, Ok, Result}
use Rattle.night_text.specs.Buffer.{line_room}
use Rattle.model.specs.declared.answer.Answer.{Answer}

-- the line of a file that is not replayed
abbrev pub bad_room : ℕ
bad_room = 7

unfoldable pub room_for : Result ℕ Answer → ℕ
room_for (Err a) = bad_room
room_for (Ok count) = line_room 4 * count
