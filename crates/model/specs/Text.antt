-- The text of a line (01 "The night file"). A text is the list of its bytes.
use Rattle.std.specs.Prelude.{ℕ, zero, suc, ◌+◌, ◌/◌, ◌%◌, [], ◌∷◌, ◌++◌, ltb}
use Prim.Native.Char.{code}
use Prim.Native.String.{String}
use Prim.Native.String as Text
use Rattle.bits.specs.Choice.{pick}
use Rattle.model.specs.Numbers.{Byte, Bytes, Count, RecordIndex, AnswerNumber}

-- the bytes of a text in ASCII
unfoldable pub ascii : String → Bytes
ascii Text.[] = []
ascii (Text.◌∷◌ c s) = code c ∷ ascii s

abbrev pub newline : Byte
newline = 0x0a

abbrev pub space : Byte
space = 0x20

-- a digit's character: 0 to 9, then a to f
unfoldable pub digit_text : ℕ → Byte
digit_text d = pick (ltb d 10) (0x30 + d) (0x57 + d)

-- at most n decimal digits, with no zeros in front
unfoldable pub decimal_up_to : Count → ℕ → Bytes
decimal_up_to zero x = []
decimal_up_to (suc n) x = pick (ltb x 10) (digit_text x ∷ []) (decimal_up_to n (x / 10) ++ (digit_text (x % 10) ∷ []))

-- a number below 10,000,000,000
unfoldable pub decimal : ℕ → Bytes
decimal x = decimal_up_to 10 x

-- each byte as a space and two hex digits
unfoldable pub hex_bytes : Bytes → Bytes
hex_bytes [] = []
hex_bytes (b ∷ bs) = space ∷ digit_text (b / 16) ∷ digit_text (b % 16) ∷ hex_bytes bs

-- the line of a record: its index, its answer, and what a read gave
unfoldable pub line : RecordIndex → AnswerNumber → Bytes → Bytes
line index answer bytes = decimal index ++ (space ∷ decimal answer) ++ hex_bytes bytes ++ (newline ∷ [])

-- the only line of a file that is not replayed
unfoldable pub bad_line : AnswerNumber → Bytes
bad_line answer = ascii "bad " ++ decimal answer ++ (newline ∷ [])
