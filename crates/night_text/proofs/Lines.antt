-- Laws of the texts of bytes and lines: one byte more, and how long they are. Assumes nothing.
use mathlib.Core.Path.{◌≡◌, refl, ap, ◌∙◌}
use mathlib.Core.List.{List, [], ◌∷◌, ◌++◌}
use Prim.Native.Nat.{ℕ, ◌+◌, ◌*◌, ◌/◌, ◌%◌, ◌≤◌, ◌<◌}
use native.Mathlib.Omega.{arith}
use native.Mathlib.Numerals.{add-one}
use lib.ListN.{length, get_or, take, length-append}
use lib.Seq.{length-take-le, take-suc, append_snoc}
use Rattle.model.specs.Answers.{number}
use Rattle.model.specs.Text.{ascii, newline, space, digit_text, decimal, hex_bytes, line, bad_line}
use Rattle.model.specs.declared.answer.Answer.{Answer}
use Rattle.model.specs.declared.answer.Answer.TheVariants.{Done, WrongLength, FlatMemory, Unsound, BadAccess, ShortBuffer, NothingOnLane, Busy, NoSuchTarget, Malformed, BackToFront}
use Rattle.night_text.specs.Buffer.{line_room}
use Rattle.night_text.proofs.Decimals.{count_last, count_most, count_up_to}

-- a byte's text
unfoldable pub hex_byte : ℕ → List ℕ
hex_byte b = space ∷ digit_text (b / 16) ∷ digit_text (b % 16) ∷ []

pub hex_snoc : (bs : List ℕ) (b : ℕ) → hex_bytes (bs ++ (b ∷ [])) ≡ hex_bytes bs ++ hex_byte b
unfolding hex_bytes hex_byte
hex_snoc [] b = refl
hex_snoc (c ∷ bs) b = rw (hex_snoc bs b)

pub length_hex : (bs : List ℕ) → length (hex_bytes bs) ≡ 3 * length bs
unfolding hex_bytes
length_hex [] = refl
length_hex (b ∷ bs) = omega (arith, length_hex bs)

pub length_hex_taken : (n : ℕ) (bs : List ℕ) → n ≤ length bs → length (hex_bytes (take n bs)) ≡ 3 * n
length_hex_taken n bs h = length_hex (take n bs) ∙ ap (λ k. 3 * k) (length-take-le n bs h)

-- an event's answer has one digit
pub length-answer : (a : ℕ) → a < 10 → length (decimal a) ≡ 1
unfolding decimal
length-answer a h = count_last 9 a h

-- that of a file that is not replayed has at most two
length_refusal : (a : ℕ) → a < 100 → length (decimal a) ≤ 2
unfolding decimal
length_refusal a h = count_most 1 10 a h

-- an index of a night has at most four
pub length_index : (k : ℕ) → k < 10000 → length (decimal k) ≤ 4
unfolding decimal
length_index k h = count_most 3 10 k h

-- any index has at most ten
pub length_any_index : (k : ℕ) → length (decimal k) ≤ 10
unfolding decimal
length_any_index k = count_up_to 10 k

pub length-line : (k a : ℕ) (bs : List ℕ) → length (line k a bs) ≡ length (decimal k) + length (decimal a) + 3 * length bs + 2
unfolding line
length-line k a bs = simp (length-append, length_hex) (omega arith)

-- a line, put by put
pub line_parts : (k a : ℕ) (bs : List ℕ) → line k a bs ≡ decimal k ++ (space ∷ []) ++ decimal a ++ hex_bytes bs ++ (newline ∷ [])
unfolding line
line_parts k a bs = rw (append_snoc (decimal k) space (decimal a))

-- a record's line: its index, a space, a digit, 128 bytes and the line's end at most
pub line-most : (k a : ℕ) (bs : List ℕ) → a < 10 → length bs ≤ 128 → length (line k a bs) ≤ line_room (length (decimal k))
line-most k a bs ha hb = omega (arith, length-line k a bs, length-answer a ha)

-- the room that a put of a line takes, part by part
pub line_room_lem : (k a n : ℕ) (bs : List ℕ) → n ≤ length bs → length (line k a (take n bs)) ≡ length (decimal k) + length (decimal a) + 3 * n + 2
line_room_lem k a n bs h = rw (length-line k a (take n bs), length-take-le n bs h)

pub bad_room_lem : (a : ℕ) → length (bad_line a) ≡ length (decimal a) + 5
unfolding bad_line ascii
bad_room_lem a = simp length-append (omega arith)

-- every answer's number has at most two digits
pub number_lt : (a : Answer) → number a < 100
number_lt Done = omega arith
number_lt WrongLength = omega arith
number_lt FlatMemory = omega arith
number_lt Unsound = omega arith
number_lt BadAccess = omega arith
number_lt ShortBuffer = omega arith
number_lt NothingOnLane = omega arith
number_lt Busy = omega arith
number_lt NoSuchTarget = omega arith
number_lt Malformed = omega arith
number_lt BackToFront = omega arith

-- the line of a file that is not replayed
pub bad_most : (a : ℕ) → a < 100 → length (bad_line a) ≤ 7
bad_most a h = omega (arith, bad_room_lem a, length_refusal a h)

-- a turn of the loop over the bytes: their text so far, and one byte's after it
pub hex_next : (i : ℕ) (bytes : List ℕ) → i < length bytes → hex_bytes (take (i + 1) bytes) ≡ hex_bytes (take i bytes) ++ hex_byte (get_or bytes i 0)
hex_next i bytes h = rw (add-one, take-suc bytes i 0 h) (hex_snoc (take i bytes) (get_or bytes i 0))
