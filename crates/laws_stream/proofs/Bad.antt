-- A bad line is the last one. Assumes nothing.
use mathlib.Core.Path.{◌≡◌, refl, ap, ◌∙◌}
use mathlib.Core.Bool.{Bool, true, false}
use mathlib.Core.List.{◌++◌}
use Prim.Native.Nat.{ℕ, zero, suc, ◌+◌, ◌/◌, ◌%◌, ◌<◌}
use native.Mathlib.Omega.{arith}
use lib.Dec.{ltb}
use lib.ListN.{length, get_or, length-append, get_or-append}
use borrow.Author.Tests.{ltb-true, lt-ltb}
use Rattle.bits.specs.Choice.{pick}
use Rattle.bits.proofs.Tests.{split, pick_true}
use Rattle.model.specs.Numbers.{Byte, Bytes, Count, RecordIndex, AnswerNumber}
use Rattle.model.specs.Answers.{number}
use Rattle.model.specs.Step.{Stepped}
use Rattle.model.specs.Text.{ascii, digit_text, decimal_up_to, decimal, line, bad_line}
use Rattle.model.specs.Stream.{Carried, Took, silent, refused, took_header, started_by, took_image, played, took_record, took_in, took, ended_in, ended}
use Rattle.model.specs.declared.answer.Answer.{Answer}
use Rattle.model.specs.declared.stream.Phase.{Phase}
use Rattle.model.specs.declared.stream.Phase.TheVariants.{InHeader, InImage, InRecords, Over}
use Rattle.laws_stream.specs.Streams.{Stays}
use Rattle.laws_stream.proofs.Stretches.{over_stays, over_ended}

-- ---- no other line begins as a bad line does

bad_first : (n : AnswerNumber) → get_or (bad_line n) 0 0 ≡ 0x62
unfolding bad_line ascii
bad_first n = refl

-- a decimal begins with a digit
record Digit (text : Bytes) : Type 0 where
  some : 0 < length text
  low : get_or text 0 0 < 0x3a

digit-append : (front rest : Bytes) → Digit front → Digit (front ++ rest)
digit-append front rest D = record {
  some = omega (arith, length-append front rest, D.some);
  low = rw (get_or-append front rest 0 0 D.some) D.low;
}

digit : (d : ℕ) → d < 10 → digit_text d < 0x3a
unfolding digit_text
digit d h = rw (pick_true (0x30 + d) (0x57 + d) (lt-ltb d 10 h)) (omega arith)

decimal_digit : (n x : ℕ) → Digit (decimal_up_to (suc n) x)
unfolding decimal_up_to pick
decimal_digit zero x = split (ltb x 10)
    (λ t. rw (t, pick) (record { some = omega arith; low = digit x (ltb-true x 10 t) }))
    (λ t. rw (t, pick) (record { some = omega arith; low = digit (x % 10) (omega arith) }))
decimal_digit (suc n) x = split (ltb x 10)
    (λ t. rw (t, pick) (record { some = omega arith; low = digit x (ltb-true x 10 t) }))
    (λ t. rw (t, pick) (digit-append (decimal_up_to (suc n) (x / 10)) _ (decimal_digit n (x / 10))))

line-digit : (index : RecordIndex) (answer : AnswerNumber) (bytes : Bytes) → Digit (line index answer bytes)
unfolding line decimal
line-digit index answer bytes = digit-append _ _ (digit-append _ _ (digit-append _ _ (decimal_digit 9 index)))

-- ---- so what prints a bad line is over

Ends : Took → Type 0
Ends t = (a : Answer) → t.text ≡ bad_line (number a) → t.carried.phase ≡ Over

none_ends : (c : Carried) → Ends (silent c)
unfolding Ends
none_ends c a e = let z : ◌≡◌ {A = ℕ} 0 0x62 = ap (λ text. get_or text 0 0) e ∙ bad_first (number a) in absurd (omega arith)

refused_ends : (a : Answer) (c : Carried) → Ends (refused a c)
unfolding Ends refused
refused_ends a c b e = refl

line_ends : (c : Carried) (next : RecordIndex) (records : Count) (o : Stepped) → Ends (played c next records o)
unfolding Ends played
line_ends c next records o a e =
    let z : get_or (line next (number o.answer) o.bytes) 0 0 ≡ 0x62 = ap (λ text. get_or text 0 0) e ∙ bad_first (number a) in
    absurd (omega (arith, (line-digit next (number o.answer) o.bytes).low))

pick_ends : (b : Bool) (t u : Took) → Ends t → Ends u → Ends (pick b t u)
unfolding pick
pick_ends true t u p q = p
pick_ends false t u p q = q

byte_ends : (phase : Phase) (c : Carried) (b : Byte) → Ends (took_in phase c b)
unfolding took_in took_header took_image started_by took_record
byte_ends InHeader c b = pick_ends _ _ _ (none_ends _) (pick_ends _ _ _ (none_ends _) (refused_ends _ _))
byte_ends (InImage come records) c b = pick_ends _ _ _ (none_ends _) (pick_ends _ _ _ (none_ends _) (refused_ends _ _))
byte_ends (InRecords next records) c b =
    pick_ends _ _ _ (pick_ends _ _ _ (none_ends _) (pick_ends _ _ _ (line_ends _ _ _ _) (refused_ends _ _))) (refused_ends _ _)
byte_ends Over c b = none_ends c

end_ends : (phase : Phase) (c : Carried) → Ends (ended_in phase c)
unfolding ended_in
end_ends InHeader c = refused_ends _ _
end_ends (InImage come records) c = refused_ends _ _
end_ends (InRecords next records) c = pick_ends _ _ _ (none_ends _) (refused_ends _ _)
end_ends Over c = none_ends c

-- THE THEOREM: the byte that prints a bad line is the last that is looked at ..
pub bad_ends : (c : Carried) (b : Byte) (a : Answer) → (took c b).text ≡ bad_line (number a) → (took c b).carried.phase ≡ Over
unfolding Ends took
bad_ends c b = byte_ends c.phase c b

-- .. and so is an end that prints one
pub bad_end_ends : (c : Carried) (a : Answer) → (ended c).text ≡ bad_line (number a) → (ended c).carried.phase ≡ Over
unfolding Ends ended
bad_end_ends c = end_ends c.phase c

over : (c : Carried) → c.phase ≡ Over → Stays c
over c e = record { bytes = over_stays c e; end = over_ended c e }

-- so from then on nothing is printed and nothing changes
pub bad_stays : (c : Carried) (b : Byte) (a : Answer) → (took c b).text ≡ bad_line (number a) → Stays (took c b).carried
bad_stays c b a e = over (took c b).carried (bad_ends c b a e)

pub bad_end_stays : (c : Carried) (a : Answer) → (ended c).text ≡ bad_line (number a) → Stays (ended c).carried
bad_end_stays c a e = over (ended c).carried (bad_end_ends c a e)
