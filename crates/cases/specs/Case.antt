-- What a worked case is: an image, its events, and the lines that must be seen, or the bad line of an image that start refuses; or an event that changes nothing
-- (01 "Both sides of each line").
use Rattle.std.specs.Prelude.{ℕ, suc, ◌+◌, Bool, List, [], ◌∷◌, ◌++◌, length, set, replicate}
use Prim.Native.String.{String}
use Rattle.bits.specs.Choice.{pick, both}
use Rattle.bits.specs.Word.{put_word}
use Rattle.model.specs.Map.{Image, image_length}
use Rattle.model.specs.Answers.{number, is_done}
use Rattle.model.specs.Work.{early}
use Rattle.model.specs.Start.{started_state}
use Rattle.model.specs.Refusals.{first_of, start_refusals}
use Rattle.model.specs.Step.{event, step, run, ending}
use Rattle.model.specs.Outcome.{list_room}
use Rattle.model.specs.Text.{ascii, bad_line}
use Rattle.model.specs.Night.{lines_from}
use Rattle.model.specs.declared.answer.Answer.{Answer}
use Rattle.model.specs.declared.event.Call.TheVariants.{Write, Read, Work, Hardware, Condition, Sample, Lasting, Module, Line}
use Rattle.model.specs.declared.event.Event.{Event}
use Rattle.cases.specs.Same.{same_bytes, same_state}

pub record Case : Type 0 where
  pub image : Image
  pub events : List Event
  pub seen : List String

-- each line with its line feed
unfoldable pub lines_of : List String → List ℕ
lines_of [] = []
lines_of (s ∷ ss) = ascii s ++ (0x0a ∷ lines_of ss)

-- what a case shows, by what start answers to its image
unfoldable pub shown_by : Answer → Case → List ℕ
shown_by a c = pick (is_done a) (lines_from 0 (run early list_room (started_state c.image) c.events)) (bad_line (number a))

-- the case is as it should be
unfoldable pub holds : Case → Bool
holds c = same_bytes (shown_by (first_of (start_refusals c.image)) c) (lines_of c.seen)

-- from an image, after events, one more is done and leaves the whole state as it was
unfoldable pub changes_nothing : Image → List Event → Event → Bool
changes_nothing x es e =
    let s = ending early list_room (started_state x) es in
    let o = step early list_room s e in
    both (is_done o.answer) (same_state o.state s)

-- ---- images

-- zeros, each computed at once: `tab` goes through all that comes before a byte
unfoldable pub blank : Image
blank = replicate image_length 0

-- an image with bytes from a place on
unfoldable pub holding : ℕ → List ℕ → Image → Image
holding i [] x = x
holding i (v ∷ vs) x = holding (suc i) vs (set x i v)

-- Application 1 of 01's example: 4 host lanes, which may begin on lane 0 or 4
unfoldable pub four_lanes : Image
four_lanes = holding 88 (0x44 ∷ 0x11 ∷ []) blank

-- where 01 puts address a of pages 00h, 01h and 02h in the image: numbers of the cases' own, so that a wrong one of the map is seen
abbrev pub on00 : ℕ → ℕ
on00 a = a

abbrev pub on01 : ℕ → ℕ
on01 a = a + 128

abbrev pub on02 : ℕ → ℕ
on02 a = a + 256

-- limits of received power: low alarm, low warning, high warning, high alarm
unfoldable pub limited : ℕ → ℕ → ℕ → ℕ → Image → Image
limited alarm_below warning_below warning_above alarm_above x =
    put_word 2 (put_word 2 (put_word 2 (put_word 2 x (on02 194) alarm_below) (on02 198) warning_below) (on02 196) warning_above) (on02 192) alarm_above

-- ---- events

abbrev pub write : ℕ → List ℕ → Event
write address bytes = event (Write address (length bytes)) bytes

abbrev pub read : ℕ → ℕ → Event
read address count = event (Read address count) []

abbrev pub work : ℕ → Event
work lane = event (Work lane) []

abbrev pub hardware : ℕ → Event
hardware lane = event (Hardware lane) []

abbrev pub condition : ℕ → ℕ → Event
condition flag mask = event (Condition flag mask) []

abbrev pub lasting : ℕ → ℕ → ℕ → Event
lasting flag on off = event (Lasting flag on off) []

abbrev pub sample : ℕ → ℕ → Event
sample lane power = event (Sample lane power) []

abbrev pub module_event : Event
module_event = event Module []

abbrev pub line : Bool → Event
line on = event (Line on) []

abbrev pub select_page : ℕ → Event
select_page page = write 127 (page ∷ [])

-- stage DPConfig bytes from an address on, trigger ApplyDPInit, take one work step, and read every ConfigStatus
unfoldable pub applied : ℕ → List ℕ → ℕ → ℕ → List Event
applied address configs selected lane =
    select_page 0x10 ∷ write address configs ∷ write 143 (selected ∷ []) ∷ work lane ∷ select_page 0x11 ∷ read 202 4 ∷ []

-- ---- a module brought up

-- what brings a module from start to ModuleReady, where its paths can be brought up, with the flag read that says so (02 Req 04)
unfoldable pub readied : List Event
readied = module_event ∷ module_event ∷ read 8 1 ∷ []

-- the case is as it should be in a module that has been brought there
unfoldable pub holds_ready : Case → Bool
holds_ready c =
    same_bytes (lines_from 0 (run early list_room (ending early list_room (started_state c.image) readied) c.events)) (lines_of c.seen)

-- the night of 01's example: the module stays in ModuleLowPwr, and so its path in DPDeactivated (amended by 02 Req 04)
abbrev pub example : Case
example =
    record {
      image = four_lanes;
      events =
          select_page 0x10 ∷ write 145 (0x10 ∷ 0x10 ∷ 0x10 ∷ 0x10 ∷ []) ∷ write 143 (0x0f ∷ []) ∷ work 0 ∷ select_page 0x11
          ∷ read 202 4 ∷ work 3 ∷ work 3 ∷ work 3 ∷ work 3 ∷ read 202 4 ∷ read 206 5 ∷ read 235 1 ∷ work 3 ∷ hardware 0
          ∷ read 128 2 ∷ [];
      seen =
          "0 0" ∷ "1 0" ∷ "2 0" ∷ "3 0" ∷ "4 0" ∷ "5 0 cc cc 00 00" ∷ "6 0" ∷ "7 0" ∷ "8 0" ∷ "9 0" ∷ "10 0 11 11 00 00"
          ∷ "11 0 10 10 10 10 00" ∷ "12 0 0f" ∷ "13 6" ∷ "14 0" ∷ "15 0 11 11" ∷ [];
    }
