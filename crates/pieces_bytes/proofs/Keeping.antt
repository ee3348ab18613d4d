-- What is kept in code loses nothing, and fewer bytes are held than there is room for, whatever byte comes. Assumes nothing.
use mathlib.Core.Path.{◌≡◌, refl, sym}
use mathlib.Core.List.{List}
use Prim.Native.Nat.{ℕ, suc, ◌-◌, ◌<◌}
use native.Mathlib.Omega.{arith}
use lib.Dec.{ltb}
use lib.ListN.{length, take}
use lib.Seq.{take_at}
use borrow.Author.Tests.{lt-ltb, ltb-true}
use Rattle.bits.specs.Loop.{tab}
use Rattle.bits.proofs.Tests.{pick_true, pick-has}
use Rattle.model.specs.Map.{Image}
use Rattle.model.specs.Answers.{is_done}
use Rattle.model.specs.Refusals.{first_of, start_refusals}
use Rattle.model.specs.File.{image_offset, record_length, is_header, is_record}
use Rattle.model.specs.Stream as stream
use Rattle.model.specs.Stream.{Took, count_limit, row_of, refused, took_header, started_by, whole_image, took_image, played, took_record, took_in, took}
use Rattle.model.specs.declared.answer.Answer.{Answer}
use Rattle.model.specs.declared.answer.Answer.TheVariants.{Malformed}
use Rattle.model.specs.declared.stream.Phase.{Phase}
use Rattle.model.specs.declared.stream.Phase.TheVariants.{InHeader, InImage, InRecords, Over}
use Rattle.pieces_carried.specs.Carrying.{held_room, held_count, held_in, carried_by, padded, kept, IsTidy}

module _ (m : stream.Carried) (short : length m.held < held_room) where
  kept-held : held_in (kept m) ≡ m.held
  unfolding held_in held_count kept padded
  kept-held =
      let n = length m.held in
      rw (pick_true n (held_room - 1) (lt-ltb n held_room short)) (take_at m.held (tab (held_room - n) (λ i. 0)) n refl)

  -- with the image, all that is carried comes back
  pub kept_back : carried_by (kept m) m.state.image ≡ m
  unfolding carried_by kept
  kept_back = λ i. record { phase = m.phase; edition = m.edition; held = kept-held i; state = m.state }

  pub kept-tidy : IsTidy (kept m)
  unfolding carried_by kept
  kept-tidy =
      λ i. record { phase = m.phase; edition = m.edition; held = padded (sym kept-held i); count = length (sym kept-held i); working = m.state.working }

-- ---- fewer bytes are held than there is room for

record IsShort (t : Took) : Type 0 where
  few : length t.carried.held < held_room

refused-short : (a : Answer) (c : stream.Carried) → IsShort (refused a c)
unfolding refused
refused-short a c = record { few = omega arith }

header_short : (c : stream.Carried) (bytes : List ℕ) → IsShort (took_header c bytes)
unfolding took_header
header_short c bytes =
    pick-has IsShort (ltb (length bytes) image_offset) (λ l. record { few = ltb-true _ _ l })
    (λ _. pick-has IsShort (is_header count_limit bytes) (λ _. record { few = omega arith }) (λ _. refused-short Malformed c))

image-short : (c : stream.Carried) (come records : ℕ) (x : Image) → length c.held < held_room → IsShort (took_image c come records x)
unfolding took_image started_by
image-short c come records x h =
    pick-has IsShort (ltb (suc come) (row_of c).image_bytes) (λ _. record { few = h })
    (λ _. pick-has IsShort (is_done (first_of (start_refusals (whole_image c x)))) (λ _. record { few = omega arith }) (λ _. refused-short _ _))

record_short : (c : stream.Carried) (next records : ℕ) (bytes : List ℕ) → IsShort (took_record c next records bytes)
unfolding took_record played
record_short c next records bytes =
    pick-has IsShort (ltb next records)
    (λ _. pick-has IsShort (ltb (length bytes) record_length) (λ l. let s : length bytes < record_length = ltb-true _ _ l in record { few = omega arith })
    (λ _. pick-has IsShort (is_record (row_of c) (take record_length bytes)) (λ _. record { few = omega arith }) (λ _. refused-short Malformed c)))
    (λ _. refused-short Malformed c)

module _ (c : stream.Carried) (short : length c.held < held_room) where
  took_in_short : (p : Phase) (b : ℕ) → IsShort (took_in p c b)
  unfolding took_in
  took_in_short InHeader b = header_short c _
  took_in_short (InImage come records) b = image-short c come records _ short
  took_in_short (InRecords next records) b = record_short c next records _
  took_in_short Over b = record { few = short }

  -- whatever byte comes
  pub took-short : (b : ℕ) → length (took c b).carried.held < held_room
  unfolding took
  took-short b = (took_in_short c.phase b).few
