-- What a stretch of bytes does: two stretches in a row, one that leaves a part not whole, one that makes it whole, and any after the last line.
-- Assumes nothing.
use mathlib.Core.Path.{◌≡◌, refl, sym, ap, ◌∙◌}
use mathlib.Core.Bool.{true}
use mathlib.Core.List.{[], ◌∷◌, ◌++◌, append_assoc, append-nil}
use Prim.Native.Nat.{suc, ◌+◌, ◌-◌, ◌≤◌, ◌<◌}
use native.Mathlib.Omega.{arith}
use lib.Dec.{ltb}
use lib.ListN.{length, get_or, set, take, drop, length-append}
use lib.Seq.{take-suc, take_all, take_at, append_snoc, length-take-le, sets, sets-eq}
use borrow.Author.Tests.{lt-ltb, le-ltb}
use Rattle.bits.proofs.Tests.{pick_true, pick-false}
use Rattle.model.specs.Numbers.{Byte, Bytes, Count, RecordIndex}
use Rattle.model.specs.Map.{Image, image_length}
use Rattle.model.specs.State.{with_image}
use Rattle.model.specs.Work.{early}
use Rattle.model.specs.Refusals.{first_of, start_refusals}
use Rattle.model.specs.Step.{step}
use Rattle.model.specs.Outcome.{list_room}
use Rattle.model.specs.File.{image_offset, record_length, is_record, event_of, laid_out}
use Rattle.model.specs.Stream.{Carried, Took, row_of, silent, holding, refused, took_header, started_by, whole_image, took_image, played, judged_record, took_record, took_in, took, ended_in, ended, printed_after, fed}
use Rattle.model.specs.declared.answer.Answer.{Answer}
use Rattle.model.specs.declared.answer.Answer.TheVariants.{Malformed}
use Rattle.model.specs.declared.stream.Phase.{Phase}
use Rattle.model.specs.declared.stream.Phase.TheVariants.{InHeader, InImage, InRecords, Over}
use Rattle.model.proofs.Editions.{edition_some, edition-fits}

-- two stretches in a row
pub fed-append : (c : Carried) (front rest : Bytes) → fed c (front ++ rest) ≡ printed_after (fed c front).text (fed (fed c front).carried rest)
unfolding fed
fed-append c [] rest = refl
fed-append c (b ∷ front) rest = rw (fed-append (took c b).carried front rest, ← append_assoc)

-- one byte, and the end, in a phase that is known
byte_in : (c : Carried) (b : Byte) {phase : Phase} → c.phase ≡ phase → took c b ≡ took_in phase c b
unfolding took
byte_in c b e = ap (λ phase. took_in phase c b) e

pub end_in : (c : Carried) {phase : Phase} → c.phase ≡ phase → ended c ≡ ended_in phase c
unfolding ended
end_in c e = ap (λ phase. ended_in phase c) e

-- ---- after the last line nothing is printed and nothing changes

pub over_stays : (c : Carried) → c.phase ≡ Over → (bytes : Bytes) → fed c bytes ≡ silent c
unfolding fed took_in
over_stays c e [] = refl
over_stays c e (b ∷ bytes) = rw (byte_in c b e) (over_stays c e bytes)

pub over_ended : (c : Carried) → c.phase ≡ Over → ended c ≡ silent c
unfolding ended_in
over_ended c e = end_in c e

-- ---- a part that is gathered: its bytes are held until the last of them has come, and judged then

fed-one : (c : Carried) (b : Byte) → fed c (b ∷ []) ≡ took c b
unfolding fed
fed-one c b = λ i. record { carried = (took c b).carried; text = append-nil (took c b).text i }

last_apart : (bytes : Bytes) (n : Count) → length bytes ≡ suc n → take n bytes ++ (get_or bytes n 0 ∷ []) ≡ bytes
last_apart bytes n e = sym (take-suc bytes n 0 (omega arith)) ∙ take_all (suc n) bytes (omega arith)

-- by what is done with the bytes that have come
module _ (c : Carried) (n : Count) (took_part : Bytes → Took)
    (one : (bytes : Bytes) (b : Byte) → took (holding bytes c) b ≡ took_part (bytes ++ (b ∷ [])))
    (short : (bytes : Bytes) → ltb (length bytes) n ≡ true → took_part bytes ≡ silent (holding bytes c)) where
  gathered : (held bytes : Bytes) → length held + length bytes < n → fed (holding held c) bytes ≡ silent (holding (held ++ bytes) c)
  unfolding fed
  gathered held [] h = rw (append-nil held)
  gathered held (b ∷ bytes) h =
      let l : length (held ++ (b ∷ [])) ≡ length held + 1 = length-append held (b ∷ []) in
      rw (one held b ∙ short _ (lt-ltb (length (held ++ (b ∷ []))) n (omega arith)), ← append_snoc held b bytes)
      (gathered (held ++ (b ∷ [])) bytes (omega arith))

  judged : (bytes : Bytes) → 0 < length bytes → length c.held + length bytes ≡ n → fed c bytes ≡ took_part (c.held ++ bytes)
  judged bytes p h =
      let m : Count = length bytes - 1 in
      let e : take m bytes ++ (get_or bytes m 0 ∷ []) ≡ bytes = last_apart bytes m (omega arith) in
      let l : length (take m bytes) ≡ m = length-take-le m bytes (omega arith) in
      ap (fed c) (sym e)
      ∙ fed-append c (take m bytes) (get_or bytes m 0 ∷ [])
      ∙ ap (λ (t : Took). printed_after t.text (fed t.carried (get_or bytes m 0 ∷ []))) (gathered c.held (take m bytes) (omega arith))
      ∙ fed-one _ _
      ∙ one (c.held ++ take m bytes) (get_or bytes m 0)
      ∙ ap took_part (append_assoc c.held (take m bytes) _ ∙ ap (λ (r : Bytes). c.held ++ r) e)

-- ---- the header

module _ (c : Carried) (bs : Bytes) (phase : c.phase ≡ InHeader) where
  header_one : (bytes : Bytes) (b : Byte) → took (holding bytes c) b ≡ took_header c (bytes ++ (b ∷ []))
  unfolding took_in took_header refused
  header_one bytes b = byte_in (holding bytes c) b phase

  header_short : (bytes : Bytes) → ltb (length bytes) image_offset ≡ true → took_header c bytes ≡ silent (holding bytes c)
  unfolding took_header
  header_short bytes l = pick_true _ _ l

  pub header_held : length c.held + length bs < image_offset → fed c bs ≡ silent (holding (c.held ++ bs) c)
  header_held = gathered c image_offset (took_header c) header_one header_short c.held bs

  pub header_judged : 0 < length bs → length c.held + length bs ≡ image_offset → fed c bs ≡ took_header c (c.held ++ bs)
  header_judged = judged c image_offset (took_header c) header_one header_short bs

-- ---- the image

-- so many bytes of it have come, and lie in their places
in_image_lem : Carried → Count → Count → Image → Carried
in_image_lem c come records x = record { phase = InImage come records; edition = c.edition; held = c.held; state = with_image c.state x }

-- the whole image, by what start answers to it as it is laid out
started_at : Carried → Count → Image → Took
started_at c records x = started_by (first_of (start_refusals (whole_image c x))) c records (whole_image c x)

module _ (c : Carried) (come records : Count) (b : Byte) (phase : c.phase ≡ InImage come records) where
  image-one : suc come < (row_of c).image_bytes → took c b ≡ silent (in_image_lem c (suc come) records (set c.state.image come b))
  unfolding took_in took_image in_image_lem
  image-one h = byte_in c b phase ∙ pick_true _ _ (lt-ltb (suc come) (row_of c).image_bytes h)

  image_last : (row_of c).image_bytes ≤ suc come → took c b ≡ started_at c records (set c.state.image come b)
  unfolding took_in took_image started_at
  image_last h = byte_in c b phase ∙ pick-false _ _ (le-ltb (suc come) (row_of c).image_bytes h)

image_sets : (c : Carried) (come records : Count) (bs : Bytes) (n : Count) → c.phase ≡ InImage come records → come + length bs ≡ n → n < (row_of c).image_bytes
    → fed c bs ≡ silent (in_image_lem c n records (sets c.state.image come bs))
unfolding fed in_image_lem
image_sets c come records [] n e h l =
    let q : come ≡ n = omega arith in
    λ i. silent (record { phase = (e ∙ ap (λ k. InImage k records) q) i; edition = c.edition; held = c.held; state = c.state })
image_sets c come records (b ∷ bs) n e h l =
    rw (image-one c come records b e (omega arith))
    (image_sets (in_image_lem c (suc come) records (set c.state.image come b)) (suc come) records bs n refl (omega arith) l)

image-whole : (c : Carried) (come records : Count) (b : Byte) (bs : Bytes) → c.phase ≡ InImage come records → come + length (b ∷ bs) ≡ (row_of c).image_bytes
    → fed c (b ∷ bs) ≡ started_at c records (sets c.state.image come (b ∷ bs))
unfolding fed in_image_lem started_at started_by refused whole_image
image-whole c come records b [] e h = fed-one c b ∙ image_last c come records b e (omega arith)
image-whole c come records b (a ∷ bs) e h =
    rw (image-one c come records b e (omega arith))
    (image-whole (in_image_lem c (suc come) records (set c.state.image come b)) (suc come) records a bs refl (omega arith))

-- a part of the image
pub image-held : (c : Carried) (come records : Count) (bs : Bytes)
    → c.phase ≡ InImage come records → come + length bs < (row_of c).image_bytes → come + length bs ≤ length c.state.image
    → fed c bs
    ≡ silent (record {
      phase = InImage (come + length bs) records;
      edition = c.edition;
      held = c.held;
      state = with_image c.state (take come c.state.image ++ bs ++ drop (come + length bs) c.state.image);
    })
unfolding in_image_lem
image-held c come records bs e h l =
    image_sets c come records bs (come + length bs) e refl h
    ∙ ap (λ x. silent (in_image_lem c (come + length bs) records x)) (sets-eq bs c.state.image come l)

-- the rest of the image
pub image-judged : (c : Carried) (come records : Count) (bs : Bytes)
    → c.phase ≡ InImage come records → 0 < length bs → come + length bs ≡ (row_of c).image_bytes → come + length bs ≤ length c.state.image
    → let x : Image = whole_image c (take come c.state.image ++ bs ++ drop (come + length bs) c.state.image) in
    fed c bs ≡ started_by (first_of (start_refusals x)) c records x
unfolding started_at
image-judged c come records [] e p h l = absurd (omega arith)
image-judged c come records (b ∷ bs) e p h l =
    image-whole c come records b bs e h ∙ ap (started_at c records) (sets-eq (b ∷ bs) c.state.image come l)

-- the image in one stretch
pub whole-image : (c : Carried) (records : Count) (bs : Bytes)
    → c.phase ≡ InImage 0 records → length c.state.image ≡ image_length → length bs ≡ (row_of c).image_bytes
    → fed c bs ≡ started_by (first_of (start_refusals (laid_out bs))) c records (laid_out bs)
unfolding whole_image
whole-image c records bs e l h =
    let some = edition_some c.edition in
    let fits = edition-fits c.edition in
    image-judged c 0 records bs e (omega arith) (omega arith) (omega arith)
    ∙ ap (λ x. started_by (first_of (start_refusals (laid_out x))) c records (laid_out x))
    (take_at bs (drop (0 + length bs) c.state.image) (row_of c).image_bytes h)

-- ---- a record

module _ (c : Carried) (next : RecordIndex) (records : Count) (bs : Bytes) (phase : c.phase ≡ InRecords next records) where
  record_one : (bytes : Bytes) (b : Byte) → took (holding bytes c) b ≡ took_record c next records (bytes ++ (b ∷ []))
  unfolding took_in took_record played refused
  record_one bytes b = byte_in (holding bytes c) b phase

  module _ (due : next < records) where
    record_short : (bytes : Bytes) → ltb (length bytes) record_length ≡ true → took_record c next records bytes ≡ silent (holding bytes c)
    unfolding took_record
    record_short bytes l = pick_true _ _ (lt-ltb next records due) ∙ pick_true _ _ l

    pub record_held : length c.held + length bs < record_length → fed c bs ≡ silent (holding (c.held ++ bs) c)
    record_held = gathered c record_length (took_record c next records) record_one record_short c.held bs

    pub record_judged : 0 < length bs → length c.held + length bs ≡ record_length → fed c bs ≡ took_record c next records (c.held ++ bs)
    record_judged = judged c record_length (took_record c next records) record_one record_short bs

  pub whole_record : c.held ≡ [] → next < records → length bs ≡ record_length → is_record (row_of c) bs ≡ true
      → fed c bs ≡ played c next records (step early list_room c.state (event_of (row_of c) bs))
  unfolding took_record
  whole_record e due l good =
      record_judged due (omega arith) (rw e (omega arith))
      ∙ ap (λ held. took_record c next records (held ++ bs)) e
      ∙ pick_true _ _ (lt-ltb next records due)
      ∙ pick-false _ _ (le-ltb (length bs) record_length (omega arith))
      ∙ ap (judged_record c next records) (take_all record_length bs (omega arith))
      ∙ pick_true _ _ good

-- a bad line, and what comes after it
pub refused-rest : (c d : Carried) (a : Answer) (front rest : Bytes) → fed c front ≡ refused a d → fed c (front ++ rest) ≡ refused a d
unfolding refused
refused-rest c d a front rest e = rw (fed-append c front rest, e, over_stays (refused a d).carried refl rest, append-nil)

-- a byte after the last record
pub byte_more_lem : (c : Carried) (next : RecordIndex) (records : Count) (b : Byte) (bs : Bytes) → c.phase ≡ InRecords next records → records ≤ next
    → fed c (b ∷ bs) ≡ refused Malformed c
unfolding took_in took_record
byte_more_lem c next records b bs e h = refused-rest c c Malformed (b ∷ []) bs (fed-one c b ∙ byte_in c b e ∙ pick-false _ _ (le-ltb next records h))
