-- However bytes are cut into pieces, the same is printed. Assumes nothing.
use mathlib.Core.Path.{◌≡◌, refl, sym, ap, ap₂, ◌∙◌}
use mathlib.Core.Bool.{true, false}
use mathlib.Core.List.{List, [], ◌∷◌, ◌++◌, flatten, append_assoc, append-nil}
use Prim.Native.Nat.{zero, suc, ◌+◌, ◌-◌, ◌≤◌, ◌<◌}
use native.Mathlib.Decide.{dec_lt}
use native.Mathlib.Omega.{arith}
use lib.Dec.{leb}
use lib.ListN.{length, get_or, take, drop, take-append-drop, length-drop}
use lib.Seq.{length-take-le, take_all, get_or-take, drop-drop}
use borrow.Author.Tests.{lt-ltb, le-ltb, leb-true, leb-false, le-leb, lt-leb, ne_eqb}
use Rattle.bits.specs.Choice.{pick, both}
use Rattle.bits.proofs.Tests.{split, both_l, both_r, pick_true, pick-false}
use Rattle.model.specs.Numbers.{Bytes, Count, RecordIndex}
use Rattle.model.specs.Map.{Image, image_length}
use Rattle.model.specs.Answers.{number, is_done}
use Rattle.model.specs.Work.{early}
use Rattle.model.specs.Refusals.{first_of, start_refusals}
use Rattle.model.specs.Step.{Stepped, step, run}
use Rattle.model.specs.Outcome.{list_room}
use Rattle.model.specs.File.{edition_of, image_offset, records_offset, record_count, is_header, record_length, is_record, event_of, carried_image, laid_out, image_in}
use Rattle.model.specs.Text.{line, bad_line}
use Rattle.model.specs.Night.{lines_from}
use Rattle.model.specs.Stream.{Carried, Took, row_of, silent, holding, entering, refused, took_header, started_by, judged_record, took_record, played, ended_in, printed_after, fed, fed_all, count_limit, after_image, leading_records, streamed, begun}
use Rattle.model.specs.declared.answer.Answer.{Answer}
use Rattle.model.specs.declared.answer.Answer.TheVariants.{Malformed}
use Rattle.model.specs.declared.stream.Phase.TheVariants.{InImage, InRecords}
use Rattle.model.proofs.Editions.{edition-fits}
use Rattle.laws_stream.proofs.Streamed.{is_first_lem, records_text, text_bad, text-line, image_text, streamed-short, streamed_bad, streamed-image}
use Rattle.laws_stream.proofs.Headers.{count-front, header_front}
use Rattle.laws_stream.proofs.Stretches.{fed-append, end_in, refused-rest, over_ended, byte_more_lem, header_held, header_judged, image-held, whole-image, record_held, record_judged, whole_record}

-- ---- one piece

-- a stretch and then the rest
then : (c : Carried) (front rest : Bytes) → fed_all c ((front ++ rest) ∷ []) ≡ printed_after (fed c front).text (fed_all (fed c front).carried (rest ∷ []))
unfolding fed_all
then c front rest = rw (fed-append c front rest, append_assoc)

-- after a bad line nothing more is printed
bad_last : (c d : Carried) (a : Answer) (bytes : Bytes) → fed c bytes ≡ refused a d → (fed_all c (bytes ∷ [])).text ≡ bad_line (number a)
unfolding fed_all refused
bad_last c d a bytes e = rw (e, over_ended (refused a d).carried refl, append-nil)

-- bytes cut after the first n ..
cut-then : (c : Carried) (n : Count) (bytes : Bytes) {t : Took} → fed c (take n bytes) ≡ t
    → (fed_all c (bytes ∷ [])).text ≡ t.text ++ (fed_all t.carried (drop n bytes ∷ [])).text
cut-then c n bytes e =
    ap (λ r. (fed_all c (r ∷ [])).text) (sym (take-append-drop n bytes))
    ∙ ap (λ t. t.text) (then c (take n bytes) (drop n bytes))
    ∙ ap (λ (t : Took). t.text ++ (fed_all t.carried (drop n bytes ∷ [])).text) e

-- .. that print a bad line
cut_bad : (c d : Carried) (a : Answer) (n : Count) (bytes : Bytes) → fed c (take n bytes) ≡ refused a d → (fed_all c (bytes ∷ [])).text ≡ bad_line (number a)
cut_bad c d a n bytes e =
    ap (λ r. (fed_all c (r ∷ [])).text) (sym (take-append-drop n bytes)) ∙ bad_last c d a _ (refused-rest c d a (take n bytes) (drop n bytes) e)

-- pieces are their bytes in one
as_one : (c : Carried) (pieces : List Bytes) → fed_all c pieces ≡ fed_all c (flatten pieces ∷ [])
unfolding fed_all fed flatten
as_one c [] = refl
as_one c (piece ∷ pieces) = rw (then c piece (flatten pieces), as_one (fed c piece).carried pieces)

-- ---- the records

-- the records that are due, from the next one on, with nothing held
record Awaits (c : Carried) (next : RecordIndex) (records : Count) : Type 0 where
  phase : c.phase ≡ InRecords next records
  none : c.held ≡ []

module _ (c : Carried) (next : RecordIndex) (records : Count) (w : Awaits c next records) where
  none_due : records ≡ next → (bytes : Bytes) → (fed_all c (bytes ∷ [])).text ≡ records_text (row_of c) next c.state 0 bytes
  unfolding records_text leading_records lines_from run both pick fed_all fed ended_in
  none_due e [] = rw (end_in c w.phase, le-leb records next (omega arith), w.none)
  none_due e (b ∷ bytes) =
      rw (ne_eqb (suc (length bytes)) 0 (λ q. omega arith))
      (bad_last c c Malformed (b ∷ bytes) (byte_more_lem c next records b bytes w.phase (omega arith)))

  module _ (due : next < records) (bytes : Bytes) where
    cut_off_lem : length bytes < record_length → (fed_all c (bytes ∷ [])).text ≡ bad_line (number Malformed)
    unfolding fed_all ended_in both pick refused
    cut_off_lem h = rw (
      record_held c next records bytes w.phase due (rw w.none (omega arith)),
      end_in (holding (c.held ++ bytes) c) w.phase,
      lt-leb records next due,
    )

    malformed : record_length ≤ length bytes → is_record (row_of c) (take record_length bytes) ≡ false → (fed_all c (bytes ∷ [])).text ≡ bad_line (number Malformed)
    unfolding took_record
    malformed h bad =
        let l : length (take record_length bytes) ≡ record_length = length-take-le record_length bytes h in
        cut_bad c c Malformed record_length bytes
        (record_judged c next records (take record_length bytes) w.phase due (omega arith) (rw w.none (omega arith))
        ∙ ap (λ held. took_record c next records (held ++ take record_length bytes)) w.none
        ∙ pick_true _ _ (lt-ltb next records due)
        ∙ pick-false _ _ (le-ltb (length (take record_length bytes)) record_length (omega arith))
        ∙ ap (judged_record c next records) (take_all record_length (take record_length bytes) (omega arith))
        ∙ pick-false _ _ bad)

    stops : is_first_lem (row_of c) bytes ≡ false → (fed_all c (bytes ∷ [])).text ≡ bad_line (number Malformed)
    unfolding is_first_lem both
    stops h = split (leb record_length (length bytes)) (λ l. malformed (leb-true _ _ l) (rw (l, both) at h)) (λ l. cut_off_lem (leb-false _ _ l))

    goes : is_first_lem (row_of c) bytes ≡ true
        → let o : Stepped = step early list_room c.state (event_of (row_of c) (take record_length bytes)) in
        (fed_all c (bytes ∷ [])).text
        ≡ line next (number o.answer) o.bytes ++ (fed_all (entering (InRecords (suc next) records) o.state c) (drop record_length bytes ∷ [])).text
    unfolding is_first_lem played
    goes h =
        let l : record_length ≤ length bytes = leb-true _ _ (both_l _ _ h) in
        cut-then c record_length bytes
        (whole_record c next records (take record_length bytes) w.phase w.none due (length-take-le record_length bytes l) (both_r _ _ h))

-- all that is printed from here on
records-text : (n : Count) (c : Carried) (next : RecordIndex) (records : Count) (bytes : Bytes) → Awaits c next records → next + n ≡ records
    → (fed_all c (bytes ∷ [])).text ≡ records_text (row_of c) next c.state n bytes
records-text zero c next records bytes w h = none_due c next records w (omega arith) bytes
records-text (suc n) c next records bytes w h =
    let o : Stepped = step early list_room c.state (event_of (row_of c) (take record_length bytes)) in
    split (is_first_lem (row_of c) bytes)
    (λ f.
    goes c next records w (omega arith) bytes f
    ∙ ap (λ r. line next (number o.answer) o.bytes ++ r)
    (records-text n (entering (InRecords (suc next) records) o.state c) (suc next) records (drop record_length bytes) (record { phase = refl; none = refl }) (omega arith))
    ∙ sym (text-line (row_of c) next c.state n bytes f))
    (λ f. stops c next records w (omega arith) bytes f ∙ sym (text_bad (row_of c) next c.state n bytes f))

-- ---- the image, and the records after it

module _ (c : Carried) (records : Count) (bytes : Bytes) (phase : c.phase ≡ InImage 0 records) (size : length c.state.image ≡ image_length) where
  image-cut_off : length bytes < (row_of c).image_bytes → (fed_all c (bytes ∷ [])).text ≡ bad_line (number Malformed)
  unfolding fed_all ended_in refused
  image-cut_off h = rw (image-held c 0 records bytes phase (omega arith) (omega (arith, edition-fits c.edition))) (ap (λ t. t.text) (end_in _ refl))

  image-text : (row_of c).image_bytes ≤ length bytes
      → (fed_all c (bytes ∷ [])).text ≡ image_text (row_of c) (laid_out (take (row_of c).image_bytes bytes)) records (drop (row_of c).image_bytes bytes)
  unfolding started_by image_text
  image-text whole =
      let n : Count = (row_of c).image_bytes in
      let x : Image = laid_out (take n bytes) in
      let judged : fed c (take n bytes) ≡ started_by (first_of (start_refusals x)) c records x =
      whole-image c records (take n bytes) phase size (length-take-le n bytes whole) in
      split (is_done (first_of (start_refusals x)))
      (λ d.
      cut-then c n bytes (judged ∙ pick_true _ _ d)
      ∙ records-text records _ 0 records (drop n bytes) (record { phase = refl; none = refl }) (omega arith)
      ∙ sym (pick_true _ _ d))
      (λ d. cut_bad c _ _ n bytes (judged ∙ pick-false _ _ d) ∙ sym (pick-false _ _ d))

-- ---- the header, and all after it

-- after a right header
headed : Image → Bytes → Carried
headed x header = record { phase = InImage 0 (record_count header); edition = get_or header 2 0; held = []; state = (begun x).state }

headed-front : (x : Image) (bytes : Bytes) → headed x (take image_offset bytes) ≡ headed x bytes
unfolding headed
headed-front x bytes = λ i. record {
  phase = InImage 0 (count-front bytes i);
  edition = get_or-take image_offset bytes 2 0 (omega arith) i;
  held = [];
  state = (begun x).state;
}

module _ (x : Image) (bytes : Bytes) where
  header_cut_off : length bytes < image_offset → (fed_all (begun x) (bytes ∷ [])).text ≡ bad_line (number Malformed)
  unfolding fed_all ended_in refused begun
  header_cut_off h = rw (header_held (begun x) bytes refl (omega arith)) (ap (λ t. t.text) (end_in _ refl))

  module _ (whole : image_offset ≤ length bytes) where
    header_by : {t : Took} → pick (is_header count_limit bytes) (silent (headed x bytes)) (refused Malformed (begun x)) ≡ t → fed (begun x) (take image_offset bytes) ≡ t
    unfolding begun took_header headed
    header_by e =
        let l : length (take image_offset bytes) ≡ image_offset = length-take-le image_offset bytes whole in
        header_judged (begun x) (take image_offset bytes) refl (omega arith) (omega arith)
        ∙ pick-false _ _ (le-ltb (length (take image_offset bytes)) image_offset (omega arith))
        ∙ ap₂ (λ test c. pick test (silent c) (refused Malformed (begun x))) (header_front count_limit bytes) (headed-front x bytes)
        ∙ e

    header_bad : is_header count_limit bytes ≡ false → (fed_all (begun x) (bytes ∷ [])).text ≡ bad_line (number Malformed)
    header_bad h = cut_bad (begun x) (begun x) Malformed image_offset bytes (header_by (pick-false _ _ h))

    header_good : is_header count_limit bytes ≡ true → (fed_all (begun x) (bytes ∷ [])).text ≡ (fed_all (headed x bytes) (drop image_offset bytes ∷ [])).text
    header_good h = cut-then (begun x) image_offset bytes (header_by (pick_true _ _ h))

-- ---- all of it

module _ (x : Image) (size : length x ≡ image_length) where
  one_piece : (bytes : Bytes) → (fed_all (begun x) (bytes ∷ [])).text ≡ streamed bytes
  unfolding headed begun carried_image after_image
  one_piece bytes = elim (dec_lt (length bytes) image_offset) [
    | yes s ↦ header_cut_off x bytes s ∙ sym (streamed-short bytes (omega arith))
    | no s ↦
        let left : length (drop image_offset bytes) ≡ length bytes - image_offset = length-drop image_offset bytes in
        split (is_header count_limit bytes)
        (λ h. header_good x bytes (omega arith) h ∙ elim (dec_lt (length bytes) (records_offset (edition_of bytes))) [
          | yes l ↦ image-cut_off (headed x bytes) (record_count bytes) (drop image_offset bytes) refl size (omega arith) ∙ sym (streamed-short bytes l)
          | no l ↦ image-text (headed x bytes) (record_count bytes) (drop image_offset bytes) refl size (omega arith)
              ∙ ap (image_text (edition_of bytes) (image_in bytes) (record_count bytes)) (drop-drop (edition_of bytes).image_bytes image_offset bytes)
              ∙ sym (streamed-image bytes h (omega arith))
        ])
        (λ h. header_bad x bytes (omega arith) h ∙ sym (streamed_bad bytes h))
  ]

  -- THE THEOREM: the texts of the pieces and of the end, in a row, are what is printed for all their bytes
  pub pieces_whole : (pieces : List Bytes) → (fed_all (begun x) pieces).text ≡ streamed (flatten pieces)
  pieces_whole pieces = ap (λ t. t.text) (as_one (begun x) pieces) ∙ one_piece (flatten pieces)

-- so two ways of cutting one file print the same, whatever image was lent
pub cuts_alike : (x y : Image) → length x ≡ image_length → length y ≡ image_length → (ps qs : List Bytes) → flatten ps ≡ flatten qs
    → (fed_all (begun x) ps).text ≡ (fed_all (begun y) qs).text
cuts_alike x y sx sy ps qs e = pieces_whole x sx ps ∙ ap streamed e ∙ sym (pieces_whole y sy qs)
