-- What a file that is not well-formed prints: the promises of specs/Streams.antt, kept. Assumes nothing.
use mathlib.Core.Path.{◌≡◌, refl, sym, ap, ◌∙◌, subst}
use mathlib.Core.Bool.{true, false}
use mathlib.Core.List.{List, [], ◌∷◌, ◌++◌, flatten, append-nil, append_assoc}
use mathlib.Core.Logic.{◌≢◌, ◌⊎◌, inl}
use Prim.Native.Nat.{zero, suc, ◌+◌, ◌*◌, ◌≤◌, ◌<◌}
use native.Mathlib.Nat.{mod-eq_of_lt}
use native.Mathlib.Omega.{arith}
use lib.Dec.{leb}
use lib.ListN.{length, get_or, take, drop, length-append, length-drop, get_or-append}
use lib.Seq.{length-take-le, take_at, drop_at, get_or-take}
use borrow.Author.Tests.{leb-true, le-leb, eqb-true, eq-eqb}
use Rattle.bits.specs.Choice.{pick, both}
use Rattle.bits.proofs.Tests.{split, clash, both_l, both_r, both_i, pick_true, pick-false}
use Rattle.bits.proofs.Loops.{all_intro}
use Rattle.bits.proofs.Words.{length-put-word, word-byte_other, word_ext, word-put}
use Rattle.model.specs.Numbers.{Bytes, Count, Index}
use Rattle.model.specs.Answers.{number, is_done}
use Rattle.model.specs.Refusals.{first_of, start_refusals}
use Rattle.model.specs.File.{Edition, later_editions, edition_among, edition_of, image_offset, records_offset, record_count, is_header, record_length, is_record, carried_image, laid_out, image_in, is_whole_length, is_well_formed}
use Rattle.model.specs.Text.{bad_line}
use Rattle.model.specs.Night.{printed_up_to}
use Rattle.model.specs.Stream.{count_limit, has_image, after_image, leading_records, good_records, good_lines, is_all, streamed_by, streamed}
use Rattle.model.specs.declared.answer.Answer.{Answer}
use Rattle.model.specs.declared.answer.Answer.TheVariants.{Done, Malformed}
use Rattle.laws.proofs.Unchanged.{done_is}
use Rattle.laws_stream.specs.Streams.{WellFormed, Imaged, Started, refused_image, good_header, good_file, FaultText, not_imaged, not_taken, late}
use Rattle.laws_stream.proofs.Headers.{header_same}
use Rattle.laws_stream.proofs.Streamed.{streamed-none}
use Rattle.laws_stream.proofs.Rows.{record_part, length-after, row_prints}
use Rattle.laws_stream.proofs.Whole.{streamed-whole}
use Rattle.laws_stream.proofs.Leading.{Leading, leading_count}

-- ---- good records in a row

data Records (e : Edition) : List Bytes → Type 0 where
  none : Records e []
  one : {r : Bytes} {rs : List Bytes} → length r ≡ record_length → is_record e r ≡ true → Records e rs → Records e (r ∷ rs)

leading_records_lem : (e : Edition) (n : Count) (bytes : Bytes) → Records e (leading_records e n bytes)
unfolding leading_records pick
leading_records_lem e zero bytes = none
leading_records_lem e (suc n) bytes = split (both (leb record_length (length bytes)) (is_record e (take record_length bytes)))
    (λ f. rw (f, pick) (one (length-take-le record_length bytes (leb-true _ _ (both_l _ _ f))) (both_r _ _ f) (leading_records_lem e n (drop record_length bytes))))
    (λ f. rw (f, pick) none)

-- bytes of just these records lead with all of them
row_length : (e : Edition) (rs : List Bytes) → Records e rs → length (flatten rs) ≡ record_length * length rs
unfolding flatten
row_length e [] none = refl
row_length e (r ∷ rs) (one l g R) = omega (arith, length-append r (flatten rs), row_length e rs R)

row_leads : (e : Edition) (rs : List Bytes) → Records e rs → leading_records e (length rs) (flatten rs) ≡ rs
unfolding flatten leading_records
row_leads e [] none = refl
row_leads e (r ∷ rs) (one l g R) =
    let h : record_length ≤ length (r ++ flatten rs) = omega (arith, length-append r (flatten rs)) in
    rw (take_at r (flatten rs) record_length l, drop_at r (flatten rs) record_length l)
    (pick_true _ _ (both_i (le-leb record_length (length (r ++ flatten rs)) h) g) ∙ ap (λ q. r ∷ q) (row_leads e rs R))

-- ---- a file with a whole image

imaged-has : (bytes : Bytes) → Imaged bytes → has_image bytes ≡ true
unfolding has_image
imaged-has bytes I = both_i I.headed.right (le-leb (records_offset (edition_of bytes)) (length bytes) (omega (arith, I.whole)))

has-imaged : (bytes : Bytes) → has_image bytes ≡ true → Imaged bytes
unfolding has_image
has-imaged bytes h =
    let l : records_offset (edition_of bytes) ≤ length bytes = leb-true _ _ (both_r _ _ h) in
    record { headed = record { whole = omega arith; right = both_l _ _ h }; whole = l }

module _ (bytes : Bytes) (I : Imaged bytes) where
  counted : Leading (edition_of bytes) (record_count bytes) (after_image bytes) (length (good_records bytes))
  unfolding good_records
  counted = leading_count (edition_of bytes) (record_count bytes) (after_image bytes)

  -- where the good records are all it is well-formed
  all_formed : is_all bytes ≡ true → WellFormed count_limit bytes
  unfolding is_all is_well_formed is_whole_length
  all_formed a =
      let n : length (good_records bytes) ≡ record_count bytes = eqb-true _ _ (both_l _ _ a) in
      let l : length (after_image bytes) ≡ record_length * record_count bytes = eqb-true _ _ (both_r _ _ a) in
      both_i
      (both_i I.headed.right
      (eq-eqb (length bytes) (records_offset (edition_of bytes) + record_length * record_count bytes) (omega (arith, length-after bytes, I.whole))))
      (all_intro (record_count bytes) _ (λ j b. rw (record_part bytes j) (counted.good j (omega arith))))

  taken-lines : Started Done bytes → streamed bytes ≡ good_lines bytes ++ pick (is_all bytes) [] (bad_line (number Malformed))
  unfolding streamed streamed_by is_done pick
  taken-lines S = rw (imaged-has bytes I, S)

-- ---- the file of the good records

middle : (h x r : Bytes) (m n : Count) → length h ≡ m → length x ≡ n → take n (drop m (h ++ x ++ r)) ≡ x
middle h x r m n e f = rw (append_assoc h x r, drop_at h (x ++ r) m e, take_at x r n f)

module _ (bytes : Bytes) (I : Imaged bytes) where
  header_length : length (good_header bytes) ≡ image_offset
  unfolding good_header
  header_length = length-put-word 4 (take image_offset bytes) 4 _ ∙ length-take-le image_offset bytes I.headed.whole

  image-size : length (carried_image bytes) ≡ (edition_of bytes).image_bytes
  unfolding carried_image
  image-size = length-take-le (edition_of bytes).image_bytes (drop image_offset bytes) (omega (arith, length-drop image_offset bytes, I.whole))

  front_length : length (good_header bytes ++ carried_image bytes) ≡ records_offset (edition_of bytes)
  front_length = omega (arith, length-append (good_header bytes) (carried_image bytes), header_length, image-size)

  good-byte : (j : Index) → j < image_offset → get_or (good_file bytes) j 0 ≡ get_or (good_header bytes) j 0
  unfolding good_file
  good-byte j b =
      get_or-append (good_header bytes ++ carried_image bytes) (flatten (good_records bytes)) 0 j (omega (arith, front_length))
      ∙ get_or-append (good_header bytes) (carried_image bytes) 0 j (omega (arith, header_length))

  few : record_count bytes ≤ count_limit
  unfolding is_header
  few = leb-true _ _ (both_l _ _ (both_r _ _ (both_r _ _ I.headed.right)))

  good-count : record_count (good_file bytes) ≡ length (good_records bytes)
  unfolding record_count good_header
  good-count =
      word_ext 4 (good_file bytes) (good_header bytes) 4 (λ k b. good-byte (4 + k) (omega arith))
      ∙ word-put 4 (take image_offset bytes) 4 _ (omega (arith, length-take-le image_offset bytes I.headed.whole))
      ∙ mod-eq_of_lt (omega (arith, (counted bytes I).within, few))

  good-same : (j : Index) → j < image_offset → (j < 4) ⊎ (8 ≤ j) → get_or (good_file bytes) j 0 ≡ get_or bytes j 0
  unfolding good_header
  good-same j b s = good-byte j b ∙ word-byte_other 4 (take image_offset bytes) 4 _ j s ∙ get_or-take image_offset bytes j 0 b

  good_header_lem : is_header count_limit (good_file bytes) ≡ true
  good_header_lem =
      header_same count_limit (good_file bytes) bytes good-same
      (le-leb (record_count (good_file bytes)) count_limit (omega (arith, good-count, (counted bytes I).within, few)) ∙ sym (le-leb (record_count bytes) count_limit few))
      ∙ I.headed.right

  same-edition : edition_of (good_file bytes) ≡ edition_of bytes
  same-edition = ap (edition_among later_editions) (good-same 2 (omega arith) (inl (omega arith)))

  good-image : carried_image (good_file bytes) ≡ carried_image bytes
  unfolding carried_image good_file
  good-image =
      ap (λ (e : Edition). take e.image_bytes (drop image_offset (good_file bytes))) same-edition
      ∙ middle (good_header bytes) (carried_image bytes) (flatten (good_records bytes)) image_offset (edition_of bytes).image_bytes header_length image-size

  good-after : after_image (good_file bytes) ≡ flatten (good_records bytes)
  unfolding after_image good_file
  good-after =
      ap (λ (e : Edition). drop (records_offset e) (good_file bytes)) same-edition
      ∙ drop_at (good_header bytes ++ carried_image bytes) (flatten (good_records bytes)) (records_offset (edition_of bytes)) front_length

  records : Records (edition_of bytes) (good_records bytes)
  unfolding good_records
  records = leading_records_lem (edition_of bytes) (record_count bytes) (after_image bytes)

  good-records : good_records (good_file bytes) ≡ good_records bytes
  unfolding good_records
  good-records = rw (same-edition, good-count, good-after) (row_leads (edition_of bytes) (good_records bytes) records)

  good-imaged : Imaged (good_file bytes)
  unfolding good_file
  good-imaged =
      let l : records_offset (edition_of bytes) ≤ length (good_file bytes) =
      omega (arith, length-append (good_header bytes ++ carried_image bytes) (flatten (good_records bytes)), front_length) in
      record { headed = record { whole = omega arith; right = good_header_lem }; whole = rw same-edition l }

  good_all : is_all (good_file bytes) ≡ true
  unfolding is_all
  good_all = both_i
      (eq-eqb (length (good_records (good_file bytes))) (record_count (good_file bytes)) (ap length good-records ∙ sym good-count))
      (eq-eqb (length (after_image (good_file bytes))) (record_length * record_count (good_file bytes))
      (ap length good-after ∙ row_length (edition_of bytes) (good_records bytes) records ∙ sym (ap (λ n. record_length * n) good-count)))

  good-formed : WellFormed count_limit (good_file bytes)
  good-formed = all_formed (good_file bytes) good-imaged good_all

  good-printed : Started Done bytes → printed_up_to count_limit (good_file bytes) ≡ good_lines bytes
  unfolding good_lines
  good-printed S =
      sym (streamed-whole (good_file bytes) good-formed)
      ∙ taken-lines (good_file bytes) good-imaged (ap (λ x. first_of (start_refusals (laid_out x))) good-image ∙ S)
      ∙ ap (λ text. good_lines (good_file bytes) ++ text) (pick_true _ _ good_all)
      ∙ append-nil (good_lines (good_file bytes))
      ∙ rw (same-edition, good-image, good-records)

-- ---- the theorem

module _ (bytes : Bytes) (fault : WellFormed count_limit bytes → ⊥) where
  late-text : Imaged bytes → Started Done bytes → FaultText bytes (streamed bytes)
  late-text I S =
      subst (FaultText bytes)
      (ap (λ text. text ++ bad_line (number Malformed)) (good-printed bytes I S) ∙ sym (taken-lines bytes I S ∙ ap (λ text. good_lines bytes ++ text) (pick-false _ _ not_all)))
      (late I S (good-formed bytes I))
    where
      not_all : is_all bytes ≡ false
      not_all = split (is_all bytes) (λ a. absurd (fault (all_formed bytes I a))) (λ a. a)

  refused-text : (a : Answer) → a ≢ Done → Imaged bytes → Started a bytes → FaultText bytes (streamed bytes)
  refused-text a n I S = subst (FaultText bytes) (sym (row_prints bytes (refused_image a n I S))) (not_taken a n I S)

  -- THE THEOREM for every file that is not well-formed
  pub streamed_fault : FaultText bytes (streamed bytes)
  unfolding is_done
  streamed_fault = split (has_image bytes)
      (λ h. split (is_done (first_of (start_refusals (image_in bytes))))
      (λ d. late-text (has-imaged bytes h) (done_is _ d))
      (λ d. refused-text _ (λ e. clash (ap is_done e) d) (has-imaged bytes h) refl))
      (λ h. subst (FaultText bytes) (sym (streamed-none bytes h)) (not_imaged (λ I. clash (imaged-has bytes I) h)))
