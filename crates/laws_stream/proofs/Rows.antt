-- The table of what is printed, row by row: the promises of specs/Streams.antt, kept. Assumes nothing.
use mathlib.Core.Path.{◌≡◌, refl, sym, ap, ◌∙◌, subst}
use mathlib.Core.Bool.{false}
use mathlib.Core.List.{[], ◌∷◌, ◌++◌, map, append-nil}
use mathlib.Core.Logic.{◌↔◌, ◌≢◌, ◌⊎◌, inl, inr}
use Prim.Native.Nat.{ℕ, zero, suc, ◌-◌, ◌*◌, ◌≤◌, ◌<◌}
use native.Mathlib.Decide.{dec_lt, ℕ_discrete}
use native.Mathlib.Omega.{arith}
use lib.Dec.{eqb}
use lib.ListN.{length, take, length-drop}
use lib.Seq.{drop-drop}
use borrow.Author.Tests.{eq-eqb, ne_eqb}
use Rattle.bits.specs.Choice.{pick, both}
use Rattle.bits.specs.Loop.{tab}
use Rattle.bits.proofs.Tests.{split, clash, pick-false}
use Rattle.bits.proofs.Loops.{tab_ext, length-tab}
use Rattle.model.specs.Numbers.{Bytes, Count, RecordIndex}
use Rattle.model.specs.Answers.{number, is_done}
use Rattle.model.specs.Refusals.{first_of, start_refusals}
use Rattle.model.specs.File.{edition_of, image_offset, records_offset, record_count, is_header, record_length, is_record, event_of, image_in, record_start, record_in}
use Rattle.model.specs.Text.{bad_line}
use Rattle.model.specs.Stream.{count_limit, after_image, leading_records, streamed}
use Rattle.model.specs.declared.answer.Answer.{Answer}
use Rattle.model.specs.declared.answer.Answer.TheVariants.{Done, Malformed}
use Rattle.laws.proofs.Unchanged.{done_is}
use Rattle.laws_stream.specs.Streams.{short, wrong, Headed, Imaged, Started, Good, Bad, malformed, cut_off, Played, lines_to, Row, no_header, no_image, refused_image, bad_record, byte_more, all_good}
use Rattle.laws_stream.proofs.Streamed.{records_text, image_text, streamed-short, streamed_bad, streamed-image}
use Rattle.laws_stream.proofs.Leading.{part, Leading, leading_are, leading_count}

map-tab : {A B : Type 0} (f : A → B) (n : Count) (g : ℕ → A) → map f (tab n g) ≡ tab n (λ k. f (g k))
unfolding tab
map-tab f zero g = refl
map-tab f (suc n) g = ap (λ r. f (g 0) ∷ r) (map-tab f n (λ k. g (suc k)))

module _ (bytes : Bytes) where
  -- a record of the file is one of what comes after the image
  pub record_part : (k : RecordIndex) → record_in bytes k ≡ part (after_image bytes) k
  unfolding record_in part after_image
  record_part k = ap (take record_length) (sym (drop-drop (record_length * k) (records_offset (edition_of bytes)) bytes))

  pub length-after : length (after_image bytes) ≡ length bytes - records_offset (edition_of bytes)
  unfolding after_image
  length-after = length-drop (records_offset (edition_of bytes)) bytes

  -- the good records that the model counts
  Counted : Count → Type 0
  Counted k = Leading (edition_of bytes) (record_count bytes) (after_image bytes) k

  -- the lines of the good records, and a bad line unless they are all
  lines_of : (k : Count) → Imaged bytes → Started Done bytes → Counted k
      → streamed bytes
      ≡ lines_to bytes k ++ pick (both (eqb k (record_count bytes)) (eqb (length (after_image bytes)) (record_length * record_count bytes))) [] (bad_line (number Malformed))
  unfolding Counted lines_to image_text records_text is_done pick
  lines_of k I S L =
      let e : leading_records (edition_of bytes) (record_count bytes) (after_image bytes) ≡ tab k (record_in bytes) =
      leading_are (edition_of bytes) (record_count bytes) (after_image bytes) k L ∙ tab_ext k (part (after_image bytes)) (record_in bytes) (λ j b. sym (record_part j)) in
      streamed-image bytes I.headed.right (omega (arith, I.whole)) ∙ rw (S, e, length-tab k (record_in bytes), map-tab (event_of (edition_of bytes)) k (record_in bytes))

  refused-streamed : (a : Answer) → a ≢ Done → Imaged bytes → Started a bytes → streamed bytes ≡ bad_line (number a)
  unfolding image_text
  refused-streamed a n I S =
      streamed-image bytes I.headed.right (omega (arith, I.whole))
      ∙ pick-false _ _ (split (is_done (first_of (start_refusals (image_in bytes)))) (λ d. absurd (n (sym S ∙ done_is _ d))) (λ d. d))
      ∙ ap (λ r. bad_line (number r)) S

  -- ---- the good records of a row, and those that are counted

  played_counted : (k : Count) → k ≤ record_count bytes → Played bytes k → (k < record_count bytes → Bad bytes k) → Counted k
  unfolding Counted
  played_counted k w P B = record {
    within = w;
    whole = all_whole k P.good;
    good = λ j b. rw (← record_part j) (P.good j b).formed;
    stops = λ b. stop (B b);
  }
    where
      all_whole : (n : Count) → ((j : RecordIndex) → j < n → Good bytes j) → record_length * n ≤ length (after_image bytes)
      all_whole zero good = omega arith
      all_whole (suc n) good = omega (arith, length-after, (good n (omega arith)).whole)

      stop : Bad bytes k → (length (after_image bytes) < record_length * suc k) ⊎ (is_record (edition_of bytes) (part (after_image bytes) k) ≡ false)
      stop (malformed e) = inr (rw (← record_part k) e)
      stop (cut_off l) = inl (omega (arith, length-after, P.imaged.whole))

  counted_played : (k : Count) → Imaged bytes → Started Done bytes → Counted k → Played bytes k
  unfolding Counted
  counted_played k I S L = record {
    imaged = I;
    taken = S;
    good = λ j b. record { whole = omega (arith, length-after, L.whole, I.whole); formed = rw (record_part j) (L.good j b) };
  }

  counted_bad : (k : Count) → Imaged bytes → Counted k → k < record_count bytes → Bad bytes k
  unfolding Counted
  counted_bad k I L b = elim (L.stops b) [
    | inl s ↦ cut_off (omega (arith, length-after, I.whole))
    | inr s ↦ malformed (rw (record_part k) s)
  ]

  -- ---- what each row prints

  pub row_prints : {text : Bytes} → Row bytes text → streamed bytes ≡ text
  unfolding both pick
  row_prints (no_header (short s)) = streamed-short bytes (omega arith)
  row_prints (no_header (wrong w)) = streamed_bad bytes w
  row_prints (no_image h s) = streamed-short bytes s
  row_prints (refused_image a n I S) = refused-streamed a n I S
  row_prints (bad_record k b P B) =
      lines_of k P.imaged P.taken (played_counted k (omega arith) P (λ l. B)) ∙ rw (ne_eqb k (record_count bytes) (λ q. omega arith))
  row_prints (byte_more P m) =
      lines_of (record_count bytes) P.imaged P.taken (played_counted (record_count bytes) (omega arith) P (λ l. absurd (omega arith)))
      ∙ rw (eq-eqb (record_count bytes) (record_count bytes) refl, ne_eqb (length (after_image bytes)) (record_length * record_count bytes) (λ q. omega (arith, length-after)))
  row_prints (all_good P m) =
      lines_of (record_count bytes) P.imaged P.taken (played_counted (record_count bytes) (omega arith) P (λ l. absurd (omega arith)))
      ∙ rw (eq-eqb (record_count bytes) (record_count bytes) refl, eq-eqb (length (after_image bytes)) (record_length * record_count bytes) (omega (arith, length-after)), append-nil)

  -- ---- every list of bytes has its row

  counted_row : (k : Count) → Imaged bytes → Started Done bytes → Counted k → (text : Bytes) × Row bytes text
  unfolding Counted
  counted_row k I S L =
      let P : Played bytes k = counted_played k I S L in
      elim (dec_lt k (record_count bytes)) [
        | yes b ↦ (_, bad_record k b P (counted_bad k I L b))
        | no b ↦
            let A : Played bytes (record_count bytes) = subst (Played bytes) (omega (arith, L.within)) P in
            elim (ℕ_discrete (length bytes) (record_start bytes (record_count bytes))) [
              | yes e ↦ (_, all_good A e)
              | no e ↦ (_, byte_more A (omega (arith, length-after, L.whole, I.whole)))
            ]
      ]

  its_row : (text : Bytes) × Row bytes text
  unfolding Counted is_done
  its_row = elim (dec_lt (length bytes) image_offset) [
    | yes s ↦ (_, no_header (short s))
    | no s ↦ split (is_header count_limit bytes)
        (λ h.
        let H : Headed bytes = record { whole = omega arith; right = h } in
        elim (dec_lt (length bytes) (records_offset (edition_of bytes))) [
          | yes l ↦ (_, no_image H l)
          | no l ↦
              let I : Imaged bytes = record { headed = H; whole = omega arith } in
              split (is_done (first_of (start_refusals (image_in bytes))))
              (λ d. counted_row _ I (done_is _ d) (leading_count (edition_of bytes) (record_count bytes) (after_image bytes)))
              (λ d. (_, refused_image _ (λ e. clash (ap is_done e) d) I refl))
        ])
        (λ h. (_, no_header (wrong h)))
  ]

  -- DEMAND 1, AMENDED FOR THE NIGHT IN PIECES: every list of bytes gets its text, and a text is printed exactly when a row of the table says so
  pub streamed_exactly : (text : Bytes) → (streamed bytes ≡ text) ↔ Row bytes text
  streamed_exactly text = (λ e. subst (Row bytes) (sym (row_prints its_row.1) ∙ e) its_row.1, row_prints)
