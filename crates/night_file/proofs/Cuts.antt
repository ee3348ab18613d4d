-- Laws of a file's parts: its first bytes are its header, and the chunks behind its image its records. Assumes nothing.
use mathlib.Core.Path.{◌≡◌, refl, ap, ap₂, ◌∙◌}
use mathlib.Core.List.{List, []}
use Prim.Native.Nat.{ℕ, zero, suc, ◌+◌, ◌*◌, ◌/◌, ◌≤◌, ◌<◌}
use native.Mathlib.Omega.{arith}
use lib.ListN.{length, get_or, take, drop, length-drop, length-take}
use lib.Seq.{drop-drop}
use Rattle.std.specs.Simd.{first_chunks}
use Rattle.std.proofs.lemmas.List.{get_or-take}
use Rattle.bits.specs.Word.{word}
use Rattle.bits.proofs.Words.{word_ext}
use Rattle.model.specs.File as file
use Rattle.night_records.specs.Edition.{row_of}
use Rattle.night_records.specs.declared.Edition.{Edition}
use Rattle.night_file.specs.Parts.{IsNight}
use Rattle.model.specs.Map.{image_length}
use Rattle.model.proofs.Editions.{edition-fits}
use Rattle.model.specs.File.{later_editions, edition_among, edition_of, is_header, record_count, image_offset, records_offset, record_length, carried_image, record_start, record_in}

-- ---- the header
module _ (file : List ℕ) where
  front : (i : ℕ) → i < image_offset → get_or (take image_offset file) i 0 ≡ get_or file i 0
  front i b = get_or-take image_offset file i 0 b

  front_word : (at : ℕ) → at + 4 ≤ image_offset → word 4 (take image_offset file) at ≡ word 4 file at
  front_word at b = word_ext 4 _ _ at (λ k l. front (at + k) (omega arith))

  pub front_edition : edition_of (take image_offset file) ≡ edition_of file
  front_edition = ap (edition_among later_editions) (front 2 (omega arith))

  pub front_count : record_count (take image_offset file) ≡ record_count file
  unfolding record_count
  front_count = front_word 4 (omega arith)

  pub front_header : (limit : ℕ) → is_header limit (take image_offset file) ≡ is_header limit file
  unfolding is_header
  front_header limit =
      rw (front 0 (omega arith), front 1 (omega arith), front 2 (omega arith), front 3 (omega arith), front_count, front_word 8 (omega arith), front_word 12 (omega arith))

-- ---- the records
next : (k : ℕ) → record_length + record_length * k ≡ record_length * suc k
next k = omega arith

pub chunk_at : (n k : ℕ) (xs : List ℕ) → k < n → get_or (first_chunks record_length n xs) k [] ≡ take record_length (drop (record_length * k) xs)
chunk_at zero k xs h = absurd (omega arith)
chunk_at (suc n) zero xs h = refl
chunk_at (suc n) (suc k) xs h =
    chunk_at n k (drop record_length xs) (omega arith) ∙ ap (take record_length) (drop-drop (record_length * k) record_length xs ∙ ap (λ m. drop m xs) (next k))

-- the chunks behind the image of a file
module _ (file : List ℕ) (n : ℕ) (whole : length file ≡ records_offset (edition_of file) + record_length * record_count file) (carried : n ≡ (edition_of file).image_bytes) where
  abbrev rest : List ℕ
  rest = drop n (drop image_offset file)

  rest-length : length rest ≡ record_length * record_count file
  rest-length = omega (arith, length-drop n (drop image_offset file), length-drop image_offset file)

  start : (k : ℕ) → image_offset + (n + record_length * k) ≡ record_start file k
  start k = omega (arith, carried)

  pub chunks-counted : length rest / record_length ≡ record_count file
  chunks-counted = omega (arith, rest-length)

  pub chunks-each : (k : ℕ) → k < length rest / record_length → get_or (first_chunks record_length (length rest / record_length) rest) k [] ≡ record_in file k
  unfolding record_in
  chunks-each k h = chunk_at (length rest / record_length) k rest h ∙ ap (take record_length) (drop-drop (record_length * k) n (drop image_offset file) ∙ drop-drop (n + record_length * k) image_offset file ∙ ap (λ m. drop m file) (start k))

abbrev image_bytes_of : file.Edition → ℕ
image_bytes_of e = e.image_bytes

-- the parts that a file is cut into
pub night_cut : (file header behind image after : List ℕ) (records : List (List ℕ)) (e : Edition) (n : ℕ)
    → length file ≡ records_offset (edition_of file) + record_length * record_count file
    → header ≡ take image_offset file → behind ≡ drop image_offset file → row_of e ≡ edition_of header → n ≡ (row_of e).image_bytes
    → image ≡ take n behind → after ≡ drop n behind
    → records ≡ first_chunks record_length (length after / record_length) after → length records ≡ length after / record_length → IsNight file e image records
unfolding carried_image
night_cut file header behind image after records e n whole h b named bytes i r chunks counted =
    let m : row_of e ≡ edition_of file = named ∙ ap edition_of h ∙ front_edition file in
    let c : n ≡ (edition_of file).image_bytes = bytes ∙ ap image_bytes_of m in
    let q : after ≡ drop n (drop image_offset file) = r ∙ ap (drop n) b in
    let l : length records ≡ length (drop n (drop image_offset file)) / record_length = counted ∙ ap (λ x. length x / record_length) q in
    record {
      named = m;
      carried = i ∙ ap₂ take c b;
      counted = l ∙ chunks-counted file n whole c;
      each = λ k f. ap (λ x. get_or x k []) (chunks ∙ ap (λ x. first_chunks record_length (length x / record_length) x) q) ∙ chunks-each file n whole c k (rw l at f);
    }

-- what a file carries of its image is no longer than an image
pub night_fits : {file image : List ℕ} {records : List (List ℕ)} {e : Edition} → IsNight file e image records → length image ≤ image_length
unfolding carried_image
night_fits {file} night =
    rw (night.carried) (omega (arith, length-take (edition_of file).image_bytes (drop image_offset file), edition-fits (get_or file 2 0)))
