-- Laws of the part of a file that is its records: its chunks are the records. Assumes nothing.
use mathlib.Core.Path.{◌≡◌, ap, ◌∙◌}
use mathlib.Core.List.{List, []}
use Prim.Native.Nat.{ℕ, ◌+◌, ◌-◌, ◌*◌, ◌≤◌, ◌<◌}
use native.Mathlib.Omega.{arith}
use lib.ListN.{length, get_or, take, drop, length-drop}
use lib.Seq.{length-take-le, take_all, drop-drop}
use Rattle.std.specs.Simd.{first_chunks}
use Rattle.model.specs.File.{edition_of, records_offset, record_length, record_start, record_in}
use Rattle.night_file.proofs.Cuts.{chunk_at}

module _ (file : List ℕ) (offset : ℕ) where
  -- the bytes from the records on, which are lent
  abbrev rest : List ℕ
  rest = take (length file - offset) (drop offset file)

  rest_all : rest ≡ drop offset file
  rest_all = take_all (length file - offset) (drop offset file) (omega (arith, length-drop offset file))

  pub rest-length : length rest ≡ length file - offset
  rest-length = ap length rest_all ∙ length-drop offset file

  module _ (begins : offset ≡ records_offset (edition_of file)) where
    start : (k : ℕ) → offset + record_length * k ≡ record_start file k
    start k = omega (arith, begins)

    pub chunk-record : (records : List (List ℕ)) (n k : ℕ) → records ≡ first_chunks record_length n rest → k < n → get_or records k [] ≡ record_in file k
    unfolding record_in
    chunk-record records n k e h =
        ap (λ x. get_or x k []) e
        ∙ chunk_at n k rest h
        ∙ ap (λ x. take record_length (drop (record_length * k) x)) rest_all
        ∙ ap (take record_length) (drop-drop (record_length * k) offset file ∙ ap (λ m. drop m file) (start k))

    -- each of them lies whole in the file
    record-whole : (count k : ℕ) → offset + record_length * count ≤ length file → k < count → record_length ≤ length (record_in file k)
    unfolding record_in
    record-whole count k h l =
        let there : record_length ≤ length (drop (record_start file k) file) = omega (arith, length-drop (record_start file k) file, start k) in
        omega (arith, length-take-le record_length (drop (record_start file k) file) there)

    -- so is every chunk that is one of them
    pub chunk-whole : (records : List (List ℕ)) (n k count : ℕ) → records ≡ first_chunks record_length n rest → k < n → offset + record_length * count ≤ length file → k < count
        → record_length ≤ length (get_or records k [])
    chunk-whole records n k count e h room l = rw (chunk-record records n k e h) (record-whole count k room l)
