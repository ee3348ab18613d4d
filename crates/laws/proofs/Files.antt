-- A header and a record are refused exactly when they have a fault; a night file, with any limit of records, is answered 9 exactly when it has
-- a fault, and else what start answers to its image (01 "The night file"). Assumes nothing.
use Rattle.std.proofs.Common.{Err, Ok, Result}
use mathlib.Core.Path.{◌≡◌, refl, ap, subst, ◌∙◌}
use mathlib.Core.Bool.{Bool, true, false, not}
use mathlib.Core.List.{List, [], ◌++◌}
use mathlib.Core.Logic.{◌⊎◌, inl, inr, ◌↔◌, ◌≢◌}
use Prim.Native.Nat.{ℕ, zero, suc, ◌+◌, ◌*◌, ◌≤◌, ◌<◌}
use native.Mathlib.Decide.{ℕ_discrete, dec_lt}
use native.Mathlib.Omega.{arith}
use lib.Dec.{ltb}
use lib.ListN.{length, get_or}
use borrow.Author.Tests.{ltb-true, ltb-false, leb-true, leb-false, eqb-true, eqb-false, lt-ltb, le-ltb, le-leb, eq-eqb, ne_eqb}
use Rattle.bits.specs.Choice.{pick, both, implies}
use Rattle.bits.specs.Loop.{all_below}
use Rattle.bits.proofs.Tests.{split, clash, both_l, both_r, implies_use, pick_true, pick-false}
use Rattle.bits.proofs.Loops.{all_at}
use Rattle.model.specs.Map.{image_length}
use Rattle.model.specs.Answers.{number, is_done}
use Rattle.model.specs.Refusals.{first_of, is_flat, is_back_to_front, wrong_length, image_refusals, start_refusals}
use Rattle.model.specs.Outcome.{start_outcome_by, start_outcome}
use Rattle.model.specs.File.{Form, Edition, forms_with, once_call, lasting_call, line_bytes, power_forms, later_editions, edition_among, edition_of, records_offset, record_length, record_count, is_header, is_whole_length, carried_image, image_in, record_in, kind_of, write_kind, read_kind, work_kind, hardware_kind, condition_kind, sample_kind, module_kind, line_kind, data_limit, written_bytes, used_bytes, is_record, is_well_formed, file_check_by, file_check_up_to}
use Rattle.model.specs.declared.answer.Answer.TheVariants.{WrongLength, FlatMemory, Malformed, BackToFront}
use Rattle.model.specs.declared.answer.Answer.{Answer}
use Rattle.model.specs.declared.event.Call.{Call}
use Rattle.model.proofs.Editions.{first, row, among-has, length_laid_out}
use Rattle.laws.specs.Files.{NotListed, condition_bytes, Unused, past_count, past_data, past_read, past_work, past_hardware, past_condition, past_sample, past_module, past_line, RecordFault, no_such_kind, unused_byte, neither_on_nor_off, HeaderFault, first_letter, second_letter, other_edition, not_zero, too_many, image_elsewhere, records_elsewhere, Fault, in_header, other_length, in_record, Found, malformed, flat, back_to_front, good}

-- ---- tests that fail

both_fails {ℓ} : {P : Type ℓ} (a b : Bool) → (a ≡ false → P) → (b ≡ false → P) → both a b ≡ false → P
unfolding both
both_fails true b f g e = g e
both_fails false b f g e = f refl

implies_fails : (a b : Bool) → implies a b ≡ false → (a ≡ true) × (b ≡ false)
unfolding implies
implies_fails true b e = (refl, e)
implies_fails false b e = absurd (clash refl e)

all_fails : (n : ℕ) (p : ℕ → Bool) → all_below n p ≡ false → (k : ℕ) × (k < n) × (p k ≡ false)
unfolding all_below
all_fails zero p e = absurd (clash refl e)
all_fails (suc n) p e = both_fails (all_below n p) (p n)
    (λ a. let r = all_fails n p a in (r.0, omega arith, r.2))
    (λ b. (n, omega arith, b)) e

-- a test fails exactly on a fault, if a failure shows one and none is met where the test holds
fails_exactly {ℓ} : {P : Type ℓ} (b : Bool) → (b ≡ false → P) → (b ≡ true → P → ⊥) → (b ≡ false) ↔ P
fails_exactly b shows none = (shows, λ f. split b (λ e. absurd (none e f)) (λ e. e))

-- ---- a record

-- the kind of a record, or none
data Kind (e : Edition) (kind : ℕ) : Type 0 where
  writes : kind ≡ write_kind → Kind e kind
  reads : kind ≡ read_kind → Kind e kind
  works : kind ≡ work_kind → Kind e kind
  moves : kind ≡ hardware_kind → Kind e kind
  raises : kind ≡ condition_kind → Kind e kind
  samples : kind ≡ sample_kind → Kind e kind
  advances : 4 ≤ e.number → kind ≡ module_kind → Kind e kind
  sets : 4 ≤ e.number → kind ≡ line_kind → Kind e kind
  other : NotListed e kind → Kind e kind

kind_is : (e : Edition) (kind : ℕ) → Kind e kind
kind_is e kind = elim (ℕ_discrete kind write_kind) [
  | yes e ↦ writes e
  | no n₁ ↦ elim (ℕ_discrete kind read_kind) [
    | yes e ↦ reads e
    | no n₂ ↦ elim (ℕ_discrete kind work_kind) [
      | yes e ↦ works e
      | no n₃ ↦ elim (ℕ_discrete kind hardware_kind) [
        | yes e ↦ moves e
        | no n₄ ↦ elim (ℕ_discrete kind condition_kind) [
          | yes e ↦ raises e
          | no n₅ ↦ elim (ℕ_discrete kind sample_kind) [
            | yes e ↦ samples e
            | no n₆ ↦ elim (dec_lt e.number 4) [
              | yes h ↦ other (record { write = n₁; read = n₂; work = n₃; hardware = n₄; condition = n₅; sample = n₆; power = λ g. absurd (omega arith) })
              | no h ↦ elim (ℕ_discrete kind module_kind) [
                | yes k ↦ advances (omega arith) k
                | no n₇ ↦ elim (ℕ_discrete kind line_kind) [
                  | yes k ↦ sets (omega arith) k
                  | no n₈ ↦ other (record { write = n₁; read = n₂; work = n₃; hardware = n₄; condition = n₅; sample = n₆; power = λ g. (n₇, n₈) })
                ]
              ]
            ]
          ]
        ]
      ]
    ]
  ]
]

-- the forms of an edition's records: a condition uses the bytes that the fault list says, and the events of the module's power come with the fourth
record Listed (e : Edition) : Type 0 where
  condition_call : List ℕ → Call
  others : List Form
  forms : e.forms ≡ forms_with (condition_bytes e) condition_call ++ others
  some : 0 < condition_bytes e
  power : ((e.number < 4) × (others ≡ [])) ⊎ ((4 ≤ e.number) × (others ≡ power_forms))

listed : (n : ℕ) → Listed (edition_among later_editions n)
unfolding pick
listed n =
    among-has Listed n later_editions
    (row (record { condition_call = once_call; others = []; forms = refl; some = omega arith; power = inl (omega arith, refl) })
    (row (record { condition_call = lasting_call; others = []; forms = refl; some = omega arith; power = inl (omega arith, refl) })
    (row (record { condition_call = lasting_call; others = power_forms; forms = refl; some = omega arith; power = inr (omega arith, refl) })
    (first (record { condition_call = once_call; others = []; forms = refl; some = omega arith; power = inl (omega arith, refl) })))))

module _ (e : Edition) (l : Listed e) (bytes : List ℕ) where
  abbrev used : ℕ
  used = used_bytes e.forms bytes

  -- a kind that is not listed uses no byte
  used-none : NotListed e (kind_of bytes) → used ≡ 0
  unfolding used_bytes pick
  used-none n = rw (
    l.forms,
    ne_eqb (kind_of bytes) write_kind n.write,
    ne_eqb (kind_of bytes) read_kind n.read,
    ne_eqb (kind_of bytes) work_kind n.work,
    ne_eqb (kind_of bytes) hardware_kind n.hardware,
    ne_eqb (kind_of bytes) condition_kind n.condition,
    ne_eqb (kind_of bytes) sample_kind n.sample,
  ) (elim l.power [
    | inl h ↦ rw h.1
    | inr h ↦ rw (h.1, ne_eqb (kind_of bytes) module_kind (n.power h.0).0, ne_eqb (kind_of bytes) line_kind (n.power h.0).1)
  ])

  -- what an event of the module's power uses: nothing before the fourth edition
  used-power : (kind : ℕ) → kind_of bytes ≡ kind → sample_kind < kind → used ≡ used_bytes l.others bytes
  unfolding used_bytes pick
  used-power kind k h = rw (
    l.forms,
    ne_eqb (kind_of bytes) write_kind (omega arith),
    ne_eqb (kind_of bytes) read_kind (omega arith),
    ne_eqb (kind_of bytes) work_kind (omega arith),
    ne_eqb (kind_of bytes) hardware_kind (omega arith),
    ne_eqb (kind_of bytes) condition_kind (omega arith),
    ne_eqb (kind_of bytes) sample_kind (omega arith),
  )

  used_module : kind_of bytes ≡ module_kind → (used ≡ 0) ⊎ (used ≡ 1)
  unfolding used_bytes pick
  used_module k = elim l.power [
    | inl h ↦ inl (used-power module_kind k (omega arith) ∙ rw h.1)
    | inr h ↦ inr (used-power module_kind k (omega arith) ∙ rw (h.1, k))
  ]

  used-line : kind_of bytes ≡ line_kind → (used ≡ 0) ⊎ (used ≡ line_bytes bytes)
  unfolding used_bytes pick
  used-line k = elim l.power [
    | inl h ↦ inl (used-power line_kind k (omega arith) ∙ rw h.1)
    | inr h ↦ inr (used-power line_kind k (omega arith) ∙ rw (h.1, k))
  ]

  -- a line that is to be on or off uses its byte, and any other nothing
  line_some : get_or bytes 1 0 < 2 → line_bytes bytes ≡ 2
  unfolding line_bytes
  line_some h = pick_true _ _ (lt-ltb (get_or bytes 1 0) 2 h)

  line-none : 2 ≤ get_or bytes 1 0 → line_bytes bytes ≡ 0
  unfolding line_bytes
  line-none h = pick-false _ _ (le-ltb (get_or bytes 1 0) 2 h)

  line-most : line_bytes bytes ≤ 2
  line-most = elim (dec_lt (get_or bytes 1 0) 2) [ yes h ↦ omega (arith, line_some h) | no h ↦ omega (arith, line-none (omega arith)) ]

  -- a byte that a record does not use lies past those that it uses
  unused_past : {j : ℕ} → Unused e bytes j → used ≤ j
  unfolding used_bytes written_bytes pick
  unused_past (past_count k h) = rw (l.forms, k) (split (ltb data_limit (get_or bytes 2 0))
      (λ t. rw (t, pick) (omega (arith, ltb-true data_limit (get_or bytes 2 0) t)))
      (λ t. rw (t, pick) h))
  unused_past (past_data k h) = rw (l.forms, k) (split (ltb data_limit (get_or bytes 2 0))
      (λ t. rw (t, pick) (omega arith))
      (λ t. rw (t, pick) (omega (arith, ltb-false data_limit (get_or bytes 2 0) t))))
  unused_past (past_read k h) = rw (l.forms, k) h
  unused_past (past_work k h) = rw (l.forms, k) h
  unused_past (past_hardware k h) = rw (l.forms, k) h
  unused_past (past_condition k h) = rw (l.forms, k) h
  unused_past (past_sample k h) = rw (l.forms, k) h
  unused_past (past_module k h) = elim (used_module k) [ inl u ↦ omega arith | inr u ↦ omega arith ]
  unused_past (past_line k h) = elim (used-line k) [ inl u ↦ omega arith | inr u ↦ omega (arith, line-most) ]

  -- of a write: past its count, or past the bytes that a record carries
  write-unused : (j : ℕ) → kind_of bytes ≡ write_kind → used ≤ j → Unused e bytes j
  unfolding used_bytes written_bytes pick
  write-unused j k h = split (ltb data_limit (get_or bytes 2 0))
      (λ t. past_data k (rw (l.forms, k, t, pick) at h))
      (λ t. past_count k (rw (l.forms, k, t, pick) at h))

  -- a record that fails its test has a fault: in a byte that it does not use ..
  byte_fault : 0 < used → ((j : ℕ) → used ≤ j → Unused e bytes j) → is_record e bytes ≡ false → RecordFault e bytes
  unfolding is_record
  byte_fault some past = both_fails _ _
      (λ t. absurd (clash (lt-ltb 0 used some) t))
      (λ t.
      let r = all_fails record_length _ t in
      let i = implies_fails _ _ r.2 in
      unused_byte r.0 r.1 (past r.0 (leb-true _ _ i.0)) (eqb-false _ _ i.1))

  power-listed : 4 ≤ e.number → l.others ≡ power_forms
  power-listed g = elim l.power [ inl h ↦ absurd (omega (arith, h.0)) | inr h ↦ h.1 ]

  -- .. or in its kind, or in the line that it names
  record_fault : Kind e (kind_of bytes) → is_record e bytes ≡ false → RecordFault e bytes
  unfolding used_bytes written_bytes pick
  record_fault (writes k) = byte_fault (rw (l.forms, k) (omega arith)) (λ j. write-unused j k)
  record_fault (reads k) = byte_fault (rw (l.forms, k) (omega arith)) (λ j h. past_read k (rw (l.forms, k) at h))
  record_fault (works k) = byte_fault (rw (l.forms, k) (omega arith)) (λ j h. past_work k (rw (l.forms, k) at h))
  record_fault (moves k) = byte_fault (rw (l.forms, k) (omega arith)) (λ j h. past_hardware k (rw (l.forms, k) at h))
  record_fault (raises k) = byte_fault (rw (l.forms, k) l.some) (λ j h. past_condition k (rw (l.forms, k) at h))
  record_fault (samples k) = byte_fault (rw (l.forms, k) (omega arith)) (λ j h. past_sample k (rw (l.forms, k) at h))
  record_fault (advances g k) = let u : used ≡ 1 = used-power module_kind k (omega arith) ∙ rw (power-listed g, k) in
      byte_fault (omega arith) (λ j h. past_module k (omega arith))
  record_fault (sets g k) = let u : used ≡ line_bytes bytes = used-power line_kind k (omega arith) ∙ rw (power-listed g, k) in
      elim (dec_lt (get_or bytes 1 0) 2) [
        | yes h ↦ byte_fault (omega (arith, line_some h)) (λ j p. past_line k (omega (arith, line_some h)))
        | no h ↦ λ t. neither_on_nor_off k (omega arith)
      ]
  record_fault (other n) = λ t. no_such_kind n

  -- one that passes has none
  no_record_fault : is_record e bytes ≡ true → RecordFault e bytes → ⊥
  unfolding is_record
  no_record_fault h (no_such_kind n) = let u : 0 < used = ltb-true _ _ (both_l _ _ h) in omega (arith, used-none n)
  no_record_fault h (neither_on_nor_off k b) =
      let u : 0 < used = ltb-true _ _ (both_l _ _ h) in
      elim (used-line k) [ inl z ↦ omega arith | inr z ↦ omega (arith, line-none b) ]
  no_record_fault h (unused_byte j b u n) = n (eqb-true _ _ (implies_use _ _ (all_at record_length _ (both_r _ _ h) j b) (le-leb _ _ (unused_past u))))

-- the test of a record fails exactly where it has a fault, in the edition of any number
pub record_exactly : (n : ℕ) (bytes : List ℕ) → (is_record (edition_among later_editions n) bytes ≡ false) ↔ RecordFault (edition_among later_editions n) bytes
record_exactly n bytes =
    let e = edition_among later_editions n in
    fails_exactly _ (record_fault e (listed n) bytes (kind_is e (kind_of bytes))) (no_record_fault e (listed n) bytes)

-- ---- a header

module _ (limit : ℕ) (header : List ℕ) where
  header_fault : is_header limit header ≡ false → HeaderFault limit header
  unfolding is_header
  header_fault =
      both_fails _ _
      (both_fails _ _ (λ e. first_letter (eqb-false _ _ e)) (λ e. second_letter (eqb-false _ _ e)))
      (both_fails _ _
      (both_fails _ _ (λ e. other_edition (eqb-false _ _ e)) (λ e. not_zero (eqb-false _ _ e)))
      (both_fails _ _ (λ e. too_many (omega (arith, leb-false (record_count header) limit e)))
      (both_fails _ _ (λ e. image_elsewhere (eqb-false _ _ e)) (λ e. records_elsewhere (eqb-false _ _ e)))))

  no_header_fault : is_header limit header ≡ true → HeaderFault limit header → ⊥
  unfolding is_header
  no_header_fault h (first_letter n) = n (eqb-true _ _ (both_l _ _ (both_l _ _ h)))
  no_header_fault h (second_letter n) = n (eqb-true _ _ (both_r _ _ (both_l _ _ h)))
  no_header_fault h (other_edition n) = n (eqb-true _ _ (both_l _ _ (both_l _ _ (both_r _ _ h))))
  no_header_fault h (not_zero n) = n (eqb-true _ _ (both_r _ _ (both_l _ _ (both_r _ _ h))))
  no_header_fault h (too_many n) = let b : record_count header ≤ limit = leb-true _ _ (both_l _ _ (both_r _ _ (both_r _ _ h))) in omega arith
  no_header_fault h (image_elsewhere n) = n (eqb-true _ _ (both_l _ _ (both_r _ _ (both_r _ _ (both_r _ _ h)))))
  no_header_fault h (records_elsewhere n) = n (eqb-true _ _ (both_r _ _ (both_r _ _ (both_r _ _ (both_r _ _ h)))))

  -- the test of a header fails exactly where it has a fault
  pub header_exactly : (is_header limit header ≡ false) ↔ HeaderFault limit header
  header_exactly = fails_exactly _ header_fault no_header_fault

-- ---- a whole file

-- the number of what is found; 0 where the file is good
abbrev number_in : Result ℕ Answer → ℕ
number_in (Err a) = number a
number_in (Ok n) = 0

module _ (limit : ℕ) (file : List ℕ) where
  -- its image has the right length
  its-image : wrong_length (image_in file) ≡ false
  unfolding wrong_length
  its-image = ap not (eq-eqb (length (image_in file)) image_length (length_laid_out (carried_image file)))

  -- where it fails ..
  a_fault : is_well_formed limit file ≡ false → Fault limit file
  unfolding is_well_formed is_whole_length
  a_fault =
      both_fails _ _
      (both_fails _ _ (λ e. in_header ((header_exactly limit file).0 e)) (λ e. other_length (eqb-false _ _ e)))
      (λ e. let r = all_fails (record_count file) _ e in in_record r.0 r.1 ((record_exactly (get_or file 2 0) (record_in file r.0)).0 r.2))

  -- .. and where it holds
  module _ (formed : is_well_formed limit file ≡ true) where
    its_header : is_header limit file ≡ true
    unfolding is_well_formed
    its_header = both_l _ _ (both_l _ _ formed)

    its-length : length file ≡ records_offset (edition_of file) + record_length * record_count file
    unfolding is_well_formed is_whole_length
    its-length = eqb-true _ _ (both_r _ _ (both_l _ _ formed))

    its_record : (k : ℕ) → k < record_count file → is_record (edition_of file) (record_in file k) ≡ true
    unfolding is_well_formed
    its_record k b = all_at _ _ (both_r _ _ formed) k b

    no_fault : Fault limit file → ⊥
    no_fault (in_header f) = clash its_header ((header_exactly limit file).1 f)
    no_fault (other_length n) = n its-length
    no_fault (in_record k b f) = clash (its_record k b) ((record_exactly (get_or file 2 0) (record_in file k)).1 f)

    -- what start asks of its image is what is found
    found_flat : is_flat (image_in file) ≡ true → file_check_up_to limit file ≡ Err FlatMemory
    unfolding file_check_up_to file_check_by start_refusals image_refusals first_of is_done pick
    found_flat e = rw (formed, its-image, e)

    found_turned : is_flat (image_in file) ≡ false → is_back_to_front (image_in file) ≡ true → file_check_up_to limit file ≡ Err BackToFront
    unfolding file_check_up_to file_check_by start_refusals image_refusals first_of is_done pick
    found_turned e f = rw (formed, its-image, e, f)

    found_good : is_flat (image_in file) ≡ false → is_back_to_front (image_in file) ≡ false → file_check_up_to limit file ≡ Ok (record_count file)
    unfolding file_check_up_to file_check_by start_refusals image_refusals first_of is_done pick
    found_good e f = rw (formed, its-image, e, f)

  -- the test of a file fails exactly where it has a fault
  pub formed_exactly : (is_well_formed limit file ≡ false) ↔ Fault limit file
  formed_exactly = fails_exactly _ a_fault no_fault

  -- ---- what is found

  found_fault : is_well_formed limit file ≡ false → file_check_up_to limit file ≡ Err Malformed
  unfolding file_check_up_to pick
  found_fault e = rw e

  formed_file : (Fault limit file → ⊥) → is_well_formed limit file ≡ true
  formed_file n = split (is_well_formed limit file) (λ e. e) (λ e. absurd (n (formed_exactly.0 e)))

  found : Found limit file (file_check_up_to limit file)
  found = split (is_well_formed limit file)
      (λ w. split (is_flat (image_in file))
      (λ e. rw (found_flat w e) (flat (no_fault w) e))
      (λ e. split (is_back_to_front (image_in file))
      (λ f. rw (found_turned w e f) (back_to_front (no_fault w) e f))
      (λ f. rw (found_good w e f) (good (no_fault w) e f))))
      (λ w. rw (found_fault w) (malformed (formed_exactly.0 w)))

  is_found : {r : Result ℕ Answer} → Found limit file r → file_check_up_to limit file ≡ r
  is_found (malformed f) = found_fault (formed_exactly.1 f)
  is_found (flat n e) = found_flat (formed_file n) e
  is_found (back_to_front n e f) = found_turned (formed_file n) e f
  is_found (good n e f) = found_good (formed_file n) e f

  -- the check of a file finds each result exactly when 01 says so, and no other
  pub checked_exactly : (r : Result ℕ Answer) → (file_check_up_to limit file ≡ r) ↔ Found limit file r
  checked_exactly r = (λ e. subst (Found limit file) e found, is_found)

  found_number : {r : Result ℕ Answer} → Found limit file r → (number_in r ≡ 9 → Fault limit file) × (number_in r ≢ 1)
  found_number (malformed f) = (λ e. f, λ e. omega arith)
  found_number (flat n h) = (λ e. absurd (omega arith), λ e. omega arith)
  found_number (back_to_front n h i) = (λ e. absurd (omega arith), λ e. omega arith)
  found_number (good n h i) = (λ e. absurd (omega arith), λ e. omega arith)

  -- 9 exactly where there is a fault
  pub malformed_exactly : (file_check_up_to limit file ≡ Err Malformed) ↔ Fault limit file
  malformed_exactly = (λ e. (found_number found).0 (ap number_in e), λ f. is_found (malformed f))

  -- a file with no fault is answered as start answers to its image ..
  pub file_as_start : (Fault limit file → ⊥) → file_check_up_to limit file ≡ file_check_by (start_outcome (image_in file)).answer file
  unfolding file_check_up_to start_outcome start_outcome_by pick
  file_as_start n = rw (formed_file n)

  -- .. and none with 1
  pub never_1 : file_check_up_to limit file ≢ Err WrongLength
  never_1 e = (found_number found).1 (ap number_in e)
