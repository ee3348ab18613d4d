-- What was packed is read back, and what is read back has those bytes. Assumes nothing.
use mathlib.Core.Path.{◌≡◌, refl, sym, ap, ap₂, ◌∙◌}
use mathlib.Core.Bool.{Bool, true, false, not, ◌&&◌}
use mathlib.Core.List.{List, ◌++◌}
use Prim.Native.Nat.{ℕ, ◌+◌, ◌*◌, ◌/◌, ◌%◌, ◌≤◌, ◌<◌}
use native.Mathlib.Decide.{dec_lt}
use native.Mathlib.Omega.{arith}
use lib.Dec.{eqb, ltb}
use borrow.Rule.Slice.PartMut.{put_mid}
use lib.ListN.{length, get_or, set, take, drop, length-drop}
use lib.Seq.{ext_get_or, get_or-take, get_or-drop, length-take-le}
use mir.Val.{bool_byte}
use borrow.Author.Tests.{eqb-true, eqb-false, lt-ltb, le-leb, lt-leb, leb-true, ltb-true}
use Rattle.bits.specs.Choice.{both}
use Rattle.bits.specs.Loop.{tab, all_below}
use Rattle.bits.specs.Sets.{lane_count}
use Rattle.bits.proofs.Tests.{split, and_both, both_l, both_r, both_i, pick_true, pick-false}
use Rattle.bits.proofs.Loops.{tab_at, tab_ext, length-tab, all_at, all_intro, all_ext}
use Rattle.model.specs.Records.{idle_record, record_at}
use Rattle.model.specs.Outcome.{laid_over}
use Rattle.model.specs.declared.lane.Working.{Working}
use Rattle.packing.specs.Packing.{record_length, line_index, state_length, record_bytes, packed_byte, packed, record_from, lane_bytes, unpacked, same_bytes, is_record, is_packing}
use Rattle.packing.proofs.Records.{record_back, length_record, is_own}
use Rattle.packing.proofs.Laid.{laid_at_lem, laid_past, length_laid, lay_one, lay_run, lay_whole}

-- a list is the table of its values
table_of : {A : Type 0} (n : ℕ) (xs : List A) (d : A) → length xs ≡ n → tab n (λ k. get_or xs k d) ≡ xs
table_of n xs d e = ext_get_or d _ _ (length-tab n _ ∙ sym e) (λ k l. tab_at n _ k d (omega (arith, length-tab n (λ k. get_or xs k d))))

-- a lane's bytes are a run of the state's
pub lane_run : (state : List ℕ) (l at k : ℕ) → at ≡ l * record_length → k ≡ record_length → at + record_length ≤ length state → take k (drop at state) ≡ lane_bytes state l
unfolding lane_bytes
lane_run state l at k e f h =
    let long : k ≤ length (drop at state) = omega (arith, length-drop at state) in
    ext_get_or 0 _ _ (length-take-le k (drop at state) long ∙ f ∙ sym (length-tab record_length _)) (λ i b.
    let i_lt : i < k = omega (arith, length-take-le k (drop at state) long) in
    get_or-take k (drop at state) i 0 i_lt ∙ get_or-drop at state i 0 ∙ ap (λ j. get_or state (j + i) 0) e ∙ sym (tab_at record_length _ i 0 (omega arith)))

-- byte k of a lane's
pub packed-lane : (w : Working) (l k : ℕ) → l < lane_count → k < record_length → packed_byte w (l * record_length + k) ≡ get_or (record_bytes (record_at w l)) k 0
unfolding packed_byte
packed-lane w l k hl hk =
    let q : (l * record_length + k) / record_length ≡ l = omega arith in
    let r : (l * record_length + k) % record_length ≡ k = omega arith in
    pick_true _ _ (lt-ltb (l * record_length + k) line_index (omega arith)) ∙ rw (q, r)

pub packed-line : (w : Working) → packed_byte w line_index ≡ bool_byte w.line
unfolding packed_byte
packed-line w = pick-false _ _ refl

line_back : (b : Bool) → not (eqb (bool_byte b) 0) ≡ b
line_back true = refl
line_back false = refl

line-fits : (b : Bool) → ltb (bool_byte b) 2 ≡ true
line-fits true = refl
line-fits false = refl

line-own : (n : ℕ) → n < 2 → bool_byte (not (eqb n 0)) ≡ n
line-own n h = split (eqb n 0)
    (λ e. ap (λ b. bool_byte (not b)) e ∙ sym (eqb-true n 0 e))
    (λ e. let m : n ≡ 1 = omega (arith, eqb-false n 0 e) in ap (λ b. bool_byte (not b)) e ∙ sym m)

module _ (w : Working) (state : List ℕ) (room : state_length ≤ length state) where
  pub length_over : length (laid_over (packed w) state) ≡ length state
  unfolding packed
  length_over = length_laid state_length (packed_byte w) state room

  lane_is : (l : ℕ) → l < lane_count → lane_bytes (laid_over (packed w) state) l ≡ record_bytes (record_at w l)
  unfolding lane_bytes packed
  lane_is l h =
      tab_ext record_length _ _ (λ k b. laid_at_lem state_length (packed_byte w) state (l * record_length + k) room (omega arith) ∙ packed-lane w l k h b)
      ∙ table_of record_length (record_bytes (record_at w l)) 0 (length_record (record_at w l))

  line_is : get_or (laid_over (packed w) state) line_index 0 ≡ bool_byte w.line
  unfolding packed
  line_is = laid_at_lem state_length (packed_byte w) state line_index room (omega arith) ∙ packed-line w

  -- what was packed is read back
  pub unpacked-packed : length w.lanes ≡ lane_count → unpacked (laid_over (packed w) state) ≡ w
  unfolding unpacked
  unpacked-packed e =
      let lanes = tab_ext lane_count _ (λ l. record_at w l) (λ l h. ap record_from (lane_is l h) ∙ record_back (record_at w l)) ∙ table_of lane_count w.lanes idle_record e in
      let line = ap (λ b. not (eqb b 0)) line_is ∙ line_back w.line in
      λ i. record { lanes = lanes i; line = line i }

  -- .. and passes the test
  pub is_packing_lem : is_packing (laid_over (packed w) state) ≡ true
  unfolding is_packing
  is_packing_lem =
      both_i (le-leb state_length (length (laid_over (packed w) state)) (omega (arith, length_over)))
      (both_i (all_intro lane_count _ (λ l h. ap is_record (lane_is l h) ∙ is_own (record_at w l))) (ap (λ b. ltb b 2) line_is ∙ line-fits w.line))

module _ (state : List ℕ) (good : is_packing state ≡ true) where
  pub has_room : state_length ≤ length state
  unfolding is_packing
  has_room = leb-true _ _ (both_l _ _ good)

  lane-own : (l k : ℕ) → l < lane_count → k < record_length → get_or (record_bytes (record_at (unpacked state) l)) k 0 ≡ get_or state (l * record_length + k) 0
  unfolding is_packing is_record same_bytes unpacked lane_bytes
  lane-own l k hl hk =
      ap (λ r. get_or (record_bytes r) k 0) (tab_at lane_count _ l idle_record hl)
      ∙ eqb-true _ _ (all_at record_length _ (all_at lane_count _ (both_l _ _ (both_r _ _ good)) l hl) k hk)
      ∙ tab_at record_length (λ j. get_or state (l * record_length + j) 0) k 0 hk

  last : bool_byte (unpacked state).line ≡ get_or state line_index 0
  unfolding is_packing unpacked
  last = line-own (get_or state line_index 0) (ltb-true _ _ (both_r _ _ (both_r _ _ good)))

  byte-own : (k : ℕ) → k < state_length → packed_byte (unpacked state) k ≡ get_or state k 0
  byte-own k h = elim (dec_lt k line_index) [
    | yes b ↦ let e : k / record_length * record_length + k % record_length ≡ k = omega arith in
        ap (packed_byte (unpacked state)) (sym e) ∙ packed-lane (unpacked state) (k / record_length) (k % record_length) (omega arith) (omega arith)
        ∙ lane-own (k / record_length) (k % record_length) (omega arith) (omega arith) ∙ ap (λ j. get_or state j 0) e
    | no b ↦ let e : k ≡ line_index = omega arith in ap (packed_byte (unpacked state)) e ∙ packed-line (unpacked state) ∙ last ∙ ap (λ j. get_or state j 0) (sym e)
  ]

  -- what is read has the bytes that it was read from
  pub packed-unpacked : laid_over (packed (unpacked state)) state ≡ state
  unfolding packed
  packed-unpacked = ext_get_or 0 _ _ (length_laid state_length (packed_byte (unpacked state)) state has_room) (λ k l. elim (dec_lt k state_length) [
    | yes b ↦ laid_at_lem state_length (packed_byte (unpacked state)) state k has_room b ∙ byte-own k b
    | no b ↦ laid_past state_length (packed_byte (unpacked state)) state k has_room (omega arith)
  ])

-- a lane's bytes more of a state that is being packed
pub lane_turn : (w : Working) (l k : ℕ) (state s bs : List ℕ) → l < lane_count → k ≡ record_length
    → s ≡ laid_over (tab (l * record_length) (packed_byte w)) state → bs ≡ record_bytes (record_at w l)
    → put_mid (l * record_length) k s bs ≡ laid_over (tab ((l + 1) * record_length) (packed_byte w)) state
lane_turn w l k state s bs h e laid own =
    let n : (l + 1) * record_length ≡ l * record_length + record_length = omega arith in
    let table = sym (table_of record_length (record_bytes (record_at w l)) 0 (length_record (record_at w l))) in
    let run = own ∙ table ∙ tab_ext record_length _ _ (λ j b. sym (packed-lane w l j h b)) in
    rw n (lay_run (l * record_length) record_length k (packed_byte w) bs state s e run laid)

-- .. and the line's byte at last
pub line_laid : (w : Working) (state s : List ℕ) → state_length ≤ length state
    → s ≡ laid_over (tab line_index (packed_byte w)) state → set s line_index (bool_byte w.line) ≡ laid_over (packed w) state
unfolding packed
line_laid w state s room e = rw (e, ← packed-line w) (lay_one line_index (packed_byte w) state (omega arith))

-- a state's bytes laid over as many
pub packed-whole : (w : Working) (state : List ℕ) → length state ≡ state_length → laid_over (packed w) state ≡ packed w
unfolding packed
packed-whole w state e = lay_whole (tab state_length (packed_byte w)) state (omega (arith, length-tab state_length (packed_byte w)))

-- .. and over the front of a buffer
pub packed_front : (w : Working) (state : List ℕ) → laid_over (packed w) state ≡ packed w ++ drop state_length state
unfolding laid_over packed
packed_front w state = rw (length-tab state_length (packed_byte w))

-- the test as code makes it
pub packing_short : (state : List ℕ) → length state < state_length → false ≡ is_packing state
unfolding is_packing both
packing_short state h = rw (lt-leb state_length (length state) h, both)

pub packing_by : (state : List ℕ) (g : Bool) → state_length ≤ length state → g ≡ all_below lane_count (λ l. is_record (lane_bytes state l))
    → (g && ltb (get_or state line_index 0) 2) ≡ is_packing state
unfolding is_packing both
packing_by state g h e = rw (le-leb state_length (length state) h, and_both, e, both)

-- what is read of a buffer is read of its front alone
module _ (state : List ℕ) (room : state_length ≤ length state) where
  lane_front : (l : ℕ) → l < lane_count → lane_bytes (take state_length state) l ≡ lane_bytes state l
  unfolding lane_bytes
  lane_front l h = tab_ext record_length _ _ (λ k b. get_or-take state_length state (l * record_length + k) 0 (omega arith))

  line_front : get_or (take state_length state) line_index 0 ≡ get_or state line_index 0
  line_front = get_or-take state_length state line_index 0 (omega arith)

  pub packing_front : is_packing (take state_length state) ≡ is_packing state
  unfolding is_packing
  packing_front =
      let long = le-leb state_length (length (take state_length state)) (omega (arith, length-take-le state_length state room)) ∙ sym (le-leb state_length (length state) room) in
      let lanes = all_ext lane_count _ _ (λ l h. ap is_record (lane_front l h)) in
      ap₂ both long (ap₂ both lanes (ap (λ b. ltb b 2) line_front))

  pub unpacked_front : unpacked (take state_length state) ≡ unpacked state
  unfolding unpacked
  unpacked_front =
      let lanes = tab_ext lane_count _ _ (λ l h. ap record_from (lane_front l h)) in
      let line = ap (λ b. not (eqb b 0)) line_front in
      λ i. record { lanes = lanes i; line = line i }
