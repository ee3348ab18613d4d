-- A read that is done changes the clearing bytes that it read, which then hold what is on, and lower 3.0, and no record. Assumes nothing.
use mathlib.Core.Path.{◌≡◌, refl, sym, ◌∙◌}
use mathlib.Core.Bool.{Bool, true, false}
use mathlib.Core.List.{List}
use mathlib.Core.Logic.{inl, inr, ◌≢◌}
use Prim.Native.Nat.{ℕ, ◌+◌, ◌-◌, ◌≤◌, ◌<◌}
use native.Mathlib.Decide.{dec_lt}
use native.Mathlib.Omega.{arith}
use lib.ListN.{length, get_or, set, length-set}
use lib.Seq.{get_or-set_same, get_or-set_other}
use borrow.Author.Tests.{lt-ltb, le-leb}
use Rattle.bits.specs.Choice.{both, either}
use Rattle.bits.specs.Loop.{each}
use Rattle.bits.proofs.Tests.{split, clash, both_i, either_cases, pick_true, pick-false}
use Rattle.bits.proofs.Loops.{each_hit, each_skip}
use Rattle.model.specs.Map.{Image, on, page11, range_on, in_ranges, cleared_ranges, clearing, lasting_count, lasting_flag, lasting_index, image_length}
use Rattle.model.specs.Records.{on_lanes}
use Rattle.model.specs.Flags.{is_read, shown_again_image}
use Rattle.model.specs.State.{State}
use Rattle.model.specs.Pages.{index_of}
use Rattle.model.specs.Access.{cleared_image}
use Rattle.model.specs.Step.{event, event_effect, done_step, read_effect}
use Rattle.model.specs.declared.answer.Answer.TheVariants.{Done}
use Rattle.model.specs.declared.event.Call.TheVariants.{Read}
use Rattle.model.specs.declared.lane.Working.{Working}
use Rattle.laws_frames.proofs.Ranges.{between, covered_by, covered_in}
use Rattle.laws_frames.proofs.Changes.{cleared_length}
use Rattle.laws_frames.proofs.Lasting.{lasting_at, shown_none, shown_alone}
use Rattle.laws_step.specs.Changes.{ChangesOnly, or_in, in_bytes, interrupt_set, flag_set}
use Rattle.laws_step.specs.Told.{step_on, amid, cleared_by, lasting_ranges, on_byte}
use Rattle.laws_step.proofs.Places.{clearing_in}
use Rattle.laws_step.proofs.Frames.{keeps_then, keeps_more, keeps_each, keeps_set, lanes_bytes}
use Rattle.laws_step.proofs.Stepped.{done_step_lem, step_changes}
use Rattle.laws_step.proofs.Settling.{settled_byte}
use Rattle.laws_step.proofs.Moving.{flag_changes}

cleared_byte : (x : Image) (p n k : ℕ) → length x ≡ image_length → k < n → clearing (p + k) ≡ true → get_or (cleared_image x p n) (p + k) 0 ≡ 0
unfolding cleared_image
cleared_byte x p n k size h e =
    each_hit test clear (λ y. get_or y (p + k) 0) k n x h e (λ j y a b c. get_or-set_other y (p + j) (p + k) 0 0 (omega arith))
    ∙ get_or-set_same (each test clear k x) (p + k) 0 0
    (omega (arith, each_skip test clear length k x (λ j y a b. length-set y (p + j) 0), clearing_in (p + k) e))
  where
    test : ℕ → Bool
    test j = clearing (p + j)

    clear : ℕ → Image → Image
    clear j y = set y (p + j) 0

-- the flags that can last are among the bytes that a read clears
flag_clears : (k : ℕ) → k < lasting_count → clearing (lasting_at k) ≡ true
unfolding clearing covered_by both either
flag_clears k h = covered_in cleared_ranges (range_on page11 134 153) (lasting_at k) refl (omega arith) (omega arith)

-- what is on shows in bytes that were read
shown_changes : (w : Working) (x y : Image) (address n : ℕ) → ChangesOnly (cleared_by x address n) y (shown_again_image w (index_of x address) n y)
unfolding shown_again_image cleared_by in_bytes amid is_read flag_set
shown_changes w x y address n = keeps_each _ _ _ lasting_count y (λ k z h e. keeps_more (λ i b t.
    let r = lanes_bytes _ (lasting_at k) 1 i b refl t in
    let q : i ≡ lasting_at k = omega arith in
    rw q (both_i (flag_clears k h) e)) (flag_changes (lasting_flag k) (on_lanes w k) z))

-- ---- what a byte that is cleared then holds

among : (i n j : ℕ) → i ≤ j → j < i + n → is_read i n j ≡ true
unfolding is_read
among i n j a b = both_i (le-leb i j a) (lt-ltb j (i + n) b)

-- a byte of a flag that can last is that of an index
lasting-byte : (i : ℕ) → in_ranges lasting_ranges i ≡ true → (lasting_index (128 + (i - page11)) < lasting_count) × (lasting_at (lasting_index (128 + (i - page11))) ≡ i)
unfolding in_ranges
lasting-byte i e = elim (either_cases _ _ e) [
  | inl t ↦ let r = between (on page11 135) i (on page11 138) t in (omega arith, omega arith)
  | inr u ↦ elim (either_cases _ _ u) [
    | inl t ↦ let r = between (on page11 147) i (on page11 152) t in (omega arith, omega arith)
    | inr t ↦ absurd (clash t refl)
  ]
]

-- and any other byte is that of none
in_lasting : (k : ℕ) → k < lasting_count → in_ranges lasting_ranges (lasting_at k) ≡ true
unfolding covered_by both either
in_lasting k h = elim (dec_lt k 4) [
  | yes b ↦ covered_in lasting_ranges (range_on page11 135 138) (lasting_at k) refl (omega arith) (omega arith)
  | no b ↦ covered_in lasting_ranges (range_on page11 147 152) (lasting_at k) refl (omega arith) (omega arith)
]

no_lasting : (i : ℕ) → in_ranges lasting_ranges i ≡ false → (k : ℕ) → k < lasting_count → lasting_at k ≢ i
no_lasting i e k h q = clash (rw q at (in_lasting k h)) e

shown_byte_lem : (w : Working) (x : Image) (p n k : ℕ) → length x ≡ image_length → k < n → clearing (p + k) ≡ true
    → get_or (shown_again_image w p n (cleared_image x p n)) (p + k) 0 ≡ on_byte w (p + k)
unfolding on_byte
shown_byte_lem w x p n k size h e = split (in_ranges lasting_ranges (p + k))
    (λ t. let r = lasting-byte (p + k) t in lasting _ r.0 r.1 ∙ sym (pick_true _ _ t))
    (λ t. shown_none w p n (cleared_image x p n) (p + k) (no_lasting (p + k) t) ∙ cleared_byte x p n k size h e ∙ sym (pick-false _ _ t))
  where
    lasting : (j : ℕ) → j < lasting_count → lasting_at j ≡ p + k → get_or (shown_again_image w p n (cleared_image x p n)) (p + k) 0 ≡ on_lanes w j
    lasting j l q = rw (← q)
        (shown_alone w p n (cleared_image x p n) j l (rw q (among p n (p + k) (omega arith) (omega arith))) (cleared_length x p n ∙ size)
        (rw q (cleared_byte x p n k size h e)))

module _ (room : ℕ) (s : State) (bytes : List ℕ) (address count : ℕ) (d : (step_on room s (Read address count) bytes).answer ≡ Done) where
  pub read_changes : ChangesOnly (or_in interrupt_set (cleared_by s.image address count)) s.image (step_on room s (Read address count) bytes).state.image
  unfolding event_effect read_effect cleared_image cleared_by in_bytes amid
  read_changes = let p = index_of s.image address in step_changes room s (event (Read address count) bytes) _ d
      (keeps_then
      (keeps_each _ _ _ count s.image (λ k y h e. keeps_set _ y (p + k) 0 (λ b.
      both_i e (both_i (le-leb p (p + k) (omega arith)) (lt-ltb (p + k) (p + count) (omega arith))))))
      (shown_changes s.working s.image _ address count))

  pub read_keeps_records : (step_on room s (Read address count) bytes).state.working ≡ s.working
  unfolding done_step event_effect read_effect
  read_keeps_records = rw (done_step_lem room s (event (Read address count) bytes) d)

  -- each of them holds what is on for it
  pub read_clears : length s.image ≡ image_length → (k : ℕ) → k < count → clearing (index_of s.image address + k) ≡ true
      → get_or (step_on room s (Read address count) bytes).state.image (index_of s.image address + k) 0 ≡ on_byte s.working (index_of s.image address + k)
  unfolding done_step event_effect read_effect
  read_clears size k h e = let p = index_of s.image address in
      rw (done_step_lem room s (event (Read address count) bytes) d)
      (settled_byte _ (p + k) (omega (arith, clearing_in (p + k) e)) ∙ shown_byte_lem s.working s.image p count k size h e)
