-- Start looks at what it keeps and at nothing else, and no write changes that. Assumes nothing.
use mathlib.Core.Path.{◌≡◌, refl}
use mathlib.Core.Bool.{true}
use mathlib.Core.List.{List}
use Prim.Native.Nat.{ℕ}
use lib.ListN.{get_or}
use Rattle.bits.specs.Choice.{pick, both, either}
use Rattle.bits.proofs.Tests.{split}
use Rattle.bits.proofs.Loops.{tab_ext}
use Rattle.model.specs.Map.{Image, image_length, kept_ranges, kept}
use Rattle.model.specs.Records.{idle_with}
use Rattle.model.specs.State.{State}
use Rattle.model.specs.Start.{start_byte, started_state, reset_state}
use Rattle.model.specs.Access.{bytes_written_state}
use Rattle.laws_frames.proofs.Ranges.{apart_from, all_apart, ranges_apart}
use Rattle.laws_frames.proofs.Writes.{written_ranges, bytes_off, bytes-line}

-- y has x's bytes where start keeps them
abbrev pub SameKept : Image → Image → Type 0
SameKept x y = (i : ℕ) → kept i ≡ true → get_or y i 0 ≡ get_or x i 0

module _ (x y : Image) (s : SameKept x y) where
  byte-same : (i : ℕ) → start_byte y i ≡ start_byte x i
  unfolding start_byte pick
  byte-same i = split (kept i) (λ k. rw (k, pick) (s i k)) (λ k. rw (k, pick))

  pub same_start : started_state y ≡ started_state x
  unfolding started_state
  same_start = let e = tab_ext image_length (start_byte y) (start_byte x) (λ i b. byte-same i) in λ i. record { image = e i; working = (started_state x).working }

-- what start keeps, no write changes
bytes-kept : (address : ℕ) (vs : List ℕ) (s : State) → SameKept s.image (bytes_written_state address vs s).image
unfolding kept all_apart apart_from both either
bytes-kept address vs s i k = bytes_off i (ranges_apart kept_ranges written_ranges i refl k) address vs s

-- so a reset after a write is a reset before it
pub reset_after : (address : ℕ) (vs : List ℕ) (s : State) → reset_state (bytes_written_state address vs s) ≡ reset_state s
unfolding reset_state
reset_after address vs s =
    let e = same_start s.image (bytes_written_state address vs s).image (bytes-kept address vs s) in
    λ i. record { image = (e i).image; working = idle_with (bytes-line address vs s i) }
