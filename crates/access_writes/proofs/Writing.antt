-- A write, byte by byte. Assumes nothing.
use mathlib.Core.Path.{◌≡◌, sym, ap}
use mathlib.Core.List.{List}
use Prim.Native.Nat.{ℕ, ◌+◌, ◌-◌, ◌≤◌, ◌<◌}
use native.Mathlib.Nat.{add-zero, add-suc}
use native.Mathlib.Numerals.{add-one}
use native.Mathlib.Omega.{arith}
use lib.ListN.{length, get_or, set, drop}
use lib.Seq.{drop-cons, drop-length}
use borrow.Rule.Slice.PartMut.{set_mid_at, mid_len, mid_of, put_mid}
use Rattle.model.specs.Map.{Image}
use Rattle.model.specs.State.{State, state_with}
use Rattle.model.specs.Access.{byte_written_state, bytes_written_state}
use Rattle.contracts.specs.Forms.{IsState}
use Rattle.model.specs.declared.lane.Working.{Working}

-- a byte set in a part of n bytes that starts at a is a byte of the whole
pub part_set : (xs ys : List ℕ) (a n j v : ℕ) → a + n ≤ length xs → j < n
    → ys ≡ set (mid_of a ((a + n) - a) xs) j v → put_mid a ((a + n) - a) xs ys ≡ set xs (a + j) v
part_set xs ys a n j v l h e =
    let m : length (mid_of a ((a + n) - a) xs) ≡ (a + n) - a = mid_len a (a + n) xs l in
    rw e (set_mid_at a ((a + n) - a) j xs v (omega arith))

-- what is left, as one state
pub left_state : {s : State} {im : Image} {w : Working} → IsState s im w → state_with im w ≡ s
left_state r = λ i. record { image = r.image i; working = r.working i }

pub state_left : {s : State} {im : Image} {w : Working} → s ≡ state_with im w → IsState s im w
state_left e = record { image = sym (ap (λ t. t.image) e); working = sym (ap (λ t. t.working) e) }

-- a turn of the loop: the bytes from i on are still to be written, to the state s
module _ (address : ℕ) (bytes : List ℕ) where
  pub write_begin : (s : State) → bytes_written_state address bytes s ≡ bytes_written_state (address + 0) (drop 0 bytes) s
  write_begin s = rw add-zero

  pub write_turn : (i : ℕ) (s t : State) → i < length bytes → t ≡ byte_written_state (address + i) (get_or bytes i 0) s
      → bytes_written_state (address + i) (drop i bytes) s ≡ bytes_written_state (address + (i + 1)) (drop (i + 1) bytes) t
  unfolding bytes_written_state
  write_turn i s t l e = rw (drop-cons bytes i 0 l, add-one, add-suc, e)

  pub write-end : (s : State) → bytes_written_state (address + length bytes) (drop (length bytes) bytes) s ≡ s
  unfolding bytes_written_state
  write-end s = rw (drop-length bytes)
