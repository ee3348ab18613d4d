-- The bytes that a host's write leaves alone whatever it writes, and the low-power line. Assumes nothing.
use mathlib.Core.Path.{◌≡◌, refl, ◌∙◌}
use mathlib.Core.Bool.{false}
use mathlib.Core.List.{List, [], ◌∷◌}
use Prim.Native.Nat.{ℕ, suc, ◌-◌}
use lib.ListN.{get_or}
use lib.Seq.{get_or-set_other}
use Rattle.bits.proofs.Tests.{clash, either_l, either_r, pick-has}
use Rattle.model.specs.Map.{Range, range, in_ranges, bank_select, page_select, writable_ranges, writable, status_bytes}
use Rattle.model.specs.Records.{with_stages}
use Rattle.model.specs.State.{State}
use Rattle.model.specs.Triggers.{is_ignored, marked_state, triggered_state}
use Rattle.model.specs.Access.{stored_state, byte_written_state, bytes_written_state}
use Rattle.model.specs.declared.lane.Trigger.{Trigger}
use Rattle.model.specs.declared.lane.StagedSet.{StagedSet}
use Rattle.laws_frames.specs.Frames.{Beside, status_end}
use Rattle.laws_frames.proofs.Ranges.{beside_range}
use Rattle.laws_frames.proofs.Stored.{stored_cases}
use Rattle.laws_frames.proofs.Changes.{status_outside, selected_outside}

-- what a write may change: 126 and 127, ConfigStatus, and what is writable
abbrev pub written_ranges : List Range
written_ranges = range bank_select page_select ∷ range status_bytes (status_end - 1) ∷ writable_ranges

module _ (j : ℕ) (U : in_ranges written_ranges j ≡ false) where
  page_beside : Beside bank_select (suc page_select) j
  unfolding in_ranges
  page_beside = beside_range bank_select page_select j (either_l _ _ U)

  status_beside : Beside status_bytes status_end j
  unfolding in_ranges
  status_beside = beside_range status_bytes (status_end - 1) j (either_l _ _ (either_r _ _ U))

  not-writable : writable j ≡ false
  unfolding in_ranges writable
  not-writable = either_r _ _ (either_r _ _ U)

  abbrev Same : State → State → Type 0
  Same s t = get_or t.image j 0 ≡ get_or s.image j 0

  triggered_off : (t : Trigger) (set : StagedSet) (v : ℕ) (s : State) → Same s (triggered_state t set s v)
  unfolding triggered_state marked_state
  triggered_off t set v s = pick-has (Same s) (is_ignored t s.image) (λ e. refl) (λ e. (status_outside _ _ s.image).byte j status_beside)

  stored_off : (i v : ℕ) (s : State) → Same s (stored_state i v s)
  stored_off i v s =
      stored_cases (λ u t. Same s t) i v s s (λ e. (selected_outside v s.image).byte j page_beside) (λ kind set. triggered_off kind set v s)
      (λ w. get_or-set_other s.image i j _ 0 (λ q. clash w (rw q at not-writable))) refl

  -- no write changes it
  pub bytes_off : (address : ℕ) (vs : List ℕ) (s : State) → Same s (bytes_written_state address vs s)
  unfolding bytes_written_state byte_written_state
  bytes_off address [] s = refl
  bytes_off address (v ∷ vs) s = bytes_off (suc address) vs _ ∙ stored_off _ v s

-- the line is no register
abbrev SameLine : State → State → Type 0
SameLine s t = t.working.line ≡ s.working.line

triggered_line : (t : Trigger) (set : StagedSet) (v : ℕ) (s : State) → SameLine s (triggered_state t set s v)
unfolding triggered_state marked_state with_stages
triggered_line t set v s = pick-has (SameLine s) (is_ignored t s.image) (λ e. refl) (λ e. refl)

stored-line : (i v : ℕ) (s : State) → SameLine s (stored_state i v s)
stored-line i v s = stored_cases (λ u t. SameLine s t) i v s s (λ e. refl) (λ kind set. triggered_line kind set v s) (λ e. refl) refl

pub bytes-line : (address : ℕ) (vs : List ℕ) (s : State) → SameLine s (bytes_written_state address vs s)
unfolding bytes_written_state byte_written_state
bytes-line address [] s = refl
bytes-line address (v ∷ vs) s = bytes-line (suc address) vs _ ∙ stored-line _ v s
