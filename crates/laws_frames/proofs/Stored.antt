-- A byte written to a place of the image, by what the place is: one law for whatever the bytes of a write keep. Assumes nothing.
use mathlib.Core.Path.{◌≡◌}
use mathlib.Core.Bool.{true}
use mathlib.Core.Logic.{inl, inr}
use Prim.Native.Nat.{ℕ}
use lib.Dec.{eqb}
use lib.ListN.{set}
use Rattle.bits.specs.Choice.{pick}
use Rattle.bits.proofs.Tests.{split}
use Rattle.model.specs.Map.{page_select, writable}
use Rattle.model.specs.State.{State, with_image}
use Rattle.model.specs.Triggers.{triggered_state}
use Rattle.model.specs.Pages.{selected_image}
use Rattle.model.specs.Access.{without_reset, stored_by, stored_state}
use Rattle.model.specs.declared.lane.Trigger.{Trigger}
use Rattle.model.specs.declared.lane.StagedSet.{StagedSet}
use Rattle.model.proofs.Triggers.{by_row}

-- what a byte is to leave of two states, which may be the same: for the page select, for a trigger of any staged set, for a byte that is stored, for one that is not
pub stored_cases : (P : State → State → Type 0) (i v : ℕ) (s t : State)
    → (eqb i page_select ≡ true → P (with_image s (selected_image v s.image)) (with_image t (selected_image v t.image)))
    → ((kind : Trigger) (set : StagedSet) → P (triggered_state kind set s v) (triggered_state kind set t v))
    → (writable i ≡ true → P (with_image s (set s.image i (without_reset i v))) (with_image t (set t.image i (without_reset i v))))
    → P s t → P (stored_state i v s) (stored_state i v t)
unfolding stored_state stored_by pick
stored_cases P i v s t page trigger stored ignored = split (eqb i page_select)
    (λ e. rw (e, pick) (page e))
    (λ e. elim (by_row i) [
      | inl (a, f, r) ↦ rw (e, f, pick, stored_by) (trigger a.trigger a.set)
      | inr f ↦ split (writable i) (λ w. rw (e, f, w, pick, stored_by) (stored w)) (λ w. rw (e, f, w, pick, stored_by) ignored)
    ])
