-- A loop that replaces one field of the records of the picked lanes. Assumes nothing.
use mathlib.Core.Path.{◌≡◌, refl, sym, ◌∙◌}
use mathlib.Core.Bool.{Bool, true, false}
use mathlib.Core.List.{List}
use Prim.Native.Nat.{ℕ}
use lib.ListN.{length, get_or, set}
use Rattle.bits.specs.Choice.{pick}
use Rattle.bits.specs.Loop.{each, tab}
use Rattle.bits.specs.Sets.{lane_count}
use Rattle.bits.proofs.Loops.{change_loop, tab_ext}
use Rattle.model.specs.Records.{idle_record}
use Rattle.model.specs.declared.lane.LaneRecord.{LaneRecord}

-- the turn of such a loop at lane k: the field's new value may depend on the lane and on its value
abbrev pub replaced : {A : Type 0} → (LaneRecord → A) → (LaneRecord → A → LaneRecord) → (ℕ → A → A) → ℕ → List LaneRecord → List LaneRecord
replaced field with f k rs = set rs k (with (get_or rs k idle_record) (f k (field (get_or rs k idle_record))))

module _ {A : Type 0} (field : LaneRecord → A) (with : LaneRecord → A → LaneRecord) (same : (r : LaneRecord) → with r (field r) ≡ r) where
  -- a record whose field is chosen is a choice of records
  chosen : (b : Bool) (r : LaneRecord) (v : A) → pick b (with r v) r ≡ with r (pick b v (field r))
  unfolding pick
  chosen true r v = refl
  chosen false r v = sym (same r)

  pub fields_loop : (c : ℕ → Bool) (f : ℕ → A → A) (rs : List LaneRecord) → length rs ≡ lane_count
      → each c (replaced field with f) lane_count rs
      ≡ tab lane_count (λ l. with (get_or rs l idle_record) (pick (c l) (f l (field (get_or rs l idle_record))) (field (get_or rs l idle_record))))
  fields_loop c f rs e =
      change_loop c (λ k r. with r (f k (field r))) rs lane_count idle_record e
      ∙ tab_ext lane_count _ _ (λ k b. chosen (c k) (get_or rs k idle_record) (f k (field (get_or rs k idle_record))))
