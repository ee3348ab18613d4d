-- Equality of two states as a test: every byte of the image, every lane's record and the low-power line.
use Rattle.std.specs.Prelude.{ℕ, Bool, true, false, List, [], ◌∷◌, eqb, None, Some, Option}
use Rattle.bits.specs.Choice.{both, implies}
use Rattle.model.specs.Records.{held_in}
use Rattle.model.specs.State.{State}
use Rattle.model.specs.Sound.{agrees, same_settings}
use Rattle.model.specs.declared.lane.Progress.{Progress}
use Rattle.model.specs.declared.lane.LaneRecord.{LaneRecord}

unfoldable pub same_bytes : List ℕ → List ℕ → Bool
same_bytes [] [] = true
same_bytes [] (y ∷ ys) = false
same_bytes (x ∷ xs) [] = false
same_bytes (x ∷ xs) (y ∷ ys) = both (eqb x y) (same_bytes xs ys)

-- both idle, or in progress with the same group, trigger, verdict, next lane and held settings
unfoldable pub same_stage : Option Progress → Option Progress → Bool
same_stage None None = true
same_stage None (Some q) = false
same_stage (Some p) s = both (agrees p s) (same_settings p.held (held_in s))

unfoldable pub same_records : List LaneRecord → List LaneRecord → Bool
same_records [] [] = true
same_records [] (q ∷ qs) = false
same_records (p ∷ ps) [] = false
same_records (p ∷ ps) (q ∷ qs) = both (both (same_stage p.stage q.stage) (eqb p.on q.on)) (same_records ps qs)

unfoldable pub same_line : Bool → Bool → Bool
same_line a b = both (implies a b) (implies b a)

unfoldable pub same_state : State → State → Bool
same_state s t =
    both (same_bytes s.image t.image)
    (both (same_records s.working.lanes t.working.lanes) (same_line s.working.line t.working.line))
