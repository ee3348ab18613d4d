-- A loop that replaces the stages of the picked lanes leaves the model's `with_stages`. Assumes nothing.
use Rattle.std.proofs.Common.{Option}
use mathlib.Core.Path.{◌≡◌, refl, ◌∙◌}
use mathlib.Core.Bool.{Bool}
use mathlib.Core.List.{List}
use Prim.Native.Nat.{ℕ}
use lib.ListN.{length}
use Rattle.bits.specs.Choice.{pick}
use Rattle.bits.specs.Loop.{each}
use Rattle.bits.specs.Sets.{lane_count}
use Rattle.model.specs.Records.{stage_at, with_stage, with_stages}
use Rattle.model.specs.declared.lane.Progress.{Progress}
use Rattle.model.specs.declared.lane.LaneRecord.{LaneRecord}
use Rattle.model.specs.declared.lane.Working.{Working}
use Rattle.records.proofs.Fields.{replaced, fields_loop}

-- the turn of such a loop at lane k
abbrev pub restaged : (ℕ → Option Progress → Option Progress) → ℕ → List LaneRecord → List LaneRecord
restaged = replaced (λ r. r.stage) with_stage

same-stage : (r : LaneRecord) → with_stage r r.stage ≡ r
unfolding with_stage
same-stage r = refl

pub stages_loop : (c : ℕ → Bool) (f : ℕ → Option Progress → Option Progress) (w v : Working) → length w.lanes ≡ lane_count → v.line ≡ w.line
    → v.lanes ≡ each c (restaged f) lane_count w.lanes → v ≡ with_stages w (λ l. pick (c l) (f l (stage_at w l)) (stage_at w l))
unfolding with_stages
stages_loop c f w v e l h = let m = h ∙ fields_loop (λ r. r.stage) with_stage same-stage c f w.lanes e in λ i. record { lanes = m i; line = l i }
