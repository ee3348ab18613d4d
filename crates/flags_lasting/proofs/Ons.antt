-- What is on, replaced lane by lane: the model's `with_ons`. Assumes nothing.
use mathlib.Core.Path.{◌≡◌, refl, ap, ap₂, ◌∙◌}
use mathlib.Core.Bool.{Bool, not, ◌&&◌, ◌||◌}
use mathlib.Core.List.{List}
use Prim.Native.Nat.{ℕ}
use lib.ListN.{length}
use Rattle.bits.specs.Choice.{pick, both, either}
use Rattle.bits.specs.Loop.{each}
use Rattle.bits.specs.Sets.{lane_count, has}
use Rattle.bits.proofs.Tests.{and_both, or_either}
use Rattle.model.specs.Numbers.{OnBits}
use Rattle.model.specs.Records.{on_at, with_on, with_ons, with_flag_on}
use Rattle.model.specs.Flags.{condition_on}
use Rattle.model.specs.declared.lane.LaneRecord.{LaneRecord}
use Rattle.model.specs.declared.lane.Working.{Working}
use Rattle.records.proofs.Fields.{replaced, fields_loop}

-- what is on replaced on lane k, which may depend on the lane and on what was on
abbrev pub turned : (ℕ → OnBits → OnBits) → ℕ → List LaneRecord → List LaneRecord
turned = replaced (λ r. r.on) with_on

same-on : (r : LaneRecord) → with_on r r.on ≡ r
unfolding with_on
same-on r = refl

-- a loop over the lanes that pass the test
pub ons_loop : (c : ℕ → Bool) (f : ℕ → OnBits → OnBits) (w v : Working) → length w.lanes ≡ lane_count → v.line ≡ w.line
    → v.lanes ≡ each c (turned f) lane_count w.lanes → v ≡ with_ons w (λ l. pick (c l) (f l (on_at w l)) (on_at w l))
unfolding with_ons
ons_loop c f w v e l h = let m = h ∙ fields_loop (λ r. r.on) with_on same-on c f w.lanes e in λ i. record { lanes = m i; line = l i }

-- what is on of a lane after a lasting condition, from the code's tests
pub condition_by : (k on off l bits after : ℕ) (was ends begins : Bool) → was ≡ has bits k → ends ≡ has off l → begins ≡ has on l
    → after ≡ with_flag_on k ((was && not ends) || begins) bits → after ≡ condition_on k on off l bits
unfolding condition_on
condition_by k on off l bits after was ends begins p q r e =
    let lasts = or_either (was && not ends) begins ∙ ap₂ either (and_both was (not ends) ∙ ap₂ both p (ap not q)) r in
    e ∙ ap (λ t. with_flag_on k t bits) lasts
