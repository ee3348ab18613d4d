-- The lanes' stages, and what is on, after a change of the working state. Assumes nothing.
use Rattle.std.proofs.Common.{None, Option}
use mathlib.Core.Path.{◌≡◌, ap, ◌∙◌}
use mathlib.Core.Bool.{Bool, true, false}
use Prim.Native.Nat.{ℕ, ◌<◌}
use Rattle.bits.specs.Sets.{has}
use Rattle.bits.proofs.Tests.{pick_true, pick-false}
use Rattle.bits.proofs.Loops.{tab_at}
use Rattle.model.specs.Records.{idle_record, idle_with, record_at, stage_at, on_at, with_stage, with_stages, with_on, with_ons, with_verdict, freed_working, advanced_working}
use Rattle.model.specs.declared.lane.Verdict.TheVariants.{Pass}
use Rattle.model.specs.declared.lane.Progress.{Progress}
use Rattle.model.specs.declared.lane.LaneRecord.{LaneRecord}
use Rattle.model.specs.declared.lane.Working.{Working}

pub idle-stage : (line : Bool) (l : ℕ) → l < 8 → stage_at (idle_with line) l ≡ None
idle-stage line l b = ap (λ (r : LaneRecord). r.stage) (tab_at 8 (λ k. idle_record) l idle_record b)

pub idle-on : (line : Bool) (l : ℕ) → l < 8 → on_at (idle_with line) l ≡ 0
idle-on line l b = ap (λ (r : LaneRecord). r.on) (tab_at 8 (λ k. idle_record) l idle_record b)

module _ (w : Working) where
  pub stage_in : (f : ℕ → Option Progress) (l : ℕ) → l < 8 → stage_at (with_stages w f) l ≡ f l
  unfolding with_stages with_stage
  stage_in f l b = ap (λ (r : LaneRecord). r.stage) (tab_at 8 (λ k. with_stage (record_at w k) (f k)) l idle_record b)

  pub freed_in : (g l : ℕ) → l < 8 → has g l ≡ true → stage_at (freed_working w g) l ≡ None
  unfolding freed_working
  freed_in g l b i = stage_in _ l b ∙ pick_true _ _ i

  pub freed_out : (g l : ℕ) → l < 8 → has g l ≡ false → stage_at (freed_working w g) l ≡ stage_at w l
  unfolding freed_working
  freed_out g l b i = stage_in _ l b ∙ pick-false _ _ i

  pub advanced_in : (g n l : ℕ) → l < 8 → has g l ≡ true → stage_at (advanced_working w g n) l ≡ with_verdict (stage_at w l) (Pass n)
  unfolding advanced_working
  advanced_in g n l b i = stage_in _ l b ∙ pick_true _ _ i

  pub advanced_out : (g n l : ℕ) → l < 8 → has g l ≡ false → stage_at (advanced_working w g n) l ≡ stage_at w l
  unfolding advanced_working
  advanced_out g n l b i = stage_in _ l b ∙ pick-false _ _ i

  -- ---- what is on

  pub on_in : (f : ℕ → ℕ) (l : ℕ) → l < 8 → on_at (with_ons w f) l ≡ f l
  unfolding with_ons with_on
  on_in f l b = ap (λ (r : LaneRecord). r.on) (tab_at 8 (λ k. with_on (record_at w k) (f k)) l idle_record b)

  -- .. apart from the stages
  pub on-kept : (f : ℕ → Option Progress) (l : ℕ) → l < 8 → on_at (with_stages w f) l ≡ on_at w l
  unfolding with_stages with_stage
  on-kept f l b = ap (λ (r : LaneRecord). r.on) (tab_at 8 (λ k. with_stage (record_at w k) (f k)) l idle_record b)

  pub stage-kept : (f : ℕ → ℕ) (l : ℕ) → l < 8 → stage_at (with_ons w f) l ≡ stage_at w l
  unfolding with_ons with_on
  stage-kept f l b = ap (λ (r : LaneRecord). r.stage) (tab_at 8 (λ k. with_on (record_at w k) (f k)) l idle_record b)
