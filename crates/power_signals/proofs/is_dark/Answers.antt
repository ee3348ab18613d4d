use mathlib.Core.Path.{ap, ◌∙◌}
use lib.Dec.{eqb}
use Rattle.bits.specs.Sets.{lane_count}
use Rattle.bits.proofs.Loops.{all_ext}
use Rattle.bits.proofs.Sets.{all_of}
use Rattle.model.specs.PathStates.{code_of}
use Rattle.model.specs.Power.{is_dark}
use Rattle.model.specs.declared.path.PathState.TheVariants.{Deactivated}
use Rattle.view_paths.proofs.Lanes.{state_at_lem}
use Rattle.power_signals.proofs.is_dark.Goals as goal

pub returns : goal.returns
unfolding is_dark
returns c = all_of lane_count _ c.lanes_in_state.ensures ∙ all_ext lane_count _ _ (λ l h. ap (λ k. eqb k (code_of Deactivated)) (state_at_lem _ l h))
