-- The code's tests of triggers, staged sets and settings are the model's. Assumes nothing.
use mathlib.Core.Path.{◌≡◌, refl, sym, ◌∙◌}
use mathlib.Core.Bool.{not, ◌&&◌}
use Prim.Native.Nat.{◌<◌}
use lib.Dec.{ltb}
use borrow.Author.Tests.{lt-ltb}
use Rattle.bits.specs.Choice.{both}
use Rattle.bits.specs.Loop.{all_below}
use Rattle.bits.proofs.Tests.{and_seven}
use Rattle.model.specs.View.{setting_values}
use Rattle.model.specs.Sound.{same_trigger, same_set, settings_fit}
use Rattle.model.specs.declared.lane.Settings.{Settings}
use Rattle.model.specs.declared.lane.StagedSet.{StagedSet}
use Rattle.model.specs.declared.lane.StagedSet.TheVariants.{Set0, Set1}
use Rattle.model.specs.declared.lane.Trigger.{Trigger}
use Rattle.model.specs.declared.lane.Trigger.TheVariants.{DpInit, Immediate}

-- a trigger that is not ApplyDPInit is ApplyImmediate
pub not_init : (t : Trigger) → not (same_trigger DpInit t) ≡ same_trigger Immediate t
unfolding same_trigger
not_init DpInit = refl
not_init Immediate = refl

-- a staged set that is not set 0 is set 1
pub not-set_0 : (a : StagedSet) → not (same_set Set0 a) ≡ same_set Set1 a
unfolding same_set
not-set_0 Set0 = refl
not-set_0 Set1 = refl

-- a byte always fits DPConfig
pub fit_by : (h : Settings) → h.config < 256
    → ((((((ltb h.adaptive 2 && ltb h.equalizer 16) && ltb h.cdr_tx 2) && ltb h.cdr_rx 2) && ltb h.pre 16) && ltb h.post 16) && ltb h.amplitude 16)
    ≡ settings_fit h
unfolding settings_fit setting_values all_below both
fit_by h b =
    and_seven (ltb h.adaptive 2) (ltb h.equalizer 16) (ltb h.cdr_tx 2) (ltb h.cdr_rx 2) (ltb h.pre 16) (ltb h.post 16) (ltb h.amplitude 16)
    ∙ sym (rw (lt-ltb h.config 256 b, both))
