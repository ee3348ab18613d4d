-- Tests put together, as the code has them and as the model has them. Assumes nothing.
use mathlib.Core.Path.{◌≡◌, refl, ap, ◌∙◌}
use mathlib.Core.Bool.{Bool, true, false, ◌&&◌}
use lib.Dec.{eqb}
use Rattle.std.proofs.Math.Bool.{and_assoc}
use Rattle.bits.specs.Choice.{both}
use Rattle.bits.specs.Loop.{all_below}
use Rattle.bits.proofs.Tests.{and_both, and_seven}
use Rattle.model.specs.View.{setting_values}
use Rattle.model.specs.Sound.{same_settings}
use Rattle.model.specs.declared.lane.Settings.{Settings}

pub both_assoc : (a b c : Bool) → both a (both b c) ≡ both (both a b) c
unfolding both
both_assoc true b c = refl
both_assoc false b c = refl

pub both_false : (a : Bool) → both a false ≡ false
unfolding both
both_false true = refl
both_false false = refl

pub four_by : (a b c d : Bool) → ((a && b) && (c && d)) ≡ both (both a b) (both c d)
unfolding both
four_by true b c d = and_both b (c && d) ∙ ap (both b) (and_both c d)
four_by false b c d = refl

and_eight : (a b c d e f g h : Bool)
    → (((((((a && b) && c) && d) && e) && f) && g) && h) ≡ both (both (both (both (both (both (both a b) c) d) e) f) g) h
and_eight a b c d e f g h = and_both ((((((a && b) && c) && d) && e) && f) && g) h ∙ ap (λ t. both t h) (and_seven a b c d e f g)

-- settings compared one by one, as the derived `==` does
pub settings_by : (h k : Settings)
    → (eqb h.config k.config && (eqb h.adaptive k.adaptive && (eqb h.equalizer k.equalizer && (eqb h.cdr_tx k.cdr_tx
    && (eqb h.cdr_rx k.cdr_rx && (eqb h.pre k.pre && (eqb h.post k.post && eqb h.amplitude k.amplitude))))))) ≡ same_settings h k
unfolding same_settings setting_values all_below both
settings_by h k = simp and_assoc at (
    and_eight
    (eqb h.config k.config)
    (eqb h.adaptive k.adaptive)
    (eqb h.equalizer k.equalizer)
    (eqb h.cdr_tx k.cdr_tx)
    (eqb h.cdr_rx k.cdr_rx)
    (eqb h.pre k.pre)
    (eqb h.post k.post)
    (eqb h.amplitude k.amplitude))
