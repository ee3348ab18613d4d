-- What a sample leaves, and which limits it lies beyond.
use Rattle.std.specs.Prelude.{◌≡◌}
use Rattle.bits.specs.Sets.{Lane}
use Rattle.model.specs.Numbers.{Power}
use Rattle.model.specs.Map.{Image}
use Rattle.model.specs.Flags.{above_alarm, below_alarm, above_warning, below_warning, sampled_image}
use Rattle.flags.specs.declared.Crossing.{Crossing}

-- the model's four comparisons
abbrev pub crossing : Image → Power → Crossing
crossing x p =
    record { above_alarm = above_alarm x p; below_alarm = below_alarm x p; above_warning = above_warning x p; below_warning = below_warning x p }

-- the contract of a sample: the image that it left, and the comparisons that it handed back
pub record IsSampled (l : Lane) (p : Power) (x : Image) (image_left : Image) (handed_back : Crossing) : Type 0 where
  pub image : image_left ≡ sampled_image l p x
  pub beyond : handed_back ≡ crossing x p
