use Rattle.model.specs.Map.{setting_at}
use Rattle.model.specs.View.{settings_at}
use Rattle.view_settings.proofs.settings_at.Goals as goal

pub returns : goal.returns
unfolding settings_at setting_at
returns c = λ i. record {
  config = c.lane_byte.ensures i;
  adaptive = c.lane_bit.ensures i;
  equalizer = c.nibble.ensures i;
  cdr_tx = c.lane_bit-2.ensures i;
  cdr_rx = c.lane_bit-3.ensures i;
  pre = c.nibble-2.ensures i;
  post = c.nibble-3.ensures i;
  amplitude = c.nibble-4.ensures i;
}
