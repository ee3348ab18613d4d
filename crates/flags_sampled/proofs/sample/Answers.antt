use mathlib.Core.Path.{◌≡◌}
use lib.ListN.{length}
use Rattle.bits.specs.Sets.{lane_count}
use borrow.Author.Rules.{rules}
use Rattle.model.specs.Records.{with_on}
use Rattle.model.specs.Flags.{sampled_state}
use Rattle.flags_sampled.proofs.Sampled.{sampled_by}
use Rattle.flags_sampled.proofs.sample.Goals as goal

pub returns : goal.returns
unfolding sampled_state with_on
returns c = let begun = c in
    let eight : length c.args.w.lanes ≡ lane_count = search rules in
    let taken = c.sample-beyond.ensures in
    record { image = taken.image; working = sampled_by _ _ _ _ _ _ eight begun.requires taken.beyond c.after_sample-own.ensures }
