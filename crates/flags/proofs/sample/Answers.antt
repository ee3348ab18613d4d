use mathlib.Core.Path.{ap}
use Rattle.model.specs.Flags.{sampled_image}
use Rattle.flags.proofs.sample.Goals as goal

pub returns : goal.returns
unfolding sampled_image
returns c = let beyond = c.compare-beyond.ensures in
    record {
      image =
          rw (
            ← ap (λ t. t.above_alarm) beyond,
            ← ap (λ t. t.below_alarm) beyond,
            ← ap (λ t. t.above_warning) beyond,
            ← ap (λ t. t.below_warning) beyond,
            ← c.put_word2.ensures,
            ← c.raise.ensures,
            ← c.raise-2.ensures,
            ← c.raise-3.ensures,
          )
          c.raise-4.ensures;
      beyond = beyond;
    }
