use borrow.Author.Rules.{rules}
use mathlib.Core.Path.{◌∙◌}
use Rattle.bits_nibbles.proofs.Merged.{merged_puts}
use Rattle.bits_nibbles.proofs.put_nibbles.Goals as goal

pub returns : goal.returns
returns c =
    c.put_word4.ensures
    ∙ rw (c.word4-old.ensures, c.nibbles_of-lanes.ensures) (merged_puts c.args.image.now c.args.at c.args.set c.args.v c.requires (search rules))
