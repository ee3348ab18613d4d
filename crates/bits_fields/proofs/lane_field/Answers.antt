use Rattle.bits.specs.Lane.{lane_field}
use borrow.Author.Rules.{rules}
use Rattle.bits_fields.proofs.lane_field.Goals as goal

pub returns : goal.returns
unfolding lane_field
returns c = search rules
