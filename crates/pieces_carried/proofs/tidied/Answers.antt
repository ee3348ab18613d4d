use mathlib.Core.Path.{◌≡◌}
use lib.ListN.{length}
use Rattle.bits.specs.Loop.{tab}
use Rattle.pieces_carried.specs.Carrying.{held_room}
use Rattle.pieces_carried.proofs.Holding.{tidied_is}
use borrow.Author.Rules.{rules}
use Rattle.pieces_carried.proofs.tidied.Goals as goal

pub returns : goal.returns
unfolding tab
returns c =
    let l : length c.args.c.held ≡ held_room = search rules in
    tidied_is c.args.c l _ _ c.held_count-count.ensures.0 c.copy_from_slice.ensures.after
