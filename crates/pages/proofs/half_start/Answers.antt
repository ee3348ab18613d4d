use borrow.Author.Tests.{lt-ltb, le-ltb}
use Rattle.bits.specs.Choice.{pick}
use Rattle.pages.specs.Halves.{half_start}
use Rattle.pages.proofs.half_start.Goals as goal

pub returns-then-address-lt-PAGE_LENGTH : goal.returns-then-address-lt-PAGE_LENGTH
unfolding half_start pick
returns-then-address-lt-PAGE_LENGTH c = rw (lt-ltb _ _ c.if-address-lt-PAGE_LENGTH.true)

pub returns : goal.returns
unfolding half_start pick
returns c = rw (le-ltb _ _ c.if-address-lt-PAGE_LENGTH.false) c.selected_start.ensures
