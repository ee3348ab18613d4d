use borrow.Author.Tests.{lt-ltb, le-ltb}
use Rattle.bits.specs.Choice.{either}
use Rattle.apply_reasons.proofs.is_refused.Goals as goal

pub returns-then-amplitude-gt-HIGHEST_AMPLITUDE : goal.returns-then-amplitude-gt-HIGHEST_AMPLITUDE
unfolding either
returns-then-amplitude-gt-HIGHEST_AMPLITUDE c = rw (lt-ltb _ _ c.if-amplitude-gt-HIGHEST_AMPLITUDE.true, either)

pub returns : goal.returns
unfolding either
returns c = rw (le-ltb _ _ c.if-amplitude-gt-HIGHEST_AMPLITUDE.false, either, c.is_in.ensures)
