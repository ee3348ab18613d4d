use borrow.Author.Rules.{rules}
use mathlib.Core.Path.{◌≡◌, ap, ◌∙◌}
use Rattle.bits.specs.Choice.{both}
use Rattle.bits.proofs.Tests.{and_both}
use Rattle.model.specs.Sound.{same_verdict, agrees}
use Rattle.model.proofs.States.{trigger_is, staged_set_is}
use Rattle.sound_groups.proofs.agrees.Goals as goal

pub returns-in-None : goal.returns-in-None
unfolding agrees
returns-in-None c = rw c.in-None.is

pub returns-in-Some : goal.returns-in-Some
unfolding agrees same_verdict
returns-in-Some c =
    let verdict : c.eq-in-Some-2.result ≡ same_verdict c.args.p.verdict c.in-Some.q.verdict = search rules in
    rw
    (c.in-Some.is, c.eq.ensures, trigger_is, c.eq-in-Some.ensures, staged_set_is, verdict)
    (and_both _ _ ∙ ap (both _) (and_both _ _ ∙ ap (both _) (and_both _ _)))
