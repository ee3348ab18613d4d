use mathlib.Core.Path.{◌≡◌, sym, ap, ◌∙◌}
use mathlib.Core.Bool.{not}
use native.Mathlib.Omega.{arith}
use borrow.Author.Rules.{rules}
use Rattle.std.proofs.lemmas.List.{set-get_or}
use Rattle.bits.proofs.Loops.{each_begin, each_turn, each_pass}
use Rattle.model.specs.Map.{image_length}
use Rattle.start_image.proofs.Starting.{start_loop}
use Rattle.start_image.proofs.reset.Goals as goal
use Rattle.start_image.proofs.reset.Goals.{then-not-kept, else-not-kept}

pub loop-i-init : goal.loop-i-init
loop-i-init c = each_begin _ _ _

pub loop-i-preserved : goal.loop-i-preserved
loop-i-preserved c =
    let l = c.loop-i in
    let k = c.kept.ensures in
    elim c.if-not-kept.branch [
      | then-not-kept w ↦ w.image-is ∙ rw w.start_value.ensures (each_turn _ _ _ _ _ l.invariant (ap not (sym k ∙ w.if-not-kept.true)))
      | else-not-kept w ↦ w.image-is ∙ set-get_or l.image l.i 0 ∙ each_pass _ _ _ _ _ l.invariant (ap not (sym k ∙ w.if-not-kept.false))
    ]

pub returns : goal.returns
returns c = let e : c.loop-i.i ≡ image_length = omega arith in
    (rw e at c.loop-i.invariant) ∙ start_loop _ (search rules)
