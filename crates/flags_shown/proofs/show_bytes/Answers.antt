use native.Mathlib.Omega.{arith}
use mathlib.Core.Path.{◌≡◌, sym, ap, ◌∙◌}
use Rattle.bits.proofs.Loops.{each_begin, each_turn, each_pass}
use Rattle.model.specs.Map.{page11, on, lasting_count}
use Rattle.model.specs.Flags.{is_read, shown_again_image}
use Rattle.flags_shown.proofs.Shown.{flag_shown}
use Rattle.flags_shown.proofs.show_bytes.Goals as goal
use Rattle.flags_shown.proofs.show_bytes.Goals.{then-is_read, else-is_read}

pub loop-flag-init : goal.loop-flag-init
unfolding shown_again_image
loop-flag-init c = each_begin _ _ _

pub loop-flag-preserved : goal.loop-flag-preserved
loop-flag-preserved c =
    let v = c.loop-flag.invariant in
    let at = c.on-at.ensures ∙ ap (on page11) c.lasting_flag.ensures in
    let read = c.is_read.ensures ∙ ap (is_read _ _) at in
    elim c.if-is_read.branch [
      | then-is_read t ↦ t.image-is ∙ (flag_shown _ _ _ _ _ _ at t.on_lanes.ensures t.set_bits.ensures ∙ each_turn _ _ _ _ _ v (sym read ∙ t.if-is_read.true))
      | else-is_read t ↦ t.image-is ∙ each_pass _ _ _ _ _ v (sym read ∙ t.if-is_read.false)
    ]

pub returns : goal.returns
unfolding shown_again_image
returns c = let e : c.loop-flag.flag ≡ lasting_count = omega arith in rw e at c.loop-flag.invariant
