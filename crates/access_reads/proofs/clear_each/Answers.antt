use borrow.Rule.Slice.PartMut.{put_mid, put_same}
use mathlib.Core.Path.{◌≡◌, sym, ap, ◌∙◌}
use Prim.Native.Nat.{◌+◌, ◌-◌, ◌<◌}
use native.Mathlib.Omega.{arith}
use lib.ListN.{length}
use Rattle.std.proofs.lemmas.List.{set-get_or}
use Rattle.bits.proofs.Loops.{each_begin, each_turn, each_pass}
use Rattle.model.specs.Access.{cleared_image}
use Rattle.access_reads.proofs.Runs.{part_set}
use Rattle.access_reads.proofs.clear_each.Goals as goal
use Rattle.access_reads.proofs.clear_each.Goals.{then-clearing, else-clearing}

pub loop-k-init : goal.loop-k-init
loop-k-init c = put_same c.args.i (c.args.i + c.args.n - c.args.i) c.args.image.now ∙ each_begin _ _ _

pub loop-k-preserved : goal.loop-k-preserved
loop-k-preserved c =
    let a = c.args in
    let l = c.loop-k in
    let inside : l.k < length l.byte-items = omega arith in
    elim c.if-clearing.branch [
      | then-clearing w ↦ ap (put_mid a.i (a.i + a.n - a.i) a.image.now) w.byte-items-is
          ∙ part_set a.i (a.i + a.n - a.i) l.k 0 a.image.now l.byte-items (omega (arith, c.told-image)) inside
          ∙ each_turn _ _ _ _ _ l.invariant (sym c.clearing.ensures ∙ w.if-clearing.true)
      | else-clearing w ↦ ap (put_mid a.i (a.i + a.n - a.i) a.image.now) (w.byte-items-is ∙ set-get_or l.byte-items l.k 0)
          ∙ each_pass _ _ _ _ _ l.invariant (sym c.clearing.ensures ∙ w.if-clearing.false)
    ]

pub returns : goal.returns
unfolding cleared_image
returns c =
    let e : c.loop-k.k ≡ c.args.n = omega arith in
    rw e at c.loop-k.invariant
