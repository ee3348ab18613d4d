use mathlib.Core.Path.{sym, ◌∙◌}
use native.Mathlib.Omega.{arith}
use Prim.Native.Nat.{◌<◌}
use lib.ListN.{length, drop}
use lib.Seq.{length-take-le}
use Rattle.std.proofs.lemmas.List.{take-append-drop, set-append_left}
use Rattle.pages_window.proofs.Taking.{take_begin, stored_turn}
use Rattle.pages_window.proofs.take_stored.Goals as goal

pub loop-k-init : goal.loop-k-init
loop-k-init c = take-append-drop c.args.count c.args.buffer.now ∙ take_begin _ _ _

pub loop-k-preserved : goal.loop-k-preserved
loop-k-preserved c =
    let l = c.loop-k in
    let long = length-take-le c.args.count c.args.buffer.now c.requires.1 in
    let inside : l.k < length l.byte-items = omega arith in
    sym (set-append_left l.byte-items (drop c.args.count c.args.buffer.now) l.k _ inside)
    ∙ stored_turn _ _ _ _ _ _ c.requires.2 (omega (arith, long)) (omega (arith, long)) l.invariant
