use native.Mathlib.Omega.{arith}
use mathlib.Core.Path.{refl, ap, ◌∙◌}
use mathlib.Core.List.{[], ◌∷◌, ◌++◌}
use Prim.Native.Nat.{◌≤◌, ◌<◌}
use lib.ListN.{length, take, length-append}
use Rattle.model.specs.File.{record_length}
use Rattle.pieces_carried.specs.Carrying.{held_in, carried_by}
use Rattle.pieces_carried.proofs.Holding.{held-short, tidy-count, tidy-set, took-padded}
use Rattle.pieces_carried.proofs.Printing.{puts_none}
use Rattle.pieces_bytes.proofs.Taking.{record_none, record_waits}
use Rattle.pieces_bytes.proofs.take_record.Goals as goal

pub returns-then-records-next : goal.returns-then-records-next
returns-then-records-next c =
    rw (record_none (carried_by c.args.c c.args.image.now) c.args.next c.args.records (held_in c.args.c ++ (c.args.b ∷ [])) c.if-records-next.true)
    (c.refuse.ensures c.args.image.now)

pub returns-then-c-lt-RECORD_MOST : goal.returns-then-c-lt-RECORD_MOST
unfolding carried_by
returns-then-c-lt-RECORD_MOST c =
    let n : length (held_in c.args.c ++ (c.args.b ∷ [])) < record_length = omega (arith, tidy-count c.requires.0, length-append (held_in c.args.c) (c.args.b ∷ [])) in
    rw (record_waits (carried_by c.args.c c.args.image.now) c.args.next c.args.records (held_in c.args.c ++ (c.args.b ∷ [])) (omega arith) n)
    (record { carried = c.hold.ensures.1.same c.args.image.now; registers = refl; text = rw c.hold.ensures.0 puts_none })

pub bounds-held-c : goal.bounds-held-c
bounds-held-c c = omega (arith, tidy-count c.requires.0, held-short c.args.c)

pub returns : goal.returns
returns c =
    let h = held_in c.args.c ++ (c.args.b ∷ []) in
    let l : record_length ≤ length h = omega (arith, tidy-count c.requires.0, length-append (held_in c.args.c) (c.args.b ∷ [])) in
    let chunk = rw c.unwrap.ensures at c.first_chunk.ensures.cases in
    let e = chunk.same ∙ ap (take record_length) (tidy-set c.args.c c.args.b c.requires.0) in
    rw (← took-padded (carried_by c.args.c c.args.image.now) c.args.next c.args.records h l, ← e) c.take_whole_record.ensures
