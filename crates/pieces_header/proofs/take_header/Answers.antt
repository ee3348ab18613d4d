use native.Mathlib.Omega.{arith}
use mathlib.Core.Path.{◌≡◌, refl, ◌∙◌}
use mathlib.Core.List.{[], ◌∷◌, ◌++◌}
use Prim.Native.Nat.{◌<◌}
use lib.ListN.{length, length-append}
use Rattle.model.specs.File.{image_offset}
use Rattle.pieces_carried.specs.Carrying.{held_room, held_in, carried_by}
use Rattle.pieces_carried.proofs.Holding.{held-short, tidy-count, tidy-set, padded-whole}
use Rattle.pieces_carried.proofs.Printing.{puts_none}
use Rattle.pieces_header.proofs.Headers.{header_waits}
use Rattle.pieces_header.proofs.take_header.Goals as goal

pub returns-then-c-lt-HEADER_MOST : goal.returns-then-c-lt-HEADER_MOST
unfolding carried_by
returns-then-c-lt-HEADER_MOST c =
    let n : length (held_in c.args.c ++ (c.args.b ∷ [])) < image_offset = omega (arith, tidy-count c.requires.0, length-append (held_in c.args.c) (c.args.b ∷ [])) in
    λ x. rw (header_waits (carried_by c.args.c x) (held_in c.args.c ++ (c.args.b ∷ [])) n)
    (record { carried = c.hold.ensures.1.same x; registers = refl; text = rw c.hold.ensures.0 puts_none })

pub bounds-held-c : goal.bounds-held-c
bounds-held-c c = omega (arith, tidy-count c.requires.0, held-short c.args.c)

pub returns : goal.returns
returns c =
    let n : length (held_in c.args.c ++ (c.args.b ∷ [])) ≡ held_room = omega (arith, held-short c.args.c, tidy-count c.requires.0, length-append (held_in c.args.c) (c.args.b ∷ [])) in
    let e = tidy-set c.args.c c.args.b c.requires.0 ∙ padded-whole (held_in c.args.c ++ (c.args.b ∷ [])) n in
    λ x. rw (← e) (c.take_whole_header.ensures x)
