use mathlib.Core.Path.{refl}
use mathlib.Core.Logic.{inl, inr}
use Rattle.model.specs.Stream.{ended_in}
use Rattle.model.specs.declared.stream.Phase.TheVariants.{InHeader, InImage, Over}
use Rattle.pieces_carried.specs.Carrying.{carried_by, kept}
use Rattle.pieces_carried.proofs.Printing.{puts_none}
use Rattle.pieces_end.proofs.Ending.{ended_at}
use Rattle.pieces_end.proofs.end.Goals as goal

pub returns-in-InHeader : goal.returns-in-InHeader
unfolding ended_in carried_by
returns-in-InHeader c = λ x. elim c.in-InHeader.is [
  | inl e ↦ rw (ended_at (carried_by c.args.c x) InHeader e) (c.refuse.ensures x)
  | inr e ↦ rw (ended_at (carried_by c.args.c x) (InImage e.0 e.1) e.2) (c.refuse.ensures x)
]

pub returns-in-InRecords : goal.returns-in-InRecords
unfolding carried_by
returns-in-InRecords c = λ x. rw (ended_at (carried_by c.args.c x) _ c.in-InRecords.is) (c.end_records.ensures x)

pub returns-in-Over : goal.returns-in-Over
unfolding ended_in carried_by kept
returns-in-Over c =
    λ x. rw (ended_at (carried_by c.args.c x) Over c.in-Over.is) (record { carried = c.requires.0; registers = refl; text = puts_none })
