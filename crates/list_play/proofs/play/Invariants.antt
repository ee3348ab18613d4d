-- Where the list stands: what is left to do leads from here to where the whole list leads.
use mathlib.Core.Path.{◌≡◌}
use Prim.Native.Nat.{◌-◌}
use lib.ListN.{length, take, drop}
use Rattle.list_turns.specs.Turns.{begin_of, turns_of, played_of}
use Rattle.list_play.proofs.play.Given as goal

abbrev pub invariant-loop-r : goal.invariant-loop-r
invariant-loop-r l =
    (l.r.end ≡ (begin_of (length l.events) l.initial.image l.fn.answers l.fn.w).r.end)
    × (turns_of (drop l.r.at (take l.r.end l.events)) (record { image = l.image; answers = l.answers; r = l.r }) ≡ played_of l.events l.initial.image l.fn.answers l.fn.w)

abbrev pub decreases-loop-r : goal.decreases-loop-r
decreases-loop-r l = l.r.end - l.r.at
