-- No more than the buffer is filled, and what is left of it shrinks.
use Rattle.std.proofs.Common.{◌-◌, ◌≤◌, length}
use Rattle.night.proofs.read_full.Given as goal

abbrev pub invariant-loop-come : goal.invariant-loop-come
invariant-loop-come g l = l.come ≤ length l.buffer

abbrev pub decreases-loop-come : goal.decreases-loop-come
decreases-loop-come g l = length l.initial.buffer - l.come
