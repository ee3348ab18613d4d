use mathlib.Core.Path.{◌≡◌}
use Rattle.bits.specs.Loop.{each}
use Rattle.model.specs.Map.{page11, on, lasting_flag}
use Rattle.model.specs.Records.{on_lanes}
use Rattle.model.specs.Registers.{with_flags}
use Rattle.model.specs.Flags.{is_read}
use Rattle.flags_shown.proofs.show_bytes.Given as goal

abbrev pub invariant-loop-flag : goal.invariant-loop-flag
invariant-loop-flag l = l.image ≡ each (λ k. is_read l.i l.n (on page11 (lasting_flag k))) (λ k y. with_flags (lasting_flag k) (on_lanes l.w k) y) l.flag l.initial.image
