-- A working state has one form as bytes, and an idle one's is zeros. Assumes nothing.
use mathlib.Core.Path.{◌≡◌, refl, sym, ap, ◌∙◌}
use mathlib.Core.List.{List}
use Prim.Native.Nat.{ℕ, ◌≤◌}
use native.Mathlib.Omega.{arith}
use lib.ListN.{length}
use Rattle.bits.specs.Choice.{pick}
use Rattle.bits.specs.Loop.{tab}
use Rattle.bits.proofs.Loops.{length-tab}
use Rattle.model.specs.Records.{idle_working}
use Rattle.model.specs.Outcome.{laid_over}
use Rattle.model.specs.declared.lane.Working.{Working}
use Rattle.packing.specs.Packing.{state_length, record_bytes_by, record_bytes, packed_byte, packed, unpacked}
use Rattle.packing.proofs.States.{unpacked-packed}
use Rattle.laws_door.proofs.Eight.{Eight}

-- two working states of the same bytes are the same
pub one_form : (w v : Working) → Eight w → Eight v → packed w ≡ packed v → w ≡ v
one_form w v hw hv e =
    let zeros : List ℕ = tab state_length (λ k. 0) in
    let room : state_length ≤ length zeros = omega (arith, length-tab {A = ℕ} state_length (λ k. 0)) in
    sym (unpacked-packed w zeros room hw) ∙ ap (λ bytes. unpacked (laid_over bytes zeros)) e ∙ unpacked-packed v zeros room hv

-- all lanes idle with nothing on, and the line off: 129 bytes of 0
pub idle_is_zeros : packed idle_working ≡ tab state_length (λ k. 0)
unfolding packed packed_byte record_bytes record_bytes_by pick tab
idle_is_zeros = refl
