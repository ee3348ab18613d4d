use mathlib.Core.Path.{ap, ap₂, ◌∙◌}
use Prim.Native.Nat.{◌+◌}
use native.Mathlib.Omega.{arith}
use lib.ListN.{get_or}
use Rattle.model.specs.Commands.{summed_header, check_code, right_code}
use Rattle.model.specs.Map.{command_number, message_body}
use Rattle.commands_messages.proofs.Sums.{sum_bound}
use Rattle.commands_messages.proofs.right_code.Goals as goal

pub overflow_add-header : goal.overflow_add-header
overflow_add-header c = let a = c.args in
    let byte = c.fits-image in
    let h = sum_bound (λ k. get_or a.image.now (command_number + k) 0) summed_header (λ k. omega (arith, byte (command_number + k))) in
    let b = sum_bound (λ k. get_or a.image.now (message_body + k) 0) a.count (λ k. omega (arith, byte (message_body + k))) in
    omega (arith, h, b, c.sum-header.ensures, c.sum-body.ensures)

pub returns : goal.returns
unfolding right_code
returns c = c.check_code.ensures ∙ ap check_code (ap₂ ◌+◌ c.sum-header.ensures c.sum-body.ensures)
