use borrow.Author.Rules.{rules}
use borrow.Author.Tests.{tests}
use mathlib.Core.Path.{◌∙◌}
use Prim.Native.Nat.{◌+◌}
use native.Mathlib.Omega.{arith}
use Rattle.std.specs.List.{range_with_len}
use Rattle.std.proofs.lemmas.Iterator.{YieldsList-from_range, YieldsList-from_map}
use Rattle.std.proofs.lemmas.Iterator.Adapters.{fits_from_length, at_most_from_yields_List}
use Rattle.std.proofs.lemmas.Iterator.Consumers.{sum_by_from_yields_List}
use Rattle.std.proofs.lemmas.List.FromFn.{length-range_with_len}
use Rattle.model.specs.Commands.{body_limit, reply_byte}
use Rattle.model.specs.Map.{body_address}
use Rattle.commands_messages.proofs.Sums.{sum_range}
use Rattle.commands_replies.proofs.reply_sum.Goals as goal

pub sum-requires-clause-fits : goal.sum-requires-clause-fits
sum-requires-clause-fits c =
    fits_from_length _ _ body_limit _ (at_most_from_yields_List (YieldsList-from_range 0 c.args.count c.args.count (cc) (omega arith)) (omega (arith, length-range_with_len 0 c.args.count))) c.map.ensures.closure (omega arith) (λ x r q k. search (rules, tests))

pub returns : goal.returns
returns c =
    let a = c.args in
    sum_by_from_yields_List (λ k. reply_byte a.major a.minor a.command (body_address + k)) (range_with_len 0 a.count) c.map.result _ c.sum.ensures.ran
    (YieldsList-from_map _ (λ k. reply_byte a.major a.minor a.command (body_address + k)) (YieldsList-from_range 0 a.count a.count (cc) (omega arith)) c.map.ensures.closure (λ x r q k. search rules))
    ∙ sum_range _ _
