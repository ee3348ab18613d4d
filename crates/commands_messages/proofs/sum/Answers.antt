use borrow.Author.Rules.{rules}
use mathlib.Core.Path.{◌∙◌}
use Prim.Native.Nat.{◌+◌, ◌^◌, ◌<◌}
use native.Mathlib.Omega.{arith}
use lib.ListN.{get_or}
use Rattle.std.specs.List.{sum_by, range_with_len}
use Rattle.std.proofs.lemmas.Iterator.{YieldsList-from_range, YieldsList-from_map}
use Rattle.std.proofs.lemmas.Iterator.Consumers.{sum_by_from_yields_List, fits_by_from_yields_list}
use Rattle.commands_messages.proofs.Sums.{sum_range, sum_bound}
use Rattle.commands_messages.proofs.sum.Goals as goal

pub sum-requires-clause-fits : goal.sum-requires-clause-fits
sum-requires-clause-fits c =
    let a = c.args in
    let small : sum_by (λ k. get_or a.image.now (a.from + k) 0) (range_with_len 0 a.count) < 2 ^ 16 =
    omega (arith, sum_range (λ k. get_or a.image.now (a.from + k) 0) a.count, sum_bound (λ k. get_or a.image.now (a.from + k) 0) a.count (λ k. omega (arith, c.type_inv.image (a.from + k)))) in
    fits_by_from_yields_list (λ k. get_or a.image.now (a.from + k) 0) (range_with_len 0 a.count) c.map.result (2 ^ 16)
    (YieldsList-from_map _ (λ k. get_or a.image.now (a.from + k) 0) (YieldsList-from_range 0 a.count a.count (cc) (omega arith)) c.map.ensures.closure (λ x r q k. search rules)) small

pub returns : goal.returns
returns c =
    let a = c.args in
    sum_by_from_yields_List (λ k. get_or a.image.now (a.from + k) 0) (range_with_len 0 a.count) c.map.result _ c.sum.ensures.ran
    (YieldsList-from_map _ (λ k. get_or a.image.now (a.from + k) 0) (YieldsList-from_range 0 a.count a.count (cc) (omega arith)) c.map.ensures.closure (λ x r q k. search rules))
    ∙ sum_range _ _
