use mathlib.Core.Path.{◌≡◌, sym, ◌∙◌}
use lib.ListN.{length}
use Rattle.bits.specs.Sets.{lane_count}
use Rattle.apply_triggers.proofs.Laws.{left_alone, all_marked}
use borrow.Author.Rules.{rules}
use Rattle.apply_triggers.proofs.trigger.Goals as goal

pub returns-then-is_ignored : goal.returns-then-is_ignored
returns-then-is_ignored c = left_alone _ _ _ _ _ (sym c.is_ignored.ensures ∙ c.if-is_ignored.true)

pub returns : goal.returns
returns c = let begun = c in
    let ignored = c in
    let eight : length begun.args.w.lanes ≡ lane_count = search rules in
    all_marked _ _ _ _ _ _ _ _ eight
    (sym ignored.is_ignored.ensures ∙ c.if-is_ignored.false)
    c.mark-m.ensures c.in_progress-status.ensures
    c.put_each.ensures
