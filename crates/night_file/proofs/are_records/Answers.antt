use mathlib.Core.Path.{refl, sym, ◌∙◌}
use Rattle.bits.specs.Loop.{all_below}
use Rattle.night_records.proofs.Records.{named_again}
use Rattle.night_file.proofs.Checks.{all_turn, all_fails}
use Rattle.night_file.proofs.are_records.Goals as goal

pub loop-record-init : goal.loop-record-init
unfolding all_below
loop-record-init c = refl

pub returns-then-not-is_record : goal.returns-then-not-is_record
returns-then-not-is_record c = sym (all_fails _ c.loop-record.record-index _ c.loop-record-test.true (sym (rw (c.number_of-number.ensures, named_again) at c.is_record.ensures) ∙ c.if-not-is_record.true))

pub loop-record-preserved : goal.loop-record-preserved
loop-record-preserved c = all_turn _ _ c.loop-record.invariant (sym (rw (c.number_of-number.ensures, named_again) at c.is_record.ensures) ∙ c.if-not-is_record.false)
