-- A record's bytes are read as that record. Assumes nothing.
use Rattle.std.proofs.Common.{None, Some, Option}
use mathlib.Core.Path.{◌≡◌, refl, sym, ap, ◌∙◌}
use mathlib.Core.List.{List}
use mathlib.Core.Bool.{true}
use Prim.Native.Nat.{ℕ, ◌+◌, ◌*◌, ◌/◌, ◌%◌}
use native.Mathlib.Omega.{arith}
use lib.Dec.{eqb}
use lib.ListN.{length, get_or}
use lib.Pointwise.{pointwise, bytes_decides}
use lib.Seq.{ext_get_or}
use borrow.Author.Tests.{eq-eqb, eqb-true}
use Rattle.bits.specs.Choice.{pick}
use Rattle.bits.specs.Loop.{all_below}
use Rattle.bits.proofs.Loops.{all_at, all_intro}
use Rattle.bits.proofs.Tests.{split, clash}
use Rattle.model.specs.declared.lane.Trigger.{Trigger}
use Rattle.model.specs.declared.lane.Trigger.TheVariants.{DpInit, Immediate}
use Rattle.model.specs.declared.lane.StagedSet.{StagedSet}
use Rattle.model.specs.declared.lane.StagedSet.TheVariants.{Set0, Set1}
use Rattle.model.specs.declared.lane.Verdict.{Verdict}
use Rattle.model.specs.declared.lane.Verdict.TheVariants.{Pass, Reject}
use Rattle.model.specs.declared.lane.Progress.{Progress}
use Rattle.model.specs.declared.lane.LaneRecord.{LaneRecord}
use Rattle.packing.specs.Packing.{record_length, trigger_byte, set_byte, verdict_byte, verdict_number, record_bytes_by, record_bytes, trigger_of, set_of, verdict_of, progress_from, record_from, same_bytes, is_record}

trigger_back : (t : Trigger) → trigger_of (trigger_byte t) ≡ t
unfolding trigger_of pick
trigger_back DpInit = refl
trigger_back Immediate = refl

set_back : (s : StagedSet) → set_of (set_byte s) ≡ s
unfolding set_of pick
set_back Set0 = refl
set_back Set1 = refl

verdict_back : (v : Verdict) → verdict_of (verdict_byte v) (verdict_number v) ≡ v
unfolding verdict_of pick
verdict_back (Pass n) = refl
verdict_back (Reject c) = refl

word_back : (n : ℕ) → n / 256 * 256 + n % 256 ≡ n
word_back n = omega arith

stage_back : (s : Option Progress) (on : ℕ) → record_from (record_bytes_by s (on / 256) (on % 256)) ≡ record { stage = s; on = on }
unfolding record_from record_bytes_by progress_from pick
stage_back None on = rw (word_back on)
stage_back (Some p) on = rw (word_back on, trigger_back p.trigger, set_back p.set, verdict_back p.verdict)

pub record_back : (r : LaneRecord) → record_from (record_bytes r) ≡ r
unfolding record_bytes
record_back r = stage_back r.stage r.on

pub length_record : (r : LaneRecord) → length (record_bytes r) ≡ record_length
unfolding record_bytes record_bytes_by
length_record r = by_stage r.stage (r.on / 256) (r.on % 256)
  where
    by_stage : (s : Option Progress) (high low : ℕ) → length (record_bytes_by s high low) ≡ record_length
    by_stage None high low = refl
    by_stage (Some p) high low = refl

-- sixteen bytes are sixteen others where no index tells them apart
pub compared : (bs cs : List ℕ) → length bs ≡ record_length → length cs ≡ record_length → pointwise eqb bs cs ≡ same_bytes bs cs
unfolding same_bytes
compared bs cs e f = split (pointwise eqb bs cs)
    (λ t. t ∙ sym (all_intro record_length (λ k. eqb (get_or bs k 0) (get_or cs k 0)) (λ k b. eq-eqb _ _ (ap (λ xs. get_or xs k 0) ((bytes_decides bs cs).0 t)))))
    (λ t. split (all_below record_length (λ k. eqb (get_or bs k 0) (get_or cs k 0)))
    (λ u. let same = ext_get_or 0 bs cs (e ∙ sym f) (λ k l. eqb-true _ _ (all_at record_length _ u k (omega arith))) in absurd (clash ((bytes_decides bs cs).1 same) t))
    (λ u. t ∙ sym u))

-- so a record's bytes pass the test
pub is_own : (r : LaneRecord) → is_record (record_bytes r) ≡ true
unfolding is_record same_bytes
is_own r = rw (record_back r) (all_intro record_length _ (λ k b. eq-eqb (get_or (record_bytes r) k 0) _ refl))
