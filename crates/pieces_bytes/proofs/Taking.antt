-- Laws of what a byte brings, by the phase, and of what a record brings, case by case. Assumes nothing.
use mathlib.Core.Path.{◌≡◌, ap, ◌∙◌}
use mathlib.Core.Bool.{true, false}
use mathlib.Core.List.{List}
use Prim.Native.Nat.{ℕ, ◌≤◌, ◌<◌}
use lib.ListN.{length, take}
use borrow.Author.Tests.{lt-ltb, le-ltb}
use Rattle.bits.proofs.Tests.{pick_true, pick-false}
use Rattle.model.specs.Work.{early}
use Rattle.model.specs.Step.{step}
use Rattle.model.specs.Outcome.{list_room}
use Rattle.model.specs.File.{record_length, is_record, event_of}
use Rattle.model.specs.Stream.{Carried, row_of, silent, holding, refused, played, took_record, took_in, took}
use Rattle.model.specs.declared.answer.Answer.TheVariants.{Malformed}
use Rattle.model.specs.declared.stream.Phase.{Phase}

-- by the phase
pub took_at : (m : Carried) (b : ℕ) (p : Phase) → m.phase ≡ p → took m b ≡ took_in p m b
unfolding took
took_at m b p e = ap (λ q. took_in q m b) e

module _ (m : Carried) (next records : ℕ) (bytes : List ℕ) where
  pub record_none : records ≤ next → took_record m next records bytes ≡ refused Malformed m
  unfolding took_record
  record_none h = pick-false _ _ (le-ltb _ _ h)

  module _ (due : next < records) where
    pub record_waits : length bytes < record_length → took_record m next records bytes ≡ silent (holding bytes m)
    unfolding took_record
    record_waits h = pick_true _ _ (lt-ltb _ _ due) ∙ pick_true _ _ (lt-ltb _ _ h)

    pub record_wrong : record_length ≤ length bytes → is_record (row_of m) (take record_length bytes) ≡ false → took_record m next records bytes ≡ refused Malformed m
    unfolding took_record
    record_wrong h e = pick_true _ _ (lt-ltb _ _ due) ∙ pick-false _ _ (le-ltb _ _ h) ∙ pick-false _ _ e

    pub record_right : record_length ≤ length bytes → is_record (row_of m) (take record_length bytes) ≡ true
        → took_record m next records bytes ≡ played m next records (step early list_room m.state (event_of (row_of m) (take record_length bytes)))
    unfolding took_record
    record_right h e = pick_true _ _ (lt-ltb _ _ due) ∙ pick-false _ _ (le-ltb _ _ h) ∙ pick_true _ _ e
