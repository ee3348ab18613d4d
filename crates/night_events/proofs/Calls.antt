-- The call that a record says, by its kind and its edition. Assumes nothing.
use mathlib.Core.Path.{◌≡◌}
use mathlib.Core.List.{List}
use Prim.Native.Nat.{ℕ, ◌<◌}
use lib.Dec.{eqb}
use lib.ListN.{get_or}
use Rattle.bits.specs.Choice.{pick}
use Rattle.model.specs.File.{edition_among, kind_of, module_kind, line_kind, sample_call, call_of}
use Rattle.model.specs.declared.event.Call.TheVariants.{Module, Line}
use Rattle.night_records.specs.Edition.{row_of}
use Rattle.night_records.specs.declared.Edition.{Edition}
use Rattle.night_records.specs.declared.Edition.TheVariants.{First, Second, Third, Fourth}
use Rattle.night_records.proofs.Records.{no_kind}
use Rattle.night_events.specs.Power.{power_call}

module _ (bytes : List ℕ) where
  -- the module's power
  pub module_is : (e : Edition) → kind_of bytes ≡ module_kind → power_call e Module bytes ≡ call_of (row_of e).forms bytes
  unfolding edition_among call_of pick
  module_is First k = rw k
  module_is Second k = rw k
  module_is Third k = rw k
  module_is Fourth k = rw k

  pub line_is : (e : Edition) → kind_of bytes ≡ line_kind → power_call e (Line (eqb (get_or bytes 1 0) 1)) bytes ≡ call_of (row_of e).forms bytes
  unfolding edition_among call_of pick
  line_is First k = rw k
  line_is Second k = rw k
  line_is Third k = rw k
  line_is Fourth k = rw k

  -- a number that is no kind's
  pub other_is : (e : Edition) → (0 < kind_of bytes → line_kind < kind_of bytes) → sample_call bytes ≡ call_of (row_of e).forms bytes
  unfolding edition_among call_of pick
  other_is First h = simp (no_kind _ h)
  other_is Second h = simp (no_kind _ h)
  other_is Third h = simp (no_kind _ h)
  other_is Fourth h = simp (no_kind _ h)
