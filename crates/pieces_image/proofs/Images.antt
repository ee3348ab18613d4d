-- Laws of what a byte of the image brings, case by case. Assumes nothing.
use mathlib.Core.Path.{◌≡◌}
use mathlib.Core.Bool.{true, false}
use Prim.Native.Nat.{ℕ, suc, ◌≤◌, ◌<◌}
use lib.ListN.{take}
use borrow.Author.Tests.{lt-ltb, le-ltb}
use Rattle.bits.proofs.Tests.{pick_true, pick-false}
use Rattle.model.specs.Map.{Image}
use Rattle.model.specs.State.{with_image}
use Rattle.model.specs.Answers.{is_done}
use Rattle.model.specs.Start.{started_state}
use Rattle.model.specs.Refusals.{first_of, start_refusals}
use Rattle.model.specs.File.{laid_out}
use Rattle.model.specs.Stream.{Carried, row_of, silent, entering, refused, started_by, whole_image, took_image}
use Rattle.model.specs.declared.answer.Answer.{Answer}
use Rattle.model.specs.declared.stream.Phase.TheVariants.{InImage, InRecords, Over}

module _ (m : Carried) (records : ℕ) (x : Image) where
  pub start-refused : (a : Answer) → is_done a ≡ false → started_by a m records x ≡ refused a (entering Over (with_image m.state x) m)
  unfolding started_by
  start-refused a e = pick-false _ _ e

  pub start_done : (a : Answer) → is_done a ≡ true → started_by a m records x ≡ silent (entering (InRecords 0 records) (started_state x) m)
  unfolding started_by
  start_done a e = pick_true _ _ e

  pub image_waits : (come : ℕ) → suc come < (row_of m).image_bytes
      → took_image m come records x ≡ silent (record { phase = InImage (suc come) records; edition = m.edition; held = m.held; state = with_image m.state x })
  unfolding took_image
  image_waits come h = pick_true _ _ (lt-ltb _ _ h)

  pub image-whole : (come : ℕ) (y : Image) → (row_of m).image_bytes ≤ suc come → y ≡ laid_out (take (row_of m).image_bytes x)
      → took_image m come records x ≡ started_by (first_of (start_refusals y)) m records y
  unfolding took_image whole_image
  image-whole come y h e = rw e (pick-false _ _ (le-ltb _ _ h))
