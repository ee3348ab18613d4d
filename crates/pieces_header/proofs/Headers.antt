-- Laws of what a byte of the header brings, case by case. Assumes nothing.
use mathlib.Core.Path.{◌≡◌, ◌∙◌}
use mathlib.Core.Bool.{true, false}
use mathlib.Core.List.{List, []}
use Prim.Native.Nat.{ℕ, ◌≤◌, ◌<◌}
use lib.ListN.{length, get_or}
use borrow.Author.Tests.{lt-ltb, le-ltb}
use Rattle.bits.proofs.Tests.{pick_true, pick-false}
use Rattle.model.specs.File.{image_offset, record_count, is_header}
use Rattle.model.specs.Stream.{Carried, count_limit, silent, holding, refused, took_header}
use Rattle.model.specs.declared.answer.Answer.TheVariants.{Malformed}
use Rattle.model.specs.declared.stream.Phase.TheVariants.{InImage}

module _ (m : Carried) (bytes : List ℕ) where
  pub header_waits : length bytes < image_offset → took_header m bytes ≡ silent (holding bytes m)
  unfolding took_header
  header_waits h = pick_true _ _ (lt-ltb _ _ h)

  pub header_wrong : image_offset ≤ length bytes → is_header count_limit bytes ≡ false → took_header m bytes ≡ refused Malformed m
  unfolding took_header
  header_wrong h e = pick-false _ _ (le-ltb _ _ h) ∙ pick-false _ _ e

  pub header_right : image_offset ≤ length bytes → is_header count_limit bytes ≡ true
      → took_header m bytes ≡ silent (record { phase = InImage 0 (record_count bytes); edition = get_or bytes 2 0; held = []; state = m.state })
  unfolding took_header
  header_right h e = pick-false _ _ (le-ltb _ _ h) ∙ pick_true _ _ e
