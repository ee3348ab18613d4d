-- What a program that feeds piece after piece goes by: what is taken lies in the piece, what is printed in the output, and a byte is taken where one is there. Assumes nothing.
use mathlib.Core.Path.{◌≡◌}
use mathlib.Core.List.{List, []}
use Prim.Native.Nat.{ℕ, ◌≤◌, ◌<◌}
use native.Mathlib.Omega.{arith}
use lib.Dec.{ltb}
use lib.ListN.{length}
use borrow.Author.Tests.{ltb-true, ltb-false}
use Rattle.bits.proofs.Tests.{split, pick-has}
use Rattle.model.specs.Map.{Image, image_length}
use Rattle.model.specs.Answers.{is_done}
use Rattle.model.specs.Refusals.{first_of}
use Rattle.pieces_carried.specs.Carrying.{carried_by}
use Rattle.night_text.specs.Buffer.{longest_line}
use Rattle.pieces_carried.specs.declared.Carried.{Carried}
use Rattle.pieces.specs.declared.Fed.{Fed}
use Rattle.pieces.specs.Feeding.{FeedLeft, unchanged, left_at, feed_refusals, feed_left_by, feed_left, at_end, end_left, IsFed}
use Rattle.pieces_going.proofs.Joined.{feed_is_fed, feed_moves}
use Rattle.pieces.proofs.Left.{left_done, end_short, end_done}
use Rattle.pieces_going.proofs.Longest.{ended-most}

record IsWithin (piece out : List ℕ) (l : FeedLeft) : Type 0 where
  within : l.taken ≤ length piece
  fits : l.printed ≤ length out

module _ (c : Carried) (x : Image) (piece out : List ℕ) {r : Fed} {left : Image} {after : List ℕ} (f : IsFed (feed_left c x piece out) r left after) where
  bounded : IsWithin piece out (feed_left c x piece out)
  unfolding feed_left feed_left_by unchanged left_at
  bounded =
      let i = feed_is_fed (carried_by c x) piece out in
      pick-has (IsWithin piece out) (is_done (first_of (feed_refusals x out))) (λ _. record { within = i.within; fits = i.fits }) (λ _. record { within = omega arith; fits = omega arith })

  pub fed-within : r.taken ≤ length piece
  fed-within = rw f.taken bounded.within

  pub fed-fits : r.printed ≤ length out
  fed-fits = rw f.printed bounded.fits

  -- so that a loop over feeds ends
  pub fed-moves : length x ≡ image_length → longest_line ≤ length out → 0 < length piece → 0 < r.taken
  unfolding left_at
  fed-moves l room some = rw (f.taken, left_done c x piece out l room) (feed_moves (carried_by c x) piece out room some)

pub ended-fits : (c : Carried) (out : List ℕ) {r : Fed} {left : Image} {after : List ℕ} → IsFed (end_left c out) r left after → r.printed ≤ length out
unfolding unchanged left_at at_end
ended-fits c out f = split (ltb (length out) longest_line)
    (λ t. rw (f.printed, end_short c out (ltb-true _ _ t)) (omega arith))
    (λ t. rw (f.printed, end_done c out (ltb-false _ _ t)) (omega (arith, ltb-false (length out) longest_line t, ended-most (carried_by c []))))
