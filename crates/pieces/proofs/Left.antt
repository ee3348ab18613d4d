-- What a feed and the end leave, by what refuses them: the image's length, the output's, or nothing. Assumes nothing.
use mathlib.Core.Path.{◌≡◌, refl, ap, ◌∙◌}
use mathlib.Core.Bool.{not}
use mathlib.Core.List.{List, []}
use Prim.Native.Nat.{ℕ, ◌≤◌, ◌<◌}
use native.Mathlib.Nat.{zero-add}
use lib.ListN.{length}
use borrow.Author.Tests.{lt-ltb, le-ltb, eq-eqb, ne_eqb}
use Rattle.bits.specs.Choice.{pick}
use Rattle.bits.proofs.Tests.{pick_true, pick-false}
use Rattle.model.specs.Map.{Image, image_length}
use Rattle.model.specs.Answers.{is_done}
use Rattle.model.specs.Refusals.{first_of, wrong_length}
use Rattle.model.specs.Stream.{ended}
use Rattle.model.specs.declared.answer.Answer.{Answer}
use Rattle.model.specs.declared.answer.Answer.TheVariants.{Done, WrongLength, ShortBuffer}
use Rattle.pieces_carried.specs.Carrying.{carried_by, kept, IsTidy, Leaves}
use Rattle.night_text.specs.Buffer.{longest_line}
use Rattle.pieces_carried.specs.declared.Carried.{Carried}
use Rattle.pieces_carried.specs.declared.Taken.{Taken}
use Rattle.pieces_going.specs.Going.{going, at_first}
use Rattle.pieces_ahead.specs.declared.Feeding.{Feeding}
use Rattle.pieces_ahead.specs.Standing.{standing}
use Rattle.pieces.specs.declared.Fed.{Fed}
use Rattle.pieces.specs.Feeding.{IsFed, FeedLeft, unchanged, left_at, out_refusals, feed_refusals, feed_left_by, feed_left, at_end, end_left_by, end_left}

module _ (c : Carried) (x : Image) (piece out : List ℕ) where
  -- by the first refusal
  left_by_lem : (a : Answer) → first_of (feed_refusals x out) ≡ a → feed_left c x piece out ≡ feed_left_by a c x piece out
  unfolding feed_left
  left_by_lem a e = ap (λ (a : Answer). feed_left_by a c x piece out) e

  pub left_wrong : (length x ≡ image_length → ⊥) → feed_left c x piece out ≡ unchanged WrongLength c x out
  unfolding feed_refusals first_of wrong_length feed_left_by is_done pick
  left_wrong h = left_by_lem WrongLength (pick_true _ _ (ap not (ne_eqb (length x) image_length h)))

  module _ (l : length x ≡ image_length) where
    right : first_of (feed_refusals x out) ≡ first_of (out_refusals out)
    unfolding feed_refusals first_of wrong_length
    right = pick-false _ _ (ap not (eq-eqb (length x) image_length l))

    pub left_short : length out < longest_line → feed_left c x piece out ≡ unchanged ShortBuffer c x out
    unfolding out_refusals first_of feed_left_by is_done pick
    left_short h = left_by_lem ShortBuffer (right ∙ pick_true _ _ (lt-ltb _ _ h))

    pub left_done : longest_line ≤ length out → feed_left c x piece out ≡ left_at Done (going (at_first (carried_by c x) out) piece)
    unfolding out_refusals first_of feed_left_by is_done pick
    left_done h = left_by_lem Done (right ∙ pick-false _ _ (le-ltb _ _ h))

module _ (c : Carried) (out : List ℕ) where
  pub end_short : length out < longest_line → end_left c out ≡ unchanged ShortBuffer c [] out
  unfolding end_left out_refusals first_of end_left_by is_done pick
  end_short h = ap (λ (a : Answer). end_left_by a c out) (pick_true _ _ (lt-ltb _ _ h))

  pub end_done : longest_line ≤ length out → end_left c out ≡ left_at Done (at_end (carried_by c []) out)
  unfolding end_left out_refusals first_of end_left_by is_done pick
  end_done h = ap (λ (a : Answer). end_left_by a c out) (pick-false _ _ (le-ltb _ _ h))

-- ---- the contract

pub fed-unchanged : {l : FeedLeft} {r : Fed} (a : Answer) (c : Carried) (x : Image) (out : List ℕ) → l ≡ unchanged a c x out
    → r ≡ record { answer = a; taken = 0; printed = 0; carried = c } → IsFed l r x out
unfolding unchanged
fed-unchanged a c x out e f = rw (e, f) (record { answer = refl; taken = refl; printed = refl; carried = refl; image = refl; out = refl })

pub fed_left : (c : Carried) (x left : Image) (piece out after : List ℕ) (f : Feeding) → length x ≡ image_length → longest_line ≤ length out → IsTidy f.come.carried
    → standing f left after ≡ going (at_first (carried_by c x) out) piece
    → IsFed (feed_left c x piece out) (record { answer = Done; taken = f.taken; printed = f.come.at; carried = f.come.carried }) left after
unfolding left_at carried_by kept
fed_left c x left piece out after f l room tidy e =
    rw (left_done c x piece out l room, ← e) (record { answer = refl; taken = refl; printed = refl; carried = tidy; image = refl; out = refl })

pub fed-ended : (c : Carried) (out after : List ℕ) (t : Taken) → longest_line ≤ length out → Leaves (ended (carried_by c [])) 0 out after [] t
    → IsFed (end_left c out) (record { answer = Done; taken = 0; printed = t.at; carried = t.carried }) [] after
unfolding left_at at_end
fed-ended c out after t room l =
    rw (end_done c out room)
    (record { answer = refl; taken = refl; printed = l.text.next ∙ zero-add _; carried = l.carried; image = l.registers; out = l.text.buffer })
