-- All that a feed and the end leave.
use Rattle.std.specs.Prelude.{ℕ, ◌≡◌, List, [], ◌∷◌, ltb, length}
use Rattle.bits.specs.Choice.{pick}
use Rattle.model.specs.Map.{Image}
use Rattle.model.specs.Answers.{is_done}
use Rattle.model.specs.Refusals.{Refusal, refuse, first_of, wrong_length}
use Rattle.model.specs.Stream as stream
use Rattle.model.specs.Stream.{ended}
use Rattle.model.specs.declared.answer.Answer.{Answer}
use Rattle.model.specs.declared.answer.Answer.TheVariants.{WrongLength, ShortBuffer}
use Rattle.night_text.specs.Buffer.{laid_at, longest_line}
use Rattle.pieces_carried.specs.Carrying.{carried_by, kept}
use Rattle.pieces_carried.specs.declared.Carried.{Carried}
use Rattle.pieces_going.specs.Going.{Going, going, at_first}
use Rattle.pieces.specs.declared.Fed.{Fed}

pub record FeedLeft : Type 0 where
  pub answer : Answer
  pub taken : ℕ
  pub printed : ℕ
  pub carried : Carried
  pub image : Image
  pub out : List ℕ

-- a refusal takes and changes nothing
unfoldable pub unchanged : Answer → Carried → Image → List ℕ → FeedLeft
unchanged a c x out = record { answer = a; taken = 0; printed = 0; carried = c; image = x; out = out }

unfoldable pub left_at : Answer → Going → FeedLeft
left_at a g =
    record {
      answer = a;
      taken = g.taken;
      printed = g.printed;
      carried = kept g.carried;
      image = g.carried.state.image;
      out = g.out;
    }

-- an output shorter than a longest line
unfoldable pub out_refusals : List ℕ → List Refusal
out_refusals out = refuse ShortBuffer (ltb (length out) longest_line) ∷ []

-- .. and before it an image of another length
unfoldable pub feed_refusals : Image → List ℕ → List Refusal
feed_refusals x out = refuse WrongLength (wrong_length x) ∷ out_refusals out

unfoldable pub feed_left_by : Answer → Carried → Image → List ℕ → List ℕ → FeedLeft
feed_left_by a c x piece out = pick (is_done a) (left_at a (going (at_first (carried_by c x) out) piece)) (unchanged a c x out)

-- ALL THAT A FEED LEAVES
unfoldable pub feed_left : Carried → Image → List ℕ → List ℕ → FeedLeft
feed_left c x piece out = feed_left_by (first_of (feed_refusals x out)) c x piece out

-- the end takes no byte and looks at no image
unfoldable pub at_end : stream.Carried → List ℕ → Going
at_end c out =
    let t = ended c in
    record { taken = 0; printed = length t.text; carried = t.carried; out = laid_at 0 t.text out }

unfoldable pub end_left_by : Answer → Carried → List ℕ → FeedLeft
end_left_by a c out = pick (is_done a) (left_at a (at_end (carried_by c []) out)) (unchanged a c [] out)

-- ALL THAT THE END LEAVES
unfoldable pub end_left : Carried → List ℕ → FeedLeft
end_left c out = end_left_by (first_of (out_refusals out)) c out

-- THE CONTRACT of a feed and of the end: what it handed back, and the image and the output as it left them, are what is left
pub record IsFed (l : FeedLeft) (r : Fed) (image_left : Image) (out_left : List ℕ) : Type 0 where
  pub answer : r.answer ≡ l.answer
  pub taken : r.taken ≡ l.taken
  pub printed : r.printed ≡ l.printed
  pub carried : r.carried ≡ l.carried
  pub image : image_left ≡ l.image
  pub out : out_left ≡ l.out
