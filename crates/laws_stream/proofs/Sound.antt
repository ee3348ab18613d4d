-- Every event of a night in pieces is the model's step from a state that start and such steps reach: asking no more misses no answer 3. Assumes nothing.
use mathlib.Core.Path.{◌≡◌, refl, sym, ap, ◌∙◌, subst}
use mathlib.Core.Bool.{Bool, true, false}
use mathlib.Core.List.{List, [], ◌∷◌}
use Prim.Native.Nat.{suc, ◌+◌}
use native.Mathlib.Omega.{arith}
use lib.ListN.{length}
use Rattle.bits.specs.Choice.{pick}
use Rattle.bits.proofs.Tests.{clash}
use Rattle.model.specs.Numbers.{Byte, Bytes, Count, RecordIndex}
use Rattle.model.specs.Map.{Image}
use Rattle.model.specs.State.{State}
use Rattle.model.specs.Work.{early}
use Rattle.model.specs.Start.{started_state}
use Rattle.model.specs.Refusals.{first_of, start_refusals}
use Rattle.model.specs.Step.{step, ending}
use Rattle.model.specs.Outcome.{list_room, start_outcome, start_outcome_by}
use Rattle.model.specs.Stream.{Carried, Took, begun, refused, took_header, started_by, took_image, played, took_record, took_in, took, fed}
use Rattle.model.specs.declared.answer.Answer.{Answer}
use Rattle.model.specs.declared.answer.Answer.TheVariants.{Done}
use Rattle.model.specs.declared.event.Event.{Event}
use Rattle.model.specs.declared.stream.Phase.{Phase}
use Rattle.model.specs.declared.stream.Phase.TheVariants.{InHeader, InImage, InRecords, Over}
use Rattle.laws.proofs.Unchanged.{done_is}
use Rattle.laws_sound.specs.Reached.{Accepted}
use Rattle.laws_sound.proofs.Reached.{start-accepted, still_accepted}
use Rattle.laws_stream.specs.Reached.{Reached}

-- a state so many steps from a start, whatever events follow
record From (s : State) (n : Count) : Type 0 where
  image : Image
  taken : first_of (start_refusals image) ≡ Done
  lead : (rest : List Event)
      → (events : List Event) × (length events ≡ n + length rest) × (ending early list_room (started_state image) events ≡ ending early list_room s rest)
  accepted : Accepted s

from_start : (x : Image) → first_of (start_refusals x) ≡ Done → From (started_state x) 0
unfolding start_outcome start_outcome_by
from_start x d = record { image = x; taken = d; lead = λ rest. (rest, omega arith, refl); accepted = start-accepted x d }

from_step : (s : State) (n : Count) (e : Event) → From s n → From (step early list_room s e).state (suc n)
unfolding ending
from_step s n e F = record {
  image = F.image;
  taken = F.taken;
  lead = λ rest. let r = F.lead (e ∷ rest) in (r.0, omega (arith, r.1), r.2);
  accepted = still_accepted list_room s e F.accepted;
}

reached : (s : State) (n : Count) → From s n → Reached s n
unfolding ending
reached s n F = let r = F.lead [] in
    record { image = F.image; taken = F.taken; events = r.0; count = omega (arith, r.1); state = sym r.2; accepted = F.accepted }

-- what is carried where records come
Plays : Carried → Type 0
Plays c = (next : RecordIndex) (records : Count) → c.phase ≡ InRecords next records → From c.state next

plays_pick : (b : Bool) (t u : Took) → (b ≡ true → Plays t.carried) → Plays u.carried → Plays (pick b t u).carried
unfolding pick
plays_pick true t u p q = p refl
plays_pick false t u p q = q

-- a phase in which no record is due
is_records : Phase → Bool
is_records InHeader = false
is_records (InImage come records) = false
is_records (InRecords next records) = true
is_records Over = false

plays_none : (c : Carried) → is_records c.phase ≡ false → Plays c
unfolding Plays is_records
plays_none c f next records e = absurd (clash (ap is_records e) f)

plays_refused : (a : Answer) (c : Carried) → Plays (refused a c).carried
unfolding refused is_records
plays_refused a c = plays_none (refused a c).carried refl

same_next : (m n i j : Count) → InRecords m i ≡ InRecords n j → m ≡ n
same_next m n i j e = cc

plays_from : (c : Carried) (next : RecordIndex) (records : Count) → c.phase ≡ InRecords next records → From c.state next → Plays c
unfolding Plays
plays_from c next records e F m n q = subst (From c.state) (same_next next m records n (sym e ∙ q)) F

from_plays : (c : Carried) (next : RecordIndex) (records : Count) → c.phase ≡ InRecords next records → Plays c → From c.state next
unfolding Plays
from_plays c next records e p = p next records e

byte_plays : (phase : Phase) (c : Carried) (b : Byte) → c.phase ≡ phase → Plays c → Plays (took_in phase c b).carried
unfolding is_records took_in took_header took_image started_by took_record played
byte_plays InHeader c b e p =
    plays_pick _ _ _ (λ t. plays_none _ (ap is_records e)) (plays_pick _ _ _ (λ t. plays_none _ refl) (plays_refused _ _))
byte_plays (InImage come records) c b e p =
    plays_pick _ _ _ (λ t. plays_none _ refl) (plays_pick _ _ _ (λ t. plays_from _ 0 records refl (from_start _ (done_is _ t))) (plays_refused _ _))
byte_plays (InRecords next records) c b e p =
    plays_pick _ _ _
    (λ t. plays_pick _ _ _ (λ u. plays_from _ next records e (from_plays c next records e p))
    (plays_pick _ _ _ (λ u. plays_from _ (suc next) records refl (from_step c.state next _ (from_plays c next records e p))) (plays_refused _ _)))
    (plays_refused _ _)
byte_plays Over c b e p = p

fed_plays : (c : Carried) (bytes : Bytes) → Plays c → Plays (fed c bytes).carried
unfolding fed took
fed_plays c [] p = p
fed_plays c (b ∷ bytes) p = fed_plays (took c b).carried bytes (byte_plays c.phase c b refl p)

-- THE THEOREM: wherever records are due, the state that the next event steps from was reached from a start by as many steps as records have come,
-- and refusals 1, 2 and 3 let it pass; so a call that asks for them would be the same step (laws_sound: call-is-step)
pub streamed-sound : (x : Image) (bytes : Bytes) (next : RecordIndex) (records : Count)
    → let c : Carried = (fed (begun x) bytes).carried in c.phase ≡ InRecords next records → Reached c.state next
unfolding begun is_records
streamed-sound x bytes next records e = reached _ next (from_plays _ next records e (fed_plays (begun x) bytes (plays_none (begun x) refl)))
