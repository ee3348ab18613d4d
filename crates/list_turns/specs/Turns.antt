-- A list of events turn by turn: the admission, one turn, and the turns of all events that are admitted.
use Rattle.std.specs.Prelude.{ℕ, List, [], ◌∷◌, length, take}
use Rattle.bits.specs.Choice.{pick}
use Rattle.model.specs.Map.{Image}
use Rattle.model.specs.Answers.{is_done}
use Rattle.model.specs.Work.{early}
use Rattle.model.specs.Refusals.{first_of, list_refusals}
use Rattle.model.specs.Step.{Stepped, step}
use Rattle.model.specs.State.{state_with}
use Rattle.model.specs.Outcome.{list_room}
use Rattle.model.specs.declared.answer.Answer.{Answer}
use Rattle.model.specs.declared.event.Event.{Event}
use Rattle.model.specs.declared.lane.Working.{Working}
use Rattle.list_runs.specs.declared.Run.{Run}
use Rattle.list_runs.specs.Runs.{start_run, noted_run, noted_answers}

-- the image, the answers, and where the list stands
pub record Playing : Type 0 where
  pub image : Image
  pub answers : List ℕ
  pub r : Run

-- n events with an answer: all are to be done, or none
unfoldable pub begin_by : Answer → ℕ → Image → List ℕ → Working → Playing
begin_by a n x answers w = record { image = x; answers = answers; r = start_run a (pick (is_done a) n 0) w }

unfoldable pub begin_of : ℕ → Image → List ℕ → Working → Playing
begin_of n x answers w = begin_by (first_of (list_refusals (length answers) (state_with x w) n)) n x answers w

-- a step's answer goes to the place of its event
unfoldable pub turn_by : Stepped → Playing → Playing
turn_by o s =
    record {
      image = o.state.image;
      answers = noted_answers s.r o.answer s.answers;
      r = noted_run s.r o.state.working;
    }

unfoldable pub turn_of : Event → Playing → Playing
turn_of e s = turn_by (step early list_room (state_with s.image s.r.left.working) e) s

unfoldable pub turns_of : List Event → Playing → Playing
turns_of [] s = s
turns_of (e ∷ es) s = turns_of es (turn_of e s)

abbrev pub played_of : List Event → Image → List ℕ → Working → Playing
played_of es x answers w = turns_of (take (begin_of (length es) x answers w).r.end es) (begin_of (length es) x answers w)
