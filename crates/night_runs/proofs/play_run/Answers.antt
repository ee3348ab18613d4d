use native.Mathlib.Omega.{arith}
use Rattle.model.specs.State.{state_with}
use Rattle.night_records.specs.Edition.{row_of}
use Rattle.night_records.proofs.Records.{named_again}
use Rattle.night_text.proofs.Laid.{puts_within}
use Rattle.night_text.proofs.Lines.{length_any_index}
use Rattle.night_runs.proofs.Turns.{state-none, text-none, turn_state, turn_text, turn_room}
use Rattle.night_runs.proofs.play_run.Goals as goal

pub loop-k-init : goal.loop-k-init
loop-k-init c = let a = c.args in
    let s = state_with a.image.now a.working in
    let row = row_of a.night.edition in
    record {
      fits = omega arith;
      room = omega arith;
      state = state-none s row a.night.records.now a.first _ (omega arith);
      text = text-none s row a.night.records.now a.out.now a.first _ (omega arith);
    }

pub turn-reached-requires : goal.turn-reached-requires
turn-reached-requires c = omega (arith, length_any_index c.loop-k.k)

pub loop-k-preserved : goal.loop-k-preserved
loop-k-preserved c = let a = c.args in
    let s = state_with a.image.now a.working in
    let row = row_of a.night.edition in
    let l = c.loop-k in
    let i = l.invariant in
    let t = c.turn-reached in
    let turned = rw (c.number_of-edition.ensures, named_again) at t.ensures in
    record {
      fits = puts_within (omega arith) t.auto.out t.ensures.text;
      room = omega (arith, turn_room s row a.night.records.now a.first l.k l.auto.k _ _ _ _ _ _ _ _ _ i.state turned);
      state = turn_state s row a.night.records.now a.first l.k l.auto.k _ _ _ _ _ _ _ _ _ i.state turned;
      text = turn_text s row a.night.records.now a.first l.k l.auto.k _ _ _ _ _ _ _ _ _ i.state turned _ (omega arith) i.text;
    }
