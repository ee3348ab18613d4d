use native.Mathlib.Omega.{arith}
use Rattle.model.specs.State.{state_with}
use Rattle.night_text.proofs.Laid.{puts_within}
use Rattle.night_text.proofs.Lines.{length_any_index}
use Rattle.night_runs.proofs.Parts.{rest-length, chunk-record, chunk-whole}
use Rattle.night_runs.proofs.FileTurns.{state-none, text-none, turn_state, turn_text, turn_room}
use Rattle.night_runs.proofs.play_file_run.Goals as goal

pub loop-k-init : goal.loop-k-init
loop-k-init c = let a = c.args in
    let s = state_with a.image.now a.working in
    record {
      fits = omega arith;
      room = omega arith;
      state = state-none s a.file.now a.first _ (omega arith);
      text = text-none s a.file.now a.out.now a.first _ (omega arith);
    }

pub turn-reached-requires : goal.turn-reached-requires
turn-reached-requires c = let a = c.args in
    let there = rest-length a.file.now a.offset in
    (chunk-whole a.file.now a.offset c.requires.0 _ _ _ a.count c.as_chunks.ensures.front (omega (arith, there)) c.requires.1 (omega arith), omega (arith, length_any_index c.loop-k.k))

pub loop-k-preserved : goal.loop-k-preserved
loop-k-preserved c = let a = c.args in
    let s = state_with a.image.now a.working in
    let l = c.loop-k in
    let i = l.invariant in
    let t = c.turn-reached in
    let part = chunk-record a.file.now a.offset c.requires.0 _ _ l.k c.as_chunks.ensures.front (omega (arith, rest-length a.file.now a.offset)) in
    let turned = rw (c.edition_in-edition.ensures, part) at t.ensures in
    record {
      fits = puts_within (omega arith) t.auto.out t.ensures.text;
      room = omega (arith, turn_room s a.file.now a.first l.k l.auto.k _ _ _ _ _ _ _ _ _ i.state turned);
      state = turn_state s a.file.now a.first l.k l.auto.k _ _ _ _ _ _ _ _ _ i.state turned;
      text = turn_text s a.file.now a.first l.k l.auto.k _ _ _ _ _ _ _ _ _ i.state turned _ (omega arith) i.text;
    }
