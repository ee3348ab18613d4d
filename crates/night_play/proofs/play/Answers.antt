use native.Mathlib.Omega.{arith}
use mathlib.Core.Path.{◌≡◌, sym, ap, ◌∙◌}
use Rattle.model.specs.Records.{idle_working}
use Rattle.model.specs.State.{state_with}
use lib.ListN.{length}
use Rattle.night_records.specs.Edition.{row_of}
use Rattle.night_records.proofs.Records.{named_again}
use Rattle.night_text.proofs.Lines.{length_index}
use Rattle.night_play.proofs.Records.{state-none, text-none, turn_state, turn_text, turn_room}
use borrow.Author.Rules.{rules}
use Rattle.night_play.proofs.play.Goals as goal

pub loop-k-init : goal.loop-k-init
loop-k-init c = let a = c.args in
    let s = state_with a.image.now idle_working in
    record {
      room = omega arith;
      state = ap (state_with a.image.now) c.idle.ensures ∙ sym (state-none s (row_of a.night.edition) a.night.records.now);
      text = text-none s (row_of a.night.edition) a.night.records.now a.out.now;
    }

pub turn-reached-requires : goal.turn-reached-requires
turn-reached-requires c = omega (arith, length_index c.loop-k.k (omega arith))

pub loop-k-preserved : goal.loop-k-preserved
loop-k-preserved c = let a = c.args in
    let s = state_with a.image.now idle_working in
    let row = row_of a.night.edition in
    let i = c.loop-k.invariant in
    let t = rw (c.number_of-edition.ensures, named_again) at c.turn-reached.ensures in
    record {
      room = omega (arith, turn_room s row a.night.records.now _ _ _ _ _ _ _ _ _ _ i.state t (omega arith));
      state = turn_state s row a.night.records.now _ _ _ _ _ _ _ _ _ _ i.state t;
      text = turn_text s row a.night.records.now _ _ _ _ _ _ _ _ _ _ i.state t _ (omega arith) i.text;
    }

pub returns : goal.returns
returns c = let e : c.loop-k.k ≡ length c.args.night.records.now = omega arith in rw e at c.loop-k.invariant.text
