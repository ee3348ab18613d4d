use native.Mathlib.Omega.{arith}
use mathlib.Core.Path.{◌≡◌, refl, sym, ap, ◌∙◌}
use Prim.Native.Nat.{ℕ, suc, ◌+◌, ◌-◌, ◌≤◌, ◌<◌}
use lib.ListN.{length}
use mathlib.Core.Bool.{false}
use mathlib.Core.List.{List}
use Rattle.model.specs.Map.{Image}
use Rattle.model.specs.File.{Edition, later_editions, edition_among, record_length}
use Rattle.night_lines.specs.declared.Reached.{Reached}
use Rattle.pieces_records.specs.declared.Played.{Played}
use Rattle.night_text.proofs.Laid.{puts_within}
use Rattle.night_text.proofs.Lines.{length_any_index}
use Rattle.pieces_records.specs.Running.{Running, can_play, runs, running}
use Rattle.pieces_records.proofs.Runs.{run_stops, run_plays, lacks-bytes, lacks-room, plays, malformed, after_turn, rest-length, rest-record}
use borrow.Author.Rules.{rules}
use Rattle.pieces_records.proofs.play.Goals as goal

-- where the loop stands
abbrev stood : ℕ → ℕ → Reached → Played
stood taken next reached = record { taken = taken; next = next; reached = reached }

-- it stops where the next record cannot be played
stopped : (e : Edition) (n : ℕ) (p : Played) (bytes : List ℕ) {r : Played} {x : Image} {out : List ℕ} {end : Running} → r ≡ p → can_play e (running p x out) bytes ≡ false
    → runs e n (running p x out) bytes ≡ end → running r x out ≡ end
stopped e n p bytes {r} {x} {out} q f g = ap (λ (r : Played). running r x out) q ∙ sym (run_stops e (running p x out) bytes n f) ∙ g

pub returns-in_default : goal.returns-in_default
returns-in_default c = let l = c.loop-next in
    let few : length c.args.bytes.now < l.taken + record_length = omega (arith, c.in_default.ensures.cases, rest-length l.taken c.args.bytes.now) in
    stopped _ _ (stood l.taken l.next l.reached) _ c.standing_at.ensures (lacks-bytes _ (running (stood l.taken l.next l.reached) l.image l.out) _ few) l.invariant.same

pub returns-then-out-reached-lt-LONGEST_LINE : goal.returns-then-out-reached-lt-LONGEST_LINE
returns-then-out-reached-lt-LONGEST_LINE c = let l = c.loop-next in
    stopped _ _ (stood l.taken l.next l.reached) _ c.standing_at-then-out-reached-lt-LONGEST_LINE.ensures
    (lacks-room _ (running (stood l.taken l.next l.reached) l.image l.out) c.args.bytes.now (omega arith)) l.invariant.same

pub returns-then-not-is_record : goal.returns-then-not-is_record
returns-then-not-is_record c = let l = c.loop-next in
    let record_is = rest-record l.taken c.args.bytes.now _ c.in-Some.ensures.cases.same in
    let wrong = sym c.is_record.ensures ∙ c.if-not-is_record.true in
    stopped _ _ (stood l.taken l.next l.reached) _ c.standing_at-then-not-is_record.ensures
    (malformed _ (running (stood l.taken l.next l.reached) l.image l.out) _ (rw record_is at wrong)) l.invariant.same

pub turn-reached-requires : goal.turn-reached-requires
turn-reached-requires c = omega (arith, length_any_index c.loop-next.next)

pub loop-next-preserved : goal.loop-next-preserved
loop-next-preserved c =
    let bytes = c.args.bytes.now in
    let e = edition_among later_editions c.args.edition in
    let l = c.loop-next in
    let i = l.invariant in
    let p = stood l.taken l.next l.reached in
    let r = running p l.image l.out in
    let t = c.turn-reached in
    let there : l.taken + record_length ≤ length bytes = omega (arith, c.in-Some.ensures.cases.enough, rest-length l.taken bytes) in
    let record_is = rest-record l.taken bytes _ c.in-Some.ensures.cases.same in
    let good = sym c.is_record.ensures ∙ c.if-not-is_record.false in
    let n : c.args.records - l.next ≡ suc (c.args.records - (l.next + 1)) = omega (arith, c.loop-next-test.true) in
    record {
      within = there;
      fits = puts_within (omega arith) t.auto.out t.ensures.text;
      same =
          ap (λ (r : Running). runs e (c.args.records - (l.next + 1)) r bytes) (sym (after_turn e p l.next t.result l.image _ _ _ l.out _ _ refl (rw record_is at t.ensures)))
          ∙ sym (run_plays e r bytes _ (plays e r bytes there (omega arith) (rw record_is at good)))
          ∙ (rw n at i.same);
    }

pub returns : goal.returns
unfolding runs
returns c = let l = c.loop-next in
    let e : c.args.records ≡ l.next = omega arith in
    let z : c.args.records - l.next ≡ 0 = omega arith in
    ap (λ (p : Played). running p l.image l.out) (c.standing_at-2.ensures ∙ ap (λ n. stood l.taken n l.reached) e) ∙ (rw z at l.invariant.same)
