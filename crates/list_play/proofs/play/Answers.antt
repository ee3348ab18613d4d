use borrow.Author.Rules.{rules}
use native.Mathlib.Omega.{arith}
use mathlib.Core.Path.{◌≡◌, refl, sym, ap, ap₂, ◌∙◌}
use mathlib.Core.List.{List}
use Prim.Native.Nat.{ℕ, ◌+◌, ◌<◌, ◌≤◌}
use lib.ListN.{length, take, drop, get_or}
use Rattle.std.proofs.lemmas.List.{get_or_default}
use Rattle.bits.specs.Choice.{pick}
use Rattle.contracts.specs.Forms.{IsOutcome}
use Rattle.list_runs.specs.Runs.{start_run, refused_run, admitted_run}
use Rattle.list_turns.proofs.Admitted.{begins}
use Rattle.model.specs.Answers.{is_done}
use Rattle.model.specs.Map.{Image, image_length}
use Rattle.model.specs.Outcome.{list_outcome}
use Rattle.model.specs.State.{state_with}
use Rattle.model.specs.declared.answer.Answer.TheVariants.{WrongLength}
use Rattle.refusals.proofs.Entries.{entry_length}
use Rattle.model.specs.declared.event.Event.{Event}
use Rattle.model.specs.declared.lane.Working.{Working}
use Rattle.list_turns.specs.Turns.{Playing, begin_of, turn_of, turns_of, played_of}
use Rattle.list_turns.proofs.Laws.{none, begin_at, begin_end, begin_room, begin_length, turn_at, turn_end, turns_next, turns_end, played_leaves}
use Rattle.list_play.proofs.play.Goals as goal

-- what is left to do from where the list stands
abbrev onward : List Event → Playing → Playing
onward es s = turns_of (drop s.r.at (take s.r.end es)) s

-- from its admission on that is the whole list
begun : (es : List Event) (x : Image) (answers : List ℕ) (w : Working) (s : Playing) → s ≡ begin_of (length es) x answers w → onward es s ≡ played_of es x answers w
begun es x answers w s e =
    let b = begin_of (length es) x answers w in
    ap (onward es) e ∙ ap (λ i. turns_of (drop i (take b.r.end es)) b) (begin_at (length es) x answers w)

-- a turn leaves it the same
turned : (es : List Event) (e : Event) (s t : Playing) → t ≡ turn_of e s → e ≡ get_or es s.r.at none → s.r.at < s.r.end → s.r.end ≤ length es → onward es t ≡ onward es s
turned es e s t p q h l =
    ap (onward es) (p ∙ ap (λ d. turn_of d s) q)
    ∙ ap₂ (λ i n. turns_of (drop i (take n es)) (turn_of (get_or es s.r.at none) s)) (turn_at (get_or es s.r.at none) s) (turn_end (get_or es s.r.at none) s)
    ∙ sym (turns_next es s.r.end l s.r.at s h)

-- at the end nothing is left
over : (es : List Event) (s : Playing) → s.r.end ≤ length es → s.r.end ≤ s.r.at → onward es s ≡ s
over es s l h = turns_end es s.r.end l s.r.at s h

-- an image of another length is refused, and with it the list
refused_left : (es : List Event) (x : Image) (answers : List ℕ) (w : Working) → (length x ≡ image_length → ⊥)
    → IsOutcome (list_outcome (state_with x w) answers es) (record { answer = WrongLength; mask = 0; working = w }) x answers
unfolding admitted_run is_done pick turns_of
refused_left es x answers w n =
    let s : Playing = record { image = x; answers = answers; r = start_run WrongLength 0 w } in
    played_leaves es x answers w s (begun es x answers w s (begins (length es) x answers w (start_run WrongLength 0 w) WrongLength (entry_length (state_with x w) n) refl))

pub returns-in_default : goal.returns-in_default
returns-in_default c = rw c.reply.ensures (refused_left _ _ _ _ c.in_default.ensures.cases)

pub loop-r-init : goal.loop-r-init
loop-r-init c =
    let a = c.args in
    let x = c.in-Some.image.now in (
      ap (λ p. p.r.end) c.begin-r.ensures,
      begun a.events.now x a.answers.now a.w _ c.begin-r.ensures,
    )

pub bounds-events-r : goal.bounds-events-r
bounds-events-r c =
    let a = c.args in
    omega (arith, c.loop-r.invariant.0, begin_end (length a.events.now) c.in-Some.image.now a.answers.now a.w)

pub offset_bounds-events-r : goal.offset_bounds-events-r
offset_bounds-events-r c =
    let a = c.args in
    let h : c.loop-r.r.at < length a.events.now = omega (arith, c.loop-r.invariant.0, begin_end (length a.events.now) c.in-Some.image.now a.answers.now a.w) in
    search rules

pub turn-r-requires : goal.turn-r-requires
turn-r-requires c =
    let a = c.args in
    let i = c.loop-r.invariant in
    let room = begin_room (length a.events.now) c.in-Some.image.now a.answers.now a.w in (
      c.loop-r-test.true,
      omega arith,
    )

pub loop-r-smaller : goal.loop-r-smaller
loop-r-smaller c =
    let s : Playing = record { image = c.loop-r.image; answers = c.loop-r.answers; r = c.loop-r.r } in
    let at : c.turn-r.result.at ≡ c.loop-r.r.at + 1 = ap (λ p. p.r.at) c.turn-r.ensures ∙ turn_at _ s in
    let end : c.turn-r.result.end ≡ c.loop-r.r.end = ap (λ p. p.r.end) c.turn-r.ensures ∙ turn_end _ s in
    omega arith

pub loop-r-preserved : goal.loop-r-preserved
loop-r-preserved c =
    let a = c.args in
    let i = c.loop-r.invariant in
    let s : Playing = record { image = c.loop-r.image; answers = c.loop-r.answers; r = c.loop-r.r } in
    let most = begin_end (length a.events.now) c.in-Some.image.now a.answers.now a.w in
    let within : c.loop-r.r.end ≤ length a.events.now = omega arith in
    let here : c.loop-r.r.at < length a.events.now = omega arith in (
      ap (λ p. p.r.end) c.turn-r.ensures ∙ turn_end _ s ∙ i.0,
      turned a.events.now _ s _ c.turn-r.ensures (get_or_default a.events.now c.loop-r.r.at _ none here) c.loop-r-test.true within ∙ i.1,
    )

pub returns : goal.returns
returns c =
    let a = c.args in
    let i = c.loop-r.invariant in
    let s : Playing = record { image = c.loop-r.image; answers = c.loop-r.answers; r = c.loop-r.r } in
    let most = begin_end (length a.events.now) c.in-Some.image.now a.answers.now a.w in
    rw (← c.in-Some.ensures.cases.same) (played_leaves a.events.now c.in-Some.image.now a.answers.now a.w s (sym (over a.events.now s (omega arith) c.loop-r-test.false) ∙ i.1))
