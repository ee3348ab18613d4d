use borrow.Author.Rules.{rules}
use mathlib.Core.List.{List}
use mathlib.Core.Path.{refl, sym, ap, ◌∙◌, subst}
use Prim.Native.Nat.{ℕ, ◌≤◌}
use native.Mathlib.Omega.{arith}
use lib.ListN.{length, take}
use Rattle.contracts.specs.Forms.{IsState}
use Rattle.model.specs.Access.{ended_state}
use Rattle.step_host.specs.Settled.{settled_state}
use Rattle.model.specs.Map.{Image}
use Rattle.model.specs.State.{State}
use Rattle.model.specs.declared.lane.Working.{Working}
use Rattle.model.specs.Answers.{is_done}
use Rattle.model.specs.Step.{event_effect}
use Rattle.model.specs.Outcome.{laid_over}
use Rattle.model.specs.declared.answer.Answer.TheVariants.{BadAccess}
use Rattle.access_limits.proofs.Halves.{good_access}
use Rattle.step_answers.proofs.Outcomes.{refused_leaves, done_leaves, length_taken}
use Rattle.step_answers.proofs.Answered.{write_bad, write_done}
use Rattle.step_host.proofs.write.Goals as goal

-- all the bytes that a write takes are written
all-written : (address count : ℕ) (bytes : List ℕ) (s : State) (x : Image) (w : Working) → count ≤ length bytes
    → IsState (settled_state (ended_state address (take count bytes) (length (take count bytes)) s)) x w
    → IsState (settled_state (ended_state address (take count bytes) count s)) x w
all-written address count bytes s x w h =
    subst (λ n. IsState (settled_state (ended_state address (take count bytes) n s)) x w) (sym (length_taken count bytes h))

pub returns-then-bad_access : goal.returns-then-bad_access
unfolding is_done
returns-then-bad_access c = refused_leaves _ _ _ _ BadAccess _ (write_bad _ _ _ _ (sym c.bad_access.ensures ∙ c.if-bad_access.true)) refl c.reply.ensures

pub slice_bounds-bytes-end : goal.slice_bounds-bytes-end
slice_bounds-bytes-end c = let eight = c.well_formed.1.1.1.1.0.1.0.1 in
    let g = good_access 8 _ _ (sym c.bad_access.ensures ∙ c.if-bad_access.false) in
    omega arith

pub slice_bounds-write_bytes-end : goal.slice_bounds-write_bytes-end
slice_bounds-write_bytes-end c = let eight = c.well_formed.1.1.1.1.0.1.0.1 in
    let g = good_access 8 _ _ (sym c.bad_access.ensures ∙ c.if-bad_access.false) in
    length_taken _ _ (omega arith)

pub write_bytes-written-requires : goal.write_bytes-written-requires
write_bytes-written-requires c = let eight = c.well_formed.1.1.1.1.0.1.0.1 in
    let g = good_access 8 _ _ (sym c.bad_access.ensures ∙ c.if-bad_access.false) in
    let n = length_taken c.args.count c.args.bytes (omega arith) in
    omega arith

pub returns : goal.returns
unfolding event_effect laid_over
returns c = let s = c in
    let eight = s.well_formed.1.1.1.1.0.1.0.1 in
    let good = sym s.bad_access.ensures ∙ s.if-bad_access.false in
    let g = good_access 8 _ _ good in
    let w = all-written _ s.args.count s.args.bytes _ _ _ (omega arith) c.write_bytes-written.ensures in
    done_leaves _ _ _ _ _ _ _ _ _
    (write_done _ _ _ _ good)
    refl
    (ap (λ t. t.answer) c.reply-2.ensures)
    refl
    w.image
    (ap (λ t. t.working) c.reply-2.ensures ∙ w.working)
    refl
    (ap (λ t. t.mask) c.reply-2.ensures)
