-- A group in progress closes after at most nine work steps on its lanes, whatever is called between them: nothing else changes their records but a reset, which
-- drops the whole group, and each of these steps copies one lane more or closes. Assumes nothing.
use Rattle.std.proofs.Common.{None, Some, Option}
use mathlib.Core.Path.{◌≡◌, refl, ap, ◌∙◌}
use mathlib.Core.Bool.{Bool, true, false}
use mathlib.Core.List.{List, [], ◌∷◌}
use mathlib.Core.Logic.{◌⊎◌, inl, inr}
use Prim.Native.Nat.{ℕ, zero, suc, ◌+◌, ◌-◌, ◌≤◌, ◌<◌}
use native.Mathlib.Decide.{dec_lt}
use native.Mathlib.Omega.{arith}
use lib.ListN.{length, take}
use borrow.Author.Tests.{ltb-true, lt-ltb, eqb-true, not-false}
use Rattle.bits.specs.Choice.{pick}
use Rattle.bits.specs.Sets.{has, next_in, lane_count}
use Rattle.bits.proofs.Tests.{split, clash, both_l, both_r, both_i}
use Rattle.bits.proofs.Masks.{next_le}
use Rattle.model.specs.Map.{image_length}
use Rattle.model.specs.Answers.{is_done}
use Rattle.model.specs.Records.{stage_at, is_in_progress, progress_with, with_verdict}
use Rattle.model.specs.State.{State}
use Rattle.model.specs.Work.{early}
use Rattle.model.specs.Sound.{is_sound}
use Rattle.model.specs.Start.{reset_state}
use Rattle.model.specs.Refusals.{first_of, wrong_length, image_refusals, entry_refusals}
use Rattle.model.specs.Step.{event, step}
use Rattle.model.specs.Outcome.{Outcome, step_outcome}
use Rattle.model.specs.declared.answer.Answer.TheVariants.{Done, WrongLength, FlatMemory, Unsound}
use Rattle.model.specs.declared.event.Call.{Call}
use Rattle.model.specs.declared.event.Call.TheVariants.{Write, Read, Work, Hardware, Condition, Sample, Lasting, Module, Line}
use Rattle.model.specs.declared.lane.Verdict.{Verdict}
use Rattle.model.specs.declared.lane.Verdict.TheVariants.{Pass, Reject}
use Rattle.model.specs.declared.lane.Progress.{Progress}
use Rattle.laws.specs.Calls.{Called, outcome_at, state_after}
use Rattle.laws.proofs.Unchanged.{done_is}
use Rattle.laws_sound.specs.Sound.{seen_of, Mate, Sound}
use Rattle.laws_sound.proofs.Test.{test_sound}
use Rattle.laws_sound.proofs.Stranger.{in_progress_lem, groups-apart}
use Rattle.laws_sound.proofs.Reached.{still_accepted, call_is_step}
use Rattle.laws_frames.specs.Frames.{is_reset}
use Rattle.laws_frames.proofs.Stages.{idle-stage}
use Rattle.laws_step.specs.Told.{step_on, newly_marked}
use Rattle.laws_step.proofs.Frames.{unless}
use Rattle.laws_step.proofs.Stepped.{not-refused, refused-step, work-on}
use Rattle.laws_step.proofs.Reading.{read_keeps_records}
use Rattle.laws_step.proofs.Writing.{write-resets, write_keeps_record}
use Rattle.laws_step.proofs.Powering.{module_keeps_records, line_sets}
use Rattle.laws_step.proofs.Working.{rejected_closes, copied-lane, passed_closes}
use Rattle.laws_step.proofs.Moving.{hardware_keeps_records}
use Rattle.laws_step.proofs.Sensing.{condition_keeps_records}
use Rattle.laws_step.proofs.Lasting.{lasting_keeps_stages, sampled_keeps_stages}
use Rattle.laws_closing.specs.Closing.{most_work_steps, is_work_on, works_on, AllIn, AllIdle, ClosesWithin}

-- the work steps that are left at most: one for a rejection; for a pass one for each lane from its next one on, and the closing one
steps_left : Verdict → ℕ
steps_left (Reject code) = 1
steps_left (Pass n) = suc (lane_count - n)

-- lane l goes on in the group with at most a number of work steps left
record GoesOn (g most l : ℕ) (s : State) : Type 0 where
  pub its : Progress
  pub stage : stage_at s.working l ≡ Some its
  pub group : its.group ≡ g
  pub left : steps_left its.verdict ≤ most

progress_of_lem : (t : Option Progress) → is_in_progress t ≡ true → (q : Progress) × (t ≡ Some q)
unfolding is_in_progress
progress_of_lem None e = absurd (clash e refl)
progress_of_lem (Some q) e = (q, refl)

-- a state that is not refused with 1, 2 or 3 is sound and has its length
accepted-sound : (s : State) → first_of (entry_refusals s) ≡ Done → (is_sound s ≡ true) × (length s.image ≡ image_length)
unfolding entry_refusals image_refusals wrong_length is_done
accepted-sound s a =
    let r = not-refused WrongLength _ _ refl a in
    let f = not-refused FlatMemory _ _ refl r.1 in
    let u = not-refused Unsound _ _ refl f.1 in
    (not-false _ u.0, eqb-true _ _ (not-false _ r.0))

-- ---- one step

module _ (room : ℕ) (s : State) (bytes : List ℕ) (a : first_of (entry_refusals s) ≡ Done)
    (l : ℕ) (p : Progress) (h : l < lane_count) (i : stage_at s.working l ≡ Some p) where
  o : is_sound s ≡ true
  o = (accepted-sound s a).0

  size : length s.image ≡ image_length
  size = (accepted-sound s a).1

  sound : Sound (seen_of s)
  sound = (test_sound s o).five

  own : has p.group l ≡ true
  own = (sound.grouped l p h i).own

  all_in : AllIn p.group s
  all_in m b e = let M : Mate p (stage_at s.working m) = (sound.grouped l p h i).mate m b e in
      record { its = M.its; in_progress = M.stage; group = M.group }

  -- ---- a work step on a lane of another group

  other_keeps : (m : ℕ) (q : Progress) (v : Verdict) → m < lane_count → stage_at s.working m ≡ Some q → q.verdict ≡ v → has q.group l ≡ false
      → stage_at (step_on room s (Work m) bytes).state.working l ≡ stage_at s.working l
  other_keeps m q (Reject code) b j v n = (rejected_closes room s bytes m q b j code v o size).others l h n
  other_keeps m q (Pass k) b j v n = elim (dec_lt k lane_count) [
    | yes c ↦ (copied-lane room s bytes m q b j k v c o size).others l h n
    | no c ↦ (passed_closes room s bytes m q b j k v (omega arith) size).others l h n
  ]

  work_keeps : (m : ℕ) → (step_on room s (Work m) bytes).answer ≡ Done → is_work_on p.group (Work m) ≡ false
      → stage_at (step_on room s (Work m) bytes).state.working l ≡ stage_at s.working l
  unfolding is_work_on
  work_keeps m d f =
      let r = work-on room s bytes m d in
      let q = progress_of_lem (stage_at s.working m) r.1 in
      let n : has p.group m ≡ false = unless (λ t. clash (both_i (lt-ltb m lane_count r.0) t) f) in
      other_keeps m q.0 q.0.verdict r.0 q.1 refl
      (unless (λ t. clash own (groups-apart (seen_of s) sound l m l p q.0 h r.0 h i q.1 n t)))

  -- ---- any call but a work step on a lane of the group

  -- lane l keeps its stage, or a reset has made the whole group idle
  Stays : State → Type 0
  Stays z = (stage_at z.working l ≡ stage_at s.working l) ⊎ AllIdle p.group z

  write_stays : (address count : ℕ) → (step_on room s (Write address count) bytes).answer ≡ Done → Stays (step_on room s (Write address count) bytes).state
  unfolding Stays newly_marked reset_state
  write_stays address count d = split (is_reset bytes (Write address count))
      (λ r. inr (λ m b e. ap (λ (z : State). stage_at z.working m) (write-resets room s bytes address count d r) ∙ idle-stage s.working.line m b))
      (λ r. inl (write_keeps_record room s bytes address count d r l h (unless (λ t. clash (both_l _ _ t) (rw (in_progress_lem i))))))

  done_stays : (c : Call) → (step_on room s c bytes).answer ≡ Done → is_work_on p.group c ≡ false → Stays (step_on room s c bytes).state
  unfolding Stays
  done_stays (Write address count) d f = write_stays address count d
  done_stays (Read address count) d f = inl (ap (λ w. stage_at w l) (read_keeps_records room s bytes address count d))
  done_stays (Work m) d f = inl (work_keeps m d f)
  done_stays (Hardware m) d f = inl (ap (λ w. stage_at w l) (hardware_keeps_records room s bytes m d))
  done_stays (Condition flag mask) d f = inl (ap (λ w. stage_at w l) (condition_keeps_records room s bytes flag mask d))
  done_stays (Sample m power) d f = inl (sampled_keeps_stages room s bytes m power d l h)
  done_stays (Lasting flag on off) d f = inl (lasting_keeps_stages room s bytes flag on off d l h)
  done_stays Module d f = inl (ap (λ w. stage_at w l) (module_keeps_records room s bytes d))
  done_stays (Line on) d f = inl (ap (λ w. stage_at w l) (line_sets room s bytes on d))

  others_stay : (c : Call) → is_work_on p.group c ≡ false → Stays (step_on room s c bytes).state
  unfolding Stays is_done
  others_stay c f = split (is_done (step_on room s c bytes).answer)
      (λ t. done_stays c (done_is _ t) f)
      (λ t. inl (rw (refused-step room s (event c bytes) (λ d. clash (ap is_done d) t))))

  -- ---- a work step on a lane of the group

  Moved : State → Type 0
  Moved z = AllIdle p.group z ⊎ ((k : ℕ) × (suc k ≤ steps_left p.verdict) × GoesOn p.group k l z)

  group-moves : (m : ℕ) (q : Progress) (v : Verdict) → m < lane_count → stage_at s.working m ≡ Some q → q.group ≡ p.group → q.verdict ≡ v
      → p.verdict ≡ v → Moved (step_on room s (Work m) bytes).state
  unfolding Moved steps_left with_verdict
  group-moves m q (Reject code) b j g v u = inl (rw g at (rejected_closes room s bytes m q b j code v o size).idle)
  group-moves m q (Pass n) b j g v u = elim (dec_lt n lane_count) [
    | no c ↦ inl (rw g at (passed_closes room s bytes m q b j n v (omega arith) size).idle)
    | yes c ↦
        let next = next_in lane_count q.group (suc n) in
        inr (
          lane_count - n,
          rw u (omega arith),
          record {
            its = progress_with p (Pass next);
            stage = (copied-lane room s bytes m q b j n v c o size).next l h (ap (λ z. has z l) g ∙ own) ∙ rw (i, with_verdict);
            group = refl;
            left = omega (arith, next_le lane_count q.group (suc n));
          },
        )
  ]

  works_move : (c : Call) → is_work_on p.group c ≡ true → Moved (step_on room s c bytes).state
  unfolding is_work_on
  works_move (Write address count) f = absurd (clash f refl)
  works_move (Read address count) f = absurd (clash f refl)
  works_move (Work m) f =
      let b : m < lane_count = ltb-true m lane_count (both_l _ _ f) in
      let M : Mate p (stage_at s.working m) = (sound.grouped l p h i).mate m b (both_r _ _ f) in
      group-moves m M.its p.verdict b M.stage M.group M.verdict refl
  works_move (Hardware m) f = absurd (clash f refl)
  works_move (Condition flag mask) f = absurd (clash f refl)
  works_move (Sample m power) f = absurd (clash f refl)
  works_move (Lasting flag on off) f = absurd (clash f refl)
  works_move Module f = absurd (clash f refl)
  works_move (Line on) f = absurd (clash f refl)

-- ---- any calls

one_at_most : (b : Bool) → pick b 1 0 ≤ 1
unfolding pick
one_at_most true = omega arith
one_at_most false = omega arith

module _ (g most : ℕ) (s : State) (c : Called) (cs : List Called) (a : AllIn g s) where
  -- the group closes at this call
  at_once : 1 ≤ most → AllIdle g (outcome_at s c).state → ClosesWithin g most s (c ∷ cs)
  unfolding state_after works_on
  at_once n d =
      record { calls = 1; among = omega arith; works = omega (arith, one_at_most (is_work_on g c.event.call)); closed = d; until = up }
    where
      up : (j : ℕ) → j < 1 → AllIn g (state_after s (take j (c ∷ cs)))
      up zero b = a
      up (suc j) b = absurd (omega arith)

  -- .. or at a later one
  later : (k : ℕ) → pick (is_work_on g c.event.call) 1 0 + k ≤ most → ClosesWithin g k (outcome_at s c).state cs → ClosesWithin g most s (c ∷ cs)
  unfolding state_after works_on
  later k n r =
      record { calls = suc r.calls; among = omega (arith, r.among); works = omega (arith, r.works); closed = r.closed; until = up }
    where
      up : (j : ℕ) → j < suc r.calls → AllIn g (state_after s (take j (c ∷ cs)))
      up zero b = a
      up (suc j) b = r.until j (omega arith)

some_left : (v : Verdict) → 1 ≤ steps_left v
unfolding steps_left
some_left (Reject code) = omega arith
some_left (Pass n) = omega arith

nine_left : (v : Verdict) → steps_left v ≤ most_work_steps
unfolding steps_left
nine_left (Reject code) = omega arith
nine_left (Pass n) = omega arith

-- a call on a state that is not refused with 1, 2 or 3 is a step
call_step : (s : State) (c : Called) → first_of (entry_refusals s) ≡ Done → (outcome_at s c).state ≡ (step early (length c.buffer) s c.event).state
unfolding step_outcome
call_step s c a = ap (λ (o : Outcome). o.state) (call_is_step s c a)

-- a call on a state where lane l goes on in the group
module _ (g l most : ℕ) (s : State) (h : l < lane_count) (a : first_of (entry_refusals s) ≡ Done) (G : GoesOn g most l s) (c : Called) where
  still_in : AllIn g s
  still_in = rw G.group at (all_in 0 s [] a l G.its h G.stage)

  goes_on : is_work_on g c.event.call ≡ false → AllIdle g (outcome_at s c).state ⊎ GoesOn g most l (outcome_at s c).state
  unfolding Stays
  goes_on w =
      let w' : is_work_on G.its.group c.event.call ≡ false = ap (λ z. is_work_on z c.event.call) G.group ∙ w in
      elim (others_stay (length c.buffer) s c.event.bytes a l G.its h G.stage c.event.call w') [
        | inl e ↦ inr (record { its = G.its; stage = rw (call_step s c a) e ∙ G.stage; group = G.group; left = G.left })
        | inr d ↦ inl (rw (call_step s c a) (rw G.group at d))
      ]

  moves-on : is_work_on g c.event.call ≡ true → AllIdle g (outcome_at s c).state ⊎ ((k : ℕ) × (suc k ≤ most) × GoesOn g k l (outcome_at s c).state)
  unfolding Moved
  moves-on w =
      let w' : is_work_on G.its.group c.event.call ≡ true = ap (λ z. is_work_on z c.event.call) G.group ∙ w in
      elim (works_move (length c.buffer) s c.event.bytes a l G.its h G.stage c.event.call w') [
        | inl d ↦ inl (rw (call_step s c a) (rw G.group at d))
        | inr r ↦ inr (r.0, omega (arith, r.1, G.left), rw (call_step s c a) (rw G.group at r.2))
      ]

module _ (g l : ℕ) (h : l < lane_count) where
  within : (cs : List Called) (most : ℕ) (s : State) → first_of (entry_refusals s) ≡ Done → GoesOn g most l s → most ≤ works_on g cs → ClosesWithin g most s cs
  unfolding works_on pick
  within [] most s a G n = absurd (omega (arith, some_left G.its.verdict, G.left))
  within (c ∷ cs) most s a G n =
      let z = (outcome_at s c).state in
      let next : first_of (entry_refusals z) ≡ Done = rw (call_step s c a) (still_accepted (length c.buffer) s c.event a) in
      let lanes : AllIn g s = still_in g l most s h a G c in
      split (is_work_on g c.event.call)
      (λ w. elim (moves-on g l most s h a G c w) [
        | inl d ↦ at_once g most s c cs lanes (omega (arith, some_left G.its.verdict, G.left)) d
        | inr r ↦ later g most s c cs lanes r.0 (rw (w, pick) (omega (arith, r.1)))
            (within cs r.0 z next r.2 (omega (arith, r.1, (rw (w, pick) at n))))
      ])
      (λ w. elim (goes_on g l most s h a G c w) [
        | inl d ↦ at_once g most s c cs lanes (omega (arith, some_left G.its.verdict, G.left)) d
        | inr r ↦ later g most s c cs lanes most (rw (w, pick) (omega arith)) (within cs most z next r (omega (arith, (rw (w, pick) at n))))
      ])

-- on any state that is not refused with 1, 2 or 3, a group in progress is idle after at most nine work steps on its lanes, whatever is called between them
pub nine_steps : (s : State) (l : ℕ) (p : Progress) (cs : List Called) → first_of (entry_refusals s) ≡ Done → l < lane_count
    → stage_at s.working l ≡ Some p → most_work_steps ≤ works_on p.group cs → ClosesWithin p.group most_work_steps s cs
nine_steps s l p cs a h i n =
    within p.group l h cs most_work_steps s a (record { its = p; stage = i; group = refl; left = nine_left p.verdict }) n
