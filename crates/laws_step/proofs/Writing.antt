-- A write that is done changes the writable bytes that it addresses, 126 and 127 by the page rule, ConfigStatus and the records of the lanes that it
-- marks, what a command changes where it runs one, and lower 3.0; one that resets the module leaves a fresh start. Assumes nothing.
use mathlib.Core.Path.{◌≡◌, refl, sym, ap, ◌∙◌}
use mathlib.Core.Bool.{true, false}
use mathlib.Core.List.{List, []}
use mathlib.Core.Logic.{◌≢◌}
use Prim.Native.Nat.{ℕ, suc, ◌+◌, ◌-◌, ◌≤◌, ◌<◌}
use native.Mathlib.Omega.{arith}
use lib.ListN.{length, get_or, take, drop, length-take, length-drop}
use lib.Seq.{length-take-le, split_at, get_or-take}
use lib.Dec.{eqb, ltb}
use borrow.Author.Tests.{ltb-false, eqb-true, eqb-false}
use Rattle.bits.specs.Choice.{pick, only_if, both, either}
use Rattle.bits.specs.Number.{field, with_field}
use Rattle.bits.proofs.Tests.{split, clash, both_l, both_i, either_l, either_r, pick_true, pick-false}
use Rattle.bits.proofs.Number.{got_lt, back}
use Rattle.model.specs.Map.{module_controls, software_reset_bit, bank_select, in_ranges, writable, image_length, module_flags, command_status, run_address, reply_length}
use Rattle.model.specs.Records.{stage_at}
use Rattle.model.specs.State.{State, with_image}
use Rattle.model.specs.Flags.{settled_image}
use Rattle.model.specs.Commands.{status_of, command_image}
use Rattle.model.specs.Pages.{index_of}
use Rattle.model.specs.Start.{reset_state}
use Rattle.model.specs.Access.{without_reset, bytes_written_state, writes, runs_command, resets, ended_state, write_limit, half_end, is_bad_access}
use Rattle.model.specs.Answers.{is_done}
use Rattle.model.specs.Refusals.{event_refusals}
use Rattle.model.specs.Step.{event, event_effect, done_step}
use Rattle.model.specs.declared.answer.Answer.TheVariants.{Done, BadAccess}
use Rattle.model.specs.declared.event.Call.TheVariants.{Write}
use Rattle.laws_frames.specs.Frames.{is_reset}
use Rattle.laws_frames.proofs.Starting.{reset_after}
use Rattle.laws_step.specs.Changes.{ChangesOnly, or_in, interrupt_set}
use Rattle.laws_step.specs.Told.{step_on, newly_marked, write_set, stored_image, ended_image, command_set, CommandTold, end_set}
use Rattle.laws_step.proofs.Frames.{unless, keeps_then, keeps_left, keeps_right, keeps_byte}
use Rattle.laws_step.proofs.Places.{writable_in}
use Rattle.laws_step.proofs.Settling.{settled_changes, settled_byte}
use Rattle.laws_step.proofs.Stepped.{not-refused, none-refused, done_step_lem}
use Rattle.laws_step.proofs.Middle.{in_the_middle}
use Rattle.laws_step.proofs.Bytes.{Written, part_written, page_stays, place_past}
use Rattle.laws_step.proofs.Commanding.{command_out, command_changes, command_told, told_settled, ended_changes, written_from, written_past, writes_at}
use Rattle.laws_step.proofs.Beginning.{reset_settled}

-- no host writes lower 37 and lower 8
status_unwritten : writable command_status ≡ false
unfolding writable in_ranges both either
status_unwritten = refl

flags_unwritten : writable module_flags ≡ false
unfolding writable in_ranges both either
flags_unwritten = refl

module _ (room : ℕ) (s : State) (bytes : List ℕ) (address count : ℕ) (d : (step_on room s (Write address count) bytes).answer ≡ Done) where
  -- an access does not leave its half
  pub in_half : address + count ≤ half_end address
  unfolding event_refusals is_bad_access is_done
  in_half = ltb-false (half_end address) (address + count)
      (either_r _ _ (either_r _ _ (not-refused BadAccess _ [] refl (none-refused room s (event (Write address count) bytes) d)).0))

  -- .. and has no more than 8 bytes
  pub in_limit : count ≤ write_limit
  unfolding event_refusals is_bad_access is_done
  in_limit = ltb-false write_limit count
      (either_l _ _ (either_r _ _ (not-refused BadAccess _ [] refl (none-refused room s (event (Write address count) bytes) d)).0))

  written : Written (index_of s.image address) (index_of s.image address + count) s (bytes_written_state address (take count bytes) s)
  written =
      let n : length (take count bytes) ≤ count = simp length-take (omega arith) in
      part_written _ _ (take count bytes) address s (omega arith) (omega arith) (omega (arith, in_half)) (place_past s.image address)

  -- ---- a write that resets the module

  -- it leaves what start makes of what is kept, all lanes idle with nothing on, and the low-power line as it was
  pub write-resets : is_reset bytes (Write address count) ≡ true → (step_on room s (Write address count) bytes).state ≡ reset_state s
  unfolding done_step event_effect ended_state is_reset
  write-resets r =
      ap (λ o. o.state) (done_step_lem room s (event (Write address count) bytes) d)
      ∙ ap (λ t. with_image t (settled_image t.image)) (pick_true _ _ r ∙ reset_after address (take count bytes) s)
      ∙ reset_settled s

  -- a write that comes to 129 lies in the upper half, and one that comes to lower 26 in the lower
  upper : writes address count run_address ≡ true → 128 ≤ address
  unfolding half_end pick
  upper t = split (ltb address 128)
      (λ e. absurd (omega (arith, (rw (e, pick) at in_half), written_past address count run_address t)))
      (λ e. ltb-false address 128 e)

  -- so one that runs a command resets nothing
  runs_no_reset : runs_command address count s.image ≡ true → is_reset bytes (Write address count) ≡ false
  unfolding runs_command is_reset resets
  runs_no_reset t = unless (λ r. let h : address ≤ module_controls = written_from address count module_controls (both_l _ _ r) in omega (arith, upper (both_l _ _ t)))

  -- its bytes leave the page selected, so that it runs a command if the page was selected when it came
  pub runs-stored : runs_command address count (stored_image s address count bytes) ≡ runs_command address count s.image
  unfolding runs_command both half_end pick
  runs-stored = split (writes address count run_address)
      (λ t. rw (t, both, page_stays _ _ s _ (place_past s.image address (upper t)) written))
      (λ t. rw (t, both))

  -- ---- any other

  module _ (plain : is_reset bytes (Write address count) ≡ false) where
    -- its bytes are stored, then its end comes, then lower 3.0 is settled
    write_is : (step_on room s (Write address count) bytes).state
        ≡ with_image (bytes_written_state address (take count bytes) s) (settled_image (ended_image address count (stored_image s address count bytes)))
    unfolding done_step event_effect ended_state ended_image is_reset
    write_is = ap (λ o. o.state) (done_step_lem room s (event (Write address count) bytes) d) ∙ ap (λ t. with_image t (settled_image t.image)) (pick-false _ _ plain)

    -- what a write changes
    pub write_changes : ChangesOnly (or_in interrupt_set (or_in (write_set (index_of s.image address) (index_of s.image address + count) s.working
        (step_on room s (Write address count) bytes).state.working) (end_set address count (stored_image s address count bytes))))
        s.image (step_on room s (Write address count) bytes).state.image
    write_changes = rw write_is
        (keeps_then (keeps_right _ (keeps_then (keeps_left _ written.bits) (keeps_right _ (ended_changes address count _)))) (keeps_left _ (settled_changes _)))

    -- a lane that it does not mark keeps its record
    pub write_keeps_record : (l : ℕ) → l < 8 → newly_marked s.working (step_on room s (Write address count) bytes).state.working l ≡ false
        → stage_at (step_on room s (Write address count) bytes).state.working l ≡ stage_at s.working l
    write_keeps_record = rw write_is written.records

  -- ---- a write that runs a command, on the image that holds its bytes

  module _ (runs : runs_command address count s.image ≡ true) where
    command_is : (step_on room s (Write address count) bytes).state.image ≡ settled_image (command_image (stored_image s address count bytes))
    unfolding ended_image only_if
    command_is = ap (λ t. t.image) (write_is (runs_no_reset runs)) ∙ rw (runs-stored ∙ runs, only_if)

    -- it changes lower 37 and 8.6, and of page 9Fh 134, 135 and the reply, and lower 3.0
    pub command_run_changes : ChangesOnly (or_in interrupt_set (command_set (status_of (stored_image s address count bytes))))
        (stored_image s address count bytes) (step_on room s (Write address count) bytes).state.image
    command_run_changes = rw command_is (keeps_then (keeps_right _ (command_changes _)) (keeps_left _ (settled_changes _)))

    -- .. to what its status says
    pub command_run-told : length s.image ≡ image_length
        → CommandTold (status_of (stored_image s address count bytes)) (stored_image s address count bytes) (step_on room s (Write address count) bytes).state.image
    command_run-told size = rw command_is (told_settled _ _ _ (command_told (stored_image s address count bytes) (written.bits.size ∙ size)))

  -- no writable byte before 9Fh:134 is changed by the end
  unended : (k b : ℕ) → writable (index_of s.image address + k) ≡ true
      → (runs_command address count s.image ≡ true → index_of s.image address + k < reply_length)
      → end_set address count (stored_image s address count bytes) (index_of s.image address + k) b ≡ false
  unfolding end_set both
  unended k b w o = split (runs_command address count s.image)
      (λ t. rw (runs-stored ∙ t, both) (command_out _ _ b (λ e. clash (ap writable (sym e) ∙ w) status_unwritten) (λ e. clash (ap writable (sym e) ∙ w) flags_unwritten) (λ lo hi. omega (arith, o t))))
      (λ t. rw (runs-stored ∙ t, both))

  module _ (plain : is_reset bytes (Write address count) ≡ false) where
    -- where it is lower 26 that is written, SoftwareReset is 0 in it
    lower_place : (k : ℕ) → index_of s.image address + k ≡ module_controls → index_of s.image address ≡ address
    unfolding index_of pick
    lower_place k e = split (ltb address 128)
        (λ t. rw (t, pick))
        (λ t. absurd (omega (arith, place_past s.image address (ltb-false address 128 t))))

    reset_bit_0 : (k : ℕ) → k < count → address + k ≡ module_controls → field (get_or (take count bytes) k 0) software_reset_bit.shift 1 ≡ 0
    unfolding is_reset resets
    reset_bit_0 k h e =
        let w : writes address count module_controls ≡ true = writes_at address count module_controls (omega arith) (omega arith) in
        let j : module_controls - address ≡ k = omega arith in
        let b : field (get_or (take count bytes) k 0) software_reset_bit.shift 1 ≢ 1 = eqb-false _ _ (unless (λ t. clash (both_i w (rw j t)) plain)) in
        omega (arith, got_lt (get_or (take count bytes) k 0) software_reset_bit.shift 1)

    not_reset : (k : ℕ) → k < count → without_reset (index_of s.image address + k) (get_or (take count bytes) k 0) ≡ get_or (take count bytes) k 0
    unfolding without_reset
    not_reset k h = split (eqb (index_of s.image address + k) module_controls)
        (λ t.
        let e = eqb-true (index_of s.image address + k) module_controls t in
        let z = reset_bit_0 k h (rw (lower_place k e) at e) in
        pick_true _ _ t ∙ ap (with_field (get_or (take count bytes) k 0) software_reset_bit.shift 1) (sym z) ∙ back (get_or (take count bytes) k 0) software_reset_bit.shift 1)
        (λ t. pick-false _ _ t)

    -- a writable byte that is addressed holds the byte written to it; 126 does where 127 is not written after it, and 9Fh:134-255 where no command runs
    pub write_stores : length s.image ≡ image_length → count ≤ length bytes → (k : ℕ) → k < count → writable (index_of s.image address + k) ≡ true
        → (index_of s.image address + k ≡ bank_select → suc k ≡ count)
        → (runs_command address count s.image ≡ true → index_of s.image address + k < reply_length)
        → get_or (step_on room s (Write address count) bytes).state.image (index_of s.image address + k) 0 ≡ get_or bytes k 0
    write_stores size n k h w q o =
        let e : length (take count bytes) ≡ count = length-take-le count bytes n in
        let b : length (take k (take count bytes)) ≡ k = length-take-le k (take count bytes) (omega arith) in
        let r : length (drop (suc k) (take count bytes)) ≡ count - suc k = simp length-drop (omega arith) in
        rw (write_is plain)
        (settled_byte _ (index_of s.image address + k) (omega (arith, writable_in (index_of s.image address + k) w))
        ∙ keeps_byte (ended_changes address count (stored_image s address count bytes)) (index_of s.image address + k) (λ b. unended k b w o)
        ∙ ap (λ vs. get_or (bytes_written_state address vs s).image (index_of s.image address + k) 0) (split_at (take count bytes) k 0 (omega arith))
        ∙ in_the_middle address k (take k (take count bytes)) (drop (suc k) (take count bytes)) (get_or (take count bytes) k 0) s b
        (omega (arith, in_half)) size w (λ f. omega (arith, q f))
        ∙ not_reset k h
        ∙ get_or-take count bytes k 0 h)
