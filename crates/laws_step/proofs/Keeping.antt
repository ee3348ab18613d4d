-- No event but a reset changes a byte outside changedRanges, but a command lower 37; and most change neither the module's state nor DPState. Assumes nothing.
use Rattle.std.proofs.Common.{None, Some, Option}
use mathlib.Core.Path.{◌≡◌, refl, sym, ap, subst}
use mathlib.Core.Bool.{Bool, true, false, not}
use mathlib.Core.List.{List, ◌∷◌}
use mathlib.Core.Logic.{inl, inr}
use Prim.Native.Nat.{ℕ, ◌+◌, ◌-◌, ◌*◌, ◌%◌, ◌≤◌, ◌<◌}
use native.Mathlib.Decide.{dec_lt}
use native.Mathlib.Omega.{arith}
use lib.Dec.{eqb}
use lib.ListN.{get_or}
use borrow.Author.Tests.{eqb-true, leb-true, ltb-true, not-true}
use Rattle.bits.specs.Choice.{both, either}
use Rattle.bits.specs.Loop.{all_below}
use Rattle.bits.specs.Place.{covers}
use Rattle.bits.proofs.Tests.{split, clash, both_l, both_r, either_cases, either_r, either_i_l, either_i_r}
use Rattle.bits.proofs.Loops.{all_at, any_find}
use Rattle.bits.proofs.Lanes.{lane_in}
use Rattle.model.specs.Map.{Image, Range, range, range_on, in_ranges, writable_ranges, writable, cleared_ranges, clearing, active_set, setting_at, setting_offsets, setting_widths, received_power, page11, on, bank_select, page_select, interrupt_bit, module_state_bits, module_changed_bit, command_status, command_complete_bit, reply_length, message_body, image_length}
use Rattle.model.specs.Answers.{is_done}
use Rattle.model.specs.Records.{stage_at, is_in_progress}
use Rattle.model.specs.State.{State}
use Rattle.model.specs.Work.{early}
use Rattle.model.specs.Commands.{body_limit, status_of}
use Rattle.model.specs.Access.{runs_command}
use Rattle.model.specs.Start.{reset_state}
use Rattle.model.specs.Step.{step}
use Rattle.model.specs.declared.answer.Answer.TheVariants.{Done}
use Rattle.model.specs.declared.command.CommandStatus.{CommandStatus}
use Rattle.model.specs.declared.command.CommandStatus.TheVariants.{Success, UnknownNumber, WrongCode}
use Rattle.model.specs.declared.event.Call.{Call}
use Rattle.model.specs.declared.event.Call.TheVariants.{Write, Read, Work, Hardware, Condition, Sample, Lasting, Module, Line}
use Rattle.model.specs.declared.event.Event.{Event}
use Rattle.model.specs.declared.lane.Verdict.{Verdict}
use Rattle.model.specs.declared.lane.Verdict.TheVariants.{Pass, Reject}
use Rattle.model.specs.declared.lane.Progress.{Progress}
use Rattle.model.specs.declared.lane.Working.{Working}
use Rattle.laws.proofs.Unchanged.{done_is}
use Rattle.laws_frames.specs.Frames.{is_reset}
use Rattle.laws_frames.proofs.Ranges.{covered_by, covered_in, all_covered, ranges_in}
use Rattle.laws_frames.proofs.Commands.{reply-fits}
use Rattle.laws_step.specs.Changes.{Bits, ChangesOnly, or_in, in_bytes, interrupt_set, status_set, state_set, flag_set, pending_set, active_of}
use Rattle.laws_step.specs.Told.{step_on, calm_ranges, changed_ranges, Kept, amid, cleared_by, written_bytes, write_set, length_after, command_set, stored_image, end_set, runs_on, path_set, sample_set, module_set}
use Rattle.laws_step.proofs.Frames.{unless, keeps_left, keeps_byte, lanes_bytes}
use Rattle.laws_step.proofs.Within.{Within, within-place, within-lanes, within_or}
use Rattle.laws_step.proofs.Places.{condition_in}
use Rattle.laws_step.proofs.Stepped.{refused-step, work-on}
use Rattle.laws_step.proofs.Reading.{read_changes}
use Rattle.laws_step.proofs.Writing.{write-resets, write_changes, runs-stored}
use Rattle.laws_step.proofs.Working.{rejected_changes, copied_changes, passed_changes}
use Rattle.laws_step.proofs.Moving.{hardware_changes}
use Rattle.laws_step.proofs.Powering.{module_changes, line_changes}
use Rattle.laws_step.proofs.Sensing.{is_listed, is_lane_lem, condition_changes, lasting-listed, lasting_changes, sampled_changes}

-- ---- what each event may change, commands and resets aside

-- what a read clears
clearing_changed : (i : ℕ) → clearing i ≡ true → in_ranges calm_ranges i ≡ true
unfolding clearing all_covered covered_by both either
clearing_changed i e = ranges_in calm_ranges cleared_ranges i refl e

within_cleared : (x : Image) (address n : ℕ) → Within calm_ranges (cleared_by x address n)
unfolding cleared_by in_bytes
within_cleared x address n i b t = clearing_changed i (both_l _ _ t)

-- what a write stores, and ConfigStatus
writable_changed : (i : ℕ) → writable i ≡ true → in_ranges calm_ranges i ≡ true
unfolding writable all_covered covered_by both either
writable_changed i e = ranges_in calm_ranges writable_ranges i refl e

selects_changed : (i : ℕ) → bank_select ≤ i → i ≤ page_select → in_ranges calm_ranges i ≡ true
unfolding covered_by both either
selects_changed i a b = covered_in calm_ranges (range bank_select page_select) i refl a b

within-stored : (from to : ℕ) → Within calm_ranges (in_bytes (written_bytes from to))
unfolding in_bytes written_bytes
within-stored from to i b t = elim (either_cases _ _ t) [
  | inl e ↦ writable_changed i (both_l _ _ e)
  | inr e ↦ elim (either_cases (eqb i bank_select) (eqb i page_select) (both_r _ _ e)) [
    | inl q ↦ let k : i ≡ bank_select = eqb-true i bank_select q in selects_changed i (omega arith) (omega arith)
    | inr q ↦ let k : i ≡ page_select = eqb-true i page_select q in selects_changed i (omega arith) (omega arith)
  ]
]

within-status : (c : ℕ → Bool) → Within calm_ranges (status_set c)
unfolding status_set covered_by both either
within-status c = within-lanes calm_ranges c (on page11 202) 4 refl refl

within_written : (from to : ℕ) (v w : Working) → Within calm_ranges (write_set from to v w)
unfolding write_set
within_written from to v w = within_or calm_ranges _ _ (within-stored from to) (within-status _)

-- the active settings lie on both sides of 11h:215-216
settings_covered : all_below 8 (λ k. both (eqb (8 % get_or setting_widths k 0) 0)
    (covered_by calm_ranges (range (active_set + get_or setting_offsets k 0) (active_set + get_or setting_offsets k 0 + get_or setting_widths k 0 - 1)))) ≡ true
unfolding all_below covered_by both either
settings_covered = refl

within-setting : (k l : ℕ) → k < 8 → l < 8 → Within calm_ranges (covers (setting_at active_set k l))
unfolding setting_at
within-setting k l hk hl =
    let from = active_set + get_or setting_offsets k 0 in
    let width = get_or setting_widths k 0 in
    let t = all_at 8 _ settings_covered k hk in
    let f = lane_in from width l hl (eqb-true _ _ (both_l _ _ t)) in
    within-place calm_ranges (setting_at active_set k l) (covered_in calm_ranges (range from (from + width - 1)) _ (both_r _ _ t) f.0 (omega arith))

within-active : (l : ℕ) → l < 8 → Within calm_ranges (active_of l)
unfolding active_of
within-active l h i b t = let f = any_find 8 (λ k. covers (setting_at active_set k l) i b) t in within-setting f.0 l f.1 h i b f.2

within-pending : (c : ℕ → Bool) → Within calm_ranges (pending_set c)
unfolding pending_set covered_by both either
within-pending c = within-lanes calm_ranges c (on page11 235) 1 refl refl

within-flag : (address : ℕ) (c : ℕ → Bool) → 134 ≤ address → address ≤ 153 → Within calm_ranges (flag_set address c)
unfolding flag_set covered_by both either
within-flag address c lo hi i b t =
    let k = lanes_bytes c (on page11 address) 1 i b refl t in covered_in calm_ranges (range_on page11 134 153) i refl (omega arith) (omega arith)

power_changed : (i : ℕ) → received_power ≤ i → i < received_power + 16 → in_ranges calm_ranges i ≡ true
unfolding covered_by both either
power_changed i a b = covered_in calm_ranges (range_on page11 186 201) i refl a (omega arith)

within-power : (l : ℕ) → l < 8 → Within calm_ranges (in_bytes (amid (received_power + 2 * l) (received_power + 2 * l + 2)))
unfolding in_bytes amid
within-power l h i b t =
    let lo : received_power + 2 * l ≤ i = leb-true _ _ (both_l _ _ t) in
    let hi : i < received_power + 2 * l + 2 = ltb-true _ _ (both_r _ _ t) in
    power_changed i (omega arith) (omega arith)

within-sample : (l : ℕ) → l < 8 → Within calm_ranges (sample_set l)
unfolding sample_set
within-sample l h = within_or calm_ranges _ _ (within-power l h)
    (within_or calm_ranges _ _
    (within_or calm_ranges _ _ (within-flag _ _ (omega arith) (omega arith)) (within-flag _ _ (omega arith) (omega arith)))
    (within_or calm_ranges _ _ (within-flag _ _ (omega arith) (omega arith)) (within-flag _ _ (omega arith) (omega arith))))

-- what lies within those lies within all

within_wider : (may : Bits) → Within calm_ranges may → Within changed_ranges may
unfolding in_ranges
within_wider may w i b e = either_i_r _ _ (either_i_r _ _ (w i b e))

-- lower 3.0
within_interrupt : Within changed_ranges interrupt_set
unfolding interrupt_set in_ranges both either
within_interrupt = within-place changed_ranges interrupt_bit refl

-- DPState
within-state : (c : ℕ → Bool) → Within changed_ranges (state_set c)
unfolding state_set covered_by both either
within-state c = within-lanes changed_ranges c (on page11 128) 4 refl refl

within_path : (g : ℕ) → Within changed_ranges (path_set g)
unfolding path_set
within_path g = within_or changed_ranges _ _ (within-state _) (within_or changed_ranges _ _ (within_wider _ (within-flag _ _ (omega arith) (omega arith))) (within_wider _ (within-pending _)))

within_module : Within changed_ranges module_set
unfolding module_set in_ranges both either
within_module = within_or changed_ranges _ _ (within-place changed_ranges module_state_bits refl) (within-place changed_ranges module_changed_bit refl)

-- ---- what a command may change besides

-- what an event may change where it runs a command, and where it runs none: a calm one, and any but a reset
unfoldable pub calm_if : Bool → List Range
calm_if true = range command_status command_status ∷ calm_ranges
calm_if false = calm_ranges

unfoldable changed_if : Bool → List Range
changed_if true = range command_status command_status ∷ changed_ranges
changed_if false = changed_ranges

within_calm : (t : Bool) (may : Bits) → Within calm_ranges may → Within (calm_if t) may
unfolding calm_if in_ranges
within_calm true may w i b e = either_i_r _ _ (w i b e)
within_calm false may w i b e = w i b e

within_if : (t : Bool) (may : Bits) → Within changed_ranges may → Within (changed_if t) may
unfolding changed_if in_ranges
within_if true may w i b e = either_i_r _ _ (w i b e)
within_if false may w i b e = w i b e

calm_wider : (t : Bool) (may : Bits) → Within (calm_if t) may → Within (changed_if t) may
unfolding calm_if changed_if in_ranges
calm_wider true may w i b e = elim (either_cases _ _ (w i b e)) [ inl h ↦ either_i_l _ _ h | inr h ↦ either_i_r _ _ (either_i_r _ _ (either_i_r _ _ h)) ]
calm_wider false may w i b e = within_wider may w i b e

-- the reply ends with page 9Fh
length-fits : (status : CommandStatus) → length_after status ≤ body_limit
unfolding length_after
length-fits (Success c) = reply-fits c
length-fits UnknownNumber = omega arith
length-fits WrongCode = omega arith

-- lower 37, the reply with its length and code, and lower 8.6
status_changed : (i : ℕ) → i ≡ command_status → in_ranges (calm_if true) i ≡ true
unfolding calm_if covered_by both either
status_changed i e = covered_in (calm_if true) (range command_status command_status) i refl (omega arith) (omega arith)

reply_changed : (i : ℕ) → reply_length ≤ i → i < image_length → in_ranges (calm_if true) i ≡ true
unfolding calm_if covered_by both either
reply_changed i a b = covered_in (calm_if true) (range reply_length (image_length - 1)) i refl a (omega arith)

within-complete : Within calm_ranges (covers command_complete_bit)
unfolding in_ranges both either
within-complete = within-place calm_ranges command_complete_bit refl

command_byte : (status : CommandStatus) → Within (calm_if true) (in_bytes (λ i. either (eqb i command_status) (amid reply_length (message_body + length_after status) i)))
unfolding calm_if in_bytes amid
command_byte status i b t = elim (either_cases _ _ t) [
  | inl e ↦ let k : i ≡ command_status = eqb-true i command_status e in status_changed i k
  | inr e ↦
      let lo : reply_length ≤ i = leb-true _ _ (both_l _ _ e) in
      let hi : i < message_body + length_after status = ltb-true _ _ (both_r _ _ e) in
      reply_changed i lo (omega (arith, length-fits status))
]

within_command : (status : CommandStatus) → Within (calm_if true) (command_set status)
unfolding command_set
within_command status = within_or (calm_if true) _ _ (command_byte status) (within_calm true _ within-complete)

within_end : (address n : ℕ) (x : Image) → Within (calm_if (runs_command address n x)) (end_set address n x)
unfolding end_set
within_end address n x i b t = rw (both_l _ _ t) (within_command (status_of x) i b (both_r _ _ t))

-- ---- calm events: all but resets, module events and hardware events

-- .. change bytes of the calm ranges, and lower 3.0
pub record Calm (runs : Bool) (x y : Image) : Type 0 where
  pub may : Bits
  pub within : Within (calm_if runs) may
  pub changes : ChangesOnly (or_in interrupt_set may) x y

unfoldable pub is_calm : List ℕ → Call → Bool
is_calm bytes (Write address count) = not (is_reset bytes (Write address count))
is_calm bytes (Read address count) = true
is_calm bytes (Work l) = true
is_calm bytes (Hardware l) = false
is_calm bytes (Condition flag mask) = true
is_calm bytes (Sample l p) = true
is_calm bytes (Lasting flag on off) = true
is_calm bytes Module = false
is_calm bytes (Line on) = true

calm : {x y : Image} (may : Bits) → Within calm_ranges may → ChangesOnly (or_in interrupt_set may) x y → Calm false x y
calm may w k = record { may = may; within = within_calm false may w; changes = k }

module _ (room : ℕ) (s : State) (bytes : List ℕ) where
  work_calm : (l : ℕ) (p : Progress) (v : Verdict) → l < 8 → stage_at s.working l ≡ Some p → p.verdict ≡ v
      → Calm false s.image (step_on room s (Work l) bytes).state.image
  work_calm l p (Reject code) h i v = calm _ (within-status _) (rejected_changes room s bytes l p h i code v)
  work_calm l p (Pass n) h i v = elim (dec_lt n 8) [
    | yes b ↦ calm _ (within-active n b) (copied_changes room s bytes l p h i n v b)
    | no b ↦ calm _ (within_or calm_ranges _ _ (within-status _) (within-pending _)) (passed_changes room s bytes l p h i n v (omega arith))
  ]

  stage_calm : (l : ℕ) (g : Option Progress) → stage_at s.working l ≡ g → is_in_progress g ≡ true → l < 8
      → Calm false s.image (step_on room s (Work l) bytes).state.image
  unfolding is_in_progress
  stage_calm l None i t h = absurd (clash t refl)
  stage_calm l (Some p) i t h = work_calm l p p.verdict h i refl

  write_calm : (address count : ℕ) → is_reset bytes (Write address count) ≡ false → (step_on room s (Write address count) bytes).answer ≡ Done
      → Calm (runs_command address count s.image) s.image (step_on room s (Write address count) bytes).state.image
  write_calm address count n d = record {
    may = _;
    within = within_or _ _ _ (within_calm _ _ (within_written _ _ _ _)) ends;
    changes = write_changes room s bytes address count d n;
  }
    where
      ends : Within (calm_if (runs_command address count s.image)) (end_set address count (stored_image s address count bytes))
      ends = rw (runs-stored room s bytes address count d) at (within_end address count (stored_image s address count bytes))

  pub call_calm : (c : Call) → is_calm bytes c ≡ true → (step_on room s c bytes).answer ≡ Done
      → Calm (runs_on s.image c) s.image (step_on room s c bytes).state.image
  unfolding runs_on is_calm
  call_calm (Write address count) n d = write_calm address count (not-true _ n) d
  call_calm (Read address count) n d = calm _ (within_cleared s.image address count) (read_changes room s bytes address count d)
  call_calm (Work l) n d = let r = work-on room s bytes l d in stage_calm l (stage_at s.working l) refl r.1 r.0
  call_calm (Hardware l) n d = absurd (clash n refl)
  call_calm (Condition flag mask) n d =
      let k = condition_in flag (is_listed room s bytes flag mask d) in
      calm _ (within-flag flag _ (omega arith) (omega arith)) (condition_changes room s bytes flag mask d)
  call_calm (Sample l p) n d = calm _ (within-sample l (is_lane_lem room s bytes l p d)) (sampled_changes room s bytes l p d)
  call_calm (Lasting flag on off) n d =
      let k = condition_in flag (lasting-listed room s bytes flag on off d) in
      calm _ (within-flag flag _ (omega arith) (omega arith)) (lasting_changes room s bytes flag on off d)
  call_calm Module n d = absurd (clash n refl)
  call_calm (Line on) n d = calm _ (λ i b t. absurd (clash t refl)) (keeps_left _ (line_changes room s bytes on d))

-- ---- every event but a reset

kept_by : (rs : List Range) (may : Bits) (x y : Image) → Within rs may → ChangesOnly may x y → Kept rs x y
kept_by rs may x y w k = record { size = k.size; others = λ i e. keeps_byte k i (λ b. unless (λ t. clash (w i b t) e)) }

kept_wider : (t : Bool) (x y : Image) → Kept (changed_if t) x y → Kept (range command_status command_status ∷ changed_ranges) x y
unfolding changed_if in_ranges
kept_wider true x y k = k
kept_wider false x y k = record { size = k.size; others = λ i o. k.others i (either_r _ _ o) }

kept_calm : (t : Bool) (x y : Image) → Calm t x y → Kept (changed_if t) x y
kept_calm t x y C = kept_by (changed_if t) _ x y (within_or _ _ _ (within_if t _ within_interrupt) (calm_wider t C.may C.within)) C.changes

-- an event that settles lower 3.0 and runs no command
kept_settled : (may : Bits) (x y : Image) → Within changed_ranges may → ChangesOnly (or_in interrupt_set may) x y → Kept changed_ranges x y
kept_settled may x y w k = kept_by changed_ranges _ x y (within_or changed_ranges _ _ within_interrupt w) k

module _ (room : ℕ) (s : State) (bytes : List ℕ) where
  call_kept : (c : Call) → is_reset bytes c ≡ false → (step_on room s c bytes).answer ≡ Done
      → Kept (changed_if (runs_on s.image c)) s.image (step_on room s c bytes).state.image
  unfolding runs_on changed_if is_calm
  call_kept (Write address count) n d = kept_calm _ _ _ (call_calm room s bytes (Write address count) (rw n) d)
  call_kept (Read address count) n d = kept_calm _ _ _ (call_calm room s bytes (Read address count) refl d)
  call_kept (Work l) n d = kept_calm _ _ _ (call_calm room s bytes (Work l) refl d)
  call_kept (Hardware l) n d = kept_settled _ _ _ (within_path _) (hardware_changes room s bytes l d)
  call_kept (Condition flag mask) n d = kept_calm _ _ _ (call_calm room s bytes (Condition flag mask) refl d)
  call_kept (Sample l p) n d = kept_calm _ _ _ (call_calm room s bytes (Sample l p) refl d)
  call_kept (Lasting flag on off) n d = kept_calm _ _ _ (call_calm room s bytes (Lasting flag on off) refl d)
  call_kept Module n d = kept_settled _ _ _ within_module (module_changes room s bytes d)
  call_kept (Line on) n d = kept_calm _ _ _ (call_calm room s bytes (Line on) refl d)

module _ (room : ℕ) (s : State) (e : Event) (n : is_reset e.bytes e.call ≡ false) where
  -- by every event, done or refused
  kept_if : Kept (changed_if (runs_on s.image e.call)) s.image (step early room s e).state.image
  unfolding is_done
  kept_if = split (is_done (step early room s e).answer)
      (λ t. call_kept room s e.bytes e.call n (done_is _ t))
      (λ t. rw (refused-step room s e (λ d. clash (ap is_done d) t)) (record { size = refl; others = λ i o. refl }))

  -- an event that runs no command changes no byte outside changedRanges
  pub step-kept-otherwise : runs_on s.image e.call ≡ false → Kept changed_ranges s.image (step early room s e).state.image
  unfolding changed_if
  step-kept-otherwise c = rw c at kept_if

  -- LOWER 37 is changed by a command alone, and by a reset
  pub status-kept : runs_on s.image e.call ≡ false → get_or (step early room s e).state.image command_status 0 ≡ get_or s.image command_status 0
  unfolding in_ranges both either
  status-kept c = (step-kept-otherwise c).others command_status refl

  -- any event changes no byte outside them but lower 37
  pub step_kept : Kept (range command_status command_status ∷ changed_ranges) s.image (step early room s e).state.image
  step_kept = kept_wider (runs_on s.image e.call) _ _ kept_if

-- ---- a reset

-- an event that asks for a reset: it is refused, or it leaves a fresh start
reset_call : (room : ℕ) (s : State) (bytes : List ℕ) (c : Call) → is_reset bytes c ≡ true → (step_on room s c bytes).answer ≡ Done
    → (step_on room s c bytes).state ≡ reset_state s
unfolding is_reset
reset_call room s bytes (Write address count) r d = write-resets room s bytes address count d r
reset_call room s bytes (Read address count) r d = absurd (clash r refl)
reset_call room s bytes (Work l) r d = absurd (clash r refl)
reset_call room s bytes (Hardware l) r d = absurd (clash r refl)
reset_call room s bytes (Condition flag mask) r d = absurd (clash r refl)
reset_call room s bytes (Sample l p) r d = absurd (clash r refl)
reset_call room s bytes (Lasting flag on off) r d = absurd (clash r refl)
reset_call room s bytes Module r d = absurd (clash r refl)
reset_call room s bytes (Line on) r d = absurd (clash r refl)

-- what every event keeps that resets nothing, and a fresh start has, every event keeps
pub event_keeps : (P : State → Type 0) (room : ℕ) (s : State) (e : Event) → P s → P (reset_state s)
    → (is_reset e.bytes e.call ≡ false → (step early room s e).answer ≡ Done → P (step early room s e).state) → P (step early room s e).state
unfolding is_done
event_keeps P room s e p fresh other = split (is_done (step early room s e).answer)
    (λ t. split (is_reset e.bytes e.call)
    (λ r. subst P (sym (reset_call room s e.bytes e.call r (done_is _ t))) fresh)
    (λ r. other r (done_is _ t)))
    (λ t. subst P (sym (refused-step room s e (λ d. clash (ap is_done d) t))) p)
