-- What is told of single events: the words of the theorems over the step.
use Rattle.std.specs.Prelude.{◌≡◌, Bool, true, false, not, List, [], ◌∷◌, ◌++◌, ◌⊎◌, ◌≢◌, ℕ, suc, ◌+◌, ◌-◌, ◌*◌, ◌≤◌, ◌<◌, eqb, leb, ltb, length, get_or, take, None, Some, Option}
use Rattle.bits.specs.Choice.{pick, only_if, both, either}
use Rattle.bits.specs.Loop.{Among}
use Rattle.bits.specs.Place.{get, digit, covers}
use Rattle.bits.specs.Sets.{has, next_in, lane_count, first_in}
use Rattle.model.specs.Map.{Image, staged_base, Range, range, range_on, in_ranges, writable_ranges, cleared_ranges, module_state, module_state_bits, module_changed_bit, low_pwr_allow_bit, low_pwr_request_bit, deinit_at, command_status, command_complete_bit, command_number, reply_length, reply_code, message_body, page11, on, active_set, output_disable_at, squelch_force_at, status_at, state_at, bank_select, page_select, writable, clearing, FlagPair, flag_pairs, lasting_index, pending_at, flag_at, state_changed_flag, received_power, high_alarm_limit, low_alarm_limit, high_warning_limit, low_warning_limit, high_alarm_flag, low_alarm_flag, high_warning_flag, low_warning_flag}
use Rattle.model.specs.PathStates.{code_of, resting}
use Rattle.model.specs.Records.{stage_at, on_at, on_lanes, is_in_progress, held_in, with_verdict}
use Rattle.model.specs.View.{view_of, settings_at}
use Rattle.model.specs.State.{State}
use Rattle.model.specs.Triggers.{is_marked, is_ignored}
use Rattle.model.specs.Work.{early, is_release, written_settings}
use Rattle.model.specs.Power.{module_code_of, is_module_state, is_low_power}
use Rattle.model.specs.Hardware.{is_state, is_initialized}
use Rattle.model.specs.Flags.{power, settled_image}
use Rattle.model.specs.Pages.{index_of}
use Rattle.model.specs.Commands.{body_limit, check_code, sum_of, length_of, reply_of, status_of, status_code, command_image}
use Rattle.model.specs.Access.{bytes_written_state, runs_command}
use Rattle.model.specs.Step.{event, Stepped, step}
use Rattle.model.specs.declared.event.Call.{Call}
use Rattle.model.specs.declared.event.Call.TheVariants.{Write, Read, Work, Hardware, Condition, Sample, Lasting, Module, Line}
use Rattle.model.specs.declared.command.Command.{Command}
use Rattle.model.specs.declared.command.CommandStatus.{CommandStatus}
use Rattle.model.specs.declared.command.CommandStatus.TheVariants.{Success, UnknownNumber, WrongCode}
use Rattle.model.specs.declared.lane.Trigger.{Trigger}
use Rattle.model.specs.declared.lane.StagedSet.{StagedSet}
use Rattle.model.specs.declared.lane.Trigger.TheVariants.{DpInit, Immediate}
use Rattle.model.specs.declared.lane.Verdict.TheVariants.{Pass}
use Rattle.model.specs.declared.lane.Progress.{Progress}
use Rattle.model.specs.declared.lane.Working.{Working}
use Rattle.model.specs.declared.path.PathState.{PathState}
use Rattle.model.specs.declared.path.PathState.TheVariants.{Deactivated, Activated, TxTurnOn, Initialized}
use Rattle.model.specs.declared.power.ModuleState.{ModuleState}
use Rattle.model.specs.declared.power.ModuleState.TheVariants.{LowPwr, Ready}
use Rattle.laws_frames.specs.Frames.{is_reset}
use Rattle.laws_step.specs.Changes.{Bits, or_in, in_bytes, status_set, state_set, flag_set, pending_set}

-- one event on a state; room is the length of the buffer that a read is lent, bytes are those that a write carries
abbrev pub step_on : ℕ → State → Call → List ℕ → Stepped
step_on room s c bytes = step early room s (event c bytes)

-- a flag bit that counts is 1 and its mask bit is 0
pub record UnmaskedFlag (x : Image) : Type 0 where
  pub pair : FlagPair
  pub listed : Among pair flag_pairs
  pub bit : ℕ
  pub is_bit : bit < 8
  pub counts : has pair.bits bit ≡ true
  pub is_set : digit x pair.flag bit ≡ 1
  pub is_unmasked : digit x pair.mask bit ≡ 0

-- byte i of the image is one of from .. to - 1
unfoldable pub amid : ℕ → ℕ → ℕ → Bool
amid from to i = both (leb from i) (ltb i to)

-- the bytes that a read of n bytes from an address clears: of lower 8-9 and 11h:134-153 those that it reads
unfoldable pub cleared_by : Image → ℕ → ℕ → Bits
cleared_by x address n = in_bytes (λ i. both (clearing i) (amid (index_of x address) (index_of x address + n) i))

-- the flag bytes whose flags can last
abbrev pub lasting_ranges : List Range
lasting_ranges = range_on page11 135 138 ∷ range_on page11 147 152 ∷ []

-- what is on for a byte that a read clears: of such a flag byte the lanes whose flag is on, of any other nothing
unfoldable pub on_byte : Working → ℕ → ℕ
on_byte w i = pick (in_ranges lasting_ranges i) (on_lanes w (lasting_index (128 + (i - page11)))) 0

-- lane l is marked by a trigger
unfoldable pub marks : Trigger → StagedSet → State → ℕ → ℕ → Bool
marks t set s selected l = both (not (is_ignored t s.image)) (is_marked (view_of (staged_base set) s.image) s.working selected l)

-- the stage that it leaves lane l at: in progress, by that trigger, from that staged set, with that set's settings of the lane
pub record MarkedFrom (t : Trigger) (staged : StagedSet) (s : State) (l : ℕ) (after : Option Progress) : Type 0 where
  pub its : Progress
  pub stage : after ≡ Some its
  pub trigger : its.trigger ≡ t
  pub set : its.set ≡ staged
  pub held : its.held ≡ settings_at (staged_base staged) s.image l

-- ---- writes

-- lane l was idle and is in progress: a trigger has marked it
unfoldable pub newly_marked : Working → Working → ℕ → Bool
newly_marked before after l = both (not (is_in_progress (stage_at before l))) (is_in_progress (stage_at after l))

-- the bytes that a write to the places from .. to - 1 may change: the writable ones among them, and 126 and 127 where 127 is among them
unfoldable pub written_bytes : ℕ → ℕ → ℕ → Bool
written_bytes from to i = either (both (writable i) (amid from to i)) (both (amid from to page_select) (either (eqb i bank_select) (eqb i page_select)))

-- .. and ConfigStatus of the lanes that it marks
unfoldable pub write_set : ℕ → ℕ → Working → Working → Bits
write_set from to before after = or_in (in_bytes (written_bytes from to)) (status_set (newly_marked before after))

-- a page that a host may select: 00h, 01h or 02h, or 10h, 11h or 9Fh in bank 0
unfoldable pub is_supported : ℕ → ℕ → Bool
is_supported bank page = either (ltb page 3) (both (eqb bank 0) (either (eqb page 0x10) (either (eqb page 0x11) (eqb page 0x9f))))

-- the bank when a write from an address comes to 127: the byte that it has written to 126, or what 126 held where it begins at 127
unfoldable pub bank_at : Image → ℕ → List ℕ → ℕ
bank_at before address bytes = pick (leb address bank_select) (get_or bytes (bank_select - address) 0) (get_or before bank_select 0)

-- the page rule for a byte v written to 127 in a bank: a page that is supported is kept in 127 and 126 holds the bank, and any other resets both
pub record PageRule (bank v : ℕ) (after : Image) : Type 0 where
  pub supported : is_supported bank v ≡ true → (get_or after page_select 0 ≡ v) × (get_or after bank_select 0 ≡ bank)
  pub otherwise : is_supported bank v ≡ false → (get_or after page_select 0 ≡ 0) × (get_or after bank_select 0 ≡ 0)

-- ---- command messages

-- how long the reply to a message is: none where it failed
unfoldable pub length_after : CommandStatus → ℕ
length_after (Success c) = length_of c
length_after UnknownNumber = 0
length_after WrongCode = 0

-- its check code: 0 where there is no reply
unfoldable pub code_after : Image → CommandStatus → ℕ
code_after x (Success c) = check_code (sum_of (length_of c) (reply_of x c))
code_after x UnknownNumber = 0
code_after x WrongCode = 0

-- what a message of this status may change: lower 37, lower 8.6, and 9Fh:134, 135 and the reply from 136 on
unfoldable pub command_set : CommandStatus → Bits
command_set status =
    or_in (in_bytes (λ i. either (eqb i command_status) (amid reply_length (message_body + length_after status) i))) (covers command_complete_bit)

-- a message has got its status: lower 37 and 8.6 tell it, 134 and 135 its reply's length and code, the reply stands from 136 on, and 128-133 and what lies
-- past the reply are as they were
pub record CommandTold (status : CommandStatus) (before after : Image) : Type 0 where
  pub code : get_or after command_status 0 ≡ status_code status
  pub complete : get after command_complete_bit ≡ 1
  pub length_of_reply : get_or after reply_length 0 ≡ length_after status
  pub code_of_reply : get_or after reply_code 0 ≡ code_after before status
  pub reply : (c : Command) → status ≡ Success c → (k : ℕ) → k < length_of c → get_or after (message_body + k) 0 ≡ reply_of before c k
  pub message : (i : ℕ) → command_number ≤ i → i < reply_length → get_or after i 0 ≡ get_or before i 0
  pub rest : (k : ℕ) → length_after status ≤ k → k < body_limit → get_or after (message_body + k) 0 ≡ get_or before (message_body + k) 0

-- the image that holds the bytes of a write, before its end
abbrev pub stored_image : State → ℕ → ℕ → List ℕ → Image
stored_image s address count bytes = (bytes_written_state address (take count bytes) s).image

-- .. and after it
unfoldable pub ended_image : ℕ → ℕ → Image → Image
ended_image address n x = only_if (runs_command address n x) command_image x

-- what the end of a write may change: what a command changes, where it runs one
unfoldable pub end_set : ℕ → ℕ → Image → Bits
end_set address n x i b = both (runs_command address n x) (command_set (status_of x) i b)

-- a call that runs a command
unfoldable pub runs_on : Image → Call → Bool
runs_on x (Write address count) = runs_command address count x
runs_on x (Read address count) = false
runs_on x (Work l) = false
runs_on x (Hardware l) = false
runs_on x (Condition flag mask) = false
runs_on x (Sample l p) = false
runs_on x (Lasting flag on off) = false
runs_on x Module = false
runs_on x (Line on) = false

-- ---- work steps

-- the state after a work step on a lane
abbrev pub worked : ℕ → State → List ℕ → ℕ → State
worked room s bytes l = (step_on room s (Work l) bytes).state

-- a group has closed with a status: its lanes show it and are idle, and every other lane keeps its record
pub record Closed (g code : ℕ) (before after : State) : Type 0 where
  pub status : (m : ℕ) → m < lane_count → has g m ≡ true → get after.image (status_at m) ≡ code
  pub idle : (m : ℕ) → m < lane_count → has g m ≡ true → stage_at after.working m ≡ None
  pub others : (m : ℕ) → m < lane_count → has g m ≡ false → stage_at after.working m ≡ stage_at before.working m

-- DPInitPending of a lane whose group closes: a release clears it, else ApplyDPInit sets it and ApplyImmediate leaves it
unfoldable pub pending_then : Bool → Trigger → ℕ → ℕ
pending_then true t before = 0
pending_then false DpInit before = 1
pending_then false Immediate before = before

-- lane n, one of a group, was copied: its active settings are what copying writes of its held ones, the group's next lane is the following one of the group
-- (the lane count where there is none), and every other lane keeps its record
pub record CopiedLane (g n : ℕ) (before after : State) : Type 0 where
  pub member : has g n ≡ true
  pub settings : settings_at active_set after.image n ≡ written_settings (held_in (stage_at before.working n))
  pub next : (m : ℕ) → m < lane_count → has g m ≡ true
      → stage_at after.working m ≡ with_verdict (stage_at before.working m) (Pass (next_in lane_count g (suc n)))
  pub others : (m : ℕ) → m < lane_count → has g m ≡ false → stage_at after.working m ≡ stage_at before.working m

-- a work step on the lane is the closing step of an ApplyImmediate that reaches the hardware: every lane of its group is copied, it is no release, and
-- its state is DPInitialized or DPActivated
pub record Commissions (s : State) (lane : ℕ) (p : Progress) : Type 0 where
  pub next : ℕ
  pub in_progress : stage_at s.working lane ≡ Some p
  pub passes : p.verdict ≡ Pass next
  pub all_copied : lane_count ≤ next
  pub immediate : p.trigger ≡ Immediate
  pub no_release : is_release s.working p.group ≡ false
  pub reached : (get s.image (state_at (first_in p.group)) ≡ code_of Initialized) ⊎ (get s.image (state_at (first_in p.group)) ≡ code_of Activated)

-- ---- events of the hardware

-- what a hardware event on a path may change: DPState, DPStateChanged and DPInitPending of the path's lanes
unfoldable pub path_set : ℕ → Bits
path_set g = or_in (state_set (has g)) (or_in (flag_set state_changed_flag (has g)) (pending_set (has g)))

-- the path g went from a state to the next: its lanes show it, entering a resting state sets their DPStateChanged flags, and DPInitialized reached from
-- DPInit clears their DPInitPending bits; a path that stays changes nothing
pub record PathMoved (g : ℕ) (from to : PathState) (before after : Image) : Type 0 where
  pub states : (m : ℕ) → m < lane_count → has g m ≡ true → get after (state_at m) ≡ pick (is_state from to) (get before (state_at m)) (code_of to)
  pub flags : (m : ℕ) → m < lane_count → has g m ≡ true
      → get after (flag_at state_changed_flag m) ≡ pick (both (not (is_state from to)) (resting to)) 1 (get before (flag_at state_changed_flag m))
  pub pendings : (m : ℕ) → m < lane_count → has g m ≡ true
      → get after (pending_at m) ≡ pick (both (not (is_state from to)) (is_initialized from to)) 0 (get before (pending_at m))

-- a lane of the path g whose output is to be dark: its OutputDisableTx or OutputSquelchForceTx bit is 1
pub record MutedLane (x : Image) (g : ℕ) : Type 0 where
  pub lane : ℕ
  pub is_lane : lane < lane_count
  pub is_on_path : has g lane ≡ true
  pub is_muted : (get x (output_disable_at lane) ≡ 1) ⊎ (get x (squelch_force_at lane) ≡ 1)

-- the states in which a path's light is on or comes on
unfoldable pub shines : PathState → Bool
shines state = either (is_state state TxTurnOn) (is_state state Activated)

-- what a sample of lane l may change: its two bytes of received power and its four flags
unfoldable pub sample_set : ℕ → Bits
sample_set l =
    or_in (in_bytes (amid (received_power + 2 * l) (received_power + 2 * l + 2)))
    (or_in (or_in (flag_set high_alarm_flag (eqb l)) (flag_set low_alarm_flag (eqb l))) (or_in (flag_set high_warning_flag (eqb l)) (flag_set low_warning_flag (eqb l))))

-- a power of lane l was stored, and each of its flags is set if the power is past the limit, else left
pub record PowerTold (l p : ℕ) (before after : Image) : Type 0 where
  pub stored : power after (received_power + 2 * l) ≡ p
  pub above_alarm : get after (flag_at high_alarm_flag l) ≡ pick (ltb (power before high_alarm_limit) p) 1 (get before (flag_at high_alarm_flag l))
  pub below_alarm : get after (flag_at low_alarm_flag l) ≡ pick (ltb p (power before low_alarm_limit)) 1 (get before (flag_at low_alarm_flag l))
  pub above_warning : get after (flag_at high_warning_flag l) ≡ pick (ltb (power before high_warning_limit) p) 1 (get before (flag_at high_warning_flag l))
  pub below_warning : get after (flag_at low_warning_flag l) ≡ pick (ltb p (power before low_warning_limit)) 1 (get before (flag_at low_warning_flag l))

-- ---- what is on

-- the flags of lane l that are on after a lasting condition: of the flag byte, the flag goes on unless its bit is in the off mask, and comes on where its bit
-- is in the on mask; of every other flag byte it is as it was
pub record LastingTold (flag on off l : ℕ) (before after : Working) : Type 0 where
  pub named : has (on_at after l) (lasting_index flag) ≡ either (both (has (on_at before l) (lasting_index flag)) (not (has off l))) (has on l)
  pub others : (k : ℕ) → k ≢ lasting_index flag → has (on_at after l) k ≡ has (on_at before l) k

-- the flags of lane l that are on after a sample of it: of received power those whose limits it passes; the others are as they were
pub record SampleOn (l p : ℕ) (x : Image) (before after : Working) : Type 0 where
  pub above_alarm : has (on_at after l) (lasting_index high_alarm_flag) ≡ ltb (power x high_alarm_limit) p
  pub below_alarm : has (on_at after l) (lasting_index low_alarm_flag) ≡ ltb p (power x low_alarm_limit)
  pub above_warning : has (on_at after l) (lasting_index high_warning_flag) ≡ ltb (power x high_warning_limit) p
  pub below_warning : has (on_at after l) (lasting_index low_warning_flag) ≡ ltb p (power x low_warning_limit)
  pub others : (k : ℕ) → (k < lasting_index high_alarm_flag) ⊎ (lasting_index low_warning_flag < k) → has (on_at after l) k ≡ has (on_at before l) k

-- a call that may change what is on for lane l: a lasting condition, a sample of the lane, and a write that resets the module
unfoldable pub may_turn : List ℕ → Call → ℕ → Bool
may_turn bytes (Write address count) l = is_reset bytes (Write address count)
may_turn bytes (Read address count) l = false
may_turn bytes (Work m) l = false
may_turn bytes (Hardware m) l = false
may_turn bytes (Condition flag mask) l = false
may_turn bytes (Sample m p) l = eqb m l
may_turn bytes (Lasting flag on off) l = true
may_turn bytes Module l = false
may_turn bytes (Line on) l = false

-- ---- the module's power

-- what a module event may change: the module's state, lower 3.3-1, and lower 8.0
unfoldable pub module_set : Bits
module_set = or_in (covers module_state_bits) (covers module_changed_bit)

-- the module went from a state to the next: lower 3 shows it, and 8.0 is set where entering it is flagged; a module that stays changes nothing
pub record ModuleMoved (from to : ModuleState) (flagged : Bool) (before after : Image) : Type 0 where
  pub state : get after module_state_bits ≡ pick (is_module_state from to) (get before module_state_bits) (module_code_of to)
  pub flag : get after module_changed_bit ≡ pick (both (not (is_module_state from to)) flagged) 1 (get before module_changed_bit)

-- why 8.0 is set: ModuleReady was entered, or ModuleLowPwr while LowPwrS holds
pub data ChangeFlagged (line : Bool) (before after : Image) : Type 0 where
  entered_ready : get before module_state_bits ≢ module_code_of Ready → get after module_state_bits ≡ module_code_of Ready → ChangeFlagged line before after
  entered_low_pwr : get before module_state_bits ≢ module_code_of LowPwr → get after module_state_bits ≡ module_code_of LowPwr → is_low_power line before ≡ true
      → ChangeFlagged line before after

-- why LowPwrS holds: the host asks for low power, or it allows the low-power line to ask and the line is on
pub data LowPowerAsked (line : Bool) (x : Image) : Type 0 where
  by_software : get x low_pwr_request_bit ≡ 1 → LowPowerAsked line x
  by_line : get x low_pwr_allow_bit ≡ 1 → line ≡ true → LowPowerAsked line x

-- why the path g is to be taken down, S: the module is not in ModuleReady, LowPwrS holds, or a lane of the path has its DPDeinit bit
pub data TakenDown (line : Bool) (x : Image) (g : ℕ) : Type 0 where
  not_ready : get x module_state_bits ≢ module_code_of Ready → TakenDown line x g
  low_power : is_low_power line x ≡ true → TakenDown line x g
  by_host : (lane : ℕ) → lane < lane_count → has g lane ≡ true → get x (deinit_at lane) ≡ 1 → TakenDown line x g

-- the module is in one of its four states, and dark in every one of them but ModuleReady: all lanes are DPDeactivated
pub record DarkBelowReady (x : Image) : Type 0 where
  pub least : 1 ≤ get x module_state_bits
  pub most : get x module_state_bits ≤ 4
  pub dark : get x module_state_bits ≢ module_code_of Ready → (l : ℕ) → l < lane_count → get x (state_at l) ≡ code_of Deactivated

-- ---- every event

-- every byte that an event may change, commands, resets, module and hardware events aside: what hosts write, what reads clear (lower 8-9, 11h:134-153),
-- 126-127, received power, ConfigStatus, the active settings (11h:215-216 hold none), DPInitPending
abbrev pub calm_ranges : List Range
calm_ranges =
    writable_ranges ++ cleared_ranges
    ++ (range bank_select page_select ∷ range_on page11 186 201 ∷ range_on page11 202 205 ∷ range_on page11 206 214 ∷ range_on page11 217 234 ∷ range_on page11 235 235 ∷ [])

-- .. commands and resets aside: lower 3 and DPState besides
abbrev pub changed_ranges : List Range
changed_ranges = range module_state module_state ∷ range_on page11 128 131 ∷ calm_ranges

-- the length and every byte outside the ranges are as they were
pub record Kept (changed : List Range) (before after : Image) : Type 0 where
  pub size : length after ≡ length before
  pub others : (i : ℕ) → in_ranges changed i ≡ false → get_or after i 0 ≡ get_or before i 0

-- 11h:215-216, which stay 0
abbrev pub Reserved : ℕ → Type 0
Reserved i = (i ≡ on page11 215) ⊎ (i ≡ on page11 216)

-- lower 3.0 is as it should be: settling it changes nothing
abbrev pub Settled : Image → Type 0
Settled x = settled_image x ≡ x
