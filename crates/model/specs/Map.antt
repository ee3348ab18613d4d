-- The register map: every address once, by name (01 "The module we ship"; 002 chapter 8). A register is named by its index in the image; where a host names
-- it by its address on a page, its name ends in Flag.
use Rattle.std.specs.Prelude.{◌+◌, ◌-◌, ◌*◌, ◌/◌, Bool, true, false, List, [], ◌∷◌, map, eqb, leb, length, get_or, None, Some, Option}
use Prim.Native.String.{String}
use Rattle.bits.specs.Choice.{pick, both, either}
use Rattle.bits.specs.Lane.{lane_field}
use Rattle.bits.specs.Loop.{tab}
use Rattle.bits.specs.Sets.{Lane}
use Rattle.model.specs.Numbers.{Byte, Bytes, Count, Index, Address, FlagIndex, SettingIndex}
use Rattle.model.specs.declared.lane.Trigger.TheVariants.{DpInit, Immediate}
use Rattle.model.specs.declared.lane.StagedSet.{StagedSet}
use Rattle.model.specs.declared.lane.StagedSet.TheVariants.{Set0, Set1}
use Rattle.model.specs.declared.lane.Apply.{Apply}
use Rattle.bits.specs.declared.Place.{Place}

-- the lent image (01, 02 Req 01): lower memory and six pages of 128 bytes
abbrev pub Image : Type 0
Image = Bytes

abbrev pub image_length : Count
image_length = 896

-- the bytes of lower memory, and of a page
abbrev pub page_length : Count
page_length = 128

-- where each page's upper bytes start in the image
abbrev pub page00 : Index
page00 = 128

abbrev pub page01 : Index
page01 = 256

abbrev pub page02 : Index
page02 = 384

abbrev pub page10 : Index
page10 = 512

abbrev pub page11 : Index
page11 = 640

abbrev pub page9_f : Index
page9_f = 768

-- the index in the image of address a, 128 to 255, of a page
abbrev pub on : Index → Address → Index
on page a = page + (a - 128)

-- ---- lower memory

-- 2.7 MemoryModel: flat where 1 (002 table 8-5)
abbrev pub flat_bit : Place
flat_bit = record { byte = 2; shift = 7; width = 1 }

-- 2.6 SteppedConfigOnly: no ApplyImmediate where 1 (002 table 8-5)
abbrev pub stepped_bit : Place
stepped_bit = record { byte = 2; shift = 6; width = 1 }

-- byte 3: the module's state in bits 3-1, and in bit 0 InterruptDeasserted (002 tables 8-6 and 8-7)
abbrev pub module_state : Index
module_state = 3

abbrev pub module_state_bits : Place
module_state_bits = record { byte = module_state; shift = 1; width = 3 }

abbrev pub interrupt_bit : Place
interrupt_bit = record { byte = module_state; shift = 0; width = 1 }

-- 8: the module's own flags, and 31: their masks (002 tables 8-9 and 8-12)
abbrev pub module_flags : Index
module_flags = 8

abbrev pub module_masks : Index
module_masks = 31

-- 8.0 ModuleStateChangedFlag: the module has come to ModuleReady, or to ModuleLowPwr to stay
abbrev pub module_changed_bit : Place
module_changed_bit = record { byte = module_flags; shift = 0; width = 1 }

-- 8.6 CdbCmdCompleteFlag1: a command message was carried out or failed
abbrev pub command_complete_bit : Place
command_complete_bit = record { byte = module_flags; shift = 6; width = 1 }

-- 26: controls of the whole module, among them LowPwrAllowRequestHW, LowPwrRequestSW and SoftwareReset (002 table 8-11)
abbrev pub module_controls : Index
module_controls = 26

abbrev pub low_pwr_allow_bit : Place
low_pwr_allow_bit = record { byte = module_controls; shift = 6; width = 1 }

abbrev pub low_pwr_request_bit : Place
low_pwr_request_bit = record { byte = module_controls; shift = 4; width = 1 }

abbrev pub software_reset_bit : Place
software_reset_bit = record { byte = module_controls; shift = 3; width = 1 }

-- 37 CdbStatus1: what became of the last command message (002 table 8-13)
abbrev pub command_status : Index
command_status = 37

-- 39, 40: the version of the firmware that runs, major and minor (002 table 8-15)
abbrev pub firmware_major : Index
firmware_major = 39

abbrev pub firmware_minor : Index
firmware_minor = 40

-- 86 on: the descriptors of Applications 1 to 8, four bytes each (002 table 8-23)
abbrev pub descriptors : Index
descriptors = 86

-- 126 BankSelect, 127 PageSelect (002 section 8.2.15)
abbrev pub bank_select : Index
bank_select = 126

abbrev pub page_select : Index
page_select = 127

-- ---- page 01h: limits of the signal integrity settings (002 table 8-49)

-- 153: input EQ limit in bits 3-0, amplitude codes supported in 7-4
abbrev pub equalizer_limit : Place
equalizer_limit = record { byte = on page01 153; shift = 0; width = 4 }

abbrev pub amplitude_support : Place
amplitude_support = record { byte = on page01 153; shift = 4; width = 4 }

-- 154: pre-cursor limit in bits 3-0, post-cursor limit in 7-4
abbrev pub pre_limit : Place
pre_limit = record { byte = on page01 154; shift = 0; width = 4 }

abbrev pub post_limit : Place
post_limit = record { byte = on page01 154; shift = 4; width = 4 }

-- ---- page 01h: the list of Applications goes on

-- 223 on: the descriptors of Applications 9 to 15, four bytes each (002 table 8-59)
abbrev pub more_descriptors : Index
more_descriptors = on page01 223

-- ---- page 02h: received power limits, two bytes each, in 0.1 µW (002 table 8-63)
abbrev pub high_alarm_limit : Index
high_alarm_limit = on page02 192

abbrev pub low_alarm_limit : Index
low_alarm_limit = on page02 194

abbrev pub high_warning_limit : Index
high_warning_limit = on page02 196

abbrev pub low_warning_limit : Index
low_warning_limit = on page02 198

-- ---- page 10h: controls

-- 128: DPDeinit, a bit a lane (002 table 8-68)
abbrev pub deinit_at : Lane → Place
deinit_at l = lane_field (on page10 128) 1 l

-- 130 OutputDisableTx, 132 OutputSquelchForceTx: a bit a lane that mutes its output (002 table 8-69)
abbrev pub output_disable_at : Lane → Place
output_disable_at l = lane_field (on page10 130) 1 l

abbrev pub squelch_force_at : Lane → Place
squelch_force_at l = lane_field (on page10 132) 1 l

-- 145 on: Staged Control Set 0 (002 tables 8-71 to 8-74)
abbrev pub staged_address : Address
staged_address = 145

abbrev pub staged_set0 : Index
staged_set0 = on page10 staged_address

-- 180 on: Staged Control Set 1, laid out as set 0, 35 addresses above it (02 Req 11; 002 tables 8-77 to 8-80)
abbrev pub staged_set1 : Index
staged_set1 = on page10 (staged_address + 35)

abbrev pub staged_base : StagedSet → Index
staged_base Set0 = staged_set0
staged_base Set1 = staged_set1

-- 143, 144 and 178, 179: the triggers of the two sets (002 tables 8-70 and 8-76)
abbrev pub apply_dpinit0 : Index
apply_dpinit0 = on page10 143

abbrev pub apply_immediate0 : Index
apply_immediate0 = on page10 144

abbrev pub apply_dpinit1 : Index
apply_dpinit1 = on page10 178

abbrev pub apply_immediate1 : Index
apply_immediate1 = on page10 179

-- a trigger: its place, and what a write there asks for
pub record TriggerRow : Type 0 where
  pub place : Index
  pub apply : Apply

abbrev pub triggers : List TriggerRow
triggers =
    record { place = apply_dpinit0; apply = record { trigger = DpInit; set = Set0 } }
    ∷ record { place = apply_immediate0; apply = record { trigger = Immediate; set = Set0 } }
    ∷ record { place = apply_dpinit1; apply = record { trigger = DpInit; set = Set1 } }
    ∷ record { place = apply_immediate1; apply = record { trigger = Immediate; set = Set1 } }
    ∷ []

-- what a place is to the triggers of a list, and to the module's
unfoldable pub find_trigger : List TriggerRow → Index → Option Apply
find_trigger [] i = None
find_trigger (row ∷ rows) i = pick (eqb i row.place) (Some row.apply) (find_trigger rows i)

unfoldable pub trigger_at : Index → Option Apply
trigger_at i = find_trigger triggers i

unfoldable pub is_trigger : Option Apply → Bool
is_trigger None = false
is_trigger (Some a) = true

-- 213 on: the masks, one for each flag byte, 79 above it (01; 002 table 8-81)
abbrev pub flag_masks : Index
flag_masks = on page10 213

-- ---- page 11h: status

-- 128-131: DPState, a nibble a lane (002 table 8-83)
abbrev pub state_bytes : Index
state_bytes = on page11 128

abbrev pub state_at : Lane → Place
state_at l = lane_field state_bytes 4 l

-- 134-153: the flag bytes, a bit a lane (002 tables 8-86 to 8-88)
abbrev pub flag_bytes : Index
flag_bytes = on page11 134

abbrev pub flag_byte_count : Count
flag_byte_count = 20

-- a flag byte, the byte that masks it bit by bit, and which of its bits count
pub record FlagPair : Type 0 where
  pub flag : Index
  pub mask : Index
  pub bits : Byte

-- lower 8.6 and 8.0 with their masks 31.6 and 31.0, no other bit of the two (02 Req 01, Req 04)
abbrev pub module_pair : FlagPair
module_pair = record { flag = module_flags; mask = module_masks; bits = 0x41 }

-- the flags that may pull the interrupt, with their masks: those of the module, and every bit of 11h:134-153 (01 "Host accesses")
abbrev pub flag_pairs : List FlagPair
flag_pairs = module_pair ∷ tab flag_byte_count (λ k. record { flag = flag_bytes + k; mask = flag_masks + k; bits = 0xff })

-- a lane's bit of the flag byte at an address of page 11h
abbrev pub flag_at : Address → Lane → Place
flag_at address l = lane_field (on page11 address) 1 l

-- the flag bytes that events set, by their address on 11h: DPStateChanged, and the four of received power
abbrev pub state_changed_flag : Address
state_changed_flag = 134

abbrev pub high_alarm_flag : Address
high_alarm_flag = 149

abbrev pub low_alarm_flag : Address
low_alarm_flag = 150

abbrev pub high_warning_flag : Address
high_warning_flag = 151

abbrev pub low_warning_flag : Address
low_warning_flag = 152

-- the flags that can last while their cause does (02 Req 02; 002 section 8.1.4.2), counted from 0: 135 to 138, FailureTx, LOSTx, CDRLOLTx and
-- AdaptiveInputEqFailTx, are 0 to 3; 147 to 152, LOSRx, CDRLOLRx and the four of received power, are 4 to 9
abbrev pub lasting_count : Count
lasting_count = 10

abbrev pub lasting_flag : FlagIndex → Address
lasting_flag k = 135 + k + 8 * ((k + 4) / 8)

abbrev pub lasting_index : Address → FlagIndex
lasting_index address = address - 135 - 8 * ((address - 135) / 12)

-- 186 on: received power, two bytes a lane (002 table 8-89)
abbrev pub received_power : Index
received_power = on page11 186

-- 202-205: ConfigStatus, a nibble a lane (002 table 8-90)
abbrev pub status_bytes : Index
status_bytes = on page11 202

abbrev pub status_at : Lane → Place
status_at l = lane_field status_bytes 4 l

-- 206 on: the active settings, laid out as the staged sets, 61 addresses above set 0 and 26 above set 1 (01 "Work step"; 002 tables 8-93 to 8-95)
abbrev pub active_set : Index
active_set = on page11 (staged_address + 61)

-- 235: DPInitPending, a bit a lane (002 table 8-96)
abbrev pub pending_byte : Index
pending_byte = on page11 235

abbrev pub pending_at : Lane → Place
pending_at l = lane_field pending_byte 1 l

-- ---- page 9Fh: command messages (002 section 8.23, tables 8-178 to 8-180)

-- 128-129: the command's number, the high byte first; a write of its low byte runs the command
abbrev pub command_number : Index
command_number = on page9_f 128

abbrev pub run_address : Address
run_address = 129

-- 132: how many bytes of the body are the command's
abbrev pub body_length : Index
body_length = on page9_f 132

-- 133: the check code of the message
abbrev pub message_code : Index
message_code = on page9_f 133

-- 134, 135: how long the reply is, and its check code
abbrev pub reply_length : Index
reply_length = on page9_f 134

abbrev pub reply_code : Index
reply_code = on page9_f 135

-- 136-255: the body of a message, and then of its reply
abbrev pub body_address : Address
body_address = 136

abbrev pub message_body : Index
message_body = on page9_f body_address

-- ---- the settings of a set

-- a setting of a lane: its name in 002, where its bytes begin in a set, and its width in bits
pub record Setting : Type 0 where
  pub name : String
  pub offset : Count
  pub width : Count

abbrev pub setting : String → Count → Count → Setting
setting name offset width = record { name = name; offset = offset; width = width }

abbrev pub settings : List Setting
settings =
    setting "DPConfig" 0 8
    ∷ setting "AdaptiveInputEqEnableTx" 8 1
    ∷ setting "FixedInputEqTargetTx" 11 4
    ∷ setting "CDREnableTx" 15 1
    ∷ setting "CDREnableRx" 16 1
    ∷ setting "OutputEqPreCursorTargetRx" 17 4
    ∷ setting "OutputEqPostCursorTargetRx" 21 4
    ∷ setting "OutputAmplitudeTargetRx" 25 4
    ∷ []

abbrev pub setting_count : Count
setting_count = length settings

-- the bytes from a set's base to its last setting's end
abbrev pub set_length : Count
set_length = 29

abbrev pub setting_offsets : List Count
setting_offsets = map (λ row. row.offset) settings

abbrev pub setting_widths : List Count
setting_widths = map (λ row. row.width) settings

-- the place of lane l's setting k in the set at a base
unfoldable pub setting_at : Index → SettingIndex → Lane → Place
setting_at base k l = lane_field (base + get_or setting_offsets k 0) (get_or setting_widths k 0) l

-- ---- what the host and start may do where

-- a range of the image, both ends included
pub record Range : Type 0 where
  pub from : Index
  pub to : Index

abbrev pub range : Index → Index → Range
range a b = record { from = a; to = b }

-- addresses a to b of a page
abbrev pub range_on : Index → Address → Address → Range
range_on page a b = record { from = on page a; to = on page b }

unfoldable pub in_ranges : List Range → Index → Bool
in_ranges [] i = false
in_ranges (r ∷ rs) i = either (both (leb r.from i) (leb i r.to)) (in_ranges rs i)

-- bytes that keep what is written to them, lower 26 all but SoftwareReset (02 Req 04); 127 has a rule of its own besides (01 "Host accesses")
abbrev pub writable_ranges : List Range
writable_ranges =
    range module_controls module_controls ∷ range 31 36 ∷ range bank_select bank_select ∷ range_on page10 128 132 ∷ range_on page10 137 139 ∷ range_on page10 145 153
    ∷ range_on page10 156 173 ∷ range_on page10 180 188 ∷ range_on page10 191 208 ∷ range_on page10 213 232 ∷ range_on page9_f 128 255 ∷ []

unfoldable pub writable : Index → Bool
writable = in_ranges writable_ranges

-- bytes that a read clears (01 "Host accesses")
abbrev pub cleared_ranges : List Range
cleared_ranges = range 8 9 ∷ range_on page11 134 153 ∷ []

unfoldable pub clearing : Index → Bool
clearing = in_ranges cleared_ranges

-- bytes that start keeps (01 "Start")
abbrev pub kept_ranges : List Range
kept_ranges = range 0 2 ∷ range 39 40 ∷ range 85 117 ∷ range_on page00 128 255 ∷ range_on page01 128 255 ∷ range_on page02 128 255 ∷ []

unfoldable pub kept : Index → Bool
kept = in_ranges kept_ranges
