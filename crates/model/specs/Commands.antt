-- Command messages on page 9Fh: which are known, when a message is right, and what a command leaves (02 Req 01; 002 section 8.23 and chapter 9).
use Rattle.std.specs.Prelude.{ℕ, zero, suc, ◌+◌, ◌*◌, ◌-◌, ◌%◌, Bool, true, List, [], ◌∷◌, eqb, leb, get_or, set}
use Rattle.bits.specs.Choice.{pick, both}
use Rattle.bits.specs.Loop.{each, any_of}
use Rattle.bits.specs.Place.{put}
use Rattle.bits.specs.Sets.{mask_of}
use Rattle.bits.specs.Word.{word}
use Rattle.model.specs.Numbers.{Byte, Count, Address, Code, CommandNumber}
use Rattle.model.specs.Map.{Image, command_complete_bit, command_status, firmware_major, firmware_minor, command_number, body_length, message_code, reply_length, reply_code, body_address, message_body}
use Rattle.model.specs.declared.command.Command.{Command}
use Rattle.model.specs.declared.command.Command.TheVariants.{QueryStatus, ModuleFeatures, FirmwareFeatures, FirmwareInfo}
use Rattle.model.specs.declared.command.CommandStatus.{CommandStatus}
use Rattle.model.specs.declared.command.CommandStatus.TheVariants.{Success, UnknownNumber, WrongCode}

-- ---- the commands that the module knows

abbrev pub commands : List Command
commands = QueryStatus ∷ ModuleFeatures ∷ FirmwareFeatures ∷ FirmwareInfo ∷ []

-- their numbers (002 tables 9-3, 9-8, 9-9 and 9-19)
abbrev pub number_of : Command → CommandNumber
number_of QueryStatus = 0x0000
number_of ModuleFeatures = 0x0040
number_of FirmwareFeatures = 0x0041
number_of FirmwareInfo = 0x0100

-- ---- check codes

-- the bytes that f gives below a count, summed
unfoldable pub sum_of : Count → (Count → Byte) → ℕ
sum_of zero f = 0
sum_of (suc n) f = sum_of n f + f n

-- the ones' complement of a sum, in a byte
unfoldable pub check_code : ℕ → Byte
check_code sum = 255 - sum % 256

-- the body has room for so many bytes
abbrev pub body_limit : Count
body_limit = 120

-- the bytes of the header that are summed, 128 to 132: up to the code, which is not among them
abbrev pub summed_header : Count
summed_header = 5

-- the code that a message with a body of n bytes should have
unfoldable pub right_code : Image → Count → Byte
right_code x n =
    check_code (sum_of summed_header (λ k. get_or x (command_number + k) 0) + sum_of n (λ k. get_or x (message_body + k) 0))

unfoldable pub is_code_right : Image → Bool
is_code_right x =
    both (leb (get_or x body_length 0) body_limit) (eqb (get_or x message_code 0) (right_code x (get_or x body_length 0)))

-- ---- what becomes of a message

unfoldable pub status_among : List Command → CommandNumber → CommandStatus
status_among [] n = UnknownNumber
status_among (c ∷ rest) n = pick (eqb n (number_of c)) (Success c) (status_among rest n)

-- the code is asked first, then the number
unfoldable pub status_of : Image → CommandStatus
status_of x = pick (is_code_right x) (status_among commands (word 2 x command_number)) WrongCode

-- lower 37 (002 table 8-14)
abbrev pub status_code : CommandStatus → Code
status_code (Success c) = 0x01
status_code UnknownNumber = 0x41
status_code WrongCode = 0x45

-- ---- replies

abbrev pub length_of : Command → Count
length_of QueryStatus = 2
length_of ModuleFeatures = 36
length_of FirmwareFeatures = 18
length_of FirmwareInfo = 110

-- byte k of the map of 0040h: bit b stands for the number 8 k + b
unfoldable pub support_byte : Count → Byte
support_byte k = mask_of 8 (λ b. any_of commands (λ c. eqb (8 * k + b) (number_of c)))

-- 0100h: an image that cannot be updated, told by its factory version (002 table 7-4)
abbrev pub factory_information : Byte
factory_information = 0x04

-- the byte of a reply at an address of page 9Fh: 0 where nothing is named; major and minor are the firmware's version
unfoldable pub reply_byte : Byte → Byte → Command → Address → Byte
reply_byte major minor QueryStatus a = pick (eqb a 136) (length_of QueryStatus) 0
reply_byte major minor ModuleFeatures a = pick (both (leb 138 a) (leb a 169)) (support_byte (a - 138)) 0
reply_byte major minor FirmwareFeatures a = 0
reply_byte major minor FirmwareInfo a = pick (eqb a 137) factory_information (pick (eqb a 210) major (pick (eqb a 211) minor 0))

-- byte k of the reply to a command
unfoldable pub reply_of : Image → Command → Count → Byte
reply_of x c k = reply_byte (get_or x firmware_major 0) (get_or x firmware_minor 0) c (body_address + k)

-- ---- what a command leaves

-- 134 and 135
unfoldable pub with_reply_header : Count → Byte → Image → Image
with_reply_header length code x = set (set x reply_length length) reply_code code

-- a reply of n bytes: its length, its code, and the bytes from 136 on
unfoldable pub with_reply : Count → (Count → Byte) → Image → Image
with_reply n f x = each (λ k. true) (λ k y. set y (message_body + k) (f k)) n (with_reply_header n (check_code (sum_of n f)) x)

-- by what became of the message: where it failed there is no reply, and 134 and 135 are 0
unfoldable pub replied_image : CommandStatus → Image → Image
replied_image (Success c) x = with_reply (length_of c) (reply_of x c) x
replied_image UnknownNumber x = with_reply_header 0 0 x
replied_image WrongCode x = with_reply_header 0 0 x

-- the status, and the completion flag
unfoldable pub completed_image : CommandStatus → Image → Image
completed_image status x = put (set x command_status (status_code status)) command_complete_bit 1

-- the whole command
unfoldable pub command_image : Image → Image
command_image x = let status = status_of x in completed_image status (replied_image status x)
