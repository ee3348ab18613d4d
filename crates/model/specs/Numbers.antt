-- The kinds of numbers, by name, so that a signature says what each argument is. All are ℕ, and a list of them is a list of ℕ: the names change no meaning.
-- (A lane and a set of lanes have their names in bits/Sets.)
use Rattle.std.specs.Prelude.{ℕ, List}

-- a byte's value, 0 to 255, and bytes in a row
abbrev pub Byte : Type 0
Byte = ℕ

abbrev pub Bytes : Type 0
Bytes = List ℕ

-- how many, or how long
abbrev pub Count : Type 0
Count = ℕ

-- where a byte lies: in the image, or from the start of a range or a record
abbrev pub Index : Type 0
Index = ℕ

-- what a host names: 0 to 127 in lower memory, 128 to 255 on the selected page
abbrev pub Address : Type 0
Address = ℕ

-- a page's number and a bank's, as bytes 127 and 126 hold them
abbrev pub PageNumber : Type 0
PageNumber = ℕ

abbrev pub Bank : Type 0
Bank = ℕ

-- DPConfig's parts: which Application, and which path by its first lane
abbrev pub AppSel : Type 0
AppSel = ℕ

abbrev pub PathId : Type 0
PathId = ℕ

-- a code of ConfigStatus or of DPState
abbrev pub Code : Type 0
Code = ℕ

-- optical power in 0.1 µW
abbrev pub Power : Type 0
Power = ℕ

-- a bit: its number in a byte, 0 to 7, or its value, 0 or 1
abbrev pub Bit : Type 0
Bit = ℕ

-- which of the flags that can last, counted from 0
abbrev pub FlagIndex : Type 0
FlagIndex = ℕ

-- a lane's flags that are on, a bit for each that can last
abbrev pub OnBits : Type 0
OnBits = ℕ

-- which row of the table of settings
abbrev pub SettingIndex : Type 0
SettingIndex = ℕ

-- which record of a night file, counted from 0
abbrev pub RecordIndex : Type 0
RecordIndex = ℕ

-- a command message's number
abbrev pub CommandNumber : Type 0
CommandNumber = ℕ

-- an answer's number in the refusal list
abbrev pub AnswerNumber : Type 0
AnswerNumber = ℕ
