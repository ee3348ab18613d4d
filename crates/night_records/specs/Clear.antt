-- The bytes of a record that its kind does not use.
use Rattle.std.specs.Prelude.{ℕ, zero, suc, ◌+◌, ◌*◌, Bool, eqb, leb, get_or}
use Rattle.bits.specs.Choice.{pick, either, implies}
use Rattle.bits.specs.Loop.{all_below}
use Rattle.model.specs.Numbers.{Byte, Bytes, Count}
use Rattle.model.specs.File.{record_length}
use Rattle.night_records.specs.declared.Kind.{Kind}
use Rattle.night_records.specs.declared.Kind.TheVariants.{Write, Read, Work, Hardware, Condition, Sample, Module, Line}

-- byte j is 0 if it is not among the first bytes, which are used
abbrev pub is_clear : Count → Bytes → Count → Bool
is_clear used bytes j = implies (leb used j) (eqb (get_or bytes j 0) 0)

-- every byte of a record from one on is 0
unfoldable pub is_clear_from : Count → Bytes → Bool
is_clear_from used bytes = all_below record_length (is_clear used bytes)

-- n bytes from one on as one number, the first of them lowest
unfoldable pub low_first : Count → Bytes → Count → ℕ
low_first zero bytes at = 0
low_first (suc n) bytes at = get_or bytes at 0 + 256 * low_first n bytes (suc at)

-- the last eight of a record
abbrev pub tail_of : Bytes → ℕ
tail_of bytes = low_first 8 bytes 4

-- ---- a record that is no write: its last eight bytes are 0, and those behind its kind, as one number, stay below a limit

abbrev pub front_of : Bytes → ℕ
front_of bytes = low_first 3 bytes 1

-- a flag byte and one mask, or two
unfoldable pub condition_limit : Byte → ℕ
condition_limit edition = pick (either (eqb edition 3) (eqb edition 4)) 16777216 65536

-- nothing stays below 0
unfoldable pub power_limit : Byte → ℕ → ℕ
power_limit edition limit = pick (eqb edition 4) limit 0

-- nor below that of a write, which goes by its tail
abbrev pub front_limit : Byte → Kind → ℕ
front_limit edition Write = 0
front_limit edition Read = 65536
front_limit edition Work = 256
front_limit edition Hardware = 256
front_limit edition Condition = condition_limit edition
front_limit edition Sample = 16777216
front_limit edition Module = power_limit edition 1
front_limit edition Line = power_limit edition 2
