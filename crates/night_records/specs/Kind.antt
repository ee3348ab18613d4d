-- The kinds of records, by the numbers that stand in a file.
use Rattle.std.specs.Prelude.{◌≡◌, ◌<◌, Result, MatchResult}
use Rattle.model.specs.Numbers.{Byte}
use Rattle.model.specs.File.{write_kind, read_kind, work_kind, hardware_kind, condition_kind, sample_kind, module_kind, line_kind}
use Rattle.night_records.specs.declared.Kind.{Kind}
use Rattle.night_records.specs.declared.Kind.TheVariants.{Write, Read, Work, Hardware, Condition, Sample, Module, Line}
use Rattle.night_records.specs.declared.UnknownKind.{UnknownKind}

-- the number of a kind
abbrev pub number_of : Kind → Byte
number_of Write = write_kind
number_of Read = read_kind
number_of Work = work_kind
number_of Hardware = hardware_kind
number_of Condition = condition_kind
number_of Sample = sample_kind
number_of Module = module_kind
number_of Line = line_kind

-- the kind of a number, or none: they are 1 to 8
abbrev pub Names : Byte → Result Kind UnknownKind → Type 0
Names number r = MatchResult r (λ kind. number_of kind ≡ number) (λ _. 0 < number → line_kind < number)
