-- The editions, by the numbers that stand in a file.
use Rattle.std.specs.Prelude.{◌≡◌}
use Rattle.model.specs.Numbers.{Byte}
use Rattle.model.specs.File as file
use Rattle.model.specs.File.{later_editions, edition_among}
use Rattle.night_records.specs.declared.Edition.{Edition}
use Rattle.night_records.specs.declared.Edition.TheVariants.{First, Second, Third, Fourth}

-- the number of an edition
abbrev pub edition_number : Edition → Byte
edition_number First = 1
edition_number Second = 2
edition_number Third = 3
edition_number Fourth = 4

-- what the model says of it
abbrev pub row_of : Edition → file.Edition
row_of e = edition_among later_editions (edition_number e)

-- the edition of any number
abbrev pub IsEditionOf : Byte → Edition → Type 0
IsEditionOf number e = row_of e ≡ edition_among later_editions number
