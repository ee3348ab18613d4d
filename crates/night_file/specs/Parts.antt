-- The parts of a night file: its edition, the bytes that it carries of its image, and its records.
use Rattle.std.specs.Prelude.{ℕ, ◌≡◌, ◌<◌, List, [], length, get_or}
use Rattle.model.specs.File.{edition_of, record_count, carried_image, record_in}
use Rattle.night_records.specs.Edition.{row_of}
use Rattle.night_records.specs.declared.Edition.{Edition}

pub record IsNight (file : List ℕ) (edition : Edition) (image : List ℕ) (records : List (List ℕ)) : Type 0 where
  pub named : row_of edition ≡ edition_of file
  pub carried : image ≡ carried_image file
  pub counted : length records ≡ record_count file
  pub each : (k : ℕ) → k < length records → get_or records k [] ≡ record_in file k
