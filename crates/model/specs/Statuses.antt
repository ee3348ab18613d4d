-- The codes of ConfigStatus (01 "ConfigStatus"; 002 table 8-91).
use Rattle.model.specs.Numbers.{Code}

-- no Apply since start
abbrev pub undefined : Code
undefined = 0

abbrev pub success : Code
success = 1

-- rejected, no closer reason
abbrev pub rejected : Code
rejected = 2

abbrev pub invalid_application : Code
invalid_application = 3

abbrev pub invalid_path : Code
invalid_path = 4

abbrev pub invalid_settings : Code
invalid_settings = 5

abbrev pub lanes_in_use : Code
lanes_in_use = 6

abbrev pub partial_path : Code
partial_path = 7

abbrev pub in_progress : Code
in_progress = 12
