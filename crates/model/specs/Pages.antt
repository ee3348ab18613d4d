-- Page selection (01 "Host accesses").
use Rattle.std.specs.Option.{unwrap_or}
use Rattle.std.specs.Prelude.{◌+◌, ◌-◌, Bool, true, false, List, [], ◌∷◌, eqb, ltb, get_or, set, None, Some, Option, ℕ}
use Rattle.bits.specs.Choice.{pick, both, implies}
use Rattle.model.specs.Numbers.{Index, Address, PageNumber, Bank}
use Rattle.model.specs.Map.{Image, page00, page01, page02, page10, page11, page9_f, bank_select, page_select}

-- a page that the module has: its number, whether it needs bank 0, and where it starts in the image
pub record Page : Type 0 where
  pub number : PageNumber
  pub banked : Bool
  pub start : Index

abbrev pub pages : List Page
pages =
    record { number = 0x00; banked = false; start = page00 }
    ∷ record { number = 0x01; banked = false; start = page01 }
    ∷ record { number = 0x02; banked = false; start = page02 }
    ∷ record { number = 0x10; banked = true; start = page10 }
    ∷ record { number = 0x11; banked = true; start = page11 }
    ∷ record { number = 0x9f; banked = true; start = page9_f }
    ∷ []

-- the page of a number, in a bank
unfoldable pub find_page : List Page → Bank → PageNumber → Option ℕ
find_page [] bank page = None
find_page (p ∷ ps) bank page =
    pick (both (eqb page p.number) (implies p.banked (eqb bank 0))) (Some p.start) (find_page ps bank page)

unfoldable pub page_start : Bank → PageNumber → Option ℕ
page_start bank page = find_page pages bank page

-- where the upper half starts: on the selected page, or on page 00h where it is not supported
abbrev pub upper_start : Option ℕ → Index
upper_start place = unwrap_or place page00

unfoldable pub selected_start : Image → Index
selected_start x = upper_start (page_start (get_or x bank_select 0) (get_or x page_select 0))

-- the index in the image of an address that a host names
unfoldable pub index_of : Image → Address → Index
index_of x address = pick (ltb address 128) address (selected_start x + (address - 128))

-- a byte written to 127: a page that is not supported resets 126 and 127
abbrev pub with_page : Option ℕ → PageNumber → Image → Image
with_page None page x = set (set x bank_select 0) page_select 0
with_page (Some start) page x = set x page_select page

unfoldable pub selected_image : PageNumber → Image → Image
selected_image page x = with_page (page_start (get_or x bank_select 0) page) page x
