-- Applications and their descriptors (01 "Triggers and verdicts", 02 Req 05; 002 table 8-22).
use Rattle.std.specs.Prelude.{◌+◌, ◌*◌, ◌-◌, Bool, not, eqb, leb, ltb, get_or, None, Some, Option}
use Rattle.bits.specs.Choice.{pick, both}
use Rattle.bits.specs.Number.{field}
use Rattle.bits.specs.Loop.{all_below}
use Rattle.model.specs.Numbers.{Byte, Count, Index, AppSel}
use Rattle.model.specs.Map.{Image, descriptors, more_descriptors}
use Rattle.model.specs.declared.application.Descriptor.{Descriptor}

abbrev pub application_count : Count
application_count = 15

-- the first descriptor on page 01h; those before it stand in lower memory
abbrev pub first_on_page : AppSel
first_on_page = 9

-- AppSel is a nibble: the view looks up each value that it can have
abbrev pub app_sel_count : Count
app_sel_count = 16

-- the first byte of descriptor a, counted from 1 through both areas
unfoldable pub descriptor_at : AppSel → Index
descriptor_at a = pick (ltb a first_on_page) (descriptors + 4 * (a - 1)) (more_descriptors + 4 * (a - first_on_page))

abbrev pub end_of_list : Byte
end_of_list = 0xff

-- no descriptor from 1 to a begins with FFh
unfoldable pub list_reaches : Image → AppSel → Bool
list_reaches x a = all_below a (λ k. not (eqb (get_or x (descriptor_at (k + 1)) 0) end_of_list))

-- host lane count in bits 7-4 of the third byte
unfoldable pub host_lane_count : Image → AppSel → Count
host_lane_count x a = field (get_or x (descriptor_at a + 2) 0) 4 4

unfoldable pub is_present : Image → AppSel → Bool
is_present x a =
    both (both (leb 1 a) (leb a application_count))
    (both (list_reaches x a) (both (leb 1 (host_lane_count x a)) (leb (host_lane_count x a) 8)))

unfoldable pub lookup : Image → AppSel → Option Descriptor
lookup x a =
    pick (is_present x a) (Some (record { count = host_lane_count x a; firsts = get_or x (descriptor_at a + 3) 0 })) None
