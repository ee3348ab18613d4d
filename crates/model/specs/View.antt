-- What groups, paths and verdicts look at: the lanes' settings and states and the Applications, read off the image. Past this file they know no address.
use Rattle.std.specs.Prelude.{◌+◌, Bool, false, not, List, [], ◌∷◌, eqb, leb, get_or, None, Some, Option}
use Rattle.bits.specs.Choice.{both}
use Rattle.bits.specs.Number.{field}
use Rattle.bits.specs.Loop.{tab}
use Rattle.bits.specs.Place.{get}
use Rattle.bits.specs.Sets.{Lane, LaneSet, lane_count, has, mask_of, within}
use Rattle.model.specs.Numbers.{Byte, Index, AppSel, PathId, Code, Bit}
use Rattle.model.specs.Map.{Image, equalizer_limit, amplitude_support, pre_limit, post_limit, state_at, active_set, setting_at}
use Rattle.model.specs.Records.{no_settings}
use Rattle.model.specs.Applications.{app_sel_count, lookup}
use Rattle.model.specs.declared.lane.Settings.{Settings}
use Rattle.model.specs.declared.application.Descriptor.{Descriptor}

-- ---- one lane's settings

-- DPConfig: AppSel in bits 7-4, DataPathID in 3-1, ExplicitControl in 0
unfoldable pub app_sel : Settings → AppSel
app_sel h = field h.config 4 4

unfoldable pub path_id : Settings → PathId
path_id h = field h.config 1 3

unfoldable pub explicit : Settings → Bit
explicit h = field h.config 0 1

-- lane l's settings in the set at a base
unfoldable pub settings_at : Index → Image → Lane → Settings
settings_at base x l =
    record {
      config = get x (setting_at base 0 l);
      adaptive = get x (setting_at base 1 l);
      equalizer = get x (setting_at base 2 l);
      cdr_tx = get x (setting_at base 3 l);
      cdr_rx = get x (setting_at base 4 l);
      pre = get x (setting_at base 5 l);
      post = get x (setting_at base 6 l);
      amplitude = get x (setting_at base 7 l);
    }

-- the same in the order of the map
unfoldable pub setting_values : Settings → List Byte
setting_values h =
    h.config ∷ h.adaptive ∷ h.equalizer ∷ h.cdr_tx ∷ h.cdr_rx ∷ h.pre ∷ h.post ∷ h.amplitude ∷ []

-- ---- all lanes

-- what 01h:153-154 allow: the highest codes, and the amplitude codes supported, a bit each
pub record Limits : Type 0 where
  pub equalizer : Byte
  pub pre : Byte
  pub post : Byte
  pub amplitudes : Byte

pub record View : Type 0 where
  pub active : List Settings
  pub staged : List Settings
  pub states : List Code
  pub applications : List (Option Descriptor)
  pub limits : Limits

unfoldable pub limits_of : Image → Limits
limits_of x =
    record {
      equalizer = get x equalizer_limit;
      pre = get x pre_limit;
      post = get x post_limit;
      amplitudes = get x amplitude_support;
    }

-- the settings of all lanes in the set at a base
unfoldable pub settings_of : Index → Image → List Settings
settings_of base x = tab lane_count (settings_at base x)

unfoldable pub states_of : Image → List Code
states_of x = tab lane_count (λ l. get x (state_at l))

unfoldable pub applications_of : Image → List (Option Descriptor)
applications_of x = tab app_sel_count (lookup x)

-- the view, with the staged set at a base
unfoldable pub view_of : Index → Image → View
view_of base x =
    record {
      active = settings_of active_set x;
      staged = settings_of base x;
      states = states_of x;
      applications = applications_of x;
      limits = limits_of x;
    }

-- lane l of a list of settings
abbrev pub of : List Settings → Lane → Settings
of hs l = get_or hs l no_settings

abbrev pub state_in : List Code → Lane → Code
state_in ss l = get_or ss l 0

abbrev pub application_in : List (Option Descriptor) → AppSel → Option Descriptor
application_in apps a = get_or apps a None

-- ---- paths over the active settings (01, below the refusal list)

-- a lane is used if its AppSel is not 0
unfoldable pub is_used : Settings → Bool
is_used h = not (eqb (app_sel h) 0)

-- lanes l and m are used and of one DataPathID
unfoldable pub same_path : List Settings → Lane → Lane → Bool
same_path active l m =
    both (is_used (of active l)) (both (is_used (of active m)) (eqb (path_id (of active l)) (path_id (of active m))))

-- the lanes of lane l's path; none where l is unused
unfoldable pub path_of : List Settings → Lane → LaneSet
path_of active l = mask_of lane_count (same_path active l)

-- the set g is f .. f + n - 1, for a descriptor of n lanes that allows f
unfoldable pub fills : Option Descriptor → PathId → LaneSet → Bool
fills None f g = false
fills (Some d) f g = both (has d.firsts f) (both (leb (f + d.count) lane_count) (eqb g (mask_of lane_count (within f d.count))))
