-- Soundness in propositions: (a) to (e) of document 01, over what they look at and no more; and (f), what is on (02 Req 02).
use Rattle.std.specs.Prelude.{◌≡◌, Bool, true, false, List, ℕ, ◌^◌, ◌≤◌, ◌<◌, eqb, Option, Some}
use Rattle.bits.specs.Place.{get}
use Rattle.bits.specs.Sets.{has}
use Rattle.model.specs.Map.{Image, active_set, status_at, pending_at, flag_at, lasting_count, lasting_flag}
use Rattle.model.specs.Statuses.{in_progress}
use Rattle.model.specs.PathStates.{state_of, resting}
use Rattle.model.specs.Records.{stage_at, on_at, is_in_progress, is_passing, held_in}
use Rattle.model.specs.View.{settings_of, states_of, applications_of, of, state_in, application_in, app_sel, path_id, is_used, same_path, path_of, fills}
use Rattle.model.specs.State.{State}
use Rattle.model.specs.Verdicts.{deactivated}
use Rattle.model.specs.Work.{written_settings}
use Rattle.model.specs.Sound.{not_copied}
use Rattle.model.specs.declared.lane.Settings.{Settings}
use Rattle.model.specs.declared.lane.Verdict.TheVariants.{Pass, Reject}
use Rattle.model.specs.declared.lane.Progress.{Progress}
use Rattle.model.specs.declared.application.Descriptor.{Descriptor}
use Rattle.laws_frames.specs.Frames.{Fits}

-- what soundness looks at: the lanes' stages, active settings, states, statuses and pending bits, and the Applications
pub record Seen : Type 0 where
  pub stage : ℕ → Option Progress
  pub active : List Settings
  pub states : List ℕ
  pub applications : List (Option Descriptor)
  pub status : ℕ → ℕ
  pub pending : ℕ → ℕ

abbrev pub seen_of : State → Seen
seen_of s =
    record {
      stage = stage_at s.working;
      active = settings_of active_set s.image;
      states = states_of s.image;
      applications = applications_of s.image;
      status = λ l. get s.image (status_at l);
      pending = λ l. get s.image (pending_at l);
    }

-- the settings that lane l's record holds
abbrev pub held : Seen → ℕ → Settings
held o l = held_in (o.stage l)

abbrev pub state_on : Seen → ℕ → ℕ
state_on o l = state_in o.states l

-- ---- (b) lanes of one group agree, and the group holds exactly them

-- a stage of the same group, trigger, staged set, verdict and next lane
pub record Mate (p : Progress) (s : Option Progress) : Type 0 where
  pub its : Progress
  pub stage : s ≡ Some its
  pub group : its.group ≡ p.group
  pub trigger : its.trigger ≡ p.trigger
  pub set : its.set ≡ p.set
  pub verdict : its.verdict ≡ p.verdict

pub record Grouped (o : Seen) (l : ℕ) (p : Progress) : Type 0 where
  pub own : has p.group l ≡ true
  pub mate : (m : ℕ) → m < 8 → has p.group m ≡ true → Mate p (o.stage m)
  pub fits : Fits p.held
  pub code : (c : ℕ) → p.verdict ≡ Reject c → (2 ≤ c) × (c ≤ 7)
  pub next : (n : ℕ) → p.verdict ≡ Pass n → (n ≤ 8) × (n < 8 → has p.group n ≡ true)

-- ---- (c) a whole path whose lanes agree on a state of 1 to 7

pub record InWhole (o : Seen) (l : ℕ) : Type 0 where
  pub alike : (m : ℕ) → m < 8 → same_path o.active l m ≡ true → app_sel (of o.active m) ≡ app_sel (of o.active l)
  pub whole : fills (application_in o.applications (app_sel (of o.active l))) (path_id (of o.active l)) (path_of o.active l) ≡ true
  pub agree : (m : ℕ) → m < 8 → same_path o.active l m ≡ true → state_on o m ≡ state_on o l
  pub low : 1 ≤ state_on o l
  pub high : state_on o l ≤ 7

-- ---- (d) DPDeactivated with nothing pending

pub record AtRest (o : Seen) (l : ℕ) : Type 0 where
  pub state : state_on o l ≡ deactivated
  pub pending : o.pending l ≡ 0

-- ---- (e) a passing group

-- the lanes of c are all unused, or share an AppSel and a DataPathID whose whole path is the set g
pub record OnePath (applications : List (Option Descriptor)) (settings : ℕ → Settings) (c : ℕ → Bool) (g : ℕ) : Type 0 where
  pub alike : (m k : ℕ) → m < 8 → k < 8 → c m ≡ true → c k ≡ true → is_used (settings m) ≡ true
      → (app_sel (settings k) ≡ app_sel (settings m)) × (path_id (settings k) ≡ path_id (settings m))
  pub whole : (m : ℕ) → m < 8 → c m ≡ true → is_used (settings m) ≡ true
      → fills (application_in applications (app_sel (settings m))) (path_id (settings m)) g ≡ true

pub record Passes (o : Seen) (g n : ℕ) : Type 0 where
  pub purpose : OnePath o.applications (held o) (has g) g
  pub agree : (m k : ℕ) → m < 8 → k < 8 → has g m ≡ true → has g k ≡ true → state_on o m ≡ state_on o k
  pub rests : (m : ℕ) → m < 8 → has g m ≡ true → resting (state_of (state_on o m)) ≡ true
  pub release : (m : ℕ) → m < 8 → has g m ≡ true → is_used (held o m) ≡ false → state_on o m ≡ deactivated
  pub copied : (m : ℕ) → m < 8 → has g m ≡ true → m < n → of o.active m ≡ written_settings (held o m)
  pub remain : OnePath o.applications (of o.active) (not_copied g n) g

-- ---- these five

pub record Sound (o : Seen) : Type 0 where
  pub told : (l : ℕ) → l < 8 → eqb (o.status l) in_progress ≡ is_in_progress (o.stage l)
  pub grouped : (l : ℕ) (p : Progress) → l < 8 → o.stage l ≡ Some p → Grouped o l p
  pub used : (l : ℕ) → l < 8 → is_passing (o.stage l) ≡ false → is_used (of o.active l) ≡ true → InWhole o l
  pub unused : (l : ℕ) → l < 8 → is_passing (o.stage l) ≡ false → is_used (of o.active l) ≡ false → AtRest o l
  pub passes : (l n : ℕ) (p : Progress) → l < 8 → o.stage l ≡ Some p → p.verdict ≡ Pass n → Passes o p.group n

-- ---- (f) a lane's on bits name only flags that can last, and a flag that is on is 1

pub record OnFits (x : Image) (l bits : ℕ) : Type 0 where
  pub few : bits < 2 ^ lasting_count
  pub shows : (k : ℕ) → k < lasting_count → has bits k ≡ true → get x (flag_at (lasting_flag k) l) ≡ 1

-- .. of every lane
abbrev pub AllOnFit : State → Type 0
AllOnFit s = (l : ℕ) → l < 8 → OnFits s.image l (on_at s.working l)

-- ---- these six, no more

pub record AllSix (s : State) : Type 0 where
  pub five : Sound (seen_of s)
  pub on : AllOnFit s
