-- What it means that a group closes among public calls: the words of the theorem that it takes nine work steps at most.
use Rattle.std.specs.Prelude.{◌≡◌, Bool, true, false, List, [], ◌∷◌, ℕ, suc, ◌+◌, ◌≤◌, ◌<◌, ltb, length, take, None, Some, Option}
use Rattle.bits.specs.Choice.{pick, both}
use Rattle.bits.specs.Sets.{has, lane_count}
use Rattle.model.specs.Records.{stage_at}
use Rattle.model.specs.State.{State}
use Rattle.model.specs.declared.event.Call.{Call}
use Rattle.model.specs.declared.event.Call.TheVariants.{Write, Read, Work, Hardware, Condition, Sample, Lasting, Module, Line}
use Rattle.model.specs.declared.lane.Progress.{Progress}
use Rattle.laws.specs.Calls.{Called, state_after}

-- nine: one work step for each lane, and the closing one
abbrev pub most_work_steps : ℕ
most_work_steps = suc lane_count

-- a call is a work step on a lane of the group
unfoldable pub is_work_on : ℕ → Call → Bool
is_work_on g (Write address count) = false
is_work_on g (Read address count) = false
is_work_on g (Work l) = both (ltb l lane_count) (has g l)
is_work_on g (Hardware l) = false
is_work_on g (Condition flag mask) = false
is_work_on g (Sample l p) = false
is_work_on g (Lasting flag on off) = false
is_work_on g Module = false
is_work_on g (Line on) = false

-- how many of the calls are such work steps
unfoldable pub works_on : ℕ → List Called → ℕ
works_on g [] = 0
works_on g (c ∷ cs) = pick (is_work_on g c.event.call) 1 0 + works_on g cs

-- a stage in progress, in the group
pub record InGroup (g : ℕ) (stage : Option Progress) : Type 0 where
  pub its : Progress
  pub in_progress : stage ≡ Some its
  pub group : its.group ≡ g

-- every lane of the group is in progress, in that group
abbrev pub AllIn : ℕ → State → Type 0
AllIn g s = (m : ℕ) → m < lane_count → has g m ≡ true → InGroup g (stage_at s.working m)

-- every lane of the group is idle
abbrev pub AllIdle : ℕ → State → Type 0
AllIdle g s = (m : ℕ) → m < lane_count → has g m ≡ true → stage_at s.working m ≡ None

-- the group closes, or is dropped by a reset, within a number of work steps: after some of the calls its lanes are idle, until then they are all in
-- progress in that group, and of these calls at most so many are work steps on its lanes
pub record ClosesWithin (g most : ℕ) (s : State) (cs : List Called) : Type 0 where
  pub calls : ℕ
  pub among : calls ≤ length cs
  pub works : works_on g (take calls cs) ≤ most
  pub until : (j : ℕ) → j < calls → AllIn g (state_after s (take j cs))
  pub closed : AllIdle g (state_after s (take calls cs))
