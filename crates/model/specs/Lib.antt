-- What the module is and does, said once. Read top to bottom beside document 01:
--
--   01 "The module we ship"          Numbers, Map, Statuses, PathStates, Records, State, Registers; start, and the reset (02 Req 04): Start
--   01 "When the desk says no"       Answers, Refusals; paths: View; sound: Sound
--   01 "Host accesses"               Pages, Access; lower 3.0: Flags; command messages (02 Req 01): Commands
--   01 "Triggers and verdicts"       Applications, View, Groups, Verdicts, Triggers
--   01 "Work step", "ConfigStatus"   Effect, Work, Statuses
--   01 "Paths and flags"             PathStates, Hardware, Flags; the module's own states (02 Req 04): Power
--   01 "The night file"              File, Text, Night; in pieces (02 Req 09): Stream; the list of events: Outcome
--   01 "How tightly each answer is held", and the runs that demand 3 compares   Step, Outcome
--
-- The types of lanes, paths, power states, commands, events, answers and files are those of the code, in ../src; a file names them as declared.FILE.TYPE. An `abbrev` is a short name that
-- is the same as what it stands for; an `unfoldable` definition stays shut in proofs until one says that it is to be unfolded. Neither changes what is said.
pub mod Numbers
pub mod Map
pub mod Statuses
pub mod PathStates
pub mod Answers
pub mod Records
pub mod State
pub mod Registers
pub mod Applications
pub mod View
pub mod Groups
pub mod Verdicts
pub mod Triggers
pub mod Effect
pub mod Work
pub mod Power
pub mod Hardware
pub mod Flags
pub mod Pages
pub mod Commands
pub mod Start
pub mod Access
pub mod Sound
pub mod Refusals
pub mod Step
pub mod Outcome
pub mod File
pub mod Text
pub mod Night
pub mod Stream
