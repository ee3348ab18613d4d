use mathlib.Core.Path.{sym, ap, ◌∙◌}
use Rattle.bits.specs.Choice.{pick}
use Rattle.model.specs.File.{call_of}
use Rattle.model.proofs.Editions.{six_forms}
use Rattle.night_records.specs.Edition.{edition_number}
use Rattle.night_records.specs.Kind.{number_of}
use Rattle.night_events.proofs.Calls.{module_is, line_is, other_is}
use Rattle.night_events.proofs.call_of.Goals as goal

pub returns-in_default : goal.returns-in_default
returns-in_default c = c.sample_call.ensures ∙ other_is _ c.args.edition c.in_default.ensures

pub returns-in-Write : goal.returns-in-Write
unfolding call_of pick
returns-in-Write c = rw ((six_forms (edition_number c.args.edition)).forms, ← c.in-Ok.ensures, c.in-Write.is)

pub returns-in-Read : goal.returns-in-Read
unfolding call_of pick
returns-in-Read c = rw ((six_forms (edition_number c.args.edition)).forms, ← c.in-Ok.ensures, c.in-Read.is)

pub returns-in-Work : goal.returns-in-Work
unfolding call_of pick
returns-in-Work c = rw ((six_forms (edition_number c.args.edition)).forms, ← c.in-Ok.ensures, c.in-Work.is)

pub returns-in-Hardware : goal.returns-in-Hardware
unfolding call_of pick
returns-in-Hardware c = rw ((six_forms (edition_number c.args.edition)).forms, ← c.in-Ok.ensures, c.in-Hardware.is)

pub returns-in-Sample : goal.returns-in-Sample
unfolding call_of pick
returns-in-Sample c = rw ((six_forms (edition_number c.args.edition)).forms, ← c.in-Ok.ensures, c.in-Sample.is) c.sample_call-in-Sample.ensures

pub returns-in-Module : goal.returns-in-Module
returns-in-Module c = c.power_call.ensures ∙ module_is _ c.args.edition (sym c.in-Ok.ensures ∙ ap number_of c.in-Module.is)

pub returns-in-Line : goal.returns-in-Line
returns-in-Line c = c.power_call-in-Line.ensures ∙ line_is _ c.args.edition (sym c.in-Ok.ensures ∙ ap number_of c.in-Line.is)
