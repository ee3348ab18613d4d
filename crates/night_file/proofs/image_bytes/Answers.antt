use mathlib.Core.Path.{◌≡◌, sym, ap, ◌∙◌}
use Prim.Native.Nat.{ℕ}
use Rattle.bits.specs.Choice.{pick}
use Rattle.model.specs.File as file
use Rattle.model.specs.File.{later_editions, edition_among}
use Rattle.night_records.specs.Edition.{row_of}
use Rattle.night_records.specs.declared.Edition.{Edition}
use Rattle.night_records.specs.declared.Edition.TheVariants.{First, Second, Third, Fourth}
use Rattle.night_file.proofs.image_bytes.Goals as goal

-- what the edition of a number carries is what the number's row says
carried_by : (e f : Edition) (number : ℕ) → row_of e ≡ edition_among later_editions number → e ≡ f → (row_of f).image_bytes ≡ (edition_among later_editions number).image_bytes
carried_by e f number named is = ap (λ (row : file.Edition). row.image_bytes) (ap row_of (sym is) ∙ named)

pub returns-in-First-clause-row : goal.returns-in-First-clause-row
unfolding edition_among pick
returns-in-First-clause-row c = carried_by _ First c.args.edition c.from.ensures c.in-First.is

pub returns-in-Second-clause-row : goal.returns-in-Second-clause-row
unfolding edition_among pick
returns-in-Second-clause-row c = carried_by _ Second c.args.edition c.from.ensures c.in-Second.is

pub returns-in-Third-clause-row : goal.returns-in-Third-clause-row
unfolding edition_among pick
returns-in-Third-clause-row c = carried_by _ Third c.args.edition c.from.ensures c.in-Third.is

pub returns-in-Fourth-clause-row : goal.returns-in-Fourth-clause-row
unfolding edition_among pick
returns-in-Fourth-clause-row c = carried_by _ Fourth c.args.edition c.from.ensures c.in-Fourth.is
