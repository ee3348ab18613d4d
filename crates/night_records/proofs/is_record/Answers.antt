use borrow.Author.Rules.{rules}
use native.Mathlib.Omega.{arith}
use mathlib.Core.Path.{◌≡◌, sym, ap, ◌∙◌}
use Rattle.bits.specs.Choice.{pick}
use Rattle.bits.proofs.Tests.{and_both}
use Rattle.model.specs.File.{kind_of, write_kind, written_bytes, used_bytes}
use Rattle.model.proofs.Editions.{six_forms}
use Rattle.night_records.specs.Kind.{number_of}
use Rattle.night_records.proofs.Records.{record_by, front_is, none_is}
use Rattle.night_records.proofs.is_record.Goals as goal

pub returns-in_default : goal.returns-in_default
returns-in_default c = rw (← c.from-edition.ensures) (sym (none_is c.args.bytes.now (search rules) c.in_default.ensures c.from-edition.result))

pub returns-in-Write : goal.returns-in-Write
unfolding used_bytes written_bytes pick
returns-in-Write c = let k : kind_of c.args.bytes.now ≡ write_kind = sym c.in-Ok.ensures ∙ ap number_of c.in-Write.is in
    record_by _ _ _ _ c.is_write.ensures (rw ((six_forms c.args.edition).forms, k)) (omega arith)

pub returns-in_default-kind : goal.returns-in_default-kind
returns-in_default-kind c = rw (← c.from-edition.ensures, c.tail_of-tail.ensures, c.front_of.ensures, c.front_limit.ensures)
    (and_both _ _ ∙ front_is c.args.bytes.now (search rules) c.from-edition.result _ c.in-Ok.ensures c.in_default-kind.not-Write)
