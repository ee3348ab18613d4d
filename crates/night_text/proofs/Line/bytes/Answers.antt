use borrow.Author.Rules.{rules}
use mathlib.Core.Path.{◌≡◌, refl, ap, ◌∙◌}
use native.Mathlib.Omega.{arith}
use lib.ListN.{length}
use Rattle.night_text.proofs.Laid.{laid_copied, length_laid}
use Rattle.night_text.proofs.Line.bytes.Goals as goal

pub returns : goal.returns
returns g c =
    let line = c.args.self.now in
    let n : length c.args.bytes ≡ g.row.N = search rules in
    let laid = laid_copied line.at g.row.N _ c.args.bytes _ line.out.now c.copy_from_slice.ensures.after n (omega arith) in
    record {
      buffer = laid;
      kept = ap length laid ∙ length_laid line.at c.args.bytes line.out.now (omega arith) ∙ omega arith;
      next = omega arith;
      same = refl;
    }
