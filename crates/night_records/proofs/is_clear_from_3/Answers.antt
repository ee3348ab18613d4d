use borrow.Author.Rules.{rules}
use native.Mathlib.Omega.{arith}
use mathlib.Core.Path.{refl, ap, ◌∙◌}
use Prim.Native.Nat.{ℕ}
use lib.Dec.{eqb}
use Rattle.night_records.proofs.Records.{clear_step, tail_none}
use Rattle.night_records.proofs.is_clear_from_3.Goals as goal

pub returns : goal.returns
returns c = let bytes = c.args.bytes.now in
    let none = tail_none bytes (search rules) in
    clear_step 3 bytes _ _ (omega arith) refl (ap (λ (t : ℕ). eqb t 0) c.requires.1 ∙ none)
