use borrow.Author.Rules.{rules}
use borrow.Rule.Slice.PartMut.{mid_of}
use mathlib.Core.Path.{◌≡◌, refl, sym, ap, ◌∙◌}
use native.Mathlib.Omega.{arith}
use Prim.Native.Nat.{◌-◌}
use lib.ListN.{length, replicate}
use Rattle.std.proofs.lemmas.Slice.{put_mid-paste}
use Rattle.access_reads.proofs.Runs.{zeros_pasted}
use Rattle.access_reads.proofs.clear_run.Goals as goal

pub returns : goal.returns
returns c = let a = c.args in
    let long : length (mid_of a.from (a.end - a.from) a.image.now) ≡ a.end - a.from = search rules in
    put_mid-paste a.from (a.end - a.from) a.image.now _ (replicate (a.end - a.from) 0) (a.end - a.from)
    (c.fill.ensures.after (λ y h. h) ∙ ap (λ n. replicate n 0) long) refl (search rules)
    ∙ sym (zeros_pasted a.from (a.end - a.from) a.image.now (omega (arith, c.told-image)))
