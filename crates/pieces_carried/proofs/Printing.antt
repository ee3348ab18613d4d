-- What a buffer holds where nothing is printed. Assumes nothing.
use mathlib.Core.Path.{sym}
use mathlib.Core.List.{List, []}
use Prim.Native.Nat.{ℕ}
use native.Mathlib.Nat.{add-zero}
use Rattle.night_text.specs.Buffer.{Puts}
use Rattle.night_text.proofs.Laid.{laid_none}

pub puts_none : {at : ℕ} {out : List ℕ} → Puts at [] out out at
puts_none {at} {out} = record { buffer = sym (laid_none at out); next = sym (add-zero at) }
