-- A feed, byte after byte: bytes are taken while the output has room for a longest line.
use Rattle.std.specs.Prelude.{ℕ, suc, ◌+◌, List, [], ◌∷◌, ltb, length}
use Rattle.bits.specs.Choice.{pick}
use Rattle.model.specs.Stream as stream
use Rattle.model.specs.Stream.{took}
use Rattle.night_text.specs.Buffer.{laid_at, longest_line}

-- where a feed stands: the bytes taken and printed, what is carried, and the output
pub record Going : Type 0 where
  pub taken : ℕ
  pub printed : ℕ
  pub carried : stream.Carried
  pub out : List ℕ

-- a byte is taken, and its text laid into the output
unfoldable pub after_byte : Going → ℕ → Going
after_byte g b =
    let t = took g.carried b in
    record {
      taken = suc g.taken;
      printed = g.printed + length t.text;
      carried = t.carried;
      out = laid_at g.printed t.text g.out;
    }

-- byte after byte, while the output has room for a longest line
unfoldable pub going : Going → List ℕ → Going
going g [] = g
going g (b ∷ bytes) = pick (ltb (length g.out) (g.printed + longest_line)) g (going (after_byte g b) bytes)

-- before the first byte of a piece
abbrev pub at_first : stream.Carried → List ℕ → Going
at_first c out = record { taken = 0; printed = 0; carried = c; out = out }
