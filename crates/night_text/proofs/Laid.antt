-- Laws of bytes laid into a buffer: lengths, one text after another, and stores. Assumes nothing.
use mathlib.Core.Path.{◌≡◌, sym, ap, ◌∙◌}
use mathlib.Core.List.{List, [], ◌++◌, append_assoc, append-nil}
use Prim.Native.Nat.{ℕ, suc, ◌+◌, ◌-◌, ◌≤◌, ◌<◌}
use native.Mathlib.Nat.{add-zero, add_assoc}
use native.Mathlib.Numerals.{add-one}
use native.Mathlib.Omega.{arith}
use borrow.Rule.Slice.PartMut.{put_mid}
use lib.ListN.{length, get_or, set, take, drop, length-append, take-append-drop, length-drop}
use lib.Seq.{length-take-le, take-suc, drop-cons, append_snoc, set_at, take_at, drop-drop, drop_at}
use Rattle.night_text.specs.Buffer.{laid_at, Puts}
use Rattle.night_text.specs.declared.Line.{Line}
use Rattle.night_text.specs.Lines.{Adds}

-- nothing laid, nothing changed
pub laid_none : (at : ℕ) (buffer : List ℕ) → laid_at at [] buffer ≡ buffer
unfolding laid_at
laid_none at buffer = rw (add-zero, append-nil) (take-append-drop at buffer)

module _ (at : ℕ) (bytes buffer : List ℕ) (within : at ≤ length buffer) where
  -- what lies before the end of the laid bytes, and after it
  laid_head : length (take at buffer ++ bytes) ≡ at + length bytes
  laid_head = length-append (take at buffer) bytes ∙ ap (λ n. n + length bytes) (length-take-le at buffer within)

  pub length_laid : length (laid_at at bytes buffer) ≡ at + length bytes + (length buffer - (at + length bytes))
  unfolding laid_at
  length_laid = rw (length-append (take at buffer ++ bytes) (drop (at + length bytes) buffer), laid_head, length-drop (at + length bytes) buffer)

  take_laid : take (at + length bytes) (laid_at at bytes buffer) ≡ take at buffer ++ bytes
  unfolding laid_at
  take_laid = take_at (take at buffer ++ bytes) _ _ laid_head

  drop_laid : (n : ℕ) → drop (at + length bytes + n) (laid_at at bytes buffer) ≡ drop (at + length bytes + n) buffer
  unfolding laid_at
  drop_laid n =
      sym (drop-drop n (at + length bytes) (take at buffer ++ bytes ++ drop (at + length bytes) buffer))
      ∙ ap (drop n) (drop_at (take at buffer ++ bytes) _ _ laid_head)
      ∙ drop-drop n (at + length bytes) buffer

  -- one text after another is the two as one text
  pub laid_append : (more : List ℕ) → laid_at (at + length bytes) more (laid_at at bytes buffer) ≡ laid_at at (bytes ++ more) buffer
  unfolding laid_at
  laid_append more =
      rw (take_laid, drop_laid (length more), length-append bytes more, append_assoc (take at buffer) bytes more, add_assoc at (length bytes) (length more))

-- bytes in the place of as many
pub laid_copied : (at n k : ℕ) (bytes copied buffer : List ℕ) → copied ≡ bytes → length bytes ≡ n → k ≡ n → put_mid at k buffer copied ≡ laid_at at bytes buffer
unfolding laid_at
laid_copied at n k bytes copied buffer e l h =
    rw (e, h, drop-drop, l) (sym (append_assoc (take at buffer) bytes (drop (at + n) buffer)))

-- two puts, one after the other, are one
pub puts_then : {at p q : ℕ} {a b x y z : List ℕ} → p ≤ length x → Puts at a x y p → Puts p b y z q → Puts at (a ++ b) x z q
puts_then {at} {p} {q} {a} {b} {x} {y} {z} fits f g =
    record {
      buffer = g.buffer ∙ rw (f.next, f.buffer) (laid_append at a x (omega (arith, f.next)) b);
      next = omega (arith, length-append a b, f.next, g.next);
    }

-- a put into a buffer that keeps its length ends within it
pub puts_within : {at r : ℕ} {text before after : List ℕ} → at ≤ length before → length after ≡ length before → Puts at text before after r → r ≤ length after
puts_within {at} {r} {text} {before} within kept p = omega (arith, p.next, ap length p.buffer, length_laid at text before within)

-- a turn of a copy: one element more of the source, one less of what was there
pub copy_turn : (s d : List ℕ) (i : ℕ) → i < length s → i < length d → set (take i s ++ drop i d) i (get_or s i 0) ≡ take (i + 1) s ++ drop (i + 1) d
copy_turn s d i h g =
    rw (add-one i, drop-cons d i 0 g, set_at (take i s) (get_or d i 0) (drop (suc i) d) (get_or s i 0) i (length-take-le i s (omega arith)), take-suc s i 0 h)
    (sym (append_snoc (take i s) (get_or s i 0) (drop (suc i) d)))

-- two texts more, one after the other, are one
pub adds_then : {a b : List ℕ} {x y z : Line} → x.at ≤ length x.out.now → Adds a x y → Adds b y z → Adds (a ++ b) x z
adds_then {a} {b} {x} {y} {z} within f g =
    record {
      buffer = g.buffer ∙ rw (f.next, f.buffer) (laid_append x.at a x.out.now within b);
      kept = g.kept ∙ f.kept;
      next = omega (arith, length-append a b, f.next, g.next);
      same = g.same ∙ f.same;
    }

-- .. and what is left of a line at its end is what was put
pub ends : {text z : List ℕ} {x y : Line} → Adds text x y → (x.out.ghost_name ≡ y.out.ghost_name → z ≡ y.out.now) → Puts x.at text x.out.now z y.at
ends f last = record { buffer = last (sym f.same) ∙ f.buffer; next = f.next }
