-- How a feed goes on over a byte by itself, from what is carried into it, to the end of the piece or of the room. Assumes nothing.
use mathlib.Core.Path.{◌≡◌, sym, ap, ◌∙◌}
use mathlib.Core.Bool.{false, ◌&&◌}
use mathlib.Core.List.{List, []}
use Prim.Native.Nat.{ℕ, suc, ◌+◌, ◌-◌, ◌≤◌, ◌<◌}
use native.Mathlib.Numerals.{add-one}
use native.Mathlib.Omega.{arith}
use lib.Dec.{ltb, leb}
use lib.ListN.{length, get_or, drop, drop_of_length-le}
use lib.Seq.{drop-cons}
use borrow.Author.Tests.{ltb-false, leb-false}
use Rattle.bits.proofs.Tests.{split, pick_true, and_pick}
use Rattle.model.specs.Map.{Image}
use Rattle.model.specs.Stream as stream
use Rattle.model.specs.Stream.{Took, took}
use Rattle.night_text.specs.Buffer.{longest_line}
use Rattle.night_text.proofs.Laid.{puts_within}
use Rattle.pieces_carried.specs.Carrying.{held_room, carried_by, kept, IsTidy, Leaves}
use Rattle.pieces_carried.specs.declared.Carried.{Carried}
use Rattle.pieces_carried.specs.declared.Taken.{Taken}
use Rattle.pieces_carried.proofs.Holding.{held-short}
use Rattle.pieces_bytes.proofs.Keeping.{kept_back, kept-tidy, took-short}
use Rattle.pieces_going.specs.Going.{Going, after_byte, going, at_first}
use Rattle.pieces_going.proofs.Going.{going-none, going-byte}
use Rattle.pieces_ahead.specs.declared.Feeding.{Feeding}
use Rattle.pieces_ahead.specs.Standing.{standing, Stands, Goes}

-- a byte by itself
module _ (f : Feeding) (x left : Image) (piece out after : List ℕ) (r : Taken) (stands : Stands f piece out) (there : f.taken < length piece)
    (room : f.come.at + longest_line ≤ length out) (kept-length : length after ≡ length out)
    (leaves : Leaves (took (carried_by f.come.carried x) (get_or piece f.taken 0)) f.come.at out after left r) where
  abbrev b : ℕ
  b = get_or piece f.taken 0

  abbrev t : Took
  t = took (carried_by f.come.carried x) b

  short : length t.carried.held < held_room
  unfolding carried_by
  short = took-short (carried_by f.come.carried x) (held-short f.come.carried) b

  abbrev over_byte : Feeding
  over_byte = record { taken = f.taken + 1; come = r }

  back : t.carried ≡ carried_by r.carried left
  back = sym (rw (leaves.carried, leaves.registers) (kept_back t.carried short))

  after-byte : after_byte (standing f x out) b ≡ standing over_byte left after
  unfolding after_byte
  after-byte =
      λ i. record {
        taken = sym (add-one f.taken) i;
        printed = sym leaves.text.next i;
        carried = back i;
        out = sym leaves.text.buffer i;
      }

  pub byte_goes : Goes piece (standing f x out) over_byte left after
  byte_goes =
      record {
        stands = record { tidy = rw leaves.carried (kept-tidy t.carried short); within = omega arith; fits = puts_within (omega arith) kept-length leaves.text };
        onward = omega arith;
        same =
            sym (ap (going (standing f x out)) (drop-cons piece f.taken 0 there)
            ∙ going-byte (standing f x out) b (drop (suc f.taken) piece) room
            ∙ (λ i. going (after-byte i) (drop (sym (add-one f.taken) i) piece)));
      }

-- ---- what is carried into a feed, with zeros after the bytes that are held

module _ (c : Carried) {r : Carried} (tidied : r ≡ kept (carried_by c [])) where
  pub tidied_tidy : IsTidy r
  unfolding carried_by
  tidied_tidy = rw tidied (kept-tidy (carried_by c []) (held-short c))

  pub tidied_same : (x : Image) → carried_by r x ≡ carried_by c x
  unfolding carried_by kept
  tidied_same x = ap (λ (d : Carried). carried_by d x) tidied ∙ kept_back (carried_by c x) (held-short c)

  -- before the first byte
  pub tidied_begins : (x : Image) (piece out : List ℕ) → Goes piece (at_first (carried_by c x) out) (record { taken = 0; come = record { at = 0; carried = r } }) x out
  tidied_begins x piece out =
      record {
        stands = record { tidy = tidied_tidy; within = omega arith; fits = omega arith };
        onward = omega arith;
        same = ap (λ (d : stream.Carried). going (at_first d out) piece) (tidied_same x);
      }

-- at the end of the piece, or of the room
pub goes_end : {piece : List ℕ} {g : Going} (f : Feeding) {x : Image} (out : List ℕ) → Goes piece g f x out
    → (ltb f.taken (length piece) && leb longest_line (length out - f.come.at)) ≡ false → standing f x out ≡ going g (drop g.taken piece)
unfolding going
goes_end {piece} {g} f {x} out w e = split (ltb f.taken (length piece))
    (λ t. let n : leb longest_line (length out - f.come.at) ≡ false = sym (pick_true _ _ t) ∙ sym (and_pick (ltb f.taken (length piece)) (leb longest_line (length out - f.come.at))) ∙ e in
    sym (going-none (standing f x out) (drop f.taken piece) (omega (arith, leb-false longest_line (length out - f.come.at) n, w.stands.fits))) ∙ w.same)
    (λ t. ap (going (standing f x out)) (sym (drop_of_length-le piece (ltb-false f.taken (length piece) t))) ∙ w.same)
