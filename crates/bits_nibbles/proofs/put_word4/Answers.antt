use mathlib.Core.Path.{◌≡◌, refl, sym, ◌∙◌}
use mathlib.Core.List.{List, [], ◌∷◌, append_assoc}
use Prim.Native.Nat.{ℕ, ◌+◌, ◌/◌, ◌%◌, ◌≤◌}
use native.Mathlib.Numerals.{unary_clauses}
use native.Mathlib.Omega.{arith}
use borrow.Rule.Slice.PartMut.{put_mid}
use lib.ListN.{length, set, take, drop}
use lib.Seq.{drop-drop, sets-eq}
use Rattle.bits_nibbles.specs.Nibbles.{put_low4}
use Rattle.bits_nibbles.proofs.put_word4.Goals as goal

-- four bytes in the place of four are four stores
four_stores : (x ys : List ℕ) (at k p q r s : ℕ) → k ≡ 4 → at + 4 ≤ length x → ys ≡ p ∷ q ∷ r ∷ s ∷ []
    → put_mid at k x ys ≡ set (set (set (set x at p) (at + 1) q) (at + 2) r) (at + 3) s
four_stores x ys at k p q r s e h b =
    let zs = p ∷ q ∷ r ∷ s ∷ [] in
    rw (e, b, drop-drop) (simp unary_clauses (simp unary_clauses at (sym (sets-eq zs x at h ∙ append_assoc (take at x) zs (drop (at + 4) x)))))

pub returns : goal.returns
unfolding put_low4
returns c =
    let e : c.args.v / 16777216 % 256 ≡ c.args.v / 16777216 = omega arith in
    rw (← e) (four_stores _ _ _ _ _ _ _ _ (omega arith) c.requires (c.copy_from_slice.ensures.after ∙ rw c.to_le_bytes.ensures refl))
