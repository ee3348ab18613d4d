-- A byte in the middle of a write: once stored, the bytes written after it leave it. Assumes nothing.
use mathlib.Core.Path.{◌≡◌, refl, ap, ◌∙◌, subst}
use mathlib.Core.Bool.{true, false}
use mathlib.Core.List.{List, [], ◌∷◌, ◌++◌}
use mathlib.Core.Logic.{inl, inr}
use Prim.Native.Nat.{ℕ, suc, ◌+◌, ◌≤◌, ◌<◌}
use native.Mathlib.Nat.{add-zero, add-suc}
use native.Mathlib.Omega.{arith}
use lib.Dec.{eqb, ltb}
use lib.ListN.{length, get_or, set, length-append}
use lib.Seq.{get_or-set_same}
use borrow.Author.Tests.{eqb-true, ltb-true, ltb-false, leb-true, lt-ltb, le-ltb}
use Rattle.bits.specs.Choice.{pick, both, either}
use Rattle.bits.proofs.Tests.{split, clash, both_l, both_r, either_cases}
use Rattle.model.specs.Map.{page_select, in_ranges, writable, image_length}
use Rattle.model.specs.State.{State, with_image}
use Rattle.model.specs.Pages.{index_of}
use Rattle.model.proofs.Triggers.{no_trigger-stored}
use Rattle.model.specs.Access.{without_reset, stored_by, stored_state, byte_written_state, bytes_written_state, half_end}
use Rattle.model.specs.declared.lane.Working.{Working}
use Rattle.laws_step.specs.Changes.{or_in, in_bytes, status_set}
use Rattle.laws_step.specs.Told.{amid, written_bytes, write_set}
use Rattle.laws_step.proofs.Frames.{neither, unless, keeps_byte, lanes_bytes}
use Rattle.laws_step.proofs.Places.{writable_in, writable-out}
use Rattle.laws_step.proofs.Bytes.{Written, part_written, place_past, place-moves}

-- bytes written in two parts, one after the other
pub bytes-append : (a : ℕ) (us vs : List ℕ) (s : State) → bytes_written_state a (us ++ vs) s ≡ bytes_written_state (a + length us) vs (bytes_written_state a us s)
unfolding bytes_written_state
bytes-append a [] vs s = rw add-zero
bytes-append a (u ∷ us) vs s = let e : a + suc (length us) ≡ suc a + length us = omega arith in rw e (bytes-append (suc a) us vs (byte_written_state a u s))

-- a writable byte is neither 127 nor a trigger, and keeps what is written to it
stored-writable : (i v : ℕ) (s : State) → writable i ≡ true → stored_state i v s ≡ with_image s (set s.image i (without_reset i v))
unfolding stored_state stored_by writable in_ranges both either pick
stored-writable i v s w = split (eqb i page_select)
    (λ e. absurd (clash w (ap writable (eqb-true i 127 e))))
    (λ e. rw (e, no_trigger-stored i w, w, pick, stored_by))

-- addresses of one half end at one place
half_stays : (a b : ℕ) → a ≤ b → b < half_end a → half_end b ≡ half_end a
unfolding half_end pick
half_stays a b l e = split (ltb a 128)
    (λ t. let k : b < 128 = (rw (t, pick) at e) in rw (t, lt-ltb b 128 k))
    (λ t. rw (t, le-ltb b 128 (omega (arith, ltb-false a 128 t))))

-- later bytes may change an earlier writable one only where it is 126 and 127 is among them
earlier_bytes : (i to : ℕ) → writable i ≡ true → (i ≡ 126 → to ≤ 127) → written_bytes (suc i) to i ≡ true → ⊥
unfolding written_bytes amid
earlier_bytes i to w q e = elim (either_cases _ _ e) [
  | inl t ↦ omega (arith, leb-true (suc i) i (both_l _ _ (both_r _ _ t)))
  | inr t ↦ elim (either_cases (eqb i 126) (eqb i 127) (both_r _ _ t)) [
    | inl f ↦ omega (arith, q (eqb-true i 126 f), ltb-true 127 to (both_r _ _ (both_l _ _ t)))
    | inr f ↦ omega (arith, eqb-true i 127 f, leb-true (suc i) 127 (both_l _ _ (both_l _ _ t)))
  ]
]

earlier_stays : (i to : ℕ) (v w : Working) (b : ℕ) → writable i ≡ true → (i ≡ 126 → to ≤ 127) → write_set (suc i) to v w i b ≡ false
unfolding write_set or_in in_bytes status_set
earlier_stays i to v w b e q = neither
    (unless (earlier_bytes i to e q))
    (unless (λ t. let r = lanes_bytes _ _ 4 i b refl t in writable-out i e (omega arith) (omega arith)))

-- the bytes after it, if there are any, begin at the next place
after_it : (a i : ℕ) (rest : List ℕ) (z : State) → (0 < length rest → (index_of z.image a ≡ suc i) × (a + length rest ≤ half_end a) × (128 ≤ a → 128 ≤ suc i))
    → writable i ≡ true → (i ≡ 126 → length rest ≡ 0) → get_or (bytes_written_state a rest z).image i 0 ≡ get_or z.image i 0
unfolding bytes_written_state
after_it a i [] z p w q = refl
after_it a i (r ∷ rest) z p w q =
    let g = p (omega arith) in
    keeps_byte (part_written (suc i) (suc i + length (r ∷ rest)) (r ∷ rest) a z (omega arith) (omega arith) g.1 g.2).bits i
    (λ b. earlier_stays i _ _ _ b w (λ f. absurd (omega (arith, q f))))

module _ (a k : ℕ) (before rest : List ℕ) (v : ℕ) (s : State) (size : length before ≡ k) (e : a + k + suc (length rest) ≤ half_end a) where
  -- the state when its turn comes, and the state after it
  until : State
  until = bytes_written_state a before s

  with_it : State
  with_it = byte_written_state (a + k) v until

  so_far : Written (index_of s.image a) (index_of s.image a + k) s until
  unfolding until
  so_far = part_written _ _ before a s (omega arith) (omega arith) (omega arith) (place_past s.image a)

  and_it : Written (index_of s.image a) (index_of s.image a + suc k) s with_it
  unfolding with_it until bytes_written_state
  and_it = let r : length (before ++ (v ∷ [])) ≡ suc k = simp length-append (omega arith) in
      subst (Written (index_of s.image a) (index_of s.image a + suc k) s)
      (bytes-append a before (v ∷ []) s ∙ ap (λ n. byte_written_state (a + n) v until) size)
      (part_written _ _ (before ++ (v ∷ [])) a s (omega arith) (omega arith) (omega arith) (place_past s.image a))

  next_place : 0 < length rest
      → (index_of with_it.image (suc (a + k)) ≡ suc (index_of s.image a + k)) × (suc (a + k) + length rest ≤ half_end (suc (a + k)))
      × (128 ≤ suc (a + k) → 128 ≤ suc (index_of s.image a + k))
  unfolding half_end pick
  next_place l = (
    (rw (add-suc a k, add-suc (index_of s.image a) k) at (place-moves a (suc k) _ s with_it (omega arith) and_it)),
    rw (half_stays a (suc (a + k)) (omega arith) (omega arith)) (omega arith),
    λ b. split (ltb a 128)
        (λ t. absurd (omega (arith, (rw (t, pick) at e))))
        (λ t. omega (arith, place_past s.image a (ltb-false a 128 t))),
  )

  stored_it : writable (index_of s.image a + k) ≡ true → with_it ≡ with_image until (set until.image (index_of s.image a + k) (without_reset (index_of s.image a + k) v))
  unfolding with_it byte_written_state
  stored_it w = rw (place-moves a k _ s until (omega arith) so_far) (stored-writable (index_of s.image a + k) v until w)

  pub in_the_middle : length s.image ≡ image_length → writable (index_of s.image a + k) ≡ true → (index_of s.image a + k ≡ 126 → length rest ≡ 0)
      → get_or (bytes_written_state a (before ++ (v ∷ rest)) s).image (index_of s.image a + k) 0 ≡ without_reset (index_of s.image a + k) v
  unfolding bytes_written_state until with_it
  in_the_middle full w q =
      ap (λ z. get_or z.image (index_of s.image a + k) 0)
      (bytes-append a before (v ∷ rest) s ∙ ap (λ n. bytes_written_state (suc (a + n)) rest (byte_written_state (a + n) v (bytes_written_state a before s))) size)
      ∙ after_it (suc (a + k)) (index_of s.image a + k) rest with_it next_place w q
      ∙ ap (λ z. get_or z.image (index_of s.image a + k) 0) (stored_it w)
      ∙ get_or-set_same until.image (index_of s.image a + k) (without_reset (index_of s.image a + k) v) 0 (omega (arith, so_far.bits.size, writable_in (index_of s.image a + k) w))
