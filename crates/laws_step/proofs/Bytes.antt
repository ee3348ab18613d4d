-- The bytes of a write, one after another: what any part of them changes. Assumes nothing.
use Rattle.std.proofs.Common.{None, Some, Option, ℕ}
use mathlib.Core.Path.{◌≡◌, refl, sym, ap, ◌∙◌}
use mathlib.Core.Bool.{true, false, not}
use mathlib.Core.List.{List, [], ◌∷◌}
use mathlib.Core.Logic.{inl, inr}
use Prim.Native.Nat.{ℕ, suc, ◌+◌, ◌-◌, ◌≤◌, ◌<◌}
use native.Mathlib.Omega.{arith}
use lib.Dec.{eqb, ltb}
use lib.ListN.{length, get_or, set}
use borrow.Author.Tests.{eqb-true, ltb-false, leb-true, lt-ltb, le-ltb, le-leb, not-true}
use Rattle.bits.specs.Choice.{pick, either}
use Rattle.bits.proofs.Tests.{split, clash, both_l, both_r, both_i, either_cases, either_i_l, either_i_r}
use Rattle.model.specs.Map.{Image, bank_select, page_select}
use Rattle.model.specs.Records.{stage_at, is_in_progress}
use Rattle.model.specs.State.{State, with_image}
use Rattle.model.specs.Triggers.{triggered_state}
use Rattle.model.specs.Pages.{page_start, selected_start, index_of, with_page, selected_image}
use Rattle.model.specs.Access.{without_reset, stored_state, byte_written_state, bytes_written_state, half_end}
use Rattle.model.specs.declared.lane.Trigger.{Trigger}
use Rattle.model.specs.declared.lane.StagedSet.{StagedSet}
use Rattle.model.specs.declared.lane.Working.{Working}
use Rattle.model.proofs.Starts.{start_past}
use Rattle.laws_frames.proofs.Stored.{stored_cases}
use Rattle.laws_step.specs.Changes.{ChangesOnly, or_in, in_bytes, status_set}
use Rattle.laws_step.specs.Told.{marks, newly_marked, amid, written_bytes, write_set}
use Rattle.laws_step.proofs.Frames.{neither, unless, keeps_refl, keeps_set, keeps_then, keeps_more, keeps_left, keeps_right, keeps_byte, lanes_more, lanes_bytes}
use Rattle.laws_step.proofs.Triggering.{trigger_changes, trigger_keeps_record, trigger-marks}

-- what the bytes of a write leave, for any part of its places
pub record Written (from to : ℕ) (before after : State) : Type 0 where
  pub bits : ChangesOnly (write_set from to before.working after.working) before.image after.image
  pub records : (l : ℕ) → l < 8 → newly_marked before.working after.working l ≡ false → stage_at after.working l ≡ stage_at before.working l

-- ---- one part after another

-- a lane marked by the first part stays in progress, and one marked by the second was idle all along
module _ (v w u : Working) (l : ℕ) where
  marked_first : (newly_marked w u l ≡ false → stage_at u l ≡ stage_at w l) → newly_marked v w l ≡ true → newly_marked v u l ≡ true
  unfolding newly_marked
  marked_first k e = let p : is_in_progress (stage_at w l) ≡ true = both_r _ _ e in
      both_i (both_l _ _ e) (ap is_in_progress (k (unless (λ t. clash p (not-true _ (both_l _ _ t))))) ∙ p)

  marked_second : (newly_marked v w l ≡ false → stage_at w l ≡ stage_at v l) → newly_marked w u l ≡ true → newly_marked v u l ≡ true
  unfolding newly_marked
  marked_second k e = let p : is_in_progress (stage_at w l) ≡ false = not-true _ (both_l _ _ e) in
      both_i (ap (λ g. not (is_in_progress g)) (sym (k (unless (λ t. clash (both_r _ _ t) p)))) ∙ rw p) (both_r _ _ e)

module _ (from to : ℕ) where
  set_more : (v w v' w' : Working) → ((l : ℕ) → l < 8 → newly_marked v w l ≡ true → newly_marked v' w' l ≡ true)
      → (i b : ℕ) → write_set from to v w i b ≡ true → write_set from to v' w' i b ≡ true
  unfolding write_set or_in status_set
  set_more v w v' w' h i b e = elim (either_cases _ _ e) [
    | inl t ↦ either_i_l _ _ t
    | inr t ↦ either_i_r _ _ (lanes_more _ _ _ _ i b h t)
  ]

  written_then : (a b c : State) → Written from to a b → Written from to b c → Written from to a c
  written_then a b c p q =
      record {
        bits = keeps_then (keeps_more (set_more _ _ _ _ first) p.bits) (keeps_more (set_more _ _ _ _ second) q.bits);
        records = λ l h e. q.records l h (unless (λ t. clash (second l h t) e)) ∙ p.records l h (unless (λ t. clash (first l h t) e));
      }
    where
      first : (l : ℕ) → l < 8 → newly_marked a.working b.working l ≡ true → newly_marked a.working c.working l ≡ true
      first l h = marked_first a.working b.working c.working l (q.records l h)

      second : (l : ℕ) → l < 8 → newly_marked b.working c.working l ≡ true → newly_marked a.working c.working l ≡ true
      second l h = marked_second a.working b.working c.working l (p.records l h)

  -- a part that marks nothing
  unmarked : (s : State) (y : Image) → ChangesOnly (in_bytes (written_bytes from to)) s.image y → Written from to s (with_image s y)
  unfolding write_set
  unmarked s y k = record { bits = keeps_left _ k; records = λ l h e. refl }

  -- ---- one byte

  module _ (i : ℕ) (lo : from ≤ i) (hi : i < to) where
    here : amid from to i ≡ true
    unfolding amid
    here = both_i (le-leb from i lo) (lt-ltb i to hi)

  module _ (lo : from ≤ 127) (hi : 127 < to) where
    select_byte : (x : Image) (i v : ℕ) → either (eqb i bank_select) (eqb i page_select) ≡ true → ChangesOnly (in_bytes (written_bytes from to)) x (set x i v)
    unfolding in_bytes written_bytes
    select_byte x i v e = keeps_set _ x i v (λ b. either_i_r _ _ (both_i (here 127 lo hi) e))

    page_by : (s : State) (p : Option ℕ) (v : ℕ) → ChangesOnly (in_bytes (written_bytes from to)) s.image (with_page p v s.image)
    unfolding either
    page_by s None v = keeps_then (select_byte s.image bank_select 0 refl) (select_byte _ page_select 0 refl)
    page_by s (Some start) v = select_byte s.image page_select v refl

  trigger_by : (t : Trigger) (set : StagedSet) (s : State) (v : ℕ) → Written from to s (triggered_state t set s v)
  unfolding write_set status_set newly_marked is_in_progress
  trigger_by t set s v =
      record {
        bits = keeps_right _ (keeps_more (λ j b. lanes_more _ _ _ 4 j b new) (trigger_changes t set s v));
        records = λ l h e. trigger_keeps_record t set s v l h (unless (λ m. clash (new l h m) e));
      }
    where
      new : (l : ℕ) → l < 8 → marks t set s v l ≡ true → newly_marked s.working (triggered_state t set s v).working l ≡ true
      new l h m = let r = trigger-marks t set s v l h m in both_i (rw r.0) (ap is_in_progress r.2.stage)

  byte-stored : (i v : ℕ) (s : State) → from ≤ i → i < to → Written from to s (stored_state i v s)
  unfolding selected_image in_bytes written_bytes
  byte-stored i v s lo hi = stored_cases (λ u t. Written from to s t) i v s s
      (λ e. let q : i ≡ 127 = eqb-true i 127 e in unmarked s _ (page_by (omega arith) (omega arith) s (page_start (get_or s.image bank_select 0) v) v))
      (λ kind set. trigger_by kind set s v)
      (λ w. unmarked s _ (keeps_set _ s.image i (without_reset i v) (λ b. either_i_l _ _ (both_i w (here i lo hi)))))
      (unmarked s s.image (keeps_refl _ s.image))

-- ---- the bytes of a write, in address order

-- lower addresses are places themselves
pub lower_written : (from to : ℕ) (vs : List ℕ) (a : ℕ) (s : State) → from ≤ a → a + length vs ≤ to → a + length vs ≤ 128 → Written from to s (bytes_written_state a vs s)
unfolding bytes_written_state byte_written_state index_of pick
lower_written from to [] a s lo hi e = unmarked from to s s.image (keeps_refl _ s.image)
lower_written from to (v ∷ vs) a s lo hi e =
    let b : ltb a 128 ≡ true = lt-ltb a 128 (omega arith) in
    written_then from to s (byte_written_state a v s) _
    (rw (b, pick) (byte-stored from to a v s lo (omega arith)))
    (lower_written from to vs (suc a) (byte_written_state a v s) (omega arith) (omega arith) (omega arith))

-- a write past lower memory leaves all of it, and with it the selected page
lower_bytes : (from to i : ℕ) → i < 128 → 128 ≤ from → written_bytes from to i ≡ true → ⊥
unfolding written_bytes amid
lower_bytes from to i h f e = elim (either_cases _ _ e) [
  | inl r ↦ let q : from ≤ i = leb-true from i (both_l _ _ (both_r _ _ r)) in omega arith
  | inr r ↦ let q : from ≤ 127 = leb-true from 127 (both_l _ _ (both_l _ _ r)) in omega arith
]

lower_stays : (from to : ℕ) (v w : Working) (i b : ℕ) → i < 128 → 128 ≤ from → write_set from to v w i b ≡ false
unfolding write_set or_in in_bytes status_set
lower_stays from to v w i b h f = neither
    (unless (lower_bytes from to i h f))
    (unless (λ t. let r = lanes_bytes _ _ 4 i b refl t in omega arith))

pub page_stays : (from to : ℕ) (s z : State) → 128 ≤ from → Written from to s z → selected_start z.image ≡ selected_start s.image
unfolding selected_start
page_stays from to s z f k = rw (stays 126 (omega arith), stays 127 (omega arith))
  where
    stays : (i : ℕ) → i < 128 → get_or z.image i 0 ≡ get_or s.image i 0
    stays i h = keeps_byte k.bits i (λ b. lower_stays from to s.working z.working i b h f)

upper_written : (from to start : ℕ) (vs : List ℕ) (a : ℕ) (s : State) → selected_start s.image ≡ start → 128 ≤ from → 128 ≤ a → from ≤ start + (a - 128)
    → start + (a - 128) + length vs ≤ to → Written from to s (bytes_written_state a vs s)
unfolding bytes_written_state byte_written_state index_of pick
upper_written from to start [] a s g f h lo hi = unmarked from to s s.image (keeps_refl _ s.image)
upper_written from to start (v ∷ vs) a s g f h lo hi =
    let b : ltb a 128 ≡ false = le-ltb a 128 (omega arith) in
    let k : Written from to s (byte_written_state a v s) = rw (b, pick, g) (byte-stored from to (start + (a - 128)) v s lo (omega arith)) in
    written_then from to s (byte_written_state a v s) _ k
    (upper_written from to start vs (suc a) (byte_written_state a v s) (page_stays from to s _ f k ∙ g) f (omega arith) (omega arith) (omega arith))

-- any part of an access that stays in its half
pub part_written : (from to : ℕ) (vs : List ℕ) (a : ℕ) (s : State) → from ≤ index_of s.image a → index_of s.image a + length vs ≤ to
    → a + length vs ≤ half_end a → (128 ≤ a → 128 ≤ from) → Written from to s (bytes_written_state a vs s)
unfolding index_of half_end pick
part_written from to vs a s lo hi e f = split (ltb a 128)
    (λ t. lower_written from to vs a s (rw (t, pick) at lo) (rw (t, pick) at hi) (rw (t, pick) at e))
    (λ t. let h : 128 ≤ a = ltb-false a 128 t in upper_written from to (selected_start s.image) vs a s refl (f h) h (rw (t, pick) at lo) (rw (t, pick) at hi))

-- the place of an upper address lies past lower memory
pub place_past : (x : Image) (a : ℕ) → 128 ≤ a → 128 ≤ index_of x a
unfolding index_of pick
place_past x a h = rw (le-ltb a 128 h, pick) (omega (arith, start_past x))

-- after a part of j bytes the next byte's place is the following one
pub place-moves : (a j to : ℕ) (s z : State) → a + j < half_end a → Written (index_of s.image a) to s z → index_of z.image (a + j) ≡ index_of s.image a + j
unfolding half_end index_of pick
place-moves a j to s z e k = split (ltb a 128)
    (λ t. let b : a + j < 128 = (rw (t, pick) at e) in rw (t, lt-ltb (a + j) 128 b, pick))
    (λ t. let b : 128 ≤ a = ltb-false a 128 t in
    rw (page_stays _ _ s z (place_past s.image a b) k, t, le-ltb (a + j) 128 (omega arith), pick) (omega arith))
