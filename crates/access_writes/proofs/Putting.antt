-- A plain write leaves the lanes' records, and is put from its first place on. Assumes nothing.
use Rattle.std.proofs.Common.{None, Some}
use mathlib.Core.Path.{◌≡◌, refl, sym, ap, ◌∙◌}
use mathlib.Core.Bool.{Bool, true, false, not, ◌||◌}
use mathlib.Core.List.{List, [], ◌∷◌}
use Prim.Native.Nat.{ℕ, suc, ◌+◌, ◌-◌, ◌≤◌, ◌<◌}
use native.Mathlib.Nat.{add-zero, add-suc}
use native.Mathlib.Numerals.{add-one}
use native.Mathlib.Omega.{arith}
use lib.Dec.{eqb, leb, ltb}
use lib.ListN.{length, get_or, drop}
use lib.Seq.{get_or-set_other, drop-cons, drop-length}
use borrow.Author.Tests.{lt-ltb, le-ltb, ltb-false, leb-false, eqb-true, ne_eqb, not-true}
use Rattle.bits.specs.Choice.{pick, both, either}
use Rattle.bits.proofs.Tests.{split, not-not, not-ltb, either_l, either_r, or_either}
use Rattle.model.specs.Map.{Image, module_controls, page_select, apply_dpinit0, apply_immediate0, apply_dpinit1, apply_immediate1, trigger_at, writable}
use Rattle.model.specs.Pages.{selected_start, index_of}
use Rattle.model.specs.Access.{without_reset, stored_by, stored_state, byte_written_state, bytes_written_state, half_end}
use Rattle.model.specs.State.{State, state_with}
use Rattle.model.specs.Triggers.{triggered_state}
use Rattle.model.specs.declared.lane.Apply.{Apply}
use Rattle.model.specs.declared.lane.Working.{Working}
use Rattle.model.proofs.Starts.{start_past}
use Rattle.model.proofs.Triggers.{at_row, no_trigger_below}
use Rattle.map_triggers.specs.Meets.{meets_triggers}
use Rattle.map_triggers.proofs.Triggers.{clear_place}
use Rattle.access_writes.specs.Puts.{is_plain, byte_put, bytes_put}

-- a byte of another index than 26 is stored whole
whole-byte : (i v : ℕ) → (i ≡ module_controls → ⊥) → without_reset i v ≡ v
unfolding without_reset pick
whole-byte i v n = rw (ne_eqb i module_controls n, pick)

-- a trigger's place
pub stored-trigger : (i v : ℕ) (s : State) (a : Apply) → trigger_at i ≡ Some a → stored_state i v s ≡ triggered_state a.trigger a.set s v
unfolding stored_state stored_by pick
stored-trigger i v s a e = let t = at_row i a e in rw (ne_eqb i page_select (λ q. omega (arith, t.late)), e, pick, stored_by)

-- a place that is no trigger's
pub stored_other : (i v : ℕ) (x : Image) (w : Working) → trigger_at i ≡ None → stored_state i v (state_with x w) ≡ state_with (byte_put i (without_reset i v) x) w
unfolding stored_state stored_by byte_put pick
stored_other i v x w n = split (eqb i page_select)
    (λ e. let h : i ≡ page_select = eqb-true _ _ e in rw (e, pick, whole-byte i v (λ t. omega arith)))
    (λ e. split (writable i) (λ f. rw (e, n, f, pick, stored_by)) (λ f. rw (e, n, f, pick, stored_by)))

-- .. and lies past lower 26
stored_plain : (i v : ℕ) (x : Image) (w : Working) → module_controls < i → trigger_at i ≡ None → stored_state i v (state_with x w) ≡ state_with (byte_put i v x) w
stored_plain i v x w h n = stored_other i v x w n ∙ rw (whole-byte i v (λ e. omega arith))

-- a byte put past lower memory leaves the selected page
page_kept : (i v : ℕ) (x : Image) → 128 ≤ i → selected_start (byte_put i v x) ≡ selected_start x
unfolding byte_put selected_start pick
page_kept i v x h = split (writable i)
    (λ f. rw (ne_eqb i 127 (λ e. omega arith), f, pick, get_or-set_other x i 126 v 0 (omega arith), get_or-set_other x i 127 v 0 (omega arith)))
    (λ f. rw (ne_eqb i 127 (λ e. omega arith), f, pick))

-- in lower memory there is no trigger, and an address is its own place
lower_put : (a : ℕ) (vs : List ℕ) (x : Image) (w : Working) → module_controls < a → a + length vs ≤ 128
    → bytes_written_state a vs (state_with x w) ≡ state_with (bytes_put a vs x) w
unfolding bytes_written_state byte_written_state bytes_put index_of pick
lower_put a [] x w l h = refl
lower_put a (v ∷ vs) x w l h =
    rw (lt-ltb a 128 (omega arith), pick, stored_plain a v x w l (no_trigger_below a (omega arith)))
    (lower_put (suc a) vs (byte_put a v x) w (omega arith) (omega arith))

-- ---- n places from i on, none of them a trigger's

abbrev Clear : ℕ → ℕ → Type 0
Clear i n = (k : ℕ) → k < n → trigger_at (i + k) ≡ None

-- the code's tests
pub plain_by : (i j n : ℕ) (m : Bool) → m ≡ meets_triggers i n → i ≡ j → not (m || leb i module_controls) ≡ is_plain j n
unfolding is_plain
plain_by i j n m h e = ap not (or_either _ _ ∙ ap (λ t. either t (leb i module_controls)) h) ∙ ap (λ k. is_plain k n) e

-- a plain write's are such, and lie past lower 26
clear_by : (i n : ℕ) → is_plain i n ≡ true → Clear i n
unfolding is_plain
clear_by i n e k h = clear_place i n k (either_l _ _ (not-true _ e)) h

pub plain_past : (i n : ℕ) → is_plain i n ≡ true → module_controls < i
unfolding is_plain
plain_past i n e = leb-false i module_controls (either_r _ _ (not-true _ e))

clear_here : (i n : ℕ) → Clear i (suc n) → trigger_at i ≡ None
clear_here i n c = ap trigger_at (sym (add-zero i)) ∙ c 0 (omega arith)

clear_next : (i n : ℕ) → Clear i (suc n) → Clear (suc i) n
clear_next i n c k h = let e : suc i + k ≡ i + suc k = omega arith in ap trigger_at e ∙ c (suc k) (omega arith)

-- in upper memory the page stays selected
upper_put : (a i : ℕ) (vs : List ℕ) (x : Image) (w : Working) → 128 ≤ a → i ≡ selected_start x + (a - 128) → Clear i (length vs)
    → bytes_written_state a vs (state_with x w) ≡ state_with (bytes_put i vs x) w
unfolding bytes_written_state byte_written_state bytes_put index_of pick
upper_put a i [] x w h e c = refl
upper_put a i (v ∷ vs) x w h e c =
    let n = clear_here i (length vs) c in
    let l : 128 ≤ i = omega (arith, start_past x) in
    rw (le-ltb a 128 h, pick, ← e, stored_plain i v x w (omega arith) n)
    (upper_put (suc a) (suc i) vs (byte_put i v x) w (omega arith) (rw (page_kept i v x l) (omega arith)) (clear_next i (length vs) c))

-- a plain write
pub plain_put : (a : ℕ) (vs : List ℕ) (x : Image) (w : Working) → a + length vs ≤ half_end a → is_plain (index_of x a) (length vs) ≡ true
    → bytes_written_state a vs (state_with x w) ≡ state_with (bytes_put (index_of x a) vs x) w
unfolding index_of half_end pick
plain_put a vs x w h m = split (ltb a 128)
    (λ t. let l : a + length vs ≤ 128 = rw (t, pick) at h in rw (t, pick) (lower_put a vs x w (plain_past a _ (rw (t, pick) at m)) l))
    (λ f. rw (f, pick) (upper_put a (selected_start x + (a - 128)) vs x w (ltb-false a 128 f) refl (clear_by _ _ (rw (f, pick) at m))))

-- ---- a turn of the loop: the bytes from k on are still to be put, from place i on

module _ (bytes : List ℕ) where
  pub put_begin : (start offset : ℕ) (x : Image) → bytes_put (start + offset) bytes x ≡ bytes_put (start + (offset + 0)) (drop 0 bytes) x
  put_begin start offset x = rw add-zero

  pub put_turn : (i j k : ℕ) (x y : Image) → k < length bytes → j ≡ suc i → y ≡ byte_put i (get_or bytes k 0) x
      → bytes_put i (drop k bytes) x ≡ bytes_put j (drop (k + 1) bytes) y
  unfolding bytes_put
  put_turn i j k x y l e q = rw (drop-cons bytes k 0 l, add-one, e, q)

  pub put-end : (i : ℕ) (x : Image) → bytes_put i (drop (length bytes) bytes) x ≡ x
  unfolding bytes_put
  put-end i x = rw (drop-length bytes)

-- neither pair of triggers is met
unmet : (p q r : Bool) → not (either (either (both p false) (both q false)) r) ≡ not r
unfolding both either
unmet true true r = refl
unmet true false r = refl
unmet false true r = refl
unmet false false r = refl

-- a write in lower memory is plain past lower 26
pub lower_plain : (x : Image) (a n : ℕ) → a < 128 → a + n ≤ half_end a → ltb module_controls a ≡ is_plain (index_of x a) n
unfolding is_plain meets_triggers index_of half_end pick
lower_plain x a n l h =
    let t : ltb a 128 ≡ true = lt-ltb a 128 l in
    let fits : a + n ≤ 128 = rw (t, pick) at h in
    rw (t, pick, le-ltb apply_dpinit0 (a + n) (omega arith), le-ltb apply_dpinit1 (a + n) (omega arith))
    (sym (unmet (leb a apply_immediate0) (leb a apply_immediate1) (leb a module_controls) ∙ ap not (sym (not-ltb module_controls a)) ∙ not-not (ltb module_controls a)))
