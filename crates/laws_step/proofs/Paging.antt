-- The page rule: what a write that includes 127 leaves in 126 and 127. Assumes nothing.
use Rattle.std.proofs.Common.{None, Some}
use mathlib.Core.Path.{◌≡◌, refl, sym, ap, ◌∙◌}
use mathlib.Core.Bool.{Bool, true, false}
use mathlib.Core.List.{List, [], ◌∷◌}
use mathlib.Core.Logic.{inl, inr}
use Prim.Native.Nat.{ℕ, zero, suc, ◌+◌, ◌-◌, ◌≤◌, ◌<◌}
use native.Mathlib.Omega.{arith}
use lib.Dec.{eqb, ltb}
use lib.ListN.{length, get_or, set, take, length-set}
use lib.Seq.{get_or-set_same, get_or-set_other, length-take-le, take-suc}
use borrow.Author.Tests.{eqb-true, eq-eqb, ltb-true, lt-ltb, le-leb, lt-leb}
use Rattle.bits.specs.Choice.{pick, only_if, both, either, implies}
use Rattle.bits.specs.Loop.{any_below, any_of}
use Rattle.bits.proofs.Tests.{clash, bool_eq, either_assoc, either-none}
use Rattle.bits.proofs.Loops.{any_one, any_find}
use Rattle.bits.proofs.Members.{any_of_i}
use Rattle.model.specs.Map.{Image, image_length, bank_select, page_select, in_ranges, writable}
use Rattle.model.specs.State.{State, with_image}
use Rattle.model.specs.Pages.{pages, page_start, index_of, with_page, selected_image}
use Rattle.model.specs.Access.{without_reset, stored_state, byte_written_state, bytes_written_state, ended_state, half_end}
use Rattle.model.specs.Flags.{settled_image}
use Rattle.model.specs.Step.{event, event_effect, done_step}
use Rattle.model.specs.declared.answer.Answer.TheVariants.{Done}
use Rattle.model.specs.declared.event.Call.TheVariants.{Write}
use Rattle.model.proofs.Starts.{is_page, found}
use Rattle.laws_step.specs.Told.{step_on, is_supported, bank_at, PageRule}
use Rattle.laws_step.proofs.Settling.{settled_byte}
use Rattle.laws_step.proofs.Stepped.{done_step_lem}
use Rattle.laws_step.proofs.Bytes.{lower_written}
use Rattle.laws_step.proofs.Middle.{bytes-append, in_the_middle}
use Rattle.laws_step.proofs.Commanding.{lower_runs-none, later_resets-none}
use Rattle.laws_step.proofs.Writing.{in_half, in_limit}

-- ---- the lookup finds the pages that are supported, and no other

both_always : (a : Bool) → both a true ≡ a
unfolding both
both_always true = refl
both_always false = refl

both_swap : (a b : Bool) → both a b ≡ both b a
unfolding both
both_swap true b = sym (both_always b)
both_swap false true = refl
both_swap false false = refl

either-both : (a b c : Bool) → both (either a b) c ≡ either (both a c) (both b c)
unfolding both either
either-both true b true = refl
either-both true true false = refl
either-both true false false = refl
either-both false b c = refl

both-either : (a b c : Bool) → both a (either b c) ≡ either (both b a) (both c a)
both-either a b c = both_swap a (either b c) ∙ either-both b c a

-- a number below n is one of them
ltb_any : (n k : ℕ) → ltb k n ≡ any_below n (eqb k)
ltb_any n k = bool_eq _ _
    (λ e. any_one n (eqb k) k (ltb-true k n e) (eq-eqb k k refl))
    (λ e. let f = any_find n (eqb k) e in lt-ltb k n (omega (arith, eqb-true k f.0 f.2)))

supported-listed : (bank page : ℕ) → is_supported bank page ≡ any_of pages (is_page bank page)
unfolding is_supported is_page any_of any_below either implies
supported-listed bank page = rw (ltb_any 3 page) (simp (either_assoc, both_always, both-either, either-both, either-none) refl)

-- ---- bytes 126 and 127 after a byte v to 127

module _ (x : Image) (v : ℕ) (size : length x ≡ image_length) where
  found_page : (start : ℕ) → page_start (get_or x 126 0) v ≡ Some start → (get_or (selected_image v x) 127 0 ≡ v) × (get_or (selected_image v x) 126 0 ≡ get_or x 126 0)
  unfolding selected_image
  found_page start e = (
    rw (e, with_page) (get_or-set_same x 127 v 0 (omega arith)),
    rw (e, with_page) (get_or-set_other x 127 126 v 0 (omega arith)),
  )

  reset_page : page_start (get_or x 126 0) v ≡ None → (get_or (selected_image v x) 127 0 ≡ 0) × (get_or (selected_image v x) 126 0 ≡ 0)
  unfolding selected_image
  reset_page e = (
    rw (e, with_page) (get_or-set_same (set x 126 0) 127 0 0 (omega (arith, length-set x 126 0))),
    rw (e, with_page) (get_or-set_other (set x 126 0) 127 126 0 0 (omega arith) ∙ get_or-set_same x 126 0 0 (omega arith)),
  )

  rule : PageRule (get_or x 126 0) v (selected_image v x)
  unfolding page_start
  rule = let l = supported-listed (get_or x 126 0) v in elim (found (get_or x 126 0) v pages) [
    | inl (p, m, t, f) ↦ record {
      supported = λ e. found_page p.start f;
      otherwise = λ e. absurd (clash (any_of_i _ pages p m t) (sym l ∙ e));
    }
    | inr (n, f) ↦ record { supported = λ e. absurd (clash (sym l ∙ e) n); otherwise = λ e. reset_page f }
  ]

  rule_settled : PageRule (get_or x 126 0) v (settled_image (selected_image v x))
  rule_settled = record {
    supported = λ e. let r = rule.supported e in (settled_byte _ 127 (omega arith) ∙ r.0, settled_byte _ 126 (omega arith) ∙ r.1);
    otherwise = λ e. let r = rule.otherwise e in (settled_byte _ 127 (omega arith) ∙ r.0, settled_byte _ 126 (omega arith) ∙ r.1);
  }

-- ---- a write that comes to 127

module _ (s : State) (a k : ℕ) (bytes : List ℕ) (size : length s.image ≡ image_length) (n : suc k ≤ length bytes) (e : a + k ≡ page_select) where
  fits : length (take k bytes) ≡ k
  fits = length-take-le k bytes (omega arith)

  -- the state when its turn comes
  until : State
  until = bytes_written_state a (take k bytes) s

  until-size : length until.image ≡ image_length
  unfolding until
  until-size = (lower_written a 127 (take k bytes) a s (omega arith) (omega (arith, fits)) (omega (arith, fits))).bits.size ∙ size

  last_byte : bytes_written_state a (take (suc k) bytes) s ≡ with_image until (selected_image (get_or bytes k 0) until.image)
  unfolding until bytes_written_state byte_written_state stored_state index_of pick
  last_byte = ap (λ vs. bytes_written_state a vs s) (take-suc bytes k 0 (omega arith))
      ∙ bytes-append a (take k bytes) (get_or bytes k 0 ∷ []) s
      ∙ rw (fits, e)

-- 126 then holds the bank
bank_until : (s : State) (a k : ℕ) (bytes : List ℕ) → length s.image ≡ image_length → suc k ≤ length bytes → a + k ≡ page_select
    → get_or (bytes_written_state a (take k bytes) s).image bank_select 0 ≡ bank_at s.image a bytes
unfolding bytes_written_state bank_at index_of half_end writable in_ranges both either pick without_reset
bank_until s a zero bytes size n e = rw (lt-leb a 126 (omega arith), pick)
bank_until s a (suc k) bytes size n e =
    let q : 126 - a ≡ k = omega arith in
    let p : index_of s.image a + k ≡ 126 = rw (lt-ltb a 128 (omega arith), pick) (omega arith) in
    rw (le-leb a 126 (omega arith), pick, q, take-suc bytes k 0 (omega arith))
    (rw p at (in_the_middle a k (take k bytes) [] (get_or bytes k 0) s (length-take-le k bytes (omega arith))
    (rw (lt-ltb a 128 (omega arith), pick) (omega arith)) size (rw p) (λ f. refl)))

-- a write that is done and that includes 127, its last byte then, leaves 126 and 127 by the page rule
pub page_rule : (room : ℕ) (s : State) (address count : ℕ) (bytes : List ℕ) → length s.image ≡ image_length → count ≤ length bytes
    → (step_on room s (Write address count) bytes).answer ≡ Done → address ≤ page_select → page_select < address + count
    → PageRule (bank_at s.image address bytes) (get_or bytes (page_select - address) 0) (step_on room s (Write address count) bytes).state.image
unfolding done_step event_effect ended_state only_if half_end until pick
page_rule room s address count bytes size n d lo hi =
    let k = 127 - address in
    let end : address + count ≤ 128 = rw (lt-ltb address 128 (omega arith), pick) at (in_half room s bytes address count d) in
    let c : count ≡ suc k = omega arith in
    let e : address + k ≡ 127 = omega arith in
    let m : suc k ≤ length bytes = omega arith in
    rw (done_step_lem room s (event (Write address count) bytes) d, later_resets-none address _ count (omega (arith, in_limit room s bytes address count d)), lower_runs-none address count _ (omega arith), pick, only_if, c, last_byte s address k bytes size m e, ← (bank_until s address k bytes size m e))
    (rule_settled (until s address k bytes size m e).image (get_or bytes k 0) (until-size s address k bytes size m e))
