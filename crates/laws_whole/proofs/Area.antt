-- Whose bits the active settings are, and where they lie. Assumes nothing.
use mathlib.Core.Path.{◌≡◌, refl}
use mathlib.Core.Bool.{true}
use Prim.Native.Nat.{ℕ, ◌+◌, ◌≤◌, ◌<◌}
use native.Mathlib.Omega.{arith}
use lib.Dec.{eqb}
use lib.ListN.{get_or}
use borrow.Author.Tests.{eqb-true, eqb-false}
use Rattle.bits.specs.Choice.{both, either}
use Rattle.bits.specs.Place.{apart, covers}
use Rattle.bits.specs.Lane.{lane_field, all_apart}
use Rattle.bits.specs.Loop.{all_below}
use Rattle.bits.proofs.Tests.{split, clash}
use Rattle.bits.proofs.Places.{In, covers_in, apart-covers}
use Rattle.bits.proofs.Lanes.{table_apart}
use Rattle.bits.proofs.Loops.{any_find, any_one}
use Rattle.model.specs.Map.{setting_at, setting_offsets, setting_widths, active_set, set_length}
use Rattle.laws_frames.proofs.Registers.{setting-from, setting-to}
use Rattle.laws_whole.specs.Whole.{is_active_bit}

pub active-place : (l i b : ℕ) → is_active_bit l i b ≡ true → (k : ℕ) × (k < 8) × (covers (setting_at active_set k l) i b ≡ true)
unfolding is_active_bit
active-place l i b e = any_find 8 (λ k. covers (setting_at active_set k l) i b) e

pub place-active : (l i b k : ℕ) → k < 8 → covers (setting_at active_set k l) i b ≡ true → is_active_bit l i b ≡ true
unfolding is_active_bit
place-active l i b k h c = any_one 8 (λ k. covers (setting_at active_set k l) i b) k h c

-- no two settings share a bit: computed
settings-apart : all_apart 8 (λ k. active_set + get_or setting_offsets k 0) (λ k. get_or setting_widths k 0) ≡ true
unfolding all_apart all_below both either apart lane_field
settings-apart = refl

lanes-apart : (j l k m : ℕ) → j < 8 → l < 8 → k < 8 → m < 8 → (l ≡ m → ⊥) → apart (setting_at active_set j l) (setting_at active_set k m) ≡ true
unfolding setting_at
lanes-apart j l k m hj hl hk hm d = table_apart 8 _ _ j l k m settings-apart hj hl hk hm (λ e. d)

-- so a bit is of one lane at most
pub one_owner : (l m i b : ℕ) → l < 8 → m < 8 → is_active_bit l i b ≡ true → is_active_bit m i b ≡ true → l ≡ m
one_owner l m i b hl hm p q = split (eqb l m) (λ e. eqb-true l m e)
    (λ e. let r = active-place l i b p in let s = active-place m i b q in
    absurd (clash s.2 (apart-covers (setting_at active_set r.0 l) (setting_at active_set s.0 m) i b
    (lanes-apart r.0 l s.0 m r.1 hl s.1 hm (eqb-false l m e)) r.2)))

-- and it lies in the active settings' bytes
pub owned_here : (l i b : ℕ) → l < 8 → is_active_bit l i b ≡ true → (active_set ≤ i) × (i < active_set + set_length)
owned_here l i b hl p =
    let r = active-place l i b p in
    let h : In (setting_at active_set r.0 l) i b = covers_in _ i b r.2 in
    (omega (arith, h.here, setting-from active_set r.0 l r.1 hl), omega (arith, h.here, setting-to active_set r.0 l r.1 hl))
