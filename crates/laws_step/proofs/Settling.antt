-- Settling lower 3.0: it changes that bit alone, and the bit is 0 exactly when an unmasked flag bit is 1. Assumes nothing.
use mathlib.Core.Path.{◌≡◌, refl, sym, ap, ◌∙◌}
use mathlib.Core.Bool.{Bool, true, false, not}
use mathlib.Core.List.{List, [], ◌∷◌}
use mathlib.Core.Logic.{◌↔◌}
use Prim.Native.Nat.{ℕ, ◌+◌, ◌<◌}
use native.Mathlib.Omega.{arith}
use lib.ListN.{length, get_or}
use borrow.Author.Tests.{eqb-true, eq-eqb, ne_eqb, not-true}
use Rattle.bits.specs.Choice.{pick, both, either}
use Rattle.bits.specs.Lane.{lane_field}
use Rattle.bits.specs.Loop.{tab, any_of}
use Rattle.bits.specs.Place.{get, put, digit, covers}
use Rattle.bits.proofs.Tests.{split, clash, both_l, both_r, both_i, either_l, either_r}
use Rattle.bits.proofs.Places.{get-put-fits, put-put, put_got, covers_in}
use Rattle.bits.proofs.Loops.{any_one, any_find, any_ext}
use Rattle.bits.proofs.Members.{any_of_i, any_of_find, any_of-none, any_of_ext}
use Rattle.model.specs.Map.{Image, module_state, interrupt_bit, active_set, setting_at, setting_offsets, setting_widths, FlagPair, flag_pairs, Range, range, in_ranges}
use Rattle.model.specs.Flags.{is_unmasked, interrupts, settled_image}
use Rattle.laws_step.specs.Changes.{Bits, ChangesOnly, interrupt_set}
use Rattle.laws_step.specs.Told.{UnmaskedFlag, Settled}
use Rattle.laws_step.proofs.Frames.{unless, keeps_put, keeps_get, keeps_byte}
use Rattle.laws_step.proofs.Within.{Within, within-place}

-- ---- what leaves the flags alone

-- no flag byte and no mask byte lies in the ranges
unfoldable pub spares_flags : List Range → Bool
spares_flags rs = not (any_of flag_pairs (λ p. either (in_ranges rs p.flag) (in_ranges rs p.mask)))

-- a change within such ranges leaves what the flags tell
unmasked_kept : (x y : Image) (p : FlagPair) (b : ℕ) → digit y p.flag b ≡ digit x p.flag b → digit y p.mask b ≡ digit x p.mask b
    → is_unmasked y p b ≡ is_unmasked x p b
unfolding is_unmasked
unmasked_kept x y p b f m = rw (f, m)

interrupts-kept : (rs : List Range) → spares_flags rs ≡ true → {may : Bits} {x y : Image} → ChangesOnly may x y → Within rs may → interrupts y ≡ interrupts x
unfolding spares_flags interrupts
interrupts-kept rs s {x = x} {y = y} k w = any_of_ext _ _ flag_pairs (λ p m. any_ext 8 _ _ (λ b l.
    let o = any_of-none _ flag_pairs p (not-true _ s) m in
    unmasked_kept x y p b
    (k.others p.flag b (unless (λ t. clash (w p.flag b t) (either_l _ _ o))))
    (k.others p.mask b (unless (λ t. clash (w p.mask b t) (either_r _ _ o))))))

-- ---- settling

interrupt_within : Within (range module_state module_state ∷ []) interrupt_set
unfolding interrupt_set in_ranges both either
interrupt_within = within-place (range module_state module_state ∷ []) interrupt_bit refl

module _ (x : Image) where
  pub settled_changes : ChangesOnly interrupt_set x (settled_image x)
  unfolding settled_image interrupt_set
  settled_changes = keeps_put _ x interrupt_bit _ (λ i b e. e)

  -- the bit is in no flag byte and in no mask byte
  pub interrupts_settled : interrupts (settled_image x) ≡ interrupts x
  unfolding spares_flags any_of tab in_ranges both either
  interrupts_settled = interrupts-kept (range module_state module_state ∷ []) refl settled_changes interrupt_within

  -- settling a second time changes nothing
  pub settled_twice : settled_image (settled_image x) ≡ settled_image x
  unfolding settled_image
  settled_twice =
      ap (λ t. put (settled_image x) interrupt_bit (pick t 0 1)) interrupts_settled
      ∙ put-put x interrupt_bit (pick (interrupts x) 0 1) (pick (interrupts x) 0 1)

  pub bit_settled : 3 < length x → get (settled_image x) interrupt_bit ≡ pick (interrupts x) 0 1
  unfolding settled_image pick
  bit_settled h = get-put-fits x interrupt_bit _ h (split (interrupts x) (λ e. rw (e, pick) (omega arith)) (λ e. rw (e, pick) (omega arith)))

-- what lies past byte 3 stays
pub past_interrupt : (i b : ℕ) → 3 < i → interrupt_set i b ≡ false
unfolding interrupt_set covers both
past_interrupt i b h = rw (ne_eqb 3 i (omega arith), both)

pub settled_lane : (x : Image) (base w l : ℕ) → 3 < base → get (settled_image x) (lane_field base w l) ≡ get x (lane_field base w l)
unfolding lane_field
settled_lane x base w l h = keeps_get (settled_changes x) (lane_field base w l) (λ i b c.
    past_interrupt i b (omega (arith, (covers_in (lane_field base w l) i b c).here)))

pub settled_setting : (x : Image) (k l : ℕ) → get (settled_image x) (setting_at active_set k l) ≡ get x (setting_at active_set k l)
unfolding setting_at
settled_setting x k l = settled_lane x (active_set + get_or setting_offsets k 0) (get_or setting_widths k 0) l (omega arith)

pub settled_byte : (x : Image) (i : ℕ) → 3 < i → get_or (settled_image x) i 0 ≡ get_or x i 0
settled_byte x i h = keeps_byte (settled_changes x) i (λ b. past_interrupt i b h)

-- an image whose lower 3.0 is right already is settled
pub settled_if : (x : Image) → get x interrupt_bit ≡ pick (interrupts x) 0 1 → Settled x
unfolding settled_image
settled_if x e = ap (put x interrupt_bit) (sym e) ∙ put_got x interrupt_bit

-- .. and stays so where neither it nor a flag nor a mask lies within what is changed
unfoldable pub spares_interrupt : List Range → Bool
spares_interrupt rs = both (spares_flags rs) (not (in_ranges rs module_state))

pub settled_stays : (rs : List Range) → spares_interrupt rs ≡ true → {may : Bits} {x y : Image} → ChangesOnly may x y → Within rs may
    → 3 < length x → Settled x → Settled y
unfolding spares_interrupt
settled_stays rs s {x = x} {y = y} k w h e = settled_if y
    (keeps_get k interrupt_bit (λ i b c. unless (λ t. clash (rw (← (covers_in interrupt_bit i b c).here) at (w i b t)) (not-true _ (both_r _ _ s))))
    ∙ ap (λ z. get z interrupt_bit) (sym e) ∙ bit_settled x h ∙ ap (λ t. pick t 0 1) (sym (interrupts-kept rs (both_l _ _ s) k w)))

-- the test of the model is the plain statement
pub unmasked : (x : Image) → (interrupts x ≡ true) ↔ UnmaskedFlag x
unfolding interrupts is_unmasked
unmasked x = (
  λ e. let f = any_of_find _ flag_pairs e in let g = any_find 8 _ f.2 in record {
    pair = f.0;
    listed = f.1;
    bit = g.0;
    is_bit = g.1;
    counts = both_l _ _ g.2;
    is_set = eqb-true _ _ (both_l _ _ (both_r _ _ g.2));
    is_unmasked = eqb-true _ _ (both_r _ _ (both_r _ _ g.2));
  },
  λ u. any_of_i _ flag_pairs u.pair u.listed (any_one 8 _ u.bit u.is_bit
      (both_i u.counts (both_i (eq-eqb _ _ u.is_set) (eq-eqb _ _ u.is_unmasked)))),
)

-- a settled lower 3.0 is 0 exactly when an unmasked flag bit is 1
pub settled_bit : (x : Image) → 3 < length x → (get (settled_image x) interrupt_bit ≡ 0) ↔ UnmaskedFlag (settled_image x)
unfolding pick
settled_bit x h = (
  λ e. (unmasked (settled_image x)).0 (split (interrupts x)
      (λ t. interrupts_settled x ∙ t)
      (λ f. absurd (omega (arith, (rw (f, pick) at (sym (bit_settled x h) ∙ e)))))),
  λ u. let t : interrupts x ≡ true = sym (interrupts_settled x) ∙ (unmasked (settled_image x)).1 u in bit_settled x h ∙ rw (t, pick),
)
