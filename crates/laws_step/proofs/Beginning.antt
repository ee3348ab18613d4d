-- What start leaves: lower 3.0 settled, ModuleLowPwr, every lane dark, 11h:215-216 at 0. Assumes nothing.
use mathlib.Core.Path.{◌≡◌, refl, sym, ◌∙◌}
use mathlib.Core.Bool.{Bool, true, false, not}
use mathlib.Core.Logic.{inl, inr}
use Prim.Native.Nat.{ℕ, ◌<◌}
use native.Mathlib.Omega.{arith}
use lib.Dec.{eqb, ltb}
use lib.ListN.{length, get_or}
use borrow.Author.Tests.{eqb-true, ltb-true, not-true, not-false}
use Rattle.bits.specs.Choice.{pick, both, either}
use Rattle.bits.specs.Lane.{lane_field}
use Rattle.bits.specs.Loop.{tab, any_of, all_below, Among}
use Rattle.bits.specs.Number.{field}
use Rattle.bits.specs.Place.{get, digit}
use Rattle.bits.proofs.Tests.{both_l, both_r, pick-false}
use Rattle.bits.proofs.Number.{field_past}
use Rattle.bits.proofs.Loops.{all_at, tab_at, length-tab}
use Rattle.bits.proofs.Members.{any_of-none}
use Rattle.model.specs.Map.{Image, image_length, module_state_bits, state_bytes, state_at, interrupt_bit, FlagPair, flag_pairs, in_ranges, kept}
use Rattle.model.specs.Records.{idle_with}
use Rattle.model.specs.State.{State, with_image}
use Rattle.model.specs.Flags.{interrupts, settled_image}
use Rattle.model.specs.Start.{is_state_byte, start_value, start_byte, started_state, reset_state}
use Rattle.laws_frames.proofs.Registers.{lane-to}
use Rattle.laws_step.specs.Told.{Reserved, Settled}
use Rattle.laws_step.proofs.Frames.{unless}
use Rattle.laws_step.proofs.Settling.{settled_if, unmasked}

-- start clears a byte
unfoldable clears : ℕ → Bool
clears i = both (ltb i image_length) (both (not (kept i)) (eqb (start_value i) 0))

module _ (x : Image) where
  pub start-byte : (i : ℕ) → i < image_length → get_or (started_state x).image i 0 ≡ start_byte x i
  unfolding started_state
  start-byte i h = tab_at image_length (start_byte x) i 0 h

  -- start clears every flag byte
  flags_cleared : any_of flag_pairs (λ p. not (clears p.flag)) ≡ false
  unfolding clears any_of tab both either kept in_ranges start_value is_state_byte pick
  flags_cleared = refl

  start-flag : (p : FlagPair) → Among p flag_pairs → get_or (started_state x).image p.flag 0 ≡ 0
  unfolding clears start_byte
  start-flag p m =
      let t = not-false _ (any_of-none _ flag_pairs p flags_cleared m) in
      start-byte p.flag (ltb-true _ _ (both_l _ _ t)) ∙ pick-false _ _ (not-true _ (both_l _ _ (both_r _ _ t))) ∙ eqb-true _ _ (both_r _ _ (both_r _ _ t))

  start-quiet : interrupts (started_state x).image ≡ false
  unfolding digit
  start-quiet = unless (λ e.
      let u = (unmasked (started_state x).image).0 e in
      let z : field 0 u.bit 1 ≡ 1 = (rw (start-flag u.pair u.listed) at u.is_set) in
      omega (arith, field_past 0 0 u.bit 1 (omega arith) (omega arith)))

  start_interrupt : get (started_state x).image interrupt_bit ≡ 1
  unfolding get field start_byte start_value kept in_ranges both either pick
  start_interrupt = rw (start-byte 3 (omega arith))

  pub start_settled : Settled (started_state x).image
  start_settled = settled_if (started_state x).image (start_interrupt ∙ sym (pick-false 0 1 start-quiet))

  pub start_reserved : (i : ℕ) → Reserved i → get_or (started_state x).image i 0 ≡ 0
  unfolding start_byte start_value kept in_ranges is_state_byte both either pick
  start_reserved i (inl e) = rw e (start-byte 727 (omega arith))
  start_reserved i (inr e) = rw e (start-byte 728 (omega arith))

  pub start-size : length (started_state x).image ≡ image_length
  unfolding started_state
  start-size = length-tab image_length (start_byte x)

-- ModuleLowPwr, with every lane DPDeactivated
lanes-deactivated : all_below 8 (λ l. both (not (kept (state_at l).byte)) (eqb (field (start_value (state_at l).byte) (state_at l).shift (state_at l).width) 1)) ≡ true
unfolding all_below both either kept in_ranges start_value is_state_byte pick field lane_field
lanes-deactivated = refl

pub start-state : (x : Image) → get (started_state x).image module_state_bits ≡ 1
unfolding get field start_byte start_value kept in_ranges both either pick
start-state x = rw (start-byte x 3 (omega arith))

pub start-lane : (x : Image) (l : ℕ) → l < 8 → get (started_state x).image (state_at l) ≡ 1
unfolding get start_byte
start-lane x l b =
    let t = all_at 8 _ lanes-deactivated l b in
    rw (start-byte x (state_at l).byte (omega (arith, lane-to state_bytes 4 l b refl)), pick-false (get_or x (state_at l).byte 0) (start_value (state_at l).byte) (not-true _ (both_l _ _ t)))
    (eqb-true _ _ (both_r _ _ t))

-- a reset settles lower 3.0 by itself
pub reset_settled : (s : State) → with_image (reset_state s) (settled_image (reset_state s).image) ≡ reset_state s
unfolding reset_state
reset_settled s = λ i. record { image = start_settled s.image i; working = idle_with s.working.line }
