-- What is carried out, in both runs or in one alone. Assumes nothing.
use mathlib.Core.Path.{◌≡◌, refl, sym, ap, ◌∙◌}
use mathlib.Core.Bool.{Bool, true, false, not}
use mathlib.Core.List.{List, [], ◌∷◌}
use mathlib.Core.Logic.{◌≢◌}
use Prim.Native.Nat.{ℕ, zero, suc, ◌+◌, ◌-◌, ◌≤◌, ◌<◌}
use native.Mathlib.Omega.{arith}
use lib.Dec.{eqb, leb, ltb}
use lib.ListN.{length, get_or}
use borrow.Author.Tests.{eqb-true, leb-true, ltb-true, ltb-false, lt-ltb}
use Rattle.bits.specs.Choice.{pick, only_if, both, either}
use Rattle.bits.specs.Number.{with_field}
use Rattle.bits.specs.Place.{get, apart}
use Rattle.bits.specs.Sets.{has}
use Rattle.bits.proofs.Tests.{split, both_l, both_r, either-none}
use Rattle.bits.proofs.Number.{back, number_ext}
use Rattle.bits.proofs.Masks.{digit-has}
use Rattle.bits.proofs.Places.{get-apart, get-put-fits}
use Rattle.model.specs.Map.{Image, image_length, page9_f, module_state, module_controls, module_state_bits, interrupt_bit, run_address, firmware_major, firmware_minor}
use Rattle.model.specs.Records.{with_flag_on}
use Rattle.model.specs.State.{State}
use Rattle.model.specs.Power.{module_code_of, module_state_of, shown_module_state, is_module_state, is_low_power, is_dark, next_module_state, is_flagged, module_entered_image, module_moved_image, module_image}
use Rattle.model.specs.Flags.{condition_on, settled_image}
use Rattle.model.specs.Pages.{selected_start, index_of}
use Rattle.model.specs.Commands.{command_image}
use Rattle.model.specs.Access.{byte_written_state, bytes_written_state, writes, runs_command, resets, ended_state}
use Rattle.model.specs.Start.{reset_state}
use Rattle.model.specs.declared.power.ModuleState.{ModuleState}
use Rattle.model.specs.declared.power.ModuleState.TheVariants.{Other, LowPwr, PwrUp, Ready, PwrDn}
use Rattle.laws_frames.proofs.Alike.{alike_refl, alike_only, alike_module_entered, alike_command}
use Rattle.laws_frames.proofs.Stages.{idle-stage, idle-on}
use Rattle.laws_frames.proofs.Starting.{same_start}
use Rattle.laws_links.specs.Links.{unsaid, SameBytes, Concerns}
use Rattle.laws_links.proofs.Owned.{said_low, said_outside}
use Rattle.laws_links.proofs.Seeing.{Same, low, high}
use Rattle.laws_links.proofs.Nearness.{Near, kept_same, module_state-same, low-power-same}
use Rattle.laws_links.proofs.Writing.{near_image, bytes_alone, no_reset, no_command}

-- ---- the module event

bits-apart : apart interrupt_bit module_state_bits ≡ true
unfolding apart either
bits-apart = refl

settled_code : (x : Image) → get (settled_image x) module_state_bits ≡ get x module_state_bits
unfolding settled_image
settled_code x = get-apart x interrupt_bit _ module_state_bits bits-apart

ready_code : (n : ℕ) → module_code_of (module_state_of n) ≡ 3 → n ≡ 3
unfolding module_state_of pick
ready_code n h = split (eqb n 1) (λ e. absurd (omega (arith, (rw (e, pick) at h))))
    (λ e. split (eqb n 2) (λ f. absurd (omega (arith, (rw (e, f, pick) at h))))
    (λ f. split (eqb n 3) (λ g. eqb-true n 3 g)
    (λ g. split (eqb n 4) (λ k. absurd (omega (arith, (rw (e, f, g, k, pick) at h)))) (λ k. absurd (omega (arith, (rw (e, f, g, k, pick) at h)))))))

down_code : (low : Bool) (x : Image) → length x ≡ image_length → get (module_moved_image Ready PwrDn low x) module_state_bits ≡ 4
unfolding module_moved_image module_entered_image is_module_state is_flagged only_if
down_code low x e = get-put-fits x module_state_bits 4 (omega arith) (omega arith)

module _ (A : ℕ) (x y : Image) (K : Same A x y) (size : length x ≡ image_length) (size' : length y ≡ image_length) where
  moved_same : (from to : ModuleState) (low : Bool) → Same A (module_moved_image from to low x) (module_moved_image from to low y)
  unfolding module_moved_image
  moved_same from to low = alike_only (unsaid A) _ (module_entered_image to low) x y (alike_module_entered (unsaid A) to low x y) K

  stays_code : (low : Bool) (z : Image) → shown_module_state z ≡ Ready → get (module_moved_image Ready Ready low z) module_state_bits ≡ 3
  unfolding module_moved_image is_module_state only_if shown_module_state
  stays_code low z e = ready_code (get z module_state_bits) (ap module_code_of e)

  -- ModuleReady is left only where all lanes are dark, so it is left in both
  ready_both : (low dark dark' : Bool) → shown_module_state x ≡ Ready → shown_module_state y ≡ Ready
      → get (module_moved_image Ready (next_module_state Ready low dark) low x) module_state_bits ≡ get (module_moved_image Ready (next_module_state Ready low dark') low y) module_state_bits
      → Same A (module_moved_image Ready (next_module_state Ready low dark) low x) (module_moved_image Ready (next_module_state Ready low dark') low y)
  unfolding next_module_state pick both
  ready_both false dark dark' e f h = moved_same Ready Ready false
  ready_both true true true e f h = moved_same Ready PwrDn true
  ready_both true false false e f h = moved_same Ready Ready true
  ready_both true true false e f h = absurd (omega (arith, down_code true x size, stays_code true y f, h))
  ready_both true false true e f h = absurd (omega (arith, stays_code true x e, down_code true y size', h))

  next_both : (from : ModuleState) (low dark dark' : Bool) → shown_module_state x ≡ from → shown_module_state y ≡ from
      → get (module_moved_image from (next_module_state from low dark) low x) module_state_bits ≡ get (module_moved_image from (next_module_state from low dark') low y) module_state_bits
      → Same A (module_moved_image from (next_module_state from low dark) low x) (module_moved_image from (next_module_state from low dark') low y)
  unfolding next_module_state
  next_both Other low dark dark' e f h = moved_same Other Other low
  next_both LowPwr low dark dark' e f h = moved_same LowPwr _ low
  next_both PwrUp low dark dark' e f h = moved_same PwrUp _ low
  next_both Ready low dark dark' e f h = ready_both low dark dark' e f h
  next_both PwrDn low dark dark' e f h = moved_same PwrDn LowPwr low

  pub module_both : (line : Bool) → get (settled_image (module_image line x)) module_state_bits ≡ get (settled_image (module_image line y)) module_state_bits
      → Same A (module_image line x) (module_image line y)
  unfolding module_image
  module_both line h = rw (module_state-same A x y K, low-power-same A x y K line)
      (next_both (shown_module_state x) (is_low_power line x) (is_dark x) (is_dark y) refl (module_state-same A x y K)
      (rw (module_state-same A x y K, low-power-same A x y K line) at (sym (settled_code (module_image line x)) ∙ h ∙ settled_code (module_image line y))))

-- ---- the end of a write

page_same : (A : ℕ) (x y : Image) → Same A x y → selected_start y ≡ selected_start x
unfolding selected_start
page_same A x y K = rw (← (low A x y K 126 (omega arith) (λ e. omega arith)), ← (low A x y K 127 (omega arith) (λ e. omega arith)))

module _ (A : ℕ) where
  -- the bytes below address 128 are the same in both runs
  same_byte : (vs vs' : List ℕ) (address : ℕ) (s : State) (k : ℕ) → SameBytes A s address vs vs' → address + k < 128 → address + k ≢ module_state → get_or vs k 0 ≡ get_or vs' k 0
  unfolding SameBytes index_of pick
  same_byte [] [] address s k c h n = refl
  same_byte [] (v' ∷ vs') address s k c h n = absurd c
  same_byte (v ∷ vs) [] address s k c h n = absurd c
  same_byte (v ∷ vs) (v' ∷ vs') address s zero c h n =
      let l : address < 128 = omega arith in
      number_ext v v' (λ b. c.0 b (rw (lt-ltb address 128 l, pick) (said_outside A address b (said_low A address b (omega arith) (λ e. n (omega arith))))))
  same_byte (v ∷ vs) (v' ∷ vs') address s (suc k) c h n = same_byte vs vs' (suc address) (byte_written_state address v s) k c.1 (omega arith) (λ e. n (omega arith))

  pub resets-same : (vs vs' : List ℕ) (address : ℕ) (s : State) (n : ℕ) → SameBytes A s address vs vs' → resets address vs n ≡ resets address vs' n
  unfolding resets writes both
  resets-same vs vs' address s n c = split (leb address module_controls)
      (λ e. let l : address ≤ module_controls = leb-true _ _ e in
      rw (same_byte vs vs' address s (module_controls - address) c (omega arith) (λ q. omega arith)))
      (λ e. rw (e, both))

  reset_both : (s t : State) → Near A s t → Near A (reset_state s) (reset_state t)
  unfolding reset_state
  reset_both s t N = record {
    image = rw (same_start s.image t.image (kept_same A s.image t.image N.image)) (alike_refl (unsaid A) _);
    stages = λ l h a. idle-stage s.working.line l h ∙ sym (idle-stage t.working.line l h);
    ons = λ l h a. idle-on s.working.line l h ∙ sym (idle-on t.working.line l h);
    line = N.line;
  }

  runs_same : (x y : Image) → Same A x y → (address n : ℕ) → runs_command address n y ≡ runs_command address n x
  unfolding runs_command
  runs_same x y K address n = rw (page_same A x y K)

  command_both : (x y : Image) → Same A x y → (address n : ℕ) → Same A (only_if (runs_command address n x) command_image x) (only_if (runs_command address n y) command_image y)
  command_both x y K address n = rw (runs_same x y K address n)
      (alike_only (unsaid A) (runs_command address n x) command_image x y
      (alike_command (unsaid A) x y (λ i a b. sym (high A x y K i a)) (sym (low A x y K firmware_major (omega arith) (λ e. omega arith))) (sym (low A x y K firmware_minor (omega arith) (λ e. omega arith)))) K)

  pub ended-both : (address : ℕ) (vs vs' : List ℕ) (n : ℕ) (s t : State) → resets address vs n ≡ resets address vs' n → Near A s t
      → Near A (ended_state address vs n s) (ended_state address vs' n t)
  unfolding ended_state pick
  ended-both address vs vs' n s t q N = split (resets address vs n)
      (λ e. rw (← q, e, pick) (reset_both s t N))
      (λ e. rw (← q, e, pick) (near_image A s t N _ _ (command_both s.image t.image N.image address n)))

  -- a write of one run alone ends with neither
  module _ (address : ℕ) (vs : List ℕ) (s t : State) (N : Near A s t) (c : Concerns A s address vs) (half : address < 128 → address + length vs ≤ 128) where
    resets_none : resets address vs (length vs) ≡ false
    unfolding resets writes
    resets_none = split (both (both (leb address module_controls) (ltb module_controls (address + length vs))) _)
        (λ e. absurd (no_reset A vs address s c (leb-true _ _ (both_l _ _ (both_l _ _ e))) (ltb-true _ _ (both_r _ _ (both_l _ _ e))))) (λ e. e)

    upper : address ≤ run_address → run_address < address + length vs → 128 ≤ address
    upper lo hi = split (ltb address 128) (λ e. absurd (omega (arith, half (ltb-true _ _ e)))) (λ e. ltb-false address 128 e)

    runs_none : runs_command address (length vs) (bytes_written_state address vs s).image ≡ false
    unfolding runs_command writes
    runs_none = split (both (both (leb address run_address) (ltb run_address (address + length vs))) (eqb (selected_start (bytes_written_state address vs s).image) page9_f))
        (λ e. let lo : address ≤ run_address = leb-true _ _ (both_l _ _ (both_l _ _ e)) in
        let hi : run_address < address + length vs = ltb-true _ _ (both_r _ _ (both_l _ _ e)) in
        absurd (no_command A vs address s t N c (upper lo hi) lo hi (page_same A _ _ (bytes_alone A vs address s t N c).image ∙ eqb-true _ _ (both_r _ _ e)))) (λ e. e)

    pub ended_alone : Near A (ended_state address vs (length vs) (bytes_written_state address vs s)) t
    unfolding ended_state pick only_if
    ended_alone = rw (resets_none, runs_none, pick, only_if) (bytes_alone A vs address s t N c)

  -- ---- a lasting condition on a lane of neither mask

  not_none : (b : Bool) → either (both b (not false)) false ≡ b
  unfolding either both
  not_none true = refl
  not_none false = refl

  pub off_stays : (k on off l bits : ℕ) → has on l ≡ false → has off l ≡ false → condition_on k on off l bits ≡ bits
  unfolding condition_on with_flag_on
  off_stays k on off l bits e f = rw (e, f, not_none (has bits k)) (ap (with_field bits k 1) (sym (digit-has bits k)) ∙ back bits k 1)
