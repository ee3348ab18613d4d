-- What a module event and an event of the low-power line change, and to what; when LowPwrS holds, and when a path is to be taken down. Assumes nothing.
use mathlib.Core.Path.{◌≡◌, refl, sym, ap, ◌∙◌}
use mathlib.Core.Bool.{Bool, true, false, not}
use mathlib.Core.List.{List}
use mathlib.Core.Logic.{◌⊎◌, inl, inr, ◌↔◌, ◌≢◌}
use Prim.Native.Nat.{ℕ, ◌<◌}
use native.Mathlib.Omega.{arith}
use lib.Dec.{eqb}
use lib.ListN.{length}
use borrow.Author.Tests.{eqb-true, eq-eqb, not-true}
use Rattle.bits.specs.Choice.{pick, only_if, both, either}
use Rattle.bits.specs.Place.{get, put, covers}
use Rattle.bits.specs.Sets.{some_in}
use Rattle.bits.proofs.Tests.{split, clash, both_l, both_r, both_i, either_cases, either_i_l, either_i_r, only_true, only_false, pick_true, pick-false}
use Rattle.bits.proofs.Loops.{any_one, any_find}
use Rattle.bits.proofs.Places.{get-put-fits, length-put, covers_in}
use Rattle.model.specs.Map.{Image, image_length, interrupt_bit, module_state_bits, module_changed_bit, low_pwr_allow_bit, low_pwr_request_bit, deinit_at}
use Rattle.model.specs.Records.{with_line}
use Rattle.model.specs.State.{State}
use Rattle.model.specs.Flags.{settled_image}
use Rattle.model.specs.Power.{module_code_of, module_state_of, shown_module_state, is_module_state, is_low_power, is_dark, holds_down, next_module_state, is_flagged, module_entered_image, module_moved_image, module_image}
use Rattle.model.specs.Hardware.{some_bit, to_deinit, signals_of}
use Rattle.model.specs.Step.{event, event_effect, done_step}
use Rattle.model.specs.declared.answer.Answer.TheVariants.{Done}
use Rattle.model.specs.declared.event.Call.TheVariants.{Module, Line}
use Rattle.model.specs.declared.power.ModuleState.{ModuleState}
use Rattle.model.specs.declared.power.ModuleState.TheVariants.{Other, LowPwr, PwrUp, Ready, PwrDn}
use Rattle.laws_step.specs.Changes.{ChangesOnly, or_in, interrupt_set}
use Rattle.laws_step.specs.Told.{step_on, module_set, ModuleMoved, ChangeFlagged, entered_ready, entered_low_pwr, LowPowerAsked, by_software, by_line, TakenDown, not_ready, low_power, by_host}
use Rattle.laws_step.proofs.Frames.{unless, keeps_then, keeps_left, keeps_right, keeps_only, keeps_put, keeps_get}
use Rattle.laws_step.proofs.Settling.{settled_changes, past_interrupt}
use Rattle.laws_step.proofs.Stepped.{done_step_lem, step_changes}

-- ---- the module event

entered_changes : (to : ModuleState) (p : Bool) (x : Image) → ChangesOnly module_set x (module_entered_image to p x)
unfolding module_entered_image module_set
entered_changes to p x = keeps_then (keeps_left _ (keeps_put _ x module_state_bits _ (λ i b e. e)))
    (keeps_right _ (keeps_only _ _ _ _ (keeps_put _ _ module_changed_bit 1 (λ i b e. e))))

moved_changes : (line : Bool) (x : Image) → ChangesOnly module_set x (module_image line x)
unfolding module_image module_moved_image
moved_changes line x = keeps_only _ _ _ x (entered_changes _ _ x)

-- lower 3.3-1, lower 8.0 and lower 3.0 lie apart
state-apart : (i b : ℕ) → covers module_state_bits i b ≡ true → covers module_changed_bit i b ≡ false
state-apart i b c = unless (λ t. omega (arith, (covers_in module_state_bits i b c).here, (covers_in module_changed_bit i b t).here))

changed_apart : (i b : ℕ) → covers module_changed_bit i b ≡ true → covers module_state_bits i b ≡ false
changed_apart i b c = unless (λ t. omega (arith, (covers_in module_changed_bit i b c).here, (covers_in module_state_bits i b t).here))

pub settled_module_state : (x : Image) → get (settled_image x) module_state_bits ≡ get x module_state_bits
unfolding interrupt_set
settled_module_state x = keeps_get (settled_changes x) module_state_bits
    (λ i b c. unless (λ t. omega (arith, (covers_in module_state_bits i b c).from, (covers_in interrupt_bit i b t).to)))

settled_changed : (x : Image) → get (settled_image x) module_changed_bit ≡ get x module_changed_bit
settled_changed x = keeps_get (settled_changes x) module_changed_bit (λ i b c. past_interrupt i b (omega (arith, (covers_in module_changed_bit i b c).here)))

code_small : (to : ModuleState) → module_code_of to < 8
code_small Other = omega arith
code_small LowPwr = omega arith
code_small PwrUp = omega arith
code_small Ready = omega arith
code_small PwrDn = omega arith

module _ (x : Image) (size : length x ≡ image_length) where
  -- what entering a state leaves
  in_state : ModuleState → Image
  in_state to = put x module_state_bits (module_code_of to)

  entered_state : (to : ModuleState) (p : Bool) → get (module_entered_image to p x) module_state_bits ≡ module_code_of to
  unfolding module_entered_image
  entered_state to p =
      keeps_get (keeps_only (covers module_changed_bit) (is_flagged to p) (λ y. put y module_changed_bit 1) _ (keeps_put _ _ module_changed_bit 1 (λ i b e. e))) module_state_bits state-apart
      ∙ get-put-fits x module_state_bits (module_code_of to) (omega arith) (code_small to)

  entered_flag : (to : ModuleState) (p : Bool) → get (module_entered_image to p x) module_changed_bit ≡ pick (is_flagged to p) 1 (get x module_changed_bit)
  unfolding module_entered_image in_state
  entered_flag to p = split (is_flagged to p)
      (λ t. rw (only_true (λ y. put y module_changed_bit 1) (in_state to) t)
      (get-put-fits (in_state to) module_changed_bit 1 (omega (arith, length-put x module_state_bits (module_code_of to))) (omega arith)) ∙ sym (pick_true _ _ t))
      (λ t. rw (only_false (λ y. put y module_changed_bit 1) (in_state to) t)
      (keeps_get (keeps_put (covers module_state_bits) x module_state_bits (module_code_of to) (λ i b e. e)) module_changed_bit changed_apart) ∙ sym (pick-false _ _ t))

  moved : (from to : ModuleState) (p : Bool) → ModuleMoved from to (is_flagged to p) x (settled_image (module_moved_image from to p x))
  unfolding module_moved_image only_if pick both
  moved from to p = record {
    state = settled_module_state _ ∙ split (is_module_state from to) (λ t. rw (t, only_if, pick)) (λ t. rw (t, only_if, pick) (entered_state to p));
    flag = settled_changed _ ∙ split (is_module_state from to) (λ t. rw (t, only_if, pick, both)) (λ t. rw (t, only_if, both) (entered_flag to p));
  }

module _ (room : ℕ) (s : State) (bytes : List ℕ) (d : (step_on room s Module bytes).answer ≡ Done) where
  -- it changes the module's state, 8.0 and lower 3.0, and no record
  pub module_changes : ChangesOnly (or_in interrupt_set module_set) s.image (step_on room s Module bytes).state.image
  unfolding event_effect
  module_changes = step_changes room s (event Module bytes) _ d (moved_changes s.working.line s.image)

  pub module_keeps_records : (step_on room s Module bytes).state.working ≡ s.working
  unfolding done_step event_effect
  module_keeps_records = rw (done_step_lem room s (event Module bytes) d)

  -- the module goes from the state that it shows to the one that follows by the table, and 8.0 tells it
  pub module_moves : length s.image ≡ image_length → let from = shown_module_state s.image in let low = is_low_power s.working.line s.image in
      let to = next_module_state from low (is_dark s.image) in ModuleMoved from to (is_flagged to low) s.image (step_on room s Module bytes).state.image
  unfolding done_step event_effect module_image
  module_moves size = rw (done_step_lem room s (event Module bytes) d) (moved s.image size _ _ (is_low_power s.working.line s.image))

-- ---- 8.0 exactly when

flagged_by : (to : ModuleState) (p : Bool) → is_flagged to p ≡ true → (to ≡ Ready) ⊎ ((to ≡ LowPwr) × (p ≡ true))
unfolding is_flagged
flagged_by Other p e = absurd (clash e refl)
flagged_by LowPwr p e = inr (refl, e)
flagged_by PwrUp p e = absurd (clash e refl)
flagged_by Ready p e = inl refl
flagged_by PwrDn p e = absurd (clash e refl)

state_back : (p : ModuleState) → module_state_of (module_code_of p) ≡ p
unfolding module_state_of pick
state_back Other = refl
state_back LowPwr = refl
state_back PwrUp = refl
state_back Ready = refl
state_back PwrDn = refl

-- a module that shows the code of a state is in it, and goes nowhere from there to it
shown_same : (n : ℕ) (to : ModuleState) → n ≡ module_code_of to → is_module_state (module_state_of n) to ≡ true
unfolding is_module_state
shown_same n to e = rw (e, state_back to) (eq-eqb (module_code_of to) (module_code_of to) refl)

-- the code of a state names it
code_names : (a b : ModuleState) → module_code_of a ≡ module_code_of b → a ≡ b
code_names a b e = sym (state_back a) ∙ ap module_state_of e ∙ state_back b

module _ (line : Bool) (to : ModuleState) (x y : Image) (M : ModuleMoved (shown_module_state x) to (is_flagged to (is_low_power line x)) x y)
    (clear : get x module_changed_bit ≡ 0) where
  -- 8.0 is 1: the module has moved, and to a state that is flagged
  moved_flagged : get y module_changed_bit ≡ 1 → both (not (is_module_state (shown_module_state x) to)) (is_flagged to (is_low_power line x)) ≡ true
  moved_flagged e = split (both (not (is_module_state (shown_module_state x) to)) (is_flagged to (is_low_power line x)))
      (λ t. t)
      (λ t. absurd (omega (arith, clear, sym (M.flag ∙ pick-false _ _ t) ∙ e)))

  moved_state : is_module_state (shown_module_state x) to ≡ false → get y module_state_bits ≡ module_code_of to
  moved_state n = M.state ∙ pick-false _ _ n

  flag-told : get y module_changed_bit ≡ 1 → ChangeFlagged line x y
  unfolding shown_module_state
  flag-told e =
      let b = moved_flagged e in
      let n = not-true _ (both_l _ _ b) in
      elim (flagged_by to (is_low_power line x) (both_r _ _ b)) [
        | inl r ↦ entered_ready (λ q. clash (shown_same _ to (q ∙ ap module_code_of (sym r))) n) (moved_state n ∙ ap module_code_of r)
        | inr r ↦ entered_low_pwr (λ q. clash (shown_same _ to (q ∙ ap module_code_of (sym r.0))) n) (moved_state n ∙ ap module_code_of r.0) r.1
      ]

  -- a module that was not in a state and shows it has moved there
  has_moved : (p : ModuleState) → get x module_state_bits ≢ module_code_of p → get y module_state_bits ≡ module_code_of p
      → (is_module_state (shown_module_state x) to ≡ false) × (to ≡ p)
  has_moved p o e = split (is_module_state (shown_module_state x) to)
      (λ t. absurd (o (sym (M.state ∙ pick_true _ _ t) ∙ e)))
      (λ t. (t, code_names to p (sym (moved_state t) ∙ e)))

  told-flag : ChangeFlagged line x y → get y module_changed_bit ≡ 1
  unfolding is_flagged
  told-flag (entered_ready o e) = let h = has_moved Ready o e in M.flag ∙ pick_true _ _ (both_i (rw h.0) (rw h.1))
  told-flag (entered_low_pwr o e l) = let h = has_moved LowPwr o e in M.flag ∙ pick_true _ _ (both_i (rw h.0) (rw h.1 l))

-- where 8.0 was 0, a module event sets it exactly when the module enters ModuleReady, or ModuleLowPwr while LowPwrS holds
pub module_flags_lem : (room : ℕ) (s : State) (bytes : List ℕ) → (step_on room s Module bytes).answer ≡ Done → length s.image ≡ image_length
    → get s.image module_changed_bit ≡ 0
    → (get (step_on room s Module bytes).state.image module_changed_bit ≡ 1) ↔ ChangeFlagged s.working.line s.image (step_on room s Module bytes).state.image
module_flags_lem room s bytes d size clear =
    let M = module_moves room s bytes d size in
    (flag-told s.working.line _ s.image _ M clear, told-flag s.working.line _ s.image _ M clear)

-- ---- the event of the line

module _ (room : ℕ) (s : State) (bytes : List ℕ) (on : Bool) (d : (step_on room s (Line on) bytes).answer ≡ Done) where
  -- it changes no register but lower 3.0, which every event settles
  pub line_changes : ChangesOnly interrupt_set s.image (step_on room s (Line on) bytes).state.image
  unfolding done_step event_effect
  line_changes = rw (done_step_lem room s (event (Line on) bytes) d) (settled_changes s.image)

  -- .. and sets the line
  pub line_sets : (step_on room s (Line on) bytes).state.working ≡ with_line s.working on
  unfolding done_step event_effect
  line_sets = rw (done_step_lem room s (event (Line on) bytes) d)

-- ---- LowPwrS, and S

pub low-power_exactly : (line : Bool) (x : Image) → (is_low_power line x ≡ true) ↔ LowPowerAsked line x
unfolding is_low_power
low-power_exactly line x = (
  λ e. elim (either_cases _ _ e) [
    | inl t ↦ by_software (eqb-true _ _ t)
    | inr t ↦ by_line (eqb-true _ _ (both_l _ _ t)) (both_r _ _ t)
  ],
  asked,
)
  where
    asked : LowPowerAsked line x → either (eqb (get x low_pwr_request_bit) 1) (both (eqb (get x low_pwr_allow_bit) 1) line) ≡ true
    asked (by_software t) = either_i_l _ _ (eq-eqb _ _ t)
    asked (by_line t l) = either_i_r _ _ (both_i (eq-eqb _ _ t) l)

-- a module is in ModuleReady where lower 3 shows its code
ready_code : (n : ℕ) → is_module_state (module_state_of n) Ready ≡ true → n ≡ module_code_of Ready
unfolding is_module_state module_state_of pick
ready_code n e = split (eqb n 1) (λ a. absurd (clash (rw (a, pick) at e) refl))
    (λ a. split (eqb n 2) (λ b. absurd (clash (rw (a, b, pick) at e) refl))
    (λ b. split (eqb n 3) (λ c. eqb-true n 3 c)
    (λ c. split (eqb n 4) (λ f. absurd (clash (rw (a, b, c, f, pick) at e) refl))
    (λ f. absurd (clash (rw (a, b, c, f, pick) at e) refl)))))

pub down_exactly : (line : Bool) (x : Image) (g : ℕ) → ((signals_of (holds_down line x) x g).deinit ≡ true) ↔ TakenDown line x g
unfolding signals_of to_deinit holds_down shown_module_state some_bit some_in
down_exactly line x g = (
  λ e. elim (either_cases _ _ e) [
    | inl t ↦ elim (either_cases _ _ t) [
      | inl n ↦ not_ready (λ q. clash (shown_same _ Ready q) (not-true _ n))
      | inr l ↦ low_power l
    ]
    | inr t ↦ let f = any_find 8 _ t in by_host f.0 f.1 (both_l _ _ f.2) (eqb-true _ _ (both_r _ _ f.2))
  ],
  down,
)
  where
    down : TakenDown line x g → either (either (not (is_module_state (module_state_of (get x module_state_bits)) Ready)) (is_low_power line x)) (some_in g (λ m. eqb (get x (deinit_at m)) 1)) ≡ true
    down (not_ready n) = let f : is_module_state (module_state_of (get x module_state_bits)) Ready ≡ false = unless (λ t. n (ready_code _ t)) in either_i_l _ _ (either_i_l _ _ (ap not f))
    down (low_power l) = either_i_l _ _ (either_i_r _ _ l)
    down (by_host m b h e) = either_i_r _ _ (any_one 8 _ m b (both_i h (eq-eqb _ _ e)))
