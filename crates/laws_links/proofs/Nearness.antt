-- Two states that are the same but for what is not said: what both look at alike. Assumes nothing.
use mathlib.Core.Path.{◌≡◌, refl, sym, ◌∙◌}
use mathlib.Core.Bool.{Bool, true, false}
use mathlib.Core.Logic.{◌≢◌}
use Prim.Native.Nat.{ℕ, ◌+◌, ◌≤◌, ◌<◌}
use native.Mathlib.Decide.{dec_lt}
use native.Mathlib.Omega.{arith}
use lib.Dec.{eqb}
use Rattle.bits.specs.Choice.{both, either}
use Rattle.bits.specs.Place.{get, put, covers}
use Rattle.bits.specs.Sets.{has, some_in}
use Rattle.bits.specs.declared.Place.{Place}
use Rattle.bits.proofs.Tests.{split, clash}
use Rattle.bits.proofs.Places.{length-put, digit-put-out, covers_in, get_ext}
use Rattle.bits.proofs.Loops.{tab_at, any_ext}
use Rattle.model.specs.Map.{Image, page10, page9_f, module_state_bits, module_controls, low_pwr_allow_bit, low_pwr_request_bit, interrupt_bit, stepped_bit, state_at, active_set, staged_base, setting_at, in_ranges, kept, kept_ranges}
use Rattle.model.specs.Records.{stage_at, on_at}
use Rattle.model.specs.View.{view_of, of, settings_of, states_of, state_in}
use Rattle.model.specs.State.{State}
use Rattle.model.specs.Triggers.{is_ignored}
use Rattle.model.specs.Power.{shown_module_state, is_low_power, holds_down}
use Rattle.model.specs.Flags.{power, settled_image}
use Rattle.model.specs.Pages.{selected_start, index_of}
use Rattle.model.specs.declared.lane.StagedSet.{StagedSet}
use Rattle.model.specs.declared.lane.Trigger.{Trigger}
use Rattle.model.specs.declared.lane.Trigger.TheVariants.{DpInit, Immediate}
use Rattle.laws_frames.proofs.Outside.{get-same}
use Rattle.laws_frames.proofs.Ranges.{apart_from, not_in}
use Rattle.laws_frames.proofs.Registers.{settings_at_same, limits-same, advertised_between, applications-same, word_same}
use Rattle.laws_frames.proofs.Starting.{SameKept}
use Rattle.laws_sound.proofs.WorkSteps.{settings-lane}
use Rattle.laws_links.specs.Links.{unsaid, PathsParted}
use Rattle.laws_links.proofs.Owned.{unsaid-low, said_state}
use Rattle.laws_links.proofs.Seeing.{Owned, own-state, own-active, own-staged, Same, same_sym, seen, low, high}
use Rattle.laws_links.proofs.Deciding.{Shows}

-- the same image but for what is not said; the same stage and the same flags on for every lane outside A; the same line
pub record Near (A : ℕ) (s t : State) : Type 0 where
  pub image : Same A s.image t.image
  pub stages : (l : ℕ) → l < 8 → has A l ≡ false → stage_at s.working l ≡ stage_at t.working l
  pub ons : (l : ℕ) → l < 8 → has A l ≡ false → on_at s.working l ≡ on_at t.working l
  pub line : s.working.line ≡ t.working.line

module _ (A : ℕ) where
  pub near_sym : {s t : State} → Near A s t → Near A t s
  near_sym N = record {
    image = same_sym A _ _ N.image;
    stages = λ l h a. sym (N.stages l h a);
    ons = λ l h a. sym (N.ons l h a);
    line = sym N.line;
  }

  -- a place with nothing but unsaid bits may change
  pub put-unsaid : (x y : Image) (p : Place) (v : ℕ) → ((i b : ℕ) → covers p i b ≡ true → unsaid A i b ≡ true) → Same A x y → Same A (put x p v) y
  put-unsaid x y p v o K = record {
    size = length-put x p v ∙ K.size;
    bits = λ i b e. digit-put-out x p v i b (split (covers p i b) (λ c. absurd (clash (o i b c) e)) (λ c. c)) ∙ K.bits i b e;
  }

  interrupt_unsaid : (i b : ℕ) → covers interrupt_bit i b ≡ true → unsaid A i b ≡ true
  interrupt_unsaid i b c =
      let n = covers_in interrupt_bit i b c in
      let e : b ≡ 0 = omega (arith, n.to) in
      rw (sym n.here, e) (unsaid-low A)

  pub settled_left : (x y : Image) → Same A x y → Same A (settled_image x) y
  unfolding settled_image
  settled_left x y K = put-unsaid x y interrupt_bit _ interrupt_unsaid K

  module _ (x y : Image) (K : Same A x y) where
    pub place_same : (address : ℕ) → index_of y address ≡ index_of x address
    unfolding index_of selected_start
    place_same address = rw (← (low A x y K 126 (omega arith) (λ e. omega arith)), ← (low A x y K 127 (omega arith) (λ e. omega arith)))

    pub ignored_same : (t : Trigger) → is_ignored t y ≡ is_ignored t x
    unfolding is_ignored
    ignored_same DpInit = refl
    ignored_same Immediate = rw (get-same x y stepped_bit (sym (low A x y K 2 (omega arith) (λ e. omega arith))))

    pub limit_same : (at : ℕ) → 4 ≤ at → at + 2 ≤ page10 → power y at ≡ power x at
    limit_same at g h = word_same 2 at x y (λ i a b. sym (low A x y K i (omega arith) (λ e. omega arith)))

    -- the module's state, but not lower 3.0
    pub module_state-same : shown_module_state y ≡ shown_module_state x
    unfolding shown_module_state
    module_state-same = rw (get_ext y x module_state_bits (λ i b c. let n = covers_in module_state_bits i b c in
        let f : b ≢ 0 = λ z. omega (arith, n.from) in
        sym (K.bits i b (rw (sym n.here) (said_state A b f)))))

    pub low-power-same : (line : Bool) → is_low_power line y ≡ is_low_power line x
    unfolding is_low_power
    low-power-same line = let e = sym (low A x y K module_controls (omega arith) (λ e. omega arith)) in
        rw (get-same x y low_pwr_request_bit e, get-same x y low_pwr_allow_bit e)

    pub down_same : (line : Bool) → holds_down line y ≡ holds_down line x
    unfolding holds_down
    down_same line = rw (module_state-same, low-power-same line)

    -- what start keeps
    pub kept_same : SameKept x y
    unfolding kept apart_from both either in_ranges
    kept_same i k = elim (dec_lt i page10) [
      | yes b ↦ sym (low A x y K i b (λ e. not_in 3 4 kept_ranges i refl (omega arith) (omega arith) k))
      | no b ↦ elim (dec_lt i page9_f) [
        | yes h ↦ absurd (not_in page10 page9_f kept_ranges i refl (omega arith) h k)
        | no h ↦ sym (high A x y K i (omega arith))
      ]
    ]

    -- ---- the view

    settings-seen : (base l : ℕ) → ((k : ℕ) → k < 8 → Owned (setting_at base k l) l) → l < 8 → has A l ≡ false → of (settings_of base x) l ≡ of (settings_of base y) l
    settings-seen base l o h a =
        settings-lane base x l h ∙ settings_at_same base y x l (λ k g. seen A x y K (setting_at base k l) l (o k g) a) ∙ sym (settings-lane base y l h)

    pub active-seen : (l : ℕ) → l < 8 → has A l ≡ false → of (settings_of active_set x) l ≡ of (settings_of active_set y) l
    active-seen l h a = settings-seen active_set l (λ k g. own-active k l g h) h a

    pub state-seen : (l : ℕ) → l < 8 → has A l ≡ false → get x (state_at l) ≡ get y (state_at l)
    state-seen l h a = seen A x y K (state_at l) l (own-state l h) a

    states-seen : (l : ℕ) → l < 8 → has A l ≡ false → state_in (states_of x) l ≡ state_in (states_of y) l
    unfolding states_of
    states-seen l h a = tab_at 8 (λ m. get x (state_at m)) l 0 h ∙ state-seen l h a ∙ sym (tab_at 8 (λ m. get y (state_at m)) l 0 h)

    pub shows : (set : StagedSet) → PathsParted A x → PathsParted A y → Shows A (view_of (staged_base set) x) (view_of (staged_base set) y)
    unfolding view_of
    shows set P Q = record {
      active = active-seen;
      staged = λ l h a. settings-seen (staged_base set) l (λ k g. own-staged set k l g h) h a;
      states = states-seen;
      applications = sym (applications-same x y (λ i d. let b = advertised_between i d in sym (low A x y K i (omega (arith, b)) (λ e. omega (arith, b)))));
      limits = sym (limits-same x y (λ i a b. sym (low A x y K i (omega arith) (λ e. omega arith))));
      paths = P;
      paths' = Q;
    }

    -- ---- registers of a set of lanes outside A

    pub some_seen : (at : ℕ → Place) (g : ℕ) → ((l : ℕ) → l < 8 → Owned (at l) l) → ((m : ℕ) → m < 8 → has g m ≡ true → has A m ≡ false)
        → some_in g (λ m. eqb (get x (at m)) 1) ≡ some_in g (λ m. eqb (get y (at m)) 1)
    unfolding some_in both
    some_seen at g o out = any_ext 8 _ _ (λ m h. split (has g m)
        (λ i. rw (i, both, seen A x y K (at m) m (o m h) (out m h i)))
        (λ i. rw (i, both)))
