-- One event in both runs, or in one alone: the states stay near, and the answers are the same. Assumes nothing.
use Rattle.std.proofs.Common.{None, Some, Option}
use mathlib.Core.Path.{◌≡◌, refl, sym, ap, subst, ◌∙◌}
use mathlib.Core.Bool.{Bool, true, false, not}
use mathlib.Core.List.{List, []}
use Prim.Native.Nat.{ℕ, ◌+◌, ◌≤◌, ◌<◌}
use lib.Dec.{eqb}
use lib.ListN.{length, take}
use lib.Seq.{length-take-le}
use borrow.Author.Tests.{lt-ltb, ltb-true, ltb-false, eqb-true, not-false}
use Rattle.bits.specs.Choice.{pick, both, either}
use Rattle.bits.specs.Place.{get}
use Rattle.bits.specs.Sets.{has}
use Rattle.bits.proofs.Tests.{split, clash, either_r, pick_true, pick-false}
use Rattle.bits.proofs.Loops.{any_ext}
use Rattle.model.specs.Map.{image_length, module_state_bits, active_set, staged_base, state_at, lasting_index}
use Rattle.model.specs.Answers.{is_done}
use Rattle.model.specs.PathStates.{state_of}
use Rattle.model.specs.Records.{stage_at, on_at, is_in_progress, any_in_progress, with_ons}
use Rattle.model.specs.View.{view_of, settings_of, path_of}
use Rattle.model.specs.State.{State, with_image}
use Rattle.model.specs.Effect.{Effect}
use Rattle.model.specs.Work.{early, work_effect_on, work_effect}
use Rattle.model.specs.Hardware.{hardware_image}
use Rattle.model.specs.Power.{holds_down, module_image}
use Rattle.model.specs.Flags.{is_condition_flag, condition_image, condition_on, lasting_state, sampled_state, settled_image}
use Rattle.model.specs.Pages.{index_of}
use Rattle.model.specs.Access.{write_limit, half_end, is_bad_access, bytes_written_state, ended_state}
use Rattle.model.specs.Refusals.{refuse, first_of, no_such_lane, is_busy, is_unused, event_refusals}
use Rattle.model.specs.Step.{read_address, read_effect, event_effect, Stepped, done_step, refused_step, answered_step, step}
use Rattle.model.specs.declared.answer.Answer.TheVariants.{NoSuchTarget, BadAccess}
use Rattle.model.specs.declared.event.Call.{Call}
use Rattle.model.specs.declared.event.Call.TheVariants.{Write, Read, Work, Hardware, Condition, Sample, Lasting, Module, Line}
use Rattle.model.specs.declared.event.Event.{Event}
use Rattle.model.specs.declared.lane.Progress.{Progress}
use Rattle.model.specs.declared.lane.StagedSet.TheVariants.{Set0}
use Rattle.laws_frames.specs.Alike.{Alike}
use Rattle.laws_frames.proofs.Alike.{alike_refl, alike_cleared}
use Rattle.laws_frames.proofs.Stages.{stage-kept, on_in}
use Rattle.laws_sound.specs.Sound.{seen_of, Sound}
use Rattle.laws_sound.proofs.Quiet.{Well}
use Rattle.laws_sound.proofs.Steps.{not-refused}
use Rattle.laws_links.specs.Links.{unsaid, Inside, SameMask, OnlyOf, Concerns, SameCalls, Allowed, OwnCall, AllowedAlone, PathsParted, Parted, SameModule, SameWord}
use Rattle.laws_links.proofs.Owned.{said_own}
use Rattle.laws_links.proofs.Seeing.{Same, same_sym}
use Rattle.laws_links.proofs.Deciding.{paths-out}
use Rattle.laws_links.proofs.Holding.{Held}
use Rattle.laws_links.proofs.Nearness.{Near, settled_left, place_same, down_same, shows, active-seen, state-seen}
use Rattle.laws_links.proofs.Writing.{near_image, bytes-both}
use Rattle.laws_links.proofs.Working.{work-both, work_alone}
use Rattle.laws_links.proofs.Sensing.{condition-flag, flags-both, flags_alone, sampled_both, sampled_on-same, sampled_alone, path_lanes, moved_both, moved_alone, taken-same, shown_again_both}
use Rattle.laws_links.proofs.Events.{module_both, resets-same, ended-both, ended_alone, off_stays}

lane_below : (l : ℕ) → no_such_lane l ≡ false → l < 8
unfolding no_such_lane
lane_below l e = ltb-true l 8 (not-false _ e)

-- near, and both settled
settled_near : (A : ℕ) (s t : State) → Near A s t → Near A (with_image s (settled_image s.image)) (with_image t (settled_image t.image))
settled_near A s t N = near_image A s t N _ _ (settled_left A _ _ (same_sym A _ _ (settled_left A _ _ (same_sym A _ _ N.image))))

settled_near_left : (A : ℕ) (s t : State) → Near A s t → Near A (with_image s (settled_image s.image)) t
settled_near_left A s t N = near_image A s t N _ t.image (settled_left A _ _ N.image)

module _ (A : ℕ) where
  out_of : (l : ℕ) → l < 8 → (Inside A l → ⊥) → has A l ≡ false
  out_of l h n = split (has A l) (λ a. absurd (n (h, a))) (λ a. a)

  -- what is left in both runs, and what is said of the bytes that are read
  pub record Carried (i : ℕ) (o p : Effect) : Type 0 where
    pub states : Near A o.state p.state
    pub mask : o.mask ≡ p.mask
    pub bytes : Alike (λ k b. unsaid A (i + k) b) o.bytes p.bytes

  module _ (s t : State) (N : Near A s t) (P : PathsParted A s.image) (Q : PathsParted A t.image) where
    -- ---- refusals

    path_same : (l : ℕ) → l < 8 → has A l ≡ false → path_of (settings_of active_set s.image) l ≡ path_of (settings_of active_set t.image) l
    unfolding view_of
    path_same l h a = paths-out A (view_of (staged_base Set0) s.image) (view_of (staged_base Set0) t.image) (shows A s.image t.image N.image Set0 P Q) l h a

    busy_same : (l : ℕ) → l < 8 → has A l ≡ false → is_busy s l ≡ is_busy t l
    unfolding is_busy any_in_progress both
    busy_same l h a =
        rw (N.stages l h a, ← (path_same l h a))
        (ap (either (is_in_progress (stage_at t.working l))) (any_ext 8 _ _ (λ m k. split (has (path_of (settings_of active_set s.image) l) m)
        (λ i. rw (i, both, N.stages m k (path_lanes A s.image P l m h k i ∙ a)))
        (λ i. rw (i, both)))))

    unused-same : (l : ℕ) → l < 8 → has A l ≡ false → is_unused s l ≡ is_unused t l
    unfolding is_unused
    unused-same l h a = rw (active-seen A s.image t.image N.image l h a)

    work_refusals : (room l : ℕ) → (Inside A l → ⊥) → first_of (event_refusals room s (Work l)) ≡ first_of (event_refusals room t (Work l))
    unfolding event_refusals first_of pick
    work_refusals room l n = split (no_such_lane l)
        (λ e. rw (e, pick))
        (λ e. let h = lane_below l e in rw (e, pick, N.stages l h (out_of l h n)))

    hardware_refusals : (room l : ℕ) → (Inside A l → ⊥) → first_of (event_refusals room s (Hardware l)) ≡ first_of (event_refusals room t (Hardware l))
    unfolding event_refusals first_of pick
    hardware_refusals room l n = split (no_such_lane l)
        (λ e. rw (e, pick))
        (λ e. let h = lane_below l e in rw (e, pick, busy_same l h (out_of l h n), unused-same l h (out_of l h n)))

    pub refusals_both : (room : ℕ) (vs vs' : List ℕ) (c c' : Call) → SameCalls A s vs vs' c c' → first_of (event_refusals room s c) ≡ first_of (event_refusals room t c')
    unfolding event_refusals
    refusals_both room vs vs' (Write address count) c' m = rw m.0
    refusals_both room vs vs' (Read address count) c' m = rw m
    refusals_both room vs vs' (Work l) c' m = rw m.0 (work_refusals room l m.1)
    refusals_both room vs vs' (Hardware l) c' m = rw m.0 (hardware_refusals room l m.1)
    refusals_both room vs vs' (Condition flag mask) c' m = rw m.1
    refusals_both room vs vs' (Sample l p) c' m = rw m.0
    refusals_both room vs vs' (Lasting flag on off) c' m = rw m.2
    refusals_both room vs vs' Module c' m = rw m
    refusals_both room vs vs' (Line on) c' m = rw m

    -- ---- carried out in both runs

    on_near : (i : ℕ) (a b : State) → Near A a b → Carried i (record { state = a; bytes = []; mask = 0 }) (record { state = b; bytes = []; mask = 0 })
    on_near i a b M = record { states = M; mask = refl; bytes = alike_refl _ [] }

    read-both : (address count : ℕ) → Carried (index_of s.image address) (read_effect s (index_of s.image address) count) (read_effect t (index_of t.image address) count)
    unfolding read_effect
    read-both address count = rw (place_same A s.image t.image N.image address) (record {
      states = near_image A s t N _ _ (shown_again_both A s.working t.working N.ons _ count _ _ (alike_cleared (unsaid A) _ count s.image t.image N.image));
      mask = refl;
      bytes = taken-same A s.image t.image N.image (index_of s.image address) count;
    })

    worked-both : (i l : ℕ) → l < 8 → has A l ≡ false → Sound (seen_of s) → Held A s.working → (g : Option Progress) → stage_at s.working l ≡ g
        → Carried i (work_effect_on g early s) (work_effect_on g early t)
    unfolding work_effect_on
    worked-both i l h a S H None e = on_near i s t N
    worked-both i l h a S H (Some p) e =
        let G = S.grouped l p h e in
        let r = work-both A s t N p.group (λ m k j. H l m p h k e j ∙ a) p.verdict p.trigger l h G.own (λ n q k. (G.next n q).1 k) in
        record { states = r.0; mask = r.1; bytes = rw r.2 (alike_refl _ _) }

    work-carried : (i l : ℕ) → l < 8 → has A l ≡ false → Sound (seen_of s) → Held A s.working → Carried i (work_effect early s l) (work_effect early t l)
    unfolding work_effect
    work-carried i l h a S H = rw (← (N.stages l h a)) (worked-both i l h a S H (stage_at s.working l) refl)

    hardware-both : (l : ℕ) → l < 8 → has A l ≡ false
        → Same A (hardware_image (holds_down s.working.line s.image) s.image l) (hardware_image (holds_down t.working.line t.image) t.image l)
    unfolding hardware_image
    hardware-both l h a =
        rw (down_same A s.image t.image N.image t.working.line, ← N.line, ← (path_same l h a), ← (state-seen A s.image t.image N.image l h a))
        (moved_both A s.image t.image N.image (path_of (settings_of active_set s.image) l) (λ m k i. path_lanes A s.image P l m h k i ∙ a)
        (holds_down s.working.line s.image) (state_of (get s.image (state_at l))))

    lasting-both : (flag on off on' off' : ℕ) → is_condition_flag flag ≡ true → SameMask A on on' → SameMask A off off' → Near A (lasting_state flag on off s) (lasting_state flag on' off' t)
    unfolding lasting_state condition_image condition_on with_ons
    lasting-both flag on off on' off' e m n = let f = condition-flag flag e in record {
      image = flags-both A flag on on' f.0 f.1 m s.image t.image N.image;
      stages = λ l h a. stage-kept s.working _ l h ∙ N.stages l h a ∙ sym (stage-kept t.working _ l h);
      ons = λ l h a. on_in s.working _ l h ∙ rw (m l (h, a), n l (h, a), N.ons l h a) (sym (on_in t.working _ l h));
      line = N.line;
    }

    sample-both : (l p : ℕ) → Near A (sampled_state l p s) (sampled_state l p t)
    unfolding sampled_state with_ons
    sample-both l p = record {
      image = sampled_both A s.image t.image N.image l p;
      stages = λ m h a. stage-kept s.working _ m h ∙ N.stages m h a ∙ sym (stage-kept t.working _ m h);
      ons = λ m h a. on_in s.working _ m h ∙ rw (N.ons m h a, sampled_on-same A s.image t.image N.image p (on_at t.working m)) (sym (on_in t.working _ m h));
      line = N.line;
    }

    condition-both : (flag mask mask' : ℕ) → 134 ≤ flag → flag < 154 → SameMask A mask mask' → Same A (condition_image flag mask s.image) (condition_image flag mask' t.image)
    unfolding condition_image
    condition-both flag mask mask' lo hi m = flags-both A flag mask mask' lo hi m s.image t.image N.image

    module_near : length s.image ≡ image_length → length t.image ≡ image_length
        → get (settled_image (module_image s.working.line s.image)) module_state_bits ≡ get (settled_image (module_image t.working.line t.image)) module_state_bits
        → Near A (with_image s (module_image s.working.line s.image)) (with_image t (module_image t.working.line t.image))
    module_near size size' q = near_image A s t N _ _ (rw (← N.line) (module_both A s.image t.image N.image size size' s.working.line (rw (← N.line) at q)))

    pub carried-both : (room two : ℕ) (vs vs' : List ℕ) (c c' : Call) → SameCalls A s vs vs' c c' → is_done (first_of (event_refusals room s c)) ≡ true
        → Well two s → Well two t → Held A s.working → Parted A s (record { call = c; bytes = vs }) → Parted A t (record { call = c'; bytes = vs' })
        → get (settled_image (event_effect early s vs c).state.image) module_state_bits ≡ get (settled_image (event_effect early t vs' c').state.image) module_state_bits
        → Carried (index_of s.image (read_address c)) (event_effect early s vs c) (event_effect early t vs' c')
    unfolding event_effect event_refusals is_done
    carried-both room two vs vs' (Write address count) c' m d W U H G G' q =
        rw m.0 (on_near _ _ _ (ended-both A address (take count vs) (take count vs') count _ _ (resets-same A (take count vs) (take count vs') address s count m.1)
        (bytes-both A (take count vs) (take count vs') address s t N P Q m.1 G.groups (rw m.0 at G'.groups))))
    carried-both room two vs vs' (Read address count) c' m d W U H G G' q = rw m (read-both address count)
    carried-both room two vs vs' (Work l) c' m d W U H G G' q =
        let h = lane_below l (not-refused (refuse NoSuchTarget (no_such_lane l)) _ refl d).0 in
        rw m.0 (work-carried _ l h (out_of l h m.1) W.sound H)
    carried-both room two vs vs' (Hardware l) c' m d W U H G G' q =
        let h = lane_below l (not-refused (refuse NoSuchTarget (no_such_lane l)) _ refl d).0 in
        rw m.0 (on_near _ _ _ (near_image A s t N _ _ (hardware-both l h (out_of l h m.1))))
    carried-both room two vs vs' (Condition flag mask) c' m d W U H G G' q =
        let f = condition-flag flag (not-false _ (not-refused (refuse NoSuchTarget (not (is_condition_flag flag))) _ refl d).0) in
        rw m.1 (on_near _ _ _ (near_image A s t N _ _ (condition-both flag mask m.0 f.0 f.1 m.2)))
    carried-both room two vs vs' (Sample l p) c' m d W U H G G' q = rw m.0 (on_near _ _ _ (sample-both l p))
    carried-both room two vs vs' (Lasting flag on off) c' m d W U H G G' q =
        rw m.2 (on_near _ _ _ (lasting-both flag on off m.0 m.1 (not-false _ (not-refused (refuse NoSuchTarget (not (is_condition_flag flag))) _ refl d).0) m.3 m.4))
    carried-both room two vs vs' Module c' m d W U H G G' q =
        rw m (on_near _ _ _ (module_near W.size U.size (rw m at q)))
    carried-both room two vs vs' (Line on) c' m d W U H G G' q =
        rw m (on_near _ _ _ (record { image = N.image; stages = N.stages; ons = N.ons; line = refl }))

  -- ---- carried out in one run alone

  only_own : (m : ℕ) → OnlyOf A m → (l : ℕ) → l < 8 → has m l ≡ true → has A l ≡ true
  only_own m o l h e = split (has A l) (λ a. a) (λ a. absurd (clash e (o l (h, a))))

  module _ (s t : State) (N : Near A s t) where
    worked_alone : (l : ℕ) → l < 8 → has A l ≡ true → Sound (seen_of s) → Held A s.working → (g : Option Progress) → stage_at s.working l ≡ g
        → Near A (work_effect_on g early s).state t
    unfolding work_effect_on
    worked_alone l h a S H None e = N
    worked_alone l h a S H (Some p) e =
        work_alone A s t N p.group (λ m k j. H l m p h k e j ∙ a) p.verdict p.trigger (λ n q k. ((S.grouped l p h e).next n q).1 k)

    hardware_alone : (l : ℕ) → l < 8 → has A l ≡ true → PathsParted A s.image → (down : Bool) → Same A (hardware_image down s.image l) t.image
    unfolding hardware_image
    hardware_alone l h a P down = moved_alone A (path_of (settings_of active_set s.image) l) (λ m k i. path_lanes A s.image P l m h k i ∙ a) down _ s.image t.image N.image

    condition_alone : (flag mask : ℕ) → is_condition_flag flag ≡ true → OnlyOf A mask → Same A (condition_image flag mask s.image) t.image
    unfolding condition_image
    condition_alone flag mask e o = let f = condition-flag flag e in flags_alone A flag mask f.0 f.1 (only_own mask o) s.image t.image N.image

    lasting_alone : (flag on off : ℕ) → is_condition_flag flag ≡ true → OnlyOf A on → OnlyOf A off → Near A (lasting_state flag on off s) t
    unfolding lasting_state with_ons
    lasting_alone flag on off e o p = record {
      image = condition_alone flag on e o;
      stages = λ l h a. stage-kept s.working _ l h ∙ N.stages l h a;
      ons = λ l h a. on_in s.working _ l h ∙ off_stays A (lasting_index flag) on off l (on_at s.working l) (o l (h, a)) (p l (h, a)) ∙ N.ons l h a;
      line = N.line;
    }

    sample_alone : (l p : ℕ) → l < 8 → has A l ≡ true → Near A (sampled_state l p s) t
    unfolding sampled_state with_ons pick
    sample_alone l p h a = record {
      image = sampled_alone A l p h a s.image t.image N.image;
      stages = λ m k b. stage-kept s.working _ m k ∙ N.stages m k b;
      ons = λ m k b. on_in s.working _ m k ∙ rw (other m b, pick) (N.ons m k b);
      line = N.line;
    }
      where
        other : (m : ℕ) → has A m ≡ false → eqb l m ≡ false
        other m b = split (eqb l m) (λ e. absurd (clash a (rw (eqb-true l m e) b))) (λ e. e)

    -- the bytes of an access that is not refused stay in its half
    half_fits : (address count : ℕ) → is_bad_access write_limit address count ≡ false → address + count ≤ half_end address
    unfolding is_bad_access
    half_fits address count e = ltb-false (half_end address) (address + count) (either_r _ _ (either_r _ _ e))

    half_lower : (address count : ℕ) → address + count ≤ half_end address → address < 128 → address + count ≤ 128
    unfolding half_end pick
    half_lower address count h l = rw (lt-ltb address 128 l, pick) at h

    write_alone : (address count : ℕ) (vs : List ℕ) → (count ≤ length vs) × Concerns A s address (take count vs) → is_bad_access write_limit address count ≡ false
        → Near A (ended_state address (take count vs) count (bytes_written_state address (take count vs) s)) t
    write_alone address count vs m d =
        let n : length (take count vs) ≡ count = length-take-le count vs m.0 in
        let half : address < 128 → address + length (take count vs) ≤ 128 = λ l. rw n (half_lower address count (half_fits address count d) l) in
        subst (λ k. Near A (ended_state address (take count vs) k (bytes_written_state address (take count vs) s)) t) n (ended_alone A address (take count vs) s t N m.1 half)

    pub carried_alone : (room two : ℕ) (vs : List ℕ) (c : Call) → OwnCall A s vs c → is_done (first_of (event_refusals room s c)) ≡ true
        → Well two s → Held A s.working → PathsParted A s.image → Near A (event_effect early s vs c).state t
    unfolding event_effect event_refusals is_done work_effect
    carried_alone room two vs (Write address count) m d W H P = write_alone address count vs m (not-refused (refuse BadAccess (is_bad_access write_limit address count)) _ refl d).0
    carried_alone room two vs (Read address count) m d W H P = absurd m
    carried_alone room two vs (Work l) m d W H P = worked_alone l m.0 m.1 W.sound H (stage_at s.working l) refl
    carried_alone room two vs (Hardware l) m d W H P = near_image A s t N _ t.image (hardware_alone l m.0 m.1 P _)
    carried_alone room two vs (Condition flag mask) m d W H P =
        near_image A s t N _ t.image (condition_alone flag mask (not-false _ (not-refused (refuse NoSuchTarget (not (is_condition_flag flag))) _ refl d).0) m)
    carried_alone room two vs (Sample l p) m d W H P = sample_alone l p m.0 m.1
    carried_alone room two vs (Lasting flag on off) m d W H P =
        lasting_alone flag on off (not-false _ (not-refused (refuse NoSuchTarget (not (is_condition_flag flag))) _ refl d).0) m.0 m.1
    carried_alone room two vs Module m d W H P = absurd m
    carried_alone room two vs (Line on) m d W H P = absurd m

  -- ---- one event

  said_word : (s : State) (e : Event) (o p : Stepped) → o.answer ≡ p.answer → o.mask ≡ p.mask
      → Alike (λ k b. unsaid A (index_of s.image (read_address e.call) + k) b) o.bytes p.bytes → SameWord A s e o p
  said_word s e o p a m B = record { answer = a; mask = m; size = B.size; bytes = λ l k b h c. B.bits k b (said_own A l _ b h.1 c) }

  module _ (two : ℕ) (s t : State) (N : Near A s t) (W : Well two s) (U : Well two t) (H : Held A s.working) (room : ℕ) (e e' : Event)
      (G : Parted A s e) (G' : Parted A t e') (m : Allowed A s e e') where
    answers : first_of (event_refusals room s e.call) ≡ first_of (event_refusals room t e'.call)
    answers = refusals_both s t N G.paths G'.paths room e.bytes e'.bytes e.call e'.call m

    pub step_both : SameModule (step early room s e).state (step early room t e').state
        → Near A (step early room s e).state (step early room t e').state × SameWord A s e (step early room s e) (step early room t e')
    unfolding step answered_step done_step refused_step
    step_both q = split (is_done (first_of (event_refusals room s e.call)))
        (λ d. let d' : is_done (first_of (event_refusals room t e'.call)) ≡ true = sym (ap is_done answers) ∙ d in
        let C = carried-both s t N G.paths G'.paths room two e.bytes e'.bytes e.call e'.call m d W U H G G' (rw (pick_true _ _ d, pick_true _ _ d') at q) in
        rw (pick_true _ _ d, pick_true _ _ d') (settled_near A _ _ C.states, said_word s e _ _ answers C.mask C.bytes))
        (λ d. let d' : is_done (first_of (event_refusals room t e'.call)) ≡ false = sym (ap is_done answers) ∙ d in
        rw (pick-false _ _ d, pick-false _ _ d') (N, said_word s e _ _ answers refl (alike_refl _ [])))

  pub step_alone : (two : ℕ) (s t : State) → Near A s t → Well two s → Held A s.working → (room : ℕ) (e : Event) → Parted A s e → AllowedAlone A s e
      → Near A (step early room s e).state t
  unfolding step answered_step done_step refused_step
  step_alone two s t N W H room e G m = split (is_done (first_of (event_refusals room s e.call)))
      (λ d. rw (pick_true _ _ d) (settled_near_left A _ t (carried_alone s t N room two e.bytes e.call m d W H G.paths)))
      (λ d. rw (pick-false _ _ d) N)
