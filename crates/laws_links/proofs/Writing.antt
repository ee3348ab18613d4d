-- A trigger and a written byte, in both runs or in one alone. Assumes nothing.
use Rattle.std.proofs.Common.{None, Some, Option}
use mathlib.Core.Path.{◌≡◌, refl, sym, ap, ◌∙◌}
use mathlib.Core.Bool.{Bool, true, false}
use mathlib.Core.List.{List, [], ◌∷◌}
use mathlib.Core.Logic.{◌≢◌}
use Prim.Native.Nat.{ℕ, suc, ◌+◌, ◌-◌, ◌≤◌, ◌<◌}
use native.Mathlib.Decide.{ℕ_discrete}
use native.Mathlib.Omega.{arith}
use lib.Dec.{eqb}
use lib.ListN.{length, get_or, set}
use borrow.Author.Tests.{eqb-true, ne_eqb, lt-ltb}
use Rattle.bits.specs.Choice.{pick, both, either}
use Rattle.bits.specs.Loop.{any_of, all_below}
use Rattle.bits.specs.Number.{field}
use Rattle.bits.specs.Sets.{has}
use Rattle.bits.proofs.Tests.{split, clash, both_l, both_r, pick-false, pick-has}
use Rattle.bits.proofs.Number.{number_ext}
use Rattle.bits.proofs.Loops.{all_at}
use Rattle.model.specs.Map.{Image, page9_f, page10, on, module_controls, page_select, run_address, active_set, set_length, status_at, staged_base, find_trigger, trigger_at, is_trigger, in_ranges, writable}
use Rattle.model.specs.Statuses.{in_progress}
use Rattle.model.specs.Records.{with_stages}
use Rattle.model.specs.View.{View, view_of}
use Rattle.model.specs.Registers.{with_status}
use Rattle.model.specs.Triggers.{is_marked, stage_after, marked_state, is_ignored, triggered_state}
use Rattle.model.specs.State.{State, with_image}
use Rattle.model.specs.Pages.{page_start, selected_start, index_of, selected_image}
use Rattle.model.specs.Access.{without_reset, stored_by, stored_state, byte_written_state, bytes_written_state}
use Rattle.model.specs.declared.lane.Apply.{Apply}
use Rattle.model.specs.declared.lane.StagedSet.{StagedSet}
use Rattle.model.specs.declared.lane.Trigger.{Trigger}
use Rattle.laws_frames.proofs.Alike.{alike_page}
use Rattle.laws_frames.proofs.Ranges.{apart_from, not_in}
use Rattle.laws_frames.proofs.Registers.{settings-same}
use Rattle.laws_frames.proofs.Stages.{stage_in, on-kept}
use Rattle.laws_frames.proofs.Writes.{written_ranges, bytes_off}
use Rattle.laws_sound.proofs.Groups.{group_self}
use Rattle.laws_links.specs.Links.{lies, lane_of, belongs, inside, unsaid, SameMask, OnlyOf, SameBytes, ConcernsAt, Concerns, PathsParted, GroupsParted, ByteParted, BytesParted}
use Rattle.laws_links.proofs.Owned.{said_own, said_low, said_outside}
use Rattle.laws_links.proofs.Seeing.{own-status, Same, low, puts_both, puts_inside, set_both, set-inside}
use Rattle.laws_links.proofs.Deciding.{marks-out, stage-out}
use Rattle.laws_links.proofs.Nearness.{Near, shows, ignored_same, place_same}

-- bit l of a trigger's byte is lane l's: computed for each of them
owns_each : ℕ → Bool
owns_each i = all_below 8 (λ l. belongs l i l)

triggers-own : both (owns_each 527) (both (owns_each 528) (both (owns_each 562) (owns_each 563))) ≡ true
unfolding owns_each belongs lies lane_of any_of all_below both either
triggers-own = refl

trigger_owns : (i l : ℕ) → l < 8 → is_trigger (trigger_at i) ≡ true → belongs l i l ≡ true
unfolding trigger_at find_trigger is_trigger pick owns_each
trigger_owns i l h t = split (eqb i 527)
    (λ e. rw (eqb-true i 527 e) (all_at 8 _ (both_l _ _ triggers-own) l h))
    (λ e. split (eqb i 528)
    (λ f. rw (eqb-true i 528 f) (all_at 8 _ (both_l _ _ (both_r (owns_each 527) _ triggers-own)) l h))
    (λ f. split (eqb i 562)
    (λ g. rw (eqb-true i 562 g) (all_at 8 _ (both_l _ _ (both_r (owns_each 528) _ (both_r (owns_each 527) _ triggers-own))) l h))
    (λ g. split (eqb i 563)
    (λ k. rw (eqb-true i 563 k) (all_at 8 _ (both_r (owns_each 562) _ (both_r (owns_each 528) _ (both_r (owns_each 527) _ triggers-own))) l h))
    (λ k. absurd (clash (rw (e, f, g, k, pick, is_trigger) at t) refl)))))

applies_is : (a : Apply) → is_trigger (Some a) ≡ true
unfolding is_trigger
applies_is a = refl

place_at : (x : Image) (address : ℕ) → address ≡ run_address → selected_start x ≡ page9_f → index_of x address ≡ on page9_f run_address
unfolding index_of pick
place_at x address e q = rw e (ap (λ n. n + (run_address - 128)) q)

module _ (A : ℕ) where
  only_in : (m : ℕ) → OnlyOf A m → (l : ℕ) → l < 8 → has m l ≡ true → has A l ≡ true
  only_in m o l h e = split (has A l) (λ a. a) (λ a. absurd (clash e (o l (h, a))))

  -- ---- a trigger

  module _ (s t : State) (N : Near A s t) where
    marked-both : PathsParted A s.image → PathsParted A t.image → (kind : Trigger) (staged : StagedSet) (sel sel' : ℕ) → SameMask A sel sel'
        → GroupsParted A (view_of (staged_base staged) s.image) sel → GroupsParted A (view_of (staged_base staged) t.image) sel'
        → Near A (marked_state kind staged (view_of (staged_base staged) s.image) s sel) (marked_state kind staged (view_of (staged_base staged) t.image) t sel')
    unfolding marked_state with_status with_stages is_marked
    marked-both P Q kind staged sel sel' m G G' =
        let v = view_of (staged_base staged) s.image in
        let u = view_of (staged_base staged) t.image in
        let S = shows A s.image t.image N.image staged P Q in
        let chosen : (l : ℕ) → l < 8 → has A l ≡ false → has sel l ≡ has sel' l = λ l h a. m l (h, a) in
        record {
          image = puts_both A status_at in_progress own-status (is_marked v s.working sel) (is_marked u t.working sel') 8 (omega arith)
              (λ l h a. marks-out A v u S sel sel' chosen G G' s.working t.working N.stages l h a) s.image t.image N.image;
          stages = λ l h a. stage_in s.working (stage_after kind staged v s.working sel) l h
              ∙ stage-out A v u S sel sel' chosen G G' s.working t.working N.stages kind staged l h a (λ k. group_self v sel l h (both_l _ _ k))
              ∙ sym (stage_in t.working (stage_after kind staged u t.working sel') l h);
          ons = λ l h a. on-kept s.working (stage_after kind staged v s.working sel) l h ∙ N.ons l h a ∙ sym (on-kept t.working (stage_after kind staged u t.working sel') l h);
          line = N.line;
        }

    pub trigger-both : PathsParted A s.image → PathsParted A t.image → (kind : Trigger) (staged : StagedSet) (sel sel' : ℕ) → SameMask A sel sel'
        → (is_ignored kind s.image ≡ false → GroupsParted A (view_of (staged_base staged) s.image) sel)
        → (is_ignored kind t.image ≡ false → GroupsParted A (view_of (staged_base staged) t.image) sel')
        → Near A (triggered_state kind staged s sel) (triggered_state kind staged t sel')
    unfolding triggered_state pick
    trigger-both P Q kind staged sel sel' m G G' = let q = ignored_same A s.image t.image N.image kind in split (is_ignored kind s.image)
        (λ e. rw (q, e, pick) N)
        (λ e. rw (q, e, pick) (marked-both P Q kind staged sel sel' m (G e) (G' (q ∙ e))))

    marked_alone : (kind : Trigger) (staged : StagedSet) (v : View) (sel : ℕ) → OnlyOf A sel → Near A (marked_state kind staged v s sel) t
    unfolding marked_state with_status with_stages is_marked stage_after
    marked_alone kind staged v sel o = record {
      image = puts_inside A status_at in_progress own-status (is_marked v s.working sel) (λ l h e. only_in sel o l h (both_l _ _ e)) s.image t.image N.image;
      stages = λ l h a. stage_in s.working (stage_after kind staged v s.working sel) l h
          ∙ pick-false _ _ (split (is_marked v s.working sel l) (λ e. absurd (clash (both_l _ _ e) (o l (h, a)))) (λ e. e)) ∙ N.stages l h a;
      ons = λ l h a. on-kept s.working (stage_after kind staged v s.working sel) l h ∙ N.ons l h a;
      line = N.line;
    }

    pub trigger_alone : (kind : Trigger) (staged : StagedSet) (sel : ℕ) → OnlyOf A sel → Near A (triggered_state kind staged s sel) t
    unfolding triggered_state
    trigger_alone kind staged sel o = pick-has (λ (z : State). Near A z t) (is_ignored kind s.image) (λ e. N) (λ e. marked_alone kind staged _ sel o)

    -- another image
    pub near_image : (x y : Image) → Same A x y → Near A (with_image s x) (with_image t y)
    near_image x y K = record { image = K; stages = N.stages; ons = N.ons; line = N.line }

  -- ---- a byte in both runs

  not-inside-low : (i b : ℕ) → i < page10 → i ≢ 3 → inside A i b ≡ false
  not-inside-low i b h n = said_outside A i b (said_low A i b h n)

  module _ (s t : State) (N : Near A s t) (P : PathsParted A s.image) (Q : PathsParted A t.image) (i v v' : ℕ)
      (agree : (b : ℕ) → inside A i b ≡ false → field v b 1 ≡ field v' b 1) where
    same_low : i < page10 → i ≢ 3 → v ≡ v'
    same_low h n = number_ext v v' (λ b. agree b (not-inside-low i b h n))

    without_agrees : (b : ℕ) → unsaid A i b ≡ false → field (without_reset i v) b 1 ≡ field (without_reset i v') b 1
    unfolding without_reset pick
    without_agrees b e = split (eqb i module_controls)
        (λ q. let r : i ≡ module_controls = eqb-true i module_controls q in rw (same_low (omega arith) (λ z. omega arith)))
        (λ q. rw (q, pick) (agree b (said_outside A i b e)))

    page_both : i ≡ page_select → Same A (selected_image v s.image) (selected_image v' t.image)
    unfolding selected_image
    page_both e =
        let q : v ≡ v' = same_low (omega arith) (λ z. omega arith) in
        rw (← q, ← (low A s.image t.image N.image 126 (omega arith) (λ z. omega arith)))
        (alike_page (unsaid A) (page_start (get_or s.image 126 0) v) v s.image t.image N.image)

    by_both : (place : Option Apply) → trigger_at i ≡ place → ByteParted place A s v → ByteParted place A t v' → Near A (stored_by place i v s) (stored_by place i v' t)
    unfolding stored_by pick has
    by_both None e G G' = split (writable i)
        (λ w. rw (w, pick) (near_image s t N _ _ (set_both A s.image t.image i (without_reset i v) (without_reset i v') without_agrees N.image)))
        (λ w. rw (w, pick) N)
    by_both (Some a) e G G' = trigger-both s t N P Q a.trigger a.set v v'
        (λ l o. ap (λ f. eqb f 1) (agree l (said_outside A i l (said_own A l i l o.1 (trigger_owns i l o.0 (is_trigger_lem e)))))) G G'
      where
        is_trigger_lem : trigger_at i ≡ Some a → is_trigger (trigger_at i) ≡ true
        is_trigger_lem f = ap is_trigger f ∙ applies_is a

    stored-both : ByteParted (trigger_at i) A s v → ByteParted (trigger_at i) A t v' → Near A (stored_state i v s) (stored_state i v' t)
    unfolding stored_state pick
    stored-both G G' = split (eqb i page_select)
        (λ e. rw (e, pick) (near_image s t N _ _ (page_both (eqb-true i page_select e))))
        (λ e. rw (e, pick) (by_both (trigger_at i) refl G G'))

  -- ---- a byte in one run alone

  by_alone : (s t : State) → Near A s t → (place : Option Apply) (i v : ℕ) → i ≢ module_controls → ConcernsAt place A s i v → Near A (stored_by place i v s) t
  unfolding stored_by without_reset pick
  by_alone s t N None i v n c = split (writable i)
      (λ w. rw (w, ne_eqb i module_controls n, pick)
      (near_image s t N _ t.image (set-inside A s.image t.image i v (λ b e. c w b (said_outside A i b e)) N.image)))
      (λ w. rw (w, pick) N)
  by_alone s t N (Some a) i v n c = trigger_alone s t N a.trigger a.set v c

  pub byte_alone : (s t : State) → Near A s t → (address v : ℕ) → index_of s.image address ≢ page_select → index_of s.image address ≢ module_controls
      → ConcernsAt (trigger_at (index_of s.image address)) A s (index_of s.image address) v → Near A (byte_written_state address v s) t
  unfolding byte_written_state stored_state pick
  byte_alone s t N address v n m c = rw (ne_eqb (index_of s.image address) page_select n, pick) (by_alone s t N (trigger_at (index_of s.image address)) (index_of s.image address) v m c)

  -- ---- the bytes of a write

  -- no write changes the active settings
  paths-kept : (address v : ℕ) (s : State) → PathsParted A s.image → PathsParted A (byte_written_state address v s).image
  unfolding bytes_written_state apart_from both either
  paths-kept address v s P = rw (settings-same active_set s.image (byte_written_state address v s).image
      (λ j a b. bytes_off j (split (in_ranges written_ranges j) (λ e. absurd (not_in active_set (active_set + set_length) written_ranges j refl a b e)) (λ e. e)) address (v ∷ []) s)) P

  pub bytes-both : (vs vs' : List ℕ) (address : ℕ) (s t : State) → Near A s t → PathsParted A s.image → PathsParted A t.image
      → SameBytes A s address vs vs' → BytesParted A s address vs → BytesParted A t address vs' → Near A (bytes_written_state address vs s) (bytes_written_state address vs' t)
  unfolding SameBytes BytesParted bytes_written_state byte_written_state
  bytes-both [] [] address s t N P Q c G G' = N
  bytes-both [] (v' ∷ vs') address s t N P Q c G G' = absurd c
  bytes-both (v ∷ vs) [] address s t N P Q c G G' = absurd c
  bytes-both (v ∷ vs) (v' ∷ vs') address s t N P Q c G G' =
      let q = place_same A s.image t.image N.image address in
      let M : Near A (byte_written_state address v s) (byte_written_state address v' t) =
      rw q (stored-both s t N P Q (index_of s.image address) v v' c.0 G.0 (rw q at G'.0)) in
      bytes-both vs vs' (suc address) (byte_written_state address v s) (byte_written_state address v' t) M (paths-kept address v s P) (paths-kept address v' t Q) c.1 G.1 G'.1

  pub bytes_alone : (vs : List ℕ) (address : ℕ) (s t : State) → Near A s t → Concerns A s address vs → Near A (bytes_written_state address vs s) t
  unfolding Concerns bytes_written_state
  bytes_alone [] address s t N c = N
  bytes_alone (v ∷ vs) address s t N c = bytes_alone vs (suc address) (byte_written_state address v s) t (byte_alone s t N address v c.0 c.1 c.3) c.4

  -- .. which run no command and reset nothing
  pub no_reset : (vs : List ℕ) (address : ℕ) (s : State) → Concerns A s address vs → address ≤ module_controls → module_controls < address + length vs → ⊥
  unfolding Concerns index_of pick
  no_reset [] address s c h k = omega arith
  no_reset (v ∷ vs) address s c h k = elim (ℕ_discrete address module_controls) [
    | yes e ↦ c.1 (rw (lt-ltb address 128 (omega arith), pick) e)
    | no n ↦ no_reset vs (suc address) (byte_written_state address v s) c.4 (omega arith) (omega arith)
  ]

  pub no_command : (vs : List ℕ) (address : ℕ) (s t : State) → Near A s t → Concerns A s address vs → 128 ≤ address → address ≤ run_address → run_address < address + length vs
      → selected_start t.image ≢ page9_f
  unfolding Concerns
  no_command [] address s t N c f h k = absurd (omega arith)
  no_command (v ∷ vs) address s t N c f h k = elim (ℕ_discrete address run_address) [
    | yes e ↦ λ q. c.2 (sym (place_same A s.image t.image N.image address) ∙ placed e q)
    | no n ↦ no_command vs (suc address) (byte_written_state address v s) t (byte_alone s t N address v c.0 c.1 c.3) c.4 (omega arith) (omega arith) (omega arith)
  ]
    where
      placed : address ≡ run_address → selected_start t.image ≡ page9_f → index_of t.image address ≡ on page9_f run_address
      placed e q = place_at t.image address e q
