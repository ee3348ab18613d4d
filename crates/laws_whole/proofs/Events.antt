-- Every event in both runs: the same refusals, and what is carried out leaves a pair again.
use mathlib.Core.Path.{◌≡◌, refl, sym, subst, ◌∙◌}
use mathlib.Core.Bool.{Bool, true, false, not}
use mathlib.Core.List.{List}
use Prim.Native.Nat.{ℕ, ◌+◌, ◌<◌}
use native.Mathlib.Decide.{dec_lt}
use native.Mathlib.Omega.{arith}
use lib.Dec.{eqb}
use lib.ListN.{take}
use borrow.Author.Tests.{ltb-true, eqb-true, not-false}
use Rattle.bits.specs.Choice.{pick, either}
use Rattle.bits.specs.Number.{field}
use Rattle.bits.specs.Place.{get, digit}
use Rattle.bits.proofs.Tests.{split, either_l}
use Rattle.bits.proofs.Loops.{tab_at, tab_past, length-tab}
use Rattle.model.specs.Map.{Image, image_length, module_controls, trigger_at, is_trigger, state_at}
use Rattle.model.specs.Answers.{is_done}
use Rattle.model.specs.PathStates.{state_of}
use Rattle.model.specs.Records.{idle_with, stage_at, is_in_progress, with_line}
use Rattle.model.specs.View.{path_of}
use Rattle.model.specs.State.{State, with_image, state_with}
use Rattle.model.specs.Work.{early, late}
use Rattle.model.specs.Power.{holds_down}
use Rattle.model.specs.Hardware.{hardware_image}
use Rattle.model.specs.Flags.{is_condition_flag, lasting_state, sampled_state, settled_image}
use Rattle.model.specs.Pages.{index_of}
use Rattle.model.specs.Start.{started_state, reset_state}
use Rattle.model.specs.Access.{without_reset, resets, ended_state, shown_byte, taken_bytes}
use Rattle.model.specs.Refusals.{refuse, first_of, no_such_lane, is_busy, is_unused, event_refusals}
use Rattle.model.specs.Step.{read_effect, event_effect}
use Rattle.model.specs.declared.answer.Answer.TheVariants.{Busy, NoSuchTarget}
use Rattle.model.specs.declared.event.Call.{Call}
use Rattle.model.specs.declared.event.Call.TheVariants.{Write, Read, Work, Hardware, Condition, Sample, Lasting, Module, Line}
use Rattle.model.specs.declared.lane.Working.{Working}
use Rattle.laws_frames.proofs.Stages.{idle-stage, stage-kept}
use Rattle.laws_frames.proofs.Starting.{same_start}
use Rattle.laws_sound.specs.Sound.{seen_of, Sound}
use Rattle.laws_sound.proofs.Steps.{not-refused}
use Rattle.laws_whole.specs.Whole.{hidden, hidden_read}
use Rattle.laws_whole.proofs.Agree.{of_none, none_of}
use Rattle.laws_whole.proofs.Sees.{active_of}
use Rattle.laws_sound.proofs.Stranger.{not-idle, idle_passing}
use Rattle.laws_whole.proofs.Pairs.{passed, passing_busy, veiled, Pair, Paired, same-active, same-lanes}
use Rattle.laws_whole.proofs.Kept.{keeps_refl, keeps_ended, keeps_module, changed, waits_keeps, keeps_settled, keeps_sample, keeps_condition, keeps_hardware, keeps_read, changed_records}
use Rattle.laws_whole.proofs.Changes.{low, kept_same, down_same, alike_module, alike-ended, alike_settled, alike_sampled, sampled_same, alike_moved, place_same, state-read}
use Rattle.laws_sound.proofs.Quiet.{Well}
use Rattle.laws_whole.proofs.Bytes.{bytes_pair}
use Rattle.laws_whole.proofs.Working.{Carries, leaves_pair, work_carries}
use Rattle.laws_frames.proofs.Alike.{alike_cleared, alike-condition, alike_refl, alike_shown}
use Rattle.laws_frames.specs.Alike.{Alike}

-- what is not hidden is not veiled
pub hidden_veiled : (w : Working) (i b : ℕ) → hidden w i b ≡ false → veiled w i b ≡ false
unfolding hidden
hidden_veiled w i b h = of_none (passed w) i b (λ l hl p. none_of (λ l. is_in_progress (stage_at w l)) l i b hl h (passing_busy (stage_at w l) p))

-- lower 3.0 settled in both
pub settled_pair : (s a : State) → Paired s a → Paired (with_image s (settled_image s.image)) (with_image a (settled_image a.image))
settled_pair s a Q = record {
  working = Q.working;
  pair = record {
    size = (keeps_settled s.image).size ∙ Q.pair.size;
    alike = alike_settled (passed s.working) s.image a.image Q.pair.alike;
    waits = waits_keeps a.image _ s.working (keeps_settled a.image) Q.pair.waits;
  };
}

-- a fresh start of one image in both
pub fresh_pair : (x : Image) (line : Bool) → Paired (state_with (started_state x).image (idle_with line)) (state_with (started_state x).image (idle_with line))
unfolding started_state
fresh_pair x line = record {
  working = refl;
  pair = record { size = length-tab image_length _; alike = alike_refl _ _; waits = λ l n p b e q. absurd (not-idle (idle-stage line l b) e) };
}

-- a reset leaves both in one state
pub reset_same : (s a : State) → Paired s a → reset_state a ≡ reset_state s
unfolding reset_state
reset_same s a Q =
    let e = same_start s.image a.image (kept_same (passed s.working) s.image a.image Q.pair.alike) in
    λ i. record { image = (e i).image; working = idle_with (Q.working i).line }

reset_pair : (s a : State) → Paired s a → Paired (reset_state s) (reset_state a)
unfolding reset_state
reset_pair s a Q = subst (λ t. Paired (reset_state s) t) (sym (reset_same s a Q)) (fresh_pair s.image s.working.line)

-- the end of a write in both
ended-pair : (address : ℕ) (bytes : List ℕ) (n : ℕ) (s a : State) → Paired s a → Paired (ended_state address bytes n s) (ended_state address bytes n a)
unfolding ended_state pick
ended-pair address bytes n s a Q = split (resets address bytes n)
    (λ e. rw (e, pick) (reset_pair s a Q))
    (λ e. rw (e, pick) (record {
      working = Q.working;
      pair = record {
        size = (keeps_ended address n s.image).size ∙ Q.pair.size;
        alike = alike-ended (passed s.working) s.image a.image Q.pair.alike address n;
        waits = waits_keeps a.image _ s.working (keeps_ended address n a.image) Q.pair.waits;
      };
    }))

-- ---- an answer that is done
lane_below : (l : ℕ) → no_such_lane l ≡ false → l < 8
unfolding no_such_lane
lane_below l e = ltb-true l 8 (not-false _ e)

module _ (x y : Image) (w : Working) (S : Sound (seen_of (state_with x w))) (P : Pair x y w) where
  -- ---- refusals
  busy_same : (l : ℕ) → l < 8 → is_busy (state_with x w) l ≡ is_busy (state_with y w) l
  unfolding is_busy either
  busy_same l b = split (is_in_progress (stage_at w l))
      (λ p. rw (p, either))
      (λ p. rw (same-lanes x y w S P l b (idle_passing (stage_at w l) p)))

  idle-of : (l : ℕ) → is_busy (state_with x w) l ≡ false → is_in_progress (stage_at w l) ≡ false
  unfolding is_busy
  idle-of l e = either_l _ _ e

  unused-same : (l : ℕ) → l < 8 → is_busy (state_with x w) l ≡ false → is_unused (state_with x w) l ≡ is_unused (state_with y w) l
  unfolding is_unused
  unused-same l b e = rw (same-active x y w S P l b (idle_passing (stage_at w l) (idle-of l e)))

  hardware-same : (room l : ℕ) → first_of (event_refusals room (state_with x w) (Hardware l)) ≡ first_of (event_refusals room (state_with y w) (Hardware l))
  unfolding event_refusals first_of pick
  hardware-same room l = split (no_such_lane l)
      (λ n. rw (n, pick))
      (λ n. let b : l < 8 = lane_below l n in split (is_busy (state_with x w) l)
      (λ u. rw (n, ← (busy_same l b), u, pick))
      (λ u. rw (n, ← (busy_same l b), u, unused-same l b u)))

  pub refusals_same : (room : ℕ) (c : Call) → first_of (event_refusals room (state_with x w) c) ≡ first_of (event_refusals room (state_with y w) c)
  unfolding event_refusals
  refusals_same room (Write address count) = refl
  refusals_same room (Read address count) = refl
  refusals_same room (Work l) = refl
  refusals_same room (Hardware l) = hardware-same room l
  refusals_same room (Condition flag mask) = refl
  refusals_same room (Sample l p) = refl
  refusals_same room (Lasting flag on off) = refl
  refusals_same room Module = refl
  refusals_same room (Line on) = refl

  -- ---- reads
  shown_alike : (i b : ℕ) → veiled w i b ≡ false → field (shown_byte x i) b 1 ≡ field (shown_byte y i) b 1
  unfolding shown_byte without_reset pick digit
  shown_alike i b h = split (is_trigger (trigger_at i))
      (λ e. rw (e, pick))
      (λ e. split (eqb i module_controls)
      (λ m. rw (e, m, pick, low (passed w) x y P.alike i (omega (arith, eqb-true i module_controls m))))
      (λ m. rw (e, m, pick) (P.alike.bits i b h)))

  taken-alike : (i n : ℕ) → Alike (λ k b. hidden w (i + k) b) (taken_bytes x i n) (taken_bytes y i n)
  unfolding taken_bytes digit
  taken-alike i n = record {
    size = length-tab n _ ∙ sym (length-tab n _);
    bits = λ k b h. elim (dec_lt k n) [
      | yes l ↦ rw (tab_at n (λ k. shown_byte x (i + k)) k 0 l, tab_at n (λ k. shown_byte y (i + k)) k 0 l) (shown_alike (i + k) b (hidden_veiled w (i + k) b h))
      | no l ↦ rw (tab_past n (λ k. shown_byte x (i + k)) k 0 (omega arith), tab_past n (λ k. shown_byte y (i + k)) k 0 (omega arith))
    ];
  }

  read_carries : (address count : ℕ) → Carries (hidden_read (state_with x w) (Read address count)) (read_effect (state_with x w) (index_of x address) count) (read_effect (state_with y w) (index_of y address) count)
  unfolding read_effect hidden_read
  read_carries address count = rw (place_same (passed w) x y P.alike address) (record {
    states = changed x y _ _ w P (keeps_read w x _ count) (keeps_read w y _ count) (alike_shown (veiled w) w _ count _ _ (alike_cleared (veiled w) _ count x y P.alike));
    mask = refl;
    bytes = taken-alike (index_of x address) count;
  })

  -- ---- hardware
  hardware-alike : (down : Bool) (l : ℕ) → l < 8 → is_in_progress (stage_at w l) ≡ false → Alike (veiled w) (hardware_image down x l) (hardware_image down y l)
  unfolding hardware_image
  hardware-alike down l b f = rw (← (same-lanes x y w S P l b (idle_passing (stage_at w l) f)), state-read (passed w) x y P.alike l b)
      (alike_moved (passed w) x y P.alike down (path_of (active_of x) l) (state_of (get x (state_at l))))

-- ---- what is carried out
module _ (x y : Image) (w : Working) (two : ℕ) (T : Well two (state_with x w)) (P : Pair x y w) where
  pub carried-pair : (room : ℕ) (bytes : List ℕ) (c : Call) → is_done (first_of (event_refusals room (state_with x w) c)) ≡ true
      → Carries (hidden_read (state_with x w) c) (event_effect early (state_with x w) bytes c) (event_effect late (state_with y w) bytes c)
  unfolding event_effect sampled_state lasting_state event_refusals is_done
  carried-pair room bytes (Write address count) d = leaves_pair _ (ended-pair address (take count bytes) count _ _ (bytes_pair (take count bytes) address x y w two T P))
  carried-pair room bytes (Read address count) d = read_carries x y w T.sound P address count
  carried-pair room bytes (Work l) d =
      work_carries x y w T.sound P _ l (lane_below l (not-refused (refuse NoSuchTarget (no_such_lane l)) _ refl d).0)
  carried-pair room bytes (Hardware l) d =
      let a = not-refused (refuse NoSuchTarget (no_such_lane l)) _ refl d in
      let b : l < 8 = lane_below l a.0 in
      let f = idle-of x y w T.sound P l (not-refused (refuse Busy (is_busy (state_with x w) l)) _ refl a.1).0 in
      rw (down_same (passed w) x y P.alike w.line)
      (leaves_pair _ (changed x y _ _ w P (keeps_hardware _ l x) (keeps_hardware _ l y) (hardware-alike x y w T.sound P (holds_down w.line x) l b f)))
  carried-pair room bytes (Condition flag mask) d =
      let e : is_condition_flag flag ≡ true = not-false _ (not-refused (refuse NoSuchTarget (not (is_condition_flag flag))) _ refl d).0 in
      leaves_pair _ (changed x y _ _ w P (keeps_condition flag mask x e) (keeps_condition flag mask y e) (alike-condition (veiled w) flag mask x y P.alike))
  carried-pair room bytes (Sample l p) d =
      let b : l < 8 = lane_below l (not-refused (refuse NoSuchTarget (no_such_lane l)) _ refl d).0 in
      rw (sampled_same (passed w) x y P.alike p)
      (leaves_pair _ (changed_records x y _ _ w _ (stage-kept w _) P (keeps_sample l p x b) (keeps_sample l p y b) (alike_sampled (passed w) x y P.alike l p)))
  carried-pair room bytes (Lasting flag on off) d =
      let e : is_condition_flag flag ≡ true = not-false _ (not-refused (refuse NoSuchTarget (not (is_condition_flag flag))) _ refl d).0 in
      leaves_pair _ (changed_records x y _ _ w _ (stage-kept w _) P (keeps_condition flag on x e) (keeps_condition flag on y e) (alike-condition (veiled w) flag on x y P.alike))
  carried-pair room bytes Module d =
      leaves_pair _ (changed x y _ _ w P (keeps_module w.line x) (keeps_module w.line y) (alike_module (passed w) x y P.alike w.line))
  carried-pair room bytes (Line on) d = leaves_pair _ (changed_records x y x y w (with_line w on) (λ l b. refl) P (keeps_refl x) (keeps_refl y) P.alike)
