-- What is on after each event: a lasting condition and a sample change it, and nothing else does. What a read shows of it. Assumes nothing.
use Rattle.std.proofs.Common.{None, Some, Option}
use mathlib.Core.Path.{◌≡◌, refl, ap, ◌∙◌}
use mathlib.Core.Bool.{true, false}
use mathlib.Core.List.{List, [], ◌∷◌}
use mathlib.Core.Logic.{inl, inr, ◌≢◌}
use Prim.Native.Nat.{ℕ, suc, ◌+◌, ◌<◌}
use native.Mathlib.Decide.{dec_lt}
use native.Mathlib.Omega.{arith}
use lib.Dec.{ltb}
use lib.ListN.{length, get_or, take}
use Rattle.bits.specs.Choice.{pick}
use Rattle.bits.specs.Loop.{each}
use Rattle.bits.specs.Place.{get}
use Rattle.bits.specs.Sets.{has}
use Rattle.bits.proofs.Tests.{split, clash, pick-has}
use Rattle.bits.proofs.Loops.{each_skip, each_hit}
use Rattle.bits.proofs.Masks.{has-mask, mask_lt}
use Rattle.model.specs.Map.{Image, image_length, on, page11, flag_at, lasting_count, lasting_flag}
use Rattle.model.specs.Records.{stage_at, on_at, on_lanes, freed_working, advanced_working}
use Rattle.model.specs.Registers.{with_flags}
use Rattle.model.specs.State.{State}
use Rattle.model.specs.Effect.{Effect}
use Rattle.model.specs.Triggers.{stage_after, marked_state, is_ignored, triggered_state}
use Rattle.model.specs.Work.{Mode, closed_state, closing_effect, copied_state, work_effect_by, work_effect_on, work_effect}
use Rattle.model.specs.Flags.{lasting_state, sampled_state, is_read, shown_again_image}
use Rattle.model.specs.Access.{stored_state, byte_written_state, bytes_written_state, resets, ended_state}
use Rattle.model.specs.Start.{reset_state}
use Rattle.model.specs.Step.{read_effect, event_effect}
use Rattle.model.specs.declared.lane.Trigger.{Trigger}
use Rattle.model.specs.declared.lane.StagedSet.{StagedSet}
use Rattle.model.specs.declared.lane.Verdict.{Verdict}
use Rattle.model.specs.declared.lane.Verdict.TheVariants.{Pass, Reject}
use Rattle.model.specs.declared.lane.Progress.{Progress}
use Rattle.model.specs.declared.event.Call.{Call}
use Rattle.model.specs.declared.event.Call.TheVariants.{Write, Read, Work, Hardware, Condition, Sample, Lasting, Module, Line}
use Rattle.model.specs.declared.lane.Working.{Working}
use Rattle.laws_frames.specs.Frames.{Beside, is_reset, on_after}
use Rattle.laws_frames.proofs.Outside.{get-same}
use Rattle.laws_frames.proofs.Registers.{lane-from, lane-to}
use Rattle.laws_frames.proofs.Stored.{stored_cases}
use Rattle.laws_frames.proofs.Changes.{flags_outside}
use Rattle.laws_frames.proofs.Back.{flag_in, flags_alone}
use Rattle.laws_frames.proofs.Stages.{idle-on, on_in, on-kept}

module _ (l : ℕ) (h : l < 8) where
  -- what is on for lane l is as it was in the state s
  abbrev Kept : State → State → Type 0
  Kept s t = on_at t.working l ≡ on_at s.working l

  triggered_on : (t : Trigger) (set : StagedSet) (selected : ℕ) (s : State) → Kept s (triggered_state t set s selected)
  unfolding triggered_state marked_state
  triggered_on t set selected s = pick-has (Kept s) (is_ignored t s.image) (λ e. refl) (λ e. on-kept s.working (stage_after t set _ s.working selected) l h)

  stored_on : (i v : ℕ) (s : State) → Kept s (stored_state i v s)
  stored_on i v s = stored_cases (λ u t. Kept s t) i v s s (λ e. refl) (λ kind set. triggered_on kind set v s) (λ e. refl) refl

  pub bytes_on : (address : ℕ) (vs : List ℕ) (s : State) → Kept s (bytes_written_state address vs s)
  unfolding bytes_written_state byte_written_state
  bytes_on address [] s = refl
  bytes_on address (v ∷ vs) s = bytes_on (suc address) vs _ ∙ stored_on _ v s

  closed_on : (s : State) (g : ℕ) → on_at (freed_working s.working g) l ≡ on_at s.working l
  unfolding freed_working
  closed_on s g = on-kept s.working _ l h

  by_on : (v : Verdict) (mode : Mode) (s : State) (g : ℕ) (t : Trigger) → Kept s (work_effect_by v mode s g t).state
  unfolding work_effect_by closed_state closing_effect copied_state advanced_working
  by_on (Reject code) mode s g t = closed_on s g
  by_on (Pass n) mode s g t = pick-has (λ (c : Effect). Kept s c.state) (ltb n 8) (λ e. on-kept s.working _ l h) (λ e. closed_on s g)

  on-on : (t : Option Progress) (mode : Mode) (s : State) → Kept s (work_effect_on t mode s).state
  unfolding work_effect_on
  on-on None mode s = refl
  on-on (Some p) mode s = by_on p.verdict mode s p.group p.trigger

  ended-on : (address : ℕ) (bytes : List ℕ) (n : ℕ) (s : State) → on_at (ended_state address bytes n s).working l ≡ pick (resets address bytes n) 0 (on_at s.working l)
  unfolding ended_state reset_state pick
  ended-on address bytes n s = split (resets address bytes n)
      (λ e. rw (e, pick) (idle-on s.working.line l h))
      (λ e. rw (e, pick))

  -- THE LAW: what every event that is carried out leaves of what is on
  pub event-on : (mode : Mode) (s : State) (bytes : List ℕ) (c : Call) → on_at (event_effect mode s bytes c).state.working l ≡ on_after s bytes c l
  unfolding event_effect read_effect work_effect sampled_state lasting_state is_reset on_after
  event-on mode s bytes (Write address count) = ended-on address (take count bytes) count (bytes_written_state address (take count bytes) s) ∙ ap (pick _ 0) (bytes_on address (take count bytes) s)
  event-on mode s bytes (Read address count) = refl
  event-on mode s bytes (Work m) = on-on (stage_at s.working m) mode s
  event-on mode s bytes (Hardware m) = refl
  event-on mode s bytes (Condition flag mask) = refl
  event-on mode s bytes (Sample m p) = on_in s.working _ l h
  event-on mode s bytes (Lasting flag on off) = on_in s.working _ l h
  event-on mode s bytes Module = refl
  event-on mode s bytes (Line on) = refl

-- ---- what a read shows again

-- where a flag that can last lies
abbrev pub lasting_at : ℕ → ℕ
lasting_at k = on page11 (lasting_flag k)

pub flag-byte : (k l : ℕ) → l < 8 → (flag_at (lasting_flag k) l).byte ≡ lasting_at k
flag-byte k l b = omega (arith, lane-from (lasting_at k) 1 l b refl, lane-to (lasting_at k) 1 l b refl)

-- two of them lie apart
flags-apart : (j k : ℕ) → j < lasting_count → k < lasting_count → j ≢ k → Beside (lasting_at j) (lasting_at j + 1) (lasting_at k)
flags-apart j k p q d = elim (dec_lt k j) [ yes h ↦ inl (omega arith) | no h ↦ inr (omega arith) ]

module _ (w : Working) (i n : ℕ) (x : Image) where
  -- one that was not read is as it was
  pub shown_unread : (k : ℕ) → k < lasting_count → is_read i n (lasting_at k) ≡ false → get_or (shown_again_image w i n x) (lasting_at k) 0 ≡ get_or x (lasting_at k) 0
  unfolding shown_again_image
  shown_unread k h e = each_skip _ _ (λ y. get_or y (lasting_at k) 0) lasting_count x (λ j y b t.
      (flags_outside (lasting_flag j) _ y).byte (lasting_at k) (flags-apart j k b h (λ q. clash (rw q at t) e)))

  -- and so is a byte that holds none of them
  pub shown_none : (a : ℕ) → ((k : ℕ) → k < lasting_count → lasting_at k ≢ a) → get_or (shown_again_image w i n x) a 0 ≡ get_or x a 0
  unfolding shown_again_image
  shown_none a f = each_skip _ _ (λ y. get_or y a 0) lasting_count x (λ j y b t.
      (flags_outside (lasting_flag j) _ y).byte a (let d = f j b in elim (dec_lt a (lasting_at j)) [ yes h ↦ inl h | no h ↦ inr (omega arith) ]))

  module _ (k : ℕ) (h : k < lasting_count) (r : is_read i n (lasting_at k) ≡ true) where
    -- the image before its turn
    before : Image
    before = each (λ j. is_read i n (lasting_at j)) (λ j y. with_flags (lasting_flag j) (on_lanes w j) y) k x

    size_before : length before ≡ length x
    unfolding before
    size_before = each_skip _ _ length k x (λ j y b t. (flags_outside (lasting_flag j) _ y).size)

    -- one that was read has its turn ..
    shown_turn : get_or (shown_again_image w i n x) (lasting_at k) 0 ≡ get_or (with_flags (lasting_flag k) (on_lanes w k) before) (lasting_at k) 0
    unfolding shown_again_image before
    shown_turn = each_hit _ _ (λ y. get_or y (lasting_at k) 0) k lasting_count x h r (λ j y a b t.
        (flags_outside (lasting_flag j) _ y).byte (lasting_at k) (flags-apart j k b h (omega arith)))

    -- .. before which it is as it was
    before_turn : get_or before (lasting_at k) 0 ≡ get_or x (lasting_at k) 0
    unfolding before
    before_turn = each_skip _ _ (λ y. get_or y (lasting_at k) 0) k x (λ j y b t.
        (flags_outside (lasting_flag j) _ y).byte (lasting_at k) (flags-apart j k (omega arith) h (omega arith)))

    -- a byte that was 0 shows what is on and nothing else
    pub shown_alone : length x ≡ image_length → get_or x (lasting_at k) 0 ≡ 0 → get_or (shown_again_image w i n x) (lasting_at k) 0 ≡ on_lanes w k
    unfolding on_lanes
    shown_alone size e =
        shown_turn ∙ flags_alone before (lasting_flag k) (on_lanes w k) (omega (arith, size_before)) (mask_lt 8 _) (before_turn ∙ e)

    module _ (l : ℕ) (b : l < 8) where
      flag_turn : get (shown_again_image w i n x) (flag_at (lasting_flag k) l) ≡ get (with_flags (lasting_flag k) (on_lanes w k) before) (flag_at (lasting_flag k) l)
      flag_turn = get-same _ _ (flag_at (lasting_flag k) l) (rw (flag-byte k l b) shown_turn)

      -- a flag that is on is 1 in a byte that was read
      pub shown_on : length x ≡ image_length → has (on_at w l) k ≡ true → get (shown_again_image w i n x) (flag_at (lasting_flag k) l) ≡ 1
      unfolding on_lanes
      shown_on size e = flag_turn ∙ flag_in before (lasting_flag k) (on_lanes w k) l (omega (arith, size_before)) b (has-mask 8 (λ m. has (on_at w m) k) l b ∙ e)
