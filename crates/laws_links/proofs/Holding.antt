-- Every group in progress lies wholly inside A or wholly outside, in each run by itself: from what is supposed of its triggers. Assumes nothing.
use Rattle.std.proofs.Common.{None, Some, Option}
use mathlib.Core.Path.{◌≡◌, refl, sym, ap, ◌∙◌}
use mathlib.Core.Bool.{Bool, true, false}
use mathlib.Core.List.{List, [], ◌∷◌}
use Prim.Native.Nat.{ℕ, suc, ◌<◌}
use native.Mathlib.Omega.{arith}
use lib.Dec.{eqb, ltb}
use lib.ListN.{take}
use Rattle.bits.specs.Choice.{pick}
use Rattle.bits.specs.Sets.{has}
use Rattle.bits.proofs.Tests.{split, both_l, pick_true, pick-false, pick-has}
use Rattle.model.specs.Map.{lasting_index, page_select, trigger_at, staged_base, writable}
use Rattle.model.specs.Answers.{is_done}
use Rattle.model.specs.Records.{on_at, with_ons, with_line, stage_at, idle_with, with_stages, progress_of, with_verdict, freed_working, advanced_working}
use Rattle.model.specs.View.{View, view_of, of}
use Rattle.model.specs.Groups.{group_of}
use Rattle.model.specs.Verdicts.{verdict_of}
use Rattle.model.specs.Triggers.{is_marked, marked_stage, stage_after, marked_state, is_ignored, triggered_state}
use Rattle.model.specs.State.{State}
use Rattle.model.specs.Work.{early, closed_state, closing_effect, copied_state, work_effect_by, work_effect_on, work_effect}
use Rattle.model.specs.Flags.{condition_on, sampled_on, lasting_state, sampled_state}
use Rattle.model.specs.Pages.{index_of}
use Rattle.model.specs.Access.{stored_by, stored_state, byte_written_state, bytes_written_state, resets, ended_state}
use Rattle.model.specs.Start.{started_state, reset_state}
use Rattle.model.specs.Refusals.{first_of, event_refusals}
use Rattle.model.specs.Effect.{Effect}
use Rattle.model.specs.Step.{read_effect, event_effect, done_step, refused_step, answered_step, step}
use Rattle.model.specs.declared.event.Call.{Call}
use Rattle.model.specs.declared.event.Call.TheVariants.{Write, Read, Work, Hardware, Condition, Sample, Lasting, Module, Line}
use Rattle.model.specs.declared.event.Event.{Event}
use Rattle.model.specs.declared.lane.Trigger.{Trigger}
use Rattle.model.specs.declared.lane.StagedSet.{StagedSet}
use Rattle.model.specs.declared.lane.Verdict.{Verdict}
use Rattle.model.specs.declared.lane.Verdict.TheVariants.{Pass, Reject}
use Rattle.model.specs.declared.lane.Progress.{Progress}
use Rattle.model.specs.declared.lane.Apply.{Apply}
use Rattle.model.specs.declared.lane.Working.{Working}
use Rattle.laws_frames.proofs.Stages.{idle-stage, stage_in, freed_in, freed_out, advanced_in, advanced_out, stage-kept}
use Rattle.laws_sound.proofs.Stranger.{not-idle}
use Rattle.laws_links.specs.Links.{GroupsParted, ByteParted, BytesParted, Parted}

module _ (A : ℕ) where
  abbrev pub Held : Working → Type 0
  Held w = (l m : ℕ) (p : Progress) → l < 8 → m < 8 → stage_at w l ≡ Some p → has p.group m ≡ true → has A m ≡ has A l

  idle-held : (line : Bool) → Held (idle_with line)
  idle-held line l m p b c e i = absurd (not-idle (idle-stage line l b) e)

  -- stages of the same groups
  held_by : (w u : Working) → ((l : ℕ) (p : Progress) → l < 8 → stage_at u l ≡ Some p → (q : Progress) × (stage_at w l ≡ Some q) × (q.group ≡ p.group)) → Held w → Held u
  held_by w u f H l m p b c e i = let r = f l p b e in H l m r.0 b c r.1 (rw r.2 i)

  held_stages : (w u : Working) → ((l : ℕ) → l < 8 → stage_at u l ≡ stage_at w l) → Held w → Held u
  held_stages w u f H l m p b c e i = H l m p b c (sym (f l b) ∙ e) i

  ons_held : (w : Working) (f : ℕ → ℕ) → Held w → Held (with_ons w f)
  ons_held w f = held_stages w (with_ons w f) (stage-kept w f)

  -- ---- a trigger

  marked-group : (t : Trigger) (set : StagedSet) (v : View) (sel l : ℕ) (p : Progress) → marked_stage t set v sel l ≡ Some p → p.group ≡ group_of v sel l
  unfolding marked_stage
  marked-group t set v sel l p e =
      let r : p ≡ progress_of t set (group_of v sel l) (of v.staged l) (verdict_of t v (group_of v sel l)) = cc in ap (λ (z : Progress). z.group) r

  marked-held : (t : Trigger) (set : StagedSet) (v : View) (w : Working) (sel : ℕ) → GroupsParted A v sel → Held w → Held (with_stages w (stage_after t set v w sel))
  unfolding stage_after is_marked
  marked-held t set v w sel G H l m p b c e i =
      let s : stage_after t set v w sel l ≡ Some p = sym (stage_in w (stage_after t set v w sel) l b) ∙ e in
      split (is_marked v w sel l)
      (λ k. let g : p.group ≡ group_of v sel l = marked-group t set v sel l p (sym (pick_true _ _ k) ∙ s) in
      G l m b c (both_l _ _ k) (rw g at i))
      (λ k. H l m p b c (sym (pick-false _ _ k) ∙ s) i)

  triggered_held : (t : Trigger) (set : StagedSet) (s : State) (sel : ℕ) → (is_ignored t s.image ≡ false → GroupsParted A (view_of (staged_base set) s.image) sel)
      → Held s.working → Held (triggered_state t set s sel).working
  unfolding triggered_state marked_state
  triggered_held t set s sel G H = pick-has (λ (z : State). Held z.working) (is_ignored t s.image) (λ e. H) (λ e. marked-held t set (view_of (staged_base set) s.image) s.working sel (G e) H)

  -- ---- written bytes

  by_held : (place : Option Apply) (i v : ℕ) (s : State) → ByteParted place A s v → Held s.working → Held (stored_by place i v s).working
  unfolding stored_by
  by_held None i v s G H = pick-has (λ (z : State). Held z.working) (writable i) (λ e. H) (λ e. H)
  by_held (Some a) i v s G H = triggered_held a.trigger a.set s v G H

  byte-held : (address v : ℕ) (s : State) → ByteParted (trigger_at (index_of s.image address)) A s v → Held s.working → Held (byte_written_state address v s).working
  unfolding byte_written_state stored_state
  byte-held address v s G H = pick-has (λ (z : State). Held z.working) (eqb (index_of s.image address) page_select) (λ e. H)
      (λ e. by_held (trigger_at (index_of s.image address)) (index_of s.image address) v s G H)

  bytes-held : (address : ℕ) (vs : List ℕ) (s : State) → BytesParted A s address vs → Held s.working → Held (bytes_written_state address vs s).working
  unfolding bytes_written_state BytesParted
  bytes-held address [] s G H = H
  bytes-held address (v ∷ vs) s G H = bytes-held (suc address) vs (byte_written_state address v s) G.1 (byte-held address v s G.0 H)

  ended_held : (address : ℕ) (bytes : List ℕ) (n : ℕ) (s : State) → Held s.working → Held (ended_state address bytes n s).working
  unfolding ended_state reset_state
  ended_held address bytes n s H = pick-has (λ (z : State). Held z.working) (resets address bytes n) (λ e. idle-held s.working.line) (λ e. H)

  -- ---- a work step

  turned_group : (s : Option Progress) (u : Verdict) (p : Progress) → with_verdict s u ≡ Some p → (q : Progress) × (s ≡ Some q) × (q.group ≡ p.group)
  unfolding with_verdict
  turned_group None u p e = let z : ◌≡◌ {A = ℕ} 0 1 = cc in absurd (omega arith)
  turned_group (Some q) u p e = (q, refl, cc)

  freed_held : (w : Working) (g : ℕ) → Held w → Held (freed_working w g)
  freed_held w g = held_by w (freed_working w g) (λ l p b e. split (has g l)
      (λ i. absurd (not-idle (freed_in w g l b i) e))
      (λ i. (p, sym (freed_out w g l b i) ∙ e, refl)))

  advanced_held : (w : Working) (g n : ℕ) → Held w → Held (advanced_working w g n)
  advanced_held w g n = held_by w (advanced_working w g n) (λ l p b e. split (has g l)
      (λ i. turned_group (stage_at w l) (Pass n) p (sym (advanced_in w g n l b i) ∙ e))
      (λ i. (p, sym (advanced_out w g n l b i) ∙ e, refl)))

  work_by_held : (u : Verdict) (s : State) (g : ℕ) (t : Trigger) → Held s.working → Held (work_effect_by u early s g t).state.working
  unfolding work_effect_by closed_state closing_effect copied_state
  work_by_held (Reject code) s g t H = freed_held s.working g H
  work_by_held (Pass n) s g t H = pick-has (λ (c : Effect). Held c.state.working) (ltb n 8) (λ e. advanced_held s.working g _ H) (λ e. freed_held s.working g H)

  work-held : (stage : Option Progress) (s : State) → Held s.working → Held (work_effect_on stage early s).state.working
  unfolding work_effect_on
  work-held None s H = H
  work-held (Some p) s H = work_by_held p.verdict s p.group p.trigger H

  -- ---- every event

  carried-held : (s : State) (bytes : List ℕ) (c : Call) → Parted A s (record { call = c; bytes = bytes }) → Held s.working → Held (event_effect early s bytes c).state.working
  unfolding event_effect read_effect work_effect lasting_state sampled_state
  carried-held s bytes (Write address count) G H = ended_held address _ count _ (bytes-held address (take count bytes) s G.groups H)
  carried-held s bytes (Read address count) G H = H
  carried-held s bytes (Work l) G H = work-held (stage_at s.working l) s H
  carried-held s bytes (Hardware l) G H = H
  carried-held s bytes (Condition flag mask) G H = H
  carried-held s bytes (Sample l p) G H = ons_held s.working (λ m. pick (eqb l m) (sampled_on s.image p (on_at s.working m)) (on_at s.working m)) H
  carried-held s bytes (Lasting flag on off) G H = ons_held s.working (λ l. condition_on (lasting_index flag) on off l (on_at s.working l)) H
  carried-held s bytes Module G H = H
  carried-held s bytes (Line on) G H = held_stages s.working (with_line s.working on) (λ l b. refl) H

  pub step-held : (room : ℕ) (s : State) (e : Event) → Parted A s e → Held s.working → Held (step early room s e).state.working
  unfolding step answered_step done_step refused_step
  step-held room s e G H = split (is_done (first_of (event_refusals room s e.call)))
      (λ d. rw (pick_true _ _ d) (carried-held s e.bytes e.call G H))
      (λ d. rw (pick-false _ _ d) H)

  pub start-held : (x : List ℕ) → Held (started_state x).working
  unfolding started_state
  start-held x = idle-held false
