-- Soundness tells that held settings, and what copying writes of them, fit their fields, and what a verdict may hold. Assumes nothing.
use Rattle.std.proofs.Common.{None, Some, Option}
use mathlib.Core.Path.{◌≡◌, refl}
use mathlib.Core.Bool.{true}
use mathlib.Core.Logic.{inl, inr}
use Prim.Native.Nat.{ℕ, ◌^◌, ◌≤◌, ◌<◌}
use native.Mathlib.Omega.{arith}
use lib.Dec.{eqb, leb, ltb}
use lib.ListN.{get_or}
use borrow.Author.Tests.{leb-true, ltb-true, eqb-true}
use Rattle.bits.specs.Choice.{pick, both, either}
use Rattle.bits.specs.Loop.{all_below}
use Rattle.bits.specs.Sets.{has}
use Rattle.bits.proofs.Tests.{split, both_l, both_r, either_cases}
use Rattle.bits.proofs.Loops.{all_at}
use Rattle.model.specs.Map.{setting_widths}
use Rattle.model.specs.Records.{no_settings, stage_at, held_in}
use Rattle.model.specs.View.{is_used, explicit, setting_values}
use Rattle.model.specs.State.{State}
use Rattle.model.specs.Work.{by_module, written_settings}
use Rattle.model.specs.Sound.{settings_fit, verdict_fits, stage_fits, lane_sound, is_sound}
use Rattle.model.specs.declared.lane.Settings.{Settings}
use Rattle.model.specs.declared.lane.Verdict.TheVariants.{Pass, Reject}
use Rattle.model.specs.declared.lane.Progress.{Progress}
use Rattle.model.specs.declared.lane.Working.{Working}

stage-fits : (s : State) (l : ℕ) → is_sound s ≡ true → l < 8 → stage_fits s.working l (stage_at s.working l) ≡ true
unfolding is_sound lane_sound
stage-fits s l o h = both_r _ _ (both_l _ _ (both_l _ _ (all_at 8 _ o l h)))

-- a rejection's code is 2 to 7
pub code_fits : (s : State) (l : ℕ) (p : Progress) (code : ℕ) → is_sound s ≡ true → l < 8 → stage_at s.working l ≡ Some p → p.verdict ≡ Reject code
    → (2 ≤ code) × (code ≤ 7)
unfolding stage_fits verdict_fits
code_fits s l p code o h i v =
    let f : both (leb 2 code) (leb code 7) ≡ true =
    rw (v, verdict_fits) at (both_r _ _ (both_r _ _ (rw (i, stage_fits) at (stage-fits s l o h)))) in
    (leb-true 2 code (both_l _ _ f), leb-true code 7 (both_r _ _ f))

-- a pass's next lane is one of the group or the end
pub next_fits : (s : State) (l : ℕ) (p : Progress) (n : ℕ) → is_sound s ≡ true → l < 8 → stage_at s.working l ≡ Some p → p.verdict ≡ Pass n
    → n < 8 → has p.group n ≡ true
unfolding stage_fits verdict_fits
next_fits s l p n o h i v b =
    let f : either (eqb n 8) (both (ltb n 8) (has p.group n)) ≡ true =
    rw (v, verdict_fits) at (both_r _ _ (both_r _ _ (rw (i, stage_fits) at (stage-fits s l o h)))) in
    elim (either_cases _ _ f) [ inl e ↦ absurd (omega (arith, eqb-true n 8 e)) | inr r ↦ both_r _ _ r ]

-- what is held fits
nothing_fits : settings_fit no_settings ≡ true
unfolding settings_fit setting_values all_below both
nothing_fits = refl

held_by : (w : Working) (l : ℕ) (g : Option Progress) → stage_fits w l g ≡ true → settings_fit (held_in g) ≡ true
unfolding stage_fits held_in
held_by w l None f = nothing_fits
held_by w l (Some p) f = both_l _ _ (both_r _ _ f)

written_by : (h : Settings) → settings_fit h ≡ true → settings_fit (written_settings h) ≡ true
unfolding settings_fit written_settings by_module setting_values all_below both pick
written_by h f =
    let c : ltb h.config (2 ^ 8) ≡ true = all_at 8 (λ k. ltb (get_or (setting_values h) k 0) (2 ^ get_or setting_widths k 0)) f 0 (omega arith) in
    split (is_used h)
    (λ u. split (eqb (explicit h) 1) (λ e. rw (u, e, pick) f) (λ e. rw (u, e, pick, c)))
    (λ u. rw (u, pick))

pub written_fits : (s : State) (l k : ℕ) → is_sound s ≡ true → l < 8 → k < 8
    → get_or (setting_values (written_settings (held_in (stage_at s.working l)))) k 0 < 2 ^ get_or setting_widths k 0
unfolding settings_fit
written_fits s l k o h b = ltb-true _ _ (all_at 8 _ (written_by _ (held_by s.working l _ (stage-fits s l o h))) k b)
