-- Lanes that share an AppSel and a DataPathID, and the whole path that they make. Assumes nothing.
use Rattle.std.proofs.Common.{Option}
use mathlib.Core.Path.{◌≡◌, ap, ap₂, ◌∙◌}
use mathlib.Core.Bool.{Bool, not, ◌&&◌}
use mathlib.Core.List.{List}
use Prim.Native.Nat.{ℕ, ◌<◌}
use lib.Dec.{eqb}
use Rattle.bits.specs.Choice.{both, implies}
use Rattle.bits.specs.Loop.{all_below}
use Rattle.bits.specs.Sets.{has, mask_of, lane_count}
use Rattle.bits.proofs.Loops.{all_ext}
use Rattle.bits.proofs.Masks.{has-mask}
use Rattle.bits.proofs.Tests.{and_both}
use Rattle.model.specs.Records.{stage_at, held_in}
use Rattle.model.specs.View.{application_in, of, app_sel, path_id, is_used, fills}
use Rattle.model.specs.Sound.{share, make_path, held_settings_of}
use Rattle.model.specs.declared.application.Descriptor.{Descriptor}
use Rattle.model.specs.declared.lane.Settings.{Settings}
use Rattle.model.specs.declared.lane.Working.{Working}
use Rattle.sound_paths.proofs.Lanes.{held_of}

-- sharing, told from the lane's AppSel and DataPathID
pub share_by : (s : List Settings) (c : ℕ → Bool) (l a f : ℕ) (t : Bool) → a ≡ app_sel (of s l) → f ≡ path_id (of s l)
    → t ≡ all_below lane_count (λ m. implies (c m) (both (eqb (app_sel (of s m)) a) (eqb (path_id (of s m)) f))) → (not (eqb a 0) && t) ≡ share s c l
unfolding share is_used
share_by s c l a f t p q e = and_both (not (eqb a 0)) t ∙ rw (e, p, q)

pub share-held_by : (w : Working) (g l a f : ℕ) → l < lane_count → a ≡ app_sel (held_in (stage_at w l)) → f ≡ path_id (held_in (stage_at w l))
    → (not (eqb a 0) && all_below lane_count (λ m. implies (has g m) (both (eqb (app_sel (held_in (stage_at w m))) a) (eqb (path_id (held_in (stage_at w m))) f))))
    ≡ share (held_settings_of w) (has g) l
share-held_by w g l a f b p q =
    share_by (held_settings_of w) (has g) l a f _ (rw (held_of w l b) p) (rw (held_of w l b) q) (all_ext lane_count _ _ (λ m d. rw (held_of w m d)))

-- a path made, told from the lane's AppSel and DataPathID
pub path_by : (apps : List (Option Descriptor)) (s : List Settings) (c : ℕ → Bool) (l g a f : ℕ) (t u : Bool) → a ≡ app_sel (of s l) → f ≡ path_id (of s l)
    → t ≡ share s c l → u ≡ fills (application_in apps a) f g → (t && u) ≡ make_path apps s c l g
unfolding make_path
path_by apps s c l g a f t u p q e d = and_both t u ∙ ap₂ both e (rw (p, q) at d)

-- the lanes that pass a test, as a set
pub path_of-mask : (apps : List (Option Descriptor)) (s : List Settings) (c : ℕ → Bool) (l g : ℕ)
    → make_path apps s (has (mask_of 8 c)) l g ≡ make_path apps s c l g
unfolding make_path share
path_of-mask apps s c l g =
    ap (λ t. both (both (is_used (of s l)) t) (fills (application_in apps (app_sel (of s l))) (path_id (of s l)) g))
    (all_ext 8 _ _ (λ m b. rw (has-mask 8 c m b)))
