-- What copying one lane, or a whole group, changes. Assumes nothing.
use mathlib.Core.Path.{◌≡◌, refl, ap, ◌∙◌}
use mathlib.Core.Bool.{true, false}
use Prim.Native.Nat.{ℕ, ◌+◌, ◌≤◌, ◌<◌}
use native.Mathlib.Omega.{arith}
use lib.ListN.{length, get_or}
use Rattle.bits.specs.Place.{get, put, digit, covers}
use Rattle.bits.specs.Loop.{each}
use Rattle.bits.specs.Sets.{has}
use Rattle.bits.proofs.Tests.{split, clash}
use Rattle.bits.proofs.Places.{digit-put-out}
use Rattle.bits.proofs.Loops.{each_skip, each_hit}
use Rattle.model.specs.Map.{Image, setting_at, active_set, image_length, set_length}
use Rattle.model.specs.Records.{stage_at, held_in}
use Rattle.model.specs.View.{settings_at, setting_values}
use Rattle.model.specs.Work.{written_settings, with_active, copy_lane, late, copy_group}
use Rattle.model.specs.declared.lane.Working.{Working}
use Rattle.laws_frames.proofs.Outside.{each_outside}
use Rattle.laws_frames.proofs.Registers.{by_setting}
use Rattle.laws_frames.proofs.Changes.{copy_outside}
use Rattle.laws_frames.proofs.Back.{active_in, active-out, written_fits}
use Rattle.laws_whole.specs.Whole.{is_active_bit}
use Rattle.laws_frames.specs.Frames.{SameOutside, Fits}
use Rattle.laws_whole.proofs.Area.{place-active}

-- copying a lane writes what is held for it
copy_writes : (w : Working) (l : ℕ) (x : Image) → copy_lane w l x ≡ with_active (written_settings (held_in (stage_at w l))) l x
unfolding copy_lane
copy_writes w l x = refl

-- only into its active-setting bits
pub copy_bit : (w : Working) (l : ℕ) (x : Image) (i b : ℕ) → is_active_bit l i b ≡ false → digit (copy_lane w l x) i b ≡ digit x i b
unfolding with_active
copy_bit w l x i b o = rw copy_writes
    (each_skip (λ k. true) (λ k z. put z (setting_at active_set k l) (get_or (setting_values (written_settings (held_in (stage_at w l)))) k 0)) (λ z. digit z i b) 8 x
    (λ k z hk t. digit-put-out z (setting_at active_set k l) _ i b (split (covers (setting_at active_set k l) i b)
    (λ q. absurd (clash (place-active l i b k hk q) o)) (λ q. q))))

module _ (w : Working) (g : ℕ) (y : Image) where
  -- the comparison run copies every lane of the group
  late_copies : copy_group late w g y ≡ each (has g) (copy_lane w) 8 y
  unfolding copy_group
  late_copies = refl

  pub group-bit : (i b : ℕ) → ((m : ℕ) → m < 8 → has g m ≡ true → is_active_bit m i b ≡ false) → digit (copy_group late w g y) i b ≡ digit y i b
  group-bit i b h = rw late_copies (each_skip (has g) (copy_lane w) (λ z. digit z i b) 8 y (λ m z bm t. copy_bit w m z i b (h m bm t)))

  lanes_outside : (n : ℕ) → n ≤ 8 → SameOutside active_set (active_set + set_length) y (each (has g) (copy_lane w) n y)
  lanes_outside n h = each_outside active_set (active_set + set_length) (has g) (copy_lane w) n y (λ m z b t. copy_outside w m z (omega arith))

  pub group_outside : SameOutside active_set (active_set + set_length) y (copy_group late w g y)
  group_outside = rw late_copies (lanes_outside 8 (omega arith))

  -- a lane of the group then holds what copying writes
  pub group_in : (m : ℕ) → m < 8 → has g m ≡ true → length y ≡ image_length → Fits (held_in (stage_at w m)) → settings_at active_set (copy_group late w g y) m ≡ written_settings (held_in (stage_at w m))
  group_in m b i n f = rw late_copies
      (each_hit (has g) (copy_lane w) (λ z. settings_at active_set z m) m 8 y b i (λ k z a c t. rw copy_writes (active-out _ k m z c b (omega arith)))
      ∙ rw copy_writes (active_in (written_settings (held_in (stage_at w m))) m (each (has g) (copy_lane w) m y) ((lanes_outside m (omega arith)).size ∙ n) b (written_fits _ f)))

  -- the other lanes keep theirs
  pub group-out : (m : ℕ) → m < 8 → has g m ≡ false → settings_at active_set (copy_group late w g y) m ≡ settings_at active_set y m
  group-out m b i = rw late_copies (each_skip (has g) (copy_lane w) (λ z. settings_at active_set z m) 8 y
      (λ k z c t. rw copy_writes (active-out _ k m z c b (λ q. clash t (rw q at i)))))

-- the same settings in two images: the same at every place
pub setting-read : (x y : Image) (l k : ℕ) → k < 8 → settings_at active_set x l ≡ settings_at active_set y l → get x (setting_at active_set k l) ≡ get y (setting_at active_set k l)
unfolding settings_at
setting-read x y l k h e = by_setting (λ k. get x (setting_at active_set k l) ≡ get y (setting_at active_set k l))
    (ap (λ s. s.config) e) (ap (λ s. s.adaptive) e) (ap (λ s. s.equalizer) e) (ap (λ s. s.cdr_tx) e)
    (ap (λ s. s.cdr_rx) e) (ap (λ s. s.pre) e) (ap (λ s. s.post) e) (ap (λ s. s.amplitude) e) k h
