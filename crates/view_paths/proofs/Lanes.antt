-- A lane's DPConfig byte is the first of its settings, and its parts fit their fields; a lane's state; and the path that two lanes share. Assumes nothing.
use mathlib.Core.Path.{◌≡◌, sym, ◌∙◌}
use mathlib.Core.Bool.{true, false}
use mathlib.Core.List.{List}
use Prim.Native.Nat.{ℕ, ◌≤◌, ◌<◌}
use native.Mathlib.Nat.{add-zero}
use lib.Bits.{bit_and}
use lib.Dec.{eqb}
use lib.Pow.{pow_pos}
use borrow.Author.Tests.{eqb-true}
use Rattle.bits.specs.Choice.{both}
use Rattle.bits.specs.Lane.{lane_field}
use Rattle.bits.specs.Place.{get}
use Rattle.bits.specs.Sets.{has, mask_of, lane_count}
use Rattle.bits.proofs.Loops.{tab_at, tab_past}
use Rattle.bits.proofs.Masks.{has-mask, mask_ext}
use Rattle.bits.proofs.Number.{got_lt}
use Rattle.bits.proofs.Sets.{has-zero, set_is, and_is}
use Rattle.bits.proofs.Tests.{both_l, both_r, eqb_sym}
use Rattle.model.specs.Map.{Image, setting_at, state_at}
use Rattle.model.specs.View.{app_sel, path_id, of, state_in, is_used, settings_at, settings_of, states_of, same_path, path_of}
use Rattle.model.specs.declared.lane.Settings.{Settings}
use Rattle.view_settings.proofs.View.{settings-of}

-- ---- one lane
pub config_of : (base : ℕ) (x : Image) (l : ℕ) → l < lane_count → get x (lane_field base 8 l) ≡ (of (settings_of base x) l).config
unfolding settings_at setting_at
config_of base x l h = rw (settings-of base x l h, add-zero base)

-- AppSel is a nibble, DataPathID three bits
pub app_lt : (h : Settings) → app_sel h < 16
unfolding app_sel
app_lt h = got_lt h.config 4 4

pub id_lt : (h : Settings) → path_id h < 8
unfolding path_id
id_lt h = got_lt h.config 1 3

pub state_at_lem : (x : Image) (l : ℕ) → l < lane_count → state_in (states_of x) l ≡ get x (state_at l)
unfolding states_of
state_at_lem x l h = tab_at lane_count (λ m. get x (state_at m)) l 0 h

-- past the lanes there is no state
pub state_past : (x : Image) (l : ℕ) → lane_count ≤ l → state_in (states_of x) l ≡ 0
unfolding states_of
state_past x l h = tab_past lane_count (λ m. get x (state_at m)) l 0 h

-- ---- paths
module _ (s : List Settings) (l : ℕ) where
  -- an unused lane has none
  pub path_none : is_used (of s l) ≡ false → 0 ≡ path_of s l
  unfolding path_of same_path both
  path_none e = set_is lane_count 0 (same_path s l) (pow_pos lane_count) (λ m h. rw (e, both) (has-zero m))

  -- a used lane's path: the used lanes of its DataPathID
  pub path_used : (u w f : ℕ) → is_used (of s l) ≡ true → u ≡ mask_of lane_count (λ m. is_used (of s m)) → f ≡ path_id (of s l)
      → w ≡ mask_of lane_count (λ m. eqb (path_id (of s m)) f) → bit_and u w ≡ path_of s l
  unfolding path_of same_path both
  path_used u w f e p i q = and_is lane_count _ _ p q ∙ mask_ext lane_count _ _ (λ m h. rw (e, both, i, eqb_sym (path_id (of s m)) (path_id (of s l))))

  -- a lane of a path has that path
  pub path_shared : (m : ℕ) → m < lane_count → has (path_of s l) m ≡ true → path_of s l ≡ path_of s m
  unfolding path_of same_path both
  path_shared m b e =
      let p : same_path s l m ≡ true = sym (has-mask lane_count (same_path s l) m b) ∙ e in
      let r = both_r (is_used (of s l)) _ p in
      let i : path_id (of s l) ≡ path_id (of s m) = eqb-true _ _ (both_r (is_used (of s m)) _ r) in
      mask_ext lane_count _ _ (λ k h. rw (both_l (is_used (of s l)) _ p, both_l (is_used (of s m)) _ r, both, i))
