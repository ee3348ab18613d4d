-- Each register reads only the bytes of its range. Assumes nothing.
use mathlib.Core.Path.{◌≡◌, refl}
use mathlib.Core.Bool.{true}
use mathlib.Core.Logic.{inl, inr}
use Prim.Native.Nat.{ℕ, zero, suc, ◌+◌, ◌%◌, ◌≤◌, ◌<◌}
use native.Mathlib.Decide.{dec_lt}
use native.Mathlib.Omega.{arith}
use lib.Dec.{eqb, leb}
use lib.ListN.{get_or}
use borrow.Author.Tests.{leb-true, eqb-true}
use Rattle.bits.specs.Choice.{both, pick}
use Rattle.bits.specs.Place.{get}
use Rattle.bits.specs.Lane.{lane_field}
use Rattle.bits.specs.Loop.{all_below}
use Rattle.bits.specs.Word.{word}
use Rattle.bits.proofs.Tests.{split, both_l, both_r}
use Rattle.bits.proofs.Lanes.{lane_in}
use Rattle.bits.proofs.Loops.{all_at, all_ext, tab_ext}
use Rattle.bits.proofs.Words.{word_ext}
use Rattle.model.specs.Map.{Image, state_at, status_at, pending_at, setting_at, setting_offsets, setting_widths, equalizer_limit, pre_limit, post_limit, amplitude_support, state_bytes, status_bytes, pending_byte, page10, set_length, on, page01}
use Rattle.model.specs.Applications.{application_count, first_on_page, descriptor_at, list_reaches, host_lane_count, is_present, lookup}
use Rattle.model.specs.View.{settings_at, settings_of, states_of, applications_of, limits_of}
use Rattle.model.specs.declared.lane.Settings.{Settings}
use Rattle.model.proofs.Descriptors.{in_lower, on_page}
use Rattle.laws_frames.specs.Frames.{SameOutside, SameWithin, state_end, status_end, pending_end, Advertised, SameAdvertised}
use Rattle.laws_frames.proofs.Outside.{get-same, get-within}

-- ---- where lane fields lie

pub lane-from : (base w l : ℕ) → l < 8 → 8 % w ≡ 0 → base ≤ (lane_field base w l).byte
lane-from base w l b e = (lane_in base w l b e).0

pub lane-to : (base w l : ℕ) → l < 8 → 8 % w ≡ 0 → (lane_field base w l).byte < base + w
lane-to base w l b e = (lane_in base w l b e).1

-- ---- states, statuses, pending bits

pub state-same : (x y : Image) (l : ℕ) → l < 8 → SameWithin state_bytes state_end x y → get y (state_at l) ≡ get x (state_at l)
state-same x y l b s = get-within x y (state_at l) (lane-from state_bytes 4 l b refl) (lane-to state_bytes 4 l b refl) s

pub states-same : (x y : Image) → SameWithin state_bytes state_end x y → states_of y ≡ states_of x
unfolding states_of
states-same x y s = tab_ext 8 _ _ (λ l b. state-same x y l b s)

pub status-same : (x y : Image) (l : ℕ) → l < 8 → SameWithin status_bytes status_end x y → get y (status_at l) ≡ get x (status_at l)
status-same x y l b s = get-within x y (status_at l) (lane-from status_bytes 4 l b refl) (lane-to status_bytes 4 l b refl) s

pub pending-same : (x y : Image) (l : ℕ) → l < 8 → SameWithin pending_byte pending_end x y → get y (pending_at l) ≡ get x (pending_at l)
pending-same x y l b s = get-within x y (pending_at l) (lane-from pending_byte 1 l b refl) (lane-to pending_byte 1 l b refl) s

-- ---- settings

setting-fits : all_below 8 (λ k. both (leb (get_or setting_offsets k 0 + get_or setting_widths k 0) set_length) (eqb (8 % get_or setting_widths k 0) 0)) ≡ true
unfolding all_below both
setting-fits = refl

pub setting-width : (k : ℕ) → k < 8 → 8 % get_or setting_widths k 0 ≡ 0
setting-width k h = eqb-true _ _ (both_r _ _ (all_at 8 _ setting-fits k h))

setting-end : (k : ℕ) → k < 8 → get_or setting_offsets k 0 + get_or setting_widths k 0 ≤ set_length
setting-end k h = leb-true _ _ (both_l _ _ (all_at 8 _ setting-fits k h))

pub setting-from : (base k l : ℕ) → k < 8 → l < 8 → base ≤ (setting_at base k l).byte
unfolding setting_at
setting-from base k l h b = omega (arith, lane-from (base + get_or setting_offsets k 0) (get_or setting_widths k 0) l b (setting-width k h))

pub setting-to : (base k l : ℕ) → k < 8 → l < 8 → (setting_at base k l).byte < base + set_length
unfolding setting_at
setting-to base k l h b =
    omega (arith, lane-to (base + get_or setting_offsets k 0) (get_or setting_widths k 0) l b (setting-width k h), setting-end k h)

-- what holds of each of the eight settings
pub by_setting : (P : ℕ → Type 0) → P 0 → P 1 → P 2 → P 3 → P 4 → P 5 → P 6 → P 7 → (k : ℕ) → k < 8 → P k
by_setting P a b c d e f g h zero l = a
by_setting P a b c d e f g h (suc zero) l = b
by_setting P a b c d e f g h (suc (suc zero)) l = c
by_setting P a b c d e f g h (suc (suc (suc zero))) l = d
by_setting P a b c d e f g h (suc (suc (suc (suc zero)))) l = e
by_setting P a b c d e f g h (suc (suc (suc (suc (suc zero))))) l = f
by_setting P a b c d e f g h (suc (suc (suc (suc (suc (suc zero)))))) l = g
by_setting P a b c d e f g h (suc (suc (suc (suc (suc (suc (suc zero))))))) l = h
by_setting P a b c d e f g h (suc (suc (suc (suc (suc (suc (suc (suc k)))))))) l = absurd (omega arith)

pub settings_path : {h k : Settings} → h.config ≡ k.config → h.adaptive ≡ k.adaptive → h.equalizer ≡ k.equalizer → h.cdr_tx ≡ k.cdr_tx
    → h.cdr_rx ≡ k.cdr_rx → h.pre ≡ k.pre → h.post ≡ k.post → h.amplitude ≡ k.amplitude → h ≡ k
settings_path a b c d e f g h =
    λ i. record { config = a i; adaptive = b i; equalizer = c i; cdr_tx = d i; cdr_rx = e i; pre = f i; post = g i; amplitude = h i }

-- a lane's settings are the same where their places read the same
pub settings_at_same : (base : ℕ) (x y : Image) (l : ℕ) → ((k : ℕ) → k < 8 → get y (setting_at base k l) ≡ get x (setting_at base k l))
    → settings_at base y l ≡ settings_at base x l
unfolding settings_at
settings_at_same base x y l h =
    settings_path (h 0 (omega arith)) (h 1 (omega arith)) (h 2 (omega arith)) (h 3 (omega arith))
    (h 4 (omega arith)) (h 5 (omega arith)) (h 6 (omega arith)) (h 7 (omega arith))

pub settings-same : (base : ℕ) (x y : Image) → SameWithin base (base + set_length) x y → settings_of base y ≡ settings_of base x
unfolding settings_of
settings-same base x y s = tab_ext 8 _ _ (λ l b. settings_at_same base x y l (λ k h.
    get-within x y (setting_at base k l) (setting-from base k l h b) (setting-to base k l h b) s))

-- ---- Applications, limits

pub limits-same : (x y : Image) → SameWithin (on page01 153) (on page01 155) x y → limits_of y ≡ limits_of x
unfolding limits_of
limits-same x y s = λ i. record {
  equalizer = get-same x y equalizer_limit (s (on page01 153) (omega arith) (omega arith)) i;
  pre = get-same x y pre_limit (s (on page01 154) (omega arith) (omega arith)) i;
  post = get-same x y post_limit (s (on page01 154) (omega arith) (omega arith)) i;
  amplitudes = get-same x y amplitude_support (s (on page01 153) (omega arith) (omega arith)) i;
}

pub advertised_between : (i : ℕ) → Advertised i → (86 ≤ i) × (i < page10)
advertised_between i (inl h) = (omega arith, omega arith)
advertised_between i (inr h) = (omega arith, omega arith)

pub advertised_below : {lo hi : ℕ} {x y : Image} → page10 ≤ lo → SameOutside lo hi x y → SameAdvertised x y
advertised_below h s i d = s.byte i (inl (omega (arith, advertised_between i d)))

-- every byte of a descriptor is one of them
descriptor_in : (a i : ℕ) → 1 ≤ a → a ≤ application_count → descriptor_at a ≤ i → i < descriptor_at a + 4 → Advertised i
descriptor_in a i l h f t = elim (dec_lt a first_on_page) [
  | yes p ↦ let e = in_lower a p in inl (omega (arith, e), omega (arith, e))
  | no n ↦ let e = on_page a (omega arith) in inr (omega (arith, e), omega (arith, e))
]

module _ (x y : Image) (s : SameAdvertised x y) where
  reaches_same : (a : ℕ) → a ≤ application_count → list_reaches y a ≡ list_reaches x a
  unfolding list_reaches
  reaches_same a h = all_ext a _ _ (λ k b.
      rw (s (descriptor_at (k + 1)) (descriptor_in (k + 1) (descriptor_at (k + 1)) (omega arith) (omega arith) (omega arith) (omega arith))))

  count_same : (a : ℕ) → 1 ≤ a → a ≤ application_count → host_lane_count y a ≡ host_lane_count x a
  unfolding host_lane_count
  count_same a g h = rw (s (descriptor_at a + 2) (descriptor_in a (descriptor_at a + 2) g h (omega arith) (omega arith)))

  pub lookup-same : (a : ℕ) → lookup y a ≡ lookup x a
  unfolding lookup is_present both pick
  lookup-same a = split (both (leb 1 a) (leb a application_count))
      (λ r. let g : 1 ≤ a = leb-true 1 a (both_l (leb 1 a) (leb a application_count) r) in
      let h : a ≤ application_count = leb-true a application_count (both_r (leb 1 a) (leb a application_count) r) in
      rw (reaches_same a h, count_same a g h, s (descriptor_at a + 3) (descriptor_in a (descriptor_at a + 3) g h (omega arith) (omega arith))))
      (λ r. rw (r, both, pick))

pub applications-same : (x y : Image) → SameAdvertised x y → applications_of y ≡ applications_of x
unfolding applications_of
applications-same x y s = tab_ext 16 _ _ (λ a b. lookup-same x y s a)

-- ---- words

pub word_same : (n at : ℕ) (x y : Image) → SameWithin at (at + n) x y → word n y at ≡ word n x at
word_same n at x y s = word_ext n y x at (λ k b. s (at + k) (omega arith) (omega arith))
