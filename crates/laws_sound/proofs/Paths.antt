-- Paths, and the sets of lanes that fill them. Over settings alone. Assumes nothing.
use Rattle.std.proofs.Common.{None, Some, Option}
use mathlib.Core.Path.{◌≡◌, refl, sym, ap, ◌∙◌}
use mathlib.Core.Bool.{Bool, true, false}
use mathlib.Core.List.{List}
use Prim.Native.Nat.{ℕ, ◌+◌, ◌^◌, ◌≤◌, ◌<◌}
use native.Mathlib.Omega.{arith}
use lib.Dec.{eqb, leb, ltb}
use borrow.Author.Tests.{ltb-true, leb-true, eqb-true, lt-ltb, le-leb, eq-eqb}
use Rattle.bits.specs.Choice.{pick}
use Rattle.bits.specs.Number.{field}
use Rattle.bits.specs.Sets.{has, mask_of, within}
use Rattle.bits.proofs.Tests.{split, clash, both_l, both_r, both_i}
use Rattle.bits.proofs.Masks.{has-mask, mask_lt, mask_ext, mask-of-has}
use Rattle.model.specs.Records.{no_settings}
use Rattle.model.specs.View.{of, app_sel, path_id, explicit, is_used, same_path, path_of, fills}
use Rattle.model.specs.Work.{by_module, written_settings}
use Rattle.model.specs.declared.lane.Settings.{Settings}
use Rattle.model.specs.declared.application.Descriptor.{Descriptor}

-- ---- two lanes on one path

pub record Together (av : List Settings) (l m : ℕ) : Type 0 where
  pub one : is_used (of av l) ≡ true
  pub other : is_used (of av m) ≡ true
  pub id : path_id (of av l) ≡ path_id (of av m)

pub same_together : (av : List Settings) (l m : ℕ) → same_path av l m ≡ true → Together av l m
unfolding same_path
same_together av l m e = record { one = both_l _ _ e; other = both_l _ _ (both_r _ _ e); id = eqb-true _ _ (both_r _ _ (both_r _ _ e)) }

pub together_same : (av : List Settings) (l m : ℕ) → is_used (of av l) ≡ true → is_used (of av m) ≡ true → path_id (of av l) ≡ path_id (of av m) → same_path av l m ≡ true
unfolding same_path
together_same av l m u v e = both_i u (both_i v (eq-eqb _ _ e))

pub same_sym : (av : List Settings) (l m : ℕ) → same_path av l m ≡ true → same_path av m l ≡ true
same_sym av l m e = let t = same_together av l m e in together_same av m l t.other t.one (sym t.id)

pub same_trans : (av : List Settings) (l m k : ℕ) → same_path av l m ≡ true → same_path av m k ≡ true → same_path av l k ≡ true
same_trans av l m k e f = let t = same_together av l m e in let u = same_together av m k f in
    together_same av l k t.one u.other (t.id ∙ u.id)

pub path_has : (av : List Settings) (l m : ℕ) → m < 8 → has (path_of av l) m ≡ same_path av l m
unfolding path_of
path_has av l m b = has-mask 8 (same_path av l) m b

-- settings with a used one's AppSel are used
pub used_app : (h k : Settings) → app_sel k ≡ app_sel h → is_used h ≡ true → is_used k ≡ true
unfolding is_used
used_app h k e u = rw e u

-- ---- sets that fill a path

within_first : (f n m : ℕ) → within f n m ≡ true → within f n f ≡ true
unfolding within
within_first f n m e =
    let a : f ≤ m = leb-true f m (both_l _ _ e) in
    let b : m < f + n = ltb-true m (f + n) (both_r _ _ e) in
    both_i (le-leb f f (omega arith)) (lt-ltb f (f + n) (omega arith))

fills-set : (a : Option Descriptor) (f g : ℕ) → fills a f g ≡ true → (n : ℕ) × (g ≡ mask_of 8 (within f n)) × (f + n ≤ 8)
unfolding fills
fills-set None f g e = absurd (clash e refl)
fills-set (Some d) f g e = (d.count, eqb-true _ _ (both_r _ _ (both_r _ _ e)), leb-true _ _ (both_l _ _ (both_r _ _ e)))

-- the first lane of a path is its id
pub fills_first : (a : Option Descriptor) (f g m : ℕ) → fills a f g ≡ true → m < 8 → has g m ≡ true → (f < 8) × (has g f ≡ true)
unfolding within
fills_first a f g m e b i =
    let r = fills-set a f g e in
    let t : within f r.0 m ≡ true = sym (has-mask 8 (within f r.0) m b) ∙ ap (λ z. has z m) (sym r.1) ∙ i in
    let u : f ≤ m = leb-true f m (both_l (leb f m) (ltb m (f + r.0)) t) in
    let h : f < 8 = omega arith in
    (h, ap (λ z. has z f) r.1 ∙ has-mask 8 (within f r.0) f h ∙ within_first f r.0 m t)

-- one AppSel and one id fill one set
pub fills_same : (a : Option Descriptor) (f g k : ℕ) → fills a f g ≡ true → fills a f k ≡ true → g ≡ k
unfolding fills
fills_same None f g k e h = absurd (clash e refl)
fills_same (Some d) f g k e h = eqb-true _ _ (both_r _ _ (both_r _ _ e)) ∙ sym (eqb-true _ _ (both_r _ _ (both_r _ _ h)))

-- a filled set is what its eight lanes say
pub fills_ext : (a : Option Descriptor) (f g : ℕ) (c : ℕ → Bool) → fills a f g ≡ true → ((m : ℕ) → m < 8 → c m ≡ has g m) → mask_of 8 c ≡ g
fills_ext a f g c e h =
    let r = fills-set a f g e in
    let l : g < 2 ^ 8 = rw r.1 (mask_lt 8 (within f r.0)) in
    mask_ext 8 c (has g) h ∙ mask-of-has 8 g l

-- ---- what copying writes: used exactly where it is held, with the same AppSel and id

written_config : (h : Settings) → is_used h ≡ true → (written_settings h).config ≡ h.config
unfolding written_settings pick by_module
written_config h u = rw (u, pick) (split (eqb (explicit h) 1) (λ e. rw (e, pick)) (λ e. rw (e, pick)))

pub written_app : (h : Settings) → is_used h ≡ true → app_sel (written_settings h) ≡ app_sel h
unfolding app_sel
written_app h u = rw (written_config h u)

pub written_id : (h : Settings) → is_used h ≡ true → path_id (written_settings h) ≡ path_id h
unfolding path_id
written_id h u = rw (written_config h u)

none-unused : is_used no_settings ≡ false
unfolding is_used app_sel field
none-unused = refl

pub written_used : (h : Settings) → is_used (written_settings h) ≡ is_used h
unfolding written_settings pick
written_used h = split (is_used h)
    (λ u. used_app h (written_settings h) (written_app h u) u ∙ sym u)
    (λ u. rw (u, pick) none-unused)
