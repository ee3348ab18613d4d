-- Values laid over the front of a buffer, byte by byte. Assumes nothing.
use mathlib.Core.Path.{◌≡◌, refl, sym, ap, ◌∙◌}
use mathlib.Core.List.{List, [], ◌∷◌, ◌++◌, append_assoc, append-nil}
use Prim.Native.Nat.{ℕ, zero, suc, ◌+◌, ◌≤◌, ◌<◌}
use native.Mathlib.Nat.{le_of_suc-le-suc, not-suc-le-zero}
use native.Mathlib.Omega.{arith}
use borrow.Rule.Slice.PartMut.{put_mid}
use lib.ListN.{length, get_or, set, drop}
use lib.Seq.{take_at, drop_at, drop-drop}
use Rattle.std.proofs.lemmas.List.{drop_all}
use Rattle.bits.specs.Loop.{tab}
use Rattle.bits.proofs.Loops.{tab_ext, length-tab}
use Rattle.model.specs.Outcome.{laid_over}

pub laid_at_lem : (n : ℕ) (f : ℕ → ℕ) (buffer : List ℕ) (k : ℕ) → n ≤ length buffer → k < n → get_or (laid_over (tab n f) buffer) k 0 ≡ f k
unfolding laid_over tab
laid_at_lem zero f buffer k l h = absurd (not-suc-le-zero h)
laid_at_lem (suc n) f [] k l h = absurd (not-suc-le-zero l)
laid_at_lem (suc n) f (b ∷ bs) zero l h = refl
laid_at_lem (suc n) f (b ∷ bs) (suc k) l h = laid_at_lem n (λ j. f (suc j)) bs k (le_of_suc-le-suc l) (le_of_suc-le-suc h)

pub laid_past : (n : ℕ) (f : ℕ → ℕ) (buffer : List ℕ) (k : ℕ) → n ≤ length buffer → n ≤ k → get_or (laid_over (tab n f) buffer) k 0 ≡ get_or buffer k 0
unfolding laid_over tab
laid_past zero f buffer k l h = refl
laid_past (suc n) f [] k l h = absurd (not-suc-le-zero l)
laid_past (suc n) f (b ∷ bs) zero l h = absurd (not-suc-le-zero h)
laid_past (suc n) f (b ∷ bs) (suc k) l h = laid_past n (λ j. f (suc j)) bs k (le_of_suc-le-suc l) (le_of_suc-le-suc h)

pub length_laid : (n : ℕ) (f : ℕ → ℕ) (buffer : List ℕ) → n ≤ length buffer → length (laid_over (tab n f) buffer) ≡ length buffer
unfolding laid_over tab
length_laid zero f buffer l = refl
length_laid (suc n) f [] l = absurd (not-suc-le-zero l)
length_laid (suc n) f (b ∷ bs) l = ap suc (length_laid n (λ j. f (suc j)) bs (le_of_suc-le-suc l))

-- none
pub lay_none : (f : ℕ → ℕ) (buffer : List ℕ) → buffer ≡ laid_over (tab 0 f) buffer
unfolding laid_over tab
lay_none f buffer = refl

-- one value more
pub lay_one : (n : ℕ) (f : ℕ → ℕ) (buffer : List ℕ) → n < length buffer → set (laid_over (tab n f) buffer) n (f n) ≡ laid_over (tab (suc n) f) buffer
unfolding laid_over tab
lay_one n f [] h = absurd (not-suc-le-zero h)
lay_one zero f (b ∷ bs) h = refl
lay_one (suc n) f (b ∷ bs) h = ap (λ t. f 0 ∷ t) (lay_one n (λ k. f (suc k)) bs (le_of_suc-le-suc h))

-- .. and a run of m values more
tab_more : (n m : ℕ) (f : ℕ → ℕ) → tab (n + m) f ≡ tab n f ++ tab m (λ k. f (n + k))
unfolding tab
tab_more zero m f =
    let e : 0 + m ≡ m = omega arith in
    rw e (tab_ext m f (λ k. f (0 + k)) (λ k b. (let d : k ≡ 0 + k = omega arith in ap f d)))
tab_more (suc n) m f =
    let e : suc n + m ≡ suc (n + m) = omega arith in
    let rest = tab_ext m (λ k. f (suc (n + k))) (λ k. f (suc n + k)) (λ k b. (let d : suc (n + k) ≡ suc n + k = omega arith in ap f d)) in
    rw e (ap (λ t. f 0 ∷ t) (tab_more n m (λ k. f (suc k)) ∙ ap (λ t. tab n (λ k. f (suc k)) ++ t) rest))

pub lay_run : (n m k : ℕ) (f : ℕ → ℕ) (bs buffer s : List ℕ) → k ≡ m → bs ≡ tab m (λ j. f (n + j)) → s ≡ laid_over (tab n f) buffer
    → put_mid n k s bs ≡ laid_over (tab (n + m) f) buffer
unfolding laid_over
lay_run n m k f bs buffer s e b h =
    rw (
      e,
      b,
      h,
      length-tab n f,
      take_at (tab n f) (drop n buffer) n (length-tab n f),
      drop_at (tab n f) (drop n buffer) n (length-tab n f),
      drop-drop m n buffer,
      length-tab (n + m) f,
      tab_more n m f,
    )
    (sym (append_assoc (tab n f) (tab m (λ j. f (n + j))) (drop (n + m) buffer)))

-- values laid over as many or fewer are those values
pub lay_whole : (bs buffer : List ℕ) → length buffer ≤ length bs → laid_over bs buffer ≡ bs
unfolding laid_over
lay_whole bs buffer h = rw (drop_all (length bs) buffer h, append-nil)
