-- Laws of numbers of several bytes. Assumes nothing.
use mathlib.Core.Path.{◌≡◌, refl, sym, ◌∙◌}
use mathlib.Core.List.{List}
use mathlib.Core.Logic.{◌⊎◌, inl, inr}
use Prim.Native.Nat.{ℕ, zero, suc, ◌+◌, ◌*◌, ◌/◌, ◌%◌, ◌^◌, ◌≤◌, ◌<◌}
use native.Mathlib.Nat.{mod-one, pow-suc, add-zero, add-suc, add_assoc, add-mul, mul_assoc}
use native.Mathlib.Decide.{ℕ_discrete, dec_lt}
use native.Mathlib.Omega.{arith}
use lib.Arith.{mod-mul, digits_lt}
use lib.ListN.{length, get_or, set, length-set}
use lib.Seq.{get_or-set_same, get_or-set_other, set_out}
use Rattle.bits.specs.Word.{word, put_word}
use Rattle.bits.proofs.Places.{Bytes}

pub length-put-word : (n : ℕ) (im : List ℕ) (at v : ℕ) → length (put_word n im at v) ≡ length im
unfolding put_word
length-put-word zero im at v = refl
length-put-word (suc n) im at v = length-set (put_word n im at (v / 256)) (at + n) (v % 256) ∙ length-put-word n im at (v / 256)

-- the bytes beside the word stay
pub word-byte_other : (n : ℕ) (im : List ℕ) (at v j : ℕ) → (j < at) ⊎ (at + n ≤ j) → get_or (put_word n im at v) j 0 ≡ get_or im j 0
unfolding put_word
word-byte_other zero im at v j h = refl
word-byte_other (suc n) im at v j (inl h) =
    get_or-set_other (put_word n im at (v / 256)) (at + n) j (v % 256) 0 (omega arith) ∙ word-byte_other n im at (v / 256) j (inl h)
word-byte_other (suc n) im at v j (inr h) =
    get_or-set_other (put_word n im at (v / 256)) (at + n) j (v % 256) 0 (omega arith) ∙ word-byte_other n im at (v / 256) j (inr (omega arith))

-- equal bytes, equal words
pub word_ext : (n : ℕ) (x y : List ℕ) (at : ℕ) → ((k : ℕ) → k < n → get_or x (at + k) 0 ≡ get_or y (at + k) 0) → word n x at ≡ word n y at
unfolding word
word_ext zero x y at h = refl
word_ext (suc n) x y at h = rw (word_ext n x y at (λ k b. h k (omega arith)), h n (omega arith))

-- a word is its high part and its low part
pub word_split : (n m : ℕ) (im : List ℕ) (at : ℕ) → word (n + m) im at ≡ word n im at * 256 ^ m + word m im (at + n)
unfolding word
word_split n zero im at = rw (add-zero n) (omega arith)
word_split n (suc m) im at = rw (add-suc, pow-suc, word_split n m im at) (simp (add-mul, mul_assoc, add_assoc))

-- what was put is there, as far as it fits
pub word-put : (n : ℕ) (im : List ℕ) (at v : ℕ) → at + n ≤ length im → word n (put_word n im at v) at ≡ v % 256 ^ n
unfolding word put_word
word-put zero im at v h = sym (mod-one v)
word-put (suc n) im at v h =
    let z = put_word n im at (v / 256) in
    rw (
      word_ext n (set z (at + n) (v % 256)) z at (λ k b. get_or-set_other z (at + n) (at + k) (v % 256) 0 (omega arith)),
      word-put n im at (v / 256) (omega arith),
      get_or-set_same z (at + n) (v % 256) 0 (omega (arith, length-put-word n im at (v / 256))),
      pow-suc,
    )
    (sym (mod-mul v (positive n) (omega arith)))
  where
    positive : (n : ℕ) → 0 < 256 ^ n
    positive zero = omega arith
    positive (suc n) = omega (arith, positive n)

pub word_lt : (n : ℕ) (im : List ℕ) (at : ℕ) → Bytes im → word n im at < 256 ^ n
unfolding word
word_lt zero im at b = omega arith
word_lt (suc n) im at b = rw pow-suc (digits_lt (word_lt n im at b) (b (at + n)))

pub bytes-put-word : (n : ℕ) (im : List ℕ) (at v : ℕ) → Bytes im → Bytes (put_word n im at v)
unfolding put_word
bytes-put-word zero im at v b k = b k
bytes-put-word (suc n) im at v b k =
    let z = put_word n im at (v / 256) in
    let r : get_or z k 0 < 256 = bytes-put-word n im at (v / 256) b k in
    elim (ℕ_discrete k (at + n)) [
      | no q ↦ rw (get_or-set_other z (at + n) k (v % 256) 0 q) r
      | yes q ↦ elim (dec_lt k (length z)) [
        | yes l ↦ rw (← q, get_or-set_same z k (v % 256) 0 l) (omega arith)
        | no l ↦ rw (← q, set_out z k (v % 256) (omega arith)) r
      ]
    ]
