-- Laws of the search through a list: what it finds, and what it passes by. Assumes nothing.
use mathlib.Core.Path.{◌≡◌, refl, sym, ap, ap₂, ◌∙◌}
use mathlib.Core.Bool.{Bool, true, false}
use mathlib.Core.List.{List, [], ◌∷◌}
use mathlib.Core.Logic.{◌⊎◌, inl, inr}
use Prim.Native.Nat.{ℕ, zero, suc, ◌<◌}
use native.Mathlib.Omega.{arith}
use Rattle.bits.specs.Choice.{either}
use Rattle.bits.specs.Loop.{tab, any_below, any_of, Among}
use Rattle.bits.proofs.Tests.{clash, either_l, either_r, either_cases, either_i_l, either_i_r, either-none, either_assoc}

module _ {A : Type 0} (p : A → Bool) where
  -- a value that passes is found
  pub any_of_i : (list : List A) (a : A) → Among a list → p a ≡ true → any_of list p ≡ true
  unfolding Among any_of
  any_of_i [] a m e = absurd m
  any_of_i (b ∷ rest) a (inl q) e = either_i_l _ _ (ap p (sym q) ∙ e)
  any_of_i (b ∷ rest) a (inr m) e = either_i_r _ _ (any_of_i rest a m e)

  -- what is found is one of the list's, and passes
  pub any_of_find : (list : List A) → any_of list p ≡ true → (a : A) × Among a list × (p a ≡ true)
  unfolding Among any_of
  any_of_find [] e = absurd (clash e refl)
  any_of_find (b ∷ rest) e = elim (either_cases _ _ e) [
    | inl t ↦ (b, inl refl, t)
    | inr t ↦ let r = any_of_find rest t in (r.0, inr r.1, r.2)
  ]

  -- where none is found, none passes
  pub any_of-none : (list : List A) (a : A) → any_of list p ≡ false → Among a list → p a ≡ false
  unfolding Among any_of
  any_of-none [] a e m = absurd m
  any_of-none (b ∷ rest) a e (inl q) = ap p q ∙ either_l _ _ e
  any_of-none (b ∷ rest) a e (inr m) = any_of-none rest a (either_r _ _ e) m

  -- equal tests find the same
  pub any_of_ext : (q : A → Bool) (list : List A) → ((a : A) → Among a list → p a ≡ q a) → any_of list p ≡ any_of list q
  unfolding Among any_of
  any_of_ext q [] h = refl
  any_of_ext q (b ∷ rest) h = ap₂ either (h b (inl refl)) (any_of_ext q rest (λ a m. h a (inr m)))

-- ---- a table

-- the search below a count, from its front
pub any_front : (n : ℕ) (p : ℕ → Bool) → any_below (suc n) p ≡ either (p 0) (any_below n (λ k. p (suc k)))
unfolding any_below either
any_front zero p = sym (either-none (p 0))
any_front (suc n) p = ap (λ b. either b (p (suc n))) (any_front n p) ∙ either_assoc (p 0) _ _

module _ {A : Type 0} where
  -- the search through a table is the one below its length
  pub any_of-tab : (n : ℕ) (f : ℕ → A) (p : A → Bool) → any_of (tab n f) p ≡ any_below n (λ k. p (f k))
  unfolding any_of tab any_below
  any_of-tab zero f p = refl
  any_of-tab (suc n) f p = ap (either (p (f 0))) (any_of-tab n (λ k. f (suc k)) p) ∙ sym (any_front n (λ k. p (f k)))

  -- what stands in a table stands at one of its numbers
  pub among-tab : (n : ℕ) (f : ℕ → A) (a : A) → Among a (tab n f) → (k : ℕ) × (k < n) × (a ≡ f k)
  unfolding Among tab
  among-tab zero f a m = absurd m
  among-tab (suc n) f a (inl e) = (0, omega arith, e)
  among-tab (suc n) f a (inr m) = let r = among-tab n (λ k. f (suc k)) a m in (suc r.0, omega arith, r.2)

  pub tab-among : (n : ℕ) (f : ℕ → A) (k : ℕ) → k < n → Among (f k) (tab n f)
  unfolding Among tab
  tab-among zero f k h = absurd (omega arith)
  tab-among (suc n) f zero h = inl refl
  tab-among (suc n) f (suc k) h = inr (tab-among n (λ j. f (suc j)) k (omega arith))
