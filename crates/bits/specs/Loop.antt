-- Loops over the numbers below a count, ascending.
use Rattle.std.specs.Prelude.{ℕ, zero, suc, Bool, true, false, List, [], ◌∷◌, ◌⊎◌, ◌≡◌}
use Rattle.bits.specs.Choice.{pick, only_if, both, either}

-- the change f at each number below n that passes the test
unfoldable pub each {ℓ} : {A : Type ℓ} → (ℕ → Bool) → (ℕ → A → A) → ℕ → A → A
each c f zero a = a
each c f (suc n) a = only_if (c n) (f n) (each c f n a)

-- the values of f at the numbers below n. What a `let` binds the checker computes only when it is asked for, so a case pays for the values that it reads
unfoldable pub tab {ℓ} : {A : Type ℓ} → ℕ → (ℕ → A) → List A
tab zero f = []
tab (suc n) f = let v = f 0 in let rest = tab n (λ k. f (suc k)) in v ∷ rest

-- a number below n passes the test
unfoldable pub any_below : ℕ → (ℕ → Bool) → Bool
any_below zero p = false
any_below (suc n) p = either (any_below n p) (p n)

-- a value is one of a list's
unfoldable pub Among : {A : Type 0} → A → List A → Type 0
Among a [] = ⊥
Among a (b ∷ rest) = (a ≡ b) ⊎ Among a rest

-- a value of a list passes the test
unfoldable pub any_of {ℓ} : {A : Type ℓ} → List A → (A → Bool) → Bool
any_of [] p = false
any_of (a ∷ rest) p = either (p a) (any_of rest p)

-- every number below n passes the test
unfoldable pub all_below : ℕ → (ℕ → Bool) → Bool
all_below zero p = true
all_below (suc n) p = both (all_below n p) (p n)

-- the lowest of the `left` numbers from k on that passes, else the number after them
unfoldable pub seek : ℕ → ℕ → (ℕ → Bool) → ℕ
seek zero k p = k
seek (suc left) k p = pick (p k) k (seek left (suc k) p)
