-- Choosing by a test.
use Rattle.std.specs.Prelude.{Bool, true, false, not}

-- the first value where the test holds, else the second
unfoldable pub pick {ℓ} : {A : Type ℓ} → Bool → A → A → A
pick true a b = a
pick false a b = b

-- the change where the test holds, else none
unfoldable pub only_if {ℓ} : {A : Type ℓ} → Bool → (A → A) → A → A
only_if true f a = f a
only_if false f a = a

-- both tests hold
unfoldable pub both : Bool → Bool → Bool
both true b = b
both false b = false

-- one of the tests holds
unfoldable pub either : Bool → Bool → Bool
either true b = true
either false b = b

-- where the first test holds, so does the second
unfoldable pub implies : Bool → Bool → Bool
implies true b = b
implies false b = true

-- the tests agree
unfoldable pub same : Bool → Bool → Bool
same true b = b
same false b = not b
