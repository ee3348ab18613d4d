-- What a place of a byte list holds, and the list with the place replaced.
use Rattle.std.specs.Prelude.{ℕ, ◌+◌, Bool, not, List, eqb, leb, ltb, get_or, set}
use Rattle.bits.specs.Choice.{both, either}
use Rattle.bits.specs.Number.{field, with_field}
use Rattle.bits.specs.declared.Place.{Place}

-- the value at a place
unfoldable pub get : List ℕ → Place → ℕ
get image p = field (get_or image p.byte 0) p.shift p.width

-- the list with v at a place
unfoldable pub put : List ℕ → Place → ℕ → List ℕ
put image p v = set image p.byte (with_field (get_or image p.byte 0) p.shift p.width v)

-- two places share no bit: they lie in two bytes, or one ends where the other starts or lower
unfoldable pub apart : Place → Place → Bool
apart p q =
    either (not (eqb p.byte q.byte))
    (either (leb (p.width + p.shift) q.shift) (leb (q.width + q.shift) p.shift))

-- bit b of byte i
unfoldable pub digit : List ℕ → ℕ → ℕ → ℕ
digit image i b = field (get_or image i 0) b 1

-- bit b of byte i is in the place
unfoldable pub covers : Place → ℕ → ℕ → Bool
covers p i b = both (eqb p.byte i) (both (leb p.shift b) (ltb b (p.shift + p.width)))
