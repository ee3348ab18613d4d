-- Tests of the register map, as code computes them with `&` and `|`. Assumes nothing.
use mathlib.Core.Path.{◌≡◌, refl, sym, ap, ◌∙◌}
use mathlib.Core.Bool.{Bool, true, false, ◌||◌}
use Rattle.bits.specs.Choice.{either}
use Rattle.bits.proofs.Tests.{either_assoc, either-none}

pub either_or : (a b r : Bool) → either (a || b) r ≡ either a (either b r)
unfolding either
either_or true b r = refl
either_or false b r = refl

-- a row of tests joined by `|` in code, and as specs nest it: they agree before any rest of the row
pub record Row (code : Bool) (nested : Bool → Bool) : Type 0 where
  pub agree : (rest : Bool) → either code rest ≡ nested rest

-- the first test, each further one, and the whole row
pub first_test : {a b : Bool} → a ≡ b → Row a (either b)
first_test e = record { agree = λ rest. rw e }

pub then_test : {row a b : Bool} {f : Bool → Bool} → Row row f → a ≡ b → Row (row || a) (λ rest. f (either b rest))
then_test {row} {a} {b} {f} r e = record { agree = λ rest. either_or row a rest ∙ r.agree (either a rest) ∙ ap (λ t. f (either t rest)) e }

pub all_tests : {row : Bool} {f : Bool → Bool} → Row row f → row ≡ f false
all_tests {row} r = sym (either-none row) ∙ r.agree false

-- ---- tests in another order

either_comm : (a b : Bool) → either a b ≡ either b a
unfolding either
either_comm true true = refl
either_comm true false = refl
either_comm false true = refl
either_comm false false = refl

-- a test goes past the next one
past : (p a r : Bool) → either p (either a r) ≡ either a (either p r)
past p a r = sym (either_assoc p a r) ∙ ap (λ t. either t r) (either_comm p a) ∙ either_assoc a p r

-- six tests from the last to the first
last_first : (a b c d e f : Bool)
    → either a (either b (either c (either d (either e (either f false))))) ≡ either f (either e (either d (either c (either b (either a false)))))
last_first a b c d e f = rw (either-none f, either-none a)
    (either_comm a _ ∙ ap (λ t. either t a) (either_comm b _ ∙ ap (λ t. either t b) (either_comm c _ ∙ ap (λ t. either t c) (either_comm d _ ∙ ap (λ t. either t d) (either_comm e f))))
    ∙ either_assoc (either (either (either f e) d) c) b a ∙ either_assoc (either (either f e) d) c (either b a) ∙ either_assoc (either f e) d (either c (either b a))
    ∙ either_assoc f e (either d (either c (either b a))))

-- the first of eleven tests goes to the end, and the five that stood there turn round
pub reordered : (p z a b c d g k h f e : Bool)
    → either p (either z (either a (either b (either c (either d (either g (either k (either h (either f (either e false))))))))))
    ≡ either z (either a (either b (either c (either d (either e (either f (either h (either k (either g (either p false))))))))))
reordered p z a b c d g k h f e =
    past p z _ ∙ ap (either z) (past p a _ ∙ ap (either a) (past p b _ ∙ ap (either b) (past p c _ ∙ ap (either c) (past p d _ ∙ ap (either d) (last_first p g k h f e)))))
