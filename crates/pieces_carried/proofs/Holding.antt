-- Laws of the bytes held of a part that is not whole: how many they are, one byte more, and the part when it is whole. Assumes nothing.
use mathlib.Core.Path.{◌≡◌, refl, sym, ap, ◌∙◌}
use mathlib.Core.List.{List, [], ◌∷◌, ◌++◌, append-nil}
use Prim.Native.Nat.{ℕ, zero, suc, ◌+◌, ◌-◌, ◌≤◌, ◌<◌}
use native.Mathlib.Omega.{arith}
use lib.ListN.{length, set, take, drop, length-append, length-take}
use lib.Seq.{take_all, length-take-le, take-append-le, set_at, append_snoc}
use borrow.Author.Tests.{ltb-true, le-ltb}
use lib.Dec.{ltb}
use Rattle.bits.specs.Loop.{tab}
use Rattle.bits.proofs.Tests.{split, pick_true, pick-false}
use Rattle.bits.proofs.Loops.{length-tab}
use Rattle.model.specs.Map.{Image}
use Rattle.model.specs.State.{state_with}
use Rattle.model.specs.File.{record_length}
use Rattle.model.specs.Stream as stream
use Rattle.model.specs.Stream.{judged_record, took_record}
use Rattle.model.specs.declared.stream.Phase.{Phase}
use Rattle.pieces_carried.specs.Carrying.{held_room, held_count, held_in, carried_by, padded, kept, IsTidy}
use Rattle.pieces_carried.specs.declared.Carried.{Carried}

-- a part that is not whole lacks a byte at least
pub count-short : (n : ℕ) → held_count n < held_room
unfolding held_count
count-short n = split (ltb n held_room)
    (λ t. rw (pick_true n (held_room - 1) t) (ltb-true _ _ t))
    (λ t. rw (pick-false n (held_room - 1) t) (omega arith))

pub held-short : (c : Carried) → length (held_in c) < held_room
unfolding held_in
held-short c = omega (arith, count-short c.count, length-take (held_count c.count) c.held)

-- what is tidy is kept as it is
pub tidy-count : {c : Carried} → IsTidy c → c.count ≡ length (held_in c)
unfolding kept carried_by
tidy-count t = ap (λ d. d.count) t

pub tidy-held : {c : Carried} → IsTidy c → c.held ≡ padded (held_in c)
unfolding kept carried_by
tidy-held t = ap (λ d. d.held) t

pub length-padded : (h : List ℕ) → length h ≤ held_room → length (padded h) ≡ held_room
unfolding padded
length-padded h l = omega (arith, length-append h (tab (held_room - length h) (λ i. 0)), length-tab {A = ℕ} (held_room - length h) (λ i. 0))

-- one byte more, in the first place that holds none
pub one_more : (h : List ℕ) (b : ℕ) → length h < held_room → set (padded h) (length h) b ≡ padded (h ++ (b ∷ []))
unfolding padded tab
one_more h b l =
    let n : held_room - length h ≡ suc (held_room - (length h + 1)) = omega arith in
    rw (n, set_at h 0 (tab (held_room - (length h + 1)) (λ i. 0)) b (length h) refl, length-append h (b ∷ []))
    (sym (append_snoc h b (tab (held_room - (length h + 1)) (λ i. 0))))

pub tidy-length : {c : Carried} → IsTidy c → length c.held ≡ held_room
tidy-length {c} t = ap length (tidy-held t) ∙ length-padded (held_in c) (omega (arith, held-short c))

-- a tidy room with one byte more in it
pub tidy-set : (c : Carried) (b : ℕ) → IsTidy c → set c.held c.count b ≡ padded (held_in c ++ (b ∷ []))
tidy-set c b t = ap (λ h. set h c.count b) (tidy-held t) ∙ ap (λ n. set (padded (held_in c)) n b) (tidy-count t) ∙ one_more (held_in c) b (held-short c)

-- .. is what is kept of one byte more
pub tidy_more : (c : Carried) (b : ℕ) → IsTidy c → (x : Image)
    → record { phase = c.phase; edition = c.edition; held = set c.held c.count b; count = c.count + 1; working = c.working }
    ≡ kept (stream.holding (held_in c ++ (b ∷ [])) (carried_by c x))
unfolding kept carried_by
tidy_more c b t x =
    let n : c.count + 1 ≡ length (held_in c ++ (b ∷ [])) = omega (arith, tidy-count t, length-append (held_in c) (b ∷ [])) in
    λ i. record { phase = c.phase; edition = c.edition; held = tidy-set c b t i; count = n i; working = c.working }

-- .. and a tidy room in another phase, with another image
pub tidy-phase : (c : Carried) → IsTidy c → (phase : Phase) (x : Image)
    → record { phase = phase; edition = c.edition; held = c.held; count = c.count; working = c.working }
    ≡ kept (record { phase = phase; edition = c.edition; held = held_in c; state = state_with x c.working })
unfolding kept
tidy-phase c t phase x = λ i. record { phase = phase; edition = c.edition; held = tidy-held t i; count = tidy-count t i; working = c.working }

-- a whole header fills the room
pub padded-whole : (h : List ℕ) → length h ≡ held_room → padded h ≡ h
unfolding padded tab
padded-whole h l = rw l (append-nil h)

-- zeros after zeros
pub zeros_left : (m n : ℕ) → drop n (tab m (λ i. 0)) ≡ tab {A = ℕ} (m - n) (λ i. 0)
unfolding tab
zeros_left m zero = let e : m - 0 ≡ m = omega arith in rw e
zeros_left zero (suc n) = let e : 0 - suc n ≡ 0 = omega arith in rw e
zeros_left (suc m) (suc n) = let e : suc m - suc n ≡ m - n = omega arith in rw e (zeros_left m n)

-- what was held, copied over zeros, is what is kept
pub tidied_is : (c : Carried) → length c.held ≡ held_room → (copied : List ℕ) (count : ℕ) → count ≡ held_count c.count → copied ≡ take count c.held
    → record { phase = c.phase; edition = c.edition; held = copied ++ drop count (tab held_room (λ i. 0)); count = count; working = c.working } ≡ kept (carried_by c [])
unfolding kept carried_by held_in padded
tidied_is c l copied count n h =
    let m : held_count c.count ≡ length (take (held_count c.count) c.held) =
    sym (length-take-le (held_count c.count) c.held (omega (arith, count-short c.count))) in
    let z = zeros_left held_room (held_count c.count) ∙ ap (λ k. tab (held_room - k) (λ i. 0)) m in
    let p =
    ap (λ b. b ++ drop count (tab held_room (λ i. 0))) h
    ∙ ap (λ k. take k c.held ++ drop k (tab held_room (λ i. 0))) n
    ∙ ap (λ z. take (held_count c.count) c.held ++ z) z in
    λ i. record { phase = c.phase; edition = c.edition; held = p i; count = (n ∙ m) i; working = c.working }

-- the zeros are not among the bytes of a whole record ..
record_front : (h : List ℕ) → record_length ≤ length h → take record_length (padded h) ≡ take record_length h
unfolding padded
record_front h l = take-append-le record_length h (tab (held_room - length h) (λ i. 0)) l

-- .. by which it is judged and played
pub took-padded : (m : stream.Carried) (next records : ℕ) (h : List ℕ) → record_length ≤ length h
    → took_record m next records (take record_length (padded h)) ≡ took_record m next records h
unfolding took_record
took-padded m next records h l =
    let r : List ℕ = take record_length (padded h) in
    let n : length r ≡ record_length = ap length (record_front h l) ∙ length-take-le record_length h l in
    split (ltb next records)
    (λ due. pick_true _ _ due
    ∙ pick-false _ _ (le-ltb (length r) record_length (omega arith))
    ∙ ap (judged_record m next records) (take_all record_length r (omega arith) ∙ record_front h l)
    ∙ sym (pick_true _ _ due ∙ pick-false _ _ (le-ltb (length h) record_length l)))
    (λ none. pick-false _ _ none ∙ sym (pick-false _ _ none))
