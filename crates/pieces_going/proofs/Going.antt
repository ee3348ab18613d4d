-- Laws of a feed, stretch by stretch: no room, one byte, bytes that print nothing, a whole record. Assumes nothing.
use mathlib.Core.Path.{◌≡◌, refl, sym, ap, ◌∙◌}
use mathlib.Core.Bool.{true}
use mathlib.Core.List.{List, [], ◌∷◌, ◌++◌, append_assoc, append-nil}
use Prim.Native.Nat.{ℕ, suc, ◌+◌, ◌≤◌, ◌<◌}
use native.Mathlib.Nat.{add-zero, add-suc}
use native.Mathlib.Numerals.{add-one}
use native.Mathlib.Omega.{arith}
use lib.ListN.{length, get_or, take}
use lib.Seq.{take-suc, take_all, length-take-le}
use borrow.Author.Tests.{lt-ltb, le-ltb}
use Rattle.bits.proofs.Tests.{pick_true, pick-false}
use Rattle.model.specs.Work.{early}
use Rattle.model.specs.Step.{step}
use Rattle.model.specs.Outcome.{list_room}
use Rattle.model.specs.File.{record_length, is_record, event_of}
use Rattle.model.specs.Stream as stream
use Rattle.model.specs.Stream.{Took, row_of, silent, played, took, fed}
use Rattle.model.specs.declared.stream.Phase.TheVariants.{InRecords}
use Rattle.laws_stream.proofs.Stretches.{fed-append, record_held, whole_record}
use Rattle.night_text.specs.Buffer.{laid_at, longest_line}
use Rattle.night_text.proofs.Laid.{laid_none}
use Rattle.pieces_going.specs.Going.{Going, after_byte, going}

-- so many bytes are taken, and their text laid into the output
abbrev pub after_bytes : Going → ℕ → Took → Going
after_bytes g n t =
    record {
      taken = g.taken + n;
      printed = g.printed + length t.text;
      carried = t.carried;
      out = laid_at g.printed t.text g.out;
    }

-- .. that print nothing
abbrev pub after_silent : Going → ℕ → stream.Carried → Going
after_silent g n c = record { taken = g.taken + n; printed = g.printed; carried = c; out = g.out }

-- no room for a longest line: no byte is taken
pub going-none : (g : Going) (bytes : List ℕ) → length g.out < g.printed + longest_line → going g bytes ≡ g
unfolding going
going-none g [] full = refl
going-none g (b ∷ bytes) full = pick_true _ _ (lt-ltb _ _ full)

-- one byte
pub going-byte : (g : Going) (b : ℕ) (rest : List ℕ) → g.printed + longest_line ≤ length g.out → going g (b ∷ rest) ≡ going (after_byte g b) rest
unfolding going
going-byte g b rest room = pick-false _ _ (le-ltb _ _ room)

-- two texts that are nothing when joined
none_first : (text more : List ℕ) → text ++ more ≡ [] → text ≡ []
none_first [] more e = refl
none_first (a ∷ text) more e = absurd (omega (arith, ap length e))

none_second : (text more : List ℕ) → text ++ more ≡ [] → more ≡ []
none_second text more e = rw (none_first text more e) at e

-- bytes that print nothing
pub going-silent : (g : Going) (bytes rest : List ℕ) (c : stream.Carried) → fed g.carried bytes ≡ silent c → g.printed + longest_line ≤ length g.out
    → going g (bytes ++ rest) ≡ going (after_silent g (length bytes) c) rest
unfolding fed after_byte
going-silent g [] rest c e room =
    ap (λ (h : Going). going h rest) (λ i. record { taken = sym (add-zero g.taken) i; printed = g.printed; carried = (e i).carried; out = g.out })
going-silent g (b ∷ bytes) rest c e room =
    let t : Took = took g.carried b in
    let n : t.text ≡ [] = none_first t.text (fed t.carried bytes).text (ap (λ (u : Took). u.text) e) in
    let m : (fed t.carried bytes).text ≡ [] = none_second t.text (fed t.carried bytes).text (ap (λ (u : Took). u.text) e) in
    let h : Going = after_silent g 1 t.carried in
    let k : g.taken + 1 + length bytes ≡ g.taken + suc (length bytes) = omega arith in
    going-byte g b (bytes ++ rest) room
    ∙ ap (λ (f : Going). going f (bytes ++ rest)) (λ i. record { taken = sym (add-one g.taken) i; printed = (ap (λ (u : List ℕ). g.printed + length u) n ∙ add-zero g.printed) i; carried = t.carried; out = (ap (λ (u : List ℕ). laid_at g.printed u g.out) n ∙ laid_none g.printed g.out) i })
    ∙ going-silent h bytes rest c (λ i. record { carried = (e i).carried; text = m i }) room
    ∙ ap (λ (n : ℕ). going (record { taken = n; printed = g.printed; carried = c; out = g.out }) rest) k

-- the byte that ends a stretch does what the whole stretch does
last_byte : (c d : stream.Carried) (front : List ℕ) (b : ℕ) → fed c front ≡ silent d → took d b ≡ fed c (front ++ (b ∷ []))
unfolding fed
last_byte c d front b e =
    sym (fed-append c front (b ∷ [])
    ∙ ap (λ (t : Took). stream.printed_after t.text (fed t.carried (b ∷ []))) e
    ∙ (λ i. record { carried = (took d b).carried; text = append-nil (took d b).text i }))

-- bytes of which only the last may print
going-ended : (g : Going) (front : List ℕ) (b : ℕ) (rest : List ℕ) (d : stream.Carried) → fed g.carried front ≡ silent d → g.printed + longest_line ≤ length g.out
    → going g (front ++ (b ∷ rest)) ≡ going (after_bytes g (suc (length front)) (fed g.carried (front ++ (b ∷ [])))) rest
unfolding after_byte
going-ended g front b rest d e room =
    going-silent g front (b ∷ rest) d e room
    ∙ going-byte (after_silent g (length front) d) b rest room
    ∙ ap (λ (t : Took). going (record { taken = suc (g.taken + length front); printed = g.printed + length t.text; carried = t.carried; out = laid_at g.printed t.text g.out }) rest)
    (last_byte g.carried d front b e)
    ∙ ap (λ (n : ℕ). going (record { taken = n; printed = g.printed + length (fed g.carried (front ++ (b ∷ []))).text; carried = (fed g.carried (front ++ (b ∷ []))).carried; out = laid_at g.printed (fed g.carried (front ++ (b ∷ []))).text g.out }) rest)
    (sym (add-suc g.taken (length front)))

-- a whole record
pub going_record : (g : Going) (next records : ℕ) (bytes rest : List ℕ) → g.carried.phase ≡ InRecords next records → g.carried.held ≡ [] → next < records
    → length bytes ≡ record_length → is_record (row_of g.carried) bytes ≡ true → g.printed + longest_line ≤ length g.out
    → going g (bytes ++ rest) ≡ going (after_bytes g record_length (played g.carried next records (step early list_room g.carried.state (event_of (row_of g.carried) bytes)))) rest
going_record g next records bytes rest phase none due l good room =
    let n : length (take 11 bytes) ≡ 11 = length-take-le 11 bytes (omega arith) in
    let e : take 11 bytes ++ (get_or bytes 11 0 ∷ []) ≡ bytes = sym (take-suc bytes 11 0 (omega arith)) ∙ take_all 12 bytes (omega arith) in
    let h : length g.carried.held ≡ 0 = ap length none in
    ap (λ (r : List ℕ). going g (r ++ rest)) (sym e)
    ∙ ap (going g) (append_assoc (take 11 bytes) (get_or bytes 11 0 ∷ []) rest)
    ∙ going-ended g (take 11 bytes) (get_or bytes 11 0) rest _ (record_held g.carried next records (take 11 bytes) phase due (omega arith)) room
    ∙ ap (λ (t : Took). going (after_bytes g (suc (length (take 11 bytes))) t) rest) (ap (fed g.carried) e ∙ whole_record g.carried next records bytes phase none due l good)
    ∙ ap (λ (k : ℕ). going (after_bytes g (suc k) (played g.carried next records (step early list_room g.carried.state (event_of (row_of g.carried) bytes)))) rest) n
