-- What a feed took is what was fed, and feeds join: taking the rest after the output was emptied is one feed into a larger output. Assumes nothing.
use mathlib.Core.Path.{◌≡◌, refl, sym, ap, ◌∙◌}
use mathlib.Core.List.{List, [], ◌∷◌, ◌++◌}
use Prim.Native.Nat.{ℕ, suc, ◌+◌, ◌-◌, ◌≤◌, ◌<◌}
use native.Mathlib.Nat.{add-zero, zero-add}
use native.Mathlib.Omega.{arith}
use lib.Dec.{ltb}
use lib.ListN.{length, take, drop, length-append, length-drop, take-append-drop}
use lib.Seq.{take_at, take-length}
use borrow.Author.Tests.{le-ltb, ltb-true, ltb-false}
use Rattle.bits.specs.Choice.{pick}
use Rattle.bits.proofs.Tests.{split, pick_true, pick-false}
use Rattle.model.specs.Stream as stream
use Rattle.model.specs.Stream.{Took, silent, took, fed, printed_after}
use Rattle.laws_stream.proofs.Stretches.{fed-append}
use Rattle.night_text.specs.Buffer.{laid_at, longest_line}
use Rattle.night_text.proofs.Laid.{laid_none, length_laid, laid_append}
use Rattle.pieces_going.specs.Going.{Going, after_byte, going, at_first}
use Rattle.pieces_going.proofs.Going.{after_bytes, going-none, going-byte}
use Rattle.pieces_going.proofs.Longest.{took-most}

-- how many bytes are taken where the output has so much room left
unfoldable takes : ℕ → stream.Carried → List ℕ → ℕ
takes room c [] = 0
takes room c (b ∷ bytes) = pick (ltb room longest_line) 0 (suc (takes (room - length (took c b).text) (took c b).carried bytes))

-- no byte
after_none : (g : Going) → g ≡ after_bytes g 0 (silent g.carried)
after_none g =
    λ i. record { taken = sym (add-zero g.taken) i; printed = sym (add-zero g.printed) i; carried = g.carried; out = sym (laid_none g.printed g.out) i }

-- a byte, and more bytes
after_more : (g : Going) (b n : ℕ) (t : Took) → g.printed ≤ length g.out → after_bytes (after_byte g b) n t ≡ after_bytes g (suc n) (printed_after (took g.carried b).text t)
unfolding after_byte
after_more g b n t within =
    let text = (took g.carried b).text in
    let k : suc g.taken + n ≡ g.taken + suc n = omega arith in
    let l : g.printed + length text + length t.text ≡ g.printed + length (text ++ t.text) = omega (arith, length-append text t.text) in
    λ i. record { taken = k i; printed = l i; carried = t.carried; out = laid_append g.printed text g.out within t.text i }

-- all that a feed leaves, by how many bytes it takes
going_takes : (g : Going) (bytes : List ℕ) (room n : ℕ) → g.printed ≤ length g.out → length g.out - g.printed ≡ room → takes room g.carried bytes ≡ n
    → going g bytes ≡ after_bytes g n (fed g.carried (take n bytes))
unfolding takes fed after_byte going
going_takes g [] room n within r e = after_none g ∙ ap (λ (k : ℕ). after_bytes g k (fed g.carried (take k []))) e
going_takes g (b ∷ bytes) room n within r e =
    let t : Took = took g.carried b in
    let m : ℕ = takes (room - length t.text) t.carried bytes in
    let l = length_laid g.printed t.text g.out within in
    split (ltb room longest_line)
    (λ full. going-none g (b ∷ bytes) (omega (arith, ltb-true room longest_line full))
    ∙ after_none g
    ∙ ap (λ (k : ℕ). after_bytes g k (fed g.carried (take k (b ∷ bytes)))) (sym (pick_true 0 (suc m) full) ∙ e))
    (λ some. going-byte g b bytes (omega (arith, ltb-false room longest_line some))
    ∙ going_takes (after_byte g b) bytes (room - length t.text) m (omega arith) (omega arith) refl
    ∙ after_more g b m (fed t.carried (take m bytes)) within
    ∙ ap (λ (k : ℕ). after_bytes g k (fed g.carried (take k (b ∷ bytes)))) (sym (pick-false 0 (suc m) some) ∙ e))

takes_within : (room : ℕ) (c : stream.Carried) (bytes : List ℕ) → takes room c bytes ≤ length bytes
unfolding takes
takes_within room c [] = omega arith
takes_within room c (b ∷ bytes) =
    let m : ℕ = takes (room - length (took c b).text) (took c b).carried bytes in
    let l : m ≤ length bytes = takes_within (room - length (took c b).text) (took c b).carried bytes in
    split (ltb room longest_line) (λ full. rw (pick_true 0 (suc m) full) (omega arith)) (λ some. rw (pick-false 0 (suc m) some) (omega arith))

-- where room is left for a longest line, every byte was taken
takes_whole : (room : ℕ) (c : stream.Carried) (bytes : List ℕ) (n : ℕ) → takes room c bytes ≡ n → length (fed c (take n bytes)).text + longest_line ≤ room → n ≡ length bytes
unfolding takes fed
takes_whole room c [] n e h = sym e
takes_whole room c (b ∷ bytes) n e h =
    let t : Took = took c b in
    let m : ℕ = takes (room - length t.text) t.carried bytes in
    let more : List ℕ = (fed t.carried (take m bytes)).text in
    split (ltb room longest_line)
    (λ full. let z : n ≡ 0 = sym e ∙ pick_true 0 (suc m) full in absurd (omega (arith, ltb-true room longest_line full, rw z at h)))
    (λ some. let z : n ≡ suc m = sym e ∙ pick-false 0 (suc m) some in
    let l : length (t.text ++ more) ≡ length t.text + length more = length-append t.text more in
    let g : length (t.text ++ more) + longest_line ≤ room = rw z at h in
    z ∙ ap suc (takes_whole (room - length t.text) t.carried bytes m refl (omega arith)))

-- no more is printed than there is room for
takes_fits : (room : ℕ) (c : stream.Carried) (bytes : List ℕ) (n : ℕ) → takes room c bytes ≡ n → length (fed c (take n bytes)).text ≤ room
unfolding takes fed
takes_fits room c [] n e = rw (← e) (omega arith)
takes_fits room c (b ∷ bytes) n e =
    let t : Took = took c b in
    let m : ℕ = takes (room - length t.text) t.carried bytes in
    let more : List ℕ = (fed t.carried (take m bytes)).text in
    split (ltb room longest_line)
    (λ full. let z : n ≡ 0 = sym e ∙ pick_true 0 (suc m) full in rw z (omega arith))
    (λ some. let z : n ≡ suc m = sym e ∙ pick-false 0 (suc m) some in
    let f : length more ≤ room - length t.text = takes_fits (room - length t.text) t.carried bytes m refl in
    rw z (omega (arith, ltb-false room longest_line some, took-most c b, length-append t.text more)))

-- a feed into an output with more room
takes_wider : (less more : ℕ) (c : stream.Carried) (bytes : List ℕ) → less ≤ more → takes less c bytes ≡ length bytes → takes more c bytes ≡ length bytes
unfolding takes
takes_wider less more c [] h e = refl
takes_wider less more c (b ∷ bytes) h e =
    let t : Took = took c b in
    split (ltb less longest_line)
    (λ full. let z : 0 ≡ suc (length bytes) = sym (pick_true 0 (suc (takes (less - length t.text) t.carried bytes)) full) ∙ e in absurd (omega arith))
    (λ some. let l : longest_line ≤ less = ltb-false less longest_line some in
    let z : suc (takes (less - length t.text) t.carried bytes) ≡ suc (length bytes) = sym (pick-false 0 _ some) ∙ e in
    pick-false 0 _ (le-ltb more longest_line (omega arith))
    ∙ ap suc (takes_wider (less - length t.text) (more - length t.text) t.carried bytes (omega arith) (omega arith)))

-- the rest, in a feed of its own and in the same
takes_join : (first second room : ℕ) (c : stream.Carried) (bytes : List ℕ) (n : ℕ) → first + second ≤ room → takes first c bytes ≡ n
    → takes second (fed c (take n bytes)).carried (drop n bytes) ≡ length (drop n bytes) → takes room c bytes ≡ length bytes
unfolding takes fed
takes_join first second room c [] n r e f = refl
takes_join first second room c (b ∷ bytes) n r e f =
    let t : Took = took c b in
    let m : ℕ = takes (first - length t.text) t.carried bytes in
    split (ltb first longest_line)
    (λ full. let z : n ≡ 0 = sym e ∙ pick_true 0 (suc m) full in takes_wider second room c (b ∷ bytes) (omega arith) (rw z at f))
    (λ some. let z : n ≡ suc m = sym e ∙ pick-false 0 (suc m) some in
    let l : longest_line ≤ first = ltb-false first longest_line some in
    let s : length t.text ≤ longest_line = took-most c b in
    pick-false 0 _ (le-ltb room longest_line (omega arith))
    ∙ ap suc (takes_join (first - length t.text) second (room - length t.text) t.carried bytes m (omega arith) refl (rw z at f)))

-- ---- the theorems

-- what a feed left is what was fed, of the bytes that it took; only for want of room is a byte not taken
pub record IsFedFrom (c : stream.Carried) (piece before : List ℕ) (g : Going) : Type 0 where
  pub within : g.taken ≤ length piece
  pub fits : g.printed ≤ length before
  pub whole : g.printed + longest_line ≤ length before → g.taken ≡ length piece
  pub carried : g.carried ≡ (fed c (take g.taken piece)).carried
  pub printed : g.printed ≡ length (fed c (take g.taken piece)).text
  pub out : g.out ≡ laid_at 0 (fed c (take g.taken piece)).text before

-- by how many bytes it took
fed-from : (c : stream.Carried) (piece before : List ℕ) (n : ℕ) (g : Going) → takes (length before) c piece ≡ n
    → g ≡ after_bytes (at_first c before) n (fed c (take n piece)) → IsFedFrom c piece before g
fed-from c piece before n g e l =
    let t : Took = fed c (take n piece) in
    let k : g.taken ≡ n = ap (λ (g : Going). g.taken) l ∙ zero-add n in
    let p : g.printed ≡ length t.text = ap (λ (g : Going). g.printed) l ∙ zero-add _ in
    record {
      within = rw (k, ← e) (takes_within (length before) c piece);
      fits = rw p (takes_fits (length before) c piece n e);
      whole = λ room. k ∙ takes_whole (length before) c piece n e (rw (← p) room);
      carried = rw k (ap (λ (g : Going). g.carried) l);
      printed = rw k p;
      out = rw k (ap (λ (g : Going). g.out) l);
    }

taken_all : (c : stream.Carried) (piece out : List ℕ) → going (at_first c out) piece ≡ after_bytes (at_first c out) (takes (length out) c piece) (fed c (take (takes (length out) c piece) piece))
taken_all c piece out = going_takes (at_first c out) piece (length out) _ (omega arith) (omega arith) refl

-- A FEED LEAVES WHAT IS FED
pub feed_is_fed : (c : stream.Carried) (piece out : List ℕ) → IsFedFrom c piece out (going (at_first c out) piece)
feed_is_fed c piece out = fed-from c piece out _ _ refl (taken_all c piece out)

-- the text that a feed printed
abbrev pub printed_by : Going → List ℕ
printed_by g = take g.printed g.out

printed-text : {c : stream.Carried} {piece before : List ℕ} {g : Going} → IsFedFrom c piece before g → printed_by g ≡ (fed c (take g.taken piece)).text
unfolding laid_at
printed-text {c} {piece} {before} {g} f =
    let text = (fed c (take g.taken piece)).text in
    rw f.out (take_at text (drop (0 + length text) before) g.printed (sym f.printed))

-- two feeds, one after the other, are one
pub record AreOne (first second : Going) (before : List ℕ) (g : Going) : Type 0 where
  pub taken : g.taken ≡ first.taken + second.taken
  pub printed : g.printed ≡ first.printed + second.printed
  pub carried : g.carried ≡ second.carried
  pub out : g.out ≡ laid_at 0 (printed_by first ++ printed_by second) before

count_is : (c : stream.Carried) (piece out : List ℕ) → takes (length out) c piece ≡ (going (at_first c out) piece).taken
count_is c piece out = sym (ap (λ (g : Going). g.taken) (taken_all c piece out) ∙ zero-add _)

are_one : (c : stream.Carried) (piece before : List ℕ) (first second g : Going) {out₁ out₂ : List ℕ} → IsFedFrom c piece out₁ first
    → IsFedFrom first.carried (drop first.taken piece) out₂ second → second.taken ≡ length (drop first.taken piece)
    → IsFedFrom c piece before g → g.taken ≡ length piece → AreOne first second before g
are_one c piece before first second g f₁ f₂ rest f all =
    let n = first.taken in
    let t : Took = fed first.carried (drop n piece) in
    let w : fed c (take g.taken piece) ≡ printed_after (printed_by first) t =
    ap (λ (k : ℕ). fed c (take k piece)) all
    ∙ ap (fed c) (take-length piece ∙ sym (take-append-drop n piece))
    ∙ fed-append c (take n piece) (drop n piece)
    ∙ rw (printed-text f₁, f₁.carried) refl in
    let u : fed first.carried (take second.taken (drop n piece)) ≡ t = ap (fed first.carried) (rw rest (take-length (drop n piece))) in
    let v : printed_by second ≡ t.text = printed-text f₂ ∙ ap (λ (u : Took). u.text) u in
    record {
      taken = omega (arith, f₁.within, length-drop n piece);
      printed =
          f.printed
          ∙ ap (λ (u : Took). length u.text) w
          ∙ omega (arith, length-append (printed_by first) t.text, ap length (printed-text f₁), f₁.printed, f₂.printed, ap (λ (u : Took). length u.text) u);
      carried = f.carried ∙ ap (λ (u : Took). u.carried) w ∙ sym (f₂.carried ∙ ap (λ (u : Took). u.carried) u);
      out = f.out ∙ ap (λ (u : Took). laid_at 0 u.text before) w ∙ ap (λ (x : List ℕ). laid_at 0 (printed_by first ++ x) before) (sym v);
    }

-- TAKING THE REST AFTER THE OUTPUT WAS EMPTIED IS ONE FEED INTO A LARGER OUTPUT
pub feeds_join : (c : stream.Carried) (piece out₁ out₂ out : List ℕ) → length out₁ + length out₂ ≤ length out
    → let first : Going = going (at_first c out₁) piece in
    let second : Going = going (at_first first.carried out₂) (drop first.taken piece) in
    second.taken ≡ length (drop first.taken piece) → AreOne first second out (going (at_first c out) piece)
feeds_join c piece out₁ out₂ out r rest =
    let first : Going = going (at_first c out₁) piece in
    let f₁ = feed_is_fed c piece out₁ in
    let e : takes (length out₂) first.carried (drop first.taken piece) ≡ length (drop first.taken piece) = count_is _ _ out₂ ∙ rest in
    are_one c piece out first _ _ f₁ (feed_is_fed _ _ out₂) rest (feed_is_fed c piece out)
    (sym (count_is c piece out) ∙ takes_join (length out₁) (length out₂) (length out) c piece first.taken r (count_is c piece out₁) (rw f₁.carried at e))

-- A FEED INTO AN OUTPUT WITH ROOM FOR A LONGEST LINE TAKES A BYTE, where one is there
pub feed_moves : (c : stream.Carried) (piece out : List ℕ) → longest_line ≤ length out → 0 < length piece → 0 < (going (at_first c out) piece).taken
unfolding takes
feed_moves c [] out room some = absurd (omega arith)
feed_moves c (b ∷ piece) out room some = rw (← count_is c (b ∷ piece) out, pick-false _ _ (le-ltb (length out) longest_line room)) (omega arith)
