-- How the code of a feed goes on: nowhere, over an image's bytes, over records, over all the rest. Assumes nothing.
use mathlib.Core.Path.{◌≡◌, refl, sym, ap, ◌∙◌}
use mathlib.Core.Bool.{true}
use mathlib.Core.List.{List, [], ◌++◌, append_assoc, append-nil}
use Prim.Native.Nat.{ℕ, zero, suc, ◌+◌, ◌-◌, ◌≤◌, ◌<◌}
use native.Mathlib.Omega.{arith}
use lib.ListN.{length, take, drop, length-drop, take-append-drop}
use borrow.Rule.Slice.PartMut.{put_mid}
use lib.Seq.{length-take-le, drop-length, drop-drop, paste}
use borrow.Author.Tests.{leb-true}
use Rattle.bits.specs.Choice.{pick}
use Rattle.bits.specs.Loop.{tab}
use Rattle.bits.proofs.Tests.{split, both_l, both_r, pick_true, pick-false}
use Rattle.model.specs.Map.{Image, image_length}
use Rattle.model.specs.State.{state_with}
use Rattle.model.specs.Work.{early}
use Rattle.model.specs.Step.{step}
use Rattle.model.specs.Outcome.{list_room}
use Rattle.model.specs.Answers.{number}
use Rattle.model.specs.Text.{line}
use Rattle.model.specs.File.{Edition, later_editions, edition_among, record_length, is_record, event_of}
use Rattle.model.specs.Stream.{silent, played, fed}
use Rattle.model.specs.declared.stream.Phase.{Phase}
use Rattle.model.specs.declared.stream.Phase.TheVariants.{InImage, InRecords, Over}
use Rattle.model.proofs.Editions.{edition-fits}
use Rattle.laws_stream.proofs.Stretches.{over_stays, image-held}
use Rattle.night_text.specs.Buffer.{longest_line}
use Rattle.night_text.proofs.Laid.{length_laid}
use Rattle.night_text.proofs.Lines.{length_any_index}
use Rattle.night_lines.proofs.ReadBytes.{line-fits}
use Rattle.pieces_records.specs.Running.{Running, record_at, can_play, after_step, after_record, runs, running}
use Rattle.pieces_records.specs.declared.Played.{Played}
use Rattle.pieces_records.proofs.Runs.{record_length_lem}
use Rattle.pieces_carried.specs.Carrying.{held_count, held_in, carried_by, padded, kept, IsTidy}
use Rattle.pieces_carried.specs.declared.Carried.{Carried}
use Rattle.pieces_carried.proofs.Holding.{tidy-phase}
use Rattle.pieces_going.specs.Going.{Going, going}
use Rattle.pieces_going.proofs.Going.{going-silent, going_record}
use Rattle.pieces_ahead.specs.declared.Feeding.{Feeding}
use Rattle.pieces_ahead.specs.Standing.{standing, between_records, Stands, Goes}

-- nowhere
pub stays : (f : Feeding) (x : Image) (piece out : List ℕ) → Stands f piece out → Goes piece (standing f x out) f x out
stays f x piece out s = record { stands = s; onward = omega arith; same = refl }

-- one way, and another from where it led
pub goes_on : {piece : List ℕ} {g : Going} {f f' : Feeding} {x x' : Image} {out out' : List ℕ} → Goes piece g f x out → Goes piece (standing f x out) f' x' out'
    → Goes piece g f' x' out'
goes_on a b = record { stands = b.stands; onward = omega (arith, a.onward, b.onward); same = b.same ∙ a.same }

-- another phase
abbrev pub in_phase : Phase → Carried → Carried
in_phase phase c = record { phase = phase; edition = c.edition; held = c.held; count = c.count; working = c.working }

-- the bytes of a piece from a place on, some and the rest
some_rest : (from n : ℕ) (piece : List ℕ) → drop from piece ≡ take n (drop from piece) ++ drop (from + n) piece
some_rest from n piece = sym (take-append-drop n (drop from piece)) ∙ ap (λ (r : List ℕ). take n (drop from piece) ++ r) (drop-drop n from piece)

-- bytes of a piece, copied over a part of an image
pub copied_over : (x piece part : List ℕ) (at from n k m : ℕ) → k ≡ n → m ≡ n → part ≡ take m (drop from piece) → put_mid at k x part ≡ paste x at (drop from piece) n
copied_over x piece part at from n k m p q e = rw (p, e, q, drop-drop n at x) (sym (append_assoc (take at x) (take n (drop from piece)) (drop (at + n) x)))

-- over bytes of an image
abbrev pub over_image : Feeding → ℕ → ℕ → ℕ → Feeding
over_image f come records n = record { taken = f.taken + n; come = record { at = f.come.at; carried = in_phase (InImage (come + n) records) f.come.carried } }

module _ (f : Feeding) (x left : Image) (piece out : List ℕ) (come records n : ℕ) (tidy : IsTidy f.come.carried) (phase : f.come.carried.phase ≡ InImage come records)
    (whole : length x ≡ image_length) (short : come + n < (edition_among later_editions f.come.carried.edition).image_bytes) (there : f.taken + n ≤ length piece) (copied : left ≡ paste x come (drop f.taken piece) n)
    (room : f.come.at + longest_line ≤ length out) where
  abbrev bytes : List ℕ
  bytes = take n (drop f.taken piece)

  some : length bytes ≡ n
  some = length-take-le n (drop f.taken piece) (omega (arith, length-drop f.taken piece))

  image-silent : fed (carried_by f.come.carried x) bytes ≡ silent (carried_by (over_image f come records n).come.carried left)
  unfolding carried_by held_in
  image-silent =
      image-held (carried_by f.come.carried x) come records bytes phase (omega (arith, some)) (omega (arith, some, edition-fits f.come.carried.edition))
      ∙ rw (some, copied) refl

  pub image_goes : Goes piece (standing f x out) (over_image f come records n) left out
  unfolding carried_by held_in
  image_goes =
      record {
        stands = record { tidy = tidy-phase f.come.carried tidy (InImage (come + n) records) []; within = there; fits = omega arith };
        onward = omega arith;
        same =
            sym (ap (going (standing f x out)) (some_rest f.taken n piece)
            ∙ going-silent (standing f x out) bytes (drop (f.taken + n) piece) _ image-silent room
            ∙ ap (λ (k : ℕ). going (record { taken = f.taken + k; printed = f.come.at; carried = carried_by (over_image f come records n).come.carried left; out = out }) (drop (f.taken + n) piece)) some);
      }

-- ---- over records

-- where a run over records stands
abbrev between_at : ℕ → ℕ → Running → Going
between_at edition records r =
    record {
      taken = r.taken;
      printed = r.printed;
      carried = record { phase = InRecords r.next records; edition = edition; held = []; state = r.state };
      out = r.out;
    }

-- a run goes on as a feed does
record Ran (edition records : ℕ) (piece : List ℕ) (r end : Running) : Type 0 where
  onward : r.taken ≤ end.taken
  within : end.taken ≤ length piece
  fits : end.printed ≤ length end.out
  same : going (between_at edition records end) (drop end.taken piece) ≡ going (between_at edition records r) (drop r.taken piece)

module _ (edition records : ℕ) (piece : List ℕ) where
  abbrev row : Edition
  row = edition_among later_editions edition

  -- over one record
  module _ (r : Running) (due : r.next < records) (plays : can_play row r piece ≡ true) where
    there : r.taken + record_length ≤ length piece
    unfolding can_play
    there = leb-true _ _ (both_l _ _ (both_l _ _ plays))

    room : r.printed + longest_line ≤ length r.out
    unfolding can_play
    room = leb-true _ _ (both_r _ _ (both_l _ _ plays))

    good : is_record row (record_at r.taken piece) ≡ true
    unfolding can_play
    good = both_r _ _ plays

    record_same : going (between_at edition records (after_record row r piece)) (drop (r.taken + record_length) piece) ≡ going (between_at edition records r) (drop r.taken piece)
    unfolding after_step played
    record_same =
        sym (ap (going (between_at edition records r)) (some_rest r.taken record_length piece)
        ∙ going_record (between_at edition records r) r.next records (record_at r.taken piece) (drop (r.taken + record_length) piece) refl refl due (record_length_lem r.taken piece there) good room)

    record_fits : (after_record row r piece).printed ≤ length (after_record row r piece).out
    unfolding after_step
    record_fits =
        let e = event_of row (record_at r.taken piece) in
        let text = line r.next (number (step early list_room r.state e).answer) (step early list_room r.state e).bytes in
        omega (arith, room, line-fits r.state e r.next, length_any_index r.next, length_laid r.printed text r.out (omega (arith, room)))

  -- over any number of them
  runs_on_lem : (n : ℕ) (r : Running) → r.next + n ≤ records → r.taken ≤ length piece → r.printed ≤ length r.out → Ran edition records piece r (runs row n r piece)
  unfolding runs after_step
  runs_on_lem zero r most within fits = record { onward = omega arith; within = within; fits = fits; same = refl }
  runs_on_lem (suc n) r most within fits = split (can_play row r piece)
      (λ t.
      let due : r.next < records = omega arith in
      let g = runs_on_lem n (after_record row r piece) (omega arith) (there r due t) (record_fits r due t) in
      rw (pick_true (runs row n (after_record row r piece) piece) r t) (record { onward = omega (arith, g.onward); within = g.within; fits = g.fits; same = g.same ∙ record_same r due t }))
      (λ t. rw (pick-false (runs row n (after_record row r piece) piece) r t) (record { onward = omega arith; within = within; fits = fits; same = refl }))

between_tidy : (edition records : ℕ) (p : Played) → IsTidy (between_records edition records p).come.carried
unfolding kept carried_by held_in held_count between_records padded pick tab
between_tidy edition records p = refl

-- from between two records, where nothing is held
between_stands : (f : Feeding) (x : Image) (out : List ℕ) (next records : ℕ) → f.come.carried.phase ≡ InRecords next records → f.come.carried.count ≡ 0
    → standing f x out ≡ between_at f.come.carried.edition records (running (record { taken = f.taken; next = next; reached = record { at = f.come.at; working = f.come.carried.working } }) x out)
unfolding carried_by held_in held_count pick
between_stands f x out next records phase count =
    λ i. record {
      taken = f.taken;
      printed = f.come.at;
      carried =
          record {
            phase = phase i;
            edition = f.come.carried.edition;
            held = ap (λ (n : ℕ). take (held_count n) f.come.carried.held) count i;
            state = state_with x f.come.carried.working;
          };
      out = out;
    }

pub records_go : (f r : Feeding) (x left : Image) (piece out after : List ℕ) (next records : ℕ) (p : Played)
    → Stands f piece out → f.come.carried.phase ≡ InRecords next records → f.come.carried.count ≡ 0 → next ≤ records
    → running p left after ≡ runs (edition_among later_editions f.come.carried.edition) (records - next) (running (record { taken = f.taken; next = next; reached = record { at = f.come.at; working = f.come.carried.working } }) x out) piece
    → r ≡ between_records f.come.carried.edition records p → Goes piece (standing f x out) r left after
unfolding carried_by held_in held_count between_records pick
records_go f r x left piece out after next records p s phase count most ran e =
    let start = running (record { taken = f.taken; next = next; reached = record { at = f.come.at; working = f.come.carried.working } }) x out in
    let g : Ran f.come.carried.edition records piece start (running p left after) = rw ran (runs_on_lem f.come.carried.edition records piece (records - next) start (omega arith) s.within s.fits) in
    rw (e, between_stands f x out next records phase count)
    (record {
      stands = record { tidy = between_tidy f.come.carried.edition records p; within = g.within; fits = g.fits };
      onward = g.onward;
      same = g.same;
    })

-- after the last line, over all the rest
pub over_goes : (f : Feeding) (x : Image) (piece out : List ℕ) → Stands f piece out → f.come.carried.phase ≡ Over → f.come.at + longest_line ≤ length out
    → Goes piece (standing f x out) (record { taken = length piece; come = f.come }) x out
unfolding carried_by going
over_goes f x piece out s phase room =
    let rest : List ℕ = drop f.taken piece in
    let l : f.taken + length rest ≡ length piece = omega (arith, length-drop f.taken piece, s.within) in
    record {
      stands = record { tidy = s.tidy; within = omega arith; fits = s.fits };
      onward = s.within;
      same =
          ap (going (record { taken = length piece; printed = f.come.at; carried = carried_by f.come.carried x; out = out })) (drop-length piece)
          ∙ ap (λ (n : ℕ). going (record { taken = n; printed = f.come.at; carried = carried_by f.come.carried x; out = out }) []) (sym l)
          ∙ sym (ap (going (standing f x out)) (sym (append-nil rest)) ∙ going-silent (standing f x out) rest [] _ (over_stays (carried_by f.come.carried x) phase rest) room);
    }
