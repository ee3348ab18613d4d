-- A byte, and the end, print at most a longest line. Assumes nothing.
use mathlib.Core.List.{List}
use Prim.Native.Nat.{ℕ, suc, ◌≤◌}
use native.Mathlib.Omega.{arith}
use lib.Dec.{eqb, leb, ltb}
use lib.ListN.{length, take}
use Rattle.bits.specs.Choice.{both}
use Rattle.bits.proofs.Tests.{pick-has}
use Rattle.model.specs.Numbers.{Count, RecordIndex}
use Rattle.model.specs.Map.{Image}
use Rattle.model.specs.State.{State}
use Rattle.model.specs.Answers.{number, is_done}
use Rattle.model.specs.Work.{early}
use Rattle.model.specs.Step.{step}
use Rattle.model.specs.Outcome.{list_room}
use Rattle.model.specs.Refusals.{first_of, start_refusals}
use Rattle.model.specs.File.{image_offset, record_length, is_header, is_record, event_of}
use Rattle.model.specs.Stream.{Carried, Took, count_limit, row_of, silent, refused, took_header, started_by, whole_image, took_image, played, took_record, took_in, took, ended_in, ended}
use Rattle.model.specs.declared.answer.Answer.{Answer}
use Rattle.model.specs.declared.answer.Answer.TheVariants.{Malformed}
use Rattle.model.specs.declared.event.Event.{Event}
use Rattle.model.specs.declared.stream.Phase.{Phase}
use Rattle.model.specs.declared.stream.Phase.TheVariants.{InHeader, InImage, InRecords, Over}
use Rattle.night_text.proofs.Lines.{bad_most, number_lt, length_any_index}
use Rattle.night_lines.proofs.ReadBytes.{line-fits}
use Rattle.night_text.specs.Buffer.{longest_line}

record Fits (t : Took) : Type 0 where
  most : length t.text ≤ longest_line

quiet : {c : Carried} → Fits (silent c)
quiet = record { most = omega arith }

module _ (c : Carried) where
  refused-fits : (a : Answer) → Fits (refused a c)
  unfolding refused
  refused-fits a = record { most = omega (arith, bad_most (number a) (number_lt a)) }

  header_fits : (bytes : List ℕ) → Fits (took_header c bytes)
  unfolding took_header
  header_fits bytes =
      pick-has Fits (ltb (length bytes) image_offset) (λ _. quiet)
      (λ _. pick-has Fits (is_header count_limit bytes) (λ _. quiet) (λ _. refused-fits Malformed))

played-fits : (c : Carried) (next : RecordIndex) (records : Count) (s : State) (e : Event) → Fits (played c next records (step early list_room s e))
unfolding played
played-fits c next records s e = record { most = omega (arith, line-fits s e next, length_any_index next) }

module _ (c : Carried) where
  image-fits : (come records : Count) (x : Image) → Fits (took_image c come records x)
  unfolding took_image started_by
  image-fits come records x =
      pick-has Fits (ltb (suc come) (row_of c).image_bytes) (λ _. quiet)
      (λ _. pick-has Fits (is_done (first_of (start_refusals (whole_image c x)))) (λ _. quiet) (λ _. refused-fits _ _))

  record_fits : (next : RecordIndex) (records : Count) (bytes : List ℕ) → Fits (took_record c next records bytes)
  unfolding took_record
  record_fits next records bytes =
      pick-has Fits (ltb next records)
      (λ _. pick-has Fits (ltb (length bytes) record_length) (λ _. quiet)
      (λ _. pick-has Fits (is_record (row_of c) (take record_length bytes)) (λ _. played-fits c next records c.state (event_of (row_of c) (take record_length bytes))) (λ _. refused-fits c Malformed)))
      (λ _. refused-fits c Malformed)

  took-fits : (phase : Phase) (b : ℕ) → Fits (took_in phase c b)
  unfolding took_in
  took-fits InHeader b = header_fits c _
  took-fits (InImage come records) b = image-fits come records _
  took-fits (InRecords next records) b = record_fits next records _
  took-fits Over b = quiet

  ended-fits : (phase : Phase) → Fits (ended_in phase c)
  unfolding ended_in
  ended-fits InHeader = refused-fits c Malformed
  ended-fits (InImage come records) = refused-fits c Malformed
  ended-fits (InRecords next records) = pick-has Fits (both (leb records next) (eqb (length c.held) 0)) (λ _. quiet) (λ _. refused-fits c Malformed)
  ended-fits Over = quiet

  pub took-most : (b : ℕ) → length (took c b).text ≤ longest_line
  unfolding took
  took-most b = (took-fits c.phase b).most

  pub ended-most : length (ended c).text ≤ longest_line
  unfolding ended
  ended-most = (ended-fits c.phase).most
