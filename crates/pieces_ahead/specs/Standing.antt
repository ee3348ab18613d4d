-- Where the code of a feed stands, and how it goes on.
use Rattle.std.specs.Prelude.{ℕ, ◌+◌, ◌≤◌, ◌≡◌, List, [], length, drop}
use Rattle.model.specs.Map.{Image}
use Rattle.model.specs.declared.stream.Phase.TheVariants.{InRecords}
use Rattle.night_text.specs.Buffer.{longest_line}
use Rattle.pieces_records.specs.declared.Played.{Played}
use Rattle.pieces_carried.specs.Carrying.{carried_by, padded, IsTidy}
use Rattle.pieces_going.specs.Going.{Going, going}
use Rattle.pieces_ahead.specs.declared.Feeding.{Feeding}

-- where the code of a feed stands
abbrev pub standing : Feeding → Image → List ℕ → Going
standing f x out = record { taken = f.taken; printed = f.come.at; carried = carried_by f.come.carried x; out = out }

-- between two records nothing is held
unfoldable pub between_records : ℕ → ℕ → Played → Feeding
between_records edition records p =
    record {
      taken = p.taken;
      come =
          record {
            at = p.reached.at;
            carried = record { phase = InRecords p.next records; edition = edition; held = padded []; count = 0; working = p.reached.working };
          };
    }

-- the code of a feed may stand here
pub record Stands (f : Feeding) (piece out : List ℕ) : Type 0 where
  pub tidy : IsTidy f.come.carried
  pub within : f.taken ≤ length piece
  pub fits : f.come.at ≤ length out

-- it goes on from one place to another: what is still to come makes the same of both
pub record Goes (piece : List ℕ) (g : Going) (f : Feeding) (x : Image) (out : List ℕ) : Type 0 where
  pub stands : Stands f piece out
  pub onward : g.taken ≤ f.taken
  pub same : going (standing f x out) (drop f.taken piece) ≡ going g (drop g.taken piece)

-- .. without a word, whatever the output holds, if it has room for a longest line
abbrev pub GoesSilently : List ℕ → Feeding → Image → Feeding → Image → Type 0
GoesSilently piece f x f' x' = (out : List ℕ) → f.come.at + longest_line ≤ length out → Goes piece (standing f x out) f' x' out
