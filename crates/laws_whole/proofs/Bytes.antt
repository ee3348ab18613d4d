-- Bytes written in both runs, one after the other.
use mathlib.Core.Path.{refl, sym, subst}
use mathlib.Core.List.{List, [], ◌∷◌}
use Prim.Native.Nat.{ℕ, suc}
use Rattle.model.specs.Map.{Image}
use Rattle.model.specs.State.{State, state_with}
use Rattle.model.specs.Pages.{index_of}
use Rattle.model.specs.Access.{without_reset, stored_state, byte_written_state, bytes_written_state}
use Rattle.model.specs.declared.lane.Working.{Working}
use Rattle.laws_frames.proofs.Stored.{stored_cases}
use Rattle.laws_sound.specs.Sound.{seen_of, Sound}
use Rattle.laws_whole.proofs.Pairs.{passed, veiled, Pair, Paired}
use Rattle.laws_whole.proofs.Kept.{changed, keeps_page, keeps_set}
use Rattle.laws_whole.proofs.Changes.{alike_selected, place_same}
use Rattle.laws_whole.proofs.Marking.{triggered_pair}
use Rattle.laws_sound.proofs.Quiet.{Well}
use Rattle.laws_sound.proofs.Steps.{stored_well}
use Rattle.laws_frames.proofs.Alike.{alike_set}

-- a written byte keeps the run sound
byte_well : (two address v : ℕ) (s : State) → Well two s → Well two (byte_written_state address v s)
unfolding byte_written_state
byte_well two address v s W = stored_well two (index_of s.image address) v s W

-- ---- one byte: the page select, the triggers, writable bytes

module _ (x y : Image) (w : Working) (S : Sound (seen_of (state_with x w))) (P : Pair x y w) where
  stored-pair : (i v : ℕ) → Sound (seen_of (stored_state i v (state_with x w))) → Paired (stored_state i v (state_with x w)) (stored_state i v (state_with y w))
  stored-pair i v = stored_cases (λ s t. Sound (seen_of s) → Paired s t) i v (state_with x w) (state_with y w)
      (λ e T. changed x y _ _ w P (keeps_page v x) (keeps_page v y) (alike_selected (passed w) x y P.alike v))
      (λ kind set T. triggered_pair x y w S P kind set v T)
      (λ t T. changed x y _ _ w P (keeps_set x i (without_reset i v) t) (keeps_set y i (without_reset i v) t) (alike_set (veiled w) x y i (without_reset i v) P.alike))
      (λ T. record { working = refl; pair = P })

  byte_pair : (address v : ℕ) → Sound (seen_of (byte_written_state address v (state_with x w))) → Paired (byte_written_state address v (state_with x w)) (byte_written_state address v (state_with y w))
  unfolding byte_written_state
  byte_pair address v T = rw (place_same (passed w) x y P.alike address) (stored-pair (index_of x address) v T)

-- ---- all bytes of a write

pub bytes_pair : (vs : List ℕ) (address : ℕ) (x y : Image) (w : Working) (two : ℕ) → Well two (state_with x w) → Pair x y w
    → Paired (bytes_written_state address vs (state_with x w)) (bytes_written_state address vs (state_with y w))
unfolding bytes_written_state
bytes_pair [] address x y w two T P = record { working = refl; pair = P }
bytes_pair (v ∷ vs) address x y w two T P =
    let U : Well two (byte_written_state address v (state_with x w)) = byte_well two address v (state_with x w) T in
    let Q : Paired (byte_written_state address v (state_with x w)) (byte_written_state address v (state_with y w)) = byte_pair x y w T.sound P address v U.sound in
    subst (λ u. Paired (bytes_written_state (suc address) vs (byte_written_state address v (state_with x w))) (bytes_written_state (suc address) vs (state_with (byte_written_state address v (state_with y w)).image u)))
    (sym Q.working) (bytes_pair vs (suc address) _ _ _ two U Q.pair)
