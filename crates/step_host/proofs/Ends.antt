-- The end of an access: after the bytes of a write, plain or not, and after a read, which shows again what is on. Assumes nothing.
use mathlib.Core.Path.{◌≡◌, refl, sym, ap, ap₂, subst, ◌∙◌}
use mathlib.Core.Bool.{true, false, ◌&&◌}
use mathlib.Core.List.{List}
use Prim.Native.Nat.{ℕ, ◌+◌, ◌≤◌, ◌<◌}
use native.Mathlib.Omega.{arith}
use lib.Dec.{leb, ltb}
use lib.ListN.{length}
use borrow.Author.Tests.{ltb-false}
use Rattle.bits.specs.Choice.{pick, both, only_if}
use Rattle.bits.proofs.Tests.{split, and_both}
use Rattle.model.specs.Map.{Image, module_controls, run_address}
use Rattle.model.specs.State.{State, state_with}
use Rattle.model.specs.declared.lane.Working.{Working}
use Rattle.model.specs.Flags.{shown_again_image, settled_image}
use Rattle.model.specs.Pages.{index_of}
use Rattle.model.specs.Commands.{command_image}
use Rattle.model.specs.Access.{bytes_written_state, writes, runs_command, ended_state, cleared_image, half_end}
use Rattle.model.specs.Step.{read_effect}
use Rattle.contracts.specs.Forms.{IsState}
use Rattle.access_writes.specs.Puts.{is_plain, bytes_put}
use Rattle.access_writes.proofs.Writing.{left_state}
use Rattle.access_writes.proofs.Putting.{plain_past, plain_put}
use Rattle.access_ends.proofs.Resetting.{reset_past}
use Rattle.step_host.specs.Settled.{settled_state, plain_image}
use Rattle.step_host.proofs.Elsewhere.{index_kept}

-- a write that does not reach the address that runs a command runs none
unreached : (address n : ℕ) → (leb address run_address && ltb run_address (address + n)) ≡ false → writes address n run_address ≡ false
unfolding writes
unreached address n e = sym (and_both _ _) ∙ e

pub runs_none : (address n : ℕ) (x : Image) → (leb address run_address && ltb run_address (address + n)) ≡ false → x ≡ only_if (runs_command address n x) command_image x
unfolding runs_command only_if both
runs_none address n x e = rw (unreached address n e, both, only_if)

module _ (address : ℕ) (bytes : List ℕ) where
  -- a plain write, from what its parts leave
  pub plain_by : (x : Image) {y e z : Image} → y ≡ bytes_put (index_of x address) bytes x → e ≡ only_if (runs_command address (length bytes) y) command_image y
      → z ≡ settled_image e → z ≡ plain_image address bytes x
  unfolding plain_image
  plain_by x p q r = r ∙ ap settled_image (q ∙ ap (λ y. only_if (runs_command address (length bytes) y) command_image y) p)

  -- .. it begins after lower 26
  begins_past : (x : Image) → module_controls < index_of x address → module_controls < address
  unfolding index_of pick
  begins_past x l = split (ltb address 128) (λ t. rw (t, pick) at l) (λ f. omega (arith, ltb-false address 128 f))

  -- .. and so it resets nothing
  pub plain_ended : (x z : Image) (w : Working) → address + length bytes ≤ half_end address → is_plain (index_of x address) (length bytes) ≡ true
      → z ≡ plain_image address bytes x
      → IsState (settled_state (ended_state address bytes (length bytes) (bytes_written_state address bytes (state_with x w)))) z w
  unfolding ended_state plain_image pick
  plain_ended x z w h p e =
      rw (plain_put address bytes x w h p, reset_past address bytes (length bytes) (begins_past x (plain_past _ _ p)))
      (record { image = e; working = refl })

  -- any write, from what its bytes and its end leave
  pub write-ended : (n : ℕ) {s : State} {x y z : Image} {w v : Working} → IsState s x w → IsState (ended_state address bytes n (state_with x w)) y v
      → z ≡ settled_image y → IsState (settled_state (ended_state address bytes n s)) z v
  write-ended n {y = y} {v = v} p q r =
      let e = subst (λ t. IsState (ended_state address bytes n t) y v) (left_state p) q in
      record { image = r ∙ ap settled_image e.image; working = e.working }

-- what a read leaves before its end
pub read_shown : (w : Working) (x y z : Image) (a n : ℕ) → y ≡ cleared_image x (index_of x a) n → z ≡ shown_again_image w (index_of y a) n y
    → z ≡ (read_effect (state_with x w) (index_of x a) n).state.image
unfolding read_effect
read_shown w x y z a n q h = h ∙ ap₂ (λ i t. shown_again_image w i n t) (ap (λ t. index_of t a) q ∙ index_kept x _ n a) q
