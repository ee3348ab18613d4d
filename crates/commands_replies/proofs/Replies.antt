-- The bytes of replies, and a reply from its parts. Assumes nothing.
use mathlib.Core.Path.{◌≡◌, refl, ◌∙◌}
use mathlib.Core.Bool.{true}
use Prim.Native.Nat.{ℕ, ◌+◌, ◌-◌, ◌≤◌, ◌<◌}
use native.Mathlib.Omega.{arith}
use lib.Dec.{eqb, leb}
use lib.ListN.{get_or, set}
use borrow.Author.Tests.{eqb-true, leb-true, ne_eqb}
use Rattle.bits.specs.Choice.{pick, both, either}
use Rattle.bits.specs.Loop.{each, all_below, any_of}
use Rattle.bits.specs.Number.{with_field}
use Rattle.bits.specs.Sets.{mask_of}
use Rattle.bits.proofs.Loops.{all_at}
use Rattle.bits.proofs.Tests.{split, both_l, both_r, pick_true, pick-false}
use Rattle.model.specs.Commands.{length_of, body_limit, sum_of, check_code, support_byte, reply_byte, reply_of, with_reply_header, with_reply, replied_image}
use Rattle.model.specs.Map.{Image, firmware_major, firmware_minor, body_address, message_body}
use Rattle.model.specs.declared.command.Command.{Command}
use Rattle.model.specs.declared.command.Command.TheVariants.{QueryStatus, ModuleFeatures, FirmwareFeatures, FirmwareInfo}
use Rattle.model.specs.declared.command.CommandStatus.TheVariants.{Success}

-- ---- 0040h: the map of the commands that are known

-- bytes 0 and 8 alone are not 0
support_table : all_below 32 (λ k. either (eqb k 0) (either (eqb k 8) (eqb (support_byte k) 0))) ≡ true
unfolding all_below both either support_byte mask_of any_of with_field
support_table = refl

support_none : (k : ℕ) → k < 32 → (k ≡ 0 → ⊥) → (k ≡ 8 → ⊥) → support_byte k ≡ 0
unfolding either
support_none k l p q = eqb-true _ _ (rw (ne_eqb k 0 p, ne_eqb k 8 q) at (all_at 32 (λ k. either (eqb k 0) (either (eqb k 8) (eqb (support_byte k) 0))) support_table k l))

pub features_none : (a : ℕ) → (a ≡ 138 → ⊥) → (a ≡ 146 → ⊥) → reply_byte 0 0 ModuleFeatures a ≡ 0
unfolding reply_byte
features_none a p q = split (both (leb 138 a) (leb a 169))
    (λ e. let l = leb-true 138 a (both_l _ _ e) in
    let r = leb-true a 169 (both_r _ _ e) in
    pick_true _ _ e ∙ support_none (a - 138) (omega arith) (λ z. p (omega arith)) (λ z. q (omega arith)))
    (λ e. pick-false _ _ e)

pub features_138 : reply_byte 0 0 ModuleFeatures 138 ≡ 0x01
unfolding reply_byte pick both support_byte mask_of any_of with_field either
features_138 = refl

pub features_146 : reply_byte 0 0 ModuleFeatures 146 ≡ 0x03
unfolding reply_byte pick both support_byte mask_of any_of with_field either
features_146 = refl

-- ---- every reply has room on the page

pub length-fits : (command : Command) → length_of command ≤ body_limit
length-fits QueryStatus = omega arith
length-fits ModuleFeatures = omega arith
length-fits FirmwareFeatures = omega arith
length-fits FirmwareInfo = omega arith

-- ---- a reply: its header, then its body

module _ (x : Image) (command : Command) where
  pub reply_by : (n total code : ℕ) (y z : Image) → n ≡ length_of command → total ≡ sum_of n (λ k. reply_byte (get_or x firmware_major 0) (get_or x firmware_minor 0) command (body_address + k))
      → code ≡ check_code total → y ≡ with_reply_header n code x
      → z ≡ each (λ k. true) (λ k w. set w (message_body + k) (reply_byte (get_or x firmware_major 0) (get_or x firmware_minor 0) command (body_address + k))) n y
      → z ≡ replied_image (Success command) x
  unfolding replied_image with_reply reply_of
  reply_by n total code y z p q r h e = rw (e, h, r, q, p)
