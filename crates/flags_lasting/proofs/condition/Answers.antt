use mathlib.Core.Path.{ap, ◌∙◌}
use native.Mathlib.Omega.{arith}
use Rattle.model.specs.Records.{on_at, with_ons}
use Rattle.model.specs.Flags.{condition_on, lasting_state}
use Rattle.model.proofs.Lasting.{condition-among}
use Rattle.flags_lasting.proofs.condition.Goals as goal

pub condition-requires : goal.condition-requires
condition-requires c = let among = condition-among _ c.requires in omega arith

pub lasting_index-requires : goal.lasting_index-requires
lasting_index-requires c = let among = condition-among _ c.requires in (among.0, among.1)

pub after_condition-requires : goal.after_condition-requires
after_condition-requires c = let among = condition-among _ c.requires in rw c.lasting_index.ensures among.2

pub returns : goal.returns
unfolding lasting_state
returns c = let a = c.args in
    let index = ap (λ k. with_ons a.w (λ l. condition_on k a.on a.off l (on_at a.w l))) c.lasting_index.ensures in
    record { image = c.condition.ensures; working = c.after_condition.ensures ∙ index }
