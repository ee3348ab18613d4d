-- What a work step leaves, beside what the model says of it.
use Rattle.std.specs.Prelude.{◌≡◌}
use Rattle.model.specs.Map.{Image}
use Rattle.model.specs.Effect.{Effect}
use Rattle.work_closing.specs.declared.Worked.{Worked}

-- the image and what is handed back are those of a step of the model
pub record Leaves (a : Effect) (x : Image) (r : Worked) : Type 0 where
  pub image : x ≡ a.state.image
  pub working : r.working ≡ a.state.working
  pub mask : r.mask ≡ a.mask
