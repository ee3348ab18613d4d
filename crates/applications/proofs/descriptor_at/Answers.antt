use mathlib.Core.Path.{sym}
use native.Mathlib.Omega.{arith}
use Rattle.model.proofs.Descriptors.{in_lower, on_page}
use Rattle.applications.proofs.descriptor_at.Goals as goal

pub returns-then-app-lt-FIRST_ON_PAGE : goal.returns-then-app-lt-FIRST_ON_PAGE
returns-then-app-lt-FIRST_ON_PAGE c = sym (in_lower _ c.if-app-lt-FIRST_ON_PAGE.true)

pub returns : goal.returns
returns c = sym (on_page _ (omega arith))
