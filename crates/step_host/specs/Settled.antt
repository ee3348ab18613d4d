-- A state with lower 3.0 settled, and what a plain write leaves.
use Rattle.std.specs.Prelude.{length}
use Rattle.bits.specs.Choice.{only_if}
use Rattle.model.specs.Numbers.{Address, Bytes}
use Rattle.model.specs.Map.{Image}
use Rattle.model.specs.State.{State, with_image}
use Rattle.model.specs.Flags.{settled_image}
use Rattle.model.specs.Pages.{index_of}
use Rattle.model.specs.Commands.{command_image}
use Rattle.model.specs.Access.{runs_command}
use Rattle.access_writes.specs.Puts.{bytes_put}

abbrev pub settled_state : State → State
settled_state s = with_image s (settled_image s.image)

-- its bytes put, the command that it runs, and lower 3.0 settled
unfoldable pub plain_image : Address → Bytes → Image → Image
plain_image address bytes x =
    let y = bytes_put (index_of x address) bytes x in settled_image (only_if (runs_command address (length bytes) y) command_image y)
