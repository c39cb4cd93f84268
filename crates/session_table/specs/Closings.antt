-- The close of an instant as it is decided on.
use Rattle.std.specs.Prelude.{Bool}
use Rattle.gt_base.specs.Sets.{has}
use Rattle.gtrbac_model.specs.Sessions.{Activation}
use Rattle.session_table.specs.Dropping.{is_dropped}
use Rattle.session_table.specs.declared.closings.Closing.{Closing}

-- whether the close drops the activation
abbrev pub drops_at : Closing → Activation → Bool
drops_at at a =
    is_dropped at.hierarchy.now at.caps.now.items (has at.status.now.set)
    at.stretch.charges.now.charged at.stretch.active.now.items at.stretch.after at.stretch.to a
