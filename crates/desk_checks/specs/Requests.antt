-- What the tests ask a book.
use Rattle.std.specs.Prelude.{true}
use Rattle.gt_base.specs.declared.events.Fluent.TheVariants.{Enabled}
use Rattle.gt_base.specs.declared.requests.Request.{Request}
use Rattle.gt_base.specs.declared.requests.Request.TheVariants.{Status}

-- whether role 0 is enabled
abbrev pub first_role_status : Request
first_role_status = Status (record { on = true; fluent = Enabled (record { 0 = 0 }) })
