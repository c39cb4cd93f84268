-- What a line asks of a machine, in range for a policy.
use Rattle.gt_base.specs.declared.requests.Actor.{Actor}
use Rattle.gt_base.specs.declared.requests.Actor.TheVariants.{Operator, User, Nobody}
use Rattle.gt_base.specs.declared.requests.Request.TheVariants as requests
use Rattle.gtrbac_model.specs.Policy.{Policy}
use Rattle.gtrbac_model.specs.History.{IsNamedWish, tick, ask}
use Rattle.request_text.specs.declared.lines.Line.{Line}
use Rattle.request_text.specs.declared.lines.Line.TheVariants.{Silent, At, Be, Ask}

-- a script opens as the operator, a connection as nobody
abbrev pub IsOpening : Actor → Type 0
IsOpening Operator = Unit {0}
IsOpening (User u) = ⊥
IsOpening Nobody = Unit {0}

-- its numbers are numbers of the policy, and within the limits
abbrev pub IsNamedLine : Policy → Line → Type 0
IsNamedLine p Silent = Unit {0}
IsNamedLine p (At t) = IsNamedWish p (tick t)
IsNamedLine p (Be actor) = IsNamedWish p (ask actor requests.Now)
IsNamedLine p (Ask request) = IsNamedWish p (ask Operator request)
