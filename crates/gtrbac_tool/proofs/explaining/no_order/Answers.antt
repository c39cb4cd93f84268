use Rattle.std.proofs.Common.{sym, ◌∙◌, ap}
use Rattle.gtrbac_model.specs.Instant.{stands}
use Rattle.gtrbac_model.specs.Same.{lists, same_prioritised}
use Rattle.gtrbac_tool.proofs.explaining.no_order.Goals as goal

pub returns-clause-tracks : goal.returns-clause-tracks
returns-clause-tracks c = λ x. record {
  there = λ e. c.in_ok-there.ensures e ∙ sym (ap (λ es. lists same_prioritised es e) c.in_ok-events.ensures.items);
  standing = λ f. c.in_ok-standing.ensures f ∙ sym (ap (λ es. stands x es f) c.in_ok-events.ensures.items);
}
