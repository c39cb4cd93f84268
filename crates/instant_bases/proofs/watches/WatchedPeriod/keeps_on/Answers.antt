use Rattle.std.proofs.Common.{◌≡◌, sym, ◌∙◌, ap}
use Rattle.std.proofs.lemmas.Bool.{not-true}
use Rattle.gtrbac_model.specs.Period.{Period}
use Rattle.calendar_match.specs.Next.{turns}
use Rattle.instant_bases.proofs.watches.WatchedPeriod.keeps_on.Goals as goal

pub returns-in-Some : goal.returns-in-Some
returns-in-Some c = λ none.
    let told : c.in-Some.turns ≡ turns c.args.self.now c.args.t = c.in-Some.ensures (turns c.self.inside.period) c.self.invariant.2 ∙ ap (λ (p : Period). turns p c.args.t) c.self.view_is in
    sym told ∙ not-true c.in-Some.turns none
