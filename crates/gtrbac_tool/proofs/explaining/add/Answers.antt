use Rattle.std.proofs.Common.{cond, nat_lt, ◌∙◌, ap, subst}
use Rattle.gt_base.specs.Happening.{HappenedView}
use Rattle.gt_base.specs.Sets.{has}
use Rattle.gtrbac_model.specs.Conflict.{after}
use Rattle.gtrbac_model.specs.Instant.{IsGrounding}
use Rattle.instant_bases.specs.Timelines.{ClosedSet}
use Rattle.gtrbac_tool.specs.Listing.{IsListing}
use Rattle.gtrbac_tool.proofs.ListingTrace.{listing_of}
use Rattle.gtrbac_tool.proofs.explaining.add.Goals as goal

pub returns-clause-added : goal.returns-clause-added
returns-clause-added c =
    let rules = c.args.rules.now in
    let s = has c.args.status.now.set in
    let d : ClosedSet = record { at = c.closed.inside.at; base = c.closed.inside.base.set; set = c.closed.inside.set.set } in
    record {
      listing = record { at = d.at; events = c.in_ok-events.events.items; signals = c.from.result.items };
      added = c.in_ok-add.ensures.ok;
      is = subst (λ e. IsListing rules s e (record { at = d.at; events = c.in_ok-events.events.items; signals = c.from.result.items })) c.closed.view_is
          (listing_of rules s d c.in_ok-events.events.items c.from.result.items
          (subst (λ (y : HappenedView). IsGrounding rules d.base s y c.in_ok-events.events.items) (c.in_ok-x.ensures ∙ c.in_ok-copied.ensures) c.in_ok-events.ensures)
          (c.from.ensures ∙ c.in_ok-signals.ensures.items ∙ c.signals.ensures));
    }

pub returns-clause-turned : goal.returns-clause-turned
returns-clause-turned c = λ f.
    let s = has c.args.status.now.set in
    c.in_ok-turn_before.ensures f
    ∙ ap (λ (y : HappenedView). cond (nat_lt c.closed.inside.at c.args.now) (after y s f) (s f)) (c.in_ok-x.ensures ∙ c.in_ok-copied.ensures)
    ∙ ap (λ (d : ClosedSet). cond (nat_lt d.at c.args.now) (after d.set s f) (s f)) c.closed.view_is
