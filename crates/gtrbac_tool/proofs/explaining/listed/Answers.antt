use Rattle.std.proofs.Common.{◌≡◌, true, List, sym, ◌∙◌, ap, subst}
use Rattle.std.specs.List.{list_all}
use Rattle.gt_base.specs.Happening.{Fluents}
use Rattle.gt_base.specs.Held.{TriggerView}
use Rattle.gt_base.specs.Sets.{has}
use Rattle.gtrbac_model.specs.History.{now_of}
use Rattle.gtrbac_model.specs.WholePolicy.{has_cause}
use Rattle.instant_bases.specs.Timelines.{ClosedSet}
use Rattle.policy_words.specs.Naming.{NamedPolicy}
use Rattle.time_engine.specs.Traces.{AreClosedBy}
use Rattle.gtrbac_tool.specs.Listing.{AreListings, AreSettled, OnlyLastReaches}
use Rattle.gtrbac_tool.specs.Standing.{made_before}
use Rattle.gtrbac_tool.proofs.LastInstant.{ends_by}
use Rattle.gtrbac_tool.proofs.ListingTrace.{accepts_listings, all_settled, if_ok}
use Rattle.gtrbac_tool.proofs.explaining.listed.Goals as goal
use Rattle.gtrbac_tool.proofs.explaining.listed.Goals.{After-as_slice}

-- the trace ends by now
ends : (c : After-as_slice) → AreClosedBy (now_of c.args.book.now.birth c.args.book.now.entries) c.args.book.now.trace
ends c =
    subst (λ n. AreClosedBy n c.args.book.now.trace) c.timeline.ensures.follows.now
    (subst (λ (cs : List ClosedSet). AreClosedBy c.timeline.result.now.line.now cs) c.timeline.ensures.trace c.keeps-2.ensures.ends)

rules_are : (c : After-as_slice) → c.in_ok-rules.rules ≡ c.args.book.now.named.policy.triggers
rules_are c = c.in_ok-rules.ensures ∙ c.triggers.ensures ∙ ap (λ (np : NamedPolicy). np.policy.triggers) c.policy-policy.ensures.value

opening_is : (c : After-as_slice) → c.opening.result.now.set ≡ c.args.book.now.named.policy.opening
opening_is c = c.opening.ensures ∙ ap (λ (np : NamedPolicy). np.policy.opening) c.policy-policy.ensures.value

trace_is : (c : After-as_slice) → c.as_slice.result.now ≡ c.args.book.now.trace
trace_is c = c.as_slice.ensures ∙ c.trace.ensures.value

pub listings-requires-clause-caused : goal.listings-requires-clause-caused
listings-requires-clause-caused c =
    subst (λ (rules : List TriggerView). list_all has_cause rules ≡ true) (sym (rules_are (goal.at.listings-requires-clause-caused c).After-as_slice)) c.keeps.ensures.kept.well.policy.causes

pub listings-requires-clause-settled : goal.listings-requires-clause-settled
listings-requires-clause-settled c =
    let at : After-as_slice = (goal.at.listings-requires-clause-settled c).After-as_slice in
    let b = c.args.book.now in
    subst (λ (rules : List TriggerView). AreSettled rules (has c.opening.result.now.set) c.as_slice.result.now) (sym (rules_are at))
    (subst (λ (opening : Fluents). AreSettled b.named.policy.triggers (has opening) c.as_slice.result.now) (sym (opening_is at))
    (subst (λ (trace : List ClosedSet). AreSettled b.named.policy.triggers (has b.named.policy.opening) trace) (sym (trace_is at))
    (all_settled b.named.policy b.birth b.entries b.trace c.keeps.ensures.kept.legal.model c.trace.ensures.bases c.trace.ensures.ascends (ends at))))

pub listings-requires-clause-ends : goal.listings-requires-clause-ends
listings-requires-clause-ends c =
    let at : After-as_slice = (goal.at.listings-requires-clause-ends c).After-as_slice in
    let b = c.args.book.now in
    subst (λ n. OnlyLastReaches n c.as_slice.result.now) (sym c.now-now.ensures)
    (subst (λ (trace : List ClosedSet). OnlyLastReaches (now_of b.birth b.entries) trace) (sym (trace_is at))
    (ends_by b.trace b.birth (now_of b.birth b.entries) c.trace.ensures.ascends (ends at)))

pub returns-clause-cert : goal.returns-clause-cert
returns-clause-cert c =
    let at : After-as_slice = (goal.at.returns-clause-cert c).After-as_slice in
    let b = c.args.book.now in
    if_ok c.listings.result
    (λ it a.
    accepts_listings b.named.policy b.birth b.entries b.trace it.cert c.keeps.ensures.kept.legal.model c.trace.ensures.bases c.trace.ensures.ascends (ends at) c.trace.ensures.some
    (subst (λ (rules : List TriggerView). AreListings rules (has b.named.policy.opening) b.trace it.cert) (rules_are at)
    (subst (λ (opening : Fluents). AreListings c.in_ok-rules.rules (has opening) b.trace it.cert) (opening_is at)
    (subst (λ (trace : List ClosedSet). AreListings c.in_ok-rules.rules (has c.opening.result.now.set) trace it.cert) (trace_is at) a))))
    c.listings.ensures.cert

pub returns-clause-before : goal.returns-clause-before
returns-clause-before c =
    let at : After-as_slice = (goal.at.returns-clause-before c).After-as_slice in
    if_ok c.listings.result (λ it a f. a f ∙ (λ i. made_before (c.now-now.ensures i) (trace_is at i) (has (opening_is at i)) f)) c.listings.ensures.before
