use Rattle.std.proofs.Common.{◌≡◌, ◌+◌, List, [], ◌∷◌, ◌++◌, append-nil, drop, sym, ◌∙◌, ap, subst}
use Rattle.std.proofs.lemmas.List.{drop_all, drop_more}
use Rattle.gt_base.specs.Happening.{Fluents}
use Rattle.gt_base.specs.Sets.{has}
use Rattle.gtrbac_model.specs.Conflict.{Status}
use Rattle.instant_bases.specs.Timelines.{ClosedSet}
use Rattle.why_check.specs.Certificates.{Listed}
use Rattle.gtrbac_tool.specs.Listing.{AreListings, AreSettled, OnlyLastReaches}
use Rattle.gtrbac_tool.specs.Standing.{made_before}
use Rattle.gtrbac_tool.proofs.LastInstant.{still_made, then_listings, then_settled}
use Rattle.gtrbac_tool.proofs.ListingTrace.{goes_on_from}
use Rattle.gtrbac_tool.proofs.explaining.listings.Goals as goal
use Rattle.gtrbac_tool.proofs.explaining.listings.Goals.{After-closed-item}

pub loop-closed-init : goal.loop-closed-init
loop-closed-init c =
    let rules = c.args.rules.now in
    let trace = c.args.trace.now in
    record {
      settled = subst (λ (z : Fluents). AreSettled rules (has z) trace) (sym c.in_ok-before.ensures) c.requires.settled;
      so_far = λ ls a.
          subst (λ (cert : List Listed). AreListings rules (has c.args.opening.now.set) trace (cert ++ ls)) (sym c.new-cert.ensures)
          (subst (λ (z : Fluents). AreListings rules (has z) trace ls) c.in_ok-before.ensures a);
      ends = c.requires.ends;
      made = ap (λ (z : Fluents). made_before c.args.now trace (has z)) c.in_ok-before.ensures;
    }

-- the next set, and those after it
left : (c : After-closed-item) → drop c.loop-closed.closed-index c.args.trace.now ≡ c.closed-item.result ∷ drop (c.loop-closed.closed-index + 1) c.args.trace.now
left c =
    let i = c.loop-closed.closed-index in
    let trace : List ClosedSet = c.args.trace.now in
    drop_more trace i c.closed-item.result c.loop-closed-test.true ∙ ap (λ y. y ∷ drop (i + 1) trace) (sym c.closed-item.is)

pub add-requires-clause-settled : goal.add-requires-clause-settled
add-requires-clause-settled c = (subst (AreSettled c.args.rules.now (has c.loop-closed.before.set)) (left (goal.at.add-requires-clause-settled c).After-closed-item) c.loop-closed.invariant.settled).0

pub loop-closed-preserved : goal.loop-closed-preserved
loop-closed-preserved c =
    let rules = c.args.rules.now in
    let trace : List ClosedSet = c.args.trace.now in
    let rest : List ClosedSet = drop (c.loop-closed.closed-index + 1) trace in
    let s : Status = has c.loop-closed.before.set in
    let item : ClosedSet = c.closed-item.result in
    let is_left : drop c.loop-closed.closed-index trace ≡ item ∷ rest = left (goal.at.loop-closed-preserved c).After-closed-item in
    let s' : Status = has c.add.new.status.set in
    let turned = c.in_ok-add.ensures.turned in
    let ends : OnlyLastReaches c.args.now (item ∷ rest) = subst (OnlyLastReaches c.args.now) is_left c.loop-closed.invariant.ends in
    record {
      settled = then_settled rules c.args.now item rest s s' ends turned (subst (AreSettled rules s) is_left c.loop-closed.invariant.settled).1;
      so_far = λ ls a.
          goes_on_from rules s (has c.args.opening.now.set) item rest trace c.loop-closed.cert c.add.new.cert c.in_ok-add.ensures.added
          (λ xs b. c.loop-closed.invariant.so_far xs (subst (λ cs. AreListings rules s cs xs) (sym is_left) b)) ls
          (then_listings rules c.args.now item rest s s' ends turned ls a);
      ends = ends.1;
      made = still_made rules c.args.now item rest s s' ends turned
          ∙ ap (λ cs. made_before c.args.now cs s) (sym is_left)
          ∙ c.loop-closed.invariant.made;
    }

pub returns-clause-cert : goal.returns-clause-cert
returns-clause-cert c =
    let rules = c.args.rules.now in
    let trace : List ClosedSet = c.args.trace.now in
    subst (AreListings rules (has c.args.opening.now.set) trace) (append-nil c.loop-closed.cert)
    (c.loop-closed.invariant.so_far [] (subst (λ cs. AreListings rules (has c.loop-closed.before.set) cs []) (sym (drop_all c.loop-closed.closed-index trace c.loop-closed-test.false)) tt))

pub returns-clause-before : goal.returns-clause-before
returns-clause-before c = λ f.
    ap (λ (s : Status). s f)
    (ap (λ cs. made_before c.args.now cs (has c.loop-closed.before.set)) (sym (drop_all c.loop-closed.closed-index c.args.trace.now c.loop-closed-test.false))
    ∙ c.loop-closed.invariant.made)
