use Rattle.std.proofs.Common.{◌≡◌, ◌++◌, [], ◌∷◌, cond, nat_eq, ap, subst}
use Rattle.std.proofs.lemmas.Bool.{eq-eqb}
use Rattle.gt_base.specs.Held.{TriggerView}
use Rattle.gt_base.specs.contracts.events.EventEq.TheImpl.Laws.{laws-law}
use Rattle.indexmap.specs.IndexMap.{get}
use Rattle.trigger_rules.specs.Indexed.{event_eq, under}
use Rattle.trigger_rules.proofs.Keys.{same_under}
use Rattle.why_check.specs.Heads.{is_headed}
use Rattle.why_check.proofs.Heading.{number_put}
use Rattle.why_check.proofs.heads.add_head.Goals as goal

pub returns-in_ok-put_number : goal.returns-in_ok-put_number
returns-in_ok-put_number c = λ k.
    let e = c.r.inside.head.event in
    subst (λ (r : TriggerView). under (get event_eq c.put_number.new.index k) (λ v. v.items) ≡ under (get event_eq c.args.index.now k) (λ v. v.items) ++ cond (is_headed k r) (c.args.n ∷ []) []) c.r.view_is
    (number_put (λ q. under (get event_eq c.args.index.now q) (λ v. v.items)) (λ q. under (get event_eq c.put_number.new.index q) (λ v. v.items)) e k c.args.n (nat_eq c.r.inside.delay 0) (eq-eqb c.r.inside.delay 0 c.if-r-eq0.true)
    (c.in_ok-put_number.ensures k) (λ h. ap (λ o. under o (λ v. v.items)) (same_under laws-law c.args.index.now e k h)))
