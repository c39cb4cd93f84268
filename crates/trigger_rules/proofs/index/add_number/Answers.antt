use Rattle.std.proofs.Common.{◌++◌, [], ◌∷◌, cond, take, append-nil, sym, ◌∙◌, ap}
use Rattle.std.specs.List.{list_any}
use Rattle.std.proofs.lemmas.List.{take_all}
use Rattle.priority_conflict.proofs.OverLaws.{any_more, read_more}
use Rattle.indexmap.specs.IndexMap.{get}
use Rattle.trigger_rules.specs.Indexed.{under}
use Rattle.trigger_rules.proofs.Keys.{key_more, same_under}
use Rattle.trigger_rules.proofs.index.add_number.Goals as goal

pub loop-key-init : goal.loop-key-init
loop-key-init g c = λ k. sym (append-nil _)

pub loop-key-preserved : goal.loop-key-preserved
loop-key-preserved g c = λ k.
    let eq = g.K.PartialEq.eq in
    let laws = g.met.K.Eq.laws in
    key_more laws (λ q. under (get eq c.args.index.now q) (λ v. v.items)) (λ q. under (get eq c.loop-key.index q) (λ v. v.items)) (λ q. under (get eq c.end_by.new.index q) (λ v. v.items))
    c.args.n c.key-item.result k (list_any (eq k) (take c.loop-key.key-index c.args.keys.now))
    (c.in_ok-end_by.ensures k) (λ h. ap (λ o. under o (λ v. v.items)) (same_under laws c.loop-key.index c.key-item.result k h)) (c.requires k) (c.loop-key.invariant k)
    ∙ ap (λ a. under (get eq c.args.index.now k) (λ v. v.items) ++ cond a (c.args.n ∷ []) []) (sym (any_more (eq k) _ _ c.key-item.result (read_more _ _ c.key-item.result c.loop-key-test.true c.key-item.is)))

pub returns : goal.returns
returns g c = λ k.
    c.loop-key.invariant k
    ∙ ap (λ ks. under (get g.K.PartialEq.eq c.args.index.now k) (λ v. v.items) ++ cond (list_any (g.K.PartialEq.eq k) ks) (c.args.n ∷ []) []) (take_all c.loop-key.key-index c.args.keys.now c.loop-key-test.false)
