use Rattle.std.proofs.Common.{◌≡◌, ◌-◌, Bool, ◌||◌, [], ◌∷◌, ◌++◌, cond, filter, take, sym, ap, ◌∙◌}
use Rattle.std.proofs.lemmas.List.Elements.{filter_more}
use Rattle.gt_base.specs.declared.policies.Caps.{Caps}
use Rattle.gtrbac_model.specs.Sessions.{Activation, caps_of, reached}
use Rattle.session_table.specs.Dropping.{spent_by}
use Rattle.session_table.specs.NextDrops.{capped_in}
use Rattle.session_table.proofs.Uncapped.{none_gone}
use Rattle.session_table.proofs.dropping.capped.Goals as goal

pub returns-then-not-limit_minutes : goal.returns-then-not-limit_minutes
returns-then-not-limit_minutes c =
    c.new-gone.ensures.items ∙ none_gone c.args.caps.now (sym c.limit_minutes.ensures ∙ c.if-not-limit_minutes.true) c.args.over.now.charges.now.charged c.args.over.now.active.now.items c.args.over.now.after c.args.over.now.to c.args.over.now.active.now.items

pub loop-a-preserved : goal.loop-a-preserved
loop-a-preserved c =
    let test : Activation → Bool = capped_in c.args.caps.now c.args.over.now.charges.now.charged c.args.over.now.active.now.items c.args.over.now.after c.args.over.now.to in
    let a : Activation = c.a-item.result in
    let told : c.is_capped-is_gone.result ≡ test a =
    c.is_capped-is_gone.ensures
    ∙ ap (λ (k : Caps). reached k.length (c.args.over.now.to - a.begun) || reached k.day (spent_by c.args.over.now.charges.now.charged c.args.over.now.active.now.items c.args.over.now.after c.args.over.now.to a.user a.role))
    (c.caps_of.ensures ∙ ap (λ (b : Activation). caps_of c.args.caps.now b.role) c.a.view_is) in
    c.in_ok-push_if.ensures
    ∙ ap (λ xs. xs ++ cond c.is_capped-is_gone.result (a ∷ []) []) c.loop-a.invariant
    ∙ ap (λ b. filter test (take c.loop-a.a-index c.as_slice-active.result.now) ++ cond b (a ∷ []) []) told
    ∙ ap (λ (a : Activation). filter test (take c.loop-a.a-index c.as_slice-active.result.now) ++ cond (test a) (a ∷ []) []) c.a-item.is
    ∙ sym (filter_more test c.as_slice-active.result.now c.loop-a.a-index c.a-item.result c.loop-a-test.true)
