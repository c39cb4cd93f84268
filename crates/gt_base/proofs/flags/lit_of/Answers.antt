use Rattle.std.proofs.Common.{◌<◌, ◌++◌, [], ◌∷◌, Bool, length, get_or, cond, false, ◌∙◌, ap, sym, append-nil, take, arith}
use Rattle.gt_base.specs.declared.events.Fluent.{Fluent}
use Rattle.gt_base.specs.declared.events.Fluent.TheVariants.{Enabled}
use Rattle.gt_base.specs.Flags.{flagged}
use Rattle.gt_base.proofs.FlagLaws.{lit_more}
use Rattle.gt_base.proofs.flags.lit_of.Goals as goal
use Rattle.gt_base.proofs.flags.lit_of.Goals.{then-on-at+in_ok-push, else-on-at}

pub loop-at-preserved : goal.loop-at-preserved
loop-at-preserved c =
    let ks = c.args.fluents.now in
    let bs = c.args.on.now in
    let i = c.loop-at.at in
    let d : Fluent = Enabled (record { 0 = 0 }) in
    let within : i < length ks = omega (arith, c.loop-at-test.true, c.loop-at.auto.at-end) in
    let more = lit_more ks bs i d false within (omega (arith, within, c.requires)) in
    let by : Bool → _ = λ (b : Bool). flagged (take i ks) (take i bs) ++ cond b (get_or ks i d ∷ []) [] in
    elim c.if-on-at.branch [
      | then-on-at+in_ok-push w ↦ ap (λ v. v.items) w.lit-is ∙ w.in_ok-push.ensures.items ∙ ap (λ xs. xs ++ get_or ks i d ∷ []) c.loop-at.invariant ∙ sym (more ∙ ap by w.if-on-at.true)
      | else-on-at w ↦ ap (λ v. v.items) w.lit-is ∙ c.loop-at.invariant ∙ sym (more ∙ ap by w.if-on-at.false ∙ append-nil _)
    ]
