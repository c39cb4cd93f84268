use Rattle.std.proofs.Common.{◌≡◌, ℕ, List, ap, subst, ◌∙◌}
use Rattle.gt_base.specs.declared.policies.Caps.{Caps}
use Rattle.gtrbac_model.specs.History.{IsNextStop}
use Rattle.instant_bases.specs.Timelines.{stirs_in}
use Rattle.session_table.specs.NextDrops.{IsFirstOrNone, is_any_capped}
use Rattle.session_table.specs.Tables.{table_of}
use Rattle.policy_words.specs.Naming.{NamedPolicy}
use Rattle.core_machine.proofs.Stops.{both_stop}
use Rattle.forecast.proofs.walking.stop.Goals as goal

pub returns : goal.returns
returns c =
    let p = c.args.ground.now.policy in
    let v = c.args.line.now.line in
    let tb = table_of c.args.table.now in
    let caps : c.caps.result.now.items ≡ p.caps = c.caps.ensures ∙ ap (λ (g : NamedPolicy). g.policy.caps) c.policy.ensures in
    let raised : IsNextStop (stirs_in p v) v.now c.args.upto c.earlier-raised.result = c.earlier-raised.ensures.raised (stirs_in p v) v.now c.due.ensures c.requires.later in
    let capped : IsFirstOrNone (is_any_capped p.caps v.now tb) v.now c.next_drop.result =
    subst (λ (t : ℕ). IsFirstOrNone (is_any_capped p.caps t tb) t c.next_drop.result) c.now.ensures
    (subst (λ (cs : List Caps). IsFirstOrNone (is_any_capped cs c.now.result tb) c.now.result c.next_drop.result) caps c.next_drop.ensures) in
    both_stop (stirs_in p v) (is_any_capped p.caps v.now tb) v.now c.args.upto c.earlier-raised.result c.earlier.result raised
    (c.earlier.ensures.dropped (is_any_capped p.caps v.now tb) v.now capped raised.later)
