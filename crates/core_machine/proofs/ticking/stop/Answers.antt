use Rattle.std.proofs.Common.{◌≡◌, ℕ, List, sym, ap, subst, ◌∙◌}
use Rattle.gt_base.specs.declared.policies.Caps.{Caps}
use Rattle.gtrbac_model.specs.History.{IsNextStop}
use Rattle.instant_bases.specs.Timelines.{stirs_in}
use Rattle.instant_bases.specs.Nexts.{IsNextOf}
use Rattle.session_table.specs.NextDrops.{IsFirstOrNone, is_any_capped}
use Rattle.session_table.specs.Tables.{NotBefore, table_of}
use Rattle.policy_words.specs.Naming.{NamedPolicy}
use Rattle.core_machine.proofs.Stops.{both_stop}
use Rattle.core_machine.proofs.ticking.stop.Goals as goal

pub next_drop-drops-requires : goal.next_drop-drops-requires
next_drop-drops-requires c = subst (λ (t : ℕ). NotBefore c.args.s.now.table.charged_to t) (sym c.now.ensures) c.requires.kept.charged

pub returns : goal.returns
returns c =
    let s = c.args.s.now in
    let caps : c.caps.result.now.items ≡ s.ground.policy.caps = c.caps.ensures ∙ ap (λ (g : NamedPolicy). g.policy.caps) c.policy.ensures in
    let raised : IsNextStop (stirs_in s.ground.policy s.line.line) s.line.line.now c.args.upto c.first_of-raised.result =
    c.first_of-raised.ensures.raised (stirs_in s.ground.policy s.line.line) s.line.line.now
    (subst (λ (g : NamedPolicy). IsNextOf (stirs_in g.policy s.line.line) s.line.line.now c.due.result) c.ground.ensures c.due.ensures) c.requires.later in
    let capped : IsFirstOrNone (is_any_capped s.ground.policy.caps s.line.line.now (table_of s.table)) s.line.line.now c.next_drop-drops.result =
    subst (λ (t : ℕ). IsFirstOrNone (is_any_capped s.ground.policy.caps t (table_of s.table)) t c.next_drop-drops.result) c.now.ensures
    (subst (λ (cs : List Caps). IsFirstOrNone (is_any_capped cs c.now.result (table_of s.table)) c.now.result c.next_drop-drops.result) caps c.next_drop-drops.ensures) in
    both_stop (stirs_in s.ground.policy s.line.line) (is_any_capped s.ground.policy.caps s.line.line.now (table_of s.table)) s.line.line.now c.args.upto c.first_of-raised.result c.first_of.result raised
    (c.first_of.ensures.drops (is_any_capped s.ground.policy.caps s.line.line.now (table_of s.table)) s.line.line.now capped raised.later)
