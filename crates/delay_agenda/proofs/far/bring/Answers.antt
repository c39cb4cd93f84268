use Rattle.std.proofs.Common.{◌≡◌, rules, nat_lt, ap, sym, ◌∙◌, filter}
use Rattle.std.proofs.lemmas.Fn.{filter_same}
use Rattle.delay_agenda.specs.Far.{all_over}
use Rattle.delay_agenda.specs.Rows.{stands_in}
use Rattle.delay_agenda.proofs.FarLaws.{brought, later}
use Rattle.delay_agenda.proofs.far.bring.Goals as goal

left : (c : goal.After-retain) → c.retain.new.self.items ≡ filter (λ p. nat_lt c.args.to p.due) c.args.far.now.items
left c = filter_same _ (λ p. nat_lt c.args.to p.due) _ (λ x b f k. search rules) _ _ c.retain.ensures.filtered

pub returns-in_ok-insert_all-clause-behind : goal.returns-in_ok-insert_all-clause-behind
returns-in_ok-insert_all-clause-behind c q there = later c.insert_all.new.near.set c.args.far.now.items c.args.to q (ap (λ ks. stands_in ks q) (sym (left c)) ∙ there)

pub returns-in_ok-insert_all-clause-set : goal.returns-in_ok-insert_all-clause-set
returns-in_ok-insert_all-clause-set c =
    ap (all_over c.insert_all.new.near.set) (left c)
    ∙ brought c.insert_all.new.near.set c.args.far.now.items c.args.to (rw (← c.deref.ensures.value) c.in_ok-insert_all.ensures.near)
    ∙ rw (← c.deref.ensures.value) c.in_ok-insert_all.ensures.set
