use Rattle.std.proofs.Common.{◌≡◌, ◌∙◌, ℕ, ◌≤◌, List, [], ◌∷◌, ◌++◌, length, drop, refl, sym, ap, subst}
use Rattle.gt_base.specs.declared.requests.Entry.{Entry}
use Rattle.turn_lock.specs.Turns.{Each, part}
use Rattle.turn_lock.specs.Holders.{Holder, newcomer, site_of, AreIdle, IsToldBy}
use Rattle.policy_words.specs.Naming.{NamedPolicy}
use Rattle.connection_laws.specs.Desks.{MayBeAsked, RepliesCanBeTold}
use Rattle.connection_laws.specs.Turns.{IsIdle}
use Rattle.core_machine.specs.Books.{BookView, IsNamedFor, now_after}
use Rattle.core_machine.specs.Ledgers.{IsLegalLedger}
use Rattle.gtrbac_daemon.proofs.Polled.{one_of_one, has_polled}
use Rattle.gtrbac_daemon.proofs.Served.{headline_of}
use Rattle.gtrbac_daemon.proofs.poll.poll_and_close.Goals as goal

pub run-end-requires-clause-ready : goal.run-end-requires-clause-ready
run-end-requires-clause-ready g c =
    let desk = c.requires.desk in
    let one = one_of_one (newcomer c.args.desk [] 0) c.in-Some.pass c.take-last.new.self.items (sym desk.passes_are ∙ c.in-Some.ensures.last) in
    record {
      idle = subst (λ (p : Holder BookView). IsIdle (site_of c.args.desk) p) (sym one.1) (refl, refl);
      named = subst (λ (p : NamedPolicy). MayBeAsked p (IsNamedFor c.args.desk.root)) desk.ledger.named desk.ledger.served.named;
      replies = subst (λ (p : NamedPolicy). RepliesCanBeTold p (IsLegalLedger c.args.desk.root)) desk.ledger.named desk.ledger.served.replies;
    }

pub run-end-requires-clause-none : goal.run-end-requires-clause-none
run-end-requires-clause-none g c = c.requires.fresh.1

pub run-end-requires-clause-ports : goal.run-end-requires-clause-ports
run-end-requires-clause-ports g c = c.requires.fresh.0

pub close-closed-requires-clause-idle : goal.close-closed-requires-clause-idle
close-closed-requires-clause-idle g c =
    let after = c.run-end.new.pass in
    let one = one_of_one (newcomer c.args.desk [] 0) c.in-Some.pass c.take-last.new.self.items (sym c.requires.desk.passes_are ∙ c.in-Some.ensures.last) in
    let items : c.put.new.self.items ≡ after ∷ [] = c.put.ensures.items ∙ ap (λ (l : List (Holder BookView)). l ++ after ∷ []) one.0 in
    subst (λ (l : List (Holder BookView)). AreIdle (site_of c.args.desk) l) (sym items) (c.run-end.ensures.pass.0, tt)

pub returns-clause-root : goal.returns-clause-root
returns-clause-root g c = (sym c.close-closed.ensures.root.0 ∙ c.requires.desk.ledger.named, sym c.close-closed.ensures.root.1)

pub returns-clause-headline : goal.returns-clause-headline
returns-clause-headline g c =
    let root = c.args.desk.root in
    let np = c.args.policy.now in
    let desk = c.requires.desk in
    let closed = c.close-closed.result in
    let h = g.P.Ports.harbour in
    let k = g.C.Clock in
    let after = c.run-end.new.pass in
    let one = one_of_one (newcomer c.args.desk [] 0) c.in-Some.pass c.take-last.new.self.items (sym desk.passes_are ∙ c.in-Some.ensures.last) in
    let items : c.put.new.self.items ≡ after ∷ [] = c.put.ensures.items ∙ ap (λ (l : List (Holder BookView)). l ++ after ∷ []) one.0 in
    let told = subst (λ (l : List (Holder BookView)). Each (IsToldBy root.entries closed.entries) l) items c.close-closed.ensures.each in
    headline_of c.book.result.now closed c.book.ensures c.keeps.ensures.kept c.keeps.ensures.only c.keeps.ensures.safe np root.birth
    (sym c.close-closed.ensures.root.0 ∙ desk.ledger.named) (sym c.close-closed.ensures.root.1) 1
    (has_polled np (IsLegalLedger root) (now_after root) root.birth desk.ledger.served.timed root.entries closed.entries c.args.desk c.in-Some.pass after (k.readings c.args.clock.now) (k.readings c.run-end.new.clock)
    (h c.args.ports.now) (h c.run-end.new.ports) c.run-end.new.ends.items c.run-end.result desk.ledger.empty one.1 c.run-end.ensures.pass.1 c.run-end.ensures.ran told.0 c.args.ends.now.items)
    (λ n low. subst (λ (es : List Entry). part n (drop (length es) closed.entries) ≡ []) desk.ledger.empty (c.close-closed.ensures.others n (subst (λ (k : ℕ). k ≤ n) (sym desk.count_is) low)))
