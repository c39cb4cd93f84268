use Rattle.std.proofs.Common.{◌≡◌, sym, ap, subst, ◌∙◌}
use Rattle.std.specs.Prelude.{replicate}
use Rattle.policy_words.specs.Naming.{NamedPolicy}
use Rattle.core_machine.specs.Books.{BookView}
use Rattle.connection_laws.specs.Desks.{GlancesCanBeTold}
use Rattle.snapshot_readers.specs.Boards.{BoardView}
use Rattle.snapshot_readers.specs.Glazed.{fresh_glass}
use Rattle.gtrbac_daemon.specs.Begins.{IsNewLedger}
use Rattle.gtrbac_daemon.proofs.views_serving.open_board.Goals as goal

pub returns-in-Ok-clause-root : goal.returns-in-Ok-clause-root
returns-in-Ok-clause-root g c = (c.in_ok-policy.ensures ∙ c.policy.ensures.value, ap (λ (b : BoardView). b.ledger.birth) c.in-Ok.ensures.board ∙ c.in_ok-ledger.ensures.0)

pub returns-in-Ok-clause-new : goal.returns-in-Ok-clause-new
returns-in-Ok-clause-new g c =
    let same : c.in_ok-policy.policy ≡ c.args.safe = c.in_ok-policy.ensures ∙ c.policy.ensures.value in
    let ledger = c.in_ok-ledger.ensures.1 in
    let named : c.in_ok-ledger.ledger.named ≡ c.in_ok-policy.policy = ledger.named ∙ sym same in
    let is : c.in_ok-ledger.ledger ≡ c.in-Ok.board.ledger = ap (λ (b : BoardView). b.ledger) (sym c.in-Ok.ensures.board) in
    record {
      ledger =
          subst (λ (b : BookView). IsNewLedger c.in_ok-policy.policy b) is
          (subst (λ (p : NamedPolicy). IsNewLedger p c.in_ok-ledger.ledger) (sym same) ledger);
      told =
          subst (λ (b : BookView). GlancesCanBeTold c.in_ok-policy.policy b.birth) is
          (subst (λ (p : NamedPolicy). GlancesCanBeTold p c.in_ok-ledger.ledger.birth) named c.glances_can_be_told.ensures);
      glasses_are = c.in-Ok.ensures.glasses ∙ λ i. replicate c.args.viewers (fresh_glass (named i) (is i).birth);
    }
