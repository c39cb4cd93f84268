use Rattle.std.proofs.Common.{◌≡◌, ap, ◌∙◌}
use Rattle.core_machine.specs.Books.{BookView}
use Rattle.gtrbac_daemon.proofs.serving.open.Goals as goal

pub returns-in-Ok : goal.returns-in-Ok
returns-in-Ok c =
    let same : c.in_ok-ledger-in-Ok.ledger ≡ c.in-Ok.book = c.in_ok-ledger-in-Ok.ensures in (
      ap (λ (b : BookView). b.birth) same ∙ c.in-Ok.ensures.root.1,
      record {
        named = ap (λ (b : BookView). b.named) same ∙ c.in-Ok.ensures.root.0;
        empty = ap (λ (b : BookView). b.entries) same ∙ c.in-Ok.ensures.empty.0;
        served = c.ledgers_can_be_served.ensures;
      },
    )
