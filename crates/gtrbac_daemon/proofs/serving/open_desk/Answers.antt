use Rattle.std.proofs.Common.{List, sym, ap, subst, ◌∙◌}
use Rattle.gt_base.specs.declared.requests.Entry.{Entry}
use Rattle.turn_lock.specs.Holders.{newcomers}
use Rattle.policy_words.specs.Naming.{NamedPolicy}
use Rattle.core_machine.specs.Books.{BookView}
use Rattle.gtrbac_daemon.specs.Begins.{IsNewLedger}
use Rattle.gtrbac_daemon.proofs.serving.open_desk.Goals as goal

pub returns-in-Ok-clause-root : goal.returns-in-Ok-clause-root
returns-in-Ok-clause-root c = (c.in_ok-policy.ensures ∙ c.policy.ensures.value, ap (λ (b : BookView). b.birth) c.in-Ok.ensures.desk.0 ∙ c.in_ok-ledger.ensures.0)

pub returns-in-Ok-clause-new : goal.returns-in-Ok-clause-new
returns-in-Ok-clause-new c =
    record {
      ledger =
          subst (λ (b : BookView). IsNewLedger c.in_ok-policy.policy b) (sym c.in-Ok.ensures.desk.0)
          (subst (λ (p : NamedPolicy). IsNewLedger p c.in_ok-ledger.ledger) (sym (c.in_ok-policy.ensures ∙ c.policy.ensures.value)) c.in_ok-ledger.ensures.1);
      count_is = c.in-Ok.ensures.desk.1;
      passes_are = c.in-Ok.ensures.passes ∙ ap (λ (es : List Entry). newcomers c.in-Ok.desk es 0 c.args.count) c.in_ok-ledger.ensures.1.empty;
    }
