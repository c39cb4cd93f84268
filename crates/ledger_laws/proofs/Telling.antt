-- What a glance replies would be the reply of an ask there, which can be told.
use Rattle.std.proofs.Common.{[], ◌∷◌, ◌++◌, sym, subst}
use Rattle.gt_base.specs.declared.requests.Who.{Who}
use Rattle.gt_base.specs.declared.requests.Reply.{Reply}
use Rattle.gt_base.specs.Machines.{asked}
use Rattle.gtrbac_model.specs.History.{Legal}
use Rattle.gtrbac_model.proofs.Stepping.{ask_keeps_legal}
use Rattle.core_machine.specs.Books.{BookView}
use Rattle.core_machine.proofs.Growing.{named_more}
use Rattle.connection_laws.specs.Desks.{GlancesCanBeTold}
use Rattle.core_machine.specs.Ledgers.{IsLegalLedger}
use Rattle.ledger_laws.specs.Serving.{CanBeServed}

abbrev somebody : Who
somebody = record { worker = 0; conn = 0 }

pub told : (b : BookView) → CanBeServed b → GlancesCanBeTold b.named b.birth
told b served h actor request reply named is =
    let p = b.named.policy in
    let legal : Legal p b.birth (h ++ asked somebody actor request reply ∷ []) is.model =
    subst (λ (r : Reply). Legal p b.birth (h ++ asked somebody actor request r ∷ []) is.model) (sym is.reply_is) (ask_keeps_legal p b.birth h is.model somebody actor request is.legal) in
    let ledger : IsLegalLedger b (h ++ asked somebody actor request reply ∷ []) =
    record { legal = record { model = is.model; legal = legal }; named = named_more p h (asked somebody actor request reply) is.named named } in
    served.replies h somebody actor request reply ledger
