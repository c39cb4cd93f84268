-- The log of a legal history tells it.
use Rattle.std.proofs.Common.{◌≡◌, ℕ, ◌≤◌, true, List, [], ◌∷◌, ◌++◌, sym, subst, arith, append_assoc}
use Rattle.gt_base.specs.declared.requests.Actor.{Actor}
use Rattle.gt_base.specs.declared.requests.Actor.TheVariants.{Operator, User, Nobody}
use Rattle.gt_base.specs.declared.requests.Request.{Request}
use Rattle.gt_base.specs.declared.requests.Step.{Step}
use Rattle.gt_base.specs.declared.requests.Step.TheVariants.{Tick, Ask}
use Rattle.gt_base.specs.declared.requests.Entry.{Entry}
use Rattle.gt_base.specs.declared.limits.TheConstants.{LAST_MINUTE}
use Rattle.gtrbac_model.specs.Policy.{Policy}
use Rattle.gtrbac_model.specs.WholePolicy.{IsPolicy}
use Rattle.gtrbac_model.specs.Status.{Model}
use Rattle.gtrbac_model.specs.History.{Legal, IsLegalStep, IsNamedWish, ask, point_after}
use Rattle.history_laws.specs.Named.{IsNamedStep, AreNamed, IsNamedPoint}
use Rattle.history_laws.proofs.Lasting.{steps_after}
use Rattle.history_laws.proofs.NamedPoints.{points_are_named}
use Rattle.policy_words.specs.Naming.{NamedPolicy}
use Rattle.policy_words.specs.Valid.{IsWellFormed}
use Rattle.request_text.specs.Replies.{log_text}
use Rattle.request_text.specs.Tellable.{IsStranger, IsTellableStep, AreTellable, IsNoOperator, IsPlainStep, ArePlain, IsToldHistory}
use Rattle.request_text.specs.Named.{has_reply}
use Rattle.request_text.specs.Kinds.{IsAnswer, IsSoundReply}
use Rattle.request_text.proofs.Answering.{reply_answers}
use Rattle.request_text.proofs.SoundReplies.{reply_sounds}
use Rattle.request_text.proofs.ToldEntries.{log_tells}

stranger : (p : Policy) (actor : Actor) (request : Request) → IsNoOperator actor → IsNamedWish p (ask actor request) → IsStranger p actor
stranger p Operator request none named = absurd none
stranger p (User u) request none named = named.0
stranger p Nobody request none named = tt

named_rest : (p : Policy) (front rest : List Entry) → AreNamed p (front ++ rest) → AreNamed p rest
named_rest p [] rest named = named
named_rest p (e ∷ es) rest named = named_rest p es rest named.1

module _ (p : Policy) (birth : ℕ) (m : Model) where
  tellable_step : (front : List Entry) (w : Step) → IsNamedPoint p (point_after p birth m front) → IsNamedStep p w → IsLegalStep p birth m front w → IsPlainStep w → IsTellableStep p w
  tellable_step front (Tick upto to) point named legal plain = (named, omega (arith, named, legal.bounded))
  tellable_step front (Ask actor request reply) point named legal plain =
      let pt = point_after p birth m front in
      let is = reply_sounds p pt point actor request in (
        stranger p actor request plain.0 named,
        (tt, named.1),
        subst (IsAnswer request) (sym legal) (reply_answers p pt actor request),
        record { named = subst (λ r. has_reply p r ≡ true) (sym legal) is.named; small = plain.1; sound = subst (IsSoundReply p) (sym legal) is.sound },
      )

  tellable : (front rest : List Entry) → IsPolicy p → birth ≤ LAST_MINUTE → AreNamed p (front ++ rest) → Legal p birth (front ++ rest) m → ArePlain rest → AreTellable p rest
  tellable front [] good le named legal plain = tt
  tellable front (e ∷ es) good le named legal plain =
      let whole : (front ++ e ∷ []) ++ es ≡ front ++ e ∷ es = append_assoc front (e ∷ []) es in (
        (plain.0, tellable_step front e.what (points_are_named p birth front (e ∷ es) m good le named legal) (named_rest p front (e ∷ es) named).0 (steps_after p birth m [] front (e ∷ es) legal.steps).0 plain.1),
        tellable (front ++ e ∷ []) es good le (subst (AreNamed p) (sym whole) named) (subst (λ h. Legal p birth h m) (sym whole) legal) plain.2,
      )

pub legal_log_tells : (np : NamedPolicy) → IsWellFormed np → (birth dawn : ℕ) (h g : List Entry) → IsToldHistory np.policy birth h → IsToldHistory np.policy dawn g → log_text np birth h ≡ log_text np dawn g
    → (birth ≡ dawn) × (h ≡ g)
legal_log_tells np good birth dawn h g a b e =
    log_tells np good birth dawn h g a.minute b.minute (tellable np.policy birth a.model [] h good.policy a.minute a.named a.legal a.plain) (tellable np.policy dawn b.model [] g good.policy b.minute b.named b.legal b.plain) e
