-- What connections can ask of a book, by what is legal for it.
use Rattle.std.proofs.Common.{◌≡◌, ℕ, ◌≤◌, List, [], ◌∷◌, ◌++◌, refl, sym, subst, arith, append-nil, append_assoc}
use Rattle.gt_base.specs.Machines.{asked}
use Rattle.gt_base.specs.declared.requests.Entry.{Entry}
use Rattle.gt_base.specs.declared.requests.Reply.{Reply}
use Rattle.gt_base.specs.declared.requests.Step.{Step}
use Rattle.gt_base.specs.declared.requests.Step.TheVariants.{Tick, Ask}
use Rattle.gt_base.specs.declared.limits.TheConstants.{LAST_MINUTE}
use Rattle.gtrbac_model.specs.Policy.{Policy}
use Rattle.gtrbac_model.specs.Status.{Model}
use Rattle.gtrbac_model.specs.Reply.{reply_of}
use Rattle.gtrbac_model.specs.History.{AreLegalAfter, IsLegalStep, moved, now_of, point_after}
use Rattle.gtrbac_model.proofs.Playing.{now_snoc}
use Rattle.history_laws.proofs.NamedPoints.{points_are_named}
use Rattle.policy_words.specs.Valid.{IsWellFormed}
use Rattle.core_machine.specs.Books.{BookView, IsBook, now_after}
use Rattle.request_text.proofs.BriefWalks.{brief_reply}
use Rattle.request_text.proofs.SoundReplies.{reply_sounds}
use Rattle.connection_laws.specs.Connection.{TicksRise, IsTimed}
use Rattle.connection_laws.specs.Desks.{CanBeTold, RepliesCanBeTold}
use Rattle.core_machine.specs.Ledgers.{IsLegalLedger}
use Rattle.ledger_laws.specs.Serving.{CanBeServed}

module _ (p : Policy) (birth : ℕ) (m : Model) where
  step_rises : (g : List Entry) (s : Step) → IsLegalStep p birth m g s → now_of birth g ≤ moved (now_of birth g) s
  step_rises g (Tick upto to) l = let x = l.later in omega (arith, x)
  step_rises g (Ask actor request reply) l = omega arith

  rises_from : (g es : List Entry) → AreLegalAfter p birth m g es → TicksRise (now_of birth g) es
  rises_from g [] l = tt
  rises_from g (e ∷ es) l =
      (step_rises g e.what l.0, subst (λ (n : ℕ). TicksRise n es) (now_snoc birth g e) (rises_from (g ++ e ∷ []) es l.1))

  -- the last step of a legal list
  last_step : (g before : List Entry) (e : Entry) → AreLegalAfter p birth m g (before ++ e ∷ []) → IsLegalStep p birth m (g ++ before) e.what
  last_step g [] e l = subst (λ (h : List Entry). IsLegalStep p birth m h e.what) (sym (append-nil g)) l.0
  last_step g (f ∷ fs) e l = subst (λ (h : List Entry). IsLegalStep p birth m h e.what) (append_assoc g (f ∷ []) fs) (last_step (g ++ f ∷ []) fs e l.1)

-- the reply of the last step is the model's, from a named point
told : (b : BookView) → IsWellFormed b.named → b.birth ≤ LAST_MINUTE → RepliesCanBeTold b.named (IsLegalLedger b)
told b well low before who actor request reply l =
    let p : Policy = b.named.policy in
    let m : Model = l.legal.model in
    let e : Entry = asked who actor request reply in
    let is : reply ≡ reply_of p (point_after p b.birth m before) actor request = last_step p b.birth m [] before e l.legal.legal.steps in
    let point = points_are_named p b.birth before (e ∷ []) m well.policy low l.named l.legal.legal in
    let s = reply_sounds p (point_after p b.birth m before) point actor request in
    subst (λ (r : Reply). CanBeTold b.named r) (sym is) (record { named = s.named; brief = brief_reply b.named well _ s.named s.sound })

timed : (b : BookView) → IsTimed b.birth (IsLegalLedger b) (now_after b)
timed b = record { rises = λ l legal. rises_from b.named.policy b.birth legal.legal.model [] l legal.legal.legal.steps; now_is = λ l legal. refl }

pub book_is_served : (b : BookView) → IsBook b → CanBeServed b
book_is_served b book = record { named = λ actor request named. named; replies = told b book.well book.birth; timed = timed b }
