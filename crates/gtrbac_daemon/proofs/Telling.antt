-- What the status of a run over ports tells.
use Rattle.std.proofs.Common.{◌≡◌, ◌⊎◌, ℕ, ◌<◌, true, false, List, [], Option, Some, None, inl, inr, refl, sym, ap, ◌∙◌, arith, slice_get}
use Rattle.std.specs.Prelude.{Result, Ok, Err}
use Rattle.std.proofs.lemmas.Option.{none-some}
use Rattle.gt_base.specs.declared.limits.TheConstants.{MAX_LINKS}
use Rattle.gt_io.specs.declared.port.PortEvent.{PortEvent}
use Rattle.gt_io.specs.declared.port.PortEvent.TheVariants.{Opened, Ready, Stop}
use Rattle.gt_io.specs.Ports.{IsUncalled}
use Rattle.policy_words.specs.Naming.{NamedPolicy}
use Rattle.poll_front.specs.declared.ends.Polled.{Polled}
use Rattle.poll_front.specs.declared.front.RunEnd.{RunEnd}
use Rattle.poll_front.specs.declared.front.RunEnd.TheVariants.{Stopped, PortFault, Enough, Worn, Memory}
use Rattle.poll_front.specs.Tables.{RunsTo, AreUnwornEnds}
use Rattle.gtrbac_daemon.specs.Runs.{ServerScene, IsDueButFor, IsWell, ServerAnswers, ServerCause, unwritten, own, Runs}
use Rattle.gtrbac_daemon.specs.Polls.{Polling, poll_status, PollHasServed, LacksLinkMemory, HasStopped, HasFailedToTell, IsUsedUp, PollCause, stopped, memory, failed, used_up, PollDues, poll_way}
use Rattle.gtrbac_daemon.proofs.Causing.{written_says, eight_says}
use Rattle.gtrbac_daemon.proofs.AnyRuns as Any

-- the same answer of `next` is not two
some_apart : {A E : Type 0} (o : Option (Result A E)) (x : A) (y : E) → o ≡ Some (Ok x) → o ≡ Some (Err y) → ⊥
some_apart o x y e n = let no : Some (Ok x) ≡ Some (Err y) = sym e ∙ n in absurd (cc no)

opened_apart : {E : Type 0} (o : Option (Result PortEvent E)) (c : ℕ) → o ≡ Some (Ok (Opened c)) → o ≡ Some (Ok Stop) → ⊥
opened_apart {E} o c e n = let no : ◌≡◌ {A = Option (Result PortEvent E)} (Some (Ok (Opened c))) (Some (Ok Stop)) = sym e ∙ n in absurd (cc no)

ready_apart : {E : Type 0} (o : Option (Result PortEvent E)) (c : ℕ) → o ≡ Some (Ok (Ready c)) → o ≡ Some (Ok Stop) → ⊥
ready_apart {E} o c e n = let no : ◌≡◌ {A = Option (Result PortEvent E)} (Some (Ok (Ready c))) (Some (Ok Stop)) = sym e ∙ n in absurd (cc no)

-- nothing is used up where the run has stopped or failed
module _ (q : Polling) (few : q.ports.opened < MAX_LINKS) (calm : AreUnwornEnds q.ends) where
  not_used_up : IsUsedUp q → ⊥
  not_used_up (inl all) = absurd (omega (arith, few, all))
  not_used_up (inr x) = let off = calm x.0 x.1.0 x.1.1 in let no : true ≡ false = sym x.1.2 ∙ off in absurd (cc no)

module _ (name : Option (List ℕ)) (s : ℕ) (a b : ServerScene Polling) where
  of_end : (draws : ℕ) (end : RunEnd) → RunsTo a.server.ports b.server.ports draws b.server.ends end → s ≡ poll_status end → (end ≡ Memory → LacksLinkMemory s a b) → PollCause s a b
  of_end draws Stopped r is lacks = stopped is r.0 r.1 r.2
  of_end draws PortFault r is lacks = failed is r.0 r.1
  of_end draws Enough r is lacks = used_up is (inl r.1)
  of_end draws Worn r is lacks = used_up is (inr r.2)
  of_end draws Memory r is lacks = memory is (inl (lacks refl))

  of_served : (np : NamedPolicy) (birth : ℕ) → PollHasServed np birth s a b → ServerCause poll_way name s a b
  of_served np birth k =
      elim (written_says (poll_status k.end) _ s a.written b.written a.faults b.faults k.written) [
        | inl due ↦ own (of_end k.headline.worked.draws k.end k.headline.worked.runs due (λ e. (np, (birth, (k, e)))))
        | inr f ↦ unwritten f.0 f.1
      ]

  -- how a served run is due, by how it ended
  due_by : (n : ℕ) (np : NamedPolicy) (birth : ℕ) (k : PollHasServed np birth s a b) → (poll_status k.end ≡ n) ⊎ (k.end ≡ Memory) → IsDueButFor (LacksLinkMemory s a b) s a b n
  due_by n np birth k (inl e) =
      elim (written_says (poll_status k.end) _ s a.written b.written a.faults b.faults k.written) [ inl due ↦ inl (inl (due ∙ e)) | inr f ↦ inl (inr f) ]
  due_by n np birth k (inr e) =
      inr (eight_says (poll_status k.end) _ s a.written b.written a.faults b.faults k.written (ap poll_status e), (np, (birth, (k, e))))

  stops_by : (draws : ℕ) (end : RunEnd) → RunsTo a.server.ports b.server.ports draws b.server.ends end → HasStopped b.server → (poll_status end ≡ 0) ⊎ (end ≡ Memory)
  stops_by draws Stopped r h = inl refl
  stops_by draws PortFault r h = absurd (some_apart b.server.ports.told Stop r.0.0 h r.0.1)
  stops_by draws Enough r h = absurd (opened_apart b.server.ports.told r.0.0 r.0.1 h)
  stops_by draws Worn r h = absurd (ready_apart b.server.ports.told r.0.0 r.0.1 h)
  stops_by draws Memory r h = inr refl

  fails_by : (draws : ℕ) (end : RunEnd) → RunsTo a.server.ports b.server.ports draws b.server.ends end → HasFailedToTell b.server → (poll_status end ≡ 10) ⊎ (end ≡ Memory)
  fails_by draws Stopped r h = absurd (some_apart b.server.ports.told Stop h.0 r.0 h.1)
  fails_by draws PortFault r h = inl refl
  fails_by draws Enough r h = absurd (some_apart b.server.ports.told (Opened r.0.0) h.0 r.0.1 h.1)
  fails_by draws Worn r h = absurd (some_apart b.server.ports.told (Ready r.0.0) h.0 r.0.1 h.1)
  fails_by draws Memory r h = inr refl

  uses_by : (draws : ℕ) (end : RunEnd) → RunsTo a.server.ports b.server.ports draws b.server.ends end → IsUsedUp b.server → (poll_status end ≡ 11) ⊎ (end ≡ Memory)
  uses_by draws Stopped r h = absurd (not_used_up b.server r.1 r.2 h)
  uses_by draws PortFault r h = absurd (not_used_up b.server r.2 r.3 h)
  uses_by draws Enough r h = inl refl
  uses_by draws Worn r h = inl refl
  uses_by draws Memory r h = inr refl

  module _ (new : IsUncalled a.server.ports) (none : a.server.ends ≡ []) where
    -- where nobody was served, the ports tell nothing
    still : b.server ≡ a.server → b.server.ports.told ≡ None
    still same = ap (λ (p : Polling). p.ports.told) same ∙ new.0

    idle_stop : b.server ≡ a.server → HasStopped b.server → ⊥
    idle_stop same h = none-some (Ok Stop) (sym (still same) ∙ h)

    idle_fault : b.server ≡ a.server → HasFailedToTell b.server → ⊥
    idle_fault same h = none-some (Err h.0) (sym (still same) ∙ h.1)

    idle_used : b.server ≡ a.server → IsUsedUp b.server → ⊥
    idle_used same (inl all) = let opened = ap (λ (p : Polling). p.ports.opened) same ∙ new.1 in absurd (omega (arith, opened, all))
    idle_used same (inr x) =
        let at : slice_get [] x.0 ≡ Some x.1.0 = ap (λ (es : List Polled). slice_get es x.0) (sym (ap (λ (p : Polling). p.ends) same ∙ none)) ∙ x.1.1 in absurd (cc at)

    -- a cause that only a served run has
    due : (n : ℕ) (Has : Type 0) → (b.server ≡ a.server → Has → ⊥) → ((draws : ℕ) (end : RunEnd) → RunsTo a.server.ports b.server.ports draws b.server.ends end → Has → (poll_status end ≡ n) ⊎ (end ≡ Memory)) → Has → ServerAnswers poll_way name s a b
        → IsDueButFor (LacksLinkMemory s a b) s a b n
    due n Has idle by h answers =
        Any.by_served poll_way name s a b (IsDueButFor (LacksLinkMemory s a b) s a b n) (λ same. idle same h)
        (λ np birth k. due_by n np birth k (by k.headline.worked.draws k.end k.headline.worked.runs h)) answers

    dues_of : ServerAnswers poll_way name s a b → PollDues s a b
    dues_of answers =
        record {
          stopped_is = λ h. due 0 (HasStopped b.server) idle_stop stops_by h answers;
          failed_is = λ h. due 10 (HasFailedToTell b.server) idle_fault fails_by h answers;
          used_up_is = λ h. due 11 (IsUsedUp b.server) idle_used uses_by h answers;
        }

    complete_of : ServerAnswers poll_way name s a b → IsWell (λ p q. HasStopped q) name a b → (s ≡ 0) ⊎ (s ≡ 8)
    complete_of answers w =
        elim (due 0 (HasStopped b.server) idle_stop stops_by w.server answers) [ inl (inl zero_is) ↦ inl zero_is | inl (inr f) ↦ absurd (w.output f.1) | inr e ↦ inr e.0 ]

    pub runs : ServerAnswers poll_way name s a b → b.texts ≡ a.texts → (name ≡ None → b ≡ record a { written = b.written; faults = b.faults }) → Runs poll_way name s a b
    runs = Any.runs poll_way name s a b of_served (λ k. memory k.0.0 (inr k)) dues_of complete_of
