-- From the reading and the judging of a policy to the end of a command.
use Rattle.std.proofs.Common.{◌≡◌, ℕ, List, Option, Some, None, ◌⊎◌, inl, inr, sym, ap, ◌∙◌}
use Rattle.std.specs.Prelude.{Result, Ok, Err, IfOk, codes}
use Rattle.gtrbac_model.specs.Safety.{the_cycle}
use Rattle.policy_words.specs.Naming.{NamedPolicy}
use Rattle.policy_words.specs.PolicyRead.{PolicyFault, policy_read}
use Rattle.policy_text.specs.Texts.{IsToldFault}
use Rattle.policy_commands.specs.declared.ends.End.{End}
use Rattle.policy_commands.specs.declared.judging.Admitted.{Admitted}
use Rattle.policy_commands.specs.declared.judging.Admitted.TheVariants.{Safe, Ended}
use Rattle.policy_commands.specs.Ends.{EndView, ending, seen_end}
use Rattle.policy_commands.specs.Policies.{policy_or_end, policy_in, judged, safe_or_cycle, judged_or_end, safe_in, HasTextFault, IsUnsafeText}
use Rattle.policy_commands.specs.Commands.{laid_or_end, fmt_end, safe_or_end, check_end, IsLaid}
use Rattle.policy_commands.specs.Admitting.{IsJudged, IsEnded, IsAdmitted}

module _ (text : List ℕ) where
  pub in_built : (np : NamedPolicy) → policy_read text ≡ Ok np → policy_in text ≡ Ok np
  unfolding policy_in
  in_built np r = ap policy_or_end r

  pub in_faulty : (t : List ℕ) → IsToldFault text t → policy_in text ≡ Err (ending 2 t)
  unfolding policy_in
  in_faulty t f = ap policy_or_end f.is ∙ ap (λ (s : List ℕ). Err (ending 2 s)) (sym f.told_so)

  pub has_fault : (t : List ℕ) → IsToldFault text t → HasTextFault text
  has_fault t f = record { fault = f.fault; is = f.is }

  laid_is : (np : NamedPolicy) (end : End) → policy_read text ≡ Ok np → IsLaid np end → seen_end end ≡ fmt_end text
  unfolding fmt_end
  laid_is np end r h = (λ i. ending (h.zero i) (h.text i)) ∙ ap laid_or_end (sym (in_built np r))

  module _ {E : Type 0} (np : NamedPolicy) (read : policy_read text ≡ Ok np) where
    pub laid_end : (r : Result End E) → IfOk r (IsLaid np) → IfOk r (λ end. seen_end end ≡ fmt_end text)
    laid_end (Ok end) h = laid_is np end read h
    laid_end (Err e) h = tt

    pub laid_status : (r : Result End E) → IfOk r (IsLaid np) → IfOk r (λ end. (end.status ≡ 0) ⊎ (end.status ≡ 2))
    laid_status (Ok end) h = inl h.zero
    laid_status (Err e) h = tt

    pub laid_fault : (r : Result End E) → IfOk r (IsLaid np) → IfOk r (λ end. end.status ≡ 2 → HasTextFault text)
    laid_fault (Ok end) h = λ two. absurd (zero_two h.zero two)
      where
        zero_two : {n : ℕ} → n ≡ 0 → n ≡ 2 → ⊥
        zero_two a b = cc (a, b)
    laid_fault (Err e) h = tt

  pub told_end : (t : List ℕ) → IsToldFault text t → ending 2 t ≡ fmt_end text
  unfolding fmt_end
  told_end t f = ap laid_or_end (sym (in_faulty t f))

  judged_in : (np : NamedPolicy) → policy_read text ≡ Ok np → safe_in text ≡ judged np
  unfolding safe_in
  judged_in np r = ap judged_or_end (in_built np r)

  admitted_of : (np : NamedPolicy) (a : Admitted) → policy_read text ≡ Ok np → IsJudged np a → IsAdmitted text a
  admitted_of np (Safe s) r j = judged_in np r ∙ j.1 ∙ ap Ok (sym j.0)
  admitted_of np (Ended end) r j = record { told = judged_in np r ∙ j.told; cause = inr (j.three, record { policy = np; is = r; unsafe = j.unsafe }) }

  pub admitted_all : {E : Type 0} (np : NamedPolicy) → policy_read text ≡ Ok np → (r : Result Admitted E) → IfOk r (IsJudged np) → IfOk r (IsAdmitted text)
  admitted_all np read (Ok a) j = admitted_of np a read j
  admitted_all np read (Err e) j = tt

  pub ended_of : (end : End) → end.status ≡ 2 → IsToldFault text end.text.items → IsEnded text end
  unfolding safe_in
  ended_of end two f =
      record {
        told = ap judged_or_end (in_faulty end.text.items f) ∙ ap (λ (n : ℕ). Err (ending n end.text.items)) (sym two);
        cause = inl (two, has_fault end.text.items f);
      }

  check_safe : (np : NamedPolicy) → safe_in text ≡ Ok np → ending 0 (codes "safe\n") ≡ check_end text
  unfolding check_end
  check_safe np s = ap safe_or_end (sym s)

  pub check_all : {E : Type 0} (np : NamedPolicy) → safe_in text ≡ Ok np → (r : Result End E) → IfOk r (λ end. seen_end end ≡ ending 0 (codes "safe\n")) → IfOk r (λ end. seen_end end ≡ check_end text)
  check_all np safe (Ok end) e = e ∙ check_safe np safe
  check_all np safe (Err f) e = tt

  pub check_ended : (end : End) → IsEnded text end → seen_end end ≡ check_end text
  unfolding check_end
  check_ended end e = ap safe_or_end (sym e.told)

  pub fault_of : (end : End) → IsEnded text end → end.status ≡ 2 → HasTextFault text
  fault_of end e two = elim e.cause [ inl h ↦ h.1 | inr h ↦ absurd (three_two h.0 two) ]
    where
      three_two : {n : ℕ} → n ≡ 3 → n ≡ 2 → ⊥
      three_two a b = cc (a, b)

  pub cycle_of : (end : End) → IsEnded text end → end.status ≡ 3 → IsUnsafeText text
  cycle_of end e three = elim e.cause [ inl h ↦ absurd (two_three h.0 three) | inr h ↦ h.1 ]
    where
      two_three : {n : ℕ} → n ≡ 2 → n ≡ 3 → ⊥
      two_three a b = cc (a, b)

-- a safe policy of a text is the policy of the text
module _ (text : List ℕ) (np : NamedPolicy) where
  same : (q : NamedPolicy) → ◌≡◌ {A = Result NamedPolicy EndView} (Ok q) (Ok np) → ◌≡◌ {A = Result NamedPolicy PolicyFault} (Ok q) (Ok np)
  same q e = ap (λ (x : Result NamedPolicy EndView). elim x [ Ok p ↦ Ok p | Err f ↦ Ok q ]) e

  of_cycle : (q : NamedPolicy) (c : Option (List ℕ)) → safe_or_cycle q c ≡ Ok np → ◌≡◌ {A = Result NamedPolicy PolicyFault} (Ok q) (Ok np)
  of_cycle q None e = same q e
  of_cycle q (Some edges) e = absurd (cc e)

  of_read : (r : Result NamedPolicy PolicyFault) → judged_or_end (policy_or_end r) ≡ Ok np → r ≡ Ok np
  unfolding judged
  of_read (Ok q) e = of_cycle q (the_cycle q.policy.triggers) e
  of_read (Err f) e = absurd (cc e)

  pub read_of_safe : safe_in text ≡ Ok np → policy_read text ≡ Ok np
  unfolding safe_in policy_in
  read_of_safe e = of_read (policy_read text) e
