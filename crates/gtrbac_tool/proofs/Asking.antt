-- What is asked behind a script, as it is told.
use Rattle.std.proofs.Common.{◌≡◌, ℕ, List, [], inl, inr, refl, sym, ◌∙◌, subst}
use Rattle.std.specs.Prelude.{Result, Ok, Err, IfOk}
use Rattle.gt_base.specs.declared.requests.Entry.{Entry}
use Rattle.gtrbac_model.specs.Policy.{Policy}
use Rattle.policy_words.specs.Naming.{NamedPolicy}
use Rattle.core_machine.specs.Books.{BookView}
use Rattle.policy_commands.specs.declared.ends.End.{End}
use Rattle.policy_commands.specs.Ends.{EndView, ending, seen_end}
use Rattle.gtrbac_tool.specs.declared.ahead.Inquiry.{Inquiry}
use Rattle.gtrbac_tool.specs.declared.script.Ran.TheVariants.{Unborn, Born}
use Rattle.gtrbac_tool.specs.EndTexts.{no_birth}
use Rattle.gtrbac_tool.specs.Script.{ScriptStart, never, born, failed, start_of, EndsFrom}
use Rattle.gtrbac_tool.specs.Started.{IsUnborn, RanFrom}
use Rattle.gtrbac_tool.specs.Late.{FollowsRun, AnswersFrom}
use Rattle.gtrbac_tool.proofs.Causing.{FailsWith, starts, status_of}

-- the status is that of the run
followed : (p : Policy) (asked : Inquiry) (birth : ℕ) (h : List Entry) (ran end : EndView) → FollowsRun p asked birth h ran end → end.status ≡ ran.status
followed p asked birth h ran end (inl x) = status_of end _ x.1.2 ∙ sym x.0
followed p asked birth h ran end (inr x) = status_of end ran x.1

pub ran_of : (np : NamedPolicy) (asked : Inquiry) (start : ScriptStart) (end : EndView) → AnswersFrom np asked start end → (ran : EndView) × EndsFrom np start ran × (end.status ≡ ran.status)
ran_of np asked never end is = (ending 0 [], refl, status_of end no_birth is)
ran_of np asked (born birth n lines) end a = (a.ran, (a.history, a.run), followed np.policy asked birth a.history a.ran end a.follows)
ran_of np asked (failed t) end is = (t, refl, status_of end t is)

-- how a script was run, with what is asked behind it

unborn_end : (np : NamedPolicy) (asked : Inquiry) (start : ScriptStart) (end : End) (other : EndView) → FailsWith start → RanFrom np start [] (Unborn end) → IsUnborn (seen_end end) other → AnswersFrom np asked start other
unborn_end np asked never end other fails ran (inl h) = h.1
unborn_end np asked never end other fails ran (inr h) = absurd (h.0 (status_of (seen_end end) _ ran))
unborn_end np asked (born birth n lines) end other fails ran is = absurd ran
unborn_end np asked (failed t) end other fails ran (inl h) = absurd (clash (sym (h.0) ∙ status_of (seen_end end) t ran ∙ fails))
  where
    clash : ◌≡◌ {A = ℕ} 0 7 → ⊥
    clash e = cc (e)
unborn_end np asked (failed t) end other fails ran (inr h) = h.1 ∙ ran

pub unborn_answers : {E : Type 0} (np : NamedPolicy) (asked : Inquiry) (lines : List (List ℕ)) (end : End) (r : Result End E) → RanFrom np (start_of np 1 lines) [] (Unborn end)
    → IfOk r (λ e. IsUnborn (seen_end end) (seen_end e)) → IfOk r (λ e. AnswersFrom np asked (start_of np 1 lines) (seen_end e))
unborn_answers np asked lines end (Ok e) ran is = unborn_end np asked (start_of np 1 lines) end (seen_end e) (starts np 1 lines) ran is
unborn_answers np asked lines end (Err f) ran is = tt

born_end : (np : NamedPolicy) (asked : Inquiry) (start : ScriptStart) (book : BookView) (end : End) (other : EndView) → RanFrom np start [] (Born book end)
    → FollowsRun book.named.policy asked book.birth book.entries (seen_end end) other → AnswersFrom np asked start other
born_end np asked never book end other ran is = absurd ran
born_end np asked (born birth n lines) book end other ran is =
    record {
      history = book.entries;
      ran = seen_end end;
      run = ran.run;
      follows =
          subst (λ (q : NamedPolicy). FollowsRun q.policy asked birth book.entries (seen_end end) other) ran.of_policy
          (subst (λ (t : ℕ). FollowsRun book.named.policy asked t book.entries (seen_end end) other) ran.of_birth is);
    }
born_end np asked (failed t) book end other ran is = absurd ran

pub born_answers : {E : Type 0} (np : NamedPolicy) (asked : Inquiry) (start : ScriptStart) (book : BookView) (end : End) (r : Result End E) → RanFrom np start [] (Born book end)
    → IfOk r (λ e. FollowsRun book.named.policy asked book.birth book.entries (seen_end end) (seen_end e)) → IfOk r (λ e. AnswersFrom np asked start (seen_end e))
born_answers np asked start book end (Ok e) ran is = born_end np asked start book end (seen_end e) ran is
born_answers np asked start book end (Err f) ran is = tt
