-- What a call that may play a script does.
use Rattle.std.proofs.Common.{◌≡◌, ℕ, Bool, true, false, List, [], Option, Some, None, inl, inr, refl, sym, ap, ◌∙◌, arith}
use Rattle.std.specs.Prelude.{◌||◌, nat_eq, Result, Ok, Err, IfOk}
use Rattle.std.proofs.lemmas.Bool.{false≢true}
use Rattle.std.proofs.KnownBytes.{Consumes-nil, Keeps-refl}
use Rattle.gt_io.specs.Causes.{Rose}
use Rattle.gt_io.specs.Streams.{Intake, Output}
use Rattle.policy_words.specs.Naming.{NamedPolicy}
use Rattle.policy_words.specs.Wording.{◌>>=◌}
use Rattle.policy_commands.specs.declared.ends.End.{End}
use Rattle.policy_commands.specs.Admitting.{IsEnded}
use Rattle.policy_commands.specs.Ends.{EndView, seen_end}
use Rattle.policy_commands.specs.Printing.{IsPrinted}
use Rattle.gtrbac_tool.specs.declared.questions.Question.{Question}
use Rattle.gtrbac_tool.specs.declared.ahead.Inquiry.{Inquiry}
use Rattle.gtrbac_tool.specs.Late.{asks_of, asked_of}
use Rattle.gtrbac_tool.specs.Script.{IsRunStatus}
use Rattle.gtrbac_tool.specs.Writing.{Prints, PrintsEnd}
use Rattle.gtrbac_tool.specs.Reading.{Reads, Works}
use Rattle.gtrbac_tool.proofs.Writing.{shown, tells_so}

-- another status is none of a run

abbrev pub runs_with : ℕ → Bool
runs_with s = nat_eq s 0 || (nat_eq s 7 || nat_eq s 9)

run_is : (s : ℕ) → IsRunStatus s → runs_with s ≡ true
run_is s (inl e) = ap runs_with e
run_is s (inr (inl e)) = ap runs_with e
run_is s (inr (inr e)) = ap runs_with e

pub no_run : (s t : ℕ) → s ≡ t → runs_with t ≡ false → IsRunStatus s → ⊥
no_run s t e off ran = false≢true (sym off ∙ sym (ap runs_with e) ∙ run_is s ran)

pub ended_run : (text : List ℕ) (end : End) → IsEnded text end → IsRunStatus end.status → ⊥
ended_run text end is ran = elim is.cause [ inl two ↦ no_run end.status 2 two.0 refl ran | inr three ↦ no_run end.status 3 three.0 refl ran ]

module _ {I : Type 0} (intake : I → Intake) (P Plays A : Type 0) (Ends : Type 0 → Option (List ℕ) → EndView → Type 0) where
  -- another call does no more
  pub works_so : (Q R B : Type 0) (Others : Type 0 → Option (List ℕ) → EndView → Type 0) (old new : I) (status : ℕ) (a b : Output) → (P → Q) → (R → Plays) → (A → B)
      → ((end : EndView) → Ends (Rose (intake old).faults (intake new).faults) (intake old).left end → Others (Rose (intake old).faults (intake new).faults) (intake old).left end)
      → Works intake P Plays A Ends old new status a b → Works intake Q R B Others old new status a b
  works_so Q R B Others old new status a b pieces plays asks so w =
      record {
        tells =
            tells_so status a b P Q (Reads Plays Ends (intake old) (intake new)) (Reads R Others (intake old) (intake new)) pieces
            (λ end r. (so end r.0, r.1, λ p ran. r.2 (plays p) ran)) w.tells;
        once = w.once;
        short = w.short;
        untouched = elim w.untouched [ inl same ↦ inl same | inr due ↦ inr (asks due) ];
      }

  -- a call that leaves its input alone
  module _ (input : I) (status : ℕ) (a b : Output) where
    alone : PrintsEnd P (Reads Plays Ends (intake input) (intake input)) status a b → Works intake P Plays A Ends input input status a b
    alone tells = record { tells = tells; once = omega arith; short = ([], omega arith, Consumes-nil (intake input).left); untouched = inl refl }

    abbrev Here : EndView → Type 0
    Here end = Ends (Rose (intake input).faults (intake input).faults) (intake input).left end

    pub told_first : (end : EndView) → Here end → (IsRunStatus end.status → ⊥) → IsPrinted status end a.written b.written a.faults b.faults → Works intake P Plays A Ends input input status a b
    told_first end is other p = alone (inr (end, (is, inr refl, λ plays ran. absurd (other ran)), inl p))

    no_script : {E : Type 0} (r : Result End E) → (Plays → ⊥) → IfOk r (λ e. Here (seen_end e)) → IfOk r (λ e. Reads Plays Ends (intake input) (intake input) (seen_end e))
    no_script (Ok e) none is = (is, inr refl, λ plays. absurd (none plays))
    no_script (Err f) none is = tt

    pub shown_only : {E : Type 0} (r : Result End E) → (Plays → ⊥) → IfOk r (λ e. Here (seen_end e)) → Prints r status a b → Works intake P Plays A Ends input input status a b
    shown_only r none is p = alone (shown status a b P (Reads Plays Ends (intake input) (intake input)) r p (no_script r none is))

  pub starved : (input : I) (a : Output) → Works intake P Plays A Ends input input 8 a a
  starved input a = alone input 8 a a (inl (refl, Keeps-refl a.written, refl))

-- nothing is asked where the question is none
pub none_asked : (np : NamedPolicy) (question : Option Question) (asked : Option Inquiry) → asks_of np question ≡ Some asked → asked ≡ None → question ≡ None
none_asked np None asked is none = refl
none_asked np (Some question) asked is none = absurd (by (asked_of np question) is)
  where
    by : (o : Option Inquiry) → (o >>= (λ x. Some (Some x))) ≡ Some asked → ⊥
    by None e = cc (e)
    by (Some x) e = let no : ◌≡◌ {A = Option (Option Inquiry)} (Some (Some x)) (Some None) = e ∙ ap (λ (o : Option Inquiry). Some o) none in absurd (cc (no))
