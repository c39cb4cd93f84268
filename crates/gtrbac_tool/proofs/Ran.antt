-- How a script was run, as it is summed up.
use Rattle.std.proofs.Common.{◌≡◌, ℕ, [], subst}
use Rattle.std.specs.Prelude.{Result, Ok, Err, IfOk}
use Rattle.core_machine.specs.Books.{BookView}
use Rattle.policy_commands.specs.declared.ends.End.{End}
use Rattle.policy_commands.specs.Ends.{EndView, seen_end}
use Rattle.policy_words.specs.Naming.{NamedPolicy}
use Rattle.gtrbac_tool.specs.declared.script.Ran.TheVariants.{Unborn, Born}
use Rattle.gtrbac_tool.specs.Script.{ScriptStart, never, born, failed}
use Rattle.gtrbac_tool.specs.Started.{RanFrom}
use Rattle.gtrbac_tool.specs.Summary.{Gen, SummedFrom, summed}

pub unborn_sums : (np : NamedPolicy) (g : Gen) (start : ScriptStart) (end : End) → RanFrom np start [] (Unborn end) → SummedFrom np g start (seen_end end)
unborn_sums np g never end h = h
unborn_sums np g (born birth n lines) end h = absurd h
unborn_sums np g (failed t) end h = h

born_sums : (np : NamedPolicy) (g : Gen) (start : ScriptStart) (book : BookView) (end : End) (other : EndView) → RanFrom np start [] (Born book end)
    → ((np' : NamedPolicy) → other ≡ summed np' g book.birth book.entries (seen_end end)) → SummedFrom np g start other
born_sums np g never book end other h is = absurd h
born_sums np g (born birth n lines) book end other h is =
    record { history = book.entries; ran = seen_end end; run = h.run; end_is = subst (λ (t : ℕ). other ≡ summed np g t book.entries (seen_end end)) h.of_birth (is np) }
born_sums np g (failed t) book end other h is = absurd h

pub born_result : {E : Type 0} (np : NamedPolicy) (g : Gen) (start : ScriptStart) (book : BookView) (end : End) (r : Result End E) → RanFrom np start [] (Born book end)
    → IfOk r (λ e. (np' : NamedPolicy) → seen_end e ≡ summed np' g book.birth book.entries (seen_end end)) → IfOk r (λ e. SummedFrom np g start (seen_end e))
born_result np g start book end (Ok e) h is = born_sums np g start book end (seen_end e) h is
born_result np g start book end (Err f) h is = tt
