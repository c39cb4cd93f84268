use Rattle.std.proofs.Common.{◌≡◌, ℕ, ◌+◌, List, ◌∷◌, Option, Some, None, drop, ap, sym, subst, ◌∙◌}
use Rattle.std.proofs.lemmas.List.{drop_all, drop_more}
use Rattle.policy_words.specs.Sayings.{SaidView}
use Rattle.policy_words.specs.Reading.{Numbered}
use Rattle.policy_words.specs.Naming.{Names}
use Rattle.policy_words.specs.LinesTogether.{LinesFault}
use Rattle.policy_book.specs.declared.tallies.TallyFault.{TallyFault}
use Rattle.policy_book.specs.Faults.{IsLineFault}
use Rattle.policy_book.specs.Seen.{seen_names}
use Rattle.policy_book.specs.Tallies.{Tallied, seen_tally, fault_in, tallied, told_at, first_told}
use Rattle.policy_book.proofs.checking.check_lines.Goals as goal
use Rattle.policy_book.proofs.checking.check_lines.Goals.{After-part-item}

-- of one line and those after it
abbrev told_by : ℕ → Option LinesFault → Option TallyFault → Option LinesFault
told_by n later o = elim o [ Some f ↦ Some (told_at n f) | None ↦ later ]

told_on : (ns : Names) (t : Tallied) (s : Numbered SaidView) (ss : List (Numbered SaidView)) (o : Option TallyFault) → fault_in ns t s.it ≡ o → first_told ns t (s ∷ ss) ≡ told_by s.line (first_told ns (tallied t s.it) ss) o
told_on ns t s ss o e = ap (told_by s.line (first_told ns (tallied t s.it) ss)) e

-- the next line, and those after it
left : (c : After-part-item) → drop c.loop-part.part-index c.args.parts.now ≡ c.part-item.result ∷ drop (c.loop-part.part-index + 1) c.args.parts.now
left c =
    let i = c.loop-part.part-index in
    let parts : List (Numbered SaidView) = c.args.parts.now in
    drop_more parts i c.part-item.result c.loop-part-test.true ∙ ap (λ y. y ∷ drop (i + 1) parts) (sym c.part-item.is)

pub loop-part-preserved : goal.loop-part-preserved
loop-part-preserved c =
    let ns = seen_names c.args.names.now in
    let old = seen_tally c.loop-part.tally in
    let item : Numbered SaidView = c.part-item.result in
    let rest : List (Numbered SaidView) = drop (c.loop-part.part-index + 1) c.args.parts.now in
    let none : fault_in ns old item.it ≡ None = ap (λ s. fault_in ns old s.it) (sym c.part.view_is) ∙ sym c.fault.ensures ∙ c.in_default.is in
    ap (λ t. first_told ns t rest) (c.in_ok-add.ensures ∙ ap (λ s. tallied old s.it) c.part.view_is)
    ∙ sym (told_on ns old item rest None none) ∙ ap (first_told ns old) (sym (left (goal.at.loop-part-preserved c).After-part-item)) ∙ c.loop-part.invariant

pub returns-in-Some-clause-fault : goal.returns-in-Some-clause-fault
returns-in-Some-clause-fault c =
    let ns = seen_names c.args.names.now in
    let old = seen_tally c.loop-part.tally in
    let item : Numbered SaidView = c.part-item.result in
    let rest : List (Numbered SaidView) = drop (c.loop-part.part-index + 1) c.args.parts.now in
    let some : fault_in ns old item.it ≡ Some c.in-Some.fault = ap (λ s. fault_in ns old s.it) (sym c.part.view_is) ∙ sym c.fault.ensures ∙ c.in-Some.is in
    subst (λ (o : Option LinesFault). IsLineFault o c.fault_at.result)
    (ap (λ s. Some (told_at s.line c.in-Some.fault)) c.part.view_is ∙ sym (told_on ns old item rest (Some c.in-Some.fault) some)
    ∙ ap (first_told ns old) (sym (left (goal.at.returns-in-Some-clause-fault c).After-part-item)) ∙ c.loop-part.invariant) c.fault_at.ensures

pub returns-clause-ok : goal.returns-clause-ok
returns-clause-ok c =
    sym c.loop-part.invariant ∙ ap (first_told (seen_names c.args.names.now) (seen_tally c.loop-part.tally)) (drop_all c.loop-part.part-index c.args.parts.now c.loop-part-test.false)
