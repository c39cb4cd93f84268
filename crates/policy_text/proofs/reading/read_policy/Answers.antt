use Rattle.std.proofs.Common.{◌≡◌, ◌+◌, true, List, Option, Some, None, refl, ap, sym, subst, ◌∙◌, arith, inl, inr, length}
use Rattle.std.specs.Prelude.{Result, Ok, IfSome, IsTrue, option_map}
use Rattle.policy_words.specs.declared.sayings.Said.{Said}
use Rattle.policy_words.specs.declared.faults.TextKind.{TextKind}
use Rattle.policy_text.specs.Faults.{is_memory}
use Rattle.policy_words.specs.Seen.{seen_said}
use Rattle.policy_words.specs.Sayings.{SaidView, is_saying}
use Rattle.policy_words.specs.Reading.{Numbered, read_said, read_lines}
use Rattle.policy_book.specs.Said.{are_before, is_placed}
use Rattle.policy_words.specs.declared.versions.TextVersion.{TextVersion}
use Rattle.policy_words.specs.Versions.{version_after}
use Rattle.policy_text.specs.Lines.{behind, version_told}
use Rattle.policy_text.proofs.LineByLine.{placed_there, told_more, behind_more, behind_fault, behind_all, silent_line, said_line, faulty_line, fault_told, before_later, before_with}
use Rattle.policy_text.proofs.reading.read_policy.Goals as goal

said_as : (o r : Option Said) → o ≡ r → ◌≡◌ {A = Result (Option SaidView) TextKind} (Ok (option_map seen_said o)) (Ok (option_map seen_said r))
said_as o r e = ap (λ (x : Option Said). Ok (option_map seen_said x)) e

pub loop-line-preserved-in-Ok-None : goal.loop-line-preserved-in-Ok-None
loop-line-preserved-in-Ok-None c =
    let inv = c.loop-line.invariant in
    let n = c.loop-line.number + 1 in
    record {
      read = ap (behind c.loop-line.parts) (sym (silent_line c.loop-line.version n c.in-Some.line.now c.next.new.self (c.in-Ok-None.ensures.ok ∙ said_as _ _ c.in-Ok-None.field-0-is)))
          ∙ ap (λ (ls : List (List _)). behind c.loop-line.parts (read_lines c.loop-line.version n ls)) (sym c.in-Some.ensures.steps) ∙ inv.read;
      told = inv.told;
      before = before_later n c.loop-line.parts inv.before;
      count = omega (arith, inv.count, ap length c.in-Some.ensures.steps);
    }

pub add-requires-clause-said : goal.add-requires-clause-said
add-requires-clause-said c = subst (λ (o : Option Said). IfSome o (λ s. IsTrue (is_saying (seen_said s)))) c.in-Ok-Some.field-0-is c.in-Ok-Some.ensures.saying

placed_so : (ss : List (Numbered SaidView)) (v : TextVersion) (line : List _) (o r : Option Said) → version_told ss ≡ v → read_said v line ≡ Ok (option_map seen_said o) → o ≡ r
    → IfSome r (λ s. IsTrue (is_placed ss (seen_said s)))
placed_so ss v line o None told read e = tt
placed_so ss v line o (Some s) told read e = placed_there ss v line (seen_said s) told (read ∙ said_as _ _ e)

pub add-requires-clause-placed : goal.add-requires-clause-placed
add-requires-clause-placed c =
    placed_so c.loop-line.parts c.loop-line.version c.in-Some.line.now _ _ c.loop-line.invariant.told c.in-Ok-Some.ensures.ok c.in-Ok-Some.field-0-is

pub loop-line-preserved : goal.loop-line-preserved
loop-line-preserved c =
    let inv = c.loop-line.invariant in
    let n = c.loop-line.number + 1 in
    let s : SaidView = seen_said c.in-Ok-Some.said in
    let added = c.in_ok-add-in-Ok-Some.ensures.ok in
    let there = placed_so c.loop-line.parts c.loop-line.version c.in-Some.line.now _ (Some c.in-Ok-Some.said) inv.told c.in-Ok-Some.ensures.ok c.in-Ok-Some.field-0-is in
    let version = c.after-next.ensures in
    record {
      read = (λ i. behind (added i) (read_lines (version i) (n + 1) c.next.new.self))
          ∙ behind_more c.loop-line.parts (record { line = n; it = s }) (read_lines (version_after c.loop-line.version s) (n + 1) c.next.new.self)
          ∙ ap (behind c.loop-line.parts) (sym (said_line c.loop-line.version n c.in-Some.line.now c.next.new.self s (c.in-Ok-Some.ensures.ok ∙ said_as _ _ c.in-Ok-Some.field-0-is)))
          ∙ ap (λ (ls : List (List _)). behind c.loop-line.parts (read_lines c.loop-line.version n ls)) (sym c.in-Some.ensures.steps) ∙ inv.read;
      told = ap version_told added ∙ told_more c.loop-line.parts (record { line = n; it = s }) there ∙ ap (λ v. version_after v s) inv.told ∙ sym version;
      before = subst (λ (ss : List (Numbered SaidView)). are_before (n + 1) ss ≡ true) (sym added) (before_with n c.loop-line.parts s inv.before);
      count = omega (arith, inv.count, ap length c.in-Some.ensures.steps);
    }

pub returns-in-Err-clause-fault : goal.returns-in-Err-clause-fault
returns-in-Err-clause-fault c =
    let inv = c.loop-line.invariant in
    let n = c.loop-line.number + 1 in
    fault_told c.in-Err.kind c.fault.result n _ (is_memory c.in-Err.kind) refl c.fault.ensures
    (elim c.in-Err.ensures.fault [
      | inl m ↦ inl m
      | inr e ↦
          inr (sym inv.read
          ∙ ap (λ (ls : List (List _)). behind c.loop-line.parts (read_lines c.loop-line.version n ls)) c.in-Some.ensures.steps
          ∙ ap (behind c.loop-line.parts) (faulty_line c.loop-line.version n c.in-Some.line.now c.next.new.self c.in-Err.kind e)
          ∙ behind_fault c.loop-line.parts (record { line = n; it = c.in-Err.kind }))
    ])

pub returns-clause-ok : goal.returns-clause-ok
returns-clause-ok c =
    let inv = c.loop-line.invariant in
    sym inv.read ∙ ap (λ (ls : List (List _)). behind c.loop-line.parts (read_lines c.loop-line.version (c.loop-line.number + 1) ls)) c.in_default.ensures.steps.0 ∙ behind_all c.loop-line.parts
