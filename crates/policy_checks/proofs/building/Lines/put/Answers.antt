use Rattle.std.proofs.Common.{◌≡◌, true, not, ◌&&◌, ◌||◌, ◌+◌, List, [], ◌∷◌, ap, refl, sym, subst}
use Rattle.policy_words.specs.Sayings.{SaidView}
use Rattle.policy_words.specs.Reading.{Numbered}
use Rattle.policy_words.specs.Seen.{seen_said}
use Rattle.policy_words.specs.Making.{is_second}
use Rattle.policy_book.specs.Said.{are_before, is_placed}
use Rattle.policy_book.proofs.Keeping.{before_added}
use Rattle.policy_checks.proofs.building.Lines.put.Goals as goal

pub invariant_of-result : goal.invariant_of-result
invariant_of-result c =
    let line = c.args.self.line in
    record { later = subst (λ ss. are_before (line + 1) ss ≡ true) (sym c.in_ok-add.ensures.ok) (before_added line c.args.self.parts _ c.args.self.later refl) }

pub add-requires-clause-placed : goal.add-requires-clause-placed
add-requires-clause-placed c = by c.args.self.parts
  where
    by : (ss : List (Numbered SaidView)) → is_placed ss (seen_said c.args.said) ≡ true
    by [] = ap not c.requires.edge
    by (first ∷ more) = λ i. not (c.requires.version i) && (not (c.requires.edge i) || is_second first.it)
