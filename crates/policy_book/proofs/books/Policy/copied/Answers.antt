use Rattle.std.proofs.Common.{◌≡◌, length, sym, subst, ◌∙◌}
use Rattle.policy_words.specs.Valid.{IsWellFormed}
use Rattle.policy_book.specs.Seen.{seen_names}
use Rattle.policy_book.specs.Policies.{seen_policy}
use Rattle.policy_book.specs.declared.books.Policy.TheInside.{Inside}
use Rattle.policy_book.proofs.books.Policy.copied.Goals as goal
use Rattle.policy_book.proofs.books.Policy.copied.Goals.{After-from-2}

-- policies with the same parts are seen as equal
same_view : (a b : Inside) → seen_names a.names ≡ seen_names b.names → a.periods.items ≡ b.periods.items → a.limits.items ≡ b.limits.items → a.edges.items ≡ b.edges.items → a.caps.items ≡ b.caps.items
    → a.admins.items ≡ b.admins.items → a.opening.set ≡ b.opening.set → a.entries.items ≡ b.entries.items → a.triggers.items ≡ b.triggers.items → seen_policy a ≡ seen_policy b
same_view a b n p l e c u o t r =
    λ i. record {
      names = n i;
      policy = record {
        roles = length (n i).roles;
        users = length (n i).users;
        perms = length (n i).perms;
        periods = p i;
        limits = l i;
        edges = e i;
        caps = c i;
        admins = u i;
        opening = o i;
        entries = t i;
        triggers = r i;
      };
    }

-- the policy of the copies
abbrev copy : After-from-2 → Inside
copy c = record {
  alloc = c.self.inside.alloc;
  names = c.in_ok-copied-7.field-0;
  periods = c.from.result;
  limits = c.in_ok-copied.field-0;
  edges = c.in_ok-copied-2.field-0;
  caps = c.in_ok-copied-3.field-0;
  admins = c.in_ok-copied-4.field-0;
  opening = c.in_ok-copied-5.field-0;
  entries = c.in_ok-copied-6.field-0;
  triggers = c.from-2.result;
}

same : (c : After-from-2) → seen_policy (copy c) ≡ seen_policy c.self.inside
same c =
    same_view (copy c) c.self.inside c.in_ok-copied-7.ensures (c.from.ensures ∙ c.in_ok-periods.ensures ∙ c.as_slice.ensures) c.in_ok-copied.ensures c.in_ok-copied-2.ensures c.in_ok-copied-3.ensures
    c.in_ok-copied-4.ensures c.in_ok-copied-5.ensures c.in_ok-copied-6.ensures (c.from-2.ensures ∙ c.in_ok-triggers.ensures ∙ c.as_slice-2.ensures)

pub returns : goal.returns
returns c = same c ∙ c.self.view_is

pub invariant_of-result : goal.invariant_of-result
invariant_of-result c = subst IsWellFormed (sym (same c)) c.self.invariant
