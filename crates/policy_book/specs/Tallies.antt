-- The first fault of the lines, by what is kept of the lines before: what they claim, and how many
-- of each kind they have.
use Rattle.std.specs.Prelude.{ℕ, ◌+◌, Bool, false, ◌&&◌, not, List, [], ◌∷◌, nat_le, Option, Some, None, if◌then◌else◌}
use Rattle.gtrbac_model.specs.Same.{lists}
use Rattle.policy_words.specs.declared.sayings.Kind.{Kind}
use Rattle.policy_words.specs.declared.sayings.Kind.TheVariants as kinds
use Rattle.policy_words.specs.Sayings.{SaidView}
use Rattle.policy_words.specs.Reading.{Numbered}
use Rattle.policy_words.specs.declared.claims.Claim.{Claim}
use Rattle.policy_words.specs.Naming.{Names}
use Rattle.policy_words.specs.Making.{with_new}
use Rattle.policy_words.specs.LinesTogether.{LinesFault, unknown, twice, many, is_known, claim_of, same_claim, may_be_again, kind_of, most_of}
use Rattle.policy_book.specs.declared.tallies.Counts.{Counts}
use Rattle.policy_book.specs.declared.tallies.ClaimTally.{ClaimTally}
use Rattle.policy_book.specs.declared.tallies.TallyFault.{TallyFault}
use Rattle.policy_book.specs.declared.tallies.TallyFault.TheVariants.{Unknown, Twice, TooMany}

pub record Tallied : Type 0 where
  pub claims : List Claim
  pub counts : Counts

abbrev pub seen_tally : ClaimTally → Tallied
seen_tally t = record { claims = t.claims.keys; counts = t.counts }

abbrev pub no_counts : Counts
no_counts = record {
  roles = 0;
  users = 0;
  perms = 0;
  periods = 0;
  limits = 0;
  edges = 0;
  entries = 0;
  triggers = 0;
  assigned = 0;
  granted = 0;
}

abbrev pub count_in : Counts → Kind → ℕ
count_in c kinds.Roles = c.roles
count_in c kinds.Users = c.users
count_in c kinds.Perms = c.perms
count_in c kinds.Periods = c.periods
count_in c kinds.Limits = c.limits
count_in c kinds.Edges = c.edges
count_in c kinds.Entries = c.entries
count_in c kinds.Triggers = c.triggers
count_in c kinds.Assigned = c.assigned
count_in c kinds.Granted = c.granted

abbrev pub one_more : Counts → Kind → Counts
one_more c kinds.Roles = record c { roles = c.roles + 1 }
one_more c kinds.Users = record c { users = c.users + 1 }
one_more c kinds.Perms = record c { perms = c.perms + 1 }
one_more c kinds.Periods = record c { periods = c.periods + 1 }
one_more c kinds.Limits = record c { limits = c.limits + 1 }
one_more c kinds.Edges = record c { edges = c.edges + 1 }
one_more c kinds.Entries = record c { entries = c.entries + 1 }
one_more c kinds.Triggers = record c { triggers = c.triggers + 1 }
one_more c kinds.Assigned = record c { assigned = c.assigned + 1 }
one_more c kinds.Granted = record c { granted = c.granted + 1 }

abbrev pub is_claimed : Tallied → SaidView → Bool
is_claimed t s = elim (claim_of s) [ None ↦ false | Some c ↦ lists same_claim t.claims c ]

abbrev pub is_full : Counts → Kind → Bool
is_full c k = nat_le (most_of k) (count_in c k)

abbrev pub full_kind : Tallied → SaidView → Option Kind → Option TallyFault
full_kind t s None = None
full_kind t s (Some k) = if not (is_claimed t s) && is_full t.counts k then Some (TooMany k)
    else None

-- of one line: unknown, twice, too many
abbrev pub fault_in : Names → Tallied → SaidView → Option TallyFault
fault_in ns t s =
    if not (is_known ns s) then Some Unknown
    else if not (may_be_again s) && is_claimed t s then Some Twice
    else full_kind t s (kind_of s)

abbrev pub with_count : Option Kind → Counts → Counts
with_count None c = c
with_count (Some k) c = one_more c k

-- with one line more
abbrev pub tallied : Tallied → SaidView → Tallied
tallied t s = if is_claimed t s then t
    else record {
      claims = with_new same_claim (claim_of s) t.claims;
      counts = with_count (kind_of s) t.counts;
    }

abbrev pub told_at : ℕ → TallyFault → LinesFault
told_at n Unknown = unknown n
told_at n Twice = twice n
told_at n (TooMany k) = many n k

-- of all lines, after those of the tally
abbrev pub first_told : Names → Tallied → List (Numbered SaidView) → Option LinesFault
first_told ns t [] = None
first_told ns t (s ∷ ss) = elim (fault_in ns t s.it)
    [ Some f ↦ Some (told_at s.line f) | None ↦ first_told ns (tallied t s.it) ss ]

abbrev pub nothing_told : Tallied
nothing_told = record { claims = []; counts = no_counts }
