-- Lines that claim the same, and how many lines of a kind count.
use Rattle.std.proofs.Common.{◌≡◌, Bool, true, false, not, ◌||◌, ◌&&◌, List, [], ◌∷◌, Option, Some, None, refl, ap, ◌∙◌}
use Rattle.std.specs.List.{list_any}
use Rattle.policy_words.specs.declared.sayings.Kind.{Kind}
use Rattle.policy_words.specs.declared.sayings.Kind.TheVariants as kinds
use Rattle.policy_words.specs.declared.parts.NamedFluent.TheVariants as fluents
use Rattle.policy_words.specs.Sayings.{SaidView, opening}
use Rattle.policy_words.specs.declared.claims.Claim.{Claim}
use Rattle.policy_words.specs.LinesTogether.{claim_of, same_claim, is_claimed_by, is_claimed_again, may_be_again, is_twice, same_kind, is_of, counts_for}

-- the later line claims for itself what the earlier one claims
abbrev pub clashes : SaidView → SaidView → Bool
clashes x y = not (may_be_again y) && elim (claim_of y) [ None ↦ false | Some c ↦ is_claimed_by c x ]

pub clash_by : (x y : SaidView) (c d : Claim) → claim_of x ≡ Some c → claim_of y ≡ Some d → may_be_again y ≡ false → same_claim d c ≡ true → clashes x y ≡ true
clash_by x y c d p q r s = (λ i. not (r i) && elim (q i) [ None ↦ false | Some e ↦ elim (p i) [ None ↦ false | Some f ↦ same_claim e f ] ]) ∙ s

-- a line is there twice where a line before it clashes with it
pub twice_any : (before : List SaidView) (y : SaidView) → is_twice before y ≡ list_any (λ x. clashes x y) before
twice_any [] y = by (may_be_again y) (claim_of y)
  where
    by : (b : Bool) (o : Option Claim) → (not b && elim o [ None ↦ false | Some c ↦ list_any (is_claimed_by c) [] ]) ≡ false
    by true o = refl
    by false None = refl
    by false (Some c) = refl
twice_any (x ∷ before) y = by (may_be_again y) (claim_of y) ∙ ap (λ b. clashes x y || b) (twice_any before y)
  where
    by : (b : Bool) (o : Option Claim) → (not b && elim o [ None ↦ false | Some c ↦ list_any (is_claimed_by c) (x ∷ before) ])
        ≡ ((not b && elim o [ None ↦ false | Some c ↦ is_claimed_by c x ]) || (not b && elim o [ None ↦ false | Some c ↦ list_any (is_claimed_by c) before ]))
    by true o = refl
    by false None = refl
    by false (Some c) = refl

-- kinds of which each line claims something of its own, or nothing
abbrev pub is_plain : Kind → Bool
is_plain kinds.Assigned = false
is_plain kinds.Granted = false
is_plain _ = true

pub one_kind : (k l : Kind) → same_kind k l ≡ true → k ≡ l
one_kind kinds.Roles kinds.Roles e = refl
one_kind kinds.Users kinds.Users e = refl
one_kind kinds.Perms kinds.Perms e = refl
one_kind kinds.Periods kinds.Periods e = refl
one_kind kinds.Limits kinds.Limits e = refl
one_kind kinds.Edges kinds.Edges e = refl
one_kind kinds.Entries kinds.Entries e = refl
one_kind kinds.Triggers kinds.Triggers e = refl
one_kind kinds.Assigned kinds.Assigned e = refl
one_kind kinds.Granted kinds.Granted e = refl
one_kind _ _ e = cc

not_both : (k l : Kind) → is_plain l ≡ false → is_plain k ≡ true → same_kind k l ≡ true → ⊥
not_both k l q p e = let same = one_kind k l e in cc

pub plain_once : (k : Kind) (x : SaidView) → is_plain k ≡ true → is_of k x ≡ true → may_be_again x ≡ false
plain_once k (opening (fluents.Assigned u r)) p e = absurd (not_both k kinds.Assigned refl p e)
plain_once k (opening (fluents.Granted q r)) p e = absurd (not_both k kinds.Granted refl p e)
plain_once k (opening (fluents.Enabled r)) p e = cc
plain_once k (opening (fluents.Limit l)) p e = cc
plain_once k (opening (fluents.Edge s j)) p e = cc
plain_once k _ p e = refl

-- a line of a plain kind that is not there twice counts
pub counts_plain : (k : Kind) (before : List SaidView) (x : SaidView) → is_plain k ≡ true → is_twice before x ≡ false → counts_for k before x ≡ is_of k x
counts_plain k before x p once = by (is_of k x) (may_be_again x) (is_claimed_again before x) (plain_once k x p) once
  where
    by : (o m a : Bool) → (o ≡ true → m ≡ false) → (not m && a) ≡ false → (o && not a) ≡ o
    by false m a f h = refl
    by true false true f h = cc
    by true false false f h = refl
    by true true a f h = let e = f refl in cc
