-- What is kept of the lines before tells the same faults as the lines themselves.
use Rattle.std.proofs.Common.{◌≡◌, ℕ, ◌+◌, Bool, true, false, cond, not, ◌&&◌, ◌||◌, List, [], ◌∷◌, ◌++◌, Option, Some, None, refl, sym, subst, ap, ◌∙◌, add-zero}
use Rattle.std.specs.Prelude.{option_map, bytes_eq, nat_le}
use Rattle.std.specs.List.{list_any}
use Rattle.std.proofs.lemmas.List.Folds.{list_any-append}
use Rattle.gtrbac_model.specs.Same.{lists}
use Rattle.policy_book.proofs.SameNames.{one_name, same_names}
use Rattle.policy_words.specs.declared.sayings.Kind.{Kind}
use Rattle.policy_words.specs.declared.sayings.Kind.TheVariants as kinds
use Rattle.policy_words.specs.Sayings.{SaidView}
use Rattle.policy_words.specs.Reading.{Numbered}
use Rattle.policy_words.proofs.CapKinds.{one_kind}
use Rattle.policy_words.specs.declared.claims.Claim.{Claim}
use Rattle.policy_words.specs.declared.claims.Claim.TheVariants as claims
use Rattle.policy_words.specs.Naming.{Names}
use Rattle.policy_words.specs.Making.{with_new}
use Rattle.policy_words.specs.LinesTogether.{LinesFault, unknown, twice, is_known, claim_of, same_claim, is_claimed_by, is_claimed_again, may_be_again, kind_of, most_of, same_kind, count_of, many_of, many_at, fault_of_line, first_fault}
use Rattle.policy_book.specs.declared.tallies.Counts.{Counts}
use Rattle.policy_book.specs.declared.tallies.TallyFault.{TallyFault}
use Rattle.policy_book.specs.declared.tallies.TallyFault.TheVariants.{Unknown, Twice, TooMany}
use Rattle.policy_book.specs.Tallies.{Tallied, count_in, one_more, is_claimed, full_kind, fault_in, with_count, tallied, told_at, first_told, nothing_told}
use Rattle.policy_book.proofs.Truth.{parted}

-- claims

one_text : (a b : List ℕ) → bytes_eq a b ≡ true → a ≡ b
one_text a b h = one_name a b (same_names a b ∙ h)

pub one_claim : (a b : Claim) → same_claim a b ≡ true → a ≡ b
one_claim (claims.Role n) (claims.Role m) h = ap (λ x. claims.Role x) (one_text n m h)
one_claim (claims.User n) (claims.User m) h = ap (λ x. claims.User x) (one_text n m h)
one_claim (claims.Perm n) (claims.Perm m) h = ap (λ x. claims.Perm x) (one_text n m h)
one_claim (claims.Period n) (claims.Period m) h = ap (λ x. claims.Period x) (one_text n m h)
one_claim (claims.Limit n) (claims.Limit m) h = ap (λ x. claims.Limit x) (one_text n m h)
one_claim (claims.Edge s j) (claims.Edge s' j') h =
    let both = parted _ _ h in λ i. claims.Edge (one_text s s' both.0 i) (one_text j j' both.1 i)
one_claim (claims.Cap k n) (claims.Cap l m) h =
    let both = parted _ _ h in λ i. claims.Cap (one_kind k l both.0 i) (one_text n m both.1 i)
one_claim (claims.Assigned s j) (claims.Assigned s' j') h =
    let both = parted _ _ h in λ i. claims.Assigned (one_text s s' both.0 i) (one_text j j' both.1 i)
one_claim (claims.Granted s j) (claims.Granted s' j') h =
    let both = parted _ _ h in λ i. claims.Granted (one_text s s' both.0 i) (one_text j j' both.1 i)
one_claim _ _ h = cc

-- the claims are those of the lines before, and the counts count them
record Tells (t : Tallied) (before : List SaidView) : Type 0 where
  claims : (c : Claim) → lists same_claim t.claims c ≡ list_any (is_claimed_by c) before
  counts : (k : Kind) → count_in t.counts k ≡ count_of k before

abbrev claimed_by : Claim → Option Claim → Bool
claimed_by c o = elim o [ None ↦ false | Some d ↦ same_claim c d ]

abbrev claimed_in : List Claim → Option Claim → Bool
claimed_in cs o = elim o [ None ↦ false | Some d ↦ lists same_claim cs d ]

claimed_same : (t : Tallied) (before : List SaidView) → Tells t before → (s : SaidView) → is_claimed t s ≡ is_claimed_again before s
claimed_same t before tells s = go (claim_of s)
  where
    go : (o : Option Claim) → claimed_in t.claims o ≡ elim o [ None ↦ false | Some c ↦ list_any (is_claimed_by c) before ]
    go None = refl
    go (Some c) = tells.claims c

or_false : (a b : Bool) → (a || (b || false)) ≡ (b || a)
or_false true true = refl
or_false true false = refl
or_false false true = refl
or_false false false = refl

implied : (a b : Bool) → (b ≡ true → a ≡ true) → a ≡ (b || a)
implied a true f = f refl
implied a false f = refl

-- one claim more, unless it is there
claims_step : (cs : List Claim) (o : Option Claim) (c : Claim) → lists same_claim (cond (claimed_in cs o) cs (with_new same_claim o cs)) c ≡ (claimed_by c o || lists same_claim cs c)
claims_step cs None c = refl
claims_step cs (Some d) c = go (lists same_claim cs d) refl
  where
    go : (b : Bool) → lists same_claim cs d ≡ b → lists same_claim (cond b cs (cond b cs (cs ++ d ∷ []))) c ≡ (same_claim c d || lists same_claim cs c)
    go true q = implied (lists same_claim cs c) (same_claim c d) (λ h. subst (λ x. lists same_claim cs x ≡ true) (sym (one_claim c d h)) q)
    go false q = list_any-append (same_claim c) cs (d ∷ []) ∙ or_false (lists same_claim cs c) (same_claim c d)

-- counts

pub same_itself : (k : Kind) → same_kind k k ≡ true
same_itself kinds.Roles = refl
same_itself kinds.Users = refl
same_itself kinds.Perms = refl
same_itself kinds.Periods = refl
same_itself kinds.Limits = refl
same_itself kinds.Edges = refl
same_itself kinds.Entries = refl
same_itself kinds.Triggers = refl
same_itself kinds.Assigned = refl
same_itself kinds.Granted = refl

more_counted : (c : Counts) (l k : Kind) → count_in (one_more c l) k ≡ count_in c k + cond (same_kind k l) 1 0
more_counted c kinds.Roles kinds.Roles = refl
more_counted c kinds.Users kinds.Users = refl
more_counted c kinds.Perms kinds.Perms = refl
more_counted c kinds.Periods kinds.Periods = refl
more_counted c kinds.Limits kinds.Limits = refl
more_counted c kinds.Edges kinds.Edges = refl
more_counted c kinds.Entries kinds.Entries = refl
more_counted c kinds.Triggers kinds.Triggers = refl
more_counted c kinds.Assigned kinds.Assigned = refl
more_counted c kinds.Granted kinds.Granted = refl
more_counted c _ _ = sym (add-zero _)

abbrev kind_is : Kind → Option Kind → Bool
kind_is k o = elim o [ None ↦ false | Some l ↦ same_kind k l ]

counts_step : (t : Tallied) (claims : List Claim) (o : Option Kind) (b : Bool) (k : Kind)
    → count_in ((cond b t (record { claims = claims; counts = with_count o t.counts })).counts) k ≡ count_in t.counts k + cond (kind_is k o && not b) 1 0
counts_step t claims None true k = sym (add-zero _)
counts_step t claims None false k = sym (add-zero _)
counts_step t claims (Some l) true k = none (same_kind k l)
  where
    none : (x : Bool) → count_in t.counts k ≡ count_in t.counts k + cond (x && false) 1 0
    none true = sym (add-zero _)
    none false = sym (add-zero _)
counts_step t claims (Some l) false k = more_counted t.counts l k ∙ some (same_kind k l)
  where
    some : (x : Bool) → count_in t.counts k + cond x 1 0 ≡ count_in t.counts k + cond (x && true) 1 0
    some true = refl
    some false = refl

-- one line more
one_line : (t : Tallied) (before : List SaidView) → Tells t before → (s : SaidView) → Tells (tallied t s) (s ∷ before)
one_line t before tells s =
    record {
      claims = λ c. claims_of c ∙ ap (λ b. claimed_by c (claim_of s) || b) (tells.claims c);
      counts = λ k.
          counts_step t (with_new same_claim (claim_of s) t.claims) (kind_of s) (is_claimed t s) k
          ∙ ap (λ n. n + cond (kind_is k (kind_of s) && not (is_claimed t s)) 1 0) (tells.counts k)
          ∙ ap (λ b. count_of k before + cond (kind_is k (kind_of s) && not b) 1 0) (claimed_same t before tells s);
    }
  where
    field : (b : Bool) (u v : Tallied) → (cond b u v).claims ≡ cond b u.claims v.claims
    field true u v = refl
    field false u v = refl

    claims_of : (c : Claim) → lists same_claim (tallied t s).claims c ≡ (claimed_by c (claim_of s) || lists same_claim t.claims c)
    claims_of c =
        ap (λ cs. lists same_claim cs c) (field (is_claimed t s) t (record { claims = with_new same_claim (claim_of s) t.claims; counts = with_count (kind_of s) t.counts }))
        ∙ claims_step t.claims (claim_of s) c

-- faults

full_same : (t : Tallied) (before : List SaidView) → Tells t before → (n : ℕ) (s : SaidView) → option_map (told_at n) (full_kind t s (kind_of s)) ≡ many_at n (many_of before s)
full_same t before tells n s = go (kind_of s) refl
  where
    one_way : (k : Kind) (x y : Bool) → x ≡ y → option_map (told_at n) (cond x (Some (TooMany k)) None) ≡ many_at n (cond y (Some k) None)
    one_way k true true e = refl
    one_way k false false e = refl
    one_way k true false e = cc
    one_way k false true e = cc

    go : (o : Option Kind) → kind_of s ≡ o → option_map (told_at n) (full_kind t s o)
        ≡ many_at n (elim o [ None ↦ None | Some k ↦ cond ((kind_is k (kind_of s) && not (is_claimed_again before s)) && nat_le (most_of k) (count_of k before)) (Some k) None ])
    go None e = refl
    go (Some k) e =
        one_way k _ _
        (ap (λ b. not b && nat_le (most_of k) (count_in t.counts k)) (claimed_same t before tells s)
        ∙ ap (λ m. not (is_claimed_again before s) && nat_le (most_of k) m) (tells.counts k)
        ∙ ap (λ b. (b && not (is_claimed_again before s)) && nat_le (most_of k) (count_of k before)) (sym (ap (kind_is k) e ∙ same_itself k)))

fault_same : (ns : Names) (t : Tallied) (before : List SaidView) → Tells t before → (s : Numbered SaidView) → option_map (told_at s.line) (fault_in ns t s.it) ≡ fault_of_line ns before s
fault_same ns t before tells s =
    go (is_known ns s.it) (not (may_be_again s.it) && is_claimed t s.it) (full_kind t s.it (kind_of s.it)) _ (full_same t before tells s.line s.it)
    ∙ ap (λ b. cond (not (is_known ns s.it)) (Some (unknown s.line)) (cond (not (may_be_again s.it) && b) (Some (twice s.line)) (many_at s.line (many_of before s.it)))) (claimed_same t before tells s.it)
  where
    go : (a b : Bool) (x : Option TallyFault) (y : Option LinesFault) → option_map (told_at s.line) x ≡ y
        → option_map (told_at s.line) (cond (not a) (Some Unknown) (cond b (Some Twice) x)) ≡ cond (not a) (Some (unknown s.line)) (cond b (Some (twice s.line)) y)
    go false b x y e = refl
    go true true x y e = refl
    go true false x y e = e

one_by_one : (n : ℕ) (x : Option TallyFault) (y a b : Option LinesFault) → option_map (told_at n) x ≡ y → a ≡ b
    → ◌≡◌ {A = Option LinesFault} (elim x [ Some f ↦ Some (told_at n f) | None ↦ a ]) (elim y [ Some f ↦ Some f | None ↦ b ])
one_by_one n None None a b e q = q
one_by_one n (Some f) (Some g) a b e q = e
one_by_one n None (Some g) a b e q = cc
one_by_one n (Some f) None a b e q = cc

told_after : (ns : Names) (t : Tallied) (before : List SaidView) → Tells t before → (ss : List (Numbered SaidView)) → first_told ns t ss ≡ first_fault ns before ss
told_after ns t before tells [] = refl
told_after ns t before tells (s ∷ ss) =
    one_by_one s.line (fault_in ns t s.it) (fault_of_line ns before s) _ _ (fault_same ns t before tells s)
    (told_after ns (tallied t s.it) (s.it ∷ before) (one_line t before tells s.it) ss)

none_counted : (k : Kind) → count_in nothing_told.counts k ≡ 0
none_counted kinds.Roles = refl
none_counted kinds.Users = refl
none_counted kinds.Perms = refl
none_counted kinds.Periods = refl
none_counted kinds.Limits = refl
none_counted kinds.Edges = refl
none_counted kinds.Entries = refl
none_counted kinds.Triggers = refl
none_counted kinds.Assigned = refl
none_counted kinds.Granted = refl

pub told_first : (ns : Names) (ss : List (Numbered SaidView)) → first_told ns nothing_told ss ≡ first_fault ns [] ss
told_first ns ss = told_after ns nothing_told [] (record { claims = λ c. refl; counts = none_counted }) ss
