-- What holds of all kinds of caps that are listed holds of each; and what a role's caps are by their kinds.
use Rattle.std.proofs.Common.{◌≡◌, ℕ, Bool, true, ◌&&◌, List, [], ◌∷◌, Option, Some, None, refl, ap, ◌∙◌, inl, inr}
use Rattle.std.specs.List.{list_all}
use Rattle.gt_base.specs.declared.policies.Caps.{Caps}
use Rattle.gtrbac_model.proofs.Elements.{Elem, both_true, and_true, all_elim}
use Rattle.gtrbac_model.specs.WholePolicy.{is_most, are_caps}
use Rattle.policy_words.specs.declared.sayings.CapKind.{CapKind}
use Rattle.policy_words.specs.declared.sayings.CapKind.TheVariants.{Total, User, Length, Day}
use Rattle.policy_words.specs.contracts.sayings.CapKindPartialEq.TheImpl.{eq-value}
use Rattle.policy_words.specs.CapKinds.{cap_kinds, same_cap_kind, no_caps, cap_of, with_cap}
use Rattle.policy_words.specs.Sayings.{cap_word, is_count}
use Rattle.policy_words.specs.Reading.{spelled_so}

listed : (k : CapKind) → Elem cap_kinds k
listed Total = inl refl
listed User = inr (inl refl)
listed Length = inr (inr (inl refl))
listed Day = inr (inr (inr (inl refl)))

pub each_kind : (test : CapKind → Bool) → list_all test cap_kinds ≡ true → (k : CapKind) → test k ≡ true
each_kind test h k = all_elim test cap_kinds k h (listed k)

-- what the derived `==` computes
abbrev pub kind_eq : CapKind → CapKind → Bool
kind_eq = (eq-value).it

pub same_kinds : (k l : CapKind) → kind_eq k l ≡ same_cap_kind k l
same_kinds Total Total = refl
same_kinds User User = refl
same_kinds Length Length = refl
same_kinds Day Day = refl
same_kinds _ _ = refl

pub one_kind : (k l : CapKind) → same_cap_kind k l ≡ true → k ≡ l
one_kind Total Total h = refl
one_kind User User h = refl
one_kind Length Length h = refl
one_kind Day Day h = refl
one_kind _ _ h = cc

-- a kind's word is that of no other
pub kind_reads : (k : CapKind) → spelled_so cap_word cap_kinds (cap_word k) ≡ Some k
kind_reads Total = refl
kind_reads User = refl
kind_reads Length = refl
kind_reads Day = refl

-- a cap that is in range keeps the others so

pub each_most : (c : Caps) → are_caps c ≡ true → (k : CapKind) → is_most (cap_of k c) ≡ true
each_most c h k =
    let three = both_true (is_most c.total && is_most c.user && is_most c.length) _ h in
    let two = both_true (is_most c.total && is_most c.user) _ three.0 in
    let one = both_true (is_most c.total) _ two.0 in
    by k one.0 one.1 two.1 three.1
  where
    by : (k : CapKind) → is_most c.total ≡ true → is_most c.user ≡ true → is_most c.length ≡ true → is_most c.day ≡ true → is_most (cap_of k c) ≡ true
    by Total t u l d = t
    by User t u l d = u
    by Length t u l d = l
    by Day t u l d = d

all_most : (t u l d : Option ℕ) → is_most t ≡ true → is_most u ≡ true → is_most l ≡ true → is_most d ≡ true → are_caps (record { total = t; user = u; length = l; day = d }) ≡ true
all_most t u l d et eu el ed = and_true _ _ (and_true _ _ (and_true _ _ et eu) el) ed

pub cap_fine : (kind : CapKind) (n : ℕ) → is_count n ≡ true → (c : Caps) → are_caps c ≡ true → are_caps (with_cap kind n c) ≡ true
cap_fine kind n counts c h = by kind (each_most c h)
  where
    by : (k : CapKind) → ((l : CapKind) → is_most (cap_of l c) ≡ true) → are_caps (with_cap k n c) ≡ true
    by Total on = all_most (Some n) c.user c.length c.day counts (on User) (on Length) (on Day)
    by User on = all_most c.total (Some n) c.length c.day (on Total) counts (on Length) (on Day)
    by Length on = all_most c.total c.user (Some n) c.day (on Total) (on User) counts (on Day)
    by Day on = all_most c.total c.user c.length (Some n) (on Total) (on User) (on Length) counts

-- a role's caps, set one after another, make them again

abbrev pub with_some : CapKind → Option ℕ → Caps → Caps
with_some kind None c = c
with_some kind (Some n) c = with_cap kind n c

abbrev pub with_kinds : List CapKind → Caps → Caps → Caps
with_kinds [] c b = b
with_kinds (k ∷ ks) c b = with_kinds ks c (with_some k (cap_of k c) b)

pub all_set : (c : Caps) → with_kinds cap_kinds c no_caps ≡ c
all_set c = by c.total c.user c.length c.day
  where
    first : (t : Option ℕ) → with_some Total t no_caps ≡ record { total = t; user = None; length = None; day = None }
    first None = refl
    first (Some n) = refl

    second : (t u : Option ℕ) → with_some User u (record { total = t; user = None; length = None; day = None }) ≡ record { total = t; user = u; length = None; day = None }
    second t None = refl
    second t (Some n) = refl

    third : (t u l : Option ℕ) → with_some Length l (record { total = t; user = u; length = None; day = None }) ≡ record { total = t; user = u; length = l; day = None }
    third t u None = refl
    third t u (Some n) = refl

    fourth : (t u l d : Option ℕ) → with_some Day d (record { total = t; user = u; length = l; day = None }) ≡ record { total = t; user = u; length = l; day = d }
    fourth t u l None = refl
    fourth t u l (Some n) = refl

    by : (t u l d : Option ℕ) → with_some Day d (with_some Length l (with_some User u (with_some Total t no_caps))) ≡ record { total = t; user = u; length = l; day = d }
    by t u l d =
        ap (λ c. with_some Day d (with_some Length l (with_some User u c))) (first t) ∙ ap (λ c. with_some Day d (with_some Length l c)) (second t u)
        ∙ ap (with_some Day d) (third t u l) ∙ fourth t u l d
