-- The caps and the administrators that lines make.
use Rattle.std.proofs.Common.{◌≡◌, ℕ, zero, suc, ◌+◌, ◌≤◌, ◌<◌, Bool, true, false, cond, List, [], ◌∷◌, map, length, filter, Option, Some, None, refl, ap, ◌∙◌, arith, nat_lt}
use Rattle.std.specs.List.{list_all}
use Rattle.std.proofs.lemmas.Bool.{lt-ltb}
use Rattle.gt_base.specs.declared.events.RoleId.{RoleId}
use Rattle.gt_base.specs.declared.events.UserId.{UserId}
use Rattle.gt_base.specs.declared.policies.Caps.{Caps}
use Rattle.gtrbac_model.proofs.Elements.{both_true, and_true}
use Rattle.gtrbac_model.specs.Valid.{rises_above}
use Rattle.gtrbac_model.specs.WholePolicy.{are_caps, admins_rise}
use Rattle.gt_base.specs.Names.{is_name}
use Rattle.policy_words.specs.Sayings.{SaidView, cap, is_saying}
use Rattle.policy_words.specs.Naming.{Names, role_of}
use Rattle.policy_words.specs.CapKinds.{no_caps, with_cap}
use Rattle.policy_words.proofs.CapKinds.{cap_fine}
use Rattle.policy_words.specs.Making.{DraftView, adding, drafted, changed_at, capped, with_caps_said, users_from}
use Rattle.policy_book.proofs.Naming.{formed}

pub length-changed_at : {A : Type 0} (f : A → A) (k : ℕ) (xs : List A) → length (changed_at f k xs) ≡ length xs
length-changed_at f k [] = refl
length-changed_at f zero (x ∷ xs) = refl
length-changed_at f (suc k) (x ∷ xs) = ap (λ n. suc n) (length-changed_at f k xs)

changed_all : {A : Type 0} (p : A → Bool) (f : A → A) → ((x : A) → p x ≡ true → p (f x) ≡ true) → (k : ℕ) (xs : List A) → list_all p xs ≡ true → list_all p (changed_at f k xs) ≡ true
changed_all p f on k [] h = refl
changed_all p f on zero (x ∷ xs) h = let parts = both_true (p x) _ h in and_true _ _ (on x parts.0) parts.1
changed_all p f on (suc k) (x ∷ xs) h = let parts = both_true (p x) _ h in and_true _ _ parts.0 (changed_all p f on k xs parts.1)

step_length : (ns : Names) (x : SaidView) (cs : List Caps) → length (with_caps_said ns x cs) ≡ length cs
step_length ns (cap kind r n) cs = by (role_of ns r)
  where
    by : (o : Option RoleId) → length (capped ns kind n o cs) ≡ length cs
    by None = refl
    by (Some r) = length-changed_at (with_cap kind n) r.0 cs
step_length ns _ cs = refl

step_fine : (ns : Names) (x : SaidView) (cs : List Caps) → is_saying x ≡ true → list_all are_caps cs ≡ true → list_all are_caps (with_caps_said ns x cs) ≡ true
step_fine ns (cap kind r n) cs said h = by (role_of ns r)
  where
    by : (o : Option RoleId) → list_all are_caps (capped ns kind n o cs) ≡ true
    by None = h
    by (Some q) = changed_all are_caps (with_cap kind n) (cap_fine kind n (both_true (is_name r) _ (formed (cap kind r n) said)).1) q.0 cs h
step_fine ns _ cs said h = h

pub caps_length : (ns : Names) (d : DraftView) (xs : List SaidView) → length (drafted ns d xs).caps ≡ length d.caps
caps_length ns d [] = refl
caps_length ns d (x ∷ xs) = caps_length ns (adding ns d x) xs ∙ step_length ns x d.caps

pub caps_fine : (ns : Names) (d : DraftView) (xs : List SaidView) → list_all is_saying xs ≡ true → list_all are_caps d.caps ≡ true → list_all are_caps (drafted ns d xs).caps ≡ true
caps_fine ns d [] said h = h
caps_fine ns d (x ∷ xs) said h = let parts = both_true (is_saying x) _ said in caps_fine ns (adding ns d x) xs parts.1 (step_fine ns x d.caps parts.0 h)

pub no_caps_fine : (names : List (List ℕ)) → list_all are_caps (map (λ _. no_caps) names) ≡ true
no_caps_fine [] = refl
no_caps_fine (n ∷ names) = no_caps_fine names

-- administrators

pub users_below : (test : UserId → Bool) (m n k : ℕ) → n + k ≤ m → list_all (λ u. nat_lt u.0 m) (filter test (users_from n k)) ≡ true
users_below test m n zero le = refl
users_below test m n (suc k) le = by (test (record { 0 = n })) (users_below test m (n + 1) k (omega arith))
  where
    by : (b : Bool) → list_all (λ u. nat_lt u.0 m) (filter test (users_from (n + 1) k)) ≡ true
        → list_all (λ u. nat_lt u.0 m) (cond b (record { 0 = n } ∷ filter test (users_from (n + 1) k)) (filter test (users_from (n + 1) k))) ≡ true
    by true h = and_true _ _ (lt-ltb n m (omega arith)) h
    by false h = h

rise_above : (test : UserId → Bool) (b n k : ℕ) → b < n → rises_above b (map (λ v. v.0) (filter test (users_from n k))) ≡ true
rise_above test b n zero lt = refl
rise_above test b n (suc k) lt = by (test (record { 0 = n })) (rise_above test n (n + 1) k (omega arith)) (rise_above test b (n + 1) k (omega arith))
  where
    by : (t : Bool) → rises_above n (map (λ v. v.0) (filter test (users_from (n + 1) k))) ≡ true → rises_above b (map (λ v. v.0) (filter test (users_from (n + 1) k))) ≡ true
        → rises_above b (map (λ v. v.0) (cond t (record { 0 = n } ∷ filter test (users_from (n + 1) k)) (filter test (users_from (n + 1) k)))) ≡ true
    by true h g = and_true _ _ (lt-ltb b n lt) h
    by false h g = g

pub users_rise : (test : UserId → Bool) (n k : ℕ) → admins_rise (filter test (users_from n k)) ≡ true
users_rise test n zero = refl
users_rise test n (suc k) = by (test (record { 0 = n })) (rise_above test n (n + 1) k (omega arith)) (users_rise test (n + 1) k)
  where
    by : (t : Bool) → rises_above n (map (λ v. v.0) (filter test (users_from (n + 1) k))) ≡ true → admins_rise (filter test (users_from (n + 1) k)) ≡ true
        → admins_rise (cond t (record { 0 = n } ∷ filter test (users_from (n + 1) k)) (filter test (users_from (n + 1) k))) ≡ true
    by true h g = h
    by false h g = g
