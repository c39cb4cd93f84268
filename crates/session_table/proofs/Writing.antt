-- Minutes written into a row of charges.
use Rattle.std.proofs.Common.{◌≡◌, ℕ, zero, suc, ◌+◌, Bool, true, false, cond, ◌&&◌, nat_eq, unwrap_or, List, [], ◌∷◌, slice_get, Option, Some, refl, sym, ap, ◌∙◌, add-zero}
use Rattle.std.specs.Cmp.{IsEquivalence}
use Rattle.std.proofs.lemmas.Bool.{eqb-true, eq-eqb}
use Rattle.indexmap.specs.IndexMap.{IndexMap, IsUnique, set_value_at}
use Rattle.indexmap.proofs.CallerLemmas.{updates-with_value_at}
use Rattle.gt_base.specs.declared.events.RoleId.{RoleId}
use Rattle.gt_base.specs.declared.events.UserId.{UserId}
use Rattle.session_table.specs.declared.charges.Charge.{Charge}
use Rattle.session_table.specs.Charges.{charge_eq, charged_by_rows, is_key}
use Rattle.session_table.proofs.Indexing.{both_true, eq_turned}
use Rattle.session_table.proofs.Charging.{split}

pub key_is : (k l : Charge) → charge_eq k l ≡ true → k ≡ l
key_is k l e =
    let a = both_true (nat_eq k.user.0 l.user.0) (nat_eq k.role.0 l.role.0 && nat_eq k.day l.day) e in
    let b = both_true (nat_eq k.role.0 l.role.0) (nat_eq k.day l.day) a.1 in
    let p : k.user.0 ≡ l.user.0 = eqb-true k.user.0 l.user.0 a.0 in
    let q : k.role.0 ≡ l.role.0 = eqb-true k.role.0 l.role.0 b.0 in
    let r : k.day ≡ l.day = eqb-true k.day l.day b.1 in
    λ i. record { user = record { 0 = p i }; role = record { 0 = q i }; day = r i }

pub key_laws : IsEquivalence charge_eq
key_laws = record {
  refl = λ k i. eq-eqb k.user.0 k.user.0 refl i && (eq-eqb k.role.0 k.role.0 refl i && eq-eqb k.day k.day refl i);
  symm = λ k l i. eq_turned k.user.0 l.user.0 i && (eq_turned k.role.0 l.role.0 i && eq_turned k.day l.day i);
  congr = λ k l m e. ap (λ x. charge_eq x m) (key_is k l e);
}

and_grouped : (a b c : Bool) → (a && (b && c)) ≡ ((a && b) && c)
and_grouped true b c = refl
and_grouped false b c = refl

pub keyed : (k : Charge) (u : UserId) (r : RoleId) (d : ℕ) → charge_eq k (record { user = u; role = r; day = d }) ≡ is_key k u r d
keyed k u r d = and_grouped (nat_eq k.user.0 u.0) (nat_eq k.role.0 r.0) (nat_eq k.day d)

pub unwrapped : (o old : Option ℕ) (b : Bool) (w : ℕ) → o ≡ cond b (Some w) old → unwrap_or o 0 ≡ cond b w (unwrap_or old 0)
unwrapped o old true w e = ap (λ x. unwrap_or x 0) e
unwrapped o old false w e = ap (λ x. unwrap_or x 0) e

-- what was written is more by so much
pub more : (rows : List (Charge × ℕ)) (k : Charge) (before minutes : ℕ) → before ≡ charged_by_rows rows k.user k.role k.day → (u : UserId) (r : RoleId) (d : ℕ)
    → cond (is_key k u r d) (before + minutes) (charged_by_rows rows u r d) ≡ charged_by_rows rows u r d + cond (is_key k u r d) minutes 0
more rows k before minutes is u r d =
    split (is_key k u r d)
    (λ e.
    let same : k ≡ record { user = u; role = r; day = d } = key_is k (record { user = u; role = r; day = d }) (keyed k u r d ∙ e) in
    let own : before ≡ charged_by_rows rows u r d = is ∙ ap (λ (x : Charge). charged_by_rows rows x.user x.role x.day) same in
    ap (λ b. cond b (before + minutes) (charged_by_rows rows u r d)) e ∙ ap (λ n. n + minutes) own ∙ ap (λ b. charged_by_rows rows u r d + cond b minutes 0) (sym e))
    (λ e. ap (λ b. cond b (before + minutes) (charged_by_rows rows u r d)) e ∙ sym (add-zero (charged_by_rows rows u r d)) ∙ ap (λ b. charged_by_rows rows u r d + cond b minutes 0) (sym e))

-- a value written over itself leaves the rows
pub written_over : {K X : Type 0} (es : List (K × X)) (i : ℕ) (k : K) (v : X) → slice_get es i ≡ Some (k, v) → set_value_at es i v ≡ es
written_over [] i k v at = refl
written_over {K} {X} (e ∷ es) zero k v at = let same : e ≡ (k, v) = cc in ap (λ (p : K × X). (e.0, p.1) ∷ es) (sym same)
written_over (e ∷ es) (suc i) k v at = ap (λ xs. e ∷ xs) (written_over es i k v at)

module _ {S : Type 0} (m : IndexMap Charge ℕ S) (i : ℕ) (k : Charge) (before : ℕ) (unique : IsUnique charge_eq m) (at : slice_get m.entries i ≡ Some (k, before)) where
  written : (w : ℕ) (u : UserId) (r : RoleId) (d : ℕ) → charged_by_rows (set_value_at m.entries i w) u r d ≡ cond (is_key k u r d) w (charged_by_rows m.entries u r d)
  written w u r d =
      unwrapped _ _ (charge_eq k (record { user = u; role = r; day = d })) w ((updates-with_value_at m i w key_laws unique k before at).0 (record { user = u; role = r; day = d }))
      ∙ ap (λ b. cond b w (charged_by_rows m.entries u r d)) (keyed k u r d)

  itself : is_key k k.user k.role k.day ≡ true
  itself = λ j. (eq-eqb k.user.0 k.user.0 refl j && eq-eqb k.role.0 k.role.0 refl j) && eq-eqb k.day k.day refl j

  -- the row has what is charged to its key
  pub row_says : before ≡ charged_by_rows m.entries k.user k.role k.day
  row_says =
      sym (written before k.user k.role k.day ∙ ap (λ b. cond b before (charged_by_rows m.entries k.user k.role k.day)) itself)
      ∙ ap (λ es. charged_by_rows es k.user k.role k.day) (written_over m.entries i k before at)

  -- and minutes added in it are charged to the key
  pub row_added : (minutes : ℕ) (u : UserId) (r : RoleId) (d : ℕ) → charged_by_rows (set_value_at m.entries i (before + minutes)) u r d ≡ charged_by_rows m.entries u r d + cond (is_key k u r d) minutes 0
  row_added minutes u r d = written (before + minutes) u r d ∙ more m.entries k before minutes row_says u r d
