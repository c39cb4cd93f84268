-- A tick that does not go back adds nothing to the bases of a history.
use Rattle.std.proofs.Common.{◌≡◌, ℕ, zero, suc, ◌+◌, ◌-◌, ◌≤◌, nat_lt, List, [], ◌∷◌, ◌++◌, refl, sym, ◌∙◌, ap, arith}
use Rattle.std.proofs.lemmas.Bool.{ltb-true, ltb-false}
use Rattle.gt_base.specs.Machines.{ticked}
use Rattle.gt_base.specs.declared.policies.HierEdge.{HierEdge}
use Rattle.gt_base.specs.declared.policies.Caps.{Caps}
use Rattle.gt_base.specs.declared.requests.Who.{Who}
use Rattle.gt_base.specs.declared.requests.Entry.{Entry}
use Rattle.gtrbac_model.specs.Policy.{Policy}
use Rattle.gtrbac_model.specs.Conflict.{Status}
use Rattle.gtrbac_model.specs.Status.{Model}
use Rattle.gtrbac_model.specs.Sessions.{Table, close_minute, close_minutes, empty_table}
use Rattle.gtrbac_model.specs.Base.{status, base_at, table_at}
use Rattle.gtrbac_model.specs.History.{now_of, moved}
use Rattle.gtrbac_model.proofs.Elements.{split}
use Rattle.gtrbac_model.proofs.Playing.{now_snoc, tick_not_read, base_of_prefix}
use Rattle.history_laws.proofs.Reading.{Onward, whole, whole_snoc, read_whole}

-- minutes closed after other minutes
joined : (edges : List HierEdge) (caps : List Caps) (s : ℕ → Status) (from k j : ℕ) (tb : Table)
    → close_minutes edges caps s (from + k) j (close_minutes edges caps s from k tb) ≡ close_minutes edges caps s from (k + j) tb
joined edges caps s from k zero tb = ap (λ n. close_minutes edges caps s from n tb) (same k)
  where
    same : (n : ℕ) → n ≡ n + 0
    same n = omega arith
joined edges caps s from k (suc j) tb =
    (λ i. close_minute edges caps (s (at from k j i)) (at from k j i) (joined edges caps s from k j tb i))
    ∙ ap (λ n. close_minutes edges caps s from n tb) (next k j)
  where
    at : (n k j : ℕ) → n + k + suc j ≡ n + suc (k + j)
    at n k j = omega arith

    next : (k j : ℕ) → suc (k + j) ≡ k + suc j
    next k j = omega arith

-- the minutes from one instant over another to a third
through : (edges : List HierEdge) (caps : List Caps) (s : ℕ → Status) (now to t : ℕ) (tb : Table) → now ≤ to → to ≤ t
    → close_minutes edges caps s to (t - to) (close_minutes edges caps s now (to - now) tb) ≡ close_minutes edges caps s now (t - now) tb
through edges caps s now to t tb a b =
    ap (λ u. close_minutes edges caps s u (t - to) (close_minutes edges caps s now (to - now) tb)) (there now to a)
    ∙ joined edges caps s now (to - now) (t - to) tb
    ∙ ap (λ k. close_minutes edges caps s now k tb) (all now to t a b)
  where
    there : (n t : ℕ) → n ≤ t → t ≡ n + (t - n)
    there n t le = omega (arith, le)

    all : (n m t : ℕ) → n ≤ m → m ≤ t → (m - n) + (t - m) ≡ t - n
    all n m t a b = omega (arith, a, b)

pub onward_more : (now : ℕ) (h : List Entry) (e : Entry) → Onward now h → now_of now h ≤ moved (now_of now h) e.what → Onward now (h ++ e ∷ [])
onward_more now [] e o le = (le, tt)
onward_more now (f ∷ h) e o le = (o.0, onward_more (moved now f.what) h e o.1 le)

module _ (p : Policy) (birth : ℕ) (h : List Entry) (o : Onward birth h) (who : Who) (upto to : ℕ) (le : now_of birth h ≤ to) (m : Model) where
  abbrev more : List Entry
  more = h ++ ticked who upto to ∷ []

  there : now_of birth more ≡ to
  there = now_snoc birth h (ticked who upto to)

  late : (t : ℕ) → to ≤ t → table_at p birth m more t ≡ table_at p birth m h t
  late t b =
      read_whole p.edges p.caps (status p birth m) t more birth empty_table (onward_more birth h (ticked who upto to) o le) (omega (arith, b, there))
      ∙ (λ i. close_minutes p.edges p.caps (status p birth m) (there i) (t - there i) (whole_snoc p.edges p.caps (status p birth m) birth empty_table h (ticked who upto to) i))
      ∙ through p.edges p.caps (status p birth m) (now_of birth h) to t (whole p.edges p.caps (status p birth m) birth empty_table h) le b
      ∙ sym (read_whole p.edges p.caps (status p birth m) t h birth empty_table o (omega (arith, le, b)))

  pub tables_stay : (t : ℕ) → table_at p birth m more t ≡ table_at p birth m h t
  tables_stay t =
      split (nat_lt t to)
      (λ q. tick_not_read p birth (status p birth m) t who upto to [] (ltb-true t to q) h birth empty_table)
      (λ q. late t (ltb-false t to q))

  pub bases_stay : (t : ℕ) → base_at p birth m more t ≡ base_at p birth m h t
  bases_stay t = base_of_prefix p birth m h (ticked who upto to ∷ []) t refl (tables_stay (t - 1))
