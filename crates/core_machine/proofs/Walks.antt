-- A least walk has no more edges than there are.
use Rattle.std.proofs.Common.{◌≡◌, ℕ, zero, suc, ◌+◌, ◌<◌, ◌≤◌, Bool, true, false, not, ◌&&◌, List, [], ◌∷◌, ◌++◌, length, map, filter, flat_map, Option, Some, None, count_by, refl, sym, ◌∙◌, ap, arith, if◌then◌else◌}
use Rattle.std.proofs.lemmas.List.{length-map}
use Rattle.std.specs.List.{enumerate_from, list_any}
use Rattle.gt_base.specs.Held.{RoleWalk}
use Rattle.gt_base.specs.declared.events.Fluent.TheVariants.{Enabled, Assigned}
use Rattle.gt_base.specs.declared.events.RoleId.{RoleId}
use Rattle.gt_base.specs.declared.events.UserId.{UserId}
use Rattle.gt_base.specs.declared.events.SessionId.{SessionId}
use Rattle.gt_base.specs.declared.policies.HierEdge.{HierEdge}
use Rattle.gt_base.specs.declared.requests.Actor.{Actor}
use Rattle.gt_base.specs.declared.requests.Request.TheVariants.{Activate}
use Rattle.gt_base.specs.declared.requests.Refusal.{Refusal}
use Rattle.gt_base.specs.declared.requests.Refusal.TheVariants.{NoSession, Already, Disabled, NotAssigned, RoleFull, UserFull, DaySpent}
use Rattle.gt_base.specs.declared.requests.Reply.{Reply}
use Rattle.gt_base.specs.declared.requests.Reply.TheVariants.{Active, Refused}
use Rattle.gtrbac_model.specs.Calendar.{day_of}
use Rattle.gtrbac_model.specs.Conflict.{Status}
use Rattle.gtrbac_model.specs.Graph.{Arc, Path, first_ending, walks_from, least_of_length, shortest, least_walk}
use Rattle.gtrbac_model.specs.Hierarchy.{activation_walk, all_roles, role_arcs, usable}
use Rattle.gtrbac_model.specs.Policy.{Policy}
use Rattle.gtrbac_model.specs.Reply.{Point, answer, session_causes, unless}
use Rattle.gtrbac_model.specs.Same.{same_role}
use Rattle.gtrbac_model.specs.Sessions.{owner_of, is_active_in, caps_of, reached, is_of}

abbrev Each : {A : Type 0} → (A → Type 0) → List A → Type 0
Each P [] = Unit {0}
Each P (x ∷ xs) = P x × Each P xs

each_append : {A : Type 0} (P : A → Type 0) (xs ys : List A) → Each P xs → Each P ys → Each P (xs ++ ys)
each_append P [] ys a b = b
each_append P (x ∷ xs) ys a b = (a.0, each_append P xs ys a.1 b)

each_flat : {A B : Type 0} (P : B → Type 0) (f : A → List B) (xs : List A) → ((a : A) → Each P (f a)) → Each P (flat_map f xs)
each_flat P f [] h = tt
each_flat P f (x ∷ xs) h = each_append P (f x) (flat_map f xs) (h x) (each_flat P f xs h)

each_map : {A B : Type 0} (P : A → Type 0) (Q : B → Type 0) (f : A → B) (xs : List A) → ((a : A) → P a → Q (f a)) → Each P xs → Each Q (map f xs)
each_map P Q f [] h a = tt
each_map P Q f (x ∷ xs) h a = (h x a.0, each_map P Q f xs h a.1)

module _ {N : Type 0} (same : N → N → Bool) (arcs : List (Arc N)) where
  abbrev Long : ℕ → List ℕ × N → Type 0
  Long n w = length w.0 ≡ n

  lengths : (n : ℕ) (a : N) → Each (Long n) (walks_from same arcs n a)
  lengths zero a = (refl, tt)
  lengths (suc n) a =
      each_flat (Long (suc n)) (λ (e : ℕ × Arc N). map (λ (w : List ℕ × N). (e.0 ∷ w.0, w.1)) (walks_from same arcs n e.1.to)) (filter (λ e. e.1.is_open && same e.1.from a) (enumerate_from 0 arcs))
      (λ e. each_map (Long n) (Long (suc n)) (λ (w : List ℕ × N). (e.0 ∷ w.0, w.1)) (walks_from same arcs n e.1.to) (λ w is. ap suc is) (lengths n e.1.to))

  first_long : (goal : N → Bool) (n : ℕ) (ws : List (List ℕ × N)) → Each (Long n) ws → (l : List ℕ) → first_ending goal ws ≡ Some l → length l ≡ n
  first_long goal n [] all l is = cc
  first_long goal n (w ∷ ws) all l is = by (goal w.1) is (first_long goal n ws all.1 l)
    where
      by : (b : Bool) → ◌≡◌ {A = Option (List ℕ)} (if b then Some w.0 else first_ending goal ws) (Some l) → (first_ending goal ws ≡ Some l → length l ≡ n) → length l ≡ n
      by true e on = let equal : w.0 ≡ l = cc in ap (λ (k : List ℕ). length k) (sym equal) ∙ all.0
      by false e on = on e

  least_long : (goal : N → Bool) (n : ℕ) (starts : List N) (q : Path N) → least_of_length same arcs goal n starts ≡ Some q → length q.arcs ≡ n
  least_long goal n [] q is = cc
  least_long goal n (a ∷ starts) q is = by (first_ending goal (walks_from same arcs n a)) refl is (least_long goal n starts q)
    where
      by : (o : Option (List ℕ)) → first_ending goal (walks_from same arcs n a) ≡ o
          → ◌≡◌ {A = Option (Path N)} (elim o [ Some w ↦ Some (record { start = a; arcs = w }) | None ↦ least_of_length same arcs goal n starts ]) (Some q)
          → (least_of_length same arcs goal n starts ≡ Some q → length q.arcs ≡ n) → length q.arcs ≡ n
      by (Some w) found e on =
          let equal : ◌≡◌ {A = Path N} (record { start = a; arcs = w }) q = cc in
          ap (λ (x : Path N). length x.arcs) (sym equal) ∙ first_long goal n (walks_from same arcs n a) (lengths n a) w found
      by None found e on = on e

  shortest_within : (goal : N → Bool) (starts : List N) (n k : ℕ) (q : Path N) → shortest same arcs goal starts n k ≡ Some q → length q.arcs < n + k
  shortest_within goal starts n zero q is = cc
  shortest_within goal starts n (suc k) q is = by (least_of_length same arcs goal n starts) refl is (shortest_within goal starts (n + 1) k q)
    where
      by : (o : Option (Path N)) → least_of_length same arcs goal n starts ≡ o
          → ◌≡◌ {A = Option (Path N)} (elim o [ Some p ↦ Some p | None ↦ shortest same arcs goal starts (n + 1) k ]) (Some q)
          → (shortest same arcs goal starts (n + 1) k ≡ Some q → length q.arcs < n + 1 + k) → length q.arcs < n + suc k
      by (Some p) found e on = let equal : p ≡ q = cc in omega (arith, least_long goal n starts q (found ∙ ap (λ (x : Path N). Some x) equal))
      by None found e on = omega (arith, on e)

length_enumerate : {A : Type 0} (n : ℕ) (xs : List A) → length (enumerate_from n xs) ≡ length xs
length_enumerate n [] = refl
length_enumerate n (x ∷ xs) = ap suc (length_enumerate (n + 1) xs)

walk_within : (edges : List HierEdge) (s : Status) (u : UserId) (r : RoleId) (w : RoleWalk) → activation_walk edges s u r ≡ Some w → length w.edges ≤ length edges
walk_within edges s u r w is = by (least_walk same_role arcs (same_role r) starts) refl is
  where
    arcs : List (Arc RoleId)
    arcs = role_arcs (usable s false) edges

    starts : List RoleId
    starts = filter (λ r. s (Assigned u r)) all_roles

    by : (o : Option (Path RoleId)) → least_walk same_role arcs (same_role r) starts ≡ o
        → ◌≡◌ {A = Option RoleWalk} (elim o [ None ↦ None | Some q ↦ Some (record { start = q.start; edges = q.arcs }) ]) (Some w) → length w.edges ≤ length edges
    by None found e = cc
    by (Some q) found e =
        let same : ◌≡◌ {A = RoleWalk} (record { start = q.start; edges = q.arcs }) w = cc in
        let few : length arcs ≡ length edges = length-map (enumerate_from 0 edges) (λ e. record { from = e.1.senior; to = e.1.junior; is_open = usable s false e.0 e.1 }) ∙ length_enumerate 0 edges in
        omega (arith, ap (λ (x : RoleWalk). length x.edges) same, shortest_within same_role arcs (same_role r) starts 0 (length arcs + 1) q found, few)

-- what an answer tells of its walk

unless_passed : (cs : List (Bool × Refusal)) (a : Reply) (w : RoleWalk) → unless cs a ≡ Active w → a ≡ Active w
unless_passed [] a w e = e
unless_passed ((true, why) ∷ cs) a w e = cc
unless_passed ((false, why) ∷ cs) a w e = unless_passed cs a w e

module _ (p : Policy) (pt : Point) (actor : Actor) (n : SessionId) (r : RoleId) (w : RoleWalk) (is : answer p pt actor (Activate n r) ≡ Active w) where
  pub walk_is_short : length w.edges ≤ length p.edges
  walk_is_short = by_owner (owner_of pt.table n) refl
    where
      causes : Bool → UserId → List (Bool × Refusal)
      causes none u =
          session_causes pt.table actor n
          ++ (list_any (is_active_in n r) pt.table.active, Already)
          ∷ (not (pt.status (Enabled r)), Disabled)
          ∷ (none, NotAssigned)
          ∷ (reached (caps_of p.caps r).total (count_by (λ a. same_role a.role r) pt.table.active), RoleFull (count_by (λ a. same_role a.role r) pt.table.active))
          ∷ (reached (caps_of p.caps r).user (count_by (is_of u r) pt.table.active), UserFull (count_by (is_of u r) pt.table.active))
          ∷ (reached (caps_of p.caps r).day (pt.table.charged u r (day_of pt.now)), DaySpent (pt.table.charged u r (day_of pt.now)))
          ∷ []

      by_owner : (o : Option UserId) → owner_of pt.table n ≡ o → length w.edges ≤ length p.edges
      by_owner None e = let refused : answer p pt actor (Activate n r) ≡ Refused NoSession = rw e refl in cc
      by_owner (Some u) e = by_walk (activation_walk p.edges pt.status u r) refl
        where
          by_walk : (o : Option RoleWalk) → activation_walk p.edges pt.status u r ≡ o → length w.edges ≤ length p.edges
          by_walk (Some x) walk =
              let answers : answer p pt actor (Activate n r) ≡ unless (causes false u) (Active x) = rw e (rw walk (rw e refl)) in
              let same : Active x ≡ Active w = unless_passed (causes false u) (Active x) w (sym answers ∙ is) in
              let equal : x ≡ w = cc in
              walk_within p.edges pt.status u r w (walk ∙ ap (λ (y : RoleWalk). Some y) equal)
          by_walk None walk =
              let answers : answer p pt actor (Activate n r) ≡ unless (causes true u) (Refused NotAssigned) = rw e (rw walk (rw e refl)) in
              let same : Refused NotAssigned ≡ Active w = unless_passed (causes true u) (Refused NotAssigned) w (sym answers ∙ is) in
              cc
