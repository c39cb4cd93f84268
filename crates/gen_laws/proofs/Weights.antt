-- Activations and signals of a table: what closes and requests make of their numbers.
use Rattle.std.proofs.Common.{◌≡◌, ℕ, zero, suc, ◌+◌, ◌*◌, ◌≤◌, Bool, true, false, not, cond, List, [], ◌∷◌, ◌++◌, map, filter, length, Option, Some, None, refl, arith, length-append}
use Rattle.std.proofs.lemmas.List.{length-map}
use Rattle.gt_base.specs.declared.policies.HierEdge.{HierEdge}
use Rattle.gt_base.specs.declared.policies.Caps.{Caps}
use Rattle.gt_base.specs.declared.events.UserId.{UserId}
use Rattle.gt_base.specs.declared.requests.Actor.{Actor}
use Rattle.gt_base.specs.declared.requests.Actor.TheVariants.{Operator, User, Nobody}
use Rattle.gt_base.specs.declared.requests.Request.{Request}
use Rattle.gt_base.specs.declared.requests.Request.TheVariants as requests
use Rattle.gt_base.specs.declared.requests.Reply.{Reply}
use Rattle.gt_base.specs.declared.requests.Reply.TheVariants as replies
use Rattle.gtrbac_model.specs.Same.{same_session}
use Rattle.gtrbac_model.specs.Conflict.{Status}
use Rattle.gtrbac_model.specs.Sessions.{Table, Activation, charge, is_dropped, drops, signal_of, close_minute, close_minutes, applied, owner_of, is_active_in}

-- what passes and what does not are all
parts_of : {A : Type 0} (test : A → Bool) (xs : List A) → length (filter (λ x. not (test x)) xs) + length (filter test xs) ≡ length xs
parts_of test [] = refl
parts_of {A} test (x ∷ xs) = by (test x) (parts_of test xs)
  where
    by : (b : Bool) → length (filter (λ x. not (test x)) xs) + length (filter test xs) ≡ length xs
        → length (cond (not b) (x ∷ filter (λ x. not (test x)) xs) (filter (λ x. not (test x)) xs)) + length (cond b (x ∷ filter test xs) (filter test xs)) ≡ length (x ∷ xs)
    by true h = omega (arith, h)
    by false h = omega (arith, h)

-- an activation counts twice, since its end leaves a signal
abbrev pub weight : Table → ℕ
weight tb = 2 * length tb.active + length tb.signals

module _ (edges : List HierEdge) (caps : List Caps) where
  one_close : (s : Status) (t : ℕ) (tb : Table) → length (close_minute edges caps s t tb).active + length (close_minute edges caps s t tb).signals ≡ length tb.active
  one_close s t tb =
      omega (
        arith,
        parts_of (is_dropped edges caps s t (charge t tb)) tb.active,
        length-map (drops edges caps s t tb) (signal_of false),
      )

  no_more : (s : ℕ → Status) (from k : ℕ) (tb : Table) → length (close_minutes edges caps s from k tb).active ≤ length tb.active
  no_more s from zero tb = omega arith
  no_more s from (suc k) tb = omega (arith, no_more s from k tb, one_close (s (from + suc k)) (from + suc k) (close_minutes edges caps s from k tb))

  pub closes : (s : ℕ → Status) (from k : ℕ) (tb : Table)
      → length (close_minutes edges caps s from (suc k) tb).active + length (close_minutes edges caps s from (suc k) tb).signals ≤ length tb.active
  closes s from k tb = omega (arith, no_more s from k tb, one_close (s (from + suc k)) (from + suc k) (close_minutes edges caps s from k tb))

ending : (test : Activation → Bool) (tb : Table)
    → 2 * length (filter (λ a. not (test a)) tb.active) + length (tb.signals ++ map (signal_of false) (filter test tb.active)) ≤ weight tb + 3
ending test tb =
    omega (arith, parts_of test tb.active, length-append tb.signals (map (signal_of false) (filter test tb.active)), length-map (filter test tb.active) (signal_of false))

beginning : (a : Activation) (tb : Table) → 2 * length (tb.active ++ a ∷ []) + length (tb.signals ++ signal_of true a ∷ []) ≤ weight tb + 3
beginning a tb = omega (arith, length-append tb.active (a ∷ []), length-append tb.signals (signal_of true a ∷ []))

-- a request begins one activation at most
pub asking : (now : ℕ) (actor : Actor) (request : Request) (reply : Reply) (tb : Table) → weight (applied now actor request reply tb) ≤ weight tb + 3
asking now (User u) requests.OpenSession (replies.Session n) tb = omega arith
asking now Operator requests.OpenSession (replies.Session n) tb = omega arith
asking now Nobody requests.OpenSession (replies.Session n) tb = omega arith
asking now actor (requests.CloseSession n) replies.Done tb = ending (λ a. same_session a.session n) tb
asking now actor (requests.Activate n r) (replies.Active w) tb = by (owner_of tb n) refl
  where
    by : (o : Option UserId) → owner_of tb n ≡ o → weight (applied now actor (requests.Activate n r) (replies.Active w) tb) ≤ weight tb + 3
    by None e = rw e (omega arith)
    by (Some u) e = rw e (beginning (record { session = n; user = u; role = r; begun = now }) tb)
asking now actor (requests.Deactivate n r) replies.Done tb = ending (is_active_in n r) tb
asking now actor _ _ tb = omega arith
