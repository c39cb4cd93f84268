-- The passes that a lock begins with.
use Rattle.std.proofs.Common.{◌≡◌, ℕ, zero, suc, ◌+◌, ◌-◌, ◌≤◌, List, [], ◌∷◌, ◌++◌, false, ap, ◌∙◌, arith, add-zero}
use Rattle.std.specs.List.{insert}
use Rattle.atomic_table.specs.Table.{Me}
use Rattle.atomic_table.specs.Seated.{TableId}
use Rattle.gt_base.specs.declared.requests.Entry.{Entry}
use Rattle.turn_lock.specs.declared.view.SeatView.{SeatView}
use Rattle.turn_lock.specs.declared.view.Spot.{Spot}
use Rattle.turn_lock.specs.declared.view.Stage.TheVariants.{Idle}
use Rattle.turn_lock.specs.Turns.{plain, account, account_in}
use Rattle.turn_lock.specs.Holders.{Lock, Holder, newcomer, newcomers, turn_of}

abbrev pub Standing : Type 0 → Type 0
Standing M = Me (Spot M) (SeatView M)

module _ {M : Type 0} where
  -- what is seen of a pass with these fields
  abbrev pub seen_as : TableId → Standing M → ℕ → ℕ → Holder M
  seen_as t me k draws = record { site = record { table = t; root = me.0.root }; number = k; draws = draws; seen = (account_in me.0).seen; own = (account_in me.0).own; turn = turn_of me.0.stage; stays = false; keeps = false }

  pub new_pass : (l : Lock M) (first : List Entry) (k next : ℕ) (t : TableId) (me : Standing M) → t ≡ l.table → me ≡ (plain l.root (account k first) next Idle, []) → seen_as t me k 0 ≡ newcomer l first k
  new_pass l first k next t me is_table is = λ i. seen_as (is_table i) (is i) k 0

  pub newcomers_push : (l : Lock M) (first : List Entry) (k n : ℕ) → newcomers l first k n ++ newcomer l first (k + n) ∷ [] ≡ newcomers l first k (suc n)
  newcomers_push l first k zero = ap (λ (j : ℕ). newcomer l first j ∷ []) (add-zero k)
  newcomers_push l first k (suc n) = ap (λ (xs : List (Holder M)). newcomer l first k ∷ xs) (ap (λ (j : ℕ). newcomers l first (suc k) n ++ newcomer l first j ∷ []) (let e : k + suc n ≡ suc k + n = omega arith in e) ∙ newcomers_push l first (suc k) n)

  pub one_more : (l : Lock M) (first : List Entry) (k : ℕ) (xs : List (Holder M)) (p : Holder M) → 1 ≤ k → xs ≡ newcomers l first 1 (k - 1) → p ≡ newcomer l first k → xs ++ p ∷ [] ≡ newcomers l first 1 (k + 1 - 1)
  one_more l first k xs p low is new = (λ i. is i ++ new i ∷ []) ∙ (ap (λ (j : ℕ). newcomers l first 1 (k - 1) ++ newcomer l first j ∷ []) (let e : k ≡ 1 + (k - 1) = omega arith in e)
      ∙ (newcomers_push l first 1 (k - 1) ∙ ap (newcomers l first 1) (let e : suc (k - 1) ≡ k + 1 - 1 = omega arith in e)))

  pub all_of : (l : Lock M) (first : List Entry) (k n : ℕ) (xs : List (Holder M)) (p : Holder M) → k ≡ n → 1 ≤ n → xs ≡ newcomers l first 1 (k - 1) → p ≡ newcomer l first 0 → insert xs 0 p ≡ newcomers l first 0 n
  all_of l first k n xs p end low is new = (λ i. new i ∷ is i) ∙ ap (newcomers l first 0) (let e : suc (k - 1) ≡ n = omega arith in e)
