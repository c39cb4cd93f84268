-- The history of a made script stays below the limit.
use Rattle.std.proofs.Common.{◌≡◌, ℕ, zero, suc, ◌+◌, ◌-◌, ◌*◌, ◌≤◌, ◌<◌, Bool, true, false, nat_eq, List, [], ◌∷◌, ◌++◌, flat_map, length, refl, sym, ap, ◌∙◌, subst, arith}
use Rattle.std.specs.Prelude.{if◌then◌else◌}
use Rattle.std.specs.List.{range_with_len, AllByRecursion}
use Rattle.gt_base.specs.declared.requests.Request.TheVariants as requests
use Rattle.gt_base.specs.declared.requests.Reply.{Reply}
use Rattle.gt_base.specs.declared.requests.Entry.{Entry}
use Rattle.gt_base.specs.declared.limits.TheConstants.{LAST_MINUTE, MAX_STEPS}
use Rattle.gtrbac_model.specs.Status.{Model}
use Rattle.gtrbac_model.specs.Base.{queued_at}
use Rattle.gtrbac_model.specs.History.{Legal, now_of}
use Rattle.policy_gen.specs.Draws.{Round, round}
use Rattle.policy_gen.specs.Texts.{count_of}
use Rattle.policy_gen.specs.declared.scripts.TheConstants.{FIRST_MINUTE}
use Rattle.request_text.specs.declared.lines.Line.{Line}
use Rattle.gen_laws.specs.Made.{role_at, made_policy}
use Rattle.gen_laws.specs.Played.{is_enabled, opening_said, request_said, round_said, script_moves}
use Rattle.gen_laws.specs.Following.{FollowsLines}
use Rattle.gen_laws.proofs.Counting.{costs, IsCalm, IsPaid, follow, at_birth}
use Rattle.gen_laws.proofs.Script.{minute_low}
use Rattle.gen_laws.proofs.Stirring.{hours_rise}

-- the last minute that a made script can come to
abbrev most : ℕ
most = 19_681_920

costs_both : (as' bs : List Line) → costs (as' ++ bs) ≡ costs as' + costs bs
costs_both [] bs = omega arith
costs_both (a ∷ as') bs = let rest : costs (as' ++ bs) ≡ costs as' + costs bs = costs_both as' bs in omega (arith, rest)

abbrev AreCalm : List Line → Type 0
AreCalm ls = AllByRecursion (IsCalm most) ls

calm_both : (as' bs : List Line) → AreCalm as' → AreCalm bs → AreCalm (as' ++ bs)
calm_both [] bs h g = g
calm_both (a ∷ as') bs h g = (h.0, calm_both as' bs h.1 g)

calm_front : (as' bs : List Line) → AreCalm (as' ++ bs) → AreCalm as'
calm_front [] bs h = tt
calm_front (a ∷ as') bs h = (h.0, calm_front as' bs h.1)

-- no made request queues an event
asks_calmly : (r : Round) (t : ℕ) (reply : Reply) → queued_at t (request_said r) reply ≡ []
asks_calmly r t reply = by (nat_eq r.choice 0) (nat_eq r.choice 1) (nat_eq r.choice 2)
  where
    by : (a b c : Bool)
        → queued_at t (if a then requests.Activate (record { 0 = r.user }) (role_at (r.user - 1)) else if b then requests.Check (record { 0 = r.user }) (record { 0 = r.other - 1 })
        else if c then requests.Deactivate (record { 0 = r.user }) (role_at (r.user - 1)) else requests.Status (is_enabled r.other)) reply ≡ []
    by true b c = refl
    by false true c = refl
    by false false true = refl
    by false false false = refl

openings_cost : (a n : ℕ) → costs (flat_map opening_said (range_with_len a n)) ≡ 4 * n
openings_cost a zero = refl
openings_cost a (suc n) = let rest : costs (flat_map opening_said (range_with_len (a + 1) n)) ≡ 4 * n = openings_cost (a + 1) n in omega (arith, rest)

calm_openings : (a n : ℕ) → AreCalm (flat_map opening_said (range_with_len a n))
calm_openings a zero = tt
calm_openings a (suc n) = (tt, (λ t reply. refl, calm_openings (a + 1) n))

module _ (seed k : ℕ) where
  rounds_cost : (a n : ℕ) → costs (flat_map (round_said seed k) (range_with_len a n)) ≡ 5 * n
  rounds_cost a zero = refl
  rounds_cost a (suc n) = let rest : costs (flat_map (round_said seed k) (range_with_len (a + 1) n)) ≡ 5 * n = rounds_cost (a + 1) n in omega (arith, rest)

  calm_rounds : (a n : ℕ) → a + n ≤ 100_000 → AreCalm (flat_map (round_said seed k) (range_with_len a n))
  calm_rounds a zero le = tt
  calm_rounds a (suc n) le = (omega (arith, minute_low seed k (a + 1), le), (tt, (asks_calmly (round seed k a), calm_rounds (a + 1) n (omega (arith, le)))))

pub history_is_short : (seed size : ℕ) → 1 ≤ size → size ≤ 100_000 → (front rest : List Line) → front ++ rest ≡ script_moves seed size
    → (h : List Entry) (m : Model) → FollowsLines front h → Legal (made_policy size).policy FIRST_MINUTE h m → length h < MAX_STEPS
history_is_short seed size low high front rest is h m made legal =
    let k : ℕ = count_of size in
    let opened : List Line = flat_map opening_said (range_with_len 1 k) in
    let played : List Line = flat_map (round_said seed k) (range_with_len 0 size) in
    let calm : AreCalm front = calm_front front rest (subst AreCalm (sym is) (calm_both opened played (calm_openings 1 k) (calm_rounds seed k 0 size (omega (arith, high))))) in
    let paid : IsPaid k FIRST_MINUTE most limit m h (0 + costs front) = follow k FIRST_MINUTE most limit m front h [] 0 calm made legal.steps (at_birth k FIRST_MINUTE most limit m (omega arith)) in
    let part : costs front + costs rest ≡ costs (script_moves seed size) = sym (costs_both front rest) ∙ ap costs is in
    let whole : costs (script_moves seed size) ≡ costs opened + costs played = costs_both opened played in
    omega (arith, paid.paid, paid.at_most, paid.within, part, whole, openings_cost 1 k, rounds_cost seed k 0 size, high, hours_rise (now_of FIRST_MINUTE h) most paid.within)
  where
    limit : most ≤ LAST_MINUTE
    limit = omega arith
