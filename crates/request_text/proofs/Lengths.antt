-- How long replies are.
use Rattle.std.proofs.Common.{◌≡◌, ℕ, zero, suc, ◌+◌, ◌*◌, ◌<◌, ◌≤◌, ◌^◌, true, false, ◌&&◌, List, [], ◌∷◌, ◌++◌, length, get_or, flat_map, Option, Some, None, decimal, ap, arith, length-append}
use Rattle.std.specs.Prelude.{codes, nat_le, nat_lt}
use Rattle.std.specs.List.{list_all}
use Rattle.std.proofs.lemmas.Fmt.{length-decimal-le}
use borrow.Author.Tests.{ltb-true}
use Rattle.gt_base.specs.Names.{is_name, is_letter, is_name_byte}
use Rattle.gt_base.specs.Held.{RoleWalk}
use Rattle.gt_base.specs.declared.events.RoleId.{RoleId}
use Rattle.gt_base.specs.declared.policies.HierEdge.{HierEdge}
use Rattle.gt_base.specs.declared.requests.Seen.{Seen}
use Rattle.gt_base.specs.declared.requests.Seen.TheVariants.{Unblocked, Blocked, Absent}
use Rattle.gt_base.specs.declared.requests.Decision.{Decision}
use Rattle.gt_base.specs.declared.requests.Decision.TheVariants.{Permit, NoActive, NoGrant, Shut}
use Rattle.gt_base.specs.declared.requests.Refusal.{Refusal}
use Rattle.gt_base.specs.declared.requests.Refusal.TheVariants.{NoUser, NotAdmin, Beyond, SessionsFull, NoSession, NotYours, NotActive, Already, Disabled, NotAssigned, RoleFull, UserFull, DaySpent}
use Rattle.gt_base.specs.declared.requests.Reply.{Reply}
use Rattle.gt_base.specs.declared.requests.Reply.TheVariants.{Now, Truth, Event, Queued, Session, Done, Active, Decided, Refused}
use Rattle.policy_lines.proofs.Truths.{both}
use Rattle.policy_book.proofs.Places.{name_read}
use Rattle.policy_words.specs.Naming.{NamedPolicy, role_name}
use Rattle.policy_words.specs.Valid.{IsWellFormed}
use Rattle.request_text.specs.Replies.{arrow, junior_text, edge_text, edge_at, junior_name, walk_text, decision_text, refusal_text, seen_text, reply_text, reply_line}
use Rattle.request_text.specs.Walks.{step_name}
use Rattle.request_text.specs.Sizes.{IsSmallSeen, IsSmallRefusal, IsSmall, IsBriefDecision, IsBrief, decision_edges, edge_count}
use Rattle.request_text.proofs.Walks.{walk_is_led}

pub short_name : (n : List ℕ) → is_name n ≡ true → length n ≤ 32
short_name [] h = omega arith
short_name (b ∷ bs) h = omega (arith, ltb-true (length bs) 32 (both (is_letter b && list_all is_name_byte bs) (nat_lt (length bs) 32) h).1)

pub short_at : (ns : List (List ℕ)) (k : ℕ) → list_all is_name ns ≡ true → length (get_or ns k []) ≤ 32
short_at [] k h = omega arith
short_at (n ∷ ns) zero h = short_name n (both (is_name n) (list_all is_name ns) h).0
short_at (n ∷ ns) (suc k) h = short_at ns k (both (is_name n) (list_all is_name ns) h).1

module _ (np : NamedPolicy) (good : IsWellFormed np) where
  short_role : (r : RoleId) → length (role_name np.names r) ≤ 32
  short_role r =
      let parts = both (nat_le (length np.names.roles) 1_000 && list_all is_name np.names.roles) _ good.roles in
      let all = (both (nat_le (length np.names.roles) 1_000) (list_all is_name np.names.roles) parts.0).1 in
      omega (arith, ap length (name_read np.names.roles r.0), short_at np.names.roles r.0 all)

  short_junior : (n : ℕ) → length (junior_text np n) ≤ 32
  short_junior n = by (edge_at np n)
    where
      by : (o : Option HierEdge) → length (elim o as (λ _. List ℕ) [ Some e ↦ junior_name np e | None ↦ [] ]) ≤ 32
      by None = omega arith
      by (Some e) = short_role e.junior

  short_edge : (n : ℕ) → length (edge_text np n) ≤ 65
  short_edge n = by (edge_at np n)
    where
      by : (o : Option HierEdge) → length (elim o as (λ _. List ℕ) [ Some e ↦ role_name np.names e.senior ++ arrow ++ junior_name np e | None ↦ [] ]) ≤ 65
      by None = omega arith
      by (Some e) = omega (arith, length-append (role_name np.names e.senior ++ arrow) (junior_name np e), length-append (role_name np.names e.senior) arrow, short_role e.senior, short_role e.junior)

  short_steps : (ns : List ℕ) → length (flat_map (step_name np) ns) ≤ 33 * length ns
  short_steps [] = omega arith
  short_steps (n ∷ ns) = omega (arith, length-append (step_name np n) (flat_map (step_name np) ns), short_junior n, short_steps ns)

  short_walk : (w : RoleWalk) → length (walk_text np w) ≤ 32 + 33 * length w.edges
  short_walk w = omega (arith, ap length (walk_is_led np w), length-append (role_name np.names w.start) (flat_map (step_name np) w.edges), short_role w.start, short_steps w.edges)

  pub ten : (n : ℕ) → n < 2 ^ 32 → length (decimal n) ≤ 10
  ten n h = length-decimal-le 10 n (omega arith) (omega arith) (omega arith)

  short_seen : (s : Seen) → IsSmallSeen s → length (seen_text s) ≤ 80
  short_seen (Unblocked p) h = omega (arith, ten p (omega arith))
  short_seen (Blocked p) h = omega (arith, ten p (omega arith))
  short_seen Absent h = omega arith

  short_refusal : (r : Refusal) → IsSmallRefusal r → length (refusal_text r) ≤ 70
  short_refusal NoUser h = omega arith
  short_refusal NotAdmin h = omega arith
  short_refusal (Beyond n) h = omega (arith, ten n h)
  short_refusal SessionsFull h = omega arith
  short_refusal NoSession h = omega arith
  short_refusal NotYours h = omega arith
  short_refusal NotActive h = omega arith
  short_refusal Already h = omega arith
  short_refusal Disabled h = omega arith
  short_refusal NotAssigned h = omega arith
  short_refusal (RoleFull n) h = omega (arith, ten n h)
  short_refusal (UserFull n) h = omega (arith, ten n h)
  short_refusal (DaySpent n) h = omega (arith, ten n h)

  -- any reply

  short_decision : (d : Decision) → IsBriefDecision d → length (decision_text np d) ≤ 33_009
  short_decision (Permit w) h = omega (arith, short_walk w)
  short_decision NoActive h = omega arith
  short_decision NoGrant h = omega arith
  short_decision (Shut n) h = omega (arith, short_edge n)

  pub short_reply : (r : Reply) → IsSmall r → IsBrief r → length (reply_text np r) ≤ 33_009
  short_reply (Now t) small brief = omega arith
  short_reply (Truth true) small brief = omega arith
  short_reply (Truth false) small brief = omega arith
  short_reply (Event s) small brief = omega (arith, short_seen s small)
  short_reply (Queued t) small brief = omega arith
  short_reply (Session s) small brief = omega (arith, ten s.0 small)
  short_reply Done small brief = omega arith
  short_reply (Active w) small brief = omega (arith, short_walk w)
  short_reply (Decided d) small brief = short_decision d brief
  short_reply (Refused r) small brief = omega (arith, short_refusal r small)

  pub longest : (r : Reply) → IsSmall r → IsBrief r → length (reply_line np r) ≤ 33_010
  longest r small brief = omega (arith, length-append (reply_text np r) (codes "\n"), short_reply r small brief)

  -- by the edges of its walk

  decision_within : (d : Decision) → length (decision_text np d) ≤ 80 + 33 * decision_edges d
  decision_within (Permit w) = omega (arith, short_walk w)
  decision_within NoActive = omega arith
  decision_within NoGrant = omega arith
  decision_within (Shut n) = omega (arith, short_edge n)

  text_within : (r : Reply) → IsSmall r → length (reply_text np r) ≤ 80 + 33 * edge_count r
  text_within (Now t) small = omega arith
  text_within (Truth true) small = omega arith
  text_within (Truth false) small = omega arith
  text_within (Event s) small = omega (arith, short_seen s small)
  text_within (Queued t) small = omega arith
  text_within (Session s) small = omega (arith, ten s.0 small)
  text_within Done small = omega arith
  text_within (Active w) small = omega (arith, short_walk w)
  text_within (Decided d) small = decision_within d
  text_within (Refused r) small = omega (arith, short_refusal r small)

  pub line_within : (r : Reply) → IsSmall r → length (reply_line np r) ≤ 81 + 33 * edge_count r
  line_within r small = omega (arith, length-append (reply_text np r) (codes "\n"), text_within r small)

pub ruleset line_bounds = (line_within)
