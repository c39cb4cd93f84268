-- Replies are written without a byte below a space.
use Rattle.std.proofs.Common.{◌≡◌, ℕ, zero, suc, ◌<◌, ◌^◌, true, false, not, ◌&&◌, List, [], ◌∷◌, ◌++◌, flat_map, length, get_or, decimal, Option, Some, None, refl, ◌∙◌, ap, arith}
use Rattle.std.specs.Prelude.{nat_le, codes, slice_get, unwrap_or}
use Rattle.std.specs.List.{list_all}
use Rattle.gt_base.specs.Names.{is_name}
use Rattle.gt_base.specs.Held.{RoleWalk}
use Rattle.gt_base.specs.declared.events.RoleId.{RoleId}
use Rattle.gt_base.specs.declared.events.UserId.{UserId}
use Rattle.gt_base.specs.declared.policies.HierEdge.{HierEdge}
use Rattle.gt_base.specs.declared.requests.Seen.{Seen}
use Rattle.gt_base.specs.declared.requests.Seen.TheVariants.{Unblocked, Blocked, Absent}
use Rattle.gt_base.specs.declared.requests.Decision.{Decision}
use Rattle.gt_base.specs.declared.requests.Decision.TheVariants.{Permit, NoActive, NoGrant, Shut}
use Rattle.gt_base.specs.declared.requests.Refusal.{Refusal}
use Rattle.gt_base.specs.declared.requests.Refusal.TheVariants.{NoUser, NotAdmin, Beyond, SessionsFull, NoSession, NotYours, NotActive, Already, Disabled, NotAssigned, RoleFull, UserFull, DaySpent}
use Rattle.gt_base.specs.declared.requests.Reply.{Reply}
use Rattle.gt_base.specs.declared.requests.Reply.TheVariants.{Now, Truth, Event, Queued, Session, Done, Active, Decided, Refused}
use Rattle.civil_time.specs.Text.{civil_text}
use Rattle.policy_lines.specs.Plain.{is_word, is_solid, is_plain}
use Rattle.policy_lines.proofs.Truths.{both}
use Rattle.policy_lines.proofs.SpacedWords.{all_append, solid_plain}
use Rattle.policy_lines.proofs.SolidWords.{word_name, word_decimal, word_civil}
use Rattle.policy_book.proofs.Places.{name_read}
use Rattle.policy_words.specs.Naming.{NamedPolicy, role_name, user_name}
use Rattle.policy_words.specs.Valid.{IsWellFormed, repeats_later, are_names as are_all}
use Rattle.request_text.specs.Replies.{arrow, junior_text, junior_name, edge_text, edge_at, walk_text, refusal_text, seen_text, decision_text, reply_text}
use Rattle.request_text.specs.Walks.{step_name}
use Rattle.request_text.specs.Sizes.{IsSmallSeen, IsSmallRefusal, IsSmall}
use Rattle.request_text.proofs.Walks.{walk_is_led}

pub word_plain : (w : List ℕ) → is_word w ≡ true → is_plain w ≡ true
word_plain w h = solid_plain w (both _ (list_all is_solid w) h).1

pub plain_append : (a b : List ℕ) → is_plain a ≡ true → is_plain b ≡ true → is_plain (a ++ b) ≡ true
plain_append a b h k = all_append (nat_le 32) a b h k

pub plain_decimal : (n : ℕ) → n < 2 ^ 64 → is_plain (decimal n) ≡ true
plain_decimal n h = word_plain (decimal n) (word_decimal n h)

pub plain_civil : (t : ℕ) → is_plain (civil_text t) ≡ true
plain_civil t = word_plain (civil_text t) (word_civil t)

plain_seen : (s : Seen) → IsSmallSeen s → is_plain (seen_text s) ≡ true
plain_seen (Unblocked p) h = plain_append (codes "yes ") (decimal p) refl (plain_decimal p (omega arith))
plain_seen (Blocked p) h = plain_append (codes "blocked ") (decimal p) refl (plain_decimal p (omega arith))
plain_seen Absent h = refl

plain_refusal : (r : Refusal) → IsSmallRefusal r → is_plain (refusal_text r) ≡ true
plain_refusal NoUser h = refl
plain_refusal NotAdmin h = refl
plain_refusal (Beyond n) h = plain_append (codes "beyond ") (decimal n) refl (plain_decimal n (omega arith))
plain_refusal SessionsFull h = refl
plain_refusal NoSession h = refl
plain_refusal NotYours h = refl
plain_refusal NotActive h = refl
plain_refusal Already h = refl
plain_refusal Disabled h = refl
plain_refusal NotAssigned h = refl
plain_refusal (RoleFull n) h = plain_append (codes "role-full ") (decimal n) refl (plain_decimal n (omega arith))
plain_refusal (UserFull n) h = plain_append (codes "user-full ") (decimal n) refl (plain_decimal n (omega arith))
plain_refusal (DaySpent n) h = plain_append (codes "day-spent ") (decimal n) refl (plain_decimal n (omega arith))

plain_name : (n : List ℕ) → is_name n ≡ true → is_plain n ≡ true
plain_name n h = word_plain n (word_name n h)

plain_at : (ns : List (List ℕ)) (k : ℕ) → list_all is_name ns ≡ true → is_plain (get_or ns k []) ≡ true
plain_at [] k h = refl
plain_at (n ∷ ns) zero h = plain_name n (both (is_name n) (list_all is_name ns) h).0
plain_at (n ∷ ns) (suc k) h = plain_at ns k (both (is_name n) (list_all is_name ns) h).1

plain_of : (most : ℕ) (ns : List (List ℕ)) (k : ℕ) → are_all most ns ≡ true → is_plain (unwrap_or (slice_get ns k) []) ≡ true
plain_of most ns k h =
    ap is_plain (name_read ns k) ∙ plain_at ns k (both (nat_le (length ns) most) (list_all is_name ns) (both (nat_le (length ns) most && list_all is_name ns) (not (repeats_later ns)) h).0).1

module _ (np : NamedPolicy) (good : IsWellFormed np) where
  plain_role : (r : RoleId) → is_plain (role_name np.names r) ≡ true
  plain_role r = plain_of 1_000 np.names.roles r.0 good.roles

  pub plain_user : (u : UserId) → is_plain (user_name np.names u) ≡ true
  plain_user u = plain_of 10_000 np.names.users u.0 good.users

  plain_junior : (n : ℕ) → is_plain (junior_text np n) ≡ true
  plain_junior n = by (edge_at np n)
    where
      by : (o : Option HierEdge) → is_plain (elim o as (λ _. List ℕ) [ Some e ↦ junior_name np e | None ↦ [] ]) ≡ true
      by None = refl
      by (Some e) = plain_role e.junior

  plain_edge : (n : ℕ) → is_plain (edge_text np n) ≡ true
  plain_edge n = by (edge_at np n)
    where
      by : (o : Option HierEdge) → is_plain (elim o as (λ _. List ℕ) [ Some e ↦ role_name np.names e.senior ++ arrow ++ junior_name np e | None ↦ [] ]) ≡ true
      by None = refl
      by (Some e) = plain_append (role_name np.names e.senior ++ arrow) (junior_name np e) (plain_append (role_name np.names e.senior) arrow (plain_role e.senior) refl) (plain_role e.junior)

  plain_steps : (ns : List ℕ) → is_plain (flat_map (step_name np) ns) ≡ true
  plain_steps [] = refl
  plain_steps (n ∷ ns) = plain_append (junior_text np n) (flat_map (step_name np) ns) (plain_junior n) (plain_steps ns)

  plain_walk : (w : RoleWalk) → is_plain (walk_text np w) ≡ true
  plain_walk w = ap is_plain (walk_is_led np w) ∙ plain_append (role_name np.names w.start) (flat_map (step_name np) w.edges) (plain_role w.start) (plain_steps w.edges)

  plain_decision : (d : Decision) → is_plain (decision_text np d) ≡ true
  plain_decision (Permit w) = plain_append (codes "permit by ") (walk_text np w) refl (plain_walk w)
  plain_decision NoActive = refl
  plain_decision NoGrant = refl
  plain_decision (Shut n) = plain_append (codes "deny shut ") (edge_text np n) refl (plain_edge n)

  pub plain_reply : (r : Reply) → IsSmall r → is_plain (reply_text np r) ≡ true
  plain_reply (Now t) h = plain_append (codes "now ") (civil_text t) refl (plain_civil t)
  plain_reply (Truth true) h = refl
  plain_reply (Truth false) h = refl
  plain_reply (Event s) h = plain_seen s h
  plain_reply (Queued t) h = plain_append (codes "queued ") (civil_text t) refl (plain_civil t)
  plain_reply (Session s) h = plain_append (codes "session ") (decimal s.0) refl (plain_decimal s.0 (omega (arith, h)))
  plain_reply Done h = refl
  plain_reply (Active w) h = plain_append (codes "ok by ") (walk_text np w) refl (plain_walk w)
  plain_reply (Decided d) h = plain_decision d
  plain_reply (Refused r) h = plain_append (codes "refused ") (refusal_text r) refl (plain_refusal r h)
