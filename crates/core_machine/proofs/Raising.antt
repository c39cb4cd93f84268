-- The answers to a request for an event, and to those that end activations.
use Rattle.std.proofs.Common.{◌≡◌, ℕ, ◌+◌, ◌<◌, ◌≤◌, Bool, true, false, not, nat_lt, List, [], length, filter, count_by, refl, sym, ◌∙◌, ap, if◌then◌else◌}
use Rattle.std.proofs.lemmas.Bool.{le-ltb, lt-ltb}
use Rattle.std.proofs.lemmas.List.{length-map}
use Rattle.std.proofs.lemmas.List.Sums.{length-filter}
use Rattle.gt_base.specs.Happening.{Fluents}
use Rattle.gt_base.specs.Sets.{has}
use Rattle.gt_base.specs.declared.policies.Caps.{Caps}
use Rattle.gt_base.specs.declared.policies.HierEdge.{HierEdge}
use Rattle.gt_base.specs.declared.requests.Request.{Request}
use Rattle.gt_base.specs.declared.events.Prioritised.{Prioritised}
use Rattle.gt_base.specs.declared.events.SessionId.{SessionId}
use Rattle.gt_base.specs.declared.events.Signal.{Signal}
use Rattle.gt_base.specs.declared.events.UserId.{UserId}
use Rattle.gt_base.specs.declared.requests.Actor.{Actor}
use Rattle.gt_base.specs.declared.requests.Actor.TheVariants.{User}
use Rattle.gt_base.specs.declared.requests.Request.TheVariants.{Raise, OpenSession, CloseSession}
use Rattle.gt_base.specs.declared.requests.Refusal.TheVariants.{NoUser, NotAdmin, Beyond}
use Rattle.gt_base.specs.declared.requests.Reply.{Reply}
use Rattle.gt_base.specs.declared.requests.Reply.TheVariants.{Queued, Refused, Done}
use Rattle.gt_base.specs.declared.limits.TheConstants.{LAST_MINUTE}
use Rattle.gtrbac_model.specs.Policy.{Policy}
use Rattle.gtrbac_model.specs.Reply.{Point, answer, is_admin}
use Rattle.gtrbac_model.specs.Sessions.{Table, applied, signal_of}
use Rattle.instant_bases.specs.Timelines.{TimelineView}
use Rattle.session_table.specs.Opened.{in_session}
use Rattle.session_table.specs.Replies.{AnswersAt}
use Rattle.time_engine.specs.Traces.{model_of}
use Rattle.core_machine.specs.Coherent.{point_of}

module _ (p : Policy) (pt : Point) (actor : Actor) (head : Prioritised) (delay : ℕ) where
  pub raise_unentitled : is_admin p actor ≡ false → answer p pt actor (Raise head delay) ≡ Refused NotAdmin
  raise_unentitled e =
      λ i. if not (e i) then Refused NotAdmin else if nat_lt LAST_MINUTE (pt.now + 1 + delay) then Refused (Beyond (pt.now + 1 + delay)) else Queued (pt.now + 1 + delay)

  abbrev by_due : Bool → Bool → ℕ → Reply
  by_due admin late due = if not admin then Refused NotAdmin else if late then Refused (Beyond due) else Queued due

  pub raise_in_time : (due : ℕ) → is_admin p actor ≡ true → due ≡ pt.now + 1 + delay → pt.now + 1 + delay ≤ LAST_MINUTE → answer p pt actor (Raise head delay) ≡ Queued due
  raise_in_time due e is le =
      (λ i. by_due (e i) (le-ltb LAST_MINUTE (pt.now + 1 + delay) le i) (pt.now + 1 + delay)) ∙ ap (λ (t : ℕ). Queued t) (sym is)

  pub raise_beyond : (due : ℕ) → is_admin p actor ≡ true → due ≡ pt.now + 1 + delay → LAST_MINUTE < pt.now + 1 + delay → answer p pt actor (Raise head delay) ≡ Refused (Beyond due)
  raise_beyond due e is lt =
      (λ i. by_due (e i) (lt-ltb LAST_MINUTE (pt.now + 1 + delay) lt i) (pt.now + 1 + delay)) ∙ ap (λ (t : ℕ). Refused (Beyond t)) (sym is)

-- a close ends so many activations
pub close_ends : (now : ℕ) (actor : Actor) (n : SessionId) (tb tb' : Table) (xs : List Signal) → applied now actor (CloseSession n) Done (record tb { signals = [] }) ≡ record tb' { signals = xs }
    → length xs ≡ count_by (in_session n) tb.active
close_ends now actor n tb tb' xs e =
    sym (ap (λ (t : Table). length t.signals) e) ∙ length-map (filter (in_session n) tb.active) (signal_of false) ∙ length-filter (in_session n) tb.active

-- the operator opens no session
pub open_for_none : (p : Policy) (pt : Point) (actor : Actor) → ((u : UserId) → actor ≡ User u → ⊥) → answer p pt actor OpenSession ≡ Refused NoUser
open_for_none p pt (User u) other = absurd (other u refl)
open_for_none p pt _ other = refl

-- what is answered in the parts of an instant is answered here
pub at_here : (p : Policy) (v : TimelineView) (tb : Table) (actor : Actor) (request : Request) (reply : Reply) (edges : List HierEdge) (caps : List Caps) (s : Fluents) (now : ℕ)
    → edges ≡ p.edges → caps ≡ p.caps → s ≡ v.status → now ≡ v.now → AnswersAt edges caps (has s) now tb actor request reply → answer p (point_of v tb) actor request ≡ reply
at_here p v tb actor request reply edges caps s now edges_are caps_are status_is now_is answers =
    (λ i. answer (record p { edges = sym edges_are i; caps = sym caps_are i }) (record { now = sym now_is i; status = has (sym status_is i); set = model_of v.trace v.now; table = tb }) actor request)
    ∙ answers p (point_of v tb)
