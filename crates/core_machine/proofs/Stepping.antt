-- A step of a book: nothing but the room changed, or the request was answered.
use Rattle.std.proofs.Common.{◌≡◌, ℕ, ◌+◌, ◌≤◌, true, false, List, [], ◌∷◌, ◌++◌, length, refl, sym, ap, subst, ◌∙◌}
use Rattle.std.specs.Prelude.{Result, Ok, Err, IsErr}
use Rattle.std.specs.declared.alloc.AllocError.{AllocError}
use Rattle.gt_base.specs.Machines.{asked}
use Rattle.gt_base.specs.declared.events.Prioritised.{Prioritised}
use Rattle.gt_base.specs.declared.events.Signal.{Signal}
use Rattle.gt_base.specs.declared.requests.Who.{Who}
use Rattle.gt_base.specs.declared.requests.Actor.{Actor}
use Rattle.gt_base.specs.declared.requests.Request.{Request}
use Rattle.gt_base.specs.declared.requests.Request.TheVariants.{Raise}
use Rattle.gt_base.specs.declared.requests.Reply.{Reply}
use Rattle.gt_base.specs.declared.requests.Reply.TheVariants.{Queued}
use Rattle.gtrbac_model.specs.Base.{queued_at}
use Rattle.gtrbac_model.specs.Reply.{answer}
use Rattle.gtrbac_model.specs.Sessions.{applied}
use Rattle.instant_bases.specs.Timelines.{TimelineView}
use Rattle.session_table.specs.Tables.{table_of}
use Rattle.time_engine.specs.Plans.{IsTimeline, with_pending}
use Rattle.core_machine.specs.Books.{reply_in}
use Rattle.core_machine.specs.Coherent.{Coherent, IsCoherent, IsReady, Same, point_of, view_of}
use Rattle.core_machine.specs.Steps.{IsStep, MayAsk, with_signals}
use Rattle.core_machine.specs.declared.states.State.{State}
use Rattle.core_machine.proofs.Asks.{Adds, answered, kept_changed, kept_raised, signals_only}
use Rattle.core_machine.proofs.Sames.{same_answered, same_kept, same_ready, same_refused, same_view}
use Rattle.core_machine.proofs.Ticks.{kept_again}

clash : false ≡ true → ⊥
clash e = cc

-- for want of memory nothing but the room changed
pub no_step : (s t : State) (who : Who) (actor : Actor) (request : Request) (r : Result Reply AllocError) → IsErr r → Same s t → IsCoherent s → IsStep s t who actor request r
no_step s t who actor request (Ok reply) failed same k = absurd (clash failed)
no_step s t who actor request (Err e) failed same k = record { kept = same_kept s t same k; ok = tt; err = same_view s t same }

-- a step from where only the room is another
pub step_after : (s t u : State) (who : Who) (actor : Actor) (request : Request) (r : Result Reply AllocError) → Same s t → IsStep t u who actor request r → IsStep s u who actor request r
step_after s t u who actor request r same a = record {
  kept = a.kept;
  ok = same_answered r s t who actor request (view_of u) same a.ok;
  err = same_refused r s t (view_of u) same a.err;
}

pub may_after : (s t : State) (actor : Actor) (request : Request) → Same s t → MayAsk s actor request → MayAsk t actor request
may_after s t actor request same may = record { ready = same_ready s t actor request same may.ready; somebody = may.somebody }

-- what somebody is answered from the timeline and the table is the reply
told : (s : State) (actor : Actor) (request : Request) (reply : Reply) → MayAsk s actor request → IsTimeline s.line.line
    → answer s.ground.policy (point_of s.line.line (table_of s.table)) actor request ≡ reply → reply ≡ reply_in (view_of s) actor request
told s actor request reply may line is =
    answered s.ground.policy s.birth s.entries.items s.line.line (table_of s.table) s.table.charged_to may.ready.kept line actor request reply may.somebody is

-- also where only the room is another
pub told_after : (s t : State) (actor : Actor) (request : Request) (reply : Reply) → Same s t → MayAsk s actor request → IsTimeline s.line.line
    → answer s.ground.policy (point_of s.line.line (table_of s.table)) actor request ≡ reply → reply ≡ reply_in (view_of t) actor request
told_after s t actor request reply same may line is = subst (λ b. reply ≡ reply_in b actor request) (sym (same_view s t same)) (told s actor request reply may line is)

-- policy and birth stay, and the entry came
pub record Entered (s t : State) (who : Who) (actor : Actor) (request : Request) (reply : Reply) : Type 0 where
  pub ground : t.ground ≡ s.ground
  pub birth : t.birth ≡ s.birth
  pub entries : t.entries.items ≡ s.entries.items ++ asked who actor request reply ∷ []

-- the request changed the table, and these signals came
pub record Changed (s t : State) (actor : Actor) (request : Request) (reply : Reply) (xs : List Signal) : Type 0 where
  pub line : t.line.line ≡ with_signals s.line.line xs
  pub charged_to : t.table.charged_to ≡ s.table.charged_to
  pub queues : (n : ℕ) → queued_at n request reply ≡ []
  pub adds : Adds s.line.line.now actor request reply
  pub table : applied s.line.line.now actor request reply (record (table_of s.table) { signals = [] }) ≡ record (table_of t.table) { signals = xs }
  pub begun : (table_of t.table).begun ≤ length s.entries.items + 1

module _ (s t : State) (who : Who) (actor : Actor) (request : Request) (reply : Reply) (may : MayAsk s actor request) (line : IsTimeline s.line.line)
    (answers : answer s.ground.policy (point_of s.line.line (table_of s.table)) actor request ≡ reply) (entered : Entered s t who actor request reply) where
  abbrev ready : IsReady s actor request
  ready = may.ready

  is : reply ≡ reply_in (view_of s) actor request
  is = told s actor request reply may line answers

  entered_step : t.line.line.trace ≡ s.line.line.trace
      → Coherent s.ground.policy s.birth (s.entries.items ++ asked who actor request reply ∷ []) t.line.line (table_of t.table) t.table.charged_to
      → IsStep s t who actor request (Ok reply)
  entered_step trace k = record {
    kept = subst (λ g. Coherent g.policy t.birth t.entries.items t.line.line (table_of t.table) t.table.charged_to) (sym entered.ground)
        (subst (λ b. Coherent s.ground.policy b t.entries.items t.line.line (table_of t.table) t.table.charged_to) (sym entered.birth)
        (subst (λ h. Coherent s.ground.policy s.birth h t.line.line (table_of t.table) t.table.charged_to) (sym entered.entries) k));
    ok = record {
      gains = record { named = entered.ground; birth = entered.birth; entries = entered.entries };
      trace = trace;
      reply_is = is;
    };
    err = tt;
  }

  pub changed_step : (xs : List Signal) → Changed s t actor request reply xs → IsStep s t who actor request (Ok reply)
  changed_step xs c =
      entered_step (ap (λ (v : TimelineView). v.trace) (c.line ∙ signals_only s.line.line xs))
      (kept_again _ _ _ _ _ _ _ _ _ _ refl c.line refl c.charged_to
      (kept_changed s.ground.policy s.birth s.entries.items s.line.line (table_of s.table) s.table.charged_to ready.kept line who actor request reply ready.named ready.room is
      (table_of t.table) xs c.queues c.adds c.table c.begun))

-- where it queued an event
pub raised_step : (s t : State) (who : Who) (actor : Actor) (head : Prioritised) (delay due : ℕ) → MayAsk s actor (Raise head delay) → IsTimeline s.line.line
    → answer s.ground.policy (point_of s.line.line (table_of s.table)) actor (Raise head delay) ≡ Queued due → Entered s t who actor (Raise head delay) (Queued due)
    → t.line.line ≡ with_pending s.line.line due head → table_of t.table ≡ table_of s.table → t.table.charged_to ≡ s.table.charged_to
    → IsStep s t who actor (Raise head delay) (Ok (Queued due))
raised_step s t who actor head delay due may line answers entered new_line same_table same_charged =
    entered_step s t who actor (Raise head delay) (Queued due) may line answers entered (ap (λ (v : TimelineView). v.trace) new_line)
    (kept_again _ _ _ _ _ _ _ _ _ _ refl new_line same_table same_charged
    (kept_raised s.ground.policy s.birth s.entries.items s.line.line (table_of s.table) s.table.charged_to may.ready.kept line who actor head delay due may.ready.named may.ready.room
    (is s t who actor (Raise head delay) (Queued due) may line answers entered)))
