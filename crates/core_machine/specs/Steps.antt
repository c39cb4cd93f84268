-- Words of the steps of a book.
use Rattle.std.specs.Prelude.{◌≡◌, ℕ, Bool, true, false, List, [], ◌∷◌, ◌||◌, Result, Ok, Err, IfOk, OnErr}
use Rattle.gt_base.specs.Sets.{has}
use Rattle.gt_base.specs.declared.machines.StepFault.{StepFault}
use Rattle.gt_base.specs.declared.machines.StepFault.TheVariants.{Memory}
use Rattle.std.specs.declared.alloc.AllocError.{AllocError}
use Rattle.gt_base.specs.declared.events.Signal.{Signal}
use Rattle.gt_base.specs.declared.requests.Actor.{Actor}
use Rattle.gt_base.specs.declared.requests.Actor.TheVariants.{Nobody}
use Rattle.gt_base.specs.declared.requests.Request.{Request}
use Rattle.gt_base.specs.declared.requests.Who.{Who}
use Rattle.gt_base.specs.declared.requests.Reply.{Reply}
use Rattle.gtrbac_model.specs.Policy.{Policy}
use Rattle.gtrbac_model.specs.Base.{queued_at}
use Rattle.gtrbac_model.specs.History.{IsNextStop}
use Rattle.gtrbac_model.specs.Sessions.{Table, applied}
use Rattle.instant_bases.specs.Timelines.{TimelineView, stirs_in}
use Rattle.session_table.specs.NextDrops.{is_any_capped}
use Rattle.session_table.specs.Plans.{DropsView, IsDropPlan}
use Rattle.time_engine.specs.Plans.{Fits, IsPlan, PlanView, with_signal}
use Rattle.core_machine.specs.Books.{Asks}
use Rattle.core_machine.specs.Coherent.{IsCoherent, IsReady, view_of}
use Rattle.core_machine.specs.declared.states.State.{State}

abbrev pub is_nobody : Actor → Bool
is_nobody Nobody = true
is_nobody _ = false

-- a user or the operator may ask this, and one entry more may be added
pub record MayAsk (s : State) (actor : Actor) (request : Request) : Type 0 where
  pub ready : IsReady s actor request
  pub somebody : is_nobody actor ≡ false

-- the request stands in the history with its reply, which is the definition's; where memory failed
-- the book is as it was
pub record IsStep (old new : State) (who : Who) (actor : Actor) (request : Request)
    (result : Result Reply AllocError) : Type 0 where
  pub kept : IsCoherent new
  pub ok : IfOk result (λ reply. Asks (view_of old) who actor request reply (view_of new))
  pub err : OnErr result (view_of new ≡ view_of old)

-- the answered request queues nothing and leaves the table
pub record IsStill (actor : Actor) (request : Request) (reply : Reply) : Type 0 where
  pub queues : (t : ℕ) → queued_at t request reply ≡ []
  pub leaves : (now : ℕ) (tb : Table) → applied now actor request reply tb ≡ tb

-- with these signals more
abbrev pub with_signals : TimelineView → List Signal → TimelineView
with_signals v [] = v
with_signals v (x ∷ xs) = with_signals (with_signal v x) xs

-- whether the timeline raises something at the instant, or a cap ends an activation
abbrev pub moves : Policy → TimelineView → Table → ℕ → Bool
moves p v tb t = stirs_in p v t || is_any_capped p.caps v.now tb t

-- the plan and the drops are those of the stop of a tick with this bound
pub record IsClosing (p : Policy) (v : TimelineView) (tb : Table) (upto : ℕ) (plan : PlanView)
    (drops : DropsView) : Type 0 where
  pub stop : IsNextStop (moves p v tb) v.now upto plan.at
  pub plans : IsPlan p v plan
  pub fits : Fits v plan
  pub ends : IsDropPlan p.edges p.caps (has plan.status) v.now plan.at tb drops

-- want of memory as the fault of a step
abbrev pub as_step : {T : Type 0} → Result T AllocError → Result T StepFault
as_step (Ok x) = Ok x
as_step (Err e) = Err Memory
