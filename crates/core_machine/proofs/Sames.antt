-- Parts that are the same but for their room.
use Rattle.std.proofs.Common.{◌≡◌, ℕ, ◌<◌, length, refl, sym, subst, ◌∙◌}
use Rattle.std.specs.Prelude.{Result, Ok, Err, IfOk, OnOk, OnErr}
use Rattle.std.specs.declared.alloc.AllocError.{AllocError}
use Rattle.gt_base.specs.declared.machines.StepFault.TheVariants.{StepsFull}
use Rattle.std.proofs.lemmas.Result.{IfOk-weaker, on_err_weaker}
use Rattle.gt_base.specs.declared.requests.Who.{Who}
use Rattle.gt_base.specs.declared.requests.Actor.{Actor}
use Rattle.gt_base.specs.declared.requests.Request.{Request}
use Rattle.gt_base.specs.declared.requests.Reply.{Reply}
use Rattle.gt_base.specs.declared.limits.TheConstants.{MAX_STEPS}
use Rattle.gtrbac_model.specs.History.{IsNamedWish, ask}
use Rattle.session_table.specs.Tables.{table_of}
use Rattle.session_table.specs.declared.tables.Sessions.{Sessions}
use Rattle.core_machine.specs.Books.{Asks, BookView}
use Rattle.core_machine.specs.Coherent.{Coherent, IsCoherent, IsReady, Same, view_of}
use Rattle.session_table.specs.Plans.{DropsView}
use Rattle.time_engine.specs.Plans.{PlanView}
use Rattle.core_machine.specs.Steps.{IsClosing, as_step}
use Rattle.core_machine.specs.declared.states.State.{State}
use Rattle.core_machine.proofs.Ticks.{kept_again}

pub same_kept : (s t : State) → Same s t → IsCoherent s → IsCoherent t
same_kept s t same k =
    subst (λ g. Coherent g.policy t.birth t.entries.items t.line.line (table_of t.table) t.table.charged_to) (sym same.ground)
    (subst (λ b. Coherent s.ground.policy b t.entries.items t.line.line (table_of t.table) t.table.charged_to) (sym same.birth)
    (kept_again s.ground.policy s.birth s.entries.items t.entries.items s.line.line t.line.line (table_of s.table) (table_of t.table) s.table.charged_to t.table.charged_to same.entries same.line same.table same.charged_to k))

pub same_view : (s t : State) → Same s t → view_of t ≡ view_of s
same_view s t same = λ i. record { named = same.ground i; birth = same.birth i; entries = same.entries i; trace = (same.line i).trace }

pub same_ready : (s t : State) (actor : Actor) (request : Request) → Same s t → IsReady s actor request → IsReady t actor request
same_ready s t actor request same r = record {
  kept = same_kept s t same r.kept;
  room = subst (λ h. length h < MAX_STEPS) (sym same.entries) r.room;
  named = subst (λ g. IsNamedWish g.policy (ask actor request)) (sym same.ground) r.named;
}

pub same_asks : (s t : State) (who : Who) (actor : Actor) (request : Request) (reply : Reply) (new : BookView) → Same s t → Asks (view_of t) who actor request reply new → Asks (view_of s) who actor request reply new
same_asks s t who actor request reply new same a = subst (λ b. Asks b who actor request reply new) (same_view s t same) a

-- clauses of a result

pub on_err : {T E P : Type 0} (r : Result T E) → P → OnErr r P
on_err (Ok x) h = tt
on_err (Err e) h = h

pub same_answered : {E : Type 0} (r : Result Reply E) (s t : State) (who : Who) (actor : Actor) (request : Request) (new : BookView) → Same s t
    → IfOk r (λ reply. Asks (view_of t) who actor request reply new) → IfOk r (λ reply. Asks (view_of s) who actor request reply new)
same_answered r s t who actor request new same h =
    IfOk-weaker r (λ reply. Asks (view_of t) who actor request reply new) (λ reply. Asks (view_of s) who actor request reply new) (λ reply a. same_asks s t who actor request reply new same a) h

pub same_refused : {T E : Type 0} (r : Result T E) (s t : State) (new : BookView) → Same s t → OnErr r (new ≡ view_of t) → OnErr r (new ≡ view_of s)
same_refused r s t new same h = on_err_weaker r (λ e. e ∙ same_view s t same) h

-- a table that a refused request left
pub same_table : (s : State) (table : Sessions) → table_of table ≡ table_of s.table → table.charged_to ≡ s.table.charged_to → Same s (record s { table = table })
same_table s table same charged_to = record { ground = refl; birth = refl; line = refl; table = same; charged_to = charged_to; entries = refl }

pub same_trans : (s t u : State) → Same s t → Same t u → Same s u
same_trans s t u a b = record {
  ground = b.ground ∙ a.ground;
  birth = b.birth ∙ a.birth;
  line = b.line ∙ a.line;
  table = b.table ∙ a.table;
  charged_to = b.charged_to ∙ a.charged_to;
  entries = b.entries ∙ a.entries;
}

pub same_closing : (s t : State) (upto : ℕ) (plan : PlanView) (drops : DropsView) → Same s t → IsClosing s.ground.policy s.line.line (table_of s.table) upto plan drops → IsClosing t.ground.policy t.line.line (table_of t.table) upto plan drops
same_closing s t upto plan drops same c =
    subst (λ g. IsClosing g.policy t.line.line (table_of t.table) upto plan drops) (sym same.ground)
    (subst (λ v. IsClosing s.ground.policy v (table_of t.table) upto plan drops) (sym same.line) (subst (λ tb. IsClosing s.ground.policy s.line.line tb upto plan drops) (sym same.table) c))

-- want of memory as the fault of a step

pub step_ok : {T : Type 0} (a : Result T AllocError) (P : T → Type 0) → IfOk a P → IfOk (as_step a) P
step_ok (Ok x) P h = h
step_ok (Err e) P h = tt

pub step_err : {T : Type 0} (a : Result T AllocError) (P : Type 0) → OnErr a P → OnErr (as_step a) P
step_err (Ok x) P h = tt
step_err (Err e) P h = h

pub step_not_full : {T : Type 0} (a : Result T AllocError) → as_step a ≡ Err StepsFull → ⊥
step_not_full (Ok x) e = cc
step_not_full (Err x) e = cc

pub on_ok : {T E : Type 0} (r : Result T E) (P : Type 0) → P → OnOk r P
on_ok (Ok x) P h = h
on_ok (Err e) P h = tt
