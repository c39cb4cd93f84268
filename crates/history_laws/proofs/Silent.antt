-- A request that is read for no table and queues nothing may be left out of a history, and so may all that only look.
use Rattle.std.proofs.Common.{◌≡◌, ℕ, ◌-◌, ◌≤◌, ◌||◌, Bool, true, false, nat_lt, List, [], ◌∷◌, ◌++◌, refl, sym, ◌∙◌, ap, subst, append_assoc, if◌then◌else◌}
use Rattle.gt_base.specs.Happening.{nothing}
use Rattle.gt_base.specs.Machines.{asked}
use Rattle.gt_base.specs.Sets.{set_of}
use Rattle.gt_base.specs.declared.policies.HierEdge.{HierEdge}
use Rattle.gt_base.specs.declared.policies.Caps.{Caps}
use Rattle.gt_base.specs.declared.requests.Who.{Who}
use Rattle.gt_base.specs.declared.requests.Actor.{Actor}
use Rattle.gt_base.specs.declared.requests.Request.{Request}
use Rattle.gt_base.specs.declared.requests.Request.TheVariants.{Now, Status, Seen, Raise, OpenSession, CloseSession, Activate, Deactivate, Active, Check}
use Rattle.gt_base.specs.declared.requests.Reply.{Reply}
use Rattle.gt_base.specs.declared.requests.Step.{Step}
use Rattle.gt_base.specs.declared.requests.Step.TheVariants.{Tick, Ask}
use Rattle.gt_base.specs.declared.requests.Entry.{Entry}
use Rattle.gtrbac_model.specs.Policy.{Policy}
use Rattle.gtrbac_model.specs.Conflict.{Status as StatusOf}
use Rattle.gtrbac_model.specs.Instant.{Settled}
use Rattle.gtrbac_model.specs.Status.{Model, since}
use Rattle.gtrbac_model.specs.Sessions.{Table, applied, read_table, read_step, close_minutes, empty_table, drops}
use Rattle.gtrbac_model.specs.Base.{status, periodic, requested, delayed, limited, queued_at, table_at}
use Rattle.gtrbac_model.specs.Reply.{reply_of}
use Rattle.gtrbac_model.specs.History.{Legal, IsExecutionModel, AreLegalAfter, IsLegalStep, IsNextStop, is_some_item, stirs, now_of, moved, point_after}
use Rattle.gtrbac_model.proofs.Append.{append-nil, requested-append}
use Rattle.history_laws.specs.Histories.{TellSame}
use Rattle.history_laws.proofs.Lasting.{steps_after, front_steps}
use Rattle.history_laws.specs.Looks.{ChangesNothing, is_look, looks, without_looks, LooksChangeNothing, LooksMayBeLeftOut}

-- a request that is read for no table and queues nothing
pub record IsSilent (actor : Actor) (request : Request) (reply : Reply) : Type 0 where
  pub leaves : (now : ℕ) (tb : Table) → applied now actor request reply tb ≡ tb
  pub raises : (t : ℕ) → queued_at t request reply ≡ []

-- histories that tell the same stir at the same instants, are answered from the same point, and allow the same steps
module _ (p : Policy) (birth : ℕ) (m : Model) (h k : List Entry) (same : TellSame p birth m h k) where
  stirs_same : stirs p birth m h ≡ stirs p birth m k
  stirs_same =
      λ i t. is_some_item (periodic p birth t ++ same.queues t i ++ delayed p birth m t ++ limited p (status p birth m (t - 1)) (λ f. since p birth m f (t - 1)) t)
      || is_some_item ((same.tables (t - 1) i).signals)
      || is_some_item (drops p.edges p.caps (status p birth m t) t (same.tables (t - 1) i))

  pub point_same : point_after p birth m h ≡ point_after p birth m k
  point_same =
      let tables : table_at p birth m h (now_of birth h) ≡ table_at p birth m k (now_of birth k) = ap (table_at p birth m h) same.nows ∙ same.tables (now_of birth k) in
      λ i. record {
        now = same.nows i;
        status = status p birth m (same.nows i);
        set = if nat_lt birth (same.nows i) then m (same.nows i) else nothing;
        table = tables i;
      }

  pub model_same : IsExecutionModel p birth h m → IsExecutionModel p birth k m
  model_same model t after_birth le =
      subst (λ b. Settled p.triggers b (status p birth m (t - 1)) (m t)) (same.bases t) (model t after_birth (subst (λ n. t ≤ n) (sym same.nows) le))

  step_same : (w : Step) → IsLegalStep p birth m h w → IsLegalStep p birth m k w
  step_same (Tick upto to) l = subst (λ f. IsNextStop f (now_of birth k) upto to) stirs_same (subst (λ n. IsNextStop (stirs p birth m h) n upto to) same.nows l)
  step_same (Ask actor request reply) l = l ∙ ap (λ pt. reply_of p pt actor request) point_same

joined : (p : Policy) (birth : ℕ) (m : Model) (g h hs : List Entry) → AreLegalAfter p birth m g h → AreLegalAfter p birth m (g ++ h) hs → AreLegalAfter p birth m g (h ++ hs)
joined p birth m g [] hs a b = subst (λ k. AreLegalAfter p birth m k hs) (append-nil g) b
joined p birth m g (e ∷ h) hs a b = (a.0, joined p birth m (g ++ e ∷ []) h hs a.1 (subst (λ k. AreLegalAfter p birth m k hs) (sym (append_assoc g (e ∷ []) h)) b))

-- where two fronts tell the same, whatever follows them, what is legal after the one is legal after the other
carried : (p : Policy) (birth : ℕ) (m : Model) (a b : List Entry → List Entry) → ((f : List Entry) (e : Entry) → a f ++ e ∷ [] ≡ a (f ++ e ∷ [])) → ((f : List Entry) (e : Entry) → b f ++ e ∷ [] ≡ b (f ++ e ∷ []))
    → ((f : List Entry) → TellSame p birth m (a f) (b f)) → (f h : List Entry) → AreLegalAfter p birth m (a f) h → AreLegalAfter p birth m (b f) h
carried p birth m a b on_a on_b same f [] l = tt
carried p birth m a b on_a on_b same f (e ∷ h) l = (
  step_same p birth m (a f) (b f) (same f) e.what l.0,
  subst (λ k. AreLegalAfter p birth m k h) (sym (on_b f e)) (carried p birth m a b on_a on_b same (f ++ e ∷ []) h (subst (λ k. AreLegalAfter p birth m k h) (on_a f e) l.1)),
)

module _ (edges : List HierEdge) (caps : List Caps) (s : ℕ → StatusOf) (stop : ℕ) where
  abbrev read : ℕ → Table → List Entry → Table
  read now tb h = read_table edges caps s stop now tb h

  step_on : (now : ℕ) (tb : Table) (w : Step) (go go' : ℕ → Table → Table) → ((l : ℕ) (tb : Table) → go l tb ≡ go' l tb) → read_step edges caps s stop now tb w go ≡ read_step edges caps s stop now tb w go'
  step_on now tb (Tick upto to) go go' same =
      λ i. if nat_lt stop to then close_minutes edges caps s now (stop - now) tb else same to (close_minutes edges caps s now (to - now) tb) i
  step_on now tb (Ask actor request reply) go go' same = same now _

module _ (who : Who) (actor : Actor) (request : Request) (reply : Reply) (silent : IsSilent actor request reply) where
  abbrev it : Entry
  it = asked who actor request reply

  not_read : (edges : List HierEdge) (caps : List Caps) (s : ℕ → StatusOf) (stop : ℕ) (g h : List Entry) (now : ℕ) (tb : Table) → read edges caps s stop now tb (g ++ it ∷ h) ≡ read edges caps s stop now tb (g ++ h)
  not_read edges caps s stop [] h now tb = ap (λ b. read edges caps s stop now b h) (silent.leaves now tb)
  not_read edges caps s stop (e ∷ g) h now tb = step_on edges caps s stop now tb e.what _ _ (not_read edges caps s stop g h)

  now_stays : (g h : List Entry) (now : ℕ) → now_of now (g ++ it ∷ h) ≡ now_of now (g ++ h)
  now_stays [] h now = refl
  now_stays (e ∷ g) h now = now_stays g h (moved now e.what)

  module _ (p : Policy) (birth : ℕ) (m : Model) (g : List Entry) where
    tell_same : (h : List Entry) → TellSame p birth m (g ++ it ∷ h) (g ++ h)
    tell_same h =
        record {
          tables = tables;
          queues = heads;
          bases = λ t i. record {
            events = set_of (periodic p birth t ++ heads t i ++ delayed p birth m t ++ limited p (status p birth m (t - 1)) (λ f. since p birth m f (t - 1)) t);
            signals = set_of ((tables (t - 1) i).signals);
          };
          nows = now_stays g h birth;
        }
      where
        tables : (t : ℕ) → table_at p birth m (g ++ it ∷ h) t ≡ table_at p birth m (g ++ h) t
        tables t = not_read p.edges p.caps (status p birth m) t g h birth empty_table

        heads : (t : ℕ) → requested (g ++ it ∷ h) t ≡ requested (g ++ h) t
        heads t = requested-append g (it ∷ h) t ∙ ap (λ xs. requested g t ++ (xs ++ requested h t)) (silent.raises t) ∙ sym (requested-append g h t)

    legal_without : (h : List Entry) → Legal p birth (g ++ it ∷ h) m → Legal p birth (g ++ h) m
    legal_without h legal =
        let after_g : AreLegalAfter p birth m g (it ∷ h) = steps_after p birth m [] g (it ∷ h) legal.steps in
        let rest : AreLegalAfter p birth m (g ++ []) h = carried p birth m (λ f. g ++ it ∷ f) (λ f. g ++ f) (λ f e. append_assoc g (it ∷ f) (e ∷ [])) (λ f e. append_assoc g f (e ∷ [])) tell_same [] h after_g.1 in
        record {
          model = model_same p birth m (g ++ it ∷ h) (g ++ h) (tell_same h) legal.model;
          steps = joined p birth m [] g h (front_steps p birth m [] g (it ∷ h) legal.steps) (subst (λ k. AreLegalAfter p birth m k h) (append-nil g) rest);
        }

    legal_within : (h : List Entry) → IsLegalStep p birth m g it.what → Legal p birth (g ++ h) m → Legal p birth (g ++ it ∷ h) m
    legal_within h step legal =
        let after_g : AreLegalAfter p birth m (g ++ []) h = subst (λ k. AreLegalAfter p birth m k h) (sym (append-nil g)) (steps_after p birth m [] g h legal.steps) in
        let rest : AreLegalAfter p birth m (g ++ it ∷ []) h = carried p birth m (λ f. g ++ f) (λ f. g ++ it ∷ f) (λ f e. append_assoc g f (e ∷ [])) (λ f e. append_assoc g (it ∷ f) (e ∷ [])) (λ f. turned_round (tell_same f)) [] h after_g in
        record {
          model = model_same p birth m (g ++ h) (g ++ it ∷ h) (turned_round (tell_same h)) legal.model;
          steps = joined p birth m [] g (it ∷ h) (front_steps p birth m [] g h legal.steps) (step, rest);
        }
      where
        turned_round : {h k : List Entry} → TellSame p birth m h k → TellSame p birth m k h
        turned_round same = record { tables = λ t. sym (same.tables t); queues = λ t. sym (same.queues t); bases = λ t. sym (same.bases t); nows = sym same.nows }

    pub changes_nothing : (h : List Entry) → ChangesNothing p birth m g it h
    changes_nothing h = record { same = tell_same h; without = legal_without h; within = legal_within h }

look_is_silent : (actor : Actor) (request : Request) (reply : Reply) → is_look request ≡ true → IsSilent actor request reply
look_is_silent actor Now reply is = record { leaves = λ now tb. refl; raises = λ t. refl }
look_is_silent actor (Status cond) reply is = record { leaves = λ now tb. refl; raises = λ t. refl }
look_is_silent actor (Seen event) reply is = record { leaves = λ now tb. refl; raises = λ t. refl }
look_is_silent actor (Active n r) reply is = record { leaves = λ now tb. refl; raises = λ t. refl }
look_is_silent actor (Check n q) reply is = record { leaves = λ now tb. refl; raises = λ t. refl }
look_is_silent actor (Raise head delay) reply is = cc
look_is_silent actor OpenSession reply is = cc
look_is_silent actor (CloseSession n) reply is = cc
look_is_silent actor (Activate n r) reply is = cc
look_is_silent actor (Deactivate n r) reply is = cc

pub looks_change_nothing : LooksChangeNothing
looks_change_nothing p birth m g h who actor request reply is = changes_nothing who actor request reply (look_is_silent actor request reply is) p birth m g h

-- the looks of a list may be left out behind any entries
behind : (p : Policy) (birth : ℕ) (m : Model) (g h : List Entry) → TellSame p birth m (g ++ h) (g ++ without_looks h)
behind p birth m g [] = record { tables = λ t. refl; queues = λ t. refl; bases = λ t. refl; nows = refl }
behind p birth m g (e ∷ h) = by (looks e.what) refl (behind p birth m g h) (behind p birth m (g ++ e ∷ []) h)
  where
    both : (x y z : List Entry) → TellSame p birth m x y → TellSame p birth m y z → TellSame p birth m x z
    both x y z a b = record { tables = λ t. a.tables t ∙ b.tables t; queues = λ t. a.queues t ∙ b.queues t; bases = λ t. a.bases t ∙ b.bases t; nows = a.nows ∙ b.nows }

    left_out : (who : Who) (w : Step) → looks w ≡ true → TellSame p birth m (g ++ record { who = who; what = w } ∷ h) (g ++ h)
    left_out who (Tick upto to) is = cc
    left_out who (Ask actor request reply) is = (looks_change_nothing p birth m g h who actor request reply is).same

    by : (b : Bool) → looks e.what ≡ b → TellSame p birth m (g ++ h) (g ++ without_looks h) → TellSame p birth m ((g ++ e ∷ []) ++ h) ((g ++ e ∷ []) ++ without_looks h)
        → TellSame p birth m (g ++ e ∷ h) (g ++ (if b then without_looks h else e ∷ without_looks h))
    by true is here further = both (g ++ e ∷ h) (g ++ h) (g ++ without_looks h) (left_out e.who e.what is) here
    by false is here further =
        subst (λ k. TellSame p birth m k (g ++ e ∷ without_looks h)) (append_assoc g (e ∷ []) h)
        (subst (λ k. TellSame p birth m ((g ++ e ∷ []) ++ h) k) (append_assoc g (e ∷ []) (without_looks h)) further)

pub looks_may_be_left_out : LooksMayBeLeftOut
looks_may_be_left_out p birth m h = behind p birth m [] h
