-- An answered request keeps what holds between the parts of a book.
use Rattle.std.proofs.Common.{◌≡◌, ℕ, ◌+◌, ◌<◌, ◌≤◌, Bool, true, false, cond, ◌||◌, nat_lt, List, [], ◌∷◌, ◌++◌, length, Option, Some, None, refl, sym, ◌∙◌, ap, subst, arith, if◌then◌else◌}
use Rattle.std.specs.List.{list_any}
use Rattle.std.specs.Ordering.{eq_by_cmp}
use Rattle.std.proofs.lemmas.Bool.{lt-ltb, ltb-false}
use Rattle.std.proofs.lemmas.List.Folds.{list_any-append}
use Rattle.gt_base.specs.Happening.{nothing}
use Rattle.gt_base.specs.Machines.{asked}
use Rattle.gt_base.specs.Orders.{signal_cmp}
use Rattle.gt_base.specs.Sets.{has, with_member}
use Rattle.gt_base.specs.declared.events.Signal.{Signal}
use Rattle.gt_base.specs.declared.events.Prioritised.{Prioritised}
use Rattle.gt_base.specs.declared.events.UserId.{UserId}
use Rattle.gt_base.specs.declared.events.RoleId.{RoleId}
use Rattle.gt_base.specs.declared.events.SessionId.{SessionId}
use Rattle.gt_base.specs.declared.requests.Who.{Who}
use Rattle.gt_base.specs.declared.requests.Actor.{Actor}
use Rattle.gt_base.specs.declared.requests.Actor.TheVariants.{User}
use Rattle.gt_base.specs.declared.requests.Request.{Request}
use Rattle.gt_base.specs.declared.requests.Request.TheVariants.{Now, Status, Seen, Raise, OpenSession, CloseSession, Activate, Deactivate, Active as AskActive, Check}
use Rattle.gt_base.specs.declared.requests.Refusal.{Refusal}
use Rattle.gt_base.specs.declared.requests.Refusal.TheVariants.{NoUser}
use Rattle.gt_base.specs.declared.requests.Reply.{Reply}
use Rattle.gt_base.specs.declared.requests.Reply.TheVariants.{Queued, Session, Done, Active, Refused}
use Rattle.gt_base.specs.declared.requests.Entry.{Entry}
use Rattle.gt_base.specs.Held.{RoleWalk}
use Rattle.gt_base.proofs.SetLaws.{has-with_member}
use Rattle.gt_base.proofs.SetSteps.{signal_cmp_total}
use Rattle.gt_base.specs.declared.limits.TheConstants.{LAST_MINUTE, MAX_STEPS}
use Rattle.gtrbac_model.specs.Policy.{Policy}
use Rattle.gtrbac_model.specs.Base.{status, table_at, queued_at, requested}
use Rattle.gtrbac_model.specs.History.{Legal, now_of, point_after, IsNamedWish, ask}
use Rattle.gtrbac_model.specs.Reply.{Point, answer, reply_of, unless, actor_causes}
use Rattle.gtrbac_model.specs.Sessions.{Table, applied, owner_of}
use Rattle.gtrbac_model.specs.Status.{Model}
use Rattle.gtrbac_model.proofs.Append.{append-nil}
use Rattle.gtrbac_model.proofs.Playing.{queues_later}
use Rattle.gtrbac_model.proofs.Stepping.{ask_keeps_legal}
use Rattle.history_laws.proofs.Continuing.{tables_go_on}
use Rattle.history_laws.proofs.Refusing.{refused_leaves, refused_raises}
use Rattle.delay_agenda.specs.Due.{Pendings}
use Rattle.instant_bases.specs.Timelines.{TimelineView, Signals}
use Rattle.time_engine.specs.Histories.{Follows}
use Rattle.time_engine.specs.Plans.{IsTimeline, with_pending, with_signal}
use Rattle.time_engine.specs.Traces.{model_of}
use Rattle.time_engine.proofs.HistoryLaws.{asks_follow}
use Rattle.core_machine.specs.Coherent.{Coherent, point_of}
use Rattle.history_laws.specs.Looks.{is_look}
use Rattle.core_machine.specs.Steps.{IsStill, is_nobody, with_signals}
use Rattle.core_machine.proofs.Growing.{named_more, none_at_birth, one_more, bases_stay}
use Rattle.core_machine.proofs.Closes.{follows_signals}

-- somebody is not refused as nobody
pub is_replied : (p : Policy) (pt : Point) (actor : Actor) (request : Request) (reply : Reply) → is_nobody actor ≡ false → answer p pt actor request ≡ reply → reply ≡ reply_of p pt actor request
is_replied p pt actor request reply e is = sym ((λ i. if e i then Refused NoUser else answer p pt actor request) ∙ is)

pub refused_still : (actor : Actor) (request : Request) (why : Refusal) → IsStill actor request (Refused why)
refused_still actor request why = record { queues = λ t. refused_raises t request why; leaves = λ now tb. refused_leaves now actor request why tb }

pub still_look : (actor : Actor) (request : Request) (reply : Reply) → is_look request ≡ true → IsStill actor request reply
still_look actor Now reply is = record { queues = λ t. refl; leaves = λ now tb. refl }
still_look actor (Status cond) reply is = record { queues = λ t. refl; leaves = λ now tb. refl }
still_look actor (Seen event) reply is = record { queues = λ t. refl; leaves = λ now tb. refl }
still_look actor (AskActive session role) reply is = record { queues = λ t. refl; leaves = λ now tb. refl }
still_look actor (Check session perm) reply is = record { queues = λ t. refl; leaves = λ now tb. refl }
still_look actor _ reply is = absurd (cc is)

-- no answer asks which signals wait
unsignalled : (p : Policy) (pt : Point) (sg : List Signal) (actor : Actor) (request : Request) → answer p (record pt { table = record pt.table { signals = sg } }) actor request ≡ answer p pt actor request
unsignalled p pt sg actor _ = refl

-- the signals of a timeline with more

pub signals_only : (v : TimelineView) (xs : List Signal) → with_signals v xs ≡ record v { signals = (with_signals v xs).signals }
signals_only v [] = refl
signals_only v (x ∷ xs) = signals_only (with_signal v x) xs

or_false : (a : Bool) → a ≡ (a || false)
or_false true = refl
or_false false = refl

or_swap : (a b c : Bool) → ((a || b) || c) ≡ (b || (a || c))
or_swap true true c = refl
or_swap true false c = refl
or_swap false true c = refl
or_swap false false c = refl

pub signals_told : (v : TimelineView) (xs : List Signal) → v.now < LAST_MINUTE → (x : Signal) → has (with_signals v xs).signals x ≡ (has v.signals x || list_any (eq_by_cmp signal_cmp x) xs)
signals_told v [] lt x = or_false (has v.signals x)
signals_told v (y ∷ ys) lt x =
    let rest : Bool = list_any (eq_by_cmp signal_cmp x) ys in
    signals_told (with_signal v y) ys lt x
    ∙ ap (λ b. has (cond b (with_member v.signals y) v.signals) x || rest) (lt-ltb v.now LAST_MINUTE lt)
    ∙ ap (λ b. b || rest) (has-with_member signal_cmp_total v.signals y x)
    ∙ or_swap (eq_by_cmp signal_cmp x y) (has v.signals x) rest

-- what an answer adds to the signals does not ask which wait
abbrev pub Adds : ℕ → Actor → Request → Reply → Type 0
Adds now actor request reply =
    (tb : Table) (sg : List Signal)
    → applied now actor request reply (record tb { signals = sg })
    ≡ record (applied now actor request reply (record tb { signals = [] })) { signals = sg ++ (applied now actor request reply (record tb { signals = [] })).signals }

pub begin_adds : (now : ℕ) (u : UserId) (n : SessionId) → Adds now (User u) OpenSession (Session n)
begin_adds now u n tb sg = λ i. record (applied now (User u) OpenSession (Session n) (record tb { signals = [] })) { signals = sym (append-nil sg) i }

pub finish_adds : (now : ℕ) (actor : Actor) (n : SessionId) → Adds now actor (CloseSession n) Done
finish_adds now actor n tb sg = refl

pub deactivate_adds : (now : ℕ) (actor : Actor) (n : SessionId) (r : RoleId) → Adds now actor (Deactivate n r) Done
deactivate_adds now actor n r tb sg = refl

pub activate_adds : (now : ℕ) (actor : Actor) (n : SessionId) (r : RoleId) (w : RoleWalk) → Adds now actor (Activate n r) (Active w)
activate_adds now actor n r w tb sg = by (owner_of tb n) refl
  where
    by : (o : Option UserId) → owner_of tb n ≡ o
        → applied now actor (Activate n r) (Active w) (record tb { signals = sg })
        ≡ record (applied now actor (Activate n r) (Active w) (record tb { signals = [] })) { signals = sg ++ (applied now actor (Activate n r) (Active w) (record tb { signals = [] })).signals }
    by None e = rw e (λ i. record tb { signals = sym (append-nil sg) i })
    by (Some u) e = rw e refl

module _ (p : Policy) (birth : ℕ) (h : List Entry) (v : TimelineView) (tb : Table) (charged : Option ℕ) (k : Coherent p birth h v tb charged) (line : IsTimeline v) where
  abbrev m : Model
  m = model_of v.trace

  pub table_now : record tb { signals = k.waiting } ≡ table_at p birth m h (now_of birth h)
  table_now = k.table ∙ ap (table_at p birth m h) k.follows.now

  pub status_now : has v.status ≡ status p birth m (now_of birth h)
  status_now = λ i f. (k.follows.status f ∙ ap (λ t. status p birth m t f) k.follows.now) i

  set_now : model_of v.trace v.now ≡ (if nat_lt birth (now_of birth h) then m (now_of birth h) else nothing)
  set_now = ap m k.follows.now ∙ by (nat_lt birth (now_of birth h)) refl
    where
      by : (b : Bool) → nat_lt birth (now_of birth h) ≡ b → m (now_of birth h) ≡ (if b then m (now_of birth h) else nothing)
      by true e = refl
      by false e = none_at_birth v.birth v.trace (now_of birth h) (omega (arith, k.follows.born, ltb-false birth (now_of birth h) e)) line.ascends

  -- what somebody is answered from the timeline and the table, the history replies
  pub answered : (actor : Actor) (request : Request) (reply : Reply) → is_nobody actor ≡ false → answer p (point_of v tb) actor request ≡ reply
      → reply ≡ reply_of p (point_after p birth m h) actor request
  answered actor request reply somebody is =
      is_replied p (point_of v tb) actor request reply somebody is
      ∙ ap (unless (actor_causes actor)) (sym (unsignalled p (point_of v tb) k.waiting actor request))
      ∙ (λ i. reply_of p (record { now = k.follows.now i; status = status_now i; set = set_now i; table = table_now i }) actor request)

  module _ (who : Who) (actor : Actor) (request : Request) (reply : Reply) (named : IsNamedWish p (ask actor request)) (room : length h < MAX_STEPS)
      (is : reply ≡ reply_of p (point_after p birth m h) actor request) where
    abbrev e : Entry
    e = asked who actor request reply

    legal_more : Legal p birth (h ++ e ∷ []) m
    legal_more = subst (λ r. Legal p birth (h ++ asked who actor request r ∷ []) m) (sym is) (ask_keeps_legal p birth h m who actor request k.legal)

    table_more : table_at p birth m (h ++ e ∷ []) v.now ≡ applied v.now actor request reply (record tb { signals = k.waiting })
    table_more =
        subst (λ x. table_at p birth m (h ++ e ∷ []) x ≡ applied x actor request reply (table_at p birth m h x)) (sym k.follows.now) ((tables_go_on p birth m h).asks who actor request reply legal_more)
        ∙ ap (applied v.now actor request reply) (sym k.table)

    unasked : (t : ℕ) → t ≤ v.now → requested (e ∷ []) t ≡ []
    unasked t le =
        ap (λ r. queued_at t request r ++ []) is
        ∙ ap (λ (xs : List Prioritised). xs ++ []) (queues_later p (point_after p birth m h) actor request t (omega (arith, le, k.follows.now)))

    kept_asked : (q : Pendings) (sg : Signals) (tb' : Table) (told : List Signal) → Follows p birth (h ++ e ∷ []) m (record v { pending = q; signals = sg })
        → record tb' { signals = told } ≡ applied v.now actor request reply (record tb { signals = k.waiting })
        → (v.now < LAST_MINUTE → (x : Signal) → list_any (eq_by_cmp signal_cmp x) told ≡ has sg x) → tb'.begun ≤ length h + 1
        → Coherent p birth (h ++ e ∷ []) (record v { pending = q; signals = sg }) tb' charged
    kept_asked q sg tb' told follows table waits few = record {
      is_policy = k.is_policy;
      safe = k.safe;
      legal = legal_more;
      follows = follows;
      waiting = told;
      table = table ∙ sym table_more;
      signals = waits;
      charged = k.charged;
      few = omega (arith, few, one_more h e);
      bases = bases_stay p birth m m h e v.now k.follows.now (λ u a b. refl) unasked v.birth v.trace (omega (arith, k.follows.born)) line.ascends line.ends k.bases;
      named = named_more p h e k.named named;
      short = omega (arith, room, one_more h e);
    }

    -- where the answer changes nothing
    pub kept_still : IsStill actor request reply → Coherent p birth (h ++ e ∷ []) v tb charged
    kept_still still =
        kept_asked v.pending v.signals tb k.waiting ((asks_follow p birth h m v k.follows who actor).others request reply still.queues)
        (sym (still.leaves v.now (record tb { signals = k.waiting }))) k.signals (omega (arith, k.few))

    -- where it changes the table, and these signals come
    pub kept_changed : (tb' : Table) (xs : List Signal) → ((t : ℕ) → queued_at t request reply ≡ []) → Adds v.now actor request reply
        → applied v.now actor request reply (record tb { signals = [] }) ≡ record tb' { signals = xs } → tb'.begun ≤ length h + 1
        → Coherent p birth (h ++ e ∷ []) (with_signals v xs) tb' charged
    kept_changed tb' xs queues adds change few =
        subst (λ w. Coherent p birth (h ++ e ∷ []) w tb' charged) (sym (signals_only v xs))
        (kept_asked v.pending (with_signals v xs).signals tb' (k.waiting ++ xs)
        (follows_signals p birth (h ++ e ∷ []) m v (with_signals v xs).signals ((asks_follow p birth h m v k.follows who actor).others request reply queues))
        (sym (adds tb k.waiting ∙ ap (λ (t : Table). record t { signals = k.waiting ++ t.signals }) change))
        (λ lt x. list_any-append (eq_by_cmp signal_cmp x) k.waiting xs ∙ ap (λ b. b || list_any (eq_by_cmp signal_cmp x) xs) (k.signals lt x) ∙ sym (signals_told v xs lt x))
        few)

  -- where it queues an event
  pub kept_raised : (who : Who) (actor : Actor) (head : Prioritised) (delay due : ℕ) → IsNamedWish p (ask actor (Raise head delay)) → length h < MAX_STEPS
      → Queued due ≡ reply_of p (point_after p birth m h) actor (Raise head delay)
      → Coherent p birth (h ++ asked who actor (Raise head delay) (Queued due) ∷ []) (with_pending v due head) tb charged
  kept_raised who actor head delay due named room is =
      kept_asked who actor (Raise head delay) (Queued due) named room is (with_pending v due head).pending v.signals tb k.waiting
      ((asks_follow p birth h m v k.follows who actor).raises head delay due) refl k.signals (omega (arith, k.few))

-- an activation begins no session
pub activate_begins : (now : ℕ) (actor : Actor) (n : SessionId) (r : RoleId) (w : RoleWalk) (tb : Table) → (applied now actor (Activate n r) (Active w) tb).begun ≡ tb.begun
activate_begins now actor n r w tb = by (owner_of tb n) refl
  where
    by : (o : Option UserId) → owner_of tb n ≡ o → (applied now actor (Activate n r) (Active w) tb).begun ≡ tb.begun
    by None e = rw e refl
    by (Some u) e = rw e refl

-- the table is the history's at now, but for the signals that wait
pub table_is : (p : Policy) (birth : ℕ) (h : List Entry) (v : TimelineView) (tb : Table) (charged : Option ℕ) (k : Coherent p birth h v tb charged)
    → record tb { signals = (table_at p birth (model_of v.trace) h (now_of birth h)).signals } ≡ table_at p birth (model_of v.trace) h (now_of birth h)
table_is p birth h v tb charged k =
    let now : record tb { signals = k.waiting } ≡ table_at p birth (model_of v.trace) h (now_of birth h) = k.table ∙ ap (table_at p birth (model_of v.trace) h) k.follows.now in
    (λ i. record tb { signals = (sym now i).signals }) ∙ now

-- the signals of the table at now are those that wait in the timeline
pub waiting_is : (p : Policy) (birth : ℕ) (h : List Entry) (v : TimelineView) (tb : Table) (charged : Option ℕ) (k : Coherent p birth h v tb charged)
    → now_of birth h < LAST_MINUTE → (x : Signal) → list_any (eq_by_cmp signal_cmp x) (table_at p birth (model_of v.trace) h (now_of birth h)).signals ≡ has v.signals x
waiting_is p birth h v tb charged k lt x =
    ap (λ (t : Table). list_any (eq_by_cmp signal_cmp x) t.signals) (sym (k.table ∙ ap (table_at p birth (model_of v.trace) h) k.follows.now))
    ∙ k.signals (omega (arith, lt, k.follows.now)) x
