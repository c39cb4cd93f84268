-- Worked rows of whole histories: bases, signals, drops, charges and replies.
use Rattle.std.specs.Prelude.{◌≡◌, ℕ, Bool, true, false, not, ◌&&◌, nat_eq, List, [], ◌∷◌, Some, None, length, nat_le, if◌then◌else◌}
use Rattle.gt_base.specs.declared.events.SessionId.{SessionId}
use Rattle.gt_base.specs.declared.events.Fluent.TheVariants.{Enabled, Assigned, Granted, Limit, Edge}
use Rattle.gt_base.specs.declared.events.Prioritised.{Prioritised}
use Rattle.gt_base.specs.declared.policies.Form.TheVariants.{Each, Span}
use Rattle.gt_base.specs.declared.requests.Actor.{Actor}
use Rattle.gt_base.specs.declared.requests.Actor.TheVariants.{Operator, User}
use Rattle.gt_base.specs.declared.requests.Request.{Request}
use Rattle.gt_base.specs.declared.requests.Request.TheVariants.{Status as AskStatus, Seen as AskSeen, Raise, OpenSession, Activate, Active as AskActive, Check}
use Rattle.gt_base.specs.declared.requests.Reply.{Reply}
use Rattle.gt_base.specs.declared.requests.Reply.TheVariants.{Truth, Event as Saw, Queued, Session, Active, Decided, Refused}
use Rattle.gt_base.specs.declared.requests.Decision.TheVariants.{Permit, Shut}
use Rattle.gt_base.specs.declared.requests.Refusal.TheVariants.{DaySpent}
use Rattle.gt_base.specs.declared.requests.Seen.TheVariants.{Blocked}
use Rattle.gt_base.specs.declared.requests.Step.TheVariants.{Tick, Ask}
use Rattle.gt_base.specs.declared.requests.Entry.{Entry}
use Rattle.gt_base.specs.Held.{RoleWalk}
use Rattle.gt_base.specs.Happening.{nothing}
use Rattle.gt_base.specs.Sets.{none, set_of}
use Rattle.gtrbac_model.specs.declared.calendars.Calendar.TheVariants.{Days, Hours, Minutes}
use Rattle.gtrbac_model.specs.Period.{Period, inside}
use Rattle.gtrbac_model.specs.Policy.{Policy}
use Rattle.gtrbac_model.specs.Status.{Model, status_at}
use Rattle.gtrbac_model.specs.Base.{base_at, raised_at, drops_at, signals_at, table_at}
use Rattle.gtrbac_model.specs.Reply.{reply_of}
use Rattle.gtrbac_model.specs.History.{point_after, stirs}
use Rattle.gtrbac_model.specs.ConflictRows.{role, user, perm, on, off, at, events}

abbrev pub plain : Policy
plain = record {
  roles = 1;
  users = 0;
  perms = 0;
  periods = [];
  limits = [];
  edges = [];
  caps = [];
  admins = [];
  opening = none;
  entries = [];
  triggers = [];
}

abbrev pub asked : Actor → Request → Reply → Entry
asked a q r = record { who = record { worker = 0; conn = 1 }; what = Ask a q r }

abbrev pub ticked : ℕ → ℕ → Entry
ticked upto to = record { who = record { worker = 0; conn = 1 }; what = Tick upto to }

-- two requests that tie, and two that do not: from 08:00 to 08:02
abbrev pub born : ℕ
born = 13_681_920

abbrev pub ties : List Entry
ties =
    asked Operator (Raise (at 50 (on 0)) 0) (Queued 13_681_921)
    ∷ asked Operator (Raise (at 50 (off 0)) 0) (Queued 13_681_921)
    ∷ ticked 13_681_921 13_681_921
    ∷ asked Operator (AskStatus (record { on = true; fluent = Enabled (role 0) })) (Truth false)
    ∷ asked Operator (AskSeen (on 0)) (Saw (Blocked 50))
    ∷ asked Operator (Raise (at 51 (on 0)) 0) (Queued 13_681_922)
    ∷ asked Operator (Raise (at 50 (off 0)) 0) (Queued 13_681_922)
    ∷ ticked 13_681_922 13_681_922
    ∷ asked Operator (AskStatus (record { on = true; fluent = Enabled (role 0) })) (Truth true)
    ∷ asked Operator (AskSeen (off 0)) (Saw (Blocked 50))
    ∷ []

abbrev pub ties_model : Model
ties_model t = if nat_eq t 13_681_921 then events (at 50 (on 0) ∷ at 50 (off 0) ∷ [])
    else if nat_eq t 13_681_922 then events (at 51 (on 0) ∷ at 50 (off 0) ∷ []) else nothing

-- a day cap of 4 minutes, two sessions
abbrev pub capped : Policy
capped = record {
  roles = 1;
  users = 1;
  perms = 0;
  periods = [];
  limits = [];
  edges = [];
  caps = record { total = None; user = None; length = None; day = Some 4 } ∷ [];
  admins = [];
  opening = set_of (Enabled (role 0) ∷ Assigned (user 0) (role 0) ∷ []);
  entries = [];
  triggers = [];
}

abbrev pub silent : Model
silent t = nothing

abbrev pub s1 : SessionId
s1 = record { 0 = 1 }

abbrev pub s2 : SessionId
s2 = record { 0 = 2 }

abbrev pub by_d : RoleWalk
by_d = record { start = role 0; edges = [] }

abbrev pub both_active : List Entry
both_active =
    asked (User (user 0)) OpenSession (Session s1)
    ∷ asked (User (user 0)) OpenSession (Session s2)
    ∷ asked (User (user 0)) (Activate s1 (role 0)) (Active by_d)
    ∷ asked (User (user 0)) (Activate s2 (role 0)) (Active by_d)
    ∷ []

abbrev pub day_spent : List Entry
day_spent =
    asked (User (user 0)) OpenSession (Session s1)
    ∷ asked (User (user 0)) OpenSession (Session s2)
    ∷ asked (User (user 0)) (Activate s1 (role 0)) (Active by_d)
    ∷ asked (User (user 0)) (Activate s2 (role 0)) (Active by_d)
    ∷ ticked 13_681_921 13_681_921
    ∷ asked (User (user 0)) (AskActive s2 (role 0)) (Truth true)
    ∷ ticked 13_681_922 13_681_922
    ∷ []

-- an office from 08:00 to 16:00, its span, and a birth at noon
abbrev pub office : Period
office = record {
  first = 0;
  last = 52_595_999;
  expr = record {
    parts = record { calendar = Days; set = None }
        ∷ record { calendar = Hours; set = Some (9 ∷ []) } ∷ [];
    count = 8;
    unit = Hours;
  };
}

abbrev pub spanned : Policy
spanned = record {
  roles = 1;
  users = 0;
  perms = 0;
  periods = office ∷ [];
  limits = [];
  edges = [];
  caps = [];
  admins = [];
  opening = none;
  entries = record { form = Span; period = record { 0 = 0 }; head = at 50 (on 0) } ∷ [];
  triggers = [];
}

-- a limit of 10 minutes from 07:59 on, and a busy time that outranks it until 08:20
abbrev pub busy : Period
busy = record {
  first = 0;
  last = 52_595_999;
  expr = record {
    parts = record { calendar = Days; set = None }
        ∷ record { calendar = Hours; set = Some (9 ∷ []) } ∷ [];
    count = 20;
    unit = Minutes;
  };
}

abbrev pub limited : Policy
limited = record {
  roles = 1;
  users = 0;
  perms = 0;
  periods = busy ∷ [];
  limits = record {
    cond = record { on = true; fluent = Enabled (role 0) };
    prio = 40;
    most = 10;
    period = None;
  } ∷ [];
  edges = [];
  caps = [];
  admins = [];
  opening = set_of (Enabled (role 0) ∷ Limit (record { 0 = 0 }) ∷ []);
  entries = record { form = Each; period = record { 0 = 0 }; head = at 60 (on 0) } ∷ [];
  triggers = [];
}

abbrev pub busy_model : Model
busy_model t =
    if inside busy t && nat_le 13_681_929 t then events (at 60 (on 0) ∷ at 40 (off 0) ∷ [])
    else if inside busy t then events (at 60 (on 0) ∷ [])
    else if nat_eq t 13_681_940 then events (at 40 (off 0) ∷ []) else nothing

-- the day after, past a tick of 958 minutes that stirs nothing
abbrev pub next_day : List Entry
next_day =
    asked (User (user 0)) OpenSession (Session s1)
    ∷ asked (User (user 0)) OpenSession (Session s2)
    ∷ asked (User (user 0)) (Activate s1 (role 0)) (Active by_d)
    ∷ asked (User (user 0)) (Activate s2 (role 0)) (Active by_d)
    ∷ ticked 13_681_921 13_681_921
    ∷ asked (User (user 0)) (AskActive s2 (role 0)) (Truth true)
    ∷ ticked 13_681_922 13_681_922
    ∷ asked (User (user 0)) (Activate s1 (role 0)) (Refused (DaySpent 4))
    ∷ ticked 13_682_880 13_682_880
    ∷ []

-- when enable a and settled enabled b then 50:enable c after 2
abbrev pub waiting : Policy
waiting = record {
  roles = 3;
  users = 0;
  perms = 0;
  periods = [];
  limits = [];
  edges = [];
  caps = [];
  admins = [];
  opening = none;
  entries = [];
  triggers = record {
    events = on 0 ∷ [];
    signals = [];
    conds = [];
    settled = record { on = true; fluent = Enabled (role 1) } ∷ [];
    head = at 50 (on 2);
    delay = 2;
  }
      ∷ [];
}

-- at 08:01 a and b are enabled, and b is disabled too at this priority
abbrev pub with_disable : ℕ → Model
with_disable p t = if nat_eq t 13_681_921
    then events (at 50 (on 0) ∷ at 50 (on 1) ∷ at p (off 1) ∷ []) else nothing

-- one edge from role 0 to role 1, which is on at first and is unlinked at 08:01; user 0 is assigned
-- to role 0, permission 0 is granted to role 1
abbrev pub joined : Bool → Policy
joined inherits =
    record {
      roles = 2;
      users = 1;
      perms = 1;
      periods = [];
      limits = [];
      edges = record {
        senior = role 0;
        junior = role 1;
        inherits = inherits;
        activates = not inherits;
        strong = false;
      } ∷ [];
      caps = [];
      admins = [];
      opening = set_of (Enabled (role 0) ∷ Enabled (role 1) ∷ Assigned (user 0) (role 0)
          ∷ Granted (perm 0) (role 1) ∷ Edge 0 ∷ []);
      entries = [];
      triggers = [];
    }

abbrev pub unlink : Prioritised
unlink = at 50 (record { on = false; fluent = Edge 0 })

-- at that minute also the activation of a role starts
abbrev pub unlinking : ℕ → Model
unlinking r t = if nat_eq t 13_681_921
    then record {
      events = set_of (unlink ∷ []);
      signals = set_of (record { start = true; user = user 0; role = role r } ∷ []);
    } else nothing

abbrev pub by_edge : RoleWalk
by_edge = record { start = role 0; edges = 0 ∷ [] }

abbrev pub opened : List Entry
opened = asked (User (user 0)) OpenSession (Session s1) ∷ []

-- role 1 is activated over the edge
abbrev pub junior_active : List Entry
junior_active =
    asked (User (user 0)) OpenSession (Session s1)
    ∷ asked (User (user 0)) (Activate s1 (role 1)) (Active by_edge)
    ∷ asked Operator (Raise unlink 0) (Queued 13_681_921)
    ∷ ticked 13_681_921 13_681_921
    ∷ []

-- role 0 is active, and is lent the permission over the edge
abbrev pub senior_active : List Entry
senior_active = asked (User (user 0)) OpenSession (Session s1)
    ∷ asked (User (user 0)) (Activate s1 (role 0)) (Active by_d) ∷ []

abbrev pub senior_later : List Entry
senior_later =
    asked (User (user 0)) OpenSession (Session s1)
    ∷ asked (User (user 0)) (Activate s1 (role 0)) (Active by_d)
    ∷ asked Operator (Raise unlink 0) (Queued 13_681_921)
    ∷ ticked 13_681_921 13_681_921
    ∷ []

pub record AreRunRows : Type 0 where
  pub first_base : base_at plain born ties_model ties 13_681_921 ≡ ties_model 13_681_921
  pub second_base : base_at plain born ties_model ties 13_681_922 ≡ ties_model 13_681_922
  pub replied : reply_of plain (point_after plain born ties_model ties) Operator (AskSeen (off 0))
      ≡ Saw (Blocked 50)
  pub is_on : reply_of plain (point_after plain born ties_model ties) Operator
      (AskStatus (record { on = true; fluent = Enabled (role 0) })) ≡ Truth true
  -- at 08:01 the two activations start, and no cap is reached
  pub starts_at_01 : length (signals_at capped born silent both_active 13_681_921) ≡ 2
  pub kept_at_01 : drops_at capped born silent both_active 13_681_921 ≡ []
  pub dropped_at_02 : length (drops_at capped born silent both_active 13_681_922) ≡ 2
  pub charged_at_02 : (table_at capped born silent both_active 13_681_922).charged (user 0)
      (role 0) 9501 ≡ 4
  pub refused_at_02 : reply_of capped (point_after capped born silent day_spent) (User (user 0))
      (Activate s1 (role 0)) ≡ Refused (DaySpent 4)
  pub not_active_at_02 : reply_of capped (point_after capped born silent day_spent) (User (user 0))
      (AskActive s1 (role 0)) ≡ Truth false
  pub opens_after_birth : raised_at spanned 13_682_160 silent [] 13_682_161 ≡ at 50 (on 0) ∷ []
  pub quiet_then : raised_at spanned 13_682_160 silent [] 13_682_162 ≡ []
  pub closes_at_16 : raised_at spanned 13_682_160 silent [] 13_682_400 ≡ at 50 (off 0) ∷ []
  pub ripe_at_09 : raised_at limited 13_681_919 busy_model [] 13_681_929 ≡ at 60 (on 0)
      ∷ at 40 (off 0) ∷ []
  pub unripe_at_08 : raised_at limited 13_681_919 busy_model [] 13_681_928 ≡ at 60 (on 0) ∷ []
  pub off_at_20 : status_at limited 13_681_919 busy_model 13_681_940 (Enabled (role 0)) ≡ false
  pub on_at_19 : status_at limited 13_681_919 busy_model 13_681_939 (Enabled (role 0)) ≡ true
  pub active_again : reply_of capped (point_after capped born silent next_day) (User (user 0))
      (Activate s1 (role 0)) ≡ Active by_d
  pub stirs_at_02 : stirs capped born silent both_active 13_681_922 ≡ true
  -- the unlinked edge no longer allows the activation, and lends nothing
  pub unlink_is_raised : base_at (joined false) born (unlinking 1) junior_active 13_681_921
      ≡ unlinking 1 13_681_921
  pub activates_over_edge : reply_of (joined false)
      (point_after (joined false) born (unlinking 1) opened) (User (user 0)) (Activate s1 (role 1))
      ≡ Active by_edge
  pub unlinked_is_dropped : reply_of (joined false)
      (point_after (joined false) born (unlinking 1) junior_active) (User (user 0))
      (AskActive s1 (role 1)) ≡ Truth false
  pub lends_over_edge : reply_of (joined true)
      (point_after (joined true) born (unlinking 0) senior_active) (User (user 0))
      (Check s1 (perm 0)) ≡ Decided (Permit by_edge)
  pub unlinked_is_shut : reply_of (joined true)
      (point_after (joined true) born (unlinking 0) senior_later) (User (user 0))
      (Check s1 (perm 0)) ≡ Decided (Shut 0)
  pub unlinked_is_off : reply_of (joined true)
      (point_after (joined true) born (unlinking 0) senior_later) Operator
      (AskStatus (record { on = true; fluent = Edge 0 })) ≡ Truth false
  -- a delayed trigger asks its settled condition of the status after the minute at which it was met
  pub met_after_its_minute : raised_at waiting born (with_disable 40) [] 13_681_923 ≡ at 50 (on 2)
      ∷ []
  pub not_met_after_its_minute : raised_at waiting born (with_disable 50) [] 13_681_923 ≡ []
