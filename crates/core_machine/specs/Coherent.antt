-- What holds between the parts of a book.
use Rattle.std.specs.Prelude.{◌≡◌, ℕ, ◌<◌, ◌≤◌, List, length, Option}
use Rattle.std.specs.List.{list_any}
use Rattle.std.specs.Ordering.{eq_by_cmp}
use Rattle.gt_base.specs.Orders.{signal_cmp}
use Rattle.gt_base.specs.Sets.{has}
use Rattle.gt_base.specs.declared.events.Signal.{Signal}
use Rattle.gt_base.specs.declared.requests.Actor.{Actor}
use Rattle.gt_base.specs.declared.requests.Request.{Request}
use Rattle.gt_base.specs.declared.requests.Reply.{Reply}
use Rattle.gt_base.specs.declared.requests.Entry.{Entry}
use Rattle.gt_base.specs.declared.limits.TheConstants.{LAST_MINUTE, MAX_STEPS}
use Rattle.gtrbac_model.specs.Policy.{Policy}
use Rattle.gtrbac_model.specs.Base.{table_at}
use Rattle.gtrbac_model.specs.History.{Legal, IsNamedWish, ask}
use Rattle.gtrbac_model.specs.Reply.{Point, answer}
use Rattle.gtrbac_model.specs.Safety.{IsSafe}
use Rattle.gtrbac_model.specs.Sessions.{Table}
use Rattle.gtrbac_model.specs.WholePolicy.{IsPolicy}
use Rattle.instant_bases.specs.Timelines.{TimelineView}
use Rattle.session_table.specs.Tables.{NotBefore, table_of}
use Rattle.time_engine.specs.Histories.{Follows}
use Rattle.time_engine.specs.Plans.{IsTimeline}
use Rattle.time_engine.specs.Traces.{model_of}
use Rattle.core_machine.specs.Books.{BookView, HasBases}
use Rattle.history_laws.specs.Named.{AreNamed}
use Rattle.core_machine.specs.declared.states.State.{State}

-- the timeline follows the history, of which its sets are the model; the table is that of the
-- history at now, with the signals that wait, which the timeline has for the next minute
pub record Coherent (p : Policy) (birth : ℕ) (h : List Entry) (v : TimelineView) (tb : Table)
    (charged_to : Option ℕ) : Type 0 where
  pub is_policy : IsPolicy p
  pub safe : IsSafe p.triggers
  pub legal : Legal p birth h (model_of v.trace)
  pub follows : Follows p birth h (model_of v.trace) v
  pub waiting : List Signal
  pub table : record tb { signals = waiting } ≡ table_at p birth (model_of v.trace) h v.now
  pub signals : v.now < LAST_MINUTE → (x : Signal)
      → list_any (eq_by_cmp signal_cmp x) waiting ≡ has v.signals x
  pub charged : NotBefore charged_to v.now
  pub few : tb.begun ≤ length h
  pub bases : HasBases p birth (model_of v.trace) h v.trace
  pub named : AreNamed p h
  pub short : length h ≤ MAX_STEPS

-- timeline and table are abreast of a history: what each book keeps, and whatever goes on from a
-- book over entries of its own
pub record Abreast (p : Policy) (birth : ℕ) (h : List Entry) (v : TimelineView) (tb : Table)
    : Type 0 where
  pub line : IsTimeline v
  pub legal : Legal p birth h (model_of v.trace)
  pub follows : Follows p birth h (model_of v.trace) v
  pub waiting : List Signal
  pub table : record tb { signals = waiting } ≡ table_at p birth (model_of v.trace) h v.now
  pub signals : v.now < LAST_MINUTE → (x : Signal)
      → list_any (eq_by_cmp signal_cmp x) waiting ≡ has v.signals x

abbrev pub IsCoherent : State → Type 0
IsCoherent s =
    Coherent s.ground.policy s.birth s.entries.items s.line.line (table_of s.table)
    s.table.charged_to

abbrev pub view_of : State → BookView
view_of s =
    record {
      named = s.ground;
      birth = s.birth;
      entries = s.entries.items;
      trace = s.line.line.trace;
    }

-- the same but for the room
pub record Same (s t : State) : Type 0 where
  pub ground : t.ground ≡ s.ground
  pub birth : t.birth ≡ s.birth
  pub line : t.line.line ≡ s.line.line
  pub table : table_of t.table ≡ table_of s.table
  pub charged_to : t.table.charged_to ≡ s.table.charged_to
  pub entries : t.entries.items ≡ s.entries.items

-- one entry more may be added for the request
pub record IsReady (s : State) (actor : Actor) (request : Request) : Type 0 where
  pub kept : IsCoherent s
  pub room : length s.entries.items < MAX_STEPS
  pub named : IsNamedWish s.ground.policy (ask actor request)

-- what the timeline and the table say of now
abbrev pub point_of : TimelineView → Table → Point
point_of v tb =
    record { now = v.now; status = has v.status; set = model_of v.trace v.now; table = tb }

-- somebody's request is answered so from them
pub record IsAnswer (s : State) (actor : Actor) (request : Request) (reply : Reply) : Type 0 where
  pub is : answer s.ground.policy (point_of s.line.line (table_of s.table)) actor request ≡ reply
