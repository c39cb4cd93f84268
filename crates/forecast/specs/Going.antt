-- Walks ahead of a book: how far one has come, and what a step of it does.
use Rattle.std.specs.Prelude.{◌≡◌, ℕ, ◌<◌, ◌≤◌, List, Option}
use Rattle.gt_base.specs.declared.events.RoleId.{RoleId}
use Rattle.gt_base.specs.declared.events.UserId.{UserId}
use Rattle.gt_base.specs.declared.requests.Entry.{Entry}
use Rattle.gtrbac_model.specs.Policy.{Policy}
use Rattle.gtrbac_model.specs.Base.{base_at}
use Rattle.gtrbac_model.specs.Calendar.{day_of}
use Rattle.gtrbac_model.specs.Sessions.{Table}
use Rattle.gtrbac_model.specs.Status.{Model}
use Rattle.history_laws.specs.Pending.{NothingBetween}
use Rattle.instant_bases.specs.Timelines.{ClosedSet, TimelineView}
use Rattle.session_table.specs.Tables.{TableView, NotBefore, table_of}
use Rattle.time_engine.specs.Plans.{with_trace}
use Rattle.time_engine.specs.Traces.{model_of}
use Rattle.core_machine.specs.Books.{BookView}
use Rattle.core_machine.specs.Coherent.{Abreast}

-- the walk has come to this timeline and this table: with these sets as its trace, and with these
-- charges, of which those of this day and of later ones are kept, both are abreast of the entries
-- with ticks that were legal, which add nothing to any base
pub record IsGoing (p : Policy) (birth : ℕ) (h : List Entry) (v : TimelineView) (tb : Table)
    (charged_to : Option ℕ) : Type 0 where
  pub gone : List Entry
  pub sets : List ClosedSet
  pub charges : UserId → RoleId → ℕ → ℕ
  pub abreast : Abreast p birth gone (with_trace v sets) (record tb { charged = charges })
  pub kept : (u : UserId) (r : RoleId) (d : ℕ) → day_of v.now ≤ d
      → tb.charged u r d ≡ charges u r d
  pub bases : (m : Model) (t : ℕ) → base_at p birth m gone t ≡ base_at p birth m h t
  pub charged : NotBefore charged_to v.now

abbrev pub IsOnWay : BookView → TimelineView → TableView → Type 0
IsOnWay b v tv = IsGoing b.named.policy b.birth b.entries v (table_of tv) tv.charged_to

-- a step goes on to this timeline and this table, not past the horizon, and nothing happens on its
-- way
pub record Steps (p : Policy) (birth : ℕ) (h : List Entry) (v w : TimelineView) (tb : Table)
    (charged_to : Option ℕ) (upto : ℕ) : Type 0 where
  pub way : IsGoing p birth h w tb charged_to
  pub later : v.now < w.now
  pub bounded : w.now ≤ upto
  pub quiet : NothingBetween (model_of way.sets) v.now w.now

abbrev pub StepsTo : BookView → TimelineView → TimelineView → TableView → ℕ → Type 0
StepsTo b v w tw upto =
    Steps b.named.policy b.birth b.entries v w (table_of tw) tw.charged_to upto
