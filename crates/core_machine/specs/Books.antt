-- Books: a history that is legal, with its trace.
use Rattle.std.specs.Prelude.{◌≡◌, ℕ, ◌<◌, ◌≤◌, List, [], ◌∷◌, ◌++◌, length, refl, ◌⊎◌}
use Rattle.std.specs.List.{list_any}
use Rattle.std.specs.Ordering.{eq_by_cmp}
use Rattle.std.specs.Coded.{Coded, code_by, coded×, coded_ℕ, coded_list}
use Rattle.std.proofs.Common.{sym, ◌∙◌, subst, ap}
use Rattle.gt_base.specs.Happening.{HappenedView}
use Rattle.gt_base.specs.Machines.{ticked, asked}
use Rattle.gt_base.specs.Orders.{signal_cmp}
use Rattle.gt_base.specs.Sets.{has}
use Rattle.gt_base.specs.declared.events.Signal.{Signal}
use Rattle.gt_base.specs.declared.requests.Who.{Who}
use Rattle.gt_base.specs.declared.requests.Entry.{Entry}
use Rattle.gt_base.specs.declared.requests.Actor.{Actor}
use Rattle.gt_base.specs.declared.requests.Request.{Request}
use Rattle.gt_base.specs.declared.requests.Reply.{Reply}
use Rattle.gt_base.specs.contracts.requests.Entry as entry
use Rattle.gt_base.specs.declared.limits.TheConstants.{LAST_MINUTE, MAX_STEPS}
use Rattle.policy_words.specs.Valid.{IsWellFormed}
use Rattle.gtrbac_model.specs.Policy.{Policy}
use Rattle.gtrbac_model.specs.Base.{base_at}
use Rattle.gtrbac_model.specs.Reply.{Point, reply_of}
use Rattle.gtrbac_model.specs.History.{Legal, IsExecutionModel, IsNextStop, stirs, now_of, point_after, IsNamedWish, ask}
use Rattle.gtrbac_model.specs.Sessions.{Table}
use Rattle.gtrbac_model.specs.Status.{Model}
use Rattle.gtrbac_model.specs.Theorems.{IsOnlyModel}
use Rattle.history_laws.specs.Looks.{without_looks}
use Rattle.history_laws.specs.Named.{AreNamed}
use Rattle.policy_words.specs.Naming.{NamedPolicy, named_policy_code}
use Rattle.instant_bases.specs.Timelines.{ClosedSet, closed_set_code, TimelineView}
use Rattle.time_engine.specs.Traces.{model_of}

-- what a clause sees of a book
pub record BookView : Type 0 where
  pub named : NamedPolicy
  pub birth : ℕ
  pub entries : List Entry
  pub trace : List ClosedSet

abbrev pub book_code : Coded BookView
book_code =
    code_by (NamedPolicy × (ℕ × (List Entry × List ClosedSet)))
    (coded× named_policy_code
    (coded× coded_ℕ (coded× (coded_list entry.the_row.coded) (coded_list closed_set_code))))
    (λ b. (b.named, (b.birth, (b.entries, b.trace))))
    (λ (p, (t, (h, m))). record { named = p; birth = t; entries = h; trace = m }) (λ _. refl)

abbrev pub now_in : BookView → ℕ
now_in b = now_of b.birth b.entries

-- what happened at each instant
abbrev pub model_in : BookView → Model
model_in b = model_of b.trace

-- what the book's next request is answered from
abbrev pub point_in : BookView → Point
point_in b = point_after b.named.policy b.birth (model_in b) b.entries

-- the model's reply to a request at now
abbrev pub reply_in : BookView → Actor → Request → Reply
reply_in b actor request = reply_of b.named.policy (point_in b) actor request

-- so it is at each history whose entries are the book's but for those that only look
abbrev pub IsReplyAmongLooks : BookView → Actor → Request → Reply → Type 0
IsReplyAmongLooks b actor request reply =
    (h : List Entry) (m : Model) → without_looks h ≡ b.entries
    → IsExecutionModel b.named.policy b.birth h m
    → reply ≡ reply_of b.named.policy (point_after b.named.policy b.birth m h) actor request

-- the book's history is legal, with its trace as the execution model
abbrev pub IsLegalBook : BookView → Type 0
IsLegalBook b = Legal b.named.policy b.birth b.entries (model_in b)

-- the table is that of the history at now, the signals that wait left out
abbrev pub IsTableIn : BookView → Table → Type 0
IsTableIn b tb = record tb { signals = (point_in b).table.signals } ≡ (point_in b).table

-- the timeline has the signals of that table, which wait for the minute after now; after the last
-- instant there is none
abbrev pub HasWaiting : BookView → TimelineView → Type 0
HasWaiting b v =
    now_in b < LAST_MINUTE → (x : Signal)
    → list_any (eq_by_cmp signal_cmp x) (point_in b).table.signals ≡ has v.signals x

-- every other list of sets that is a model of the entries agrees with the trace at every instant
abbrev pub HasOnlyModel : BookView → Type 0
HasOnlyModel b = IsOnlyModel b.named.policy b.birth b.entries (model_in b)

-- the base of each set is that of the definitions
abbrev pub HasBases : Policy → ℕ → Model → List Entry → List ClosedSet → Type 0
HasBases p birth m h [] = Unit {0}
HasBases p birth m h (c ∷ cs) = (c.base ≡ base_at p birth m h c.at) × HasBases p birth m h cs

-- an entry more; policy and birth stay
pub record Gains (old new : BookView) (e : Entry) : Type 0 where
  pub named : new.named ≡ old.named
  pub birth : new.birth ≡ old.birth
  pub entries : new.entries ≡ old.entries ++ e ∷ []

-- the trace goes on, and the tick went to the next instant that stirs, or to its bound
pub record TicksFurther (old new : BookView) (who : Who) (upto to : ℕ) : Type 0 where
  pub gains : Gains old new (ticked who upto to)
  pub further : List ClosedSet
  pub trace : new.trace ≡ old.trace ++ further
  pub stop : IsNextStop (stirs old.named.policy old.birth (model_in new) old.entries) (now_in old)
      upto to
  pub now : now_in new ≡ to

-- a tick with a bound after now stands in the history with where it stopped; any other changes
-- nothing
abbrev pub Ticks : BookView → Who → ℕ → ℕ → BookView → Type 0
Ticks old who upto to new =
    (upto ≤ now_in old) × (to ≡ now_in old) × (new ≡ old)
    ⊎ (now_in old < upto) × TicksFurther old new who upto to

-- the request stands in the history with its reply, which is the definition's, and no set changes
pub record Asks (old : BookView) (who : Who) (actor : Actor) (request : Request) (reply : Reply)
    (new : BookView) : Type 0 where
  pub gains : Gains old new (asked who actor request reply)
  pub trace : new.trace ≡ old.trace
  pub reply_is : reply ≡ reply_in old actor request

-- what each book keeps: its history is legal and named, its policy well formed, its birth a minute
pub record IsBook (b : BookView) : Type 0 where
  pub legal : IsLegalBook b
  pub named : AreNamed b.named.policy b.entries
  pub well : IsWellFormed b.named
  pub birth : b.birth ≤ LAST_MINUTE
  pub short : length b.entries ≤ MAX_STEPS

-- of the same policy with its names, and of the same birth
abbrev pub SameRoot : BookView → BookView → Type 0
SameRoot a b = (a.named ≡ b.named) × (a.birth ≡ b.birth)

pub SameRoot-refl : (a : BookView) → SameRoot a a
SameRoot-refl a = (refl, refl)

pub SameRoot-sym : (a b : BookView) → SameRoot a b → SameRoot b a
SameRoot-sym a b h = (sym h.0, sym h.1)

pub SameRoot-trans : (a b c : BookView) → SameRoot a b → SameRoot b c → SameRoot a c
SameRoot-trans a b c h k = (h.0 ∙ k.0, h.1 ∙ k.1)

abbrev pub now_after : BookView → List Entry → ℕ
now_after b h = now_of b.birth h

-- some model makes the history legal for the book's policy and birth
pub record IsLegalFor (b : BookView) (h : List Entry) : Type 0 where
  pub model : ℕ → HappenedView
  pub legal : Legal b.named.policy b.birth h model

pub IsLegalFor-by_root : (a b : BookView) (h : List Entry) → SameRoot a b → IsLegalFor a h
    → IsLegalFor b h
IsLegalFor-by_root a b h s l =
    record {
      model = l.model;
      legal = subst (λ p. Legal p.policy b.birth h l.model) s.0
          (subst (λ t. Legal a.named.policy t h l.model) s.1 l.legal);
    }

-- actor and request are named for the book's policy
abbrev pub IsNamedFor : BookView → Actor → Request → Type 0
IsNamedFor b actor request = IsNamedWish b.named.policy (ask actor request)

pub IsNamedFor-by_root : (a b : BookView) (actor : Actor) (request : Request) → SameRoot a b
    → IsNamedFor a actor request → IsNamedFor b actor request
IsNamedFor-by_root a b actor request s h =
    subst (λ p. IsNamedWish p.policy (ask actor request)) s.0 h

pub now_after-by_root : (a b : BookView) (h : List Entry) → SameRoot a b
    → now_after a h ≡ now_after b h
now_after-by_root a b h s = ap (λ t. now_of t h) s.1
