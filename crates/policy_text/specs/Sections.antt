-- The canonical text in its sections, as they are written.
use Rattle.std.specs.Prelude.{ℕ, List, [], ◌∷◌, ◌++◌, flat_map, if◌then◌else◌}
use Rattle.std.specs.List.{enumerate_from}
use Rattle.gt_base.specs.Held.{TriggerView}
use Rattle.gt_base.specs.Sets.{members}
use Rattle.gt_base.specs.declared.events.Fluent.{Fluent}
use Rattle.gt_base.specs.declared.events.Event.{Event as BaseEvent}
use Rattle.gt_base.specs.declared.events.Signal.{Signal as BaseSignal}
use Rattle.gt_base.specs.declared.events.Cond.{Cond as BaseCond}
use Rattle.gt_base.specs.declared.events.UserId.{UserId}
use Rattle.gt_base.specs.declared.policies.PeriodicEntry.{PeriodicEntry}
use Rattle.gt_base.specs.declared.policies.Caps.{Caps}
use Rattle.gt_text.specs.Words.{spaced}
use Rattle.policy_words.specs.declared.parts.Item.{Item}
use Rattle.policy_words.specs.declared.parts.Item.TheVariants.{Event, Signal, Cond, Settled}
use Rattle.policy_words.specs.declared.sayings.CapKind.{CapKind}
use Rattle.policy_words.specs.CapKinds.{cap_kinds}
use Rattle.policy_words.specs.Sayings.{SaidView, version, role, user, perm, said_words, admin, opening, entry, trigger}
use Rattle.policy_words.specs.Naming.{Names, NamedPolicy, user_name, period_name, fluent_named, event_named, signal_named, cond_named, head_named}
use Rattle.policy_words.specs.declared.parts.Sort.{Sort}
use Rattle.policy_words.specs.declared.parts.Sort.TheVariants.{Enabling, Assigning, Granting, Arming, Linking}
use Rattle.policy_words.specs.Sorts.{has_sort}
use Rattle.policy_words.specs.Canonical.{period_line, limit_line, edge_line, kind_line, items_of, version_of, is_version_one}

-- a line with its line feed
abbrev pub line_text : SaidView → List ℕ
line_text s = spaced (said_words s) ++ 10 ∷ []

abbrev pub written : List SaidView → List ℕ
written ss = flat_map line_text ss

-- a line for each
abbrev pub lines_by : {A : Type 0} → (A → SaidView) → List A → List ℕ
lines_by f xs = flat_map (λ x. line_text (f x)) xs

-- each with its number
abbrev pub numbered : {A : Type 0} → List A → List (ℕ × A)
numbered xs = enumerate_from 0 xs

module _ (ns : Names) where
  abbrev pub kind_text : (ℕ × Caps) → CapKind → List ℕ
  kind_text capped kind = written (kind_line ns capped kind)

  -- the caps of a role, in the order of their kinds
  abbrev pub caps_text : (ℕ × Caps) → List ℕ
  caps_text capped = flat_map (kind_text capped) cap_kinds

  abbrev pub admin_line : UserId → SaidView
  admin_line u = admin (user_name ns u)

  abbrev pub opening_line : Fluent → SaidView
  opening_line f = opening (fluent_named ns f)

  -- its line, if it is of the sort
  abbrev pub opening_text : Sort → Fluent → List ℕ
  opening_text sort f = if has_sort sort f then line_text (opening_line f) else []

  abbrev pub entry_line : PeriodicEntry → SaidView
  entry_line e = entry e.form (period_name ns e.period) (head_named ns e.head)

  abbrev pub event_item : BaseEvent → Item
  event_item e = Event (event_named ns e)

  abbrev pub signal_item : BaseSignal → Item
  signal_item s = Signal (signal_named ns s)

  abbrev pub cond_item : BaseCond → Item
  cond_item c = Cond (cond_named ns c)

  abbrev pub settled_item : BaseCond → Item
  settled_item c = Settled (cond_named ns c)

  abbrev pub trigger_line : TriggerView → SaidView
  trigger_line r = trigger (items_of ns r) (head_named ns r.head) r.delay

abbrev pub named_text : NamedPolicy → List ℕ
named_text np = line_text (version (version_of np.policy)) ++ lines_by (λ n. role n) np.names.roles
    ++ lines_by (λ n. user n) np.names.users ++ lines_by (λ n. perm n) np.names.perms

abbrev pub timed_text : NamedPolicy → List ℕ
timed_text np = lines_by (period_line np.names) (numbered np.policy.periods)
    ++ lines_by (limit_line np.names) (numbered np.policy.limits)

abbrev pub ranked_text : NamedPolicy → List ℕ
ranked_text np = lines_by (edge_line np.names) np.policy.edges
    ++ flat_map (caps_text np.names) (numbered np.policy.caps)
    ++ lines_by (admin_line np.names) np.policy.admins

-- those of one sort
abbrev pub opened_by : Names → Sort → List Fluent → List ℕ
opened_by ns sort fs = flat_map (opening_text ns sort) fs

-- the edges that are linked, in version 2
abbrev pub linked_from : NamedPolicy → List Fluent → List ℕ
linked_from np fs = if is_version_one np.policy then [] else opened_by np.names Linking fs

-- the fluents, a sort after another
abbrev pub opened_from : NamedPolicy → List Fluent → List ℕ
opened_from np fs = opened_by np.names Enabling fs ++ opened_by np.names Assigning fs
    ++ opened_by np.names Granting fs ++ opened_by np.names Arming fs ++ linked_from np fs

-- what is on at first, of one sort
abbrev pub opened_of : Sort → NamedPolicy → List ℕ
opened_of sort np = opened_by np.names sort (members np.policy.opening)

abbrev pub opened_text : NamedPolicy → List ℕ
opened_text np =
    opened_of Enabling np ++ opened_of Assigning np ++ opened_of Granting np
    ++ opened_of Arming np
    ++ (if is_version_one np.policy then [] else opened_of Linking np)

abbrev pub ruled_text : NamedPolicy → List ℕ
ruled_text np = lines_by (entry_line np.names) np.policy.entries
    ++ lines_by (trigger_line np.names) np.policy.triggers
