-- A book may go to another thread, and several may share it; so may a ledger go.
use denote.Param.Send.{IsSend, IsSync, sendable, view_send, view_sync, recorded_send, recorded_sync, struct_send, struct_sync}
use denote.Struct.Declared.{shape}
use Rattle.std.proofs.Crossing.{crosses}
use Rattle.gt_base.proofs.Crossing.{base_send, base_sync, happened_send, happened_sync}
use Rattle.delay_agenda.proofs.Crossing.{agenda_send, agenda_sync}
use Rattle.policy_book.proofs.Crossing.{period_send, period_sync, policy_send, policy_sync}
use Rattle.dependency_graph.specs.contracts.event_graphs.EventGraph as graph
use Rattle.safety_cycle.specs.contracts.strata.Strata as strata
use Rattle.trigger_rules.specs.contracts.rules.Rules as rules
use Rattle.trigger_rules.specs.contracts.rules.Rules.TheInside as rules_inside
use Rattle.instant_engine.specs.contracts.levels.TriggerLevels as levels
use Rattle.time_engine.specs.contracts.grounds.Ground as ground
use Rattle.time_engine.specs.contracts.grounds.Ground.TheInside as ground_inside
use Rattle.time_engine.specs.contracts.traces.Closed as closed
use Rattle.time_engine.specs.contracts.traces.Closed.TheInside as closed_inside
use Rattle.time_engine.specs.contracts.timelines.Timeline as timeline
use Rattle.time_engine.specs.contracts.timelines.Timeline.TheInside as timeline_inside
use Rattle.duration_limits.specs.contracts.ages.Ages as ages
use Rattle.instant_bases.specs.contracts.watches.WatchedPeriod as watch
use Rattle.instant_bases.specs.contracts.watches.WatchedPeriod.TheInside as watch_inside
use Rattle.session_table.specs.contracts.tables.Sessions as sessions
use Rattle.core_machine.specs.contracts.books.Book as book
use Rattle.core_machine.specs.contracts.books.Book.TheInside as book_inside
use Rattle.core_machine.specs.contracts.ledgers.Ledger as ledger
use Rattle.core_machine.specs.contracts.ledgers.Ledger.TheInside as ledger_inside

graph_send : IsSend graph.the_row
graph_send = search (sendable, crosses) depth 60

strata_send : IsSend strata.the_row
strata_send = search (sendable, crosses) depth 40

rules_inside_send : IsSend rules_inside.the_row
rules_inside_send =
    recorded_send rules_inside.the_field.row _ _ rules_inside.the_type.to_one
    (struct_send (shape rules_inside.the_type)
    (search (base_send, sendable, crosses) depth 40, (search (sendable, crosses) depth 60, (search (sendable, crosses) depth 60, tt))))

rules_send : IsSend rules.the_row
rules_send = view_send rules_inside.the_row _ _ _ _ rules_inside_send

levels_send : IsSend levels.the_row
levels_send = search (sendable, crosses) depth 60

ground_inside_send : IsSend ground_inside.the_row
ground_inside_send =
    recorded_send ground_inside.the_field.row _ _ ground_inside.the_type.to_one
    (struct_send (shape ground_inside.the_type)
    (search (sendable, crosses) depth 40, (policy_send, (graph_send, (strata_send, (rules_send, (search (levels_send, sendable, crosses) depth 60, tt)))))))

ground_send : IsSend ground.the_row
ground_send = view_send ground_inside.the_row _ _ _ _ ground_inside_send

closed_inside_send : IsSend closed_inside.the_row
closed_inside_send =
    recorded_send closed_inside.the_field.row _ _ closed_inside.the_type.to_one
    (struct_send (shape closed_inside.the_type)
    (search (sendable, crosses) depth 40, (happened_send, (happened_send, tt))))

closed_send : IsSend closed.the_row
closed_send = view_send closed_inside.the_row _ _ _ _ closed_inside_send

ages_send : IsSend ages.the_row
ages_send = search (sendable, crosses) depth 60

watch_inside_send : IsSend watch_inside.the_row
watch_inside_send = search (period_send, sendable, crosses) depth 40

watch_send : IsSend watch.the_row
watch_send = view_send watch_inside.the_row _ _ _ _ watch_inside_send

timeline_inside_send : IsSend timeline_inside.the_row
timeline_inside_send = search (watch_send, ages_send, closed_send, agenda_send, base_send, sendable, crosses) depth 60

timeline_send : IsSend timeline.the_row
timeline_send = view_send timeline_inside.the_row _ _ _ _ timeline_inside_send

sessions_send : IsSend sessions.the_row
sessions_send = search (base_send, sendable, crosses) depth 60 fits 20000

book_inside_send : IsSend book_inside.the_row
book_inside_send = search (ground_send, timeline_send, sessions_send, base_send, sendable, crosses) depth 60

pub book_send : IsSend book.the_row
book_send = view_send book_inside.the_row _ _ _ _ book_inside_send

ledger_inside_send : IsSend ledger_inside.the_row
ledger_inside_send = search (book_send, sendable, crosses) depth 40

pub ledger_send : IsSend ledger.the_row
ledger_send = view_send ledger_inside.the_row _ _ _ _ ledger_inside_send

graph_sync : IsSync graph.the_row
graph_sync = search (sendable, crosses) depth 60

strata_sync : IsSync strata.the_row
strata_sync = search (sendable, crosses) depth 40

rules_inside_sync : IsSync rules_inside.the_row
rules_inside_sync =
    recorded_sync rules_inside.the_field.row _ _ rules_inside.the_type.to_one
    (struct_sync (shape rules_inside.the_type)
    (search (base_sync, sendable, crosses) depth 40, (search (sendable, crosses) depth 60, (search (sendable, crosses) depth 60, tt))))

rules_sync : IsSync rules.the_row
rules_sync = view_sync rules_inside.the_row _ _ _ _ rules_inside_sync

levels_sync : IsSync levels.the_row
levels_sync = search (sendable, crosses) depth 60

ground_inside_sync : IsSync ground_inside.the_row
ground_inside_sync =
    recorded_sync ground_inside.the_field.row _ _ ground_inside.the_type.to_one
    (struct_sync (shape ground_inside.the_type)
    (search (sendable, crosses) depth 40, (policy_sync, (graph_sync, (strata_sync, (rules_sync, (search (levels_sync, sendable, crosses) depth 60, tt)))))))

ground_sync : IsSync ground.the_row
ground_sync = view_sync ground_inside.the_row _ _ _ _ ground_inside_sync

closed_inside_sync : IsSync closed_inside.the_row
closed_inside_sync =
    recorded_sync closed_inside.the_field.row _ _ closed_inside.the_type.to_one
    (struct_sync (shape closed_inside.the_type)
    (search (sendable, crosses) depth 40, (happened_sync, (happened_sync, tt))))

closed_sync : IsSync closed.the_row
closed_sync = view_sync closed_inside.the_row _ _ _ _ closed_inside_sync

ages_sync : IsSync ages.the_row
ages_sync = search (sendable, crosses) depth 60

watch_inside_sync : IsSync watch_inside.the_row
watch_inside_sync = search (period_sync, sendable, crosses) depth 40

watch_sync : IsSync watch.the_row
watch_sync = view_sync watch_inside.the_row _ _ _ _ watch_inside_sync

timeline_inside_sync : IsSync timeline_inside.the_row
timeline_inside_sync = search (watch_sync, ages_sync, closed_sync, agenda_sync, base_sync, sendable, crosses) depth 60

timeline_sync : IsSync timeline.the_row
timeline_sync = view_sync timeline_inside.the_row _ _ _ _ timeline_inside_sync

sessions_sync : IsSync sessions.the_row
sessions_sync = search (base_sync, sendable, crosses) depth 60 fits 20000

book_inside_sync : IsSync book_inside.the_row
book_inside_sync = search (ground_sync, timeline_sync, sessions_sync, base_sync, sendable, crosses) depth 60

pub book_sync : IsSync book.the_row
book_sync = view_sync book_inside.the_row _ _ _ _ book_inside_sync
