use Rattle.std.proofs.Common.{List}
use Rattle.gt_base.specs.declared.requests.Entry.{Entry}
use Rattle.turn_lock.specs.Turns.{Each}
use Rattle.turn_lock.specs.Holders.{site_of}
use Rattle.locked_history.specs.Fronts.{by}
use Rattle.connection_laws.specs.Connection.{IsTick}
use Rattle.connection_laws.specs.Turns.{IsIdle, Grows}
use Rattle.connection_laws.proofs.asks.reach.Given as goal

abbrev pub invariant-loop : goal.invariant-loop
invariant-loop g l =
    record {
      idle : IsIdle (site_of l.server.desk.now) l.pass;
      ticks : List Entry;
      each : Each (IsTick (by l.fn.pass.number l.server.conn) l.reading) ticks;
      grows : Grows l.fn.pass l.pass ticks 0;
    }
