use Rattle.std.proofs.Common.{arith}
use Rattle.std.specs.Prelude.{codes}
use Rattle.civil_time.specs.Text.{civil_text}
use Rattle.request_text.specs.Replies.{who_text}
use Rattle.request_text.proofs.EntryLengths.{tick_length}
use Rattle.request_text.proofs.Walks.{tick_pushed}
use Rattle.request_text.proofs.entries.put_tick.Goals as goal

pub returns : goal.returns
returns c =
    record {
      items =
          tick_pushed c.args.into.now.items _ _ _ _ (codes "tick ") (who_text c.args.who) (codes " to ") (civil_text c.args.to) (codes " bound ") (civil_text c.args.upto) c.put.ensures.items c.put_who.ensures.items
          c.put_instant.ensures.items c.put_instant-2.ensures.items;
      spare =
          omega (
            arith,
            tick_length c.args.who c.args.to c.args.upto,
            c.put.ensures.spare,
            c.put_who.ensures.spare,
            c.put_instant.ensures.spare,
            c.put_instant-2.ensures.spare,
          );
    }
