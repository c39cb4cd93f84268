use Rattle.std.proofs.Common.{refl}
use Rattle.why_check.proofs.closing.close.Goals as goal

pub returns : goal.returns
returns c = record {
  now = refl;
  born = c.in_ok-turn.ensures.birth;
  status = c.in_ok-turn.ensures.status;
  since = c.in_ok-turn.ensures.since;
  due = c.in_ok-put_delayed.ensures;
  table = c.in_ok-s.ensures.table;
  charged = c.in_ok-s.ensures.charged;
}
