use Rattle.std.proofs.Common.{◌≡◌, ◌≤◌, ◌+◌, ◌++◌, flat_map, length, take, drop}
use Rattle.request_text.specs.Walks.{step_name}
use Rattle.request_text.proofs.replies.put_juniors.Given as goal

abbrev pub invariant-loop-n : goal.invariant-loop-n
invariant-loop-n g l =
    let R = g.R.Room in
    record {
      items : (R.room l.into).items ≡ (R.room l.fn.into).items ++ flat_map (step_name l.p) (take l.n-index l.edges);
      room : length (flat_map (step_name l.p) (drop l.n-index l.edges)) ≤ (R.room l.into).spare;
      spare : (R.room l.fn.into).spare ≤ (R.room l.into).spare + length (flat_map (step_name l.p) (take l.n-index l.edges));
    }
