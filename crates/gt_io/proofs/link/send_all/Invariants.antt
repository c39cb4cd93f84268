use Rattle.std.proofs.Common.{◌≤◌, ◌≡◌, ℕ, length, take, drop}
use Rattle.std.specs.Io.KnownBytes.{Appends}
use Rattle.gt_io.specs.Links.{ReadsNothing}
use Rattle.gt_io.proofs.link.send_all.Given as goal

abbrev pub invariant-loop-rest : goal.invariant-loop-rest
invariant-loop-rest g l =
    let before = g.L.Link.traffic l.fn.link in
    let now = g.L.Link.traffic l.link in
    record {
      n : ℕ;
      left : l.rest ≡ drop n l.text;
      within : n ≤ length l.text;
      given : Appends before.given now.given (take n l.text);
      reads : ReadsNothing before now;
      kept : now.write_faults ≡ before.write_faults;
      held : now.finished ≡ before.finished;
    }

abbrev pub decreases-loop-rest : goal.decreases-loop-rest
decreases-loop-rest g l = length l.rest
