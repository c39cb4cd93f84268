use Rattle.std.proofs.Common.{◌≡◌, [], false, All}
use Rattle.daemon_checks.proofs.fakes.links.Given as goal

abbrev pub invariant-loop-wire : goal.invariant-loop-wire
invariant-loop-wire l = All (λ link. (link.source.taken ≡ []) × (link.sink.written ≡ []) × (link.finished ≡ false)) l.links.items
