use Rattle.std.proofs.Common.{◌≡◌, [], false}
use Rattle.std.proofs.lemmas.List.Elements.{All-push}
use Rattle.daemon_checks.proofs.fakes.links.Goals as goal

pub loop-wire-preserved : goal.loop-wire-preserved
loop-wire-preserved c =
    rw (c.in_ok-push_back.ensures.items)
    (All-push (λ link. (link.source.taken ≡ []) × (link.sink.written ≡ []) × (link.finished ≡ false)) _ _ c.loop-wire.invariant c.in_ok-link.ensures)
