use Rattle.std.proofs.Common.{ap, take, ◌∙◌, arith}
use Rattle.std.proofs.KnownBytes.{Consumes-kept, Consumes-trans}
use Rattle.gt_io.proofs.Pieces.{more_taken, all_taken, kept_short, more_short}
use Rattle.gt_io.proofs.Stops.{stops_failed, stops_ended, stops_none}
use Rattle.gt_io.proofs.source.read_all.Goals as goal

pub returns-in_err-n-clause-front : goal.returns-in_err-n-clause-front
returns-in_err-n-clause-front g c = (_, kept_short _ _ _ c.loop-bytes.bytes.ok.0 c.loop-bytes.invariant.within, Consumes-kept _ _ _ _ c.loop-bytes.invariant.taken c.in_err-n.ensures.bytes)

pub returns-then-n-eq0-clause-whole : goal.returns-then-n-eq0-clause-whole
returns-then-n-eq0-clause-whole g c =
    all_taken (g.S.Source.intake c.args.source.now).left _ _ c.loop-bytes.bytes.items _ c.loop-bytes.invariant.taken c.in_ok-n.ensures.bytes.0 (ap (λ n. take n c.read.new.buf) c.if-n-eq0.true)
    (c.in_ok-n.ensures.bytes.1 c.if-n-eq0.true (omega arith))

pub returns-then-n-eq0-clause-end : goal.returns-then-n-eq0-clause-end
returns-then-n-eq0-clause-end g c = c.in_ok-n.ensures.bytes.1 c.if-n-eq0.true (omega arith)

pub returns-then-n-eq0-clause-within : goal.returns-then-n-eq0-clause-within
returns-then-n-eq0-clause-within g c = c.loop-bytes.invariant.within

pub returns-then-n-eq0-clause-front : goal.returns-then-n-eq0-clause-front
returns-then-n-eq0-clause-front g c = (_, more_short c.loop-bytes.bytes.items c.read.new.buf c.in_ok-n.n _ _ c.in_ok-n.ensures.bound.0 (omega (arith, c.read.auto.buf)) c.loop-bytes.bytes.ok.0 c.loop-bytes.invariant.within, Consumes-trans _ _ _ _ _ c.loop-bytes.invariant.taken c.in_ok-n.ensures.bytes.0)

pub returns-then-n-eq0-clause-cause : goal.returns-then-n-eq0-clause-cause
returns-then-n-eq0-clause-cause g c = c.in_ok-n.ensures.cause.kept ∙ c.loop-bytes.invariant.kept

pub add_piece-requires : goal.add_piece-requires
add_piece-requires g c = c.loop-bytes.invariant.within

pub loop-bytes-preserved : goal.loop-bytes-preserved
loop-bytes-preserved g c = record {
  taken = more_taken (g.S.Source.intake c.args.source.now).left _ _ c.loop-bytes.bytes.items _ _ c.loop-bytes.invariant.taken c.in_ok-n.ensures.bytes.0 c.in_ok-add_piece.ensures.added;
  within = c.in_ok-add_piece.ensures.within;
  kept = c.in_ok-n.ensures.cause.kept ∙ c.loop-bytes.invariant.kept;
  no_end = c.in_ok-n.ensures.ends.1 c.if-n-eq0.false ∙ c.loop-bytes.invariant.no_end;
}

pub returns-in_err-add_piece-clause-front : goal.returns-in_err-add_piece-clause-front
returns-in_err-add_piece-clause-front g c = (_, more_short c.loop-bytes.bytes.items c.read.new.buf c.in_ok-n.n _ _ c.in_ok-n.ensures.bound.0 (omega (arith, c.read.auto.buf)) c.loop-bytes.bytes.ok.0 c.loop-bytes.invariant.within, Consumes-trans _ _ _ _ _ c.loop-bytes.invariant.taken c.in_ok-n.ensures.bytes.0)

pub returns-in_err-n-clause-once : goal.returns-in_err-n-clause-once
returns-in_err-n-clause-once g c =
    stops_failed _ _ _ _ _ _ c.loop-bytes.invariant.kept c.loop-bytes.invariant.no_end c.in_err-n.ensures.once c.in_err-n.ensures.ends

pub returns-then-n-eq0-clause-once : goal.returns-then-n-eq0-clause-once
returns-then-n-eq0-clause-once g c =
    stops_ended _ _ _ _ _ _ c.loop-bytes.invariant.kept c.loop-bytes.invariant.no_end c.in_ok-n.ensures.cause.kept (c.in_ok-n.ensures.ends.0 c.if-n-eq0.true)

pub returns-in_err-add_piece-clause-once : goal.returns-in_err-add_piece-clause-once
returns-in_err-add_piece-clause-once g c =
    stops_none _ _ _ _ _ _ c.loop-bytes.invariant.kept c.loop-bytes.invariant.no_end c.in_ok-n.ensures.cause.kept (c.in_ok-n.ensures.ends.1 c.if-n-eq0.false)
