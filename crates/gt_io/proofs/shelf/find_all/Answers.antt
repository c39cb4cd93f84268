use Rattle.std.proofs.Common.{ap, take, ◌∙◌, arith}
use Rattle.gt_io.proofs.Pieces.{more_found, all_found}
use Rattle.gt_io.proofs.Stops.{asks_failed, asks_ended, asks_none, search_failed}
use Rattle.gt_io.proofs.shelf.find_all.Goals as goal

pub returns-in_err-n-clause-same : goal.returns-in_err-n-clause-same
returns-in_err-n-clause-same g c = c.in_err-n.ensures.same ∙ c.pieces.invariant.same

pub returns-then-n-eq0-clause-whole : goal.returns-then-n-eq0-clause-whole
returns-then-n-eq0-clause-whole g c =
    all_found (g.S.Shelf.stock c.args.shelf.now).contents c.args.name.now _ _ _ c.pieces.bytes.items _ c.in_ok-find.ensures.found c.pieces.invariant.found c.in_ok-n.ensures.bytes.0
    (ap (λ n. take n c.read.new.buf) c.if-n-eq0.true) (c.in_ok-n.ensures.bytes.1 c.if-n-eq0.true (omega arith))

pub returns-then-n-eq0-clause-end : goal.returns-then-n-eq0-clause-end
returns-then-n-eq0-clause-end g c = c.in_ok-n.ensures.bytes.1 c.if-n-eq0.true (omega arith)

pub returns-then-n-eq0-clause-within : goal.returns-then-n-eq0-clause-within
returns-then-n-eq0-clause-within g c = c.pieces.invariant.within

pub returns-then-n-eq0-clause-same : goal.returns-then-n-eq0-clause-same
returns-then-n-eq0-clause-same g c = c.in_ok-n.ensures.same ∙ c.pieces.invariant.same

pub returns-then-n-eq0-clause-cause : goal.returns-then-n-eq0-clause-cause
returns-then-n-eq0-clause-cause g c = c.in_ok-n.ensures.cause.kept ∙ c.pieces.invariant.kept

pub returns-then-n-eq0-clause-hard_cause : goal.returns-then-n-eq0-clause-hard_cause
returns-then-n-eq0-clause-hard_cause g c = c.in_ok-n.ensures.hard_cause.kept ∙ c.pieces.invariant.hard_kept

pub add_piece-requires : goal.add_piece-requires
add_piece-requires g c = c.pieces.invariant.within

pub pieces-preserved : goal.pieces-preserved
pieces-preserved g c = record {
  found = more_found (g.S.Shelf.stock c.args.shelf.now).contents c.args.name.now _ _ c.pieces.bytes.items _ _ c.pieces.invariant.found c.in_ok-n.ensures.bytes.0 c.in_ok-add_piece.ensures.added;
  same = c.in_ok-n.ensures.same ∙ c.pieces.invariant.same;
  within = c.in_ok-add_piece.ensures.within;
  kept = c.in_ok-n.ensures.cause.kept ∙ c.pieces.invariant.kept;
  asked = c.in_ok-n.ensures.asked ∙ c.pieces.invariant.asked;
  no_end = c.in_ok-n.ensures.ends.1 c.if-n-eq0.false ∙ c.pieces.invariant.no_end;
  hard_kept = c.in_ok-n.ensures.hard_cause.kept ∙ c.pieces.invariant.hard_kept;
}

pub returns-in_err-add_piece-clause-same : goal.returns-in_err-add_piece-clause-same
returns-in_err-add_piece-clause-same g c = c.in_ok-n.ensures.same ∙ c.pieces.invariant.same

pub returns-in_err-find-clause-once : goal.returns-in_err-find-clause-once
returns-in_err-find-clause-once g c = search_failed (g.S.Shelf.stock c.args.shelf.now) (g.S.Shelf.stock c.find.new.self) c.in_err-find.ensures.asked c.in_err-find.ensures.once c.in_err-find.ensures.ends

pub returns-in_err-n-clause-once : goal.returns-in_err-n-clause-once
returns-in_err-n-clause-once g c =
    asks_failed (g.S.Shelf.stock c.args.shelf.now) (g.S.Shelf.stock c.pieces.shelf) (g.S.Shelf.stock c.read.new.self) c.pieces.invariant.asked c.in_err-n.ensures.asked c.pieces.invariant.kept c.pieces.invariant.no_end c.in_err-n.ensures.once c.in_err-n.ensures.ends

pub returns-then-n-eq0-clause-once : goal.returns-then-n-eq0-clause-once
returns-then-n-eq0-clause-once g c =
    asks_ended (g.S.Shelf.stock c.args.shelf.now) (g.S.Shelf.stock c.pieces.shelf) (g.S.Shelf.stock c.read.new.self) c.pieces.invariant.asked c.in_ok-n.ensures.asked c.pieces.invariant.kept c.pieces.invariant.no_end c.in_ok-n.ensures.cause.kept (c.in_ok-n.ensures.ends.0 c.if-n-eq0.true)

pub returns-in_err-add_piece-clause-once : goal.returns-in_err-add_piece-clause-once
returns-in_err-add_piece-clause-once g c =
    asks_none (g.S.Shelf.stock c.args.shelf.now) (g.S.Shelf.stock c.pieces.shelf) (g.S.Shelf.stock c.read.new.self) c.pieces.invariant.asked c.in_ok-n.ensures.asked c.pieces.invariant.kept c.pieces.invariant.no_end c.in_ok-n.ensures.cause.kept (c.in_ok-n.ensures.ends.1 c.if-n-eq0.false)
