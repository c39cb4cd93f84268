use Rattle.std.proofs.Common.{◌+◌, ◌++◌, [], ◌∷◌, List, take, subst, sym, arith, All, Result}
use Rattle.std.proofs.lemmas.List.{append-nil, length-set, take_more_set}
use Rattle.std.proofs.lemmas.List.Elements.{All-push}
use Rattle.request_text.specs.declared.lines.Line.{Line}
use Rattle.request_text.specs.declared.lines.LineFault.{LineFault}
use Rattle.connection_laws.specs.Attending.{IsRead, AreRead}
use Rattle.connection_laws.proofs.Framing.{reads_past, reads_next}
use Rattle.connection_laws.proofs.ahead.read_ahead.Goals as goal

pub loop-at-preserved-in-Some : goal.loop-at-preserved-in-Some
loop-at-preserved-in-Some c =
    let np = c.args.policy.now in
    let piece = c.args.piece.now in
    let i = c.loop-at.at + c.push_front-at.result in
    let before = take c.loop-at.lines c.loop-at.said in
    let said = take_more_set c.loop-at.said c.loop-at.lines c.in-Some.line c.if-lines-said.true in
    record {
      within = (omega arith, omega (arith, length-set c.loop-at.said c.loop-at.lines c.in-Some.line), omega arith);
      read = λ text fits.
          let a = reads_past np text piece c.split_at.result.1.now c.loop-at.at c.push_front-at.result c.loop-at.framer c.push_front-at.new.self before c.split_at.ensures.back c.push_front-at.ensures.within (c.loop-at.invariant.read text fits) c.push_front-at.ensures.frame in
          subst (λ (l : List (Result Line LineFault)). AreRead np text (take (i + 1) piece) c.read_byte-read.new.framer l) (sym said)
          (reads_next np text piece i c.push_front-at.new.self c.read_byte-read.new.framer before (c.in-Some.line ∷ []) c.if-at-piece.true a (c.in-Some.ensures.read (text ++ take i piece) a.frame_fits));
      each = subst (All (IsRead np)) (sym said) (All-push (IsRead np) before c.in-Some.line c.loop-at.invariant.each c.in-Some.ensures.said);
    }

pub loop-at-preserved-in_default : goal.loop-at-preserved-in_default
loop-at-preserved-in_default c =
    let np = c.args.policy.now in
    let piece = c.args.piece.now in
    let i = c.loop-at.at + c.push_front-at.result in
    let before = take c.loop-at.lines c.loop-at.said in
    record {
      within = (omega arith, omega arith, omega arith);
      read = λ text fits.
          let a = reads_past np text piece c.split_at.result.1.now c.loop-at.at c.push_front-at.result c.loop-at.framer c.push_front-at.new.self before c.split_at.ensures.back c.push_front-at.ensures.within (c.loop-at.invariant.read text fits) c.push_front-at.ensures.frame in
          subst (λ (l : List (Result Line LineFault)). AreRead np text (take (i + 1) piece) c.read_byte-read.new.framer l) (append-nil before)
          (reads_next np text piece i c.push_front-at.new.self c.read_byte-read.new.framer before [] c.if-at-piece.true a (c.in_default.ensures.read (text ++ take i piece) a.frame_fits));
      each = c.loop-at.invariant.each;
    }

pub loop-at-preserved : goal.loop-at-preserved
loop-at-preserved c =
    record {
      within = (omega arith, omega arith, omega arith);
      read = λ text fits.
          reads_past c.args.policy.now text c.args.piece.now c.split_at.result.1.now c.loop-at.at c.push_front-at.result c.loop-at.framer c.push_front-at.new.self (take c.loop-at.lines c.loop-at.said) c.split_at.ensures.back c.push_front-at.ensures.within (c.loop-at.invariant.read text fits) c.push_front-at.ensures.frame;
      each = c.loop-at.invariant.each;
    }
