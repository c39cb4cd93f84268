use Rattle.std.proofs.Common.{◌≡◌, ◌≢◌, Bool, true, false, not, refl, sym, ap, ◌∙◌, arith}
use Rattle.std.proofs.Math.Bool.{beq}
use Rattle.gt_base.specs.Happening.{Fluents}
use Rattle.gt_base.specs.Sets.{has}
use Rattle.forecast.proofs.Agreeing.{change_found, none_found, starts, stays}
use Rattle.forecast.proofs.changes.walk.Goals as goal

apart : (a b : Bool) → not (beq a b) ≡ true → a ≢ b
apart true true h e = cc
apart true false h e = cc
apart false true h e = cc
apart false false h e = cc

alike : (a b : Bool) → not (beq a b) ≡ false → a ≡ b
alike true true h = refl
alike true false h = cc
alike false true h = cc
alike false false h = refl

pub loop-f-init : goal.loop-f-init
loop-f-init c =
    record {
      way = c.requires.way;
      so = starts c.args.book.now c.keeps.ensures.safe c.keeps.ensures.kept.legal c.args.f c.args.upto c.requires.within c.args.line.now.line c.args.table.now c.is_on-was.result c.requires.way c.requires.now
          (c.is_on-was.ensures ∙ ap (λ (s : Fluents). has s c.args.f) c.status.ensures);
    }

pub returns-then-on-was : goal.returns-then-on-was
returns-then-on-was c =
    change_found c.args.book.now c.keeps.ensures.safe c.keeps.ensures.kept.legal c.args.f c.args.upto c.requires.within c.loop-f.line.line c.go_on.new.line.line c.loop-f.table c.go_on.new.table c.is_on-was.result
    c.loop-f.invariant.way c.in_ok-go_on.ensures c.loop-f.invariant.so (record { at = c.now-at.result; on = c.is_on-on.result }) c.now-at.ensures
    (c.is_on-on.ensures ∙ ap (λ (s : Fluents). has s c.args.f) c.status-in-loop-f.ensures) (apart c.is_on-on.result c.is_on-was.result c.if-on-was.true)

pub loop-f-preserved : goal.loop-f-preserved
loop-f-preserved c =
    record {
      way = c.in_ok-go_on.ensures.way;
      so = stays c.args.book.now c.keeps.ensures.safe c.keeps.ensures.kept.legal c.args.f c.args.upto c.requires.within c.loop-f.line.line c.go_on.new.line.line c.loop-f.table c.go_on.new.table c.is_on-was.result
          c.loop-f.invariant.way c.in_ok-go_on.ensures c.loop-f.invariant.so
          (sym (c.is_on-on.ensures ∙ ap (λ (s : Fluents). has s c.args.f) c.status-in-loop-f.ensures) ∙ alike c.is_on-on.result c.is_on-was.result c.if-on-was.false);
    }

pub returns : goal.returns
returns c =
    none_found c.args.book.now c.keeps.ensures.safe c.keeps.ensures.kept.legal c.args.f c.args.upto c.requires.within c.loop-f.line.line c.is_on-was.result c.loop-f.invariant.so (omega (arith, c.loop-f-test.false, c.now.ensures))
