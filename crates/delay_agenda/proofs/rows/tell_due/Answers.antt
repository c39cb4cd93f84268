use Rattle.std.proofs.Common.{◌≡◌, ◌+◌, List, ◌∷◌, ◌&&◌, not, drop, cond, length, ap, arith, sym, ◌∙◌}
use Rattle.std.proofs.lemmas.List.{drop_more}
use Rattle.delay_agenda.specs.declared.pairs.Pending.{Pending}
use Rattle.delay_agenda.specs.Due.{is_due_at}
use Rattle.delay_agenda.specs.Rows.{new_due_in, stands_in}
use Rattle.delay_agenda.proofs.DueLaws.{told_more}
use Rattle.delay_agenda.proofs.rows.tell_due.Goals as goal
use Rattle.delay_agenda.proofs.rows.tell_due.Goals.{then-is_new_at, else-is_new_at}

pub loop-p-preserved : goal.loop-p-preserved
loop-p-preserved c =
    let x = c.p-item.result in
    let of : List Pending → List Pending = λ ks. new_due_in c.args.tree.now.keys ks c.args.t in
    let rest = of (drop (c.loop-p.p-index + 1) c.args.row.now) in
    let left : of (drop c.loop-p.p-index c.args.row.now) ≡ cond (is_due_at c.args.t x && not (stands_in c.args.tree.now.keys x)) (x ∷ rest) rest =
    ap of (drop_more c.args.row.now c.loop-p.p-index x c.loop-p-test.true ∙ ap (λ y. y ∷ drop (c.loop-p.p-index + 1) c.args.row.now) (sym c.p-item.is)) in
    elim c.if-is_new_at.branch [
      | then-is_new_at w ↦
          let next : of (drop c.loop-p.p-index c.args.row.now) ≡ x ∷ rest = left ∙ ap (λ b. cond b (x ∷ rest) rest) (sym c.is_new_at.ensures ∙ w.if-is_new_at.true) in
          let n = ap length next in
          rw w.into-is (record {
            spare = omega (arith, n, w.add.ensures.spare, c.loop-p.invariant.spare);
            signals = w.add.ensures.signals ∙ c.loop-p.invariant.signals;
            events = λ e. told_more _ _ x _ rest e _ next w.add.ensures.events (c.loop-p.invariant.events e);
          })
      | else-is_new_at w ↦
          let next : of (drop c.loop-p.p-index c.args.row.now) ≡ rest = left ∙ ap (λ b. cond b (x ∷ rest) rest) (sym c.is_new_at.ensures ∙ w.if-is_new_at.false) in
          rw (w.into-is, ← next) c.loop-p.invariant
    ]
