use Rattle.std.proofs.Common.{◌≡◌, ◌<◌, ◌+◌, ◌++◌, ◌∷◌, [], List, length, take, sym, ap, arith, ◌∙◌, append_assoc}
use Rattle.gt_base.specs.declared.requests.Entry.{Entry}
use Rattle.history_laws.specs.Looks.{without_looks}
use Rattle.core_machine.specs.Books.{BookView}
use Rattle.snapshot_readers.proofs.Taking.{front_of_front, look_passed, other_passed}
use Rattle.snapshot_readers.proofs.book_copy.plays.Goals as goal
use Rattle.snapshot_readers.proofs.book_copy.plays.Goals.{then-not-looks+else-not-agrees, else-not-looks}

pub returns-then-not-agrees-clause-front : goal.returns-then-not-agrees-clause-front
returns-then-not-agrees-clause-front c =
    let inv = c.loop-entry.invariant in
    front_of_front c.args.good c.loop-entry.upto c.loop-entry.book.entries c.agrees.new.book.entries c.args.book.now.entries inv.up c.if-not-agrees.ensures.front inv.front

pub loop-entry-preserved : goal.loop-entry-preserved
loop-entry-preserved c =
    let inv = c.loop-entry.invariant in
    let old = c.loop-entry.book in
    let i = c.loop-entry.entry-index in
    let es : List Entry = c.args.entries.now in
    let e : Entry = c.entry-item.result in
    let low : i < length es = c.loop-entry-test.true in
    let before : List Entry = take c.args.good c.args.book.now.entries in
    elim c.if-not-looks.branch [
      | then-not-looks+else-not-agrees w ↦
          let new : BookView = w.agrees.new.book in
          let agrees = w.agrees.ensures.same w.if-not-agrees.false in
          let book : c.if-not-looks.book ≡ new = w.book-is in
          let upto : c.if-not-looks.upto ≡ c.loop-entry.upto + 1 = w.upto-is in
          record {
            root = (inv.root.0 ∙ w.agrees.ensures.root.0 ∙ ap (λ (b : BookView). b.named) (sym book), inv.root.1 ∙ w.agrees.ensures.root.1 ∙ ap (λ (b : BookView). b.birth) (sym book));
            front = ap (λ (b : BookView). take c.args.good b.entries) book ∙ front_of_front c.args.good c.loop-entry.upto old.entries new.entries c.args.book.now.entries inv.up w.agrees.ensures.front inv.front;
            up = omega (arith, upto, inv.up);
            played =
                (λ j. take (upto j) (book j).entries) ∙ agrees.1 ∙ ap (λ (k : List Entry). k ++ e ∷ []) inv.played ∙ append_assoc before (without_looks (take i es)) (e ∷ [])
                ∙ ap (λ (k : List Entry). before ++ k) (sym (other_passed i es e low c.entry-item.is (sym c.looks.ensures ∙ w.if-not-looks.true)));
          }
      | else-not-looks w ↦
          let book : c.if-not-looks.book ≡ old = w.book-is in
          let upto : c.if-not-looks.upto ≡ c.loop-entry.upto = w.upto-is in
          record {
            root = (inv.root.0 ∙ ap (λ (b : BookView). b.named) (sym book), inv.root.1 ∙ ap (λ (b : BookView). b.birth) (sym book));
            front = ap (λ (b : BookView). take c.args.good b.entries) book ∙ inv.front;
            up = omega (arith, upto, inv.up);
            played = (λ j. take (upto j) (book j).entries) ∙ inv.played ∙ ap (λ (k : List Entry). before ++ k) (sym (look_passed i es e low c.entry-item.is (sym c.looks.ensures ∙ w.if-not-looks.false)));
          }
    ]
