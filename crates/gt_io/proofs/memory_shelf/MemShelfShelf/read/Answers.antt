use Rattle.std.proofs.Common.{◌≡◌, ◌+◌, ◌++◌, [], length, take, drop, min, ap, subst, sym, ◌∙◌}
use Rattle.gt_io.specs.MemoryShelf.{Texts, bytes_at}
use Rattle.gt_io.proofs.Stops.{counted_end}
use Rattle.gt_io.proofs.Supplies.{supply_at}
use Rattle.gt_io.proofs.Shelves.{broken_read, read_on}
use Rattle.gt_io.proofs.memory_shelf.MemShelfShelf.read.Goals as goal

pub returns-then-begin-clause-reads : goal.returns-then-begin-clause-reads
returns-then-begin-clause-reads c = broken_read c.args.self.now c.begin.new.self (length c.args.buf.now) _ c.if-begin.ensures.listed c.if-begin.ensures.made

pub returns-clause-bytes : goal.returns-clause-bytes
returns-clause-bytes c =
    let at = c.self.inside.at in
    let n = c.give-n.result in
    let same : c.bytes_of-bytes.result.now ≡ bytes_at c.self.inside.files.items c.self.inside.place = c.bytes_of-bytes.ensures ∙ ap (λ fs. bytes_at fs c.self.inside.place) c.as_slice.ensures in (
      ap (λ (t : Texts). t.text.left) (sym (c.self.view_is ∙ c.if-begin.ensures.made)) ∙ subst (λ bs. drop at bs ≡ take n c.give-n.new.buf ++ drop (at + n) bs) same c.give-n.ensures.given,
      λ none room. subst (λ bs. drop (at + n) bs ≡ []) same (c.give-n.ensures.end none room),
    )

pub returns-clause-reads : goal.returns-clause-reads
returns-clause-reads c =
    let s = c.self.inside in
    let n = c.give-n.result in
    let whole = bytes_at s.files.items s.place in
    let same : c.bytes_of-bytes.result.now ≡ whole = c.bytes_of-bytes.ensures ∙ ap (λ fs. bytes_at fs s.place) c.as_slice.ensures in
    let v : Texts = record { files = s.files.items; text = supply_at whole s.at s.piece s.calls s.ends; hard_faults = s.hard_faults; asked = s.asked } in
    read_on c.args.self.now v n (length c.args.buf.now) (take (s.at + n) whole) (drop (s.at + n) whole) c.count_end-ends.result c.if-begin.ensures.listed (c.self.view_is ∙ c.if-begin.ensures.made)
    (c.give-n.ensures.number ∙ (λ i. min (length (drop s.at (same i))) (min (c.give-n.auto.buf i) s.piece)))
    (subst (λ bs. take (s.at + n) bs ≡ take s.at bs ++ take n (drop s.at bs)) same c.give-n.ensures.taken) (subst (λ bs. drop (s.at + n) bs ≡ drop n (drop s.at bs)) same c.give-n.ensures.left) (counted_end n _ _ c.count_end-ends.ensures.end c.count_end-ends.ensures.more)
