use Rattle.std.proofs.Common.{◌+◌, ◌<◌, List, drop, length, refl, sym, ap, subst, ◌∙◌, arith}
use Rattle.std.specs.List.{remove}
use Rattle.std.proofs.lemmas.List.{length-drop}
use Rattle.std.proofs.lemmas.List.Edits.{length-remove}
use Rattle.gt_base.specs.Roomy.{Roomy}
use Rattle.gtrbac_model.specs.Sessions.{Activation}
use Rattle.session_table.specs.Counting.{AreCounted}
use Rattle.session_table.proofs.Gaps.{drop_remove}
use Rattle.session_table.proofs.active.ActiveRow.remove.Goals as goal

pub returns-else-at-len : goal.returns-else-at-len
returns-else-at-len c = record {
  items = ap (drop c.self.inside.gap) c.remove.ensures.items
      ∙ drop_remove c.self.inside.gap c.args.at (c.self.inside.gap + c.args.at) c.self.inside.rows.items refl
      ∙ ap (λ (v : Roomy Activation). remove v.items c.args.at) c.self.view_is;
}

pub invariant_of-self-else-at-len : goal.invariant_of-self-else-at-len
invariant_of-self-else-at-len c =
    let rows : List Activation = c.self.inside.rows.items in
    let low : c.args.at < length (drop c.self.inside.gap rows) = subst (λ (v : Roomy Activation). c.args.at < length v.items) (sym c.self.view_is) c.requires in
    let behind = length-drop c.self.inside.gap rows in
    let inside : c.self.inside.gap + c.args.at < length rows = omega (arith, low, behind, c.self.invariant.within) in
    let less = length-remove rows (c.self.inside.gap + c.args.at) inside in
    let left = ap length c.remove.ensures.items in
    record {
      within = omega (arith, less, left, inside);
      counted = subst (AreCounted c.uncount_at.new.counts.entries)
          (ap (λ xs. remove xs c.args.at) (c.behind.ensures ∙ ap (drop c.self.inside.gap) c.deref.ensures.value)
          ∙ sym (ap (drop c.self.inside.gap) c.remove.ensures.items ∙ drop_remove c.self.inside.gap c.args.at (c.self.inside.gap + c.args.at) rows refl)) c.uncount_at.ensures;
    }
