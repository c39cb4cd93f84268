use Rattle.std.proofs.Common.{◌≡◌, ◌++◌, List, length, drop, arith, length-append, sym, ap, subst, ◌∙◌}
use mathlib.Core.List.{IsPrefix}
use Rattle.gt_base.specs.declared.requests.Entry.{Entry}
use Rattle.left_right.specs.Sides.{view as known}
use Rattle.published_copies.specs.Copied.{Copied, joined}
use Rattle.published_copies.specs.Views.{sight}
use Rattle.published_copies.proofs.Growing.{all_sent}
use Rattle.published_copies.proofs.copies.Copies.send_rest.Goals as goal

pub returns-in-Ok-clause-sent : goal.returns-in-Ok-clause-sent
returns-in-Ok-clause-sent g c =
    let w = c.self.inside.writer in
    let list = λ (d : _). g.T.Replica.list (g.T.Absorb.state d.shown.value) in
    let front : IsPrefix (list w.desk ++ joined (drop w.behind w.log.items)) c.args.entries.now = subst (λ (k : Copied g.row.T-Root.Denot). IsPrefix (k.shown ++ k.waiting) c.args.entries.now) (sym c.self.view_is) c.requires in
    ap (λ (l : List Entry). l ++ joined (drop c.append.new.self.behind c.append.new.self.log.items)) (ap list c.append.ensures.desk)
    ∙ all_sent (list w.desk) c.args.entries.now (drop w.behind w.log.items) (drop c.append.new.self.behind c.append.new.self.log.items) c.in_ok-of.field-0 c.self.inside.sent front c.self.invariant.1
    (c.in_ok-of.ensures ∙ c.split_at.ensures.back) c.in-Ok.ensures.pending

pub invariant_of-self-in-Ok : goal.invariant_of-self-in-Ok
invariant_of-self-in-Ok g c =
    let all = ap length (returns-in-Ok-clause-sent g c) in
    let both = length-append (g.T.Replica.list (g.T.Absorb.state c.append.new.self.desk.shown.value)) (joined (drop c.append.new.self.behind c.append.new.self.log.items)) in
    (subst (λ (d : _). known d.place ≡ sight (g.T.Replica.root (g.T.Absorb.state d.shown.value)) (g.T.Replica.list (g.T.Absorb.state d.shown.value))) (sym c.append.ensures.desk) c.self.invariant.0, omega (arith, all, both))
