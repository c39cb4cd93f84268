use Rattle.std.proofs.Common.{List, [], ◌++◌, length, drop, ap, ◌∙◌, arith, length-append}
use Rattle.gt_base.specs.declared.requests.Entry.{Entry}
use Rattle.published_copies.specs.Copied.{Copied, joined}
use Rattle.published_copies.proofs.Growing.{may_show, next_root, next_list}
use Rattle.published_copies.proofs.copies.Copies.publish.Goals as goal

pub publish_as-writer-requires : goal.publish_as-writer-requires
publish_as-writer-requires g c next is =
    let w = c.self.inside.writer in
    let old = g.T.Absorb.state w.desk.shown.value in
    let new = g.T.Absorb.state next in
    let waiting : List (List Entry) = drop w.behind w.log.items in
    let root = next_root g.T.Absorb.applied g.T.Replica.root g.T.Replica.list g.met.T.Replica.adds old new waiting is in
    let list = next_list g.T.Absorb.applied g.T.Replica.root g.T.Replica.list g.met.T.Replica.adds old new waiting is in
    may_show g.T.Absorb.applied g.T.Replica.root g.T.Replica.list g.met.T.Replica.adds g.T.Replica.sound g.T.Absorb.state _ _ w.desk.shown.value next waiting is
    (λ _. c.requires.sound new (root ∙ ap (λ (k : Copied g.row.T-Root.Denot). k.root) c.self.view_is) (list ∙ ap (λ (k : Copied g.row.T-Root.Denot). k.shown ++ k.waiting) c.self.view_is))

pub invariant_of-result : goal.invariant_of-result
invariant_of-result g c =
    let w = c.self.inside.writer in
    let old = g.T.Absorb.state w.desk.shown.value in
    let new = g.T.Absorb.state c.publish_as-writer.result.0.desk.shown.value in
    let waiting : List (List Entry) = drop w.behind w.log.items in
    let v = rw c.in-Ok.is at c.publish_as-writer.ensures.values in
    let r = rw c.in-Ok.is at c.publish_as-writer.ensures.rule in
    let list = ap length (next_list g.T.Absorb.applied g.T.Replica.root g.T.Replica.list g.met.T.Replica.adds old new waiting v.0) in
    let both = length-append (g.T.Replica.list old) (joined waiting) in
    let none = ap (λ (ess : List (List Entry)). length (joined ess)) v.1 in
    let sent = c.self.invariant.1 in
    (r.1, omega (arith, list, both, none, sent))

pub returns-in-Ok : goal.returns-in-Ok
returns-in-Ok g c =
    let w = c.self.inside.writer in
    let old = g.T.Absorb.state w.desk.shown.value in
    let new = g.T.Absorb.state c.publish_as-writer.result.0.desk.shown.value in
    let waiting : List (List Entry) = drop w.behind w.log.items in
    let v = rw c.in-Ok.is at c.publish_as-writer.ensures.values in
    let root = next_root g.T.Absorb.applied g.T.Replica.root g.T.Replica.list g.met.T.Replica.adds old new waiting v.0 in
    let list = next_list g.T.Absorb.applied g.T.Replica.root g.T.Replica.list g.met.T.Replica.adds old new waiting v.0 in
    (λ i. record { root = root i; shown = list i; waiting = joined (v.1 i) }) ∙ ap (λ (k : Copied g.row.T-Root.Denot). record { root = k.root; shown = k.shown ++ k.waiting; waiting = [] }) c.self.view_is
