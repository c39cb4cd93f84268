use Rattle.std.proofs.Common.{ℕ, List, sym, subst}
use Rattle.gt_base.specs.Roomy.{Roomy}
use Rattle.connection_laws.specs.Attending.{spot, Attends}
use Rattle.snapshot_readers.specs.Glazed.{Glazed}
use Rattle.snapshot_readers.specs.Guides.{guide_view, GuideAsks}
use Rattle.snapshot_readers.specs.Viewing.{SameGlassRoot, Views}
use Rattle.snapshot_readers.proofs.Glancing.{viewed}
use Rattle.snapshot_readers.proofs.Lent.{lent_attends}
use Rattle.snapshot_readers.proofs.serve.view_link.Goals as goal

pub returns-clause-glass : goal.returns-clause-glass
returns-clause-glass g c =
    let x = c.attend-end in
    let t = g.L.Link in
    let same = (lent_attends _ x.new.answerer c.new-hearing.result.talk x.new.hearing.talk (t.traffic c.args.link).given (t.traffic x.new.link).given (t.traffic c.args.link) (t.traffic x.new.link) x.result x.ensures.attends).0 in
    subst (λ (y : Glazed). SameGlassRoot c.args.glass.now y) (sym (c.glass-1.given.1 (sym x.ensures.keeps.1))) same.1

pub returns-clause-views : goal.returns-clause-views
returns-clause-views g c =
    let t = g.L.Link in
    let np = c.args.policy.now in
    let glass = c.args.glass.now in
    let x = c.attend-end in
    let k = x.new.answerer in
    let a = t.traffic c.args.link in
    let b = t.traffic x.new.link in
    let talk = c.new-hearing.result.talk in
    let talk' = x.new.hearing.talk in
    let attends = (lent_attends _ k talk talk' a.given b.given a b x.result x.ensures.attends).1 in
    let begun = subst (λ (ns : List ℕ). Attends np (GuideAsks np glass.birth) (λ g' n. ⊥) (spot (guide_view glass.seen ns) talk a.given) (spot (guide_view k.glass.now.seen k.lens.now.items) talk' b.given) a b x.result) c.new-lens.ensures attends in
    let views = viewed np glass.birth glass.seen k.glass.now.seen talk talk' k.lens.now.items a b x.result c.view_end.result c.view_end.ensures begun x.ensures.finished in
    subst (λ (y : Glazed). Views np glass.birth glass.seen y.seen c.lens-2-1.given.0.items talk'.denied c.args.calls.now talk'.calls a b c.view_end.result) (sym (c.glass-1.given.1 (sym x.ensures.keeps.1)))
    (subst (λ (y : Roomy ℕ). Views np glass.birth glass.seen k.glass.now.seen y.items talk'.denied c.args.calls.now talk'.calls a b c.view_end.result) (sym (c.lens-2-1.given.1 (sym x.ensures.keeps.2)))
    (subst (λ (n : ℕ). Views np glass.birth glass.seen k.glass.now.seen k.lens.now.items talk'.denied n talk'.calls a b c.view_end.result) c.new-hearing.ensures.calls views))
