use Rattle.std.proofs.Common.{◌≡◌, ℕ, List, [], ◌++◌, length, take, refl, subst, sym, ◌∙◌, arith, Option, Ok, Err, length-append}
use Rattle.std.proofs.lemmas.List.{length-take-le}
use Rattle.std.specs.Io.KnownBytes.{Appends, Consumes}
use Rattle.std.proofs.KnownBytes.{Appends-nil, Consumes-nil, Appends-trans, Consumes-trans}
use Rattle.policy_words.specs.Naming.{NamedPolicy}
use Rattle.connection_laws.specs.Desks.{IsNamedActor}
use Rattle.connection_laws.specs.Attending.{spot, HasReplied, TakesBytes}
use Rattle.connection_laws.proofs.EndsBy.{begins, cut_off}
use Rattle.connection_laws.proofs.service.take_all.Goals as goal

pub loop-left-init : goal.loop-left-init
loop-left-init g c =
    let v = g.A.Answerer in
    let t = g.L.Link.traffic c.args.link.now in
    let s = begins (v.named c.args.answerer.now) v.asks v.wears (v.rested c.args.answerer.now) c.args.hearing.now.talk t.given c.args.hearing.now.framer c.requires.unheard.start c.requires.unheard.frame in
    record {
      fed = [];
      acted = [];
      serving = s;
      taken = Appends-nil t.taken;
      consumed = Consumes-nil t.left;
      counted = refl;
      ready = c.requires.ready;
      named = refl;
      actor = s.going.named;
      counts = (omega arith, omega arith, omega arith);
      reads = refl;
      writes = refl;
      ends = refl;
      held = refl;
      rests = λ is. is;
    }

pub loop-left-preserved : goal.loop-left-preserved
loop-left-preserved g c =
    let v = g.A.Answerer in
    let np = v.named c.args.answerer.now in
    let t = g.L.Link in
    let inv = c.loop-left.invariant in
    let r = c.in-Ok.ensures in
    let after = c.take_bytes.ensures.stays in
    let buf = c.read_some.new.buf in
    let n = c.in-Ok.n in
    let chunk : List ℕ = take n buf in
    let start = t.traffic c.args.link.now in
    let old = t.traffic c.loop-left.link in
    let mid = t.traffic c.read_some.new.link in
    let end = t.traffic c.take_bytes.new.link in
    let origin = spot (v.rested c.args.answerer.now) c.args.hearing.now.talk start.given in
    let s = subst (λ (x : Option (List ℕ)). HasReplied np v.asks origin (spot (v.rested c.loop-left.answerer) c.loop-left.hearing.talk x) c.loop-left.hearing.framer inv.fed inv.acted) (sym r.writes.given_kept) inv.serving in
    let last = spot (v.rested c.take_bytes.new.answerer) c.take_bytes.new.hearing.talk end.given in
    let goes = subst (λ (j : NamedPolicy). TakesBytes j v.asks v.wears (spot (v.rested c.loop-left.answerer) c.loop-left.hearing.talk mid.given) last
    c.loop-left.hearing.framer c.take_bytes.new.hearing.framer chunk mid.write_faults end.write_faults {T = Unit {0}} (Ok c.in_default-take_bytes.field-0)) inv.named c.in_default-take_bytes.ensures.goes in
    let y = goes origin inv.fed inv.acted s in
    let long : length chunk ≡ n = length-take-le n buf r.bound.1 in
    let both = length-append inv.fed chunk in
    let counted = inv.counted in
    let low = r.bound.0 in
    let up = inv.counts in
    let up' = after.counts in
    record {
      fed = inv.fed ++ chunk;
      acted = y.0;
      serving = y.1;
      taken = (subst (λ (x : Option (List ℕ)). Appends start.taken x (inv.fed ++ chunk)) (sym after.reads.taken_kept) (Appends-trans start.taken old.taken mid.taken inv.fed chunk inv.taken r.taken));
      consumed = (subst (λ (x : Option (List ℕ)). Consumes start.left x (inv.fed ++ chunk)) (sym after.reads.left_kept) (Consumes-trans start.left old.left mid.left inv.fed chunk inv.consumed r.bytes.0));
      counted = omega (arith, both, long, counted, low);
      ready = after.ready;
      named = after.named ∙ inv.named;
      actor = subst (λ (j : NamedPolicy). IsNamedActor j c.take_bytes.new.hearing.talk.actor) inv.named after.actor;
      counts = (omega (arith, up, up', both), omega (arith, up, up', both), omega (arith, up, up', both));
      reads = after.reads.read_faults_are ∙ r.cause.kept ∙ inv.reads;
      writes = c.in_default-take_bytes.ensures.stays.faults ∙ r.writes.write_faults_are ∙ inv.writes;
      ends = after.reads.ends_are ∙ r.ends.1 c.if-n-eq0.false ∙ inv.ends;
      held = after.held ∙ c.read_some.ensures.held ∙ inv.held;
      rests = λ is. c.take_bytes.ensures.rests (inv.rests is);
    }

pub returns-in-Err-clause-attends : goal.returns-in-Err-clause-attends
returns-in-Err-clause-attends g c =
    let v = g.A.Answerer in
    let np = v.named c.args.answerer.now in
    let t = g.L.Link in
    let inv = c.loop-left.invariant in
    let r = c.in-Ok.ensures in
    let after = c.take_bytes.ensures.stays in
    let buf = c.read_some.new.buf in
    let n = c.in-Ok.n in
    let chunk : List ℕ = take n buf in
    let start = t.traffic c.args.link.now in
    let old = t.traffic c.loop-left.link in
    let mid = t.traffic c.read_some.new.link in
    let end = t.traffic c.take_bytes.new.link in
    let origin = spot (v.rested c.args.answerer.now) c.args.hearing.now.talk start.given in
    let s = subst (λ (x : Option (List ℕ)). HasReplied np v.asks origin (spot (v.rested c.loop-left.answerer) c.loop-left.hearing.talk x) c.loop-left.hearing.framer inv.fed inv.acted) (sym r.writes.given_kept) inv.serving in
    let last = spot (v.rested c.take_bytes.new.answerer) c.take_bytes.new.hearing.talk end.given in
    let goes = subst (λ (j : NamedPolicy). TakesBytes j v.asks v.wears (spot (v.rested c.loop-left.answerer) c.loop-left.hearing.talk mid.given) last
    c.loop-left.hearing.framer c.take_bytes.new.hearing.framer chunk mid.write_faults end.write_faults {T = Unit {0}} (Err c.in-Err.end)) inv.named c.in-Err.ensures.goes in
    let y = goes origin inv.fed inv.acted s in
    let long : length chunk ≡ n = length-take-le n buf r.bound.1 in
    let both = length-append inv.fed chunk in
    let counted = inv.counted in
    let low = r.bound.0 in
    cut_off np v.asks v.wears origin last start end mid.write_faults inv.fed y.0 chunk y.2.0 c.in-Err.end refl refl y.2.1 y.1
    (after.reads.read_faults_are ∙ r.cause.kept ∙ inv.reads) (after.reads.ends_are ∙ r.ends.1 c.if-n-eq0.false ∙ inv.ends) (r.writes.write_faults_are ∙ inv.writes)
    (subst (λ (x : Option (List ℕ)). Appends start.taken x (inv.fed ++ chunk)) (sym after.reads.taken_kept) (Appends-trans start.taken old.taken mid.taken inv.fed chunk inv.taken r.taken))
    (subst (λ (x : Option (List ℕ)). Consumes start.left x (inv.fed ++ chunk)) (sym after.reads.left_kept) (Consumes-trans start.left old.left mid.left inv.fed chunk inv.consumed r.bytes.0))
    (omega (arith, both, long, counted, low))
