use Rattle.std.proofs.Common.{◌≡◌, ◌++◌, ◌∷◌, [], List, length, reverse, refl, ap, ◌∙◌, arith, append-nil}
use Rattle.line_server.specs.declared.posts.Post.{Post}
use Rattle.snapshot_readers.proofs.Moving.{moved_on, one_longer}
use Rattle.gtrbac_daemon.proofs.PostLists.{passes_of, workers_of}
use Rattle.gtrbac_daemon.proofs.crews.man.Goals as goal

pub loop-pass-init : goal.loop-pass-init
loop-pass-init g c =
    let none = ap (λ (l : List (Post g.row.M.Denot g.row.D.Denot g.row.C.Denot g.row.G.Denot g.row.D-L.Denot)). length l) c.requires.empty in
    record {
      passes = ap (λ (l : List (Post g.row.M.Denot g.row.D.Denot g.row.C.Denot g.row.G.Denot g.row.D-L.Denot)). c.args.passes.now.items ++ reverse (passes_of l)) c.requires.empty ∙ append-nil c.args.passes.now.items;
      workers = ap (λ (l : List (Post g.row.M.Denot g.row.D.Denot g.row.C.Denot g.row.G.Denot g.row.D-L.Denot)). c.args.crew.now.items ++ reverse (workers_of l)) c.requires.empty ∙ append-nil c.args.crew.now.items;
      pairs = c.requires.pairs;
      room = omega (arith, none, c.args.posts.now.ok.0, c.requires.room);
      spare = refl;
      kept = refl;
    }

pub loop-pass-preserved : goal.loop-pass-preserved
loop-pass-preserved g c =
    let inv = c.loop-pass.invariant in
    let took : c.loop-pass.passes.items ≡ c.take.new.self.items ++ c.in-Some.pass ∷ [] = c.in-Some.ensures.last in
    let popped : c.loop-pass.crew.items ≡ c.pop-last.new.self.items ++ c.in-Some-last.worker ∷ [] = c.in-Some-last.ensures.items in
    let passes = one_longer c.take.new.self.items c.loop-pass.passes.items c.in-Some.pass took in
    let crew = one_longer c.pop-last.new.self.items c.loop-pass.crew.items c.in-Some-last.worker popped in
    let posts = one_longer c.loop-pass.posts.items c.push_reserved.new.self.items _ c.push_reserved.ensures.items in
    let were = c.loop-pass.posts.ok.0 in
    let are = c.push_reserved.new.self.ok.0 in
    record {
      passes = moved_on (λ p. p.pass) c.loop-pass.passes.items c.take.new.self.items c.loop-pass.posts.items c.push_reserved.new.self.items _ took c.push_reserved.ensures.items ∙ inv.passes;
      workers = moved_on (λ p. p.worker) c.loop-pass.crew.items c.pop-last.new.self.items c.loop-pass.posts.items c.push_reserved.new.self.items _ popped c.push_reserved.ensures.items ∙ inv.workers;
      pairs = omega (arith, passes, crew, inv.pairs);
      room = omega (arith, crew, posts, were, are, c.push_reserved.ensures.capacity, inv.room);
      spare = omega (arith, passes, c.in-Some.ensures.spare, inv.spare);
      kept = c.pop-last.ensures.capacity ∙ inv.kept;
    }
