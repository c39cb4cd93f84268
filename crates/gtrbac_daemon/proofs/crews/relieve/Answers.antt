use Rattle.std.proofs.Common.{◌≡◌, ◌++◌, ◌∷◌, [], List, length, reverse, sym, ap, ◌∙◌, arith}
use Rattle.turn_lock.specs.Holders.{Holder}
use Rattle.line_server.specs.declared.workers.Worker.{Worker}
use Rattle.snapshot_readers.proofs.Moving.{moved_on, one_longer}
use Rattle.gtrbac_daemon.proofs.PostLists.{passes_of, workers_of}
use Rattle.gtrbac_daemon.proofs.crews.relieve.Goals as goal

pub loop-post-init : goal.loop-post-init
loop-post-init g c =
    let none = ap (λ (l : List (Worker g.row.D.Denot g.row.C.Denot g.row.G.Denot g.row.D-L.Denot)). length l) c.requires.empty.1 in
    record {
      passes = ap (λ (l : List (Holder g.row.M.Denot)). l ++ reverse (passes_of c.args.posts.items)) c.requires.empty.0;
      workers = ap (λ (l : List (Worker g.row.D.Denot g.row.C.Denot g.row.G.Denot g.row.D-L.Denot)). l ++ reverse (workers_of c.args.posts.items)) c.requires.empty.1;
      passes_room = c.requires.passes_room;
      crew_room = omega (arith, none, c.args.crew.now.ok.0, c.requires.crew_room);
    }

pub loop-post-preserved : goal.loop-post-preserved
loop-post-preserved g c =
    let inv = c.loop-post.invariant in
    let popped : c.loop-post.posts.items ≡ c.pop.new.self.items ++ c.in-Some.post ∷ [] = c.in-Some.ensures.items in
    let posts = one_longer c.pop.new.self.items c.loop-post.posts.items c.in-Some.post popped in
    let crew = one_longer c.loop-post.crew.items c.push_reserved.new.self.items _ c.push_reserved.ensures.items in
    let had = c.loop-post.posts.ok.0 in
    let left = c.pop.new.self.ok.0 in
    let were = c.loop-post.crew.ok.0 in
    let are = c.push_reserved.new.self.ok.0 in
    record {
      passes = sym (moved_on (λ p. p.pass) c.put.new.self.items c.loop-post.passes.items c.pop.new.self.items c.loop-post.posts.items c.in-Some.post c.put.ensures.items popped) ∙ inv.passes;
      workers = sym (moved_on (λ p. p.worker) c.push_reserved.new.self.items c.loop-post.crew.items c.pop.new.self.items c.loop-post.posts.items c.in-Some.post c.push_reserved.ensures.items popped) ∙ inv.workers;
      passes_room = omega (arith, posts, had, left, c.put.ensures.spare, inv.passes_room);
      crew_room = omega (arith, posts, crew, had, left, were, are, c.push_reserved.ensures.capacity, inv.crew_room);
    }
