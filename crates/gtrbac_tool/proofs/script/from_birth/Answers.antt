use Rattle.std.proofs.Common.{◌+◌, refl, sym, subst}
use Rattle.gtrbac_model.specs.Safety.{IsSafe}
use Rattle.policy_words.specs.Naming.{NamedPolicy}
use Rattle.gtrbac_tool.specs.Script.{born}
use Rattle.gtrbac_tool.proofs.Pieces.{rooted_written, starved_first}
use Rattle.gtrbac_tool.proofs.script.from_birth.Goals as goal

pub play_out-requires-clause-safe : goal.play_out-requires-clause-safe
play_out-requires-clause-safe g c = subst (λ (np : NamedPolicy). IsSafe np.policy.triggers) (sym c.in-Ok.ensures.root.0) c.keeps.ensures

pub returns-in-Ok : goal.returns-in-Ok
returns-in-Ok g c =
    rooted_written c.args.safe c.in-Ok.book.named c.args.birth c.in-Ok.book.birth (c.args.before + 1) c.args.lines c.args.pieces c.play_out.result (g.K.Sink.output c.args.out.now) (g.K.Sink.output c.play_out.new.out)
    c.in-Ok.ensures.root.0 c.in-Ok.ensures.root.1 c.play_out.ensures

pub returns : goal.returns
returns g c = starved_first c.args.safe (born c.args.birth (c.args.before + 1) c.args.lines) c.args.pieces 8 (g.K.Sink.output c.args.out.now) refl
