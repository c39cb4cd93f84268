use Rattle.std.proofs.Common.{map}
use Rattle.std.specs.Prelude.{string_bytes}
use Rattle.gtrbac_tool.specs.Counted.{seen_recipe}
use Rattle.gtrbac_tool.proofs.Calls.{gen_runs}
use Rattle.gtrbac_tool.proofs.top.tool.Goals as goal

pub returns-in-Some : goal.returns-in-Some
returns-in-Some g c =
    gen_runs g.S.Shelf.stock g.I.Source.intake g.K.Sink.output (map string_bytes c.args.words.now) c.generate.result c.args.shelf.now c.args.input.now c.args.out.now c.generate.new.out (seen_recipe c.in-Some.recipe) c.in-Some.ensures.some c.generate.ensures

pub returns-in-None : goal.returns-in-None
returns-in-None g c = c.run_command.ensures
