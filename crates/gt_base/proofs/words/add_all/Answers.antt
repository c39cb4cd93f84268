use Rattle.std.proofs.Common.{◌++◌, flat_map, ap, ◌∙◌}
use Rattle.std.proofs.lemmas.List.{take_all}
use Rattle.gt_base.specs.Words.{fluents_of}
use Rattle.gt_base.proofs.Loops.{flat_mapped_more}
use Rattle.gt_base.proofs.WordLaws.{within_at}
use Rattle.gt_base.proofs.words.add_all.Goals as goal

pub add_fluents-requires : goal.add_fluents-requires
add_fluents-requires c = within_at c.args.words.now c.requires c.loop-word.word-index _ c.loop-word-test.true

pub loop-word-preserved : goal.loop-word-preserved
loop-word-preserved c =
    flat_mapped_more fluents_of c.args.words.now c.loop-word.word-index _ c.args.fluents.now.items c.loop-word.fluents.items c.add_fluents.new.fluents.items c.loop-word-test.true c.loop-word.invariant
    c.in_ok-add_fluents.ensures

pub returns : goal.returns
returns c =
    c.loop-word.invariant ∙ ap (λ ws. c.args.fluents.now.items ++ flat_map fluents_of ws) (take_all c.loop-word.word-index c.args.words.now c.loop-word-test.false)
