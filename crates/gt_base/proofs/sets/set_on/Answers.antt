use Rattle.std.proofs.Common.{◌∙◌, ap}
use Rattle.gt_base.specs.Flags.{set_of_parts}
use Rattle.gt_base.proofs.FlagLaws.{flag_on, word_on, apart_still, apart_on}
use Rattle.gt_base.proofs.sets.set_on.Goals as goal

pub returns-then-not-turn_on-clause-set : goal.returns-then-not-turn_on-clause-set
returns-then-not-turn_on-clause-set c =
    ap (λ s. set_of_parts s c.turn_on-then-not-turn_on.new.words.items) (c.turn_on.ensures.unknown c.if-not-turn_on.true).0
    ∙ word_on c.args.flags.now c.args.flags.now c.args.words.now.items c.turn_on-then-not-turn_on.new.words.items c.args.f c.turn_on-then-not-turn_on.ensures.set

pub returns-then-not-turn_on-clause-apart : goal.returns-then-not-turn_on-clause-apart
returns-then-not-turn_on-clause-apart c =
    apart_still c.args.flags.now c.turn_on.new.self c.turn_on-then-not-turn_on.new.words.items c.turn_on.ensures.same
    (apart_on c.args.flags.now c.args.words.now.items c.turn_on-then-not-turn_on.new.words.items c.args.f c.requires.apart (c.turn_on.ensures.unknown c.if-not-turn_on.true).1 c.turn_on-then-not-turn_on.ensures.set)

pub returns-else-not-turn_on-clause-set : goal.returns-else-not-turn_on-clause-set
returns-else-not-turn_on-clause-set c =
    flag_on c.args.flags.now c.turn_on.new.self c.args.words.now.items c.args.words.now.items c.args.f (c.turn_on.ensures.known c.if-not-turn_on.false)

pub returns-else-not-turn_on-clause-apart : goal.returns-else-not-turn_on-clause-apart
returns-else-not-turn_on-clause-apart c =
    apart_still c.args.flags.now c.turn_on.new.self c.args.words.now.items c.turn_on.ensures.same c.requires.apart
