use Rattle.gt_base.proofs.FlagLaws.{both_off_now, apart_still, apart_off, apart_stays}
use Rattle.gt_base.proofs.sets.set_off.Goals as goal

pub returns-then-not-turn_off-clause-set : goal.returns-then-not-turn_off-clause-set
returns-then-not-turn_off-clause-set c =
    both_off_now c.args.flags.now c.turn_off.new.self c.args.words.now.items c.turn_off-then-not-turn_off.new.words.items c.args.f c.turn_off.ensures.without c.turn_off-then-not-turn_off.ensures.set

pub returns-then-not-turn_off-clause-apart : goal.returns-then-not-turn_off-clause-apart
returns-then-not-turn_off-clause-apart c =
    apart_still c.args.flags.now c.turn_off.new.self c.turn_off-then-not-turn_off.new.words.items c.turn_off.ensures.same
    (apart_off c.args.flags.now c.args.words.now.items c.turn_off-then-not-turn_off.new.words.items c.args.f c.requires.apart c.turn_off-then-not-turn_off.ensures.set)

pub returns-else-not-turn_off-clause-set : goal.returns-else-not-turn_off-clause-set
returns-else-not-turn_off-clause-set c =
    both_off_now c.args.flags.now c.turn_off.new.self c.args.words.now.items c.args.words.now.items c.args.f c.turn_off.ensures.without
    (apart_stays c.args.flags.now c.args.words.now.items c.args.words.now.items c.args.f c.requires.apart (c.turn_off.ensures.known c.if-not-turn_off.false))

pub returns-else-not-turn_off-clause-apart : goal.returns-else-not-turn_off-clause-apart
returns-else-not-turn_off-clause-apart c =
    apart_still c.args.flags.now c.turn_off.new.self c.args.words.now.items c.turn_off.ensures.same c.requires.apart
