use Rattle.std.proofs.Common.{flat_map}
use Rattle.std.specs.List.{range_with_len}
use Rattle.policy_gen.specs.Texts.{time_line, all_for_each, opening, round_lines}
use Rattle.policy_gen.proofs.Growing.{on_ok, three_parts}
use Rattle.policy_gen.proofs.scripts.push_script.Goals as goal
use Rattle.policy_gen.specs.declared.scripts.TheConstants.{FIRST_MINUTE}

pub returns : goal.returns
returns c =
    on_ok c.push_rounds.result c.push_rounds.ensures
    (λ last.
    three_parts (time_line FIRST_MINUTE) (all_for_each opening c.args.k) (flat_map (round_lines c.args.seed c.args.k) (range_with_len 0 c.args.rounds)) c.args.text.now.items
    _ _ _ c.in_ok-push_time.ensures c.in_ok-push_openings.ensures last)
