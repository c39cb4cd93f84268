use Rattle.std.proofs.Common.{nat_lt, rules, of_calls}
use Rattle.std.proofs.lemmas.Bool.{ltb-true, ltb-false}
use Rattle.std.proofs.lemmas.List.Sorted.{IsPartitionPoint-from_clause}
use Rattle.calendar_match.proofs.Numbers.{lesser_first}
use Rattle.calendar_match.proofs.picks.count_below.Goals as goal

pub returns : goal.returns
returns c =
    let point = IsPartitionPoint-from_clause (λ m. nat_lt m c.args.n) _ _ c.partition_point.ensures.partitioned (lesser_first c.args.n _ c.requires) (λ a r q k. search (rules, of_calls)) in
    record {
      bound = c.partition_point.ensures.bound;
      first = λ k d low high. ltb-true _ _ (point.0 k d low high);
      others = λ k d low high. ltb-false _ _ (point.1 k d low high);
    }
