use Rattle.std.proofs.Common.{nat_le, rules, of_calls, arith}
use Rattle.std.proofs.lemmas.Bool.{leb-true, leb-false}
use Rattle.std.proofs.lemmas.List.Sorted.{IsPartitionPoint-from_clause}
use Rattle.calendar_match.proofs.Numbers.{upto_first}
use Rattle.calendar_match.proofs.picks.count_upto.Goals as goal

pub returns : goal.returns
returns c =
    let point = IsPartitionPoint-from_clause (λ m. nat_le m c.args.n) _ _ c.partition_point.ensures.partitioned (upto_first c.args.n _ c.requires) (λ a r q k. search (rules, of_calls)) in
    record {
      bound = c.partition_point.ensures.bound;
      first = λ k d low high. let le = leb-true _ _ (point.0 k d low high) in omega arith;
      others = λ k d low high. let lt = leb-false _ _ (point.1 k d low high) in omega arith;
    }
