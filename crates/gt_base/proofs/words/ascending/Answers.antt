use Rattle.std.proofs.lemmas.List.Filters.{dedup_is}
use Rattle.gt_base.proofs.WordLists.{in_order}
use Rattle.gt_base.proofs.words.ascending.Goals as goal

pub returns : goal.returns
returns c = in_order _ _ _ c.sort_unstable.ensures.permutation c.sort_unstable.ensures.sorted (dedup_is _ _ _ c.dedup.ensures.filtered)
