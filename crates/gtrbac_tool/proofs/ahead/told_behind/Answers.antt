use Rattle.std.proofs.Common.{inl}
use Rattle.gtrbac_tool.proofs.ListingTrace.{if_ok}
use Rattle.gtrbac_tool.proofs.ahead.told_behind.Goals as goal

pub returns : goal.returns
returns c = if_ok c.joined.result (λ end is. inl (c.requires, (c.in_ok-more.more.items, c.in_ok-more.ensures, is))) c.joined.ensures
