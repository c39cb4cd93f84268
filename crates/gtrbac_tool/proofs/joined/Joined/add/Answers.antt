use Rattle.gtrbac_tool.proofs.Joining.{joins_with}
use Rattle.gtrbac_tool.proofs.ListingTrace.{on_ok}
use Rattle.gtrbac_tool.proofs.joined.Joined.add.Goals as goal

pub returns : goal.returns
returns c =
    on_ok c.keep.result
    (λ kept o. joins_with c.args.self.now.last c.insert.new.self c.args.e o (c.in_ok-before.ensures.updates.0 o.event) c.in_ok-before.before c.args.self.now.others.set.events c.keep.new.others.set.events c.in_ok-before.ensures.old kept)
    c.keep.ensures
