use Rattle.std.proofs.Common.{◌∙◌, ap}
use Rattle.gt_base.specs.Sets.{set_of}
use Rattle.gt_base.specs.Orders.{signal_cmp}
use Rattle.time_engine.proofs.waiting.Waiting.copied.Goals as goal

pub returns : goal.returns
returns c = ap (set_of {R = signal_cmp}) (c.in_ok-from_slice.ensures.items ∙ c.deref.ensures.value) ∙ ap (λ v. v.set) c.self.view_is
