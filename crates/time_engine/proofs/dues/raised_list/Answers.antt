use Rattle.std.proofs.Common.{◌≡◌, ◌++◌, flat_map, sym, ◌∙◌}
use Rattle.gt_base.specs.Sets.{has}
use Rattle.gtrbac_model.specs.Base.{raised_by, limited_from}
use Rattle.instant_bases.specs.Timelines.{since_of}
use Rattle.time_engine.specs.Kept.{view_of}
use Rattle.time_engine.proofs.Bases.{since_view}
use Rattle.time_engine.proofs.dues.raised_list.Goals as goal

pub returns : goal.returns
returns c =
    let s = c.args.s.now in
    let p = c.args.policy.now.policy in
    let periods : c.as_slice-periods.result.now ≡ p.periods = c.as_slice-periods.ensures.value ∙ c.requires.stands in
    let entries : c.as_slice.result.now ≡ p.entries = c.as_slice.ensures ∙ c.entries.ensures in
    let limits : c.as_slice-2.result.now ≡ p.limits = c.as_slice-2.ensures ∙ c.limits.ensures in
    c.in_ok-push_limited.ensures
    ∙ (λ i. c.in_ok-push_periodic.ensures i ++ limited_from (periods i) (has s.status.set) (sym (since_view s.ages) i) 0 (limits i) c.args.t)
    ∙ (λ i. (c.new-raised.ensures.items i ++ flat_map (raised_by (periods i) (c.birth.ensures i) c.args.t) (entries i)) ++ limited_from p.periods (has s.status.set) (since_of (view_of s)) 0 p.limits c.args.t)
