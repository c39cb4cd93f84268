-- What a viewer's link comes to at its end.
use Rattle.std.proofs.Common.{◌≡◌, ℕ, true, List, [], length, sym, subst}
use Rattle.gt_base.specs.declared.requests.Entry.{Entry}
use Rattle.gt_io.specs.Links.{Traffic}
use Rattle.policy_words.specs.Naming.{NamedPolicy}
use Rattle.connection_laws.specs.declared.ends.LinkEnd.{LinkEnd}
use Rattle.connection_laws.specs.declared.talk.Talk.{Talk}
use Rattle.connection_laws.specs.Attending.{spot, Attends}
use Rattle.snapshot_readers.specs.declared.ends.ViewEnd.{ViewEnd}
use Rattle.snapshot_readers.specs.Viewed.{link_end, AscendBetween, View}
use Rattle.snapshot_readers.specs.Guides.{guide_view, GuideAsks}
use Rattle.snapshot_readers.specs.Viewing.{Views}
use Rattle.snapshot_readers.proofs.Completing.{complete_by}
use Rattle.snapshot_readers.proofs.GuideSteps.{goes_of, lines_quiet}

-- a service to its end
pub viewed : (np : NamedPolicy) (birth : ℕ) (seen seen' : List Entry) (talk talk' : Talk) (ns : List ℕ) (a b : Traffic) (end : LinkEnd) (outcome : ViewEnd) → link_end outcome ≡ end
    → Attends np (GuideAsks np birth) (λ g (n : ℕ). ⊥) (spot (guide_view seen []) talk a.given) (spot (guide_view seen' ns) talk' b.given) a b end → b.finished ≡ true
    → Views np birth seen seen' ns talk'.denied talk.calls talk'.calls a b outcome
viewed np birth seen seen' talk talk' ns a b end outcome is to done =
    let x = subst (λ (e : LinkEnd). Attends np (GuideAsks np birth) (λ g (n : ℕ). ⊥) (spot (guide_view seen []) talk a.given) (spot (guide_view seen' ns) talk' b.given) a b e) (sym is) to in
    let g = goes_of np birth (guide_view seen []) (guide_view seen' ns) x.acted x.going.steps in
    let quiet = lines_quiet np birth seen' x.acted g.fits in
    let view : View np birth seen' x.taken x.given x.acted outcome = record { lines = x.lines; readings_are = quiet.0; own_are = quiet.1; fit = g.fits; given_is = x.given_is } in
    record {
      taken = x.taken;
      given = x.given;
      acted = x.acted;
      view = view;
      grows = g.grows;
      lens_are = g.lens;
      ascends = subst (λ (ms : List ℕ). AscendBetween (length seen) ms (length seen')) (sym g.lens) g.ascends;
      denied_are = x.going.denied;
      calls_are = x.going.calls;
      carries = x.carries;
      cause = x.cause;
      finished = done;
      complete = complete_by np birth seen' x.taken x.given x.acted outcome a b view x.cause;
    }
