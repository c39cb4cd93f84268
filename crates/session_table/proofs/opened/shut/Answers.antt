use Rattle.std.proofs.Common.{◌≡◌, ◌+◌, false, List, set, map, count_by, IfSome, refl, ap, sym, subst, ◌∙◌}
use Rattle.gt_base.specs.Sets.{none}
use Rattle.session_table.specs.declared.opened.Open.{Open}
use Rattle.session_table.specs.Opened.{opened, still_open}
use Rattle.session_table.proofs.Finding.{inside}
use Rattle.session_table.proofs.Indexing.{kept_opened}
use Rattle.session_table.proofs.Numbering.{gap_left, one_less_open}
use Rattle.session_table.proofs.opened.shut.Goals as goal

pub returns-clause-opened : goal.returns-clause-opened
returns-clause-opened c =
    let os : List Open = c.args.sessions.now.items in
    let (o, there) = inside os c.args.at c.requires.inside in
    let new : c.leave_gap.new.sessions.items ≡ set os c.args.at (record o { roles = none; is_open = false }) =
    subst (λ x. IfSome x (λ (o : Open). c.leave_gap.new.sessions.items ≡ set os c.args.at (record o { roles = none; is_open = false }))) there c.leave_gap.ensures in
    ap (map opened) new ∙ kept_opened os c.args.at o (record o { roles = none; is_open = false }) there refl

pub returns-clause-standing : goal.returns-clause-standing
returns-clause-standing c = λ n stands.
    let os : List Open = c.args.sessions.now.items in
    let (o, there) = inside os c.args.at c.requires.inside in
    let new : c.leave_gap.new.sessions.items ≡ set os c.args.at (record o { roles = none; is_open = false }) =
    subst (λ x. IfSome x (λ (o : Open). c.leave_gap.new.sessions.items ≡ set os c.args.at (record o { roles = none; is_open = false }))) there c.leave_gap.ensures in
    ap still_open new ∙ gap_left os c.requires.numbered n c.args.at stands o (record o { roles = none; is_open = false }) there refl

pub returns-clause-count : goal.returns-clause-count
returns-clause-count c = λ n stands.
    let os : List Open = c.args.sessions.now.items in
    let (o, there) = inside os c.args.at c.requires.inside in
    let new : c.leave_gap.new.sessions.items ≡ set os c.args.at (record o { roles = none; is_open = false }) =
    subst (λ x. IfSome x (λ (o : Open). c.leave_gap.new.sessions.items ≡ set os c.args.at (record o { roles = none; is_open = false }))) there c.leave_gap.ensures in
    one_less_open os n c.args.at stands (record o { roles = none; is_open = false }) refl ∙ ap (λ os. count_by (λ (o : Open). o.is_open) os + 1) (sym new)
