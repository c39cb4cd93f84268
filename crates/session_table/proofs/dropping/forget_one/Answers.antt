use Rattle.std.proofs.Common.{◌≡◌, List, set, map, count_by, IfSome, refl, ap, subst, ◌∙◌}
use Rattle.gt_base.specs.Sets.{without}
use Rattle.session_table.specs.declared.opened.Open.{Open}
use Rattle.session_table.specs.Opened.{opened, still_open, role_in}
use Rattle.session_table.specs.Causes.{StandsAt}
use Rattle.session_table.proofs.Finding.{inside}
use Rattle.session_table.proofs.Indexing.{kept_opened, kept_open, removed}
use Rattle.session_table.proofs.Keeping.{as_many_open}
use Rattle.session_table.proofs.dropping.forget_one.Goals as goal

pub returns-in-Some-clause-opened : goal.returns-in-Some-clause-opened
returns-in-Some-clause-opened c =
    let os : List Open = c.args.sessions.now.items in
    let stands : StandsAt os c.args.session c.in-Some.at = subst (λ os. StandsAt os c.args.session c.in-Some.at) c.deref.ensures.value c.in-Some.ensures in
    let (o, at) = inside os c.in-Some.at stands.inside in
    let new : c.remove_role.new.sessions.items ≡ set os c.in-Some.at (record o { roles = without o.roles c.args.role }) =
    subst (λ x. IfSome x (λ (o : Open). c.remove_role.new.sessions.items ≡ set os c.in-Some.at (record o { roles = without o.roles c.args.role }))) at c.remove_role.ensures in
    ap (map opened) new ∙ kept_opened os c.in-Some.at o (record o { roles = without o.roles c.args.role }) at refl

pub returns-in-Some-clause-roles : goal.returns-in-Some-clause-roles
returns-in-Some-clause-roles c = λ n r.
    let os : List Open = c.args.sessions.now.items in
    let stands : StandsAt os c.args.session c.in-Some.at = subst (λ os. StandsAt os c.args.session c.in-Some.at) c.deref.ensures.value c.in-Some.ensures in
    let (o, at) = inside os c.in-Some.at stands.inside in
    let new : c.remove_role.new.sessions.items ≡ set os c.in-Some.at (record o { roles = without o.roles c.args.role }) =
    subst (λ x. IfSome x (λ (o : Open). c.remove_role.new.sessions.items ≡ set os c.in-Some.at (record o { roles = without o.roles c.args.role }))) at c.remove_role.ensures in
    ap (λ os. role_in os n r) new ∙ removed os c.args.session c.in-Some.at stands o at c.args.role n r

pub returns-in-Some-clause-standing : goal.returns-in-Some-clause-standing
returns-in-Some-clause-standing c =
    let os : List Open = c.args.sessions.now.items in
    let stands : StandsAt os c.args.session c.in-Some.at = subst (λ os. StandsAt os c.args.session c.in-Some.at) c.deref.ensures.value c.in-Some.ensures in
    let (o, at) = inside os c.in-Some.at stands.inside in
    let new : c.remove_role.new.sessions.items ≡ set os c.in-Some.at (record o { roles = without o.roles c.args.role }) =
    subst (λ x. IfSome x (λ (o : Open). c.remove_role.new.sessions.items ≡ set os c.in-Some.at (record o { roles = without o.roles c.args.role }))) at c.remove_role.ensures in
    ap (λ os. map opened (still_open os)) new ∙ kept_open os c.in-Some.at o (record o { roles = without o.roles c.args.role }) at refl refl

pub returns-in-Some-clause-count : goal.returns-in-Some-clause-count
returns-in-Some-clause-count c =
    let os : List Open = c.args.sessions.now.items in
    let stands : StandsAt os c.args.session c.in-Some.at = subst (λ os. StandsAt os c.args.session c.in-Some.at) c.deref.ensures.value c.in-Some.ensures in
    let (o, at) = inside os c.in-Some.at stands.inside in
    let new : c.remove_role.new.sessions.items ≡ set os c.in-Some.at (record o { roles = without o.roles c.args.role }) =
    subst (λ x. IfSome x (λ (o : Open). c.remove_role.new.sessions.items ≡ set os c.in-Some.at (record o { roles = without o.roles c.args.role }))) at c.remove_role.ensures in
    ap (count_by (λ (o : Open). o.is_open)) new ∙ as_many_open os c.in-Some.at o (record o { roles = without o.roles c.args.role }) at refl
