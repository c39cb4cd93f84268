use Rattle.std.proofs.Common.{◌≡◌, ◌<◌, length, IfSome, subst, ◌∙◌, sym, arith}
use Rattle.session_table.specs.Opened.{numbered}
use Rattle.session_table.proofs.Finding.{inside}
use Rattle.session_table.proofs.Numbering.{stands, nowhere, past}
use Rattle.session_table.proofs.opened.place.Goals as goal

pub returns-then-at-sessions : goal.returns-then-at-sessions
returns-then-at-sessions c = past c.args.sessions.now c.args.number c.first_from-at.result c.requires c.first_from-at.ensures (omega (arith, c.if-at-sessions.true))

pub returns-then-is_numbered : goal.returns-then-is_numbered
returns-then-is_numbered c =
    let low : c.first_from-at.result < length c.args.sessions.now = omega (arith, c.if-at-sessions.false) in
    let (o, at) = inside c.args.sessions.now c.first_from-at.result low in
    let same : c.is_numbered.result ≡ numbered c.args.number o = subst (λ z. IfSome z (λ o. c.is_numbered.result ≡ numbered c.args.number o)) at c.is_numbered.ensures in
    stands c.args.sessions.now c.args.number c.first_from-at.result o c.first_from-at.ensures low at (sym same ∙ c.if-is_numbered.true)

pub returns-else-is_numbered : goal.returns-else-is_numbered
returns-else-is_numbered c =
    nowhere c.args.sessions.now c.args.number c.first_from-at.result c.requires c.first_from-at.ensures
    (λ o at. let same : c.is_numbered.result ≡ numbered c.args.number o = subst (λ z. IfSome z (λ o. c.is_numbered.result ≡ numbered c.args.number o)) at c.is_numbered.ensures in sym same ∙ c.if-is_numbered.false)
