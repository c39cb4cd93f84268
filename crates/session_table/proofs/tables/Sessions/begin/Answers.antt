use Rattle.std.proofs.Common.{◌≡◌, ℕ, ◌+◌, ◌<◌, ◌≤◌, true, false, [], ◌∷◌, nat_le, length, count_by, refl, sym, ap, subst, ◌∙◌, arith}
use Rattle.std.proofs.lemmas.Bool.{leb-true, leb-false}
use Rattle.gt_base.specs.declared.requests.Reply.TheVariants.{Session}
use Rattle.gt_base.specs.declared.requests.Refusal.TheVariants.{NoUser, SessionsFull}
use Rattle.gtrbac_model.specs.Reply.{unless}
use Rattle.session_table.specs.declared.opened.Open.{Open}
use Rattle.session_table.specs.Kept.{IsTable}
use Rattle.session_table.specs.Tables.{TableView}
use Rattle.session_table.proofs.Charging.{split}
use Rattle.session_table.proofs.Indexing.{count_added}
use Rattle.session_table.proofs.Keeping.{begun, opened_counted}
use Rattle.session_table.proofs.Numbering.{one_more}
use Rattle.session_table.proofs.tables.Sessions.begin.Goals as goal

full : (n : ℕ) → 10_000 ≤ n → nat_le 10_000 n ≡ true
full n h = split (nat_le 10_000 n) (λ e. e) (λ e. let lt : n < 10_000 = leb-false 10_000 n e in absurd (omega (arith, lt, h)))

not_full : (n : ℕ) → n < 10_000 → nat_le 10_000 n ≡ false
not_full n h = split (nat_le 10_000 n) (λ e. let le : 10_000 ≤ n = leb-true 10_000 n e in absurd (omega (arith, le, h))) (λ e. e)

pub returns-then-self-ge-MAX_SESSIONS-clause-refused : goal.returns-then-self-ge-MAX_SESSIONS-clause-refused
returns-then-self-ge-MAX_SESSIONS-clause-refused c = λ p pt.
    let seen : length c.args.self.now.sessions ≡ c.self.inside.standing =
    ap (λ (v : TableView). length v.sessions) (sym c.self.view_is) ∙ opened_counted c.self.inside.sessions.items ∙ sym c.self.invariant.counted in
    ap (λ b. unless ((false, NoUser) ∷ (b, SessionsFull) ∷ []) (Session (record { 0 = c.args.self.now.begun + 1 })))
    (full (length c.args.self.now.sessions) (omega (arith, seen, c.if-self-ge-MAX_SESSIONS.true)))

pub invariant_of-self-2 : goal.invariant_of-self-2
invariant_of-self-2 c =
    let few : count_by (λ (o : Open). o.is_open) c.self.inside.sessions.items < 10_000 = omega (arith, c.if-self-ge-MAX_SESSIONS.false, c.self.invariant.counted) in
    let o : Open = record { number = record { 0 = c.self.inside.begun + 1 }; owner = c.args.user; roles = c.new.result; is_open = true } in
    subst (λ os. IsTable os (c.self.inside.standing + 1) c.self.inside.active.items c.self.inside.charges.charged c.self.inside.charged_to (c.self.inside.begun + 1)) (sym c.in_ok-push.ensures.ok)
    (record {
      kept = begun _ _ _ _ c.self.invariant.kept o c.new.ensures few;
      counted = let n = count_added (λ (o : Open). o.is_open) c.self.inside.sessions.items o in omega (arith, n, c.self.invariant.counted);
      numbered = one_more 0 c.self.inside.begun (c.self.inside.begun + 1) c.self.inside.sessions.items o c.self.invariant.numbered (omega arith) refl;
    })

pub returns-clause-answer : goal.returns-clause-answer
returns-clause-answer c = λ p pt.
    let seen : length c.args.self.now.sessions ≡ c.self.inside.standing =
    ap (λ (v : TableView). length v.sessions) (sym c.self.view_is) ∙ opened_counted c.self.inside.sessions.items ∙ sym c.self.invariant.counted in
    ap (λ b. unless ((false, NoUser) ∷ (b, SessionsFull) ∷ []) (Session (record { 0 = c.args.self.now.begun + 1 })))
    (not_full (length c.args.self.now.sessions) (omega (arith, seen, c.if-self-ge-MAX_SESSIONS.false)))
    ∙ ap (λ (v : TableView). Session (record { 0 = v.begun + 1 })) (sym c.self.view_is)
