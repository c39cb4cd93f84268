use Rattle.std.proofs.Common.{◌≡◌, ℕ, ◌+◌, ◌-◌, ◌*◌, Bool, ◌||◌, List, cond, count_by, take, sym, ap, subst, ◌∙◌, arith}
use Rattle.std.specs.List.{list_any}
use Rattle.std.proofs.lemmas.List.Folds.{list_any_more}
use Rattle.gt_base.specs.declared.policies.Caps.{Caps}
use Rattle.gtrbac_model.specs.Calendar.{day_of}
use Rattle.gtrbac_model.specs.Sessions.{Activation, caps_of, reached, is_of}
use Rattle.history_laws.specs.Tables.{minutes_of_day}
use Rattle.session_table.specs.Charges.{charged_in}
use Rattle.session_table.specs.NextDrops.{IsFirstOrNone, capped_in}
use Rattle.session_table.proofs.Charging.{count_more, count_take}
use Rattle.session_table.proofs.Counts.{own}
use Rattle.session_table.proofs.Uncapped.{none_capped}
use Rattle.session_table.proofs.nearing.next_capped.Goals as goal

pub returns-then-not-limit_minutes : goal.returns-then-not-limit_minutes
returns-then-not-limit_minutes c = λ t a b.
    none_capped c.args.caps.now (sym c.limit_minutes.ensures ∙ c.if-not-limit_minutes.true) c.args.charges.now.charged c.args.active.now.items c.args.now t c.args.active.now.items

pub loop-a-preserved : goal.loop-a-preserved
loop-a-preserved c =
    let now : ℕ = c.args.now in
    let capped : ℕ → Activation → Bool = capped_in c.args.caps.now c.args.charges.now.charged c.args.active.now.items now in
    let a : Activation = c.a-item.result in
    let one : IsFirstOrNone (λ t. capped t a) now c.next_for-one.result =
    subst (λ (k : Caps). IsFirstOrNone (λ t. reached k.length (t - a.begun)
    || reached k.day (charged_in c.args.charges.now.charged a.user a.role (day_of t) + minutes_of_day now (t - now) (day_of t) * count_by (is_of a.user a.role) c.args.active.now.items)) now c.next_for-one.result)
    (c.caps_of-of_role.ensures ∙ ap (λ (b : Activation). caps_of c.args.caps.now b.role) c.a.view_is) c.next_for-one.ensures in
    let both = c.earlier-next.ensures (λ t. list_any (capped t) (take c.loop-a.a-index c.as_slice-rows.result.now)) (λ t. capped t c.a-item.result) now c.loop-a.invariant one in
    subst (λ p. IsFirstOrNone p now c.earlier-next.result)
    (λ i t. (ap (λ b. list_any (capped t) (take c.loop-a.a-index c.as_slice-rows.result.now) || capped t b) c.a-item.is
    ∙ sym (list_any_more (capped t) c.as_slice-rows.result.now c.loop-a.a-index c.a-item.result c.loop-a-test.true)) i) both

pub next_for-one-requires-clause-some : goal.next_for-one-requires-clause-some
next_for-one-requires-clause-some c =
    let a : Activation = c.a-item.result in
    let rows : List Activation = c.as_slice-rows.result.now in
    let more : count_by (is_of a.user a.role) (take (c.loop-a.a-index + 1) rows) ≡ count_by (is_of a.user a.role) (take c.loop-a.a-index rows) + 1 =
    count_more (is_of a.user a.role) rows c.loop-a.a-index a c.loop-a-test.true
    ∙ ap (λ b. count_by (is_of a.user a.role) (take c.loop-a.a-index rows) + cond (is_of a.user a.role b) 1 0) (sym c.a-item.is)
    ∙ ap (λ b. count_by (is_of a.user a.role) (take c.loop-a.a-index rows) + cond b 1 0) (own a) in
    let all = count_take (is_of a.user a.role) (c.loop-a.a-index + 1) rows in
    let same = ap (count_by (is_of a.user a.role)) c.as_slice-rows.ensures in
    omega (arith, more, all, same)
