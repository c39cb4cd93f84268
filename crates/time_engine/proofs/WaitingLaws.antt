-- The signals of a history, by its table of sessions.
use Rattle.std.proofs.Common.{◌≡◌, ℕ, ◌+◌, ◌-◌, ◌<◌, ◌≤◌, nat_eq, List, [], sym, ◌∙◌, ap, subst, arith}
use Rattle.std.specs.List.{list_any}
use Rattle.std.specs.Ordering.{eq_by_cmp}
use Rattle.std.proofs.lemmas.Bool.{eqb-true, eqb-false}
use Rattle.gt_base.specs.Orders.{signal_cmp}
use Rattle.gt_base.specs.declared.requests.Entry.{Entry}
use Rattle.gt_base.proofs.SetLaws.{has-members}
use Rattle.gtrbac_model.specs.Policy.{Policy}
use Rattle.gtrbac_model.specs.Base.{status, table_at}
use Rattle.gtrbac_model.specs.History.{now_of}
use Rattle.gtrbac_model.specs.Sessions.{Table, close_minutes, empty_table}
use Rattle.gtrbac_model.specs.Status.{Model}
use Rattle.gtrbac_model.proofs.Elements.{split}
use Rattle.history_laws.specs.Tables.{EndNothing}
use Rattle.history_laws.proofs.Charging.{quiet_closes}
use Rattle.history_laws.proofs.Reading.{Onward, legal_onward, whole, read_whole}
use Rattle.time_engine.specs.Histories.{WaitingFollow}
use Rattle.time_engine.proofs.SignalSets.{for_next, for_other}

module _ (p : Policy) (birth : ℕ) (h : List Entry) (n : Model) (o : Onward birth h) where
  abbrev all : Table
  all = whole p.edges p.caps (status p birth n) birth empty_table h

  here : table_at p birth n h (now_of birth h) ≡ all
  here =
      let none : now_of birth h - now_of birth h ≡ 0 = omega arith in
      read_whole p.edges p.caps (status p birth n) (now_of birth h) h birth empty_table o (omega arith) ∙ ap (λ k. close_minutes p.edges p.caps (status p birth n) (now_of birth h) k all) none

  -- the table at a later minute is that of now, closed minute by minute
  pub table_later : (t : ℕ) → now_of birth h ≤ t → table_at p birth n h t ≡ close_minutes p.edges p.caps (status p birth n) (now_of birth h) (t - now_of birth h) (table_at p birth n h (now_of birth h))
  table_later t le =
      read_whole p.edges p.caps (status p birth n) t h birth empty_table o le
      ∙ ap (λ tb. close_minutes p.edges p.caps (status p birth n) (now_of birth h) (t - now_of birth h) tb) (sym here)

pub waiting_follow : WaitingFollow
waiting_follow p birth h m n v to legal now table ends t later upto x =
    split (nat_eq t (v.now + 1))
    (λ e.
    let at : t ≡ v.now + 1 = eqb-true t (v.now + 1) e in
    let before : t - 1 ≡ v.now = omega (arith, at) in
    ap (λ u. list_any (eq_by_cmp signal_cmp x) (table_at p birth n h u).signals) before ∙ table x ∙ has-members v.signals x
    ∙ ap (list_any (eq_by_cmp signal_cmp x)) (sym (for_next v.now t v.signals at)))
    (λ e.
    let apart : t ≡ v.now + 1 → ⊥ = eqb-false t (v.now + 1) e in
    let le : now_of birth h ≤ t - 1 = omega (arith, later, now) in
    let some : 0 < t - 1 - now_of birth h = omega (arith, later, now, apart) in
    let quiet : EndNothing p.edges p.caps (status p birth n) (now_of birth h) (t - 1 - now_of birth h) (table_at p birth n h (now_of birth h)) =
    λ j lt. subst (λ from. EndNothing p.edges p.caps (status p birth n) from (to - 1 - from) (table_at p birth n h from)) now ends j (omega (arith, lt, upto)) in
    ap (λ tb. list_any (eq_by_cmp signal_cmp x) tb.signals) (table_later p birth h n o (t - 1) le)
    ∙ ap (list_any (eq_by_cmp signal_cmp x)) ((quiet_closes p.edges p.caps (status p birth n) (now_of birth h) (t - 1 - now_of birth h) (table_at p birth n h (now_of birth h)) quiet).signals some)
    ∙ ap (list_any (eq_by_cmp signal_cmp x)) (sym (for_other v.now t v.signals apart)))
  where
    o : Onward birth h
    o = legal_onward p birth m [] h legal.steps
