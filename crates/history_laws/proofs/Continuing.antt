-- The table and the queue go on from step to step.
use Rattle.std.proofs.Common.{◌≡◌, ℕ, ◌-◌, ◌≤◌, List, [], ◌∷◌, ◌++◌, sym, ◌∙◌, ap, arith}
use Rattle.gt_base.specs.Machines.{asked, ticked}
use Rattle.gt_base.specs.declared.requests.Entry.{Entry}
use Rattle.gtrbac_model.specs.Policy.{Policy}
use Rattle.gtrbac_model.specs.Status.{Model}
use Rattle.gtrbac_model.specs.Sessions.{Table, applied, close_minutes, empty_table}
use Rattle.gtrbac_model.specs.Base.{status, table_at, requested, queued_at}
use Rattle.gtrbac_model.specs.History.{Legal, now_of}
use Rattle.gtrbac_model.proofs.Append.{requested-append, append-nil}
use Rattle.gtrbac_model.proofs.Playing.{now_snoc}
use Rattle.history_laws.specs.Tables.{TablesGoOn, QueueGoesOn}
use Rattle.history_laws.proofs.Reading.{Onward, onward_front, legal_onward, whole, whole_snoc, read_whole}

module _ (p : Policy) (birth : ℕ) (m : Model) where
  abbrev after_all : List Entry → Table
  after_all g = whole p.edges p.caps (status p birth m) birth empty_table g

  at_now : (g : List Entry) → Onward birth g → table_at p birth m g (now_of birth g) ≡ after_all g
  at_now g o = read_whole p.edges p.caps (status p birth m) (now_of birth g) g birth empty_table o (itself (now_of birth g)) ∙ ap (λ k. close_minutes p.edges p.caps (status p birth m) (now_of birth g) k (after_all g)) (none (now_of birth g))
    where
      none : (n : ℕ) → n - n ≡ 0
      none n = omega arith

      itself : (n : ℕ) → n ≤ n
      itself n = omega arith

  -- after one entry more
  at_step : (h : List Entry) (e : Entry) → Legal p birth (h ++ e ∷ []) m → (after_all (h ++ e ∷ []) ≡ table_at p birth m (h ++ e ∷ []) (now_of birth (h ++ e ∷ []))) × (after_all h ≡ table_at p birth m h (now_of birth h))
  at_step h e legal =
      let o : Onward birth (h ++ e ∷ []) = legal_onward p birth m [] (h ++ e ∷ []) legal.steps in
      (sym (at_now (h ++ e ∷ []) o), sym (at_now h (onward_front birth h (e ∷ []) o)))

  pub tables_go_on : (h : List Entry) → TablesGoOn p birth h m
  tables_go_on h =
      record {
        ticks = λ who upto to legal.
            let (there, here) = at_step h (ticked who upto to) legal in
            ap (λ u. table_at p birth m (h ++ ticked who upto to ∷ []) u) (sym (now_snoc birth h (ticked who upto to))) ∙ sym there
            ∙ whole_snoc p.edges p.caps (status p birth m) birth empty_table h (ticked who upto to)
            ∙ ap (λ b. close_minutes p.edges p.caps (status p birth m) (now_of birth h) (to - now_of birth h) b) here;
        asks = λ who actor request reply legal.
            let (there, here) = at_step h (asked who actor request reply) legal in
            ap (λ u. table_at p birth m (h ++ asked who actor request reply ∷ []) u) (sym (now_snoc birth h (asked who actor request reply))) ∙ sym there
            ∙ whole_snoc p.edges p.caps (status p birth m) birth empty_table h (asked who actor request reply)
            ∙ ap (λ b. applied (now_of birth h) actor request reply b) here;
      }

pub queue_goes_on : (h : List Entry) (t : ℕ) → QueueGoesOn h t
queue_goes_on h t =
    record {
      ticks = λ who upto to. requested-append h (ticked who upto to ∷ []) t ∙ append-nil (requested h t);
      asks = λ who actor request reply. requested-append h (asked who actor request reply ∷ []) t ∙ ap (λ xs. requested h t ++ xs) (append-nil (queued_at t request reply));
    }
