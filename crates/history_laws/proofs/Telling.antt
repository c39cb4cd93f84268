-- Each signal tells of an activation that began or ended at the close or by a request of its minute.
use Rattle.std.proofs.Common.{◌≡◌, ℕ, suc, ◌-◌, ◌≤◌, Bool, true, false, not, ◌⊎◌, inl, inr, List, [], ◌∷◌, ◌++◌, map, filter, Option, Some, None, refl, sym, subst, arith}
use Rattle.gt_base.specs.Machines.{asked}
use Rattle.gt_base.specs.declared.events.UserId.{UserId}
use Rattle.gt_base.specs.declared.events.Signal.{Signal}
use Rattle.gt_base.specs.declared.requests.Who.{Who}
use Rattle.gt_base.specs.declared.requests.Actor.{Actor}
use Rattle.gt_base.specs.declared.requests.Actor.TheVariants.{User, Operator, Nobody}
use Rattle.gt_base.specs.declared.requests.Request.{Request}
use Rattle.gt_base.specs.declared.requests.Request.TheVariants.{OpenSession, CloseSession, Activate, Deactivate}
use Rattle.gt_base.specs.declared.requests.Reply.{Reply}
use Rattle.gt_base.specs.declared.requests.Reply.TheVariants.{Session, Done, Active}
use Rattle.gt_base.specs.declared.requests.Entry.{Entry}
use Rattle.gtrbac_model.specs.Policy.{Policy}
use Rattle.gtrbac_model.specs.Conflict.{Status}
use Rattle.gtrbac_model.specs.Same.{same_session}
use Rattle.gtrbac_model.specs.Status.{Model}
use Rattle.gtrbac_model.specs.Sessions.{Table, Activation, applied, owner_of, signal_of, charge, is_dropped, close_minute, is_active_in}
use Rattle.gtrbac_model.specs.Base.{status, table_at}
use Rattle.gtrbac_model.specs.Reply.{reply_of}
use Rattle.gtrbac_model.specs.History.{now_of, point_after}
use Rattle.gtrbac_model.proofs.Elements.{Elem}
use Rattle.history_laws.specs.Activations.{Began, Ended, ToldByClose, ToldByRequest, SignalsTell}
use Rattle.history_laws.proofs.Members.{elem_of, is_in, of_join, in_last, of_filter, of_map}
use Rattle.history_laws.proofs.Applying.{activated_in, begun_by, active_some, signals_some, signals_none}
use Rattle.history_laws.proofs.Reading.{along}

clash : (b : Bool) → b ≡ true → not b ≡ true → ⊥
clash true p q = cc
clash false p q = cc

-- of the activations that pass a test each ended, where those that do not pass are left
ended_of : (test : Activation → Bool) (as' : List Activation) (x : Signal) → Elem (map (signal_of false) (filter test as')) x → Ended as' (filter (λ a. not (test a)) as') x
ended_of test as' x there =
    let (a, passes, is) = of_map (signal_of false) (filter test as') x there in
    let (was, passed) = of_filter test as' a passes in
    record {
      activation = a;
      is = is;
      was = is_in as' a was;
      gone = λ k. clash (test a) passed (of_filter (λ a. not (test a)) as' a (elem_of (filter (λ a. not (test a)) as') a k)).1;
    }

abbrev Told : ℕ → Table → Table → Signal → Type 0
Told t tb tb' x = Began t tb'.active x ⊎ Ended tb.active tb'.active x

-- a signal after a request was there before it, or tells of what it began or ended
adds : (t : ℕ) (tb : Table) (actor : Actor) (request : Request) (reply : Reply) (x : Signal) → Elem (applied t actor request reply tb).signals x → Elem tb.signals x ⊎ Told t tb (applied t actor request reply tb) x
adds t tb (User u) OpenSession (Session n) x there = inl there
adds t tb Operator OpenSession (Session n) x there = inl there
adds t tb Nobody OpenSession (Session n) x there = inl there
adds t tb actor (CloseSession n) Done x there =
    elim (of_join tb.signals (map (signal_of false) (filter (λ a. same_session a.session n) tb.active)) x there) [
      | inl was ↦ inl was
      | inr k ↦ inr (inr (ended_of (λ a. same_session a.session n) tb.active x k))
    ]
adds t tb actor (Activate n r) (Active w) x there = by (owner_of tb n) refl
  where
    by : (o : Option UserId) → owner_of tb n ≡ o → Elem tb.signals x ⊎ Told t tb (applied t actor (Activate n r) (Active w) tb) x
    by None e = inl (subst (λ xs. Elem xs x) (signals_none t actor n r w tb e) there)
    by (Some u) e =
        elim (of_join tb.signals (signal_of true (begun_by t actor n r w tb u) ∷ []) x (subst (λ xs. Elem xs x) (signals_some t actor n r w tb u e) there)) [
          | inl was ↦ inl was
          | inr (inl is) ↦
              inr (inl (record {
                activation = begun_by t actor n r w tb u;
                is = is;
                there = is_in (activated_in t actor n r w tb).active (begun_by t actor n r w tb u) (subst (λ as'. Elem as' (begun_by t actor n r w tb u)) (sym (active_some t actor n r w tb u e)) (in_last tb.active (begun_by t actor n r w tb u)));
                begun = refl;
              }))
          | inr (inr none) ↦ absurd none
        ]
adds t tb actor (Deactivate n r) Done x there =
    elim (of_join tb.signals (map (signal_of false) (filter (is_active_in n r) tb.active)) x there) [
      | inl was ↦ inl was
      | inr k ↦ inr (inr (ended_of (is_active_in n r) tb.active x k))
    ]
adds t tb actor _ _ x there = inl there

module _ (p : Policy) (birth : ℕ) (m : Model) (h : List Entry) where
  abbrev Kept : ℕ → Table → Type 0
  Kept t tb = (x : Signal) → Elem tb.signals x → ToldByClose p birth m h t x ⊎ ToldByRequest p birth m h t x

  closes : (t : ℕ) (tb : Table) → birth ≤ t → table_at p birth m h t ≡ tb → Kept t tb → Kept (suc t) (close_minute p.edges p.caps (status p birth m (suc t)) (suc t) tb)
  closes t tb le is kept x there =
      let s : Status = status p birth m (suc t) in
      inl (record {
        minute = t;
        next = refl;
        not_before_birth = le;
        ended = subst (λ b. Ended b.active (close_minute p.edges p.caps s (suc t) b).active x) (sym is) (ended_of (is_dropped p.edges p.caps s (suc t) (charge (suc t) tb)) tb.active x there);
      })

  asks : (g rest : List Entry) (who : Who) (actor : Actor) (request : Request) (reply : Reply) (tb : Table) → g ++ asked who actor request reply ∷ rest ≡ h
      → reply ≡ reply_of p (point_after p birth m g) actor request → table_at p birth m g (now_of birth g) ≡ tb
      → table_at p birth m (g ++ asked who actor request reply ∷ []) (now_of birth g) ≡ applied (now_of birth g) actor request reply tb
      → Kept (now_of birth g) tb → Kept (now_of birth g) (applied (now_of birth g) actor request reply tb)
  asks g rest who actor request reply tb is answered at_now next kept x there =
      elim (adds (now_of birth g) tb actor request reply x there) [
        | inl was ↦ kept x was
        | inr told ↦
            inr (record {
              front = g;
              rest = rest;
              who = who;
              actor = actor;
              request = request;
              reply = reply;
              is_part = is;
              while = refl;
              told = subst (λ b. Told (now_of birth g) b (table_at p birth m (g ++ asked who actor request reply ∷ []) (now_of birth g)) x) (sym at_now)
                  (subst (λ b. Told (now_of birth g) tb b x) (sym next) told);
            })
      ]

pub signals_tell : SignalsTell
signals_tell p birth h m legal t after_birth x there =
    along p birth m h legal.steps (Kept p birth m h) (λ x k. elim k [ ]) (closes p birth m h) (asks p birth m h)
    (t - 1) (omega (arith, after_birth)) x (elem_of (table_at p birth m h (t - 1)).signals x there)
