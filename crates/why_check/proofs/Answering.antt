-- The running state after a request.
use Rattle.std.proofs.Common.{◌≡◌, ℕ, ◌+◌, Bool, ◌||◌, List, [], ◌∷◌, ◌++◌, length, flat_map, sym, ◌∙◌, ap, subst, arith, length-append}
use Rattle.std.specs.List.{list_any}
use Rattle.std.specs.Ordering.{eq_by_cmp}
use Rattle.gt_base.specs.Machines.{asked}
use Rattle.gt_base.specs.Orders.{prioritised_cmp}
use Rattle.gt_base.specs.Sets.{has}
use Rattle.gt_base.specs.declared.events.Prioritised.{Prioritised}
use Rattle.gt_base.specs.declared.requests.Who.{Who}
use Rattle.gt_base.specs.declared.requests.Actor.{Actor}
use Rattle.gt_base.specs.declared.requests.Request.{Request}
use Rattle.gt_base.specs.declared.requests.Reply.{Reply}
use Rattle.gt_base.specs.declared.requests.Entry.{Entry}
use Rattle.gtrbac_model.specs.Policy.{Policy}
use Rattle.gtrbac_model.specs.Base.{status, table_at, requested, queued_at}
use Rattle.gtrbac_model.specs.History.{Legal, now_of}
use Rattle.gtrbac_model.specs.Sessions.{applied}
use Rattle.gtrbac_model.specs.Status.{Model, since}
use Rattle.gtrbac_model.proofs.Playing.{now_snoc}
use Rattle.history_laws.specs.Pending.{pending, known_head}
use Rattle.history_laws.proofs.Continuing.{tables_go_on}
use Rattle.history_laws.proofs.OnItsWay.{pending_after_ask}
use Rattle.duration_limits.specs.Since.{AgesView, since_in}
use Rattle.session_table.specs.Tables.{NotBefore}
use Rattle.time_engine.proofs.Booleans.{any-append, swap_last}
use Rattle.why_check.specs.Kept.{due_in, table_in, IsAsked}
use Rattle.why_check.specs.declared.replays.Replay.{Replay}
use Rattle.why_check.proofs.Replaying.{IsReplay}

abbrev any_of : Prioritised → List Prioritised → Bool
any_of e = list_any (eq_by_cmp prioritised_cmp e)

module _ (p : Policy) (birth : ℕ) (m : Model) (g : List Entry) (who : Who) (actor : Actor) (request : Request) (reply : Reply) (legal : Legal p birth (g ++ asked who actor request reply ∷ []) m)
    (s s' : Replay) (r : IsReplay p birth g m s) (c : IsAsked s actor request reply s') where
  abbrev e : Entry
  e = asked who actor request reply

  stays : now_of birth (g ++ e ∷ []) ≡ now_of birth g
  stays = now_snoc birth g e

  table_more : table_at p birth m (g ++ e ∷ []) s.present ≡ applied s.present actor request reply (table_in s)
  table_more =
      subst (λ x. table_at p birth m (g ++ e ∷ []) x ≡ applied x actor request reply (table_at p birth m g x)) (sym r.now) ((tables_go_on p birth m g).asks who actor request reply legal)
      ∙ ap (applied s.present actor request reply) (sym r.table)

  due_same : (t : ℕ) (y : Prioritised) → any_of y (due_in s t) ≡ any_of y (pending p birth m g t) → any_of y (due_in s' t) ≡ any_of y (pending p birth m (g ++ e ∷ []) t)
  due_same t y old =
      let rs : List Prioritised = requested g t in
      let qs : List Prioritised = queued_at t request reply in
      let ks : List Prioritised = flat_map (known_head p birth m (now_of birth g) t) p.triggers in
      ap (any_of y) (c.due t)
      ∙ any-append (eq_by_cmp prioritised_cmp y) (due_in s t) qs
      ∙ ap (λ b. b || any_of y qs) (old ∙ any-append (eq_by_cmp prioritised_cmp y) rs ks)
      ∙ swap_last (any_of y rs) (any_of y qs) (any_of y ks)
      ∙ sym (ap (any_of y) (pending_after_ask p birth g m who actor request reply t)
      ∙ any-append (eq_by_cmp prioritised_cmp y) (rs ++ qs) ks ∙ ap (λ b. b || any_of y ks) (any-append (eq_by_cmp prioritised_cmp y) rs qs))

  pub replay_asked : IsReplay p birth (g ++ e ∷ []) m s'
  replay_asked = record {
    now = c.now ∙ r.now ∙ sym stays;
    born = ap (λ (a : AgesView). a.birth) c.ages ∙ r.born;
    status = λ f. ap (λ x. has x.set f) c.status ∙ r.status f ∙ ap (λ t. status p birth m t f) (sym c.now);
    since = λ f. ap (λ (a : AgesView). since_in a f) c.ages ∙ r.since f ∙ ap (since p birth m f) (sym c.now);
    due = λ t y past within. due_same t y (r.due t y (omega (arith, past, c.now)) within);
    table = c.table ∙ sym table_more ∙ ap (table_at p birth m (g ++ e ∷ [])) (sym c.now);
    charged = subst (λ o. NotBefore o s'.present) (sym c.charged) (subst (λ n. NotBefore s.table.charged_to n) (sym c.now) r.charged);
    few = omega (arith, c.begun, r.few, one_more g);
  }
    where
      one_more : (g : List Entry) → length (g ++ e ∷ []) ≡ length g + 1
      one_more g = length-append g (e ∷ [])
