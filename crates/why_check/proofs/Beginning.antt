-- The running state at the birth.
use Rattle.std.proofs.Common.{◌≡◌, ℕ, ◌-◌, Bool, true, false, nat_le, nat_lt, ◌&&◌, List, [], ◌∷◌, ◌++◌, flat_map, IsTrue, refl, sym, ◌∙◌, ap, subst, arith, if◌then◌else◌}
use Rattle.std.specs.List.{list_any}
use Rattle.std.specs.Ordering.{eq_by_cmp}
use Rattle.std.proofs.lemmas.Bool.{ltb-true, leb-true}
use Rattle.std.proofs.lemmas.List.Elements.{All-nil}
use Rattle.gt_base.specs.Held.{TriggerView}
use Rattle.gt_base.specs.Orders.{prioritised_cmp}
use Rattle.gt_base.specs.Sets.{has}
use Rattle.gt_base.specs.declared.events.Prioritised.{Prioritised}
use Rattle.gt_base.specs.declared.requests.Entry.{Entry}
use Rattle.gtrbac_model.specs.Policy.{Policy}
use Rattle.gtrbac_model.specs.Base.{status, table_at, when}
use Rattle.gtrbac_model.specs.Sessions.{Table, empty_table, close_minutes}
use Rattle.gtrbac_model.specs.Status.{Model, since, status_after}
use Rattle.gtrbac_model.specs.Trigger.{met}
use Rattle.history_laws.specs.Pending.{known_head}
use Rattle.duration_limits.proofs.Steps.{by_steps}
use Rattle.session_table.specs.Tables.{NotBefore}
use Rattle.why_check.specs.Certificates.{says_something}
use Rattle.why_check.specs.Kept.{IsBegun}
use Rattle.why_check.specs.declared.replays.Replay.{Replay}
use Rattle.why_check.proofs.Replaying.{HasReached}

no_heads : (p : Policy) (birth : ℕ) (m : Model) (t : ℕ) (r : TriggerView) → known_head p birth m birth t r ≡ []
no_heads p birth m t r = by (nat_lt 0 r.delay) (nat_lt birth (t - r.delay)) (nat_le (t - r.delay) birth) refl refl
  where
    by : (a b c : Bool) → nat_lt birth (t - r.delay) ≡ b → nat_le (t - r.delay) birth ≡ c
        → ◌≡◌ {A = List Prioritised} (if (a && b) && c then when (met r (m (t - r.delay)) (status p birth m (t - r.delay - 1))) r.head else []) []
    by true true true x y = absurd (omega (arith, ltb-true birth (t - r.delay) x, leb-true (t - r.delay) birth y))
    by true true false x y = refl
    by true false c x y = refl
    by false b c x y = refl

no_heads_all : (p : Policy) (birth : ℕ) (m : Model) (t : ℕ) (rs : List TriggerView) → flat_map (known_head p birth m birth t) rs ≡ []
no_heads_all p birth m t [] = refl
no_heads_all p birth m t (r ∷ rs) = λ i. no_heads p birth m t r i ++ no_heads_all p birth m t rs i

none_gone : (n : ℕ) → n - n ≡ 0
none_gone n = omega arith

pub begins : (p : Policy) (birth : ℕ) (h : List Entry) (m : Model) (s : Replay) → IsBegun p birth s → HasReached p birth h m [] [] s
begins p birth h m s b = record {
  replay = record {
    now = b.now;
    born = b.born;
    status = λ f.
        let none_after : s.present - birth ≡ 0 = omega (arith, b.now) in
        ap (λ x. has x f) b.status ∙ ap (λ j. status_after p birth m j f) (sym none_after);
    since = λ f. b.since f ∙ sym (ap (since p birth m f) b.now ∙ (by_steps p birth m).begins f);
    due = λ t y past within. ap (list_any (eq_by_cmp prioritised_cmp y)) (b.due t ∙ sym (no_heads_all p birth m t p.triggers));
    table = b.table ∙ sym (ap (table_at p birth m []) b.now ∙ ap (λ k. close_minutes p.edges p.caps (status p birth m) birth k empty_table) (none_gone birth));
    charged = subst (λ o. NotBefore o s.present) (sym b.charged) tt;
    few = omega (arith, ap (λ (t : Table). t.begun) b.table);
  };
  born = omega arith;
  ascends = tt;
  some = All-nil (λ l. IsTrue (says_something l));
  right = λ t a c. absurd (omega (arith, a, c));
}
