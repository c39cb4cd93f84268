use Rattle.std.proofs.Common.{◌≡◌, Bool, true, false, not, ◌&&◌, ◌||◌, take, refl, sym, ap, subst, ◌∙◌}
use Rattle.std.specs.List.{list_any}
use Rattle.std.proofs.lemmas.List.{take_all}
use Rattle.std.proofs.lemmas.List.Folds.{list_any_more}
use Rattle.gtrbac_model.specs.Sessions.{Activation, is_active_in}
use Rattle.session_table.specs.Opened.{role_in, AreNumbered}
use Rattle.session_table.proofs.dropping.forget.Goals as goal

neither : (p q b : Bool) → (not p && (not q && b)) ≡ (not (q || p) && b)
neither true true b = refl
neither true false b = refl
neither false true b = refl
neither false false b = refl

pub forget_one-requires : goal.forget_one-requires
forget_one-requires c = subst AreNumbered (sym c.loop-a.invariant.same) c.requires

pub loop-a-init : goal.loop-a-init
loop-a-init c = record { same = refl; roles = λ n r. refl; standing = refl; count = refl }

pub loop-a-preserved : goal.loop-a-preserved
loop-a-preserved c = record {
  same = c.forget_one.ensures.opened ∙ c.loop-a.invariant.same;
  roles = λ n r.
      c.forget_one.ensures.roles n r
      ∙ ap (λ (a : Activation). not (is_active_in n r a) && role_in c.loop-a.sessions.items n r) c.a.view_is
      ∙ ap (λ b. not (is_active_in n r c.a-item.result) && b) (c.loop-a.invariant.roles n r)
      ∙ neither (is_active_in n r c.a-item.result) (list_any (is_active_in n r) (take c.loop-a.a-index c.args.gone.now)) (role_in c.args.sessions.now.items n r)
      ∙ ap (λ b. not b && role_in c.args.sessions.now.items n r)
      (ap (λ (a : Activation). list_any (is_active_in n r) (take c.loop-a.a-index c.args.gone.now) || is_active_in n r a) c.a-item.is
      ∙ sym (list_any_more (is_active_in n r) c.args.gone.now c.loop-a.a-index c.a-item.result c.loop-a-test.true));
  standing = c.forget_one.ensures.standing ∙ c.loop-a.invariant.standing;
  count = c.forget_one.ensures.count ∙ c.loop-a.invariant.count;
}

pub returns : goal.returns
returns c = record {
  opened = c.loop-a.invariant.same;
  roles = λ n r.
      c.loop-a.invariant.roles n r
      ∙ ap (λ xs. not (list_any (is_active_in n r) xs) && role_in c.args.sessions.now.items n r) (take_all c.loop-a.a-index c.args.gone.now c.loop-a-test.false);
  standing = c.loop-a.invariant.standing;
  count = c.loop-a.invariant.count;
}
