-- The small policy keeps what every policy keeps.
use Rattle.std.proofs.Common.{◌≡◌, zero, suc, [], ◌∷◌, refl, sym, ◌∙◌, ap, arith}
use Rattle.std.specs.Option.{unwrap_or}
use Rattle.gt_base.specs.Sets.{members, has, none, checked, with_member}
use Rattle.gtrbac_model.specs.WholePolicy.{IsPolicy, HasNoRing}
use Rattle.history_laws.specs.Small.{small}

-- its one edge leads from role 0 to role 1 and no further
no_ring : HasNoRing small.edges
no_ring r [] w = refl
no_ring r (suc n ∷ ns) w = let e = w.1 in cc
no_ring r (zero ∷ []) w =
    let from : w.0.from.0 ≡ 0 = ap (λ o. (unwrap_or o w.0).from.0) (sym w.1) in
    let to : w.0.to.0 ≡ 1 = ap (λ o. (unwrap_or o w.0).to.0) (sym w.1) in
    let back : w.0.to.0 ≡ w.0.from.0 = ap (λ q. q.0) (w.4 ∙ sym w.3) in
    absurd (omega (arith, from, to, back))
no_ring r (zero ∷ suc n ∷ ns) w = let e = w.4.1 in cc
no_ring r (zero ∷ zero ∷ ns) w =
    let to : w.0.to.0 ≡ 1 = ap (λ o. (unwrap_or o w.0).to.0) (sym w.1) in
    let from : w.4.0.from.0 ≡ 0 = ap (λ o. (unwrap_or o w.4.0).from.0) (sym w.4.1) in
    let on : w.4.0.from.0 ≡ w.0.to.0 = ap (λ q. q.0) w.4.3 in
    absurd (omega (arith, from, to, on))

pub small_is_policy : IsPolicy small
unfolding members has none checked with_member
small_is_policy =
    record {
      roles = omega arith;
      users = omega arith;
      perms = omega arith;
      periods = refl;
      limits = refl;
      edges = refl;
      no_ring = no_ring;
      caps_a_role = refl;
      caps = refl;
      admins = refl;
      opening = refl;
      few_assigned = omega arith;
      few_granted = omega arith;
      entries = refl;
      triggers = refl;
      causes = refl;
    }
