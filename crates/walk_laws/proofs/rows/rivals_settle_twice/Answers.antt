use Rattle.std.proofs.Common.{◌≡◌, true, false, refl, ap, [], ◌∷◌}
use Rattle.gt_base.specs.Sets.{members, has, none, checked, with_member}
use Rattle.walk_laws.specs.Rivals.{enable, disable, at}
use Rattle.walk_laws.proofs.rows.rivals_settle_twice.Goals as goal

pub returns : goal.returns
unfolding members has none checked with_member
returns c =
    record {
      cycle = refl;
      twice = record {
        one = record { is_closed = refl; order = at 50 (enable 0) ∷ at 50 (enable 1) ∷ at 60 (disable 1) ∷ []; grounding = record { lists = refl; grounds = refl }; signals = refl };
        two = record { is_closed = refl; order = at 50 (enable 0) ∷ at 50 (enable 1) ∷ at 60 (disable 0) ∷ []; grounding = record { lists = refl; grounds = refl }; signals = refl };
        differ = λ e. let q : true ≡ false = ap (λ h. has h.events (at 60 (disable 1))) e in cc;
      };
    }
