-- What a door gave, link after link.
use Rattle.std.proofs.Common.{◌≡◌, List, [], ◌∷◌, ◌++◌, refl, sym, ap, subst, ◌∙◌, append_assoc, length, length-append, arith, Option, Some, None, IfSome}
use Rattle.gt_io.specs.Links.{GivesFirst}
use Rattle.connection_laws.specs.Doors.{Gives, AddUp}

module _ {L : Type 0} where
  pub gives_none : (d : Option (List L)) → Gives d d []
  gives_none None = tt
  gives_none (Some ls) = (ls, refl, refl)

  pub gives_more : (old mid new : Option (List L)) (xs : List L) (x : L) → Gives old mid xs → GivesFirst mid new x → Gives old new (xs ++ x ∷ [])
  gives_more None mid new xs x g f = tt
  gives_more (Some ls) mid new xs x g f =
      let f' : IfSome (Some g.0) (λ ys. (rest : List L) × (ys ≡ x ∷ rest) × (new ≡ Some rest)) = subst (λ (m : Option (List L)). IfSome m (λ ys. (rest : List L) × (ys ≡ x ∷ rest) × (new ≡ Some rest))) g.2 f in
      (f'.0, g.1 ∙ ap (λ (l : List L). xs ++ l) f'.1 ∙ sym (append_assoc xs (x ∷ []) f'.0), f'.2)

  -- what was served, and what the door has left
  pub add_up : {S : Type 0} (old new : Option (List L)) (served : List S) (begun : List L) → length begun ≡ length served → Gives old new begun → AddUp old new served
  add_up (Some had) (Some left) served begun same g =
      let e : length had ≡ length (begun ++ g.0) = ap length g.1 in
      let more = length-append begun g.0 in
      let same_left : left ≡ g.0 = cc g.2 in
      let short = ap length same_left in
      omega (arith, e, more, same, short)
  add_up (Some had) None served begun same g = tt
  add_up None left served begun same g = tt
