-- What settles, and what is raised later, by bodies without settled conditions.
use Rattle.std.proofs.Common.{◌≡◌, ◌↔◌, ℕ, ◌-◌, Bool, ◌&&◌, ◌||◌, not, nat_lt, List, [], ◌∷◌, refl, sym, ◌∙◌, ap, if◌then◌else◌}
use Rattle.std.specs.List.{list_all}
use Rattle.gt_base.specs.declared.events.Prioritised.{Prioritised}
use Rattle.gt_base.specs.Held.{TriggerView}
use Rattle.gt_base.specs.Happening.{HappenedView}
use Rattle.gt_base.specs.Sets.{has, members}
use Rattle.gtrbac_model.specs.Same.{same_prioritised}
use Rattle.gtrbac_model.specs.Conflict.{Status}
use Rattle.gtrbac_model.specs.Trigger.{immediate, met}
use Rattle.gtrbac_model.specs.Instant.{closed, stands, supported, grounded_after, Settled}
use Rattle.gtrbac_model.specs.Policy.{Policy}
use Rattle.gtrbac_model.specs.Status.{Model}
use Rattle.gtrbac_model.specs.Base.{when, status, delayed}
use Rattle.former_laws.specs.Bodies.{former_met, AreBare}
use Rattle.former_laws.specs.Minutes.{former_closed, former_supported, former_grounded, FormerSettled, former_delayed}
use Rattle.former_laws.proofs.Alike.{all_alike, any_alike, flat_alike}
use Rattle.former_laws.proofs.Bodies.{met_as_before}

module _ (rules : List TriggerView) (bare : AreBare rules) (base : HappenedView) (s : Status) (x : HappenedView) where
  closed_alike : closed rules base s x ≡ former_closed rules base s x
  closed_alike =
      ap (λ b. list_all (has x.events) (members base.events) && b)
      (all_alike (λ r. r.settled ≡ []) (λ r. not (immediate r && met r x s) || has x.events r.head) (λ r. not (immediate r && former_met r x s) || has x.events r.head)
      (λ r none. ap (λ b. not (immediate r && b) || has x.events r.head) (met_as_before r x s none)) rules bare)

  supported_alike : (earlier : List Prioritised) (e : Prioritised) → supported rules base s x earlier e ≡ former_supported rules base s x earlier e
  supported_alike earlier e =
      ap (λ b. has base.events e || b)
      (any_alike (λ r. r.settled ≡ [])
      (λ r. immediate r && same_prioritised r.head e && met r x s && list_all (stands x earlier) r.events)
      (λ r. immediate r && same_prioritised r.head e && former_met r x s && list_all (stands x earlier) r.events)
      (λ r none. ap (λ b. immediate r && same_prioritised r.head e && b && list_all (stands x earlier) r.events) (met_as_before r x s none)) rules bare)

  grounded_alike : (earlier es : List Prioritised) → grounded_after rules base s x earlier es ≡ former_grounded rules base s x earlier es
  grounded_alike earlier [] = refl
  grounded_alike earlier (e ∷ es) =
      ap (λ b. b && grounded_after rules base s x (e ∷ earlier) es) (supported_alike earlier e)
      ∙ ap (λ b. former_supported rules base s x earlier e && b) (grounded_alike (e ∷ earlier) es)

  pub settled_alike : Settled rules base s x ↔ FormerSettled rules base s x
  settled_alike = (
    λ now. record {
      is_closed = sym closed_alike ∙ now.is_closed;
      order = now.order;
      lists = now.grounding.lists;
      grounds = sym (grounded_alike [] now.order) ∙ now.grounding.grounds;
      signals = now.signals;
    },
    λ was. record {
      is_closed = closed_alike ∙ was.is_closed;
      order = was.order;
      grounding = record { lists = was.lists; grounds = grounded_alike [] was.order ∙ was.grounds };
      signals = was.signals;
    },
  )

pub delayed_alike : (p : Policy) (birth : ℕ) (m : Model) (t : ℕ) → AreBare p.triggers → delayed p birth m t ≡ former_delayed p birth m t
delayed_alike p birth m t bare =
    flat_alike (λ r. r.settled ≡ [])
    (λ r. if nat_lt 0 r.delay && nat_lt birth (t - r.delay) then when (met r (m (t - r.delay)) (status p birth m (t - r.delay - 1))) r.head else [])
    (λ r. if nat_lt 0 r.delay && nat_lt birth (t - r.delay) then when (former_met r (m (t - r.delay)) (status p birth m (t - r.delay - 1))) r.head else [])
    (λ r none. ap (λ (b : Bool). if nat_lt 0 r.delay && nat_lt birth (t - r.delay) then when b r.head else []) (met_as_before r (m (t - r.delay)) (status p birth m (t - r.delay - 1)) none))
    p.triggers bare
