-- Where an event stands among distinct events.
use Rattle.std.proofs.Common.{◌≡◌, ℕ, List, Some}
use Rattle.gt_base.specs.declared.events.Event.{Event}
use Rattle.gtrbac_model.specs.Graph.{item_at}
use Rattle.dependency_graph.specs.Carried.{event_place}
use Rattle.dependency_graph.proofs.Carrying.{place_here}

-- the place of an event that stands at one place
pub the_place : (xs : List Event) (n : ℕ) (e : Event) → ((i j : ℕ) (f : Event) → item_at xs i ≡ Some f → item_at xs j ≡ Some f → i ≡ j) → item_at xs n ≡ Some e → n ≡ event_place xs e
the_place xs n e apart h = apart n (event_place xs e) e h (place_here xs n e h)
