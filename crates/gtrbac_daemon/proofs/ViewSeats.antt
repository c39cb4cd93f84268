-- From the seats of viewers to what they have served.
use Rattle.std.proofs.Common.{◌≡◌, ℕ, ◌<◌, ◌≤◌, true, List, length, reverse, get_or, sym, ap, subst, ◌∙◌}
use Rattle.std.specs.Prelude.{All, replicate}
use Rattle.std.specs.List.{list_all}
use Rattle.gt_base.specs.declared.requests.Entry.{Entry}
use Rattle.gt_io.specs.Links.{Traffic, Doorway}
use Rattle.policy_words.specs.Naming.{NamedPolicy}
use Rattle.snapshot_readers.specs.Glazed.{Glazed, fresh_glass}
use Rattle.snapshot_readers.specs.declared.viewers.Viewer.{Viewer}
use Rattle.connection_laws.specs.Desks.{GlancesCanBeTold}
use Rattle.snapshot_readers.specs.declared.seats.ViewerSeat.{ViewerSeat}
use Rattle.snapshot_readers.specs.Seats.{watchers, HasLooked, IsNewViewer, IsReadySeat, glasses_of, viewers_of, HasSettled, SeatBySeat, AreToldOf, HaveViewed}
use Rattle.snapshot_readers.proofs.Seated.{ready, seats_done}
use Rattle.snapshot_readers.proofs.Moving.{reversed_length}

-- there are as many seats as viewers
pub as_many : {D G L : Type 0} (xs : List (ViewerSeat D G L)) (vs : List (Viewer D G L)) → reverse (viewers_of xs) ≡ vs → length xs ≡ length vs
as_many {D} {G} {L} xs vs is = reversed_length (λ (s : ViewerSeat D G L). s.viewer) xs vs is

module _ {D G L : Type 0} (np : NamedPolicy) (birth n : ℕ) (gs : List Glazed) (viewers : List (Viewer D G L)) (xs : List (ViewerSeat D G L)) (all : gs ≡ replicate n (fresh_glass np birth)) (glasses : reverse (glasses_of xs) ≡ gs)
    (is : reverse (viewers_of xs) ≡ viewers) (new : All (λ (v : Viewer D G L). IsNewViewer v) viewers) where
  pub all_ready : All (λ (s : ViewerSeat D G L). s.number ≤ 7) xs → GlancesCanBeTold np birth → All (λ (s : ViewerSeat D G L). IsReadySeat np s) xs
  all_ready numbers told = λ k d low.
      let r = ready np birth n gs viewers xs all glasses is new k d low in
      record {
        shows = (ap (λ (g : Glazed). g.named) r.0, subst (λ (b : ℕ). GlancesCanBeTold np b) (sym (ap (λ (g : Glazed). g.birth) r.0)) told);
        number = numbers k d low;
        fresh = r.1;
      }

  pub all_served : (doorway : D → Doorway L) (traffic : L → Traffic) (h : List Entry) (viewers' : List (Viewer D G L)) (ys us : List (ViewerSeat D G L))
      → viewers' ≡ reverse (viewers_of us) → SeatBySeat (HasLooked doorway traffic np) xs ys → SeatBySeat (HasSettled h) ys us
      → HaveViewed traffic np birth (watchers doorway viewers) (watchers doorway viewers')
      × (list_all (λ (s : ViewerSeat D G L). s.told) us ≡ true → AreToldOf traffic np birth h (watchers doorway viewers) (watchers doorway viewers'))
  all_served doorway traffic h viewers' ys us is' looked settled =
      seats_done doorway traffic np birth h viewers viewers' xs us is is' (settled.0 ∙ looked.0)
      (λ i d low. record {
        fresh = (ready np birth n gs viewers xs all glasses is new i d low).0;
        mid = get_or ys i d;
        looked = looked.1 i d low;
        settled = settled.1 i d (subst (λ (m : ℕ). i < m) (sym looked.0) low);
      })
