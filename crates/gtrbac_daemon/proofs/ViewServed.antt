-- What a service with viewers comes to.
use Rattle.std.proofs.Common.{◌≡◌, ◌⊎◌, ℕ, suc, ◌≤◌, Bool, true, false, List, [], ◌∷◌, ◌++◌, length, map, Option, inl, inr, refl, sym, ap, subst, ◌∙◌, arith, length-append}
use Rattle.std.specs.Prelude.{◌||◌, All, is_some}
use Rattle.std.specs.List.{list_any}
use mathlib.Core.List.{map-append}
use Rattle.std.proofs.lemmas.List.Folds.{list_any-append}
use Rattle.gt_base.specs.declared.requests.Entry.{Entry}
use Rattle.gt_io.specs.Links.{Traffic, Doorway}
use Rattle.turn_lock.specs.Turns.{Each}
use Rattle.policy_words.specs.Naming.{NamedPolicy}
use Rattle.core_machine.specs.Books.{BookView}
use Rattle.line_server.specs.declared.ended.WorkEnd.{WorkEnd}
use Rattle.line_server.specs.declared.workers.Worker.{Worker}
use Rattle.snapshot_readers.specs.declared.viewers.Viewer.{Viewer}
use Rattle.snapshot_readers.specs.Seats.{watchers, AreToldOf, HaveViewed, IsNewViewer}
use Rattle.gtrbac_daemon.specs.Crew.{Crewman, crewmen, IsNew, is_memory, is_door_fault, is_spent, ends_of}
use Rattle.gtrbac_daemon.specs.Headline.{CrewHeadline}
use Rattle.gtrbac_daemon.specs.Runs.{ServerScene, IsWritten}
use Rattle.gtrbac_daemon.specs.Views.{Company, company, as_work, as_worker, everybody, views_status_by, first_late, views_status, views_text, seen, unnamed, unseen, ViewHasServed}
use Rattle.gtrbac_daemon.proofs.Running.{all_fresh, some_crew, crew_says}
use Rattle.gtrbac_daemon.proofs.Endings.{IsFresh}

each_append : {A : Type 0} (P : A → Type 0) (xs ys : List A) → Each P xs → Each P ys → Each P (xs ++ ys)
each_append P [] ys a b = b
each_append P (x ∷ xs) ys a b = (a.0, each_append P xs ys a.1 b)

module _ {D C G L : Type 0} (readings : C → Option (ℕ → ℕ)) (doorway : D → Doorway L) where
  abbrev seen_all : List (Worker D C G L) → List (Viewer D G L) → List (Crewman L)
  seen_all ws vs = everybody (company (crewmen readings doorway ws) (watchers doorway vs))

  -- what is seen of all who serve says what they say themselves
  viewers_say : (p : WorkEnd → Bool) (vs : List (Viewer D G L)) → list_any (λ (v : Viewer D G L). p (as_work v.outcome)) vs ≡ list_any p (ends_of (map as_worker (watchers doorway vs)))
  viewers_say p [] = refl
  viewers_say p (v ∷ vs) = ap (λ (b : Bool). p (as_work v.outcome) || b) (viewers_say p vs)

  all_say : (p : WorkEnd → Bool) (ws : List (Worker D C G L)) (vs : List (Viewer D G L)) → (list_any (λ (w : Worker D C G L). p w.outcome) ws || list_any (λ (v : Viewer D G L). p (as_work v.outcome)) vs) ≡ list_any p (ends_of (seen_all ws vs))
  all_say p ws vs =
      (λ i. crew_says readings doorway p ws i || viewers_say p vs i)
      ∙ sym (ends_append p (crewmen readings doorway ws) (map as_worker (watchers doorway vs)))
    where
      ends_append : (p : WorkEnd → Bool) (js ks : List (Crewman L)) → list_any p (ends_of (js ++ ks)) ≡ (list_any p (ends_of js) || list_any p (ends_of ks))
      ends_append p js ks = ap (list_any p) (map-append (λ (k : Crewman L). k.outcome) js ks) ∙ list_any-append p (ends_of js) (ends_of ks)

  pub status_same : (h : List Entry) (ws : List (Worker D C G L)) (vs : List (Viewer D G L)) (late : Option ℕ) → late ≡ first_late h (watchers doorway vs)
      → views_status_by (list_any (λ (w : Worker D C G L). is_memory w.outcome) ws || list_any (λ (v : Viewer D G L). is_memory (as_work v.outcome)) vs)
      (list_any (λ (w : Worker D C G L). is_door_fault w.outcome) ws || list_any (λ (v : Viewer D G L). is_door_fault (as_work v.outcome)) vs)
      (list_any (λ (w : Worker D C G L). is_spent w.outcome) ws || list_any (λ (v : Viewer D G L). is_spent (as_work v.outcome)) vs) (is_some late)
      ≡ views_status h (company (crewmen readings doorway ws) (watchers doorway vs))
  status_same h ws vs late is = λ i. views_status_by (all_say is_memory ws vs i) (all_say is_door_fault ws vs i) (all_say is_spent ws vs i) (is_some (is i))

  fresh_viewers : (vs : List (Viewer D G L)) → All (λ (v : Viewer D G L). IsNewViewer v) vs → Each (λ (j : Crewman L). IsFresh j) (map as_worker (watchers doorway vs))
  fresh_viewers [] all = tt
  fresh_viewers (v ∷ vs) all = (ap as_work (all 0 v (omega arith)).0, fresh_viewers vs (λ k d low. all (suc k) d (omega (arith, low))))

  pub company_fresh : (ws : List (Worker D C G L)) (vs : List (Viewer D G L)) → All (λ (w : Worker D C G L). IsNew w) ws → All (λ (v : Viewer D G L). IsNewViewer v) vs → Each (λ (j : Crewman L). IsFresh j) (seen_all ws vs)
  company_fresh ws vs workers viewers = each_append (λ (j : Crewman L). IsFresh j) _ _ (all_fresh readings doorway ws workers) (fresh_viewers vs viewers)

  pub some_company : (ws : List (Worker D C G L)) (vs : List (Viewer D G L)) → 1 ≤ length ws → 1 ≤ length (seen_all ws vs)
  some_company ws vs some =
      let crew = some_crew readings doorway ws some in omega (arith, crew, length-append (crewmen readings doorway ws) (map as_worker (watchers doorway vs)))

-- the log of the ledger l, of this policy and birth
pub written_as : (np : NamedPolicy) (birth : ℕ) (l : BookView) → l.named ≡ np → l.birth ≡ birth → (d : ℕ) (late late' : Option ℕ) → late ≡ late' → (s : ℕ) (old new : Option (List ℕ)) (before now : ℕ)
    → IsWritten d (views_text l.named l.birth l.entries d late) s old new before now → IsWritten d (views_text np birth l.entries d late') s old new before now
written_as np birth l named born d late late' same s old new before now w =
    subst (λ (o : Option ℕ). IsWritten d (views_text np birth l.entries d o) s old new before now) same
    (subst (λ (p : NamedPolicy). IsWritten d (views_text p birth l.entries d late) s old new before now) named
    (subst (λ (t : ℕ). IsWritten d (views_text l.named t l.entries d late) s old new before now) born w))

module _ {L : Type 0} (traffic : L → Traffic) (np : NamedPolicy) (birth : ℕ) (s due : ℕ) (late : Option ℕ) (a b : ServerScene (Company L)) (l : BookView) where
  -- by whether each glass was told
  pub has_served : (told : Bool) → l.named ≡ np → l.birth ≡ birth → CrewHeadline traffic np birth a.server.crew b.server.crew l.entries → HaveViewed traffic np birth a.server.viewers b.server.viewers
      → (told ≡ true → AreToldOf traffic np birth l.entries a.server.viewers b.server.viewers) → late ≡ first_late l.entries b.server.viewers
      → (told ≡ true → due ≡ views_status l.entries b.server) → (told ≡ false → due ≡ 8)
      → (d : ℕ) × ((d ≡ due) ⊎ ((d ≡ 8) × (due ≡ 14))) × IsWritten d (views_text l.named l.birth l.entries d late) s a.written b.written a.faults b.faults
      → ViewHasServed traffic l.entries np birth s a b
  has_served true named born headline viewed are same said unsaid w =
      record {
        headline = headline;
        due = w.0;
        compared = elim w.1 [ inl e ↦ seen (e ∙ said refl) (are refl) | inr e ↦ unnamed e.0 (sym (said refl) ∙ e.1) (are refl) ];
        written = written_as np birth l named born w.0 late (first_late l.entries b.server.viewers) same s a.written b.written a.faults b.faults w.2;
      }
  has_served false named born headline viewed are same said unsaid w =
      record {
        headline = headline;
        due = w.0;
        compared = unseen (elim w.1 [ inl e ↦ e ∙ unsaid refl | inr e ↦ e.0 ]) viewed;
        written = written_as np birth l named born w.0 late (first_late l.entries b.server.viewers) same s a.written b.written a.faults b.faults w.2;
      }
