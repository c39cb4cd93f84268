-- A run with viewers: why it has its status, which status each cause has, and how one ends that goes well.
use Rattle.std.proofs.Common.{◌≡◌, ◌⊎◌, ℕ, ◌≤◌, Bool, true, false, List, length, map, Option, Some, None, inl, inr, refl, subst, ◌∙◌}
use Rattle.std.specs.Prelude.{is_some, codes}
use Rattle.std.specs.List.{list_any}
use Rattle.gt_base.specs.declared.requests.Entry.{Entry}
use Rattle.gt_io.specs.Links.{Traffic}
use Rattle.turn_lock.specs.Turns.{Each}
use Rattle.policy_words.specs.Naming.{NamedPolicy}
use Rattle.snapshot_readers.specs.Seats.{HaveViewed}
use Rattle.gtrbac_daemon.specs.Words.{named_behind}
use Rattle.gtrbac_daemon.specs.Crew.{Crewman, is_memory, is_door_fault, is_spent, ends_of, EachOf, SomeOf, IsUnharmed, IsDone, HasFailed, IsSpent}
use Rattle.gtrbac_daemon.specs.Runs.{ServerScene, IsDueButFor, IsWell, ServerAnswers, ServerCause, unwritten, own}
use Rattle.gtrbac_daemon.specs.Views.{Company, as_worker, everybody, views_status_by, first_late, views_status, OfAll, Compared, seen, unnamed, unseen, ViewHasServed, LacksViewMemory, for_somebody, to_name, to_compare, ViewCause, done, memory, failed, spent, late, ViewDues, view_way, RunsViews}
use Rattle.gtrbac_daemon.proofs.AnyRuns as Any
use Rattle.gtrbac_daemon.proofs.Causing.{written_says}
use Rattle.gtrbac_daemon.proofs.Somebody.{each_both}
use Rattle.gtrbac_daemon.proofs.Endings.{fails_by, spends_by, well_by, fourteen_says, some_of, IsFresh, HasEnded, crew_ended, viewers_ended, told_viewed, failed_told, spent_told, sound_told, done_told, idle_done, idle_failed, idle_spent, memory_some, done_all, unharmed, cause_by}

module _ {L : Type 0} (traffic : L → Traffic) (words : List (List ℕ)) (h : List Entry) (s : ℕ) (a b : ServerScene (Company L)) where
  -- the name that the words say
  abbrev said : Option (List ℕ)
  said = named_behind (codes "views") words

  abbrev Due : ℕ → Type 0
  Due n = IsDueButFor (LacksViewMemory traffic h a.server b.server) s a b n

  -- everybody before and after, and what the ends say
  abbrev js : List (Crewman L)
  js = everybody a.server

  abbrev ks : List (Crewman L)
  ks = everybody b.server

  abbrev wants : Bool
  wants = list_any is_memory (ends_of ks)

  abbrev fails : Bool
  fails = list_any is_door_fault (ends_of ks)

  abbrev spends : Bool
  spends = list_any is_spent (ends_of ks)

  abbrev above : Option ℕ
  above = first_late h b.server.viewers

  module _ (np : NamedPolicy) (birth : ℕ) (k : ViewHasServed traffic h np birth s a b) where
    viewed : HaveViewed traffic np birth a.server.viewers b.server.viewers
    viewed =
        elim k.compared [
          | seen e t ↦ told_viewed traffic np birth h a.server.viewers b.server.viewers t
          | unnamed e f t ↦ told_viewed traffic np birth h a.server.viewers b.server.viewers t
          | unseen e v ↦ v
        ]

    ended : EachOf HasEnded js ks
    ended =
        each_both HasEnded a.server.crew b.server.crew (map as_worker a.server.viewers) (map as_worker b.server.viewers)
        (crew_ended traffic np birth h 0 a.server.crew b.server.crew k.headline.worked) (viewers_ended traffic np birth h a.server.viewers b.server.viewers viewed)

    -- a number above the length, where 14 is due
    not_named : views_status h b.server ≡ 14 → LacksViewMemory traffic h a.server b.server
    not_named e =
        let o = fourteen_says wants fails spends (is_some above) e in
        let n = some_of above o.3 in
        to_name n.0 (done_all js ks ended o.0 o.1 o.2) n.1

    own_by : Compared traffic h np birth k.due a.server b.server → s ≡ k.due → ViewCause traffic h s a b
    own_by (seen e t) is = cause_by js ks ended above s (ViewCause traffic h s a b) done (λ eight x. memory eight (inl (for_somebody x))) failed spent late (is ∙ e)
    own_by (unnamed e fourteen t) is = memory (is ∙ e) (inl (not_named fourteen))
    own_by (unseen e v) is = memory (is ∙ e) (inl (to_compare np birth v))

    of_served : ServerCause (view_way traffic h) said s a b
    of_served =
        elim (written_says k.due _ s a.written b.written a.faults b.faults k.written) [ inl is ↦ own (own_by k.compared is) | inr f ↦ unwritten f.0 f.1 ]

    -- how a served run is due
    due_by : (n : ℕ) → (views_status h b.server ≡ n) ⊎ (wants ≡ true) → Compared traffic h np birth k.due a.server b.server → s ≡ k.due → Due n
    due_by n (inl x) (seen e t) is = inl (inl (is ∙ (e ∙ x)))
    due_by n (inr x) (seen e t) is = inr (is ∙ (e ∙ λ i. views_status_by (x i) fails spends (is_some above)), for_somebody (memory_some js ks ended x))
    due_by n by (unnamed e fourteen t) is = inr (is ∙ e, not_named fourteen)
    due_by n by (unseen e v) is = inr (is ∙ e, to_compare np birth v)

    due_at : (n : ℕ) → (views_status h b.server ≡ n) ⊎ (wants ≡ true) → Due n
    due_at n by =
        elim (written_says k.due _ s a.written b.written a.faults b.faults k.written) [ inl is ↦ due_by n by k.compared is | inr f ↦ inl (inr f) ]

    zero_or : (l : Bool) → s ≡ views_status_by false false false l → (s ≡ 0) ⊎ (s ≡ 8) ⊎ (s ≡ 14)
    zero_or true is = inr (inr is)
    zero_or false is = inl is

    good_by : EachOf IsUnharmed js ks → Compared traffic h np birth k.due a.server b.server → s ≡ k.due → (s ≡ 0) ⊎ (s ≡ 8) ⊎ (s ≡ 14)
    good_by w (seen e t) is =
        let off = unharmed js ks ended w in
        elim (well_by wants fails spends (is_some above) off.0 off.1) [ inl x ↦ inr (inl (is ∙ (e ∙ x))) | inr x ↦ zero_or (is_some above) (is ∙ (e ∙ x)) ]
    good_by w (unnamed e fourteen t) is = inr (inl (is ∙ e))
    good_by w (unseen e v) is = inr (inl (is ∙ e))

    well : IsWell (λ c d. EachOf IsUnharmed (everybody c) (everybody d)) said a b → (s ≡ 0) ⊎ (s ≡ 8) ⊎ (s ≡ 14)
    well w =
        elim (written_says k.due _ s a.written b.written a.faults b.faults k.written) [ inl is ↦ good_by w.server k.compared is | inr f ↦ absurd (w.output f.1) ]

  module _ (some : 1 ≤ length js) (fresh : Each IsFresh js) where
    -- a cause that only a company has that has served
    due : (Has : List (Crewman L) → Type 0) → (Has js → ⊥) → Has ks → (n : ℕ) → (views_status h b.server ≡ n) ⊎ (wants ≡ true) → ServerAnswers (view_way traffic h) said s a b → Due n
    due Has idle has n by answers =
        Any.by_served (view_way traffic h) said s a b (Due n) (λ same. idle (subst (λ (c : Company L). Has (everybody c)) same has)) (λ np birth k. due_at np birth k n by) answers

    -- where all are done, a number above the length decides
    done_at : OfAll IsDone a.server b.server → (o : Option ℕ) → above ≡ o → (n : ℕ) → views_status_by false false false (is_some o) ≡ n → ServerAnswers (view_way traffic h) said s a b → Due n
    done_at x o e n is answers =
        due (EachOf IsDone js) (idle_done js js fresh some) x n (inl (done_told js ks x (is_some above) ∙ ((λ i. views_status_by false false false (is_some (e i))) ∙ is))) answers

    dues_of : ServerAnswers (view_way traffic h) said s a b → ViewDues traffic h s a b
    dues_of answers =
        record {
          failed_is = λ x. due (SomeOf HasFailed js) (idle_failed js js fresh) x 10 (fails_by wants fails spends (is_some above) (failed_told js ks x)) answers;
          spent_is = λ x sound. due (SomeOf IsSpent js) (idle_spent js js fresh) x 11 (spends_by wants fails spends (is_some above) (sound_told js ks sound) (spent_told js ks x)) answers;
          late_is = λ n x e. done_at x (Some n) e 14 refl answers;
          done_is = λ x e. done_at x None e 0 refl answers;
        }

    pub runs : ServerAnswers (view_way traffic h) said s a b → b.texts ≡ a.texts → (said ≡ None → b ≡ record a { written = b.written; faults = b.faults }) → RunsViews traffic words s a b
    runs answers texts untouched =
        record {
          history = h;
          runs =
              Any.runs (view_way traffic h) said s a b of_served (λ k. memory k.0.0 (inr k)) dues_of
              (λ answers w. Any.complete_of (view_way traffic h) said s a b w ((s ≡ 0) ⊎ (s ≡ 8) ⊎ (s ≡ 14)) (λ np birth k. well np birth k w) (λ e. inr (inl e)) answers) answers texts untouched;
        }
