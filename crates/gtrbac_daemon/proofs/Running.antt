-- A run of the plain server: why it has its status, which status each cause has, and how one ends that goes
-- well.
use Rattle.std.proofs.Common.{◌≡◌, ◌⊎◌, ℕ, suc, ◌≤◌, Bool, true, false, List, [], ◌∷◌, length, Option, None, inl, inr, sym, ap, subst, ◌∙◌, arith}
use Rattle.std.specs.Prelude.{All}
use Rattle.std.specs.List.{list_any}
use Rattle.std.proofs.lemmas.List.{length-map}
use Rattle.std.proofs.lemmas.Option.{none-some}
use Rattle.gt_base.proofs.WordLaws.{any_map}
use Rattle.gt_io.specs.Causes.{Rose}
use Rattle.gt_io.specs.Links.{Traffic, Doorway}
use Rattle.turn_lock.specs.Turns.{Each}
use Rattle.policy_words.specs.Naming.{NamedPolicy}
use Rattle.line_server.specs.declared.ended.WorkEnd.{WorkEnd}
use Rattle.line_server.specs.declared.workers.Worker.{Worker}
use Rattle.gtrbac_daemon.specs.Words.{policy_named}
use Rattle.gtrbac_daemon.specs.Crew as crew
use Rattle.gtrbac_daemon.specs.Crew.{Crewman, crewman, crewmen, IsNew, is_memory, is_door_fault, is_spent, status_of, ends_of, SomeOf, EachOf, HasFailed, LacksMemory, IsSpent, IsUnharmed, IsDone}
use Rattle.gtrbac_daemon.specs.Views.{views_status_by}
use Rattle.gtrbac_daemon.specs.Runs.{ServerScene, IsToldAs, IsDueButFor, IsWell, ServerAnswers, ServerCause, unwritten, own}
use Rattle.gtrbac_daemon.specs.Daemon.{CrewHasServed, CrewCause, done, memory, failed, spent, CrewDues, crew_way, RunsServer}
use Rattle.gtrbac_daemon.proofs.AnyRuns as Any
use Rattle.gtrbac_daemon.proofs.Causing.{written_says, eight_says}
use Rattle.gtrbac_daemon.proofs.Endings.{plain, fails_by, spends_by, well_by, IsFresh, HasEnded, crew_ended, memory_told, failed_told, spent_told, sound_told, done_told, idle_done, idle_memory, idle_failed, idle_spent, memory_some, unharmed, cause_by}

module _ {D C G L : Type 0} (readings : C → Option (ℕ → ℕ)) (doorway : D → Doorway L) where
  pub all_fresh : (ws : List (Worker D C G L)) → All (λ (w : Worker D C G L). IsNew w) ws → Each (λ (j : Crewman L). IsFresh j) (crewmen readings doorway ws)
  all_fresh [] new = tt
  all_fresh (w ∷ ws) new = ((new 0 w (omega arith)).0, all_fresh ws (λ k d low. new (suc k) d (omega (arith, low))))

  pub some_crew : (ws : List (Worker D C G L)) → 1 ≤ length ws → 1 ≤ length (crewmen readings doorway ws)
  some_crew ws some = subst (λ (n : ℕ). 1 ≤ n) (sym (length-map ws (crewman readings doorway))) some

  -- what is seen of workers says what they say themselves
  pub crew_says : (p : WorkEnd → Bool) (ws : List (Worker D C G L)) → list_any (λ (w : Worker D C G L). p w.outcome) ws ≡ list_any p (ends_of (crewmen readings doorway ws))
  crew_says p ws = sym (any_map p (λ (k : Crewman L). k.outcome) (crewmen readings doorway ws) ∙ any_map (λ (k : Crewman L). p k.outcome) (crewman readings doorway) ws)

  pub same_status : (ws xs : List (Worker D C G L)) → xs ≡ ws
      → crew.status_by (list_any (λ (w : Worker D C G L). is_memory w.outcome) xs) (list_any (λ (w : Worker D C G L). is_door_fault w.outcome) xs) (list_any (λ (w : Worker D C G L). is_spent w.outcome) xs)
      ≡ status_of (ends_of (crewmen readings doorway ws))
  same_status ws xs e =
      (λ i. crew.status_by (crew_says is_memory xs i) (crew_says is_door_fault xs i) (crew_says is_spent xs i)) ∙ ap (λ (ys : List (Worker D C G L)). status_of (ends_of (crewmen readings doorway ys))) e

module _ {L : Type 0} (traffic : L → Traffic) (words : List (List ℕ)) (s : ℕ) (a b : ServerScene (List (Crewman L))) where
  abbrev Lacks : Type 0
  Lacks = SomeOf LacksMemory a.server b.server

  abbrev wants : Bool
  wants = list_any is_memory (ends_of b.server)

  abbrev fails : Bool
  fails = list_any is_door_fault (ends_of b.server)

  abbrev spends : Bool
  spends = list_any is_spent (ends_of b.server)

  abbrev due : ℕ
  due = views_status_by wants fails spends false

  module _ (np : NamedPolicy) (birth : ℕ) (k : CrewHasServed traffic np birth s a b) where
    ended : EachOf HasEnded a.server b.server
    ended = crew_ended traffic np birth k.history 0 a.server b.server k.headline.worked

    says : (s ≡ due) ⊎ ((s ≡ 5) × Rose a.faults b.faults)
    says = elim (written_says (status_of (ends_of b.server)) _ s a.written b.written a.faults b.faults k.written) [ inl is ↦ inl (is ∙ plain wants fails spends) | inr f ↦ inr f ]

    of_served : ServerCause (crew_way traffic) (policy_named words) s a b
    of_served =
        elim says [
          | inl is ↦ own (cause_by a.server b.server ended None s (CrewCause s a b) (λ e all none. done e all) (λ e x. memory e (inl x)) failed spent (λ n e all some. absurd (none-some n some)) is)
          | inr f ↦ unwritten f.0 f.1
        ]

    eight_by : wants ≡ true → s ≡ 8
    eight_by lacks =
        eight_says (status_of (ends_of b.server)) _ s a.written b.written a.faults b.faults k.written (plain wants fails spends ∙ λ i. views_status_by (lacks i) fails spends false)

    due_by : (n : ℕ) → (due ≡ n) ⊎ (wants ≡ true) → IsDueButFor Lacks s a b n
    due_by n (inl e) = elim says [ inl is ↦ inl (inl (is ∙ e)) | inr f ↦ inl (inr f) ]
    due_by n (inr lacks) = inr (eight_by lacks, memory_some a.server b.server ended lacks)

    well : IsWell (EachOf IsUnharmed) (policy_named words) a b → (s ≡ 0) ⊎ (s ≡ 8)
    well w =
        let off = unharmed a.server b.server ended w.server in
        elim says [
          | inl is ↦ elim (well_by wants fails spends false off.0 off.1) [ inl e ↦ inr (is ∙ e) | inr e ↦ inl (is ∙ e) ]
          | inr f ↦ absurd (w.output f.1)
        ]

  module _ (some : 1 ≤ length a.server) (fresh : Each IsFresh a.server) where
    -- a cause that only a crew has that has worked
    by_served : (Has : List (Crewman L) → Type 0) → (Has a.server → ⊥) → Has b.server → (P : Type 0) → ((np : NamedPolicy) (birth : ℕ) → CrewHasServed traffic np birth s a b → P)
        → ServerAnswers (crew_way traffic) (policy_named words) s a b → P
    by_served Has idle has P told answers = Any.by_served (crew_way traffic) (policy_named words) s a b P (λ same. idle (subst Has same has)) told answers

    dues_of : ServerAnswers (crew_way traffic) (policy_named words) s a b → CrewDues s a b
    dues_of answers =
        record {
          done_is =
              λ h. by_served (EachOf IsDone a.server) (idle_done a.server a.server fresh some) h (IsToldAs s a b 0)
              (λ np birth k. elim (says np birth k) [ inl is ↦ inl (is ∙ done_told a.server b.server h false) | inr f ↦ inr f ]) answers;
          memory_is = λ h. by_served (SomeOf LacksMemory a.server) (idle_memory a.server a.server fresh) h (s ≡ 8) (λ np birth k. eight_by np birth k (memory_told a.server b.server h)) answers;
          failed_is =
              λ h. by_served (SomeOf HasFailed a.server) (idle_failed a.server a.server fresh) h (IsDueButFor Lacks s a b 10)
              (λ np birth k. due_by np birth k 10 (fails_by wants fails spends false (failed_told a.server b.server h))) answers;
          spent_is =
              λ h sound. by_served (SomeOf IsSpent a.server) (idle_spent a.server a.server fresh) h (IsDueButFor Lacks s a b 11)
              (λ np birth k. due_by np birth k 11 (spends_by wants fails spends false (sound_told a.server b.server sound) (spent_told a.server b.server h))) answers;
        }

    pub runs : ServerAnswers (crew_way traffic) (policy_named words) s a b → b.texts ≡ a.texts → (policy_named words ≡ None → b ≡ record a { written = b.written; faults = b.faults }) → RunsServer traffic words s a b
    runs =
        Any.runs (crew_way traffic) (policy_named words) s a b of_served (λ k. memory k.0.0 (inr k)) dues_of
        (λ answers w. Any.complete_of (crew_way traffic) (policy_named words) s a b w ((s ≡ 0) ⊎ (s ≡ 8)) (λ np birth k. well np birth k w) (λ e. inr e) answers)
