-- What holds of each word of a request, where it holds of names, numbers and verbs.
use Rattle.std.proofs.Common.{◌≡◌, ℕ, ◌<◌, ◌≤◌, ◌^◌, Bool, true, ◌&&◌, List, [], ◌∷◌, ◌++◌, decimal, refl, arith}
use Rattle.std.specs.Prelude.{nat_le, nat_eq, codes}
use Rattle.std.specs.List.{list_all}
use borrow.Author.Tests.{leb-true}
use Rattle.gtrbac_model.proofs.Elements.{split}
use Rattle.gt_base.specs.Names.{is_name}
use Rattle.gt_base.specs.declared.events.SessionId.{SessionId}
use Rattle.gt_base.specs.declared.limits.TheConstants.{LAST_MINUTE}
use Rattle.policy_words.specs.declared.parts.Sort.{Sort}
use Rattle.policy_words.specs.Wording.{event_words, cond_words, fluent_names, event_verb, cond_verb, sort_of, head_words, delay_words}
use Rattle.policy_words.specs.Sayings.{are_names}
use Rattle.policy_lines.proofs.Truths.{both, and_true}
use Rattle.policy_lines.proofs.SpacedWords.{all_append}
use Rattle.request_text.specs.declared.phrases.NamedRequest.{NamedRequest}
use Rattle.request_text.specs.declared.phrases.NamedRequest.TheVariants.{Now, Status, Seen, Raise, OpenSession, CloseSession, Activate, Deactivate, Active, Check}
use Rattle.request_text.specs.declared.verbs.RequestVerb.{RequestVerb}
use Rattle.request_text.specs.declared.verbs.RequestVerb.TheVariants as verbs
use Rattle.request_text.specs.Phrases.{verb_word, request_words}
use Rattle.request_text.specs.Spelling.{is_session, is_request}

-- a test that names, numbers of 32 bits and all verbs pass
pub record Passes (test : List ℕ → Bool) : Type 0 where
  pub name : (n : List ℕ) → is_name n ≡ true → test n ≡ true
  pub number : (n : ℕ) → n < 2 ^ 32 → test (decimal n) ≡ true
  pub events : (on : Bool) (s : Sort) → test (event_verb on s) ≡ true
  pub conds : (on : Bool) (s : Sort) → test (cond_verb on s) ≡ true
  pub heads : (p : ℕ) (on : Bool) (s : Sort) → p ≤ 100 → test (decimal p ++ 58 ∷ event_verb on s) ≡ true
  pub firsts : (v : RequestVerb) → test (verb_word v) ≡ true
  pub later : test (codes "after") ≡ true

module _ (test : List ℕ → Bool) (passes : Passes test) where
  names : (ns : List (List ℕ)) → are_names ns ≡ true → list_all test ns ≡ true
  names [] h = refl
  names (n ∷ ns) h = let parts = both (is_name n) (are_names ns) h in and_true (test n) (list_all test ns) (passes.name n parts.0) (names ns parts.1)

  on : (w : List ℕ) (ws : List (List ℕ)) → test w ≡ true → list_all test ws ≡ true → list_all test (w ∷ ws) ≡ true
  on w ws h k = and_true (test w) (list_all test ws) h k

  session : (s : SessionId) → is_session s ≡ true → test (decimal s.0) ≡ true
  session s h = passes.number s.0 (omega (arith, leb-true s.0 4_294_967_295 h))

  with_name : (s : SessionId) (n : List ℕ) → (is_session s && is_name n) ≡ true → list_all test (decimal s.0 ∷ n ∷ []) ≡ true
  with_name s n h = let parts = both (is_session s) (is_name n) h in on (decimal s.0) (n ∷ []) (session s parts.0) (on n [] (passes.name n parts.1) refl)

  delay : (d : ℕ) → d ≤ LAST_MINUTE → list_all test (delay_words d) ≡ true
  delay d le =
      split (nat_eq d 0) (λ t. rw (t, delay_words) refl)
      (λ f. rw (f, delay_words) (on (codes "after") (decimal d ∷ []) passes.later (on (decimal d) [] (passes.number d (omega (arith, le))) refl)))

  pub all_words : (q : NamedRequest) → is_request q ≡ true → list_all test (request_words q) ≡ true
  all_words Now h = on (codes "now") [] (passes.firsts verbs.Now) refl
  all_words (Status c) h = on (codes "status") (cond_words c) (passes.firsts verbs.Status) (on (cond_verb c.on (sort_of c.fluent)) (fluent_names c.fluent) (passes.conds c.on (sort_of c.fluent)) (names (fluent_names c.fluent) h))
  all_words (Seen e) h = on (codes "event") (event_words e) (passes.firsts verbs.Event) (on (event_verb e.on (sort_of e.fluent)) (fluent_names e.fluent) (passes.events e.on (sort_of e.fluent)) (names (fluent_names e.fluent) h))
  all_words (Raise h d) is =
      let outer = both (nat_le h.prio 100 && are_names (fluent_names h.event.fluent)) (nat_le d LAST_MINUTE) is in
      let parts = both (nat_le h.prio 100) (are_names (fluent_names h.event.fluent)) outer.0 in
      on (codes "request") (head_words h ++ delay_words d) (passes.firsts verbs.Request)
      (all_append test (head_words h) (delay_words d)
      (on (decimal h.prio ++ 58 ∷ event_verb h.event.on (sort_of h.event.fluent)) (fluent_names h.event.fluent) (passes.heads h.prio h.event.on (sort_of h.event.fluent) (leb-true h.prio 100 parts.0))
      (names (fluent_names h.event.fluent) parts.1)) (delay d (leb-true d LAST_MINUTE outer.1)))
  all_words OpenSession h = on (codes "open") [] (passes.firsts verbs.Open) refl
  all_words (CloseSession s) h = on (codes "close") (decimal s.0 ∷ []) (passes.firsts verbs.Close) (on (decimal s.0) [] (session s h) refl)
  all_words (Activate s r) h = on (codes "activate") (decimal s.0 ∷ r ∷ []) (passes.firsts verbs.Activate) (with_name s r h)
  all_words (Deactivate s r) h = on (codes "deactivate") (decimal s.0 ∷ r ∷ []) (passes.firsts verbs.Deactivate) (with_name s r h)
  all_words (Active s r) h = on (codes "active") (decimal s.0 ∷ r ∷ []) (passes.firsts verbs.Active) (with_name s r h)
  all_words (Check s q) h = on (codes "check") (decimal s.0 ∷ q ∷ []) (passes.firsts verbs.Check) (with_name s q h)
