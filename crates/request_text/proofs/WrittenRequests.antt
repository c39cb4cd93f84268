-- A request is read from the line that it writes.
use Rattle.std.proofs.Common.{◌≡◌, ℕ, zero, suc, ◌<◌, ◌≤◌, ◌^◌, Bool, true, false, cond, ◌&&◌, List, [], ◌∷◌, ◌++◌, length, Option, Some, None, Result, Ok, Err, decimal, refl, inl, sym, ◌∙◌, ap, arith}
use Rattle.std.specs.Prelude.{nat_le, nat_lt, codes}
use Rattle.std.specs.List.{list_all}
use Rattle.std.proofs.lemmas.Bool.{le-leb, lt-ltb, ltb-true}
use borrow.Author.Tests.{leb-true}
use Rattle.gt_base.specs.Names.{is_name}
use Rattle.gt_base.specs.declared.events.SessionId.{SessionId}
use Rattle.gt_base.specs.declared.events.Fluent.{Fluent}
use Rattle.gt_base.specs.declared.events.Fluent.TheVariants.{Enabled, Assigned, Granted, Limit, Edge}
use Rattle.gt_base.specs.declared.events.Prioritised.{Prioritised}
use Rattle.gt_base.specs.declared.requests.Actor.{Actor}
use Rattle.gt_base.specs.declared.requests.Actor.TheVariants.{Operator}
use Rattle.gt_base.specs.declared.requests.Request.{Request}
use Rattle.gt_base.specs.declared.requests.Request.TheVariants as requests
use Rattle.gt_base.specs.declared.limits.TheConstants.{LAST_MINUTE}
use Rattle.gtrbac_model.specs.Policy.{Policy}
use Rattle.gtrbac_model.specs.History.{IsNamedWish, ask}
use Rattle.gtrbac_model.specs.WholePolicy.{is_fluent}
use Rattle.gt_text.specs.Lines.{is_longer}
use Rattle.gt_text.specs.Words.{words_of, are_silent}
use Rattle.policy_words.specs.declared.parts.NamedHead.{NamedHead}
use Rattle.policy_words.specs.Wording.{fluent_names, event_words, cond_words, event_verb, cond_verb, sort_of, head_words, delay_words}
use Rattle.policy_words.specs.Sayings.{are_names}
use Rattle.policy_lines.specs.Plain.{is_word, is_solid}
use Rattle.policy_lines.proofs.Truths.{both, and_true, not_true, some_is}
use Rattle.policy_lines.proofs.SpacedWords.{words_of_spaced, all_append}
use Rattle.policy_lines.proofs.SolidWords.{word_name, word_decimal, words_names, word_event_verb, word_cond_verb, behind, word_on, words_delay}
use Rattle.policy_book.proofs.Back.{role_back, perm_back, role_named, perm_named, names_of_fluent, cond_back, event_back}
use Rattle.policy_words.specs.Naming.{NamedPolicy, head_of, head_named}
use Rattle.policy_words.specs.Valid.{IsWellFormed}
use Rattle.request_text.specs.declared.lines.Line.{Line}
use Rattle.request_text.specs.declared.lines.Line.TheVariants as lines
use Rattle.request_text.specs.declared.lines.LineFault.{LineFault}
use Rattle.request_text.specs.declared.lines.LineFault.TheVariants as faults
use Rattle.request_text.specs.declared.phrases.NamedRequest.{NamedRequest}
use Rattle.request_text.specs.declared.phrases.NamedRequest.TheVariants.{Now, Status, Seen, Raise, OpenSession, CloseSession, Activate, Deactivate, Active, Check}
use Rattle.request_text.specs.declared.phrases.Phrase.{Phrase}
use Rattle.request_text.specs.declared.phrases.Phrase.TheVariants.{Ask}
use Rattle.request_text.specs.Phrases.{request_words, phrase_in, request_of, line_of, meant, said, read_line}
use Rattle.request_text.specs.Spelling.{SpellsRequest, is_session, is_request}
use Rattle.request_text.specs.Replies.{request_named, request_text}
use Rattle.request_text.proofs.PhraseReads.{phrase_reads}
use Rattle.request_text.proofs.PhraseWords.{stands_as}

abbrev pub Asks : Policy → Request → Type 0
Asks p r = IsNamedWish p (ask Operator r)

fluent_is : (p : Policy) (on : Bool) (f : Fluent) → Asks p (requests.Status (record { on = on; fluent = f })) → is_fluent p f ≡ true
fluent_is p on (Enabled r) h = lt-ltb r.0 p.roles h.1
fluent_is p on (Assigned u r) h = and_true (nat_lt u.0 p.users) (nat_lt r.0 p.roles) (lt-ltb u.0 p.users h.1.0) (lt-ltb r.0 p.roles h.1.1)
fluent_is p on (Granted q r) h = and_true (nat_lt q.0 p.perms) (nat_lt r.0 p.roles) (lt-ltb q.0 p.perms h.1.0) (lt-ltb r.0 p.roles h.1.1)
fluent_is p on (Limit l) h = lt-ltb l.0 (length p.limits) h.1
fluent_is p on (Edge n) h = lt-ltb n (length p.edges) h.1

is_small : (s : SessionId) → s.0 < 2 ^ 32 → is_session s ≡ true
is_small s h = le-leb s.0 4_294_967_295 (omega arith)

-- words that a request is written with

solid_session : (s : SessionId) → is_session s ≡ true → is_word (decimal s.0) ≡ true
solid_session s h = word_decimal s.0 (omega (arith, leb-true s.0 4_294_967_295 h))

solid_named : (s : SessionId) (n : List ℕ) → (is_session s && is_name n) ≡ true → list_all is_word (decimal s.0 ∷ n ∷ []) ≡ true
solid_named s n h =
    let parts = both (is_session s) (is_name n) h in
    behind (decimal s.0) (n ∷ []) (solid_session s parts.0) (behind n [] (word_name n parts.1) refl)

solid_head : (h : NamedHead) → h.prio ≤ 100 → are_names (fluent_names h.event.fluent) ≡ true → list_all is_word (head_words h) ≡ true
solid_head h low names =
    let verb = event_verb h.event.on (sort_of h.event.fluent) in
    let solid : list_all is_solid (58 ∷ verb) ≡ true = (both (nat_lt 0 (length verb)) (list_all is_solid verb) (word_event_verb h.event.on (sort_of h.event.fluent))).1 in
    behind (decimal h.prio ++ 58 ∷ verb) (fluent_names h.event.fluent) (word_on (decimal h.prio) (58 ∷ verb) (word_decimal h.prio (omega arith)) solid) (words_names (fluent_names h.event.fluent) names)

pub solid_words : (q : NamedRequest) → is_request q ≡ true → list_all is_word (request_words q) ≡ true
solid_words Now h = refl
solid_words (Status c) h =
    behind (codes "status") (cond_words c) refl (behind (cond_verb c.on (sort_of c.fluent)) (fluent_names c.fluent) (word_cond_verb c.on (sort_of c.fluent)) (words_names (fluent_names c.fluent) h))
solid_words (Seen e) h =
    behind (codes "event") (event_words e) refl (behind (event_verb e.on (sort_of e.fluent)) (fluent_names e.fluent) (word_event_verb e.on (sort_of e.fluent)) (words_names (fluent_names e.fluent) h))
solid_words (Raise h d) is =
    let outer = both (nat_le h.prio 100 && are_names (fluent_names h.event.fluent)) (nat_le d LAST_MINUTE) is in
    let parts = both (nat_le h.prio 100) (are_names (fluent_names h.event.fluent)) outer.0 in
    behind (codes "request") (head_words h ++ delay_words d) refl
    (all_append is_word (head_words h) (delay_words d) (solid_head h (leb-true h.prio 100 parts.0) parts.1) (words_delay d (leb-true d LAST_MINUTE outer.1)))
solid_words OpenSession h = refl
solid_words (CloseSession s) h = behind (codes "close") (decimal s.0 ∷ []) refl (behind (decimal s.0) [] (solid_session s h) refl)
solid_words (Activate s r) h = behind (codes "activate") (decimal s.0 ∷ r ∷ []) refl (solid_named s r h)
solid_words (Deactivate s r) h = behind (codes "deactivate") (decimal s.0 ∷ r ∷ []) refl (solid_named s r h)
solid_words (Active s r) h = behind (codes "active") (decimal s.0 ∷ r ∷ []) refl (solid_named s r h)
solid_words (Check s q) h = behind (codes "check") (decimal s.0 ∷ q ∷ []) refl (solid_named s q h)

loud_words : (q : NamedRequest) → are_silent (request_words q) ≡ false
loud_words Now = refl
loud_words (Status c) = refl
loud_words (Seen e) = refl
loud_words (Raise h d) = refl
loud_words OpenSession = refl
loud_words (CloseSession s) = refl
loud_words (Activate s r) = refl
loud_words (Deactivate s r) = refl
loud_words (Active s r) = refl
loud_words (Check s q) = refl

own_words : (q : NamedRequest) → SpellsRequest q (request_words q)
own_words Now = refl
own_words (Status c) = refl
own_words (Seen e) = refl
own_words (Raise h zero) = inl refl
own_words (Raise h (suc d)) = refl
own_words OpenSession = refl
own_words (CloseSession s) = refl
own_words (Activate s r) = refl
own_words (Deactivate s r) = refl
own_words (Active s r) = refl
own_words (Check s q) = refl

module _ (np : NamedPolicy) (good : IsWellFormed np) where
  head_back_of : (h : Prioritised) → is_fluent np.policy h.event.fluent ≡ true → head_of np.names (head_named np.names h) ≡ Some h
  head_back_of h is = rw (event_back np good h.event is) refl

  request_back : (r : Request) → Asks np.policy r → request_of np (request_named np r) ≡ Some r
  request_back requests.Now h = refl
  request_back (requests.Status c) h = rw (cond_back np good c (fluent_is np.policy c.on c.fluent h)) refl
  request_back (requests.Seen e) h = rw (event_back np good e (fluent_is np.policy e.on e.fluent h)) refl
  request_back (requests.Raise h d) is = rw (head_back_of h (fluent_is np.policy h.event.on h.event.fluent (tt, is.1.0))) refl
  request_back requests.OpenSession h = refl
  request_back (requests.CloseSession s) h = refl
  request_back (requests.Activate s r) h = rw (role_back np good r (lt-ltb r.0 np.policy.roles h.1.1)) refl
  request_back (requests.Deactivate s r) h = rw (role_back np good r (lt-ltb r.0 np.policy.roles h.1.1)) refl
  request_back (requests.Active s r) h = rw (role_back np good r (lt-ltb r.0 np.policy.roles h.1.1)) refl
  request_back (requests.Check s q) h = rw (perm_back np good q (lt-ltb q.0 np.policy.perms h.1.1)) refl

  pub request_fits : (r : Request) → Asks np.policy r → is_request (request_named np r) ≡ true
  request_fits requests.Now h = refl
  request_fits (requests.Status c) h = names_of_fluent np good c.fluent (fluent_is np.policy c.on c.fluent h)
  request_fits (requests.Seen e) h = names_of_fluent np good e.fluent (fluent_is np.policy e.on e.fluent h)
  request_fits (requests.Raise h d) is =
      and_true _ _ (and_true _ _ (le-leb h.prio 100 is.1.1) (names_of_fluent np good h.event.fluent (fluent_is np.policy h.event.on h.event.fluent (tt, is.1.0)))) (le-leb d LAST_MINUTE is.1.2)
  request_fits requests.OpenSession h = refl
  request_fits (requests.CloseSession s) h = is_small s h.1
  request_fits (requests.Activate s r) h = and_true _ _ (is_small s h.1.0) (role_named np good r (lt-ltb r.0 np.policy.roles h.1.1))
  request_fits (requests.Deactivate s r) h = and_true _ _ (is_small s h.1.0) (role_named np good r (lt-ltb r.0 np.policy.roles h.1.1))
  request_fits (requests.Active s r) h = and_true _ _ (is_small s h.1.0) (role_named np good r (lt-ltb r.0 np.policy.roles h.1.1))
  request_fits (requests.Check s q) h = and_true _ _ (is_small s h.1.0) (perm_named np good q (lt-ltb q.0 np.policy.perms h.1.1))

  words_back : (r : Request) → Asks np.policy r → words_of (request_text np r) ≡ request_words (request_named np r)
  words_back r h = words_of_spaced (request_words (request_named np r)) (solid_words (request_named np r) (request_fits r h))

  phrase_back : (script : Bool) (r : Request) → Asks np.policy r → phrase_in script (words_of (request_text np r)) ≡ Some (Ask (request_named np r))
  phrase_back script r h =
      ap (phrase_in script) (words_back r h)
      ∙ phrase_reads script (request_words (request_named np r)) (Ask (request_named np r)) (record { fits = request_fits r h; stands = stands_as script (request_named np r); spells = own_words (request_named np r) })

  line_back : (opening : Actor) (r : Request) → Asks np.policy r → line_of np opening (Ask (request_named np r)) ≡ Some (lines.Ask r)
  line_back opening r h = rw (request_back r h) refl

  pub written_is_read : (opening : Actor) (script : Bool) (r : Request) → Asks np.policy r → length (request_text np r) ≤ 512 → read_line np opening script (request_text np r) ≡ Ok (lines.Ask r)
  written_is_read opening script r h short =
      let read = said np opening (phrase_in script (words_of (request_text np r))) in
      ap (λ b. cond b (Err faults.Long) (cond (are_silent (words_of (request_text np r))) (Ok lines.Silent) read))
      (not_true (is_longer 512 (request_text np r)) (λ t. absurd (omega (arith, short, ltb-true 512 (length (request_text np r)) t))))
      ∙ ap (λ b. cond b (Ok lines.Silent) read) (ap are_silent (words_back r h) ∙ loud_words (request_named np r))
      ∙ ap (said np opening) (phrase_back script r h) ∙ ap (meant np) (line_back opening r h)

  -- what a line asks, where it asks
  asked : List ℕ → Option Line
  asked text = elim (phrase_in false (words_of text)) as (λ _. Option Line) [ None ↦ None | Some phrase ↦ line_of np Operator phrase ]

  asked_back : (r : Request) → Asks np.policy r → asked (request_text np r) ≡ Some (lines.Ask r)
  unfolding asked
  asked_back r h = ap (λ (o : Option Phrase). elim o as (λ _. Option Line) [ None ↦ None | Some phrase ↦ line_of np Operator phrase ]) (phrase_back false r h) ∙ line_back Operator r h

  pub request_tells : (r q : Request) → Asks np.policy r → Asks np.policy q → request_text np r ≡ request_text np q → r ≡ q
  request_tells r q h k e = inner (some_is (sym (asked_back r h) ∙ ap asked e ∙ asked_back q k))
    where
      inner : lines.Ask r ≡ lines.Ask q → r ≡ q
      inner e = cc
