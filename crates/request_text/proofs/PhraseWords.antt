-- What is read from words is in range, and the words spell it.
use Rattle.std.proofs.Common.{◌≡◌, inl, inr, ℕ, zero, suc, Bool, true, false, cond, ◌&&◌, List, [], ◌∷◌, ◌++◌, Option, Some, None, refl, sym, ◌∙◌, ap, subst, arith, decimal, append-nil}
use Rattle.std.specs.Prelude.{codes, bytes_eq, nat_le}
use Rattle.std.proofs.lemmas.Slice.Eq.{bytes_eq-Decides}
use Rattle.std.proofs.lemmas.Bool.{le-leb}
use Rattle.gt_base.specs.Names.{is_name, name_in, number_from}
use Rattle.gt_base.specs.declared.events.SessionId.{SessionId}
use Rattle.gt_base.specs.declared.limits.TheConstants.{LAST_MINUTE}
use Rattle.civil_time.specs.Text.{civil_in}
use Rattle.civil_time.proofs.Texts.{texts_are_read}
use Rattle.policy_words.specs.declared.parts.NamedHead.{NamedHead}
use Rattle.policy_words.specs.Wording.{◌>>=◌, at_end, fluent_names, cond_words, event_words, head_words, cond_at, event_at, head_at, delay_in}
use Rattle.policy_words.specs.Sayings.{are_names}
use Rattle.policy_lines.specs.Cursors.{name_at}
use Rattle.policy_lines.proofs.Truths.{both, and_true, some_is, none_some, taken}
use Rattle.gt_text.proofs.Decimals.{number_from_is}
use Rattle.policy_lines.proofs.ItemVerbs.{found_passes}
use Rattle.policy_lines.proofs.FrontWords.{event_at_is, cond_at_is}
use Rattle.policy_lines.proofs.FormWords.{came, name_in_is, at_end_is, head_up_to_is}
use Rattle.policy_lines.proofs.TriggerWords.{SpellsDelay, delay_is}
use Rattle.request_text.specs.declared.phrases.NamedRequest.{NamedRequest}
use Rattle.request_text.specs.declared.phrases.NamedRequest.TheVariants.{Now, Status, Seen, Raise, OpenSession, CloseSession, Activate, Deactivate, Active, Check}
use Rattle.request_text.specs.declared.phrases.Phrase.{Phrase}
use Rattle.request_text.specs.declared.phrases.Phrase.TheVariants.{Be, Ask}
use Rattle.request_text.specs.declared.verbs.RequestVerb.{RequestVerb}
use Rattle.request_text.specs.declared.verbs.RequestVerb.TheVariants as verbs
use Rattle.request_text.specs.Phrases.{verb_word, all_verbs, verb_in, session_at, session_in, session_name_in, raise_in, cond_in, event_in, of_session, of_session_name, request_by, request_in, ask_request, be_actor, at_minute, actor_in, named_actor, minute_in, phrase_by, phrase_in}
use Rattle.request_text.specs.Spelling.{SpellsRequest, is_session, is_request, MayStand, IsPhrase}

verb_is : (w : List ℕ) (v : RequestVerb) → verb_in w ≡ Some v → w ≡ verb_word v
verb_is w v e = sym ((bytes_eq-Decides (verb_word v) w).0 (found_passes (λ v. bytes_eq (verb_word v) w) all_verbs v e))

-- a request with its words behind the first
record Asked (first : List ℕ) (ws : List (List ℕ)) (r : NamedRequest) : Type 0 where
  fits : is_request r ≡ true
  spells : SpellsRequest r (first ∷ ws)

record SessionAt (ws : List (List ℕ)) (s : SessionId × List (List ℕ)) : Type 0 where
  fits : is_session s.0 ≡ true
  words : ws ≡ decimal s.0.0 ∷ s.1

session_at_is : (ws : List (List ℕ)) (s : SessionId × List (List ℕ)) → session_at ws ≡ Some s → SessionAt ws s
session_at_is [] s e = absurd (none_some e)
session_at_is (w ∷ ws) s e =
    let c = came (number_from 0 4_294_967_295 w) _ s e in
    let is = number_from_is 0 4_294_967_295 w c.it (omega arith) c.was in
    subst (SessionAt (w ∷ ws)) (some_is c.then) (record { fits = le-leb c.it 4_294_967_295 is.1; words = ap (λ w. w ∷ ws) is.2 })

session_in_is : (ws : List (List ℕ)) (s : SessionId) → session_in ws ≡ Some s → (is_session s ≡ true) × (ws ≡ decimal s.0 ∷ [])
session_in_is ws s e =
    let c = came (session_at ws) _ s e in
    let is = session_at_is ws c.it c.was in
    let end = at_end_is c.it.0 s c.it.1 c.then in
    subst (λ (s : SessionId). (is_session s ≡ true) × (ws ≡ decimal s.0 ∷ [])) end.0 (is.fits, is.words ∙ ap (λ ws. decimal c.it.0.0 ∷ ws) end.1)

record NameAt (ws : List (List ℕ)) (n : List ℕ × List (List ℕ)) : Type 0 where
  name : is_name n.0 ≡ true
  words : ws ≡ n.0 ∷ n.1

name_at_is : (ws : List (List ℕ)) (n : List ℕ × List (List ℕ)) → name_at ws ≡ Some n → NameAt ws n
name_at_is [] n e = absurd (none_some e)
name_at_is (w ∷ ws) n e =
    let c = came (name_in w) _ n e in
    let is = name_in_is w c.it c.was in
    subst (NameAt (w ∷ ws)) (some_is c.then) (record { name = is.0; words = ap (λ w. w ∷ ws) is.1 })

record SessionName (ws : List (List ℕ)) (s : SessionId × List ℕ) : Type 0 where
  fits : (is_session s.0 && is_name s.1) ≡ true
  words : ws ≡ decimal s.0.0 ∷ s.1 ∷ []

session_name_is : (ws : List (List ℕ)) (s : SessionId × List ℕ) → session_name_in ws ≡ Some s → SessionName ws s
session_name_is ws s e =
    let c = came (session_at ws) _ s e in
    let n = came (name_at c.it.1) _ s c.then in
    let s_is = session_at_is ws c.it c.was in
    let n_is = name_at_is c.it.1 n.it n.was in
    let end = at_end_is (c.it.0, n.it.0) s n.it.1 n.then in
    subst (SessionName ws) end.0
    (record {
      fits = and_true (is_session c.it.0) (is_name n.it.0) s_is.fits n_is.name;
      words = s_is.words ∙ ap (λ ws. decimal c.it.0.0 ∷ ws) n_is.words ∙ ap (λ ws. decimal c.it.0.0 ∷ n.it.0 ∷ ws) end.1;
    })

-- requests by their first words

of_session_is : (first : List ℕ) (build : SessionId → NamedRequest) (ws : List (List ℕ)) (r : NamedRequest) → ((s : SessionId) → is_session s ≡ true → Asked first (decimal s.0 ∷ []) (build s))
    → of_session build ws ≡ Some r → Asked first ws r
of_session_is first build ws r asked e =
    let c = came (session_in ws) _ r e in
    let is = session_in_is ws c.it c.was in
    subst (Asked first ws) (some_is c.then) (subst (λ ws. Asked first ws (build c.it)) (sym is.1) (asked c.it is.0))

of_session_name_is : (first : List ℕ) (build : SessionId → List ℕ → NamedRequest) (ws : List (List ℕ)) (r : NamedRequest)
    → ((s : SessionId) (n : List ℕ) → (is_session s && is_name n) ≡ true → Asked first (decimal s.0 ∷ n ∷ []) (build s n)) → of_session_name build ws ≡ Some r → Asked first ws r
of_session_name_is first build ws r asked e =
    let c = came (session_name_in ws) _ r e in
    let is = session_name_is ws c.it c.was in
    subst (Asked first ws) (some_is c.then) (subst (λ ws. Asked first ws (build c.it.0 c.it.1)) (sym is.words) (asked c.it.0 c.it.1 is.fits))

alone_is : (first : List ℕ) (r : NamedRequest) (ws : List (List ℕ)) (s : NamedRequest) → Asked first [] r → at_end r ws ≡ Some s → Asked first ws s
alone_is first r ws s asked e = let end = at_end_is r s ws e in subst (Asked first ws) end.0 (subst (λ ws. Asked first ws r) (sym end.1) asked)

status_is : (ws : List (List ℕ)) (r : NamedRequest) → cond_in ws ≡ Some r → Asked (codes "status") ws r
status_is ws r e =
    let c = came (cond_at ws) _ r e in
    let is = cond_at_is ws c.it c.was in
    let end = at_end_is (Status c.it.0) r c.it.1 c.then in
    subst (Asked (codes "status") ws) end.0
    (record { fits = is.names; spells = ap (λ ws. codes "status" ∷ ws) (is.words ∙ ap (λ ws. cond_words c.it.0 ++ ws) end.1 ∙ append-nil (cond_words c.it.0)) })

seen_is : (ws : List (List ℕ)) (r : NamedRequest) → event_in ws ≡ Some r → Asked (codes "event") ws r
seen_is ws r e =
    let c = came (event_at ws) _ r e in
    let is = event_at_is ws c.it c.was in
    let end = at_end_is (Seen c.it.0) r c.it.1 c.then in
    subst (Asked (codes "event") ws) end.0
    (record { fits = is.names; spells = ap (λ ws. codes "event" ∷ ws) (is.words ∙ ap (λ ws. event_words c.it.0 ++ ws) end.1 ∙ append-nil (event_words c.it.0)) })

spells_raise : (h : NamedHead) (d : ℕ) (ws rest : List (List ℕ)) → ws ≡ head_words h ++ rest → SpellsDelay d rest → SpellsRequest (Raise h d) (codes "request" ∷ ws)
spells_raise h zero ws rest words (inl e) = inl (ap (λ ws. codes "request" ∷ ws) (words ∙ ap (λ rest. head_words h ++ rest) e))
spells_raise h zero ws rest words (inr e) = inr (ap (λ ws. codes "request" ∷ ws) (words ∙ ap (λ rest. head_words h ++ rest) e.1))
spells_raise h (suc d) ws rest words (inl e) = ap (λ ws. codes "request" ∷ ws) (words ∙ ap (λ rest. head_words h ++ rest) e)
spells_raise h (suc d) ws rest words (inr e) = absurd (omega (arith, e.0))

raise_is : (ws : List (List ℕ)) (r : NamedRequest) → raise_in ws ≡ Some r → Asked (codes "request") ws r
raise_is ws r e =
    let head = came (head_at 100 ws) _ r e in
    let delay = came (delay_in head.it.1) _ r head.then in
    let h_is = head_up_to_is 100 ws head.it (omega arith) head.was in
    let d_is = delay_is head.it.1 delay.it delay.was in
    subst (Asked (codes "request") ws) (some_is delay.then)
    (record {
      fits = and_true (nat_le head.it.0.prio 100 && are_names (fluent_names head.it.0.event.fluent)) (nat_le delay.it LAST_MINUTE)
          (and_true (nat_le head.it.0.prio 100) (are_names (fluent_names head.it.0.event.fluent)) (le-leb head.it.0.prio 100 h_is.prio) h_is.names) (le-leb delay.it LAST_MINUTE d_is.0);
      spells = spells_raise head.it.0 delay.it ws head.it.1 h_is.words d_is.1;
    })

asked_by : (v : RequestVerb) (ws : List (List ℕ)) (r : NamedRequest) → request_by v ws ≡ Some r → Asked (verb_word v) ws r
asked_by verbs.Now ws r e = alone_is (codes "now") Now ws r (record { fits = refl; spells = refl }) e
asked_by verbs.Status ws r e = status_is ws r e
asked_by verbs.Event ws r e = seen_is ws r e
asked_by verbs.Request ws r e = raise_is ws r e
asked_by verbs.Open ws r e = alone_is (codes "open") OpenSession ws r (record { fits = refl; spells = refl }) e
asked_by verbs.Close ws r e = of_session_is (codes "close") (λ s. CloseSession s) ws r (λ s h. record { fits = h; spells = refl }) e
asked_by verbs.Activate ws r e = of_session_name_is (codes "activate") (λ s n. Activate s n) ws r (λ s n h. record { fits = h; spells = refl }) e
asked_by verbs.Deactivate ws r e = of_session_name_is (codes "deactivate") (λ s n. Deactivate s n) ws r (λ s n h. record { fits = h; spells = refl }) e
asked_by verbs.Active ws r e = of_session_name_is (codes "active") (λ s n. Active s n) ws r (λ s n h. record { fits = h; spells = refl }) e
asked_by verbs.Check ws r e = of_session_name_is (codes "check") (λ s n. Check s n) ws r (λ s n h. record { fits = h; spells = refl }) e

request_in_is : (w : List ℕ) (ws : List (List ℕ)) (r : NamedRequest) → request_in w ws ≡ Some r → Asked w ws r
request_in_is w ws r e =
    let c = came (verb_in w) (λ v. request_by v ws) r e in
    subst (λ w. Asked w ws r) (sym (verb_is w c.it c.was)) (asked_by c.it ws r c.then)

-- phrases

pub stands_as : (script : Bool) (r : NamedRequest) → MayStand script (Ask r)
stands_as true r = tt
stands_as false r = tt

stands_actor : (script : Bool) (u : Option (List ℕ)) → MayStand script (Be u)
stands_actor true u = tt
stands_actor false u = tt

ask_is : (script : Bool) (w : List ℕ) (ws : List (List ℕ)) (phrase : Phrase) → ask_request (request_in w ws) ≡ Some phrase → IsPhrase script (w ∷ ws) phrase
ask_is script w ws phrase e = by (request_in w ws) refl e
  where
    by : (o : Option NamedRequest) → request_in w ws ≡ o → ask_request o ≡ Some phrase → IsPhrase script (w ∷ ws) phrase
    by None is e = absurd (none_some e)
    by (Some r) is e =
        let asked = request_in_is w ws r is in
        subst (IsPhrase script (w ∷ ws)) (some_is e) (record { fits = asked.fits; stands = stands_as script r; spells = asked.spells })

user_is : (script : Bool) (u : List ℕ) (phrase : Phrase) → be_actor (named_actor u) ≡ Some phrase → IsPhrase script (codes "as" ∷ u ∷ []) phrase
user_is script u phrase e = by (name_in u) refl e
  where
    by : (o : Option (List ℕ)) → name_in u ≡ o → be_actor (◌>>=◌ {A = List ℕ} {B = Option (List ℕ)} o (λ n. Some (Some n))) ≡ Some phrase → IsPhrase script (codes "as" ∷ u ∷ []) phrase
    by None is e = absurd (none_some e)
    by (Some n) is e =
        let n_is = name_in_is u n is in
        subst (IsPhrase script (codes "as" ∷ u ∷ [])) (some_is e) (record { fits = n_is.0; stands = stands_actor script (Some n); spells = ap (λ u. codes "as" ∷ u ∷ []) n_is.1 })

actor_is : (script : Bool) (ws : List (List ℕ)) (phrase : Phrase) → be_actor (actor_in ws) ≡ Some phrase → IsPhrase script (codes "as" ∷ ws) phrase
actor_is script [] phrase e = absurd (none_some e)
actor_is script (w ∷ []) phrase e = by (bytes_eq w (codes "-")) refl e
  where
    by : (b : Bool) → bytes_eq w (codes "-") ≡ b → be_actor (cond b (Some None) (named_actor w)) ≡ Some phrase → IsPhrase script (codes "as" ∷ w ∷ []) phrase
    by true is e =
        subst (IsPhrase script (codes "as" ∷ w ∷ [])) (some_is e)
        (record { fits = tt; stands = stands_actor script None; spells = ap (λ w. codes "as" ∷ w ∷ []) ((bytes_eq-Decides w (codes "-")).0 is) })
    by false is e = user_is script w phrase e
actor_is script (w ∷ v ∷ ws) phrase e = absurd (none_some e)

minute_is : (ws : List (List ℕ)) (phrase : Phrase) → at_minute (minute_in ws) ≡ Some phrase → IsPhrase true (codes "@" ∷ ws) phrase
minute_is [] phrase e = absurd (none_some e)
minute_is (w ∷ []) phrase e = by (civil_in w) refl e
  where
    by : (o : Option ℕ) → civil_in w ≡ o → at_minute o ≡ Some phrase → IsPhrase true (codes "@" ∷ w ∷ []) phrase
    by None is e = absurd (none_some e)
    by (Some t) is e =
        let t_is = (texts_are_read w t).0 is in
        subst (IsPhrase true (codes "@" ∷ w ∷ [])) (some_is e) (record { fits = t_is.0; stands = tt; spells = ap (λ w. codes "@" ∷ w ∷ []) t_is.1 })
minute_is (w ∷ v ∷ ws) phrase e = absurd (none_some e)

phrase_by_is : (script : Bool) (w : List ℕ) (ws : List (List ℕ)) (phrase : Phrase) → phrase_by script w ws ≡ Some phrase → IsPhrase script (w ∷ ws) phrase
phrase_by_is script w ws phrase e =
    elim (taken (script && bytes_eq w (codes "@")) _ _ (Some phrase) e) [
      | inl (t, go) ↦
          (let parts = both script (bytes_eq w (codes "@")) t in
          let word : w ≡ codes "@" = (bytes_eq-Decides w (codes "@")).0 parts.1 in
          subst (λ b. IsPhrase b (w ∷ ws) phrase) (sym parts.0) (subst (λ w. IsPhrase true (w ∷ ws) phrase) (sym word) (minute_is ws phrase go)))
      | inr (f, go) ↦
          elim (taken (bytes_eq w (codes "as")) _ _ (Some phrase) go) [
            | inl (t, act) ↦ subst (λ w. IsPhrase script (w ∷ ws) phrase) (sym ((bytes_eq-Decides w (codes "as")).0 t)) (actor_is script ws phrase act)
            | inr (g, asks) ↦ ask_is script w ws phrase asks
          ]
    ]

pub phrase_is : (script : Bool) (ws : List (List ℕ)) (phrase : Phrase) → phrase_in script ws ≡ Some phrase → IsPhrase script ws phrase
phrase_is script [] phrase e = absurd (none_some e)
phrase_is script (w ∷ ws) phrase e = phrase_by_is script w ws phrase e
