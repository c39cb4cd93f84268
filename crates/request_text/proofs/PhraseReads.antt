-- A phrase is read from the words that spell it.
use Rattle.std.proofs.Common.{◌≡◌, inl, inr, ℕ, zero, suc, ◌≤◌, Bool, true, false, cond, ◌&&◌, List, [], ◌∷◌, ◌++◌, Option, Some, None, refl, sym, ◌∙◌, ap, arith, decimal, append-nil}
use Rattle.std.specs.Prelude.{codes, bytes_eq, nat_le}
use Rattle.std.proofs.lemmas.Slice.Eq.{bytes_eq-Decides}
use Rattle.std.proofs.lemmas.Bool.{false≢true}
use borrow.Author.Tests.{leb-true}
use Rattle.gt_base.specs.Names.{is_name, number_from}
use Rattle.gt_base.specs.declared.events.SessionId.{SessionId}
use Rattle.gt_base.specs.declared.limits.TheConstants.{LAST_MINUTE}
use Rattle.civil_time.specs.Text.{civil_text, civil_in}
use Rattle.civil_time.proofs.Texts.{texts_are_read}
use Rattle.policy_words.specs.declared.parts.NamedCond.{NamedCond}
use Rattle.policy_words.specs.declared.parts.NamedEvent.{NamedEvent}
use Rattle.policy_words.specs.declared.parts.NamedHead.{NamedHead}
use Rattle.policy_words.specs.Wording.{◌>>=◌, fluent_names, cond_words, event_words, head_words, cond_at, event_at, delay_in, delay_words}
use Rattle.policy_words.specs.Sayings.{are_names}
use Rattle.policy_lines.proofs.Truths.{both, not_true}
use Rattle.gt_text.proofs.Decimals.{number_from-decimal}
use Rattle.policy_lines.proofs.SpelledReads.{cond_reads, event_reads, head_reads_to, delay_reads}
use Rattle.policy_lines.proofs.SayingReads.{name_is}
use Rattle.request_text.specs.declared.phrases.NamedRequest.{NamedRequest}
use Rattle.request_text.specs.declared.phrases.NamedRequest.TheVariants.{Now, Status, Seen, Raise, OpenSession, CloseSession, Activate, Deactivate, Active, Check}
use Rattle.request_text.specs.declared.phrases.Phrase.{Phrase}
use Rattle.request_text.specs.declared.phrases.Phrase.TheVariants.{At, Be, Ask}
use Rattle.request_text.specs.Phrases.{request_words, session_in, session_name_in, raise_in, cond_in, event_in, request_in, ask_request, be_actor, at_minute, actor_in, named_actor, minute_in, phrase_by, phrase_in}
use Rattle.request_text.specs.Spelling.{SpellsRequest, is_session, is_request, IsPhrase}

zero_delay : delay_in (codes "after" ∷ codes "0" ∷ []) ≡ Some 0
zero_delay = refl

raise_reads : (h : NamedHead) (d : ℕ) (ws : List (List ℕ)) → h.prio ≤ 100 → are_names (fluent_names h.event.fluent) ≡ true → delay_in ws ≡ Some d → raise_in (head_words h ++ ws) ≡ Some (Raise h d)
raise_reads h d ws low names delay = rw (head_reads_to 100 h ws (omega arith) low names, delay) refl

status_reads : (c : NamedCond) → are_names (fluent_names c.fluent) ≡ true → cond_in (cond_words c) ≡ Some (Status c)
status_reads c h = let front : cond_at (cond_words c) ≡ Some (c, []) = ap cond_at (sym (append-nil (cond_words c))) ∙ cond_reads c [] h in rw front refl

seen_reads : (e : NamedEvent) → are_names (fluent_names e.fluent) ≡ true → event_in (event_words e) ≡ Some (Seen e)
seen_reads e h = let front : event_at (event_words e) ≡ Some (e, []) = ap event_at (sym (append-nil (event_words e))) ∙ event_reads e [] h in rw front refl

session_number : (s : SessionId) → is_session s ≡ true → number_from 0 4_294_967_295 (decimal s.0) ≡ Some s.0
session_number s h = number_from-decimal 0 4_294_967_295 s.0 (omega arith) (leb-true s.0 4_294_967_295 h) (omega arith)

session_reads : (s : SessionId) → is_session s ≡ true → session_in (decimal s.0 ∷ []) ≡ Some s
session_reads s h = rw (session_number s h) refl

session_name_reads : (s : SessionId) (n : List ℕ) → (is_session s && is_name n) ≡ true → session_name_in (decimal s.0 ∷ n ∷ []) ≡ Some (s, n)
session_name_reads s n h = let parts = both (is_session s) (is_name n) h in rw (session_number s parts.0, name_is n parts.1) refl

-- a first word of a request, which is neither `@` nor `as`
asks : (script : Bool) (w : List ℕ) (ws : List (List ℕ)) → bytes_eq w (codes "@") ≡ false → bytes_eq w (codes "as") ≡ false → phrase_by script w ws ≡ ask_request (request_in w ws)
asks true w ws no_at no_as =
    ap (λ b. cond b (at_minute (minute_in ws)) (cond (bytes_eq w (codes "as")) (be_actor (actor_in ws)) (ask_request (request_in w ws)))) no_at
    ∙ ap (λ b. cond b (be_actor (actor_in ws)) (ask_request (request_in w ws))) no_as
asks false w ws no_at no_as = ap (λ b. cond b (be_actor (actor_in ws)) (ask_request (request_in w ws))) no_as

raised : (h : NamedHead) (d : ℕ) (ws : List (List ℕ)) → is_request (Raise h d) ≡ true → delay_in ws ≡ Some d → request_in (codes "request") (head_words h ++ ws) ≡ Some (Raise h d)
raised h d ws is delay =
    let outer = both (nat_le h.prio 100 && are_names (fluent_names h.event.fluent)) (nat_le d LAST_MINUTE) is in
    let parts = both (nat_le h.prio 100) (are_names (fluent_names h.event.fluent)) outer.0 in
    raise_reads h d ws (leb-true h.prio 100 parts.0) parts.1 delay

short_delay : (h : NamedHead) (d : ℕ) → is_request (Raise h d) ≡ true → d ≤ LAST_MINUTE
short_delay h d is = leb-true d LAST_MINUTE (both (nat_le h.prio 100 && are_names (fluent_names h.event.fluent)) (nat_le d LAST_MINUTE) is).1

request_reads : (script : Bool) (r : NamedRequest) → is_request r ≡ true → phrase_in script (request_words r) ≡ Some (Ask r)
request_reads script Now h = asks script (codes "now") [] refl refl
request_reads script (Status c) h = asks script (codes "status") (cond_words c) refl refl ∙ ap ask_request (status_reads c h)
request_reads script (Seen e) h = asks script (codes "event") (event_words e) refl refl ∙ ap ask_request (seen_reads e h)
request_reads script (Raise h d) is = asks script (codes "request") (head_words h ++ delay_words d) refl refl ∙ ap ask_request (raised h d (delay_words d) is (delay_reads d (short_delay h d is)))
request_reads script OpenSession h = asks script (codes "open") [] refl refl
request_reads script (CloseSession s) h = asks script (codes "close") (decimal s.0 ∷ []) refl refl ∙ rw (session_reads s h) refl
request_reads script (Activate s r) h = asks script (codes "activate") (decimal s.0 ∷ r ∷ []) refl refl ∙ rw (session_name_reads s r h) refl
request_reads script (Deactivate s r) h = asks script (codes "deactivate") (decimal s.0 ∷ r ∷ []) refl refl ∙ rw (session_name_reads s r h) refl
request_reads script (Active s r) h = asks script (codes "active") (decimal s.0 ∷ r ∷ []) refl refl ∙ rw (session_name_reads s r h) refl
request_reads script (Check s q) h = asks script (codes "check") (decimal s.0 ∷ q ∷ []) refl refl ∙ rw (session_name_reads s q h) refl

spelled_request : (script : Bool) (r : NamedRequest) (ws : List (List ℕ)) → is_request r ≡ true → SpellsRequest r ws → phrase_in script ws ≡ Some (Ask r)
spelled_request script Now ws h e = ap (phrase_in script) e ∙ request_reads script Now h
spelled_request script (Status c) ws h e = ap (phrase_in script) e ∙ request_reads script (Status c) h
spelled_request script (Seen s) ws h e = ap (phrase_in script) e ∙ request_reads script (Seen s) h
spelled_request script (Raise h zero) ws is (inl e) = ap (phrase_in script) e ∙ request_reads script (Raise h 0) is
spelled_request script (Raise h zero) ws is (inr e) =
    ap (phrase_in script) e ∙ asks script (codes "request") (head_words h ++ codes "after" ∷ codes "0" ∷ []) refl refl ∙ ap ask_request (raised h 0 (codes "after" ∷ codes "0" ∷ []) is zero_delay)
spelled_request script (Raise h (suc d)) ws is e = ap (phrase_in script) e ∙ request_reads script (Raise h (suc d)) is
spelled_request script OpenSession ws h e = ap (phrase_in script) e ∙ request_reads script OpenSession h
spelled_request script (CloseSession s) ws h e = ap (phrase_in script) e ∙ request_reads script (CloseSession s) h
spelled_request script (Activate s r) ws h e = ap (phrase_in script) e ∙ request_reads script (Activate s r) h
spelled_request script (Deactivate s r) ws h e = ap (phrase_in script) e ∙ request_reads script (Deactivate s r) h
spelled_request script (Active s r) ws h e = ap (phrase_in script) e ∙ request_reads script (Active s r) h
spelled_request script (Check s q) ws h e = ap (phrase_in script) e ∙ request_reads script (Check s q) h

-- actors and minutes

acts : (script : Bool) (ws : List (List ℕ)) → phrase_by script (codes "as") ws ≡ be_actor (actor_in ws)
acts true ws = refl
acts false ws = refl

no_dash : (u : List ℕ) → is_name u ≡ true → bytes_eq u (codes "-") ≡ false
no_dash u h = not_true (bytes_eq u (codes "-")) (λ t. false≢true (sym (ap is_name ((bytes_eq-Decides u (codes "-")).0 t)) ∙ h))

user_reads : (u : List ℕ) → is_name u ≡ true → actor_in (u ∷ []) ≡ Some (Some u)
user_reads u h =
    ap (λ b. cond b (Some None) (named_actor u)) (no_dash u h)
    ∙ ap (λ (o : Option (List ℕ)). ◌>>=◌ {A = List ℕ} {B = Option (List ℕ)} o (λ n. Some (Some n))) (name_is u h)

civil_reads : (t : ℕ) → t ≤ LAST_MINUTE → civil_in (civil_text t) ≡ Some t
civil_reads t le = (texts_are_read (civil_text t) t).1 (le, refl)

pub phrase_reads : (script : Bool) (ws : List (List ℕ)) (phrase : Phrase) → IsPhrase script ws phrase → phrase_in script ws ≡ Some phrase
phrase_reads true ws (At t) is = ap (phrase_in true) is.spells ∙ ap at_minute (civil_reads t is.fits)
phrase_reads false ws (At t) is = absurd is.stands
phrase_reads script ws (Be None) is = ap (phrase_in script) is.spells ∙ acts script (codes "-" ∷ [])
phrase_reads script ws (Be (Some u)) is = ap (phrase_in script) is.spells ∙ acts script (u ∷ []) ∙ ap be_actor (user_reads u is.fits)
phrase_reads script ws (Ask r) is = spelled_request script r ws is.fits is.spells
