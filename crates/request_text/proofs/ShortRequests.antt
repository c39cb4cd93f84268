-- A request's line has at most 512 bytes.
use Rattle.std.proofs.Common.{◌≡◌, ℕ, ◌*◌, ◌≤◌, Bool, true, false, List, [], ◌∷◌, ◌++◌, length, decimal, refl, arith, length-append}
use Rattle.std.specs.Prelude.{nat_le, nat_eq}
use Rattle.std.specs.List.{list_all}
use Rattle.std.proofs.lemmas.Fmt.{length-decimal-le}
use Rattle.std.proofs.lemmas.Bool.{le-leb}
use borrow.Author.Tests.{leb-true}
use Rattle.gtrbac_model.proofs.Elements.{split}
use Rattle.gt_base.specs.declared.requests.Request.{Request}
use Rattle.gt_text.specs.Words.{spaced}
use Rattle.policy_words.specs.declared.parts.NamedFluent.{NamedFluent}
use Rattle.policy_words.specs.declared.parts.NamedFluent.TheVariants.{Enabled, Assigned, Granted, Limit, Edge}
use Rattle.policy_words.specs.declared.parts.Sort.{Sort}
use Rattle.policy_words.specs.declared.parts.Sort.TheVariants.{Enabling, Assigning, Granting, Arming, Linking}
use Rattle.policy_words.specs.Wording.{event_verb, cond_verb, fluent_names, head_words, delay_words}
use Rattle.policy_lines.proofs.Truths.{both}
use Rattle.policy_words.specs.Naming.{NamedPolicy}
use Rattle.policy_words.specs.Valid.{IsWellFormed}
use Rattle.request_text.specs.declared.phrases.NamedRequest.{NamedRequest}
use Rattle.request_text.specs.declared.phrases.NamedRequest.TheVariants.{Now, Status, Seen, Raise, OpenSession, CloseSession, Activate, Deactivate, Active, Check}
use Rattle.request_text.specs.declared.verbs.RequestVerb.{RequestVerb}
use Rattle.request_text.specs.declared.verbs.RequestVerb.TheVariants as verbs
use Rattle.request_text.specs.Phrases.{verb_word, request_words}
use Rattle.request_text.specs.Replies.{request_named, request_text}
use Rattle.request_text.proofs.Lengths.{short_name}
use Rattle.request_text.proofs.RequestWords.{Passes, all_words}
use Rattle.request_text.proofs.WrittenRequests.{Asks, request_fits}

abbrev is_short : List ℕ → Bool
is_short w = nat_le (length w) 40

short : (w : List ℕ) → length w ≤ 40 → is_short w ≡ true
short w h = le-leb (length w) 40 h

event_size : (on : Bool) (s : Sort) → length (event_verb on s) ≤ 8
event_size true Enabling = omega arith
event_size false Enabling = omega arith
event_size true Assigning = omega arith
event_size false Assigning = omega arith
event_size true Granting = omega arith
event_size false Granting = omega arith
event_size true Arming = omega arith
event_size false Arming = omega arith
event_size true Linking = omega arith
event_size false Linking = omega arith

cond_size : (on : Bool) (s : Sort) → is_short (cond_verb on s) ≡ true
cond_size true Enabling = refl
cond_size false Enabling = refl
cond_size true Assigning = refl
cond_size false Assigning = refl
cond_size true Granting = refl
cond_size false Granting = refl
cond_size true Arming = refl
cond_size false Arming = refl
cond_size true Linking = refl
cond_size false Linking = refl

first_size : (v : RequestVerb) → is_short (verb_word v) ≡ true
first_size verbs.Now = refl
first_size verbs.Status = refl
first_size verbs.Event = refl
first_size verbs.Request = refl
first_size verbs.Open = refl
first_size verbs.Close = refl
first_size verbs.Activate = refl
first_size verbs.Deactivate = refl
first_size verbs.Active = refl
first_size verbs.Check = refl

pass : Passes is_short
pass = record {
  name = λ n h. short n (omega (arith, short_name n h));
  number = λ n h. short (decimal n) (omega (arith, length-decimal-le 10 n (omega arith) (omega (arith, h)) (omega (arith, h))));
  events = λ on s. short (event_verb on s) (omega (arith, event_size on s));
  conds = cond_size;
  heads = λ p on s h. short (decimal p ++ 58 ∷ event_verb on s)
      (omega (arith, length-append (decimal p) (58 ∷ event_verb on s), length-decimal-le 3 p (omega arith) (omega (arith, h)) (omega (arith, h)), event_size on s));
  firsts = first_size;
  later = refl;
}

spaced_size : (ws : List (List ℕ)) → list_all is_short ws ≡ true → length (spaced ws) ≤ 41 * length ws
spaced_size [] h = omega arith
spaced_size (w ∷ []) h = omega (arith, leb-true (length w) 40 (both (is_short w) true h).0)
spaced_size (w ∷ v ∷ vs) h =
    let parts = both (is_short w) (list_all is_short (v ∷ vs)) h in
    omega (arith, length-append (w ++ 32 ∷ []) (spaced (v ∷ vs)), length-append w (32 ∷ []), leb-true (length w) 40 parts.0, spaced_size (v ∷ vs) parts.1)

two_names : (f : NamedFluent) → length (fluent_names f) ≤ 2
two_names (Enabled r) = omega arith
two_names (Assigned u r) = omega arith
two_names (Granted q r) = omega arith
two_names (Limit l) = omega arith
two_names (Edge s j) = omega arith

two_words : (d : ℕ) → length (delay_words d) ≤ 2
two_words d = split (nat_eq d 0) (λ t. rw (t, delay_words) (omega arith)) (λ f. rw (f, delay_words) (omega arith))

six_words : (q : NamedRequest) → length (request_words q) ≤ 6
six_words Now = omega arith
six_words (Status c) = omega (arith, two_names c.fluent)
six_words (Seen e) = omega (arith, two_names e.fluent)
six_words (Raise h d) = omega (arith, length-append (head_words h) (delay_words d), two_names h.event.fluent, two_words d)
six_words OpenSession = omega arith
six_words (CloseSession s) = omega arith
six_words (Activate s r) = omega arith
six_words (Deactivate s r) = omega arith
six_words (Active s r) = omega arith
six_words (Check s q) = omega arith

pub short_request : (np : NamedPolicy) → IsWellFormed np → (r : Request) → Asks np.policy r → length (request_text np r) ≤ 512
short_request np good r h =
    let q = request_named np r in
    omega (arith, spaced_size (request_words q) (all_words is_short pass q (request_fits np good r h)), six_words q)
