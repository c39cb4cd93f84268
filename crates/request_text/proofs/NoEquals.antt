-- A request's line has no `=`, and no byte below a space.
use Rattle.std.proofs.Common.{◌≡◌, ℕ, Bool, true, false, List, [], ◌∷◌, ◌++◌, decimal, refl, arith}
use Rattle.std.specs.List.{list_all}
use Rattle.gt_base.specs.declared.requests.Request.{Request}
use Rattle.gt_text.specs.Words.{spaced}
use Rattle.policy_words.specs.declared.parts.Sort.{Sort}
use Rattle.policy_words.specs.declared.parts.Sort.TheVariants.{Enabling, Assigning, Granting, Arming, Linking}
use Rattle.policy_words.specs.Wording.{event_verb, cond_verb}
use Rattle.policy_lines.specs.Plain.{is_plain}
use Rattle.policy_lines.proofs.Truths.{both}
use Rattle.policy_lines.proofs.SpacedWords.{plain_spaced, words_plain}
use Rattle.policy_words.specs.Naming.{NamedPolicy}
use Rattle.policy_words.specs.Valid.{IsWellFormed}
use Rattle.request_text.specs.declared.verbs.RequestVerb.{RequestVerb}
use Rattle.request_text.specs.declared.verbs.RequestVerb.TheVariants as verbs
use Rattle.request_text.specs.Phrases.{verb_word, request_words}
use Rattle.request_text.specs.Replies.{request_named, request_text}
use Rattle.request_text.proofs.Cuts.{lacks, lacks_name, lacks_decimal, lacks_append}
use Rattle.request_text.proofs.RequestWords.{Passes, all_words}
use Rattle.request_text.proofs.WrittenRequests.{Asks, solid_words, request_fits}

no_event : (on : Bool) (s : Sort) → lacks 61 (event_verb on s) ≡ true
no_event true Enabling = refl
no_event false Enabling = refl
no_event true Assigning = refl
no_event false Assigning = refl
no_event true Granting = refl
no_event false Granting = refl
no_event true Arming = refl
no_event false Arming = refl
no_event true Linking = refl
no_event false Linking = refl

no_cond : (on : Bool) (s : Sort) → lacks 61 (cond_verb on s) ≡ true
no_cond true Enabling = refl
no_cond false Enabling = refl
no_cond true Assigning = refl
no_cond false Assigning = refl
no_cond true Granting = refl
no_cond false Granting = refl
no_cond true Arming = refl
no_cond false Arming = refl
no_cond true Linking = refl
no_cond false Linking = refl

no_first : (v : RequestVerb) → lacks 61 (verb_word v) ≡ true
no_first verbs.Now = refl
no_first verbs.Status = refl
no_first verbs.Event = refl
no_first verbs.Request = refl
no_first verbs.Open = refl
no_first verbs.Close = refl
no_first verbs.Activate = refl
no_first verbs.Deactivate = refl
no_first verbs.Active = refl
no_first verbs.Check = refl

pass : Passes (λ w. lacks 61 w)
pass = record {
  name = λ n h. lacks_name 61 n refl h;
  number = λ n h. lacks_decimal 61 n refl (omega (arith, h));
  events = no_event;
  conds = no_cond;
  heads = λ p on s h. lacks_append 61 (decimal p) (58 ∷ event_verb on s) (lacks_decimal 61 p refl (omega (arith, h))) (no_event on s);
  firsts = no_first;
  later = refl;
}

no_spaced : (ws : List (List ℕ)) → list_all (λ w. lacks 61 w) ws ≡ true → lacks 61 (spaced ws) ≡ true
no_spaced [] h = refl
no_spaced (w ∷ []) h = (both (lacks 61 w) true h).0
no_spaced (w ∷ v ∷ vs) h =
    let parts = both (lacks 61 w) (list_all (λ w. lacks 61 w) (v ∷ vs)) h in
    lacks_append 61 (w ++ 32 ∷ []) (spaced (v ∷ vs)) (lacks_append 61 w (32 ∷ []) parts.0 refl) (no_spaced (v ∷ vs) parts.1)

module _ (np : NamedPolicy) (good : IsWellFormed np) where
  pub no_equals : (r : Request) → Asks np.policy r → lacks 61 (request_text np r) ≡ true
  no_equals r h = no_spaced (request_words (request_named np r)) (all_words (λ w. lacks 61 w) pass (request_named np r) (request_fits np good r h))

  pub plain_request : (r : Request) → Asks np.policy r → is_plain (request_text np r) ≡ true
  plain_request r h =
      let words = request_words (request_named np r) in
      plain_spaced words (words_plain words (solid_words (request_named np r) (request_fits np good r h)))
