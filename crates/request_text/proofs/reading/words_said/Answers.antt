use Rattle.std.proofs.Common.{◌≡◌, ◌&&◌, bytes_eq, codes, ℕ, Bool, false, cond, List, Option, sym, ap, ◌∙◌}
use Rattle.request_text.specs.declared.phrases.Phrase.{Phrase}
use Rattle.request_text.specs.Phrases.{said, at_minute, minute_in, be_actor, actor_in, ask_request, request_in, phrase_by}
use Rattle.request_text.proofs.reading.words_said.Goals as goal

abbrev asks : List ℕ → List (List ℕ) → Bool → Option Phrase
asks w ws b = cond b (be_actor (actor_in ws)) (ask_request (request_in w ws))

-- a first word that is neither `@` nor `as` begins a request
request_phrase : (script : Bool) (w : List ℕ) (ws : List (List ℕ)) → (script && bytes_eq w (codes "@")) ≡ false → bytes_eq w (codes "as") ≡ false
    → phrase_by script w ws ≡ ask_request (request_in w ws)
request_phrase script w ws minute actor =
    ap (λ b. cond b (at_minute (minute_in ws)) (asks w ws (bytes_eq w (codes "as")))) minute ∙ ap (asks w ws) actor

pub returns : goal.returns
returns c =
    let other : bytes_eq c.args.word.now (codes "as") ≡ false = cc in
    c.request_said.ensures c.args.opening
    ∙ sym (ap (said c.args.p.now c.args.opening)
    (request_phrase c.args.script c.args.word.now c.args.words (sym c.if-is_at.ensures) other))
