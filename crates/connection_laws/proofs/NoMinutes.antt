-- A line of a connection never says a minute: `@` stands in scripts alone.
use Rattle.std.proofs.Common.{◌≡◌, ℕ, true, false, List, [], ◌∷◌, Option, Some, None, Result, Ok, Err, subst, if◌then◌else◌}
use Rattle.std.specs.Prelude.{codes, bytes_eq}
use Rattle.gt_base.specs.declared.requests.Actor.TheVariants.{Nobody}
use Rattle.gt_text.specs.Lines.{is_longer}
use Rattle.gt_text.specs.Words.{words_of, are_silent}
use Rattle.policy_words.specs.Naming.{NamedPolicy}
use Rattle.policy_words.specs.Wording.{◌>>=◌}
use Rattle.request_text.specs.declared.lines.Line.{Line}
use Rattle.request_text.specs.declared.lines.Line.TheVariants.{Silent, At, Be, Ask}
use Rattle.request_text.specs.declared.lines.LineFault.{LineFault}
use Rattle.request_text.specs.declared.lines.LineFault.TheVariants.{Long}
use Rattle.request_text.specs.declared.phrases.NamedRequest.{NamedRequest}
use Rattle.request_text.specs.Phrases.{actor_in, request_in, be_actor, ask_request, phrase_in, request_of, actor_of, meant, said, read_line}

abbrev HasNoMinute : Result Line LineFault → Type 0
HasNoMinute (Ok (At t)) = ⊥
HasNoMinute _ = Unit {0}

module _ (np : NamedPolicy) where
  of_some : {A : Type 0} (line : A → Line) → ((a : A) → HasNoMinute (Ok (line a))) → (o : Option A) → HasNoMinute (meant np (o >>= (λ a. Some (line a))))
  of_some {A} line fine None = tt
  of_some {A} line fine (Some a) = fine a

  of_be : (o : Option (Option (List ℕ))) → HasNoMinute (said np Nobody (be_actor o))
  of_be None = tt
  of_be (Some user) = of_some Be (λ a. tt) (actor_of np Nobody user)

  of_ask : (o : Option NamedRequest) → HasNoMinute (said np Nobody (ask_request o))
  of_ask None = tt
  of_ask (Some request) = of_some Ask (λ q. tt) (request_of np request)

  of_words : (ws : List (List ℕ)) → HasNoMinute (said np Nobody (phrase_in false ws))
  of_words [] = tt
  of_words (w ∷ ws) =
      elim (bytes_eq w (codes "as")) as (λ b. HasNoMinute (said np Nobody (if b then be_actor (actor_in ws) else ask_request (request_in w ws)))) [
        | true ↦ of_be (actor_in ws)
        | false ↦ of_ask (request_in w ws)
      ]

  of_line : (line : List ℕ) → HasNoMinute (read_line np Nobody false line)
  of_line line =
      elim (is_longer 512 line) as (λ b. HasNoMinute (if b then Err Long else if are_silent (words_of line) then Ok Silent else said np Nobody (phrase_in false (words_of line)))) [
        | true ↦ tt
        | false ↦ elim (are_silent (words_of line)) as (λ b. HasNoMinute (if b then Ok Silent else said np Nobody (phrase_in false (words_of line)))) [
          | true ↦ tt
          | false ↦ of_words (words_of line)
        ]
      ]

  pub no_minute : (line : List ℕ) (said : Result Line LineFault) → read_line np Nobody false line ≡ said → HasNoMinute said
  no_minute line said is = subst HasNoMinute is (of_line line)
