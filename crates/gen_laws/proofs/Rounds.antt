-- Each line of a made script says its move over the made policy.
use Rattle.std.proofs.Common.{◌≡◌, ℕ, ◌+◌, ◌-◌, ◌≤◌, ◌<◌, Bool, true, false, nat_eq, List, [], ◌∷◌, length, Some, refl, sym, ap, ◌∙◌, append_assoc, arith, codes, decimal, length-append}
use Rattle.std.specs.Prelude.{if◌then◌else◌}
use Rattle.std.proofs.lemmas.Bool.{lt-ltb, le-leb}
use Rattle.std.proofs.lemmas.Fmt.{length-decimal-le}
use Rattle.gt_base.specs.Names.{is_name}
use Rattle.gt_base.specs.declared.requests.Request.TheVariants as requests
use Rattle.gt_base.specs.declared.limits.TheConstants.{LAST_MINUTE}
use Rattle.gtrbac_model.proofs.Elements.{and_true}
use Rattle.civil_time.specs.Text.{civil_text}
use Rattle.policy_words.specs.declared.parts.NamedFluent.TheVariants as fluents
use Rattle.policy_words.specs.Naming.{Names, NamedPolicy, role_of, user_of, perm_of}
use Rattle.policy_words.specs.Valid.{IsWellFormed}
use Rattle.policy_lines.proofs.SolidWords.{word_name, word_decimal, word_civil, behind}
use Rattle.policy_book.proofs.Back.{role_back, user_back, perm_back}
use Rattle.policy_gen.specs.Draws.{Round}
use Rattle.policy_gen.specs.Texts.{one, two, request_line, time_line}
use Rattle.request_text.specs.declared.lines.Line.TheVariants as lines
use Rattle.request_text.specs.declared.phrases.NamedRequest.TheVariants.{OpenSession, Activate, Deactivate, Check, Status}
use Rattle.request_text.specs.declared.phrases.Phrase.TheVariants.{At, Be, Ask}
use Rattle.request_text.specs.Spelling.{is_session}
use Rattle.gen_laws.specs.Made.{role_at, role_named, user_named, perm_named, names_of_made, made_of}
use Rattle.gen_laws.specs.Played.{acting, is_enabled, request_said}
use Rattle.gen_laws.proofs.Heard.{Hears, hears_line}
use Rattle.gen_laws.proofs.Names.{named_name, role_name_of, user_name_of, perm_name_of}
use Rattle.gen_laws.proofs.WellFormed.{is_well_formed}

digits : (i : ℕ) → i < 1_000 → length (decimal i) ≤ 3
digits i lt = length-decimal-le 3 i (omega arith) lt (omega arith)

one_short : (piece : List ℕ) (i : ℕ) → i < 1_000 → length (one piece i) ≤ length piece + 3
one_short piece i lt = omega (arith, length-append piece (decimal i), digits i lt)

two_short : (first second : List ℕ) (i j : ℕ) → i < 1_000 → j < 1_000 → length first + length second ≤ 500 → length (two first i second j) ≤ 512
two_short first second i j lt_i lt_j short = omega (arith, length-append (one first i) (one second j), one_short first i lt_i, one_short second j lt_j, short)

module _ (k : ℕ) (low : 1 ≤ k) (few : k ≤ 200) where
  abbrev np : NamedPolicy
  np = made_of k

  abbrev ns : Names
  ns = names_of_made k

  good : IsWellFormed np
  good = is_well_formed k low few

  pub hears_minute : (t : ℕ) → t ≤ LAST_MINUTE → Hears np (time_line t) (lines.At t)
  hears_minute t le =
      hears_line np (codes "@" ∷ civil_text t ∷ []) (time_line t) (At t) (lines.At t) refl (behind (codes "@") (civil_text t ∷ []) refl (behind (civil_text t) [] (word_civil t) refl)) refl (omega arith)
      (record { fits = le; stands = tt; spells = refl }) refl

  pub hears_open : Hears np (codes "open") (lines.Ask requests.OpenSession)
  hears_open = hears_line np (codes "open" ∷ []) (codes "open") (Ask OpenSession) (lines.Ask requests.OpenSession) refl refl refl (omega arith) (record { fits = refl; stands = tt; spells = refl }) refl

  module _ (i : ℕ) (from : 1 ≤ i) (to : i ≤ k) where
    below : i - 1 < k
    below = omega (arith, from, to)

    named_again : i - 1 + 1 ≡ i
    named_again = omega (arith, from)

    role_found : role_of ns (role_named i) ≡ Some (role_at (i - 1))
    role_found = ap (role_of ns) (sym (role_name_of k (i - 1) below ∙ ap role_named named_again)) ∙ role_back np good (role_at (i - 1)) (lt-ltb (i - 1) k below)

    user_found : user_of ns (user_named i) ≡ Some (record { 0 = i - 1 })
    user_found = ap (user_of ns) (sym (user_name_of k (i - 1) below ∙ ap user_named named_again)) ∙ user_back np good (record { 0 = i - 1 }) (lt-ltb (i - 1) k below)

    perm_found : perm_of ns (perm_named i) ≡ Some (record { 0 = i - 1 })
    perm_found = ap (perm_of ns) (sym (perm_name_of k (i - 1) below ∙ ap perm_named named_again)) ∙ perm_back np good (record { 0 = i - 1 }) (lt-ltb (i - 1) k below)

    role_good : is_name (role_named i) ≡ true
    role_good = named_name 114 refl i (omega (arith, to, few))

    user_good : is_name (user_named i) ≡ true
    user_good = named_name 117 refl i (omega (arith, to, few))

    perm_good : is_name (perm_named i) ≡ true
    perm_good = named_name 112 refl i (omega (arith, to, few))

    session_good : is_session (record { 0 = i }) ≡ true
    session_good = le-leb i 4_294_967_295 (omega (arith, to, few))

    pub hears_actor : Hears np (one (codes "as u") i) (acting i)
    hears_actor =
        hears_line np (codes "as" ∷ user_named i ∷ []) (one (codes "as u") i) (Be (Some (user_named i))) (acting i) refl
        (behind (codes "as") (user_named i ∷ []) refl (behind (user_named i) [] (word_name (user_named i) user_good) refl)) refl
        (omega (arith, one_short (codes "as u") i (omega (arith, to, few))))
        (record { fits = user_good; stands = tt; spells = refl })
        (rw user_found refl)

    pub hears_status : Hears np (one (codes "status enabled r") i) (lines.Ask (requests.Status (is_enabled i)))
    hears_status =
        hears_line np (codes "status" ∷ codes "enabled" ∷ role_named i ∷ []) (one (codes "status enabled r") i) (Ask (Status (record { on = true; fluent = fluents.Enabled (role_named i) })))
        (lines.Ask (requests.Status (is_enabled i))) refl
        (behind (codes "status") (codes "enabled" ∷ role_named i ∷ []) refl (behind (codes "enabled") (role_named i ∷ []) refl (behind (role_named i) [] (word_name (role_named i) role_good) refl))) refl
        (omega (arith, one_short (codes "status enabled r") i (omega (arith, to, few))))
        (record { fits = and_true _ true role_good refl; stands = tt; spells = refl })
        (rw role_found refl)

    pub hears_activate : Hears np (two (codes "activate ") i (codes " r") i) (lines.Ask (requests.Activate (record { 0 = i }) (role_at (i - 1))))
    hears_activate =
        hears_line np (codes "activate" ∷ decimal i ∷ role_named i ∷ []) (two (codes "activate ") i (codes " r") i) (Ask (Activate (record { 0 = i }) (role_named i)))
        (lines.Ask (requests.Activate (record { 0 = i }) (role_at (i - 1)))) (append_assoc (one (codes "activate ") i) (32 ∷ []) (role_named i))
        (behind (codes "activate") (decimal i ∷ role_named i ∷ []) refl
        (behind (decimal i) (role_named i ∷ []) (word_decimal i (omega (arith, to, few))) (behind (role_named i) [] (word_name (role_named i) role_good) refl))) refl
        (two_short (codes "activate ") (codes " r") i i (omega (arith, to, few)) (omega (arith, to, few)) (omega arith))
        (record { fits = and_true _ _ session_good role_good; stands = tt; spells = refl })
        (rw role_found refl)

    pub hears_deactivate : Hears np (two (codes "deactivate ") i (codes " r") i) (lines.Ask (requests.Deactivate (record { 0 = i }) (role_at (i - 1))))
    hears_deactivate =
        hears_line np (codes "deactivate" ∷ decimal i ∷ role_named i ∷ []) (two (codes "deactivate ") i (codes " r") i) (Ask (Deactivate (record { 0 = i }) (role_named i)))
        (lines.Ask (requests.Deactivate (record { 0 = i }) (role_at (i - 1)))) (append_assoc (one (codes "deactivate ") i) (32 ∷ []) (role_named i))
        (behind (codes "deactivate") (decimal i ∷ role_named i ∷ []) refl
        (behind (decimal i) (role_named i ∷ []) (word_decimal i (omega (arith, to, few))) (behind (role_named i) [] (word_name (role_named i) role_good) refl))) refl
        (two_short (codes "deactivate ") (codes " r") i i (omega (arith, to, few)) (omega (arith, to, few)) (omega arith))
        (record { fits = and_true _ _ session_good role_good; stands = tt; spells = refl })
        (rw role_found refl)

  pub hears_check : (i j : ℕ) → 1 ≤ i → i ≤ k → 1 ≤ j → j ≤ k → Hears np (two (codes "check ") i (codes " p") j) (lines.Ask (requests.Check (record { 0 = i }) (record { 0 = j - 1 })))
  hears_check i j from to from_j to_j =
      hears_line np (codes "check" ∷ decimal i ∷ perm_named j ∷ []) (two (codes "check ") i (codes " p") j) (Ask (Check (record { 0 = i }) (perm_named j)))
      (lines.Ask (requests.Check (record { 0 = i }) (record { 0 = j - 1 }))) (append_assoc (one (codes "check ") i) (32 ∷ []) (perm_named j))
      (behind (codes "check") (decimal i ∷ perm_named j ∷ []) refl
      (behind (decimal i) (perm_named j ∷ []) (word_decimal i (omega (arith, to, few))) (behind (perm_named j) [] (word_name (perm_named j) (perm_good j from_j to_j)) refl))) refl
      (two_short (codes "check ") (codes " p") i j (omega (arith, to, few)) (omega (arith, to_j, few)) (omega arith))
      (record { fits = and_true _ _ (session_good i from to) (perm_good j from_j to_j); stands = tt; spells = refl })
      (rw (perm_found j from_j to_j) refl)

  -- what a round asks
  pub hears_request : (r : Round) → 1 ≤ r.user → r.user ≤ k → 1 ≤ r.other → r.other ≤ k → Hears np (request_line r) (lines.Ask (request_said r))
  hears_request r from to from_j to_j = by (nat_eq r.choice 0) (nat_eq r.choice 1) (nat_eq r.choice 2)
    where
      by : (a b c : Bool)
          → Hears np
          (if a then two (codes "activate ") r.user (codes " r") r.user else if b then two (codes "check ") r.user (codes " p") r.other
          else if c then two (codes "deactivate ") r.user (codes " r") r.user else one (codes "status enabled r") r.other)
          (lines.Ask (if a then requests.Activate (record { 0 = r.user }) (role_at (r.user - 1)) else if b then requests.Check (record { 0 = r.user }) (record { 0 = r.other - 1 })
          else if c then requests.Deactivate (record { 0 = r.user }) (role_at (r.user - 1)) else requests.Status (is_enabled r.other)))
      by true b c = hears_activate r.user from to
      by false true c = hears_check r.user r.other from to from_j to_j
      by false false true = hears_deactivate r.user from to
      by false false false = hears_status r.other from_j to_j
