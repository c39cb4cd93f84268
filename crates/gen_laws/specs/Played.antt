-- What the lines of a made script say, with numbers in place of names.
use Rattle.std.specs.Prelude.{ℕ, ◌+◌, ◌-◌, true, List, [], ◌∷◌, ◌++◌, flat_map, nat_eq, if◌then◌else◌}
use Rattle.std.specs.List.{range_with_len}
use Rattle.gt_base.specs.declared.events.Cond.{Cond}
use Rattle.gt_base.specs.declared.events.Fluent.TheVariants.{Enabled}
use Rattle.gt_base.specs.declared.requests.Actor.TheVariants.{User}
use Rattle.gt_base.specs.declared.requests.Request.{Request}
use Rattle.gt_base.specs.declared.requests.Request.TheVariants.{OpenSession, Activate, Deactivate, Check, Status}
use Rattle.policy_gen.specs.Draws.{Round, round, minute_after}
use Rattle.policy_gen.specs.Texts.{count_of}
use Rattle.policy_gen.specs.declared.scripts.TheConstants.{FIRST_MINUTE}
use Rattle.request_text.specs.declared.lines.Line.{Line}
use Rattle.request_text.specs.declared.lines.Line.TheVariants.{At, Be, Ask}
use Rattle.gen_laws.specs.Made.{role_at}

-- user i of the text, who stands at the number below
abbrev pub acting : ℕ → Line
acting i = Be (User (record { 0 = i - 1 }))

abbrev pub opening_said : ℕ → List Line
opening_said i = acting i ∷ Ask OpenSession ∷ []

abbrev pub is_enabled : ℕ → Cond
is_enabled i = record { on = true; fluent = Enabled (role_at (i - 1)) }

-- session i is that of user i
abbrev pub request_said : Round → Request
request_said r =
    if nat_eq r.choice 0 then Activate (record { 0 = r.user }) (role_at (r.user - 1))
    else if nat_eq r.choice 1 then Check (record { 0 = r.user }) (record { 0 = r.other - 1 })
    else if nat_eq r.choice 2 then Deactivate (record { 0 = r.user }) (role_at (r.user - 1))
    else Status (is_enabled r.other)

module _ (seed k : ℕ) where
  abbrev pub round_said : ℕ → List Line
  round_said n = At (minute_after seed k (n + 1)) ∷ acting (round seed k n).user
      ∷ Ask (request_said (round seed k n)) ∷ []

  -- behind the birth
  abbrev pub moves_said : ℕ → List Line
  moves_said rounds = flat_map opening_said (range_with_len 1 k)
      ++ flat_map round_said (range_with_len 0 rounds)

  abbrev pub lines_said : ℕ → List Line
  lines_said rounds = At FIRST_MINUTE ∷ moves_said rounds

-- of a seed and a size
abbrev pub script_said : ℕ → ℕ → List Line
script_said seed size = lines_said seed (count_of size) size

abbrev pub script_moves : ℕ → ℕ → List Line
script_moves seed size = moves_said seed (count_of size) size
