-- What a call of the program prints, and its status.
use Rattle.std.specs.Prelude.{ℕ, List, ◌++◌, codes, decimal}
use Rattle.policy_commands.specs.Ends.{EndView, ending}

-- with this text before it
abbrev pub behind : List ℕ → EndView → EndView
behind front t = record { status = t.status; text = front ++ t.text }

abbrev pub script_line : ℕ → List ℕ → List ℕ
script_line n what = codes "script " ++ decimal n ++ codes ": " ++ what ++ codes "\n"

-- a line that is no script line
abbrev pub script_fault : ℕ → List ℕ → EndView
script_fault n what = ending 7 (script_line n what)

-- a step was asked for with a full history
abbrev pub steps_full : ℕ → EndView
steps_full n = ending 9 (script_line n (codes "steps full"))

abbrev pub usage : EndView
usage = ending 1
    (codes "usage: gtrbac check POLICY | fmt POLICY | run POLICY | gen SEED SIZE | forecast POLICY DAYS COND | why POLICY EVENT\n")

-- a question with a name that the policy does not declare, or with two roles that no edge joins
abbrev pub unknown_name : EndView
unknown_name = ending 13 (codes "unknown name\n")

-- a question behind a script in which no line says anything
abbrev pub no_birth : EndView
no_birth = ending 0 (codes "no birth\n")
