-- What a command prints, and its status.
use Rattle.std.specs.Prelude.{ℕ, List}
use Rattle.policy_commands.specs.declared.ends.End.{End}

pub record EndView : Type 0 where
  pub status : ℕ
  pub text : List ℕ

abbrev pub ending : ℕ → List ℕ → EndView
ending s t = record { status = s; text = t }

abbrev pub seen_end : End → EndView
seen_end e = ending e.status e.text.items
