-- A fact that each refusal has stays true behind causes of refusals.
use Rattle.std.proofs.Common.{Bool, true, false, List, [], ◌∷◌, if◌then◌else◌}
use Rattle.gt_base.specs.declared.requests.Refusal.{Refusal}
use Rattle.gt_base.specs.declared.requests.Reply.{Reply}
use Rattle.gt_base.specs.declared.requests.Reply.TheVariants.{Refused}
use Rattle.gtrbac_model.specs.Reply.{unless}

pub unless_keeps : (P : Reply → Type 0) → ((f : Refusal) → P (Refused f)) → (cs : List (Bool × Refusal)) (r : Reply) → P r → P (unless cs r)
unless_keeps P refused [] r h = h
unless_keeps P refused (c ∷ cs) r h = by c.0 (unless_keeps P refused cs r h)
  where
    by : (b : Bool) → P (unless cs r) → P (if b then Refused c.1 else unless cs r)
    by true more = refused c.1
    by false more = more
