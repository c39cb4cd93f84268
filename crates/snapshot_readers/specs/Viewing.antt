-- What the service of a viewer's link comes to.
use Rattle.std.specs.Prelude.{◌≡◌, ℕ, ◌+◌, true, List, length}
use mathlib.Core.List.{IsPrefix}
use Rattle.gt_base.specs.declared.requests.Entry.{Entry}
use Rattle.gt_io.specs.Links.{Traffic}
use Rattle.policy_words.specs.Naming.{NamedPolicy}
use Rattle.connection_laws.specs.Desks.{GlancesCanBeTold}
use Rattle.connection_laws.specs.Lines.{Acted, denied_in, requests_in}
use Rattle.connection_laws.specs.Attending.{bytes_of, Carries, EndsBy, IsUnhindered, IsComplete}
use Rattle.snapshot_readers.specs.Glazed.{Glazed}
use Rattle.snapshot_readers.specs.declared.ends.ViewEnd.{ViewEnd}
use Rattle.snapshot_readers.specs.Viewed.{link_end, lens_of, AscendBetween, View, IsViewAnswered}

-- a glass of this policy, each reply of which can be told
abbrev pub CanShow : NamedPolicy → Glazed → Type 0
CanShow np g = (g.named ≡ np) × GlancesCanBeTold np g.birth

-- of the same board
abbrev pub SameGlassRoot : Glazed → Glazed → Type 0
SameGlassRoot a b = (b.named ≡ a.named) × (b.birth ≡ a.birth)

-- What the service of a link comes to, over the history that the glass has then seen: the bytes
-- taken and given, the acted lines, and how many of them are requests. The link was let go
pub record Views (np : NamedPolicy) (birth : ℕ) (seen seen' : List Entry) (ns : List ℕ)
    (denials calls calls' : ℕ) (a b : Traffic) (end : ViewEnd) : Type 0 where
  pub taken : List ℕ
  pub given : List ℕ
  pub acted : List Acted
  pub view : View np birth seen' taken given acted end
  pub grows : IsPrefix seen seen'
  pub lens_are : ns ≡ lens_of acted
  pub ascends : AscendBetween (length seen) ns (length seen')
  pub denied_are : denials ≡ denied_in acted
  pub calls_are : calls' ≡ calls + requests_in np acted
  pub carries : Carries (bytes_of a) (bytes_of b) taken given
  pub cause : EndsBy (λ n. ⊥) a b taken (link_end end)
  pub finished : b.finished ≡ true
  pub complete : IsUnhindered a b taken (link_end end)
      → IsComplete IsViewAnswered np taken acted (link_end end)
