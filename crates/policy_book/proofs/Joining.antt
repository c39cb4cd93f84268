-- From the names, the faults and the draft of all lines to what they build.
use Rattle.std.proofs.Common.{◌≡◌, ℕ, Bool, List, [], Option, Some, None, Ok, Err, sym, subst, ap, ◌∙◌}
use Rattle.std.specs.Prelude.{option_map}
use Rattle.std.proofs.lemmas.List.Sums.{AllPass-from_list_all}
use Rattle.gt_base.specs.declared.events.UserId.{UserId}
use Rattle.gt_base.specs.declared.policies.HierEdge.{HierEdge}
use Rattle.gt_base.specs.Happening.{Fluents}
use Rattle.gtrbac_model.specs.EdgeCycles.{edge_cycle}
use Rattle.policy_words.specs.Reading.{Numbered}
use Rattle.policy_words.specs.Sayings.{SaidView, is_saying}
use Rattle.policy_words.specs.Naming.{Names, NamedPolicy}
use Rattle.policy_words.specs.Making.{DraftView, names_of, fresh, drafted, are_second, named_policy, policy_of}
use Rattle.policy_words.specs.LinesTogether.{LinesFault, unknown, twice, many, cycle, edges_at, said_in, first_fault, without_cycle, without_fault, build}
use Rattle.policy_words.specs.Valid.{IsWellFormed}
use Rattle.policy_book.specs.Laws.{BuildIsWellFormed}
use Rattle.policy_book.specs.declared.faults.BookFault.{BookFault}
use Rattle.policy_book.specs.declared.faults.BookFault.TheVariants.{Unknown, Twice, TooMany, HierarchyCycle, Memory}
use Rattle.policy_book.specs.Said.{AreParts}
use Rattle.policy_book.specs.Faults.{IsFault, IsLineFault, seniors}
use Rattle.policy_book.specs.Drafts.{made_policy}
use Rattle.policy_book.specs.Cycles.{IsCycleFault}

module _ (ss : List (Numbered SaidView)) where
  abbrev all_names : Names
  all_names = names_of (said_in ss)

  -- the draft is of all lines
  abbrev pub IsWhole : Names → DraftView → Type 0
  IsWhole ns d = d ≡ drafted ns (fresh ns) (said_in ss)

  -- they have version 2, or else 1
  abbrev second : Bool
  second = are_second (said_in ss)

  whole_policy : (ns : Names) (d : DraftView) → ns ≡ all_names → IsWhole ns d → made_policy ns second d ≡ named_policy (said_in ss)
  whole_policy ns d named whole = ap (made_policy ns second) whole ∙ ap (λ ms. made_policy ms second (drafted ms (fresh ms) (said_in ss))) named

  has_no_fault : (ns : Names) → ns ≡ all_names → first_fault ns [] ss ≡ None → build ss ≡ without_cycle (named_policy (said_in ss)) (edge_cycle (named_policy (said_in ss)).policy.edges)
  has_no_fault ns named none =
      ap (λ o. without_fault o (named_policy (said_in ss))) (ap (λ ms. first_fault ms [] ss) (sym named) ∙ none)

  pub built : (ns : Names) (d : DraftView) → ns ≡ all_names → first_fault ns [] ss ≡ None → IsWhole ns d → edge_cycle d.edges ≡ None → build ss ≡ Ok (made_policy ns (are_second (said_in ss)) d)
  built ns d named none whole open_ended =
      let same = whole_policy ns d named whole in
      has_no_fault ns named none
      ∙ ap (λ np. without_cycle np (edge_cycle np.policy.edges)) (sym same)
      ∙ ap (without_cycle (made_policy ns second d)) open_ended

  of_fault : (ns : Names) (t : LinesFault) → ns ≡ all_names → first_fault ns [] ss ≡ Some t → build ss ≡ Err t
  of_fault ns t named some = ap (λ o. without_fault o (named_policy (said_in ss))) (ap (λ ms. first_fault ms [] ss) (sym named) ∙ some)

  pub line_fault : (ns : Names) (f : BookFault) → ns ≡ all_names → IsLineFault (first_fault ns [] ss) f → IsFault ss f
  line_fault ns (Unknown n) named is = of_fault ns (unknown n) named is
  line_fault ns (Twice n) named is = of_fault ns (twice n) named is
  line_fault ns (TooMany n k) named is = of_fault ns (many n k) named is
  line_fault ns (HierarchyCycle es names) named is = absurd is
  line_fault ns Memory named is = tt

  of_cycle : (np : NamedPolicy) (o : Option (List ℕ)) (es : List HierEdge) → option_map (edges_at np.policy.edges) o ≡ Some es → without_cycle np o ≡ Err (cycle es)
  of_cycle np None es e = cc
  of_cycle np (Some ns) es e = let same : edges_at np.policy.edges ns ≡ es = cc in ap (λ x. Err (cycle x)) same

  pub cycle_fault : (ns : Names) (d : DraftView) (f : BookFault) → ns ≡ all_names → first_fault ns [] ss ≡ None → IsWhole ns d → IsCycleFault ns d.edges f → IsFault ss f
  cycle_fault ns d (HierarchyCycle es names) named none whole is = (
    has_no_fault ns named none
        ∙ ap (λ np. without_cycle np (edge_cycle np.policy.edges)) (sym (whole_policy ns d named whole))
        ∙ of_cycle (made_policy ns second d) (edge_cycle d.edges) es.items is.0,
    subst (λ ms. names.items ≡ seniors ms es.items) named is.1,
  )
  cycle_fault ns d Memory named none whole is = tt
  cycle_fault ns d (Unknown n) named none whole is = absurd is
  cycle_fault ns d (Twice n) named none whole is = absurd is
  cycle_fault ns d (TooMany n k) named none whole is = absurd is

pub is_well_formed : BuildIsWellFormed → (ss : List (Numbered SaidView)) (np : NamedPolicy) → AreParts ss → build ss ≡ Ok np → IsWellFormed np
is_well_formed law ss np parts is = law ss np (AllPass-from_list_all (λ s. is_saying s.it) ss parts.said) is

-- the parts of a policy that are kept apart from the draft's
pub same_policy : (ns : Names) (second : Bool) (d : DraftView) (as' : List UserId) (on : Fluents) → as' ≡ (policy_of ns second d).admins → on ≡ (policy_of ns second d).opening
    → ◌≡◌ {A = NamedPolicy} (record { names = ns; policy = record (policy_of ns second d) { admins = as'; opening = on } }) (made_policy ns second d)
same_policy ns second d as' on p q = λ i. record { names = ns; policy = record (policy_of ns second d) { admins = p i; opening = q i } }
