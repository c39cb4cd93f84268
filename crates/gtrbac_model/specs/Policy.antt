-- A policy: what it declares, its rules and its opening status.
use Rattle.std.specs.Prelude.{ℕ, List, refl}
use Rattle.std.specs.Coded.{Coded, code_by, coded×, coded_ℕ, coded_list}
use Rattle.gt_base.specs.Held.{TriggerView}
use Rattle.gt_base.specs.Happening.{Fluents, fluents_code}
use Rattle.gt_base.specs.declared.events.UserId.{UserId}
use Rattle.gt_base.specs.declared.policies.PeriodicEntry.{PeriodicEntry}
use Rattle.gt_base.specs.declared.policies.LimitRule.{LimitRule}
use Rattle.gt_base.specs.declared.policies.HierEdge.{HierEdge}
use Rattle.gt_base.specs.declared.policies.Caps.{Caps}
use Rattle.gt_base.specs.contracts.events.UserId as user
use Rattle.gt_base.specs.contracts.policies.PeriodicEntry as entry
use Rattle.gt_base.specs.contracts.policies.LimitRule as limit
use Rattle.gt_base.specs.contracts.policies.HierEdge as edge
use Rattle.gt_base.specs.contracts.policies.Caps as caps
use Rattle.gt_base.specs.contracts.policies.Trigger as trigger
use Rattle.gtrbac_model.specs.Period.{Period, period_code}

-- numbers of a kind count from 0; a cap record stands at its role's number
pub record Policy : Type 0 where
  pub roles : ℕ
  pub users : ℕ
  pub perms : ℕ
  pub periods : List Period
  pub limits : List LimitRule
  pub edges : List HierEdge
  pub caps : List Caps
  pub admins : List UserId
  pub opening : Fluents
  pub entries : List PeriodicEntry
  pub triggers : List TriggerView

-- a policy is stored as nested pairs of its parts
abbrev Parts : Type 0
Parts = ℕ × (ℕ × (ℕ × (List Period × (List LimitRule
    × (List HierEdge × (List Caps × (List UserId × (Fluents
    × (List PeriodicEntry × List TriggerView)))))))))

abbrev parts_code : Coded Parts
parts_code =
    coded× coded_ℕ (coded× coded_ℕ (coded× coded_ℕ (coded× (coded_list period_code)
    (coded× (coded_list limit.the_row.coded) (coded× (coded_list edge.the_row.coded)
    (coded× (coded_list caps.the_row.coded)
    (coded× (coded_list user.the_row.coded)
    (coded× fluents_code (coded× (coded_list entry.the_row.coded)
    (coded_list trigger.the_row.coded))))))))))

abbrev pub policy_code : Coded Policy
policy_code =
    code_by Parts parts_code
    (λ p. (
      p.roles,
      (
        p.users,
        (
          p.perms,
          (
            p.periods,
            (p.limits, (p.edges, (p.caps, (p.admins, (p.opening, (p.entries, p.triggers)))))),
          ),
        ),
      ),
    ))
    (λ (r, (u, (q, (ps, (ls, (es, (cs, (as', (o, (ns, ts)))))))))).
    record {
      roles = r;
      users = u;
      perms = q;
      periods = ps;
      limits = ls;
      edges = es;
      caps = cs;
      admins = as';
      opening = o;
      entries = ns;
      triggers = ts;
    })
    (λ _. refl)
