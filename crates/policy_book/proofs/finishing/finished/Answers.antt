use Rattle.std.proofs.Common.{◌≡◌, ◌≤◌, ◌&&◌, ℕ, true, arith, Bool, List, ◌++◌, length, ap, sym, subst, ◌∙◌}
use Rattle.std.specs.Prelude.{filter, nat_le}
use Rattle.std.proofs.lemmas.Bool.{leb-true}
use Rattle.gtrbac_model.proofs.Elements.{both_true}
use Rattle.gt_base.specs.Sets.{set_of}
use Rattle.gt_base.specs.Happening.{Fluents}
use Rattle.gt_base.specs.declared.events.UserId.{UserId}
use Rattle.gt_base.specs.declared.policies.HierEdge.{HierEdge}
use Rattle.gt_base.specs.declared.events.Fluent.{Fluent}
use Rattle.gtrbac_model.specs.Same.{lists, same_user}
use Rattle.policy_words.specs.Naming.{Names}
use Rattle.policy_words.specs.Making.{DraftView, users_from, linked_at_first}
use Rattle.policy_words.specs.Valid.{IsWellFormed}
use Rattle.policy_book.specs.Seen.{seen_names}
use Rattle.policy_book.specs.Drafts.{seen_draft, policy_with, made_policy}
use Rattle.policy_book.proofs.finishing.finished.Goals as goal
use Rattle.policy_book.proofs.finishing.finished.Goals.{In_ok-opening}

-- the policy with what a finished draft gives
finished_is : (ns : Names) (second : Bool) (d : DraftView) (admins : List UserId) (opening : Fluents) → admins ≡ filter (lists same_user d.admins) (users_from 0 (length ns.users))
    → opening ≡ set_of (linked_at_first second d.edges ++ d.on_at_first) → policy_with ns d admins opening ≡ made_policy ns second d
finished_is ns second d admins opening a o =
    λ i. record {
      names = ns;
      policy = record {
        roles = length ns.roles;
        users = length ns.users;
        perms = length ns.perms;
        periods = d.periods;
        limits = d.limits;
        edges = d.edges;
        caps = d.caps;
        admins = a i;
        opening = o i;
        entries = d.entries;
        triggers = d.triggers;
      };
    }

whole : (c : In_ok-opening) → policy_with (seen_names c.args.names) (seen_draft c.args.draft) c.in_ok-admins.admins.items c.in_ok-opening.opening.set ≡ made_policy (seen_names c.args.names) c.args.second (seen_draft c.args.draft)
whole c =
    let d = c.args.draft in
    finished_is (seen_names c.args.names) c.args.second (seen_draft d) c.in_ok-admins.admins.items c.in_ok-opening.opening.set
    (c.in_ok-admins.ensures ∙ ap (λ n. filter (lists same_user d.admins.keys) (users_from 0 n)) c.len.ensures)
    (c.in_ok-opening.ensures ∙ ap (λ (es : List Fluent). set_of (es ++ d.on_at_first.keys)) (c.linked_count-linked.ensures ∙ ap (λ (es : List HierEdge). linked_at_first c.args.second es) c.deref.ensures.value))

pub with-requires : goal.with-requires
with-requires c = subst IsWellFormed (sym (whole c)) c.requires

pub returns : goal.returns
returns c = c.with.ensures ∙ whole (goal.at.returns c).In_ok-opening

few : (n : ℕ) (a b : Bool) → (nat_le n 4_000 && a && b) ≡ true → n ≤ 4_294_967_295
few n a b e =
    let le = leb-true n 4_000 (both_true _ _ (both_true _ _ e).0).0 in
    omega (arith, le)

pub linked_count-linked-requires : goal.linked_count-linked-requires
linked_count-linked-requires c =
    subst (λ (es : List HierEdge). length es ≤ 4_294_967_295) (sym c.deref.ensures.value) (few _ _ _ c.requires.policy.edges)
