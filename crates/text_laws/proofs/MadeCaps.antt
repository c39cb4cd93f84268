-- The caps of a policy are the last ones that its lines say.
use Rattle.std.proofs.Common.{◌≡◌, ◌≢◌, ℕ, zero, suc, ◌<◌, Bool, true, false, ◌&&◌, List, [], ◌∷◌, map, length, Option, Some, None, refl, sym, ap, ◌∙◌, arith, eq-eqb, ne_eqb}
use Rattle.std.specs.Prelude.{if◌then◌else◌}
use Rattle.std.specs.List.{filter_map, cons_option}
use Rattle.std.proofs.lemmas.List.{length-map}
use mathlib.Core.Logic.{dite}
use native.Mathlib.Decide.{ℕ_discrete}
use Rattle.gt_base.specs.declared.events.RoleId.{RoleId}
use Rattle.gt_base.specs.declared.policies.Caps.{Caps}
use Rattle.gtrbac_model.specs.Graph.{item_at}
use Rattle.policy_words.specs.declared.sayings.CapKind.{CapKind}
use Rattle.policy_words.specs.declared.sayings.CapKind.TheVariants.{Total, User, Length, Day}
use Rattle.policy_words.specs.CapKinds.{same_cap_kind, no_caps, cap_of, with_cap}
use Rattle.policy_words.specs.Sayings.{SaidView, cap}
use Rattle.policy_words.specs.Naming.{Names, role_of}
use Rattle.policy_words.specs.Making.{DraftView, adding, drafted, fresh, changed_at, capped, with_caps_said}
use Rattle.policy_book.proofs.Capping.{caps_length}
use Rattle.text_laws.specs.Made.{is_role, cap_said, last_or}

changed_here : {A : Type 0} (f : A → A) (k : ℕ) (xs : List A) (x : A) → item_at xs k ≡ Some x → item_at (changed_at f k xs) k ≡ Some (f x)
changed_here f k [] x e = cc
changed_here f zero (y ∷ ys) x e = let is : y ≡ x = cc in ap (λ z. Some (f z)) is
changed_here f (suc k) (y ∷ ys) x e = changed_here f k ys x e

changed_away : {A : Type 0} (f : A → A) (k i : ℕ) (xs : List A) → i ≢ k → item_at (changed_at f k xs) i ≡ item_at xs i
changed_away f k i [] away = refl
changed_away f zero zero (y ∷ ys) away = absurd (away refl)
changed_away f zero (suc i) (y ∷ ys) away = refl
changed_away f (suc k) zero (y ∷ ys) away = refl
changed_away f (suc k) (suc i) (y ∷ ys) away = changed_away f k i ys (λ same. away (ap suc same))

item_within : {A : Type 0} (xs : List A) (i : ℕ) (x : A) → item_at xs i ≡ Some x → i < length xs
item_within [] i x e = cc
item_within (y ∷ ys) zero x e = omega arith
item_within (y ∷ ys) (suc i) x e = let low = item_within ys i x e in omega (arith, low)

blank_at : (names : List (List ℕ)) (i : ℕ) → i < length names → item_at (map (λ _. no_caps) names) i ≡ Some no_caps
blank_at [] i low = absurd (omega (arith, low))
blank_at (n ∷ names) zero low = refl
blank_at (n ∷ names) (suc i) low = blank_at names i (omega (arith, low))

cap_with : (kind k : CapKind) (n : ℕ) (c : Caps) → cap_of kind (with_cap k n c) ≡ (if same_cap_kind kind k then Some n else cap_of kind c)
cap_with Total Total n c = refl
cap_with Total User n c = refl
cap_with Total Length n c = refl
cap_with Total Day n c = refl
cap_with User Total n c = refl
cap_with User User n c = refl
cap_with User Length n c = refl
cap_with User Day n c = refl
cap_with Length Total n c = refl
cap_with Length User n c = refl
cap_with Length Length n c = refl
cap_with Length Day n c = refl
cap_with Day Total n c = refl
cap_with Day User n c = refl
cap_with Day Length n c = refl
cap_with Day Day n c = refl

none_at_first : (kind : CapKind) → cap_of kind no_caps ≡ None
none_at_first Total = refl
none_at_first User = refl
none_at_first Length = refl
none_at_first Day = refl

-- what a line says in place of what was said before
abbrev newest : Option ℕ → Option ℕ → Option ℕ
newest None o = o
newest (Some n) o = Some n

newest_last : (m o : Option ℕ) (ns : List ℕ) → last_or (newest m o) ns ≡ last_or o (cons_option m ns)
newest_last None o ns = refl
newest_last (Some n) o ns = refl

newest_if : (b : Bool) (n : ℕ) (o : Option ℕ) → (if b then Some n else o) ≡ newest (if b then Some n else None) o
newest_if true n o = refl
newest_if false n o = refl

record Newer (ns : Names) (kind : CapKind) (r : RoleId) (x : SaidView) (cs : List Caps) (c : Caps) : Type 0 where
  after : Caps
  there : item_at (with_caps_said ns x cs) r.0 ≡ Some after
  newer : cap_of kind after ≡ newest (cap_said ns kind r x) (cap_of kind c)

one_line : (ns : Names) (kind : CapKind) (r : RoleId) (x : SaidView) (cs : List Caps) (c : Caps) → item_at cs r.0 ≡ Some c → Newer ns kind r x cs c
one_line ns kind r (cap k name n) cs c at = by (role_of ns name) refl
  where
    said : (o : Option RoleId) → role_of ns name ≡ o → cap_said ns kind r (cap k name n) ≡ (if is_role r o && same_cap_kind kind k then Some n else None)
    said o is = ap (λ (q : Option RoleId). if is_role r q && same_cap_kind kind k then Some n else None) is

    caps : (o : Option RoleId) → role_of ns name ≡ o → with_caps_said ns (cap k name n) cs ≡ capped ns k n o cs
    caps o is = ap (λ (q : Option RoleId). capped ns k n q cs) is

    one_role : (q : RoleId) (b : Bool) → is_role r (Some q) ≡ b → (if is_role r (Some q) && same_cap_kind kind k then Some n else None) ≡ (if b && same_cap_kind kind k then Some n else None)
    one_role q b is = ap (λ (t : Bool). if t && same_cap_kind kind k then Some n else None) is

    by : (o : Option RoleId) → role_of ns name ≡ o → Newer ns kind r (cap k name n) cs c
    by None is = record { after = c; there = ap (λ l. item_at l r.0) (caps None is) ∙ at; newer = ap (λ m. newest m (cap_of kind c)) (sym (said None is)) }
    by (Some q) is =
        dite (ℕ_discrete r.0 q.0) (λ here. record {
          after = with_cap k n c;
          there = ap (λ l. item_at l r.0) (caps (Some q) is) ∙ ap (λ j. item_at (changed_at (with_cap k n) j cs) r.0) (sym here) ∙ changed_here (with_cap k n) r.0 cs c at;
          newer = cap_with kind k n c ∙ newest_if (same_cap_kind kind k) n (cap_of kind c) ∙ ap (λ m. newest m (cap_of kind c)) (sym (said (Some q) is ∙ one_role q true (eq-eqb r.0 q.0 here)));
        }) (λ away. record {
          after = c;
          there = ap (λ l. item_at l r.0) (caps (Some q) is) ∙ changed_away (with_cap k n) q.0 r.0 cs away ∙ at;
          newer = ap (λ m. newest m (cap_of kind c)) (sym (said (Some q) is ∙ one_role q false (ne_eqb r.0 q.0 away)));
        })
one_line ns kind r _ cs c at = record { after = c; there = at; newer = refl }

all_lines : (ns : Names) (kind : CapKind) (r : RoleId) (d : DraftView) (xs : List SaidView) (b c : Caps) → item_at d.caps r.0 ≡ Some b → item_at (drafted ns d xs).caps r.0 ≡ Some c
    → cap_of kind c ≡ last_or (cap_of kind b) (filter_map (cap_said ns kind r) xs)
all_lines ns kind r d [] b c before after = let same : c ≡ b = cc in ap (cap_of kind) same
all_lines ns kind r d (x ∷ xs) b c before after =
    let step = one_line ns kind r x d.caps b before in
    let rest = filter_map (cap_said ns kind r) xs in
    all_lines ns kind r (adding ns d x) xs step.after c step.there after
    ∙ ap (λ o. last_or o rest) step.newer
    ∙ newest_last (cap_said ns kind r x) (cap_of kind b) rest

pub rows_said : (ns : Names) (ss : List SaidView) → length (drafted ns (fresh ns) ss).caps ≡ length ns.roles
rows_said ns ss = caps_length ns (fresh ns) ss ∙ length-map ns.roles (λ _. no_caps)

pub caps_said : (ns : Names) (ss : List SaidView) (kind : CapKind) (r : RoleId) (c : Caps) → item_at (drafted ns (fresh ns) ss).caps r.0 ≡ Some c
    → cap_of kind c ≡ last_or None (filter_map (cap_said ns kind r) ss)
caps_said ns ss kind r c at =
    let low = item_within (drafted ns (fresh ns) ss).caps r.0 c at in
    let rows = rows_said ns ss in
    all_lines ns kind r (fresh ns) ss no_caps c (blank_at ns.roles r.0 (omega (arith, low, rows))) at
    ∙ ap (λ o. last_or o (filter_map (cap_said ns kind r) ss)) (none_at_first kind)
