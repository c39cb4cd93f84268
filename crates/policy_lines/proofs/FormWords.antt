-- What is read from words in a form is in range, and the words spell it.
use Rattle.std.proofs.Common.{◌≡◌, inl, inr, ℕ, suc, ◌+◌, ◌<◌, ◌≤◌, ◌^◌, Bool, true, false, ◌&&◌, ◌||◌, List, [], ◌∷◌, ◌++◌, length, get_or, take, drop, Option, Some, None, refl, sym, ◌∙◌, ap, subst, arith, decimal, append-nil, length-drop}
use Rattle.std.specs.Prelude.{codes, bytes_eq, nat_le}
use Rattle.std.specs.List.{before_first, after_first, position_or_len}
use Rattle.std.proofs.lemmas.List.{take-append-drop}
use Rattle.std.proofs.lemmas.List.Sums.{passes_at_first}
use Rattle.std.proofs.Math.Seq.{drop-cons}
use Rattle.std.proofs.lemmas.Slice.Eq.{bytes_eq-Decides}
use Rattle.std.proofs.lemmas.Bool.{false≢true, le-leb}
use Rattle.std.proofs.lemmas.Bool.Decides.{Decides-eqb}
use Rattle.std.proofs.lemmas.Fmt.{decimal_digit}
use Rattle.gtrbac_model.proofs.Elements.{split}
use Rattle.gt_base.specs.Names.{is_name, name_in, number_from}
use Rattle.gt_base.specs.declared.policies.Form.{Form}
use Rattle.policy_words.specs.declared.parts.NamedCond.{NamedCond}
use Rattle.policy_words.specs.declared.parts.NamedHead.{NamedHead}
use Rattle.policy_words.specs.declared.sayings.EdgeKind.TheVariants.{I, A, Ia}
use Rattle.policy_words.specs.declared.parts.Sort.{Sort}
use Rattle.policy_words.specs.declared.parts.Sort.TheVariants.{Enabling, Assigning, Granting, Arming, Linking}
use Rattle.policy_words.specs.Wording.{◌>>=◌, event_verb, cond_verb, at_end, sort_of, fluent_names, cond_words, head_words, cond_at, head_at, event_at, is_colon}
use Rattle.policy_words.specs.Sayings.{SaidView, version, limit, opening, entry, said_words, during_words, kind_word, strength_word, cap_word, is_formed, are_names, is_count, is_period_name, is_head}
use Rattle.policy_words.specs.CapKinds.{cap_kinds}
use Rattle.policy_words.specs.Reading.{one_name, most_at, during_in, limit_in, spelled_so, edge_in, cap_in, opening_by, entry_in, version_in}
use Rattle.policy_lines.proofs.Truths.{and_true, some_is, none_some, taken, where_true}
use Rattle.policy_lines.proofs.ItemVerbs.{found_passes}
use Rattle.gt_text.proofs.Decimals.{number_from_is}
use Rattle.policy_lines.proofs.FrontWords.{event_at_is, cond_at_is}

-- a step that came to something
pub record Came {A B : Type 0} (o : Option A) (f : A → Option B) (b : B) : Type 0 where
  pub it : A
  pub was : o ≡ Some it
  pub then : f it ≡ Some b

pub came : {A B : Type 0} (o : Option A) (f : A → Option B) (b : B) → o >>= f ≡ Some b → Came o f b
came None f b e = absurd (none_some e)
came (Some a) f b e = record { it = a; was = refl; then = e }

pub name_in_is : (w n : List ℕ) → name_in w ≡ Some n → (is_name n ≡ true) × (w ≡ n)
name_in_is w n e =
    elim (taken (is_name w) (Some w) None (Some n) e) [
      | inl (t, is) ↦ (ap is_name (sym (some_is is)) ∙ t, some_is is)
      | inr (f, is) ↦ absurd (none_some is)
    ]

pub at_end_is : {A : Type 0} (a b : A) (ws : List (List ℕ)) → at_end a ws ≡ Some b → (a ≡ b) × (ws ≡ [])
at_end_is a b [] e = (some_is e, refl)
at_end_is a b (w ∷ ws) e = absurd (none_some e)

pub record OneName (build : List ℕ → SaidView) (ws : List (List ℕ)) (s : SaidView) : Type 0 where
  pub it : List ℕ
  pub name : is_name it ≡ true
  pub words : ws ≡ it ∷ []
  pub built : build it ≡ s

pub one_name_is : (build : List ℕ → SaidView) (ws : List (List ℕ)) (s : SaidView) → one_name build ws ≡ Some s → OneName build ws s
one_name_is build [] s e = absurd (none_some e)
one_name_is build (w ∷ ws) s e =
    let c = came (name_in w) (λ n. at_end (build n) ws) s e in
    let n = name_in_is w c.it c.was in
    let end = at_end_is (build c.it) s ws c.then in
    record { it = c.it; name = n.0; words = ap (λ w. w ∷ ws) n.1 ∙ ap (λ ws. c.it ∷ ws) end.1; built = end.0 }

-- numbers in range

count_is : (n : ℕ) → 1 ≤ n → n ≤ 1_000_000 → is_count n ≡ true
count_is n low high = and_true (nat_le 1 n) (nat_le n 1_000_000) (le-leb 1 n low) (le-leb n 1_000_000 high)

most_is : (ws : List (List ℕ)) (m : ℕ × List (List ℕ)) → most_at ws ≡ Some m → (is_count m.0 ≡ true) × (ws ≡ codes "max" ∷ decimal m.0 ∷ m.1)
most_is [] m e = absurd (none_some e)
most_is (w ∷ []) m e = absurd (none_some e)
most_is (w ∷ n ∷ ws) m e = split (bytes_eq w (codes "max"))
    (λ t.
    let c = came (number_from 1 1_000_000 n) (λ k. Some (k, ws)) m (rw (t, most_at) at e) in
    let is = number_from_is 1 1_000_000 n c.it (omega arith) c.was in
    subst (λ (m : ℕ × List (List ℕ)). (is_count m.0 ≡ true) × (w ∷ n ∷ ws ≡ codes "max" ∷ decimal m.0 ∷ m.1)) (some_is c.then)
    (count_is c.it is.0 is.1, ap (λ w. w ∷ n ∷ ws) ((bytes_eq-Decides w (codes "max")).0 t) ∙ ap (λ n. codes "max" ∷ n ∷ ws) is.2))
    (λ f. absurd (none_some (rw (f, most_at) at e)))

during_is : (ws : List (List ℕ)) (d : Option (List ℕ)) → during_in ws ≡ Some d → (is_period_name d ≡ true) × (ws ≡ during_words d)
during_is [] d e = subst (λ (d : Option (List ℕ)). (is_period_name d ≡ true) × ([] ≡ during_words d)) (some_is e) (refl, refl)
during_is (w ∷ []) d e = absurd (none_some e)
during_is (w ∷ p ∷ []) d e = split (bytes_eq w (codes "during"))
    (λ t.
    let c = came (name_in p) (λ n. Some (Some n)) d (rw (t, during_in) at e) in
    let n = name_in_is p c.it c.was in
    subst (λ (d : Option (List ℕ)). (is_period_name d ≡ true) × (w ∷ p ∷ [] ≡ during_words d)) (some_is c.then)
    (n.0, ap (λ w. w ∷ p ∷ []) ((bytes_eq-Decides w (codes "during")).0 t) ∙ ap (λ p. codes "during" ∷ p ∷ []) n.1))
    (λ f. absurd (none_some (rw (f, during_in) at e)))
during_is (w ∷ p ∷ v ∷ ws) d e = absurd (none_some e)

-- what a saying's words behind its first are, and that it is in range
pub record Formed (first : List ℕ) (ws : List (List ℕ)) (s : SaidView) : Type 0 where
  pub formed : is_formed s ≡ true
  pub words : first ∷ ws ≡ said_words s

as_version : (w : List ℕ) (k n : ℕ) → is_formed (version k) ≡ true → w ≡ decimal k → k ≡ n → Formed (codes "policy") (w ∷ []) (version n)
as_version w k n formed is e =
    subst (λ n. Formed (codes "policy") (w ∷ []) (version n)) e (record { formed = formed; words = ap (λ w. codes "policy" ∷ w ∷ []) is })

pub version_is : (ws : List (List ℕ)) (n : ℕ) → version_in ws ≡ Some n → Formed (codes "policy") ws (version n)
version_is [] n e = absurd (none_some e)
version_is (w ∷ []) n e =
    elim (taken (bytes_eq w (codes "1")) _ _ (Some n) e) [
      | inl (t, is) ↦ as_version w 1 n refl ((bytes_eq-Decides w (codes "1")).0 t ∙ sym (decimal_digit 1 (omega arith))) (some_is is)
      | inr (f, go) ↦ elim (taken (bytes_eq w (codes "2")) _ _ (Some n) go) [
        | inl (t, is) ↦ as_version w 2 n refl ((bytes_eq-Decides w (codes "2")).0 t ∙ sym (decimal_digit 2 (omega arith))) (some_is is)
        | inr (g, end) ↦ absurd (none_some end)
      ]
    ]
version_is (w ∷ v ∷ ws) n e = absurd (none_some e)

limit_parts : (n : List ℕ) (prio : ℕ) (c : NamedCond) (most : ℕ) (during : Option (List ℕ)) → is_name n ≡ true → prio ≤ 99 → are_names (fluent_names c.fluent) ≡ true → is_count most ≡ true
    → is_period_name during ≡ true → is_formed (limit n prio c most during) ≡ true
limit_parts n prio c most during name low names count during_in_range =
    and_true (is_name n && nat_le prio 99 && are_names (fluent_names c.fluent) && is_count most) (is_period_name during)
    (and_true (is_name n && nat_le prio 99 && are_names (fluent_names c.fluent)) (is_count most)
    (and_true (is_name n && nat_le prio 99) (are_names (fluent_names c.fluent)) (and_true (is_name n) (nat_le prio 99) name (le-leb prio 99 low)) names) count) during_in_range

pub limit_is : (ws : List (List ℕ)) (s : SaidView) → limit_in ws ≡ Some s → Formed (codes "limit") ws s
limit_is [] s e = absurd (none_some e)
limit_is (n ∷ []) s e = absurd (none_some e)
limit_is (n ∷ p ∷ ws) s e =
    let name = came (name_in n) _ s e in
    let prio = came (number_from 0 99 p) _ s name.then in
    let cond = came (cond_at ws) _ s prio.then in
    let most = came (most_at cond.it.1) _ s cond.then in
    let during = came (during_in most.it.1) _ s most.then in
    let n_is = name_in_is n name.it name.was in
    let p_is = number_from_is 0 99 p prio.it (omega arith) prio.was in
    let c_is = cond_at_is ws cond.it cond.was in
    let m_is = most_is cond.it.1 most.it most.was in
    let d_is = during_is most.it.1 during.it during.was in
    subst (Formed (codes "limit") (n ∷ p ∷ ws)) (some_is during.then)
    (record {
      formed = limit_parts name.it prio.it cond.it.0 most.it.0 during.it n_is.0 p_is.1 c_is.names m_is.0 d_is.0;
      words = ap (λ n. codes "limit" ∷ n ∷ p ∷ ws) n_is.1 ∙ ap (λ p. codes "limit" ∷ name.it ∷ p ∷ ws) p_is.2
          ∙ ap (λ ws. codes "limit" ∷ name.it ∷ decimal prio.it ∷ ws)
          (c_is.words ∙ ap (λ ws. cond_words cond.it.0 ++ ws) (m_is.1 ∙ ap (λ ws. codes "max" ∷ decimal most.it.0 ∷ ws) d_is.1));
    })

pub spelled_is : {A : Type 0} (spell : A → List ℕ) (xs : List A) (w : List ℕ) (a : A) → spelled_so spell xs w ≡ Some a → spell a ≡ w
spelled_is spell xs w a e = (bytes_eq-Decides (spell a) w).0 (found_passes (λ a. bytes_eq (spell a) w) xs a e)

pub edge_is : (ws : List (List ℕ)) (s : SaidView) → edge_in ws ≡ Some s → Formed (codes "edge") ws s
edge_is [] s e = absurd (none_some e)
edge_is (k ∷ []) s e = absurd (none_some e)
edge_is (k ∷ st ∷ []) s e = absurd (none_some e)
edge_is (k ∷ st ∷ a ∷ []) s e = absurd (none_some e)
edge_is (k ∷ st ∷ a ∷ b ∷ []) s e =
    let kind = came (spelled_so kind_word (I ∷ A ∷ Ia ∷ []) k) _ s e in
    let strong = came (spelled_so strength_word (true ∷ false ∷ []) st) _ s kind.then in
    let senior = came (name_in a) _ s strong.then in
    let junior = came (name_in b) _ s senior.then in
    let a_is = name_in_is a senior.it senior.was in
    let b_is = name_in_is b junior.it junior.was in
    subst (Formed (codes "edge") (k ∷ st ∷ a ∷ b ∷ [])) (some_is junior.then)
    (record {
      formed = and_true (is_name senior.it) (is_name junior.it) a_is.0 b_is.0;
      words = ap (λ k. codes "edge" ∷ k ∷ st ∷ a ∷ b ∷ []) (sym (spelled_is kind_word (I ∷ A ∷ Ia ∷ []) k kind.it kind.was))
          ∙ ap (λ st. codes "edge" ∷ kind_word kind.it ∷ st ∷ a ∷ b ∷ []) (sym (spelled_is strength_word (true ∷ false ∷ []) st strong.it strong.was))
          ∙ ap (λ a. codes "edge" ∷ kind_word kind.it ∷ strength_word strong.it ∷ a ∷ b ∷ []) a_is.1
          ∙ ap (λ b. codes "edge" ∷ kind_word kind.it ∷ strength_word strong.it ∷ senior.it ∷ b ∷ []) b_is.1;
    })
edge_is (k ∷ st ∷ a ∷ b ∷ v ∷ ws) s e = absurd (none_some e)

pub cap_is : (ws : List (List ℕ)) (s : SaidView) → cap_in ws ≡ Some s → Formed (codes "cap") ws s
cap_is [] s e = absurd (none_some e)
cap_is (k ∷ []) s e = absurd (none_some e)
cap_is (k ∷ r ∷ []) s e = absurd (none_some e)
cap_is (k ∷ r ∷ n ∷ []) s e =
    let kind = came (spelled_so cap_word cap_kinds k) _ s e in
    let name = came (name_in r) _ s kind.then in
    let most = came (number_from 1 1_000_000 n) _ s name.then in
    let r_is = name_in_is r name.it name.was in
    let n_is = number_from_is 1 1_000_000 n most.it (omega arith) most.was in
    subst (Formed (codes "cap") (k ∷ r ∷ n ∷ [])) (some_is most.then)
    (record {
      formed = and_true (is_name name.it) (is_count most.it) r_is.0 (count_is most.it n_is.0 n_is.1);
      words = ap (λ k. codes "cap" ∷ k ∷ r ∷ n ∷ []) (sym (spelled_is cap_word cap_kinds k kind.it kind.was)) ∙ ap (λ r. codes "cap" ∷ cap_word kind.it ∷ r ∷ n ∷ []) r_is.1
          ∙ ap (λ n. codes "cap" ∷ cap_word kind.it ∷ name.it ∷ n ∷ []) n_is.2;
    })
cap_is (k ∷ r ∷ n ∷ v ∷ ws) s e = absurd (none_some e)

-- opening status: its verb is one of conditions that hold

is_opening : List ℕ → Bool
is_opening w = bytes_eq w (codes "enabled") || bytes_eq w (codes "assigned") || bytes_eq w (codes "granted") || bytes_eq w (codes "armed") || bytes_eq w (codes "linked")

is_on : (on : Bool) (s : Sort) → is_opening (cond_verb on s) ≡ true → on ≡ true
unfolding is_opening
is_on true s h = refl
is_on false Enabling h = absurd (false≢true h)
is_on false Assigning h = absurd (false≢true h)
is_on false Granting h = absurd (false≢true h)
is_on false Arming h = absurd (false≢true h)
is_on false Linking h = absurd (false≢true h)

head_is : (w v : List ℕ) (ws vs : List (List ℕ)) → w ∷ ws ≡ v ∷ vs → w ≡ v
head_is w v ws vs e = cc

by_opening : (verb : List ℕ) (ws : List (List ℕ)) (s : SaidView) → is_opening verb ≡ true → opening_by (cond_at (verb ∷ ws)) ≡ Some s → Formed verb ws s
by_opening verb ws s is e = by (cond_at (verb ∷ ws)) refl
  where
    by : (r : Option (NamedCond × List (List ℕ))) → cond_at (verb ∷ ws) ≡ r → Formed verb ws s
    by None none = absurd (none_some (rw none at e))
    by (Some c) some =
        let c_is = cond_at_is (verb ∷ ws) c some in
        let end = at_end_is (opening c.0.fluent) s c.1 (rw some at e) in
        let word : verb ≡ cond_verb c.0.on (sort_of c.0.fluent) = head_is verb (cond_verb c.0.on (sort_of c.0.fluent)) ws (fluent_names c.0.fluent ++ c.1) c_is.words in
        let on : c.0.on ≡ true = is_on c.0.on (sort_of c.0.fluent) (ap is_opening (sym word) ∙ is) in
        subst (Formed verb ws) end.0
        (record {
          formed = c_is.names;
          words = c_is.words ∙ ap (λ ws. cond_words c.0 ++ ws) end.1 ∙ append-nil (cond_words c.0) ∙ ap (λ on. cond_verb on (sort_of c.0.fluent) ∷ fluent_names c.0.fluent) on;
        })

pub enabled_is : (ws : List (List ℕ)) (s : SaidView) → opening_by (cond_at (codes "enabled" ∷ ws)) ≡ Some s → Formed (codes "enabled") ws s
unfolding is_opening
enabled_is ws s e = by_opening (codes "enabled") ws s refl e

pub assigned_is : (ws : List (List ℕ)) (s : SaidView) → opening_by (cond_at (codes "assigned" ∷ ws)) ≡ Some s → Formed (codes "assigned") ws s
unfolding is_opening
assigned_is ws s e = by_opening (codes "assigned") ws s refl e

pub granted_is : (ws : List (List ℕ)) (s : SaidView) → opening_by (cond_at (codes "granted" ∷ ws)) ≡ Some s → Formed (codes "granted") ws s
unfolding is_opening
granted_is ws s e = by_opening (codes "granted") ws s refl e

pub armed_is : (ws : List (List ℕ)) (s : SaidView) → opening_by (cond_at (codes "armed" ∷ ws)) ≡ Some s → Formed (codes "armed") ws s
unfolding is_opening
armed_is ws s e = by_opening (codes "armed") ws s refl e

pub linked_is : (ws : List (List ℕ)) (s : SaidView) → opening_by (cond_at (codes "linked" ∷ ws)) ≡ Some s → Formed (codes "linked") ws s
unfolding is_opening
linked_is ws s e = by_opening (codes "linked") ws s refl e

-- heads

some_verb : (on : Bool) (s : Sort) → 0 < length (event_verb on s)
some_verb true Enabling = omega arith
some_verb false Enabling = omega arith
some_verb true Assigning = omega arith
some_verb false Assigning = omega arith
some_verb true Granting = omega arith
some_verb false Granting = omega arith
some_verb true Arming = omega arith
some_verb false Arming = omega arith
some_verb true Linking = omega arith
some_verb false Linking = omega arith

-- a word with something behind its first colon
at_colon : (w : List ℕ) → 0 < length (after_first is_colon w) → w ≡ before_first is_colon w ++ 58 ∷ after_first is_colon w
at_colon w some =
    let k = position_or_len is_colon w in
    let within : k < length w = omega (arith, length-drop (k + 1) w, some) in
    let colon : get_or w k 0 ≡ 58 = (Decides-eqb (get_or w k 0) 58).0 (passes_at_first is_colon w 0 within) in
    let next : suc k ≡ k + 1 = omega arith in
    sym (take-append-drop k w) ∙ ap (λ t. take k w ++ t) (drop-cons w k 0 within ∙ ap (λ b. b ∷ drop (suc k) w) colon ∙ ap (λ n. 58 ∷ drop n w) next)

pub record HeadUpTo (most : ℕ) (ws : List (List ℕ)) (h : NamedHead × List (List ℕ)) : Type 0 where
  pub prio : h.0.prio ≤ most
  pub names : are_names (fluent_names h.0.event.fluent) ≡ true
  pub words : ws ≡ head_words h.0 ++ h.1

pub head_up_to_is : (most : ℕ) (ws : List (List ℕ)) (h : NamedHead × List (List ℕ)) → most < 2 ^ 64 → head_at most ws ≡ Some h → HeadUpTo most ws h
head_up_to_is most [] h small e = absurd (none_some e)
head_up_to_is most (w ∷ ws) h small e =
    let prio = came (number_from 0 most (before_first is_colon w)) _ h e in
    let event = came (event_at (after_first is_colon w ∷ ws)) _ h prio.then in
    let p_is = number_from_is 0 most (before_first is_colon w) prio.it small prio.was in
    let e_is = event_at_is (after_first is_colon w ∷ ws) event.it event.was in
    let verb = event_verb event.it.0.on (sort_of event.it.0.fluent) in
    let word : after_first is_colon w ≡ verb = head_is (after_first is_colon w) verb ws (fluent_names event.it.0.fluent ++ event.it.1) e_is.words in
    let rest : ws ≡ fluent_names event.it.0.fluent ++ event.it.1 = tail_is (after_first is_colon w) verb ws (fluent_names event.it.0.fluent ++ event.it.1) e_is.words in
    let some : 0 < length (after_first is_colon w) = omega (arith, ap (λ w. length w) word, some_verb event.it.0.on (sort_of event.it.0.fluent)) in
    let whole : w ≡ decimal prio.it ++ 58 ∷ verb =
    at_colon w some ∙ ap (λ front. front ++ 58 ∷ after_first is_colon w) p_is.2 ∙ ap (λ back. decimal prio.it ++ 58 ∷ back) word in
    subst (HeadUpTo most (w ∷ ws)) (some_is event.then)
    (record {
      prio = p_is.1;
      names = e_is.names;
      words = ap (λ w. w ∷ ws) whole ∙ ap (λ ws. (decimal prio.it ++ 58 ∷ verb) ∷ ws) rest;
    })
  where
    tail_is : (w v : List ℕ) (ws vs : List (List ℕ)) → w ∷ ws ≡ v ∷ vs → ws ≡ vs
    tail_is w v ws vs e = cc

pub record HeadAt (ws : List (List ℕ)) (h : NamedHead × List (List ℕ)) : Type 0 where
  pub head : is_head h.0 ≡ true
  pub words : ws ≡ head_words h.0 ++ h.1

pub head_at_is : (ws : List (List ℕ)) (h : NamedHead × List (List ℕ)) → head_at 99 ws ≡ Some h → HeadAt ws h
head_at_is ws h e =
    let is = head_up_to_is 99 ws h (omega arith) e in
    record { head = and_true (nat_le h.0.prio 99) (are_names (fluent_names h.0.event.fluent)) (le-leb h.0.prio 99 is.prio) is.names; words = is.words }

pub entry_is : (f : Form) (first : List ℕ) (ws : List (List ℕ)) (s : SaidView) → ((p : List ℕ) (h : NamedHead) → first ∷ p ∷ head_words h ≡ said_words (entry f p h)) → entry_in f ws ≡ Some s
    → Formed first ws s
entry_is f first [] s spells e = absurd (none_some e)
entry_is f first (p ∷ ws) s spells e =
    let name = came (name_in p) _ s e in
    let head = came (head_at 99 ws) _ s name.then in
    let p_is = name_in_is p name.it name.was in
    let h_is = head_at_is ws head.it head.was in
    let end = at_end_is (entry f name.it head.it.0) s head.it.1 head.then in
    subst (Formed first (p ∷ ws)) end.0
    (record {
      formed = and_true (is_name name.it) (is_head head.it.0) p_is.0 h_is.head;
      words = ap (λ p. first ∷ p ∷ ws) p_is.1
          ∙ ap (λ ws. first ∷ name.it ∷ ws) (h_is.words ∙ ap (λ ws. head_words head.it.0 ++ ws) end.1 ∙ append-nil (head_words head.it.0)) ∙ spells name.it head.it.0;
    })
