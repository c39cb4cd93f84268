-- What is read from the front of words stands there by its spelling.
use Rattle.std.proofs.Common.{◌≡◌, ℕ, ◌<◌, Bool, true, false, ◌&&◌, List, [], ◌∷◌, ◌++◌, length, Option, Some, None, refl, sym, ◌∙◌, ap, subst, arith, length-append}
use Rattle.std.specs.Prelude.{bytes_eq, codes}
use Rattle.std.proofs.lemmas.Slice.Eq.{bytes_eq-Decides}
use Rattle.gtrbac_model.proofs.Elements.{split}
use Rattle.gt_base.specs.Names.{is_name}
use Rattle.policy_words.specs.declared.parts.NamedFluent.{NamedFluent}
use Rattle.policy_words.specs.declared.parts.NamedFluent.TheVariants.{Enabled, Assigned, Granted, Limit, Edge}
use Rattle.policy_words.specs.declared.parts.NamedEvent.{NamedEvent}
use Rattle.policy_words.specs.declared.parts.NamedCond.{NamedCond}
use Rattle.policy_words.specs.declared.parts.NamedSignal.{NamedSignal}
use Rattle.policy_words.specs.declared.parts.Item.{Item}
use Rattle.policy_words.specs.declared.parts.Item.TheVariants.{Event, Signal, Cond, Settled}
use Rattle.policy_words.specs.declared.parts.Sort.{Sort}
use Rattle.policy_words.specs.declared.parts.Sort.TheVariants.{Enabling, Assigning, Granting, Arming, Linking}
use Rattle.policy_words.specs.Wording.{◌>>=◌, event_verb, cond_verb, signal_verb, verb_in, sort_of, fluent_names, event_words, cond_words, signal_words, item_words, fluent_at, verb_at, event_at, cond_at, signal_of, signal_at, settled_at, item_at}
use Rattle.policy_words.specs.Sayings.{are_names, is_item}
use Rattle.policy_lines.proofs.Truths.{both, and_true, some_is, none_some, where_true}
use Rattle.policy_lines.proofs.ItemVerbs.{spelled}

pub record FluentAt (s : Sort) (ws : List (List ℕ)) (f : NamedFluent × List (List ℕ)) : Type 0 where
  pub sort : sort_of f.0 ≡ s
  pub names : are_names (fluent_names f.0) ≡ true
  pub words : ws ≡ fluent_names f.0 ++ f.1

two_true : (a b : List ℕ) → (is_name a && is_name b) ≡ true → are_names (a ∷ b ∷ []) ≡ true
two_true a b h = let parts = both (is_name a) (is_name b) h in and_true (is_name a) (is_name b && true) parts.0 (and_true (is_name b) true parts.1 refl)

pub fluent_at_is : (s : Sort) (ws : List (List ℕ)) (f : NamedFluent × List (List ℕ)) → fluent_at s ws ≡ Some f → FluentAt s ws f
fluent_at_is Enabling [] f e = absurd (none_some e)
fluent_at_is Enabling (a ∷ ws) f e =
    let is = where_true (is_name a) (Enabled a, ws) f e in
    subst (FluentAt Enabling (a ∷ ws)) is.1 (record { sort = refl; names = and_true (is_name a) true is.0 refl; words = refl })
fluent_at_is Assigning [] f e = absurd (none_some e)
fluent_at_is Assigning (a ∷ []) f e = absurd (none_some e)
fluent_at_is Assigning (a ∷ b ∷ ws) f e =
    let is = where_true (is_name a && is_name b) (Assigned a b, ws) f e in
    subst (FluentAt Assigning (a ∷ b ∷ ws)) is.1 (record { sort = refl; names = two_true a b is.0; words = refl })
fluent_at_is Granting [] f e = absurd (none_some e)
fluent_at_is Granting (a ∷ []) f e = absurd (none_some e)
fluent_at_is Granting (a ∷ b ∷ ws) f e =
    let is = where_true (is_name a && is_name b) (Granted a b, ws) f e in
    subst (FluentAt Granting (a ∷ b ∷ ws)) is.1 (record { sort = refl; names = two_true a b is.0; words = refl })
fluent_at_is Arming [] f e = absurd (none_some e)
fluent_at_is Arming (a ∷ ws) f e =
    let is = where_true (is_name a) (Limit a, ws) f e in
    subst (FluentAt Arming (a ∷ ws)) is.1 (record { sort = refl; names = and_true (is_name a) true is.0 refl; words = refl })
fluent_at_is Linking [] f e = absurd (none_some e)
fluent_at_is Linking (a ∷ []) f e = absurd (none_some e)
fluent_at_is Linking (a ∷ b ∷ ws) f e =
    let is = where_true (is_name a && is_name b) (Edge a b, ws) f e in
    subst (FluentAt Linking (a ∷ b ∷ ws)) is.1 (record { sort = refl; names = two_true a b is.0; words = refl })

-- the verb and the fluent behind it
pub record VerbAt (verb : Bool → Sort → List ℕ) (ws : List (List ℕ)) (v : (Bool × NamedFluent) × List (List ℕ)) : Type 0 where
  pub names : are_names (fluent_names v.0.1) ≡ true
  pub words : ws ≡ verb v.0.0 (sort_of v.0.1) ∷ fluent_names v.0.1 ++ v.1

verb_found : (verb : Bool → Sort → List ℕ) (w : List ℕ) (ws : List (List ℕ)) (u : Bool × Sort) (v : (Bool × NamedFluent) × List (List ℕ)) → verb_in verb w ≡ Some u
    → (r : Option (NamedFluent × List (List ℕ))) → fluent_at u.1 ws ≡ r
    → ◌>>=◌ {A = NamedFluent × List (List ℕ)} {B = (Bool × NamedFluent) × List (List ℕ)} r (λ f. Some ((u.0, f.0), f.1)) ≡ Some v → VerbAt verb (w ∷ ws) v
verb_found verb w ws u v is None at e = absurd (none_some e)
verb_found verb w ws u v is (Some f) at e =
    let fluent = fluent_at_is u.1 ws f at in
    subst (VerbAt verb (w ∷ ws)) (some_is e)
    (record { names = fluent.names; words = ap (λ w. w ∷ ws) (sym (spelled verb w u is)) ∙ ap (λ s. verb u.0 s ∷ ws) (sym fluent.sort) ∙ ap (λ ws. verb u.0 (sort_of f.0) ∷ ws) fluent.words })

pub verb_at_is : (verb : Bool → Sort → List ℕ) (ws : List (List ℕ)) (v : (Bool × NamedFluent) × List (List ℕ)) → verb_at verb ws ≡ Some v → VerbAt verb ws v
verb_at_is verb [] v e = absurd (none_some e)
verb_at_is verb (w ∷ ws) v e = by (verb_in verb w) refl
  where
    by : (r : Option (Bool × Sort)) → verb_in verb w ≡ r → VerbAt verb (w ∷ ws) v
    by None is = absurd (none_some (rw is at e))
    by (Some u) is = verb_found verb w ws u v is (fluent_at u.1 ws) refl (rw is at e)

pub record EventAt (ws : List (List ℕ)) (e : NamedEvent × List (List ℕ)) : Type 0 where
  pub names : are_names (fluent_names e.0.fluent) ≡ true
  pub words : ws ≡ event_words e.0 ++ e.1

pub event_at_is : (ws : List (List ℕ)) (e : NamedEvent × List (List ℕ)) → event_at ws ≡ Some e → EventAt ws e
event_at_is ws e is = by (verb_at event_verb ws) refl
  where
    by : (r : Option ((Bool × NamedFluent) × List (List ℕ))) → verb_at event_verb ws ≡ r → EventAt ws e
    by None none = absurd (none_some (rw none at is))
    by (Some v) some = let v_is = verb_at_is event_verb ws v some in subst (EventAt ws) (some_is (rw some at is)) (record { names = v_is.names; words = v_is.words })

pub record CondAt (ws : List (List ℕ)) (c : NamedCond × List (List ℕ)) : Type 0 where
  pub names : are_names (fluent_names c.0.fluent) ≡ true
  pub words : ws ≡ cond_words c.0 ++ c.1

pub cond_at_is : (ws : List (List ℕ)) (c : NamedCond × List (List ℕ)) → cond_at ws ≡ Some c → CondAt ws c
cond_at_is ws c is = by (verb_at cond_verb ws) refl
  where
    by : (r : Option ((Bool × NamedFluent) × List (List ℕ))) → verb_at cond_verb ws ≡ r → CondAt ws c
    by None none = absurd (none_some (rw none at is))
    by (Some v) some = let v_is = verb_at_is cond_verb ws v some in subst (CondAt ws) (some_is (rw some at is)) (record { names = v_is.names; words = v_is.words })

pub record SignalAt (ws : List (List ℕ)) (s : NamedSignal × List (List ℕ)) : Type 0 where
  pub names : (is_name s.0.user && is_name s.0.role) ≡ true
  pub words : ws ≡ signal_words s.0 ++ s.1

signal_of_is : (start : Bool) (w : List ℕ) (ws : List (List ℕ)) (s : NamedSignal × List (List ℕ)) → w ≡ signal_verb start → signal_of start ws ≡ Some s → SignalAt (w ∷ ws) s
signal_of_is start w [] s is e = absurd (none_some e)
signal_of_is start w (a ∷ []) s is e = absurd (none_some e)
signal_of_is start w (a ∷ b ∷ ws) s is e =
    let names = where_true (is_name a && is_name b) (record { start = start; user = a; role = b }, ws) s e in
    subst (SignalAt (w ∷ a ∷ b ∷ ws)) names.1 (record { names = names.0; words = ap (λ w. w ∷ a ∷ b ∷ ws) is })

pub signal_at_is : (ws : List (List ℕ)) (s : NamedSignal × List (List ℕ)) → signal_at ws ≡ Some s → SignalAt ws s
signal_at_is [] s e = absurd (none_some e)
signal_at_is (w ∷ ws) s e =
    split (bytes_eq w (signal_verb true)) (λ t. signal_of_is true w ws s ((bytes_eq-Decides w (signal_verb true)).0 t) (rw (t, signal_at) at e))
    (λ n.
    let e2 = rw (n, signal_at) at e in
    split (bytes_eq w (signal_verb false)) (λ t. signal_of_is false w ws s ((bytes_eq-Decides w (signal_verb false)).0 t) (rw t at e2)) (λ m. absurd (none_some (rw m at e2))))

pub record ItemAt (ws : List (List ℕ)) (i : Item × List (List ℕ)) : Type 0 where
  pub names : is_item i.0 ≡ true
  pub words : ws ≡ item_words i.0 ++ i.1

pub record SettledAt (ws : List (List ℕ)) (c : NamedCond × List (List ℕ)) : Type 0 where
  pub names : are_names (fluent_names c.0.fluent) ≡ true
  pub words : ws ≡ (codes "settled" ∷ cond_words c.0) ++ c.1

settled_at_is : (ws : List (List ℕ)) (c : NamedCond × List (List ℕ)) → settled_at ws ≡ Some c → SettledAt ws c
settled_at_is [] c e = absurd (none_some e)
settled_at_is (w ∷ ws) c e =
    split (bytes_eq w (codes "settled"))
    (λ t.
    let c_is = cond_at_is ws c (rw (t, settled_at) at e) in
    record { names = c_is.names; words = ap (λ w. w ∷ ws) ((bytes_eq-Decides w (codes "settled")).0 t) ∙ ap (λ ws. codes "settled" ∷ ws) c_is.words })
    (λ n. absurd (none_some (rw (n, settled_at) at e)))

pub item_at_is : (ws : List (List ℕ)) (i : Item × List (List ℕ)) → item_at ws ≡ Some i → ItemAt ws i
item_at_is ws i is = by (event_at ws) refl (signal_at ws) refl (cond_at ws) refl (settled_at ws) refl
  where
    by : (e : Option (NamedEvent × List (List ℕ))) → event_at ws ≡ e → (s : Option (NamedSignal × List (List ℕ))) → signal_at ws ≡ s → (c : Option (NamedCond × List (List ℕ))) → cond_at ws ≡ c
        → (d : Option (NamedCond × List (List ℕ))) → settled_at ws ≡ d → ItemAt ws i
    by (Some e) at s s_at c c_at d d_at = let e_is = event_at_is ws e at in subst (ItemAt ws) (some_is (rw at at is)) (record { names = e_is.names; words = e_is.words })
    by None at (Some s) s_at c c_at d d_at = let s_is = signal_at_is ws s s_at in subst (ItemAt ws) (some_is (rw (at, s_at) at is)) (record { names = s_is.names; words = s_is.words })
    by None at None s_at (Some c) c_at d d_at = let c_is = cond_at_is ws c c_at in subst (ItemAt ws) (some_is (rw (at, s_at, c_at) at is)) (record { names = c_is.names; words = c_is.words })
    by None at None s_at None c_at (Some c) d_at =
        let c_is = settled_at_is ws c d_at in subst (ItemAt ws) (some_is (rw (at, s_at, c_at, d_at) at is)) (record { names = c_is.names; words = c_is.words })
    by None at None s_at None c_at None d_at = absurd (none_some (rw (at, s_at, c_at, d_at) at is))

some_words : (i : Item) → 0 < length (item_words i)
some_words (Event e) = omega arith
some_words (Signal s) = omega arith
some_words (Cond c) = omega arith
some_words (Settled c) = omega arith

pub item_shorter : (ws : List (List ℕ)) (i : Item × List (List ℕ)) → item_at ws ≡ Some i → length i.1 < length ws
item_shorter ws i is = let at = item_at_is ws i is in omega (arith, ap length at.words, length-append (item_words i.0) i.1, some_words i.0)
