-- What is spelled by words is read from them.
use Rattle.std.proofs.Common.{◌≡◌, ℕ, zero, suc, ◌+◌, ◌<◌, ◌≤◌, ◌^◌, Bool, true, false, cond, ◌&&◌, List, [], ◌∷◌, ◌++◌, length, get_or, take, drop, Option, Some, None, refl, sym, ◌∙◌, ap, arith, decimal, append_assoc, length-append}
use Rattle.std.specs.Prelude.{codes, nat_le, nat_eq}
use Rattle.std.specs.List.{list_all, before_first, after_first, position_or_len}
use Rattle.std.proofs.lemmas.List.Sums.{position_or_len_is}
use Rattle.std.proofs.lemmas.List.{take_at, drop_at, drop-drop}
use Rattle.std.proofs.lemmas.Bool.{false≢true}
use Rattle.std.proofs.lemmas.Bool.Decides.{Decides-eqb}
use borrow.Author.Tests.{leb-true}
use Rattle.gtrbac_model.proofs.Elements.{split}
use Rattle.gt_base.specs.Names.{is_name, is_digit, number_from}
use Rattle.policy_words.specs.declared.parts.NamedFluent.{NamedFluent}
use Rattle.policy_words.specs.declared.parts.NamedFluent.TheVariants.{Enabled, Assigned, Granted, Limit, Edge}
use Rattle.policy_words.specs.declared.parts.NamedEvent.{NamedEvent}
use Rattle.policy_words.specs.declared.parts.NamedCond.{NamedCond}
use Rattle.policy_words.specs.declared.parts.NamedSignal.{NamedSignal}
use Rattle.policy_words.specs.declared.parts.NamedHead.{NamedHead}
use Rattle.policy_words.specs.declared.parts.Item.{Item}
use Rattle.policy_words.specs.declared.parts.Item.TheVariants.{Event, Signal, Cond, Settled}
use Rattle.policy_words.specs.declared.parts.Sort.{Sort}
use Rattle.policy_words.specs.declared.parts.Sort.TheVariants.{Enabling, Assigning, Granting, Arming, Linking}
use Rattle.policy_words.specs.Wording.{◌>>=◌, event_verb, cond_verb, signal_verb, verb_in, or_else, sort_of, fluent_names, event_words, cond_words, signal_words, item_words, head_words, delay_words, fluent_at, verb_at, event_at, cond_at, signal_of, signal_at, settled_at, item_at, head_at, is_colon, delay_in}
use Rattle.policy_words.specs.Sayings.{are_names, is_item, is_head, and_items}
use Rattle.gtrbac_model.specs.History.{is_some_item}
use Rattle.policy_lines.specs.Cursors.{items_of, onto}
use Rattle.policy_lines.proofs.Truths.{both, and_true}
use Rattle.policy_lines.proofs.Linked.{items_last, items_next}
use Rattle.gt_text.proofs.Decimals.{number_from-decimal, all_digits}

one_true : (a : List ℕ) → are_names (a ∷ []) ≡ true → is_name a ≡ true
one_true a h = (both (is_name a) true h).0

pair_true : (a b : List ℕ) → are_names (a ∷ b ∷ []) ≡ true → (is_name a && is_name b) ≡ true
pair_true a b h = let parts = both (is_name a) (is_name b && true) h in and_true (is_name a) (is_name b) parts.0 (both (is_name b) true parts.1).0

pub fluent_reads : (f : NamedFluent) (rest : List (List ℕ)) → are_names (fluent_names f) ≡ true → fluent_at (sort_of f) (fluent_names f ++ rest) ≡ Some (f, rest)
fluent_reads (Enabled a) rest h = ap (λ b. cond b (Some (Enabled a, rest)) None) (one_true a h)
fluent_reads (Assigned a b) rest h = ap (λ t. cond t (Some (Assigned a b, rest)) None) (pair_true a b h)
fluent_reads (Granted a b) rest h = ap (λ t. cond t (Some (Granted a b, rest)) None) (pair_true a b h)
fluent_reads (Limit a) rest h = ap (λ b. cond b (Some (Limit a, rest)) None) (one_true a h)
fluent_reads (Edge a b) rest h = ap (λ t. cond t (Some (Edge a b, rest)) None) (pair_true a b h)

event_found : (on : Bool) (s : Sort) → verb_in event_verb (event_verb on s) ≡ Some (on, s)
event_found true Enabling = refl
event_found false Enabling = refl
event_found true Assigning = refl
event_found false Assigning = refl
event_found true Granting = refl
event_found false Granting = refl
event_found true Arming = refl
event_found false Arming = refl
event_found true Linking = refl
event_found false Linking = refl

cond_found : (on : Bool) (s : Sort) → verb_in cond_verb (cond_verb on s) ≡ Some (on, s)
cond_found true Enabling = refl
cond_found false Enabling = refl
cond_found true Assigning = refl
cond_found false Assigning = refl
cond_found true Granting = refl
cond_found false Granting = refl
cond_found true Arming = refl
cond_found false Arming = refl
cond_found true Linking = refl
cond_found false Linking = refl

verb_reads : (verb : Bool → Sort → List ℕ) (on : Bool) (f : NamedFluent) (rest : List (List ℕ)) → verb_in verb (verb on (sort_of f)) ≡ Some (on, sort_of f) → are_names (fluent_names f) ≡ true
    → verb_at verb (verb on (sort_of f) ∷ fluent_names f ++ rest) ≡ Some ((on, f), rest)
verb_reads verb on f rest found h = rw (found, fluent_reads f rest h) refl

pub event_reads : (e : NamedEvent) (rest : List (List ℕ)) → are_names (fluent_names e.fluent) ≡ true → event_at (event_words e ++ rest) ≡ Some (e, rest)
event_reads e rest h = rw (verb_reads event_verb e.on e.fluent rest (event_found e.on (sort_of e.fluent)) h) refl

pub cond_reads : (c : NamedCond) (rest : List (List ℕ)) → are_names (fluent_names c.fluent) ≡ true → cond_at (cond_words c ++ rest) ≡ Some (c, rest)
cond_reads c rest h = rw (verb_reads cond_verb c.on c.fluent rest (cond_found c.on (sort_of c.fluent)) h) refl

signal_read : (start : Bool) (a b : List ℕ) (rest : List (List ℕ)) → (is_name a && is_name b) ≡ true
    → signal_of start (a ∷ b ∷ rest) ≡ Some (record { start = start; user = a; role = b }, rest)
signal_read start a b rest h = ap (λ t. cond t (Some (record { start = start; user = a; role = b }, rest)) None) h

signal_found : (start : Bool) (a b : List ℕ) (rest : List (List ℕ)) → signal_at (signal_verb start ∷ a ∷ b ∷ rest) ≡ signal_of start (a ∷ b ∷ rest)
signal_found true a b rest = refl
signal_found false a b rest = refl

signal_reads : (s : NamedSignal) (rest : List (List ℕ)) → (is_name s.user && is_name s.role) ≡ true → signal_at (signal_words s ++ rest) ≡ Some (s, rest)
signal_reads s rest h = signal_found s.start s.user s.role rest ∙ signal_read s.start s.user s.role rest h

no_event : (start : Bool) (ws : List (List ℕ)) → event_at (signal_verb start ∷ ws) ≡ None
no_event true ws = refl
no_event false ws = refl

cond_alone : (on : Bool) (s : Sort) (ws : List (List ℕ)) → (event_at (cond_verb on s ∷ ws) ≡ None) × (signal_at (cond_verb on s ∷ ws) ≡ None)
cond_alone true Enabling ws = (refl, refl)
cond_alone false Enabling ws = (refl, refl)
cond_alone true Assigning ws = (refl, refl)
cond_alone false Assigning ws = (refl, refl)
cond_alone true Granting ws = (refl, refl)
cond_alone false Granting ws = (refl, refl)
cond_alone true Arming ws = (refl, refl)
cond_alone false Arming ws = (refl, refl)
cond_alone true Linking ws = (refl, refl)
cond_alone false Linking ws = (refl, refl)

by_parts : Option (NamedEvent × List (List ℕ)) → Option (NamedSignal × List (List ℕ)) → Option (NamedCond × List (List ℕ)) → Option (NamedCond × List (List ℕ)) → Option (Item × List (List ℕ))
by_parts e s c d = or_else (do e ← e; Some (Event e.0, e.1)) (or_else (do s ← s; Some (Signal s.0, s.1)) (or_else (do c ← c; Some (Cond c.0, c.1)) (do d ← d; Some (Settled d.0, d.1))))

pub item_reads : (i : Item) (rest : List (List ℕ)) → is_item i ≡ true → item_at (item_words i ++ rest) ≡ Some (i, rest)
unfolding by_parts
item_reads (Event e) rest h =
    let ws = event_words e ++ rest in
    ap (λ (r : Option (NamedEvent × List (List ℕ))). by_parts r (signal_at ws) (cond_at ws) (settled_at ws)) (event_reads e rest h)
item_reads (Signal s) rest h =
    let ws = signal_words s ++ rest in
    ap (λ (r : Option (NamedEvent × List (List ℕ))). by_parts r (signal_at ws) (cond_at ws) (settled_at ws)) (no_event s.start (s.user ∷ s.role ∷ rest))
    ∙ ap (λ (r : Option (NamedSignal × List (List ℕ))). by_parts None r (cond_at ws) (settled_at ws)) (signal_reads s rest h)
item_reads (Cond c) rest h =
    let ws = cond_words c ++ rest in
    let alone = cond_alone c.on (sort_of c.fluent) (fluent_names c.fluent ++ rest) in
    ap (λ (r : Option (NamedEvent × List (List ℕ))). by_parts r (signal_at ws) (cond_at ws) (settled_at ws)) alone.0
    ∙ ap (λ (r : Option (NamedSignal × List (List ℕ))). by_parts None r (cond_at ws) (settled_at ws)) alone.1
    ∙ ap (λ (r : Option (NamedCond × List (List ℕ))). by_parts None None r (settled_at ws)) (cond_reads c rest h)
item_reads (Settled c) rest h = ap (λ (r : Option (NamedCond × List (List ℕ))). by_parts None None None r) (cond_reads c rest h)

-- a head: its number has no colon

no_colon : (b : ℕ) → is_digit b ≡ true → is_colon b ≡ false
no_colon b h = by (is_colon b) refl
  where
    by : (t : Bool) → is_colon b ≡ t → is_colon b ≡ false
    by false e = e
    by true e = let is : b ≡ 58 = (Decides-eqb b 58).0 e in absurd (false≢true (sym (ap is_digit is) ∙ h))

digits_lack : (ds : List ℕ) (rest : List ℕ) → list_all is_digit ds ≡ true → (k : ℕ) → k < length ds → is_colon (get_or (ds ++ rest) k 0) ≡ false
digits_lack [] rest h k l = absurd (omega (arith, l))
digits_lack (d ∷ ds) rest h zero l = no_colon d (both (is_digit d) (list_all is_digit ds) h).0
digits_lack (d ∷ ds) rest h (suc k) l = digits_lack ds rest (both (is_digit d) (list_all is_digit ds) h).1 k (omega (arith, l))

at_end_of : (ds rest : List ℕ) → get_or (ds ++ 58 ∷ rest) (length ds) 0 ≡ 58
at_end_of [] rest = refl
at_end_of (d ∷ ds) rest = at_end_of ds rest

colon_place : (ds rest : List ℕ) → list_all is_digit ds ≡ true → position_or_len is_colon (ds ++ 58 ∷ rest) ≡ length ds
colon_place ds rest h =
    position_or_len_is is_colon (ds ++ 58 ∷ rest) (length ds) 0 (omega (arith, length-append ds (58 ∷ rest))) (λ k l. digits_lack ds (58 ∷ rest) h k l) (λ l. ap is_colon (at_end_of ds rest))

before_colon : (ds rest : List ℕ) → list_all is_digit ds ≡ true → before_first is_colon (ds ++ 58 ∷ rest) ≡ ds
before_colon ds rest h = ap (λ n. take n (ds ++ 58 ∷ rest)) (colon_place ds rest h) ∙ take_at ds (58 ∷ rest) (length ds) refl

behind : (ds rest : List ℕ) → drop (length ds + 1) (ds ++ 58 ∷ rest) ≡ rest
behind ds rest = sym (drop-drop 1 (length ds) (ds ++ 58 ∷ rest) ∙ ap (λ n. drop n (ds ++ 58 ∷ rest)) (omega arith)) ∙ ap (drop 1) (drop_at ds (58 ∷ rest) (length ds) refl)

after_colon : (ds rest : List ℕ) → list_all is_digit ds ≡ true → after_first is_colon (ds ++ 58 ∷ rest) ≡ rest
after_colon ds rest h = ap (λ n. drop (n + 1) (ds ++ 58 ∷ rest)) (colon_place ds rest h) ∙ behind ds rest

pub head_reads_to : (most : ℕ) (h : NamedHead) (rest : List (List ℕ)) → most < 2 ^ 64 → h.prio ≤ most → are_names (fluent_names h.event.fluent) ≡ true → head_at most (head_words h ++ rest) ≡ Some (h, rest)
head_reads_to most h rest small low names =
    let digits = all_digits h.prio (omega arith) in
    let verb = event_verb h.event.on (sort_of h.event.fluent) in
    let prio : number_from 0 most (before_first is_colon (decimal h.prio ++ 58 ∷ verb)) ≡ Some h.prio =
    ap (number_from 0 most) (before_colon (decimal h.prio) verb digits) ∙ number_from-decimal 0 most h.prio (omega arith) low small in
    let event : event_at (after_first is_colon (decimal h.prio ++ 58 ∷ verb) ∷ fluent_names h.event.fluent ++ rest) ≡ Some (h.event, rest) =
    ap (λ w. event_at (w ∷ fluent_names h.event.fluent ++ rest)) (after_colon (decimal h.prio) verb digits) ∙ event_reads h.event rest names in
    rw (prio, event) refl

pub head_reads : (h : NamedHead) (rest : List (List ℕ)) → is_head h ≡ true → head_at 99 (head_words h ++ rest) ≡ Some (h, rest)
head_reads h rest is =
    let parts = both (nat_le h.prio 99) (are_names (fluent_names h.event.fluent)) is in
    head_reads_to 99 h rest (omega arith) (leb-true h.prio 99 parts.0) parts.1

-- items

pub items_read : (items : List Item) (rest : List (List ℕ)) → is_some_item items ≡ true → list_all is_item items ≡ true
    → items_of (and_items items ++ codes "then" ∷ rest) ≡ Some (items, rest)
items_read [] rest some h = absurd (false≢true some)
items_read (i ∷ []) rest some h =
    items_last (item_words i ++ codes "then" ∷ rest) (codes "then" ∷ rest) rest i (sym (item_reads i (codes "then" ∷ rest) (both (is_item i) true h).0)) refl
items_read (i ∷ j ∷ is) rest some h =
    let parts = both (is_item i) (list_all is_item (j ∷ is)) h in
    let more = and_items (j ∷ is) ++ codes "then" ∷ rest in
    let whole : item_words i ++ (codes "and" ∷ more) ≡ and_items (i ∷ j ∷ is) ++ codes "then" ∷ rest = sym (append_assoc (item_words i) (codes "and" ∷ and_items (j ∷ is)) (codes "then" ∷ rest)) in
    ap items_of (sym whole) ∙ items_next (item_words i ++ codes "and" ∷ more) (codes "and" ∷ more) more i (sym (item_reads i (codes "and" ∷ more) parts.0)) refl
    ∙ ap (onto (i ∷ [])) (items_read (j ∷ is) rest refl parts.1)

-- a delay

pub delay_reads : (d : ℕ) → d ≤ 52_595_999 → delay_in (delay_words d) ≡ Some d
delay_reads d le = split (nat_eq d 0)
    (λ t. let is : d ≡ 0 = (Decides-eqb d 0).0 t in rw (t, delay_words) (ap (λ d. Some d) (sym is)))
    (λ f. rw (f, delay_words) (number_from-decimal 0 52_595_999 d (omega arith) le (omega arith)))
