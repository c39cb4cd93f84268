-- The edges grow as the dependencies are listed.
use Rattle.std.proofs.Common.{◌≡◌, ℕ, zero, suc, ◌+◌, ◌*◌, ◌≤◌, Bool, true, false, cond, nat_eq, ◌||◌, ◌&&◌, List, [], ◌∷◌, ◌++◌, length, drop, Some, refl, sym, ◌∙◌, ap, arith, append_assoc, append-nil}
use Rattle.std.proofs.lemmas.List.{drop_all}
use Rattle.std.proofs.lemmas.Bool.{ne_eqb}
use Rattle.gt_base.specs.Events.{converse}
use Rattle.gt_base.specs.Held.{TriggerView}
use Rattle.gt_base.specs.declared.events.Cond.{Cond}
use Rattle.gt_base.specs.declared.events.Event.{Event}
use Rattle.gtrbac_model.specs.Graph.{item_at}
use Rattle.gtrbac_model.specs.Same.{lists, same_event}
use Rattle.gtrbac_model.specs.Conflict.{turns_on, turns_off}
use Rattle.gtrbac_model.specs.Trigger.{immediate}
use Rattle.gtrbac_model.specs.Safety.{Dependency, is_node, edge_if_node, of_body, of_settled, of_trigger, of_triggers}
use Rattle.gtrbac_model.proofs.Uniqueness.{same_event_of}
use Rattle.least_walk.specs.declared.graphs.GraphEdge.{GraphEdge}
use Rattle.dependency_graph.specs.Nets.{dependency, read_off, event_at}
use Rattle.dependency_graph.specs.Making.{AreNodes, Adds, edge_in}

pub read_off_push : (events : List Event) (es : List GraphEdge) (ps : List (ℕ × ℕ)) (e : GraphEdge) (p : ℕ × ℕ) → length ps ≡ length es → read_off events (es ++ e ∷ []) (ps ++ p ∷ []) ≡ read_off events es ps ++ dependency events e p ∷ []
read_off_push events [] [] e p h = refl
read_off_push events [] (q ∷ ps) e p h = absurd (omega arith)
read_off_push events (x ∷ es) [] e p h = absurd (omega arith)
read_off_push events (x ∷ es) (q ∷ ps) e p h = ap (λ ds. dependency events x q ∷ ds) (read_off_push events es ps e p (omega arith))

same_edges : (triggers : List TriggerView) (events : List Event) → AreNodes triggers events → (d : Dependency) → edge_if_node triggers d ≡ edge_in events d
same_edges triggers events nodes d = ap (λ b. cond b (d ∷ []) []) (sym (nodes d.source))

is_listed : (xs : List Event) (n : ℕ) (e : Event) → item_at xs n ≡ Some e → lists same_event xs e ≡ true
is_listed [] n e p = cc
is_listed (x ∷ xs) zero e p = let q : x ≡ e = cc in ap (λ b. b || lists same_event xs e) (same_event_of e x (sym q))
is_listed (x ∷ xs) (suc n) e p = right (same_event e x) _ (is_listed xs n e p)
  where
    right : (a b : Bool) → b ≡ true → (a || b) ≡ true
    right true b h = refl
    right false b h = h

event_of : (xs : List Event) (n : ℕ) (e : Event) → item_at xs n ≡ Some e → event_at xs n ≡ e
event_of [] n e p = cc
event_of (x ∷ xs) zero e p = cc
event_of (x ∷ xs) (suc n) e p = event_of xs n e p

-- an edge from an event that is a node
pub edge_added : (events : List Event) (es : List GraphEdge) (ps : List (ℕ × ℕ)) (from to : ℕ) (marked : Bool) (source : Event) (p : ℕ × ℕ) (es' : List GraphEdge) (ps' : List (ℕ × ℕ))
    → item_at events from ≡ Some source → length ps ≡ length es → es' ≡ es ++ record { from = from; to = to; marked = marked } ∷ [] → ps' ≡ ps ++ p ∷ []
    → read_off events es' ps' ≡ read_off events es ps ++ edge_in events (record { source = source; target = event_at events to; conflict = marked; trigger = p.0; place = p.1 })
edge_added events es ps from to marked source p es' ps' is size qe qp =
    ap (λ xs. read_off events xs ps') qe ∙ ap (λ xs. read_off events (es ++ record { from = from; to = to; marked = marked } ∷ []) xs) qp
    ∙ read_off_push events es ps (record { from = from; to = to; marked = marked }) p size
    ∙ ap (λ z. read_off events es ps ++ (record { source = z; target = event_at events to; conflict = marked; trigger = p.0; place = p.1 }) ∷ []) (event_of events from source is)
    ∙ ap (λ b. read_off events es ps ++ cond b ((record { source = source; target = event_at events to; conflict = marked; trigger = p.0; place = p.1 }) ∷ []) []) (sym (is_listed events from source is))

-- an edge from an event that is none
pub none_added : (events : List Event) (ds : List Dependency) (d : Dependency) → lists same_event events d.source ≡ false → ds ≡ ds ++ edge_in events d
none_added events ds d none = sym (append-nil ds) ∙ ap (λ b. ds ++ cond b (d ∷ []) []) (sym none)

-- the edges of an immediate trigger whose head is this node: those of its body events, then those of its settled conditions
pub trigger_of_parts : (events : List Event) (head t first : ℕ) (r : TriggerView) (body : List Event) (conds : List Cond) (old mid new : List Dependency)
    → item_at events head ≡ Some r.head.event → r.delay ≡ 0 → body ≡ r.events → first ≡ length r.events → conds ≡ r.settled
    → Adds events old mid (λ triggers. of_body triggers (event_at events head) t 0 body) → Adds events mid new (λ triggers. of_settled triggers (event_at events head) t first conds)
    → Adds events old new (λ triggers. of_trigger triggers t r)
trigger_of_parts events head t first r body conds old mid new is now same behind alike bodies settled triggers nodes =
    settled triggers nodes
    ∙ ap (λ ds. ds ++ of_settled triggers (event_at events head) t first conds) (bodies triggers nodes)
    ∙ append_assoc old (of_body triggers (event_at events head) t 0 body) (of_settled triggers (event_at events head) t first conds)
    ∙ (λ i. old ++ (of_body triggers (event_of events head r.head.event is i) t 0 (same i) ++ of_settled triggers (event_of events head r.head.event is i) t (behind i) (alike i)))
    ∙ ap (λ d. old ++ cond (nat_eq d 0) (of_body triggers r.head.event t 0 r.events ++ of_settled triggers r.head.event t (length r.events) r.settled) []) (sym now)

-- a delayed trigger has none
pub delayed_none : (events : List Event) (t : ℕ) (r : TriggerView) (ds : List Dependency) → (r.delay ≡ 0 → ⊥) → Adds events ds ds (λ triggers. of_trigger triggers t r)
delayed_none events t r ds late triggers nodes =
    sym (append-nil ds) ∙ ap (λ b. ds ++ cond b (of_body triggers r.head.event t 0 r.events ++ of_settled triggers r.head.event t (length r.events) r.settled) []) (sym (ne_eqb r.delay 0 late))

-- behind the item at a number stand those from the next number on
pub dropped : {A : Type 0} (xs : List A) (n : ℕ) (x : A) → item_at xs n ≡ Some x → drop n xs ≡ x ∷ drop (n + 1) xs
dropped [] n x is = cc
dropped (y ∷ ys) zero x is = let e : y ≡ x = cc in ap (λ z. z ∷ ys) e
dropped (y ∷ ys) (suc n) x is = dropped ys n x is ∙ ap (λ m. x ∷ drop m (y ∷ ys)) (shift n)
  where
    shift : (n : ℕ) → suc (n + 1) ≡ suc n + 1
    shift n = omega arith

-- two parts more
two_more : (old mid new a b x y rest whole : List Dependency) → mid ≡ old ++ x → new ≡ mid ++ y → a ≡ x → b ≡ y → old ++ (a ++ b ++ rest) ≡ whole → new ++ rest ≡ whole
two_more old mid new a b x y rest whole first second p q h =
    ap (λ ds. ds ++ rest) (second ∙ ap (λ ds. ds ++ y) first)
    ∙ ap (λ ds. ds ++ rest) (append_assoc old x y)
    ∙ append_assoc old (x ++ y) rest
    ∙ (λ i. old ++ (sym p i ++ sym q i ++ rest))
    ∙ h

-- the edges of one body event more
pub body_step : (triggers : List TriggerView) (events : List Event) (head : Event) (t p k : ℕ) (body : List Event) (whole old mid new : List Dependency) (b other : Event) → AreNodes triggers events → item_at body k ≡ Some b → other ≡ converse b
    → mid ≡ old ++ edge_in events (record { source = b; target = head; conflict = false; trigger = t; place = p })
    → new ≡ mid ++ edge_in events (record { source = other; target = head; conflict = true; trigger = t; place = p })
    → old ++ of_body triggers head t p (drop k body) ≡ whole → new ++ of_body triggers head t (p + 1) (drop (k + 1) body) ≡ whole
body_step triggers events head t p k body whole old mid new b other nodes is back first second h =
    two_more old mid new _ _ _ _ (of_body triggers head t (p + 1) (drop (k + 1) body)) whole first second
    (same_edges triggers events nodes (record { source = b; target = head; conflict = false; trigger = t; place = p }))
    (ap (λ e. edge_if_node triggers (record { source = e; target = head; conflict = true; trigger = t; place = p })) (sym back)
    ∙ same_edges triggers events nodes (record { source = other; target = head; conflict = true; trigger = t; place = p }))
    (ap (λ bs. old ++ of_body triggers head t p bs) (sym (dropped body k b is)) ∙ h)

-- the edges of one settled condition more
pub settled_step : (triggers : List TriggerView) (events : List Event) (head : Event) (t p k : ℕ) (conds : List Cond) (whole old mid new : List Dependency) (c : Cond) (on off : Event) → AreNodes triggers events → item_at conds k ≡ Some c
    → on ≡ turns_on c.fluent → off ≡ turns_off c.fluent
    → mid ≡ old ++ edge_in events (record { source = on; target = head; conflict = true; trigger = t; place = p })
    → new ≡ mid ++ edge_in events (record { source = off; target = head; conflict = true; trigger = t; place = p })
    → old ++ of_settled triggers head t p (drop k conds) ≡ whole → new ++ of_settled triggers head t (p + 1) (drop (k + 1) conds) ≡ whole
settled_step triggers events head t p k conds whole old mid new c on off nodes is turned back first second h =
    two_more old mid new _ _ _ _ (of_settled triggers head t (p + 1) (drop (k + 1) conds)) whole first second
    (ap (λ e. edge_if_node triggers (record { source = e; target = head; conflict = true; trigger = t; place = p })) (sym turned)
    ∙ same_edges triggers events nodes (record { source = on; target = head; conflict = true; trigger = t; place = p }))
    (ap (λ e. edge_if_node triggers (record { source = e; target = head; conflict = true; trigger = t; place = p })) (sym back)
    ∙ same_edges triggers events nodes (record { source = off; target = head; conflict = true; trigger = t; place = p }))
    (ap (λ cs. old ++ of_settled triggers head t p cs) (sym (dropped conds k c is)) ∙ h)

-- behind the last item nothing more is given
pub at_end : {A : Type 0} (xs : List A) (k : ℕ) (given : List A → List Dependency) (now whole : List Dependency) → given [] ≡ [] → length xs ≤ k → now ++ given (drop k xs) ≡ whole → now ≡ whole
at_end xs k given now whole none all h = sym (append-nil now) ∙ ap (λ ds. now ++ ds) (sym none) ∙ ap (λ rs. now ++ given rs) (sym (drop_all k xs all)) ∙ h

pub two_rooms : (a b c d k : ℕ) → b ≤ a + 1 → c ≤ b + 1 → a ≤ d + 2 * k → c ≤ d + 2 * (k + 1)
two_rooms a b c d k first second h = omega arith

-- one trigger more
pub trigger_step : (triggers : List TriggerView) (events : List Event) (t : ℕ) (r : TriggerView) (whole old new : List Dependency) → AreNodes triggers events → item_at triggers t ≡ Some r
    → Adds events old new (λ rules. of_trigger rules t r) → old ++ of_triggers triggers t (drop t triggers) ≡ whole → new ++ of_triggers triggers (t + 1) (drop (t + 1) triggers) ≡ whole
trigger_step triggers events t r whole old new nodes is adds h =
    ap (λ ds. ds ++ of_triggers triggers (t + 1) (drop (t + 1) triggers)) (adds triggers nodes)
    ∙ append_assoc old (of_trigger triggers t r) (of_triggers triggers (t + 1) (drop (t + 1) triggers))
    ∙ ap (λ rs. old ++ of_triggers triggers t rs) (sym (dropped triggers t r is))
    ∙ h

-- the head of an immediate trigger is a node
pub head_listed : (triggers : List TriggerView) (events : List Event) (t : ℕ) (r : TriggerView) → AreNodes triggers events → item_at triggers t ≡ Some r → immediate r ≡ true → lists same_event events r.head.event ≡ true
head_listed triggers events t r nodes is now = nodes r.head.event ∙ found triggers t is
  where
    right : (a b : Bool) → b ≡ true → (a || b) ≡ true
    right true b h = refl
    right false b h = h

    found : (rs : List TriggerView) (n : ℕ) → item_at rs n ≡ Some r → is_node rs r.head.event ≡ true
    found [] n p = cc
    found (q ∷ rs) zero p =
        let e : q ≡ r = cc in
        ap (λ z. (immediate z && same_event z.head.event r.head.event) || is_node rs r.head.event) e
        ∙ ap (λ b. (b && same_event r.head.event r.head.event) || is_node rs r.head.event) now
        ∙ ap (λ b. b || is_node rs r.head.event) (same_event_of r.head.event r.head.event refl)
    found (q ∷ rs) (suc n) p = right (immediate q && same_event q.head.event r.head.event) (is_node rs r.head.event) (found rs n p)

-- heads, one trigger more
pub head_step : (triggers : List TriggerView) (t : ℕ) (r : TriggerView) (xs : List Event) (e : Event) (old : Bool) → item_at triggers t ≡ Some r
    → (lists same_event xs e || is_node (drop t triggers) e) ≡ old → (new : List Event) → lists same_event new e ≡ (lists same_event xs e || (immediate r && same_event r.head.event e))
    → (lists same_event new e || is_node (drop (t + 1) triggers) e) ≡ old
head_step triggers t r xs e old is h new one =
    ap (λ b. b || is_node (drop (t + 1) triggers) e) one
    ∙ or_assoc (lists same_event xs e) (immediate r && same_event r.head.event e) (is_node (drop (t + 1) triggers) e)
    ∙ ap (λ rs. lists same_event xs e || is_node rs e) (sym (dropped triggers t r is))
    ∙ h
  where
    or_assoc : (a b c : Bool) → ((a || b) || c) ≡ (a || (b || c))
    or_assoc true b c = refl
    or_assoc false b c = refl
