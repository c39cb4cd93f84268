-- Each step keeps the rule of the table.
use Rattle.std.proofs.Common.{◌≡◌, ◌≢◌, ℕ, ◌+◌, ◌*◌, ◌%◌, ◌^◌, ◌<◌, ◌≤◌, List, [], ◌∷◌, ◌++◌, length, get_or, set, sym, refl, ap, ◌∙◌, subst, ⊎_elim, inl, inr, arith, Option, Some, None, unwrap_or, mod-eq_of_lt, append_assoc, append-nil, length-append, drop, cond, eq-eqb, ne_eqb, eqb, length-set}
use mathlib.Core.Option.{none, some, some-injective, some-ne-none}
use mathlib.Core.Logic.{dite}
use Rattle.std.proofs.Math.Seq.{drop-append_seam}
use Rattle.std.specs.Prelude.{◌==◌}
use Rattle.std.proofs.lemmas.List.Elements.{filter-append}
use native.Mathlib.Decide.{ℕ_discrete, dec_le}
use mathlib.Core.List.{IsPrefix}
use lib.ListN.{get_elem?}
use Rattle.atomic_table.specs.Table.{State, step, keeps, takes, gives, Allows, Splits, Joins, opening}
use Rattle.atomic_table.proofs.Lists.{set_here, set_else, set_again}
use Rattle.gt_base.specs.declared.requests.Entry.{Entry}
use Rattle.turn_lock.specs.declared.view.Account.{Account}
use Rattle.turn_lock.specs.declared.view.Stage.{Stage}
use Rattle.turn_lock.specs.declared.view.Stage.TheVariants.{Idle, Waits, Keeps, Holds}
use Rattle.turn_lock.specs.declared.view.SeatView.{SeatView}
use Rattle.turn_lock.specs.declared.view.Spot.{Spot}
use Rattle.turn_lock.specs.declared.view.Spot.TheVariants.{Home, Told}
use Rattle.turn_lock.specs.declared.view.Origin.{Origin}
use Rattle.turn_lock.specs.Turns.{part, total, Each, is_waiting, is_holding, FitsAccount, FitsStage, FitsView, draws_of, accounts_of, next_of, waits, holds_slot, AtHome, KeptRule, with_ticket, drawn, with_turn, looked, counted, grown, added, idling, passed, staying, stayed, resumed, released, split_left, split_right, joined, spent_view, first_view, plain, Has, EndsPasses}
use Rattle.turn_lock.proofs.Totals.{total_set, total_snoc, total_at, total_finds, total_within, each_set, each_maps, each-append, put, put_here, put_else, at_end, total-append}

-- another seat's stage, where a ticket is drawn
stage_drawn : (log : List Entry) (tickets serving : ℕ) (drawer : ℕ → ℕ) (id k : ℕ) (st : Stage) → FitsStage log tickets serving drawer k st → FitsStage log (tickets + 1) serving (put drawer tickets id) k st
stage_drawn log tickets serving drawer id k Idle h = tt
stage_drawn log tickets serving drawer id k (Waits t) h = let a = h.1 in (h.0, omega arith, put_else drawer tickets id t (λ e. omega arith) ∙ h.2)
stage_drawn log tickets serving drawer id k (Keeps t) h = let a = h.1 in (h.0, omega arith, put_else drawer tickets id t (λ e. omega arith) ∙ h.2)
stage_drawn log tickets serving drawer id k (Holds t known) h = let a = h.1 in (h.0, omega arith, put_else drawer tickets id t (λ e. omega arith) ∙ h.2, h.3)

few_drawn : (log added : List Entry) (given : ℕ) (owner : ℕ → ℕ) (seat : ℕ) (xs : List Account) → Each (FitsAccount log added given owner seat) xs → total (λ (a : Account). a.draws) xs ≤ 2 ^ 40 * length xs
few_drawn log added given owner seat [] e = omega arith
few_drawn log added given owner seat (x ∷ xs) e = let a = e.0.few in let b = few_drawn log added given owner seat xs e.1 in omega (arith, a, b)

holder_of : (log : List Entry) (tickets serving : ℕ) (drawer : ℕ → ℕ) (seat : ℕ) (st : Stage) → FitsStage log tickets serving drawer seat st → 0 < is_holding st → drawer serving ≡ seat
holder_of log tickets serving drawer seat Idle h z = absurd (omega arith)
holder_of log tickets serving drawer seat (Waits t) h z = absurd (omega arith)
holder_of log tickets serving drawer seat (Keeps t) h z = absurd (omega arith)
holder_of log tickets serving drawer seat (Holds t known) h z = ap drawer (sym h.0) ∙ h.2

-- whether the ticket is known to be served
abbrev is_served : Stage → ℕ
is_served Idle = 0
is_served (Waits t) = 0
is_served (Keeps t) = 1
is_served (Holds t known) = 1

-- a stage whose ticket is not served, where serving moves on past another ticket
stage_else : (log log' : List Entry) (tickets tickets' serving serving' : ℕ) (drawer : ℕ → ℕ) (k : ℕ) (st : Stage) → ((t : ℕ) → t < tickets → t < tickets') → ((t : ℕ) → serving ≤ t → drawer t ≡ k → serving' ≤ t) → is_served st ≡ 0
    → FitsStage log tickets serving drawer k st → FitsStage log' tickets' serving' drawer k st
stage_else log log' tickets tickets' serving serving' drawer k Idle up on none_held h = tt
stage_else log log' tickets tickets' serving serving' drawer k (Waits t) up on none_held h = (on t h.0 h.2, up t h.1, h.2)
stage_else log log' tickets tickets' serving serving' drawer k (Keeps t) up on none_held h = absurd (omega arith)
stage_else log log' tickets tickets' serving serving' drawer k (Holds t known) up on none_held h = absurd (omega arith)

none_some : {M : Type 0} (q : M) → (let z : Option M = None in z) ≡ Some q → ⊥
none_some q e = cc

-- who keeps the next number after a join
joined_maker : (next next' given maker id other : ℕ) → Dec (1 ≤ next') → ¬ (other ≡ id) → (0 < next → (next ≡ given) × (id ≡ maker)) → (0 < next' → (next' ≡ given) × (other ≡ maker))
    → (m : ℕ) × (0 < next + next' → (next + next' ≡ given) × (id ≡ m)) × ((k : ℕ) → k ≢ id → k ≢ other → k ≡ maker → k ≡ m)
joined_maker next next' given maker id other (yes d) ne f g =
    let h = g (omega arith) in let h₀ = h.0 in
    let none_here : next ≡ 0 = dite (dec_le 1 next) (λ l. absurd (ne (h.1 ∙ sym (f (omega arith)).1))) (λ l. omega arith) in
    (id, (λ _. (omega arith, refl)), (λ k a b e. absurd (b (e ∙ sym h.1))))
joined_maker next next' given maker id other (no d) ne f g = (maker, (λ l. let h = f (omega arith) in let h₀ = h.0 in (omega arith, h.1)), (λ k a b e. e))

-- who keeps the next number after a join is not spent
joined_live : (next next' : ℕ) (xs ys : List Account) → (0 < next → 0 < length xs) → (0 < next' → 0 < length ys) → 0 < next + next' → 0 < length (ys ++ xs)
joined_live next next' xs ys f g h =
    let all = length-append ys xs in
    dite (dec_le 1 next) (λ some_left. let k = f (omega (arith, some_left)) in omega (arith, all, k)) (λ none_left. let k = g (omega (arith, none_left, h)) in omega (arith, all, k))

module _ {M : Type 0} (list : M → List Entry) (same : M → M → Type 0) (o : Origin M) where
  abbrev St : Type 0
  St = State (Spot M) (SeatView M)

  abbrev Rule : St → Type 0
  Rule = KeptRule list same o

  abbrev root : M
  root = o.value.value

  -- the tickets are few enough for a word
  low : (s : St) (r : Rule s) → r.tickets + 1 < 2 ^ 64
  low s r =
      let a = total_within draws_of accounts_of (2 ^ 40) s.views (λ j v e. let f = r.each j v e in few_drawn (list root ++ r.added) r.added r.given r.owner j v.accounts f.accounts) in
      let b = r.drawn in let c = r.counted in let d = r.few.0 in let e = r.few.1 in
      omega (arith, a, b, c, d, e)

  word_is : (s : St) (r : Rule s) → get_or s.words 1 0 ≡ r.tickets
  word_is s r = ap (λ ws. get_or ws 1 0) r.words

  pub draws : (slots id : ℕ) (rt : M) (a : Account) (next : ℕ) → a.draws < 2 ^ 40
      → Allows Rule slots id (plain rt a next Idle, []) 1 (λ n. (n + 1) % 2 ^ 64) (drawn (step slots 1 1 0 none) (plain rt a next Idle, []))
  draws slots id rt a next some_left s r deep at fits =
      let v : SeatView M = plain rt a next Idle in let n : ℕ = get_or s.words 1 0 in let w : SeatView M = with_ticket n v in
      let is : n ≡ r.tickets = word_is s r in let more = low s r in
      let log : List Entry = list root ++ r.added in
      let f = r.each id v at in
      let in_order = r.waiting in
      let d : total draws_of (set s.views id w) ≡ r.tickets + 1 = (let t = total_set draws_of s.views id v w at in let q = r.drawn in omega arith) in (
        w,
        keeps,
        tt,
        record {
          added = r.added;
          tickets = r.tickets + 1;
          serving = r.serving;
          given = r.given;
          maker = r.maker;
          owner = r.owner;
          drawer = put r.drawer r.tickets id;
          words = ap (λ ws. set ws 1 ((get_or ws 1 0 + 1) % 2 ^ 64)) r.words ∙ ap (λ (t : ℕ). length log ∷ t ∷ r.serving ∷ []) (mod-eq_of_lt more);
          begun = r.begun;
          few = r.few;
          others = r.others;
          drawn = d;
          counted = (let t = total_set accounts_of s.views id v w at in let q = r.counted in omega arith);
          kept_next = (let k = total_set next_of s.views id v w at in let q = r.kept_next in omega arith);
          waiting = (let t = total_set waits s.views id v w at in omega arith);
          each = each_set (FitsView root log r.added r.given r.maker (r.tickets + 1) r.serving r.owner (put r.drawer r.tickets id)) s.views id w
              record {
                root_is = f.root_is;
                next = f.next;
                live = λ _. omega arith;
                stage = (omega arith, omega arith, ap (put r.drawer r.tickets id) is ∙ put_here r.drawer r.tickets id);
                accounts = (record { below = f.accounts.0.below; owned = f.accounts.0.owned; few = omega arith; seen = f.accounts.0.seen; own = f.accounts.0.own }, tt);
              }
              (λ k u ne e. let g = r.each k u e in record {
                root_is = g.root_is;
                next = g.next;
                live = g.live;
                stage = stage_drawn log r.tickets r.serving r.drawer id k u.stage g.stage;
                accounts = g.accounts;
              });
          slot = (let t = total_set holds_slot s.views id v w at in ⊎_elim (λ h. let h₀ = h.0 in inl (omega arith, h.1)) (λ h. inr (omega arith)) r.slot);
        },
        refl,
      )

  unmoved : (s : St) (r : Rule s) (id i : ℕ) (v : SeatView M) → get_elem? s.views id ≡ some v → set s.words i (get_or s.words i 0) ≡ s.words
      → Rule record { words = set s.words i (get_or s.words i 0); homes = s.homes; views = set s.views id v }
  unmoved s r id i v at words = subst (λ (z : List ℕ × List (SeatView M)). Rule record { words = z.0; homes = s.homes; views = z.1 }) (λ k. (sym words k, sym (set_again s.views id v at) k)) r

  serving_is : (s : St) (r : Rule s) → get_or s.words 2 0 ≡ r.serving
  serving_is s r = ap (λ ws. get_or ws 2 0) r.words

  -- who has a ticket that is served is the only one who may hold the slot
  only_holder : (s : St) (r : Rule s) (id t : ℕ) (v : SeatView M) → get_elem? s.views id ≡ some v → r.drawer t ≡ id → t ≡ r.serving → 0 < total holds_slot s.views → 0 < holds_slot v
  only_holder s r id t v at mine now some_held =
      let found = total_finds holds_slot s.views some_held in let j = found.0 in let u = found.1 in
      let f = r.each j u found.2 in
      let theirs = holder_of (list root ++ r.added) r.tickets r.serving r.drawer j u.stage f.stage found.3 in
      let here : j ≡ id = sym theirs ∙ (ap r.drawer (sym now) ∙ mine) in
      let one : u ≡ v = some-injective u v (sym found.2 ∙ (ap (get_elem? s.views) here ∙ at)) in
      subst (λ (z : SeatView M). 0 < holds_slot z) one found.3

  pub looks : (slots id : ℕ) (rt : M) (a : Account) (next t : ℕ)
      → Allows Rule slots id (plain rt a next (Waits t), []) 2 (λ n. n) (looked list same (step slots 2 0 0 none) (plain rt a next (Waits t), []))
  looks slots id rt a next t s r deep at fits =
      let v : SeatView M = plain rt a next (Waits t) in let n : ℕ = get_or s.words 2 0 in
      let is : n ≡ r.serving = serving_is s r in
      let log : List Entry = list root ++ r.added in
      let f = r.each id v at in let mine = f.stage.2 in let below = f.stage.1 in
      let words : set s.words 2 n ≡ s.words = ap (λ ws. set ws 2 (get_or ws 2 0)) r.words ∙ sym r.words in
      let same_root : rt ≡ root = f.root_is rt refl in
      dite (ℕ_discrete n t)
      (λ now. ⊎_elim
      (λ (h : (total holds_slot s.views ≡ 0) × AtHome list same root log s.homes).
      let x = h.1.0 in let none_held = h.0 in let w : SeatView M = with_turn (list x) v in (
        w,
        takes 0 (Home x),
        h.1.1,
        record {
          added = r.added;
          tickets = r.tickets;
          serving = r.serving;
          given = r.given;
          maker = r.maker;
          owner = r.owner;
          drawer = r.drawer;
          words = words ∙ r.words;
          begun = r.begun;
          few = r.few;
          others = r.others;
          drawn = (let k = total_set draws_of s.views id v w at in let q = r.drawn in omega arith);
          counted = (let k = total_set accounts_of s.views id v w at in let q = r.counted in omega arith);
          kept_next = (let k = total_set next_of s.views id v w at in let q = r.kept_next in omega arith);
          waiting = (let k = total_set waits s.views id v w at in let q = r.waiting in omega arith);
          each = each_set (FitsView root log r.added r.given r.maker r.tickets r.serving r.owner r.drawer) s.views id w
              record {
                root_is = f.root_is;
                next = f.next;
                live = λ _. omega arith;
                stage = (omega arith, below, mine, h.1.2);
                accounts = f.accounts;
              }
              (λ k u ne e. r.each k u e);
          slot = inr (let k = total_set holds_slot s.views id v w at in omega arith);
        },
        (
          (λ _. (
            x,
            refl,
            (λ q e. subst (λ (z : M). same z x) (sym same_root ∙ ap (λ (z : Option M). unwrap_or z rt) e) h.1.3),
            (subst (IsPrefix a.seen) (sym h.1.2) f.accounts.0.seen, tt),
          )),
          (λ ne. absurd (ne now)),
        ),
      ))
      (λ held. let z = only_holder s r id t v at mine (omega arith) (omega arith) in absurd (omega arith))
      r.slot)
      (λ other. (v, keeps, tt, unmoved s r id 2 v at words, ((λ e. absurd (other e)), λ _. refl)))

  pub counts : (slots id : ℕ) (v : SeatView M) → Allows Rule slots id (v, []) 1 (λ n. n) (counted (step slots 1 0 0 none) (v, []))
  counts slots id v s r deep at fits =
      let words : set s.words 1 (get_or s.words 1 0) ≡ s.words = ap (λ ws. set ws 1 (get_or ws 1 0)) r.words ∙ sym r.words in (v, keeps, tt, unmoved s r id 1 v at words, refl)

  -- no other seat is served
  apart : (s : St) (r : Rule s) (id k t : ℕ) (st : Stage) → k ≢ id → r.drawer t ≡ id → t ≡ r.serving → FitsStage (list root ++ r.added) r.tickets r.serving r.drawer k st → is_served st ≡ 0
  apart s r id k t Idle ne mine now h = refl
  apart s r id k t (Waits u) ne mine now h = refl
  apart s r id k t (Keeps u) ne mine now h = absurd (ne (sym h.2 ∙ (ap r.drawer (h.0 ∙ sym now) ∙ mine)))
  apart s r id k t (Holds u known) ne mine now h = absurd (ne (sym h.2 ∙ (ap r.drawer (h.0 ∙ sym now) ∙ mine)))

  pub adds : (slots id : ℕ) (rt : M) (a : Account) (next t : ℕ) (known : List Entry) (y : M) (q : ℕ) (e : Entry) (z : Rattle.std.specs.declared.snapshot.Snapshot.Snapshot M) → z.value ≡ y → list y ≡ known ++ e ∷ [] → e.who.worker ≡ a.number → length (list y) < 2 ^ 64
      → Allows Rule slots id (plain rt a next (Holds t known), (q, Told z) ∷ []) 0 (λ n. (n + 1) % 2 ^ 64) (added list (step slots 0 1 0 none) (plain rt a next (Holds t known), (q, Told z) ∷ []))
  adds slots id rt a next t known y q e z told_is longer by fits_word s r deep at fits =
      let v : SeatView M = plain rt a next (Holds t known) in
      let f = r.each id v at in let mine = f.stage.2 in let now = f.stage.0 in let below = f.stage.1 in let knows = f.stage.3 in
      let log : List Entry = list root ++ r.added in let added' : List Entry = r.added ++ e ∷ [] in let log' : List Entry = list root ++ added' in
      let long : log' ≡ log ++ e ∷ [] = sym (append_assoc (list root) r.added (e ∷ [])) in
      let xs : List Entry = list z.value in
      let xs_is : xs ≡ known ++ e ∷ [] = ap list told_is ∙ longer in
      let xs_log : xs ≡ log' = xs_is ∙ (ap (λ (l : List Entry). l ++ e ∷ []) knows ∙ sym long) in
      let more : drop (length known) xs ≡ e ∷ [] = ap (drop (length known)) xs_is ∙ drop-append_seam known (e ∷ []) in
      let w : SeatView M = grown xs v in
      let len : length log' ≡ length log + 1 = ap length long ∙ length-append log (e ∷ []) in
      let len_y : length (list y) ≡ length log + 1 = ap length longer ∙ (length-append known (e ∷ []) ∙ ap (λ (l : List Entry). length l + 1) knows) in
      let one : part a.number (e ∷ []) ≡ e ∷ [] = ap (λ b. cond b (e ∷ []) []) (eq-eqb e.who.worker a.number by) in
      let none_of : (m : ℕ) → m ≢ a.number → part m added' ≡ part m r.added = λ m ne. filter-append (λ (x : Entry). x.who.worker == m) r.added (e ∷ [])
      ∙ (ap (λ b. part m r.added ++ cond b (e ∷ []) []) (ne_eqb e.who.worker m (λ same_number. ne (sym same_number ∙ by))) ∙ append-nil (part m r.added)) in
      let own : a.own ++ drop (length known) xs ≡ part a.number added' = ap (λ (l : List Entry). a.own ++ l) more ∙ (ap (λ (l : List Entry). l ++ e ∷ []) f.accounts.0.own
      ∙ (ap (λ (l : List Entry). part a.number r.added ++ l) (sym one) ∙ sym (filter-append (λ (x : Entry). x.who.worker == a.number) r.added (e ∷ [])))) in
      let holds_now = total_at holds_slot s.views id v at in (
        w,
        keeps,
        tt,
        record {
          added = added';
          tickets = r.tickets;
          serving = r.serving;
          given = r.given;
          maker = r.maker;
          owner = r.owner;
          drawer = r.drawer;
          words = ap (λ ws. set ws 0 ((get_or ws 0 0 + 1) % 2 ^ 64)) r.words ∙ ap (λ (k : ℕ). k ∷ r.tickets ∷ r.serving ∷ []) (mod-eq_of_lt (omega arith) ∙ sym len);
          begun = r.begun;
          few = r.few;
          others = λ m far. none_of m (λ ne. let b = f.accounts.0.below in omega arith) ∙ r.others m far;
          drawn = (let k = total_set draws_of s.views id v w at in let d = r.drawn in omega arith);
          counted = (let k = total_set accounts_of s.views id v w at in let d = r.counted in omega arith);
          kept_next = (let k = total_set next_of s.views id v w at in let q = r.kept_next in omega arith);
          waiting = (let k = total_set waits s.views id v w at in let d = r.waiting in omega arith);
          each = each_set (FitsView root log' added' r.given r.maker r.tickets r.serving r.owner r.drawer) s.views id w
              record {
                root_is = f.root_is;
                next = f.next;
                live = λ _. omega arith;
                stage = (now, below, mine, xs_log);
                accounts = (record { below = f.accounts.0.below; owned = f.accounts.0.owned; few = f.accounts.0.few; seen = ([], append-nil xs ∙ xs_log); own = own }, tt);
              }
              (λ k u ne at_k. let g = r.each k u at_k in record {
                root_is = g.root_is;
                next = g.next;
                live = g.live;
                stage = stage_else log log' r.tickets r.tickets r.serving r.serving r.drawer k u.stage (λ _ h. h) (λ _ h _. h) (apart s r id k t u.stage ne mine now g.stage) g.stage;
                accounts = each_maps (FitsAccount log r.added r.given r.owner k) (FitsAccount log' added' r.given r.owner k)
                    (λ b h. record {
                      below = h.below;
                      owned = h.owned;
                      few = h.few;
                      seen = (h.seen.0 ++ e ∷ [], sym (append_assoc b.seen h.seen.0 (e ∷ [])) ∙ (ap (λ (l : List Entry). l ++ e ∷ []) h.seen.1 ∙ sym long));
                      own = h.own ∙ sym (none_of b.number (λ same_number. ne (sym h.owned ∙ (ap r.owner same_number ∙ f.accounts.0.owned))));
                    })
                    u.accounts g.accounts;
              });
          slot = (let k = total_set holds_slot s.views id v w at in ⊎_elim (λ h. let h₀ = h.0 in absurd (omega arith)) (λ h. inr (omega arith)) r.slot);
        },
        refl,
      )

  -- a ticket of another seat is served later than the one that is served now
  far : (s : St) (r : Rule s) (id t t' k : ℕ) → k ≢ id → r.drawer t ≡ id → t ≡ r.serving → r.serving ≤ t' → r.drawer t' ≡ k → r.serving + 1 ≤ t'
  far s r id t t' k ne mine now le d = dite (ℕ_discrete t' r.serving) (λ e. absurd (ne (sym d ∙ (ap r.drawer (e ∙ sym now) ∙ mine)))) (λ e. omega arith)

  pub passes_on : (slots id : ℕ) (rt : M) (a : Account) (next t : ℕ) (known : List Entry) (x : M) → 0 < slots → list x ≡ known → same rt x
      → Allows Rule slots id (plain rt a next (Holds t known), (0, Home x) ∷ []) 2 (λ n. (n + 1) % 2 ^ 64) (passed list (step slots 2 1 0 none) (plain rt a next (Holds t known), (0, Home x) ∷ []))
  passes_on slots id rt a next t known x room keeps_known same_rt s r deep at fits =
      let v : SeatView M = plain rt a next (Holds t known) in
      let f = r.each id v at in let mine = f.stage.2 in let now = f.stage.0 in let below = f.stage.1 in let knows = f.stage.3 in
      let log : List Entry = list root ++ r.added in let w : SeatView M = idling v in let lo = low s r in
      let holds_now = total_at holds_slot s.views id v at in (
        w,
        gives,
        tt,
        record {
          added = r.added;
          tickets = r.tickets;
          serving = r.serving + 1;
          given = r.given;
          maker = r.maker;
          owner = r.owner;
          drawer = r.drawer;
          words = ap (λ ws. set ws 2 ((get_or ws 2 0 + 1) % 2 ^ 64)) r.words ∙ ap (λ (k : ℕ). length log ∷ r.tickets ∷ k ∷ []) (mod-eq_of_lt (omega arith));
          begun = r.begun;
          few = r.few;
          others = r.others;
          drawn = (let k = total_set draws_of s.views id v w at in let d = r.drawn in omega arith);
          counted = (let k = total_set accounts_of s.views id v w at in let d = r.counted in omega arith);
          kept_next = (let k = total_set next_of s.views id v w at in let q = r.kept_next in omega arith);
          waiting = (let k = total_set waits s.views id v w at in let d = r.waiting in omega arith);
          each = each_set (FitsView root log r.added r.given r.maker r.tickets (r.serving + 1) r.owner r.drawer) s.views id w
              record {
                root_is = f.root_is;
                next = f.next;
                live = λ _. omega arith;
                stage = tt;
                accounts = (record { below = f.accounts.0.below; owned = f.accounts.0.owned; few = f.accounts.0.few; seen = ([], append-nil known ∙ knows); own = f.accounts.0.own }, tt);
              }
              (λ k u ne at_k. let g = r.each k u at_k in record {
                root_is = g.root_is;
                next = g.next;
                live = g.live;
                stage = stage_else log log r.tickets r.tickets r.serving (r.serving + 1) r.drawer k u.stage (λ _ h. h) (λ t' h d. far s r id t t' k ne mine now h d) (apart s r id k t u.stage ne mine now g.stage) g.stage;
                accounts = g.accounts;
              });
          slot = (let k = total_set holds_slot s.views id v w at in ⊎_elim (λ h. let h₀ = h.0 in absurd (omega arith))
              (λ h. inl (omega arith, (x, set_here s.homes 0 (some (Home x)) (omega arith), keeps_known ∙ knows, subst (λ (z : M). same z x) (f.root_is rt refl) same_rt))) r.slot);
        },
        (
          refl,
          (λ q e. subst (λ (z : M). IsPrefix (list z) known × Each (λ (b : Account). b.own ≡ part b.number (drop (length (list z)) known)) (a ∷ [])) (sym (f.root_is q e))
              ((r.added, sym knows), (f.accounts.0.own ∙ ap (part a.number) (sym (ap (drop (length (list root))) knows ∙ drop-append_seam (list root) r.added)), tt))),
        ),
      )

  pub stays : (slots id : ℕ) (rt : M) (a : Account) (next t : ℕ) (known : List Entry) (x : M) → 0 < slots → list x ≡ known → same rt x
      → Allows Rule slots id (plain rt a next (Holds t known), (0, Home x) ∷ []) 0 (λ n. n) (stayed list (step slots 0 0 0 none) (plain rt a next (Holds t known), (0, Home x) ∷ []))
  stays slots id rt a next t known x room keeps_known same_rt s r deep at fits =
      let v : SeatView M = plain rt a next (Holds t known) in
      let f = r.each id v at in let mine = f.stage.2 in let now = f.stage.0 in let below = f.stage.1 in let knows = f.stage.3 in
      let log : List Entry = list root ++ r.added in let w : SeatView M = staying v in let n : ℕ = get_or s.words 0 0 in
      let words : set s.words 0 n ≡ s.words = ap (λ ws. set ws 0 (get_or ws 0 0)) r.words ∙ sym r.words in
      let holds_now = total_at holds_slot s.views id v at in (
        w,
        gives,
        tt,
        record {
          added = r.added;
          tickets = r.tickets;
          serving = r.serving;
          given = r.given;
          maker = r.maker;
          owner = r.owner;
          drawer = r.drawer;
          words = words ∙ r.words;
          begun = r.begun;
          few = r.few;
          others = r.others;
          drawn = (let k = total_set draws_of s.views id v w at in let d = r.drawn in omega arith);
          counted = (let k = total_set accounts_of s.views id v w at in let d = r.counted in omega arith);
          kept_next = (let k = total_set next_of s.views id v w at in let q = r.kept_next in omega arith);
          waiting = (let k = total_set waits s.views id v w at in let d = r.waiting in omega arith);
          each = each_set (FitsView root log r.added r.given r.maker r.tickets r.serving r.owner r.drawer) s.views id w
              record {
                root_is = f.root_is;
                next = f.next;
                live = λ _. omega arith;
                stage = (now, below, mine);
                accounts = (record { below = f.accounts.0.below; owned = f.accounts.0.owned; few = f.accounts.0.few; seen = ([], append-nil known ∙ knows); own = f.accounts.0.own }, tt);
              }
              (λ k u ne e. r.each k u e);
          slot = (let k = total_set holds_slot s.views id v w at in ⊎_elim (λ h. let h₀ = h.0 in absurd (omega arith))
              (λ h. inl (omega arith, (x, set_here s.homes 0 (some (Home x)) (omega arith), keeps_known ∙ knows, subst (λ (z : M). same z x) (f.root_is rt refl) same_rt))) r.slot);
        },
        (
          refl,
          (λ q e. subst (λ (z : M). IsPrefix (list z) known × Each (λ (b : Account). b.own ≡ part b.number (drop (length (list z)) known)) (a ∷ [])) (sym (f.root_is q e))
              ((r.added, sym knows), (f.accounts.0.own ∙ ap (part a.number) (sym (ap (drop (length (list root))) knows ∙ drop-append_seam (list root) r.added)), tt))),
        ),
      )

  pub resumes : (slots id : ℕ) (rt : M) (a : Account) (next t : ℕ)
      → Allows Rule slots id (plain rt a next (Keeps t), []) 0 (λ n. n) (resumed list same (step slots 0 0 0 none) (plain rt a next (Keeps t), []))
  resumes slots id rt a next t s r deep at fits =
      let v : SeatView M = plain rt a next (Keeps t) in let n : ℕ = get_or s.words 0 0 in
      let log : List Entry = list root ++ r.added in
      let f = r.each id v at in let now = f.stage.0 in let mine = f.stage.2 in let below = f.stage.1 in
      let words : set s.words 0 n ≡ s.words = ap (λ ws. set ws 0 (get_or ws 0 0)) r.words ∙ sym r.words in
      let same_root : rt ≡ root = f.root_is rt refl in
      ⊎_elim
      (λ (h : (total holds_slot s.views ≡ 0) × AtHome list same root log s.homes).
      let x = h.1.0 in let none_held = h.0 in let w : SeatView M = with_turn (list x) v in (
        w,
        takes 0 (Home x),
        h.1.1,
        record {
          added = r.added;
          tickets = r.tickets;
          serving = r.serving;
          given = r.given;
          maker = r.maker;
          owner = r.owner;
          drawer = r.drawer;
          words = words ∙ r.words;
          begun = r.begun;
          few = r.few;
          others = r.others;
          drawn = (let k = total_set draws_of s.views id v w at in let q = r.drawn in omega arith);
          counted = (let k = total_set accounts_of s.views id v w at in let q = r.counted in omega arith);
          kept_next = (let k = total_set next_of s.views id v w at in let q = r.kept_next in omega arith);
          waiting = (let k = total_set waits s.views id v w at in let q = r.waiting in omega arith);
          each = each_set (FitsView root log r.added r.given r.maker r.tickets r.serving r.owner r.drawer) s.views id w
              record {
                root_is = f.root_is;
                next = f.next;
                live = λ _. omega arith;
                stage = (now, below, mine, h.1.2);
                accounts = f.accounts;
              }
              (λ k u ne e. r.each k u e);
          slot = inr (let k = total_set holds_slot s.views id v w at in omega arith);
        },
        (
          x,
          refl,
          (λ q e. subst (λ (z : M). same z x) (sym same_root ∙ ap (λ (z : Option M). unwrap_or z rt) e) h.1.3),
          (subst (IsPrefix a.seen) (sym h.1.2) f.accounts.0.seen, tt),
        ),
      ))
      (λ held. let z = only_holder s r id t v at mine now (omega arith) in absurd (omega arith))
      r.slot

  pub releases : (slots id : ℕ) (rt : M) (a : Account) (next t : ℕ)
      → Allows Rule slots id (plain rt a next (Keeps t), []) 2 (λ n. (n + 1) % 2 ^ 64) (released (step slots 2 1 0 none) (plain rt a next (Keeps t), []))
  releases slots id rt a next t s r deep at fits =
      let v : SeatView M = plain rt a next (Keeps t) in
      let f = r.each id v at in let mine = f.stage.2 in let now = f.stage.0 in let below = f.stage.1 in
      let log : List Entry = list root ++ r.added in let w : SeatView M = plain rt a next Idle in let lo = low s r in (
        w,
        keeps,
        tt,
        record {
          added = r.added;
          tickets = r.tickets;
          serving = r.serving + 1;
          given = r.given;
          maker = r.maker;
          owner = r.owner;
          drawer = r.drawer;
          words = ap (λ ws. set ws 2 ((get_or ws 2 0 + 1) % 2 ^ 64)) r.words ∙ ap (λ (k : ℕ). length log ∷ r.tickets ∷ k ∷ []) (mod-eq_of_lt (omega arith));
          begun = r.begun;
          few = r.few;
          others = r.others;
          drawn = (let k = total_set draws_of s.views id v w at in let d = r.drawn in omega arith);
          counted = (let k = total_set accounts_of s.views id v w at in let d = r.counted in omega arith);
          kept_next = (let k = total_set next_of s.views id v w at in let q = r.kept_next in omega arith);
          waiting = (let k = total_set waits s.views id v w at in let d = r.waiting in omega arith);
          each = each_set (FitsView root log r.added r.given r.maker r.tickets (r.serving + 1) r.owner r.drawer) s.views id w
              record {
                root_is = f.root_is;
                next = f.next;
                live = λ _. omega arith;
                stage = tt;
                accounts = f.accounts;
              }
              (λ k u ne at_k. let g = r.each k u at_k in record {
                root_is = g.root_is;
                next = g.next;
                live = g.live;
                stage = stage_else log log r.tickets r.tickets r.serving (r.serving + 1) r.drawer k u.stage (λ _ h. h) (λ t' h d. far s r id t t' k ne mine now h d) (apart s r id k t u.stage ne mine now g.stage) g.stage;
                accounts = g.accounts;
              });
          slot = (let k = total_set holds_slot s.views id v w at in ⊎_elim (λ h. let h₀ = h.0 in inl (omega arith, h.1)) (λ h. inr (omega arith)) r.slot);
        },
        refl,
      )

  pub splits : (id : ℕ) (rt : M) (a : Account) (next : ℕ) → 0 < next → next < o.passes → Splits Rule id (plain rt a next Idle) (split_left (plain rt a next Idle)) (split_right (plain rt a next Idle))
  splits id rt a next live room s r at =
      let v : SeatView M = plain rt a next Idle in let left : SeatView M = split_left v in let right : SeatView M = split_right v in
      let log : List Entry = list root ++ r.added in
      let f = r.each id v at in let is = (f.next live).0 in let makes = (f.next live).1 in
      let owner' : ℕ → ℕ = put r.owner r.given (length s.views) in
      let cut : List (SeatView M) = set s.views id left in
      let kept_accounts : (k : ℕ) (xs : List Account) → Each (FitsAccount log r.added r.given r.owner k) xs → Each (FitsAccount log r.added (r.given + 1) owner' k) xs
      = λ k xs. each_maps (FitsAccount log r.added r.given r.owner k) (FitsAccount log r.added (r.given + 1) owner' k)
      (λ b h. let below = h.below in record { below = omega arith; owned = put_else r.owner r.given (length s.views) b.number (λ e. omega arith) ∙ h.owned; few = h.few; seen = h.seen; own = h.own }) xs in
      record {
        added = r.added;
        tickets = r.tickets;
        serving = r.serving;
        given = r.given + 1;
        maker = r.maker;
        owner = owner';
        drawer = r.drawer;
        words = r.words;
        begun = omega arith;
        few = (let b = r.few in let c = b.0 in let d = b.1 in (omega arith, d));
        others = λ m far. r.others m (omega arith);
        drawn = total_snoc draws_of cut right ∙ (let k = total_set draws_of s.views id v left at in let d = r.drawn in omega arith);
        counted = total_snoc accounts_of cut right ∙ (let k = total_set accounts_of s.views id v left at in let d = r.counted in omega arith);
        kept_next = total_snoc next_of cut right ∙ (let k = total_set next_of s.views id v left at in let d = r.kept_next in omega arith);
        waiting = (let n = total_snoc waits cut right in let k = total_set waits s.views id v left at in let d = r.waiting in omega arith);
        each = λ k u at_k. ⊎_elim
            (each_set (FitsView root log r.added (r.given + 1) r.maker r.tickets r.serving owner' r.drawer) s.views id left
            record {
              root_is = f.root_is;
              next = λ _. (omega arith, makes);
              live = λ _. omega arith;
              stage = tt;
              accounts = kept_accounts id (a ∷ []) f.accounts;
            }
            (λ j z ne at_j. let g = r.each j z at_j in record {
              root_is = g.root_is;
              next = λ h. absurd (ne ((g.next h).1 ∙ sym makes));
              live = g.live;
              stage = g.stage;
              accounts = kept_accounts j z.accounts g.accounts;
            })
            k u)
            (λ (t : (right ≡ u) × (k ≡ length cut)). subst (λ (z : ℕ × SeatView M). FitsView root log r.added (r.given + 1) r.maker r.tickets r.serving owner' r.drawer z.0 z.1) (λ i. (sym t.1 i, t.0 i))
            record {
              root_is = f.root_is;
              next = λ h. absurd (omega arith);
              live = λ h. absurd (omega arith);
              stage = tt;
              accounts = (
                record {
                  below = omega arith;
                  owned = ap owner' is ∙ (put_here r.owner r.given (length s.views) ∙ sym (length-set s.views id left));
                  few = omega arith;
                  seen = f.accounts.0.seen;
                  own = sym (r.others next (omega arith));
                },
                tt,
              );
            })
            (at_end cut right u k at_k);
        slot = (let n = total_snoc holds_slot cut right in let k = total_set holds_slot s.views id v left at in ⊎_elim (λ h. let h₀ = h.0 in inl (omega arith, h.1)) (λ h. inr (omega arith)) r.slot);
      }

  -- the view of a seat that joins others
  abbrev many : M → List Account → ℕ → SeatView M
  many rt xs next = record { root = Some rt; next = next; stage = Idle; accounts = xs }

  pub joins : (id other : ℕ) (rt rt' : M) (xs ys : List Account) (next next' : ℕ) → Joins Rule id (many rt xs next) other (many rt' ys next') (joined (many rt xs next) (many rt' ys next')) spent_view
  joins id other rt rt' xs ys next next' s r at ne at_other =
      let v : SeatView M = many rt xs next in let w : SeatView M = many rt' ys next' in let both : SeatView M = joined v w in let spent : SeatView M = spent_view in
      let log : List Entry = list root ++ r.added in
      let f = r.each id v at in
      let there : get_elem? s.views other ≡ some w = sym (set_else s.views id other both ne) ∙ at_other in
      let g = r.each other w there in
      let owner' : ℕ → ℕ = λ n. cond (eqb (r.owner n) other) id (r.owner n) in
      let m = joined_maker next next' r.given r.maker id other (dec_le 1 next') ne f.next g.next in
      let cut : List (SeatView M) = set s.views id both in let end : List (SeatView M) = set cut other spent in
      let sum_is : (h : SeatView M → ℕ) → h both ≡ h v + h w → h spent ≡ 0 → total h end ≡ total h s.views
      = λ h whole none_left. let p = total_set h s.views id v both at in let q = total_set h cut other w spent at_other in omega arith in
      let stays : (k : ℕ) (zs : List Account) → k ≢ other → Each (FitsAccount log r.added r.given r.owner k) zs → Each (FitsAccount log r.added r.given owner' k) zs
      = λ k zs apart_k. each_maps (FitsAccount log r.added r.given r.owner k) (FitsAccount log r.added r.given owner' k)
      (λ b h. record { below = h.below; owned = ap (λ q. cond q id (r.owner b.number)) (ne_eqb (r.owner b.number) other (λ e. apart_k (sym h.owned ∙ e))) ∙ h.owned; few = h.few; seen = h.seen; own = h.own }) zs in
      let comes : (zs : List Account) → Each (FitsAccount log r.added r.given r.owner other) zs → Each (FitsAccount log r.added r.given owner' id) zs
      = λ zs. each_maps (FitsAccount log r.added r.given r.owner other) (FitsAccount log r.added r.given owner' id)
      (λ b h. record { below = h.below; owned = ap (λ q. cond q id (r.owner b.number)) (eq-eqb (r.owner b.number) other h.owned); few = h.few; seen = h.seen; own = h.own }) zs in
      record {
        added = r.added;
        tickets = r.tickets;
        serving = r.serving;
        given = r.given;
        maker = m.0;
        owner = owner';
        drawer = r.drawer;
        words = r.words;
        begun = r.begun;
        few = r.few;
        others = r.others;
        drawn = sum_is draws_of (total-append (λ (b : Account). b.draws) ys xs ∙ (let x : ℕ = total (λ (b : Account). b.draws) xs in let y : ℕ = total (λ (b : Account). b.draws) ys in omega arith)) refl ∙ r.drawn;
        counted = sum_is accounts_of (length-append ys xs ∙ (let x : ℕ = length xs in let y : ℕ = length ys in omega arith)) refl ∙ r.counted;
        kept_next = sum_is next_of refl refl ∙ r.kept_next;
        waiting = ap (λ (k : ℕ). r.serving + k) (sum_is waits refl refl) ∙ r.waiting;
        each = each_set (FitsView root log r.added r.given m.0 r.tickets r.serving owner' r.drawer) cut other spent
            record {
              root_is = λ q e. absurd (none_some q e);
              next = λ h. absurd (omega arith);
              live = λ h. absurd (omega arith);
              stage = tt;
              accounts = tt;
            }
            (λ k u away at_k. each_set (λ (j : ℕ) (z : SeatView M). j ≢ other → FitsView root log r.added r.given m.0 r.tickets r.serving owner' r.drawer j z) s.views id both
            (λ _. record {
              root_is = f.root_is;
              next = m.1;
              live = λ h. joined_live next next' xs ys (λ l. f.live (omega (arith, l))) (λ l. g.live (omega (arith, l))) (omega (arith, h));
              stage = tt;
              accounts = each-append (FitsAccount log r.added r.given owner' id) ys xs (comes ys g.accounts) (stays id xs (λ e. ne (sym e)) f.accounts);
            })
            (λ j z apart_j at_j away_j. let h = r.each j z at_j in record {
              root_is = h.root_is;
              next = λ l. ((h.next l).0, m.2 j apart_j away_j (h.next l).1);
              live = h.live;
              stage = h.stage;
              accounts = stays j z.accounts away_j h.accounts;
            })
            k u at_k away);
        slot = ⊎_elim (λ h. inl (sum_is holds_slot refl refl ∙ h.0, h.1)) (λ h. inr (sum_is holds_slot refl refl ∙ h)) r.slot;
      }

  pub starts : (x : M) → root ≡ x → same root x → 1 ≤ o.passes → o.passes ≤ 8 → Rule (opening (length (list x) ∷ 0 ∷ 0 ∷ []) (Home x ∷ []) (first_view list o))
  starts x is same_root some_pass few = let v : SeatView M = first_view list o in let all : list root ++ [] ≡ list x = append-nil (list root) ∙ ap list is in record {
    added = [];
    tickets = 0;
    serving = 0;
    given = 1;
    maker = 0;
    owner = λ _. 0;
    drawer = λ _. 0;
    words = ap (λ (l : List Entry). length l ∷ 0 ∷ 0 ∷ []) (sym all);
    begun = omega arith;
    few = (some_pass, few);
    others = λ _ _. refl;
    drawn = refl;
    counted = refl;
    kept_next = refl;
    waiting = refl;
    each = λ k u e. ⊎_elim (λ (z : get_elem? [] k ≡ some u). absurd (some-ne-none u (sym z)))
        (λ (z : (v ≡ u) × (k ≡ 0)). subst (λ (y : ℕ × SeatView M). FitsView root (list root ++ []) [] 1 0 0 0 (λ _. 0) (λ _. 0) y.0 y.1) (λ i. (sym z.1 i, z.0 i))
        record {
          root_is = λ r e. sym (ap (λ (q : Option M). unwrap_or q root) e);
          next = λ _. (refl, refl);
          live = λ _. omega arith;
          stage = tt;
          accounts = (record { below = omega arith; owned = refl; few = omega arith; seen = ([], refl); own = refl }, tt);
        })
        (at_end [] v u k e);
    slot = inl (refl, (x, refl, sym all, same_root));
  }

  has_owner : (log added : List Entry) (given : ℕ) (owner : ℕ → ℕ) (id n : ℕ) (xs : List Account) → Each (FitsAccount log added given owner id) xs → Has n xs → owner n ≡ id
  has_owner log added given owner id n [] e h = absurd h
  has_owner log added given owner id n (x ∷ xs) e h = ⊎_elim (λ (q : x.number ≡ n). sym (ap owner q) ∙ e.0.owned) (λ (q : Has n xs). has_owner log added given owner id n xs e.1 q) h

  first_of : (log added : List Entry) (given : ℕ) (owner : ℕ → ℕ) (id : ℕ) (xs : List Account) → 0 < length xs → Each (FitsAccount log added given owner id) xs → (n : ℕ) × (n < given) × (owner n ≡ id)
  first_of log added given owner id [] l e = absurd (omega arith)
  first_of log added given owner id (x ∷ xs) l e = (x.number, e.0.below, e.0.owned)

  holding_waits : (st : Stage) → 0 < is_holding st → 0 < is_waiting st
  holding_waits Idle h = h
  holding_waits (Waits t) h = omega arith
  holding_waits (Keeps t) h = omega arith
  holding_waits (Holds t known) h = h

  pub ends : (s : St) (r : Rule s) (id : ℕ) (v : SeatView M) → get_elem? s.views id ≡ some v → v.stage ≡ Idle → ((n : ℕ) → n < o.passes → Has n v.accounts)
      → (x : M) × (get_elem? s.homes 0 ≡ some (some (Home x))) × EndsPasses list same root o.passes v.accounts x
  ends s r id v at idle covers =
      let f = r.each id v at in let log : List Entry = list root ++ r.added in
      ⊎_elim
      (λ (h : (total holds_slot s.views ≡ 0) × AtHome list same root log s.homes).
      let x = h.1.0 in let is : list x ≡ log = h.1.2 in
      let tail : drop (length (list root)) (list x) ≡ r.added = ap (drop (length (list root))) is ∙ drop-append_seam (list root) r.added in (
        x,
        h.1.1,
        record {
          root_is = h.1.3;
          first = (r.added, sym is);
          each = each_maps (FitsAccount log r.added r.given r.owner id) (λ (a : Account). IsPrefix a.seen (list x) × (a.own ≡ part a.number (drop (length (list root)) (list x))))
              (λ a g. ((g.seen.0, g.seen.1 ∙ sym is), g.own ∙ ap (part a.number) (sym tail))) v.accounts f.accounts;
          others = λ n far. ap (part n) tail ∙ r.others n (let q = r.few.0 in omega arith);
        },
      ))
      (λ held. let found = total_finds holds_slot s.views (omega arith) in let j = found.0 in let u = found.1 in let g = r.each j u found.2 in
      let own = first_of log r.added r.given r.owner j u.accounts (g.live (let w = holding_waits u.stage found.3 in omega (arith, w))) g.accounts in let own_low = own.1 in let few = r.few.0 in
      let here : j ≡ id = sym own.2 ∙ has_owner log r.added r.given r.owner id own.0 v.accounts f.accounts (covers own.0 (omega arith)) in
      let one : u ≡ v = some-injective u v (sym found.2 ∙ (ap (get_elem? s.views) here ∙ at)) in
      let none_held : holds_slot u ≡ 0 = ap holds_slot one ∙ ap is_holding idle in let some_held = found.3 in
      absurd (omega arith))
      r.slot
