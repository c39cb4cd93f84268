-- A legal history of a safe policy goes on with each move, and with ticks to a minute.
use Rattle.std.proofs.Common.{◌≡◌, ℕ, zero, suc, ◌+◌, ◌-◌, ◌<◌, ◌≤◌, Bool, true, false, List, [], ◌∷◌, ◌++◌, length, map, ◌⊎◌, inl, inr, refl, sym, ◌∙◌, ap, subst, arith, append_assoc, append-nil, length-append, MatchBool}
use Rattle.std.proofs.lemmas.Bool.{leb-true, leb-false}
use Rattle.std.specs.Prelude.{nat_le}
use Rattle.gt_base.specs.Machines.{ticked, asked}
use Rattle.gt_base.specs.declared.requests.Actor.{Actor}
use Rattle.gt_base.specs.declared.requests.Request.{Request}
use Rattle.gt_base.specs.declared.requests.Reply.{Reply}
use Rattle.gt_base.specs.declared.requests.Who.{Who}
use Rattle.gt_base.specs.declared.requests.Entry.{Entry}
use Rattle.gt_base.specs.declared.requests.Step.{Step}
use Rattle.gt_base.specs.declared.requests.Step.TheVariants.{Tick, Ask}
use Rattle.gt_base.specs.declared.limits.TheConstants.{MAX_STEPS}
use Rattle.gtrbac_model.specs.Policy.{Policy}
use Rattle.gtrbac_model.specs.Safety.{IsSafe}
use Rattle.gtrbac_model.specs.Status.{Model}
use Rattle.gtrbac_model.specs.History.{Legal, now_of, moved, tick, ask, Move, IsMadeOf, is_idle, AreMadeOf}
use Rattle.gtrbac_model.proofs.Elements.{split}
use Rattle.gtrbac_tool.specs.Script.{scripts_who, AreTicks}
use Rattle.gtrbac_tool.proofs.OneHistory.{move_of, made, front_legal, once}

-- entries that are moves, in two parts

abbrev FirstMade : ℕ → Move → List Move → Entry → List Entry → Type 0
FirstMade now q qs e es = (e.who ≡ q.who) × IsMadeOf q.what e.what × AreMadeOf (moved now e.what) qs es

made_idle : (now : ℕ) (q : Move) (qs : List Move) (es : List Entry) → is_idle now q.what ≡ true → AreMadeOf now qs es → AreMadeOf now (q ∷ qs) es
made_idle now q qs [] idle made = (idle, made)
made_idle now q qs (e ∷ es) idle made = subst (λ (b : Bool). MatchBool b (AreMadeOf now qs (e ∷ es)) (FirstMade now q qs e es)) (sym idle) made

made_first : (now : ℕ) (q : Move) (qs : List Move) (e : Entry) (es : List Entry) → is_idle now q.what ≡ false → FirstMade now q qs e es → AreMadeOf now (q ∷ qs) (e ∷ es)
made_first now q qs e es busy made = subst (λ (b : Bool). MatchBool b (AreMadeOf now qs (e ∷ es)) (FirstMade now q qs e es)) (sym busy) made

first_made : (now : ℕ) (q : Move) (qs : List Move) (e : Entry) (es : List Entry) → is_idle now q.what ≡ false → AreMadeOf now (q ∷ qs) (e ∷ es) → FirstMade now q qs e es
first_made now q qs e es busy made = subst (λ (b : Bool). MatchBool b (AreMadeOf now qs (e ∷ es)) (FirstMade now q qs e es)) busy made

record Cut (now : ℕ) (qs rs : List Move) (h : List Entry) : Type 0 where
  pub front : List Entry
  pub back : List Entry
  pub parts : h ≡ front ++ back
  pub of_front : AreMadeOf now qs front
  pub of_back : AreMadeOf (now_of now front) rs back

idle_cut : (now : ℕ) (q : Move) (qs rs : List Move) (h : List Entry) → is_idle now q.what ≡ true → Cut now qs rs h → Cut now (q ∷ qs) rs h
idle_cut now q qs rs h idle c = record { front = c.front; back = c.back; parts = c.parts; of_front = made_idle now q qs c.front idle c.of_front; of_back = c.of_back }

busy_cut : (now : ℕ) (q : Move) (qs rs : List Move) (e : Entry) (es : List Entry) → is_idle now q.what ≡ false → e.who ≡ q.who → IsMadeOf q.what e.what → Cut (moved now e.what) qs rs es → Cut now (q ∷ qs) rs (e ∷ es)
busy_cut now q qs rs e es busy who what c =
    record {
      front = e ∷ c.front;
      back = c.back;
      parts = ap (λ (xs : List Entry). e ∷ xs) c.parts;
      of_front = made_first now q qs e c.front busy (who, what, c.of_front);
      of_back = c.of_back;
    }

cut : (qs rs : List Move) (now : ℕ) (h : List Entry) → AreMadeOf now (qs ++ rs) h → Cut now qs rs h
cut [] rs now h made = record { front = []; back = h; parts = refl; of_front = tt; of_back = made }
cut (q ∷ qs) rs now [] made = idle_cut now q qs rs [] made.0 (cut qs rs now [] made.1)
cut (q ∷ qs) rs now (e ∷ es) made =
    split (is_idle now q.what)
    (λ idle. idle_cut now q qs rs (e ∷ es) idle (cut qs rs now (e ∷ es) (subst (λ (b : Bool). MatchBool b (AreMadeOf now (qs ++ rs) (e ∷ es)) (FirstMade now q (qs ++ rs) e es)) idle made)))
    (λ busy. let f = first_made now q (qs ++ rs) e es busy made in busy_cut now q qs rs e es busy f.0 f.1 (cut qs rs (moved now e.what) es f.2))

-- an entry that is a tick, or a request with a reply

by_tick : (upto : ℕ) (who : Who) (w : Step) → who ≡ scripts_who → IsMadeOf (tick upto) w → (to : ℕ) × (record { who = who; what = w } ≡ ticked scripts_who upto to)
by_tick upto who (Tick u v) is made = (v, λ i. record { who = is i; what = Tick (made i) v })
by_tick upto who (Ask actor request reply) is made = absurd made

by_ask : (actor : Actor) (request : Request) (who : Who) (w : Step) → who ≡ scripts_who → IsMadeOf (ask actor request) w → (reply : Reply) × (record { who = who; what = w } ≡ asked scripts_who actor request reply)
by_ask actor request who (Tick u v) is made = absurd made
by_ask actor request who (Ask a r reply) is made = (reply, λ i. record { who = is i; what = Ask (made.0 i) (made.1 i) reply })

busy_clash : (b : Bool) → b ≡ true → b ≡ false → ⊥
busy_clash true p q = cc (q)
busy_clash false p q = cc (p)

-- ticks that lead to a minute, or fill the history before
pub record TicksOn (p : Policy) (birth minute : ℕ) (g : List Entry) : Type 0 where
  pub ticks : List Entry
  pub model : Model
  pub are_ticks : AreTicks minute ticks
  pub legal : Legal p birth (g ++ ticks) model
  pub short : length (g ++ ticks) ≤ MAX_STEPS
  pub done : (minute ≤ now_of birth (g ++ ticks)) ⊎ ((now_of birth (g ++ ticks) < minute) × (length (g ++ ticks) ≡ MAX_STEPS))

module _ (p : Policy) (birth : ℕ) where
  pub record Next (g : List Entry) (q : Move) : Type 0 where
    pub entry : Entry
    pub model : Model
    pub legal : Legal p birth (g ++ entry ∷ []) model
    pub who : entry.who ≡ q.who
    pub what : IsMadeOf q.what entry.what

  last : (g : List Entry) (q : Move) (back : List Entry) (n : Model) → Legal p birth (g ++ back) n → is_idle (now_of birth g) q.what ≡ false → AreMadeOf (now_of birth g) (q ∷ []) back → Next g q
  last g q [] n legal busy made = absurd (busy_clash (is_idle (now_of birth g) q.what) made.0 busy)
  last g q (e ∷ []) n legal busy made = let f = first_made (now_of birth g) q [] e [] busy made in record { entry = e; model = n; legal = legal; who = f.0; what = f.1 }
  last g q (e ∷ x ∷ xs) n legal busy made = let f = first_made (now_of birth g) q [] e (x ∷ xs) busy made in absurd f.2

  module _ (safe : IsSafe p.triggers) where
    pub next : (g : List Entry) (m : Model) → Legal p birth g m → (q : Move) → is_idle (now_of birth g) q.what ≡ false → Next g q
    next g m legal q busy =
        let played = once p birth safe (map move_of g ++ q ∷ []) in
        let parted = cut (map move_of g) (q ∷ []) birth played.history played.plays.made in
        let n : Model = played.model in
        let whole : Legal p birth (parted.front ++ parted.back) n = subst (λ (k : List Entry). Legal p birth k n) parted.parts played.plays.legal in
        let one = once p birth safe (map move_of g) in
        let of_front = one.only parted.front n (record { legal = front_legal p birth n parted.front parted.back whole; made = parted.of_front }) in
        let of_g = one.only g m (record { legal = legal; made = made p birth m [] g legal.steps }) in
        let same : parted.front ≡ g = of_front.0 ∙ sym of_g.0 in
        last g q parted.back n (subst (λ (k : List Entry). Legal p birth (k ++ parted.back) n) same whole) busy (subst (λ (k : List Entry). AreMadeOf (now_of birth k) (q ∷ []) parted.back) same parted.of_back)

    -- a request has its reply
    pub asks_on : (g : List Entry) (m : Model) → Legal p birth g m → (actor : Actor) (request : Request) → (reply : Reply) × (n : Model) × Legal p birth (g ++ asked scripts_who actor request reply ∷ []) n
    asks_on g m legal actor request =
        let e = next g m legal (record { who = scripts_who; what = ask actor request }) refl in
        let is = by_ask actor request e.entry.who e.entry.what e.who e.what in
        (is.0, e.model, subst (λ (x : Entry). Legal p birth (g ++ x ∷ []) e.model) is.1 e.legal)

    none_yet : (minute : ℕ) (g : List Entry) (m : Model) → Legal p birth g m → length g ≤ MAX_STEPS → (minute ≤ now_of birth g) ⊎ ((now_of birth g < minute) × (length g ≡ MAX_STEPS)) → TicksOn p birth minute g
    none_yet minute g m legal short done =
        let same : g ≡ g ++ [] = sym (append-nil g) in
        record {
          ticks = [];
          model = m;
          are_ticks = tt;
          legal = subst (λ (k : List Entry). Legal p birth k m) same legal;
          short = subst (λ (k : List Entry). length k ≤ MAX_STEPS) same short;
          done = subst (λ (k : List Entry). (minute ≤ now_of birth k) ⊎ ((now_of birth k < minute) × (length k ≡ MAX_STEPS))) same done;
        }

    one_more : (minute : ℕ) (g : List Entry) (e : Entry) → ((to : ℕ) × (e ≡ ticked scripts_who minute to)) → TicksOn p birth minute (g ++ e ∷ []) → TicksOn p birth minute g
    one_more minute g e is on =
        let same : (g ++ e ∷ []) ++ on.ticks ≡ g ++ e ∷ on.ticks = append_assoc g (e ∷ []) on.ticks in
        record {
          ticks = e ∷ on.ticks;
          model = on.model;
          are_ticks = (is, on.are_ticks);
          legal = subst (λ (k : List Entry). Legal p birth k on.model) same on.legal;
          short = subst (λ (k : List Entry). length k ≤ MAX_STEPS) same on.short;
          done = subst (λ (k : List Entry). (minute ≤ now_of birth k) ⊎ ((now_of birth k < minute) × (length k ≡ MAX_STEPS))) same on.done;
        }

    ticks_on : (minute k : ℕ) (g : List Entry) (m : Model) → Legal p birth g m → length g + k ≡ MAX_STEPS → TicksOn p birth minute g
    ticks_on minute zero g m legal room =
        split (nat_le minute (now_of birth g))
        (λ there. none_yet minute g m legal (omega (arith, room)) (inl (leb-true minute (now_of birth g) there)))
        (λ early. none_yet minute g m legal (omega (arith, room)) (inr (leb-false minute (now_of birth g) early, omega (arith, room))))
    ticks_on minute (suc k) g m legal room =
        split (nat_le minute (now_of birth g))
        (λ there. none_yet minute g m legal (omega (arith, room)) (inl (leb-true minute (now_of birth g) there)))
        (λ early.
        let e = next g m legal (record { who = scripts_who; what = tick minute }) early in
        one_more minute g e.entry (by_tick minute e.entry.who e.entry.what e.who e.what)
        (ticks_on minute k (g ++ e.entry ∷ []) e.model e.legal (omega (arith, room, length-append g (e.entry ∷ [])))))

pub ticks_go_on : (p : Policy) (birth : ℕ) → IsSafe p.triggers → (minute : ℕ) (g : List Entry) (m : Model) → Legal p birth g m → length g ≤ MAX_STEPS → TicksOn p birth minute g
ticks_go_on p birth safe minute g m legal short =
    let k : ℕ = MAX_STEPS - length g in
    ticks_on p birth safe minute k g m legal (omega (arith, short))
