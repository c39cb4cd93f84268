-- A certificate held against a history, step by step.
use Rattle.std.proofs.Common.{◌≡◌, ℕ, ◌-◌, ◌<◌, ◌≤◌, true, false, nat_eq, nat_le, nat_lt, List, [], ◌∷◌, ◌++◌, Option, Some, None, IsTrue, inl, inr, refl, sym, ◌∙◌, subst, arith, append_assoc, ap}
use Rattle.std.specs.Prelude.{All}
use Rattle.std.proofs.lemmas.Bool.{ltb-true, leb-true, leb-false, eqb-true, eqb-false}
use Rattle.std.proofs.lemmas.List.Elements.{All-push, All-tail, All-head}
use Rattle.gt_base.specs.Happening.{HappenedView, nothing}
use Rattle.gt_base.specs.Machines.{ticked, asked}
use Rattle.gt_base.specs.declared.events.Signal.{Signal}
use Rattle.gt_base.specs.Sets.{has}
use Rattle.gt_base.specs.declared.requests.Who.{Who}
use Rattle.gt_base.specs.declared.requests.Actor.{Actor}
use Rattle.gt_base.specs.declared.requests.Request.{Request}
use Rattle.gt_base.specs.declared.requests.Reply.{Reply}
use Rattle.gt_base.specs.declared.requests.Entry.{Entry}
use Rattle.gt_base.specs.declared.limits.TheConstants.{LAST_MINUTE}
use Rattle.gtrbac_model.specs.Policy.{Policy}
use Rattle.gtrbac_model.specs.Base.{status, base_at, table_at}
use Rattle.gtrbac_model.specs.History.{Legal, now_of, point_after}
use Rattle.gtrbac_model.specs.Reply.{Point, answer, reply_of, unless, actor_causes}
use Rattle.gtrbac_model.specs.Safety.{IsSafe}
use Rattle.gtrbac_model.specs.Status.{Model}
use Rattle.gtrbac_model.specs.WholePolicy.{IsPolicy}
use Rattle.gtrbac_model.proofs.Elements.{split}
use Rattle.gtrbac_model.proofs.Playing.{now_snoc}
use Rattle.history_laws.proofs.Lasting.{of_longer, front_steps, steps_after}
use Rattle.session_table.specs.Tables.{table_of}
use Rattle.why_check.specs.Certificates.{Listed, set_in, says_something, listed_at, ListedAscend, IsShown, IsRight, Accepts}
use Rattle.why_check.specs.Kept.{IsAnsweredAt, table_in, IsClosed, IsAsked, IsGood, base_in}
use Rattle.why_check.specs.Steps.{IsWrong}
use Rattle.why_check.specs.declared.replays.Replay.{Replay}
use Rattle.why_check.proofs.Uniqueness.{right_is, right_of, accepts_of, shown_over_nothing}
use Rattle.why_check.proofs.Ascending.{at_first, none_before, none_after, later_than, listed_there, not_in_front, rest_decides, back, ascends_more, ascends_on, front_stays}
use Rattle.why_check.proofs.Stopping as stopping
use Rattle.why_check.proofs.Answering.{replay_asked}
use Rattle.why_check.proofs.Replaying.{IsReplay, HasReached}

-- the history up to an entry is legal
pub legal_front : (p : Policy) (birth : ℕ) (m : Model) (g rest : List Entry) (e : Entry) → Legal p birth (g ++ e ∷ rest) m → Legal p birth (g ++ e ∷ []) m
legal_front p birth m g rest e legal =
    let longer : Legal p birth ((g ++ e ∷ []) ++ rest) m = subst (λ k. Legal p birth k m) (sym (append_assoc g (e ∷ []) rest)) legal in
    record { model = of_longer p birth m (g ++ e ∷ []) rest longer; steps = front_steps p birth m [] (g ++ e ∷ []) rest longer.steps }

abbrev pub head_of : List Listed → Option Listed
head_of [] = None
head_of (l ∷ ls) = Some l

some_of : (xs ls : List Listed) (l : Listed) → All (λ k. IsTrue (says_something k)) (xs ++ l ∷ ls) → says_something l ≡ true
some_of [] ls l all = All-head (λ k. IsTrue (says_something k)) l ls all
some_of (x ∷ xs) ls l all = some_of xs ls l (All-tail (λ k. IsTrue (says_something k)) x (xs ++ l ∷ ls) all)

-- no answer asks which signals wait
unsignalled : (p : Policy) (pt : Point) (sg : List Signal) (actor : Actor) (request : Request) → reply_of p (record pt { table = record pt.table { signals = sg } }) actor request ≡ reply_of p pt actor request
unsignalled p pt sg actor request = ap (λ a. unless (actor_causes actor) a) (same request)
  where
    same : (request : Request) → answer p (record pt { table = record pt.table { signals = sg } }) actor request ≡ answer p pt actor request
    same _ = refl

-- a request of the history is answered so over the state's table
pub asked_so : (p : Policy) (birth : ℕ) (h : List Entry) (m : Model) → Legal p birth h m → (g rest : List Entry) (who : Who) (actor : Actor) (request : Request) (reply : Reply) → g ++ asked who actor request reply ∷ rest ≡ h
    → (front : List Listed) (s : Replay) → HasReached p birth h m g front s → IsAnsweredAt p.edges p.caps (has s.status.set) s.present (table_of s.table) actor request reply
asked_so p birth h m legal g rest who actor request reply cut front s k =
    let pt : Point = point_after p birth m g in
    let r = k.replay in
    let cut_legal : Legal p birth (g ++ asked who actor request reply ∷ rest) m = subst (λ x. Legal p birth x m) (sym cut) legal in
    let told : reply ≡ reply_of p pt actor request = (steps_after p birth m [] g (asked who actor request reply ∷ rest) cut_legal.steps).0 in
    let now_same : now_of birth g ≡ s.present = sym r.now in
    let status_same : status p birth m (now_of birth g) ≡ has s.status.set = λ i f. (ap (λ t. status p birth m t f) now_same ∙ sym (r.status f)) i in
    let table_same : table_at p birth m g (now_of birth g) ≡ table_in s = ap (table_at p birth m g) now_same ∙ sym r.table in
    record {
      policy = p;
      point = pt;
      is = told
          ∙ (λ i. reply_of p (record pt { now = now_same i; status = status_same i; table = table_same i }) actor request)
          ∙ sym (unsignalled p (record pt { now = s.present; status = has s.status.set; table = table_in s }) [] actor request);
    }

module _ (p : Policy) (is : IsPolicy p) (safe : IsSafe p.triggers) (birth : ℕ) (h : List Entry) (m : Model) (legal : Legal p birth h m) where
  abbrev Right : ℕ → Option Listed → Type 0
  Right t o = IsRight p.triggers (base_at p birth m h t) (status p birth m (t - 1)) o

  -- a certificate does not list an instant with an empty base
  not_listed : (xs ls : List Listed) (l : Listed) → Accepts p birth h (xs ++ l ∷ ls) → base_at p birth m h l.at ≡ nothing → ⊥
  not_listed xs ls l ok empty =
      let (low, high) = later_than birth (now_of birth h) xs ls l ok.ascends in
      let right : Right l.at (listed_at (xs ++ l ∷ ls) l.at) = right_of p is safe birth h m legal.model (xs ++ l ∷ ls) ok l.at low high in
      shown_over_nothing p is (base_at p birth m h l.at) (status p birth m (l.at - 1)) l empty (some_of xs ls l ok.some)
      (subst (Right l.at) (listed_there birth (now_of birth h) xs ls l ok.ascends) right)

  -- at the end the front is the certificate, or it lists too much
  pub whole : (front : List Listed) (s : Replay) → HasReached p birth h m h front s → Accepts p birth h front
  whole front s k = accepts_of p is safe birth h m legal.model front k.ascends k.some k.right

  pub left_over : (front ls : List Listed) (l : Listed) (s : Replay) → HasReached p birth h m h front s → Accepts p birth h (front ++ l ∷ ls) → ⊥
  left_over front ls l s k ok =
      let (low, high) = later_than birth (now_of birth h) front ls l ok.ascends in
      not_listed front ls l ok (subst (Right l.at) (not_in_front birth (now_of birth h) front ls l ok.ascends) (k.right l.at low high))

  module _ (g rest : List Entry) (who : Who) (upto to : ℕ) (cut : g ++ ticked who upto to ∷ rest ≡ h) (front : List Listed) (s : Replay) (k : HasReached p birth h m g front s) where
    abbrev e : Entry
    e = ticked who upto to

    legal_cut : Legal p birth (g ++ e ∷ rest) m
    legal_cut = subst (λ x. Legal p birth x m) (sym cut) legal

    pub later : s.present < to
    later = stopping.later p is birth m g rest who upto to legal_cut s k.replay

    reached : to ≤ now_of birth h
    reached = subst (λ x. to ≤ now_of birth x) cut (stopping.reached p is birth m g rest who upto to legal_cut s k.replay)

    status_is : status p birth m (to - 1) ≡ has s.status.set
    status_is = stopping.status_before p is birth m g rest who upto to legal_cut s k.replay

    passed_base : (t : ℕ) → s.present < t → t < to → base_at p birth m h t ≡ nothing
    passed_base t a b = subst (λ x. base_at p birth m x t ≡ nothing) cut (stopping.passed_base p is birth m g rest who upto to legal_cut s k.replay t a b)

    now_is : s.present ≡ now_of birth g
    now_is = k.replay.now

    pub after_birth : birth < to
    after_birth = omega (arith, k.born, later, now_is)

    now_to : now_of birth (g ++ e ∷ []) ≡ to
    now_to = now_snoc birth g e

    not_yet : listed_at front to ≡ None
    not_yet = none_after birth (now_of birth g) to front k.ascends (omega (arith, later, now_is))

    -- before the stop a minute that the front does not list has an empty base
    empty_before : (t : ℕ) → birth < t → t < to → listed_at front t ≡ None → base_at p birth m h t ≡ nothing
    empty_before t a b none =
        split (nat_le t (now_of birth g))
        (λ q. subst (Right t) none (k.right t a (leb-true t (now_of birth g) q)))
        (λ q. passed_base t (omega (arith, leb-false t (now_of birth g) q, now_is)) b)

    right_before : (t : ℕ) → birth < t → t < to → Right t (listed_at front t)
    right_before t a b =
        split (nat_le t (now_of birth g))
        (λ q. k.right t a (leb-true t (now_of birth g) q))
        (λ q.
        let late : now_of birth g < t = leb-false t (now_of birth g) q in
        let none : listed_at front t ≡ None = none_after birth (now_of birth g) t front k.ascends late in
        subst (Right t) (sym none) (passed_base t (omega (arith, late, now_is)) b))

    less : (t : ℕ) → t ≤ to → (t ≡ to → ⊥) → t < to
    less t le ne = split (nat_lt t to) (λ q. ltb-true t to q) (λ q. absurd (ne (omega (arith, le, not_less t to q))))
      where
        not_less : (a b : ℕ) → nat_lt a b ≡ false → b ≤ a
        not_less a b q = grind (arith, q)

    replay_more : (s' : Replay) (x : HappenedView) → x ≡ m to → IsClosed p s x to s' → IsReplay p birth (g ++ e ∷ []) m s'
    replay_more s' x set c = stopping.replay_ticked p is birth m g rest who upto to legal_cut s k.replay s' x set c (legal_front p birth m g rest e legal_cut)

    module _ (within : to ≤ LAST_MINUTE) where
      base_is : base_at p birth m h to ≡ base_in p s to
      base_is = subst (λ x. base_at p birth m x to ≡ base_in p s to) cut (stopping.base_is p is birth m g rest who upto to legal_cut s k.replay within)

      -- the stop is not listed, and its base is empty
      pub passes : (s' : Replay) → base_in p s to ≡ nothing → IsClosed p s nothing to s' → HasReached p birth h m (g ++ e ∷ []) front s'
      passes s' empty c =
          let base : base_at p birth m h to ≡ nothing = base_is ∙ empty in
          record {
            replay = replay_more s' nothing (right_is p is safe birth h m legal.model to after_birth reached None base) c;
            born = omega (arith, after_birth, now_to);
            ascends = ascends_on birth (now_of birth g) (now_of birth (g ++ e ∷ [])) front k.ascends (omega (arith, later, now_is, now_to));
            some = k.some;
            right = λ t a b.
                split (nat_eq t to)
                (λ q.
                let at : t ≡ to = eqb-true t to q in
                subst (λ u. Right u (listed_at front u)) (sym at) (subst (Right to) (sym not_yet) base))
                (λ q. right_before t a (less t (omega (arith, b, now_to)) (eqb-false t to q)));
          }

      -- the stop is listed, and well
      pub lists : (s' : Replay) (l : Listed) → IsGood p (base_in p s to) (has s.status.set) to l → IsClosed p s (set_in l) to s' → HasReached p birth h m (g ++ e ∷ []) (front ++ l ∷ []) s'
      lists s' l good c =
          let shown : Right to (Some l) = subst (λ b. IsShown p.triggers b (status p birth m (to - 1)) l) (sym base_is) (subst (λ st. IsShown p.triggers (base_in p s to) st l) (sym status_is) good.shown) in
          let there : listed_at (front ++ l ∷ []) to ≡ Some l = rest_decides front (l ∷ []) to not_yet ∙ at_first l [] to good.at in
          record {
            replay = replay_more s' (set_in l) (right_is p is safe birth h m legal.model to after_birth reached (Some l) shown) c;
            born = omega (arith, after_birth, now_to);
            ascends = subst (λ u. ListedAscend birth u (front ++ l ∷ [])) (good.at ∙ sym now_to) (ascends_more birth (now_of birth g) front l k.ascends k.born (omega (arith, later, now_is, good.at)));
            some = All-push (λ x. IsTrue (says_something x)) front l k.some good.says;
            right = λ t a b.
                split (nat_eq t to)
                (λ q.
                let at : t ≡ to = eqb-true t to q in
                subst (λ u. Right u (listed_at (front ++ l ∷ []) u)) (sym at) (subst (Right to) (sym there) shown))
                (λ q.
                let lt : t < to = less t (omega (arith, b, now_to)) (eqb-false t to q) in
                subst (Right t) (sym (front_stays front l t (omega (arith, lt, good.at)))) (right_before t a lt));
          }

      -- a next listing of an earlier instant refuses the certificate
      early : (ls : List Listed) (l : Listed) → l.at < to → Accepts p birth h (front ++ l ∷ ls) → ⊥
      early ls l lt ok =
          let (low, high) = later_than birth (now_of birth h) front ls l ok.ascends in
          not_listed front ls l ok (empty_before l.at low lt (not_in_front birth (now_of birth h) front ls l ok.ascends))

      -- so does one of this instant that is not good
      not_good : (ls : List Listed) (l : Listed) → l.at ≡ to → (IsGood p (base_in p s to) (has s.status.set) to l → ⊥) → Accepts p birth h (front ++ l ∷ ls) → ⊥
      not_good ls l at bad ok =
          let right : Right to (listed_at (front ++ l ∷ ls) to) = right_of p is safe birth h m legal.model (front ++ l ∷ ls) ok to after_birth reached in
          let there : listed_at (front ++ l ∷ ls) to ≡ Some l = rest_decides front (l ∷ ls) to not_yet ∙ at_first l ls to at in
          let shown : IsShown p.triggers (base_at p birth m h to) (status p birth m (to - 1)) l = subst (Right to) there right in
          bad (record {
            at = at;
            says = some_of front ls l ok.some;
            shown = subst (λ b. IsShown p.triggers b (has s.status.set) l) base_is (subst (λ st. IsShown p.triggers (base_at p birth m h to) st l) status_is shown);
          })

      -- and a base that is not listed
      missed : (ls : List Listed) → listed_at ls to ≡ None → (base_in p s to ≡ nothing → ⊥) → Accepts p birth h (front ++ ls) → ⊥
      missed ls none some ok =
          let right : Right to (listed_at (front ++ ls) to) = right_of p is safe birth h m legal.model (front ++ ls) ok to after_birth reached in
          some (sym base_is ∙ subst (Right to) (rest_decides front ls to not_yet ∙ none) right)

      pub refuses : (ls : List Listed) → IsWrong p (base_in p s to) (has s.status.set) to (head_of ls) → Accepts p birth h (front ++ ls) → ⊥
      refuses [] wrong ok = missed [] refl wrong ok
      refuses (l ∷ ls) wrong ok =
          elim wrong [
            | inl lt ↦ early ls l lt ok
            | inr other ↦
                elim other [
                  | inl bad ↦ not_good ls l bad.0 bad.1 ok
                  | inr late ↦
                      let (low, le, more) = back birth (now_of birth h) front (l ∷ ls) ok.ascends in
                      missed (l ∷ ls) (none_later ls l late.0 more.2) late.1 ok
                ]
          ]
        where
          none_later : (ls : List Listed) (l : Listed) → to < l.at → ListedAscend l.at (now_of birth h) ls → listed_at (l ∷ ls) to ≡ None
          none_later ls l lt more = rest_decides (l ∷ []) ls to (at_other lt) ∙ none_before l.at (now_of birth h) to ls more (omega (arith, lt))
            where
              at_other : to < l.at → listed_at (l ∷ []) to ≡ None
              at_other lt = none_before to l.at to (l ∷ []) (lt, omega arith, tt) (omega arith)

  -- a request leaves what is reached
  pub asks : (g rest : List Entry) (who : Who) (actor : Actor) (request : Request) (reply : Reply) → g ++ asked who actor request reply ∷ rest ≡ h
      → (front : List Listed) (s s' : Replay) → HasReached p birth h m g front s → IsAsked s actor request reply s' → HasReached p birth h m (g ++ asked who actor request reply ∷ []) front s'
  asks g rest who actor request reply cut front s s' k c =
      let e : Entry = asked who actor request reply in
      let stays : now_of birth g ≡ now_of birth (g ++ e ∷ []) = sym (now_snoc birth g e) in
      record {
        replay = replay_asked p birth m g who actor request reply (legal_front p birth m g rest e (subst (λ x. Legal p birth x m) (sym cut) legal)) s s' k.replay c;
        born = omega (arith, k.born, stays);
        ascends = subst (λ u. ListedAscend birth u front) stays k.ascends;
        some = k.some;
        right = λ t a b. k.right t a (omega (arith, b, stays));
      }
