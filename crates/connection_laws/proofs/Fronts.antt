-- Acted lines, told from the first line on.
use Rattle.std.proofs.Common.{◌≡◌, ℕ, zero, suc, ◌+◌, ◌≤◌, Bool, false, true, cond, List, [], ◌∷◌, ◌++◌, length, refl, sym, ap, subst, ◌∙◌, arith, inl, inr, add-zero, append_assoc, append-nil, length-append, Result, Ok, Err, if◌then◌else◌}
use Rattle.gt_base.specs.declared.requests.Who.{Who}
use Rattle.gt_base.specs.declared.requests.Actor.{Actor}
use Rattle.gt_base.specs.declared.requests.Actor.TheVariants.{Nobody}
use Rattle.gt_base.specs.declared.requests.Request.{Request}
use Rattle.gt_base.specs.declared.requests.Entry.{Entry}
use Rattle.gt_base.specs.Machines.{asked}
use Rattle.gtrbac_model.specs.History.{now_of}
use Rattle.turn_lock.specs.Turns.{Each}
use Rattle.policy_words.specs.Naming.{NamedPolicy}
use Rattle.request_text.specs.declared.lines.Line.{Line}
use Rattle.request_text.specs.declared.lines.Line.TheVariants.{Silent, At, Be, Ask}
use Rattle.request_text.specs.declared.lines.LineFault.{LineFault}
use Rattle.request_text.specs.Phrases.{read_line}
use Rattle.connection_laws.specs.Lines.{Answer, shown, view_only, silence, agreed, bad, accepted, no_memory, no_steps, worn, Acted, actor_by, actor_after, reply_lines, readings_of, entries_of, GetsBy}
use Rattle.connection_laws.specs.Connection.{is_who, part_of, IsTick, AnswersAfterTicks, Asks, AreActed}
use Rattle.connection_laws.specs.Front.{before_own, answers_of, AfterTicks, AnsweredAndThen, Requested, LineGets, Get}
use Rattle.connection_laws.proofs.Places.{own_entry}

abbrev step_of : Who → Entry → List Entry → ℕ → Bool → List Entry
step_of who e es n b = if b then elim n [ zero ↦ [] | suc k ↦ e ∷ before_own who es k ] else e ∷ before_own who es n

by_test : (who : Who) (x : Entry) (xs rest : List Entry) (e : Entry) (n : ℕ) (b : Bool) → is_who who x ≡ b → is_who who e ≡ true → length (part_of who (x ∷ xs)) ≡ n
    → ((k : ℕ) → length (part_of who xs) ≡ k → before_own who (xs ++ e ∷ rest) k ≡ xs) → before_own who (x ∷ xs ++ e ∷ rest) n ≡ x ∷ xs
by_test who x xs rest e zero true is mine count rec =
    let c : length (x ∷ part_of who xs) ≡ zero = ap (λ b. length (cond b (x ∷ part_of who xs) (part_of who xs))) (sym is) ∙ count in absurd (omega (arith, c))
by_test who x xs rest e (suc k) true is mine count rec =
    let c : length (x ∷ part_of who xs) ≡ suc k = ap (λ b. length (cond b (x ∷ part_of who xs) (part_of who xs))) (sym is) ∙ count in
    ap (λ b. step_of who x (xs ++ e ∷ rest) (suc k) b) is ∙ ap (λ (l : List Entry). x ∷ l) (rec k (omega (arith, c)))
by_test who x xs rest e n false is mine count rec =
    let c : length (part_of who xs) ≡ n = ap (λ b. length (cond b (x ∷ part_of who xs) (part_of who xs))) (sym is) ∙ count in
    ap (λ b. step_of who x (xs ++ e ∷ rest) n b) is ∙ ap (λ (l : List Entry). x ∷ l) (rec n c)

-- the entries before an entry of the connection, found by its number
before_at : (who : Who) (before rest : List Entry) (e : Entry) (n : ℕ) → is_who who e ≡ true → length (part_of who before) ≡ n → before_own who (before ++ e ∷ rest) n ≡ before
before_at who [] rest e zero mine count = ap (λ b. step_of who e rest zero b) mine
before_at who [] rest e (suc k) mine count = absurd (omega (arith, count))
before_at who (x ∷ xs) rest e n mine count = by_test who x xs rest e n (is_who who x) refl mine count (λ k c. before_at who xs rest e k mine c)

next_here : (who : Who) (bound : ℕ) (P : ℕ → List Entry → Type 0) (n : ℕ) (xs : List Entry) → P n xs → AfterTicks who bound P n xs
next_here who bound P n [] p = p
next_here who bound P n (x ∷ xs) p = inl p

after_ticks : (who : Who) (bound : ℕ) (P : ℕ → List Entry → Type 0) (n : ℕ) (ticks xs : List Entry) → Each (IsTick who bound) ticks → P (n + length ticks) xs → AfterTicks who bound P n (ticks ++ xs)
after_ticks who bound P n [] xs all p = next_here who bound P n xs (subst (λ (k : ℕ). P k xs) (add-zero n) p)
after_ticks who bound P n (t ∷ ts) xs all p = inr (all.0.0, all.0.1, after_ticks who bound P (n + 1) ts xs all.1 (subst (λ (k : ℕ). P k xs) (let e : n + suc (length ts) ≡ n + 1 + length ts = omega arith in e) p))

module _ (np : NamedPolicy) (birth : ℕ) (who : Who) (h : List Entry) where
  -- what follows the ticks of a request
  answered : (reading : ℕ) (actor : Actor) (request : Request) (answer : Answer) (n : ℕ) (ticks entries more : List Entry) (next : ℕ → List Entry → Type 0) → AnswersAfterTicks birth who h reading actor request answer n ticks entries
      → next (n + length entries) more → (rest : List Entry) × (entries ≡ ticks ++ rest) × AnsweredAndThen np birth who h reading actor request answer next (n + length ticks) (rest ++ more)
  answered reading actor request (accepted reply) n ticks entries more next a go_on =
      let e : Entry = asked who actor request reply in
      let s = a.1 in
      let long = ap (λ (l : List Entry). length l) a.0 ∙ length-append ticks (e ∷ []) in
      let found : before_own who h (n + length ticks) ≡ s.0 =
      ap (λ (l : List Entry). before_own who l (n + length ticks)) (sym s.1.1 ∙ append_assoc s.0 (e ∷ []) s.1.0) ∙ before_at who s.0 s.1.0 e (n + length ticks) (own_entry who e.what) s.2 in (
        e ∷ [],
        a.0,
        (refl, subst (λ (l : List Entry). reading ≤ now_of birth l) (sym found) s.3, subst (λ (k : ℕ). next k more) (let q : n + length entries ≡ n + length ticks + 1 = omega (arith, long) in q) go_on),
      )
  answered reading actor request no_memory n ticks entries more next a go_on = ([], a ∙ sym (append-nil ticks), subst (λ (l : List Entry). next (n + length l) more) a go_on)
  answered reading actor request no_steps n ticks entries more next a go_on = ([], a.0 ∙ sym (append-nil ticks), (a.1, subst (λ (l : List Entry). next (n + length l) more) a.0 go_on))
  answered reading actor request worn n ticks entries more next a go_on = ([], a ∙ sym (append-nil ticks), subst (λ (l : List Entry). next (n + length l) more) a go_on)
  answered reading actor request silence n ticks entries more next a go_on = absurd a
  answered reading actor request agreed n ticks entries more next a go_on = absurd a
  answered reading actor request (bad f) n ticks entries more next a go_on = absurd a
  answered reading actor request (shown k r) n ticks entries more next a go_on = absurd a
  answered reading actor request view_only n ticks entries more next a go_on = absurd a

  quiet : (said : Result Line LineFault) (answer : Answer) (next : Actor → List ℕ → ℕ → List Entry → Type 0) (actor : Actor) (a : Acted) (readings : List ℕ) (n : ℕ) (more : List Entry) → a.answer ≡ answer → a.readings ≡ [] → a.entries ≡ []
      → LineGets np birth who h said answer next actor readings n more → LineGets np birth who h said a.answer next actor (a.readings ++ readings) n (a.entries ++ more)
  quiet said answer next actor a readings n more is none empty g =
      subst (λ (x : Answer). LineGets np birth who h said x next actor (a.readings ++ readings) n (a.entries ++ more)) (sym is)
      (subst (λ (rs : List ℕ). LineGets np birth who h said answer next actor (rs ++ readings) n (a.entries ++ more)) (sym none)
      (subst (λ (es : List Entry). LineGets np birth who h said answer next actor readings n (es ++ more)) (sym empty) g))

  bare : (next : Actor → List ℕ → ℕ → List Entry → Type 0) (actor : Actor) (a : Acted) (readings : List ℕ) (n : ℕ) (more : List Entry) → a.entries ≡ [] → next actor readings (n + length a.entries) more → next actor readings n more
  bare next actor a readings n more empty go_on = subst (λ (k : ℕ). next actor readings k more) (ap (λ (es : List Entry). n + length es) empty ∙ add-zero n) go_on

  -- one line and those behind it
  line_gets : (said : Result Line LineFault) (next : Actor → List ℕ → ℕ → List Entry → Type 0) (actor : Actor) (a : Acted) (readings : List ℕ) (n : ℕ) (more : List Entry) → GetsBy (Asks birth who h) said actor n a
      → next (actor_by said actor) readings (n + length a.entries) more → LineGets np birth who h said a.answer next actor (a.readings ++ readings) n (a.entries ++ more)
  line_gets (Ok Silent) next actor a readings n more g go_on = quiet (Ok Silent) silence next actor a readings n more g.0 g.1 g.2 (bare next actor a readings n more g.2 go_on)
  line_gets (Ok (Be x)) next actor a readings n more g go_on = quiet (Ok (Be x)) agreed next actor a readings n more g.0 g.1 g.2 (bare next x a readings n more g.2 go_on)
  line_gets (Ok (At t)) next actor a readings n more g go_on = absurd g
  line_gets (Err f) next actor a readings n more g go_on = quiet (Err f) (bad f) next actor a readings n more g.0 g.1 g.2 (refl, bare next actor a readings n more g.2 go_on)
  line_gets (Ok (Ask request)) next actor a readings n more g go_on =
      let r = answered g.0 actor request a.answer n g.1 a.entries more (next actor readings) g.4 go_on in
      let there = after_ticks who g.0 (AnsweredAndThen np birth who h g.0 actor request a.answer (next actor readings)) n g.1 (r.0 ++ more) g.3 r.2 in
      subst (λ (rs : List ℕ). Requested np birth who h request a.answer (next actor) actor (rs ++ readings) n (a.entries ++ more)) (sym g.2)
      (subst (λ (es : List Entry). AfterTicks who g.0 (AnsweredAndThen np birth who h g.0 actor request a.answer (next actor readings)) n es) (sym (append_assoc g.1 r.0 more) ∙ ap (λ (l : List Entry). l ++ more) (sym r.1)) there)

  -- the acted lines and those behind them
  all_get : (older : ℕ) (acted : List Acted) (ls : List (List ℕ)) (as' : List Answer) (readings : List ℕ) (more : List Entry) → AreActed np birth who h older acted
      → Get np birth who h ls as' (actor_after np acted) readings (older + length (entries_of acted)) more
      → Get np birth who h (reply_lines acted ++ ls) (answers_of acted ++ as') Nobody (readings_of acted ++ readings) older (entries_of acted ++ more)
  all_get older [] ls as' readings more all go_on = subst (λ (k : ℕ). Get np birth who h ls as' Nobody readings k more) (add-zero older) go_on
  all_get older (a ∷ before) ls as' readings more all go_on =
      let next : Actor → List ℕ → ℕ → List Entry → Type 0 = Get np birth who h ls as' in
      let said = read_line np Nobody false a.line in
      let n = older + length (entries_of before) in
      let long = length-append (entries_of before) a.entries in
      let behind : next (actor_by said (actor_after np before)) readings (n + length a.entries) more =
      subst (λ (k : ℕ). Get np birth who h ls as' (actor_after np (a ∷ before)) readings k more) (let q : older + length (entries_of before ++ a.entries) ≡ n + length a.entries = omega (arith, long) in q) go_on in
      let here = line_gets said next (actor_after np before) a readings n more all.1 behind in
      let whole = all_get older before (a.line ∷ ls) (a.answer ∷ as') (a.readings ++ readings) (a.entries ++ more) all.0 here in
      subst (λ (x : List (List ℕ)). Get np birth who h x ((answers_of before ++ a.answer ∷ []) ++ as') Nobody ((readings_of before ++ a.readings) ++ readings) older ((entries_of before ++ a.entries) ++ more)) (sym (append_assoc (reply_lines before) (a.line ∷ []) ls))
      (subst (λ (x : List Answer). Get np birth who h (reply_lines before ++ a.line ∷ ls) x Nobody ((readings_of before ++ a.readings) ++ readings) older ((entries_of before ++ a.entries) ++ more)) (sym (append_assoc (answers_of before) (a.answer ∷ []) as'))
      (subst (λ (x : List ℕ). Get np birth who h (reply_lines before ++ a.line ∷ ls) (answers_of before ++ a.answer ∷ as') Nobody x older ((entries_of before ++ a.entries) ++ more)) (sym (append_assoc (readings_of before) a.readings readings))
      (subst (λ (x : List Entry). Get np birth who h (reply_lines before ++ a.line ∷ ls) (answers_of before ++ a.answer ∷ as') Nobody (readings_of before ++ (a.readings ++ readings)) older x) (sym (append_assoc (entries_of before) a.entries more)) whole)))

  -- acted lines, one after the other, get what they get from the first line on
  pub acted_get : (older : ℕ) (acted : List Acted) → AreActed np birth who h older acted → Get np birth who h (reply_lines acted) (answers_of acted) Nobody (readings_of acted) older (entries_of acted)
  acted_get older acted all =
      let whole = all_get older acted [] [] [] [] all (refl, refl) in
      subst (λ (x : List (List ℕ)). Get np birth who h x (answers_of acted) Nobody (readings_of acted) older (entries_of acted)) (append-nil (reply_lines acted))
      (subst (λ (x : List Answer). Get np birth who h (reply_lines acted ++ []) x Nobody (readings_of acted) older (entries_of acted)) (append-nil (answers_of acted))
      (subst (λ (x : List ℕ). Get np birth who h (reply_lines acted ++ []) (answers_of acted ++ []) Nobody x older (entries_of acted)) (append-nil (readings_of acted))
      (subst (λ (x : List Entry). Get np birth who h (reply_lines acted ++ []) (answers_of acted ++ []) Nobody (readings_of acted ++ []) older x) (append-nil (entries_of acted)) whole)))
