-- Where the scan stops is the length of the longest front that can be continued.
use Rattle.std.proofs.Common.{◌≡◌, ◌↔◌, ℕ, zero, suc, ◌+◌, ◌<◌, ◌≤◌, Bool, true, false, List, [], ◌∷◌, ◌++◌, length, take, drop, Option, Some, None, Result, refl, ap, sym, subst, ◌∙◌, arith, codes}
use Rattle.std.proofs.lemmas.Bool.{false≢true}
use Rattle.gtrbac_model.specs.declared.calendars.Calendar.{Calendar}
use Rattle.gtrbac_model.specs.declared.calendars.Calendar.TheVariants.{Years, Months, Weeks, Days, Hours, Minutes}
use Rattle.gtrbac_model.specs.Period.{Expr}
use Rattle.periodic_expr.specs.declared.faults.ExprFault.{ExprFault}
use Rattle.periodic_expr.specs.declared.faults.ExprKind.TheVariants.{Syntax}
use Rattle.periodic_expr.specs.declared.scan.ScanPlace.{ScanPlace}
use Rattle.periodic_expr.specs.declared.scan.ScanPlace.TheVariants.{Start, PartNext, OneLetter, TwoLetters, DotNext, CalendarNext, Letters, PartDone, PartPast, SetFirst, Digits, NumberPast, SetNext, LengthNext, LengthDot, UnitNext, Finished}
use Rattle.periodic_expr.specs.declared.scan.Move.{Move}
use Rattle.periodic_expr.specs.Scan.{calendar_word, moved, IsSized}
use Rattle.periodic_expr.specs.Sketch.{Sketch, empty, acted}
use Rattle.periodic_expr.specs.Reading.{syntax, read_from, read_expr}
use Rattle.periodic_expr.specs.Grammar.{GoesOn, IsSyntaxFault}
use Rattle.periodic_expr.proofs.Steps.{read_step}
use Rattle.periodic_expr.proofs.Tokens.{ten}
use Rattle.periodic_expr.proofs.Sound.{next_sized, accepts, is_end, accepted_in_grammar}
use Rattle.periodic_expr.proofs.Accepted.{grammar_accepted, one_fault, no_syntax}

-- how many bytes the scan takes
abbrev taken : ScanPlace → List ℕ → ℕ
taken place [] = 0
taken place (b ∷ bs) = elim (moved place b) [ None ↦ 0 | Some m ↦ suc (taken m.place bs) ]

-- each place can be continued to the end of an expression

abbrev Ends : ScanPlace → Type 0
Ends place = (more : List ℕ) × (accepts place more ≡ true)

abbrev Lettered : Bool → Calendar → ℕ → Type 0
Lettered span c k = k < length (calendar_word c) → accepts (Letters span c k) (drop k (calendar_word c)) ≡ true

late : (span : Bool) (c : Calendar) (k : ℕ) → length (calendar_word c) ≤ k → Lettered span c k
late span c k h lt = absurd (omega arith)

in_letters : (span : Bool) (c : Calendar) (k : ℕ) → k < 10 → Lettered span c k
in_letters true Years = ten (Lettered true Years) (λ h. refl) (λ h. refl) (λ h. refl) (λ h. refl) (λ h. refl) (late true Years 5 (omega arith)) (late true Years 6 (omega arith)) (late true Years 7 (omega arith)) (late true Years 8 (omega arith)) (late true Years 9 (omega arith))
in_letters true Months = ten (Lettered true Months) (λ h. refl) (λ h. refl) (λ h. refl) (λ h. refl) (λ h. refl) (λ h. refl) (late true Months 6 (omega arith)) (late true Months 7 (omega arith)) (late true Months 8 (omega arith)) (late true Months 9 (omega arith))
in_letters true Weeks = ten (Lettered true Weeks) (λ h. refl) (λ h. refl) (λ h. refl) (λ h. refl) (λ h. refl) (late true Weeks 5 (omega arith)) (late true Weeks 6 (omega arith)) (late true Weeks 7 (omega arith)) (late true Weeks 8 (omega arith)) (late true Weeks 9 (omega arith))
in_letters true Days = ten (Lettered true Days) (λ h. refl) (λ h. refl) (λ h. refl) (λ h. refl) (late true Days 4 (omega arith)) (late true Days 5 (omega arith)) (late true Days 6 (omega arith)) (late true Days 7 (omega arith)) (late true Days 8 (omega arith)) (late true Days 9 (omega arith))
in_letters true Hours = ten (Lettered true Hours) (λ h. refl) (λ h. refl) (λ h. refl) (λ h. refl) (λ h. refl) (late true Hours 5 (omega arith)) (late true Hours 6 (omega arith)) (late true Hours 7 (omega arith)) (late true Hours 8 (omega arith)) (late true Hours 9 (omega arith))
in_letters true Minutes = ten (Lettered true Minutes) (λ h. refl) (λ h. refl) (λ h. refl) (λ h. refl) (λ h. refl) (λ h. refl) (λ h. refl) (late true Minutes 7 (omega arith)) (late true Minutes 8 (omega arith)) (late true Minutes 9 (omega arith))
in_letters false Years = ten (Lettered false Years) (λ h. refl) (λ h. refl) (λ h. refl) (λ h. refl) (λ h. refl) (late false Years 5 (omega arith)) (late false Years 6 (omega arith)) (late false Years 7 (omega arith)) (late false Years 8 (omega arith)) (late false Years 9 (omega arith))
in_letters false Months = ten (Lettered false Months) (λ h. refl) (λ h. refl) (λ h. refl) (λ h. refl) (λ h. refl) (λ h. refl) (late false Months 6 (omega arith)) (late false Months 7 (omega arith)) (late false Months 8 (omega arith)) (late false Months 9 (omega arith))
in_letters false Weeks = ten (Lettered false Weeks) (λ h. refl) (λ h. refl) (λ h. refl) (λ h. refl) (λ h. refl) (late false Weeks 5 (omega arith)) (late false Weeks 6 (omega arith)) (late false Weeks 7 (omega arith)) (late false Weeks 8 (omega arith)) (late false Weeks 9 (omega arith))
in_letters false Days = ten (Lettered false Days) (λ h. refl) (λ h. refl) (λ h. refl) (λ h. refl) (late false Days 4 (omega arith)) (late false Days 5 (omega arith)) (late false Days 6 (omega arith)) (late false Days 7 (omega arith)) (late false Days 8 (omega arith)) (late false Days 9 (omega arith))
in_letters false Hours = ten (Lettered false Hours) (λ h. refl) (λ h. refl) (λ h. refl) (λ h. refl) (λ h. refl) (late false Hours 5 (omega arith)) (late false Hours 6 (omega arith)) (late false Hours 7 (omega arith)) (late false Hours 8 (omega arith)) (late false Hours 9 (omega arith))
in_letters false Minutes = ten (Lettered false Minutes) (λ h. refl) (λ h. refl) (λ h. refl) (λ h. refl) (λ h. refl) (λ h. refl) (λ h. refl) (late false Minutes 7 (omega arith)) (late false Minutes 8 (omega arith)) (late false Minutes 9 (omega arith))

letters_end : (span : Bool) (c : Calendar) (k : ℕ) → k < length (calendar_word c) → Ends (Letters span c k)
letters_end span c k h = (drop k (calendar_word c), in_letters span c k (short c k h) h)
  where
    short : (c : Calendar) (k : ℕ) → k < length (calendar_word c) → k < 10
    short Years k h = omega arith
    short Months k h = omega arith
    short Weeks k h = omega arith
    short Days k h = omega arith
    short Hours k h = omega arith
    short Minutes k h = omega arith

finish : (place : ScanPlace) → IsSized place → Ends place
finish Start h = (codes "all.Days", refl)
finish PartNext h = (codes "all.Days", refl)
finish OneLetter h = (codes "ll.Days", refl)
finish TwoLetters h = (codes "l.Days", refl)
finish DotNext h = (codes ".Days", refl)
finish CalendarNext h = (codes "Days", refl)
finish (Letters span c k) h = letters_end span c k h
finish PartDone h = ([], refl)
finish PartPast h = (codes "+all.Days", refl)
finish SetFirst h = (codes "}.Days", refl)
finish (Digits true v) h = (codes ".Days", refl)
finish (Digits false v) h = (codes "}.Days", refl)
finish NumberPast h = (codes "}.Days", refl)
finish SetNext h = (codes "1}.Days", refl)
finish LengthNext h = (codes "1.Days", refl)
finish LengthDot h = (codes ".Days", refl)
finish UnitNext h = (codes "Days", refl)
finish Finished h = ([], refl)

abbrev Continued : ScanPlace → List ℕ → Type 0
Continued place ys = (more : List ℕ) × (accepts place (take (taken place ys) ys ++ more) ≡ true)

abbrev front_by : ℕ → List ℕ → (o : Option Move) → ℕ
front_by b bs o = elim o [ None ↦ 0 | Some m ↦ suc (taken m.place bs) ]

continued_by : (place : ScanPlace) → Ends place → (b : ℕ) (bs : List ℕ) (o : Option Move) → moved place b ≡ o → ((m : Move) → o ≡ Some m → Continued m.place bs) → (more : List ℕ) × (accepts place (take (front_by b bs o) (b ∷ bs) ++ more) ≡ true)
continued_by place ends b bs None e go = ends
continued_by place ends b bs (Some m) e go =
    let r = go m refl in
    (r.0, ap (λ o. elim o as (λ x. Bool) [ None ↦ false | Some n ↦ accepts n.place (take (taken m.place bs) bs ++ r.0) ]) e ∙ r.1)

continued : (ys : List ℕ) (place : ScanPlace) → IsSized place → Continued place ys
continued [] place h = finish place h
continued (b ∷ bs) place h =
    continued_by place (finish place h) b bs (moved place b) refl (λ m e. continued bs m.place (next_sized place b m h e))

-- no longer front can be

longest_by : (place : ScanPlace) (b : ℕ) (bs : List ℕ) (n : ℕ) (more : List ℕ) (o : Option Move) → elim o as (λ x. Bool) [ None ↦ false | Some m ↦ accepts m.place (take n bs ++ more) ] ≡ true → ((m : Move) → accepts m.place (take n bs ++ more) ≡ true → n ≤ taken m.place bs) → suc n ≤ front_by b bs o
longest_by place b bs n more None a go = absurd (false≢true a)
longest_by place b bs n more (Some m) a go = let le = go m a in omega arith

longest : (ys : List ℕ) (place : ScanPlace) (n : ℕ) (more : List ℕ) → n ≤ length ys → accepts place (take n ys ++ more) ≡ true → n ≤ taken place ys
longest [] place n more h a = h
longest (b ∷ bs) place zero more h a = omega arith
longest (b ∷ bs) place (suc n) more h a = longest_by place b bs n more (moved place b) a (λ m q. longest bs m.place n more (omega arith) q)

within_by : (b : ℕ) (bs : List ℕ) (o : Option Move) → ((m : Move) → taken m.place bs ≤ length bs) → front_by b bs o ≤ suc (length bs)
within_by b bs None go = omega arith
within_by b bs (Some m) go = let le = go m in omega arith

within : (ys : List ℕ) (place : ScanPlace) → taken place ys ≤ length ys
within [] place = omega arith
within (b ∷ bs) place = within_by b bs (moved place b) (λ m. within bs m.place)

-- and there the fault is

bad_end : (at : ℕ) (place : ScanPlace) (s : Sketch) → is_end place ≡ false → read_from at place s [] ≡ syntax (at + 0)
bad_end at PartDone s h = absurd (false≢true (sym h))
bad_end at Finished s h = absurd (false≢true (sym h))
bad_end at _ s h = let e : at ≡ at + 0 = omega arith in ap syntax e

stops_by : (at : ℕ) (place : ScanPlace) (s : Sketch) (b : ℕ) (bs : List ℕ) (o : Option Move) → moved place b ≡ o → ((m : Move) → accepts m.place bs ≡ false → read_from (at + 1) m.place (acted m.act at s) bs ≡ syntax (at + 1 + taken m.place bs)) → elim o as (λ x. Bool) [ None ↦ false | Some m ↦ accepts m.place bs ] ≡ false → read_from at place s (b ∷ bs) ≡ syntax (at + front_by b bs o)
stops_by at place s b bs None e go h = let z : at ≡ at + 0 = omega arith in read_step at place s b bs None e ∙ ap syntax z
stops_by at place s b bs (Some m) e go h =
    let z : at + 1 + taken m.place bs ≡ at + suc (taken m.place bs) = omega arith in
    read_step at place s b bs (Some m) e ∙ go m h ∙ ap syntax z

stops : (ys : List ℕ) (at : ℕ) (place : ScanPlace) (s : Sketch) → accepts place ys ≡ false → read_from at place s ys ≡ syntax (at + taken place ys)
stops [] at place s h = bad_end at place s h
stops (b ∷ bs) at place s h = stops_by at place s b bs (moved place b) refl (λ m a. stops bs (at + 1) m.place (acted m.act at s) a) h

goes_on : (text : List ℕ) → GoesOn (take (taken Start text) text)
goes_on text = let r = continued text Start tt in (r.0, accepted_in_grammar (take (taken Start text) text ++ r.0) r.1)

no_longer : (text : List ℕ) (n : ℕ) → n ≤ length text → GoesOn (take n text) → n ≤ taken Start text
no_longer text n h g = longest text Start n g.0 h (grammar_accepted (take n text ++ g.0) g.1)

stop_fault : (text : List ℕ) → accepts Start text ≡ false → IsSyntaxFault text (taken Start text)
stop_fault text a = record {
  outside = λ g. false≢true (sym a ∙ grammar_accepted text g);
  within = within text Start;
  goes_on = goes_on text;
  longest = no_longer text;
}

stop_read : (text : List ℕ) → accepts Start text ≡ false → read_expr text ≡ syntax (taken Start text)
stop_read text a = let e : 0 + taken Start text ≡ taken Start text = omega arith in stops text 0 Start empty a ∙ ap syntax e

same_place : (a b : ℕ) (r : Result Expr ExprFault) → r ≡ syntax a → r ≡ syntax b → a ≡ b
same_place a b r p q = ap (λ f. f.at) (one_fault (record { at = a; kind = Syntax }) (record { at = b; kind = Syntax }) r p q)

syntax_fault : (text : List ℕ) (at : ℕ) → read_expr text ≡ syntax at → (b : Bool) → accepts Start text ≡ b → IsSyntaxFault text at
syntax_fault text at p true a = absurd (no_syntax text at a p)
syntax_fault text at p false a = subst (λ (n : ℕ). IsSyntaxFault text n) (same_place (taken Start text) at (read_expr text) (stop_read text a) p) (stop_fault text a)

fault_syntax : (text : List ℕ) (at : ℕ) → IsSyntaxFault text at → (b : Bool) → accepts Start text ≡ b → read_expr text ≡ syntax at
fault_syntax text at f true a = absurd (f.outside (accepted_in_grammar text a))
fault_syntax text at f false a =
    let low = f.longest (taken Start text) (within text Start) (goes_on text) in
    let high = no_longer text at f.within f.goes_on in
    let same : taken Start text ≡ at = omega arith in
    stop_read text a ∙ ap syntax same

pub syntax_both : (text : List ℕ) (at : ℕ) → (read_expr text ≡ syntax at) ↔ IsSyntaxFault text at
syntax_both text at = (λ p. syntax_fault text at p (accepts Start text) refl, λ f. fault_syntax text at f (accepts Start text) refl)
