-- What is asked behind a script has just one answer over a safe policy.
use Rattle.std.proofs.Common.{◌≡◌, ℕ, ◌-◌, ◌<◌, ◌≤◌, Bool, true, false, nat_lt, List, [], ◌∷◌, ◌++◌, length, codes, decimal, Some, None, IsTrue, inl, inr, refl, sym, ◌∙◌, ap, subst, arith}
use Rattle.std.specs.Prelude.{All}
use Rattle.std.proofs.lemmas.Bool.{ltb-true, ltb-false}
use Rattle.std.proofs.lemmas.List.Elements.{All-head, All-tail}
use Rattle.gt_base.specs.declared.events.Event.{Event}
use Rattle.gt_base.specs.declared.requests.Entry.{Entry}
use Rattle.gtrbac_model.specs.Base.{status, base_at}
use Rattle.gtrbac_model.specs.Conflict.{seen}
use Rattle.gtrbac_model.specs.History.{IsExecutionModel, now_of}
use Rattle.gtrbac_model.specs.Policy.{Policy}
use Rattle.gtrbac_model.specs.Safety.{IsSafe}
use Rattle.gtrbac_model.specs.Status.{Model}
use Rattle.gtrbac_model.specs.WholePolicy.{IsPolicy}
use Rattle.gtrbac_model.proofs.Elements.{split}
use Rattle.gtrbac_model.proofs.Levels.{by_trigger}
use Rattle.gtrbac_model.proofs.OneModel.{Agree, only_model, base_same, status_same}
use Rattle.gtrbac_model.proofs.Playing.{point_same}
use Rattle.walk_laws.proofs.Climbing.{safe_is_levelled}
use Rattle.gt_text.specs.Lines.{lines_of, is_longer}
use Rattle.policy_words.specs.Naming.{NamedPolicy}
use Rattle.policy_words.specs.declared.parts.NamedEvent.{NamedEvent}
use Rattle.policy_commands.specs.Ends.{EndView, ending}
use Rattle.forecast.proofs.Answering.{change_is_one}
use Rattle.why_check.specs.Certificates.{Listed, listed_at, says_something, ListedAscend, Accepts}
use Rattle.why_check.proofs.Ascending.{at_first, past_first, none_before}
use Rattle.why_check.proofs.Uniqueness.{RightAt, right_of, shown_over_nothing}
use Rattle.gtrbac_tool.specs.declared.ahead.Inquiry.{Inquiry}
use Rattle.gtrbac_tool.specs.declared.ahead.Inquiry.TheVariants.{Ahead, Standing}
use Rattle.gtrbac_tool.specs.Standing.{standing_line, TellsWhy}
use Rattle.gtrbac_tool.specs.Script.{ScriptStart, never, born, failed, start_of}
use Rattle.gtrbac_tool.specs.Late.{change_line, horizon, TellsAsked, FollowsRun, Answered, AnswersFrom, AnswersIf}
use Rattle.gtrbac_tool.specs.Meanings.{OneAnswer}
use Rattle.gtrbac_tool.proofs.OneEnd.{same_run}
use Rattle.gtrbac_tool.specs.declared.top.TheConstants.{MAX_SCRIPT}

-- each of the list has an event or a signal
abbrev Say : List Listed → Type 0
Say [] = Unit {0}
Say (l ∷ ls) = (says_something l ≡ true) × Say ls

all_say : (ls : List Listed) → All (λ l. IsTrue (says_something l)) ls → Say ls
all_say [] all = tt
all_say (l ∷ ls) all = (All-head (λ k. IsTrue (says_something k)) l ls all, all_say ls (All-tail (λ k. IsTrue (says_something k)) l ls all))

module _ (p : Policy) (is : IsPolicy p) (safe : IsSafe p.triggers) (birth : ℕ) (h : List Entry) (m : Model) (of_m : IsExecutionModel p birth h m) where
  abbrev Right : ℕ → List Listed → Type 0
  Right low ls = (t : ℕ) → low < t → t ≤ now_of birth h → RightAt p is safe birth h m of_m t (listed_at ls t)

  -- an instant that one certificate lists is not without a cause, so the other lists it too
  both_list : (t : ℕ) (l : Listed) (xs ys : List Listed) → says_something l ≡ true → RightAt p is safe birth h m of_m t (listed_at xs t) → RightAt p is safe birth h m of_m t (listed_at ys t)
      → listed_at xs t ≡ Some l → listed_at ys t ≡ None → ⊥
  both_list t l xs ys says a b there nowhere =
      shown_over_nothing p is (base_at p birth m h t) (status p birth m (t - 1)) l (subst (λ o. RightAt p is safe birth h m of_m t o) nowhere b) says (subst (λ o. RightAt p is safe birth h m of_m t o) there a)

  on_right : (low : ℕ) (l : Listed) (ls : List Listed) → low < l.at → Right low (l ∷ ls) → Right l.at ls
  on_right low l ls lt right = λ t a b.
      subst (λ o. RightAt p is safe birth h m of_m t o) (past_first l ls t (λ e. omega (arith, a, e))) (right t (omega (arith, lt, a)) b)

  as_many : (low : ℕ) (xs ys : List Listed) → ListedAscend low (now_of birth h) xs → ListedAscend low (now_of birth h) ys → Say xs → Say ys → Right low xs → Right low ys → length xs ≡ length ys
  as_many low [] [] a b s u r q = refl
  as_many low [] (y ∷ ys) a b s u r q = absurd (both_list y.at y (y ∷ ys) [] u.0 (q y.at b.0 b.1) (r y.at b.0 b.1) (at_first y ys y.at refl) refl)
  as_many low (x ∷ xs) [] a b s u r q = absurd (both_list x.at x (x ∷ xs) [] s.0 (r x.at a.0 a.1) (q x.at a.0 a.1) (at_first x xs x.at refl) refl)
  as_many low (x ∷ xs) (y ∷ ys) a b s u r q =
      split (nat_lt x.at y.at)
      (λ less.
      let lt : x.at < y.at = ltb-true x.at y.at less in
      absurd (both_list x.at x (x ∷ xs) (y ∷ ys) s.0 (r x.at a.0 a.1) (q x.at a.0 a.1) (at_first x xs x.at refl) (none_before x.at (now_of birth h) x.at (y ∷ ys) (lt, b.1, b.2) (omega arith))))
      (λ not_less.
      split (nat_lt y.at x.at)
      (λ more.
      let lt : y.at < x.at = ltb-true y.at x.at more in
      absurd (both_list y.at y (y ∷ ys) (x ∷ xs) u.0 (q y.at b.0 b.1) (r y.at b.0 b.1) (at_first y ys y.at refl) (none_before y.at (now_of birth h) y.at (x ∷ xs) (lt, a.1, a.2) (omega arith))))
      (λ not_more.
      let same : y.at ≡ x.at = omega (arith, ltb-false x.at y.at not_less, ltb-false y.at x.at not_more) in
      let rest : length xs ≡ length ys =
      as_many x.at xs ys a.2 (subst (λ t. ListedAscend t (now_of birth h) ys) same b.2) s.1 u.1 (on_right low x xs a.0 r) (subst (λ t. Right t ys) same (on_right low y ys b.0 q)) in
      omega (arith, rest)))

  -- certificates of one history list as many instants
  pub certs_as_many : (xs ys : List Listed) → Accepts p birth h xs → Accepts p birth h ys → length xs ≡ length ys
  certs_as_many xs ys a b =
      as_many birth xs ys a.ascends b.ascends (all_say xs a.some) (all_say ys b.some) (right_of p is safe birth h m of_m xs a) (right_of p is safe birth h m of_m ys b)

module _ (p : Policy) (is : IsPolicy p) (safe : IsSafe p.triggers) (birth : ℕ) (h : List Entry) where
  why_one : (named : NamedEvent) (e : Event) (text other : List ℕ) → TellsWhy p birth h named e text → TellsWhy p birth h named e other → text ≡ other
  why_one named e text other x y =
      let now : ℕ = now_of birth h in
      let levels = safe_is_levelled p.triggers safe in
      let agree : Agree p birth x.model y.model now =
      only_model p birth h y.model levels.0 (by_trigger p.triggers levels.0 levels.1) y.legal.model x.model x.legal.model in
      let earlier : Agree p birth x.model y.model (now - 1) = λ u a b. agree u a (omega (arith, b)) in
      let base = base_same p birth x.model y.model now h earlier in
      let before = status_same p birth x.model y.model (now - 1) (now - 1) earlier (omega arith) in
      let point = point_same p birth x.model y.model h agree in
      let count = certs_as_many p is safe birth h x.model x.legal.model x.cert y.cert x.accepted y.accepted in
      x.text_is
      ∙ (λ i. (codes "certificate " ++ decimal (count i) ++ codes "\n") ++ standing_line p.triggers (base i) (before i) ((point i).set) named e (seen ((point i).set) e))
      ∙ sym y.text_is

  tells_one : (asked : Inquiry) (text other : List ℕ) → TellsAsked p asked birth h text → TellsAsked p asked birth h other → text ≡ other
  tells_one (Ahead days c) text other x y =
      let upto : ℕ = horizon (now_of birth h) days in
      x.line_is ∙ ap (change_line c upto) (change_is_one p safe birth h c.fluent upto x.change y.change x.first y.first) ∙ sym y.line_is
  tells_one (Standing named e) text other x y = why_one named e text other x y

  follows_one : (asked : Inquiry) (ran end other : EndView) → FollowsRun p asked birth h ran end → FollowsRun p asked birth h ran other → end ≡ other
  follows_one asked ran end other (inl x) (inl y) = x.1.2 ∙ ap (λ (t : List ℕ). ending 0 (ran.text ++ t)) (tells_one asked x.1.0 y.1.0 x.1.1 y.1.1) ∙ sym y.1.2
  follows_one asked ran end other (inl x) (inr y) = absurd (y.0 x.0)
  follows_one asked ran end other (inr x) (inl y) = absurd (x.0 y.0)
  follows_one asked ran end other (inr x) (inr y) = x.1 ∙ sym y.1

module _ (np : NamedPolicy) (is : IsPolicy np.policy) (safe : IsSafe np.policy.triggers) (asked : Inquiry) where
  answered_one : (birth n : ℕ) (lines : List (List ℕ)) (end other : EndView) → Answered np asked birth n lines end → Answered np asked birth n lines other → end ≡ other
  answered_one birth n lines end other x y =
      let same = same_run np safe birth n lines x.history y.history x.ran y.ran x.run y.run in
      follows_one np.policy is safe birth x.history asked x.ran end other x.follows
      (subst (λ (h : List Entry). FollowsRun np.policy asked birth h x.ran other) (sym same.0) (subst (λ (ran : EndView). FollowsRun np.policy asked birth y.history ran other) (sym same.1) y.follows))

  from_one : (start : ScriptStart) (end other : EndView) → AnswersFrom np asked start end → AnswersFrom np asked start other → end ≡ other
  from_one never end other x y = x ∙ sym y
  from_one (born birth n lines) end other x y = answered_one birth n lines end other x y
  from_one (failed t) end other x y = x ∙ sym y

  if_one : (long : Bool) (script : List ℕ) (end other : EndView) → AnswersIf long np asked script end → AnswersIf long np asked script other → end ≡ other
  if_one true script end other x y = x ∙ sym y
  if_one false script end other x y = from_one (start_of np 1 (lines_of script)) end other x y

pub one_answer : OneAnswer
one_answer np is safe asked script end other x y = if_one np is safe asked (is_longer MAX_SCRIPT script) script end other x y
