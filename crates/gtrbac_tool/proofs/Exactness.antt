-- Each status has its cause, and each cause its status.
use Rattle.std.proofs.Common.{◌≡◌, ℕ, ◌<◌, ◌≤◌, List, length, Option, Some, None, ◌⊎◌, inl, inr, refl, sym, ap, ◌∙◌, subst, arith}
use Rattle.std.specs.Prelude.{Result, Ok, Err, IfSome, IsSome, IsSomeAnd, codes}
use Rattle.gt_io.specs.Causes.{Rose}
use Rattle.gt_io.specs.Shelf.{Contents, Lacks}
use Rattle.gt_text.specs.Lines.{lines_of}
use Rattle.gtrbac_model.specs.Safety.{IsSafe, the_cycle}
use Rattle.walk_laws.proofs.Closing.{tells}
use Rattle.policy_words.specs.Naming.{NamedPolicy}
use Rattle.policy_words.specs.PolicyRead.{PolicyFault, policy_read}
use Rattle.policy_commands.specs.Ends.{EndView, ending}
use Rattle.policy_commands.specs.Finding.{IsLongPolicy, IsStoredText, MissesText}
use Rattle.policy_commands.specs.Printing.{IsPrinted}
use Rattle.policy_commands.specs.Policies.{policy_or_end, policy_in, safe_or_cycle, judged, judged_or_end, safe_in, HasTextFault, IsUnsafeText}
use Rattle.policy_commands.specs.Commands.{laid_or_end, fmt_end, safe_or_end, check_end}
use Rattle.policy_commands.specs.Meanings.{IsSafeText}
use Rattle.policy_commands.proofs.Answered.{safe_means, unsafe_means, fault_means, fmt_fault_means}
use Rattle.policy_commands.specs.declared.finding.TheConstants.{MAX_POLICY}
use Rattle.gtrbac_tool.specs.declared.questions.Question.{Question}
use Rattle.gtrbac_tool.specs.declared.ahead.Inquiry.{Inquiry}
use Rattle.gtrbac_tool.specs.Late.{asks_of}
use Rattle.gtrbac_tool.specs.Script.{IsRunStatus, start_of, EndsFrom}
use Rattle.gtrbac_tool.specs.Meanings.{MeetsFault, MeetsFull, IsWhole, RunMeans}
use Rattle.gtrbac_tool.specs.Summary.{Gen, IsGen}
use Rattle.gtrbac_tool.specs.Commands.{Command, check, fmt, run, named_by, command_of, IsPlainRun}
use Rattle.gtrbac_tool.specs.Writing.{IsCutShort}
use Rattle.gtrbac_tool.specs.Ends.{PlaysTo, ScriptEnds, AskedEnds, JudgedEnds, TextEnds, FoundEnds, IsNoCommand, WordsEnd, generated, unspoken, spoken}
use Rattle.gtrbac_tool.specs.Scenes.{Scene}
use Rattle.gtrbac_tool.specs.Causes.{perhaps, surely, Sees, Fails, IsSafeOf, HasPolicy, Checks, Lays, Judges, Plays, Short, OnShelf, Over, Text, Script, IsMissing, IsTooLong, IsLongScript, Within, Cause, safe, laid, played, made, no_command, faulty, unsafe, missing, unread, unwritten, long_policy, long_script, bad_line, no_memory, full, unknown}
use Rattle.gtrbac_tool.specs.Tool.{IsUnread, IsUnwritten, IsSteady, Answers, IsDue, Leaves, RunsTool}
use Rattle.gtrbac_tool.proofs.Causing.{played_status, status_of, gen_no_command}
use Rattle.gtrbac_tool.proofs.Limits.{ran_to}
use Rattle.gtrbac_tool.proofs.OneEnd.{means_so}
use Rattle.gtrbac_tool.proofs.Succeeding.{gen_succeeds}
use Rattle.gtrbac_tool.specs.declared.top.TheConstants.{MAX_SCRIPT}

-- a policy that is refused ends with this status
abbrev EndsWith : ℕ → Result NamedPolicy EndView → Type 0
EndsWith s (Ok np) = ⊥
EndsWith s (Err t) = t.status ≡ s

-- a text: it has a fault, or its policy is not safe, or it is

module _ (text : List ℕ) where
  safe_is : (r : Result NamedPolicy PolicyFault) → policy_read text ≡ r → safe_in text ≡ judged_or_end (policy_or_end r)
  unfolding safe_in policy_in
  safe_is r e = ap (λ x. judged_or_end (policy_or_end x)) e

  judged_is : (np : NamedPolicy) (c : Option (List ℕ)) → policy_read text ≡ Ok np → the_cycle np.policy.triggers ≡ c → safe_in text ≡ safe_or_cycle np c
  unfolding judged
  judged_is np c read e = safe_is (Ok np) read ∙ ap (safe_or_cycle np) e

  pub safe_found : (np : NamedPolicy) → IsSafeOf text np → safe_in text ≡ Ok np
  safe_found np s = judged_is np None s.is ((tells np.policy.triggers).0 s.safe)

  fault_found : HasTextFault text → EndsWith 2 (safe_in text)
  fault_found f = subst (EndsWith 2) (sym (safe_is (Err f.fault) f.is)) refl

  cycle_found : IsUnsafeText text → EndsWith 3 (safe_in text)
  cycle_found u = by (the_cycle u.policy.policy.triggers) refl
    where
      by : (c : Option (List ℕ)) → the_cycle u.policy.policy.triggers ≡ c → EndsWith 3 (safe_in text)
      by None c = absurd (u.unsafe ((tells u.policy.policy.triggers).1 c))
      by (Some es) c = subst (EndsWith 3) (sym (judged_is u.policy (Some es) u.is c)) refl

  laid_found : (np : NamedPolicy) → policy_read text ≡ Ok np → (fmt_end text).status ≡ 0
  unfolding fmt_end policy_in
  laid_found np e = ap (λ x. (laid_or_end (policy_or_end x)).status) e

  sort_of : (r : Result NamedPolicy PolicyFault) → policy_read text ≡ r → HasTextFault text ⊎ IsUnsafeText text ⊎ ((np : NamedPolicy) × IsSafeOf text np)
  sort_of (Err f) e = inl (record { fault = f; is = e })
  sort_of (Ok np) e = by (the_cycle np.policy.triggers) refl
    where
      by : (c : Option (List ℕ)) → the_cycle np.policy.triggers ≡ c → HasTextFault text ⊎ IsUnsafeText text ⊎ ((q : NamedPolicy) × IsSafeOf text q)
      by None c = inr (inr (np, record { is = e; safe = (tells np.policy.triggers).1 c }))
      by (Some es) c = inr (inl (record { policy = np; is = e; unsafe = λ good. let is : Some es ≡ None = sym c ∙ (tells np.policy.triggers).0 good in cc (is) }))

  pub sort : HasTextFault text ⊎ IsUnsafeText text ⊎ ((np : NamedPolicy) × IsSafeOf text np)
  sort = sort_of (policy_read text) refl

  check_safe : (np : NamedPolicy) → safe_in text ≡ Ok np → check_end text ≡ ending 0 (codes "safe\n")
  unfolding check_end
  check_safe np e = ap safe_or_end e

  -- a policy that was admitted is safe
  pub safe_text : (np : NamedPolicy) → safe_in text ≡ Ok np → IsSafeText text
  safe_text np e = (safe_means text).0 (check_safe np e)

  ok_same : (np q : NamedPolicy) → ◌≡◌ {A = Result NamedPolicy EndView} (Ok np) (Ok q) → np ≡ q
  ok_same np q e = cc

  -- and the text is of it
  pub safe_of : (np : NamedPolicy) → safe_in text ≡ Ok np → IsSafeOf text np
  safe_of np e =
      let t : IsSafeText text = safe_text np e in
      let there : IsSafeOf text t.policy = record { is = t.is; safe = t.safe } in
      subst (IsSafeOf text) (ok_same t.policy np (sym (safe_found t.policy there) ∙ e)) there

-- what an option has

pub some_of : {A : Type 0} (P : A → Type 0) (o : Option A) → IsSomeAnd o P → (x : A) × (o ≡ Some x) × P x
some_of P None h = absurd h
some_of P (Some x) h = (x, refl, h)

pub has_some : {A : Type 0} (P : A → Type 0) (o : Option A) (x : A) → o ≡ Some x → P x → IsSomeAnd o P
has_some {A} P o x e h = subst (λ (y : Option A). IsSomeAnd y P) (sym e) h

pub one_some : {A : Type 0} (o : Option A) (x y : A) → o ≡ Some x → o ≡ Some y → x ≡ y
one_some {A} o x y e n = let same : ◌≡◌ {A = Option A} (Some x) (Some y) = sym e ∙ n in cc same

pub none_apart : {A : Type 0} (o : Option A) (x : A) → o ≡ None → o ≡ Some x → ⊥
none_apart {A} o x e n = let no : ◌≡◌ {A = Option A} None (Some x) = sym e ∙ n in absurd (cc no)

-- what the status of a script says

module _ (np : NamedPolicy) (good : IsSafe np.policy.triggers) (script : List ℕ) (short : length script ≤ MAX_SCRIPT) (asked : Option Inquiry) (end : EndView) (is : PlaysTo np asked script end) where
  ran : (ran : EndView) × EndsFrom np (start_of np 1 (lines_of script)) ran × (end.status ≡ ran.status)
  ran = ran_to np script short asked end is

  means : RunMeans np script ran.0
  means = means_so np script good ran.0 ran.1

  one_of_three : IsRunStatus ran.0.status
  one_of_three = played_status np (lines_of script) ran.0 ran.1

-- over the text that a shelf has, where it tells
pub on_shelf : (Holds : Command → List ℕ → Type 0) (c : Command) (text : List ℕ) (o : Contents)
    → IfSome o (λ text_of. text_of (named_by c) ≡ Some text) → Holds c text → OnShelf perhaps o Holds c
on_shelf Holds c text None found h = tt
on_shelf Holds c text (Some text_of) found h = has_some (Holds c) (text_of (named_by c)) text found h

-- over a text a command ends with 4 by its input alone
module _ (failed : Type 0) (input : Option (List ℕ)) (end : EndView) (four : end.status ≡ 4) where
  played_four : (np : NamedPolicy) → IsSafe np.policy.triggers → (asked : Option Inquiry) (script : List ℕ) → length script ≤ MAX_SCRIPT → PlaysTo np asked script end → failed
  played_four np good asked script short plays = by (one_of_three np good script short asked end plays)
    where
      r : (q : EndView) × EndsFrom np (start_of np 1 (lines_of script)) q × (end.status ≡ q.status)
      r = ran np good script short asked end plays

      by : IsRunStatus r.0.status → failed
      by (inl z) = let e : end.status ≡ 0 = r.2 ∙ z in absurd (cc (e, four))
      by (inr (inl z)) = let e : end.status ≡ 7 = r.2 ∙ z in absurd (cc (e, four))
      by (inr (inr z)) = let e : end.status ≡ 9 = r.2 ∙ z in absurd (cc (e, four))

  asked_four : (np : NamedPolicy) → IsSafe np.policy.triggers → (o : Option (Option Inquiry)) → AskedEnds failed np o input end → failed
  asked_four np good None e = let is : end.status ≡ 13 = status_of end _ e in absurd (cc (is, four))
  asked_four np good (Some asked) (inl e) = e.1
  asked_four np good (Some asked) (inr (inl e)) = let is : end.status ≡ 6 = status_of end _ e.0 in absurd (cc (is, four))
  asked_four np good (Some asked) (inr (inr e)) = played_four np good asked e.0 e.2 e.3

  judged_four : (question : Option Question) (text : List ℕ) → JudgedEnds failed question (safe_in text) input end → failed
  judged_four question text e =
      elim (sort text) [
        | inl f ↦ refused_four 2 (λ is. cc (is, four)) (safe_in text) (fault_found text f) e
        | inr (inl u) ↦ refused_four 3 (λ is. cc (is, four)) (safe_in text) (cycle_found text u) e
        | inr (inr s) ↦ asked_four s.0 s.1.safe (asks_of s.0 question) (subst (λ (r : Result NamedPolicy EndView). JudgedEnds failed question r input end) (safe_found text s.0 s.1) e)
      ]
    where
      refused_four : (s : ℕ) → (end.status ≡ s → ⊥) → (r : Result NamedPolicy EndView) → EndsWith s r → JudgedEnds failed question r input end → failed
      refused_four s other (Ok np) ends is = absurd ends
      refused_four s other (Err t) ends is = absurd (other (status_of end t is ∙ ends))

  pub text_four : (c : Command) (text : List ℕ) → TextEnds failed c text input end → failed
  text_four (check name) text e =
      elim (sort text) [
        | inl f ↦ let is : end.status ≡ 2 = status_of end _ e ∙ (fault_means text).1 f in absurd (cc (is, four))
        | inr (inl u) ↦ let is : end.status ≡ 3 = status_of end _ e ∙ (unsafe_means text).1 u in absurd (cc (is, four))
        | inr (inr s) ↦ let is : end.status ≡ 0 = status_of end _ e ∙ status_of (check_end text) _ ((safe_means text).1 (safe_text text s.0 (safe_found text s.0 s.1))) in absurd (cc (is, four))
      ]
  text_four (fmt name) text e =
      elim (sort text) [
        | inl f ↦ let is : end.status ≡ 2 = status_of end _ e ∙ (fmt_fault_means text).1 f in absurd (cc (is, four))
        | inr (inl u) ↦ let is : end.status ≡ 0 = status_of end _ e ∙ laid_found text u.policy u.is in absurd (cc (is, four))
        | inr (inr s) ↦ let is : end.status ≡ 0 = status_of end _ e ∙ laid_found text s.0 s.1.is in absurd (cc (is, four))
      ]
  text_four (run name question) text e = judged_four question text e

module _ {S I : Type 0} (words : List (List ℕ)) (a b : Scene S I) where
  abbrev pub Hard : Type 0
  Hard = Rose a.hard_faults b.hard_faults

  abbrev pub Lost : Type 0
  Lost = Rose a.input_faults b.input_faults

  abbrev Has : ℕ → Type 0
  Has s = Cause perhaps words s a b

  -- a status has its cause

  over : (Holds : Command → List ℕ → Type 0) (c : Command) → command_of words ≡ Some c → OnShelf perhaps a.texts Holds c → Over perhaps words a.texts Holds
  over Holds c is h = has_some (OnShelf perhaps a.texts Holds) (command_of words) c is h

  of_text : (Holds : Command → List ℕ → Type 0) (c : Command) (text : List ℕ) → command_of words ≡ Some c → IsStoredText a.texts (named_by c) text → Holds c text → Text perhaps words a.texts Holds
  of_text Holds c text is there h = over (Short Holds) c is (on_shelf (Short Holds) c text a.texts there.found (there.short, h))

  sees : (o : Option (List ℕ)) (script : List ℕ) (Holds : List ℕ → Type 0) → IfSome o (λ left. script ≡ left) → Holds script → Sees perhaps o Holds
  sees None script Holds is h = tt
  sees (Some left) script Holds is h = subst Holds is h

  long_sees : (o : Option (List ℕ)) (np : NamedPolicy) → IfSome o (λ left. MAX_SCRIPT < length left) → Sees perhaps o (IsLongScript np)
  long_sees None np h = tt
  long_sees (Some left) np h = h

  module _ (name : List ℕ) (question : Option Question) (text : List ℕ) (is : command_of words ≡ Some (run name question)) (there : IsStoredText a.texts name text) (np : NamedPolicy) (of : IsSafeOf text np) (end : EndView) where
    over_script : (asked : Option Inquiry) → asks_of np question ≡ Some asked → (Holds : NamedPolicy → List ℕ → Type 0) → Sees perhaps a.script (Holds np) → Script perhaps words a.texts a.script Holds
    over_script asked e Holds h =
        of_text (Plays (λ p o. IsSome o × Sees perhaps a.script (Holds p))) (run name question) text is there
        (np, of, (subst (λ (o : Option (Option Inquiry)). IsSome o) (sym e) refl, h))

    played_cause : (asked : Option Inquiry) → asks_of np question ≡ Some asked → (script : List ℕ) → IfSome a.script (λ left. script ≡ left) → (short : length script ≤ MAX_SCRIPT)
        → PlaysTo np asked script end → Has end.status
    played_cause asked e script same short plays = by (one_of_three np of.safe script short asked end plays)
      where
        r : (q : EndView) × EndsFrom np (start_of np 1 (lines_of script)) q × (end.status ≡ q.status)
        r = ran np of.safe script short asked end plays

        m : RunMeans np script r.0
        m = means np of.safe script short asked end plays

        by : IsRunStatus r.0.status → Has end.status
        by (inl z) = played (r.2 ∙ z) (over_script asked e (Within IsWhole) (sees a.script script (Within IsWhole np) same (short, m.whole.0 z)))
        by (inr (inl z)) = bad_line (r.2 ∙ z) (over_script asked e (Within MeetsFault) (sees a.script script (Within MeetsFault np) same (short, m.fault.0 z)))
        by (inr (inr z)) = full (r.2 ∙ z) (over_script asked e (Within MeetsFull) (sees a.script script (Within MeetsFull np) same (short, m.full.0 z)))

    asked_cause : (o : Option (Option Inquiry)) → asks_of np question ≡ o → AskedEnds Lost np o a.script end → Has end.status
    asked_cause None e ends = unknown (status_of end _ ends) (of_text (Plays (λ p o. o ≡ None)) (run name question) text is there (np, of, e))
    asked_cause (Some asked) e (inl ends) = unread (status_of end _ ends.0) (subst (λ (o : Option Command). IsSome o) (sym is) refl) (inr ends.1)
    asked_cause (Some asked) e (inr (inl ends)) = long_script (status_of end _ ends.0) (over_script asked e IsLongScript (long_sees a.script np ends.1))
    asked_cause (Some asked) e (inr (inr ends)) = played_cause asked e ends.0 ends.1 ends.2 ends.3

  refused : (question : Option Question) (r : Result NamedPolicy EndView) (end : EndView) (s : ℕ) → EndsWith s r → JudgedEnds Lost question r a.script end → end.status ≡ s
  refused question (Ok np) end s ends is = absurd ends
  refused question (Err t) end s ends is = status_of end t is ∙ ends

  judged_by : (question : Option Question) (text : List ℕ) (np : NamedPolicy) (end : EndView) → IsSafeOf text np → JudgedEnds Lost question (safe_in text) a.script end → AskedEnds Lost np (asks_of np question) a.script end
  judged_by question text np end of is = subst (λ (r : Result NamedPolicy EndView). JudgedEnds Lost question r a.script end) (safe_found text np of) is

  text_cause : (c : Command) (text : List ℕ) → command_of words ≡ Some c → IsStoredText a.texts (named_by c) text → (end : EndView) → TextEnds Lost c text a.script end → Has end.status
  text_cause (check name) text is there end ends =
      elim (sort text) [
        | inl f ↦ faulty (status_of end _ ends ∙ (fault_means text).1 f) (of_text (λ c t. HasTextFault t) (check name) text is there f)
        | inr (inl u) ↦ unsafe (status_of end _ ends ∙ (unsafe_means text).1 u) (of_text (Judges IsUnsafeText) (check name) text is there u)
        | inr (inr s) ↦
            let so : IsSafeText text = safe_text text s.0 (safe_found text s.0 s.1) in
            safe (status_of end _ ends ∙ status_of (check_end text) _ ((safe_means text).1 so)) (of_text (Checks IsSafeText) (check name) text is there so)
      ]
  text_cause (fmt name) text is there end ends =
      elim (sort text) [
        | inl f ↦ faulty (status_of end _ ends ∙ (fmt_fault_means text).1 f) (of_text (λ c t. HasTextFault t) (fmt name) text is there f)
        | inr (inl u) ↦ laid (status_of end _ ends ∙ laid_found text u.policy u.is) (of_text (Lays HasPolicy) (fmt name) text is there (u.policy, u.is))
        | inr (inr s) ↦ laid (status_of end _ ends ∙ laid_found text s.0 s.1.is) (of_text (Lays HasPolicy) (fmt name) text is there (s.0, s.1.is))
      ]
  text_cause (run name question) text is there end ends =
      elim (sort text) [
        | inl f ↦ faulty (refused question (safe_in text) end 2 (fault_found text f) ends) (of_text (λ c t. HasTextFault t) (run name question) text is there f)
        | inr (inl u) ↦ unsafe (refused question (safe_in text) end 3 (cycle_found text u) ends) (of_text (Judges IsUnsafeText) (run name question) text is there u)
        | inr (inr s) ↦ asked_cause name question text is there s.0 s.1 end (asks_of s.0 question) refl (judged_by question text s.0 end s.1 ends)
      ]

  found_cause : (c : Command) → command_of words ≡ Some c → (end : EndView) → FoundEnds Hard Lost c a.texts a.script end → Has end.status
  found_cause c is end (inl (inl m)) =
      elim m.1 [
        | inl rose ↦ unread (status_of end _ m.0) (subst (λ (o : Option Command). IsSome o) (sym is) refl) (inl rose)
        | inr lacks ↦ missing (status_of end _ m.0) (has_some (λ k. Lacks a.texts (named_by k)) (command_of words) c is lacks)
      ]
  found_cause c is end (inl (inr m)) = long_policy (status_of end _ m.0) (over IsTooLong c is m.1)
  found_cause c is end (inr m) = text_cause c m.0 is m.1 end m.2

  end_cause : (end : EndView) → WordsEnd Hard Lost words a.texts a.script end → Has end.status
  end_cause end (generated g is ends) = made (gen_succeeds g is.low is.high end ends) g is
  end_cause end (unspoken none ends) = no_command (status_of end _ ends) none
  end_cause end (spoken c is ends) = found_cause c is end ends

  pub cause_of : (status : ℕ) → Answers words status a b → Has status
  cause_of status (inl h) = no_memory h.1.0 h.0 refl
  cause_of status (inr h) =
      elim h.3 [
        | inl (inl p) ↦ subst Has (sym p.0) (end_cause h.0 h.1)
        | inl (inr p) ↦ unwritten p.0 p.1
        | inr p ↦ no_memory p.1.0 (λ none. absurd (subst (λ (o : Option Command). IsSomeAnd o IsPlainRun) none.0 p.0)) refl
      ]

  -- and a cause its status

  abbrev pub Fits : ℕ → EndView → Type 0
  Fits s end = (end.status ≡ s) ⊎ ((end.status ≡ 4) × (Hard ⊎ Lost))

  -- over a text that the shelf surely has
  pub record At (Holds : Command → List ℕ → Type 0) : Type 0 where
    pub command : Command
    pub is : command_of words ≡ Some command
    pub text_of : List ℕ → Option (List ℕ)
    pub told : a.texts ≡ Some text_of
    pub text : List ℕ
    pub found : text_of (named_by command) ≡ Some text
    pub holds : Holds command text

  at : (Holds : Command → List ℕ → Type 0) → Over surely words a.texts Holds → At Holds
  at Holds h =
      let one = some_of (OnShelf surely a.texts Holds) (command_of words) h in
      let two = some_of (λ text_of. IsSomeAnd (text_of (named_by one.0)) (Holds one.0)) a.texts one.2 in
      let three = some_of (Holds one.0) (two.0 (named_by one.0)) two.2 in
      record { command = one.0; is = one.1; text_of = two.0; told = two.1; text = three.0; found = three.1; holds = three.2 }

  -- the command ends over this text, or it is too long, or the shelf failed
  module _ (Holds : Command → List ℕ → Type 0) (t : At Holds) (end : EndView) where
    abbrev Ending : Type 0
    Ending = ((end.status ≡ 4) × Hard) ⊎ ((end.status ≡ 6) × (MAX_POLICY < length t.text)) ⊎ ((length t.text ≤ MAX_POLICY) × TextEnds Lost t.command t.text a.script end)

    missed : MissesText Hard a.texts (named_by t.command) end → Ending
    missed (inl (m, inl rose)) = inl (status_of end _ m, rose)
    missed (inl (m, inr lacks)) =
        let none : t.text_of (named_by t.command) ≡ None = subst (λ (o : Contents). Lacks o (named_by t.command)) t.told lacks in
        absurd (none_apart (t.text_of (named_by t.command)) t.text none t.found)
    missed (inr (m, long)) =
        let here : IsSomeAnd (t.text_of (named_by t.command)) IsLongPolicy = subst (λ (o : Contents). IfSome o (λ text_of. IsSomeAnd (text_of (named_by t.command)) IsLongPolicy)) t.told long in
        inr (inl (status_of end _ m, subst (λ (o : Option (List ℕ)). IsSomeAnd o IsLongPolicy) t.found here))

    over_it : (text : List ℕ) → IsStoredText a.texts (named_by t.command) text → TextEnds Lost t.command text a.script end → Ending
    over_it text there ends =
        let here : t.text_of (named_by t.command) ≡ Some text = subst (λ (o : Contents). IfSome o (λ text_of. text_of (named_by t.command) ≡ Some text)) t.told there.found in
        let same : text ≡ t.text = one_some (t.text_of (named_by t.command)) text t.text here t.found in
        inr (inr (subst (λ (x : List ℕ). length x ≤ MAX_POLICY) same there.short, subst (λ (x : List ℕ). TextEnds Lost t.command x a.script end) same ends))

    of_found : FoundEnds Hard Lost t.command a.texts a.script end → Ending
    of_found (inl m) = missed m
    of_found (inr m) = over_it m.0 m.1 m.2

    of_words : WordsEnd Hard Lost words a.texts a.script end → Ending
    of_words (generated g is ends) = absurd (none_apart (command_of words) t.command (gen_no_command words g is) t.is)
    of_words (unspoken none ends) = absurd (none_apart (command_of words) t.command none.0 t.is)
    of_words (spoken c is ends) = of_found (subst (λ (k : Command). FoundEnds Hard Lost k a.texts a.script end) (one_some (command_of words) c t.command is t.is) ends)

  module _ (end : EndView) (ends : WordsEnd Hard Lost words a.texts a.script end) where
    -- of a text that is not too long
    pub text_fits : (s : ℕ) (Holds : Command → List ℕ → Type 0) → ((c : Command) (text : List ℕ) → Holds c text → TextEnds Lost c text a.script end → Fits s end) → Text surely words a.texts Holds → Fits s end
    text_fits s Holds so h = by (of_words (Short Holds) t end ends)
      where
        t : At (Short Holds)
        t = at (Short Holds) h

        by : Ending (Short Holds) t end → Fits s end
        by (inl lost) = inr (lost.0, inl lost.1)
        by (inr (inl long)) = absurd (omega (arith, long.1, t.holds.0))
        by (inr (inr over)) = so t.command t.text t.holds.1 over.1

    long_fits : Over surely words a.texts IsTooLong → Fits 6 end
    long_fits h = by (of_words IsTooLong t end ends)
      where
        t : At IsTooLong
        t = at IsTooLong h

        by : Ending IsTooLong t end → Fits 6 end
        by (inl lost) = inr (lost.0, inl lost.1)
        by (inr (inl long)) = inl long.0
        by (inr (inr over)) = absurd (omega (arith, over.0, t.holds))

    checks_fits : (c : Command) (text : List ℕ) → Checks IsSafeText c text → TextEnds Lost c text a.script end → Fits 0 end
    checks_fits (check name) text h e = inl (status_of end _ e ∙ status_of (check_end text) _ ((safe_means text).1 h))
    checks_fits (fmt name) text h e = absurd h
    checks_fits (run name question) text h e = absurd h

    lays_fits : (c : Command) (text : List ℕ) → Lays HasPolicy c text → TextEnds Lost c text a.script end → Fits 0 end
    lays_fits (check name) text h e = absurd h
    lays_fits (fmt name) text h e = inl (status_of end _ e ∙ laid_found text h.0 h.1)
    lays_fits (run name question) text h e = absurd h

    fault_fits : (c : Command) (text : List ℕ) → HasTextFault text → TextEnds Lost c text a.script end → Fits 2 end
    fault_fits (check name) text h e = inl (status_of end _ e ∙ (fault_means text).1 h)
    fault_fits (fmt name) text h e = inl (status_of end _ e ∙ (fmt_fault_means text).1 h)
    fault_fits (run name question) text h e = inl (refused question (safe_in text) end 2 (fault_found text h) e)

    judges_fits : (c : Command) (text : List ℕ) → Judges IsUnsafeText c text → TextEnds Lost c text a.script end → Fits 3 end
    judges_fits (check name) text h e = inl (status_of end _ e ∙ (unsafe_means text).1 h)
    judges_fits (fmt name) text h e = absurd h
    judges_fits (run name question) text h e = inl (refused question (safe_in text) end 3 (cycle_found text h) e)

    none_asked : (np : NamedPolicy) (o : Option (Option Inquiry)) → o ≡ None → AskedEnds Lost np o a.script end → Fits 13 end
    none_asked np None e is = inl (status_of end _ is)
    none_asked np (Some asked) e is = absurd (cc (e))

    unknown_fits : (c : Command) (text : List ℕ) → Plays (λ np asked. asked ≡ None) c text → TextEnds Lost c text a.script end → Fits 13 end
    unknown_fits (check name) text h e = absurd h
    unknown_fits (fmt name) text h e = absurd h
    unknown_fits (run name question) text h e = none_asked h.0 (asks_of h.0 question) h.2 (judged_by question text h.0 end h.1 e)

    -- of a script that the input surely has
    module _ (np : NamedPolicy) (left : List ℕ) (told : a.script ≡ Some left) where
      abbrev pub Played : Type 0
      Played = ((end.status ≡ 4) × Lost) ⊎ ((end.status ≡ 6) × (MAX_SCRIPT < length left)) ⊎ ((asked : Option Inquiry) × (length left ≤ MAX_SCRIPT) × PlaysTo np asked left end)

      script_ends : (asked : Option Inquiry) → ScriptEnds Lost np asked a.script end → Played
      script_ends asked (inl e) = inl (status_of end _ e.0, e.1)
      script_ends asked (inr (inl e)) = inr (inl (status_of end _ e.0, subst (λ (o : Option (List ℕ)). IfSome o (λ x. MAX_SCRIPT < length x)) told e.1))
      script_ends asked (inr (inr e)) =
          let same : e.0 ≡ left = subst (λ (o : Option (List ℕ)). IfSome o (λ x. e.0 ≡ x)) told e.1 in
          inr (inr (asked, subst (λ (x : List ℕ). length x ≤ MAX_SCRIPT) same e.2, subst (λ (x : List ℕ). PlaysTo np asked x end) same e.3))

      some_asked : (o : Option (Option Inquiry)) → IsSome o → AskedEnds Lost np o a.script end → Played
      some_asked None there e = absurd (cc (there))
      some_asked (Some asked) there e = script_ends asked e

    pub script_fits : (s : ℕ) (Holds : NamedPolicy → List ℕ → Type 0)
        → ((np : NamedPolicy) (left : List ℕ) (told : a.script ≡ Some left) → IsSafe np.policy.triggers → Holds np left → Played np left told → Fits s end)
        → Script surely words a.texts a.script Holds → Fits s end
    script_fits s Holds so h = text_fits s (Plays (λ np asked. IsSome asked × Sees surely a.script (Holds np))) by h
      where
        by : (c : Command) (text : List ℕ) → Plays (λ np asked. IsSome asked × Sees surely a.script (Holds np)) c text → TextEnds Lost c text a.script end → Fits s end
        by (check name) text p e = absurd p
        by (fmt name) text p e = absurd p
        by (run name question) text p e =
            let left = some_of (Holds p.0) a.script p.2.1 in
            so p.0 left.0 left.1 p.1.safe left.2 (some_asked p.0 left.0 left.1 (asks_of p.0 question) p.2.0 (judged_by question text p.0 end p.1 e))

    module _ (np : NamedPolicy) (left : List ℕ) (told : a.script ≡ Some left) (good : IsSafe np.policy.triggers) where
      long_script_fits : IsLongScript np left → Played np left told → Fits 6 end
      long_script_fits h (inl lost) = inr (lost.0, inr lost.1)
      long_script_fits h (inr (inl long)) = inl long.0
      long_script_fits h (inr (inr p)) = absurd (omega (arith, h, p.1))

      pub within_fits : (s : ℕ) (Holds : NamedPolicy → List ℕ → Type 0) → ((other : EndView) → IsRunStatus other.status → RunMeans np left other → Holds np left → other.status ≡ s) → Within Holds np left → Played np left told → Fits s end
      within_fits s Holds so h (inl lost) = inr (lost.0, inr lost.1)
      within_fits s Holds so h (inr (inl long)) = absurd (omega (arith, h.0, long.1))
      within_fits s Holds so h (inr (inr p)) =
          let r = ran np good left p.1 p.0 end p.2 in
          inl (r.2 ∙ so r.0 (one_of_three np good left p.1 p.0 end p.2) (means np good left p.1 p.0 end p.2) h.1)

    made_fits : (g : Gen) → IsGen words g → WordsEnd Hard Lost words a.texts a.script end → Fits 0 end
    made_fits g is (generated h it e) = inl (gen_succeeds h it.low it.high end e)
    made_fits g is (unspoken none e) = absurd (none.1 g is)
    made_fits g is (spoken c it e) = absurd (none_apart (command_of words) c (gen_no_command words g is) it)

    no_command_fits : IsNoCommand words → WordsEnd Hard Lost words a.texts a.script end → Fits 1 end
    no_command_fits none (generated h it e) = absurd (none.1 h it)
    no_command_fits none (unspoken other e) = inl (status_of end _ e)
    no_command_fits none (spoken c it e) = absurd (none_apart (command_of words) c none.0 it)

    missing_found : (c : Command) (text_of : List ℕ → Option (List ℕ)) → a.texts ≡ Some text_of → text_of (named_by c) ≡ None → FoundEnds Hard Lost c a.texts a.script end → Fits 4 end
    missing_found c text_of told none (inl (inl m)) = inl (status_of end _ m.0)
    missing_found c text_of told none (inl (inr m)) =
        let here : IsSomeAnd (text_of (named_by c)) IsLongPolicy = subst (λ (o : Contents). IfSome o (λ f. IsSomeAnd (f (named_by c)) IsLongPolicy)) told m.1 in
        let two = some_of IsLongPolicy (text_of (named_by c)) here in
        absurd (none_apart (text_of (named_by c)) two.0 none two.1)
    missing_found c text_of told none (inr m) =
        let here : text_of (named_by c) ≡ Some m.0 = subst (λ (o : Contents). IfSome o (λ f. f (named_by c) ≡ Some m.0)) told m.1.found in
        absurd (none_apart (text_of (named_by c)) m.0 none here)

    missing_fits : IsMissing words a.texts → WordsEnd Hard Lost words a.texts a.script end → Fits 4 end
    missing_fits h e = by (some_of (λ c. Lacks a.texts (named_by c)) (command_of words) h) e
      where
        by : (c : Command) × (command_of words ≡ Some c) × Lacks a.texts (named_by c) → WordsEnd Hard Lost words a.texts a.script end → Fits 4 end
        by c (generated g it e) = absurd (none_apart (command_of words) c.0 (gen_no_command words g it) c.1)
        by c (unspoken none e) = absurd (none_apart (command_of words) c.0 none.0 c.1)
        by c (spoken k it e) =
            let told = some_of (λ text_of. text_of (named_by c.0) ≡ None) a.texts c.2 in
            missing_found c.0 told.0 told.1 told.2 (subst (λ (x : Command). FoundEnds Hard Lost x a.texts a.script end) (one_some (command_of words) k c.0 it c.1) e)

    unread_fits : Fails surely a.hard_faults b.hard_faults ⊎ Fails surely a.input_faults b.input_faults → IsSteady end a b → Fits 4 end
    unread_fits h (inl four) = inl four
    unread_fits (inl rose) (inr same) = absurd (omega (arith, rose, same.0))
    unread_fits (inr rose) (inr same) = absurd (omega (arith, rose, same.1))

    pub cause_fits : (s : ℕ) → Cause surely words s a b → IsSteady end a b → b.written_faults ≡ a.written_faults → Fits s end
    cause_fits s (safe z h) steady same = subst (λ (n : ℕ). Fits n end) (sym z) (text_fits 0 (Checks IsSafeText) checks_fits h)
    cause_fits s (laid z h) steady same = subst (λ (n : ℕ). Fits n end) (sym z) (text_fits 0 (Lays HasPolicy) lays_fits h)
    cause_fits s (played z h) steady same =
        subst (λ (n : ℕ). Fits n end) (sym z) (script_fits 0 (Within IsWhole) (λ np left told good w p. within_fits np left told good 0 IsWhole (λ o ran m. m.whole.1) w p) h)
    cause_fits s (made z g is) steady same = subst (λ (n : ℕ). Fits n end) (sym z) (made_fits g is ends)
    cause_fits s (no_command z none) steady same = subst (λ (n : ℕ). Fits n end) (sym z) (no_command_fits none ends)
    cause_fits s (faulty z h) steady same = subst (λ (n : ℕ). Fits n end) (sym z) (text_fits 2 (λ c text. HasTextFault text) fault_fits h)
    cause_fits s (unsafe z h) steady same = subst (λ (n : ℕ). Fits n end) (sym z) (text_fits 3 (Judges IsUnsafeText) judges_fits h)
    cause_fits s (missing z h) steady same = subst (λ (n : ℕ). Fits n end) (sym z) (missing_fits h ends)
    cause_fits s (unread z some h) steady same = subst (λ (n : ℕ). Fits n end) (sym z) (unread_fits h steady)
    cause_fits s (unwritten z h) steady same = absurd (omega (arith, h, same))
    cause_fits s (long_policy z h) steady same = subst (λ (n : ℕ). Fits n end) (sym z) (long_fits h)
    cause_fits s (long_script z h) steady same = subst (λ (n : ℕ). Fits n end) (sym z) (script_fits 6 IsLongScript long_script_fits h)
    cause_fits s (bad_line z h) steady same =
        subst (λ (n : ℕ). Fits n end) (sym z) (script_fits 7 (Within MeetsFault) (λ np left told good w p. within_fits np left told good 7 MeetsFault (λ o ran m. m.fault.1) w p) h)
    cause_fits s (no_memory z work never) steady same = absurd (cc (never))
    cause_fits s (full z h) steady same =
        subst (λ (n : ℕ). Fits n end) (sym z) (script_fits 9 (Within MeetsFull) (λ np left told good w p. within_fits np left told good 9 MeetsFull (λ o ran m. m.full.1) w p) h)
    cause_fits s (unknown z h) steady same = subst (λ (n : ℕ). Fits n end) (sym z) (text_fits 13 (Plays (λ np asked. asked ≡ None)) unknown_fits h)

  pub dues_of : (status : ℕ) → Answers words status a b → (s : ℕ) → Cause surely words s a b → IsDue s status a b
  dues_of status (inl h) s c = inr (inr (inr h.1.0))
  dues_of status (inr h) s c = by h.3
    where
      by : IsPrinted status h.0 a.written b.written a.written_faults b.written_faults
          ⊎ (IsSomeAnd (command_of words) IsPlainRun × IsCutShort status h.0 a.written b.written a.written_faults b.written_faults) → IsDue s status a b
      by (inr p) = inr (inr (inr p.1.0))
      by (inl (inr p)) = inr (inr (inl (p.0, p.1)))
      by (inl (inl p)) = elim (cause_fits h.0 h.1 s c h.2 p.2) [ inl e ↦ inl (p.0 ∙ e) | inr lost ↦ inr (inl (p.0 ∙ lost.0, lost.1)) ]

  complete_of : (status : ℕ) → IsDue 0 status a b → (IsUnread a b → ⊥) → (IsUnwritten a b → ⊥) → (status ≡ 0) ⊎ (status ≡ 8)
  complete_of status (inl z) read written = inl z
  complete_of status (inr (inl four)) read written = absurd (read four.1)
  complete_of status (inr (inr (inl five))) read written = absurd (written five.1)
  complete_of status (inr (inr (inr eight))) read written = inr eight

  pub runs : (status : ℕ) → Answers words status a b → Leaves words status a b → RunsTool words status a b
  runs status answers leaves =
      record {
        answers = answers;
        cause = cause_of status answers;
        dues = dues_of status answers;
        complete = λ c read written. complete_of status (dues_of status answers 0 c) read written;
        leaves = leaves;
      }
