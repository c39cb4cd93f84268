-- What the parts of a call say together.
use Rattle.std.proofs.Common.{arith, ◌≡◌, ◌+◌, ℕ, List, [], Option, Some, None, ◌⊎◌, inl, inr, refl, sym, ap, ◌∙◌, subst}
use Rattle.std.specs.Prelude.{IsTrue, IsSomeAnd}
use Rattle.std.specs.Io.KnownBytes.{IsAtEnd, Keeps}
use Rattle.std.proofs.KnownBytes.{Consumes-nil, Keeps-refl}
use Rattle.gt_io.specs.Causes.{AtMostOnce, Rose, TakesFront}
use Rattle.gt_io.specs.declared.source.TheConstants.{READ_PIECE}
use Rattle.gt_io.specs.Shelf.{AsksOnce, Stock}
use Rattle.gt_io.specs.Streams.{Intake, Output, stops}
use Rattle.policy_commands.specs.Ends.{EndView}
use Rattle.policy_commands.specs.Finding.{IsStoredText, MissesText}
use Rattle.policy_commands.specs.Printing.{IsPrinted}
use Rattle.gtrbac_tool.specs.EndTexts.{usage}
use Rattle.gtrbac_tool.specs.Script.{IsRunStatus}
use Rattle.gtrbac_tool.specs.Summary.{Gen, IsGen, GenEnds}
use Rattle.gtrbac_tool.specs.Commands.{Command, named_by, command_of, plays_script, IsPlainRun}
use Rattle.gtrbac_tool.specs.Writing.{IsCutShort, PrintsEnd}
use Rattle.gtrbac_tool.specs.Reading.{Reads, Works}
use Rattle.gtrbac_tool.specs.Ends.{TextEnds, FoundEnds, IsNoCommand, generated, unspoken, spoken}
use Rattle.gtrbac_tool.specs.Scenes.{Scene, scene}
use Rattle.gtrbac_tool.specs.Causes.{perhaps, OnShelf, Short, AsksForScript}
use Rattle.gtrbac_tool.specs.Tool.{Answers, Leaves, RunsTool}
use Rattle.gtrbac_tool.specs.declared.top.TheConstants.{MAX_SCRIPT}
use Rattle.gtrbac_tool.proofs.Causing.{gen_no_command, status_of}
use Rattle.gtrbac_tool.proofs.Exactness.{none_apart, has_some, on_shelf, text_four, runs}
use Rattle.gtrbac_tool.proofs.Reading.{no_run}
use Rattle.gtrbac_tool.proofs.Succeeding.{gen_succeeds}
use Rattle.gtrbac_tool.proofs.Writing.{tells_so, tells_at}

abbrev Playing : Command → Type 0
Playing c = IsTrue (plays_script c)

module _ {S I K : Type 0} (stock : S → Stock) (intake : I → Intake) (output : K → Output) (words : List (List ℕ)) (status : ℕ) where
  -- a call that touches its output alone
  module _ (shelf : S) (input : I) (out out' : K) where
    abbrev A : Scene S I
    A = scene stock intake output shelf input out

    abbrev B : Scene S I
    B = scene stock intake output shelf input out'

    only_written : command_of words ≡ None → (status ≡ 4 → ⊥) → Leaves words status A B
    only_written none other =
        record {
          texts = refl;
          unread = λ _. (refl, refl);
          untouched = inl refl;
          read = λ h ran. absurd (subst (λ (o : Option Command). IsSomeAnd o Playing) none h);
          counted = λ four. absurd (other four);
          once = record { one = omega arith; shelf = omega arith; input = omega arith };
          short = ([], omega arith, Consumes-nil (intake input).left);
        }

    pub usage_runs : IsNoCommand words → IsPrinted status usage (output out).written (output out').written (output out).faults (output out').faults → RunsTool words status A B
    usage_runs none p = runs words A B status (inr (usage, unspoken none refl, inr (refl, refl), inl p)) (only_written none.0 (other p))
      where
        other : IsPrinted status usage (output out).written (output out').written (output out).faults (output out').faults → status ≡ 4 → ⊥
        other (inl q) four = cc (q.0, four)
        other (inr q) four = cc (q.0, four)

    module _ (g : Gen) (is : IsGen words g) where
      gen_answers : PrintsEnd ⊥ (GenEnds g) status (output out) (output out') → Answers words status A B
      gen_answers (inl wants) = inl ((λ none. none.1 g is), wants)
      gen_answers (inr h) = inr (h.0, generated g is h.1, inr (refl, refl), by h.2)
        where
          by : IsPrinted status h.0 A.written B.written A.written_faults B.written_faults ⊎ (⊥ × IsCutShort status h.0 A.written B.written A.written_faults B.written_faults)
              → IsPrinted status h.0 A.written B.written A.written_faults B.written_faults ⊎ (IsSomeAnd (command_of words) IsPlainRun × IsCutShort status h.0 A.written B.written A.written_faults B.written_faults)
          by (inl p) = inl p
          by (inr p) = absurd p.0

      no_four : PrintsEnd ⊥ (GenEnds g) status (output out) (output out') → status ≡ 4 → ⊥
      no_four t four =
          let e = tells_at status (output out) (output out') ⊥ (GenEnds g) (λ five. cc (five, four)) (λ eight. cc (eight, four)) t in
          let zero : e.0.status ≡ 0 = gen_succeeds g is.low is.high e.0 e.1 in
          let same : e.0.status ≡ 4 = e.2 ∙ four in
          cc (zero, same)

      pub gen_runs : PrintsEnd ⊥ (GenEnds g) status (output out) (output out') → RunsTool words status A B
      gen_runs t = runs words A B status (gen_answers t) (only_written (gen_no_command words g is) (no_four t))

  -- a call of a command over a policy
  module _ (shelf shelf' : S) (input input' : I) (out out' : K) (c : Command) (is : command_of words ≡ Some c) where
    abbrev C : Scene S I
    C = scene stock intake output shelf input out

    abbrev D : Scene S I
    D = scene stock intake output shelf' input' out'

    abbrev Hard : Type 0
    Hard = Rose C.hard_faults D.hard_faults

    abbrev Lost : Type 0
    Lost = Rose C.input_faults D.input_faults

    abbrev Counted : Type 0
    Counted = Rose C.shelf_faults D.shelf_faults ⊎ Lost

    abbrev SameFaults : Type 0
    SameFaults = (D.hard_faults ≡ C.hard_faults) × (D.input_faults ≡ C.input_faults)

    abbrev Over : EndView → Type 0
    Over end = FoundEnds Hard Lost c C.texts C.script end × ((end.status ≡ 4) ⊎ SameFaults) × (end.status ≡ 4 → Counted) × (Playing c → IsRunStatus end.status → IsAtEnd D.script)

    abbrev Done : Type 0
    Done = PrintsEnd (IsPlainRun c) Over status (output out) (output out')

    plainly : (end : EndView) → IsPrinted status end C.written D.written C.written_faults D.written_faults ⊎ (IsPlainRun c × IsCutShort status end C.written D.written C.written_faults D.written_faults)
        → IsPrinted status end C.written D.written C.written_faults D.written_faults ⊎ (IsSomeAnd (command_of words) IsPlainRun × IsCutShort status end C.written D.written C.written_faults D.written_faults)
    plainly end (inl p) = inl p
    plainly end (inr p) = inr (has_some IsPlainRun (command_of words) c is p.0, p.1)

    answers : Done → Answers words status C D
    answers (inl wants) = inl ((λ none. none_apart (command_of words) c none.0 is), wants)
    answers (inr h) = inr (h.0, spoken c is h.1.0, h.1.1, plainly h.0 h.2)

    at : Done → (status ≡ 5 → ⊥) → (status ≡ 8 → ⊥) → (end : EndView) × Over end × (end.status ≡ status)
    at done five eight = tells_at status (output out) (output out') (IsPlainRun c) Over five eight done

    over : Done → AsksOnce (stock shelf) (stock shelf') → D.texts ≡ C.texts → AtMostOnce (stops (intake input)) (stops (intake input')) → TakesFront (MAX_SCRIPT + READ_PIECE) (intake input).left (intake input').left
        → (input' ≡ input) ⊎ OnShelf perhaps C.texts (Short AsksForScript) c → RunsTool words status C D
    over done asks same once short kept =
        runs words C D status (answers done)
        (record {
          texts = same;
          unread = λ none. absurd (none_apart (command_of words) c none is);
          untouched = elim kept [ inl e ↦ inl e | inr due ↦ inr (has_some (OnShelf perhaps C.texts (Short AsksForScript)) (command_of words) c is due) ];
          read = λ plays ran.
              let e = at done (λ five. no_run status 5 five refl ran) (λ eight. no_run status 8 eight refl ran) in
              e.1.3 (subst (λ (o : Option Command). IsSomeAnd o Playing) is plays) (subst IsRunStatus (sym e.2) ran);
          counted = λ four. let e = at done (λ five. cc (five, four)) (λ eight. cc (eight, four)) in e.1.2 (e.2 ∙ four);
          once = record { one = asks.one; shelf = asks.stopped; input = once };
          short = short;
        })

    -- what the shelf has by the name of its policy
    module _ (name : List ℕ) (named : name ≡ named_by c) where
      module _ (text : List ℕ) (stored : IsStoredText C.texts name text) where
        here : IsStoredText C.texts (named_by c) text
        here = subst (λ (n : List ℕ). IsStoredText C.texts n text) named stored

        asked_there : (input' ≡ input) ⊎ AsksForScript c text → (input' ≡ input) ⊎ OnShelf perhaps C.texts (Short AsksForScript) c
        asked_there (inl same) = inl same
        asked_there (inr asks) = inr (on_shelf (Short AsksForScript) c text C.texts here.found (here.short, asks))

        pub over_text : D.hard_faults ≡ C.hard_faults → AsksOnce (stock shelf) (stock shelf') → D.texts ≡ C.texts
            → Works intake (IsPlainRun c) (Playing c) (AsksForScript c text) (λ failed. TextEnds failed c text) input input' status (output out) (output out') → RunsTool words status C D
        over_text hard asks same w =
            over
            (tells_so status (output out) (output out') (IsPlainRun c) (IsPlainRun c) (Reads (Playing c) (λ failed. TextEnds failed c text) (intake input) (intake input')) Over (λ p. p)
            (λ end r. (inr (text, here, r.0), elim r.1 [ inl four ↦ inl four | inr kept ↦ inr (hard, kept) ], (λ four. inr (text_four Lost C.script end four c text r.0)), r.2)) w.tells) asks same w.once w.short (asked_there w.untouched)

      missed_run : (end : EndView) → MissesText Hard C.texts name end → IsRunStatus end.status → ⊥
      missed_run end (inl m) ran = no_run end.status 4 (status_of end _ m.0) refl ran
      missed_run end (inr m) ran = no_run end.status 6 (status_of end _ m.0) refl ran

      -- .. and a call that leaves its input alone
      module _ (asks : AsksOnce (stock shelf) (stock shelf')) (same : D.texts ≡ C.texts) (kept : input' ≡ input) where
        alone : Done → RunsTool words status C D
        alone done =
            over done asks same (subst (λ (i : I). AtMostOnce (stops (intake input)) (stops (intake i))) (sym kept) (omega arith))
            (subst (λ (i : I). TakesFront (MAX_SCRIPT + READ_PIECE) (intake input).left (intake i).left) (sym kept) ([], omega arith, Consumes-nil (intake input).left)) (inl kept)

        pub missed : (end : EndView) → MissesText Hard C.texts name end → (end.status ≡ 4) ⊎ (D.hard_faults ≡ C.hard_faults) → (end.status ≡ 4 → Rose C.shelf_faults D.shelf_faults)
            → IsPrinted status end (output out).written (output out').written (output out).faults (output out').faults → RunsTool words status C D
        missed end lost hard failed p =
            alone
            (inr (
              end,
              (
                inl (subst (λ (n : List ℕ). MissesText Hard C.texts n end) named lost),
                elim hard [ inl four ↦ inl four | inr hard ↦ inr (hard, ap (λ (i : I). (intake i).faults) kept) ],
                (λ four. inl (failed four)),
                λ plays ran. absurd (missed_run end lost ran),
              ),
              inl p,
            ))

        pub unfound : status ≡ 8 → out' ≡ out → RunsTool words status C D
        unfound eight still = alone (inl (eight, subst (λ (k : K). Keeps (output out).written (output k).written) (sym still) (Keeps-refl (output out).written), ap (λ (k : K). (output k).faults) still))
