-- Texts that leave in pieces.
use Rattle.std.proofs.Common.{◌≡◌, ℕ, ◌+◌, ◌<◌, Bool, false, List, [], ◌++◌, length, take, Option, Some, None, ◌⊎◌, inl, inr, refl, sym, ap, ◌∙◌, subst, arith, append-nil, length-append}
use Rattle.std.specs.Prelude.{Result, Ok, Err, IfOk}
use Rattle.std.proofs.lemmas.List.{take-append-le}
use Rattle.std.proofs.Math.Seq.{take-append_seam, take-append-add}
use Rattle.std.specs.Io.KnownBytes.{Appends, Keeps}
use Rattle.std.proofs.KnownBytes.{Appends-nil, Appends-trans, Keeps-trans}
use Rattle.gt_io.specs.Causes.{Rose, AppendsPart}
use Rattle.gt_io.specs.Streams.{Output}
use Rattle.policy_commands.specs.declared.ends.End.{End}
use Rattle.policy_commands.specs.Ends.{EndView, seen_end}
use Rattle.policy_commands.specs.Printing.{IsPrinted, WantsMemory}
use Rattle.gtrbac_tool.specs.EndTexts.{behind}
use Rattle.gtrbac_tool.specs.Writing.{AppendsPrefix, IsCutShort, Prints, PrintsEnd, Hands}

-- what was written so far is a prefix of each text that begins with it
pub prefix_of : (a b : Option (List ℕ)) (sent rest text : List ℕ) → Appends a b sent → text ≡ sent ++ rest → AppendsPrefix a b text
prefix_of a b sent rest text written is =
    let front : take (length sent) text ≡ sent = ap (take (length sent)) is ∙ take-append_seam sent rest in
    (length sent, subst (Appends a b) (sym front) written)

-- a proper prefix of what waits, behind what was written
pub part_behind : (a b c : Option (List ℕ)) (sent page : List ℕ) → Appends a b sent → AppendsPart b c page → AppendsPart a c (sent ++ page)
part_behind a b c sent page written part = (
  length sent + part.0,
  omega (arith, part.1, length-append sent page),
  subst (Appends a c) (sym (take-append-add sent page part.0)) (Appends-trans a b c sent (take part.0 page) written part.2),
)

pub part_before : (a b : Option (List ℕ)) (text more : List ℕ) → AppendsPart a b text → AppendsPart a b (text ++ more)
part_before a b text more part =
    let within : part.0 < length text = part.1 in (
      part.0,
      omega (arith, within, length-append text more),
      subst (Appends a b) (sym (take-append-le part.0 text more (omega (arith, within)))) part.2,
    )

-- what is printed behind what was written
pub printed_behind : (status : ℕ) (a b c : Option (List ℕ)) (first before now : ℕ) (sent : List ℕ) (end : EndView) → Appends a b sent → before ≡ first
    → IsPrinted status end b c before now → IsPrinted status (behind sent end) a c first now
printed_behind status a b c first before now sent end written steady (inl p) = inl (p.0, Appends-trans a b c sent end.text written p.1, p.2 ∙ steady)
printed_behind status a b c first before now sent end written steady (inr p) =
    inr (p.0, subst (λ (n : ℕ). Rose n now) steady p.1, part_behind a b c sent end.text written p.2)

-- what was handed out

nothing_more : (a b : Option (List ℕ)) → Appends a b [] → Keeps a b
nothing_more None b h = tt
nothing_more (Some x) None h = absurd h
nothing_more (Some x) (Some y) h = h ∙ append-nil x

module _ (pieces : Bool) where
  pub hands_none : (a : Output) → Hands pieces a a []
  hands_none a = record { written = Appends-nil a.written; steady = refl; kept = λ _. refl }

  pub hands_on : (a b c : Output) (sent more : List ℕ) → Hands pieces a b sent → Hands pieces b c more → Hands pieces a c (sent ++ more)
  hands_on a b c sent more x y =
      record { written = Appends-trans a.written b.written c.written sent more x.written y.written; steady = y.steady ∙ x.steady; kept = λ off i. x.kept off i ++ y.kept off i }

  pub wants : (a b : Output) (sent : List ℕ) (status : ℕ) → Hands pieces a b sent → status ≡ 8 → pieces ≡ false → WantsMemory status a.written b.written a.faults b.faults
  wants a b sent status h eight off = (eight, nothing_more a.written b.written (subst (Appends a.written b.written) (h.kept off) h.written), h.steady)

-- what is printed where nothing was handed out
pub prints_from : {E : Type 0} (r : Result End E) (status : ℕ) (a b c : Output) (sent : List ℕ) → Hands false a b sent → Prints r status b c → Prints r status a c
prints_from (Ok end) status a b c sent h p =
    printed_behind status a.written b.written c.written a.faults b.faults c.faults [] (seen_end end) (subst (Appends a.written b.written) (h.kept refl) h.written) h.steady p
prints_from (Err f) status a b c sent h p =
    let w = wants false a b sent 8 h refl refl in (p.0, Keeps-trans a.written b.written c.written w.1 p.1, p.2 ∙ h.steady)

-- what is told
module _ (status : ℕ) (a b : Output) where
  pub shown : {E : Type 0} (Pieces : Type 0) (Ends : EndView → Type 0) (r : Result End E) → Prints r status a b → IfOk r (λ e. Ends (seen_end e)) → PrintsEnd Pieces Ends status a b
  shown Pieces Ends (Ok e) p is = inr (seen_end e, is, inl p)
  shown Pieces Ends (Err f) p is = inl p

  abbrev How : Type 0 → EndView → Type 0
  How Pieces end = IsPrinted status end a.written b.written a.faults b.faults ⊎ (Pieces × IsCutShort status end a.written b.written a.faults b.faults)

  how_so : (P Q : Type 0) (end : EndView) → (P → Q) → How P end → How Q end
  how_so P Q end so (inl p) = inl p
  how_so P Q end so (inr p) = inr (so p.0, p.1)

  pub tells_so : (P Q : Type 0) (Ends Others : EndView → Type 0) → (P → Q) → ((end : EndView) → Ends end → Others end) → PrintsEnd P Ends status a b → PrintsEnd Q Others status a b
  tells_so P Q Ends Others pieces so (inl w) = inl w
  tells_so P Q Ends Others pieces so (inr h) = inr (h.0, so h.0 h.1, how_so P Q h.0 pieces h.2)

  of_end : (P : Type 0) (end : EndView) → (status ≡ 5 → ⊥) → (status ≡ 8 → ⊥) → How P end → end.status ≡ status
  of_end P end five eight (inl (inl p)) = sym p.0
  of_end P end five eight (inl (inr p)) = absurd (five p.0)
  of_end P end five eight (inr p) = absurd (eight p.1.0)

  -- another status than 5 and 8 is that of the end
  pub tells_at : (P : Type 0) (Ends : EndView → Type 0) → (status ≡ 5 → ⊥) → (status ≡ 8 → ⊥) → PrintsEnd P Ends status a b → (end : EndView) × Ends end × (end.status ≡ status)
  tells_at P Ends five eight (inl w) = absurd (eight w.0)
  tells_at P Ends five eight (inr h) = (h.0, h.1, of_end P h.0 five eight h.2)
