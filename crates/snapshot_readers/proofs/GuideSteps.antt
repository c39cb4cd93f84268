-- What the steps of a viewer, line by line, come to.
use Rattle.std.proofs.Common.{◌≡◌, ℕ, ◌+◌, ◌≤◌, Bool, true, false, List, [], ◌∷◌, ◌++◌, length, take, refl, sym, ap, subst, ◌∙◌, arith, append-nil, append_assoc, Result, Ok, Err}
use Rattle.std.specs.Prelude.{MatchBool}
use Rattle.std.proofs.lemmas.List.{take_all}
use mathlib.Core.List.{IsPrefix}
use Rattle.gt_base.specs.declared.requests.Actor.{Actor}
use Rattle.gt_base.specs.declared.requests.Actor.TheVariants.{Nobody}
use Rattle.gt_base.specs.declared.requests.Request.{Request}
use Rattle.gt_base.specs.declared.requests.Entry.{Entry}
use Rattle.policy_words.specs.Naming.{NamedPolicy}
use Rattle.request_text.specs.declared.lines.Line.{Line}
use Rattle.request_text.specs.declared.lines.Line.TheVariants.{Silent, At, Be, Ask}
use Rattle.request_text.specs.declared.lines.LineFault.{LineFault}
use Rattle.request_text.specs.Phrases.{read_line}
use Rattle.history_laws.specs.Looks.{is_look}
use Rattle.connection_laws.specs.Lines.{Answer, silence, agreed, bad, shown, no_memory, view_only, Acted, actor_after, readings_of, entries_of, GetsBy, AreActedBy}
use Rattle.connection_laws.specs.Attending.{StepsBy, StepsThrough}
use Rattle.connection_laws.proofs.Linking.{acted_so}
use Rattle.connection_laws.proofs.Prefixes.{prefix_self, prefix_trans}
use Rattle.connection_laws.specs.Desks.{IsReplyAt}
use Rattle.snapshot_readers.specs.Viewed.{lens_in, lens_of, AscendBetween, Looks, AsksView}
use Rattle.snapshot_readers.specs.Guides.{GuideView, GuideAsks}
use Rattle.snapshot_readers.specs.Glances.{IsGlance}
use Rattle.snapshot_readers.specs.declared.glass.Glanced.{Glanced}
use Rattle.snapshot_readers.proofs.Ascending.{ascend_on}
use Rattle.snapshot_readers.proofs.Longer.{take_longer, longer}
use Rattle.snapshot_readers.proofs.Looking.{look_by}

module _ (np : NamedPolicy) (birth : ℕ) where
  -- what was seen over a history is seen over a longer one
  looks_longer : (h h' : List Entry) → IsPrefix h h' → (actor : Actor) (request : Request) (answer : Answer) → Looks np birth h actor request answer → Looks np birth h' actor request answer
  looks_longer h h' more actor request answer l =
      let le = longer h h' more in
      look_by np birth h actor request (λ (a : Answer). Looks np birth h' actor request a)
      (λ n reply s. let low = s.0 in (omega (arith, low, le), subst (λ (g : List Entry). IsReplyAt np.policy birth g actor request reply) (sym (take_longer n h h' more low)) s.1)) tt answer l

  by_look : (b : Bool) (h h' : List Entry) → IsPrefix h h' → (actor : Actor) (request : Request) (answer : Answer) → MatchBool b (Looks np birth h actor request answer) (answer ≡ view_only) → MatchBool b (Looks np birth h' actor request answer) (answer ≡ view_only)
  by_look true h h' more actor request answer l = looks_longer h h' more actor request answer l
  by_look false h h' more actor request answer l = l

  pub sees_longer : (h h' : List Entry) → IsPrefix h h' → (actor : Actor) (request : Request) (answer : Answer) (n : ℕ) (readings : List ℕ) (entries : List Entry) → AsksView np birth h actor request answer n readings entries → AsksView np birth h' actor request answer n readings entries
  sees_longer h h' more actor request answer n readings entries s = (by_look (is_look request) h h' more actor request answer s.0, s.1, s.2)

  -- what one line comes to
  pub record GuideStep (a b : GuideView) (said : Result Line LineFault) (actor : Actor) (x : Acted) : Type 0 where
    pub gets : (n : ℕ) → GetsBy (AsksView np birth b.seen) said actor n x
    pub grows : IsPrefix a.seen b.seen
    pub lens : b.lens ≡ a.lens ++ lens_in x.answer
    pub ascends : AscendBetween (length a.seen) (lens_in x.answer) (length b.seen)

  aside : (a b : GuideView) (said : Result Line LineFault) (actor : Actor) (x : Acted) (answer : Answer) → b ≡ a → x.answer ≡ answer → lens_in answer ≡ []
      → ((n : ℕ) → GetsBy (AsksView np birth b.seen) said actor n x) → GuideStep a b said actor x
  aside a b said actor x answer same is none gets =
      let empty : lens_in x.answer ≡ [] = ap lens_in is ∙ none in
      record {
        gets = gets;
        grows = subst (λ (g : GuideView). IsPrefix a.seen g.seen) (sym same) (prefix_self a.seen);
        lens = ap (λ (g : GuideView). g.lens) same ∙ sym (ap (λ (ns : List ℕ). a.lens ++ ns) empty ∙ append-nil a.lens);
        ascends =
            subst (λ (ns : List ℕ). AscendBetween (length a.seen) ns (length b.seen)) (sym empty)
            (subst (λ (g : GuideView). length a.seen ≤ length g.seen) (sym same) (omega arith));
      }

  step_of : (a b : GuideView) (said : Result Line LineFault) (actor : Actor) (x : Acted) → StepsBy np (GuideAsks np birth) a b said actor x → GuideStep a b said actor x
  step_of a b (Ok Silent) actor x s = aside a b (Ok Silent) actor x silence s.0 s.1 refl (λ n. (s.1, s.2, s.3))
  step_of a b (Ok (Be y)) actor x s = aside a b (Ok (Be y)) actor x agreed s.0 s.1 refl (λ n. (s.1, s.2, s.3))
  step_of a b (Ok (Ask request)) actor x s = record { gets = λ n. s.sees n; grows = s.grows; lens = s.lens; ascends = s.ascends }
  step_of a b (Ok (At t)) actor x s = absurd s
  step_of a b (Err f) actor x s = aside a b (Err f) actor x (bad f) s.0 s.1 refl (λ n. (s.1, s.2, s.3))

  -- what all lines so far come to
  pub record GuideGoes (o p : GuideView) (acted : List Acted) : Type 0 where
    pub fits : AreActedBy (AsksView np birth p.seen) np 0 acted
    pub grows : IsPrefix o.seen p.seen
    pub lens : p.lens ≡ o.lens ++ lens_of acted
    pub ascends : AscendBetween (length o.seen) (lens_of acted) (length p.seen)

  goes_next : (o m p : GuideView) (x : Acted) (before : List Acted) → GuideGoes o m before → GuideStep m p (read_line np Nobody false x.line) (actor_after np before) x → GuideGoes o p (x ∷ before)
  goes_next o m p x before g s =
      record {
        fits = (
          acted_so (AsksView np birth m.seen) (AsksView np birth p.seen) (sees_longer m.seen p.seen s.grows) np 0 before g.fits,
          s.gets (0 + length (entries_of before)),
        );
        grows = prefix_trans o.seen m.seen p.seen g.grows s.grows;
        lens = s.lens ∙ ap (λ (ns : List ℕ). ns ++ lens_in x.answer) g.lens ∙ append_assoc o.lens (lens_of before) (lens_in x.answer);
        ascends = ascend_on (length o.seen) (lens_of before) (lens_in x.answer) (length m.seen) (length p.seen) g.ascends s.ascends;
      }

  -- a viewer whose steps these are
  pub goes_of : (o p : GuideView) (acted : List Acted) → StepsThrough np (GuideAsks np birth) o p acted → GuideGoes o p acted
  goes_of o p [] steps =
      subst (λ (g : GuideView). GuideGoes o g []) (sym steps)
      (record { fits = tt; grows = prefix_self o.seen; lens = sym (append-nil o.lens); ascends = omega arith })
  goes_of o p (x ∷ before) steps =
      goes_next o steps.0 p x before (goes_of o steps.0 before steps.1) (step_of steps.0 p (read_line np Nobody false x.line) (actor_after np before) x steps.2)

  -- a request that does more than look
  pub asks_none : (g : GuideView) (actor : Actor) (request : Request) → false ≡ is_look request → GuideAsks np birth g g actor request view_only [] []
  asks_none g actor request e =
      record {
        sees = λ n. (subst (λ (b : Bool). MatchBool b (Looks np birth g.seen actor request view_only) (view_only ≡ view_only)) e refl, refl, refl);
        grows = prefix_self g.seen;
        lens = sym (append-nil g.lens);
        ascends = omega arith;
      }

  asks_look : (a b : GuideView) (actor : Actor) (request : Request) (answer : Answer) → true ≡ is_look request → Looks np birth b.seen actor request answer → IsPrefix a.seen b.seen → b.lens ≡ a.lens ++ lens_in answer
      → AscendBetween (length a.seen) (lens_in answer) (length b.seen) → GuideAsks np birth a b actor request answer [] []
  asks_look a b actor request answer e looks grows lens ascends =
      record { sees = λ n. (subst (λ (t : Bool). MatchBool t (Looks np birth b.seen actor request answer) (answer ≡ view_only)) e looks, refl, refl); grows = grows; lens = lens; ascends = ascends }

  -- one that only looks, for which there was no memory
  pub asks_short : (a b : GuideView) (actor : Actor) (request : Request) → true ≡ is_look request → IsPrefix a.seen b.seen → b.lens ≡ a.lens → GuideAsks np birth a b actor request no_memory [] []
  asks_short a b actor request e more same =
      asks_look a b actor request no_memory e tt more (same ∙ sym (append-nil a.lens)) (longer a.seen b.seen more)

  -- and one that a glance answers
  pub asks_glance : (np' : NamedPolicy) (birth' : ℕ) (a b : GuideView) (actor : Actor) (request : Request) (g : Glanced) → true ≡ is_look request → np' ≡ np → birth' ≡ birth → IsPrefix a.seen b.seen
      → IsGlance np'.policy birth' b.seen actor request g → b.lens ≡ a.lens ++ g.len ∷ [] → GuideAsks np birth a b actor request (shown g.len g.reply) [] []
  asks_glance np' birth' a b actor request g e same same' more is lens =
      let len = is.len in
      let low = longer a.seen b.seen more in
      let whole : take g.len b.seen ≡ b.seen = take_all g.len b.seen (omega (arith, len)) in
      let here : IsReplyAt np.policy birth b.seen actor request g.reply =
      subst (λ (p : NamedPolicy). IsReplyAt p.policy birth b.seen actor request g.reply) same (subst (λ (t : ℕ). IsReplyAt np'.policy t b.seen actor request g.reply) same' is.reply) in
      asks_look a b actor request (shown g.len g.reply) e
      (omega (arith, len), subst (λ (h : List Entry). IsReplyAt np.policy birth h actor request g.reply) (sym whole) here)
      more lens (omega (arith, len, low), omega (arith, len))

  -- no line takes a reading or adds an entry
  line_quiet : (h : List Entry) (said : Result Line LineFault) (actor : Actor) (n : ℕ) (a : Acted) → GetsBy (AsksView np birth h) said actor n a → (a.readings ≡ []) × (a.entries ≡ [])
  line_quiet h (Ok Silent) actor n a g = (g.1, g.2)
  line_quiet h (Ok (Be y)) actor n a g = (g.1, g.2)
  line_quiet h (Ok (Ask request)) actor n a g = (g.1, g.2)
  line_quiet h (Ok (At t)) actor n a g = absurd g
  line_quiet h (Err f) actor n a g = (g.1, g.2)

  pub lines_quiet : (h : List Entry) (acted : List Acted) → AreActedBy (AsksView np birth h) np 0 acted → (readings_of acted ≡ []) × (entries_of acted ≡ [])
  lines_quiet h [] all = (refl, refl)
  lines_quiet h (a ∷ before) all =
      let more = lines_quiet h before all.0 in
      let one = line_quiet h (read_line np Nobody false a.line) (actor_after np before) (0 + length (entries_of before)) a all.1 in
      (λ i. more.0 i ++ one.0 i, λ i. more.1 i ++ one.1 i)
