-- A request line behind its ticks.
use Rattle.std.proofs.Common.{◌≡◌, ℕ, ◌+◌, ◌^◌, ◌≤◌, true, List, [], ◌∷◌, ◌++◌, length, refl, sym, ap, subst, ◌∙◌, arith, append-nil, Ok, Err, Result}
use mathlib.Core.List.{IsPrefix}
use Rattle.gt_base.specs.declared.requests.Who.{Who}
use Rattle.gt_base.specs.declared.requests.Actor.{Actor}
use Rattle.gt_base.specs.declared.requests.Request.{Request}
use Rattle.gt_base.specs.declared.requests.Reply.{Reply}
use Rattle.gt_base.specs.declared.requests.Entry.{Entry}
use Rattle.gt_base.specs.declared.requests.Step.TheVariants.{Tick}
use Rattle.gt_base.specs.Machines.{asked}
use Rattle.gt_base.specs.declared.limits.TheConstants.{MAX_STEPS}
use Rattle.turn_lock.specs.Turns.{Each}
use Rattle.turn_lock.specs.Holders.{Holder}
use Rattle.turn_lock.proofs.Totals.{each-append}
use Rattle.locked_history.specs.Fronts.{by, Lands}
use Rattle.locked_history.specs.declared.faults.DeskFault.{DeskFault}
use Rattle.locked_history.specs.declared.faults.DeskFault.TheVariants.{Worn, StepsFull, Memory}
use Rattle.connection_laws.specs.Connection.{is_who, part_of, IsTick, AnswersAfterTicks, placed}
use Rattle.connection_laws.proofs.Places.{own_entry, placed_more, stands_at}
use Rattle.connection_laws.proofs.Timing.{asked_in_time}
use Rattle.connection_laws.specs.Turns.{answer_of, Grows, AreMine, AskedTurn}
use Rattle.connection_laws.proofs.Growing.{grown_twice, grown_landed, grown_still, grown_within}

ticks_mine : (who : Who) (reading : ℕ) (ticks : List Entry) → Each (IsTick who reading) ticks → AreMine who ticks
ticks_mine who reading [] all = tt
ticks_mine who reading (e ∷ es) all =
    (ap (is_who who) all.0.1 ∙ own_entry who (Tick reading all.0.0), ticks_mine who reading es all.1)

module _ {M : Type 0} (first : List Entry) (legal : List Entry → Type 0) (now : List Entry → ℕ) (conn reading : ℕ) (actor : Actor) (request : Request) (a b c : Holder M) where
  abbrev Told : ℕ → Result Reply DeskFault → Type 0
  Told n result = AskedTurn first legal now (by n conn) reading actor request a c result

  accepted_here : (ticks : List Entry) (reply : Reply) (front before : List Entry) → Each (IsTick (by b.number conn) reading) ticks → Grows a b ticks 1 → legal b.seen → reading ≤ now b.seen
      → Lands first b c front (asked (by b.number conn) actor request reply ∷ []) → front ≡ before ++ asked (by b.number conn) actor request reply ∷ [] → legal front
      → Told b.number (Ok reply)
  accepted_here ticks reply front before each g fair late l last good =
      let who = by b.number conn in
      let e : Entry = asked who actor request reply in
      let is_mine = own_entry who e.what in
      let seen_is : c.seen ≡ front = ap (λ (p : Holder M). p.seen) l.after_is in
      let whole : IsPrefix (before ++ e ∷ []) c.seen = ([], append-nil (before ++ e ∷ []) ∙ sym last ∙ sym seen_is) in
      let all_ticks = ticks_mine who reading ticks each in
      let own_is : b.own ≡ a.own ++ ticks = ap (λ (p : Holder M). p.own) g.after_is in
      let count : length (part_of who before) ≡ placed who first a.own + length ticks =
      stands_at who first b.own before front e l.first_is l.part_is last is_mine ∙ ap (placed who first) own_is ∙ placed_more who first a.own ticks all_ticks in
      record {
        entries = ticks ++ e ∷ [];
        asks = λ birth timed. (reading, ticks, refl, each, (refl, (before, whole, count, asked_in_time birth legal now reading b.seen before front who actor request reply timed fair late good l.seen last)));
        mine = each-append (λ (x : Entry). is_who who x ≡ true) ticks (e ∷ []) all_ticks (is_mine, tt);
        grows = grown_within a c (ticks ++ e ∷ []) (1 + 0) 2 (omega arith) (grown_twice a b c ticks (e ∷ []) 1 0 g (grown_landed first b c front (e ∷ []) 0 (omega arith) l));
        ends = λ r same. let is : reply ≡ r = cc same in (before, subst (λ (q : Reply). legal (before ++ asked who actor request q ∷ [])) is (subst legal last good));
        worn_out = λ n same. absurd cc;
      }

  pub is_replied : (ticks : List Entry) (reply : Reply) (front before : List Entry) → Each (IsTick (by a.number conn) reading) ticks → Grows a b ticks 1 → legal b.seen → reading ≤ now b.seen
      → Lands first b c front (asked (by b.number conn) actor request reply ∷ []) → front ≡ before ++ asked (by b.number conn) actor request reply ∷ [] → legal front
      → Told a.number (Ok reply)
  is_replied ticks reply front before each g fair late l last good =
      let same = ap (λ (p : Holder M). p.number) g.after_is in
      subst (λ (n : ℕ). Told n (Ok reply)) same
      (accepted_here ticks reply front before (subst (λ (n : ℕ). Each (IsTick (by n conn) reading) ticks) (sym same) each) g fair late l last good)

  answers_refused : (fault : DeskFault) (birth n : ℕ) (ticks : List Entry) → (fault ≡ StepsFull → MAX_STEPS ≤ length c.seen) → AnswersAfterTicks birth (by a.number conn) c.seen reading actor request (answer_of (Err fault)) n ticks ticks
  answers_refused (Worn draws) birth n ticks full = refl
  answers_refused StepsFull birth n ticks full = (refl, full refl)
  answers_refused Memory birth n ticks full = refl

  pub is_refused : (ticks : List Entry) (fault : DeskFault) → Each (IsTick (by a.number conn) reading) ticks → Grows a b ticks 1 → Grows b c [] 1
      → (fault ≡ StepsFull → MAX_STEPS ≤ length c.seen) → ((n : ℕ) → fault ≡ Worn n → (n ≡ 2 ^ 40) × (c.draws ≡ 2 ^ 40))
      → Told a.number (Err fault)
  is_refused ticks fault each g r full worn =
      record {
        entries = ticks;
        asks = λ birth timed. (reading, ticks, refl, each, answers_refused fault birth _ ticks full);
        mine = ticks_mine (by a.number conn) reading ticks each;
        grows = grown_still a b c ticks 1 1 g r;
        ends = λ r same. absurd cc;
        worn_out = λ n same. worn n (cc);
      }
