-- How a service begins and ends, whoever answers.
use Rattle.std.proofs.Common.{◌≡◌, ℕ, ◌≤◌, List, [], ◌++◌, length, refl, sym, ap, subst, ◌∙◌, append_assoc, add-zero, Option}
use Rattle.std.specs.Io.KnownBytes.{Appends, Consumes, IsAtEnd}
use Rattle.std.proofs.KnownBytes.{Appends-nil}
use mathlib.Core.List.{IsPrefix}
use Rattle.gt_base.specs.declared.requests.Actor.{Actor}
use Rattle.gt_base.specs.declared.requests.Request.{Request}
use Rattle.gt_base.specs.declared.requests.Entry.{Entry}
use Rattle.gt_base.specs.declared.limits.TheConstants.{MAX_BYTES}
use Rattle.gt_io.specs.Frames.{Frame, blank_frame}
use Rattle.gt_io.specs.Links.{Traffic, ReadsNothing, WritesNothing}
use Rattle.gt_io.specs.Memory.{one_more}
use Rattle.policy_words.specs.Naming.{NamedPolicy}
use Rattle.connection_laws.specs.Desks.{IsNamedActor}
use Rattle.connection_laws.specs.declared.ends.LinkEnd.{LinkEnd}
use Rattle.connection_laws.specs.declared.ends.LinkEnd.TheVariants.{Ended, ReadFault, WriteFault, Spent, Worn}
use Rattle.connection_laws.specs.declared.talk.Talk.{Talk}
use Rattle.connection_laws.specs.Cuts.{whole_lines}
use Rattle.connection_laws.specs.Doors.{HaveFailed, none_more}
use Rattle.connection_laws.specs.Lines.{Answer, Acted, IsGiven}
use Rattle.connection_laws.specs.Attending.{IsStart, Spot, spot, HasReplied, HaltsBy, Halted, EndsBy, Attends}
use Rattle.connection_laws.proofs.Cutting.{lines_more}

given_same : (np : NamedPolicy) (xs ys text : List ℕ) (acted : List Acted) (Wears : ℕ → Type 0) (f f' : ℕ) (end : LinkEnd) → HaltsBy Wears f f' end → IsGiven np xs text acted end → IsGiven np ys text acted end
given_same np xs ys text acted Wears f f' WriteFault h g = g
given_same np xs ys text acted Wears f f' (Worn n) h g = g
given_same np xs ys text acted Wears f f' Ended h g = absurd h
given_same np xs ys text acted Wears f f' ReadFault h g = absurd h
given_same np xs ys text acted Wears f f' Spent h g = absurd h

cause_of : (Wears : ℕ → Type 0) (a b : Traffic) (taken : List ℕ) (f : ℕ) (end : LinkEnd) → b.read_faults ≡ a.read_faults → b.ends ≡ a.ends → f ≡ a.write_faults → HaltsBy Wears f b.write_faults end → EndsBy Wears a b taken end
cause_of Wears a b taken f WriteFault reads ends low h = record { reads_are = reads; writes_are = h ∙ ap one_more low; ends_are = ends }
cause_of Wears a b taken f (Worn n) reads ends low h = (h.0, record { reads_are = reads; writes_are = h.1 ∙ low; ends_are = ends })
cause_of Wears a b taken f Ended reads ends low h = absurd h
cause_of Wears a b taken f ReadFault reads ends low h = absurd h
cause_of Wears a b taken f Spent reads ends low h = absurd h

failed_kept : (a b c : Traffic) (reads writes ends : ℕ → ℕ) → ReadsNothing b c → WritesNothing b c → HaveFailed a b reads writes ends → HaveFailed a c reads writes ends
failed_kept a b c reads writes ends r w h = record { reads_are = r.read_faults_are ∙ h.reads_are; writes_are = w.write_faults_are ∙ h.writes_are; ends_are = r.ends_are ∙ h.ends_are }

cause_kept : (Wears : ℕ → Type 0) (a b c : Traffic) (taken : List ℕ) (end : LinkEnd) → ReadsNothing b c → WritesNothing b c → EndsBy Wears a b taken end → EndsBy Wears a c taken end
cause_kept Wears a b c taken Ended r w h = (subst IsAtEnd (sym r.left_kept) h.0, h.1, failed_kept a b c none_more none_more one_more r w h.2)
cause_kept Wears a b c taken ReadFault r w h = (h.0, failed_kept a b c one_more none_more none_more r w h.1)
cause_kept Wears a b c taken WriteFault r w h = failed_kept a b c none_more one_more none_more r w h
cause_kept Wears a b c taken Spent r w h = (h.0, failed_kept a b c none_more none_more none_more r w h.1)
cause_kept Wears a b c taken (Worn n) r w h = (h.0, failed_kept a b c none_more none_more none_more r w h.1)

module _ {S : Type 0} (np : NamedPolicy) (Asks : S → S → Actor → Request → Answer → List ℕ → List Entry → Type 0) (Wears : S → ℕ → Type 0) where
  pub begins : (a : S) (talk : Talk) (given : Option (List ℕ)) (frame : Frame) → IsStart talk → frame ≡ blank_frame → HasReplied np Asks (spot a talk given) (spot a talk given) frame [] []
  begins a talk given frame start is =
      subst (λ (f : Frame). HasReplied np Asks (spot a talk given) (spot a talk given) f [] []) (sym is)
      (record {
        going = record {
          steps = refl;
          actor = start.0;
          named = subst (λ (y : Actor). IsNamedActor np y) (sym start.0) (tt, tt);
          asked = start.1;
          denied = start.2;
          calls = sym (add-zero talk.calls);
        };
        frame_fits = refl;
        lines = refl;
        unworn = tt;
        given = Appends-nil given;
      })

  pub cut_off : (o p : Spot S) (a b : Traffic) (f : ℕ) (fed part chunk : List ℕ) (acted : List Acted) (end : LinkEnd) → o.given ≡ a.given → p.given ≡ b.given → Halted np Asks Wears o p (fed ++ part) acted f b.write_faults end → IsPrefix part chunk
      → b.read_faults ≡ a.read_faults → b.ends ≡ a.ends → f ≡ a.write_faults → Appends a.taken b.taken (fed ++ chunk) → Consumes a.left b.left (fed ++ chunk) → length (fed ++ chunk) ≤ MAX_BYTES → Attends np Asks Wears o p a b end
  cut_off o p a b f fed part chunk acted end from upto h within reads ends low taken left few =
      let whole : (fed ++ part) ++ within.0 ≡ fed ++ chunk = append_assoc fed part within.0 ∙ ap (λ (l : List ℕ). fed ++ l) within.1 in
      let more = lines_more (fed ++ part) within.0 in
      record {
        taken = fed ++ chunk;
        given = h.text;
        acted = acted;
        going = h.going;
        lines = (more.0, ap (λ (ls : List (List ℕ)). ls ++ more.0) h.lines ∙ more.1 ∙ ap whole_lines whole);
        given_is = given_same np (fed ++ part) (fed ++ chunk) h.text acted (Wears p.answerer) f b.write_faults end h.cause h.given_is;
        carries =
            record {
              taken_is = taken;
              left_is = left;
              given_is = subst (λ (x : Option (List ℕ)). Appends x b.given h.text) from (subst (λ (x : Option (List ℕ)). Appends o.given x h.text) upto h.given);
              bounded = few;
            };
        cause = cause_of (Wears p.answerer) a b (fed ++ chunk) f end reads ends low h.cause;
      }

  -- what follows the last call changes nothing
  pub attends_kept : (o : Spot S) (answerer : S) (talk : Talk) (a b c : Traffic) (end : LinkEnd) → ReadsNothing b c → WritesNothing b c → Attends np Asks Wears o (spot answerer talk b.given) a b end → Attends np Asks Wears o (spot answerer talk c.given) a c end
  attends_kept o answerer talk a b c end r w x =
      let g = x.going in
      record {
        taken = x.taken;
        given = x.given;
        acted = x.acted;
        going = record { steps = g.steps; actor = g.actor; named = g.named; asked = g.asked; denied = g.denied; calls = g.calls };
        lines = x.lines;
        given_is = x.given_is;
        carries =
            record {
              taken_is = subst (λ (y : Option (List ℕ)). Appends a.taken y x.taken) (sym r.taken_kept) x.carries.taken_is;
              left_is = subst (λ (y : Option (List ℕ)). Consumes a.left y x.taken) (sym r.left_kept) x.carries.left_is;
              given_is = subst (λ (y : Option (List ℕ)). Appends a.given y x.given) (sym w.given_kept) x.carries.given_is;
              bounded = x.carries.bounded;
            };
        cause = cause_kept (Wears answerer) a b c x.taken end r w x.cause;
      }
