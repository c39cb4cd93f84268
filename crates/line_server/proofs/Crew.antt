-- What the closed desk tells of a worker: its links over the whole history, and their parts of it one after the other.
use Rattle.std.proofs.Common.{◌≡◌, ℕ, ◌+◌, ◌≤◌, List, [], ◌∷◌, ◌++◌, length, drop, sym, ap, subst, ◌∙◌, arith, append-nil}
use Rattle.gt_base.specs.declared.requests.Entry.{Entry}
use Rattle.gt_io.specs.Links.{Traffic}
use Rattle.turn_lock.specs.Turns.{part}
use Rattle.turn_lock.specs.Holders.{Holder}
use Rattle.locked_history.specs.Fronts.{by}
use Rattle.policy_words.specs.Naming.{NamedPolicy}
use Rattle.connection_laws.specs.Connection.{part_of}
use Rattle.connection_laws.proofs.Places.{part_of-append, part_of-part, all_mine, none_mine}
use Rattle.line_server.specs.declared.ended.Served.{Served}
use Rattle.line_server.specs.Working.{Tale, owns_of, AreServedSoFar, AreOwnParts, IsTellingOfWorkers}
use Rattle.line_server.proofs.Links.{served_longer, others_none}
use Rattle.connection_laws.specs.Services.{service}

module _ {L : Type 0} (traffic : L → Traffic) (np : NamedPolicy) (first : List Entry) (legal : List Entry → Type 0) (now : List Entry → ℕ) (w : ℕ) where
  parts_from : (es h own : List Entry) (c : ℕ) (ss : List (Served L)) (xs : List (Tale L)) → AreServedSoFar traffic (service np first legal now) w h own c ss xs
      → ((k : ℕ) → c ≤ k → part_of (by w k) es ≡ part_of (by w k) (owns_of xs)) → AreOwnParts es w c xs
  parts_from es h own c [] [] all same = tt
  parts_from es h own c [] (x ∷ xs) all same = absurd all
  parts_from es h own c (s ∷ ss) [] all same = absurd all
  parts_from es h own c (s ∷ ss) (x ∷ xs) all same = (
    same c (omega arith) ∙ part_of-append (by w c) x.own (owns_of xs)
        ∙ ap (λ (l : List Entry). l ++ part_of (by w c) (owns_of xs)) (all_mine (by w c) x.own all.0.mine)
        ∙ ap (λ (l : List Entry). x.own ++ l) (others_none traffic np first legal now w h own (c + 1) c ss xs (λ j low high same. absurd (omega (arith, low, same))) all.1) ∙ append-nil x.own,
    parts_from es h own (c + 1) ss xs all.1 (λ k far. same k (omega (arith, far)) ∙ part_of-append (by w k) x.own (owns_of xs)
        ∙ ap (λ (l : List Entry). l ++ part_of (by w k) (owns_of xs)) (none_mine w c k x.own (λ e. absurd (omega (arith, e, far))) all.0.mine)),
  )

module _ {M L : Type 0} (traffic : L → Traffic) (np : NamedPolicy) (first : List Entry) (legal : List Entry → Type 0) (now : List Entry → ℕ) where
  -- the final history h, of a worker whose pass had no entry before
  pub worker_told : IsTellingOfWorkers M traffic (service np first legal now)
  worker_told w o p served end h fresh number k told =
      let t = k.tales in
      let own_is : p.pass.own ≡ owns_of t = ap (λ (q : Holder M). q.own) k.worked.grows.after_is ∙ ap (λ (es : List Entry). es ++ owns_of t) fresh in
      let whole : part w (drop (length first) h) ≡ owns_of t = ap (λ (n : ℕ). part n (drop (length first) h)) (sym number) ∙ sym told.1 ∙ own_is in
      let links = subst (λ (own : List Entry). AreServedSoFar traffic (service np first legal now) w h own 1 served t) fresh (served_longer traffic np first legal now w p.pass.seen h o.pass.own 1 served t told.0 k.worked.links) in (
        t,
        links,
        whole,
        parts_from traffic np first legal now w (drop (length first) h) h [] 1 served t links (λ j far. sym (part_of-part (by w j) (drop (length first) h)) ∙ ap (part_of (by w j)) whole),
        k.worked.door,
      )
