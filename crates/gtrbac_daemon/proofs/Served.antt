-- What a closed ledger and a log that was written come to.
use Rattle.std.proofs.Common.{◌≡◌, ℕ, ◌≤◌, List, [], Option, subst}
use Rattle.gtrbac_model.specs.Safety.{IsSafe}
use Rattle.gtrbac_model.proofs.Levels.{by_trigger}
use Rattle.gtrbac_model.proofs.Playing.{levels_give_one_model}
use Rattle.walk_laws.proofs.Climbing.{safe_is_levelled}
use Rattle.turn_lock.specs.Turns.{part}
use Rattle.policy_words.specs.Naming.{NamedPolicy}
use Rattle.request_text.specs.Replies.{log_text}
use Rattle.core_machine.specs.Books.{BookView, IsBook, HasOnlyModel, model_in}
use Rattle.gtrbac_daemon.specs.Runs.{Headline, IsWritten}

-- of a ledger l, which is the book b, of this policy and birth
pub headline_of : {Worked : Type 0} (b l : BookView) → b ≡ l → IsBook b → HasOnlyModel b → IsSafe b.named.policy.triggers → (np : NamedPolicy) (birth : ℕ) → l.named ≡ np → l.birth ≡ birth
    → (workers : ℕ) → Worked → ((n : ℕ) → workers ≤ n → part n l.entries ≡ []) → Headline np birth l.entries workers Worked
headline_of {Worked} b l is book only safe np birth named born workers worked others =
    subst (λ (p : NamedPolicy). Headline p birth l.entries workers Worked) named
    (subst (λ (t : ℕ). Headline l.named t l.entries workers Worked) born
    (at_ledger (subst IsBook is book) (subst HasOnlyModel is only) (subst (λ (c : BookView). IsSafe c.named.policy.triggers) is safe)))
  where
    at_ledger : IsBook l → HasOnlyModel l → IsSafe l.named.policy.triggers → Headline l.named l.birth l.entries workers Worked
    at_ledger book only safe =
        let levels = safe_is_levelled l.named.policy.triggers safe in
        record {
          safe = safe;
          one = levels_give_one_model l.named.policy levels.0 (by_trigger l.named.policy.triggers levels.0 levels.1);
          minute = book.birth;
          model = model_in l;
          legal = book.legal;
          only = only;
          named = book.named;
          bounded = book.short;
          worked = worked;
          others = others;
        }

-- the log of the ledger l, of this policy and birth
pub log_written : (l : BookView) (np : NamedPolicy) (birth : ℕ) → l.named ≡ np → l.birth ≡ birth → (due d s : ℕ) → due ≡ d → (old new : Option (List ℕ)) (before now : ℕ)
    → IsWritten due (log_text l.named l.birth l.entries) s old new before now → IsWritten d (log_text np birth l.entries) s old new before now
log_written l np birth named born due d s is old new before now w =
    subst (λ (e : ℕ). IsWritten e (log_text np birth l.entries) s old new before now) is
    (subst (λ (p : NamedPolicy). IsWritten due (log_text p birth l.entries) s old new before now) named
    (subst (λ (t : ℕ). IsWritten due (log_text l.named t l.entries) s old new before now) born w))
