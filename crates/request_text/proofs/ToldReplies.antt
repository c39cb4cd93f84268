-- A reply's text tells the reply, where it is of its request's kind.
use Rattle.std.proofs.Common.{◌≡◌, ◌⊎◌, inl, inr, ℕ, ◌<◌, Bool, true, false, List, get_or, drop, refl, sym, ◌∙◌, ap, subst, arith}
use Rattle.std.specs.Prelude.{nat_eq}
use Rattle.std.proofs.lemmas.Fmt.{decimal_injective}
use Rattle.gt_base.specs.Names.{counted}
use Rattle.gt_base.specs.Held.{RoleWalk}
use Rattle.gt_base.specs.declared.events.SessionId.{SessionId}
use Rattle.gt_base.specs.declared.requests.Request.{Request}
use Rattle.gt_base.specs.declared.requests.Request.TheVariants as requests
use Rattle.gt_base.specs.declared.requests.Seen.{Seen}
use Rattle.gt_base.specs.declared.requests.Seen.TheVariants.{Unblocked, Blocked, Absent}
use Rattle.gt_base.specs.declared.requests.Decision.{Decision}
use Rattle.gt_base.specs.declared.requests.Decision.TheVariants.{Permit, NoActive, NoGrant, Shut}
use Rattle.gt_base.specs.declared.requests.Refusal.{Refusal}
use Rattle.gt_base.specs.declared.requests.Refusal.TheVariants.{NoUser, NotAdmin, Beyond, SessionsFull, NoSession, NotYours, NotActive, Already, Disabled, NotAssigned, RoleFull, UserFull, DaySpent}
use Rattle.gt_base.specs.declared.requests.Reply.{Reply}
use Rattle.gt_base.specs.declared.requests.Reply.TheVariants.{Now, Truth, Event, Queued, Session, Done, Active, Decided, Refused}
use Rattle.civil_time.proofs.Texts.{one_text}
use Rattle.gt_text.proofs.Decimals.{counted_decimal}
use Rattle.policy_words.specs.Naming.{NamedPolicy}
use Rattle.policy_words.specs.Valid.{IsWellFormed}
use Rattle.request_text.specs.Replies.{refusal_text, seen_text, decision_text, reply_text}
use Rattle.request_text.specs.Named.{has_decision}
use Rattle.request_text.specs.Sizes.{IsSmallSeen, IsSmallRefusal}
use Rattle.request_text.specs.Kinds.{Is, IsAnswer, FollowsDecision, IsTellable}
use Rattle.request_text.proofs.ToldWalks.{walk_tells, edge_tells}

-- the byte at a place
at : ℕ → List ℕ → ℕ
at i text = get_or text i 0

apart : (i : ℕ) (a b : List ℕ) → at i a < at i b → a ≡ b → ⊥
apart i a b lt e = omega (arith, lt, ap (at i) e)

-- refusals: what each text says

counted_at : ℕ → List ℕ → ℕ
counted_at n text = counted 0 (drop n text)

by_third : ℕ → Refusal
by_third b = elim (nat_eq b 100) as (λ _. Refusal) [
  | true ↦ NotAdmin
  | false ↦ elim (nat_eq b 111) as (λ _. Refusal) [ true ↦ NotYours | false ↦ elim (nat_eq b 99) as (λ _. Refusal) [ true ↦ NotActive | false ↦ NotAssigned ] ]
]

by_no : List ℕ → Refusal
by_no text = elim (nat_eq (at 3 text) 117) as (λ _. Refusal) [
  | true ↦ NoUser
  | false ↦ elim (nat_eq (at 3 text) 115) as (λ _. Refusal) [ true ↦ NoSession | false ↦ by_third (at 5 text) ]
]

told : List ℕ → Refusal
told text = elim (nat_eq (at 0 text) 110) as (λ _. Refusal) [
  | true ↦ by_no text
  | false ↦ elim (nat_eq (at 0 text) 98) as (λ _. Refusal) [
    | true ↦ Beyond (counted_at 7 text)
    | false ↦ elim (nat_eq (at 0 text) 115) as (λ _. Refusal) [
      | true ↦ SessionsFull
      | false ↦ elim (nat_eq (at 0 text) 97) as (λ _. Refusal) [
        | true ↦ Already
        | false ↦ elim (nat_eq (at 0 text) 114) as (λ _. Refusal) [
          | true ↦ RoleFull (counted_at 10 text)
          | false ↦ elim (nat_eq (at 0 text) 117) as (λ _. Refusal) [
            | true ↦ UserFull (counted_at 10 text)
            | false ↦ elim (nat_eq (at 1 text) 105) as (λ _. Refusal) [ true ↦ Disabled | false ↦ DaySpent (counted_at 10 text) ]
          ]
        ]
      ]
    ]
  ]
]

told_back : (r : Refusal) → IsSmallRefusal r → told (refusal_text r) ≡ r
unfolding told at by_no by_third counted_at
told_back NoUser h = refl
told_back NotAdmin h = refl
told_back (Beyond n) h = ap (λ k. Beyond k) (counted_decimal n (omega arith))
told_back SessionsFull h = refl
told_back NoSession h = refl
told_back NotYours h = refl
told_back NotActive h = refl
told_back Already h = refl
told_back Disabled h = refl
told_back NotAssigned h = refl
told_back (RoleFull n) h = ap (λ k. RoleFull k) (counted_decimal n (omega arith))
told_back (UserFull n) h = ap (λ k. UserFull k) (counted_decimal n (omega arith))
told_back (DaySpent n) h = ap (λ k. DaySpent k) (counted_decimal n (omega arith))

refusal_tells : (r s : Refusal) → IsSmallRefusal r → IsSmallRefusal s → refusal_text r ≡ refusal_text s → r ≡ s
refusal_tells r s h k e = sym (told_back r h) ∙ ap told e ∙ told_back s k

seen_tells : (s t : Seen) → IsSmallSeen s → IsSmallSeen t → seen_text s ≡ seen_text t → s ≡ t
unfolding at
seen_tells (Unblocked p) (Unblocked q) h k e = ap (λ p. Unblocked p) (decimal_injective p q (omega arith) (omega arith) (ap (drop 4) e))
seen_tells (Unblocked p) (Blocked q) h k e = absurd (apart 0 _ _ (omega arith) (sym e))
seen_tells (Unblocked p) Absent h k e = absurd (apart 0 _ _ (omega arith) (sym e))
seen_tells (Blocked p) (Unblocked q) h k e = absurd (apart 0 _ _ (omega arith) e)
seen_tells (Blocked p) (Blocked q) h k e = ap (λ p. Blocked p) (decimal_injective p q (omega arith) (omega arith) (ap (drop 8) e))
seen_tells (Blocked p) Absent h k e = absurd (apart 0 _ _ (omega arith) e)
seen_tells Absent (Unblocked q) h k e = absurd (apart 0 _ _ (omega arith) e)
seen_tells Absent (Blocked q) h k e = absurd (apart 0 _ _ (omega arith) (sym e))
seen_tells Absent Absent h k e = refl

module _ (np : NamedPolicy) (good : IsWellFormed np) where
  decision_tells : (c d : Decision) → has_decision np.policy c ≡ true → has_decision np.policy d ≡ true → FollowsDecision np.policy c → FollowsDecision np.policy d → decision_text np c ≡ decision_text np d → c ≡ d
  unfolding at
  decision_tells (Permit w) (Permit v) h k f g e = ap (λ w. Permit w) (walk_tells np good w v h k f g (ap (drop 10) e))
  decision_tells (Permit w) NoActive h k f g e = absurd (apart 0 _ _ (omega arith) (sym e))
  decision_tells (Permit w) NoGrant h k f g e = absurd (apart 0 _ _ (omega arith) (sym e))
  decision_tells (Permit w) (Shut n) h k f g e = absurd (apart 0 _ _ (omega arith) (sym e))
  decision_tells NoActive (Permit v) h k f g e = absurd (apart 0 _ _ (omega arith) e)
  decision_tells NoActive NoActive h k f g e = refl
  decision_tells NoActive NoGrant h k f g e = absurd (apart 8 _ _ (omega arith) e)
  decision_tells NoActive (Shut n) h k f g e = absurd (apart 5 _ _ (omega arith) e)
  decision_tells NoGrant (Permit v) h k f g e = absurd (apart 0 _ _ (omega arith) e)
  decision_tells NoGrant NoActive h k f g e = absurd (apart 8 _ _ (omega arith) (sym e))
  decision_tells NoGrant NoGrant h k f g e = refl
  decision_tells NoGrant (Shut n) h k f g e = absurd (apart 5 _ _ (omega arith) e)
  decision_tells (Shut n) (Permit v) h k f g e = absurd (apart 0 _ _ (omega arith) e)
  decision_tells (Shut n) NoActive h k f g e = absurd (apart 5 _ _ (omega arith) (sym e))
  decision_tells (Shut n) NoGrant h k f g e = absurd (apart 5 _ _ (omega arith) (sym e))
  decision_tells (Shut n) (Shut m) h k f g e = ap (λ n. Shut n) (edge_tells np good n m h k (ap (drop 10) e))

  truth_tells : (b c : Bool) → reply_text np (Truth b) ≡ reply_text np (Truth c) → b ≡ c
  unfolding at
  truth_tells true true e = refl
  truth_tells true false e = absurd (apart 0 _ _ (omega arith) (sym e))
  truth_tells false true e = absurd (apart 0 _ _ (omega arith) e)
  truth_tells false false e = refl

  -- no other reply begins as a refusal

  abbrev IsOther : Reply → Type 0
  IsOther (Refused r) = ⊥
  IsOther _ = Unit {0}

  other_byte : (a : Reply) → IsOther a → at 0 (reply_text np a) ≡ 114 → ⊥
  unfolding at
  other_byte (Now t) o e = omega (arith, e)
  other_byte (Truth true) o e = omega (arith, e)
  other_byte (Truth false) o e = omega (arith, e)
  other_byte (Event (Unblocked p)) o e = omega (arith, e)
  other_byte (Event (Blocked p)) o e = omega (arith, e)
  other_byte (Event Absent) o e = omega (arith, e)
  other_byte (Queued t) o e = omega (arith, e)
  other_byte (Session s) o e = omega (arith, e)
  other_byte Done o e = omega (arith, e)
  other_byte (Active w) o e = omega (arith, e)
  other_byte (Decided (Permit w)) o e = omega (arith, e)
  other_byte (Decided NoActive) o e = omega (arith, e)
  other_byte (Decided NoGrant) o e = omega (arith, e)
  other_byte (Decided (Shut n)) o e = omega (arith, e)
  other_byte (Refused r) o e = absurd o

  refused_byte : (r : Refusal) → at 0 (reply_text np (Refused r)) ≡ 114
  unfolding at
  refused_byte r = refl

  abbrev Tells : Reply → Reply → Type 0
  Tells a b = IsTellable np.policy a → IsTellable np.policy b → reply_text np a ≡ reply_text np b → a ≡ b

  refused_tells : (r s : Refusal) → Tells (Refused r) (Refused s)
  refused_tells r s h k e = ap (λ r. Refused r) (refusal_tells r s h.small k.small (ap (drop 8) e))

  refused_other : (r : Refusal) (b : Reply) → IsOther b → reply_text np (Refused r) ≡ reply_text np b → ⊥
  refused_other r b o e = other_byte b o (ap (at 0) (sym e) ∙ refused_byte r)

  -- two replies that are refusals or built in one way
  by_kind : {A : Type 0} (build : A → Reply) → ((x : A) → IsOther (build x)) → ((x y : A) → Tells (build x) (build y)) → (a b : Reply) → Is (λ f. Refused f) a ⊎ Is build a → Is (λ f. Refused f) b ⊎ Is build b
      → Tells a b
  by_kind build others one a b (inl (r, p)) (inl (s, q)) = subst (λ a. Tells a b) (sym p) (subst (λ b. Tells (Refused r) b) (sym q) (refused_tells r s))
  by_kind build others one a b (inl (r, p)) (inr (y, q)) = subst (λ a. Tells a b) (sym p) (subst (λ b. Tells (Refused r) b) (sym q) (λ h k e. absurd (refused_other r (build y) (others y) e)))
  by_kind build others one a b (inr (x, p)) (inl (s, q)) = subst (λ a. Tells a b) (sym p) (subst (λ b. Tells (build x) b) (sym q) (λ h k e. absurd (refused_other s (build x) (others x) (sym e))))
  by_kind build others one a b (inr (x, p)) (inr (y, q)) = subst (λ a. Tells a b) (sym p) (subst (λ b. Tells (build x) b) (sym q) (one x y))

  now_tells : (t u : ℕ) → Tells (Now t) (Now u)
  now_tells t u h k e = ap (λ t. Now t) (one_text t u h.sound k.sound (ap (drop 4) e))

  queued_tells : (t u : ℕ) → Tells (Queued t) (Queued u)
  queued_tells t u h k e = ap (λ t. Queued t) (one_text t u h.sound k.sound (ap (drop 7) e))

  session_tells : (s t : SessionId) → Tells (Session s) (Session t)
  session_tells s t h k e =
      let number : s.0 ≡ t.0 = decimal_injective s.0 t.0 (omega (arith, h.small)) (omega (arith, k.small)) (ap (drop 8) e) in
      ap (λ (n : ℕ). Session (record { 0 = n })) number

  active_tells : (w v : RoleWalk) → Tells (Active w) (Active v)
  active_tells w v h k e = ap (λ w. Active w) (walk_tells np good w v h.named k.named h.sound k.sound (ap (drop 6) e))

  truths : (a b : Reply) → Is (λ f. Refused f) a ⊎ Is (λ b. Truth b) a → Is (λ f. Refused f) b ⊎ Is (λ b. Truth b) b → Tells a b
  truths a b = by_kind (λ b. Truth b) (λ b. tt) (λ b c h k e. ap (λ b. Truth b) (truth_tells b c e)) a b

  with_done : (a : Reply) → Is (λ f. Refused f) a ⊎ (a ≡ Done) → Is (λ f. Refused f) a ⊎ Is (λ (u : Unit {0}). Done) a
  with_done a (inl r) = inl r
  with_done a (inr e) = inr (tt, e)

  dones : (a b : Reply) → Is (λ f. Refused f) a ⊎ (a ≡ Done) → Is (λ f. Refused f) b ⊎ (b ≡ Done) → Tells a b
  dones a b p q = by_kind (λ (u : Unit {0}). Done) (λ u. tt) (λ u v h k e. refl) a b (with_done a p) (with_done b q)

  pub reply_tells : (q : Request) (a b : Reply) → IsAnswer q a → IsAnswer q b → Tells a b
  reply_tells requests.Now a b p q = by_kind (λ t. Now t) (λ t. tt) now_tells a b p q
  reply_tells (requests.Status c) a b p q = truths a b p q
  reply_tells (requests.Seen s) a b p q = by_kind (λ s. Event s) (λ s. tt) (λ s t h k e. ap (λ s. Event s) (seen_tells s t h.small k.small e)) a b p q
  reply_tells (requests.Raise hd d) a b p q = by_kind (λ t. Queued t) (λ t. tt) queued_tells a b p q
  reply_tells requests.OpenSession a b p q = by_kind (λ s. Session s) (λ s. tt) session_tells a b p q
  reply_tells (requests.CloseSession s) a b p q = dones a b p q
  reply_tells (requests.Activate s r) a b p q = by_kind (λ w. Active w) (λ w. tt) active_tells a b p q
  reply_tells (requests.Deactivate s r) a b p q = dones a b p q
  reply_tells (requests.Active s r) a b p q = truths a b p q
  reply_tells (requests.Check s r) a b p q =
      by_kind (λ d. Decided d) (λ d. tt) (λ c d h k e. ap (λ d. Decided d) (decision_tells c d h.named k.named h.sound k.sound e)) a b p q
