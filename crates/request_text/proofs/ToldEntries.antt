-- Entries without the operator are told by the log.
use Rattle.std.proofs.Common.{◌≡◌, ℕ, ◌<◌, ◌≤◌, true, List, [], ◌∷◌, ◌++◌, length, get_or, take, drop, flat_map, decimal, refl, sym, ◌∙◌, ap, subst, arith, append_assoc, length-append}
use Rattle.std.specs.Prelude.{nat_le, nat_lt, codes}
use Rattle.std.specs.List.{list_all}
use Rattle.std.proofs.lemmas.Fmt.{decimal_injective}
use Rattle.std.proofs.lemmas.List.{take_at}
use Rattle.std.proofs.lemmas.Bool.{false≢true, lt-ltb}
use Rattle.gt_base.specs.Names.{is_name}
use Rattle.gt_base.specs.declared.events.UserId.{UserId}
use Rattle.gt_base.specs.declared.requests.Who.{Who}
use Rattle.gt_base.specs.declared.requests.Actor.{Actor}
use Rattle.gt_base.specs.declared.requests.Actor.TheVariants.{Operator, User, Nobody}
use Rattle.gt_base.specs.declared.requests.Request.{Request}
use Rattle.gt_base.specs.declared.requests.Reply.{Reply}
use Rattle.gt_base.specs.declared.requests.Step.{Step}
use Rattle.gt_base.specs.declared.requests.Step.TheVariants.{Tick, Ask}
use Rattle.gt_base.specs.declared.requests.Entry.{Entry}
use Rattle.gt_base.specs.declared.limits.TheConstants.{LAST_MINUTE}
use Rattle.civil_time.specs.Text.{civil_text}
use Rattle.civil_time.proofs.Texts.{one_text}
use Rattle.policy_lines.specs.Plain.{is_plain, is_solid}
use Rattle.policy_lines.proofs.Truths.{both, some_is}
use Rattle.policy_lines.proofs.SolidWords.{word_civil}
use Rattle.policy_book.proofs.Back.{user_back, user_named}
use Rattle.policy_words.specs.Naming.{NamedPolicy, user_of, user_name}
use Rattle.policy_words.specs.Valid.{IsWellFormed}
use Rattle.request_text.specs.Replies.{who_text, actor_text, request_text, reply_text, step_text, entry_text, entry_line, log_text}
use Rattle.request_text.specs.Kinds.{IsAnswer, IsTellable}
use Rattle.request_text.specs.Tellable.{IsSmallWho, IsStranger, IsTellableStep, IsTellableEntry, AreTellable}
use Rattle.request_text.proofs.Cuts.{lacks, cut, lacks_from, lacks_name, lacks_decimal, lacks_append}
use Rattle.request_text.proofs.WrittenRequests.{request_tells}
use Rattle.request_text.proofs.ToldReplies.{reply_tells}
use Rattle.request_text.proofs.Plainness.{plain_append, plain_decimal, plain_civil, plain_user, plain_reply}
use Rattle.request_text.proofs.NoEquals.{no_equals, plain_request}

right4 : (a b c d : List ℕ) → a ++ b ++ c ++ d ≡ a ++ (b ++ (c ++ d))
right4 a b c d = append_assoc (a ++ b) c d ∙ append_assoc a b (c ++ d)

right6 : (a b c d e f : List ℕ) → a ++ b ++ c ++ d ++ e ++ f ≡ a ++ (b ++ (c ++ (d ++ (e ++ f))))
right6 a b c d e f = append_assoc (a ++ b ++ c ++ d) e f ∙ append_assoc (a ++ b ++ c) d (e ++ f) ∙ right4 a b c (d ++ (e ++ f))

right8 : (a b c d e f g h : List ℕ) → a ++ b ++ c ++ d ++ e ++ f ++ g ++ h ≡ a ++ (b ++ (c ++ (d ++ (e ++ (f ++ (g ++ h))))))
right8 a b c d e f g h = append_assoc (a ++ b ++ c ++ d ++ e ++ f) g h ∙ append_assoc (a ++ b ++ c ++ d ++ e) f (g ++ h) ∙ right6 a b c d e (f ++ (g ++ h))

-- the last byte taken off
snoc_tells : (xs ys : List ℕ) (c : ℕ) → xs ++ c ∷ [] ≡ ys ++ c ∷ [] → xs ≡ ys
snoc_tells xs ys c e =
    let same : length xs ≡ length ys = omega (arith, ap (λ (t : List ℕ). length t) e, length-append xs (c ∷ []), length-append ys (c ∷ [])) in
    sym (take_at xs (c ∷ []) (length xs) refl) ∙ ap (take (length xs)) e ∙ ap (λ n. take n (ys ++ c ∷ [])) same ∙ take_at ys (c ∷ []) (length ys) refl

lacks_civil : (t : ℕ) → lacks 32 (civil_text t) ≡ true
lacks_civil t = lacks_from is_solid 32 (civil_text t) refl (both (nat_lt 0 (length (civil_text t))) (list_all is_solid (civil_text t)) (word_civil t)).1

lacks_plain : (text : List ℕ) → is_plain text ≡ true → lacks 10 text ≡ true
lacks_plain text h = lacks_from (nat_le 32) 10 text refl h

-- who

who_parts : (w : Who) → who_text w ≡ decimal w.worker ++ 46 ∷ decimal w.conn
who_parts w = append_assoc (decimal w.worker) (codes ".") (decimal w.conn)

lacks_who : (w : Who) → IsSmallWho w → lacks 32 (who_text w) ≡ true
lacks_who w h =
    lacks_append 32 (decimal w.worker ++ codes ".") (decimal w.conn) (lacks_append 32 (decimal w.worker) (codes ".") (lacks_decimal 32 w.worker refl (omega (arith, h.0))) refl)
    (lacks_decimal 32 w.conn refl (omega (arith, h.1)))

plain_who : (w : Who) → IsSmallWho w → is_plain (who_text w) ≡ true
plain_who w h =
    plain_append (decimal w.worker ++ codes ".") (decimal w.conn) (plain_append (decimal w.worker) (codes ".") (plain_decimal w.worker (omega (arith, h.0))) refl) (plain_decimal w.conn (omega (arith, h.1)))

who_tells : (w v : Who) → IsSmallWho w → IsSmallWho v → who_text w ≡ who_text v → w ≡ v
who_tells w v h k e =
    let parts = cut 46 (decimal w.worker) (decimal v.worker) (decimal w.conn) (decimal v.conn) (lacks_decimal 46 w.worker refl (omega (arith, h.0))) (lacks_decimal 46 v.worker refl (omega (arith, k.0)))
    (sym (who_parts w) ∙ e ∙ who_parts v) in
    let worker : w.worker ≡ v.worker = decimal_injective w.worker v.worker (omega (arith, h.0)) (omega (arith, k.0)) parts.0 in
    let conn : w.conn ≡ v.conn = decimal_injective w.conn v.conn (omega (arith, h.1)) (omega (arith, k.1)) parts.1 in
    ap (λ (n : ℕ). record { worker = n; conn = w.conn }) worker ∙ ap (λ (n : ℕ). record { worker = v.worker; conn = n }) conn

module _ (np : NamedPolicy) (good : IsWellFormed np) where
  -- actors

  user_is : (u : UserId) → u.0 < np.policy.users → is_name (user_name np.names u) ≡ true
  user_is u h = user_named np good u (lt-ltb u.0 np.policy.users h)

  lacks_actor : (a : Actor) → IsStranger np.policy a → lacks 32 (actor_text np a) ≡ true
  lacks_actor Operator h = absurd h
  lacks_actor (User u) h = lacks_name 32 (user_name np.names u) refl (user_is u h)
  lacks_actor Nobody h = refl

  plain_actor : (a : Actor) → IsStranger np.policy a → is_plain (actor_text np a) ≡ true
  plain_actor Operator h = absurd h
  plain_actor (User u) h = plain_user np good u
  plain_actor Nobody h = refl

  no_user : (u : UserId) → u.0 < np.policy.users → user_name np.names u ≡ codes "-" → ⊥
  no_user u h e = false≢true (sym (ap is_name e) ∙ user_is u h)

  actor_tells : (a b : Actor) → IsStranger np.policy a → IsStranger np.policy b → actor_text np a ≡ actor_text np b → a ≡ b
  actor_tells Operator b h k e = absurd h
  actor_tells (User u) Operator h k e = absurd k
  actor_tells (User u) (User v) h k e =
      ap (λ u. User u) (some_is (sym (user_back np good u (lt-ltb u.0 np.policy.users h)) ∙ ap (user_of np.names) e ∙ user_back np good v (lt-ltb v.0 np.policy.users k)))
  actor_tells (User u) Nobody h k e = absurd (no_user u h e)
  actor_tells Nobody Operator h k e = absurd k
  actor_tells Nobody (User v) h k e = absurd (no_user v k (sym e))
  actor_tells Nobody Nobody h k e = refl

  -- steps

  tick_right : (w : Who) (upto to : ℕ) → step_text np w (Tick upto to) ≡ codes "tick " ++ (who_text w ++ 32 ∷ (codes "to " ++ (civil_text to ++ 32 ∷ (codes "bound " ++ civil_text upto))))
  tick_right w upto to = right6 (codes "tick ") (who_text w) (codes " to ") (civil_text to) (codes " bound ") (civil_text upto)

  ask_right : (w : Who) (a : Actor) (q : Request) (r : Reply)
      → step_text np w (Ask a q r) ≡ codes "ask " ++ (who_text w ++ 32 ∷ (actor_text np a ++ 32 ∷ ((request_text np q ++ 32 ∷ []) ++ 61 ∷ 32 ∷ reply_text np r)))
  ask_right w a q r =
      right8 (codes "ask ") (who_text w) (codes " ") (actor_text np a) (codes " ") (request_text np q) (codes " = ") (reply_text np r)
      ∙ ap (λ t. codes "ask " ++ (who_text w ++ 32 ∷ (actor_text np a ++ 32 ∷ t))) (sym (append_assoc (request_text np q) (32 ∷ []) (61 ∷ 32 ∷ reply_text np r)))

  pair : (w v : Who) (s t : Step) → w ≡ v → s ≡ t → ◌≡◌ {A = Entry} (record { who = w; what = s }) (record { who = v; what = t })
  pair w v s t e f = ap (λ (w : Who). record { who = w; what = s }) e ∙ ap (λ (s : Step). record { who = v; what = s }) f

  ticks_tell : (w v : Who) (upto to until at : ℕ) → IsSmallWho w → IsSmallWho v → IsTellableStep np.policy (Tick upto to) → IsTellableStep np.policy (Tick until at)
      → step_text np w (Tick upto to) ≡ step_text np v (Tick until at) → ◌≡◌ {A = Entry} (record { who = w; what = Tick upto to }) (record { who = v; what = Tick until at })
  ticks_tell w v upto to until at h k s t e =
      let whole = ap (drop 5) (sym (tick_right w upto to) ∙ e ∙ tick_right v until at) in
      let one = cut 32 (who_text w) (who_text v) _ _ (lacks_who w h) (lacks_who v k) whole in
      let two = cut 32 (civil_text to) (civil_text at) _ _ (lacks_civil to) (lacks_civil at) (ap (drop 3) one.1) in
      let stop : to ≡ at = one_text to at s.1 t.1 two.0 in
      let bound : upto ≡ until = one_text upto until s.0 t.0 (ap (drop 6) two.1) in
      pair w v (Tick upto to) (Tick until at) (who_tells w v h k one.0) (ap (λ n. Tick n to) bound ∙ ap (λ n. Tick until n) stop)

  asks_tell : (w v : Who) (a b : Actor) (q x : Request) (r y : Reply) → IsSmallWho w → IsSmallWho v → IsTellableStep np.policy (Ask a q r) → IsTellableStep np.policy (Ask b x y)
      → step_text np w (Ask a q r) ≡ step_text np v (Ask b x y) → ◌≡◌ {A = Entry} (record { who = w; what = Ask a q r }) (record { who = v; what = Ask b x y })
  asks_tell w v a b q x r y h k (sa, sq, sk, sr) (ta, tq, tk, tr) e =
      let whole = ap (drop 4) (sym (ask_right w a q r) ∙ e ∙ ask_right v b x y) in
      let one = cut 32 (who_text w) (who_text v) _ _ (lacks_who w h) (lacks_who v k) whole in
      let two = cut 32 (actor_text np a) (actor_text np b) _ _ (lacks_actor a sa) (lacks_actor b ta) one.1 in
      let three = cut 61 (request_text np q ++ 32 ∷ []) (request_text np x ++ 32 ∷ []) _ _ (lacks_append 61 (request_text np q) (32 ∷ []) (no_equals np good q sq) refl)
      (lacks_append 61 (request_text np x) (32 ∷ []) (no_equals np good x tq) refl) two.1 in
      let asked : q ≡ x = request_tells np good q x sq tq (snoc_tells (request_text np q) (request_text np x) 32 three.0) in
      let answered : r ≡ y = answers_tell q x r y asked sk tk sr tr (ap (drop 1) three.1) in
      pair w v (Ask a q r) (Ask b x y) (who_tells w v h k one.0)
      (ap (λ a. Ask a q r) (actor_tells a b sa ta two.0) ∙ ap (λ q. Ask b q r) asked ∙ ap (λ r. Ask b x r) answered)
    where
      answers_tell : (q x : Request) (r y : Reply) → q ≡ x → IsAnswer q r → IsAnswer x y → IsTellable np.policy r → IsTellable np.policy y → reply_text np r ≡ reply_text np y → r ≡ y
      answers_tell q x r y same i j s t e = reply_tells np good x r y (subst (λ q. IsAnswer q r) same i) j s t e

  entry_tells : (e f : Entry) → IsTellableEntry np.policy e → IsTellableEntry np.policy f → entry_text np e ≡ entry_text np f → e ≡ f
  entry_tells e f h k same = by e.who f.who e.what f.what h.0 k.0 h.1 k.1 same
    where
      by : (w v : Who) (s t : Step) → IsSmallWho w → IsSmallWho v → IsTellableStep np.policy s → IsTellableStep np.policy t → step_text np w s ≡ step_text np v t
          → ◌≡◌ {A = Entry} (record { who = w; what = s }) (record { who = v; what = t })
      by w v (Tick upto to) (Tick until at) h k s t e = ticks_tell w v upto to until at h k s t e
      by w v (Ask a q r) (Ask b x y) h k s t e = asks_tell w v a b q x r y h k s t e
      by w v (Tick upto to) (Ask b x y) h k s t e = absurd (omega (arith, ap (λ t. get_or t 0 0) (sym (tick_right w upto to) ∙ e ∙ ask_right v b x y)))
      by w v (Ask a q r) (Tick until at) h k s t e = absurd (omega (arith, ap (λ t. get_or t 0 0) (sym (ask_right w a q r) ∙ e ∙ tick_right v until at)))

  -- lines

  plain_entry : (e : Entry) → IsTellableEntry np.policy e → is_plain (entry_text np e) ≡ true
  plain_entry e h = by e.who e.what h.0 h.1
    where
      by : (w : Who) (s : Step) → IsSmallWho w → IsTellableStep np.policy s → is_plain (step_text np w s) ≡ true
      by w (Tick upto to) h s =
          let one : List ℕ = codes "tick " ++ who_text w in
          let two : List ℕ = one ++ codes " to " in
          let three : List ℕ = two ++ civil_text to in
          let four : List ℕ = three ++ codes " bound " in
          plain_append four (civil_text upto)
          (plain_append three (codes " bound ") (plain_append two (civil_text to) (plain_append one (codes " to ") (plain_append (codes "tick ") (who_text w) refl (plain_who w h)) refl) (plain_civil to)) refl)
          (plain_civil upto)
      by w (Ask a q r) h (sa, sq, sk, sr) =
          let one : List ℕ = codes "ask " ++ who_text w in
          let two : List ℕ = one ++ codes " " in
          let three : List ℕ = two ++ actor_text np a in
          let four : List ℕ = three ++ codes " " in
          let five : List ℕ = four ++ request_text np q in
          let six : List ℕ = five ++ codes " = " in
          plain_append six (reply_text np r)
          (plain_append five (codes " = ")
          (plain_append four (request_text np q)
          (plain_append three (codes " ") (plain_append two (actor_text np a) (plain_append one (codes " ") (plain_append (codes "ask ") (who_text w) refl (plain_who w h)) refl) (plain_actor a sa)) refl)
          (plain_request np good q sq)) refl) (plain_reply np good r sr.small)

  line_right : (e : Entry) (es : List Entry) → flat_map (entry_line np) (e ∷ es) ≡ entry_text np e ++ 10 ∷ flat_map (entry_line np) es
  line_right e es = append_assoc (entry_text np e) (codes "\n") (flat_map (entry_line np) es)

  no_lines : (e : Entry) (es : List Entry) → [] ≡ flat_map (entry_line np) (e ∷ es) → ⊥
  no_lines e es same = omega (arith, ap (λ (t : List ℕ). length t) (same ∙ line_right e es), length-append (entry_text np e) (10 ∷ flat_map (entry_line np) es))

  lines_tell : (h g : List Entry) → AreTellable np.policy h → AreTellable np.policy g → flat_map (entry_line np) h ≡ flat_map (entry_line np) g → h ≡ g
  lines_tell [] [] a b e = refl
  lines_tell [] (y ∷ ys) a b e = absurd (no_lines y ys e)
  lines_tell (x ∷ xs) [] a b e = absurd (no_lines x xs (sym e))
  lines_tell (x ∷ xs) (y ∷ ys) a b e =
      let parts = cut 10 (entry_text np x) (entry_text np y) _ _ (lacks_plain (entry_text np x) (plain_entry x a.0)) (lacks_plain (entry_text np y) (plain_entry y b.0)) (sym (line_right x xs) ∙ e ∙ line_right y ys) in
      ap (λ (x : Entry). x ∷ xs) (entry_tells x y a.0 b.0 parts.0) ∙ ap (λ (xs : List Entry). y ∷ xs) (lines_tell xs ys a.1 b.1 parts.1)

  log_right : (birth : ℕ) (h : List Entry) → log_text np birth h ≡ codes "born " ++ (civil_text birth ++ 10 ∷ flat_map (entry_line np) h)
  log_right birth h = right4 (codes "born ") (civil_text birth) (codes "\n") (flat_map (entry_line np) h)

  pub log_tells : (birth dawn : ℕ) (h g : List Entry) → birth ≤ LAST_MINUTE → dawn ≤ LAST_MINUTE → AreTellable np.policy h → AreTellable np.policy g → log_text np birth h ≡ log_text np dawn g
      → (birth ≡ dawn) × (h ≡ g)
  log_tells birth dawn h g le lf a b e =
      let whole = ap (drop 5) (sym (log_right birth h) ∙ e ∙ log_right dawn g) in
      let parts = cut 10 (civil_text birth) (civil_text dawn) _ _ (lacks_plain (civil_text birth) (plain_civil birth)) (lacks_plain (civil_text dawn) (plain_civil dawn)) whole in
      (one_text birth dawn le lf parts.0, lines_tell h g a b parts.1)
