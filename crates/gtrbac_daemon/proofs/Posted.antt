-- From the posts of a crew, in their reversed order, to what the crew has served.
use Rattle.std.proofs.Common.{◌≡◌, ℕ, zero, suc, ◌+◌, ◌<◌, List, [], ◌∷◌, ◌++◌, reverse, map, length, drop, get_or, refl, sym, ap, subst, ◌∙◌, arith, Option, None}
use Rattle.std.specs.Prelude.{All}
use mathlib.Core.List.{reverse-cons, map-append}
use Rattle.gt_base.specs.declared.requests.Entry.{Entry}
use Rattle.gt_io.specs.Links.{Traffic, Doorway}
use Rattle.turn_lock.specs.Turns.{Each}
use Rattle.turn_lock.specs.Holders.{Site, Lock, Holder, newcomer, newcomers, HasNumber, AreIdle, IsToldBy}
use Rattle.turn_lock.proofs.PassLists.{each_unreverse, numbers, has_same}
use Rattle.policy_words.specs.Naming.{NamedPolicy}
use Rattle.connection_laws.specs.Connection.{IsTimed}
use Rattle.connection_laws.specs.Services.{service}
use Rattle.line_server.specs.declared.posts.Post.{Post}
use Rattle.line_server.specs.declared.workers.Worker.{Worker}
use Rattle.connection_laws.specs.Turns.{IsIdle}
use Rattle.line_server.specs.Working.{at_post, WorksThrough, HasWorkedAtPost}
use Rattle.gtrbac_daemon.specs.Crew.{Crewman, crewman, crewmen, IsNew}
use Rattle.gtrbac_daemon.proofs.PostLists.{passes_of, workers_of}
use Rattle.gtrbac_daemon.specs.Headline.{HasWorked, HaveWorked}
use Rattle.gtrbac_daemon.proofs.Told.{has_worked}

all_each : {A : Type 0} (P : A → Type 0) (xs : List A) → All P xs → Each P xs
all_each P [] h = tt
all_each P (x ∷ xs) h = (h 0 x (omega arith), all_each P xs (λ k d low. h (suc k) d (omega (arith, low))))

map_reversed : {A B : Type 0} (f : A → B) (xs : List A) → map f (reverse xs) ≡ reverse (map f xs)
map_reversed f [] = refl
map_reversed f (x ∷ xs) =
    ap (map f) (reverse-cons x xs) ∙ (map-append f (reverse xs) (x ∷ []) ∙ (ap (λ ys. ys ++ f x ∷ []) (map_reversed f xs) ∙ sym (reverse-cons (f x) (map f xs))))

module _ {M D C G L : Type 0} where
  -- what holds of passes and workers holds of the posts
  ready_at : (P : Holder M → Type 0) (Q : Worker D C G L → Type 0) (xs : List (Post M D C G L)) → Each P (passes_of xs) → Each Q (workers_of xs) → (k : ℕ) (d : Post M D C G L) → k < length xs
      → P (get_or xs k d).pass × Q (get_or xs k d).worker
  ready_at P Q [] p q k d low = absurd (omega arith)
  ready_at P Q (x ∷ xs) p q zero d low = (p.0, q.0)
  ready_at P Q (x ∷ xs) p q (suc k) d low = ready_at P Q xs p.1 q.1 k d (omega (arith, low))

  pub ready : (site : Site M) (ps : List (Holder M)) (crew : List (Worker D C G L)) (xs : List (Post M D C G L)) → reverse (passes_of xs) ≡ ps → reverse (workers_of xs) ≡ crew
      → AreIdle site ps → All (λ (w : Worker D C G L). IsNew w) crew → (k : ℕ) (d : Post M D C G L) → k < length xs → IsIdle site (get_or xs k d).pass × IsNew (get_or xs k d).worker
  ready site ps crew xs passes workers idle new =
      let P : Holder M → Type 0 = λ (p : Holder M). (p.site ≡ site) × (p.turn ≡ None) in
      let Q : Worker D C G L → Type 0 = λ (w : Worker D C G L). IsNew w in
      ready_at P Q xs (each_unreverse P (passes_of xs) (subst (Each P) (sym passes) idle)) (each_unreverse Q (workers_of xs) (subst (Each Q) (sym workers) (all_each Q crew new)))

  module _ (traffic : L → Traffic) (readings : C → Option (ℕ → ℕ)) (doorway : D → Doorway L)
      (np : NamedPolicy) (first : List Entry) (legal : List Entry → Type 0) (now : List Entry → ℕ) (site : Site M) where
    abbrev pub PostWorked : Post M D C G L → Post M D C G L → Type 0
    PostWorked x y = HasWorkedAtPost traffic (service np first legal now) site (at_post readings doorway x) (at_post readings doorway y)

    abbrev pub AllWorked : List (Post M D C G L) → List (Post M D C G L) → Type 0
    AllWorked [] [] = Unit {0}
    AllWorked [] (y ∷ ys) = ⊥
    AllWorked (x ∷ xs) [] = ⊥
    AllWorked (x ∷ xs) (y ∷ ys) = PostWorked x y × AllWorked xs ys

    all_worked : (xs ys : List (Post M D C G L)) → length ys ≡ length xs → ((i : ℕ) (d : Post M D C G L) → i < length xs → PostWorked (get_or xs i d) (get_or ys i d)) → AllWorked xs ys
    all_worked [] [] e h = tt
    all_worked [] (y ∷ ys) e h = absurd (omega arith)
    all_worked (x ∷ xs) [] e h = absurd (omega arith)
    all_worked (x ∷ xs) (y ∷ ys) e h = (h 0 x (omega arith), all_worked xs ys (omega arith) (λ i d low. h (suc i) d (omega arith)))

    worked_append : (xs ys us vs : List (Post M D C G L)) → AllWorked xs ys → AllWorked us vs → AllWorked (xs ++ us) (ys ++ vs)
    worked_append [] [] us vs a b = b
    worked_append [] (y ∷ ys) us vs a b = absurd a
    worked_append (x ∷ xs) [] us vs a b = absurd a
    worked_append (x ∷ xs) (y ∷ ys) us vs a b = (a.0, worked_append xs ys us vs a.1 b)

    all_reversed : (xs ys : List (Post M D C G L)) → AllWorked xs ys → AllWorked (reverse xs) (reverse ys)
    all_reversed [] [] a = tt
    all_reversed [] (y ∷ ys) a = absurd a
    all_reversed (x ∷ xs) [] a = absurd a
    all_reversed (x ∷ xs) (y ∷ ys) a =
        subst (λ (l : List (Post M D C G L)). AllWorked l (reverse (y ∷ ys))) (sym (reverse-cons x xs))
        (subst (λ (l : List (Post M D C G L)). AllWorked (reverse xs ++ x ∷ []) l) (sym (reverse-cons y ys)) (worked_append (reverse xs) (reverse ys) (x ∷ []) (y ∷ []) (all_reversed xs ys a.1) (a.0, tt)))

    -- none of the passes that come back is missing, and all are idle
    idle_all : (xs ys : List (Post M D C G L)) → AllWorked xs ys → AreIdle site (passes_of ys)
    idle_all [] [] a = tt
    idle_all [] (y ∷ ys) a = absurd a
    idle_all (x ∷ xs) [] a = absurd a
    idle_all (x ∷ xs) (y ∷ ys) a = (a.0.idle, idle_all xs ys a.1)

    numbers_kept : (xs ys : List (Post M D C G L)) → AllWorked xs ys → numbers (passes_of ys) ≡ numbers (passes_of xs)
    numbers_kept [] [] a = refl
    numbers_kept [] (y ∷ ys) a = absurd a
    numbers_kept (x ∷ xs) [] a = absurd a
    numbers_kept (x ∷ xs) (y ∷ ys) a = λ i. a.0.number_is i ∷ numbers_kept xs ys a.1 i

    -- the posts in the order of the crew, before and after
    pub record InOrder (ps qs : List (Holder M)) (crew crew' : List (Worker D C G L)) : Type 0 where
      pub before : List (Post M D C G L)
      pub after : List (Post M D C G L)
      pub worked : AllWorked before after
      pub passes : passes_of before ≡ ps
      pub passes' : passes_of after ≡ qs
      pub workers : workers_of before ≡ crew
      pub workers' : workers_of after ≡ crew'

    pub in_order : (ps qs : List (Holder M)) (crew crew' : List (Worker D C G L)) (xs ys : List (Post M D C G L)) → reverse (passes_of xs) ≡ ps → reverse (workers_of xs) ≡ crew
        → qs ≡ reverse (passes_of ys) → crew' ≡ reverse (workers_of ys) → length ys ≡ length xs → ((i : ℕ) (d : Post M D C G L) → i < length xs → PostWorked (get_or xs i d) (get_or ys i d))
        → InOrder ps qs crew crew'
    in_order ps qs crew crew' xs ys p w p' w' long h =
        record {
          before = reverse xs;
          after = reverse ys;
          worked = all_reversed xs ys (all_worked xs ys long h);
          passes = map_reversed (λ (q : Post M D C G L). q.pass) xs ∙ p;
          passes' = map_reversed (λ (q : Post M D C G L). q.pass) ys ∙ sym p';
          workers = map_reversed (λ (q : Post M D C G L). q.worker) xs ∙ w;
          workers' = map_reversed (λ (q : Post M D C G L). q.worker) ys ∙ sym w';
        }

    pub all_idle : (ps qs : List (Holder M)) (crew crew' : List (Worker D C G L)) → InOrder ps qs crew crew' → AreIdle site qs
    all_idle ps qs crew crew' o = subst (AreIdle site) o.passes' (idle_all o.before o.after o.worked)

    pub none_missing : (ps qs : List (Holder M)) (crew crew' : List (Worker D C G L)) → InOrder ps qs crew crew' → (m : ℕ) → HasNumber m ps → HasNumber m qs
    none_missing ps qs crew crew' o m has =
        has_same m ps qs (ap numbers (sym o.passes) ∙ (sym (numbers_kept o.before o.after o.worked) ∙ ap numbers o.passes')) has

  module _ (traffic : L → Traffic) (readings : C → Option (ℕ → ℕ)) (doorway : D → Doorway L)
      (np : NamedPolicy) (legal : List Entry → Type 0) (now : List Entry → ℕ) (site : Site M) (birth : ℕ) (timed : IsTimed birth legal now) (h : List Entry) where
    one_told : (l : Lock M) (k : ℕ) (x y : Post M D C G L) → x.pass ≡ newcomer l [] k → PostWorked traffic readings doorway np [] legal now site x y → IsToldBy [] h y.pass
        → HasWorked traffic np birth h k (crewman readings doorway x.worker) (crewman readings doorway y.worker)
    one_told l k x y is a told =
        let number : x.pass.number ≡ k = ap (λ (q : Holder M). q.number) is in
        let X = crewman readings doorway x.worker in
        let Y = crewman readings doorway y.worker in
        has_worked traffic np legal now k h birth timed x.pass y.pass X Y (ap (λ (q : Holder M). q.own) is) (ap (λ (q : Holder M). q.draws) is) (a.number_is ∙ number)
        (subst (λ (n : ℕ). WorksThrough traffic (service np [] legal now) n (record { pass = x.pass; clock = X.clock; door = X.door }) (record { pass = y.pass; clock = Y.clock; door = Y.door }) Y.served Y.outcome) number a.works) a.closed told

    crew_told : (l : Lock M) (k n : ℕ) (zs zs' : List (Post M D C G L)) → passes_of zs ≡ newcomers l [] k n → AllWorked traffic readings doorway np [] legal now site zs zs' → Each (IsToldBy [] h) (passes_of zs')
        → HaveWorked traffic np birth h k (crewmen readings doorway (workers_of zs)) (crewmen readings doorway (workers_of zs'))
    crew_told l k n [] [] e a told = tt
    crew_told l k n [] (y ∷ ys) e a told = absurd a
    crew_told l k n (x ∷ xs) [] e a told = absurd a
    crew_told l k zero (x ∷ xs) (y ∷ ys) e a told = absurd (cc e)
    crew_told l k (suc n) (x ∷ xs) (y ∷ ys) e a told =
        let here : x.pass ≡ newcomer l [] k = ap (λ (ps : List (Holder M)). get_or ps 0 x.pass) e in
        let rest : passes_of xs ≡ newcomers l [] (suc k) n = ap (λ (ps : List (Holder M)). drop 1 ps) e in
        let next : suc k ≡ k + 1 = omega arith in (
          one_told l k x y here a.0 told.0,
          subst (λ (j : ℕ). HaveWorked traffic np birth h j (crewmen readings doorway (workers_of xs)) (crewmen readings doorway (workers_of ys))) next (crew_told l (suc k) n xs ys rest a.1 told.1),
        )

    -- what the closed desk tells of the crew
    pub crew_is_told : (l : Lock M) (n : ℕ) (qs : List (Holder M)) (crew crew' : List (Worker D C G L)) → InOrder traffic readings doorway np [] legal now site (newcomers l [] 0 n) qs crew crew' → Each (IsToldBy [] h) qs
        → HaveWorked traffic np birth h 0 (crewmen readings doorway crew) (crewmen readings doorway crew')
    crew_is_told l n qs crew crew' o told =
        let K : List (Worker D C G L) → List (Crewman L) = crewmen readings doorway in
        let all = crew_told l 0 n o.before o.after o.passes o.worked (subst (Each (IsToldBy [] h)) (sym o.passes') told) in
        subst (λ (ws : List (Worker D C G L)). HaveWorked traffic np birth h 0 (K crew) (K ws)) o.workers' (subst (λ (ws : List (Worker D C G L)). HaveWorked traffic np birth h 0 (K ws) (K (workers_of o.after))) o.workers all)
