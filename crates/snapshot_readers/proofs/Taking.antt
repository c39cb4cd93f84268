-- A list of entries that takes one more in, beside those of it that do not only look; and the history of a book.
use Rattle.std.proofs.Common.{◌≡◌, ℕ, ◌+◌, ◌<◌, ◌≤◌, Bool, true, false, Some, List, [], ◌∷◌, ◌++◌, length, take, drop, get_or, refl, sym, ◌∙◌, ap, subst, arith, length-append, append_assoc, take-add}
use Rattle.std.specs.Prelude.{if◌then◌else◌, slice_get}
use Rattle.std.proofs.lemmas.List.{append-nil, take_all, take-append-le, take-take, take_more}
use Rattle.std.proofs.lemmas.Option.{slice_get_within, get_or_from_slice_get}
use mathlib.Core.List.{IsPrefix}
use Rattle.gt_base.specs.declared.requests.Entry.{Entry}
use Rattle.policy_words.specs.Naming.{NamedPolicy}
use Rattle.history_laws.specs.Looks.{looks, without_looks}
use Rattle.published_copies.specs.Copied.{joined}
use Rattle.published_copies.proofs.Growing.{joined_more}
use Rattle.core_machine.specs.Books.{BookView, IsBook, model_in}
use Rattle.snapshot_readers.specs.Glances.{IsHistory}

one_more : (h : List Entry) (e : Entry) → without_looks (h ++ e ∷ []) ≡ without_looks h ++ without_looks (e ∷ [])
one_more [] e = refl
one_more (x ∷ h) e = by (looks x.what) (one_more h e)
  where
    by : (b : Bool) → without_looks (h ++ e ∷ []) ≡ without_looks h ++ without_looks (e ∷ [])
        → (if b then without_looks (h ++ e ∷ []) else x ∷ without_looks (h ++ e ∷ [])) ≡ (if b then without_looks h else x ∷ without_looks h) ++ without_looks (e ∷ [])
    by true is = is
    by false is = ap (λ (k : List Entry). x ∷ k) is

pub look_taken : (h : List Entry) (e : Entry) → looks e.what ≡ true → without_looks (h ++ e ∷ []) ≡ without_looks h
look_taken h e is = one_more h e ∙ ap (λ b. without_looks h ++ (if b then [] else e ∷ [])) is ∙ append-nil (without_looks h)

pub other_taken : (h : List Entry) (e : Entry) → looks e.what ≡ false → without_looks (h ++ e ∷ []) ≡ without_looks h ++ e ∷ []
other_taken h e is = one_more h e ∙ ap (λ b. without_looks h ++ (if b then [] else e ∷ [])) is

pub front_kept : (n : ℕ) (xs ys : List Entry) → n ≡ length xs → IsPrefix xs ys → take n ys ≡ take n xs
front_kept n xs ys is more = ap (take n) (sym more.1) ∙ take-append-le n xs more.0 (omega (arith, is))

pub all_taken : (n : ℕ) (xs ys : List Entry) (e : Entry) → n ≡ length xs → ys ≡ xs ++ e ∷ [] → take (n + 1) ys ≡ take n xs ++ e ∷ []
all_taken n xs ys e is more =
    let long = length-append xs (e ∷ []) in
    let same = ap length more in
    take_all (n + 1) ys (omega (arith, is, long, same)) ∙ more ∙ ap (λ (k : List Entry). k ++ e ∷ []) (sym (take_all n xs (omega (arith, is))))

-- an entry that is there agrees
pub one_agrees : (n : ℕ) (xs : List Entry) (there e : Entry) → slice_get xs n ≡ Some there → there ≡ e → take (n + 1) xs ≡ take n xs ++ e ∷ []
one_agrees n xs there e at same = take_more xs n e (slice_get_within xs n there at) ∙ ap (λ (x : Entry). take n xs ++ x ∷ []) (get_or_from_slice_get xs n there e at ∙ same)

-- where less than agrees is kept
pub front_of_front : (m n : ℕ) (xs ys zs : List Entry) → m ≤ n → take n ys ≡ take n xs → take m xs ≡ take m zs → take m ys ≡ take m zs
front_of_front m n xs ys zs le kept is = sym (shorter ys) ∙ ap (take m) kept ∙ shorter xs ∙ is
  where
    shorter : (l : List Entry) → take m (take n l) ≡ take m l
    shorter l = take-take m n l le

-- the list without its looks, an entry further
pub look_passed : (i : ℕ) (es : List Entry) (e : Entry) → i < length es → e ≡ get_or es i e → looks e.what ≡ true → without_looks (take (i + 1) es) ≡ without_looks (take i es)
look_passed i es e low is look = ap without_looks (take_more es i e low ∙ ap (λ (x : Entry). take i es ++ x ∷ []) (sym is)) ∙ look_taken (take i es) e look

pub other_passed : (i : ℕ) (es : List Entry) (e : Entry) → i < length es → e ≡ get_or es i e → looks e.what ≡ false → without_looks (take (i + 1) es) ≡ without_looks (take i es) ++ e ∷ []
other_passed i es e low is other = ap without_looks (take_more es i e low ∙ ap (λ (x : Entry). take i es ++ x ∷ []) (sym is)) ∙ other_taken (take i es) e other

without_looks-append : (h es : List Entry) → without_looks (h ++ es) ≡ without_looks h ++ without_looks es
without_looks-append h [] = ap without_looks (append-nil h) ∙ sym (append-nil (without_looks h))
without_looks-append h (e ∷ es) =
    ap without_looks (sym (append_assoc h (e ∷ []) es)) ∙ without_looks-append (h ++ e ∷ []) es ∙ ap (λ (k : List Entry). k ++ without_looks es) (one_more h e)
    ∙ append_assoc (without_looks h) (without_looks (e ∷ [])) (without_looks es) ∙ ap (λ (k : List Entry). without_looks h ++ k) (sym (without_looks-append (e ∷ []) es))

-- a batch more, of which the book has those that do not only look
pub batch_taken : (ess ess' : List (List Entry)) (es h h' : List Entry) (m n : ℕ) → ess' ≡ ess ++ es ∷ [] → without_looks (joined ess) ≡ take m h → take n h' ≡ take m h ++ without_looks es → without_looks (joined ess') ≡ take n h'
batch_taken ess ess' es h h' m n more were are =
    ap (λ (l : List (List Entry)). without_looks (joined l)) more ∙ ap without_looks (joined_more ess es) ∙ without_looks-append (joined ess) es
    ∙ ap (λ (k : List Entry). k ++ without_looks es) were ∙ sym are

-- the batches so far are the first of the entries, and so with the next batch
pub next_shown : (i at : ℕ) (ess : List (List Entry)) (es hs rest : List Entry) → i < length ess → es ≡ get_or ess i es → take at hs ≡ joined (take i ess) → rest ≡ drop at hs → IsPrefix es rest → take (at + length es) hs ≡ joined (take (i + 1) ess)
next_shown i at ess es hs rest low is so back begins =
    take-add at (length es) hs ∙ ap (λ (k : List Entry). k ++ take (length es) (drop at hs)) so
    ∙ ap (λ (k : List Entry). joined (take i ess) ++ k) (ap (take (length es)) (sym back ∙ sym begins.1) ∙ take-append-le (length es) es begins.0 (omega arith) ∙ take_all (length es) es (omega arith))
    ∙ sym (joined_more (take i ess) es) ∙ ap joined (ap (λ (x : List Entry). take i ess ++ x ∷ []) is ∙ sym (take_more ess i es low))

pub history_of : (b : BookView) (np : NamedPolicy) (birth : ℕ) (h : List Entry) → IsBook b → np ≡ b.named → birth ≡ b.birth → h ≡ b.entries → IsHistory np.policy birth h
history_of b np birth h k named born same =
    subst (λ (q : NamedPolicy). IsHistory q.policy birth h) (sym named)
    (subst (λ (t : ℕ). IsHistory b.named.policy t h) (sym born)
    (subst (λ (l : List Entry). IsHistory b.named.policy b.birth l) (sym same) (record { model = model_in b; legal = k.legal; named = k.named })))
