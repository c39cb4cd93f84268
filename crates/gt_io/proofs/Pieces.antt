-- Texts that are read piece by piece.
use Rattle.std.proofs.Common.{◌≡◌, ◌≤◌, ◌+◌, ℕ, [], ◌++◌, List, length, take, Some, None, IfSome, ap, sym, subst, ◌∙◌, append-nil, length-append, arith}
use Rattle.std.proofs.lemmas.List.{length-take-le}
use Rattle.std.specs.Prelude.{IsSome}
use Rattle.std.specs.declared.option.Option.{Option}
use Rattle.std.specs.Io.KnownBytes.{Consumes, IsAtEnd}
use Rattle.std.proofs.KnownBytes.{Consumes-trans}
use Rattle.gt_io.specs.Shelf.{Contents}
use Rattle.gt_io.specs.declared.source.TheConstants.{READ_PIECE}

-- a piece more
pub more_taken : (told mid after : Option (List ℕ)) (old new piece : List ℕ) → Consumes told mid old → Consumes mid after piece → new ≡ old ++ piece → Consumes told after new
more_taken told mid after old new piece p q e = subst (Consumes told after) (sym e) (Consumes-trans told mid after old piece p q)

pub more_found : (contents : Contents) (name : List ℕ) (mid after : Option (List ℕ)) (old new piece : List ℕ) → IfSome contents (λ text_of. Consumes (text_of name) mid old)
    → Consumes mid after piece → new ≡ old ++ piece → IfSome contents (λ text_of. Consumes (text_of name) after new)
more_found None name mid after old new piece p q e = tt
more_found (Some text_of) name mid after old new piece p q e = more_taken (text_of name) mid after old new piece p q e

-- all was taken
pub all_taken : (told mid after : Option (List ℕ)) (bytes piece : List ℕ) → Consumes told mid bytes → Consumes mid after piece → piece ≡ [] → IsAtEnd after → IfSome told (λ xs. bytes ≡ xs)
all_taken None mid after bytes piece p q none end = tt
all_taken (Some xs) None after bytes piece p q none end = absurd p
all_taken (Some xs) (Some ys) None bytes piece p q none end = absurd q
all_taken (Some xs) (Some ys) (Some zs) bytes piece p q none end =
    sym (p ∙ ap (λ l. bytes ++ l) (q ∙ (λ i. none i ++ end i)) ∙ append-nil bytes)

is_that : (told : Option (List ℕ)) (bytes : List ℕ) → IsSome told → IfSome told (λ xs. bytes ≡ xs) → told ≡ Some bytes
is_that None bytes some e = cc
is_that (Some xs) bytes some e = ap Some (sym e)

pub all_found : (contents : Contents) (name : List ℕ) (first mid after : Option (List ℕ)) (bytes piece : List ℕ) → IfSome contents (λ text_of. IsSome (text_of name) × (first ≡ text_of name))
    → IfSome contents (λ text_of. Consumes (text_of name) mid bytes) → Consumes mid after piece → piece ≡ [] → IsAtEnd after → IfSome contents (λ text_of. text_of name ≡ Some bytes)
all_found None name first mid after bytes piece there p q none end = tt
all_found (Some text_of) name first mid after bytes piece there p q none end =
    is_that (text_of name) bytes there.0 (all_taken (text_of name) mid after bytes piece p q none end)

-- at most a piece more than the limit was taken
pub kept_short : (items : List ℕ) (len limit : ℕ) → len ≡ length items → len ≤ limit → length items ≤ limit + READ_PIECE
kept_short items len limit is within = omega (arith, is, within)

pub more_short : (items buf : List ℕ) (n len limit : ℕ) → n ≤ length buf → length buf ≤ READ_PIECE → len ≡ length items → len ≤ limit → length (items ++ take n buf) ≤ limit + READ_PIECE
more_short items buf n len limit bound short is within =
    let long : length (take n buf) ≡ n = length-take-le n buf bound in
    let both = length-append items (take n buf) in
    omega (arith, long, both, bound, short, is, within)
