use Rattle.std.proofs.Common.{◌≡◌, ℕ, List, [], ◌∷◌, ◌++◌, ◌+◌, ◌-◌, ◌<◌, ◌≤◌, Option, Some, None, append_assoc, append-nil, length, length-append, take, drop, sym, ap, ◌∙◌, refl, arith, subst}
use Rattle.std.proofs.lemmas.Grind.{common_steps}
use Rattle.std.proofs.lemmas.List.{take-append-drop, take-append-le, take_all, length-drop, length-take-le}
use Rattle.std.proofs.Math.Seq.{take-add, take-append-add, take-append_seam}
use Rattle.ports.specs.Bytes.{Gave, GaveOver, GaveUpTo, TakesAll, TakesPrefix}

-- two gifts, one after the other
pub Gave-append : (old mid new : Option (List ℕ)) (xs ys : List ℕ) → Gave old mid xs → Gave mid new ys → Gave old new (xs ++ ys)
Gave-append (Some a) (Some b) (Some c) xs ys p q = p ∙ ap (λ t. xs ++ t) q ∙ sym (append_assoc xs ys c)
Gave-append (Some a) (Some b) None xs ys p q = q
Gave-append (Some a) None c xs ys p q = absurd p
Gave-append None (Some b) c xs ys p q = absurd p
Gave-append None None c xs ys p q = gave_none c q
  where
    gave_none : (c : Option (List ℕ)) → Gave None c ys → Gave None c (xs ++ ys)
    gave_none (Some c) q = q
    gave_none None q = q

-- how many bytes xs and the first n of a buffer are
length-front : (xs buf : List ℕ) (n : ℕ) → n ≤ length buf → length (xs ++ take n buf) ≡ length xs + n
length-front xs buf n h = length-append xs (take n buf) ∙ ap (λ m. length xs + m) (length-take-le n buf h)

-- a read of n bytes after xs, all within the limit
pub GaveUpTo-append :
    (limit : ℕ) (old mid new : Option (List ℕ)) (xs : List ℕ) (n : ℕ) (buf : List ℕ) →
    Gave old mid xs → Gave mid new (take n buf) → n ≤ length buf → length xs + n ≤ limit → GaveUpTo limit old new
GaveUpTo-append limit old mid new xs n buf p q h le = record {
  bytes = xs ++ take n buf;
  gave = Gave-append old mid new xs (take n buf) p q;
  within = omega (arith, length-front xs buf n h);
}

-- a read of n bytes after xs, past the limit
pub GaveOver-append :
    (limit : ℕ) (old mid new : Option (List ℕ)) (xs : List ℕ) (n : ℕ) (buf : List ℕ) →
    Gave old mid xs → Gave mid new (take n buf) → n ≤ length buf → limit < length xs + n → GaveOver limit old new
GaveOver-append limit old mid new xs n buf p q h lt = record {
  bytes = xs ++ take n buf;
  gave = Gave-append old mid new xs (take n buf) p q;
  over = omega (arith, length-front xs buf n h);
}

-- two pieces, one after the other
pub TakesAll-append : (old mid new : Option (List ℕ)) (xs ys : List ℕ) → TakesAll old mid xs → TakesAll mid new ys → TakesAll old new (xs ++ ys)
TakesAll-append (Some a) (Some b) (Some c) xs ys p q = q ∙ ap (λ t. t ++ ys) p ∙ append_assoc a xs ys
TakesAll-append (Some a) (Some b) None xs ys p q = q
TakesAll-append (Some a) None c xs ys p q = absurd p
TakesAll-append None (Some b) c xs ys p q = absurd p
TakesAll-append None None c xs ys p q = takes_none c q
  where
    takes_none : (c : Option (List ℕ)) → TakesAll None c ys → TakesAll None c (xs ++ ys)
    takes_none (Some c) q = q
    takes_none None q = q

-- a sink that was not called took nothing
pub takes_nothing : (old : Option (List ℕ)) → TakesAll old old []
takes_nothing (Some bytes) = sym (append-nil bytes)
takes_nothing None = tt

-- all of some bytes, as a prefix of more
pub all_before : (old new : Option (List ℕ)) (xs ys : List ℕ) → TakesAll old new xs → TakesPrefix old new (xs ++ ys)
all_before old new xs ys taken = (length xs + 0, omega (arith, length-append xs ys), subst (TakesAll old new) (sym (take-append-add xs ys 0 ∙ append-nil xs)) taken)

-- a prefix of some bytes, as a prefix of more
pub prefix_more : (old new : Option (List ℕ)) (xs ys : List ℕ) → TakesPrefix old new xs → TakesPrefix old new (xs ++ ys)
prefix_more old new xs ys p = (p.0, omega (arith, p.1, length-append xs ys), subst (TakesAll old new) (sym (take-append-le p.0 xs ys p.1)) p.2)

-- all of some bytes, and a prefix of others
pub prefix_after : (old mid new : Option (List ℕ)) (xs ys : List ℕ) → TakesAll old mid xs → TakesPrefix mid new ys → TakesPrefix old new (xs ++ ys)
prefix_after old mid new xs ys all p = (
  length xs + p.0,
  omega (arith, p.1, length-append xs ys),
  subst (TakesAll old new) (sym (take-append-add xs ys p.0)) (TakesAll-append old mid new xs (take p.0 ys) all p.2),
)

-- what is left, as the next n and what is left then
pub drop-take_more : (xs : List ℕ) (i n : ℕ) → drop i xs ≡ take n (drop i xs) ++ drop (i + n) xs
drop-take_more xs i n = sym (take-append-drop n (drop i xs)) ∙ ap (λ t. take n (drop i xs) ++ t) (drop_more xs i n)
  where
    drop_more : (xs : List ℕ) (i n : ℕ) → drop n (drop i xs) ≡ drop (i + n) xs
    drop_more xs i n = grind (arith, common_steps)

-- the slice from i on
take-rest : (xs : List ℕ) (i : ℕ) → take (length xs - i) (drop i xs) ≡ drop i xs
take-rest xs i = take_all (length xs - i) (drop i xs) (omega (arith, length-drop i xs))

-- the first i + n: the first i, then the first n of the slice from i on
pub take-piece : (xs : List ℕ) (i n : ℕ) → take (i + n) xs ≡ take i xs ++ take n (take (length xs - i) (drop i xs))
take-piece xs i n = take-add i n xs ∙ ap (λ t. take i xs ++ take n t) (sym (take-rest xs i))

-- how long the slice from i on is
pub length-piece : (xs : List ℕ) (i : ℕ) → length (take (length xs - i) (drop i xs)) ≡ length xs - i
length-piece xs i = ap length (take-rest xs i) ∙ length-drop i xs

-- a piece that was copied to the front of a buffer
pub copied-piece : (xs copied rest : List ℕ) (i n : ℕ) → copied ≡ take ((i + n) - i) (drop i xs) → i + n ≤ length xs → drop i xs ≡ take n (copied ++ rest) ++ drop (i + n) xs
copied-piece xs copied rest i n e h =
    let count : (i + n) - i ≡ n = omega arith in
    let piece : copied ≡ take n (drop i xs) = e ∙ ap (λ m. take m (drop i xs)) count in
    let size : length copied ≡ n = ap length piece ∙ length-take-le n (drop i xs) (omega (arith, length-drop i xs)) in
    let front : take n (copied ++ rest) ≡ copied = ap (λ m. take m (copied ++ rest)) (sym size) ∙ take-append_seam copied rest in
    drop-take_more xs i n ∙ ap (λ t. t ++ drop (i + n) xs) (sym (front ∙ piece))
