-- Texts that are written piece by piece.
use Rattle.std.proofs.Common.{◌≡◌, ℕ, ◌+◌, ◌<◌, ◌≤◌, List, [], ◌∷◌, ◌++◌, length, take, drop, get_or, flat_map, sym, ap, subst, ◌∙◌, append_assoc, arith, rules, Result, Ok, Err, OnErr, OnOk}
use Rattle.std.proofs.lemmas.Grind.{flat_map-append}
use Rattle.std.proofs.Math.Seq.{take-append-add}
use Rattle.std.proofs.lemmas.List.{take-append-le, length-append, append-nil, take_more, drop_more, take-append-drop, take_all}
use Rattle.std.specs.declared.option.Option.{Option}
use Rattle.std.specs.Prelude.{IsErr}
use Rattle.std.specs.Io.KnownBytes.{Appends}
use Rattle.std.proofs.KnownBytes.{Appends-trans}
use Rattle.cdg_io.specs.Causes.{Rose, HasCause}
use Rattle.cdg_io.specs.Moves.{AppendsPrefix}

pub on_err : {T E : Type 0} (r : Result T E) (P : Type 0) → P → OnErr r P
on_err (Ok x) P p = tt
on_err (Err e) P p = p

-- a prefix of the next piece is a prefix of the whole text
pub prefix_on : (a b c : Option (List ℕ)) (xs ys zs whole : List ℕ) → Appends a b xs → AppendsPrefix b c ys
    → whole ≡ xs ++ (ys ++ zs)
    → AppendsPrefix a c whole
prefix_on a b c xs ys zs whole put (n, within, more) e =
    let all : length whole ≡ length xs + length (ys ++ zs) = ap length e ∙ length-append xs (ys ++ zs) in
    let part : take (length xs + n) whole ≡ xs ++ take n ys =
    ap (take (length xs + n)) e
    ∙ take-append-add xs (ys ++ zs) n
    ∙ ap (λ l. xs ++ l) (take-append-le n ys zs within) in (
      length xs + n,
      omega (arith, length-append ys zs),
      subst (Appends a c) (sym part) (Appends-trans a b c _ _ put more),
    )

pub prefix_first : (a c : Option (List ℕ)) (ys zs whole : List ℕ) → AppendsPrefix a c ys → whole ≡ ys ++ zs
    → AppendsPrefix a c whole
prefix_first a c ys zs whole (n, within, more) e =
    let part : take n whole ≡ take n ys = ap (take n) e ∙ take-append-le n ys zs within in
    (n, omega (arith, ap length e, length-append ys zs), subst (Appends a c) (sym part) more)

pub put_both : (a b c : Option (List ℕ)) (xs ys whole : List ℕ) → Appends a b xs → Appends b c ys
    → whole ≡ xs ++ ys
    → Appends a c whole
put_both a b c xs ys whole first second e =
    subst (Appends a c) (sym e) (Appends-trans a b c xs ys first second)

-- the pieces of the first elements were written, and then the piece of the next one
pub piece_more : {X : Type 0} (a b c : Option (List ℕ)) (f : X → List ℕ) (xs : List X) (i : ℕ) (d : X)
    → i < length xs
    → Appends a b (flat_map f (take i xs)) → Appends b c (f (get_or xs i d))
    → Appends a c (flat_map f (take (i + 1) xs))
piece_more a b c f xs i d inside put more =
    put_both a b c (flat_map f (take i xs)) (f (get_or xs i d)) (flat_map f (take (i + 1) xs)) put more
    (ap (flat_map f) (take_more xs i d inside)
    ∙ flat_map-append f (take i xs) (get_or xs i d ∷ [])
    ∙ ap (λ ys. flat_map f (take i xs) ++ ys) (append-nil (f (get_or xs i d))))

-- a prefix of the next piece was written: a prefix of the whole text, whatever follows
pub piece_part : {X : Type 0} (a b c : Option (List ℕ)) (f : X → List ℕ) (xs : List X) (rest : List ℕ) (i : ℕ)
    (d : X) → i < length xs
    → Appends a b (flat_map f (take i xs)) → AppendsPrefix b c (f (get_or xs i d))
    → AppendsPrefix a c (flat_map f xs ++ rest)
piece_part a b c f xs rest i d inside put part =
    prefix_on a b c (flat_map f (take i xs)) (f (get_or xs i d)) (flat_map f (drop (i + 1) xs) ++ rest)
    (flat_map f xs ++ rest) put part
    (ap (λ ys. flat_map f ys ++ rest)
    (sym (take-append-drop i xs) ∙ ap (λ ys. take i xs ++ ys) (drop_more xs i d inside))
    ∙ ap (λ ys. ys ++ rest) (flat_map-append f (take i xs) (get_or xs i d ∷ drop (i + 1) xs))
    ∙ append_assoc (flat_map f (take i xs)) (f (get_or xs i d) ++ flat_map f (drop (i + 1) xs)) rest
    ∙ ap (λ ys. flat_map f (take i xs) ++ ys)
    (append_assoc (f (get_or xs i d)) (flat_map f (drop (i + 1) xs)) rest))

pub part_of_all : {X : Type 0} (a b c : Option (List ℕ)) (f : X → List ℕ) (xs : List X) (i : ℕ) (d : X)
    → i < length xs
    → Appends a b (flat_map f (take i xs)) → AppendsPrefix b c (f (get_or xs i d))
    → AppendsPrefix a c (flat_map f xs)
part_of_all a b c f xs i d inside put part =
    subst (AppendsPrefix a c) (append-nil (flat_map f xs)) (piece_part a b c f xs [] i d inside put part)

pub all_put : {X : Type 0} (a b : Option (List ℕ)) (f : X → List ℕ) (xs : List X) (i : ℕ) → length xs ≤ i
    → Appends a b (flat_map f (take i xs))
    → Appends a b (flat_map f xs)
all_put a b f xs i end put = subst (λ ys. Appends a b (flat_map f ys)) (take_all i xs end) put

pub on_ok_map : {T E : Type 0} (r : Result T E) (P Q : Type 0) → (P → Q) → OnOk r P → OnOk r Q
on_ok_map (Ok x) P Q f p = f p
on_ok_map (Err e) P Q f p = tt

pub on_err_map : {T E : Type 0} (r : Result T E) (P Q : Type 0) → (P → Q) → OnErr r P → OnErr r Q
on_err_map (Ok x) P Q f p = tt
on_err_map (Err e) P Q f p = f p

pub no_ok : {T E : Type 0} (r : Result T E) (P : Type 0) → IsErr r → OnOk r P
no_ok (Ok x) P failed = absurd (search rules)
no_ok (Err e) P failed = tt

-- a call that fails because of a write, after writes that did not fail
pub write_failed : {T E : Type 0} (r : Result T E) (before then now : ℕ) → IsErr r → then ≡ before
    → then ≤ now → Rose then now
    → HasCause before now r
write_failed r before then now failed same later rose = record {
  later = omega arith;
  failed = on_err r (Rose before now) (subst (λ (n : ℕ). Rose n now) same rose);
  same = no_ok r (now ≡ before) failed;
}
