use Rattle.std.proofs.Common.{◌+◌, ◌≤◌, ◌∷◌, [], sym, ◌∙◌, subst, arith}
use Rattle.rw_code.specs.Codeword.{IsWord, differences}
use Rattle.rw_merge.specs.Places.{AreEqualFrom, IsNextDifference, all_of}
use Rattle.rw_merge.proofs.Wrong.{EqualFrom, from_last, from_next, few_places, agreed_many, moved}
use Rattle.rw_merge.proofs.places.wrong_places.Goals as goal

pub returns-in_default-next_difference : goal.returns-in_default-next_difference
returns-in_default-next_difference c =
    let xs = c.args.first.now in
    let ys = c.args.second.now in
    let p = c.in-Some.first in
    let x_word = subst IsWord c.bytes-one.ensures.same c.bytes-one.ensures.word in
    let y_word = subst IsWord c.bytes-other.ensures.same c.bytes-other.ensures.word in
    let one =
    moved (λ xs1 ys1. IsNextDifference 0 xs1 ys1 p) _ _ xs ys c.bytes-one.ensures.same
    c.bytes-other.ensures.same c.in-Some.ensures in
    let last =
    moved (AreEqualFrom (p + 1)) _ _ xs ys c.bytes-one.ensures.same c.bytes-other.ensures.same
    c.in_default-next_difference.ensures in
    let equal : EqualFrom 0 (p ∷ []) xs ys = from_next 0 p [] xs ys one (from_last (p + 1) xs ys last) in
    few_places c.args.sums.now p c.unused.result c.with_further.result xs ys x_word y_word c.requires.sums
    (omega (arith, one.count))
    (λ i lt not_p not_q. equal i (omega arith) lt (not_p, tt)) c.with_further.ensures

pub returns-in_default-next_difference-2 : goal.returns-in_default-next_difference-2
returns-in_default-next_difference-2 c =
    let xs = c.args.first.now in
    let ys = c.args.second.now in
    let p = c.in-Some.first in
    let q = c.in-Some-next_difference.second in
    let x_word = subst IsWord c.bytes-one.ensures.same c.bytes-one.ensures.word in
    let y_word = subst IsWord c.bytes-other.ensures.same c.bytes-other.ensures.word in
    let one =
    moved (λ xs1 ys1. IsNextDifference 0 xs1 ys1 p) _ _ xs ys c.bytes-one.ensures.same
    c.bytes-other.ensures.same c.in-Some.ensures in
    let two =
    moved (λ xs1 ys1. IsNextDifference (p + 1) xs1 ys1 q) _ _ xs ys c.bytes-one.ensures.same
    c.bytes-other.ensures.same c.in-Some-next_difference.ensures in
    let last =
    moved (AreEqualFrom (q + 1)) _ _ xs ys c.bytes-one.ensures.same c.bytes-other.ensures.same
    c.in_default-next_difference-2.ensures in
    let equal : EqualFrom 0 (p ∷ q ∷ []) xs ys =
    from_next 0 p (q ∷ []) xs ys one (from_next (p + 1) q [] xs ys two (from_last (q + 1) xs ys last)) in
    few_places c.args.sums.now p q c.with_further-in_default-next_difference-2.result xs ys x_word y_word
    c.requires.sums (omega (arith, one.count))
    (λ i lt not_p not_q. equal i (omega arith) lt (not_p, (not_q, tt)))
    c.with_further-in_default-next_difference-2.ensures

pub returns-in_default-next_difference-3 : goal.returns-in_default-next_difference-3
returns-in_default-next_difference-3 c =
    let xs = c.args.first.now in
    let ys = c.args.second.now in
    let p = c.in-Some.first in
    let q = c.in-Some-next_difference.second in
    let r = c.in-Some-next_difference-2.third in
    let x_word = subst IsWord c.bytes-one.ensures.same c.bytes-one.ensures.word in
    let y_word = subst IsWord c.bytes-other.ensures.same c.bytes-other.ensures.word in
    let one =
    moved (λ xs1 ys1. IsNextDifference 0 xs1 ys1 p) _ _ xs ys c.bytes-one.ensures.same
    c.bytes-other.ensures.same c.in-Some.ensures in
    let two =
    moved (λ xs1 ys1. IsNextDifference (p + 1) xs1 ys1 q) _ _ xs ys c.bytes-one.ensures.same
    c.bytes-other.ensures.same c.in-Some-next_difference.ensures in
    let three =
    moved (λ xs1 ys1. IsNextDifference (q + 1) xs1 ys1 r) _ _ xs ys c.bytes-one.ensures.same
    c.bytes-other.ensures.same c.in-Some-next_difference-2.ensures in
    let last =
    moved (AreEqualFrom (r + 1)) _ _ xs ys c.bytes-one.ensures.same c.bytes-other.ensures.same
    c.in_default-next_difference-3.ensures in
    let equal : EqualFrom 0 (p ∷ q ∷ r ∷ []) xs ys =
    from_next 0 p (q ∷ r ∷ []) xs ys one (from_next (p + 1) q (r ∷ []) xs ys two
    (from_next (q + 1) r [] xs ys three (from_last (r + 1) xs ys last))) in
    let many : 3 ≤ differences xs ys = omega (arith, one.count, two.count, three.count) in
    let found = c.with_unused.ensures in (
      found.apart,
      λ w agreed.
          agreed_many (all_of c.with_unused.result) xs ys w x_word y_word many
          (λ i lt out. equal i (omega arith) lt (
            λ same. out.0 (same ∙ sym found.first),
            (λ same. out.1.0 (same ∙ sym found.second), (λ same. out.1.1.0 (same ∙ sym found.third), tt)),
          )) agreed,
    )

pub returns-in-None : goal.returns-in-None
returns-in-None c =
    let xs = c.args.first.now in
    let ys = c.args.second.now in
    let p = c.in-Some.first in
    let q = c.in-Some-next_difference.second in
    let r = c.in-Some-next_difference-2.third in
    let s = c.in-Some-next_difference-3.fourth in
    let x_word = subst IsWord c.bytes-one.ensures.same c.bytes-one.ensures.word in
    let y_word = subst IsWord c.bytes-other.ensures.same c.bytes-other.ensures.word in
    let one =
    moved (λ xs1 ys1. IsNextDifference 0 xs1 ys1 p) _ _ xs ys c.bytes-one.ensures.same
    c.bytes-other.ensures.same c.in-Some.ensures in
    let two =
    moved (λ xs1 ys1. IsNextDifference (p + 1) xs1 ys1 q) _ _ xs ys c.bytes-one.ensures.same
    c.bytes-other.ensures.same c.in-Some-next_difference.ensures in
    let three =
    moved (λ xs1 ys1. IsNextDifference (q + 1) xs1 ys1 r) _ _ xs ys c.bytes-one.ensures.same
    c.bytes-other.ensures.same c.in-Some-next_difference-2.ensures in
    let four =
    moved (λ xs1 ys1. IsNextDifference (r + 1) xs1 ys1 s) _ _ xs ys c.bytes-one.ensures.same
    c.bytes-other.ensures.same c.in-Some-next_difference-3.ensures in
    let last =
    moved (AreEqualFrom (s + 1)) _ _ xs ys c.bytes-one.ensures.same c.bytes-other.ensures.same
    c.in-None.ensures in
    let equal : EqualFrom 0 (p ∷ q ∷ r ∷ s ∷ []) xs ys =
    from_next 0 p (q ∷ r ∷ s ∷ []) xs ys one (from_next (p + 1) q (r ∷ s ∷ []) xs ys two
    (from_next (q + 1) r (s ∷ []) xs ys three
    (from_next (r + 1) s [] xs ys four (from_last (s + 1) xs ys last)))) in
    let many : 3 ≤ differences xs ys = omega (arith, one.count, two.count, three.count) in (
      record {
        first = one.within;
        second = (two.within, λ same. absurd (omega (arith, two.later, same)));
        third = (
          three.within,
          λ same. absurd (omega (arith, two.later, three.later, same)),
          λ same. absurd (omega (arith, three.later, same)),
        );
        fourth = (
          four.within,
          λ same. absurd (omega (arith, two.later, three.later, four.later, same)),
          λ same. absurd (omega (arith, three.later, four.later, same)),
          λ same. absurd (omega (arith, four.later, same)),
        );
      },
      λ w agreed. agreed_many (p ∷ q ∷ r ∷ s ∷ []) xs ys w x_word y_word many
          (λ i lt out. equal i (omega arith) lt out) agreed,
    )
