-- Packs of a row, which the stage changes in place.
use Rattle.std.proofs.Common.{◌≡◌, ℕ, length-append, length-drop, suc, ◌+◌, ◌-◌, ◌*◌, ◌<◌, ◌≤◌, List, ◌∷◌, ◌++◌, length, take, drop, Some, refl, subst, sym, ap, ap₂, ◌∙◌, append_assoc, append-nil, length-take-le, take_all, arith}
use Rattle.std.proofs.lemmas.List.{drop-drop, take-append-drop}
use Rattle.std.proofs.lemmas.Slice.{take-put_mid, drop-put_mid}
use Rattle.std.specs.List.{concat}
use Rattle.std.specs.declared.option.Option.{Option}
use borrow.Rule.Slice.PartMut.{put_mid}
use Rattle.cdg_io.specs.Change.{from_to}
use Rattle.cdg_io.specs.Pump.{Works, units_of}
use Rattle.cdg_io.specs.Run.{give, run_state, run_gives}
use Rattle.cdg_io.proofs.Frames.{machine_of, moving}
use Rattle.cdg_screen.specs.Standing.{Standing}
use Rattle.cdg_press.specs.Steps.{thin_next, thin_gives}

-- the standing after some packs, and the bytes that are their output
abbrev pub state : Standing → List (List ℕ) → Standing
state now packs = run_state thin_next now packs

abbrev pub run : Standing → List (List ℕ) → List ℕ
run now packs = concat (run_gives thin_next thin_gives now packs)

-- The stage went over the packs of a row before the place `at`. The other `count` packs are unchanged. The state
-- and the output of all packs follow from the state now, the bytes before `at`, and these packs.
pub record Left (s : Standing) (all : List (List ℕ)) (now : Standing) (row : List ℕ) (at : ℕ) : Type 0 where
  pub count : ℕ
  pub size : length row ≡ at + 24 * count
  pub next : state s all ≡ state now (units_of 24 count (drop at row))
  pub gives : run s all ≡ take at row ++ run now (units_of 24 count (drop at row))

-- before the first pack
pub left_whole : (s : Standing) (row : List ℕ) (count : ℕ) → length row ≡ 24 * count
    → Left s (units_of 24 count row) s row 0
left_whole s row count size = record {
  count = count;
  size = omega (arith, size);
  next = refl;
  gives = refl;
}

-- after the last pack
pub none_left : (s now : Standing) (all : List (List ℕ)) (row : List ℕ) (at : ℕ) → length row ≤ at
    → Left s all now row at
    → (now ≡ state s all) × (row ≡ run s all)
none_left s now all row at end left =
    let none : left.count ≡ 0 = omega (arith, left.size, end) in (
      sym (left.next ∙ ap (λ (n : ℕ). state now (units_of 24 n (drop at row))) none),
      sym (left.gives ∙ ap (λ (n : ℕ). take at row ++ run now (units_of 24 n (drop at row))) none
          ∙ append-nil (take at row) ∙ take_all at row end),
    )

-- the output for a pack and for those behind it
given_first : (now : Standing) (pack new : List ℕ) (packs : List (List ℕ)) → Some new ≡ thin_gives now pack
    → run now (pack ∷ packs) ≡ new ++ run (thin_next now pack) packs
given_first now pack new packs gave =
    ap (λ (o : Option (List ℕ)). concat (give o (run_gives thin_next thin_gives (thin_next now pack) packs)))
    (sym gave)

put_length : (at k : ℕ) (row new : List ℕ) → at + k ≤ length row → length new ≡ k
    → length (put_mid at k row new) ≡ length row
put_length at k row new within long =
    length-append (take at row) (new ++ drop k (drop at row))
    ∙ omega (
      arith,
      within,
      long,
      length-append new (drop k (drop at row)),
      length-take-le at row (omega (arith, within)),
      length-drop at row,
      length-drop k (drop at row),
    )

-- one more pack
pub left_less : (s now now' : Standing) (all : List (List ℕ)) (row new : List ℕ) (at k : ℕ) → at < length row
    → k ≡ 24 → length new ≡ k
    → now' ≡ thin_next now (take k (drop at row)) → Some new ≡ thin_gives now (take k (drop at row))
    → Left s all now row at
    → Left s all now' (put_mid at k row new) (at + 24)
left_less s now now' all row new at k within is long after gave left =
    let n = left.count - 1 in
    let more : left.count ≡ suc n = omega (arith, left.size, within) in
    let behind : List ℕ = drop at row in
    let fits : at + k ≤ length row = omega (arith, is, left.size, more) in
    let same : take k behind ≡ take 24 behind = ap (λ (m : ℕ). take m behind) is in
    let next : now' ≡ thin_next now (take 24 behind) = after ∙ ap (thin_next now) same in
    let gives : Some new ≡ thin_gives now (take 24 behind) = gave ∙ ap (thin_gives now) same in
    let row' : List ℕ = put_mid at k row new in
    let rest : drop 24 behind ≡ drop (at + 24) row' =
    drop-drop 24 at row
    ∙ sym (drop-put_mid at k row new (at + 24) (omega (arith, is)) (omega (arith, within))
    (omega (arith, is, long))) in
    let front : take (at + 24) row' ≡ take at row ++ new =
    take-put_mid at k row new (at + 24) (omega (arith, is, long)) (omega (arith, within)) in
    record {
      count = n;
      size = omega (arith, left.size, more, put_length at k row new fits long);
      next =
          left.next ∙ ap (λ (m : ℕ). state now (units_of 24 m behind)) more
          ∙ ap₂ (λ (t : Standing) (bytes : List ℕ). state t (units_of 24 n bytes)) (sym next) rest;
      gives =
          left.gives ∙ ap (λ (m : ℕ). take at row ++ run now (units_of 24 m behind)) more
          ∙ ap (λ (l : List ℕ). take at row ++ l)
          (given_first now (take 24 behind) new (units_of 24 n (drop 24 behind)) gives)
          ∙ ap₂ (λ (t : Standing) (bytes : List ℕ). take at row ++ (new ++ run t (units_of 24 n bytes)))
          (sym next) rest
          ∙ sym (append_assoc (take at row) new (run now' (units_of 24 n (drop (at + 24) row'))))
          ∙ ap (λ (l : List ℕ). l ++ run now' (units_of 24 n (drop (at + 24) row'))) (sym front);
    }

-- two more packs
pub left_two_less : (s now mid now' : Standing) (all : List (List ℕ)) (row first second : List ℕ)
    (at k m : ℕ) → at + 48 ≤ length row → k ≡ 24 → m ≡ 24 → length first ≡ k → length second ≡ m
    → mid ≡ thin_next now (take k (drop at row)) → Some first ≡ thin_gives now (take k (drop at row))
    → now' ≡ thin_next mid (take m (drop (at + 24) (put_mid at k row first)))
    → Some second ≡ thin_gives mid (take m (drop (at + 24) (put_mid at k row first)))
    → Left s all now row at
    → Left s all now' (put_mid (at + 24) m (put_mid at k row first) second) (at + 48)
left_two_less s now mid now' all row first second at k m within is_k is_m long_k long_m one gave two gave_two
    left =
    let row' : List ℕ = put_mid at k row first in
    let size : length row' ≡ length row = put_length at k row first (omega (arith, is_k, within)) long_k in
    let half = left_less s now mid all row first at k (omega (arith, within)) is_k long_k one gave left in
    let whole =
    left_less s mid now' all row' second (at + 24) m (omega (arith, size, within)) is_m long_m two gave_two
    half in
    let end : at + 24 + 24 ≡ at + 48 = omega arith in
    subst (Left s all now' (put_mid (at + 24) m row' second)) end whole
