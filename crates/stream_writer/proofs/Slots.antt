-- The slots over which packs are spread, one after another.
use Rattle.std.proofs.Common.{◌≡◌, ℕ, ◌+◌, ◌-◌, ◌*◌, ◌<◌, List, [], ◌∷◌, ◌++◌, length, get_or, take, drop, replicate, All, Some, inl, inr, refl, sym, ap, ap₂, subst, ◌∙◌, append_assoc, arith}
use Rattle.std.specs.List.{concat}
use Rattle.std.specs.declared.option.Option.{Option}
use Rattle.std.proofs.lemmas.Bool.{cases_lt}
use Rattle.std.proofs.lemmas.List.{length-append, length-take, length-drop, append-nil, take_all, take-append-le, drop-append-le, drop-drop, drop-replicate, take-replicate, get_or_append_left, get_or-append_right}
use Rattle.std.proofs.lemmas.List.Elements.{All-append}
use Rattle.std.proofs.lemmas.Slice.{take-put_mid, drop-put_mid}
use Rattle.std.proofs.Math.Seq.{drop-append_seam}
use borrow.Rule.Slice.PartMut.{put_mid}
use Rattle.cdg_io.specs.Run.{give, run_state}
use Rattle.rw_code.specs.Codeword.{IsCodeword}
use Rattle.rw_interleave.specs.Spreading.{spread_next, spread_gives, spread_over}
use Rattle.cdg_io.specs.Change.{from_to}
use Rattle.stream_writer.specs.Blocks.{symbols_at}
use Rattle.stream_writer.specs.Given.{symbols_from, AreGiven, ComesLater, TakesPacks}

slot_written : (symbols slot : List ℕ) (k : ℕ) → length symbols ≡ 96 → length slot ≡ 24 → k < 4
    → take (24 * (k + 1)) (put_mid (24 * k) (24 * k + 24 - 24 * k) symbols slot)
    ≡ take (24 * k) symbols ++ slot
slot_written symbols slot k size one below =
    take-put_mid (24 * k) (24 * k + 24 - 24 * k) symbols slot (24 * (k + 1)) (omega arith) (omega arith)

length-written : (symbols slot : List ℕ) (k : ℕ) → length symbols ≡ 96 → length slot ≡ 24 → k < 4
    → length (put_mid (24 * k) (24 * k + 24 - 24 * k) symbols slot) ≡ 96
length-written symbols slot k size one below =
    let first = length-take (24 * k) symbols in
    let start = length-drop (24 * k) symbols in
    let rest = length-drop (24 * k + 24 - 24 * k) (drop (24 * k) symbols) in
    let inner = length-append slot (drop (24 * k + 24 - 24 * k) (drop (24 * k) symbols)) in
    let outer =
    length-append (take (24 * k) symbols) (slot ++ drop (24 * k + 24 - 24 * k) (drop (24 * k) symbols)) in
    omega arith

-- The zeros where nothing is written yet

pub slot_zeros : (symbols : List ℕ) (k : ℕ) → k < 4 → drop (24 * k) symbols ≡ replicate (96 - 24 * k) 0
    → take (24 * k + 24 - 24 * k) (drop (24 * k) symbols) ≡ replicate 24 0
slot_zeros symbols k below zeros =
    let size : 24 * k + 24 - 24 * k ≡ 24 = omega arith in
    ap₂ (λ (n : ℕ) (xs : List ℕ). take n xs) size zeros ∙ take-replicate 24 (96 - 24 * k) 0 (omega arith)

zeros_after : (symbols slot : List ℕ) (k : ℕ) → length symbols ≡ 96 → length slot ≡ 24 → k < 4
    → drop (24 * k) symbols ≡ replicate (96 - 24 * k) 0
    → drop (24 * (k + 1)) (put_mid (24 * k) (24 * k + 24 - 24 * k) symbols slot)
    ≡ replicate (96 - 24 * (k + 1)) 0
zeros_after symbols slot k size one below zeros =
    let there : 24 * k + 24 ≡ 24 * (k + 1) = omega arith in
    let left : 96 - 24 * k - 24 ≡ 96 - 24 * (k + 1) = omega arith in
    drop-put_mid (24 * k) (24 * k + 24 - 24 * k) symbols slot (24 * (k + 1)) (omega arith)
    (omega (arith, size)) (omega (arith, one))
    ∙ sym (ap (λ n. drop n symbols) there) ∙ sym (drop-drop 24 (24 * k) symbols)
    ∙ ap (drop 24) zeros ∙ drop-replicate 24 (96 - 24 * k) 0 ∙ ap (λ n. replicate n 0) left

-- Packs that are read

pub none_given : (Comes : ℕ → List ℕ → Type 0) (first : ℕ) → AreGiven Comes first 0 []
none_given Comes first =
    record { count = refl; each = λ k lt. absurd (omega arith); codewords = λ k d lt. absurd (omega arith) }

one_given : (Comes : ℕ → List ℕ → Type 0) (first at : ℕ) (pack : List ℕ) → at ≡ first → Comes at pack
    → IsCodeword pack
    → AreGiven Comes first 1 (pack ∷ [])
one_given Comes first at pack here is_pack codeword = record {
  count = refl;
  each = λ k lt.
      let none : 0 ≡ k = omega arith in
      let there : at ≡ first + k = omega arith in
      subst (λ j. Comes (first + k) (get_or (pack ∷ []) j [])) none (subst (λ n. Comes n pack) there is_pack);
  codewords = λ k d lt.
      let none : 0 ≡ k = omega arith in
      subst (λ j. IsCodeword (get_or (pack ∷ []) j d)) none codeword;
}

pub given_more : (Comes : ℕ → List ℕ → Type 0) (first m next n all : ℕ) (xs ys : List (List ℕ))
    → AreGiven Comes first m xs → AreGiven Comes next n ys
    → next ≡ first + m → all ≡ m + n → AreGiven Comes first all (xs ++ ys)
given_more Comes first m next n all xs ys these those start sum = record {
  count = length-append xs ys ∙ omega (arith, these.count, those.count);
  each = λ k lt. elim (cases_lt k m) [
    | inl below ↦
        subst (λ (pack : List ℕ). Comes (first + k) pack)
        (sym (get_or_append_left xs ys [] k (omega (arith, these.count)))) (these.each k below)
    | inr past ↦
        let place : next + (k - m) ≡ first + k = omega arith in
        subst (λ (pack : List ℕ). Comes (first + k) pack)
        (sym (get_or-append_right xs ys m k [] these.count past))
        (subst (λ i. Comes i (get_or ys (k - m) [])) place (those.each (k - m) (omega arith)))
  ];
  codewords = All-append IsCodeword xs ys these.codewords those.codewords;
}

-- packs that are read later
pub given_later : (Comes Later : ℕ → List ℕ → Type 0) (many n : ℕ) (packs : List (List ℕ))
    → ComesLater Comes many Later → AreGiven Later 0 n packs
    → AreGiven Comes many n packs
given_later Comes Later many n packs later given = record {
  count = given.count;
  each = λ k lt.
      let same : 0 + k ≡ k = omega arith in
      later k (get_or packs k []) (subst (λ i. Later i (get_or packs k [])) same (given.each k lt));
  codewords = given.codewords;
}

pub none_later : (Comes : ℕ → List ℕ → Type 0) → ComesLater Comes 0 Comes
none_later Comes n pack comes = let same : n ≡ 0 + n = omega arith in subst (λ k. Comes k pack) same comes

pub later_more : (Comes Later Last : ℕ → List ℕ → Type 0) (m n all : ℕ) → ComesLater Comes m Later
    → ComesLater Later n Last → all ≡ m + n
    → ComesLater Comes all Last
later_more Comes Later Last m n all one two sum k pack comes =
    let there : m + (n + k) ≡ all + k = omega arith in
    subst (λ i. Comes i pack) there (one (n + k) pack (two k pack comes))

-- Their slots

length-spread_over : (packs : List (List ℕ)) → length (spread_over packs) ≡ 24
unfolding spread_over
length-spread_over packs = refl

pub length-symbols_from : (before packs : List (List ℕ))
    → length (symbols_from before packs) ≡ 24 * length packs
unfolding spread_gives
length-symbols_from before [] = refl
length-symbols_from before (pack ∷ packs) =
    length-append (spread_over (before ++ pack ∷ [])) (symbols_from (spread_next before pack) packs)
    ∙ omega
    (arith, length-spread_over (before ++ pack ∷ []), length-symbols_from (spread_next before pack) packs)

pub symbols_from-append : (before xs ys : List (List ℕ))
    → symbols_from before (xs ++ ys)
    ≡ symbols_from before xs ++ symbols_from (run_state spread_next before xs) ys
unfolding spread_gives
symbols_from-append before [] ys = refl
symbols_from-append before (x ∷ xs) ys =
    ap (λ rest. spread_over (before ++ x ∷ []) ++ rest) (symbols_from-append (spread_next before x) xs ys)
    ∙ sym (append_assoc (spread_over (before ++ x ∷ [])) (symbols_from (spread_next before x) xs)
    (symbols_from (run_state spread_next (spread_next before x) xs) ys))

pub run_state-append : (before xs ys : List (List ℕ))
    → run_state spread_next before (xs ++ ys) ≡ run_state spread_next (run_state spread_next before xs) ys
run_state-append before [] ys = refl
run_state-append before (x ∷ xs) ys = run_state-append (spread_next before x) xs ys

-- The slots of k packs are written.
pub record AreWritten (Comes : ℕ → List ℕ → Type 0) (before after : List (List ℕ)) (k : ℕ) (symbols : List ℕ)
    : Type 0 where
  pub packs : List (List ℕ)
  pub taken : TakesPacks Comes k (from_to before after) (take (24 * k) symbols) packs
  pub size : length symbols ≡ 96
  pub bound : All (λ x. x < 64) (take (24 * k) symbols)
  pub rest : drop (24 * k) symbols ≡ replicate (96 - 24 * k) 0

pub none_written : (Comes : ℕ → List ℕ → Type 0) (before : List (List ℕ)) (symbols : List ℕ)
    → symbols ≡ replicate 96 0
    → AreWritten Comes before before 0 symbols
none_written Comes before symbols zeros = record {
  packs = [];
  taken = record { given_are = none_given Comes 0; symbols_are = refl; after_is = refl };
  size = ap length zeros;
  bound = λ k d lt. absurd (omega arith);
  rest = zeros;
}

-- one more slot
pub slot_more : (Comes Later : ℕ → List ℕ → Type 0) (before t t' : List (List ℕ)) (k : ℕ)
    (symbols pack slot : List ℕ)
    → AreWritten Comes before t k symbols → k < 4 → ComesLater Comes k Later → Later 0 pack → IsCodeword pack
    → t' ≡ spread_next t pack → Some slot ≡ spread_gives t pack
    → length slot ≡ 24 → All (λ x. x < 64) slot
    → AreWritten Comes before t' (k + 1) (put_mid (24 * k) (24 * k + 24 - 24 * k) symbols slot)
slot_more Comes Later before t t' k symbols pack slot so_far lt later is_pack codeword window slotted one
    small =
    let packs = so_far.packs in
    let written = slot_written symbols slot k so_far.size one lt in
    let one_slot : symbols_from t (pack ∷ []) ≡ slot =
    ap (λ (o : Option (List ℕ)). concat (give o [])) (sym slotted) ∙ append-nil slot in
    record {
      packs = packs ++ pack ∷ [];
      taken = record {
        given_are =
            given_more Comes 0 k k 1 (k + 1) packs (pack ∷ []) so_far.taken.given_are
            (one_given Comes k (k + 0) pack (omega arith) (later 0 pack is_pack) codeword) (omega arith) refl;
        symbols_are = written ∙ ap₂ (λ xs ys. xs ++ ys) so_far.taken.symbols_are (sym one_slot)
            ∙ ap (λ (w : List (List ℕ)). symbols_from before packs ++ symbols_from w (pack ∷ []))
            so_far.taken.after_is
            ∙ sym (symbols_from-append before packs (pack ∷ []));
        after_is =
            window
            ∙ ap (λ (w : List (List ℕ)). spread_next w pack) so_far.taken.after_is
            ∙ sym (run_state-append before packs (pack ∷ []));
      };
      size = length-written symbols slot k so_far.size one lt;
      bound =
          subst (All (λ x. x < 64)) (sym written)
          (All-append (λ x. x < 64) (take (24 * k) symbols) slot so_far.bound small);
      rest = zeros_after symbols slot k so_far.size one lt so_far.rest;
    }

-- all four slots are written
all_of : (k : ℕ) (symbols : List ℕ) → k ≡ 4 → length symbols ≡ 96 → take (24 * k) symbols ≡ symbols
all_of k symbols all size = take_all (24 * k) symbols (omega (arith, size))

pub all_taken : (Comes : ℕ → List ℕ → Type 0) (before t : List (List ℕ)) (k : ℕ) (symbols : List ℕ)
    → AreWritten Comes before t k symbols → k ≡ 4
    → (packs : List (List ℕ)) × TakesPacks Comes 4 (from_to before t) symbols packs
all_taken Comes before t k symbols written all =
    let taken = written.taken in (
      written.packs,
      record {
        given_are = subst (λ n. AreGiven Comes 0 n written.packs) all taken.given_are;
        symbols_are = sym (all_of k symbols all written.size) ∙ taken.symbols_are;
        after_is = taken.after_is;
      },
    )

pub all_small : (Comes : ℕ → List ℕ → Type 0) (before t : List (List ℕ)) (k : ℕ) (symbols : List ℕ)
    → AreWritten Comes before t k symbols → k ≡ 4 → All (λ x. x < 64) symbols
all_small Comes before t k symbols written all =
    subst (All (λ x. x < 64)) (all_of k symbols all written.size) written.bound

-- The symbols of a block among all symbols

pub earlier_block : (symbols more : List ℕ) (n b : ℕ) → length symbols ≡ 96 * n → b < n
    → symbols_at (symbols ++ more) b ≡ symbols_at symbols b
earlier_block symbols more n b size lt =
    ap (take 96) (drop-append-le (96 * b) symbols more (omega (arith, size)))
    ∙ take-append-le 96 (drop (96 * b) symbols) more (omega (arith, length-drop (96 * b) symbols, size))

pub last_block : (symbols more : List ℕ) (n : ℕ) → length symbols ≡ 96 * n → length more ≡ 96
    → symbols_at (symbols ++ more) n ≡ more
last_block symbols more n size one =
    ap (take 96) (ap (λ k. drop k (symbols ++ more)) (sym size) ∙ drop-append_seam symbols more)
    ∙ take_all 96 more (omega (arith, one))
