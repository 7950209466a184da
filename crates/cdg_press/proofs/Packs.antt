-- Each number of a file has one pack.
use Rattle.std.proofs.Common.{◌≡◌, ℕ, zero, suc, ◌+◌, ◌-◌, ◌*◌, ◌/◌, ◌%◌, ◌<◌, ◌≤◌, List, [], length, get_or, map, take, drop, All, sym, refl, subst, ◌∙◌, inl, inr, arith}
use Rattle.std.proofs.lemmas.Bool.{cases_lt}
use Rattle.std.proofs.lemmas.List.{ext_get_or, get_or-drop, length-append, length-map, length-take-le, length-drop}
use Rattle.std.proofs.lemmas.List.Elements.{All-append, All-take, All-drop, All-map, All-from_get_or, recursion_from_All}
use Rattle.std.proofs.lemmas.List.FromFn.{length-map-range_with_len, get_or-map-range_with_len}
use Rattle.bit_lists.specs.Counting.{below, parts}
use Rattle.raw_subcode.specs.Channels.{symbols_of}
use Rattle.rw_code.specs.Codeword.{HasSymbols, IsCodeword}
use Rattle.rw_code.proofs.CodewordLemmas.{idle_is_codeword}
use Rattle.rw_code.proofs.Parity.{only_one_sealed}
use Rattle.cdg_instructions.specs.Instruction.{message_of}
use Rattle.cdg_instructions.specs.MadeGood.{IsMadeGood}
use Rattle.cdg_instructions.proofs.Symbols.{message_of-has}
use Rattle.rw_code.specs.Packs.{idle_pack}
use Rattle.cdg_press.specs.Pressed.{file_begin, file_pack, IsPackAfter}
use Rattle.cdg_instructions.proofs.Codewords.{has_codeword}

-- the symbols of a pack of a file

size_of_part : (count : ℕ) (bytes : List ℕ) (k : ℕ) → k < count → 24 * count ≤ length bytes
    → length (get_or (map symbols_of (parts count 24 bytes)) k []) ≡ 24
size_of_part zero bytes k lt fits = absurd (omega (arith, lt))
size_of_part (suc count) bytes zero lt fits =
    length-map (take 24 bytes) (λ byte. byte % 64) ∙ length-take-le 24 bytes (omega (arith, fits))
size_of_part (suc count) bytes (suc k) lt fits =
    size_of_part count (drop 24 bytes) k (omega (arith, lt)) (omega (arith, fits, length-drop 24 bytes))

low_small : (bytes : List ℕ) → All (λ s. s < 64) (symbols_of bytes)
low_small bytes = All-map (λ s. s < 64) (λ byte. byte % 64) bytes (λ k d lt. omega arith)

small_part : (count : ℕ) (bytes : List ℕ) (k : ℕ) → k < count
    → All (λ s. s < 64) (get_or (map symbols_of (parts count 24 bytes)) k [])
small_part zero bytes k lt = absurd (omega (arith, lt))
small_part (suc count) bytes zero lt = low_small (take 24 bytes)
small_part (suc count) bytes (suc k) lt = small_part count (drop 24 bytes) k (omega (arith, lt))

-- 24 symbols can get correct parity
make_good : (symbols : List ℕ) → length symbols ≡ 24 → All (λ s. s < 64) symbols
    → (word : List ℕ) × IsMadeGood symbols word
make_good symbols size small =
    let count : length (message_of symbols) ≡ 18 = omega (
      arith,
      length-take-le 2 symbols (omega (arith, size)),
      length-take-le 16 (drop 4 symbols) (omega (arith, size, length-drop 4 symbols)),
      length-append (take 2 symbols) (take 16 (drop 4 symbols)),
    ) in
    let all : All (λ s. s < 64) (message_of symbols) =
    All-append (λ s. s < 64) (take 2 symbols) (take 16 (drop 4 symbols))
    (All-take (λ s. s < 64) 2 symbols small)
    (All-take (λ s. s < 64) 16 (drop 4 symbols) (All-drop (λ s. s < 64) 4 symbols small)) in
    let (word, codeword, message) =
    has_codeword (message_of symbols) count (recursion_from_All (λ s. s < 64) (message_of symbols) all) in
    (word, record { size = size; codeword = codeword; message = message })

has_symbols : (symbols word : List ℕ) → IsMadeGood symbols word
    → HasSymbols word (message_of symbols) (drop 2 (message_of symbols))
has_symbols symbols word good =
    let has = message_of-has word (message_of symbols) good.codeword.is_word.size good.message in
    record {
      at_head = has.head;
      at_body = λ k lt. has.body k lt ∙ sym (get_or-drop 2 (message_of symbols) k 0);
    }

-- in one way only
one_made_good : (symbols one other : List ℕ) → IsMadeGood symbols one → IsMadeGood symbols other → one ≡ other
one_made_good symbols one other a b =
    only_one_sealed (message_of symbols) (drop 2 (message_of symbols)) one other a.codeword b.codeword
    (has_symbols symbols one a) (has_symbols symbols other b)

module _ (file : List ℕ) where
  abbrev many : ℕ
  many = length file / 24

  abbrev Pack : ℕ → List ℕ → Type 0
  Pack n pack = IsPackAfter file_begin file n pack

  idle_at : (n : ℕ) → ((k : ℕ) → n ≡ file_begin + k → k < length file / 24 → ⊥) → Pack n idle_pack
  idle_at n none = record { of_file = λ k at lt. absurd (none k at lt); idle = λ out. refl }

  file_at : (n : ℕ) (word : List ℕ) → file_begin ≤ n → n - file_begin < length file / 24
      → IsMadeGood (file_pack file (n - file_begin)) word
      → Pack n word
  file_at n word from lt good = record {
    of_file = λ k at in_file.
        let here : n - file_begin ≡ k = omega (arith, at) in
        subst (λ (i : ℕ). IsMadeGood (file_pack file i) word) here good;
    idle =
        λ out. elim out [
          | inl early ↦ absurd (omega (arith, early, from))
          | inr late ↦ absurd (omega (arith, late, lt, from))
        ];
  }

  pack_exists : (n : ℕ) → (pack : List ℕ) × Pack n pack × IsCodeword pack
  pack_exists n = elim (cases_lt n file_begin) [
    | inl early ↦ (idle_pack, idle_at n (λ k at lt. omega (arith, early, at)), idle_is_codeword)
    | inr from ↦ elim (cases_lt (n - file_begin) (length file / 24)) [
      | inl inside ↦
          let (word, good) =
          make_good (file_pack file (n - file_begin))
          (size_of_part (length file / 24) file (n - file_begin) inside (omega arith))
          (small_part (length file / 24) file (n - file_begin) inside) in
          (word, file_at n word from inside good, good.codeword)
      | inr late ↦ (idle_pack, idle_at n (λ k at lt. omega (arith, late, at, lt)), idle_is_codeword)
    ]
  ]

  pub packs_exist : (count : ℕ)
      → (packs : List (List ℕ))
      × (length packs ≡ count)
      × ((n : ℕ) → n < length packs → IsPackAfter file_begin file n (get_or packs n []))
      × All IsCodeword packs
  packs_exist count =
      let f : ℕ → List ℕ = λ n. (pack_exists n).0 in
      let size : length (map f (below count)) ≡ count = length-map-range_with_len f 0 count in (
        map f (below count),
        size,
        (λ n lt.
            let here : 0 + n ≡ n = omega arith in
            subst (Pack n) (sym (get_or-map-range_with_len f 0 count n n [] (omega (arith, lt, size)) here))
            (pack_exists n).1),
        All-map IsCodeword f (below count) (All-from_get_or (λ n. IsCodeword (f n)) (below count) 0
            (λ i lt. (pack_exists (get_or (below count) i 0)).2)),
      )

  pub one_pack : (n : ℕ) (pack other : List ℕ) → IsPackAfter file_begin file n pack
      → IsPackAfter file_begin file n other
      → pack ≡ other
  one_pack n pack other a b = elim (cases_lt n file_begin) [
    | inl early ↦ a.idle (inl early) ∙ sym (b.idle (inl early))
    | inr from ↦ elim (cases_lt (n - file_begin) (length file / 24)) [
      | inl inside ↦
          let at : n ≡ file_begin + (n - file_begin) = omega (arith, from) in
          one_made_good (file_pack file (n - file_begin)) pack other (a.of_file (n - file_begin) at inside)
          (b.of_file (n - file_begin) at inside)
      | inr late ↦
          let past : file_begin + length file / 24 ≤ n = omega (arith, late, from) in
          a.idle (inr past) ∙ sym (b.idle (inr past))
    ]
  ]

  pub same_packs : (packs others : List (List ℕ)) → length packs ≡ length others
      → ((n : ℕ) → n < length packs → IsPackAfter file_begin file n (get_or packs n []))
      → ((n : ℕ) → n < length others → IsPackAfter file_begin file n (get_or others n [])) → packs ≡ others
  same_packs packs others size a b =
      ext_get_or {A = List ℕ} [] packs others size
      (λ n lt. one_pack n (get_or packs n []) (get_or others n []) (a n lt) (b n (omega (arith, size, lt))))
