-- The findings for the words of a stream.
use Rattle.std.proofs.Common.{◌≡◌, ℕ, ◌+◌, ◌-◌, ◌*◌, ◌/◌, ◌<◌, ◌≤◌, ◌==◌, inl, inr, Bool, cond, if◌then◌else◌, List, [], ◌∷◌, ◌++◌, length, get_or, map, replicate, refl, sym, ap, ap₂, ◌∙◌, subst, arith, All, length-append, Some, None, is_none}
use Rattle.std.specs.declared.option.Option.{Option}
use Rattle.std.specs.List.{concat}
use Rattle.std.proofs.lemmas.Bool.Decides.{eqb_tells, leb_tells}
use Rattle.std.proofs.lemmas.List.{ext_get_or, length-map, length-replicate, get_or-map, get_or_append_left, get_or-replicate}
use Rattle.std.proofs.Math.Seq.{get_or-append_right}
use Rattle.std.proofs.Math.ListN.{get_or-eq_default}
use Rattle.std.proofs.lemmas.List.Elements.{All-get_or}
use Rattle.std.proofs.lemmas.List.FromFn.{length-map-range_with_len, get_or-map-range_with_len}
use Rattle.std.proofs.lemmas.List.Sums.{sum_by-cons}
use Rattle.bit_lists.specs.Counting.{below}
use Rattle.rw_code.specs.Codeword.{IsWord, IsCodeword, IsNear, Reads, differences}
use Rattle.rw_code.specs.Finding.{IsFinding}
use Rattle.rw_interleave.specs.Interleave.{word_of, place, whole_packs, Carries}
use Rattle.rw_interleave.specs.Stream.{word_count, form_word, all_packs, IsRecovered, IsDamaged, bad_count}
use Rattle.rw_interleave.specs.Texts.{cdg_bytes}
use Rattle.raw_subcode.specs.declared.form.Form.{Form}
use Rattle.raw_subcode.specs.declared.form.Form.TheVariants.{Raw, Sector, Cooked}

-- no word is near two codewords
abbrev pub OneIsNear : Type 0
OneIsNear =
    (received one other : List ℕ) → IsWord received → Reads received one → Reads received other → one ≡ other

-- ---- near words

pub differences-same : (xs : List ℕ) → differences xs xs ≡ 0
unfolding differences
differences-same [] = refl
differences-same (x ∷ xs) = elim (eqb_tells x x) [
  | inl same ↦
      ap (λ (t : Bool). cond t 0 1 + differences xs xs) same.0 ∙ ap (λ n. 0 + n) (differences-same xs)
  | inr other ↦ absurd (other.1 refl)
]

abbrev one_if_not : ℕ → ℕ → ℕ
one_if_not x y = if x == y then 0 else 1

one_difference : (x y : ℕ) → one_if_not x y ≡ one_if_not y x
one_difference x y = elim (eqb_tells x y) [
  | inl same ↦ ap₂ one_if_not same.1 (sym same.1)
  | inr other ↦
      ap (λ t. cond t 0 1) other.0
      ∙ sym (elim (eqb_tells y x)
      [ inl same ↦ absurd (other.1 (sym same.1)) | inr more ↦ ap (λ t. cond t 0 1) more.0 ])
]

pub differences-turned : (xs ys : List ℕ) → length xs ≡ length ys → differences xs ys ≡ differences ys xs
unfolding differences
differences-turned [] [] size = refl
differences-turned [] (y ∷ ys) size = absurd (omega (arith, size))
differences-turned (x ∷ xs) [] size = absurd (omega (arith, size))
differences-turned (x ∷ xs) (y ∷ ys) size =
    ap₂ (λ a b. a + b) (one_difference x y) (differences-turned xs ys (omega (arith, size)))

-- ---- words

placed_word : (symbols : List ℕ) (at : ℕ → ℕ) → ((p : ℕ) → get_or symbols p 0 < 64)
    → IsWord (map (λ i. get_or symbols (at i) 0) (below 24))
placed_word symbols at small = record {
  size = length-map-range_with_len (λ i. get_or symbols (at i) 0) 0 24;
  symbols =
      λ k d lt. subst (λ n. n < 64) (sym (get_or-map-range_with_len (λ i. get_or symbols (at i) 0) 0 24 k k d
      (omega (arith, lt, length-map-range_with_len (λ i. get_or symbols (at i) 0) 0 24)) (omega arith)))
      (small (at k));
}

pub form_words : (form : Form) (symbols : List ℕ) (n : ℕ) → ((p : ℕ) → get_or symbols p 0 < 64)
    → IsWord (form_word form symbols n)
unfolding word_of
form_words Raw symbols n small = placed_word symbols (place n) small
form_words Sector symbols n small = placed_word symbols (place n) small
form_words Cooked symbols n small = placed_word symbols (λ i. 24 * n + i) small

pub small_get : (symbols : List ℕ) → All (λ symbol. symbol < 64) symbols → (p : ℕ) → get_or symbols p 0 < 64
small_get symbols small p = elim (leb_tells (length symbols) p) [
  | inl past ↦ omega (arith, get_or-eq_default symbols 0 past.1)
  | inr within ↦ All-get_or (λ symbol. symbol < 64) symbols p 0 within.1 small
]

-- ---- findings

finding_of : (word codeword : List ℕ) (found : Option (List ℕ)) → OneIsNear → IsWord word
    → Reads word codeword → IsFinding word found
    → found ≡ Some codeword
finding_of word codeword (Some other) one is_word reads finds =
    ap (λ w. Some w) (one word other codeword is_word finds reads)
finding_of word codeword None one is_word reads finds = absurd (finds codeword reads)

found_is : (form : Form) (symbols : List ℕ) (found : List (Option (List ℕ))) (codewords : ℕ → List ℕ)
    → OneIsNear → IsRecovered form symbols found
    → ((n : ℕ) → n < word_count form (length symbols / 96)
    → IsWord (form_word form symbols n) × Reads (form_word form symbols n) (codewords n))
    → found ≡ map (λ n. Some (codewords n)) (below (word_count form (length symbols / 96)))
found_is form symbols found codewords one recovered each =
    let count : ℕ = word_count form (length symbols / 96) in
    let size : length (map (λ n. Some (codewords n)) (below count)) ≡ count =
    length-map-range_with_len (λ n. Some (codewords n)) 0 count in
    ext_get_or None found (map (λ n. Some (codewords n)) (below count)) (recovered.count ∙ sym size) (λ n lt.
    let within : n < count = omega (arith, lt, recovered.count) in
    finding_of (form_word form symbols n) (codewords n) _ one (each n within).0 (each n within).1
    (recovered.each n within)
    ∙ sym (get_or-map-range_with_len (λ n. Some (codewords n)) 0 count n n None within (omega arith)))

itself : (codeword : List ℕ) → IsCodeword codeword → Reads codeword codeword
itself codeword is_codeword =
    record { is_codeword = is_codeword; is_near = omega (arith, differences-same codeword) }

pub clean_found : (form : Form) (symbols : List ℕ) (found : List (Option (List ℕ))) → OneIsNear
    → ((n : ℕ) → n < word_count form (length symbols / 96) → IsCodeword (form_word form symbols n))
    → IsRecovered form symbols found
    → found ≡ map (λ n. Some (form_word form symbols n)) (below (word_count form (length symbols / 96)))
clean_found form symbols found one codewords recovered =
    found_is form symbols found (form_word form symbols) one recovered
    (λ n lt. ((codewords n lt).is_word, itself _ (codewords n lt)))

-- `finds` has the finding of each word
abbrev pub IsFound : (List ℕ → Option (List ℕ)) → Type 0
IsFound finds = (received : List ℕ) → IsWord received → IsFinding received (finds received)

abbrev pub OnlyFound : (List ℕ → Option (List ℕ)) → Type 0
OnlyFound finds = (received : List ℕ) (found : Option (List ℕ)) → IsWord received → IsFinding received found
    → found ≡ finds received

pub some_recovered : (finds : List ℕ → Option (List ℕ)) → IsFound finds → (form : Form) (symbols : List ℕ)
    → ((p : ℕ) → get_or symbols p 0 < 64)
    → IsRecovered form symbols
    (map (λ n. finds (form_word form symbols n)) (below (word_count form (length symbols / 96))))
some_recovered finds is form symbols small =
    let count : ℕ = word_count form (length symbols / 96) in
    let each : ℕ → Option (List ℕ) = λ n. finds (form_word form symbols n) in
    record {
      count = length-map-range_with_len each 0 count;
      each =
          λ n lt. subst (IsFinding (form_word form symbols n))
          (sym (get_or-map-range_with_len each 0 count n n None lt (omega arith)))
          (is (form_word form symbols n) (form_words form symbols n small));
    }

pub one_recovered : (finds : List ℕ → Option (List ℕ)) → OnlyFound finds → (form : Form) (symbols : List ℕ)
    → ((p : ℕ) → get_or symbols p 0 < 64)
    → (found other : List (Option (List ℕ))) → IsRecovered form symbols found → IsRecovered form symbols other
    → found ≡ other
one_recovered finds only form symbols small found other recovered again =
    ext_get_or None found other (recovered.count ∙ sym again.count) (λ n lt.
    let within : n < word_count form (length symbols / 96) = omega (arith, lt, recovered.count) in
    let word : IsWord (form_word form symbols n) = form_words form symbols n small in
    only _ _ word (recovered.each n within) ∙ sym (only _ _ word (again.each n within)))

-- ---- packs of damaged streams

-- there are at least as many words as packs
enough : (form : Form) (blocks : ℕ) → whole_packs blocks ≤ word_count form blocks
enough Raw blocks = omega arith
enough Sector blocks = omega arith
enough Cooked blocks = omega arith

module _ (form : Form) (blocks : ℕ) (symbols others : List ℕ) (packs : List (List ℕ)) (one : OneIsNear)
    (idle : IsCodeword (replicate 24 0)) (carries : Carries blocks symbols packs)
    (small : (p : ℕ) → get_or others p 0 < 64) (damaged : IsDamaged symbols form others) where
  same_blocks : length symbols / 96 ≡ blocks
  same_blocks = omega (arith, carries.size)

  same_size : length others / 96 ≡ blocks
  same_size = ap (λ n. n / 96) damaged.size ∙ same_blocks

  length-form_word : (n : ℕ) → length (form_word form others n) ≡ 24
  length-form_word n = (form_words form others n small).size

  reads_pack : (n : ℕ) → n < whole_packs blocks
      → Reads (form_word form others n) (get_or (all_packs form blocks packs) n [])
  reads_pack n lt =
      let within : n < length packs = omega (arith, lt, carries.count) in
      let pack : get_or (all_packs form blocks packs) n [] ≡ get_or packs n [] =
      get_or_append_left packs (replicate (word_count form blocks - length packs) (replicate 24 0)) [] n
      within in
      let word : word_of symbols n ≡ get_or packs n [] = carries.words n lt in
      let is_codeword : IsCodeword (get_or packs n []) =
      All-get_or IsCodeword packs n [] within carries.codewords in
      let near : IsNear (get_or packs n []) (form_word form others n) =
      subst (λ (w : List ℕ). IsNear w (form_word form others n)) word
      (damaged.words n (subst (λ b. n < whole_packs b) (sym same_blocks) lt)) in
      subst (λ (w : List ℕ). Reads (form_word form others n) w) (sym pack)
      (record {
        is_codeword = is_codeword;
        is_near = omega (
          arith,
          near,
          differences-turned (get_or packs n []) (form_word form others n)
              (is_codeword.is_word.size ∙ sym (length-form_word n)),
        );
      })

  reads_zeros : (n : ℕ) → whole_packs blocks ≤ n → n < word_count form blocks
      → Reads (form_word form others n) (get_or (all_packs form blocks packs) n [])
  reads_zeros n from to =
      let behind : length packs ≤ n = omega (arith, from, carries.count) in
      let entry : get_or (all_packs form blocks packs) n [] ≡ replicate 24 0 =
      get_or-append_right packs (replicate (word_count form blocks - length packs) (replicate 24 0)) n []
      behind
      ∙ get_or-replicate (word_count form blocks - length packs) (n - length packs) (replicate 24 0) []
      (omega (arith, behind, to)) in
      let near =
      damaged.further n (subst (λ b. whole_packs b ≤ n) (sym same_blocks) from)
      (subst (λ b. n < word_count form b) (sym same_blocks) to) in
      subst (λ (w : List ℕ). Reads (form_word form others n) w) (sym entry)
      (record { is_codeword = idle; is_near = near })

  pub packs_found : (found : List (Option (List ℕ))) → IsRecovered form others found
      → found ≡ map (λ pack. Some pack) (all_packs form blocks packs)
  packs_found found recovered =
      let all : List (List ℕ) = all_packs form blocks packs in
      let count : ℕ = word_count form (length others / 96) in
      let same : count ≡ word_count form blocks = ap (word_count form) same_size in
      let size : length all ≡ count =
      length-append packs (replicate (word_count form blocks - length packs) (replicate 24 0))
      ∙ ap (λ n. length packs + n) (length-replicate (word_count form blocks - length packs) (replicate 24 0))
      ∙ omega (arith, same, carries.count, enough form blocks) in
      let each : (n : ℕ) → n < count
      → IsWord (form_word form others n) × Reads (form_word form others n) (get_or all n []) =
      λ n lt. (
        form_words form others n small,
        elim (leb_tells (whole_packs blocks) n) [
          | inl from ↦ reads_zeros n from.1 (omega (arith, lt, same))
          | inr before ↦ reads_pack n before.1
        ],
      ) in
      found_is form others found (λ n. get_or all n []) one recovered each
      ∙ ext_get_or None (map (λ n. Some (get_or all n [])) (below count)) (map (λ pack. Some pack) all)
      (length-map-range_with_len (λ n. Some (get_or all n [])) 0 count
      ∙ sym (length-map all (λ pack. Some pack) ∙ size)) (λ n lt.
      let within : n < count =
      omega (arith, lt, length-map-range_with_len (λ n. Some (get_or all n [])) 0 count) in
      get_or-map-range_with_len (λ n. Some (get_or all n [])) 0 count n n None within (omega arith)
      ∙ sym (get_or-map (λ pack. Some pack) all n [] None (omega (arith, within, size))))

-- ---- the text of packs

pub packs_text : (packs : List (List ℕ)) → cdg_bytes (map (λ pack. Some pack) packs) ≡ concat packs
packs_text [] = refl
packs_text (pack ∷ packs) = ap (λ l. pack ++ l) (packs_text packs)

pub none_bad : (packs : List (List ℕ)) → bad_count (map (λ pack. Some pack) packs) ≡ 0
none_bad [] = refl
none_bad (pack ∷ packs) =
    sum_by-cons (λ (x : Option (List ℕ)). cond (is_none x) 1 0) (Some pack) (map (λ pack. Some pack) packs)
    ∙ ap (λ n. 0 + n) (none_bad packs)
