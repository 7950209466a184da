-- A word that was not read has no symbols.
use Rattle.std.proofs.Common.{◌≡◌, ◌≢◌, ℕ, zero, suc, ◌+◌, ◌-◌, ◌*◌, ◌/◌, ◌%◌, ◌<◌, ◌≤◌, ◌==◌, Bool, true, false, ◌&&◌, if◌then◌else◌, List, [], ◌∷◌, length, get_or, map, drop, replicate, refl, sym, ap, ◌∙◌, subst, inl, inr, arith}
use Rattle.std.specs.List.{list_all, list_any, range_with_len}
use Rattle.std.proofs.lemmas.Bool.{cases_eq, false≢true}
use Rattle.std.proofs.lemmas.Bool.Decides.{eqb_tells, leb_tells}
use Rattle.std.proofs.lemmas.List.{ext_get_or, get_or-drop, get_or-replicate, get_or-take}
use Rattle.std.proofs.lemmas.List.FromFn.{get_or-map-range_with_len, length-map-range_with_len}
use Rattle.std.proofs.lemmas.List.Sums.{AllPass-from_list_all}
use Rattle.std.proofs.Math.ListN.{get_or-eq_default}
use Rattle.raw_subcode.specs.Channels.{symbols_of}
use Rattle.rw_code.specs.Codeword.{IsWord, Reads}
use Rattle.rw_code.proofs.Independent.{only_one_near}
use Rattle.rw_code.proofs.Differing.{differences_self}
use Rattle.rw_code.proofs.Errors.{idle_near}
use Rattle.rw_interleave.specs.Interleave.{place, word_of}
use Rattle.rw_interleave.proofs.Places.{swapped-lt}
use Rattle.rw_mend.specs.Words.{block_at, blocks_under, coverage_of, is_blank_block, is_unread_block, reading_at}
use Rattle.rw_mend.specs.declared.candidates.Coverage.TheVariants.{Whole, Partly, Unread}
use Rattle.rw_mend.proofs.Givens.{is_word, reading-word}

pub reading-coverage : (program : List ℕ) (n : ℕ)
    → (reading_at program n).coverage ≡ coverage_of (blocks_under program n)
unfolding reading_at
reading-coverage program n = refl

-- if nothing was read, all blocks are unread
unread_all : (all any : Bool) → (if all then Unread else (if any then Partly else Whole)) ≡ Unread
    → all ≡ true
unread_all true any is = refl
unread_all false true is = cc
unread_all false false is = cc

both_true : (a b : Bool) → (a && b) ≡ true → (a ≡ true) × (b ≡ true)
both_true true b is = (refl, is)
both_true false b is = absurd (false≢true is)

both_hold : (a b : Bool) → a ≡ true → b ≡ true → (a && b) ≡ true
both_hold true b is is' = is'
both_hold false b is is' = is

-- an unread block has no symbols
pub unread_blank : (block : List ℕ) → is_unread_block block ≡ true → is_blank_block block ≡ true
unread_blank [] is = refl
unread_blank (byte ∷ rest) is =
    let parts = both_true (byte == 0) (is_unread_block rest) is in
    elim (eqb_tells byte 0) [
      | inl zeros ↦
          both_hold (byte % 64 == 0) (is_blank_block rest) (ap (λ b. b % 64 == 0) zeros.1)
          (unread_blank rest parts.1)
      | inr other ↦ absurd (false≢true (sym other.0 ∙ parts.0))
    ]

zero_symbol : (block : List ℕ) (j : ℕ) → is_blank_block block ≡ true → get_or (symbols_of block) j 0 ≡ 0
zero_symbol block j is =
    let symbols : List ℕ = symbols_of block in
    elim (leb_tells (length symbols) j) [
      | inl past ↦ get_or-eq_default symbols 0 past.1
      | inr within ↦
          let test = AllPass-from_list_all (λ (symbol : ℕ). symbol == 0) symbols is j 0 within.1 in
          elim (eqb_tells (get_or symbols j 0) 0) [
            | inl same ↦ same.1
            | inr other ↦ absurd (false≢true (sym other.0 ∙ test))
          ]
    ]

symbol_get : (bytes : List ℕ) (p : ℕ) → get_or (symbols_of bytes) p 0 ≡ get_or bytes p 0 % 64
symbol_get [] p = refl
symbol_get (byte ∷ bytes) zero = refl
symbol_get (byte ∷ bytes) (suc p) = symbol_get bytes p

-- a symbol of a block, as a symbol of its program
pub in_block : (program : List ℕ) (b j : ℕ) → j < 96
    → get_or (symbols_of (block_at program b)) j 0 ≡ get_or (symbols_of program) (96 * b + j) 0
in_block program b j lt =
    symbol_get (block_at program b) j
    ∙ ap (λ byte. byte % 64) (get_or-take (96 * b + 96 - 96 * b) (drop (96 * b) program) j 0
    (omega (arith, lt))
    ∙ get_or-drop (96 * b) program j 0)
    ∙ sym (symbol_get program (96 * b + j))

-- if all blocks under a word are unread, each is
empty_under : (program : List ℕ) (n b : ℕ) → list_all is_unread_block (blocks_under program n) ≡ true
    → n / 4 ≤ b → b ≤ (n + 7) / 4
    → is_unread_block (block_at program b) ≡ true
empty_under program n b all low high =
    let count : ℕ = (n + 7) / 4 - n / 4 + 1 in
    let blocks : List (List ℕ) = map (block_at program) (range_with_len (n / 4) count) in
    let k : ℕ = b - n / 4 in
    let lt : k < count = omega (arith, low, high) in
    let here : get_or blocks k [] ≡ block_at program b =
    get_or-map-range_with_len (block_at program) (n / 4) count k b [] lt (omega (arith, low)) in
    ap is_unread_block (sym here)
    ∙ AllPass-from_list_all is_unread_block blocks all k []
    (omega (arith, lt, length-map-range_with_len (block_at program) (n / 4) count))

-- the blocks under a word are without symbols
abbrev pub AreBlank : List ℕ → ℕ → Type 0
AreBlank program n = (b : ℕ) → n / 4 ≤ b → b ≤ (n + 7) / 4 → is_blank_block (block_at program b) ≡ true

no_symbol : (program : List ℕ) (n i : ℕ) → AreBlank program n → i < 24
    → get_or (symbols_of program) (place n i) 0 ≡ 0
no_symbol program n i all lt =
    let p : ℕ = place n i in
    let b : ℕ = p / 96 in
    let j : ℕ = p % 96 in
    let small = swapped-lt i lt in
    let at : 96 * b + j ≡ p = omega arith in
    ap (λ q. get_or (symbols_of program) q 0) (sym at) ∙ sym (in_block program b j (omega arith))
    ∙ zero_symbol (block_at program b) j (all b (omega (arith, small)) (omega (arith, small)))

pub blank_word : (program : List ℕ) (n : ℕ) → AreBlank program n
    → word_of (symbols_of program) n ≡ replicate 24 0
unfolding word_of
blank_word program n all =
    let symbols : List ℕ = symbols_of program in
    let size = length-map-range_with_len (λ i. get_or symbols (place n i) 0) 0 24 in
    ext_get_or 0 (map (λ i. get_or symbols (place n i) 0) (range_with_len 0 24)) (replicate 24 0) size
    (λ i lt.
    let within : i < 24 = omega (arith, lt, size) in
    get_or-map-range_with_len (λ k. get_or symbols (place n k) 0) 0 24 i i 0 within (omega arith)
    ∙ no_symbol program n i all within
    ∙ sym (get_or-replicate 24 i 0 0 within))

pub unread_zero : (program : List ℕ) (n : ℕ) → (reading_at program n).coverage ≡ Unread
    → word_of (symbols_of program) n ≡ replicate 24 0
unread_zero program n is =
    let blocks : List (List ℕ) = blocks_under program n in
    let all =
    unread_all (list_all is_unread_block blocks) (list_any is_unread_block blocks)
    (sym (reading-coverage program n) ∙ is) in
    blank_word program n
    (λ b low high. unread_blank (block_at program b) (empty_under program n b all low high))

-- the same, from the marks of two or three blocks
pub blank_by_blocks : (program : List ℕ) (n : ℕ) → is_blank_block (block_at program (n / 4)) ≡ true
    → is_blank_block (block_at program (n / 4 + 1)) ≡ true
    → (n % 4 ≢ 0 → is_blank_block (block_at program (n / 4 + 2)) ≡ true)
    → word_of (symbols_of program) n ≡ replicate 24 0
blank_by_blocks program n first second third =
    let blank : ℕ → Bool = λ (b : ℕ). is_blank_block (block_at program b) in
    blank_word program n (λ b low high.
    elim (cases_eq b (n / 4)) [
      | inl is ↦ ap blank is ∙ first
      | inr other ↦
          elim (cases_eq b (n / 4 + 1)) [
            | inl is ↦ ap blank is ∙ second
            | inr later ↦
                let last : b ≡ n / 4 + 2 = omega (arith, low, high, other, later) in
                ap blank last ∙ third (λ whole. omega (arith, low, high, other, later, whole))
          ]
    ])

-- the only codeword near a word of zeros is the idle pack
idle_alone : (codeword : List ℕ) → IsWord (replicate 24 0) → Reads (replicate 24 0) codeword
    → codeword ≡ replicate 24 0
idle_alone codeword word reads =
    let zeros : List ℕ = replicate 24 0 in
    only_one_near zeros codeword zeros word reads
    ((idle_near zeros zeros 0 refl (sym (differences_self zeros)) (omega arith)).0)

-- if nothing was read, the only codeword near the word is the idle pack
pub idle_where_unread : (program : List ℕ) (n : ℕ) (codeword : List ℕ)
    → Reads ((reading_at program n).word) codeword → (reading_at program n).coverage ≡ Unread
    → codeword ≡ replicate 24 0
idle_where_unread program n codeword reads unread =
    let zeros = reading-word program n ∙ unread_zero program n unread in
    idle_alone codeword (subst IsWord zeros (is_word program n)) (subst (λ w. Reads w codeword) zeros reads)
