-- The numbers in all inputs of a player are in their ranges, and so is its standing.
use Rattle.std.proofs.Common.{◌≡◌, ℕ, zero, suc, ◌+◌, ◌*◌, ◌/◌, ◌%◌, ◌<◌, ◌≤◌, List, [], ◌∷◌, ◌++◌, length, get_or, map, drop, ap, ◌∙◌, arith, Some, None, inl, inr}
use Rattle.std.specs.Prelude.{Option}
use Rattle.std.specs.List.{AllByRecursion, flat_map, range_with_len}
use Rattle.std.proofs.lemmas.Bool.Decides.{leb_tells}
use Rattle.std.proofs.lemmas.List.{get_or-drop, get_or-take}
use Rattle.std.proofs.lemmas.List.Elements.{All-get_or}
use Rattle.std.proofs.lemmas.List.FromFn.{get_or-map-range_with_len}
use Rattle.std.proofs.Math.ListN.{get_or-eq_default}
use Rattle.raw_subcode.specs.Channels.{symbols_of}
use Rattle.raw_subcode.specs.declared.form.Form.TheVariants.{Raw}
use Rattle.rw_code.specs.Codeword.{IsCodeword, IsWord}
use Rattle.rw_code.specs.Finding.{IsFinding, finding}
use Rattle.rw_code.proofs.Finding.{finding_is}
use Rattle.rw_interleave.specs.Stream.{form_word, word_count}
use Rattle.cdg_instructions.specs.Instruction.{Means, IsTile, IsScroll, content_of, table_colour}
use Rattle.cdg_instructions.specs.Meaning.{meaning}
use Rattle.cdg_instructions.specs.declared.instr.Instr.{Instr}
use Rattle.cdg_instructions.specs.declared.instr.Instr.TheVariants.{Idle, Foreign, Unknown, MemoryPreset, BorderPreset, SetTile, XorTile, ScrollPreset, ScrollCopy, Transparency, ColoursLow, ColoursHigh}
use Rattle.cdg_instructions.proofs.Meaning.{meaning_means}
use Rattle.cdg_screen.specs.Standing.{blank, standing_after}
use Rattle.cdg_checkpoint.specs.Checkpoint.{IsSoundStanding}
use Rattle.stream_stages.proofs.Slots.{symbols_small}
use Rattle.cdg_checkpoint.proofs.GoneOn.{gathered_word}
use Rattle.cdg_checkpoint.proofs.Meant.{IsSmall, sound_after}
use Rattle.live_player.specs.Lives.{Given, blocks_in, instruction_of, instructions_in, instructions_of, meant_by, stream_words, words_with}
use Rattle.live_player.specs.Lives.Given.{Drawn, Fed}

-- ---- an instruction

small_word : (word : List ℕ) → IsCodeword word → (k : ℕ) → get_or word k 0 < 64
small_word word is k = elim (leb_tells (length word) k) [
  | inl past ↦ let none : get_or word k 0 ≡ 0 = get_or-eq_default word 0 past.1 in omega (arith, none)
  | inr before ↦ All-get_or (λ symbol. symbol < 64) word k 0 (omega (arith, before.1)) is.is_word.symbols
]

scroll_small : (word : List ℕ) (colour across h down v : ℕ) → IsScroll word colour across h down v
    → (colour < 16) × (h ≤ 5) × (v ≤ 11)
scroll_small word colour across h down v s =
    (omega (arith, s.colour_is), omega (arith, s.h_is), omega (arith, s.v_is))

tile_small : (word : List ℕ) (colour0 colour1 row column : ℕ) (lines : List ℕ)
    → IsTile word colour0 colour1 row column lines
    → (colour0 < 16) × (colour1 < 16)
tile_small word colour0 colour1 row column lines t =
    (omega (arith, t.colour0_is), omega (arith, t.colour1_is))

table_small : (word colours : List ℕ) → ((k : ℕ) → get_or word k 0 < 64)
    → colours ≡ map (table_colour word) (range_with_len 0 8) → (k : ℕ) → k < 8
    → get_or colours k 0 < 4096
table_small word colours small e k lt =
    let entry : get_or colours k 0 ≡ table_colour word k =
    ap (λ (l : List ℕ). get_or l k 0) e
    ∙ get_or-map-range_with_len (table_colour word) 0 8 k k 0 lt (omega arith) in
    omega (arith, entry, small (4 + 2 * k), small (4 + (2 * k + 1)))

levels_small : (word levels : List ℕ) → ((k : ℕ) → get_or word k 0 < 64) → levels ≡ content_of word → (k : ℕ)
    → k < 16
    → get_or levels k 0 < 64
levels_small word levels small e k lt =
    let entry : get_or levels k 0 ≡ get_or word (4 + k) 0 =
    ap (λ (l : List ℕ). get_or l k 0) e ∙ get_or-take 16 (drop 4 word) k 0 lt ∙ get_or-drop 4 word k 0 in
    omega (arith, entry, small (4 + k))

means_small : (word : List ℕ) (instr : Instr) → ((k : ℕ) → get_or word k 0 < 64) → Means word instr
    → IsSmall instr
means_small word Idle small m = tt
means_small word Foreign small m = tt
means_small word Unknown small m = tt
means_small word (MemoryPreset colour repeat) small m = omega (arith, m.1)
means_small word (BorderPreset colour) small m = omega (arith, m.1)
means_small word (SetTile colour0 colour1 row column lines) small m =
    tile_small word colour0 colour1 row column lines m.1
means_small word (XorTile colour0 colour1 row column lines) small m =
    tile_small word colour0 colour1 row column lines m.1
means_small word (ScrollPreset colour across h down v) small m = scroll_small word colour across h down v m.1
means_small word (ScrollCopy colour across h down v) small m = scroll_small word colour across h down v m.1
means_small word (Transparency levels) small m = levels_small word levels small m.1
means_small word (ColoursLow colours) small m = table_small word colours small m.1
means_small word (ColoursHigh colours) small m = table_small word colours small m.1

meaning_small : (word : List ℕ) → ((k : ℕ) → get_or word k 0 < 64) → IsSmall (meaning word)
meaning_small word small = means_small word (meaning word) small (meaning_means word)

low_small : (pack : List ℕ) (k : ℕ) → get_or (map (λ byte. byte % 64) pack) k 0 < 64
low_small [] k = omega arith
low_small (x ∷ pack) zero = omega arith
low_small (x ∷ pack) (suc k) = low_small pack k

pack_small : (pack : List ℕ) → IsSmall (instruction_of pack)
unfolding instruction_of
pack_small pack = meaning_small (map (λ byte. byte % 64) pack) (low_small pack)

-- ---- the instructions of words

one_more : (word : List ℕ) (found : Option (List ℕ)) (rest : List (Option (List ℕ))) → IsFinding word found
    → AllByRecursion IsSmall (meant_by rest)
    → AllByRecursion IsSmall (meant_by (found ∷ rest))
one_more word None rest is small = small
one_more word (Some codeword) rest is small =
    (meaning_small codeword (small_word codeword is.is_codeword), small)

words_small : (words : List (List ℕ)) → AllByRecursion IsWord words
    → AllByRecursion IsSmall (instructions_of words)
words_small [] all = tt
words_small (word ∷ words) all =
    one_more word (finding word) (map finding words) (finding_is word all.0) (words_small words all.1)

all_drop : {A : Type 0} (P : A → Type 0) (n : ℕ) (xs : List A) → AllByRecursion P xs
    → AllByRecursion P (drop n xs)
all_drop P zero xs all = all
all_drop P (suc n) [] all = tt
all_drop P (suc n) (x ∷ xs) all = all_drop P n xs all.1

all_range : (P : List ℕ → Type 0) (f : ℕ → List ℕ) (first count : ℕ) → ((n : ℕ) → P (f n))
    → AllByRecursion P (map f (range_with_len first count))
all_range P f first zero each = tt
all_range P f first (suc count) each = (each first, all_range P f (first + 1) count each)

stream_small : (lead_in : ℕ) (blocks : List (List ℕ))
    → AllByRecursion IsWord (stream_words Raw lead_in blocks)
unfolding stream_words
stream_small lead_in blocks =
    let symbols : List ℕ = flat_map symbols_of (drop lead_in blocks) in
    all_range IsWord (form_word Raw symbols) 0 (word_count Raw (length symbols / 96))
    (λ n. gathered_word symbols n (symbols_small (drop lead_in blocks)))

-- ---- all inputs

all_after : (xs ys : List Instr) → AllByRecursion IsSmall xs → AllByRecursion IsSmall ys
    → AllByRecursion IsSmall (xs ++ ys)
all_after [] ys a b = b
all_after (x ∷ xs) ys a b = (a.0, all_after xs ys a.1 b)

all_small : (lead_in : ℕ) (given : List Given) → AllByRecursion IsSmall (instructions_in Raw lead_in given)
all_small lead_in [] = tt
all_small lead_in (Fed block ∷ before) =
    all_after (instructions_in Raw lead_in before)
    (instructions_of (words_with Raw lead_in (blocks_in before) block)) (all_small lead_in before)
    (words_small (words_with Raw lead_in (blocks_in before) block)
    (all_drop IsWord (length (stream_words Raw lead_in (blocks_in before)))
    (stream_words Raw lead_in (blocks_in before ++ block ∷ []))
    (stream_small lead_in (blocks_in before ++ block ∷ []))))
all_small lead_in (Drawn pack ∷ before) =
    all_after (instructions_in Raw lead_in before) (instruction_of pack ∷ []) (all_small lead_in before)
    (pack_small pack, tt)

pub stands_soundly : (lead_in : ℕ) (given : List Given)
    → IsSoundStanding (standing_after blank (instructions_in Raw lead_in given))
stands_soundly lead_in given = sound_after (instructions_in Raw lead_in given) (all_small lead_in given)
