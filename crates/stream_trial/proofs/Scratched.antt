-- The words of an authored stream after scratches.
use Rattle.std.proofs.Common.{◌≡◌, ℕ, ◌+◌, ◌-◌, ◌*◌, ◌/◌, ◌%◌, ◌<◌, List, [], ◌∷◌, ◌++◌, length, map, flat_map, replicate, drop, get_or, All, sym, ap, subst, ◌∙◌, Some, arith, mod-lt, lit<}
use Rattle.std.specs.declared.option.Option.{Option}
use Rattle.std.proofs.lemmas.List.{append-nil, length-map}
use Rattle.std.proofs.lemmas.List.Elements.{All-nil, All-append, All-map, All-get_or}
use Rattle.std.proofs.lemmas.List.FromFn.{length-map-range_with_len}
use Rattle.rw_code.specs.Codeword.{IsCodeword, IsNear, Reads, differences}
use Rattle.rw_interleave.specs.Interleave.{word_of, place, whole_packs, Carries}
use Rattle.raw_subcode.specs.Channels.{symbols_of, blocks_of, program_symbols}
use Rattle.raw_subcode.specs.declared.form.Form.TheVariants.{Raw}
use Rattle.rw_interleave.specs.Stream.{IsDamaged, IsRecovered, all_packs}
use Rattle.rw_interleave.proofs.Recovery.{differences-turned, form_words, small_get, OneIsNear}
use Rattle.cue_sheet.specs.CueSheet.{CueSheet}
use Rattle.cdg_workload.specs.Scratches.{scratched}
use Rattle.picture_script.specs.Script.{Drawing}
use Rattle.toc_model.specs.Places.{program_blocks}
use Rattle.subcode_author.specs.Authored.{IsAuthored, disc_of}
use Rattle.stream_trial.proofs.Pixels.{every}

pub same_size : (lead_in seed : ℕ) (bytes : List ℕ)
    → map (λ byte. byte / 64) (scratched lead_in seed bytes) ≡ map (λ byte. byte / 64) bytes
    → length (scratched lead_in seed bytes) ≡ length bytes
same_size lead_in seed bytes same = sym (length-map (scratched lead_in seed bytes) (λ byte. byte / 64))
    ∙ ap length same ∙ length-map bytes (λ byte. byte / 64)

-- symbols are below 64
symbols_small : (blocks : List (List ℕ)) → All (λ symbol. symbol < 64) (flat_map symbols_of blocks)
symbols_small [] = All-nil (λ symbol. symbol < 64)
symbols_small (block ∷ blocks) =
    All-append (λ symbol. symbol < 64) (symbols_of block) (flat_map symbols_of blocks)
    (All-map (λ symbol. symbol < 64) (λ byte. byte % 64) block
    (every (λ byte. byte % 64 < 64) block (λ byte. mod-lt byte (lit< tt))))
    (symbols_small blocks)

pub program_small : (bytes : List ℕ) (lead_in : ℕ)
    → All (λ symbol. symbol < 64) (program_symbols Raw bytes lead_in)
program_small bytes lead_in = symbols_small (drop lead_in (blocks_of Raw bytes))

-- the facts about scratches
abbrev pub ScratchesAreDamage : Type 0
ScratchesAreDamage = (lead_in seed blocks : ℕ) (bytes : List ℕ) → length bytes ≡ 96 * blocks
    → IsDamaged (program_symbols Raw bytes lead_in) Raw
    (program_symbols Raw (scratched lead_in seed bytes) lead_in)

pub stream_damaged : ScratchesAreDamage
    → (sheet : CueSheet) (script : List Drawing) (lead_in audio seed : ℕ) (bytes : List ℕ)
    (packs : List (List ℕ)) → IsAuthored (disc_of sheet script lead_in audio) bytes packs
    → IsDamaged (program_symbols Raw bytes lead_in) Raw
    (program_symbols Raw (scratched lead_in seed bytes) lead_in)
stream_damaged law sheet script lead_in audio seed bytes packs is =
    law lead_in seed (lead_in + program_blocks sheet audio) bytes is.framing.size

-- the facts about recovery
abbrev pub PacksAreRecovered : Type 0
PacksAreRecovered = (blocks : ℕ) (symbols others : List ℕ) (packs : List (List ℕ))
    (found : List (Option (List ℕ))) → Carries blocks symbols packs → All (λ symbol. symbol < 64) others
    → IsDamaged symbols Raw others → IsRecovered Raw others found
    → found ≡ map (λ pack. Some pack) (all_packs Raw blocks packs)

pub no_more_packs : (blocks : ℕ) (packs : List (List ℕ)) → length packs ≡ whole_packs blocks
    → all_packs Raw blocks packs ≡ packs
no_more_packs blocks packs count =
    let none : whole_packs blocks - length packs ≡ 0 = omega (arith, count) in
    ap (λ (n : ℕ). packs ++ replicate n (replicate 24 0)) none ∙ append-nil packs

pub packs_found : PacksAreRecovered → ScratchesAreDamage
    → (sheet : CueSheet) (script : List Drawing) (lead_in audio seed : ℕ) (bytes : List ℕ)
    (packs : List (List ℕ)) (found : List (Option (List ℕ)))
    → IsAuthored (disc_of sheet script lead_in audio) bytes packs
    → IsRecovered Raw (program_symbols Raw (scratched lead_in seed bytes) lead_in) found
    → found ≡ map (λ pack. Some pack) packs
packs_found law damage sheet script lead_in audio seed bytes packs found is recovered =
    let blocks = program_blocks sheet audio in
    law blocks (program_symbols Raw bytes lead_in)
    (program_symbols Raw (scratched lead_in seed bytes) lead_in) packs found is.carries
    (program_small (scratched lead_in seed bytes) lead_in)
    (stream_damaged damage sheet script lead_in audio seed bytes packs is) recovered
    ∙ ap (map (λ pack. Some pack)) (no_more_packs blocks packs is.carries.count)

-- ---- Words.

length-word : (symbols : List ℕ) (n : ℕ) → length (word_of symbols n) ≡ 24
unfolding word_of
length-word symbols n = length-map-range_with_len (λ i. get_or symbols (place n i) 0) 0 24

-- the words of damaged symbols of a stream of packs
module _ (blocks : ℕ) (symbols others : List ℕ) (packs : List (List ℕ))
    (carries : Carries blocks symbols packs) (small : All (λ symbol. symbol < 64) others)
    (damaged : IsDamaged symbols Raw others) (n : ℕ) (lt : n < whole_packs blocks) where
  turned : differences (word_of others n) (word_of symbols n) ≡ differences (word_of symbols n)
      (word_of others n)
  turned = differences-turned (word_of others n) (word_of symbols n) (length-word others n
      ∙ sym (length-word symbols n))

  same_blocks : length symbols / 96 ≡ blocks
  same_blocks = omega (arith, carries.size)

  pub word_reads : Reads (word_of others n) (get_or packs n [])
  word_reads =
      let near : IsNear (word_of symbols n) (word_of others n) =
      damaged.words n (subst (λ b. n < whole_packs b) (sym same_blocks) lt) in
      let word_near : IsNear (word_of others n) (word_of symbols n) = omega (arith, near, turned) in
      record {
        is_codeword = All-get_or IsCodeword packs n [] (omega (arith, lt, carries.count)) carries.codewords;
        is_near = subst (λ (w : List ℕ). IsNear (word_of others n) w) (carries.words n lt) word_near;
      }

  pub only_pack : OneIsNear → (word : List ℕ) → Reads (word_of others n) word → word ≡ get_or packs n []
  only_pack one word reads =
      one (word_of others n) word (get_or packs n []) (form_words Raw others n (small_get others small)) reads
      word_reads

  pub wrong_symbols : OneIsNear → (word : List ℕ) → Reads (word_of others n) word
      → differences (word_of others n) word ≡ differences (word_of symbols n) (word_of others n)
  wrong_symbols one word reads = ap (differences (word_of others n)) (only_pack one word reads
      ∙ sym (carries.words n lt)) ∙ turned
