-- Every pack is recovered from readings in which each word has at most two wrong symbols.
use Rattle.std.proofs.Common.{◌≡◌, ◌≢◌, ◌⊎◌, ℕ, ◌+◌, ◌-◌, ◌*◌, ◌/◌, ◌<◌, ◌≤◌, true, List, [], ◌∷◌, ◌++◌, zero, suc, length, get_or, map, drop, replicate, refl, sym, ap, ◌∙◌, subst, inl, inr, arith, Some, None}
use Rattle.std.specs.Prelude.{All}
use Rattle.std.specs.List.{concat}
use Rattle.std.specs.declared.option.Option.{Option}
use Rattle.std.proofs.lemmas.Bool.{false≢true}
use Rattle.std.proofs.lemmas.List.{ext_get_or, get_or-map, length-map}
use Rattle.bit_lists.specs.Counting.{parts}
use Rattle.raw_subcode.specs.Channels.{program_symbols, symbols_of}
use Rattle.raw_subcode.specs.declared.form.Form.TheVariants.{Raw}
use Rattle.rw_code.specs.Codeword.{IsCodeword, IsNear, Reads, differences}
use Rattle.rw_interleave.specs.Interleave.{word_of, whole_packs}
use Rattle.rw_interleave.specs.Stream.{IsDamaged}
use Rattle.rw_interleave.proofs.Recovery.{differences-turned}
use Rattle.rw_merge.specs.Readings.{IsDamagedTwice}
use Rattle.rw_merge.proofs.Slots.{program_is}
use Rattle.rw_mend.specs.Choice.{AreAgreed, IsMending, IsMendedBy, candidate_of_reading}
use Rattle.rw_mend.specs.Drops.{IsDropped}
use Rattle.rw_mend.specs.Laws.{AreDamagedReadings}
use Rattle.rw_mend.specs.Many.{AreAllMendedInto, words_in_each}
use Rattle.rw_mend.specs.Streams.{AreMended, IsMendedInto, mended_bytes, mended_text}
use Rattle.rw_mend.specs.Candidates.{distance_of, is_idle_pack, is_idle_candidate, is_quiet_candidate, candidate_of}
use Rattle.rw_mend.specs.Words.{given_at, program_of, reading_at}
use Rattle.rw_mend.specs.declared.streams.MendCounts.{MendCounts}
use Rattle.rw_mend.specs.declared.tallies.Tallies.{Tallies}
use Rattle.rw_mend.specs.declared.choice.Mended.{Mended}
use Rattle.rw_mend.specs.declared.choice.WordSource.{WordSource}
use Rattle.rw_mend.specs.declared.choice.WordSource.TheVariants.{Reading, Agreed}
use Rattle.rw_mend.specs.declared.candidates.Coverage.{Coverage}
use Rattle.rw_mend.specs.declared.candidates.Coverage.TheVariants.{Whole, Partly, Unread}
use Rattle.rw_mend.specs.declared.candidates.WordReading.{WordReading}
use Rattle.rw_mend.specs.declared.candidates.Candidate.{Candidate}
use Rattle.rw_mend.specs.declared.candidates.Candidate.TheVariants.{Silent, Near}
use Rattle.rw_mend.proofs.Alone.{mended_alone, one_near}
use Rattle.rw_mend.proofs.Clean.{pack_of}
use Rattle.rw_mend.proofs.Givens.{is_word, reading-word}
use Rattle.rw_mend.proofs.Heaps.{part_whole, parts_length}
use Rattle.rw_mend.proofs.Decoding.{near_is, silent_is}
use Rattle.rw_mend.proofs.Kept.{doubtful_are, flat_joined, graphics_are, idle_is, said_kept}
use Rattle.rw_mend.proofs.Once.{best_counts}
use Rattle.rw_mend.proofs.Unread.{idle_where_unread}

-- The candidate is this codeword; or it is `Silent`, and the codeword is the idle pack.
abbrev pub IsOrIdle : Candidate → List ℕ → Type 0
IsOrIdle candidate codeword = ((distance : ℕ) × (candidate ≡ Near codeword distance))
    ⊎ ((candidate ≡ Silent) × (codeword ≡ replicate 24 0))

pub unread_or_not : (coverage : Coverage) → (coverage ≡ Unread) ⊎ (coverage ≢ Unread)
unread_or_not Whole = inr (λ e. (cc))
unread_or_not Partly = inr (λ e. (cc))
unread_or_not Unread = inl refl

-- the candidate of a word near a codeword
pub near_given : (program : List ℕ) (n : ℕ) (codeword : List ℕ)
    → Reads (word_of (symbols_of program) n) codeword
    → IsOrIdle (candidate_of (reading_at program n)) codeword
near_given program n codeword reads =
    let reading : WordReading = reading_at program n in
    let there : Reads reading.word codeword =
    subst (λ w. Reads w codeword) (sym (reading-word program n)) reads in
    elim (unread_or_not reading.coverage) [
      | inl unread ↦
          inr (sym (silent_is reading unread), idle_where_unread program n codeword there unread)
      | inr read ↦
          let distance : ℕ = distance_of reading.coverage reading.word codeword in
          inl (distance, sym (near_is reading codeword distance read (is_word program n) there refl))
    ]

-- ---- The candidates of a word.

other_codeword : (candidate : Candidate) (codeword other : List ℕ) (more : ℕ) → IsOrIdle candidate codeword
    → candidate ≡ Near other more → other ≡ codeword
other_codeword candidate codeword other more (inl (distance, is)) near =
    one_near other codeword more distance (sym near ∙ is)
other_codeword candidate codeword other more (inr (silent, idle)) near = cc

not_lost : (one other : Candidate) (codeword another : List ℕ) → IsOrIdle one codeword
    → ¬ AreAgreed one other another
not_lost one other codeword another (inl (distance, is)) agreed =
    subst (λ v. AreAgreed v other another) is agreed
not_lost one other codeword another (inr (silent, idle)) agreed =
    subst (λ v. AreAgreed v other another) silent agreed

mended_idle : (candidates : List Candidate) (codeword : List ℕ) (source : WordSource) (found : List ℕ)
    → ((r : ℕ) → r < length candidates → IsOrIdle (candidate_of_reading candidates r) codeword)
    → IsMendedBy source candidates found → found ≡ codeword
mended_idle candidates codeword (Reading k) found each by =
    let near = best_counts candidates k by.0 in
    sym (pack_of (candidate_of_reading candidates k) near.0 found near.1 near.2 by.1)
    ∙ other_codeword (candidate_of_reading candidates k) codeword near.0 near.1 (each k by.0.within) near.2
mended_idle candidates codeword Agreed found each by =
    let pair = by.1.agreed in
    absurd
    (not_lost (candidate_of_reading candidates by.1.one) (candidate_of_reading candidates by.1.other) codeword
    found
    (each by.1.one (omega (arith, pair.before, pair.within))) pair.agreed)

mended_same : (candidates : List Candidate) (codeword : List ℕ) (found : Option Mended)
    → 0 < length candidates → IsOrIdle (candidate_of_reading candidates 0) codeword
    → ((r : ℕ) → r < length candidates → IsOrIdle (candidate_of_reading candidates r) codeword)
    → IsMending candidates found → mended_bytes found ≡ codeword
mended_same candidates codeword found some (inl (distance, is)) each mended =
    mended_alone candidates codeword 0 distance found some is
    (λ s other more lt near.
    other_codeword (candidate_of_reading candidates s) codeword other more (each s lt) near)
    mended
mended_same candidates codeword None some (inr (silent, idle)) each mended = sym idle
mended_same candidates codeword (Some mended) some (inr (silent, idle)) each by =
    mended_idle candidates codeword mended.source mended.pack each by

-- ---- Whole streams.

-- each reading has the pack of each word, or no candidate if the pack is idle
abbrev pub EachGives : ℕ → List (List ℕ) → List (List ℕ) → Type 0
EachGives words programs packs = (n r : ℕ) → n < words → r < length programs
    → IsOrIdle (given_at programs r n) (get_or packs n [])

idle_pack_of : (candidate : Candidate) (codeword : List ℕ) → IsOrIdle candidate codeword
    → is_idle_candidate candidate ≡ true
    → is_idle_pack codeword ≡ true
idle_pack_of candidate codeword (inl (distance, is)) idle = ap is_idle_candidate (sym is) ∙ idle
idle_pack_of candidate codeword (inr (silent, zeros)) idle =
    absurd (false≢true (ap is_idle_candidate (sym silent) ∙ idle))

quiet_pack_of : (candidate : Candidate) (codeword : List ℕ) → IsOrIdle candidate codeword
    → is_quiet_candidate candidate ≡ true
    → is_idle_pack codeword ≡ true
quiet_pack_of candidate codeword (inl (distance, is)) quiet = ap is_quiet_candidate (sym is) ∙ quiet
quiet_pack_of candidate codeword (inr (silent, zeros)) quiet = ap is_idle_pack zeros ∙ idle_is

none_dropped : (words : ℕ) (programs packs : List (List ℕ)) (r n : ℕ) → EachGives words programs packs
    → n < words → r < length programs → ¬ IsDropped words programs r n
none_dropped words programs packs r n each here within (inl lacking) =
    let m : ℕ = lacking.lacks.word in
    let lt : m < words = lacking.lacks.within in
    let misses = lacking.lacks.misses in
    let s : ℕ = misses.graphics.reading in
    let busy = graphics_are (given_at programs s m) misses.graphics.graphics in
    let same : busy.0 ≡ get_or packs m [] =
    other_codeword (given_at programs s m) (get_or packs m []) busy.0 busy.1
    (each m s lt misses.graphics.within) busy.2 in
    false≢true
    (sym busy.3 ∙ ap is_idle_pack same
    ∙ idle_pack_of (given_at programs r m) (get_or packs m []) (each m r lt within) misses.idle)
none_dropped words programs packs r n each here within (inr doubted) =
    let odd = doubtful_are (given_at programs r n) doubted.doubtful in
    let same : odd.0 ≡ get_or packs n [] =
    other_codeword (given_at programs r n) (get_or packs n []) odd.0 odd.1 (each n r here within) odd.2 in
    false≢true
    (sym odd.3 ∙ ap is_idle_pack same
    ∙ quiet_pack_of (given_at programs doubted.reading n) (get_or packs n [])
    (each n doubted.reading here doubted.within) doubted.quiet)

each_text : (words : ℕ) (programs packs : List (List ℕ)) (said : List (List Candidate))
    (found : List (Option Mended)) → 0 < length programs → length packs ≡ words
    → EachGives words programs packs → AreMended words programs said found → mended_text found ≡ concat packs
each_text words programs packs said found some count each mended =
    let same : map mended_bytes found ≡ packs =
    ext_get_or [] (map mended_bytes found) packs
    (length-map found mended_bytes ∙ mended.count ∙ sym count) (λ n lt.
    let within : n < words = omega (arith, lt, length-map found mended_bytes, mended.count) in
    let candidates : List Candidate = get_or said n [] in
    let are = mended.candidates n within in
    let pack : List ℕ = get_or packs n [] in
    let all : (r : ℕ) → r < length candidates → IsOrIdle (candidate_of_reading candidates r) pack =
    λ r inside.
    let reading : r < length programs = omega (arith, inside, are.count) in
    subst (λ v. IsOrIdle v pack)
    (sym (said_kept words programs n r (candidate_of_reading candidates r) (are.each r reading)
    (none_dropped words programs packs r n each within reading)))
    (each n r within reading) in
    let first : 0 < length candidates = omega (arith, some, are.count) in
    get_or-map mended_bytes found n None [] (omega (arith, within, mended.count))
    ∙ mended_same candidates pack (get_or found n None) first (all 0 first) all (mended.each n within)) in
    flat_joined mended_bytes found ∙ ap concat same

-- ---- Damage.

-- the symbols of the program of a reading
pub program_text : (lead_in blocks : ℕ) (bytes : List ℕ) → length bytes ≡ (lead_in + blocks) * 96
    → program_symbols Raw bytes lead_in ≡ symbols_of (program_of lead_in bytes)
program_text lead_in blocks bytes size =
    program_is lead_in (lead_in + blocks) bytes size ∙ ap (λ m. symbols_of (drop m bytes)) (omega arith)

damaged_reads : (lead_in blocks n : ℕ) (packs : List (List ℕ)) (symbols bytes : List ℕ)
    → length bytes ≡ (lead_in + blocks) * 96 → n < whole_packs blocks
    → word_of symbols n ≡ get_or packs n [] → IsCodeword (get_or packs n [])
    → length symbols ≡ 96 * blocks → IsDamaged symbols Raw (program_symbols Raw bytes lead_in)
    → Reads (word_of (symbols_of (program_of lead_in bytes)) n) (get_or packs n [])
damaged_reads lead_in blocks n packs symbols bytes size lt word codeword symbols_size damage =
    let pack : List ℕ = get_or packs n [] in
    let program : List ℕ = program_of lead_in bytes in
    let wrong : List ℕ = word_of (symbols_of program) n in
    let wrong_size : length wrong ≡ 24 =
    ap length (sym (reading-word program n)) ∙ (is_word program n).size in
    let many : length symbols / 96 ≡ blocks = omega (arith, symbols_size) in
    let there : IsNear (word_of symbols n) wrong =
    subst (λ s. IsNear (word_of symbols n) (word_of s n)) (program_text lead_in blocks bytes size)
    (damage.words n (omega (arith, lt, many))) in
    let few : differences pack wrong ≤ 2 = subst (λ w. IsNear w wrong) word there in
    record {
      is_codeword = codeword;
      is_near =
          omega (arith, few, differences-turned pack wrong (codeword.is_word.size ∙ sym wrong_size));
    }

all_give : (lead_in blocks : ℕ) (packs readings : List (List ℕ))
    → AreDamagedReadings lead_in blocks packs readings
    → EachGives (whole_packs blocks) (map (program_of lead_in) readings) packs
all_give lead_in blocks packs readings is n r lt within =
    let inside : r < length readings = omega (arith, within, length-map readings (program_of lead_in)) in
    let bytes : List ℕ = get_or readings r [] in
    let program : get_or (map (program_of lead_in) readings) r [] ≡ program_of lead_in bytes =
    get_or-map (program_of lead_in) readings r [] [] inside in
    let codeword : IsCodeword (get_or packs n []) =
    is.carries.codewords n [] (omega (arith, lt, is.carries.count)) in
    subst (λ p. IsOrIdle (candidate_of (reading_at p n)) (get_or packs n [])) (sym program)
    (near_given (program_of lead_in bytes) n (get_or packs n [])
    (damaged_reads lead_in blocks n packs is.symbols bytes (is.sizes r [] inside) lt (is.carries.words n lt)
    codeword is.carries.size (is.damage r [] inside)))

pub damaged_text : (lead_in blocks : ℕ) (packs readings : List (List ℕ)) (said : List (List Candidate))
    (found : List (Option Mended)) → AreDamagedReadings lead_in blocks packs readings
    → AreMended (whole_packs blocks) (map (program_of lead_in) readings) said found
    → mended_text found ≡ concat packs
damaged_text lead_in blocks packs readings said found is mended =
    each_text (whole_packs blocks) (map (program_of lead_in) readings) packs said found
    (omega (arith, is.some, length-map readings (program_of lead_in))) is.carries.count
    (all_give lead_in blocks packs readings is) mended

-- ---- The outputs of the calls for them.

pub written : (text packs new old : List ℕ) → text ≡ packs → new ≡ text ++ drop (length text) old
    → new ≡ packs ++ drop (length packs) old
written text packs new old same is = is ∙ ap (λ t. t ++ drop (length t) old) same

pub damaged_two : (lead_in blocks : ℕ) (packs : List (List ℕ)) (first second old new : List ℕ)
    (counts : MendCounts) → AreDamagedReadings lead_in blocks packs (first ∷ second ∷ [])
    → IsMendedInto lead_in first second old new counts
    → new ≡ concat packs ++ drop (length (concat packs)) old
damaged_two lead_in blocks packs first second old new counts is done =
    let readings : List (List ℕ) = first ∷ second ∷ [] in
    let size : length first ≡ (lead_in + blocks) * 96 = is.sizes 0 [] (omega arith) in
    let words : whole_packs (length first / 96 - lead_in) ≡ whole_packs blocks = omega (arith, size) in
    written (mended_text done.found) (concat packs) new old
    (damaged_text lead_in blocks packs readings done.said done.found is
    (subst (λ w. AreMended w (map (program_of lead_in) readings) done.said done.found) words done.mended))
    done.text

pub damaged_many : (count lead_in blocks : ℕ) (packs : List (List ℕ))
    (readings old new old_sources new_sources : List ℕ) (tallies : Tallies)
    → AreDamagedReadings lead_in blocks packs (parts count (length readings / count) readings)
    → AreAllMendedInto count lead_in readings old new old_sources new_sources tallies
    → new ≡ concat packs ++ drop (length (concat packs)) old
damaged_many count lead_in blocks packs readings old new old_sources new_sources tallies is done =
    let each : ℕ = length readings / count in
    let all : List (List ℕ) = parts count each readings in
    let some : 0 < count = omega (arith, is.some, parts_length count each readings) in
    let size : each ≡ (lead_in + blocks) * 96 =
    sym (part_whole count readings 0 some) ∙ is.sizes 0 [] is.some in
    let words : words_in_each count lead_in readings ≡ whole_packs blocks =
    ap (λ n. whole_packs (n / 96 - lead_in)) size ∙ omega arith in
    written (mended_text done.found) (concat packs) new old
    (damaged_text lead_in blocks packs all done.said done.found is
    (subst (λ w. AreMended w (map (program_of lead_in) all) done.said done.found) words done.mended))
    done.text

two_hold : (P : List ℕ → Type 0) (first second : List ℕ) → P first → P second → All P (first ∷ second ∷ [])
two_hold P first second one other zero d lt = one
two_hold P first second one other (suc zero) d lt = other
two_hold P first second one other (suc (suc k)) d lt = absurd (omega (arith, lt))

-- two readings that are damaged as a merge allows
pub damaged_pair : (lead_in blocks : ℕ) (packs : List (List ℕ)) (first second : List ℕ)
    → IsDamagedTwice lead_in blocks packs first second
    → AreDamagedReadings lead_in blocks packs (first ∷ second ∷ [])
damaged_pair lead_in blocks packs first second is = record {
  some = omega arith;
  sizes =
      two_hold (λ bytes. length bytes ≡ (lead_in + blocks) * 96) first second is.readings.first_size
      is.readings.second_size;
  symbols = is.symbols;
  carries = is.carries;
  damage =
      two_hold (λ bytes. IsDamaged is.symbols Raw (program_symbols Raw bytes lead_in)) first second
      is.first_damage is.second_damage;
}
