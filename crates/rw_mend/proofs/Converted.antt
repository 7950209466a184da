-- The candidates of a reading have the packs of its conversion, and so has the result if only this reading counts.
use Rattle.std.proofs.Common.{◌≡◌, ◌==◌, ℕ, zero, suc, ◌-◌, ◌*◌, ◌/◌, ◌%◌, ◌<◌, ◌≤◌, Bool, true, false, List, [], ◌∷◌, ◌++◌, length, get_or, map, drop, refl, sym, ap, ◌∙◌, subst, inl, inr, arith, length-drop, Some, None}
use Rattle.std.specs.Prelude.{count_by, if◌then◌else◌}
use Rattle.std.specs.List.{concat}
use Rattle.std.specs.declared.option.Option.{Option}
use Rattle.std.proofs.lemmas.Bool.{cases_eq, false≢true}
use Rattle.std.proofs.lemmas.List.{ext_get_or, get_or-map, length-map}
use Rattle.std.proofs.lemmas.List.Sums.{get_or-le-sum_by}
use Rattle.std.proofs.lemmas.List.FromFn.{get_or-map-range_with_len, length-map-range_with_len}
use Rattle.bit_lists.specs.Counting.{below, parts}
use Rattle.raw_subcode.specs.Channels.{program_symbols, symbols_of}
use Rattle.raw_subcode.specs.declared.form.Form.TheVariants.{Raw}
use Rattle.rw_code.specs.Codeword.{Reads}
use Rattle.rw_code.specs.Finding.{IsFinding}
use Rattle.rw_interleave.specs.Interleave.{word_of, whole_packs}
use Rattle.rw_interleave.specs.Stream.{IsRecovered}
use Rattle.rw_interleave.specs.Texts.{cdg_bytes, entry_bytes}
use Rattle.rw_merge.proofs.Slots.{program_is}
use Rattle.rw_mend.specs.Choice.{IsMending, IsMendedBy, candidate_of_reading}
use Rattle.rw_mend.specs.Drops.{AreCandidates, IsDropped}
use Rattle.rw_mend.specs.Laws.{CountsAlone, IsAgreedWord, IsCleanBeside, given_text, candidate_bytes}
use Rattle.rw_mend.specs.Many.{AreAllMendedInto, programs_of, words_in_each}
use Rattle.rw_mend.specs.Streams.{AreMended, IsMendedInto, is_mended_by, mended_bytes, mended_text, way_by, way_of, ways_of}
use Rattle.rw_mend.specs.Tallies.{source_byte}
use Rattle.rw_mend.specs.Candidates.{is_idle_pack, is_idle_candidate, candidate_of}
use Rattle.rw_mend.specs.Words.{given_at, program_of, reading_at}
use Rattle.rw_mend.specs.declared.choice.Mended.{Mended}
use Rattle.rw_mend.specs.declared.choice.WordSource.{WordSource}
use Rattle.rw_mend.specs.declared.choice.WordSource.TheVariants.{Reading, Agreed}
use Rattle.rw_mend.specs.declared.streams.MendCounts.{MendCounts}
use Rattle.rw_mend.specs.declared.tallies.Tallies.{Tallies}
use Rattle.rw_mend.specs.declared.ways.Way.TheVariants.{Together}
use Rattle.rw_mend.specs.declared.candidates.WordReading.{WordReading}
use Rattle.rw_mend.specs.declared.candidates.Candidate.{Candidate}
use Rattle.rw_mend.specs.declared.candidates.Candidate.TheVariants.{Silent, Lost, Near}
use Rattle.rw_mend.proofs.Alone.{counted, mended_alone}
use Rattle.rw_mend.proofs.Clean.{pack_of}
use Rattle.rw_mend.proofs.Damaged.{IsOrIdle, near_given, unread_or_not, written}
use Rattle.rw_mend.proofs.Givens.{is_word, reading-word}
use Rattle.rw_mend.proofs.Heaps.{part_whole, parts_length}
use Rattle.rw_mend.proofs.Decoding.{lost_is, silent_is}
use Rattle.rw_mend.proofs.Kept.{clean_text, each_text, flat_joined, graphics_are, graphics_are_sure, said_kept}
use Rattle.rw_mend.proofs.Once.{best_counts}

-- ---- A reading by itself.

bytes_given : (candidate : Candidate) (codeword : List ℕ) → IsOrIdle candidate codeword
    → candidate_bytes candidate ≡ codeword
bytes_given candidate codeword (inl (distance, is)) = ap candidate_bytes is
bytes_given candidate codeword (inr (silent, idle)) = ap candidate_bytes silent ∙ sym idle

-- the packs that are written for a word of one reading
pub written_is : (program : List ℕ) (n : ℕ) (found : Option (List ℕ))
    → IsFinding (word_of (symbols_of program) n) found
    → candidate_bytes (candidate_of (reading_at program n)) ≡ entry_bytes found
written_is program n (Some codeword) reads =
    bytes_given (candidate_of (reading_at program n)) codeword (near_given program n codeword reads)
written_is program n None none =
    let reading : WordReading = reading_at program n in
    elim (unread_or_not reading.coverage) [
      | inl unread ↦ ap candidate_bytes (sym (silent_is reading unread))
      | inr read ↦
          ap candidate_bytes
          (sym (lost_is reading read (is_word program n) (λ codeword reads.
          none codeword (subst (λ w. Reads w codeword) (reading-word program n) reads))))
    ]

pub given_converted : (lead_in r : ℕ) (programs : List (List ℕ)) (bytes : List ℕ)
    (found : List (Option (List ℕ))) → length bytes % 96 ≡ 0
    → get_or programs r [] ≡ program_of lead_in bytes
    → IsRecovered Raw (program_symbols Raw bytes lead_in) found
    → given_text (whole_packs (length bytes / 96 - lead_in)) programs r ≡ cdg_bytes found
given_converted lead_in r programs bytes found whole program is =
    let words : ℕ = whole_packs (length bytes / 96 - lead_in) in
    let given : ℕ → List ℕ = λ (n : ℕ). candidate_bytes (given_at programs r n) in
    let rest : List ℕ = drop (96 * lead_in) bytes in
    let symbols : program_symbols Raw bytes lead_in ≡ symbols_of rest =
    program_is lead_in (length bytes / 96) bytes (omega (arith, whole))
    ∙ ap (λ m. symbols_of (drop m bytes)) (omega arith) in
    let size : length (symbols_of rest) ≡ length bytes - 96 * lead_in =
    length-map rest (λ byte. byte % 64) ∙ length-drop (96 * lead_in) bytes in
    let is' : IsRecovered Raw (symbols_of rest) found = subst (λ s. IsRecovered Raw s found) symbols is in
    let blocks : length (symbols_of rest) / 96 ≡ length bytes / 96 - lead_in = omega (arith, size, whole) in
    let count : length found ≡ words = is'.count ∙ ap whole_packs blocks in
    let same : map given (below words) ≡ map entry_bytes found =
    ext_get_or [] (map given (below words)) (map entry_bytes found)
    (length-map-range_with_len given 0 words ∙ sym (length-map found entry_bytes ∙ count)) (λ n lt.
    let within : n < words = omega (arith, lt, length-map-range_with_len given 0 words) in
    get_or-map-range_with_len given 0 words n n [] within (omega arith)
    ∙ ap (λ p. candidate_bytes (candidate_of (reading_at p n))) program
    ∙ written_is rest n (get_or found n None) (is'.each n (omega (arith, within, blocks)))
    ∙ sym (get_or-map entry_bytes found n None [] (omega (arith, within, count)))) in
    flat_joined given (below words) ∙ ap concat same ∙ sym (flat_joined entry_bytes found)

-- ---- Only one reading counts.

near_bytes : (candidate : Candidate) → is_idle_candidate candidate ≡ true
    → is_idle_pack (candidate_bytes candidate) ≡ true
near_bytes Silent is = absurd (false≢true is)
near_bytes (Lost word) is = absurd (false≢true is)
near_bytes (Near pack distance) is = is

never_dropped : (words : ℕ) (programs : List (List ℕ)) (r n : ℕ) → CountsAlone words programs r → n < words
    → ¬ IsDropped words programs r n
never_dropped words programs r n is here (inl lacking) =
    let m : ℕ = lacking.lacks.word in
    let lt : m < words = lacking.lacks.within in
    let misses = lacking.lacks.misses in
    let s : ℕ = misses.graphics.reading in
    let busy = graphics_are (given_at programs s m) misses.graphics.graphics in
    let idle : is_idle_pack (candidate_bytes (given_at programs r m)) ≡ true =
    near_bytes (given_at programs r m) misses.idle in
    let counts : ¬ IsDropped words programs s m =
    λ (dropped : IsDropped words programs s m).
    elim dropped [
      | inl left ↦ false≢true (sym busy.3 ∙ ap is_idle_candidate (sym busy.2) ∙ left.idle)
      | inr doubted ↦ graphics_are_sure (given_at programs s m) misses.graphics.graphics doubted.doubtful
    ] in
    let same : busy.0 ≡ candidate_bytes (given_at programs r m) =
    elim (cases_eq s r) [
      | inl own ↦ ap candidate_bytes (sym busy.2) ∙ ap (λ k. candidate_bytes (given_at programs k m)) own
      | inr other ↦ is.others m s busy.0 busy.1 lt misses.graphics.within other counts busy.2
    ] in
    false≢true (sym busy.3 ∙ ap is_idle_pack same ∙ idle)
never_dropped words programs r n is here (inr doubted) = is.sure n here doubted

-- every codeword that is a candidate comes from the reading
said_alone : (words : ℕ) (programs : List (List ℕ)) (r n s : ℕ) (candidates : List Candidate)
    (codeword : List ℕ)
    (distance : ℕ) → CountsAlone words programs r → n < words → AreCandidates words programs n candidates
    → s < length programs → candidate_of_reading candidates s ≡ Near codeword distance
    → codeword ≡ candidate_bytes (given_at programs r n)
said_alone words programs r n s candidates codeword distance is lt are within near =
    let given =
    counted words programs n s (candidate_of_reading candidates s) codeword distance (are.each s within)
    near in
    elim (cases_eq s r) [
      | inl own ↦ ap candidate_bytes (sym given.1) ∙ ap (λ k. candidate_bytes (given_at programs k n)) own
      | inr other ↦ is.others n s codeword distance lt within other given.0 given.1
    ]

found_alone : (candidates : List Candidate) (codeword : List ℕ) (mended : Mended) (source : WordSource)
    → source ≡ mended.source
    → ((s : ℕ) (other : List ℕ) (more : ℕ) → s < length candidates
    → candidate_of_reading candidates s ≡ Near other more
    → other ≡ codeword)
    → ¬ IsAgreedWord (Some mended) → IsMendedBy source candidates mended.pack → mended.pack ≡ codeword
found_alone candidates codeword mended (Reading k) is only apart by =
    let near = best_counts candidates k by.0 in
    sym (pack_of (candidate_of_reading candidates k) near.0 mended.pack near.1 near.2 by.1)
    ∙ only k near.0 near.1 by.0.within near.2
found_alone candidates codeword mended Agreed is only apart by = absurd (apart (sym is))

-- the result for a word if no candidate is another codeword than the pack that is written for `own`
found_beside : (candidates : List Candidate) (own : Candidate) (r : ℕ) (found : Option Mended)
    → r < length candidates
    → candidate_of_reading candidates r ≡ own
    → ((s : ℕ) (other : List ℕ) (more : ℕ) → s < length candidates
    → candidate_of_reading candidates s ≡ Near other more
    → other ≡ candidate_bytes own)
    → ¬ IsAgreedWord found → IsMending candidates found → mended_bytes found ≡ candidate_bytes own
found_beside candidates (Near pack distance) r found within is only apart mending =
    mended_alone candidates pack r distance found within is only mending
found_beside candidates Silent r None within is only apart none = refl
found_beside candidates (Lost word) r None within is only apart none = refl
found_beside candidates Silent r (Some mended) within is only apart by =
    found_alone candidates (candidate_bytes Silent) mended mended.source refl only apart by
found_beside candidates (Lost word) r (Some mended) within is only apart by =
    found_alone candidates (candidate_bytes (Lost word)) mended mended.source refl only apart by

pub word_alone : (words : ℕ) (programs : List (List ℕ)) (r n : ℕ) (said : List (List Candidate))
    (found : List (Option Mended)) → CountsAlone words programs r → AreMended words programs said found
    → n < words → ¬ IsAgreedWord (get_or found n None)
    → mended_bytes (get_or found n None) ≡ candidate_bytes (given_at programs r n)
word_alone words programs r n said found is mended lt apart =
    let candidates : List Candidate = get_or said n [] in
    let are = mended.candidates n lt in
    found_beside candidates (given_at programs r n) r (get_or found n None)
    (omega (arith, is.within, are.count))
    (said_kept words programs n r (candidate_of_reading candidates r) (are.each r is.within)
    (never_dropped words programs r n is lt))
    (λ s other more inside near.
    said_alone words programs r n s candidates other more is lt are (omega (arith, inside, are.count)) near)
    apart (mended.each n lt)

pub text_alone : (words : ℕ) (programs : List (List ℕ)) (r : ℕ) (said : List (List Candidate))
    (found : List (Option Mended)) → CountsAlone words programs r → AreMended words programs said found
    → ((n : ℕ) → n < words → ¬ IsAgreedWord (get_or found n None))
    → mended_text found ≡ given_text words programs r
text_alone words programs r said found is mended apart =
    each_text words programs r found mended.count (λ n lt.
    word_alone words programs r n said found is mended lt (apart n lt))

-- ---- No word is agreed if none is counted.

none_of : (b : Bool) → (if b then 1 else 0) ≤ 0 → b ≡ false
none_of true none = absurd (omega (arith, none))
none_of false none = refl

none_counted : {X : Type 0} (p : X → Bool) (xs : List X) (n : ℕ) (d : X) → count_by p xs ≡ 0 → n < length xs
    → p (get_or xs n d) ≡ false
none_counted {X} p xs n d none lt =
    let one : X → ℕ = λ (x : X). if p x then 1 else 0 in
    none_of (p (get_or xs n d)) (subst (λ c. one (get_or xs n d) ≤ c) none (get_or-le-sum_by one xs n d lt))

agreed_byte : (found : Option Mended) → IsAgreedWord found → (source_byte found == 254) ≡ true
agreed_byte None is = absurd is
agreed_byte (Some mended) is =
    ap (λ s. source_byte (Some (record { pack = mended.pack; source = s })) == 254) is

pub not_agreed_byte : (words : ℕ) (found : List (Option Mended)) → length found ≡ words
    → count_by (λ f. source_byte f == 254) found ≡ 0
    → (n : ℕ) → n < words → ¬ IsAgreedWord (get_or found n None)
not_agreed_byte words found size none n lt is =
    false≢true
    (sym
    (none_counted (λ (f : Option Mended). source_byte f == 254) found n None none (omega (arith, lt, size)))
    ∙ agreed_byte (get_or found n None) is)

agreed_way : (candidates : List Candidate) (found : Option Mended) → IsAgreedWord found
    → is_mended_by Together (way_of candidates found) ≡ true
agreed_way candidates None is = absurd is
agreed_way candidates (Some mended) is =
    ap (λ s. is_mended_by Together (Some (way_by s candidates mended.pack))) is

pub ways_at : (said : List (List Candidate)) (found : List (Option Mended)) (n : ℕ) → n < length said
    → n < length found → (n < length (ways_of said found))
    × (get_or (ways_of said found) n None ≡ way_of (get_or said n []) (get_or found n None))
ways_at [] found n lt lt' = absurd (omega (arith, lt))
ways_at (candidates ∷ said) [] n lt lt' = absurd (omega (arith, lt'))
ways_at (candidates ∷ said) (f ∷ found) zero lt lt' = (omega arith, refl)
ways_at (candidates ∷ said) (f ∷ found) (suc n) lt lt' =
    let rest = ways_at said found n (omega (arith, lt)) (omega (arith, lt')) in
    (omega (arith, rest.0), rest.1)

not_agreed_way : (words : ℕ) (said : List (List Candidate)) (found : List (Option Mended))
    → length said ≡ words
    → length found ≡ words → count_by (is_mended_by Together) (ways_of said found) ≡ 0
    → (n : ℕ) → n < words → ¬ IsAgreedWord (get_or found n None)
not_agreed_way words said found said_size size none n lt is =
    let at = ways_at said found n (omega (arith, lt, said_size)) (omega (arith, lt, size)) in
    false≢true
    (sym (none_counted (is_mended_by Together) (ways_of said found) n None none at.0)
    ∙ ap (is_mended_by Together) at.1
    ∙ agreed_way (get_or said n []) (get_or found n None) is)

-- ---- The outputs of the calls.

one_of_two : (first second : List ℕ) (r : ℕ) → r < 2 → length second ≡ length first
    → length (get_or (first ∷ second ∷ []) r []) ≡ length first
one_of_two first second zero lt same = refl
one_of_two first second (suc zero) lt same = same
one_of_two first second (suc (suc r)) lt same = absurd (omega (arith, lt))

pub converted_two : (lead_in r : ℕ) (first second old new : List ℕ) (counts : MendCounts)
    (found : List (Option (List ℕ))) → length first % 96 ≡ 0 → length second ≡ length first
    → CountsAlone (whole_packs (length first / 96 - lead_in))
    (program_of lead_in first ∷ program_of lead_in second ∷ []) r
    → IsMendedInto lead_in first second old new counts → counts.agreed ≡ 0
    → IsRecovered Raw (program_symbols Raw (get_or (first ∷ second ∷ []) r []) lead_in) found
    → new ≡ cdg_bytes found ++ drop (length (cdg_bytes found)) old
converted_two lead_in r first second old new counts found whole same is done none recovered =
    let words : ℕ = whole_packs (length first / 96 - lead_in) in
    let readings : List (List ℕ) = first ∷ second ∷ [] in
    let programs : List (List ℕ) = map (program_of lead_in) readings in
    let bytes : List ℕ = get_or readings r [] in
    let size : length bytes ≡ length first = one_of_two first second r is.within same in
    written (mended_text done.found) (cdg_bytes found) new old
    (text_alone words programs r done.said done.found is done.mended
    (not_agreed_way words done.said done.found done.mended.said_count done.mended.count
    (sym done.counts_are.agreed ∙ none))
    ∙ ap (λ n. given_text (whole_packs (n / 96 - lead_in)) programs r) (sym size)
    ∙ given_converted lead_in r programs bytes found (ap (λ n. n % 96) size ∙ whole)
    (get_or-map (program_of lead_in) readings r [] [] is.within) recovered)
    done.text

pub converted_many : (count lead_in r : ℕ) (readings old new old_sources new_sources : List ℕ)
    (tallies : Tallies) (found : List (Option (List ℕ))) → (length readings / count) % 96 ≡ 0
    → CountsAlone (words_in_each count lead_in readings) (programs_of count lead_in readings) r
    → AreAllMendedInto count lead_in readings old new old_sources new_sources tallies → tallies.agreed ≡ 0
    → IsRecovered Raw
    (program_symbols Raw (get_or (parts count (length readings / count) readings) r []) lead_in) found
    → new ≡ cdg_bytes found ++ drop (length (cdg_bytes found)) old
converted_many count lead_in r readings old new old_sources new_sources tallies found whole is done none
    recovered =
    let each : ℕ = length readings / count in
    let words : ℕ = words_in_each count lead_in readings in
    let all : List (List ℕ) = parts count each readings in
    let programs : List (List ℕ) = map (program_of lead_in) all in
    let bytes : List ℕ = get_or all r [] in
    let inside : r < length all = omega (arith, is.within, length-map all (program_of lead_in)) in
    let size : length bytes ≡ each =
    part_whole count readings r (omega (arith, inside, parts_length count each readings)) in
    written (mended_text done.found) (cdg_bytes found) new old
    (text_alone words programs r done.said done.found is done.mended
    (not_agreed_byte words done.found done.mended.count (sym done.tallies_are.agreed ∙ none))
    ∙ ap (λ n. given_text (whole_packs (n / 96 - lead_in)) programs r) (sym size)
    ∙ given_converted lead_in r programs bytes found (ap (λ n. n % 96) size ∙ whole)
    (get_or-map (program_of lead_in) all r [] [] inside) recovered)
    done.text

-- ---- An error-free reading.

pub clean_two : (lead_in r : ℕ) (first second old new : List ℕ) (counts : MendCounts)
    (found : List (Option (List ℕ))) → length first % 96 ≡ 0 → length second ≡ length first
    → IsCleanBeside (whole_packs (length first / 96 - lead_in))
    (program_of lead_in first ∷ program_of lead_in second ∷ []) r
    → IsMendedInto lead_in first second old new counts
    → IsRecovered Raw (program_symbols Raw (get_or (first ∷ second ∷ []) r []) lead_in) found
    → new ≡ cdg_bytes found ++ drop (length (cdg_bytes found)) old
clean_two lead_in r first second old new counts found whole same is done recovered =
    let words : ℕ = whole_packs (length first / 96 - lead_in) in
    let readings : List (List ℕ) = first ∷ second ∷ [] in
    let programs : List (List ℕ) = map (program_of lead_in) readings in
    let bytes : List ℕ = get_or readings r [] in
    let size : length bytes ≡ length first = one_of_two first second r is.within same in
    written (mended_text done.found) (cdg_bytes found) new old
    (clean_text words programs r done.said done.found is done.mended
    ∙ ap (λ n. given_text (whole_packs (n / 96 - lead_in)) programs r) (sym size)
    ∙ given_converted lead_in r programs bytes found (ap (λ n. n % 96) size ∙ whole)
    (get_or-map (program_of lead_in) readings r [] [] is.within) recovered)
    done.text

pub clean_many : (count lead_in r : ℕ) (readings old new old_sources new_sources : List ℕ)
    (tallies : Tallies) (found : List (Option (List ℕ))) → (length readings / count) % 96 ≡ 0
    → IsCleanBeside (words_in_each count lead_in readings) (programs_of count lead_in readings) r
    → AreAllMendedInto count lead_in readings old new old_sources new_sources tallies
    → IsRecovered Raw
    (program_symbols Raw (get_or (parts count (length readings / count) readings) r []) lead_in) found
    → new ≡ cdg_bytes found ++ drop (length (cdg_bytes found)) old
clean_many count lead_in r readings old new old_sources new_sources tallies found whole is done recovered =
    let each : ℕ = length readings / count in
    let words : ℕ = words_in_each count lead_in readings in
    let all : List (List ℕ) = parts count each readings in
    let programs : List (List ℕ) = map (program_of lead_in) all in
    let bytes : List ℕ = get_or all r [] in
    let inside : r < length all = omega (arith, is.within, length-map all (program_of lead_in)) in
    let size : length bytes ≡ each =
    part_whole count readings r (omega (arith, inside, parts_length count each readings)) in
    written (mended_text done.found) (cdg_bytes found) new old
    (clean_text words programs r done.said done.found is done.mended
    ∙ ap (λ n. given_text (whole_packs (n / 96 - lead_in)) programs r) (sym size)
    ∙ given_converted lead_in r programs bytes found (ap (λ n. n % 96) size ∙ whole)
    (get_or-map (program_of lead_in) all r [] [] inside) recovered)
    done.text
