-- The packs that are recovered from a stream that was read twice.
use Rattle.std.proofs.Common.{◌≡◌, ℕ, zero, suc, ◌+◌, ◌-◌, ◌*◌, ◌/◌, ◌<◌, ◌≤◌, List, [], ◌∷◌, ◌++◌, length, drop, get_or, map, refl, sym, ap, ◌∙◌, subst, subst₂, inl, inr, arith, append-nil, None, Some, IfSome, Result, Ok, Err}
use Rattle.std.specs.Prelude.{All}
use Rattle.std.specs.declared.option.Option.{Option}
use Rattle.std.specs.List.{concat, flat_map}
use Rattle.std.specs.Io.KnownBytes.{Appends, Consumes}
use Rattle.std.proofs.lemmas.List.{ext_get_or, length-map, get_or-map}
use Rattle.raw_subcode.specs.Channels.{blocks_of, program_symbols, symbols_of}
use Rattle.raw_subcode.specs.declared.form.Form.TheVariants.{Raw}
use Rattle.rw_code.specs.Codeword.{IsCodeword, IsWord, differences}
use Rattle.rw_interleave.specs.Interleave.{word_of, whole_packs}
use Rattle.rw_interleave.specs.Stream.{bad_count}
use Rattle.rw_interleave.specs.Texts.{cdg_bytes}
use Rattle.rw_interleave.proofs.Recovery.{form_words}
use Rattle.cdg_io.specs.Change.{from_to}
use Rattle.rw_merge.specs.Agreement.{IsAgreed, IsAgreement, equally_wrong}
use Rattle.rw_merge.specs.Merging.{FirstIsAtEnd, EndsSecond, IsAnswer, IsMerged, IsMergedText, Merges}
use Rattle.rw_merge.specs.Readings.{IsDamagedTwice, IsReadTwice, MergeRestores}
use Rattle.rw_merge.specs.declared.merge.Merged.{Merged}
use Rattle.rw_merge.specs.declared.merge.MergeStop.{MergeStop}
use Rattle.rw_merge.specs.declared.merge.MergeStop.TheVariants.{FirstFault, SecondFault, WriteFault, TooLong, Torn, SecondTorn, Unequal}
use Rattle.rw_merge.proofs.Readings.{penalty_of_both, only_one_agreed}

small_before : (block rest : List ℕ) → ((p : ℕ) → get_or rest p 0 < 64) → (p : ℕ)
    → get_or (symbols_of block ++ rest) p 0 < 64
small_before [] rest small p = small p
small_before (byte ∷ block) rest small zero = omega arith
small_before (byte ∷ block) rest small (suc p) = small_before block rest small p

small_symbols : (blocks : List (List ℕ)) (p : ℕ) → get_or (flat_map symbols_of blocks) p 0 < 64
small_symbols [] p = omega arith
small_symbols (block ∷ blocks) p = small_before block (flat_map symbols_of blocks) (small_symbols blocks) p

-- each word of the program symbols of bytes is a word
words_of_bytes : (lead_in : ℕ) (bytes : List ℕ) (n : ℕ)
    → IsWord (word_of (program_symbols Raw bytes lead_in) n)
words_of_bytes lead_in bytes n =
    form_words Raw (program_symbols Raw bytes lead_in) n (small_symbols (drop lead_in (blocks_of Raw bytes)))

-- if a codeword is agreed, the result is this codeword
found_agreed : (xs ys w : List ℕ) (f : Option (List ℕ)) → IsWord xs → IsWord ys → IsAgreed xs ys w
    → IsAgreement xs ys f
    → f ≡ Some w
found_agreed xs ys w None x_word y_word agreed none = absurd (none w agreed)
found_agreed xs ys w (Some v) x_word y_word agreed found =
    ap (λ x. Some x) (only_one_agreed xs ys v w x_word y_word found agreed)

codeword_at : (packs : List (List ℕ)) (n : ℕ) → All IsCodeword packs → n < length packs
    → IsCodeword (get_or packs n [])
codeword_at packs n all lt = all n [] lt

none_agreed : (xs ys : List ℕ) (f : Option (List ℕ)) → IsAgreement xs ys f
    → ((w : List ℕ) → ¬ IsAgreed xs ys w)
    → f ≡ None
none_agreed xs ys None is none = refl
none_agreed xs ys (Some w) is none = absurd (none w is)

-- two words have only one result
one_agreement : (xs ys : List ℕ) (f g : Option (List ℕ)) → IsWord xs → IsWord ys → IsAgreement xs ys f
    → IsAgreement xs ys g
    → f ≡ g
one_agreement xs ys f None x_word y_word is none = none_agreed xs ys f is none
one_agreement xs ys f (Some w) x_word y_word is agreed = found_agreed xs ys w f x_word y_word agreed is

-- so two readings have only one list of results and one text
pub one_text : (lead_in : ℕ) (first second text other : List ℕ) (bad count : ℕ)
    → IsMergedText lead_in first second text bad → IsMergedText lead_in first second other count
    → (text ≡ other) × (bad ≡ count)
one_text lead_in first second text other bad count one two =
    let same : one.found ≡ two.found =
    ext_get_or None one.found two.found (one.merged.count ∙ sym two.merged.count) (λ n lt.
    let within : n < whole_packs (length first / 96 - lead_in) = omega (arith, lt, one.merged.count) in
    one_agreement _ _ (get_or one.found n None) (get_or two.found n None) (words_of_bytes lead_in first n)
    (words_of_bytes lead_in second n) (one.merged.each n within) (two.merged.each n within)) in
    (one.text_is ∙ ap cdg_bytes same ∙ sym two.text_is, one.bad_is ∙ ap bad_count same ∙ sym two.bad_is)

-- every pack is found
pub packs_found : (lead_in blocks : ℕ) (packs : List (List ℕ)) (first second text : List ℕ) (bad : ℕ)
    → (twice : IsReadTwice lead_in blocks packs first second)
    → (merged : IsMergedText lead_in first second text bad)
    → merged.found ≡ map (λ pack. Some pack) packs
packs_found lead_in blocks packs first second text bad twice merged =
    let readings = twice.readings in
    let count : length first / 96 - lead_in ≡ blocks = omega (arith, readings.first_size) in
    let found =
    subst
    (λ k. IsMerged k (program_symbols Raw first lead_in) (program_symbols Raw second lead_in) merged.found)
    count merged.merged in
    let carries = twice.carries in
    ext_get_or None merged.found (map (λ pack. Some pack) packs)
    (found.count ∙ sym (length-map packs (λ pack. Some pack) ∙ carries.count)) (λ n lt.
    let in_packs : n < whole_packs blocks = omega (arith, lt, found.count) in
    let pack = get_or packs n [] in
    let word : word_of twice.symbols n ≡ pack = carries.words n in_packs in
    let xs = word_of (program_symbols Raw first lead_in) n in
    let ys = word_of (program_symbols Raw second lead_in) n in
    let agreed : IsAgreed xs ys pack =
    record {
      is_codeword = codeword_at packs n carries.codewords (omega (arith, in_packs, carries.count));
      few =
          subst (λ (w : List ℕ). 2 * equally_wrong xs ys w + differences xs ys ≤ 4) word
          (twice.enough n in_packs);
    } in
    found_agreed xs ys pack (get_or merged.found n None) (words_of_bytes lead_in first n)
    (words_of_bytes lead_in second n) agreed (found.each n in_packs)
    ∙ sym (get_or-map (λ pack. Some pack) packs n [] None (omega (arith, in_packs, carries.count))))

-- if each reading has at most two wrong symbols in each word, both readings have enough
pub enough_of_both : (lead_in blocks : ℕ) (packs : List (List ℕ)) (first second : List ℕ)
    → IsDamagedTwice lead_in blocks packs first second
    → IsReadTwice lead_in blocks packs first second
enough_of_both lead_in blocks packs first second damaged =
    let readings = damaged.readings in
    let many : length damaged.symbols / 96 ≡ blocks = omega (arith, damaged.carries.size) in
    record {
      readings = readings;
      symbols = damaged.symbols;
      carries = damaged.carries;
      enough = λ n lt.
          let xs = word_of (program_symbols Raw first lead_in) n in
          let ys = word_of (program_symbols Raw second lead_in) n in
          let ws = word_of damaged.symbols n in
          let x_word = words_of_bytes lead_in first n in
          let y_word = words_of_bytes lead_in second n in
          let w_size : length ws ≡ 24 =
          ap length (damaged.carries.words n lt)
          ∙ (codeword_at packs n damaged.carries.codewords
          (omega (arith, lt, damaged.carries.count))).is_word.size in
          let in_all : n < whole_packs (length damaged.symbols / 96) = omega (arith, lt, many) in
          omega (
            arith,
            penalty_of_both ws xs ys (w_size ∙ sym x_word.size) (w_size ∙ sym y_word.size),
            damaged.first_damage.words n in_all,
            damaged.second_damage.words n in_all,
          );
    }

-- the bytes consumed up to the end are all bytes
all_taken : (all rest taken : List ℕ) → all ≡ taken ++ rest → rest ≡ [] → taken ≡ all
all_taken all rest taken is none = sym (is ∙ ap (λ l. taken ++ l) none ∙ append-nil taken)

-- the law about two readings
abbrev pub GivesPacks : Type 0
GivesPacks = (lead_in blocks : ℕ) (packs : List (List ℕ)) (first second text : List ℕ) (bad : ℕ)
    → IsReadTwice lead_in blocks packs first second → IsMergedText lead_in first second text bad
    → (text ≡ concat packs) × (bad ≡ 0)

pub restored : GivesPacks → (lead_in : ℕ) (left left' other other' held held' : Option (List ℕ))
    (result : Result Merged MergeStop) (xs ys : List ℕ) → Consumes left left' xs → Consumes other other' ys
    → Merges lead_in (from_to held held') result xs ys → FirstIsAtEnd result left' → EndsSecond result other'
    → IfSome left (λ a. IfSome other (λ b. IsAnswer lead_in result (length a) (length b)))
    → IfSome left (λ a. IfSome other (λ b. (blocks : ℕ) (packs : List (List ℕ))
    → IsReadTwice lead_in blocks packs a b
    → MergeRestores result blocks held held' (concat packs)))
restored law lead_in None left' other other' held held' result xs ys first second merges end end' answer = tt
restored law lead_in (Some a) left' None other' held held' result xs ys first second merges end end' answer =
    tt
restored law lead_in (Some a) None (Some b) other' held held' result xs ys first second merges end end'
    answer =
    absurd first
restored law lead_in (Some a) (Some r) (Some b) None held held' result xs ys first second merges end end'
    answer =
    absurd second
restored law lead_in (Some a) (Some r) (Some b) (Some s) held held' (Ok merged) xs ys first second merges end
    end' answer =
    λ blocks packs twice.
    let (text, merged_text, put) = merges.done in
    let all =
    subst₂ (λ (p q : List ℕ). IsMergedText lead_in p q text merged.bad) (all_taken a r xs first end)
    (all_taken b s ys second end') merged_text in
    let (text_is, bad_is) = law lead_in blocks packs a b text merged.bad twice all in
    let readings = twice.readings in
    (omega (arith, answer.3, readings.first_size), bad_is, subst (Appends held held') text_is put)
restored law lead_in (Some a) (Some r) (Some b) (Some s) held held' (Err FirstFault) xs ys first second merges
    end end' answer =
    λ blocks packs twice. tt
restored law lead_in (Some a) (Some r) (Some b) (Some s) held held' (Err SecondFault) xs ys first second
    merges end end' answer =
    λ blocks packs twice. tt
restored law lead_in (Some a) (Some r) (Some b) (Some s) held held' (Err WriteFault) xs ys first second merges
    end end' answer =
    λ blocks packs twice. tt
restored law lead_in (Some a) (Some r) (Some b) (Some s) held held' (Err TooLong) xs ys first second merges
    end end' answer =
    λ blocks packs twice.
    let readings = twice.readings in
    elim answer.2 [
      | inl long ↦ absurd (omega (arith, long, readings.first_size, readings.few))
      | inr long ↦ absurd (omega (arith, long, readings.second_size, readings.few))
    ]
restored law lead_in (Some a) (Some r) (Some b) (Some s) held held' (Err (Torn block)) xs ys first second
    merges end end' answer =
    λ blocks packs twice.
    let readings = twice.readings in absurd (answer.3 (omega (arith, readings.first_size)))
restored law lead_in (Some a) (Some r) (Some b) (Some s) held held' (Err (SecondTorn block)) xs ys first
    second merges end end' answer =
    λ blocks packs twice.
    let readings = twice.readings in absurd (answer.4 (omega (arith, readings.second_size)))
restored law lead_in (Some a) (Some r) (Some b) (Some s) held held' (Err (Unequal total)) xs ys first second
    merges end end' answer =
    λ blocks packs twice.
    let readings = twice.readings in
    absurd (answer.2 (omega (arith, readings.first_size, readings.second_size)))

pub repaired : ((lead_in blocks : ℕ) (packs : List (List ℕ)) (first second : List ℕ)
    → IsDamagedTwice lead_in blocks packs first second → IsReadTwice lead_in blocks packs first second)
    → (lead_in : ℕ) (left other held held' : Option (List ℕ)) (result : Result Merged MergeStop)
    → IfSome left (λ a. IfSome other (λ b. (blocks : ℕ) (packs : List (List ℕ))
    → IsReadTwice lead_in blocks packs a b → MergeRestores result blocks held held' (concat packs)))
    → IfSome left (λ a. IfSome other (λ b. (blocks : ℕ) (packs : List (List ℕ))
    → IsDamagedTwice lead_in blocks packs a b
    → MergeRestores result blocks held held' (concat packs)))
repaired law lead_in None other held held' result restores = tt
repaired law lead_in (Some a) None held held' result restores = tt
repaired law lead_in (Some a) (Some b) held held' result restores =
    λ blocks packs damaged. restores blocks packs (law lead_in blocks packs a b damaged)
