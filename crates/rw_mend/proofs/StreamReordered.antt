-- The order of the readings changes no byte of a mended stream.
use Rattle.std.proofs.Common.{◌≡◌, ℕ, ◌+◌, ◌-◌, ◌*◌, ◌/◌, ◌%◌, ◌<◌, Bool, true, false, ◌&&◌, ◌||◌, List, [], ◌∷◌, ◌++◌, length, get_or, map, drop, refl, sym, ap, ap₂, ◌∙◌, subst, inl, inr, arith}
use Rattle.std.specs.Prelude.{IsPermutation, None, Some, count_by, if◌then◌else◌, not}
use Rattle.std.specs.Cmp.Lexicographic.{slice_cmp}
use Rattle.std.specs.Ordering.{is_gt, nat_cmp}
use Rattle.std.specs.Str.{bytes_eq}
use Rattle.std.specs.declared.option.Option.{Option}
use Rattle.std.proofs.lemmas.Bool.{cases_lt}
use Rattle.std.proofs.lemmas.List.{ext_get_or, get_or_default, get_or_past}
use Rattle.std.proofs.lemmas.List.Elements.{Contains-get_or}
use Rattle.std.proofs.lemmas.List.Sorted.{Contains-permutation, IsPermutation-map, IsPermutation-sym, list_any-IsPermutation, sum_by-IsPermutation}
use Rattle.bit_lists.specs.Counting.{parts}
use Rattle.raw_subcode.specs.Channels.{symbols_of}
use Rattle.rw_interleave.specs.Interleave.{swapped, whole_packs}
use Rattle.rw_interleave.proofs.Ranges.{map_range}
use Rattle.rw_mend.specs.Laws.{IsSameFind}
use Rattle.rw_mend.specs.Many.{programs_of, words_in_each}
use Rattle.rw_mend.specs.Streams.{AreMended}
use Rattle.rw_mend.specs.Words.{block_at, program_of}
use Rattle.rw_mend.specs.declared.candidates.Candidate.{Candidate}
use Rattle.rw_mend.specs.declared.choice.Mended.{Mended}
use Rattle.rw_mend.specs.declared.tallies.Tallies.{Tallies}
use Rattle.rw_mend.proofs.Reordered.{reordered}
use Rattle.rw_mend.specs.Chosen.{IsAtMost, IsChosen, Rule, blocks_at, channel_rule, channels_of, completed, has_eligible_channels, has_eligible_symbols, is_framed_block, is_read_block, matches_of, rank_of, symbol_rule, votes_for}
use Rattle.rw_mend.specs.Stream.{AreMendedIntoStream, IsMendedStream, found_symbol, mended_symbol, mended_symbols}
use Rattle.rw_mend.proofs.Bytes.{channel_at, symbol_at}
use Rattle.rw_mend.proofs.FoundSymbols.{mended_before, mended_there}
use Rattle.rw_mend.proofs.Ranks.{both_at_most}
use Rattle.rw_mend.proofs.Recovered.{own_byte}
use Rattle.rw_mend.proofs.StreamBlocks.{block_long}
use Rattle.rw_mend.proofs.Streaming.{first_long}

-- ---- A rule on blocks in another order.

-- the two rules agree on each block
pub record AreSameRules (rule other : Rule) : Type 0 where
  pub eligible : (block : List ℕ) → rule.is_eligible block ≡ other.is_eligible block
  pub matches : (block : List ℕ) → rule.matches block ≡ other.matches block
  pub part : (block : List ℕ) → rule.part block ≡ other.part block

count_same : {X : Type 0} (f g : X → Bool) (xs : List X) → ((x : X) → f x ≡ g x)
    → count_by f xs ≡ count_by g xs
count_same f g xs same = ap (λ p. count_by p xs) (λ i x. same x i)

same_votes : (rule other : Rule) (xs ys : List (List ℕ)) (part : List ℕ) → AreSameRules rule other
    → IsPermutation xs ys → votes_for rule xs part ≡ votes_for other ys part
unfolding votes_for
same_votes rule other xs ys part same is =
    let has : Rule → List ℕ → Bool =
    λ (r : Rule) (block : List ℕ). r.is_eligible block && bytes_eq (r.part block) part in
    count_same (has rule) (has other) xs
    (λ block. ap₂ (λ a p. a && bytes_eq p part) (same.eligible block) (same.part block))
    ∙ sym (sum_by-IsPermutation (λ x. if has other x then 1 else 0) xs ys is)

same_rank : (rule other : Rule) (xs ys : List (List ℕ)) (block : List ℕ) → AreSameRules rule other
    → IsPermutation xs ys → rank_of rule xs block ≡ rank_of other ys block
same_rank rule other xs ys block same is =
    ap₂ (λ m rest. m ∷ rest) (same.matches block)
    (ap₂ (λ v p. v ∷ p)
    (same_votes rule other xs ys (rule.part block) same is ∙ ap (votes_for other ys) (same.part block))
    (same.part block))

same_tails : (m n : ℕ) (xs ys : List ℕ) → m ∷ xs ≡ n ∷ ys → xs ≡ ys
same_tails m n xs ys same = cc

-- a block of one list is in the other
there : (xs ys : List (List ℕ)) (r : ℕ) → IsPermutation xs ys → r < length xs
    → (k : ℕ) × (k < length ys) × (get_or ys k [] ≡ get_or xs r [])
there xs ys r is lt =
    let has = Contains-permutation xs ys (get_or xs r []) is (Contains-get_or xs r [] lt) in
    (has.0, has.1, get_or_default ys has.0 [] (get_or xs r []) has.1 ∙ has.2)

half : (rule other : Rule) (xs ys : List (List ℕ)) (one two : List ℕ) → AreSameRules rule other
    → IsPermutation xs ys → (c : IsChosen rule xs one) → (d : IsChosen other ys two)
    → is_gt (slice_cmp nat_cmp (rank_of rule xs (get_or xs c.reading []))
    (rank_of other ys (get_or ys d.reading []))) ≡ false
half rule other xs ys one two same is c d =
    let own : List ℕ = get_or xs c.reading [] in
    let at = there xs ys c.reading is c.within in
    let eligible : other.is_eligible (get_or ys at.0 []) ≡ true =
    ap other.is_eligible at.2 ∙ sym (same.eligible own) ∙ c.eligible in
    subst (λ rank. IsAtMost rank (rank_of other ys (get_or ys d.reading [])))
    (ap (rank_of other ys) at.2 ∙ sym (same_rank rule other xs ys own same is))
    (d.highest at.0 at.1 eligible)

turned_rules : (rule other : Rule) → AreSameRules rule other → AreSameRules other rule
turned_rules rule other same = record {
  eligible = λ block. sym (same.eligible block);
  matches = λ block. sym (same.matches block);
  part = λ block. sym (same.part block);
}

-- both lists have the same chosen part
pub same_chosen : (rule other : Rule) (xs ys : List (List ℕ)) (one two : List ℕ) → AreSameRules rule other
    → IsPermutation xs ys → IsChosen rule xs one → IsChosen other ys two → one ≡ two
same_chosen rule other xs ys one two same is c d =
    let own : List ℕ = get_or xs c.reading [] in
    let its : List ℕ = get_or ys d.reading [] in
    let ranks : rank_of rule xs own ≡ rank_of other ys its =
    both_at_most (rank_of rule xs own) (rank_of other ys its) (half rule other xs ys one two same is c d)
    (half other rule ys xs two one (turned_rules rule other same) (IsPermutation-sym xs ys is) d c) in
    c.is
    ∙ same_tails (votes_for rule xs (rule.part own)) (votes_for other ys (other.part its)) (rule.part own)
    (other.part its)
    (same_tails (rule.matches own) (other.matches its) (votes_for rule xs (rule.part own) ∷ rule.part own)
    (votes_for other ys (other.part its) ∷ other.part its) ranks)
    ∙ sym d.is

-- ---- The two rules.

eligible_symbols : (xs ys : List (List ℕ)) (block : List ℕ) → IsPermutation xs ys
    → has_eligible_symbols xs block ≡ has_eligible_symbols ys block
unfolding has_eligible_symbols
eligible_symbols xs ys block is =
    ap (λ any. is_read_block block || not any) (list_any-IsPermutation is_read_block xs ys is)

eligible_channels : (xs ys : List (List ℕ)) (block : List ℕ) → IsPermutation xs ys
    → has_eligible_channels xs block ≡ has_eligible_channels ys block
unfolding has_eligible_channels
eligible_channels xs ys block is =
    ap₂ (λ any other. if any then is_framed_block block else other)
    (list_any-IsPermutation is_framed_block xs ys is) (eligible_symbols xs ys block is)

pub channel_rules : (xs ys : List (List ℕ)) → IsPermutation xs ys
    → AreSameRules (channel_rule xs) (channel_rule ys)
channel_rules xs ys is = record {
  eligible = λ block. eligible_channels xs ys block is;
  matches = λ block. refl;
  part = λ block. refl;
}

pub symbol_rules : (known other : List (Option ℕ)) (xs ys : List (List ℕ)) → known ≡ other
    → IsPermutation xs ys → AreSameRules (symbol_rule known xs) (symbol_rule other ys)
symbol_rules known other xs ys same is = record {
  eligible = λ block. eligible_symbols xs ys block is;
  matches = λ block. ap (λ k. matches_of k block) same;
  part = λ block. ap (λ k. completed k block) same;
}

-- ---- The words that are found.

same_found : (programs others : List (List ℕ)) (n i : ℕ) (one other : Option Mended)
    → IsSameFind programs others n one other → found_symbol one i ≡ found_symbol other i
same_found programs others n i None None same = refl
same_found programs others n i None (Some other) same = absurd same
same_found programs others n i (Some one) None same = absurd same
same_found programs others n i (Some one) (Some other) same = ap (λ pack. Some (get_or pack i 0)) same.0

same_symbol : (lead_in words : ℕ) (programs others : List (List ℕ)) (found other : List (Option Mended))
    (p : ℕ) → length found ≡ words → length other ≡ words
    → ((n : ℕ) → n < words → IsSameFind programs others n (get_or found n None) (get_or other n None))
    → mended_symbol lead_in found p ≡ mended_symbol lead_in other p
same_symbol lead_in words programs others found other p size its same =
    elim (cases_lt (p / 24) (4 * lead_in + p % 24 % 8)) [
      | inl before ↦ mended_before lead_in found p before ∙ sym (mended_before lead_in other p before)
      | inr behind ↦
          let n : ℕ = p / 24 - (4 * lead_in + p % 24 % 8) in
          let i : ℕ = swapped (p % 24) in
          let slot : p / 24 ≡ 4 * lead_in + p % 24 % 8 + n = omega (arith, behind) in
          mended_there lead_in found p n slot
          ∙ (elim (cases_lt n words) as
          (λ _. found_symbol (get_or found n None) i ≡ found_symbol (get_or other n None) i) [
            | inl within ↦
                same_found programs others n i (get_or found n None) (get_or other n None) (same n within)
            | inr outside ↦
                ap (λ f. found_symbol f i)
                (get_or_past found n None (omega (arith, outside, size))
                ∙ sym (get_or_past other n None (omega (arith, outside, its))))
          ])
          ∙ sym (mended_there lead_in other p n slot)
    ]

pub same_symbols : (lead_in words b : ℕ) (programs others : List (List ℕ))
    (found other : List (Option Mended))
    → length found ≡ words → length other ≡ words
    → ((n : ℕ) → n < words → IsSameFind programs others n (get_or found n None) (get_or other n None))
    → mended_symbols lead_in found b ≡ mended_symbols lead_in other b
same_symbols lead_in words b programs others found other size its same =
    map_range (λ k. mended_symbol lead_in found (96 * b + k)) (λ k. mended_symbol lead_in other (96 * b + k))
    0 96
    (λ k from to. same_symbol lead_in words programs others found other (96 * b + k) size its same)

-- ---- Streams.

byte_same : (one other : List ℕ) (k : ℕ) → k < length one → k < length other
    → channels_of one ≡ channels_of other → symbols_of one ≡ symbols_of other
    → get_or one k 0 ≡ get_or other k 0
byte_same one other k lt its channels symbols =
    let high : get_or one k 0 / 64 ≡ get_or other k 0 / 64 =
    sym (channel_at one k lt) ∙ ap (λ l. get_or l k 0) channels ∙ channel_at other k its in
    let low : get_or one k 0 % 64 ≡ get_or other k 0 % 64 =
    sym (symbol_at one k lt) ∙ ap (λ l. get_or l k 0) symbols ∙ symbol_at other k its in
    omega (arith, high, low)

pub same_stream : (words lead_in : ℕ) (readings others : List (List ℕ)) (said saying : List (List Candidate))
    (found other : List (Option Mended)) (stream turned : List ℕ) → IsPermutation readings others
    → AreMended words (map (program_of lead_in) readings) said found
    → AreMended words (map (program_of lead_in) others) saying other
    → IsMendedStream lead_in readings found stream → IsMendedStream lead_in others other turned
    → length turned ≡ length stream → turned ≡ stream
same_stream words lead_in readings others said saying found other stream turned moved mended mended' is is'
    size =
    let programs : List (List ℕ) = map (program_of lead_in) readings in
    let programs' : List (List ℕ) = map (program_of lead_in) others in
    let finds : (n : ℕ) → n < words
    → IsSameFind programs programs' n (get_or found n None) (get_or other n None) =
    reordered words programs programs' said saying found other
    (IsPermutation-map (program_of lead_in) readings others moved) mended mended' in
    ext_get_or 0 turned stream size (λ p lt.
    let b : ℕ = p / 96 in
    let k : ℕ = p % 96 in
    let small : k < 96 = omega arith in
    let xs : List (List ℕ) = blocks_at readings b in
    let ys : List (List ℕ) = blocks_at others b in
    let blocks_moved : IsPermutation xs ys =
    IsPermutation-map (λ (reading : List ℕ). block_at reading b) readings others moved in
    let inside : b < length stream / 96 = omega (arith, lt, size, is.whole) in
    let inside' : b < length turned / 96 = omega (arith, lt, is'.whole) in
    let long : length (block_at stream b) ≡ 96 = block_long stream b (omega (arith, inside)) in
    let long' : length (block_at turned b) ≡ 96 = block_long turned b (omega (arith, inside')) in
    let block = is.blocks b inside in
    let block' = is'.blocks b inside' in
    own_byte turned p
    ∙ sym
    (byte_same (block_at stream b) (block_at turned b) k (omega (arith, small, long))
    (omega (arith, small, long'))
    (same_chosen (channel_rule xs) (channel_rule ys) xs ys (channels_of (block_at stream b))
    (channels_of (block_at turned b)) (channel_rules xs ys blocks_moved) blocks_moved block.channels
    block'.channels)
    (same_chosen (symbol_rule (mended_symbols lead_in found b) xs)
    (symbol_rule (mended_symbols lead_in other b) ys) xs ys (symbols_of (block_at stream b))
    (symbols_of (block_at turned b))
    (symbol_rules (mended_symbols lead_in found b) (mended_symbols lead_in other b) xs ys
    (same_symbols lead_in words b programs programs' found other mended.count mended'.count finds)
    blocks_moved) blocks_moved block.symbols block'.symbols))
    ∙ sym (own_byte stream p))

pub same_calls : (count lead_in : ℕ) (readings others old new turned old_sources sources named : List ℕ)
    (reported reported_too : Tallies) → 0 < count → length others ≡ length readings
    → length readings ≡ count * (length readings / count)
    → IsPermutation (parts count (length readings / count) readings)
    (parts count (length others / count) others)
    → AreMendedIntoStream count lead_in readings old new old_sources sources reported
    → AreMendedIntoStream count lead_in others old turned old_sources named reported_too → turned ≡ new
same_calls count lead_in readings others old new turned old_sources sources named reported reported_too some
    same equal
    moved done done' =
    let words : ℕ = words_in_each count lead_in readings in
    let its_words : words_in_each count lead_in others ≡ words =
    ap (λ n. whole_packs (n / count / 96 - lead_in)) same in
    let sizes : length others / count ≡ length readings / count = ap (λ n. n / count) same in
    let its_equal : length others ≡ count * (length others / count) =
    same ∙ equal ∙ ap (λ n. count * n) (sym sizes) in
    let size : length done.stream ≡ length readings / count =
    done.is.size ∙ first_long count (length readings / count) readings some equal in
    let its_size : length done'.stream ≡ length others / count =
    done'.is.size ∙ first_long count (length others / count) others some its_equal in
    let streams : done'.stream ≡ done.stream =
    same_stream words lead_in (parts count (length readings / count) readings)
    (parts count (length others / count) others) done.said done'.said done.found done'.found done.stream
    done'.stream moved done.mended
    (subst (λ n. AreMended n (programs_of count lead_in others) done'.said done'.found) its_words
    done'.mended) done.is done'.is (its_size ∙ sizes ∙ sym size) in
    done'.blocks ∙ ap (λ s. s ++ drop (length s) old) streams ∙ sym done.blocks
