-- A running merge: the consumed bytes, the results and the output, pair of blocks by pair of blocks.
use Rattle.std.proofs.Common.{◌≡◌, ◌≢◌, ◌⊎◌, ℕ, ◌+◌, ◌-◌, ◌*◌, ◌/◌, ◌%◌, ◌<◌, ◌≤◌, min, List, [], ◌++◌, length, take, drop, refl, sym, ap, ap₂, ◌∙◌, subst, subst₂, inl, inr, arith, append-nil, length-append, IfOk, Result, Ok, Err, Fits, w32}
use Rattle.std.specs.Prelude.{IfSome, is_none}
use Rattle.std.specs.declared.option.Option.{Option}
use Rattle.std.specs.Io.KnownBytes.{Appends, Consumes, IsAtEnd, Keeps}
use Rattle.std.proofs.KnownBytes.{Appends-kept, Appends-trans, Consumes-trans, Appends-nil, Consumes-nil}
use Rattle.std.proofs.lemmas.List.{take_all, take-append-le, drop-append-le}
use Rattle.std.proofs.lemmas.List.Sums.{count_by-le-length}
use Rattle.cdg_io.specs.Moves.{AppendsPrefix}
use Rattle.cdg_io.proofs.PumpSteps.{between}
use Rattle.cdg_io.proofs.Runs.{run_state-append, run_gives-append}
use Rattle.rw_interleave.specs.Gathering.{gather_next, gather_gives}
use Rattle.rw_interleave.specs.Stream.{bad_count}
use Rattle.rw_interleave.specs.Texts.{cdg_bytes}
use Rattle.cdg_io.specs.Change.{from_to}
use Rattle.raw_subcode.specs.Sizes.{most_units}
use Rattle.rw_merge.specs.Merging.{GivesMergedText, IsAnswer, IsMergedText, Merges, TakesInTurn}
use Rattle.rw_interleave.specs.Windows.{slots_after_block, words_from_block}
use Rattle.rw_merge.specs.Windows.{Windows}
use Rattle.rw_merge.specs.Steps.{AreAgreements, IsEndRead, IsHalfRead, IsPairRead, leading_slots, taken_of, window_after, words_after}
use Rattle.rw_merge.specs.declared.merge.Merged.{Merged}
use Rattle.rw_merge.specs.declared.merge.MergeStop.{MergeStop}
use Rattle.rw_merge.specs.declared.merge.MergeStop.TheVariants.{FirstFault, SecondFault, WriteFault, TooLong, Torn, SecondTorn, Unequal}
use Rattle.rw_merge.proofs.Slots.{program_slots, slots-append}
use Rattle.rw_merge.proofs.Stops.{end_answer, pair_answer, taken_exactly, whole_answer}
use Rattle.rw_merge.proofs.Words.{agreements-append, agreements-nil, bad-append, merged_text, text-append, window_is, words_are_after}

-- the slots of the program blocks among the first `blocks` blocks
abbrev program_of : ℕ → ℕ → List ℕ → List (List ℕ)
program_of lead_in blocks bytes = leading_slots (4 * (blocks - lead_in)) (drop (lead_in * 96) bytes)

-- The results for the first `blocks` blocks of both inputs, and the windows after them.
pub record IsFound (lead_in blocks : ℕ) (xs ys : List ℕ) (w v : List (List ℕ))
    (found : List (Option (List ℕ))) : Type 0 where
  pub first_size : length xs ≡ blocks * 96
  pub second_size : length ys ≡ blocks * 96
  pub first_window : w ≡ window_after [] (leading_slots (4 * (blocks - lead_in)) (drop (lead_in * 96) xs))
  pub second_window : v ≡ window_after [] (leading_slots (4 * (blocks - lead_in)) (drop (lead_in * 96) ys))
  pub all : AreAgreements (words_after [] (leading_slots (4 * (blocks - lead_in)) (drop (lead_in * 96) xs)))
      (words_after [] (leading_slots (4 * (blocks - lead_in)) (drop (lead_in * 96) ys))) found
  pub few : length found ≤ 4 * blocks

-- These bytes were consumed from both inputs, and the text of the results for them was written.
pub record Works (lead_in blocks : ℕ) (left left' other other' held held' : Option (List ℕ))
    (w v : List (List ℕ)) (bad : ℕ) (xs ys : List ℕ) : Type 0 where
  pub first_taken : Consumes left left' xs
  pub second_taken : Consumes other other' ys
  pub found : List (Option (List ℕ))
  pub is_found : IsFound lead_in blocks xs ys w v found
  pub put : Appends held held' (cdg_bytes found)
  pub bad_is : bad ≡ bad_count found

-- the number of words with no agreed codeword, after one block more
pub bad_fits : (blocks bad more : ℕ) (found others : List (Option (List ℕ))) → bad ≡ bad_count found
    → length found ≤ 4 * blocks → more ≡ bad_count others → length others ≤ 4 → blocks < most_units
    → Fits w32 (bad + more)
bad_fits blocks bad more found others bad_is few more_is four lt =
    omega (
      arith,
      bad_is,
      few,
      more_is,
      four,
      lt,
      count_by-le-length is_none found,
      count_by-le-length is_none others,
    )

-- the waiting bytes were written
pub works_kept : (lead_in blocks : ℕ) (left left' other other' held held' kept : Option (List ℕ))
    (w v : List (List ℕ)) (bad : ℕ) (xs ys : List ℕ)
    → Works lead_in blocks left left' other other' held held' w v bad xs ys → Keeps held' kept
    → Works lead_in blocks left left' other other' held kept w v bad xs ys
works_kept lead_in blocks left left' other other' held held' kept w v bad xs ys works same = record {
  first_taken = works.first_taken;
  second_taken = works.second_taken;
  found = works.found;
  is_found = works.is_found;
  put = Appends-kept _ _ _ _ works.put same;
  bad_is = works.bad_is;
}

no_slots : (lead_in blocks : ℕ) (bytes : List ℕ) → blocks ≤ lead_in → program_of lead_in blocks bytes ≡ []
no_slots lead_in blocks bytes le =
    let none : 4 * (blocks - lead_in) ≡ 0 = omega arith in
    ap (λ n. leading_slots n (drop (lead_in * 96) bytes)) none

-- before the first block
pub found_none : (lead_in : ℕ) → IsFound lead_in 0 [] [] [] [] []
found_none lead_in =
    let none = no_slots lead_in 0 [] (omega arith) in
    record {
      first_size = omega arith;
      second_size = omega arith;
      first_window = sym (ap (window_after []) none);
      second_window = sym (ap (window_after []) none);
      all =
          subst (λ (s : List (List ℕ)). AreAgreements (words_after [] s) (words_after [] s) []) (sym none)
          agreements-nil;
      few = omega arith;
    }

pub works_none : (lead_in : ℕ) (left other held : Option (List ℕ)) (w v : List (List ℕ)) → w ≡ [] → v ≡ []
    → Works lead_in 0 left left other other held held w v 0 [] []
works_none lead_in left other held w v w_is v_is = record {
  first_taken = Consumes-nil left;
  second_taken = Consumes-nil other;
  found = [];
  is_found =
      subst₂ (λ (a b : List (List ℕ)). IsFound lead_in 0 [] [] a b []) (sym w_is) (sym v_is)
      (found_none lead_in);
  put = Appends-nil held;
  bad_is = refl;
}

-- one more block of the lead-in
pub found_skipped : (lead_in blocks : ℕ) (xs ys us vs : List ℕ) (w v : List (List ℕ))
    (found : List (Option (List ℕ))) → IsFound lead_in blocks xs ys w v found → blocks < lead_in
    → length us ≡ 96 → length vs ≡ 96 → IsFound lead_in (blocks + 1) (xs ++ us) (ys ++ vs) w v found
found_skipped lead_in blocks xs ys us vs w v found f lt u_size v_size =
    let before = no_slots lead_in blocks xs (omega arith) in
    let before' = no_slots lead_in blocks ys (omega arith) in
    let after = no_slots lead_in (blocks + 1) (xs ++ us) (omega arith) in
    let after' = no_slots lead_in (blocks + 1) (ys ++ vs) (omega arith) in
    record {
      first_size = length-append xs us ∙ omega (arith, f.first_size, u_size);
      second_size = length-append ys vs ∙ omega (arith, f.second_size, v_size);
      first_window = f.first_window ∙ ap (window_after []) (before ∙ sym after);
      second_window = f.second_window ∙ ap (window_after []) (before' ∙ sym after');
      all =
          subst₂ (λ (s t : List (List ℕ)). AreAgreements (words_after [] s) (words_after [] t) found)
          (before ∙ sym after) (before' ∙ sym after') f.all;
      few = omega (arith, f.few);
    }

-- one more block of the program
program_more : (lead_in blocks : ℕ) (xs us : List ℕ) → length xs ≡ blocks * 96 → lead_in ≤ blocks
    → program_of lead_in (blocks + 1) (xs ++ us) ≡ program_of lead_in blocks xs ++ leading_slots 4 us
program_more lead_in blocks xs us size le =
    let count : 4 * (blocks + 1 - lead_in) ≡ 4 * (blocks - lead_in) + 4 = omega arith in
    ap₂ (λ n l. leading_slots n l) count (drop-append-le (lead_in * 96) xs us (omega (arith, size)))
    ∙ slots-append (4 * (blocks - lead_in)) 4 (drop (lead_in * 96) xs) us
    (program_slots lead_in blocks xs size)

pub found_more : (lead_in blocks : ℕ) (xs ys us vs : List ℕ) (w v w' v' : List (List ℕ))
    (found more : List (Option (List ℕ))) → IsFound lead_in blocks xs ys w v found → lead_in ≤ blocks
    → length us ≡ 96 → length vs ≡ 96 → w' ≡ window_after w (leading_slots 4 us)
    → v' ≡ window_after v (leading_slots 4 vs)
    → AreAgreements (words_after w (leading_slots 4 us)) (words_after v (leading_slots 4 vs)) more
    → length more ≤ 4
    → IsFound lead_in (blocks + 1) (xs ++ us) (ys ++ vs) w' v' (found ++ more)
found_more lead_in blocks xs ys us vs w v w' v' found more f le u_size v_size w_is v_is all few =
    let first = program_more lead_in blocks xs us f.first_size le in
    let second = program_more lead_in blocks ys vs f.second_size le in
    let words : words_after [] (program_of lead_in (blocks + 1) (xs ++ us))
    ≡ words_after [] (program_of lead_in blocks xs) ++ words_after w (leading_slots 4 us) =
    ap (words_after []) first
    ∙ run_gives-append gather_next gather_gives [] (program_of lead_in blocks xs) (leading_slots 4 us)
    ∙ ap (λ u. words_after [] (program_of lead_in blocks xs) ++ words_after u (leading_slots 4 us))
    (sym f.first_window) in
    let words' : words_after [] (program_of lead_in (blocks + 1) (ys ++ vs))
    ≡ words_after [] (program_of lead_in blocks ys) ++ words_after v (leading_slots 4 vs) =
    ap (words_after []) second
    ∙ run_gives-append gather_next gather_gives [] (program_of lead_in blocks ys) (leading_slots 4 vs)
    ∙ ap (λ u. words_after [] (program_of lead_in blocks ys) ++ words_after u (leading_slots 4 vs))
    (sym f.second_window) in
    record {
      first_size = length-append xs us ∙ omega (arith, f.first_size, u_size);
      second_size = length-append ys vs ∙ omega (arith, f.second_size, v_size);
      first_window =
          w_is
          ∙ ap (λ u. window_after u (leading_slots 4 us)) f.first_window
          ∙ sym (ap (window_after []) first
          ∙ run_state-append gather_next [] (program_of lead_in blocks xs) (leading_slots 4 us));
      second_window =
          v_is
          ∙ ap (λ u. window_after u (leading_slots 4 vs)) f.second_window
          ∙ sym (ap (window_after []) second
          ∙ run_state-append gather_next [] (program_of lead_in blocks ys) (leading_slots 4 vs));
      all =
          subst₂ (λ (s t : List (List ℕ)). AreAgreements s t (found ++ more)) (sym words) (sym words')
          (agreements-append _ _ _ _ found more f.all all);
      few = omega (arith, f.few, few, length-append found more);
    }

-- the text of the first `blocks` blocks
pub found_text : (lead_in blocks : ℕ) (xs ys us vs : List ℕ) (w v : List (List ℕ))
    (found : List (Option (List ℕ))) → IsFound lead_in blocks xs ys w v found
    → GivesMergedText blocks lead_in (xs ++ us) (ys ++ vs) (cdg_bytes found)
found_text lead_in blocks xs ys us vs w v found f =
    let first : take (blocks * 96) (xs ++ us) ≡ xs =
    take-append-le (blocks * 96) xs us (omega (arith, f.first_size))
    ∙ take_all (blocks * 96) xs (omega (arith, f.first_size)) in
    let second : take (blocks * 96) (ys ++ vs) ≡ ys =
    take-append-le (blocks * 96) ys vs (omega (arith, f.second_size))
    ∙ take_all (blocks * 96) ys (omega (arith, f.second_size)) in (
      bad_count found,
      subst₂ (λ (a b : List ℕ). IsMergedText lead_in a b (cdg_bytes found) (bad_count found)) (sym first)
          (sym second) (merged_text lead_in blocks xs ys found f.first_size f.second_size f.all),
    )

-- ---- Where a merge stops.

-- No further pair of blocks is whole, and no write failed.
pub stops : (lead_in blocks : ℕ) (left left' other other' held held' : Option (List ℕ)) (w v : List (List ℕ))
    (bad : ℕ) (xs ys us vs : List ℕ) (result : Result Merged MergeStop)
    → Works lead_in blocks left left' other other' held held' w v bad xs ys → length us ≤ 96 → length vs ≤ 96
    → (length us < 96) ⊎ (length vs < 96) → blocks * 96 + length us ≤ most_units * 96 + 1
    → blocks * 96 + length vs ≤ most_units * 96 + 1
    → result ≢ Err WriteFault
    → (((a b : ℕ) → a ≡ blocks * 96 + length us → b ≡ blocks * 96 + length vs → IsAnswer lead_in result a b))
    → (((a b : ℕ) → a ≡ blocks * 96 + length us → b ≡ blocks * 96 + length vs → TakesInTurn result a b))
    → IfOk result (λ merged. (text : List ℕ)
    × IsMergedText lead_in (xs ++ us) (ys ++ vs) text merged.bad
    × Appends held held' text)
    → Merges lead_in (from_to held held') result (xs ++ us) (ys ++ vs)
stops lead_in blocks left left' other other' held held' w v bad xs ys us vs result works u_le v_le short
    within within' other_result answer turns done =
    let f = works.is_found in
    let long : length (xs ++ us) ≡ blocks * 96 + length us =
    length-append xs us ∙ ap (λ n. n + length us) f.first_size in
    let long' : length (ys ++ vs) ≡ blocks * 96 + length vs =
    length-append ys vs ∙ ap (λ n. n + length vs) f.second_size in
    let pairs : blocks ≡ min (length (xs ++ us) / 96) (length (ys ++ vs) / 96) = elim short
    [ inl lt ↦ omega (arith, lt, v_le, long, long') | inr lt ↦ omega (arith, lt, u_le, long, long') ] in
    record {
      in_step = (omega (arith, long, long', u_le), omega (arith, long, long', v_le));
      within = (omega (arith, long, within), omega (arith, long', within'));
      turns = turns (length (xs ++ us)) (length (ys ++ vs)) long long';
      answer = answer (length (xs ++ us)) (length (ys ++ vs)) long long';
      done = done;
      put = λ _. (
        cdg_bytes works.found,
        subst (λ n. GivesMergedText n lead_in (xs ++ us) (ys ++ vs) (cdg_bytes works.found)) pairs
            (found_text lead_in blocks xs ys us vs w v works.found f),
        works.put,
      );
      in_turn = λ e. absurd (other_result e);
    }

-- Both inputs are at their end.
pub ends : (lead_in blocks total : ℕ) (left left' other other' held held' : Option (List ℕ))
    (w v : List (List ℕ)) (bad : ℕ) (xs ys us vs : List ℕ)
    → Works lead_in blocks left left' other other' held held' w v bad xs ys → us ≡ [] → vs ≡ []
    → blocks ≤ most_units → total ≡ blocks - lead_in
    → Merges lead_in (from_to held held') (Ok (record { blocks = total; bad = bad })) (xs ++ us) (ys ++ vs)
ends lead_in blocks total left left' other other' held held' w v bad xs ys us vs works u_is v_is within
    total_is =
    let f = works.is_found in
    let first : xs ++ us ≡ xs = ap (λ l. xs ++ l) u_is ∙ append-nil xs in
    let second : ys ++ vs ≡ ys = ap (λ l. ys ++ l) v_is ∙ append-nil ys in
    let text =
    subst₂ (λ (a b : List ℕ). IsMergedText lead_in a b (cdg_bytes works.found) (bad_count works.found))
    (sym first) (sym second)
    (merged_text lead_in blocks xs ys works.found f.first_size f.second_size f.all) in
    stops lead_in blocks left left' other other' held held' w v bad xs ys us vs
    (Ok (record { blocks = total; bad = bad })) works (omega (arith, ap length u_is))
    (omega (arith, ap length v_is)) (inl (omega (arith, ap length u_is)))
    (omega (arith, ap length u_is)) (omega (arith, ap length v_is)) (λ e. (cc))
    (λ a b a_is b_is.
    let none : length us ≡ 0 = ap length u_is in
    let none' : length vs ≡ 0 = ap length v_is in (
      omega (arith, a_is, none, within),
      omega (arith, a_is, b_is, none, none'),
      omega (arith, a_is, none),
      total_is ∙ omega (arith, a_is, none),
    )) (λ a b a_is b_is. tt) (
      cdg_bytes works.found,
      subst (λ n. IsMergedText lead_in (xs ++ us) (ys ++ vs) (cdg_bytes works.found) n) (sym works.bad_is)
          text,
      works.put,
    )

-- A stop that occurred while a pair or the end was read.
pub record IsShort (us vs : List ℕ) (stop : MergeStop) : Type 0 where
  pub first : length us ≤ 96
  pub second : length vs ≤ 96
  pub short : (length us < 96) ⊎ (length vs < 96)
  pub is_other : stop ≢ WriteFault

half_size : (left : Option (List ℕ)) (us : List ℕ) → IsHalfRead left us → length us ≤ 96
half_size left us half =
    elim half [ inl whole ↦ omega (arith, whole) | inr none ↦ omega (arith, ap length none.0) ]

pub short_pair : (blocks : ℕ) (left other : Option (List ℕ)) (stop : MergeStop) (us vs : List ℕ)
    → IsPairRead blocks (Err stop) (taken_of us left) (taken_of vs other)
    → IsShort us vs stop
short_pair blocks left other FirstFault us vs read = record {
  first = omega (arith, read.0);
  second = omega (arith, ap length read.1);
  short = inl read.0;
  is_other = λ e. (cc);
}
short_pair blocks left other SecondFault us vs read = record {
  first = half_size left us read.0;
  second = omega (arith, read.1);
  short = inr read.1;
  is_other = λ e. (cc);
}
short_pair blocks left other WriteFault us vs read = absurd read
short_pair blocks left other TooLong us vs read = absurd read
short_pair blocks left other (Torn n) us vs read = record {
  first = omega (arith, read.2);
  second = omega (arith, ap length read.3);
  short = inl read.2;
  is_other = λ e. (cc);
}
short_pair blocks left other (SecondTorn n) us vs read = record {
  first = half_size left us read.1;
  second = omega (arith, read.3);
  short = inr read.3;
  is_other = λ e. (cc);
}
short_pair blocks left other (Unequal n) us vs read =
    elim read.1 [
      | inl first ↦ record {
        first = omega (arith, first.0);
        second = omega (arith, ap length first.1);
        short = inr (omega (arith, ap length first.1));
        is_other = λ e. (cc);
      }
      | inr second ↦ record {
        first = omega (arith, ap length second.0);
        second = omega (arith, second.1);
        short = inl (omega (arith, ap length second.0));
        is_other = λ e. (cc);
      }
    ]

short_end : (left other : Option (List ℕ)) (stop : MergeStop) (us vs : List ℕ)
    → IsEndRead (Err stop) (taken_of us left) (taken_of vs other)
    → (length us ≤ 1) × (length vs ≤ 1) × (stop ≢ WriteFault)
short_end left other FirstFault us vs read =
    (omega (arith, ap length read.0), omega (arith, ap length read.1), λ e. (cc))
short_end left other SecondFault us vs read =
    (omega (arith, ap length read.0), omega (arith, ap length read.1), λ e. (cc))
short_end left other TooLong us vs read =
    elim read [
      | inl first ↦ (omega (arith, first.0), omega (arith, ap length first.1), λ e. (cc))
      | inr second ↦ (omega (arith, ap length second.0), omega (arith, second.1), λ e. (cc))
    ]
short_end left other WriteFault us vs read = absurd read
short_end left other (Torn n) us vs read = absurd read
short_end left other (SecondTorn n) us vs read = absurd read
short_end left other (Unequal n) us vs read = absurd read

-- The bytes were consumed in turn.
whole_turns : (blocks a b : ℕ) (left : Option (List ℕ)) (us vs : List ℕ) → a ≡ blocks * 96 + length us
    → b ≡ blocks * 96 + length vs
    → IsHalfRead left us
    → length vs < 96
    → (a % 96 ≡ 0) × (b < a + 96)
whole_turns blocks a b left us vs a_is b_is half short =
    elim half [
      | inl whole ↦ (omega (arith, a_is, whole), omega (arith, a_is, b_is, short))
      | inr none ↦ (omega (arith, a_is, ap length none.0), omega (arith, a_is, b_is, short))
    ]

pub pair_turns : (blocks a b : ℕ) (left other : Option (List ℕ)) (stop : MergeStop) (us vs : List ℕ)
    → a ≡ blocks * 96 + length us → b ≡ blocks * 96 + length vs
    → blocks < most_units → IsPairRead blocks (Err stop) (taken_of us left) (taken_of vs other)
    → TakesInTurn (Err stop) a b
pair_turns blocks a b left other FirstFault us vs a_is b_is lt read =
    (omega (arith, a_is, b_is, read.0, ap length read.1), omega (arith, a_is, read.0, lt))
pair_turns blocks a b left other SecondFault us vs a_is b_is lt read =
    let turns = whole_turns blocks a b left us vs a_is b_is read.0 read.1 in
    (turns.0, turns.1, omega (arith, b_is, read.1, lt))
pair_turns blocks a b left other WriteFault us vs a_is b_is lt read = tt
pair_turns blocks a b left other TooLong us vs a_is b_is lt read = tt
pair_turns blocks a b left other (Torn n) us vs a_is b_is lt read =
    omega (arith, a_is, b_is, read.2, ap length read.3)
pair_turns blocks a b left other (SecondTorn n) us vs a_is b_is lt read =
    whole_turns blocks a b left us vs a_is b_is read.1 read.3
pair_turns blocks a b left other (Unequal n) us vs a_is b_is lt read = tt

pub end_turns : (blocks a b : ℕ) (left other : Option (List ℕ)) (stop : MergeStop) (us vs : List ℕ)
    → a ≡ blocks * 96 + length us → b ≡ blocks * 96 + length vs
    → blocks ≡ most_units → IsEndRead (Err stop) (taken_of us left) (taken_of vs other)
    → TakesInTurn (Err stop) a b
end_turns blocks a b left other FirstFault us vs a_is b_is all read = (
  omega (arith, a_is, b_is, ap length read.0, ap length read.1),
  omega (arith, a_is, ap length read.0, all),
)
end_turns blocks a b left other SecondFault us vs a_is b_is all read = (
  omega (arith, a_is, ap length read.0),
  omega (arith, a_is, b_is, ap length read.0, ap length read.1),
  omega (arith, b_is, ap length read.1, all),
)
end_turns blocks a b left other WriteFault us vs a_is b_is all read = tt
end_turns blocks a b left other TooLong us vs a_is b_is all read = tt
end_turns blocks a b left other (Torn n) us vs a_is b_is all read = absurd read
end_turns blocks a b left other (SecondTorn n) us vs a_is b_is all read = absurd read
end_turns blocks a b left other (Unequal n) us vs a_is b_is all read = tt

pub pair_stops : (lead_in blocks : ℕ) (left left' left'' other other' other'' held held' : Option (List ℕ))
    (w v : List (List ℕ)) (bad : ℕ) (xs ys us vs : List ℕ) (stop : MergeStop)
    → Works lead_in blocks left left' other other' held held' w v bad xs ys
    → IsPairRead blocks (Err stop) (taken_of us left'') (taken_of vs other'') → blocks < most_units
    → Merges lead_in (from_to held held') (Err stop) (xs ++ us) (ys ++ vs)
pair_stops lead_in blocks left left' left'' other other' other'' held held' w v bad xs ys us vs stop works
    read lt =
    let is = short_pair blocks left'' other'' stop us vs read in
    stops lead_in blocks left left' other other' held held' w v bad xs ys us vs (Err stop) works is.first
    is.second is.short (omega (arith, is.first, lt)) (omega (arith, is.second, lt))
    (λ e. is.is_other (let same : stop ≡ WriteFault = cc in same))
    (λ a b a_is b_is. pair_answer lead_in blocks a b left'' other'' stop us vs
    (taken_exactly a _ left'' a_is) (taken_exactly b _ other'' b_is) lt read)
    (λ a b a_is b_is. pair_turns blocks a b left'' other'' stop us vs a_is b_is lt read) tt

end_stops : (lead_in blocks : ℕ) (left left' left'' other other' other'' held held' : Option (List ℕ))
    (w v : List (List ℕ)) (bad : ℕ) (xs ys us vs : List ℕ) (stop : MergeStop)
    → Works lead_in blocks left left' other other' held held' w v bad xs ys
    → IsEndRead (Err stop) (taken_of us left'') (taken_of vs other'') → blocks ≡ most_units
    → Merges lead_in (from_to held held') (Err stop) (xs ++ us) (ys ++ vs)
end_stops lead_in blocks left left' left'' other other' other'' held held' w v bad xs ys us vs stop works
    read all =
    let (one, two, is_other) = short_end left'' other'' stop us vs read in
    stops lead_in blocks left left' other other' held held' w v bad xs ys us vs (Err stop) works
    (omega (arith, one)) (omega (arith, two)) (inl (omega (arith, one))) (omega (arith, one, all))
    (omega (arith, two, all)) (λ e. is_other (let same : stop ≡ WriteFault = cc in same))
    (λ a b a_is b_is. end_answer lead_in blocks a b left'' other'' stop us vs
    (taken_exactly a _ left'' a_is) (taken_exactly b _ other'' b_is) all read)
    (λ a b a_is b_is. end_turns blocks a b left'' other'' stop us vs a_is b_is all read) tt

-- The answer for both whole inputs.
pub pair_of_whole : (lead_in blocks : ℕ) (left left' left'' other other' other'' held held' : Option (List ℕ))
    (w v : List (List ℕ)) (bad : ℕ) (xs ys us vs : List ℕ) (stop : MergeStop)
    → Works lead_in blocks left left' other other' held held' w v bad xs ys → Consumes left' left'' us
    → Consumes other' other'' vs → IsPairRead blocks (Err stop) (taken_of us left'') (taken_of vs other'')
    → blocks < most_units
    → IfSome left (λ all. IfSome other (λ every. IsAnswer lead_in (Err stop) (length all) (length every)))
pair_of_whole lead_in blocks left left' left'' other other' other'' held held' w v bad xs ys us vs stop works
    first second read lt =
    whole_answer (IsAnswer lead_in (Err stop)) left left' left'' other other' other'' xs ys us vs
    (blocks * 96) works.first_taken first works.second_taken second works.is_found.first_size
    works.is_found.second_size
    (λ a b a_is b_is. pair_answer lead_in blocks a b left'' other'' stop us vs a_is b_is lt read)

end_of_whole : (lead_in blocks : ℕ) (left left' left'' other other' other'' held held' : Option (List ℕ))
    (w v : List (List ℕ)) (bad : ℕ) (xs ys us vs : List ℕ) (stop : MergeStop)
    → Works lead_in blocks left left' other other' held held' w v bad xs ys → Consumes left' left'' us
    → Consumes other' other'' vs → IsEndRead (Err stop) (taken_of us left'') (taken_of vs other'')
    → blocks ≡ most_units
    → IfSome left (λ all. IfSome other (λ every. IsAnswer lead_in (Err stop) (length all) (length every)))
end_of_whole lead_in blocks left left' left'' other other' other'' held held' w v bad xs ys us vs stop works
    first second read all =
    whole_answer (IsAnswer lead_in (Err stop)) left left' left'' other other' other'' xs ys us vs
    (blocks * 96) works.first_taken first works.second_taken second works.is_found.first_size
    works.is_found.second_size
    (λ a b a_is b_is. end_answer lead_in blocks a b left'' other'' stop us vs a_is b_is all read)

pub both_of_whole : (lead_in blocks total answered : ℕ)
    (left left' left'' other other' other'' held held' : Option (List ℕ)) (w v : List (List ℕ)) (bad : ℕ)
    (xs ys us vs : List ℕ)
    → Works lead_in blocks left left' other other' held held' w v bad xs ys → Consumes left' left'' us
    → Consumes other' other'' vs → us ≡ [] → vs ≡ [] → IsAtEnd left'' → IsAtEnd other'' → blocks ≤ most_units
    → total ≡ blocks - lead_in
    → IfSome left (λ all. IfSome other
    (λ every. IsAnswer lead_in (Ok (record { blocks = total; bad = answered })) (length all) (length every)))
both_of_whole lead_in blocks total answered left left' left'' other other' other'' held held' w v bad xs ys us
    vs works first second u_is v_is end end' within total_is =
    whole_answer (IsAnswer lead_in (Ok (record { blocks = total; bad = answered }))) left left' left'' other
    other' other'' xs ys us vs (blocks * 96) works.first_taken first works.second_taken second
    works.is_found.first_size works.is_found.second_size
    (λ a b a_is b_is.
    let none : length us ≡ 0 = ap length u_is in
    let none' : length vs ≡ 0 = ap length v_is in
    let one : a ≡ blocks * 96 + length us = a_is.at_end end in
    let two : b ≡ blocks * 96 + length vs = b_is.at_end end' in (
      omega (arith, one, none, within),
      omega (arith, one, two, none, none'),
      omega (arith, one, none),
      total_is ∙ omega (arith, one, none),
    ))

-- ---- The reads after all blocks, for each result.

pub short_reads : (left other : Option (List ℕ)) (result : Result Merged MergeStop) (us vs : List ℕ)
    → IsEndRead result (taken_of us left) (taken_of vs other)
    → (length us ≤ 1) × (length vs ≤ 1)
short_reads left other (Ok merged) us vs read =
    (omega (arith, ap length read.0), omega (arith, ap length read.1))
short_reads left other (Err stop) us vs read =
    let short = short_end left other stop us vs read in
    (short.0, short.1)

pub merges_at_end : (lead_in blocks total : ℕ)
    (left left' left'' other other' other'' held held' : Option (List ℕ)) (w v : List (List ℕ)) (bad : ℕ)
    (xs ys us vs : List ℕ) (result : Result Merged MergeStop)
    → Works lead_in blocks left left' other other' held held' w v bad xs ys
    → IfOk result (λ merged. merged ≡ record { blocks = total; bad = bad })
    → IsEndRead result (taken_of us left'') (taken_of vs other'') → blocks ≡ most_units
    → total ≡ most_units - lead_in
    → Merges lead_in (from_to held held') result (xs ++ us) (ys ++ vs)
merges_at_end lead_in blocks total left left' left'' other other' other'' held held' w v bad xs ys us vs
    (Ok merged) works is read all total_is =
    subst (λ (m : Merged). Merges lead_in (from_to held held') (Ok m) (xs ++ us) (ys ++ vs)) (sym is)
    (ends lead_in blocks total left left' other other' held held' w v bad xs ys us vs works read.0 read.1
    (omega (arith, all)) (omega (arith, all, total_is)))
merges_at_end lead_in blocks total left left' left'' other other' other'' held held' w v bad xs ys us vs
    (Err stop) works is read all total_is =
    end_stops lead_in blocks left left' left'' other other' other'' held held' w v bad xs ys us vs stop works
    read all

pub answer_at_end : (lead_in blocks total : ℕ)
    (left left' left'' other other' other'' held held' : Option (List ℕ)) (w v : List (List ℕ)) (bad : ℕ)
    (xs ys us vs : List ℕ) (result : Result Merged MergeStop)
    → Works lead_in blocks left left' other other' held held' w v bad xs ys
    → Consumes left' left'' us → Consumes other' other'' vs
    → IfOk result (λ merged. merged ≡ record { blocks = total; bad = bad })
    → IsEndRead result (taken_of us left'') (taken_of vs other'') → blocks ≡ most_units
    → total ≡ most_units - lead_in
    → IfSome left (λ all. IfSome other (λ every. IsAnswer lead_in result (length all) (length every)))
answer_at_end lead_in blocks total left left' left'' other other' other'' held held' w v bad xs ys us vs
    (Ok merged) works first second is read all total_is =
    subst (λ (m : Merged).
    IfSome left (λ whole. IfSome other (λ every. IsAnswer lead_in (Ok m) (length whole) (length every))))
    (sym is)
    (both_of_whole lead_in blocks total bad left left' left'' other other' other'' held held' w v bad xs ys us
    vs works first second read.0 read.1 read.2 read.3 (omega (arith, all)) (omega (arith, all, total_is)))
answer_at_end lead_in blocks total left left' left'' other other' other'' held held' w v bad xs ys us vs
    (Err stop) works first second is read all total_is =
    end_of_whole lead_in blocks left left' left'' other other' other'' held held' w v bad xs ys us vs stop
    works first second read all

-- The results for a pair of program blocks, and their text.
pub record IsPairFound (w v : List (List ℕ)) (us vs : List ℕ) (w' v' : List (List ℕ)) (text : List ℕ)
    (bad : ℕ) : Type 0 where
  pub first_window : w' ≡ window_after w (leading_slots 4 us)
  pub second_window : v' ≡ window_after v (leading_slots 4 vs)
  pub found : List (Option (List ℕ))
  pub all : AreAgreements (words_after w (leading_slots 4 us)) (words_after v (leading_slots 4 vs)) found
  pub text_is : text ≡ cdg_bytes found
  pub bad_is : bad ≡ bad_count found
  pub few : length found ≤ 4

-- one more pair of program blocks
pub works_more : (lead_in blocks : ℕ)
    (left left' left'' other other' other'' held held' held'' : Option (List ℕ)) (w v w' v' : List (List ℕ))
    (bad more : ℕ) (xs ys us vs text : List ℕ)
    → Works lead_in blocks left left' other other' held held' w v bad xs ys → Consumes left' left'' us
    → Consumes other' other'' vs → length us ≡ 96 → length vs ≡ 96 → lead_in ≤ blocks
    → IsPairFound w v us vs w' v' text more → Appends held' held'' text → (total : ℕ) → total ≡ bad + more
    → Works lead_in (blocks + 1) left left'' other other'' held held'' w' v' total (xs ++ us) (ys ++ vs)
works_more lead_in blocks left left' left'' other other' other'' held held' held'' w v w' v' bad more xs ys us
    vs text works first second u_size v_size le pair put total total_is = record {
      first_taken = Consumes-trans left left' left'' xs us works.first_taken first;
      second_taken = Consumes-trans other other' other'' ys vs works.second_taken second;
      found = works.found ++ pair.found;
      is_found =
          found_more lead_in blocks xs ys us vs w v w' v' works.found pair.found works.is_found le u_size
          v_size
          pair.first_window pair.second_window pair.all pair.few;
      put =
          subst (Appends held held'')
          (ap (λ l. cdg_bytes works.found ++ l) pair.text_is ∙ sym (text-append works.found pair.found))
          (Appends-trans held held' held'' (cdg_bytes works.found) text works.put put);
      bad_is =
          total_is ∙ ap₂ (λ m n. m + n) works.bad_is pair.bad_is ∙ sym (bad-append works.found pair.found);
    }

-- one more pair of blocks of the lead-in
pub works_skipped : (lead_in blocks : ℕ) (left left' left'' other other' other'' held held' : Option (List ℕ))
    (w v : List (List ℕ)) (bad : ℕ) (xs ys us vs : List ℕ)
    → Works lead_in blocks left left' other other' held held' w v bad xs ys → Consumes left' left'' us
    → Consumes other' other'' vs → length us ≡ 96 → length vs ≡ 96 → blocks < lead_in
    → Works lead_in (blocks + 1) left left'' other other'' held held' w v bad (xs ++ us) (ys ++ vs)
works_skipped lead_in blocks left left' left'' other other' other'' held held' w v bad xs ys us vs works first
    second u_size v_size lt = record {
      first_taken = Consumes-trans left left' left'' xs us works.first_taken first;
      second_taken = Consumes-trans other other' other'' ys vs works.second_taken second;
      found = works.found;
      is_found = found_skipped lead_in blocks xs ys us vs w v works.found works.is_found lt u_size v_size;
      put = works.put;
      bad_is = works.bad_is;
    }

-- A write failed within the text of the last pair.
pub write_stops : (lead_in blocks : ℕ)
    (left left' other other' held held' held'' : Option (List ℕ)) (w v w' v' : List (List ℕ))
    (bad more : ℕ) (xs ys us vs text : List ℕ)
    → Works lead_in blocks left left' other other' held held' w v bad xs ys → length us ≡ 96 → length vs ≡ 96
    → lead_in ≤ blocks → blocks < most_units
    → IsPairFound w v us vs w' v' text more → AppendsPrefix held' held'' text
    → Merges lead_in (from_to held held'') (Err WriteFault) (xs ++ us) (ys ++ vs)
write_stops lead_in blocks left left' other other' held held' held'' w v w' v' bad more xs ys us vs text works
    u_size v_size le lt pair put =
    let f = works.is_found in
    let next =
    found_more lead_in blocks xs ys us vs w v w' v' works.found pair.found f le u_size v_size
    pair.first_window pair.second_window pair.all pair.few in
    let low = cdg_bytes works.found in
    let high = cdg_bytes (works.found ++ pair.found) in
    let grown : high ≡ low ++ text =
    text-append works.found pair.found ∙ ap (λ l. low ++ l) (sym pair.text_is) in
    let whole =
    found_text lead_in (blocks + 1) (xs ++ us) (ys ++ vs) [] [] w' v' (works.found ++ pair.found) next in
    record {
      in_step = (
        omega (arith, next.first_size, next.second_size),
        omega (arith, next.first_size, next.second_size),
      );
      within = (omega (arith, next.first_size, lt), omega (arith, next.second_size, lt));
      turns = tt;
      answer = tt;
      done = tt;
      put = λ e. absurd (e refl);
      in_turn = λ e. (
        blocks,
        lt,
        next.first_size,
        next.second_size,
        (
          low,
          high,
          found_text lead_in blocks xs ys us vs w v works.found f,
          subst₂ (λ (a b : List ℕ). GivesMergedText (blocks + 1) lead_in a b high) (append-nil (xs ++ us))
              (append-nil (ys ++ vs)) whole,
          between held held'' low text high put.0 grown
              (Appends-trans held held' held'' low (take put.0 text) works.put put.2),
        ),
      );
    }

-- the results of the code for the blocks that it read
pub pair_found : (w v : List (List ℕ)) (one other us vs : List ℕ) (w' v' w'' v'' : List (List ℕ))
    (text bytes : List ℕ) (bad : ℕ) → us ≡ one → vs ≡ other → length us ≡ 96 → length vs ≡ 96
    → w'' ≡ w' → v'' ≡ v' → bytes ≡ text
    → w' ≡ slots_after_block w one → v' ≡ slots_after_block v other
    → (found : List (Option (List ℕ)))
    × AreAgreements (words_from_block w one) (words_from_block v other) found
    × (text ≡ cdg_bytes found)
    × (bad ≡ bad_count found)
    × (length found ≤ 4)
    → IsPairFound w v us vs w'' v'' bytes bad
pair_found w v one other us vs w' v' w'' v'' text bytes bad u_is v_is u_size v_size w_is v_is' bytes_is first
    second (found, all, text_is, bad_is, few) = record {
      first_window =
          window_is w w'' us u_size (w_is ∙ first ∙ ap (λ l. slots_after_block w l) (sym u_is));
      second_window =
          window_is v v'' vs v_size (v_is' ∙ second ∙ ap (λ l. slots_after_block v l) (sym v_is));
      found = found;
      all =
          subst₂ (λ (a b : List (List ℕ)). AreAgreements a b found)
          (ap (λ l. words_from_block w l) (sym u_is) ∙ words_are_after w us u_size)
          (ap (λ l. words_from_block v l) (sym v_is) ∙ words_are_after v vs v_size) all;
      text_is = bytes_is ∙ text_is;
      bad_is = bad_is;
      few = few;
    }

-- the same after a branch that changed nothing
pub skipped_as : (lead_in blocks : ℕ)
    (left left' left'' other other' other'' held held' held'' : Option (List ℕ)) (s s' : Windows)
    (bad bad' : ℕ)
    (xs ys us vs : List ℕ)
    → Works lead_in blocks left left' other other' held held' s.first s.second bad xs ys
    → Consumes left' left'' us → Consumes other' other'' vs → length us ≡ 96 → length vs ≡ 96
    → blocks < lead_in
    → held'' ≡ held' → s' ≡ s → bad' ≡ bad
    → Works lead_in (blocks + 1) left left'' other other'' held held'' s'.first s'.second bad' (xs ++ us)
    (ys ++ vs)
skipped_as lead_in blocks left left' left'' other other' other'' held held' held'' s s' bad bad' xs ys us vs
    works first second u_size v_size lt held_is s_is bad_is =
    let next =
    works_skipped lead_in blocks left left' left'' other other' other'' held held' s.first s.second bad xs ys
    us vs works first second u_size v_size lt in
    subst (λ h.
    Works lead_in (blocks + 1) left left'' other other'' held h s'.first s'.second bad' (xs ++ us) (ys ++ vs))
    (sym held_is)
    (subst₂ (λ (t : Windows) (n : ℕ).
    Works lead_in (blocks + 1) left left'' other other'' held held' t.first t.second n (xs ++ us) (ys ++ vs))
    (sym s_is) (sym bad_is) next)
