-- Words and blocks counted one after another.
use Rattle.std.proofs.Common.{◌≡◌, ℕ, zero, suc, ◌+◌, ◌-◌, ◌^◌, ◌<◌, ◌≤◌, Bool, true, false, List, [], ◌∷◌, ◌++◌, length, get_or, map, take, Some, refl, sym, ap, ap₂, ◌∙◌, arith}
use Rattle.std.specs.Prelude.{if◌then◌else◌, min, count_by, is_none, is_ok, is_err, replicate, Result}
use Rattle.std.specs.declared.option.Option.{Option}
use Rattle.std.specs.List.{zip}
use Rattle.std.proofs.lemmas.List.{take_more}
use Rattle.std.proofs.lemmas.List.Sums.{sum_by-cons}
use Rattle.arrayvec.specs.ArrayVec.{ArrayVec}
use Rattle.cdg_io.specs.Run.{run_state}
use Rattle.cdg_io.specs.declared.stage.Then.{Then}
use Rattle.cdg_io.proofs.Runs.{then_next}
use Rattle.rw_code.specs.Codeword.{IsCodeword, IsWord, differences}
use Rattle.rw_code.specs.Packs.{idle_pack}
use Rattle.rw_code.specs.Finding.{finding}
use Rattle.raw_subcode.specs.Channels.{q_bits}
use Rattle.q_channel.specs.ReadingOf.{reading_of}
use Rattle.q_channel.specs.declared.frame.QFrame.{QFrame}
use Rattle.q_channel.specs.declared.frame.QFault.{QFault}
use Rattle.stream_stages.proofs.Recovers.{found_itself, found_some}
use Rattle.stream_stages.specs.Steps.{words_next, words_give}
use Rattle.stream_stages.specs.Check.{has_wrong, found_passes, is_idle, is_graphics, is_unknown, is_foreign}
use Rattle.stream_stages.specs.CheckSteps.{tick, near_counted, with_near, wrong_counted, kind_counted, count_found, count_next, count_after, counts_next, frames_next, counting_next}
use Rattle.stream_stages.specs.declared.block_words.BlockWords.{BlockWords}
use Rattle.stream_stages.specs.declared.counting.NearIdle.{NearIdle}
use Rattle.stream_stages.specs.declared.counting.WordCounts.{WordCounts}
use Rattle.stream_stages.specs.declared.counting.FrameCounts.{FrameCounts}
use Rattle.stream_stages.specs.declared.counting.Counting.{Counting}
use Rattle.stream_stages.proofs.StageRuns.{all_items}

-- a word that is near a codeword
pub fixed_counted : (s : WordCounts) (word codeword : List ℕ) (wrong mode code : ℕ)
    → wrong ≡ differences word codeword → mode ≡ get_or codeword 0 0 → code ≡ get_or codeword 1 0
    → kind_counted (wrong_counted s wrong) mode code ≡ count_found s word (Some codeword)
unfolding count_found tick
fixed_counted s word codeword wrong mode code w m c =
    ap (λ n. kind_counted (wrong_counted s n) mode code) w
    ∙ ap (λ n. kind_counted (wrong_counted s (differences word codeword)) n code) m
    ∙ ap (λ n. kind_counted (wrong_counted s (differences word codeword)) (get_or codeword 0 0) n) c

-- an idle word
pub idle_counted : (s : WordCounts) (word : List ℕ) → word ≡ replicate 24 0
    → record s { clean = tick true s.clean; idle = tick true s.idle } ≡ count_found s word (Some word)
unfolding count_found tick differences
idle_counted s word zeros = sym (ap (λ (w : List ℕ). count_found s w (Some w)) zeros)

-- ---- words that are corrected to the idle pack, counted together at the end

later_hit : (hit : Bool) (n c : ℕ) → tick hit (min (n + c) (2 ^ 32 - 1)) ≡ min (tick hit n + c) (2 ^ 32 - 1)
unfolding tick
later_hit true n c = omega arith
later_hit false n c = refl

-- another word may be counted before them
near_later : (s : WordCounts) (near : NearIdle) (word : List ℕ) (found : Option (List ℕ))
    → count_found (with_near s near) word found ≡ with_near (count_found s word found) near
unfolding count_found
near_later s near word found = λ i. record {
  clean = later_hit (has_wrong 0 (word, found)) s.clean near.clean i;
  one = later_hit (has_wrong 1 (word, found)) s.one near.one i;
  two = later_hit (has_wrong 2 (word, found)) s.two near.two i;
  bad = tick (is_none found) s.bad;
  idle = later_hit (found_passes is_idle found) s.idle (near.clean + near.one + near.two) i;
  graphics = tick (found_passes is_graphics found) s.graphics;
  unknown = tick (found_passes is_unknown found) s.unknown;
  foreign = tick (found_passes is_foreign found) s.foreign;
}

one_more : (n c : ℕ) → min (n + (c + 1)) (2 ^ 32 - 1) ≡ min (min (n + c) (2 ^ 32 - 1) + 1) (2 ^ 32 - 1)
one_more n c = omega arith

none_more : (n c : ℕ) → min (n + (c + 0)) (2 ^ 32 - 1) ≡ min (n + c) (2 ^ 32 - 1)
none_more n c = omega arith

idle_one : (n a b c x y z : ℕ) → x + y + z ≡ 1 → min (n + (a + x + (b + y) + (c + z))) (2 ^ 32 - 1)
    ≡ min (min (n + (a + b + c)) (2 ^ 32 - 1) + 1) (2 ^ 32 - 1)
idle_one n a b c x y z one = omega (arith, one)

near_one : (s : WordCounts) (near : NearIdle) (wrong : ℕ) → wrong ≤ 2
    → with_near s (near_counted near wrong) ≡ kind_counted (wrong_counted (with_near s near) wrong) 0 0
unfolding tick
near_one s near zero few = λ i. record {
  clean = one_more s.clean near.clean i;
  one = none_more s.one near.one i;
  two = none_more s.two near.two i;
  bad = s.bad;
  idle = idle_one s.idle near.clean near.one near.two 1 0 0 refl i;
  graphics = s.graphics;
  unknown = s.unknown;
  foreign = s.foreign;
}
near_one s near (suc zero) few = λ i. record {
  clean = none_more s.clean near.clean i;
  one = one_more s.one near.one i;
  two = none_more s.two near.two i;
  bad = s.bad;
  idle = idle_one s.idle near.clean near.one near.two 0 1 0 refl i;
  graphics = s.graphics;
  unknown = s.unknown;
  foreign = s.foreign;
}
near_one s near (suc (suc zero)) few = λ i. record {
  clean = none_more s.clean near.clean i;
  one = none_more s.one near.one i;
  two = one_more s.two near.two i;
  bad = s.bad;
  idle = idle_one s.idle near.clean near.one near.two 0 0 1 refl i;
  graphics = s.graphics;
  unknown = s.unknown;
  foreign = s.foreign;
}
near_one s near (suc (suc (suc n))) few = absurd (omega (arith, few))

-- one word near the idle pack
pub near_step : (s : WordCounts) (near : NearIdle) (word : List ℕ) (wrong : ℕ) → IsCodeword idle_pack
    → IsWord word → wrong ≡ differences word idle_pack → wrong ≤ 2
    → with_near s (near_counted near wrong) ≡ count_next (with_near s near) word
near_step s near word wrong codeword is same few =
    near_one s near wrong few ∙ fixed_counted (with_near s near) word idle_pack wrong 0 0 same refl refl
    ∙ ap (count_found (with_near s near) word)
    (found_some word idle_pack is (record { is_codeword = codeword; is_near = omega (arith, same, few) }))

-- another word
pub other_step : (s new : WordCounts) (near : NearIdle) (word : List ℕ) → new ≡ count_next s word
    → with_near new near ≡ count_next (with_near s near) word
other_step s new near word is =
    ap (λ (t : WordCounts). with_near t near) is ∙ sym (near_later s near word (finding word))

-- the count of words near the idle pack
pub near_few : (near : NearIdle) (wrong n : ℕ) → wrong ≤ 2 → near.clean + near.one + near.two ≤ n
    → (near_counted near wrong).clean + (near_counted near wrong).one + (near_counted near wrong).two ≤ n + 1
near_few near zero n few before = omega (arith, before)
near_few near (suc zero) n few before = omega (arith, before)
near_few near (suc (suc zero)) n few before = omega (arith, before)
near_few near (suc (suc (suc m))) n few before = absurd (omega (arith, few))

none_near : (n : ℕ) → n < 2 ^ 32 → min (n + 0) (2 ^ 32 - 1) ≡ n
none_near n fits = omega (arith, fits)

-- no such words
pub near_none : (s : WordCounts) → s.clean < 2 ^ 32 → s.one < 2 ^ 32 → s.two < 2 ^ 32 → s.idle < 2 ^ 32
    → with_near s (record { clean = 0; one = 0; two = 0 }) ≡ s
near_none s clean one two idle = λ i. record {
  clean = none_near s.clean clean i;
  one = none_near s.one one i;
  two = none_near s.two two i;
  bad = s.bad;
  idle = none_near s.idle idle i;
  graphics = s.graphics;
  unknown = s.unknown;
  foreign = s.foreign;
}

-- ---- four idle words

idle_next : (s t : WordCounts) → IsCodeword (replicate 24 0)
    → t ≡ record s { clean = tick true s.clean; idle = tick true s.idle }
    → t ≡ count_next s (replicate 24 0)
idle_next s t is step =
    step
    ∙ idle_counted s (replicate 24 0) refl
    ∙ ap (count_found s (replicate 24 0)) (found_itself (replicate 24 0) is)

pub four_idle : (s a b c d : WordCounts) → IsCodeword (replicate 24 0)
    → a ≡ record s { clean = tick true s.clean; idle = tick true s.idle }
    → b ≡ record a { clean = tick true a.clean; idle = tick true a.idle }
    → c ≡ record b { clean = tick true b.clean; idle = tick true b.idle }
    → d ≡ record c { clean = tick true c.clean; idle = tick true c.idle }
    → d ≡ count_after s (replicate 4 (replicate 24 0))
unfolding count_after
four_idle s a b c d is first second third fourth =
    let next : WordCounts → WordCounts = λ (t : WordCounts). count_next t (replicate 24 0) in
    idle_next c d is fourth
    ∙ ap next (idle_next b c is third ∙ ap next (idle_next a b is second ∙ ap next (idle_next s a is first)))

-- ---- a loop over words

count_append : (s : WordCounts) (words others : List (List ℕ))
    → count_after s (words ++ others) ≡ count_after (count_after s words) others
unfolding count_after
count_append s [] others = refl
count_append s (w ∷ words) others = count_append (count_next s w) words others

count_more : (s : WordCounts) (words : List (List ℕ)) (word : List ℕ)
    → count_after s (words ++ word ∷ []) ≡ count_next (count_after s words) word
unfolding count_after
count_more s [] word = refl
count_more s (w ∷ words) word = count_more (count_next s w) words word

pub count_step : (words : List (List ℕ)) (i : ℕ) (word : List ℕ) (start old new : WordCounts)
    → i < length words → word ≡ get_or words i word → old ≡ count_after start (take i words)
    → new ≡ count_next old word
    → new ≡ count_after start (take (i + 1) words)
count_step words i word start old new lt is done step =
    step
    ∙ ap (λ (s : WordCounts). count_next s word) done
    ∙ sym (count_more start (take i words) word)
    ∙ ap (count_after start) (sym (take_more words i word lt ∙ ap (λ w. take i words ++ w ∷ []) (sym is)))

pub counted_none_yet : (start : WordCounts) → start ≡ count_after start []
unfolding count_after
counted_none_yet start = refl

pub counts_run : (s : WordCounts) (vs : List (ArrayVec (List ℕ)))
    → run_state counts_next s vs ≡ count_after s (all_items vs)
unfolding counts_next count_after
counts_run s [] = refl
counts_run s (v ∷ vs) = counts_run (count_after s v.items) vs ∙ sym (count_append s v.items (all_items vs))

-- ---- counts of lists

-- the number of passed tests, counted one by one
tally : {A : Type 0} → (A → Bool) → ℕ → List A → ℕ
tally test n [] = n
tally test n (x ∷ xs) = tally test (tick (test x) n) xs

ticked : (hit : Bool) (n : ℕ) → n + 1 < 2 ^ 32 → tick hit n ≡ n + (if hit then 1 else 0)
unfolding tick
ticked true n fits = omega (arith, fits)
ticked false n fits = omega arith

at_most_one : (hit : Bool) → (if hit then 1 else 0) ≤ 1
at_most_one true = omega arith
at_most_one false = omega arith

tally_counts : {A B : Type 0} (test : B → Bool) (f : A → B) (n : ℕ) (xs : List A) → n + length xs < 2 ^ 32
    → tally (λ x. test (f x)) n xs ≡ n + count_by test (map f xs)
unfolding tally
tally_counts test f n [] fits = omega arith
tally_counts {B = B} test f n (x ∷ xs) fits =
    let one : ℕ = if test (f x) then 1 else 0 in
    let step : tick (test (f x)) n ≡ n + one = ticked (test (f x)) n (omega (arith, fits)) in
    let whole : count_by test (map f (x ∷ xs)) ≡ one + count_by test (map f xs) =
    sum_by-cons (λ (y : B). if test y then 1 else 0) (f x) (map f xs) in
    ap (λ k. tally (λ y. test (f y)) k xs) step
    ∙ tally_counts test f (n + one) xs (omega (arith, fits, at_most_one (test (f x))))
    ∙ omega (arith, whole)

-- the counts of words, each by its own test
tallies : (s : WordCounts) (words : List (List ℕ)) → count_after s words ≡ record {
  clean = tally (λ w. has_wrong 0 (w, finding w)) s.clean words;
  one = tally (λ w. has_wrong 1 (w, finding w)) s.one words;
  two = tally (λ w. has_wrong 2 (w, finding w)) s.two words;
  bad = tally (λ w. is_none (finding w)) s.bad words;
  idle = tally (λ w. found_passes is_idle (finding w)) s.idle words;
  graphics = tally (λ w. found_passes is_graphics (finding w)) s.graphics words;
  unknown = tally (λ w. found_passes is_unknown (finding w)) s.unknown words;
  foreign = tally (λ w. found_passes is_foreign (finding w)) s.foreign words;
}
unfolding count_after count_found tally
tallies s [] = refl
tallies s (w ∷ words) = tallies (count_next s w) words

zip_found : (words : List (List ℕ)) → map (λ w. (w, finding w)) words ≡ zip words (map finding words)
zip_found [] = refl
zip_found (w ∷ words) = ap (λ (l : List (List ℕ × Option (List ℕ))). (w, finding w) ∷ l) (zip_found words)

-- ---- blocks

abbrev pub counted_words : Then BlockWords WordCounts → List ℕ → Then BlockWords WordCounts
counted_words s block = then_next words_next words_give counts_next s block

pub counting_words : (s : Counting) (blocks : List (List ℕ))
    → (run_state counting_next s blocks).words ≡ run_state counted_words s.words blocks
unfolding counting_next
counting_words s [] = refl
counting_words s (b ∷ blocks) = counting_words (counting_next s b) blocks

pub counting_frames : (s : Counting) (blocks : List (List ℕ))
    → (run_state counting_next s blocks).frames ≡ run_state frames_next s.frames blocks
unfolding counting_next
counting_frames s [] = refl
counting_frames s (b ∷ blocks) = counting_frames (counting_next s b) blocks

abbrev pub reading_at : List ℕ → Result QFrame QFault
reading_at block = reading_of (q_bits block)

abbrev counts_of_frames : Bool → ℕ → ℕ → FrameCounts
counts_of_frames read good bad = record { read = read; good = good; bad = bad }

frame_tallies : (good bad : ℕ) (blocks : List (List ℕ))
    → run_state frames_next (counts_of_frames true good bad) blocks
    ≡ counts_of_frames true (tally (λ b. is_ok (reading_at b)) good blocks)
    (tally (λ b. is_err (reading_at b)) bad blocks)
unfolding frames_next tally
frame_tallies good bad [] = refl
frame_tallies good bad (b ∷ blocks) =
    frame_tallies (tick (is_ok (reading_at b)) good) (tick (is_err (reading_at b)) bad) blocks

pub frames_read : (blocks : List (List ℕ)) → length blocks ≤ 1000000
    → run_state frames_next (counts_of_frames true 0 0) blocks
    ≡ counts_of_frames true (count_by is_ok (map reading_at blocks)) (count_by is_err (map reading_at blocks))
frames_read blocks few =
    let good : tally (λ b. is_ok (reading_at b)) 0 blocks ≡ count_by is_ok (map reading_at blocks) =
    tally_counts is_ok reading_at 0 blocks (omega (arith, few)) ∙ omega arith in
    let bad : tally (λ b. is_err (reading_at b)) 0 blocks ≡ count_by is_err (map reading_at blocks) =
    tally_counts is_err reading_at 0 blocks (omega (arith, few)) ∙ omega arith in
    frame_tallies 0 0 blocks ∙ ap₂ (counts_of_frames true) good bad

pub frames_not_read : (good bad : ℕ) (blocks : List (List ℕ))
    → run_state frames_next (counts_of_frames false good bad) blocks ≡ counts_of_frames false good bad
unfolding frames_next
frames_not_read good bad [] = refl
frames_not_read good bad (b ∷ blocks) = frames_not_read good bad blocks

-- the words were counted from zero
pub record AreCounted (words : List (List ℕ)) (end : WordCounts) : Type 0 where
  pub clean : end.clean ≡ count_by (has_wrong 0) (zip words (map finding words))
  pub one : end.one ≡ count_by (has_wrong 1) (zip words (map finding words))
  pub two : end.two ≡ count_by (has_wrong 2) (zip words (map finding words))
  pub bad : end.bad ≡ count_by is_none (map finding words)
  pub idle : end.idle ≡ count_by (found_passes is_idle) (map finding words)
  pub graphics : end.graphics ≡ count_by (found_passes is_graphics) (map finding words)
  pub unknown : end.unknown ≡ count_by (found_passes is_unknown) (map finding words)
  pub foreign : end.foreign ≡ count_by (found_passes is_foreign) (map finding words)

abbrev pub no_counts : WordCounts
no_counts = record { clean = 0; one = 0; two = 0; bad = 0; idle = 0; graphics = 0; unknown = 0; foreign = 0 }

wrong_tallied : (n : ℕ) (words : List (List ℕ)) → 0 + length words < 2 ^ 32
    → tally (λ w. has_wrong n (w, finding w)) 0 words ≡ count_by (has_wrong n) (zip words (map finding words))
wrong_tallied n words few =
    tally_counts (has_wrong n) (λ w. (w, finding w)) 0 words few
    ∙ omega arith
    ∙ ap (count_by (has_wrong n)) (zip_found words)

found_counted : (test : Option (List ℕ) → Bool) (words : List (List ℕ)) → 0 + length words < 2 ^ 32
    → tally (λ w. test (finding w)) 0 words ≡ count_by test (map finding words)
found_counted test words few = tally_counts test finding 0 words few ∙ omega arith

pub are_counted : (words : List (List ℕ)) → 0 + length words < 2 ^ 32
    → AreCounted words (count_after no_counts words)
are_counted words few =
    let e = tallies no_counts words in
    record {
      clean = ap (λ (s : WordCounts). s.clean) e ∙ wrong_tallied 0 words few;
      one = ap (λ (s : WordCounts). s.one) e ∙ wrong_tallied 1 words few;
      two = ap (λ (s : WordCounts). s.two) e ∙ wrong_tallied 2 words few;
      bad = ap (λ (s : WordCounts). s.bad) e ∙ found_counted is_none words few;
      idle = ap (λ (s : WordCounts). s.idle) e ∙ found_counted (found_passes is_idle) words few;
      graphics = ap (λ (s : WordCounts). s.graphics) e ∙ found_counted (found_passes is_graphics) words few;
      unknown = ap (λ (s : WordCounts). s.unknown) e ∙ found_counted (found_passes is_unknown) words few;
      foreign = ap (λ (s : WordCounts). s.foreign) e ∙ found_counted (found_passes is_foreign) words few;
    }
