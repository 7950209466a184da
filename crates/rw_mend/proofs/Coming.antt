-- A mender reads the words of the readings one after another.
use Rattle.std.proofs.Common.{◌≡◌, ℕ, suc, ◌+◌, ◌/◌, ◌<◌, ◌≤◌, List, length, get_or, take, replicate, sym, ap, ◌∙◌, subst, inl, inr, arith}
use Rattle.std.specs.Prelude.{if◌then◌else◌}
use Rattle.std.specs.List.{list_any}
use Rattle.std.proofs.lemmas.Bool.Decides.{leb_tells}
use Rattle.std.proofs.lemmas.List.{get_or-replicate, get_or-take, get_or_past, length-replicate}
use Rattle.rw_interleave.specs.Interleave.{whole_packs}
use Rattle.rw_mend.specs.Choice.{candidate_of_reading}
use Rattle.rw_mend.specs.Drops.{AreDropCounts, AreCandidates, IsSaid}
use Rattle.rw_mend.specs.Mender.{HasComeTo, IsDecoding}
use Rattle.rw_mend.specs.Readings.{AreHeldReadings, program_in, programs_in, size_in}
use Rattle.rw_mend.specs.Rows.{AreFollowed, AreHistories, IsRow}
use Rattle.rw_mend.specs.Silences.{AreSilences, IsCalm, IsSilence, is_left, no_silence, said_after}
use Rattle.rw_mend.specs.Candidates.{is_quiet_candidate}
use Rattle.rw_mend.specs.Words.{HoldsWord}
use Rattle.rw_mend.specs.declared.cover.BlockHistory.{BlockHistory}
use Rattle.rw_mend.specs.declared.mender.Mender.{Mender}
use Rattle.rw_mend.specs.declared.readings.Readings.{Readings}
use Rattle.rw_mend.specs.declared.rows.GivenRow.{GivenRow}
use Rattle.rw_mend.specs.declared.silences.Silence.{Silence}
use Rattle.rw_mend.specs.declared.candidates.Candidate.{Candidate}
use Rattle.rw_mend.specs.declared.candidates.Candidate.TheVariants.{Silent}
use Rattle.rw_mend.proofs.Alike.{followed_anew}
use Rattle.rw_mend.proofs.Missing.{dropped_more, left_is, none_dropped, said_is}
use Rattle.rw_mend.proofs.Reading.{count_is}

-- ---- Before the first word.

pub none_followed : (readings : Readings) → AreHeldReadings readings
    → AreFollowed readings 2 (replicate 254 2)
none_followed readings are = record {
  each =
      λ r lt.
      followed_anew (program_in readings 0) (program_in readings r) 2 (get_or (replicate 254 2) r 0)
      (omega (arith, get_or-replicate {A = ℕ} 254 r 2 0 (omega (arith, lt, are.few))));
}

zero_at : (r : ℕ) → get_or {A = ℕ} (replicate 254 0) r 0 ≡ 0
zero_at r =
    elim (leb_tells (suc r) 254) [
      | inl within ↦ get_or-replicate 254 r 0 0 (omega (arith, within.1))
      | inr behind ↦ get_or_past (replicate 254 0) r 0
          (omega (arith, behind.1, length-replicate {A = ℕ} 254 0))
    ]

pub zero_dropped : (readings : Readings) (words : ℕ) → AreHeldReadings readings
    → AreDropCounts words (programs_in readings) 0 (replicate 254 0)
zero_dropped readings words are = record {
  each =
      λ r lt.
      none_dropped words (programs_in readings) r (get_or (replicate 254 0) r 0)
      (get_or-replicate 254 r 0 0 (omega (arith, lt, count_is readings, are.few)));
  others = λ r behind. zero_at r;
}

pub none_silent : (words : ℕ) (readings : Readings) (silence : Silence) → AreHeldReadings readings
    → ((r : ℕ) → IsSilence words (programs_in readings) r 0 silence)
    → AreSilences words (programs_in readings) 0 (replicate 254 silence)
none_silent words readings silence are is = record {
  each =
      λ r lt.
      subst (IsSilence words (programs_in readings) r 0)
      (sym (get_or-replicate 254 r silence no_silence (omega (arith, lt, count_is readings, are.few))))
      (is r);
}

-- ---- The words.

pub held_words : (readings : Readings) (words m : ℕ) → words ≡ whole_packs (size_in readings / 96) → m < words
    → HoldsWord m (size_in readings)
held_words readings words m is lt = omega (arith, is, lt)

pub row_taken : (readings : Readings) (m : ℕ) (candidates : List Candidate)
    → IsRow (programs_in readings) m candidates
    → IsRow (programs_in readings) m (take readings.count candidates)
row_taken readings m candidates is = record {
  each =
      λ r lt.
      get_or-take readings.count candidates r Silent (omega (arith, lt, count_is readings)) ∙ is.each r lt;
}

pub at_word : (readings : Readings) (n : ℕ) (mender : Mender) (histories : List BlockHistory)
    (same_from : List ℕ)
    (given : GivenRow) (silences : List Silence) (calm : ℕ) (said : List Candidate) (dropped : List ℕ)
    → IsDecoding readings n mender → n < mender.words
    → length histories ≡ length mender.histories → length same_from ≡ length mender.same_from
    → AreHistories (programs_in readings) n histories → AreFollowed readings ((n + 7) / 4 + 1) same_from
    → IsRow (programs_in readings) n given.candidates
    → length (take readings.count given.candidates) ≡ readings.count
    → length silences ≡ length mender.silences → length said ≡ length mender.said
    → length dropped ≡ length mender.dropped
    → AreSilences mender.words (programs_in readings) (n + 1) silences
    → IsCalm (programs_in readings) (n + 1) calm
    → ((r : ℕ) → r < readings.count → candidate_of_reading said r
    ≡ said_after (list_any is_quiet_candidate (take readings.count given.candidates))
    (get_or silences r no_silence)
    (candidate_of_reading (take readings.count given.candidates) r))
    → ((r : ℕ) → r < readings.count → get_or dropped r 0 ≡ get_or mender.dropped r 0
    + (if is_left (list_any is_quiet_candidate (take readings.count given.candidates))
    (get_or silences r no_silence)
    (candidate_of_reading (take readings.count given.candidates) r) then 1 else 0))
    → ((r : ℕ) → readings.count ≤ r → get_or dropped r 0 ≡ get_or mender.dropped r 0)
    → HasComeTo readings n (record {
      words = mender.words;
      histories = histories;
      same_from = same_from;
      given = given;
      silences = silences;
      calm = calm;
      said = said;
      dropped = dropped;
    })
at_word readings n mender histories same_from given silences calm said dropped is within histories_size
    same_size
    histories_are
    same_are row_is row_size silences_size said_size dropped_size silences_are calm_is each counted
    kept_behind =
    let programs : List (List ℕ) = programs_in readings in
    let row : List Candidate = take readings.count given.candidates in
    let rows : IsRow programs n row = row_taken readings n given.candidates row_is in
    let size : length row ≡ length programs =
    row_size ∙ sym (count_is readings) in
    record {
      decoding = record {
        are = is.are;
        words = is.words;
        few = is.few;
        histories_kept = histories_size ∙ is.histories_kept;
        same_kept = same_size ∙ is.same_kept;
        silences_kept = silences_size ∙ is.silences_kept;
        said_kept = said_size ∙ is.said_kept;
        dropped_kept = dropped_size ∙ is.dropped_kept;
        histories = λ some. subst (λ k. AreHistories programs k histories) (omega arith) histories_are;
        same = subst (λ k. AreFollowed readings k same_from) (omega arith) same_are;
        silences = silences_are;
        calm = calm_is;
        dropped = record {
          each =
              λ r lt.
              dropped_more mender.words programs r n (get_or mender.dropped r 0) (get_or dropped r 0)
              (is_left (list_any is_quiet_candidate row) (get_or silences r no_silence)
              (candidate_of_reading row r))
              (left_is mender.words programs r n row (get_or silences r no_silence)
              (candidate_of_reading row r)
              size rows (silences_are.each r lt) (rows.each r lt))
              (counted r (omega (arith, lt, count_is readings))) (is.dropped.each r lt);
          others =
              λ r from.
              kept_behind r (omega (arith, from, count_is readings)) ∙ is.dropped.others r from;
        };
      };
      said =
          λ r lt.
          let among : r < length programs = omega (arith, lt, count_is readings) in
          said_is mender.words programs r n row (get_or silences r no_silence) (candidate_of_reading row r)
          (candidate_of_reading said r) size rows (silences_are.each r among) (rows.each r among) (each r lt);
    }

-- the stored candidates are those of the word
pub candidates_are : (readings : Readings) (n : ℕ) (mender : Mender) (candidates : List Candidate)
    → HasComeTo readings n mender → candidates ≡ take readings.count mender.said
    → length candidates ≡ readings.count → AreCandidates mender.words (programs_in readings) n candidates
candidates_are readings n mender candidates is taken size = record {
  count = size ∙ sym (count_is readings);
  each =
      λ r lt.
      let among : r < readings.count = omega (arith, lt, count_is readings) in
      subst (IsSaid mender.words (programs_in readings) n r)
      (sym (ap (λ l. candidate_of_reading l r) taken ∙ get_or-take readings.count mender.said r Silent among))
      (is.said r among);
}
