-- The part of a stream that the course of a trial has processed.
use Rattle.std.proofs.Common.{◌≡◌, ◌≢◌, ℕ, ◌+◌, ◌-◌, ◌*◌, ◌/◌, ◌<◌, ◌≤◌, List, [], ◌++◌, length, map, take, drop, Some, refl, sym, ap, ap₂, ◌∙◌, subst, arith, append_assoc, length-append, length-drop}
use Rattle.std.specs.Prelude.{unwrap_or}
use borrow.Rule.Slice.PartMut.{post_of, same_len_mid}
use Rattle.std.specs.declared.option.Option.{Option}
use Rattle.std.proofs.Math.Seq.{drop-nil, take-append_seam}
use Rattle.std.proofs.lemmas.List.{append-nil, drop-append-le, drop_all, length-take-le, take-append-le, take_all}
use Rattle.cdg_io.specs.Run.{run_state, run_gives}
use Rattle.rw_interleave.specs.Gathering.{gather_next, gather_gives}
use Rattle.rw_interleave.specs.Interleave.{whole_packs}
use Rattle.rw_interleave.specs.Windows.{slots_in}
use Rattle.picture_script.specs.Script.{Drawing, pictures, ready_time}
use Rattle.pack_schedule.specs.Shown.{ShowsPicture, AreTimesInOrder, AreColoursInRange}
use Rattle.cdg_workload.specs.Generated.{generated_drawings}
use Rattle.cdg_workload.specs.Scratches.{scratched}
use Rattle.cdg_workload.specs.Steps.{block_next, block_gives, scratches_after}
use Rattle.stream_trial.specs.Course.{stream_block, gathered_before, words_with_stream_block, HasGoneOver, HasTaken, HasShown, IsSteady, Knows}
use Rattle.stream_trial.specs.Replay.{IsDamagedSchedule, IsPlayedOut}
use Rattle.stream_trial.specs.declared.run.Found.{Found}
use Rattle.stream_trial.specs.declared.course.Course.{Course}
use Rattle.stream_trial.proofs.Plays.{ShowsScheduled, goes_on, ends}
use Rattle.stream_trial.proofs.Scratched.{same_size}
use Rattle.raw_subcode.specs.Channels.{symbols_of}
use Rattle.stream_trial.proofs.Slots.{GathersWords, gathered_more}

-- the laws that this file uses
abbrev pub ChannelsStay : Type 0
ChannelsStay = (lead_in seed : ℕ) (bytes : List ℕ)
    → map (λ byte. byte / 64) (scratched lead_in seed bytes) ≡ map (λ byte. byte / 64) bytes

abbrev pub ScratchesGoOn : Type 0
ScratchesGoOn = (seed b : ℕ) (bytes : List ℕ) → 96 * b + 96 ≤ length bytes
    → scratches_after seed bytes (b + 1) ≡ block_next (scratches_after seed bytes b) (stream_block bytes b)

abbrev pub ScratchesGive : Type 0
ScratchesGive = (seed b : ℕ) (bytes : List ℕ) → 96 * b + 96 ≤ length bytes
    → Some (stream_block (scratched 0 seed bytes) b) ≡ block_gives (scratches_after seed bytes b)
    (stream_block bytes b)

some_inside : (xs ys : List ℕ) → Some xs ≡ Some ys → xs ≡ ys
some_inside xs ys same = ap (λ (o : Option (List ℕ)). unwrap_or o []) same

-- one more block
pub gone_over : GathersWords → ShowsScheduled → ChannelsStay → ScratchesGoOn → ScratchesGive
    → (script : List Drawing) → AreTimesInOrder script → AreColoursInRange script
    → (old new : Course) (block changed : List ℕ) (words : List (List ℕ))
    → new.blocks ≡ old.blocks + 1
    → new.scratches ≡ block_next old.scratches block → Some changed ≡ block_gives old.scratches block
    → new.gather ≡ run_state gather_next old.gather (slots_in changed 0 4)
    → words ≡ run_gives gather_next gather_gives old.gather (slots_in changed 0 4)
    → ((bytes : List ℕ) (b : ℕ) → 96 * b + 96 ≤ length bytes → words ≡ words_with_stream_block bytes b
    → HasTaken script bytes (whole_packs b) old.replay
    → HasTaken script bytes (whole_packs (b + 1)) new.replay)
    → ((old.gallery.next < pictures script → 4 * (old.blocks + 1) ≢ 4 * ready_time script old.gallery.next)
    → (new.gallery.next ≡ old.gallery.next) × (new.gallery.equal ≡ old.gallery.equal))
    → (old.gallery.next < pictures script → 4 * (old.blocks + 1) ≡ 4 * ready_time script old.gallery.next
    → (new.gallery.next ≡ old.gallery.next + 1)
    × (ShowsPicture script old.gallery.next new.replay.screen → new.gallery.equal ≡ old.gallery.equal + 1))
    → (seed : ℕ) (bytes : List ℕ) → 96 * old.blocks + 96 ≤ length bytes
    → block ≡ stream_block bytes old.blocks
    → HasGoneOver script seed bytes old → HasGoneOver script seed bytes new
gone_over law shows stay next gives script order ranges old new block changed words more scratches change
    gather come taken waits looks seed bytes fits block_is before =
    let b = old.blocks in
    let others = scratched 0 seed bytes in
    let size : length others ≡ length bytes = same_size 0 seed bytes (stay 0 seed bytes) in
    let within : 96 * b + 96 ≤ length others = omega (arith, size, fits) in
    let changed_is : changed ≡ stream_block others b =
    some_inside changed (stream_block others b)
    (change ∙ ap₂ block_gives before.scratches block_is ∙ sym (gives seed b bytes fits)) in
    let words_are : words ≡ words_with_stream_block others b =
    come ∙ ap₂ (λ w l. run_gives gather_next gather_gives w (slots_in l 0 4)) before.gather changed_is in
    record {
      scratches = scratches ∙ ap₂ block_next before.scratches block_is ∙ sym (next seed b bytes fits)
          ∙ ap (scratches_after seed bytes) (sym more);
      gather = gather ∙ ap₂ (λ w l. run_state gather_next w (slots_in l 0 4)) before.gather changed_is
          ∙ sym (gathered_more others b within) ∙ ap (gathered_before others) (sym more);
      shown = subst (λ n. HasShown script others n new.replay new.gallery) (sym more)
          (goes_on shows script order ranges others b
          (4 * (b + 1) - 7) old.replay new.replay old.gallery new.gallery refl before.shown
          (taken others b within words_are
          (λ symbols packs damaged. (before.shown symbols packs damaged).taken))
          waits looks);
    }

-- ---- The bytes that were written.

-- some more bytes of a block follow the bytes that are there
at_hand : (block part rest : List ℕ) (filled : ℕ) → filled ≤ length block
    → take (filled + length part) (take filled block ++ (part ++ rest)) ≡ take filled block ++ part
at_hand block part rest filled fits =
    let first : List ℕ = take filled block in
    let size : length (first ++ part) ≡ filled + length part =
    length-append first part ∙ ap (λ n. n + length part) (length-take-le filled block fits) in
    ap (take (filled + length part)) (sym (append_assoc first part rest))
    ∙ ap (λ n. take n ((first ++ part) ++ rest)) (sym size) ∙ take-append_seam (first ++ part) rest

-- the block is as long as before
same_long : (block part : List ℕ) (filled k : ℕ) → filled + length part ≤ length block → k ≡ length part
    → length (take filled block ++ (part ++ post_of filled k block)) ≡ length block
same_long block part filled k fits many =
    same_len_mid filled k block part
    (sym (length-take-le k (drop filled block) (omega (arith, length-drop filled block, fits, many)) ∙ many))

pub knows_start : (script : List Drawing) (seed count : ℕ) (course : Course) (block bytes : List ℕ)
    → script ≡ generated_drawings seed count → IsSteady script course → course.blocks ≡ 0 → bytes ≡ []
    → length block ≡ 96 → ((bytes : List ℕ) → HasGoneOver script seed bytes course)
    → Knows script seed count course block 0 bytes
knows_start script seed count course block bytes script_is steady none nothing long gone = record {
  script_is = script_is;
  steady = steady;
  long = long;
  size = omega (arith, ap (λ (l : List ℕ). length l) nothing, none);
  begun = sym (ap (drop (96 * course.blocks)) nothing ∙ drop-nil (96 * course.blocks));
  gone_over = λ more. gone (bytes ++ more);
}

-- some more bytes of the current block
pub knows_more : (script : List Drawing) (seed count : ℕ) (course : Course)
    (block bytes part part' bytes' : List ℕ)
    (filled k : ℕ) → filled + length part ≤ length block → part' ≡ part → bytes' ≡ bytes ++ part
    → k ≡ length part
    → Knows script seed count course block filled bytes
    → Knows script seed count course (take filled block ++ (part' ++ post_of filled k block))
    (filled + length part) bytes'
knows_more script seed count course block bytes part part' bytes' filled k fits copied reported many known =
    let b = course.blocks in
    let size : length bytes' ≡ length bytes + length part = ap (λ (l : List ℕ). length l) reported
    ∙ length-append bytes part in
    let within : 96 * b ≤ length bytes = omega (arith, known.size) in
    let written : take filled block ++ (part' ++ post_of filled k block)
    ≡ take filled block ++ (part ++ post_of filled k block) =
    ap (λ (l : List ℕ). take filled block ++ (l ++ post_of filled k block)) copied in
    let inside : filled ≤ length block = omega (arith, fits) in
    record {
      script_is = known.script_is;
      steady = known.steady;
      long = ap (λ (l : List ℕ). length l) written ∙ same_long block part filled k fits many ∙ known.long;
      size = omega (arith, size, known.size);
      begun = ap (take (filled + length part)) written
          ∙ at_hand block part (post_of filled k block) filled inside
          ∙ ap (λ (l : List ℕ). l ++ part) known.begun ∙ sym (drop-append-le (96 * b) bytes part within)
          ∙ ap (drop (96 * b)) (sym reported);
      gone_over = λ more.
          subst (λ (l : List ℕ). HasGoneOver script seed l course)
          (sym (append_assoc bytes part more) ∙ ap (λ (l : List ℕ). l ++ more) (sym reported))
          (known.gone_over (part ++ more));
    }

-- a whole block: the course processes it, and the next block is still empty
knows_next : (script : List Drawing) (seed count : ℕ) (course course' : Course) (whole bytes : List ℕ)
    → course'.blocks ≡ course.blocks + 1 → IsSteady script course'
    → ((seed : ℕ) (bytes : List ℕ) → 96 * course.blocks + 96 ≤ length bytes
    → whole ≡ stream_block bytes course.blocks
    → HasGoneOver script seed bytes course → HasGoneOver script seed bytes course')
    → Knows script seed count course whole 96 bytes → Knows script seed count course' whole 0 bytes
knows_next script seed count course course' whole bytes next steady goes known =
    let b = course.blocks in
    let within : 96 * b ≤ length bytes = omega (arith, known.size) in
    let last : List ℕ = drop (96 * b) bytes in
    let size : length last ≡ 96 = length-drop (96 * b) bytes ∙ omega (arith, known.size) in
    let all : 96 * course'.blocks ≡ length bytes = omega (arith, known.size, next) in
    let whole_is : whole ≡ last = sym (take_all 96 whole (omega (arith, known.long))) ∙ known.begun in
    let block_is : (more : List ℕ) → whole ≡ stream_block (bytes ++ more) b = λ more.
    let fits : 96 ≤ length last = omega (arith, size) in
    sym (ap (take 96) (drop-append-le (96 * b) bytes more within) ∙ take-append-le 96 last more fits
    ∙ take_all 96 last (omega (arith, size)) ∙ sym whole_is) in
    record {
      script_is = known.script_is;
      steady = steady;
      long = known.long;
      size = omega (arith, known.size, next);
      begun = sym (drop_all (96 * course'.blocks) bytes (omega (arith, all)));
      gone_over = λ more.
          let room : 96 * b + 96 ≤ length (bytes ++ more) =
          omega (arith, known.size, length-append bytes more) in
          goes seed (bytes ++ more) room (block_is more) (known.gone_over more);
    }

-- the last bytes of a block: the course processes it
pub knows_whole : (script : List Drawing) (seed count : ℕ) (course course' : Course)
    (block bytes part part' bytes' : List ℕ)
    (filled k : ℕ) → filled + length part ≤ length block → part' ≡ part → bytes' ≡ bytes ++ part
    → k ≡ length part
    → filled + length part ≡ 96 → course'.blocks ≡ course.blocks + 1 → IsSteady script course'
    → ((seed : ℕ) (all : List ℕ) → 96 * course.blocks + 96 ≤ length all
    → take filled block ++ (part' ++ post_of filled k block) ≡ stream_block all course.blocks
    → HasGoneOver script seed all course → HasGoneOver script seed all course')
    → Knows script seed count course block filled bytes
    → Knows script seed count course' (take filled block ++ (part' ++ post_of filled k block)) 0 bytes'
knows_whole script seed count course course' block bytes part part' bytes' filled k fits copied reported many
    end
    next steady goes known =
    let whole = take filled block ++ (part' ++ post_of filled k block) in
    knows_next script seed count course course' whole bytes' next steady goes
    (subst (λ n. Knows script seed count course whole n bytes') end
    (knows_more script seed count course block bytes part part' bytes' filled k fits copied reported many
    known))

-- the findings for the whole blocks
pub knows_found : ChannelsStay → (script : List Drawing) → AreTimesInOrder script
    → (seed count : ℕ) (course : Course)
    (block bytes : List ℕ) (filled : ℕ) → filled < 96 → Knows script seed count course block filled bytes
    → (symbols : List ℕ) (packs : List (List ℕ))
    → IsDamagedSchedule (generated_drawings seed count) (length (scratched 0 seed bytes) / 96) symbols packs
    (symbols_of (scratched 0 seed bytes))
    → IsPlayedOut (generated_drawings seed count) (length (scratched 0 seed bytes) / 96) symbols
    (symbols_of (scratched 0 seed bytes))
    (record {
      one = course.replay.one;
      two = course.replay.two;
      bad = course.replay.bad;
      equal =
          course.gallery.equal;
    })
knows_found stay script order seed count course block bytes filled few known symbols packs damaged =
    let others = scratched 0 seed bytes in
    let found : Found =
    record {
      one = course.replay.one;
      two = course.replay.two;
      bad = course.replay.bad;
      equal =
          course.gallery.equal;
    } in
    let size : length others ≡ length bytes = same_size 0 seed bytes (stay 0 seed bytes) in
    let blocks : course.blocks ≡ length others / 96 = omega (arith, size, known.size, few) in
    let gone : HasGoneOver script seed bytes course =
    subst (λ (l : List ℕ). HasGoneOver script seed l course) (append-nil bytes) (known.gone_over []) in
    subst (λ (s : List Drawing). IsPlayedOut s (length others / 96) symbols (symbols_of others) found)
    known.script_is
    (ends script order others course.blocks course.replay course.gallery found blocks gone.shown
    known.steady.next refl symbols packs
    (subst (λ (s : List Drawing). IsDamagedSchedule s (length others / 96) symbols packs (symbols_of others))
    (sym known.script_is) damaged))
