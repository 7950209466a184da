-- The state of a replay and a gallery after the first words and blocks of a stream.
use Rattle.std.proofs.Common.{◌≡◌, ◌≢◌, ℕ, zero, suc, ◌+◌, ◌-◌, ◌*◌, ◌/◌, ◌%◌, ◌<◌, ◌≤◌, ◌==◌, List, [], ◌∷◌, ◌++◌, length, get_or, take, inl, inr, refl, sym, ap, ap₂, ◌∙◌, subst, arith}
use Rattle.std.specs.Prelude.{count_by}
use Rattle.std.specs.List.{range_with_len}
use Rattle.std.proofs.lemmas.Bool.{cases_lt}
use Rattle.std.proofs.lemmas.List.{take_more}
use Rattle.std.proofs.lemmas.List.Sums.{sum_by_push}
use Rattle.std.proofs.lemmas.List.Elements.{All-get_or}
use Rattle.bit_lists.specs.Counting.{below}
use Rattle.raw_subcode.specs.Channels.{symbols_of}
use Rattle.raw_subcode.specs.declared.form.Form.TheVariants.{Raw}
use Rattle.rw_code.specs.Codeword.{IsCodeword, IsNear, Reads, differences}
use Rattle.rw_interleave.specs.Interleave.{word_of, whole_packs}
use Rattle.rw_interleave.proofs.Recovery.{differences-turned, form_words}
use Rattle.cdg_instructions.specs.Instruction.{Means}
use Rattle.cdg_instructions.specs.declared.instr.Instr.{Instr}
use Rattle.cdg_screen.proofs.Turns.{blank_is_whole}
use Rattle.cdg_screen.specs.Standing.{Standing, blank, standing_after}
use Rattle.picture_script.specs.Script.{Drawing, pictures, ready_time, hold_time}
use Rattle.pack_schedule.specs.Schedule.{IsSchedule}
use Rattle.pack_schedule.specs.Shown.{ShowsPicture, AreTimesInOrder, AreColoursInRange}
use Rattle.pack_schedule.specs.Meanings.{AreMeantBy}
use Rattle.stream_trial.specs.Differing.{differing}
use Rattle.stream_trial.specs.Course.{AreTaken, AreCompared, AreTakenAndCompared, HasTaken, HasShown, words_with_stream_block}
use Rattle.stream_trial.specs.Replay.{one_where, TakesWord, IsBelow, IsDamagedSchedule, IsPlayedOut}
use Rattle.stream_trial.specs.declared.replay.Replay.{Replay}
use Rattle.stream_trial.specs.declared.gallery.Gallery.{Gallery}
use Rattle.stream_trial.specs.declared.run.Found.{Found}
use Rattle.stream_trial.proofs.Slots.{GathersWords, given_at}

-- the laws that this file uses
abbrev pub ShowsScheduled : Type 0
ShowsScheduled = (script : List Drawing) (blocks : ℕ) (packs : List (List ℕ)) (k time : ℕ)
    (instrs : List Instr) → AreTimesInOrder script → IsSchedule script blocks packs
    → k < pictures script → ready_time script k ≤ time → time ≤ hold_time script k
    → AreMeantBy (take (whole_packs time) packs) instrs → ShowsPicture script k (standing_after blank instrs)

abbrev pub InTurn : Type 0
InTurn = (start : Standing) (early late : List Instr)
    → standing_after start (early ++ late) ≡ standing_after (standing_after start early) late

-- ---- one more word

range_more : (a n : ℕ) → range_with_len a (suc n) ≡ range_with_len a n ++ (a + n) ∷ []
range_more a zero = ap (λ k. k ∷ []) (omega arith)
range_more a (suc n) = ap (λ l. a ∷ l) (range_more (a + 1) n
    ∙ ap (λ k. range_with_len (a + 1) n ++ k ∷ []) (omega arith))

pub below_more : (n : ℕ) → below (n + 1) ≡ below n ++ n ∷ []
below_more n =
    let next : n + 1 ≡ suc n = omega arith in
    let last : 0 + n ≡ n = omega arith in
    ap below next ∙ range_more 0 n ∙ ap (λ k. below n ++ k ∷ []) last

differing_none : (wrong : ℕ) (symbols others : List ℕ) → 0 ≡ differing wrong 0 symbols others
unfolding differing
differing_none wrong symbols others = refl

differing_more : (wrong n : ℕ) (symbols others : List ℕ)
    → differing wrong (n + 1) symbols others ≡ differing wrong n symbols others + one_where
    (differences (word_of others n) (word_of symbols n)) wrong
unfolding differing
differing_more wrong n symbols others =
    let differ : ℕ → ℕ = λ k. one_where (differences (word_of others k) (word_of symbols k)) wrong in
    ap (λ l. count_by (λ k. differences (word_of others k) (word_of symbols k) == wrong) l) (below_more n)
    ∙ sum_by_push differ (below n) n

meant_more : (packs : List (List ℕ)) (instrs : List Instr) (pack : List ℕ) (instr : Instr)
    → AreMeantBy packs instrs → Means pack instr → AreMeantBy (packs ++ pack ∷ []) (instrs ++ instr ∷ [])
meant_more [] [] pack instr meant means = (means, refl)
meant_more [] (i ∷ instrs) pack instr meant means = absurd (cc)
meant_more (p ∷ packs) [] pack instr meant means = absurd meant
meant_more (p ∷ packs) (i ∷ instrs) pack instr meant means =
    (meant.0, meant_more packs instrs pack instr meant.1 means)

-- ---- the state after n words

nothing_taken : (symbols others : List ℕ) (packs : List (List ℕ)) (replay : Replay) → replay.screen ≡ blank
    → (replay.one ≡ 0) × (replay.two ≡ 0) × (replay.bad ≡ 0) → AreTaken symbols packs others 0 replay
nothing_taken symbols others packs replay screen counts = record {
  one = counts.0 ∙ differing_none 1 symbols others;
  two = counts.1 ∙ differing_none 2 symbols others;
  bad = counts.2;
  instrs = [];
  meant = refl;
  screen = screen ∙ sym blank_is_whole;
}

small_symbols : (bytes : List ℕ) (p : ℕ) → get_or (symbols_of bytes) p 0 < 64
small_symbols [] p = omega arith
small_symbols (byte ∷ bytes) zero = omega arith
small_symbols (byte ∷ bytes) (suc p) = small_symbols bytes p

module _ (script : List Drawing) (symbols : List ℕ) (packs : List (List ℕ)) (bytes : List ℕ)
    (damaged : IsDamagedSchedule script (length bytes / 96) symbols packs (symbols_of bytes)) where
  blocks : ℕ
  blocks = length bytes / 96

  same_blocks : length symbols / 96 ≡ length bytes / 96
  same_blocks = omega (arith, damaged.carries.size)

  pack_is : (k : ℕ) → k < whole_packs (length bytes / 96) → word_of symbols k ≡ get_or packs k []
  pack_is k lt = damaged.carries.words k lt

  reads_pack : (k : ℕ) → k < whole_packs (length bytes / 96)
      → Reads (word_of (symbols_of bytes) k) (get_or packs k [])
  reads_pack k lt =
      let is_codeword : IsCodeword (get_or packs k []) =
      All-get_or IsCodeword packs k [] (omega (arith, lt, damaged.carries.count)) damaged.carries.codewords in
      let near : IsNear (word_of symbols k) (word_of (symbols_of bytes) k) =
      damaged.damaged.words k (subst (λ b. k < whole_packs b) (sym same_blocks) lt) in
      let turned : differences (get_or packs k []) (word_of (symbols_of bytes) k) ≡ differences
      (word_of (symbols_of bytes) k) (get_or packs k []) =
      differences-turned (get_or packs k []) (word_of (symbols_of bytes) k) (is_codeword.is_word.size
      ∙ sym (form_words Raw (symbols_of bytes) k (small_symbols bytes)).size) in
      record {
        is_codeword = is_codeword;
        is_near =
            subst (λ d. d ≤ 2)
            (ap (λ (w : List ℕ). differences w (word_of (symbols_of bytes) k)) (pack_is k lt)
            ∙ turned) near;
      }

  one_count : (wrong k : ℕ) (old new : ℕ) → k < whole_packs (length bytes / 96)
      → old ≡ differing wrong k symbols (symbols_of bytes)
      → new ≡ old + one_where (differences (word_of (symbols_of bytes) k) (get_or packs k [])) wrong
      → new ≡ differing wrong (k + 1) symbols (symbols_of bytes)
  one_count wrong k old new lt before step =
      step ∙ ap₂ (λ (d : ℕ) (w : List ℕ). d + one_where (differences (word_of (symbols_of bytes) k) w) wrong)
      before (sym (pack_is k lt)) ∙ sym (differing_more wrong k symbols (symbols_of bytes))

  -- one more word
  one_taken : InTurn → (k : ℕ) (old new : Replay) → k < whole_packs (length bytes / 96)
      → AreTaken symbols packs (symbols_of bytes) k old
      → TakesWord (word_of (symbols_of bytes) k) (get_or packs k []) old new
      → AreTaken symbols packs (symbols_of bytes) (k + 1) new
  one_taken in_turn k old new lt before takes =
      let within : k < length packs = omega (arith, lt, damaged.carries.count) in
      record {
        one = one_count 1 k old.one new.one lt before.one takes.one;
        two = one_count 2 k old.two new.two lt before.two takes.two;
        bad = takes.bad ∙ before.bad;
        instrs = before.instrs ++ takes.instr ∷ [];
        meant = subst (λ (l : List (List ℕ)). AreMeantBy l (before.instrs ++ takes.instr ∷ []))
            (sym (take_more packs k [] within))
            (meant_more (take k packs) before.instrs
            (get_or packs k []) takes.instr before.meant takes.meant);
        screen = takes.screen ∙ ap (λ (now : Standing). standing_after now (takes.instr ∷ [])) before.screen
            ∙ sym (in_turn blank before.instrs (takes.instr ∷ []));
      }

  -- a picture that is ready is shown
  shown_now : ShowsScheduled → AreTimesInOrder script → AreColoursInRange script → (k n : ℕ) (replay : Replay)
      → k < pictures script → n ≡ 4 * ready_time script k
      → (taken : AreTaken symbols packs (symbols_of bytes) (n - 7) replay)
      → ShowsPicture script k (standing_after blank taken.instrs)
  shown_now law order ranges k n replay lt now taken =
      let whole : n - 7 ≡ whole_packs (ready_time script k) = omega arith in
      let held : ready_time script k ≤ hold_time script k = order.held k lt in
      let same : ready_time script k ≤ ready_time script k = omega arith in
      law script (length bytes / 96) packs k (ready_time script k) taken.instrs order damaged.schedule lt same
      held (subst (λ m. AreMeantBy (take m packs) taken.instrs) whole taken.meant)

  -- the gallery after one more block
  looked : AreTimesInOrder script → (n : ℕ) (old new : Gallery) → n % 4 ≡ 0 → AreCompared script n old
      → ((old.next < pictures script → n + 4 ≢ 4 * ready_time script old.next)
      → (new.next ≡ old.next) × (new.equal ≡ old.equal))
      → (old.next < pictures script → n + 4 ≡ 4 * ready_time script old.next
      → (new.next ≡ old.next + 1) × (new.equal ≡ old.equal + 1)) → AreCompared script (n + 4) new
  looked order n old new blocks_whole before waits looks =
      elim (cases_lt old.next (pictures script)) [
        | inr none ↦
            let (next, equal) = waits (λ lt. absurd (omega arith)) in
            record {
              equal = equal ∙ before.equal
                  ∙ sym next;
              later = λ lt. absurd (omega (arith, next, none, lt));
            }
        | inl some ↦
            let ahead : n < 4 * ready_time script old.next = before.later some in
            elim (cases_lt (n + 4) (4 * ready_time script old.next)) [
              | inl waiting ↦
                  let (next, equal) = waits (λ lt is. absurd (omega arith)) in
                  record {
                    equal = equal ∙ before.equal
                        ∙ sym next;
                    later = λ lt. subst (λ k. n + 4 < 4 * ready_time script k) (sym next) waiting;
                  }
              | inr due ↦
                  let (next, equal) = looks some (omega arith) in
                  record {
                    equal = equal ∙ ap (λ k. k + 1) before.equal ∙ sym next;
                    later = λ lt.
                        let there : old.next + 1 < pictures script =
                        subst (λ k. k < pictures script) next lt in
                        let held : ready_time script old.next ≤ hold_time script old.next =
                        order.held old.next some in
                        let apart : hold_time script old.next < ready_time script (old.next + 1) =
                        order.later old.next there in
                        subst (λ k. n + 4 < 4 * ready_time script k) (sym next)
                        (omega (arith, held, apart, due, ahead));
                  }
            ]
      ]

  first_ahead : (gallery : Gallery) → gallery.next ≡ 0 → gallery.equal ≡ 0 → AreCompared script 0 gallery
  first_ahead gallery next equal = record {
    equal = equal ∙ sym next;
    later = λ lt.
        let picture : 0 < pictures script = subst (λ k. k < pictures script) next lt in
        let time = damaged.schedule.fits 0 picture in
        subst (λ k. 0 < 4 * ready_time script k) (sym next) (omega (arith, time));
  }

  -- everything was played
  all_out : AreTimesInOrder script → (n : ℕ) (replay : Replay) (gallery : Gallery) (found : Found)
      → n ≡ 4 * (length bytes / 96)
      → AreTakenAndCompared script symbols packs (symbols_of bytes) n replay gallery
      → gallery.next ≤ pictures script
      → found ≡ record { one = replay.one; two = replay.two; bad = replay.bad; equal = gallery.equal }
      → IsPlayedOut script (length bytes / 96) symbols (symbols_of bytes) found
  all_out order n replay gallery found all played most is =
      let whole : n - 7 ≡ whole_packs (length bytes / 96) = omega arith in
      let last : gallery.next ≡ pictures script = elim (cases_lt gallery.next (pictures script)) [
        | inl some ↦
            let held : ready_time script gallery.next ≤ hold_time script gallery.next =
            order.held gallery.next some in
            let within : hold_time script gallery.next ≤ length bytes / 96 =
            damaged.schedule.held gallery.next some in
            absurd (omega (arith, played.compared.later some, held, within, all))
        | inr none ↦ omega arith
      ] in
      record {
        one = ap (λ (f : Found). f.one) is ∙ played.taken.one
            ∙ ap (λ m. differing 1 m symbols (symbols_of bytes)) whole;
        two = ap (λ (f : Found). f.two) is ∙ played.taken.two
            ∙ ap (λ m. differing 2 m symbols (symbols_of bytes)) whole;
        bad = ap (λ (f : Found). f.bad) is ∙ played.taken.bad;
        equal = ap (λ (f : Found). f.equal) is ∙ played.compared.equal ∙ last;
      }

-- ---- the loops over blocks and their words

pub begins : (script : List Drawing) (bytes : List ℕ) (replay : Replay) (gallery : Gallery)
    → replay.screen ≡ blank → (replay.one ≡ 0) × (replay.two ≡ 0) × (replay.bad ≡ 0)
    → (gallery.next ≡ 0) × (gallery.equal ≡ 0) → HasShown script bytes 0 replay gallery
begins script bytes replay gallery screen counts none = λ symbols packs damaged. record {
  taken = nothing_taken symbols (symbols_of bytes) packs replay screen counts;
  compared = first_ahead script symbols packs bytes damaged gallery none.0 none.1;
}

-- another word of block b
pub takes_on : GathersWords → InTurn
    → (script : List Drawing) (bytes : List ℕ) (b j : ℕ) (old new : Replay) (words : List (List ℕ))
    → b < length bytes / 96
    → words ≡ words_with_stream_block bytes b → 4 * b - 7 + j < whole_packs (length bytes / 96)
    → j < length words → HasTaken script bytes (4 * b - 7 + j) old
    → ((codeword : List ℕ) → Reads (get_or words j []) codeword
    → TakesWord (get_or words j []) codeword old new)
    → HasTaken script bytes (4 * b - 7 + (j + 1)) new
takes_on law in_turn script bytes b j old new words b_lt is k_lt lt taken takes = λ symbols packs damaged.
    let k : ℕ = 4 * b - 7 + j in
    let next : 4 * b - 7 + j + 1 ≡ 4 * b - 7 + (j + 1) = omega arith in
    let word : get_or words j [] ≡ word_of (symbols_of bytes) (4 * b - 7 + j) =
    ap (λ (l : List (List ℕ)). get_or l j []) is
    ∙ given_at law bytes b j (omega arith) (subst (λ (l : List (List ℕ)). j < length l) is lt) in
    let pack : List ℕ = get_or packs (4 * b - 7 + j) [] in
    let reads : Reads (get_or words j []) pack =
    subst (λ (w : List ℕ). Reads w pack) (sym word)
    (reads_pack script symbols packs bytes damaged (4 * b - 7 + j) k_lt) in
    subst (λ m. AreTaken symbols packs (symbols_of bytes) m new) next
    (one_taken script symbols packs bytes damaged in_turn (4 * b - 7 + j) old new k_lt
    (taken symbols packs damaged) (subst (λ (w : List ℕ). TakesWord w pack old new) word (takes pack reads)))

pub goes_on : ShowsScheduled → (script : List Drawing) → AreTimesInOrder script → AreColoursInRange script
    → (bytes : List ℕ) (b m : ℕ) (old new : Replay) (before after : Gallery)
    → m ≡ 4 * (b + 1) - 7 → HasShown script bytes b old before → HasTaken script bytes m new
    → ((before.next < pictures script → 4 * (b + 1) ≢ 4 * ready_time script before.next)
    → (after.next ≡ before.next) × (after.equal ≡ before.equal))
    → (before.next < pictures script → 4 * (b + 1) ≡ 4 * ready_time script before.next
    → (after.next ≡ before.next + 1) × (ShowsPicture script before.next new.screen
    → after.equal ≡ before.equal + 1))
    → HasShown script bytes (b + 1) new after
goes_on shows script order ranges bytes b m old new before after last played words waits looks =
    λ symbols packs damaged.
    let so_far = played symbols packs damaged in
    let all : 4 * b + 4 ≡ 4 * (b + 1) = omega arith in
    let taken : AreTaken symbols packs (symbols_of bytes) (4 * (b + 1) - 7) new =
    subst (λ k. AreTaken symbols packs (symbols_of bytes) k new) last (words symbols packs damaged) in
    record {
      taken = taken;
      compared = subst (λ n. AreCompared script n after) all
          (looked script symbols packs bytes damaged order (4 * b) before after (omega arith) so_far.compared
          (λ early. waits (λ some due. early some (all ∙ due)))
          (λ some due.
          let (next, equal) = looks some (sym all ∙ due) in (
            next,
            equal
                (subst (ShowsPicture script before.next) (sym taken.screen)
                (shown_now script symbols packs bytes damaged shows order ranges before.next (4 * (b + 1)) new
                some
                (sym all ∙ due) taken)),
          )));
    }

pub ends : (script : List Drawing) → AreTimesInOrder script
    → (bytes : List ℕ) (b : ℕ) (replay : Replay) (gallery : Gallery) (found : Found) → b ≡ length bytes / 96
    → HasShown script bytes b replay gallery → gallery.next ≤ pictures script
    → found ≡ record { one = replay.one; two = replay.two; bad = replay.bad; equal = gallery.equal }
    → (symbols : List ℕ) (packs : List (List ℕ))
    → IsDamagedSchedule script (length bytes / 96) symbols packs (symbols_of bytes)
    → IsPlayedOut script (length bytes / 96) symbols (symbols_of bytes) found
ends script order bytes b replay gallery found last played most is symbols packs damaged =
    all_out script symbols packs bytes damaged order (4 * b) replay gallery found (omega arith)
    (played symbols packs damaged) most is

-- ---- bounds

pub still_below : (replay : Replay) (n most : ℕ) → n ≤ most → IsBelow n replay → IsBelow most replay
still_below replay n most within small =
    record { one = omega (arith, small.one); two = omega (arith, small.two); bad = omega (arith, small.bad) }
