-- What is written for a stream that is resumed from the file of its first part.
use Rattle.std.proofs.Common.{◌≡◌, ◌≢◌, ℕ, zero, suc, ◌+◌, ◌-◌, ◌*◌, ◌/◌, ◌%◌, ◌<◌, ◌≤◌, List, [], ◌∷◌, ◌++◌, length, get_or, take, drop, replicate, refl, sym, ap, ap₂, ◌∙◌, subst, arith, length-append, length-drop, None, Some}
use Rattle.std.specs.Prelude.{Option, min, Result, Ok, Err, is_none}
use Rattle.std.specs.List.{AllByRecursion}
use Rattle.std.specs.Io.KnownBytes.{Appends, Consumes, IsAtEnd}
use Rattle.std.proofs.lemmas.List.{append_assoc, append-nil, ext_get_or, get_or-drop, get_or_append_left, take_all}
use Rattle.std.proofs.lemmas.List.Sums.{count_by-le-length}
use Rattle.raw_subcode.specs.Channels.{blocks_of, program_symbols}
use Rattle.raw_subcode.specs.declared.form.Form.TheVariants.{Raw}
use Rattle.rw_code.specs.Codeword.{IsWord}
use Rattle.rw_code.proofs.Finding.{only_finding}
use Rattle.rw_interleave.specs.Stream.{IsRecovered, bad_count}
use Rattle.cdg_instructions.proofs.Meaning.{only_meaning}
use Rattle.rw_interleave.specs.Interleave.{word_of, whole_packs}
use Rattle.cdg_io.specs.Change.{Bytes, Change, from_to}
use Rattle.cdg_io.specs.Pump.{units_of}
use Rattle.cdg_io.proofs.Frames.{passing}
use Rattle.cdg_io.proofs.Streaming.{IsWhole}
use Rattle.cdg_io.specs.declared.pumping.Pumped.{Pumped}
use Rattle.cdg_instructions.specs.declared.instr.Instr.{Instr}
use Rattle.cdg_screen.specs.Standing.{Standing, blank, standing_after}
use Rattle.cdg_screen.specs.Texts.{pixmap}
use Rattle.cdg_checkpoint.specs.Checkpoint.{Checkpoint, checkpoint_in, IsSoundStanding, IsSoundCheckpoint}
use Rattle.cdg_checkpoint.specs.Table.{IsCheckpointFile, empty_symbols}
use Rattle.cdg_checkpoint.proofs.Accepted.{accepted, same}
use Rattle.stream_stages.specs.Calls.{IsEarly}
use Rattle.stream_stages.specs.Screen.{AreMeant, IsScreenAt, IsShownBy, Shows, moment}
use Rattle.stream_stages.specs.Watch.{IsViewed}
use Rattle.stream_stages.proofs.Slots.{symbols_small}
use Rattle.stream_stages.proofs.Playing.{units_in}
use Rattle.stream_stages.proofs.Views.{whole_taken}
use Rattle.stream_stages.specs.declared.played.Played.{Played}
use Rattle.stream_stages.specs.declared.played.PlayStop.{PlayStop}
use Rattle.stream_stages.specs.declared.played.PlayStop.TheVariants as play
use Rattle.cdg_checkpoint.specs.Saved.{IsCheckpointOf, IsSaved}
use Rattle.cdg_checkpoint.specs.Resumed.{IsGoneOn, IsGoneOnBy, IsResumed, IsResumedBy, Resumes, blocks_left, IsFirstPart, as_played}
use Rattle.cdg_checkpoint.specs.declared.stops.Resumed.{Resumed}
use Rattle.cdg_checkpoint.specs.declared.stops.ResumeStop.{ResumeStop}
use Rattle.cdg_checkpoint.specs.declared.stops.ResumeStop.TheVariants.{FirstFault, SecondFault, WriteFault, BadSave, BeforeSave, Torn, TooLong, PastEnd}
use Rattle.cdg_checkpoint.proofs.GoneOn.{both_small, dropped_small, gathered_word}
use Rattle.cdg_checkpoint.proofs.Joined.{resumed_whole}
use Rattle.cdg_checkpoint.proofs.Meant.{IsSmall, meant_small, sound_after}
use Rattle.cdg_checkpoint.proofs.SavedStreams.{symbols_are, symbols_count}

-- ---- a saved checkpoint is sound

zeros_small : (n i : ℕ) → get_or (replicate {A = ℕ} n 0) i 0 < 64
zeros_small zero i = omega arith
zeros_small (suc n) zero = omega arith
zeros_small (suc n) (suc i) = zeros_small n i

zeros_are : (n i : ℕ) → get_or (replicate {A = ℕ} n 0) i 0 ≡ 0
zeros_are zero i = refl
zeros_are (suc n) zero = refl
zeros_are (suc n) (suc i) = zeros_are n i

module _ (lead_in n : ℕ) (bytes : List ℕ) (c : Checkpoint) (lead_in_most : lead_in ≤ 450000)
    (few : n ≤ 1000000) (size : length bytes ≡ n * 96) (saved : IsCheckpointOf bytes lead_in c) where
  whole : IsWhole 96 n bytes
  whole = whole_taken Raw n bytes size

  abbrev symbols : List ℕ
  symbols = program_symbols Raw bytes lead_in

  blocks : length bytes / 96 ≡ n
  blocks = units_in Raw n bytes whole

  to_come_is : c.to_come ≡ lead_in - n
  to_come_is = saved.to_come_is ∙ ap (λ k. lead_in - k) blocks

  lead_in_is : c.lead_in ≡ min n lead_in
  lead_in_is = saved.lead_in_is ∙ ap (λ k. min k lead_in) blocks

  program_is : c.program ≡ n - lead_in
  program_is = saved.program_is ∙ ap (λ k. k - lead_in) blocks

  count : length symbols ≡ 96 * c.program
  count = symbols_count lead_in n bytes whole ∙ ap (λ k. 96 * k) (sym program_is)

  found_count : length saved.found ≡ whole_packs c.program
  found_count = omega (arith, saved.recovered.count, count)

  small : AllByRecursion IsSmall saved.instrs
  small =
      meant_small saved.found (word_of symbols) (length saved.found) saved.instrs
      (λ k lt. saved.recovered.each k (omega (arith, lt, saved.recovered.count)))
      (subst (λ (l : List (Option (List ℕ))). AreMeant l saved.instrs)
      (sym (take_all (length saved.found) saved.found (omega arith))) saved.meant)

  length-zeros : length (replicate {A = ℕ} 168 0) ≡ 168
  length-zeros = refl

  all_small : (i : ℕ) → get_or symbols i 0 < 64
  all_small =
      subst (λ (l : List ℕ). (p : ℕ) → get_or l p 0 < 64) (sym (symbols_are lead_in n bytes whole))
      (symbols_small (drop lead_in (units_of 96 n bytes)))

  slot_small : (k : ℕ) → get_or c.slots k 0 < 64
  slot_small =
      subst (λ (l : List ℕ). (p : ℕ) → get_or l p 0 < 64) (sym saved.slots_are) (dropped_small
      (replicate 168 0 ++ symbols) (length symbols)
      (both_small (replicate 168 0) symbols (zeros_small 168) all_small))

  slot_empty : (k : ℕ) → k < empty_symbols c.program → get_or c.slots k 0 ≡ 0
  slot_empty k lt =
      ap (λ (l : List ℕ). get_or l k 0) saved.slots_are
      ∙ get_or-drop (length symbols) (replicate 168 0 ++ symbols) k 0
      ∙ get_or_append_left (replicate 168 0) symbols 0 (length symbols + k)
      (omega (arith, count, lt, length-zeros))
      ∙ zeros_are 168 (length symbols + k)

  pub saved_sound : IsSoundCheckpoint c
  saved_sound = record {
    lead_in = omega (arith, to_come_is, lead_in_is, lead_in_most);
    blocks = omega (arith, lead_in_is, program_is, few);
    none_yet = λ some. omega (arith, some, to_come_is, program_is);
    bad = omega (arith, saved.bad_is, count_by-le-length is_none saved.found, found_count);
    slots_size =
        ap length saved.slots_are
        ∙ length-drop (length symbols) (replicate 168 0 ++ symbols)
        ∙ omega (arith, length-append (replicate 168 0) symbols, length-zeros);
    slots_below = λ k lt. slot_small k;
    slots_empty = slot_empty;
    standing = subst IsSoundStanding (sym saved.stands) (sound_after saved.instrs small);
  }

-- ---- what is written

pub viewed_screen : (lead_in time : ℕ) (bytes : List ℕ) (now : Standing) (bad : ℕ)
    → IsViewed (moment Raw lead_in time) bytes now bad
    → IsScreenAt (moment Raw lead_in time) bytes (pixmap now) bad
viewed_screen lead_in time bytes now bad v =
    record {
      found = v.found;
      recovered = v.recovered;
      instrs = v.instrs;
      shown = v.shown;
      text_is = ap pixmap v.stands;
      bad_is = v.bad_is;
    }

-- ---- a time has only one screen

one_meant : (found : List (Option (List ℕ))) (one other : List Instr) → AreMeant found one
    → AreMeant found other
    → one ≡ other
one_meant [] one other a b = a ∙ sym b
one_meant (None ∷ found) one other a b = one_meant found one other a b
one_meant (Some word ∷ found) [] other a b = absurd a
one_meant (Some word ∷ found) (x ∷ one) [] a b = absurd b
one_meant (Some word ∷ found) (x ∷ one) (y ∷ other) a b =
    ap₂ (λ z (zs : List Instr). z ∷ zs) (only_meaning word x a.0 ∙ sym (only_meaning word y b.0))
    (one_meant found one other a.1 b.1)

program_small : (bytes : List ℕ) (lead_in p : ℕ) → get_or (program_symbols Raw bytes lead_in) p 0 < 64
program_small bytes lead_in p = symbols_small (drop lead_in (blocks_of Raw bytes)) p

one_recovered : (bytes : List ℕ) (lead_in : ℕ) (one other : List (Option (List ℕ)))
    → IsRecovered Raw (program_symbols Raw bytes lead_in) one
    → IsRecovered Raw (program_symbols Raw bytes lead_in) other
    → one ≡ other
one_recovered bytes lead_in one other a b =
    let word : (k : ℕ) → IsWord (word_of (program_symbols Raw bytes lead_in) k) =
    λ k. gathered_word (program_symbols Raw bytes lead_in) k (program_small bytes lead_in) in
    ext_get_or None one other (a.count ∙ sym b.count) (λ k lt.
    only_finding (word_of (program_symbols Raw bytes lead_in) k) (word k) (get_or one k None)
    (a.each k (omega (arith, lt, a.count)))
    ∙ sym (only_finding (word_of (program_symbols Raw bytes lead_in) k) (word k) (get_or other k None)
    (b.each k (omega (arith, lt, a.count)))))

pub one_screen : (lead_in time bad other_bad : ℕ) (bytes text other : List ℕ)
    → IsScreenAt (moment Raw lead_in time) bytes text bad
    → IsScreenAt (moment Raw lead_in time) bytes other other_bad
    → (text ≡ other) × (bad ≡ other_bad)
one_screen lead_in time bad other_bad bytes text other a b =
    let found : a.found ≡ b.found = one_recovered bytes lead_in a.found b.found a.recovered b.recovered in
    let instrs : a.instrs ≡ b.instrs =
    one_meant (take (whole_packs time) b.found) a.instrs b.instrs
    (subst (λ (f : List (Option (List ℕ))). AreMeant (take (whole_packs time) f) a.instrs) found a.shown)
    b.shown in (
      a.text_is ∙ ap (λ (i : List Instr). pixmap (standing_after blank i)) instrs ∙ sym b.text_is,
      a.bad_is
          ∙ ap (λ (f : List (Option (List ℕ))). bad_count (take (whole_packs time) f)) found
          ∙ sym b.bad_is,
    )

-- ---- the answer by the lengths

module _ (lead_in n len time : ℕ) (c : Checkpoint) (few : n ≤ 1000000) (to_come : c.to_come ≡ lead_in - n)
    (before : c.lead_in ≡ min n lead_in) (program : c.program ≡ n - lead_in) where
  read : c.lead_in + c.program ≡ n
  read = omega (arith, before, program)

  pub answered : (result : Result Resumed ResumeStop) → IsResumedBy result c time len
      → IsShownBy (as_played result) lead_in time 96 (n * 96 + len)
  answered (Ok resumed) h =
      (omega (arith, h.0, read, few), omega (arith, h.1), omega (arith, h.2, to_come, program))
  answered (Err FirstFault) h = tt
  answered (Err SecondFault) h = tt
  answered (Err WriteFault) h = tt
  answered (Err (BadSave byte)) h = tt
  answered (Err (BeforeSave blocks)) h = tt
  answered (Err (Torn block)) h =
      (omega (arith, h.0, read, few), λ e. h.1 (omega (arith, e)), omega (arith, h.2, read))
  answered (Err TooLong) h = omega (arith, h, read, few)
  answered (Err (PastEnd blocks)) h =
      (omega (arith, h.0, read, few), omega (arith, h.1), omega (arith, h.2, to_come, program), h.3)

-- ---- resumed from the file

module _ (lead_in n : ℕ) (bytes file : List ℕ) (pumped : Pumped) (first : IsFirstPart lead_in bytes)
    (size : length bytes ≡ n * 96) (saved : IsSaved lead_in bytes pumped file) where
  abbrev c : Checkpoint
  c = saved.checkpoint

  few : n ≤ 1000000
  few = omega (arith, size, first.most)

  sound : IsSoundCheckpoint c
  sound = saved_sound lead_in n bytes c first.lead_in_most few size saved.is

  accepts : IsCheckpointFile file
  accepts = subst IsCheckpointFile (sym saved.text_is) (accepted c sound)

  says_same : checkpoint_in file ≡ c
  says_same = ap checkpoint_in saved.text_is ∙ same c sound

  program_read : (checkpoint_in file).program ≡ length bytes / 96 - lead_in
  program_read = ap (λ (k : Checkpoint). k.program) says_same ∙ saved.is.program_is

  program_of : (checkpoint_in file).program ≡ n - lead_in
  program_of = omega (arith, program_read, size)

  to_come_of : (checkpoint_in file).to_come ≡ lead_in - n
  to_come_of = omega (arith, ap (λ (k : Checkpoint). k.to_come) says_same, saved.is.to_come_is, size)

  lead_in_of : (checkpoint_in file).lead_in ≡ min n lead_in
  lead_in_of = omega (arith, ap (λ (k : Checkpoint). k.lead_in) says_same, saved.is.lead_in_is, size)

  answers : (time : ℕ) (rest : List ℕ) (result : Result Resumed ResumeStop)
      → IsResumedBy result (checkpoint_in file) time (length rest)
      → IsShownBy (as_played result) lead_in time 96 (length (bytes ++ rest))
  answers time rest result h =
      let whole_length : n * 96 + length rest ≡ length (bytes ++ rest) =
      omega (arith, length-append bytes rest, size) in
      subst (λ (len : ℕ). IsShownBy (as_played result) lead_in time 96 len) whole_length
      (answered lead_in n (length rest) time (checkpoint_in file) few to_come_of lead_in_of program_of result
      h)

  shows : (time : ℕ) (rest text : List ℕ) (resumed : Resumed) → length rest % 96 ≡ 0
      → length bytes / 96 - lead_in ≤ time → IsResumed file time rest resumed text
      → IsScreenAt (moment Raw lead_in time) (bytes ++ rest) text resumed.bad
  shows time rest text resumed rest_whole reached r =
      let gone : IsGoneOn c time rest r.now resumed.bad =
      subst (λ (k : Checkpoint). IsGoneOn k time rest r.now resumed.bad) says_same r.gone_on in
      let viewed : IsViewed (moment Raw lead_in time) (bytes ++ rest) r.now resumed.bad =
      resumed_whole bytes rest lead_in time resumed.bad c r.now first.whole rest_whole saved.is
      (omega (arith, saved.is.program_is, reached)) gone in
      subst (λ (t : List ℕ). IsScreenAt (moment Raw lead_in time) (bytes ++ rest) t resumed.bad)
      (sym r.text_is) (viewed_screen lead_in time (bytes ++ rest) r.now resumed.bad viewed)

  counts_all : (time : ℕ) (rest text : List ℕ) (resumed : Resumed) → IsResumed file time rest resumed text
      → resumed.blocks ≡ length (bytes ++ rest) / 96 - lead_in
  counts_all time rest text resumed r =
      omega (arith, r.blocks, program_of, to_come_of, length-append bytes rest, size)

  pub all_few : (taken : List ℕ) → length taken ≤ blocks_left (checkpoint_in file) * 96 + 1
      → length (bytes ++ taken) ≤ 1000000 * 96 + 1
  all_few taken h = omega (arith, h, program_of, lead_in_of, few, size, length-append bytes taken)

module _ (lead_in : ℕ) (bytes : List ℕ) (first : IsFirstPart lead_in bytes) where
  size_is : length bytes ≡ length bytes / 96 * 96
  size_is = omega (arith, first.whole)

  pub whole_accepted : (file : List ℕ) (pumped : Pumped) → IsSaved lead_in bytes pumped file
      → IsCheckpointFile file × ((checkpoint_in file).program ≡ length bytes / 96 - lead_in)
  whole_accepted file pumped saved = (
    accepts lead_in (length bytes / 96) bytes file pumped first size_is saved,
    program_read lead_in (length bytes / 96) bytes file pumped first size_is saved,
  )

  pub whole_answered : (time : ℕ) (rest file : List ℕ) (pumped : Pumped) (result : Result Resumed ResumeStop)
      → IsSaved lead_in bytes pumped file → IsResumedBy result (checkpoint_in file) time (length rest)
      → IsShownBy (as_played result) lead_in time 96 (length (bytes ++ rest))
  whole_answered time rest file pumped result saved h =
      answers lead_in (length bytes / 96) bytes file pumped first size_is saved time rest result h

  pub whole_shown : (time : ℕ) (rest file text : List ℕ) (pumped : Pumped) (resumed : Resumed)
      → length rest % 96 ≡ 0 → IsSaved lead_in bytes pumped file → length bytes / 96 - lead_in ≤ time
      → IsResumed file time rest resumed text
      → IsScreenAt (moment Raw lead_in time) (bytes ++ rest) text resumed.bad
      × (resumed.blocks ≡ length (bytes ++ rest) / 96 - lead_in)
  whole_shown time rest file text pumped resumed rest_whole saved reached r = (
    shows lead_in (length bytes / 96) bytes file pumped first size_is saved time rest text resumed
        rest_whole reached r,
    counts_all lead_in (length bytes / 96) bytes file pumped first size_is saved time rest text resumed r,
  )

-- ---- the calls

all_taken : (rest taken : List ℕ) (left' : Option (List ℕ)) → Consumes (Some rest) left' taken → IsAtEnd left'
    → taken ≡ rest
all_taken rest taken None c e = absurd c
all_taken rest taken (Some xs) c e = sym (c ∙ ap (λ (l : List ℕ). taken ++ l) e ∙ append-nil taken)

consumes_after : (bytes rest taken : List ℕ) (left' : Option (List ℕ)) → Consumes (Some rest) left' taken
    → Consumes (Some (bytes ++ rest)) left' (bytes ++ taken)
consumes_after bytes rest taken None c = absurd c
consumes_after bytes rest taken (Some xs) c =
    ap (λ (l : List ℕ). bytes ++ l) c ∙ sym (append_assoc bytes taken xs)

module _ (lead_in time : ℕ) (bytes rest file taken : List ℕ) (pumped : Pumped) (left' : Bytes)
    (out : Change Bytes) (first : IsFirstPart lead_in bytes) (saved : IsSaved lead_in bytes pumped file)
    (reached : length bytes / 96 - lead_in ≤ time)
    (takes : Consumes (Some rest) left' taken)
    (few_taken : length taken ≤ blocks_left (checkpoint_in file) * 96 + 1) where
  abbrev IsCall : Result Played PlayStop → Type 0
  IsCall result =
      Shows pixmap (moment Raw lead_in time) (passing (from_to (Some (bytes ++ rest)) left') out) result
      (bytes ++ taken)

  few_in_all : length (bytes ++ taken) ≤ 1000000 * 96 + 1
  few_in_all =
      all_few lead_in (length bytes / 96) bytes file pumped first (size_is lead_in bytes first) saved taken
      few_taken

  abbrev IsPast : ℕ → Type 0
  IsPast blocks =
      (length (bytes ++ taken) % 96 ≡ 0) × (blocks ≡ length (bytes ++ taken) / 96 - lead_in) × (blocks < time)

  -- a call that stopped and wrote nothing
  stopped : (stop : PlayStop) → stop ≢ play.WriteFault → Appends out.before out.after []
      → (¬ (IsEarly stop) → IsAtEnd left') → ((blocks : ℕ) → stop ≡ play.PastEnd blocks → IsPast blocks)
      → IsCall (Err stop)
  stopped stop no_write nothing ended past = record {
    plays = record {
      taken_from = consumes_after bytes rest taken left' takes;
      within = few_in_all;
      done = tt;
      stopped = λ other e not. nothing;
      ended = λ other e late. let same : other ≡ stop = cc in
          ended (subst (λ (s : PlayStop). ¬ (IsEarly s)) same late);
      cut = λ e. let same : stop ≡ play.WriteFault = cc in absurd (no_write same);
    };
    reached = tt;
    past_end = λ blocks e. let same : stop ≡ play.PastEnd blocks = cc in past blocks same;
  }

  screened : (text : List ℕ) (resumed : Resumed) → IsAtEnd left' → time ≤ resumed.blocks
      → length rest % 96 ≡ 0 → IsResumed file time taken resumed text → Appends out.before out.after text
      → IsCall (as_played (Ok resumed))
  screened text resumed at_end not_before rest_whole is put =
      let all : rest ≡ taken = sym (all_taken rest taken left' takes at_end) in
      let taken_whole : length taken % 96 ≡ 0 = subst (λ (l : List ℕ). length l % 96 ≡ 0) all rest_whole in
      let (screen, blocks) =
      whole_shown lead_in bytes first time taken file text pumped resumed taken_whole saved reached is in
      record {
        plays = record {
          taken_from = consumes_after bytes rest taken left' takes;
          within = few_in_all;
          done = (at_end, (text, record { blocks = blocks; written = screen }, put));
          stopped = λ stop e not. (cc);
          ended = λ stop e not. (cc);
          cut = λ e. (cc);
        };
        reached = not_before;
        past_end = λ blocks e. (cc);
      }

  past_all : (blocks : ℕ) → IsAtEnd left'
      → IsGoneOnBy (Err (PastEnd blocks)) (checkpoint_in file) time (length rest) → (other : ℕ)
      → play.PastEnd blocks ≡ play.PastEnd other
      → IsPast other
  past_all blocks at_end answer other e =
      let all : rest ≡ taken = sym (all_taken rest taken left' takes at_end) in
      let (few, whole, count, before) =
      whole_answered lead_in bytes first time rest file pumped (Err (PastEnd blocks)) saved answer in
      let same : blocks ≡ other = cc in
      subst (λ (b : ℕ). IsPast b) same (subst (λ (l : List ℕ). (length (bytes ++ l) % 96 ≡ 0)
      × (blocks ≡ length (bytes ++ l) / 96 - lead_in)
      × (blocks < time)) all (whole, count, before))

pub called : (lead_in time : ℕ) (bytes rest file taken : List ℕ) (pumped : Pumped)
    (result : Result Resumed ResumeStop) (left' : Bytes) (out : Change Bytes) → IsFirstPart lead_in bytes
    → IsSaved lead_in bytes pumped file → length bytes / 96 - lead_in ≤ time
    → result ≢ Err WriteFault → IsResumedBy result (checkpoint_in file) time (length rest)
    → Resumes file time (passing (from_to (Some rest) left') out) result taken
    → Shows pixmap (moment Raw lead_in time) (passing (from_to (Some (bytes ++ rest)) left') out)
    (as_played result) (bytes ++ taken)
called lead_in time bytes rest file taken pumped (Ok resumed) left' out first saved reached no_write answer
    r =
    let (at_end, not_before, (text, is, put)) = r.done in
    screened lead_in time bytes rest file taken pumped left' out first saved reached r.taken_from r.within
    text resumed at_end not_before answer.1 is put
called lead_in time bytes rest file taken pumped (Err FirstFault) left' out first saved reached no_write
    answer r =
    absurd answer
called lead_in time bytes rest file taken pumped (Err SecondFault) left' out first saved reached no_write
    answer r =
    stopped lead_in time bytes rest file taken pumped left' out first saved reached r.taken_from r.within
    play.ReadFault (λ e. cc) (r.stopped SecondFault refl (λ e. cc)) (λ late. absurd (late refl))
    (λ blocks e. (cc))
called lead_in time bytes rest file taken pumped (Err WriteFault) left' out first saved reached no_write
    answer r =
    absurd (no_write refl)
called lead_in time bytes rest file taken pumped (Err (BadSave byte)) left' out first saved reached no_write
    answer r =
    absurd answer
called lead_in time bytes rest file taken pumped (Err (BeforeSave blocks)) left' out first saved reached
    no_write answer r =
    absurd answer
called lead_in time bytes rest file taken pumped (Err (Torn block)) left' out first saved reached no_write
    answer r =
    stopped lead_in time bytes rest file taken pumped left' out first saved reached r.taken_from r.within
    (play.Torn block) (λ e. cc) (r.stopped (Torn block) refl (λ e. cc)) (λ late. r.torn block refl)
    (λ blocks e. (cc))
called lead_in time bytes rest file taken pumped (Err TooLong) left' out first saved reached no_write answer
    r =
    stopped lead_in time bytes rest file taken pumped left' out first saved reached r.taken_from r.within
    play.TooLong (λ e. cc) (r.stopped TooLong refl (λ e. cc)) (λ late. absurd (late refl)) (λ blocks e. (cc))
called lead_in time bytes rest file taken pumped (Err (PastEnd blocks)) left' out first saved reached no_write
    answer r =
    stopped lead_in time bytes rest file taken pumped left' out first saved reached r.taken_from r.within
    (play.PastEnd blocks) (λ e. cc) (r.stopped (PastEnd blocks) refl (λ e. cc))
    (λ late. (r.past_end blocks refl).0)
    (past_all lead_in time bytes rest file taken pumped left' out first saved reached r.taken_from r.within
    blocks (r.past_end blocks refl).0 answer)
