-- A resumed call shows the standing of the checkpoint, and the screen of the whole stream if its first part was saved.
use Rattle.std.proofs.Common.{◌≡◌, ◌≢◌, ◌==◌, ℕ, ◌≤◌, ◌-◌, ◌*◌, ◌/◌, ◌%◌, List, [], ◌∷◌, ◌++◌, length, refl, sym, ap, subst, ◌∙◌, arith, length-append, Some, None, Result, Ok, Err, IfErr, IfSome, if◌then◌else◌}
use Rattle.std.specs.Prelude.{IsOk, nat_lt}
use Rattle.std.specs.List.{AllByRecursion}
use Rattle.std.specs.Io.KnownBytes.{Appends, Consumes, IsAtEnd}
use Rattle.cdg_io.specs.Pump.{IsUnlessFault, answer_of}
use Rattle.cdg_io.specs.declared.pumping.Pumped.{Pumped}
use Rattle.cdg_io.specs.declared.pumping.PumpStop.{PumpStop}
use Rattle.cdg_io.specs.declared.pumping.PumpStop.TheVariants as pump
use Rattle.raw_subcode.specs.declared.form.Form.TheVariants.{Raw}
use Rattle.cdg_checkpoint.specs.Checkpoint.{checkpoint_in}
use Rattle.cdg_checkpoint.specs.Table.{IsBadAt, IsCheckpointFile, IsPartInRange, Part, file_size}
use Rattle.stream_stages.specs.Calls.{IsMomentStop}
use Rattle.stream_stages.specs.Screen.{IsScreenAt, IsShownBy, Shows, moment}
use Rattle.stream_stages.specs.declared.played.Played.{Played}
use Rattle.stream_stages.specs.declared.played.PlayStop.{PlayStop}
use Rattle.stream_stages.specs.declared.played.PlayStop.TheVariants as play
use Rattle.stream_stages.proofs.Restoring.{taken_all}
use Rattle.stream_stages.proofs.Views.{done_tests, not_over, zero_rest}
use Rattle.cdg_checkpoint.specs.Resumed.{IsFirstPart, as_played, IsAcceptedBy, IsResumed, IsResumedBy, Resumes, acceptance}
use Rattle.cdg_checkpoint.specs.Saved.{IsSaved, Saves}
use Rattle.cdg_checkpoint.specs.declared.stops.Resumed.{Resumed}
use Rattle.cdg_checkpoint.specs.declared.stops.ResumeStop.{ResumeStop}
use Rattle.cdg_checkpoint.specs.declared.stops.ResumeStop.TheVariants as resume
use Rattle.cdg_cmd.specs.Answer.{Does}
use Rattle.cdg_io.specs.Change.{Bytes, Change, from_to}
use Rattle.cdg_io.proofs.Frames.{passing}
use Rattle.cdg_screen.specs.Texts.{pixmap}
use Rattle.cdg_cmd.specs.Checkpoints.{ResumesWith}
use Rattle.cdg_cmd.specs.Faults.{IsAnswered}
use Rattle.cdg_cmd.specs.Resumes.{GoesOnFrom, IsAsScreen, IsSaveOf, PutSame, PutsMoment, ResumesFrom, reading}
use Rattle.cdg_cmd.specs.Stops.{play_status, pump_status, resume_status}
use Rattle.cdg_cmd.specs.declared.command.Command.TheVariants.{Screen}
use Rattle.cdg_cmd.specs.declared.status.Status.{Status}
use Rattle.cdg_cmd.specs.declared.status.Status.TheVariants.{Done, Damaged}
use Rattle.cdg_cmd.proofs.WholeInputs.{both}

-- the laws about checkpoints
pub record Laws : Type 0 where
  pub accepted : (lead_in : ℕ) (bytes file : List ℕ) (pumped : Pumped) → IsFirstPart lead_in bytes
      → IsSaved lead_in bytes pumped file
      → IsCheckpointFile file × ((checkpoint_in file).program ≡ length bytes / 96 - lead_in)
  pub answer : (lead_in time : ℕ) (bytes rest file : List ℕ) (pumped : Pumped)
      (result : Result Resumed ResumeStop) → IsFirstPart lead_in bytes → IsSaved lead_in bytes pumped file
      → IsResumedBy result (checkpoint_in file) time (length rest)
      → IsShownBy (as_played result) lead_in time 96 (length (bytes ++ rest))
  pub whole : (lead_in time : ℕ) (bytes rest file taken : List ℕ) (pumped : Pumped)
      (result : Result Resumed ResumeStop) (left : Bytes) (out : Change Bytes) → IsFirstPart lead_in bytes
      → IsSaved lead_in bytes pumped file
      → length bytes / 96 - lead_in ≤ time → result ≢ Err resume.WriteFault
      → IsResumedBy result (checkpoint_in file) time (length rest)
      → Resumes file time (passing (from_to (Some rest) left) out) result taken
      → Shows pixmap (moment Raw lead_in time) (passing (from_to (Some (bytes ++ rest)) left) out)
      (as_played result) (bytes ++ taken)
  pub only : (lead_in time bad other_bad : ℕ) (bytes text other : List ℕ)
      → IsScreenAt (moment Raw lead_in time) bytes text bad
      → IsScreenAt (moment Raw lead_in time) bytes other other_bad
      → (text ≡ other) × (bad ≡ other_bad)

-- ---- the saved file

saved_of : (lead_in : ℕ) (bytes file taken : List ℕ) (left' : Bytes) (answer : Result Pumped PumpStop)
    → lead_in ≤ 450000
    → Saves lead_in (passing (from_to (Some bytes) left') (from_to (Some []) (Some file))) answer taken
    → IsUnlessFault answer (answer_of 96 1000000 (length bytes)) → Done ≡ pump_status answer
    → (pumped : Pumped) × IsSaved lead_in bytes pumped file × IsFirstPart lead_in bytes
saved_of lead_in bytes file taken left' (Ok pumped) most saves exactly is =
    let (end, (text, is_saved, put)) = saves.done in
    let (within, whole, units) =
    done_tests (nat_lt (1000000 * 96) (length bytes)) (length bytes % 96 == 0) (length bytes / 96) pumped
    exactly in
    let text_is : text ≡ file = sym put in (
      pumped,
      subst (λ (t : List ℕ). IsSaved lead_in bytes pumped t) text_is (subst
          (λ (b : List ℕ). IsSaved lead_in b pumped text) (taken_all bytes left' taken saves.taken_from end)
          is_saved),
      record {
        lead_in_most = most;
        most = not_over (1000000 * 96) (length bytes) within;
        whole = zero_rest (length bytes % 96) whole;
      },
    )
saved_of lead_in bytes file taken left' (Err pump.ReadFault) most saves exactly is = absurd (cc)
saved_of lead_in bytes file taken left' (Err pump.WriteFault) most saves exactly is = absurd (cc)
saved_of lead_in bytes file taken left' (Err (pump.Torn unit)) most saves exactly is = absurd (cc)
saved_of lead_in bytes file taken left' (Err pump.TooLong) most saves exactly is = absurd (cc)

saved_file : (lead_in : ℕ) (bytes file : List ℕ) → IsSaveOf lead_in bytes file
    → (pumped : Pumped) × IsSaved lead_in bytes pumped file × IsFirstPart lead_in bytes
saved_file lead_in bytes file s =
    saved_of lead_in bytes file s.done.taken s.left s.done.answer s.allowed s.done.did s.done.exactly
    s.done.status_is

-- ---- the file that was read

part_of : (P : Part → Type 0) (early : List Part) (part : Part) (late : List Part)
    → AllByRecursion P (early ++ part ∷ late)
    → P part
part_of P [] part late all = all.0
part_of P (other ∷ early) part late all = part_of P early part late all.1

not_bad : (file : List ℕ) (byte : ℕ) → IsCheckpointFile file → IsBadAt file byte → ⊥
not_bad file byte is bad =
    let out = bad.field is.size in
    out.here.out (part_of (IsPartInRange file) out.early out.part out.late
    (subst (λ (ps : List Part). AllByRecursion (IsPartInRange file) ps) out.order is.ranges) out.here.k
    out.here.field)

read_is : (file read : List ℕ) (left' : Bytes) → length file ≡ file_size → Consumes (Some file) left' read
    → (length read ≤ file_size → IsAtEnd left')
    → read ≡ file
read_is file read None size takes ends = absurd takes
read_is file read (Some rest) size takes ends =
    taken_all file (Some rest) read takes
    (ends (omega (arith, size, ap length takes, length-append read rest)))

-- the file was accepted, and the rest of the stream was consumed
pub record GoesOnWith (file : List ℕ) (at : ℕ) (rest : List ℕ) (more' : Bytes) (out : Change Bytes)
    (status : Status) : Type 0 where
  pub answer : Result Resumed ResumeStop
  pub status_is : status ≡ resume_status answer
  pub exactly : IsResumedBy answer (checkpoint_in file) at (length rest)
  pub taken : List ℕ
  pub resumes : Resumes file at (passing (from_to (Some rest) more') out) answer taken

module _ (at : ℕ) (file rest read : List ℕ) (left' more' : Bytes) (out : Change Bytes)
    (is_file : IsCheckpointFile file) (not_later : (checkpoint_in file).program ≤ at) where
  accepted : (answer : Result Resumed ResumeStop) → read ≡ file
      → (taken : List ℕ) × Resumes read at (passing (from_to (Some rest) more') out) answer taken
      → IsResumedBy answer (checkpoint_in read) at (length rest)
      → GoesOnWith file at rest more' out (resume_status answer)
  accepted answer same resumed exactly = record {
    answer = answer;
    status_is = refl;
    exactly = subst (λ (f : List ℕ). IsResumedBy answer (checkpoint_in f) at (length rest)) same exactly;
    taken = resumed.0;
    resumes =
        subst (λ (f : List ℕ). Resumes f at (passing (from_to (Some rest) more') out) answer resumed.0) same
        resumed.1;
  }

  of_answer : (answer : Result Resumed ResumeStop) → IsAnswered (resume_status answer)
      → (answer ≢ Err resume.FirstFault → Consumes (Some file) left' read)
      → (answer ≢ Err resume.FirstFault → length read ≤ file_size → IsAtEnd left')
      → IsAcceptedBy (acceptance answer) at read
      → (IsOk (acceptance answer)
      → (taken : List ℕ) × Resumes read at (passing (from_to (Some rest) more') out) answer taken)
      → (IsOk (acceptance answer) → IsResumedBy answer (checkpoint_in read) at (length rest))
      → GoesOnWith file at rest more' out (resume_status answer)
  of_answer (Ok done) answered takes ends reads goes_on exactly =
      accepted (Ok done) (read_is file read left' is_file.size (takes (λ e. cc)) (ends (λ e. cc)))
      (goes_on refl) (exactly refl)
  of_answer (Err resume.FirstFault) answered takes ends reads goes_on exactly = absurd answered
  of_answer (Err resume.SecondFault) answered takes ends reads goes_on exactly = absurd answered
  of_answer (Err resume.WriteFault) answered takes ends reads goes_on exactly = absurd answered
  of_answer (Err (resume.BadSave byte)) answered takes ends reads goes_on exactly =
      absurd (not_bad file byte is_file (subst (λ (f : List ℕ). IsBadAt f byte)
      (read_is file read left' is_file.size (takes (λ e. cc)) (ends (λ e. cc))) reads))
  of_answer (Err (resume.BeforeSave blocks)) answered takes ends reads goes_on exactly =
      let same : read ≡ file = read_is file read left' is_file.size (takes (λ e. cc)) (ends (λ e. cc)) in
      let count : (checkpoint_in read).program ≡ (checkpoint_in file).program =
      ap (λ (f : List ℕ). (checkpoint_in f).program) same in
      absurd (omega (arith, reads.1, reads.2, count, not_later))
  of_answer (Err (resume.Torn block)) answered takes ends reads goes_on exactly =
      accepted (Err (resume.Torn block))
      (read_is file read left' is_file.size (takes (λ e. cc)) (ends (λ e. cc))) (goes_on refl) (exactly refl)
  of_answer (Err resume.TooLong) answered takes ends reads goes_on exactly =
      accepted (Err resume.TooLong) (read_is file read left' is_file.size (takes (λ e. cc)) (ends (λ e. cc)))
      (goes_on refl) (exactly refl)
  of_answer (Err (resume.PastEnd blocks)) answered takes ends reads goes_on exactly =
      accepted (Err (resume.PastEnd blocks))
      (read_is file read left' is_file.size (takes (λ e. cc)) (ends (λ e. cc))) (goes_on refl) (exactly refl)

gone_on : (at : ℕ) (file rest : List ℕ) (left' more' : Bytes) (out : Change Bytes) (status : Status)
    → IsAnswered status → ResumesWith at (both (Some file) left' (Some rest) more' out) status
    → IsCheckpointFile file → (checkpoint_in file).program ≤ at → GoesOnWith file at rest more' out status
gone_on at file rest left' more' out status answered d is_file not_later =
    subst (λ (s : Status). GoesOnWith file at rest more' out s) (sym d.status_is)
    (of_answer at file rest d.file left' more' out is_file not_later d.answer
    (subst IsAnswered d.status_is answered) d.taken d.whole d.accepted d.goes_on d.exactly)

-- ---- the output

puts : (file : List ℕ) (at : ℕ) (rest taken : List ℕ) (more' : Bytes) (out : Change Bytes)
    (answer : Result Resumed ResumeStop) → IsAnswered (resume_status answer)
    → Resumes file at (passing (from_to (Some rest) more') out) answer taken
    → PutsMoment answer file at rest out
puts file at rest taken more' out (Ok resumed) answered r =
    let (end, reached, (text, is, put)) = r.done in (
      text,
      subst (λ (l : List ℕ). IsResumed file at l resumed text) (taken_all rest more' taken r.taken_from end)
          is,
      put,
    )
puts file at rest taken more' out (Err resume.WriteFault) answered r = absurd answered
puts file at rest taken more' out (Err resume.FirstFault) answered r =
    r.stopped resume.FirstFault refl (λ e. cc)
puts file at rest taken more' out (Err resume.SecondFault) answered r =
    r.stopped resume.SecondFault refl (λ e. cc)
puts file at rest taken more' out (Err (resume.BadSave byte)) answered r =
    r.stopped (resume.BadSave byte) refl (λ e. cc)
puts file at rest taken more' out (Err (resume.BeforeSave blocks)) answered r =
    r.stopped (resume.BeforeSave blocks) refl (λ e. cc)
puts file at rest taken more' out (Err (resume.Torn block)) answered r =
    r.stopped (resume.Torn block) refl (λ e. cc)
puts file at rest taken more' out (Err resume.TooLong) answered r = r.stopped resume.TooLong refl (λ e. cc)
puts file at rest taken more' out (Err (resume.PastEnd blocks)) answered r =
    r.stopped (resume.PastEnd blocks) refl (λ e. cc)

put_from : (file : List ℕ) (at : ℕ) (rest : List ℕ) (more' : Bytes) (out : Change Bytes) (status : Status)
    → IsAnswered status → GoesOnWith file at rest more' out status
    → GoesOnFrom file at rest out status
put_from file at rest more' out status answered g = record {
  answer = g.answer;
  status_is = g.status_is;
  exactly = g.exactly;
  put = puts file at rest g.taken more' out g.answer (subst IsAnswered g.status_is answered) g.resumes;
}

-- ---- one screen

module _ (laws : Laws) (lead_in at : ℕ) (stream : List ℕ) (left left2 : Bytes) (out out2 : Change Bytes)
    (taken taken2 : List ℕ) where
  abbrev IsShow : Result Played PlayStop → Type 0
  IsShow answer = Shows pixmap (moment Raw lead_in at) (passing (from_to (Some stream) left) out) answer taken

  abbrev IsOther : Result Played PlayStop → Type 0
  IsOther answer =
      Shows pixmap (moment Raw lead_in at) (passing (from_to (Some stream) left2) out2) answer taken2

  abbrev AreSame : Result Played PlayStop → Result Played PlayStop → Type 0
  AreSame one other = (play_status other ≡ play_status one) × PutSame out out2

  both_shown : (one other : Played) → IsShow (Ok one) → IsOther (Ok other) → AreSame (Ok one) (Ok other)
  both_shown one other a b =
      let (end, (text, is, put)) = a.plays.done in
      let (end2, (text2, is2, put2)) = b.plays.done in
      let shown : IsScreenAt (moment Raw lead_in at) stream text one.bad =
      subst (λ (l : List ℕ). IsScreenAt (moment Raw lead_in at) l text one.bad)
      (taken_all stream left taken a.plays.taken_from end) is.written in
      let shown2 : IsScreenAt (moment Raw lead_in at) stream text2 other.bad =
      subst (λ (l : List ℕ). IsScreenAt (moment Raw lead_in at) l text2 other.bad)
      (taken_all stream left2 taken2 b.plays.taken_from end2) is2.written in
      let (same_text, same_bad) = laws.only lead_in at one.bad other.bad stream text text2 shown shown2 in (
        ap (λ (n : ℕ). if n == 0 then Done else Damaged n) (sym same_bad),
        (text, put, subst (λ (t : List ℕ). Appends out2.before out2.after t) (sym same_text) put2),
      )

  both_stopped : (one other : PlayStop) → one ≢ play.WriteFault → other ≢ play.WriteFault → other ≡ one
      → IsShow (Err one) → IsOther (Err other)
      → AreSame (Err one) (Err other)
  both_stopped one other no_write no_write2 same a b = (
    ap (λ (s : PlayStop). play_status (Err s)) same,
    ([], a.plays.stopped one refl no_write, b.plays.stopped other refl no_write2),
  )

  same_shown : (one other : Result Played PlayStop) → IsAnswered (play_status one)
      → IsAnswered (play_status other) → IsShownBy one lead_in at 96 (length stream)
      → IsShownBy other lead_in at 96 (length stream) → IsShow one → IsOther other
      → AreSame one other
  same_shown (Err play.ReadFault) other answered answered2 by by2 a b = absurd answered
  same_shown (Err play.WriteFault) other answered answered2 by by2 a b = absurd answered
  same_shown (Err (play.Text why)) other answered answered2 by by2 a b = absurd by
  same_shown (Ok one) (Ok other) answered answered2 by by2 a b = both_shown one other a b
  same_shown (Ok one) (Err play.ReadFault) answered answered2 by by2 a b = absurd answered2
  same_shown (Ok one) (Err play.WriteFault) answered answered2 by by2 a b = absurd answered2
  same_shown (Ok one) (Err (play.Torn block)) answered answered2 by by2 a b = absurd (by2.1 by.1)
  same_shown (Ok one) (Err play.TooLong) answered answered2 by by2 a b = absurd (omega (arith, by.0, by2))
  same_shown (Ok one) (Err (play.PastEnd blocks)) answered answered2 by by2 a b =
      absurd (omega (arith, by.2, by2.2, by2.3))
  same_shown (Err (play.Torn block)) (Ok other) answered answered2 by by2 a b = absurd (by.1 by2.1)
  same_shown (Err (play.Torn block)) (Err play.ReadFault) answered answered2 by by2 a b = absurd answered2
  same_shown (Err (play.Torn block)) (Err play.WriteFault) answered answered2 by by2 a b = absurd answered2
  same_shown (Err (play.Torn block)) (Err (play.Torn other)) answered answered2 by by2 a b =
      both_stopped (play.Torn block) (play.Torn other) (λ e. cc) (λ e. cc) (ap play.Torn (by2.2 ∙ sym by.2)) a
      b
  same_shown (Err (play.Torn block)) (Err play.TooLong) answered answered2 by by2 a b =
      absurd (omega (arith, by.0, by2))
  same_shown (Err (play.Torn block)) (Err (play.PastEnd blocks)) answered answered2 by by2 a b =
      absurd (by.1 by2.1)
  same_shown (Err play.TooLong) (Ok other) answered answered2 by by2 a b = absurd (omega (arith, by, by2.0))
  same_shown (Err play.TooLong) (Err play.ReadFault) answered answered2 by by2 a b = absurd answered2
  same_shown (Err play.TooLong) (Err play.WriteFault) answered answered2 by by2 a b = absurd answered2
  same_shown (Err play.TooLong) (Err (play.Torn block)) answered answered2 by by2 a b =
      absurd (omega (arith, by, by2.0))
  same_shown (Err play.TooLong) (Err play.TooLong) answered answered2 by by2 a b =
      both_stopped play.TooLong play.TooLong (λ e. cc) (λ e. cc) refl a b
  same_shown (Err play.TooLong) (Err (play.PastEnd blocks)) answered answered2 by by2 a b =
      absurd (omega (arith, by, by2.0))
  same_shown (Err (play.PastEnd blocks)) (Ok other) answered answered2 by by2 a b =
      absurd (omega (arith, by.2, by.3, by2.2))
  same_shown (Err (play.PastEnd blocks)) (Err play.ReadFault) answered answered2 by by2 a b = absurd answered2
  same_shown (Err (play.PastEnd blocks)) (Err play.WriteFault) answered answered2 by by2 a b =
      absurd answered2
  same_shown (Err (play.PastEnd blocks)) (Err (play.Torn block)) answered answered2 by by2 a b =
      absurd (by2.1 by.1)
  same_shown (Err (play.PastEnd blocks)) (Err play.TooLong) answered answered2 by by2 a b =
      absurd (omega (arith, by.0, by2))
  same_shown (Err (play.PastEnd blocks)) (Err (play.PastEnd other)) answered answered2 by by2 a b =
      both_stopped (play.PastEnd blocks) (play.PastEnd other) (λ e. cc) (λ e. cc)
      (ap play.PastEnd (by2.2 ∙ sym by.2)) a b
  same_shown (Ok one) (Err (play.Text why)) answered answered2 by by2 a b = absurd by2
  same_shown (Err (play.Torn block)) (Err (play.Text why)) answered answered2 by by2 a b = absurd by2
  same_shown (Err play.TooLong) (Err (play.Text why)) answered answered2 by by2 a b = absurd by2
  same_shown (Err (play.PastEnd blocks)) (Err (play.Text why)) answered answered2 by by2 a b = absurd by2

-- ---- the whole stream

-- a resumed call has the status of a player of the whole stream
played_status : (answer : Result Resumed ResumeStop) (file rest : List ℕ) (at : ℕ)
    → IsAnswered (resume_status answer) → IsResumedBy answer (checkpoint_in file) at (length rest)
    → resume_status answer ≡ play_status (as_played answer)
played_status (Ok resumed) file rest at answered exactly = refl
played_status (Err resume.FirstFault) file rest at answered exactly = absurd answered
played_status (Err resume.SecondFault) file rest at answered exactly = absurd answered
played_status (Err resume.WriteFault) file rest at answered exactly = absurd answered
played_status (Err (resume.BadSave byte)) file rest at answered exactly = absurd exactly
played_status (Err (resume.BeforeSave blocks)) file rest at answered exactly = absurd exactly
played_status (Err (resume.Torn block)) file rest at answered exactly = refl
played_status (Err resume.TooLong) file rest at answered exactly = refl
played_status (Err (resume.PastEnd blocks)) file rest at answered exactly = refl

-- no resumed call lists texts
moment_stop : (answer : Result Resumed ResumeStop) → IfErr (as_played answer) IsMomentStop
moment_stop (Ok resumed) = tt
moment_stop (Err resume.FirstFault) = tt
moment_stop (Err resume.SecondFault) = tt
moment_stop (Err resume.WriteFault) = tt
moment_stop (Err (resume.BadSave byte)) = tt
moment_stop (Err (resume.BeforeSave blocks)) = tt
moment_stop (Err (resume.Torn block)) = tt
moment_stop (Err resume.TooLong) = tt
moment_stop (Err (resume.PastEnd blocks)) = tt

module _ (laws : Laws) (lead_in at : ℕ) (part rest file : List ℕ) (pumped : Pumped)
    (first : IsFirstPart lead_in part) (saved : IsSaved lead_in part pumped file)
    (not_later : length part / 96 - lead_in ≤ at) (more' : Bytes) (out : Change Bytes) (status : Status)
    (answered : IsAnswered status) (g : GoesOnWith file at rest more' out status) where
  reported : IsAnswered (resume_status g.answer)
  reported = subst IsAnswered g.status_is answered

  as_player : status ≡ play_status (as_played g.answer)
  as_player = g.status_is ∙ played_status g.answer file rest at reported g.exactly

  shows : Shows pixmap (moment Raw lead_in at) (passing (from_to (Some (part ++ rest)) more') out)
      (as_played g.answer) (part ++ g.taken)
  shows =
      laws.whole lead_in at part rest file g.taken pumped g.answer more' out first saved not_later
      (λ e. absurd (subst (λ (r : Result Resumed ResumeStop). IsAnswered (resume_status r)) e reported))
      g.exactly
      g.resumes

  shown_by : IsShownBy (as_played g.answer) lead_in at 96 (length (part ++ rest))
  shown_by = laws.answer lead_in at part rest file pumped g.answer first saved g.exactly

  one_screen : (left : Bytes) (second other_out : Change Bytes) (other : Status)
      → Does (Screen lead_in Raw at) (reading (part ++ rest) left second other_out) other → IsAnswered other
      → (other ≡ status) × PutSame out other_out
  one_screen left second other_out other d answered2 =
      let (same, put) =
      same_shown laws lead_in at (part ++ rest) more' left out other_out (part ++ g.taken) d.taken
      (as_played g.answer) d.answer (subst IsAnswered as_player answered)
      (subst IsAnswered d.status_is answered2) shown_by d.exactly.1 shows d.did in
      (d.status_is ∙ same ∙ sym as_player, put)

  pub as_screen : IsAsScreen lead_in at (part ++ rest) out status
  as_screen = record {
    left = more';
    second = record { before = None; after = None };
    does = record {
      answer = as_played g.answer;
      status_is = as_player;
      taken = part ++ g.taken;
      did = shows;
      exactly = (moment_stop g.answer, shown_by);
    };
    same = one_screen;
  }

resumed_whole : (laws : Laws) (at : ℕ) (file rest : List ℕ) (left' more' : Bytes) (out : Change Bytes)
    (status : Status) → IsAnswered status
    → ResumesWith at (both (Some file) left' (Some rest) more' out) status
    → (lead_in : ℕ) (part : List ℕ) → IsSaveOf lead_in part file → length part / 96 - lead_in ≤ at
    → IsAsScreen lead_in at (part ++ rest) out status
resumed_whole laws at file rest left' more' out status answered d lead_in part saving not_later =
    let (pumped, saved, first) = saved_file lead_in part file saving in
    let (is_file, blocks) = laws.accepted lead_in part file pumped first saved in
    as_screen laws lead_in at part rest file pumped first saved not_later more' out status answered
    (gone_on at file rest left' more' out status answered d is_file (omega (arith, blocks, not_later)))

pub resumed_from : (laws : Laws) (at : ℕ) (left left' more more' : Bytes) (out : Change Bytes)
    (status : Status) → IsAnswered status → ResumesWith at (both left left' more more' out) status
    → IfSome left (λ file. IfSome more (λ rest. ResumesFrom file at rest out status))
resumed_from laws at None left' more more' out status answered d = tt
resumed_from laws at (Some file) left' None more' out status answered d = tt
resumed_from laws at (Some file) left' (Some rest) more' out status answered d = record {
  goes_on =
      λ is_file not_later. put_from file at rest more' out status answered
      (gone_on at file rest left' more' out status answered d is_file not_later);
  whole = resumed_whole laws at file rest left' more' out status answered d;
}
