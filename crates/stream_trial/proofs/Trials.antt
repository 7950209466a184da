-- The text of a trial.
use Rattle.std.proofs.Common.{◌≡◌, ◌≢◌, ℕ, zero, suc, ◌+◌, ◌*◌, ◌/◌, ◌%◌, ◌≤◌, List, [], ◌++◌, length, map, take, drop, flat_map, refl, sym, ap, ap₂, ◌∙◌, subst, arith, length-drop, Result, Ok, Err}
use Rattle.std.specs.Prelude.{Option}
use Rattle.std.proofs.lemmas.List.{length-map, map-append, nil_from_length, take-append-drop}
use Rattle.bit_lists.specs.Counting.{parts}
use Rattle.raw_subcode.specs.Channels.{symbols_of, block_of, program_symbols}
use Rattle.raw_subcode.specs.declared.form.Form.TheVariants.{Raw}
use Rattle.rw_interleave.specs.Interleave.{whole_packs, Carries}
use Rattle.rw_interleave.specs.Stream.{IsDamaged}
use Rattle.cue_sheet.specs.CueSheet.{CueSheet}
use Rattle.cue_sheet.specs.Grammar.{read_cue}
use Rattle.toc_model.specs.Places.{program_blocks}
use Rattle.picture_script.specs.Script.{Drawing, pictures}
use Rattle.picture_script.specs.ScriptGrammar.{read_script}
use Rattle.pack_schedule.specs.Schedule.{IsSchedule}
use Rattle.cdg_workload.specs.Script.{generated_script}
use Rattle.cdg_workload.specs.Scratches.{scratched}
use Rattle.cdg_workload.specs.Generated.{generated_drawings}
use Rattle.subcode_author.specs.Authored.{IsAuthored, IsWrittenStream, disc_of}
use Rattle.stream_trial.specs.Differing.{differing}
use Rattle.stream_trial.specs.TrialLines.{input_lines, output_lines}
use Rattle.stream_trial.specs.TrialSheet.{trial_text, trial_sheet}
use Rattle.stream_trial.specs.Trial.{trial_audio, trial_blocks, all_changes, IsTrial}
use Rattle.stream_trial.specs.ReportLines.{report_lines}
use Rattle.stream_trial.specs.Replay.{IsDamagedSchedule, IsPlayedOut}
use Rattle.stream_trial.specs.declared.lines.Report.{Report}
use Rattle.stream_trial.specs.declared.run.Found.{Found}
use Rattle.stream_trial.specs.declared.trying.TrialStop.{TrialStop}
use Rattle.stream_trial.specs.declared.trying.TrialStop.TheVariants.{NoMemory, WriteFault}
use Rattle.std.specs.Io.KnownBytes.{Appends}
use Rattle.cdg_io.specs.Moves.{AppendsPrefix}

-- the laws that this file uses
abbrev pub ScratchesDamage : Type 0
ScratchesDamage = (lead_in seed blocks : ℕ) (bytes : List ℕ) → length bytes ≡ 96 * blocks
    → IsDamaged (program_symbols Raw bytes lead_in) Raw
    (program_symbols Raw (scratched lead_in seed bytes) lead_in)

abbrev pub ChannelsStay : Type 0
ChannelsStay = (lead_in seed : ℕ) (bytes : List ℕ)
    → map (λ byte. byte / 64) (scratched lead_in seed bytes) ≡ map (λ byte. byte / 64) bytes

abbrev pub ScriptsAreRead : Type 0
ScriptsAreRead = (seed count : ℕ) → count ≤ 500
    → read_script (generated_script seed count) ≡ Ok (generated_drawings seed count)

abbrev pub ScriptsHavePictures : Type 0
ScriptsHavePictures = (seed count : ℕ) → pictures (generated_drawings seed count) ≡ count

abbrev pub SheetIsRead : Type 0
SheetIsRead = read_cue trial_text ≡ Ok trial_sheet

abbrev pub HasBlocks : Type 0
HasBlocks = (audio : ℕ) → program_blocks trial_sheet audio ≡ 150 + audio

-- ---- streams with no lead-in

same_length : ChannelsStay → (seed : ℕ) (bytes : List ℕ) → length (scratched 0 seed bytes) ≡ length bytes
same_length stay seed bytes = sym (length-map (scratched 0 seed bytes) (λ byte. byte / 64))
    ∙ ap length (stay 0 seed bytes) ∙ length-map bytes (λ byte. byte / 64)

whole_symbols : (n : ℕ) (bytes : List ℕ) → length bytes ≡ n * 96
    → flat_map symbols_of (map (block_of Raw) (parts n 96 bytes)) ≡ symbols_of bytes
whole_symbols zero bytes size =
    let none : bytes ≡ [] = nil_from_length bytes (omega (arith, size)) in
    sym (ap symbols_of none)
whole_symbols (suc n) bytes size =
    ap (λ l. symbols_of (take 96 bytes) ++ l) (whole_symbols n (drop 96 bytes) (length-drop 96 bytes
    ∙ omega (arith, size)))
    ∙ sym (map-append (λ byte. byte % 64) (take 96 bytes) (drop 96 bytes))
    ∙ ap symbols_of (take-append-drop 96 bytes)

program_is : (blocks : ℕ) (bytes : List ℕ) → length bytes ≡ 96 * blocks
    → program_symbols Raw bytes 0 ≡ symbols_of bytes
program_is blocks bytes size =
    let count : length bytes / 96 ≡ blocks = omega (arith, size) in
    ap (λ n. flat_map symbols_of (map (block_of Raw) (parts n 96 bytes))) count
    ∙ whole_symbols blocks bytes (omega (arith, size))

-- the size of the stream of a sheet
pub stream_size : (sheet : CueSheet) (script : List Drawing) (audio : ℕ) (bytes : List ℕ)
    (packs : List (List ℕ)) → IsAuthored (disc_of sheet script 0 audio) bytes packs
    → length bytes ≡ 96 * program_blocks sheet audio
stream_size sheet script audio bytes packs authored = authored.framing.size ∙ omega arith

scratched_size : ChannelsStay
    → (sheet : CueSheet) (script : List Drawing) (audio seed : ℕ) (bytes others : List ℕ)
    (packs : List (List ℕ)) → others ≡ scratched 0 seed bytes
    → IsAuthored (disc_of sheet script 0 audio) bytes packs → length others ≡ 96 * program_blocks sheet audio
scratched_size stay sheet script audio seed bytes others packs is authored = ap length is
    ∙ same_length stay seed bytes ∙ stream_size sheet script audio bytes packs authored

-- the stream with scratches still has its schedule
damaged_schedule : ScratchesDamage → ChannelsStay
    → (sheet : CueSheet) (script : List Drawing) (audio seed : ℕ) (bytes others : List ℕ)
    (packs : List (List ℕ)) → others ≡ scratched 0 seed bytes
    → IsAuthored (disc_of sheet script 0 audio) bytes packs
    → IsDamagedSchedule script (length others / 96) (program_symbols Raw bytes 0) packs (symbols_of others)
damaged_schedule damage stay sheet script audio seed bytes others packs is authored =
    let blocks : ℕ = program_blocks sheet audio in
    let size : length others ≡ 96 * program_blocks sheet audio =
    scratched_size stay sheet script audio seed bytes others packs is authored in
    let count : program_blocks sheet audio ≡ length others / 96 = omega (arith, size) in
    let symbols : program_symbols Raw (scratched 0 seed bytes) 0 ≡ symbols_of others =
    ap (λ (l : List ℕ). program_symbols Raw l 0) (sym is)
    ∙ program_is (program_blocks sheet audio) others size in
    record {
      schedule = subst (λ b. IsSchedule script b packs) count authored.schedule;
      carries = subst (λ b. Carries b (program_symbols Raw bytes 0) packs) count authored.carries;
      damaged = subst (λ (l : List ℕ). IsDamaged (program_symbols Raw bytes 0) Raw l) symbols
          (damage 0 seed (program_blocks sheet audio) bytes
          (stream_size sheet script audio bytes packs authored));
    }

-- ---- the stream of a trial

trial_program : HasBlocks → (count : ℕ) → program_blocks trial_sheet (trial_audio count) ≡ trial_blocks count
trial_program has count = has (trial_audio count) ∙ omega arith

pub trial_size : HasBlocks → (script : List Drawing) (count : ℕ) (bytes : List ℕ) (packs : List (List ℕ))
    → IsAuthored (disc_of trial_sheet script 0 (trial_audio count)) bytes packs
    → length bytes ≡ 96 * trial_blocks count
trial_size has script count bytes packs authored =
    stream_size trial_sheet script (trial_audio count) bytes packs authored
    ∙ ap (λ n. 96 * n) (trial_program has count)

-- the counts are right for each schedule of the stream
abbrev pub Plays : List Drawing → List ℕ → Found → Type 0
Plays script others found = (symbols : List ℕ) (packs : List (List ℕ))
    → IsDamagedSchedule script (length others / 96) symbols packs (symbols_of others)
    → IsPlayedOut script (length others / 96) symbols (symbols_of others) found

-- the counts of the stream with scratches
pub played_out : HasBlocks → ScratchesDamage → ChannelsStay
    → (script : List Drawing) (count seed : ℕ) (bytes : List ℕ) (packs : List (List ℕ)) (found : Found)
    → IsAuthored (disc_of trial_sheet script 0 (trial_audio count)) bytes packs
    → Plays script (scratched 0 seed bytes) found
    → IsPlayedOut script (trial_blocks count) (program_symbols Raw bytes 0)
    (program_symbols Raw (scratched 0 seed bytes) 0) found
played_out has damage stay script count seed bytes packs found authored plays =
    let others : List ℕ = scratched 0 seed bytes in
    let size : length others ≡ 96 * trial_blocks count = same_length stay seed bytes
    ∙ trial_size has script count bytes packs authored in
    let blocks : length others / 96 ≡ trial_blocks count = omega (arith, size) in
    let played =
    plays (program_symbols Raw bytes 0) packs
    (damaged_schedule damage stay trial_sheet script
    (trial_audio count) seed bytes others packs refl authored) in
    let symbols : symbols_of others ≡ program_symbols Raw others 0 =
    sym (program_is (trial_blocks count) others size) in
    record {
      one = played.one
          ∙ ap₂ (λ b (l : List ℕ). differing 1 (whole_packs b) (program_symbols Raw bytes 0) l) blocks
          symbols;
      two = played.two
          ∙ ap₂ (λ b (l : List ℕ). differing 2 (whole_packs b) (program_symbols Raw bytes 0) l) blocks
          symbols;
      bad = played.bad;
      equal = played.equal;
    }

pub trial_played : HasBlocks → ScratchesDamage → ChannelsStay
    → (script : List Drawing) (seed count seed' count' : ℕ)
    (bytes : List ℕ) (packs : List (List ℕ)) (found : Found)
    → script ≡ generated_drawings seed count → seed' ≡ seed → count' ≡ count
    → IsWrittenStream (disc_of trial_sheet script 0 (trial_audio count)) bytes packs
    → Plays (generated_drawings seed' count') (scratched 0 seed' bytes) found
    → (written : List ℕ) × (packs : List (List ℕ))
    × IsWrittenStream (disc_of trial_sheet script 0 (trial_audio count)) written packs
    × IsPlayedOut script (trial_blocks count) (program_symbols Raw written 0)
    (program_symbols Raw (scratched 0 seed written) 0) found
trial_played has damage stay script seed count seed' count' bytes packs found script_is seed_is count_is
    written plays =
    let same : generated_drawings seed' count' ≡ script = ap₂ generated_drawings seed_is count_is
    ∙ sym script_is in
    let its : Plays script (scratched 0 seed bytes) found =
    subst (λ (n : ℕ). Plays script (scratched 0 n bytes) found) seed_is
    (subst (λ (l : List Drawing). Plays l (scratched 0 seed' bytes) found) same plays) in (
      bytes,
      packs,
      written,
      played_out has damage stay script count seed bytes packs found written.authored
          its,
    )

-- the report on a stream that was played is the text of a trial
pub is_trial : SheetIsRead → ScriptsAreRead → ScriptsHavePictures
    → (seed count : ℕ) (script : List Drawing) (bytes : List ℕ) (packs : List (List ℕ)) (found : Found)
    (report : Report)
    → count ≤ 500 → script ≡ generated_drawings seed count
    → IsWrittenStream (disc_of trial_sheet script 0 (trial_audio count)) bytes packs
    → IsPlayedOut script (trial_blocks count) (program_symbols Raw bytes 0)
    (program_symbols Raw (scratched 0 seed bytes) 0) found
    → report.seed ≡ seed → report.pictures ≡ count → report.blocks ≡ trial_blocks count
    → report.packs ≡ whole_packs (trial_blocks count) → report.changes ≡ all_changes script
    → report.one ≡ found.one → report.two ≡ found.two → report.bad ≡ found.bad → report.equal ≡ found.equal
    → IsTrial seed count (report_lines report)
is_trial read reads have seed count script bytes packs found report few script_is authored played e_seed
    e_pictures e_blocks e_packs e_changes e_one e_two e_bad e_equal =
    let number : ℕ = whole_packs (trial_blocks count) in
    let one : report.one ≡ differing 1 number (program_symbols Raw bytes 0)
    (program_symbols Raw (scratched 0 seed bytes) 0) = e_one ∙ played.one in
    let two : report.two ≡ differing 2 number (program_symbols Raw bytes 0)
    (program_symbols Raw (scratched 0 seed bytes) 0) = e_two ∙ played.two in
    let bad : report.bad ≡ 0 = e_bad ∙ played.bad in
    let equal : report.equal ≡ count = e_equal ∙ played.equal ∙ ap pictures script_is ∙ have seed count in
    record {
      sheet = trial_sheet;
      sheet_is = read;
      script = script;
      script_is = reads seed count few ∙ ap (λ (l : List Drawing). Ok l) (sym script_is);
      bytes = bytes;
      packs = packs;
      authored = authored;
      text_is = λ i. input_lines (e_seed i) (e_pictures i) (e_blocks i) (e_packs i) (e_changes i)
          ++ output_lines (one i) (two i) (bad i) (equal i);
    }

-- ---- the lines, written or not

pub put_text : (seed count : ℕ) (text : List ℕ) (report : Report) (left left' : Option (List ℕ))
    → text ≡ report_lines report → IsTrial seed count (report_lines report) → Appends left left' text
    → (x : List ℕ) × IsTrial seed count x × Appends left left' x
put_text seed count text report left left' is trial put =
    (text, subst (λ (l : List ℕ). IsTrial seed count l) (sym is) trial, put)

pub put_part : (seed count : ℕ) (text : List ℕ) (report : Report) (left left' : Option (List ℕ))
    → text ≡ report_lines report → IsTrial seed count (report_lines report) → AppendsPrefix left left' text
    → (x : List ℕ) × IsTrial seed count x × AppendsPrefix left left' x
put_part seed count text report left left' is trial put =
    (text, subst (λ (l : List ℕ). IsTrial seed count l) (sym is) trial, put)

abbrev ended : Result (Unit {0}) TrialStop → Result (Unit {0}) TrialStop
ended result = result

pub done_no_stop : (stop : TrialStop) → ended (Ok tt) ≢ Err stop
done_no_stop stop = λ e. (cc)

pub write_no_memory : ended (Err WriteFault) ≢ Err NoMemory
write_no_memory = λ e. (cc)
