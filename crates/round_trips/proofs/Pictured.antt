-- A screen of a scheduled stream shows its pictures.
use Rattle.std.proofs.Common.{◌≡◌, ℕ, ◌-◌, ◌*◌, ◌/◌, ◌<◌, ◌≤◌, List, [], ◌∷◌, length, map, take, drop, length-drop, replicate, ap, ◌∙◌, subst, arith, Some, None, IfSome, Result, Ok, Err}
use Rattle.std.specs.declared.option.Option.{Option}
use Rattle.std.proofs.Math.Nat.{div-mul-le_self}
use Rattle.std.proofs.lemmas.List.{take-append-le, take-map, length-map}
use Rattle.cdg_io.specs.Pump.{units_of}
use Rattle.cdg_io.specs.Change.{from_to}
use Rattle.cdg_io.proofs.Frames.{passing}
use Rattle.rw_interleave.specs.Interleave.{whole_packs}
use Rattle.raw_subcode.specs.Channels.{unit_size, block_of, blocks_of, program_symbols}
use Rattle.rw_interleave.specs.Stream.{all_packs, word_count, bad_count}
use Rattle.cdg_instructions.specs.declared.instr.Instr.{Instr}
use Rattle.cdg_screen.specs.Standing.{blank, standing_after}
use Rattle.cdg_screen.specs.Texts.{pixmap}
use Rattle.picture_script.specs.Script.{Drawing, pictures, ready_time, hold_time}
use Rattle.pack_schedule.specs.Schedule.{IsSchedule}
use Rattle.pack_schedule.specs.Shown.{ShowsPicture, AreTimesInOrder}
use Rattle.pack_schedule.specs.Meanings.{AreMeantBy}
use Rattle.stream_stages.specs.Screen.{AreMeant, IsScreenAt, IsShownBy, Shows, moment}
use Rattle.round_trips.specs.Pictured.{IsScheduledStream, IsHeldAt, IsPictureText, GivesPicture}
use Rattle.raw_subcode.specs.declared.form.Form.{Form}
use Rattle.stream_stages.specs.declared.played.Played.{Played}
use Rattle.stream_stages.specs.declared.played.PlayStop.{PlayStop}
use Rattle.stream_stages.specs.declared.played.PlayStop.TheVariants.{ReadFault, WriteFault, Torn, TooLong, PastEnd, Text}
use Rattle.stream_stages.proofs.Slots.{length-all_symbols, sized_drop}
use Rattle.stream_stages.proofs.Conversion.{length-units_of, units_sized, blocks_sized}
use Rattle.stream_stages.proofs.Restoring.{Recovers, program_small, taken_all}

-- the laws that this file uses
abbrev pub NoneBad : Type 0
NoneBad = (packs : List (List ℕ)) → bad_count (map (λ pack. Some pack) packs) ≡ 0

abbrev pub ShowsScheduled : Type 0
ShowsScheduled = (script : List Drawing) (blocks : ℕ) (packs : List (List ℕ)) (k time : ℕ)
    (instrs : List Instr) → AreTimesInOrder script → IsSchedule script blocks packs
    → k < pictures script → ready_time script k ≤ time → time ≤ hold_time script k
    → AreMeantBy (take (whole_packs time) packs) instrs
    → ShowsPicture script k (standing_after blank instrs)

meant_by : (packs : List (List ℕ)) (instrs : List Instr) → AreMeant (map (λ pack. Some pack) packs) instrs
    → AreMeantBy packs instrs
meant_by [] instrs meant = meant
meant_by (pack ∷ packs) [] meant = meant
meant_by (pack ∷ packs) (instr ∷ instrs) meant = (meant.0, meant_by packs instrs meant.1)

module _ (recovers : Recovers) (form : Form) (lead_in time : ℕ) (script : List Drawing) (k : ℕ)
    (bytes text : List ℕ) (bad : ℕ) (scheduled : IsScheduledStream form lead_in script bytes)
    (held : IsHeldAt script k time) (screen : IsScreenAt (moment form lead_in time) bytes text bad) where
  first_packs : take (whole_packs time) screen.found
      ≡ map (λ pack. Some pack) (take (whole_packs time) scheduled.packs)
  first_packs =
      let within : whole_packs time ≤ length scheduled.packs =
      omega (arith, held.held, scheduled.schedule.held k held.picture, scheduled.schedule.count) in
      let found : screen.found ≡ map (λ pack. Some pack) (all_packs form scheduled.blocks scheduled.packs) =
      recovers form scheduled.blocks scheduled.stream.symbols (program_symbols form bytes lead_in)
      scheduled.packs screen.found scheduled.stream.carries (program_small form bytes lead_in)
      scheduled.stream.damaged screen.recovered in
      ap (take (whole_packs time)) found
      ∙ take-map (λ pack. Some pack) (whole_packs time) (all_packs form scheduled.blocks scheduled.packs)
      ∙ ap (map (λ pack. Some pack)) (take-append-le (whole_packs time) scheduled.packs
      (replicate (word_count form scheduled.blocks - length scheduled.packs) (replicate 24 0)) within)

  pub picture_text : ShowsScheduled → IsPictureText script k text
  picture_text shows =
      let meant : AreMeantBy (take (whole_packs time) scheduled.packs) screen.instrs =
      meant_by (take (whole_packs time) scheduled.packs) screen.instrs
      (subst (λ (l : List (Option (List ℕ))). AreMeant l screen.instrs) first_packs screen.shown) in (
        standing_after blank screen.instrs,
        shows script scheduled.blocks scheduled.packs k time screen.instrs scheduled.order scheduled.schedule
            held.picture held.ready held.held meant,
        screen.text_is,
      )

  pub picture_bad : NoneBad → bad ≡ 0
  picture_bad none = screen.bad_is ∙ ap bad_count first_packs ∙ none (take (whole_packs time) scheduled.packs)

-- the number of program symbols in some bytes
program_length : (form : Form) (bytes : List ℕ) (lead_in : ℕ)
    → length (program_symbols form bytes lead_in) ≡ 96 * (length bytes / unit_size form - lead_in)
program_length form bytes lead_in =
    let n : ℕ = length bytes / unit_size form in
    let units : List (List ℕ) = units_of (unit_size form) (length bytes / unit_size form) bytes in
    let sized =
    blocks_sized form (units_of (unit_size form) (length bytes / unit_size form) bytes)
    (units_sized (unit_size form) (length bytes / unit_size form) bytes
    (div-mul-le_self (length bytes) (unit_size form))) in
    length-all_symbols (drop lead_in (blocks_of form bytes))
    (sized_drop 96 lead_in (blocks_of form bytes) sized)
    ∙ ap (λ (m : ℕ). 96 * m) (length-drop lead_in (blocks_of form bytes)
    ∙ ap (λ (m : ℕ). m - lead_in) (length-map
    (units_of (unit_size form) (length bytes / unit_size form) bytes) (block_of form)
    ∙ length-units_of (unit_size form) (length bytes / unit_size form) bytes))

program_blocks : (form : Form) (lead_in : ℕ) (script : List Drawing) (bytes : List ℕ)
    (scheduled : IsScheduledStream form lead_in script bytes)
    → scheduled.blocks ≡ length bytes / unit_size form - lead_in
program_blocks form lead_in script bytes scheduled = omega
    (arith, program_length form bytes lead_in, scheduled.stream.damaged.size, scheduled.stream.carries.size)

abbrev pub TextIsPicture : Type 0
TextIsPicture = (form : Form) (lead_in time : ℕ) (script : List Drawing) (k : ℕ) (bytes text : List ℕ)
    (bad : ℕ) → IsScheduledStream form lead_in script bytes → IsHeldAt script k time
    → IsScreenAt (moment form lead_in time) bytes text bad
    → IsPictureText script k text

abbrev pub PictureNoneBad : Type 0
PictureNoneBad = (form : Form) (lead_in time : ℕ) (script : List Drawing) (k : ℕ) (bytes text : List ℕ)
    (bad : ℕ) → IsScheduledStream form lead_in script bytes → IsHeldAt script k time
    → IsScreenAt (moment form lead_in time) bytes text bad
    → bad ≡ 0

pub gives_picture : (form : Form) (lead_in time : ℕ) (left left' held held' : Option (List ℕ))
    (result : Result Played PlayStop) (taken : List ℕ) → TextIsPicture → PictureNoneBad
    → Shows pixmap (moment form lead_in time) (passing (from_to left left') (from_to held held')) result taken
    → IfSome left (λ all. IsShownBy result lead_in time (unit_size form) (length all))
    → IfSome left (λ all. (script : List Drawing) (k : ℕ) → IsScheduledStream form lead_in script all
    → IsHeldAt script k time
    → GivesPicture script k result held held')
gives_picture form lead_in time None left' held held' result taken picture none shows answer = tt
gives_picture form lead_in time (Some all) left' held held' (Ok played) taken picture none shows answer =
    λ script k scheduled at.
    let (end, (text, is_played, put)) = shows.plays.done in
    let same : taken ≡ all = taken_all all left' taken shows.plays.taken_from end in
    let screen : IsScreenAt (moment form lead_in time) all text played.bad =
    subst (λ (bytes : List ℕ). IsScreenAt (moment form lead_in time) bytes text played.bad) same
    is_played.written in (
      none form lead_in time script k all text played.bad scheduled at screen,
      (text, picture form lead_in time script k all text played.bad scheduled at screen, put),
    )
gives_picture form lead_in time (Some all) left' held held' (Err ReadFault) taken picture none shows answer =
    λ script k scheduled at. tt
gives_picture form lead_in time (Some all) left' held held' (Err WriteFault) taken picture none shows answer =
    λ script k scheduled at. tt
gives_picture form lead_in time (Some all) left' held held' (Err (Torn block)) taken picture none shows
    answer =
    λ script k scheduled at. absurd (answer.1 scheduled.stream.whole)
gives_picture form lead_in time (Some all) left' held held' (Err TooLong) taken picture none shows answer =
    λ script k scheduled at. absurd (omega (arith, answer, scheduled.stream.few))
gives_picture form lead_in time (Some all) left' held held' (Err (PastEnd blocks)) taken picture none shows
    answer =
    λ script k scheduled at.
    absurd (omega (
      arith,
      answer.2,
      answer.3,
      program_blocks form lead_in script all scheduled,
      at.held,
      scheduled.schedule.held k at.picture,
    ))
gives_picture form lead_in time (Some all) left' held held' (Err (Text fault)) taken picture none shows
    answer =
    λ script k scheduled at. absurd answer
