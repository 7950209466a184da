-- Every sheet and file that can be pressed have a stream.
use Rattle.std.proofs.Common.{◌≡◌, ℕ, ◌+◌, ◌-◌, ◌*◌, ◌/◌, ◌<◌, ◌≤◌, List, [], length, get_or, ap, sym, refl, subst, ◌∙◌, inl, inr, arith}
use Rattle.std.proofs.lemmas.Bool.{cases_lt}
use Rattle.std.proofs.lemmas.List.{get_or_past}
use Rattle.cdg_io.specs.Moves.{AppendsPrefix}
use Rattle.rw_interleave.specs.Interleave.{whole_packs}
use Rattle.cue_sheet.specs.CueSheet.{CueSheet, IsSheet}
use Rattle.toc_model.specs.Places.{layout_of, program_blocks}
use Rattle.rw_code.specs.Packs.{idle_pack}
use Rattle.cdg_io.specs.Change.{Bytes, Change}
use Rattle.stream_writer.specs.Given.{PutsStreamPart, framing_of}
use Rattle.stream_writer.specs.Needs.{text_packs}
use Rattle.stream_writer.proofs.Whole.{SpreadCarries}
use Rattle.cdg_instructions.specs.MadeGood.{IsMadeGood}
use Rattle.cdg_press.specs.Pressed.{file_begin, file_pack, IsPackAfter, IsPressed, press_of}
use Rattle.cdg_press.specs.Refusals.{IsPressable}
use Rattle.stream_writer.proofs.Carrying.{carrying_stream}
use Rattle.stream_writer.proofs.Prefixes.{prefix_of_stream}
use Rattle.stream_writer.proofs.SameBytes.{same_bytes}
use Rattle.cdg_press.proofs.Packs.{one_pack, packs_exist, same_packs}

module _ (sheet : CueSheet) (file : List ℕ) (lead_in audio : ℕ) where
  pub has_stream : SpreadCarries → IsSheet sheet → lead_in ≤ 450000 → IsPressable sheet file lead_in audio
      → (bytes : List ℕ) × (packs : List (List ℕ)) × IsPressed (press_of sheet file lead_in audio) bytes packs
  has_stream spread is_sheet few pressable =
      let blocks : ℕ = program_blocks sheet audio in
      let room : file_begin + 4 * audio ≤ whole_packs blocks = omega arith in
      let (packs, count, come, codewords) = packs_exist file (whole_packs blocks) in
      let (bytes, framed, carries) =
      carrying_stream spread sheet lead_in audio packs is_sheet pressable.in_time.0.1 few count codewords in (
        bytes,
        packs,
        record {
          whole = pressable.in_time.0.0;
          of_file = λ n lt. (come (file_begin + n)
              (omega (arith, count, room, pressable.in_time.2, lt))).of_file n refl lt;
          others = λ n lt out. (come n (omega (arith, count, lt))).idle out;
          framing = framed;
          carries = carries;
          enough = λ some. (pressable.room some).1;
        },
      )

  module _ (bytes : List ℕ) (packs : List (List ℕ))
      (pressed : IsPressed (press_of sheet file lead_in audio) bytes packs) where
    come : (n : ℕ) → n < length packs → IsPackAfter file_begin file n (get_or packs n [])
    come n lt = record {
      of_file = λ k at in_file.
          let here : file_begin + k ≡ n = sym at in
          subst (λ (i : ℕ). IsMadeGood (file_pack file k) (get_or packs i [])) here
          (pressed.of_file k in_file);
      idle = λ out. pressed.others n (omega (arith, pressed.carries.count, lt)) out;
    }

    -- the stream has all packs of the file
    fits : file_begin + length file / 24 ≤ length packs
    fits = elim (cases_lt (length packs) (file_begin + length file / 24)) [
      | inr le ↦ le
      | inl more ↦
          let last : ℕ = length packs - file_begin in
          let begun : file_begin ≤ length packs = omega (arith, pressed.carries.count) in
          let past : length packs ≤ file_begin + last = omega (arith, begun) in
          let within : last < length file / 24 = omega (arith, more, begun) in
          let size : length (get_or packs (file_begin + last) []) ≡ 24 =
          (pressed.of_file last within).codeword.is_word.size in
          let none : length (get_or packs (file_begin + last) []) ≡ 0 =
          ap length (get_or_past packs (file_begin + last) [] past) in
          absurd (omega (arith, none, size))
    ]

    idle_past : (n : ℕ) (pack : List ℕ) → whole_packs (program_blocks sheet audio) ≤ n
        → IsPackAfter file_begin file n pack
        → pack ≡ idle_pack
    idle_past n pack past comes = comes.idle (inr (omega (arith, past, fits, pressed.carries.count)))

    pub part_is_prefix : SpreadCarries → (n : ℕ) (given : List (List ℕ)) (held : Change Bytes)
        → PutsStreamPart (framing_of (layout_of sheet audio) (text_packs sheet) lead_in)
        (IsPackAfter file_begin file) held n given
        → AppendsPrefix held.before held.after bytes
    part_is_prefix spread n given held part =
        prefix_of_stream spread (IsPackAfter file_begin file) (one_pack file) (layout_of sheet audio)
        (text_packs sheet) lead_in n bytes packs given held.before held.after pressed.framing pressed.carries
        come idle_past part

  pub same_pressed_packs : (bytes others : List ℕ) (packs more : List (List ℕ))
      → IsPressed (press_of sheet file lead_in audio) bytes packs
      → IsPressed (press_of sheet file lead_in audio) others more
      → packs ≡ more
  same_pressed_packs bytes others packs more one other =
      same_packs file packs more (one.carries.count ∙ sym other.carries.count) (come bytes packs one)
      (come others more other)

  pub same_pressed_bytes : (bytes others : List ℕ) (packs more : List (List ℕ))
      → IsPressed (press_of sheet file lead_in audio) bytes packs
      → IsPressed (press_of sheet file lead_in audio) others more
      → bytes ≡ others
  same_pressed_bytes bytes others packs more one other =
      same_bytes (layout_of sheet audio) (text_packs sheet) lead_in bytes others packs more
      (same_pressed_packs bytes others packs more one other) one.framing other.framing one.carries
      other.carries
