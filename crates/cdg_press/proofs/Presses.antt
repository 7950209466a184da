-- The stream that was written is a pressed stream.
use Rattle.std.proofs.Common.{◌≡◌, ℕ, ◌+◌, ◌*◌, ◌/◌, ◌<◌, ◌≤◌, List, [], length, get_or, refl, subst, arith}
use Rattle.std.specs.declared.option.Option.{Option}
use Rattle.std.specs.Io.KnownBytes.{Appends}
use Rattle.rw_interleave.specs.Interleave.{whole_packs}
use Rattle.cue_sheet.specs.CueSheet.{CueSheet, IsSheet}
use Rattle.toc_model.specs.Places.{DiscLayout, layout_of, program_blocks}
use Rattle.cdg_io.specs.Change.{Bytes, Change, from_to}
use Rattle.cdg_io.specs.Moves.{AppendsPrefix}
use Rattle.stream_writer.specs.Given.{AreGiven, CarriesComing, PutsStreamPart, framing_of}
use Rattle.stream_writer.specs.Needs.{text_packs, HasRoom}
use Rattle.stream_writer.proofs.Whole.{framing_with, part_with}
use Rattle.cdg_press.specs.Pressed.{file_begin, IsPackAfter, IsPressed, press_of}
use Rattle.cdg_press.specs.Refusals.{IsPressable, IsWhole}

-- the program has room for the packs of the audio
has_packs : (sheet : CueSheet) (audio : ℕ) → file_begin + 4 * audio ≤ whole_packs (program_blocks sheet audio)
has_packs sheet audio = omega arith

pack_is : (file : List ℕ) (many : ℕ) (packs : List (List ℕ))
    → AreGiven (IsPackAfter file_begin file) 0 many packs → (n : ℕ) → n < many
    → IsPackAfter file_begin file n (get_or packs n [])
pack_is file many packs given n lt =
    let same : 0 + n ≡ n = omega arith in
    subst (λ k. IsPackAfter file_begin file k (get_or packs n [])) same (given.each n lt)

is_pressed : (sheet : CueSheet) (file : List ℕ) (texts : List (List ℕ)) (lead_in audio : ℕ) (bytes : List ℕ)
    (packs : List (List ℕ))
    → IsWhole file → length file / 24 ≤ 4 * audio → (0 < lead_in → texts ≡ text_packs sheet)
    → HasRoom sheet lead_in
    → CarriesComing (framing_of (layout_of sheet audio) texts lead_in) (IsPackAfter file_begin file) bytes
    packs
    → IsPressed (press_of sheet file lead_in audio) bytes packs
is_pressed sheet file texts lead_in audio bytes packs whole fits texts_are room stream = record {
  whole = whole;
  of_file = λ n lt.
      (pack_is file (whole_packs (program_blocks sheet audio)) packs stream.given_are (file_begin + n)
      (omega (arith, has_packs sheet audio, fits, lt))).of_file n refl lt;
  others = λ n lt out. (pack_is file (whole_packs (program_blocks sheet audio)) packs stream.given_are n
      lt).idle out;
  framing =
      framing_with (layout_of sheet audio) texts (text_packs sheet) lead_in bytes texts_are stream.framing;
  carries = stream.carries;
  enough = λ some. (room some).1;
}

pub pressed : (sheet : CueSheet) (file : List ℕ) (layout : DiscLayout) (texts : List (List ℕ))
    (lead_in audio : ℕ) (a b : Option (List ℕ))
    → layout ≡ layout_of sheet audio → IsWhole file → length file / 24 ≤ 4 * audio
    → (0 < lead_in → texts ≡ text_packs sheet) → HasRoom sheet lead_in
    → (bytes : List ℕ)
    × (packs : List (List ℕ))
    × CarriesComing (framing_of layout texts lead_in) (IsPackAfter file_begin file) bytes packs
    × Appends a b bytes
    → (bytes : List ℕ)
    × (packs : List (List ℕ))
    × IsPressed (press_of sheet file lead_in audio) bytes packs
    × Appends a b bytes
pressed sheet file layout texts lead_in audio a b disc whole fits texts_are room w = (
  w.0,
  w.1,
  is_pressed sheet file texts lead_in audio w.0 w.1 whole fits texts_are room
      (subst
      (λ (l : DiscLayout). CarriesComing (framing_of l texts lead_in) (IsPackAfter file_begin file) w.0 w.1)
      disc w.2),
  w.3,
)

pub part_pressed : (sheet : CueSheet) (file : List ℕ) (layout : DiscLayout) (texts : List (List ℕ))
    (lead_in audio : ℕ) (a b : Option (List ℕ))
    → layout ≡ layout_of sheet audio → (0 < lead_in → texts ≡ text_packs sheet)
    → (n : ℕ)
    × (packs : List (List ℕ))
    × PutsStreamPart (framing_of layout texts lead_in) (IsPackAfter file_begin file) (from_to a b) n packs
    → (n : ℕ)
    × (packs : List (List ℕ))
    × PutsStreamPart (framing_of (layout_of sheet audio) (text_packs sheet) lead_in)
    (IsPackAfter file_begin file) (from_to a b) n packs
part_pressed sheet file layout texts lead_in audio a b disc texts_are w = (
  w.0,
  w.1,
  part_with (layout_of sheet audio) (IsPackAfter file_begin file) texts (text_packs sheet) lead_in a b w.0 w.1
      texts_are
      (subst (λ (l : DiscLayout).
      PutsStreamPart (framing_of l texts lead_in) (IsPackAfter file_begin file) (from_to a b) w.0 w.1) disc
      w.2),
)

-- two laws about presses
abbrev pub HaveStreams : Type 0
HaveStreams = (sheet : CueSheet) (file : List ℕ) (lead_in audio : ℕ) → IsSheet sheet → lead_in ≤ 450000
    → IsPressable sheet file lead_in audio
    → (bytes : List ℕ) × (packs : List (List ℕ)) × IsPressed (press_of sheet file lead_in audio) bytes packs

abbrev pub ArePrefixes : Type 0
ArePrefixes =
    (sheet : CueSheet) (file : List ℕ) (lead_in audio n : ℕ) (bytes : List ℕ) (packs given : List (List ℕ))
    (held : Change Bytes) → IsPressed (press_of sheet file lead_in audio) bytes packs
    → PutsStreamPart (framing_of (layout_of sheet audio) (text_packs sheet) lead_in)
    (IsPackAfter file_begin file) held n given
    → AppendsPrefix held.before held.after bytes

-- the output is a prefix of a pressed stream
pub prefix_pressed : HaveStreams → ArePrefixes
    → (sheet : CueSheet) (file : List ℕ) (lead_in audio : ℕ) (a b : Option (List ℕ))
    → IsSheet sheet → lead_in ≤ 450000 → IsPressable sheet file lead_in audio
    → (n : ℕ)
    × (packs : List (List ℕ))
    × PutsStreamPart (framing_of (layout_of sheet audio) (text_packs sheet) lead_in)
    (IsPackAfter file_begin file) (from_to a b) n packs
    → (bytes : List ℕ)
    × (packs : List (List ℕ))
    × IsPressed (press_of sheet file lead_in audio) bytes packs
    × AppendsPrefix a b bytes
prefix_pressed streams prefixes sheet file lead_in audio a b is_sheet few pressable (n, given, part) =
    let (bytes, packs, whole) = streams sheet file lead_in audio is_sheet few pressable in
    (bytes, packs, whole, prefixes sheet file lead_in audio n bytes packs given (from_to a b) whole part)
