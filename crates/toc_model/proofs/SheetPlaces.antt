-- The places of a sheet's tracks are in order.
use Rattle.std.proofs.Common.{◌≡◌, ℕ, ◌+◌, ◌-◌, ◌≤◌, ◌<◌, List, length, get_or, refl, ap, ◌∙◌, arith, inl, inr, false}
use Rattle.std.specs.Prelude.{[], ◌∷◌, ◌++◌, Option, map, ◌==◌}
use Rattle.std.proofs.lemmas.Bool.{cases_lt, cond-false}
use Rattle.std.proofs.lemmas.List.{get_or-map, length-map}
use Rattle.std.proofs.lemmas.List.FromFn.{get_or-map-range_with_len, length-map-range_with_len, map-range_with_len_more}
use Rattle.std.proofs.lemmas.List.Sorted.{IsNonDecreasingBy-from_default}
use Rattle.bit_lists.specs.Counting.{below}
use Rattle.cue_sheet.specs.CueSheet.{CueSheet, track_of, index_line_of, IsSheet, AreIndices}
use Rattle.toc_model.specs.Places.{TrackPlace, DiscLayout, no_place, place_of, blocks_before, track_begin, first_index_time, pregaps_to, postgaps_to, program_blocks, audio_need, layout_of}
use Rattle.toc_model.specs.Layout.{IsPlace, IsLayout, music_begin}
use Rattle.toc_model.proofs.Gaps.{pregaps_to-le, postgaps_to-le}
use Rattle.toc_model.proofs.Need.{time-below-need}
use Rattle.toc_model.proofs.Lines.{music_line}

-- index lines that begin `by` blocks later
abbrev shifted : ℕ → List (ℕ × ℕ) → List (ℕ × ℕ)
shifted by lines = map (λ (line : ℕ × ℕ). (line.0, by + line.1)) lines

shifted-at : (by : ℕ) (lines : List (ℕ × ℕ)) (j : ℕ) → j < length lines
    → ((get_or (shifted by lines) j (0, 0)).0 ≡ (get_or lines j (0, 0)).0)
    × ((get_or (shifted by lines) j (0, 0)).1 ≡ by + (get_or lines j (0, 0)).1)
shifted-at by lines j lt =
    let move : ℕ × ℕ → ℕ × ℕ = λ line. (line.0, by + line.1) in
    let found : get_or (shifted by lines) j (0, 0) ≡ move (get_or lines j (0, 0)) =
    get_or-map move lines j (0, 0) (0, 0) lt in
    (ap (λ (l : ℕ × ℕ). l.0) found, ap (λ (l : ℕ × ℕ). l.1) found)

length-shifted : (by : ℕ) (lines : List (ℕ × ℕ)) → length (shifted by lines) ≡ length lines
length-shifted by lines = let move : ℕ × ℕ → ℕ × ℕ = λ line. (line.0, by + line.1) in length-map lines move

AreIndices-shifted : (by : ℕ) (lines : List (ℕ × ℕ)) → AreIndices lines
    → ((j : ℕ) → j < length lines → by + (get_or lines j (0, 0)).1 < 450000)
    → AreIndices (shifted by lines)
AreIndices-shifted by lines good fits =
    let size = length-shifted by lines in
    let some : 0 < length lines = omega (arith, good.has_one, good.first) in
    let zero = shifted-at by lines 0 some in
    record {
      first = omega (arith, zero, good.first);
      has_one = omega (arith, zero, good.has_one, size);
      next = λ j lt. let within : j < length lines = omega (arith, size) in
          omega (arith, zero, shifted-at by lines j within, good.next j within);
      numbers = λ j lt. let within : j < length lines = omega (arith, size) in
          omega (arith, shifted-at by lines j within, good.numbers j within);
      times = λ j lt. let within : j < length lines = omega (arith, size) in
          omega (arith, shifted-at by lines j within, fits j within);
      order = λ i j le lt. let within : j < length lines = omega (arith, size) in
          let before : i < length lines = omega arith in
          omega (arith, shifted-at by lines i before, shifted-at by lines j within, good.order i j le within);
    }

-- every index line is within the program
pub line_fits : (sheet : CueSheet) (audio k j : ℕ) → audio_need sheet ≤ audio → k < length sheet.tracks
    → j < length (track_of sheet k).indices
    → blocks_before sheet k + (index_line_of (track_of sheet k) j).1 < program_blocks sheet audio
line_fits sheet audio k j enough lt within =
    omega (
      arith,
      time-below-need sheet k j lt within,
      pregaps_to-le sheet (k + 1) (length sheet.tracks) (omega arith),
      postgaps_to-le sheet k (length sheet.tracks) (omega arith),
    )

place_lines : (sheet : CueSheet) (k : ℕ) → IsSheet sheet → k < length sheet.tracks
    → program_blocks sheet (audio_need sheet) ≤ 449999
    → AreIndices (place_of sheet k).lines
place_lines sheet k good lt fits =
    AreIndices-shifted (blocks_before sheet k) (track_of sheet k).indices (good.tracks k lt).indices
    (λ j within. omega (arith, line_fits sheet (audio_need sheet) k j (omega arith) lt within))

-- index 01 of track k: its block, from a line of the track that is not before the first
pub record HasMusic (sheet : CueSheet) (k : ℕ) : Type 0 where
  pub line : ℕ
  pub within : line < length (track_of sheet k).indices
  pub block : music_begin (place_of sheet k)
      ≡ blocks_before sheet k + (index_line_of (track_of sheet k) line).1

has_music : (sheet : CueSheet) (k : ℕ) → IsSheet sheet → k < length sheet.tracks
    → program_blocks sheet (audio_need sheet) ≤ 449999
    → HasMusic sheet k
has_music sheet k good lt fits =
    let lines = place_lines sheet k good lt fits in
    let inner = (good.tracks k lt).indices in
    let size = length-shifted (blocks_before sheet k) (track_of sheet k).indices in
    let some : 0 < length (track_of sheet k).indices = omega (arith, inner.has_one, inner.first) in
    let within : 1 - (get_or (place_of sheet k).lines 0 (0, 0)).0 < length (track_of sheet k).indices =
    omega (arith, size, lines.has_one, lines.first) in
    record {
      line = 1 - (get_or (place_of sheet k).lines 0 (0, 0)).0;
      within = within;
      block =
          music_line (place_of sheet k) (place_of sheet k).lines
          (1 - (get_or (place_of sheet k).lines 0 (0, 0)).0) refl lines refl
          ∙ (shifted-at (blocks_before sheet k) (track_of sheet k).indices
          (1 - (get_or (place_of sheet k).lines 0 (0, 0)).0) within).1;
    }

begin_first : (sheet : CueSheet) → track_begin sheet 0 ≡ 0
begin_first sheet = refl

begin_later : (sheet : CueSheet) (k : ℕ) → 0 < k
    → track_begin sheet k
    ≡ 150 + pregaps_to sheet k + postgaps_to sheet k + first_index_time (track_of sheet k)
begin_later sheet k some = let other : (k == 0) ≡ false = grind arith in cond-false (k == 0) _ _ other

pub begin_at_start : (sheet : CueSheet) (k begin : ℕ) → k ≡ 0 → begin ≡ 0 → begin ≡ track_begin sheet k
begin_at_start sheet k begin zero none = omega (arith, ap (track_begin sheet) zero, begin_first sheet)

pub begin_after_gaps : (sheet : CueSheet) (k begin gaps time : ℕ) → (k ≡ 0 → ⊥)
    → gaps ≡ pregaps_to sheet k + postgaps_to sheet k → time ≡ first_index_time (track_of sheet k)
    → begin ≡ 150 + gaps + time
    → begin ≡ track_begin sheet k
begin_after_gaps sheet k begin gaps time later sum first is =
    omega (arith, begin_later sheet k (omega arith), sum, first, is)

begin_le_music : (sheet : CueSheet) (k : ℕ) → IsSheet sheet → k < length sheet.tracks → HasMusic sheet k
    → track_begin sheet k ≤ music_begin (place_of sheet k)
begin_le_music sheet k good lt music =
    elim (cases_lt 0 k) [
      | inl later ↦ omega (
        arith,
        begin_later sheet k later,
        music.block,
        pregaps_to-le sheet k (k + 1) (omega arith),
        (good.tracks k lt).indices.order 0 music.line (omega arith) music.within,
      )
      | inr first ↦ let zero : k ≡ 0 = omega arith in
          omega (arith, ap (track_begin sheet) zero, begin_first sheet)
    ]

pub IsPlace-of : (sheet : CueSheet) (k : ℕ) → IsSheet sheet → k < length sheet.tracks
    → program_blocks sheet (audio_need sheet) ≤ 449999
    → IsPlace (place_of sheet k)
IsPlace-of sheet k good lt fits =
    let track = good.tracks k lt in
    let music = has_music sheet k good lt fits in
    record {
      number = track.number;
      control = track.control;
      isrc = track.isrc;
      lines = place_lines sheet k good lt fits;
      begins = begin_le_music sheet k good lt music;
      late = omega (arith, music.block);
    }

begins_in_order : (sheet : CueSheet) (j k : ℕ) → IsSheet sheet → j ≤ k → k < length sheet.tracks
    → track_begin sheet j ≤ track_begin sheet k
begins_in_order sheet j k good le lt =
    elim (cases_lt 0 j) [
      | inr first ↦ let zero : j ≡ 0 = omega arith in
          omega (arith, ap (track_begin sheet) zero, begin_first sheet)
      | inl later ↦ elim (cases_lt j k) [
        | inl before ↦
            let some : 0 < length (track_of sheet j).indices = omega (
              arith,
              (good.tracks j (omega arith)).indices.has_one,
              (good.tracks j (omega arith)).indices.first,
            ) in
            omega (
              arith,
              begin_later sheet j later,
              begin_later sheet k (omega arith),
              pregaps_to-le sheet j k le,
              postgaps_to-le sheet j k le,
              good.order j k 0 before lt some,
            )
        | inr same ↦ let equal : j ≡ k = omega arith in omega (arith, ap (track_begin sheet) equal)
      ]
    ]

music_in_order : (sheet : CueSheet) (j k : ℕ) → IsSheet sheet
    → program_blocks sheet (audio_need sheet) ≤ 449999 → j ≤ k → k < length sheet.tracks
    → music_begin (place_of sheet j) ≤ music_begin (place_of sheet k)
music_in_order sheet j k good fits le lt =
    elim (cases_lt j k) [
      | inl before ↦
          let first = has_music sheet j good (omega arith) fits in
          let second = has_music sheet k good lt fits in
          omega (
            arith,
            first.block,
            second.block,
            pregaps_to-le sheet (j + 1) (k + 1) (omega arith),
            postgaps_to-le sheet j k le,
            good.order j k first.line before lt first.within,
            (good.tracks k lt).indices.order 0 second.line (omega arith) second.within,
          )
      | inr same ↦ let equal : j ≡ k = omega arith in
          omega (arith, ap (λ n. music_begin (place_of sheet n)) equal)
    ]

place_of-at : (sheet : CueSheet) (k : ℕ) → k < length sheet.tracks
    → get_or (map (place_of sheet) (below (length sheet.tracks))) k no_place ≡ place_of sheet k
place_of-at sheet k lt =
    get_or-map-range_with_len (place_of sheet) 0 (length sheet.tracks) k k no_place lt (omega arith)

pub IsLayout-of : (sheet : CueSheet) (audio : ℕ) → IsSheet sheet → audio_need sheet ≤ audio
    → program_blocks sheet audio ≤ 449999
    → IsLayout (layout_of sheet audio)
IsLayout-of sheet audio good enough fits =
    let size : length (map (place_of sheet) (below (length sheet.tracks))) ≡ length sheet.tracks =
    length-map-range_with_len (place_of sheet) 0 (length sheet.tracks) in
    let least : program_blocks sheet (audio_need sheet) ≤ 449999 = omega arith in
    record {
      catalogue = good.catalogue;
      count = (omega (arith, size, good.count), omega (arith, size, good.count));
      blocks = fits;
      first = ap (λ (p : TrackPlace). p.begin) (place_of-at sheet 0 good.count.0);
      begins =
          IsNonDecreasingBy-from_default (λ (p : TrackPlace). p.begin)
          (map (place_of sheet) (below (length sheet.tracks))) no_place (λ i j le lt.
          let within : j < length sheet.tracks = omega (arith, size) in
          let before : i < length sheet.tracks = omega arith in
          rw (place_of-at sheet i before, place_of-at sheet j within)
          (begins_in_order sheet i j good le within));
      music =
          IsNonDecreasingBy-from_default music_begin (map (place_of sheet) (below (length sheet.tracks)))
          no_place (λ i j le lt.
          let within : j < length sheet.tracks = omega (arith, size) in
          let before : i < length sheet.tracks = omega arith in
          rw (place_of-at sheet i before, place_of-at sheet j within)
          (music_in_order sheet i j good least le within));
      within = λ k lt.
          let here : k < length sheet.tracks = omega (arith, size) in
          let music = has_music sheet k good here least in
          rw (place_of-at sheet k here)
          (omega (arith, music.block, line_fits sheet audio k music.line enough here music.within));
    }

pub same_place : (sheet : CueSheet) (k number control : ℕ) (isrc : Option (List ℕ)) (begin : ℕ)
    (lines : List (ℕ × ℕ))
    → number ≡ (track_of sheet k).number → control ≡ (track_of sheet k).control
    → isrc ≡ (track_of sheet k).isrc → begin ≡ track_begin sheet k → lines ≡ (place_of sheet k).lines
    → (let place : TrackPlace =
    record { number = number; control = control; isrc = isrc; begin = begin; lines = lines } in
    place)
    ≡ place_of sheet k
same_place sheet k number control isrc begin lines a b c d e =
    λ i. record { number = a i; control = b i; isrc = c i; begin = d i; lines = e i }

pub one_more_place : (sheet : CueSheet) (k : ℕ)
    → map (place_of sheet) (below (k + 1)) ≡ map (place_of sheet) (below k) ++ place_of sheet k ∷ []
one_more_place sheet k = map-range_with_len_more (place_of sheet) 0 k k (omega arith)

pub same_layout : (sheet : CueSheet) (audio : ℕ) (catalogue : Option (List ℕ)) (tracks : List TrackPlace)
    (blocks : ℕ)
    → catalogue ≡ sheet.catalogue → tracks ≡ map (place_of sheet) (below (length sheet.tracks))
    → blocks ≡ program_blocks sheet audio
    → (let layout : DiscLayout = record { catalogue = catalogue; tracks = tracks; blocks = blocks } in layout)
    ≡ layout_of sheet audio
same_layout sheet audio catalogue tracks blocks a b c =
    λ i. record { catalogue = a i; tracks = b i; blocks = c i }
