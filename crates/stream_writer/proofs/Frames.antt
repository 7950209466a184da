-- The frames of a disc are valid.
use Rattle.std.proofs.Common.{◌≡◌, ◌⊎◌, ℕ, zero, suc, ◌+◌, ◌-◌, ◌/◌, ◌%◌, ◌<◌, ◌≤◌, Bool, true, false, List, [], ◌∷◌, length, get_or, map, All, refl, sym, ap, subst, ◌∙◌, inl, inr, lit<, arith}
use Rattle.std.specs.Prelude.{Option, Some, None, IsTrue, reverse, find, option_map, unwrap_or, nat_le, nat_lt, ◌==◌, ◌&&◌, if◌then◌else◌}
use Rattle.std.specs.Option.{ForSome}
use Rattle.std.specs.List.{list_all}
use Rattle.std.specs.Char.{is_ascii_digit}
use Rattle.std.proofs.lemmas.Bool.{cases_lt, cases_Bool, false≢true, eqb-true}
use Rattle.std.proofs.lemmas.List.{get_or-reverse, length-reverse, length-map, get_or-map, get_or_append_left, get_or-append_right}
use Rattle.std.proofs.lemmas.Bool.Decides.{nat_tests}
use Rattle.std.proofs.lemmas.Nat.{mod_below}
use Rattle.std.proofs.lemmas.List.Folds.{list_all_at}
use Rattle.std.proofs.lemmas.List.FromFn.{length-map-range_with_len, get_or-map-range_with_len}
use Rattle.disc_time.specs.Time.{frame_of}
use Rattle.q_channel.specs.QFrame.{IsValid, IsValidPoint}
use Rattle.q_channel.specs.declared.frame.QFrame.{QFrame}
use Rattle.q_channel.specs.declared.frame.TocPoint.{TocPoint}
use Rattle.q_channel.specs.declared.frame.TocPoint.TheVariants.{Track, First, Last, LeadOut}
use Rattle.cue_sheet.specs.CueSheet.{CueSheet, AreIndices, IsSheet, is_catalogue_number, is_capital_code}
use Rattle.toc_model.specs.Places.{TrackPlace, DiscLayout, no_place, place_of, layout_of, audio_need, program_blocks}
use Rattle.toc_model.specs.Layout.{track_at, index_at, music_begin, time_in_track, time_frame, catalogue_frame, isrc_frame, program_frame, toc_entries, toc_frame, place_at, IsPlace, IsLayout}
use Rattle.toc_model.proofs.SheetPlaces.{IsPlace-of, IsLayout-of}
use Rattle.toc_model.proofs.Codes.{code_parts}

later : {X : Type 0} (p : X → Bool) (x : X) (xs : List X) (d : X) → p x ≡ false
    → ((i : ℕ) → i < length xs → p (get_or xs i d) ≡ false) → (i : ℕ) → i < length (x ∷ xs)
    → p (get_or (x ∷ xs) i d) ≡ false
later p x xs d fails none zero lt = fails
later p x xs d fails none (suc i) lt = none i (omega arith)

-- an element that is found is in the list; if none is found, none passes
found_or_none : {X : Type 0} (p : X → Bool) (xs : List X) (d : X)
    → ((i : ℕ) × (i < length xs) × (find p xs ≡ Some (get_or xs i d)))
    ⊎ ((find p xs ≡ None) × ((i : ℕ) → i < length xs → p (get_or xs i d) ≡ false))
found_or_none p [] d = inr (refl, λ i lt. absurd (omega arith))
found_or_none p (x ∷ xs) d = elim (cases_Bool (p x)) [
  | inl passes ↦ inl (0, omega arith, ap (λ (b : Bool). if b then Some x else find p xs) passes)
  | inr fails ↦ elim (found_or_none p xs d) [
    | inl (i, lt, is) ↦
        inl (suc i, omega arith, ap (λ (b : Bool). if b then Some x else find p xs) fails ∙ is)
    | inr none ↦
        inr (ap (λ (b : Bool). if b then Some x else find p xs) fails ∙ none.0, later p x xs d fails none.1)
  ]
]

zero_first : (n : ℕ) → nat_le 0 n ≡ true
zero_first n = grind (arith, nat_tests)

both : (a b : Bool) → (a && b) ≡ true → (a ≡ true) × (b ≡ true)
both true b h = (refl, h)
both false b h = absurd (false≢true h)

all_of : (p : ℕ → Bool) (xs : List ℕ) → list_all p xs ≡ true → All (λ c. p c ≡ true) xs
all_of p xs h =
    λ k d lt. elim (cases_Bool (p (get_or xs k d)))
    [ inl passes ↦ passes | inr fails ↦ absurd (false≢true (sym (list_all_at p xs k d lt fails) ∙ h)) ]

number_parts : (number : List ℕ) → is_catalogue_number number ≡ true
    → (length number ≡ 13) × All (λ c. is_ascii_digit c ≡ true) number
number_parts number good =
    let parts = both (length number == 13) (list_all is_ascii_digit number) good in
    (eqb-true (length number) 13 parts.0, all_of is_ascii_digit number parts.1)

if_valid : (b : Bool) (x y : QFrame) → IsValid x → IsValid y → IsValid (if b then x else y)
if_valid true x y p q = p
if_valid false x y p q = q

if_below : (limit : ℕ) (b : Bool) (m n : ℕ) → m < limit → n < limit → (if b then m else n) < limit
if_below limit true m n p q = p
if_below limit false m n p q = q

-- the number of an index line is below 100
index_below : (place : TrackPlace) (block : ℕ) → AreIndices place.lines → index_at place block ≤ 99
unfolding index_at
index_below place block good =
    let p : ℕ × ℕ → Bool = λ line. nat_le line.1 block in
    let lines : List (ℕ × ℕ) = place.lines in
    elim (found_or_none p (reverse lines) (0, 0)) [
      | inl (i, lt, is) ↦
          let size : length (reverse lines) ≡ length lines = length-reverse lines in
          let there = get_or-reverse lines i (0, 0) (omega (arith, size, lt)) in
          subst (λ (o : Option (ℕ × ℕ)). unwrap_or (option_map (λ (line : ℕ × ℕ). line.0) o) 0 ≤ 99) (sym is)
          (subst (λ (line : ℕ × ℕ). line.0 ≤ 99) (sym there)
          (good.numbers (length lines - 1 - i) (omega (arith, size, lt))))
      | inr none ↦
          subst (λ (o : Option (ℕ × ℕ)). unwrap_or (option_map (λ (line : ℕ × ℕ). line.0) o) 0 ≤ 99)
          (sym none.0) (omega arith)
    ]

module _ (layout : DiscLayout) (good : IsLayout layout)
    (places : (k : ℕ) → k < length layout.tracks → IsPlace (place_at layout k)) where
  -- the track of a block is one of the tracks
  track_is : (block : ℕ) → (k : ℕ) × (k < length layout.tracks) × (track_at layout block ≡ place_at layout k)
  unfolding track_at
  track_is block =
      let p : TrackPlace → Bool = λ place. nat_le place.begin block in
      let tracks : List TrackPlace = layout.tracks in
      let size : length (reverse tracks) ≡ length tracks = length-reverse tracks in
      elim (found_or_none p (reverse tracks) no_place) [
        | inl (i, lt, is) ↦ (
          length tracks - 1 - i,
          omega (arith, size, lt),
          ap (λ (o : Option TrackPlace). unwrap_or o no_place) is
              ∙ get_or-reverse tracks i no_place (omega (arith, size, lt)),
        )
        | inr none ↦
            let last : ℕ = length tracks - 1 in
            let some : last < length tracks = omega (arith, good.count.0) in
            let there = get_or-reverse tracks last no_place some in
            let start : length tracks - 1 - last ≡ 0 = omega arith in
            let begin : (get_or (reverse tracks) last no_place).begin ≡ 0 =
            ap (λ (t : TrackPlace). t.begin) (there ∙ ap (λ n. get_or tracks n no_place) start)
            ∙ good.first in
            let fails : nat_le (get_or (reverse tracks) last no_place).begin block ≡ false =
            none.1 last (omega (arith, size, some)) in
            absurd (false≢true (sym fails ∙ ap (λ n. nat_le n block) begin ∙ zero_first block))
      ]

  module _ (block : ℕ) (within : block < layout.blocks) (k : ℕ) (lt : k < length layout.tracks) where
    early : block < 450000
    early = omega (arith, within, good.blocks)

    time_below : time_in_track (place_at layout k) block < 450000
    time_below =
        let music : music_begin (place_at layout k) < layout.blocks = good.within k lt in
        if_below 450000 (nat_lt block (music_begin (place_at layout k)))
        (music_begin (place_at layout k) - block) (block - music_begin (place_at layout k))
        (omega (arith, music, good.blocks)) (omega (arith, early))

    time_valid : IsValid (time_frame (place_at layout k) block)
    time_valid =
        let place = places k lt in (
          place.control,
          place.number.0,
          place.number.1,
          index_below (place_at layout k) block place.lines,
          time_below,
          early,
        )

    frame_small : frame_of block ≤ 74
    frame_small = omega arith

    catalogue_valid : (number : Option (List ℕ))
        → ForSome number (λ digits. IsTrue (is_catalogue_number digits))
        → IsValid (catalogue_frame (place_at layout k) block number)
    catalogue_valid None is = time_valid
    catalogue_valid (Some digits) is = let parts = number_parts digits (is digits refl) in
        ((places k lt).control, parts.0, parts.1, frame_small)

    isrc_valid : (code : Option (List ℕ)) → ForSome code (λ c. IsTrue (is_capital_code c))
        → IsValid (isrc_frame (place_at layout k) block code)
    isrc_valid None is = time_valid
    isrc_valid (Some code) is =
        let parts = code_parts code (is code refl) in
        if_valid (index_at (place_at layout k) block == 0) (time_frame (place_at layout k) block) _ time_valid
        ((places k lt).control, parts.0, parts.1, parts.2, parts.3, frame_small)

    place_valid : (place : TrackPlace) → place ≡ place_at layout k
        → IsValid (if block % 100 == 49
        then catalogue_frame place block layout.catalogue
        else (if block % 100 == 99 then isrc_frame place block place.isrc else time_frame place block))
    place_valid place is =
        subst (λ (place : TrackPlace). IsValid (if block % 100 == 49
        then catalogue_frame place block layout.catalogue
        else (if block % 100 == 99 then isrc_frame place block place.isrc else time_frame place block)))
        (sym is)
        (if_valid (block % 100 == 49) _ _ (catalogue_valid layout.catalogue good.catalogue)
        (if_valid (block % 100 == 99) _ _ (isrc_valid (place_at layout k).isrc (places k lt).isrc)
        time_valid))

  pub program_valid : (block : ℕ) → block < layout.blocks → IsValid (program_frame layout block)
  program_valid block within = let (k, lt, is) = track_is block in
      place_valid block within k lt (track_at layout block) is

  -- the entry is a valid entry of the table of contents
  abbrev IsEntry : ℕ × TocPoint → Type 0
  IsEntry entry = (entry.0 < 16) × IsValidPoint entry.1

  some_track : 0 < length layout.tracks
  some_track = omega (arith, good.count.0)

  ends : (i : ℕ) → i < 3
      → IsEntry (get_or ((((place_at layout 0).control, First (place_at layout 0).number 0)
      ∷ (
        (place_at layout (length layout.tracks - 1)).control,
        Last (place_at layout (length layout.tracks - 1)).number,
      )
      ∷ ((place_at layout (length layout.tracks - 1)).control, LeadOut layout.blocks) ∷ [])) i (0, First 0 0))
  ends zero lt = let first = places 0 some_track in (first.control, (first.number.0, first.number.1, lit< tt))
  ends (suc zero) lt = let last = places (length layout.tracks - 1) (omega (arith, some_track)) in
      (last.control, (last.number.0, last.number.1))
  ends (suc (suc zero)) lt = let last = places (length layout.tracks - 1) (omega (arith, some_track)) in
      (last.control, omega (arith, good.blocks))
  ends (suc (suc (suc i))) lt = absurd (omega arith)

  entry_valid : (i : ℕ) → i < length layout.tracks + 3
      → IsEntry (get_or (toc_entries layout) i (0, First 0 0))
  entry_valid i lt =
      let f : TrackPlace → ℕ × TocPoint = λ place. (place.control, Track place.number (music_begin place)) in
      let tracks : List TrackPlace = layout.tracks in
      let more : List (ℕ × TocPoint) = ((place_at layout 0).control, First (place_at layout 0).number 0)
      ∷ (
        (place_at layout (length layout.tracks - 1)).control,
        Last (place_at layout (length layout.tracks - 1)).number,
      )
      ∷ ((place_at layout (length layout.tracks - 1)).control, LeadOut layout.blocks) ∷ [] in
      let size : length (map f tracks) ≡ length tracks = length-map tracks f in
      elim (cases_lt i (length tracks)) [
        | inl inside ↦
            let here =
            get_or_append_left (map f tracks) more (0, First 0 0) i (omega (arith, size, inside))
            ∙ get_or-map f tracks i no_place (0, First 0 0) inside in
            let place = places i inside in
            subst IsEntry (sym here) (
              place.control,
              (place.number.0, place.number.1, omega (arith, good.within i inside, good.blocks)),
            )
        | inr past ↦
            subst IsEntry
            (sym (get_or-append_right (map f tracks) more (length tracks) i (0, First 0 0) size past))
            (ends (i - length tracks) (omega (arith, lt, past)))
      ]

  pub toc_valid : (lead_in l : ℕ) → l < lead_in → lead_in ≤ 450000 → IsValid (toc_frame layout lead_in l)
  toc_valid lead_in l lt few =
      let entry =
      entry_valid (l / 3 % (length layout.tracks + 3))
      (mod_below (l / 3) (length layout.tracks + 3) (omega arith)) in
      (entry.0, entry.1, omega (arith, lt, few))

module _ (sheet : CueSheet) (audio : ℕ) (is_sheet : IsSheet sheet) (enough : audio_need sheet ≤ audio)
    (fits : program_blocks sheet audio ≤ 449999) where
  is_layout : IsLayout (layout_of sheet audio)
  is_layout = IsLayout-of sheet audio is_sheet enough fits

  are_places : (k : ℕ) → k < length (layout_of sheet audio).tracks
      → IsPlace (place_at (layout_of sheet audio) k)
  are_places k lt =
      let count : length (layout_of sheet audio).tracks ≡ length sheet.tracks =
      length-map-range_with_len (place_of sheet) 0 (length sheet.tracks) in
      let within : k < length sheet.tracks = omega (arith, lt, count) in
      let here : 0 + k ≡ k = omega arith in
      subst IsPlace
      (sym (get_or-map-range_with_len (place_of sheet) 0 (length sheet.tracks) k k no_place within here))
      (IsPlace-of sheet k is_sheet within (omega (arith, enough, fits)))

  pub sheet_program_valid : (block : ℕ) → block < program_blocks sheet audio
      → IsValid (program_frame (layout_of sheet audio) block)
  sheet_program_valid = program_valid (layout_of sheet audio) is_layout are_places

  pub sheet_toc_valid : (lead_in l : ℕ) → l < lead_in → lead_in ≤ 450000
      → IsValid (toc_frame (layout_of sheet audio) lead_in l)
  sheet_toc_valid = toc_valid (layout_of sheet audio) is_layout are_places
