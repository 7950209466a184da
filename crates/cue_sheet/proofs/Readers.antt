-- A track in memory: its place in the sheet, and the facts about it and its texts.
use Rattle.std.proofs.Common.{◌≡◌, ℕ, ◌-◌, ◌≤◌, ◌<◌, List, length, get_or, refl, ap, sym, subst, ◌∙◌, arith}
use Rattle.std.proofs.lemmas.List.{get_or-map, length-map}
use Rattle.std.specs.Prelude.{◌==◌}
use Rattle.std.proofs.Math.Bool.{false}
use Rattle.std.proofs.lemmas.Bool.{cond-false}
use Rattle.cue_sheet.specs.CueSheet.{CueSheet, IsSheet, IsText, IsTrack, no_track, track_of, track_text, text_at}
use Rattle.cue_sheet.specs.Views.{section_of, section_text, track_value, sheet_value}
use Rattle.cue_sheet.specs.declared.reader.Section.{Section}
use Rattle.cue_sheet.specs.declared.reader.Track.{Track}
use Rattle.cue_sheet.specs.declared.fault.CueText.{CueText}
use Rattle.cue_sheet.specs.declared.fault.CueText.TheVariants.{Title, Performer, Songwriter}

text_of_track : (kind : CueText) (t : Track)
    → section_text kind (section_of t.section) ≡ track_text kind (track_value t)
text_of_track Title t = refl
text_of_track Performer t = refl
text_of_track Songwriter t = refl

track_of_place : (album : Section) (tracks : List Track) (sheet : CueSheet) (k : ℕ) (t : Track)
    → sheet_value album tracks ≡ sheet → k < length sheet.tracks → t ≡ get_or tracks k t
    → track_value t ≡ track_of sheet k
track_of_place album tracks sheet k t is lt at =
    let size : k < length tracks =
    omega (arith, lt, ap (λ (s : CueSheet). length s.tracks) is, length-map tracks track_value) in
    let found : get_or (sheet_value album tracks).tracks k no_track ≡ track_value t =
    get_or-map track_value tracks k t no_track size ∙ ap track_value (sym at) in
    sym found ∙ ap (λ s. track_of s k) is

good_place : (album : Section) (tracks : List Track) (sheet : CueSheet) (k : ℕ) (t : Track)
    → sheet_value album tracks ≡ sheet → k < length sheet.tracks → t ≡ get_or tracks k t
    → IsSheet (sheet_value album tracks)
    → IsTrack (track_value t)
good_place album tracks sheet k t is lt at good =
    let whole : IsSheet sheet = subst IsSheet is good in
    subst IsTrack (sym (track_of_place album tracks sheet k t is lt at)) (whole.tracks k lt)

-- a track in memory is the track at its place, and its values are in range
pub found_track : (album : Section) (tracks : List Track) (sheet : CueSheet) (k : ℕ) (t : Track)
    → sheet_value album tracks ≡ sheet → k < length sheet.tracks → t ≡ get_or tracks k t
    → IsSheet (sheet_value album tracks)
    → (track_value t ≡ track_of sheet k) × IsTrack (track_value t)
found_track album tracks sheet k t is lt at good =
    (track_of_place album tracks sheet k t is lt at, good_place album tracks sheet k t is lt at good)

pub first_range : (album : Section) (tracks : List Track) (t : Track)
    → t ≡ get_or tracks 0 t → IsSheet (sheet_value album tracks) → (1 ≤ t.number) × (t.number ≤ 99)
first_range album tracks t at good =
    (good_place album tracks (sheet_value album tracks) 0 t refl good.count.0 at good).number

pub text_of_place : (kind : CueText) (sheet : CueSheet) (place : ℕ) (t : Track) (text : List ℕ)
    → 0 < place → track_value t ≡ track_of sheet (place - 1)
    → text ≡ section_text kind (section_of t.section) → text ≡ text_at kind sheet place
text_of_place kind sheet place t text low same spelled =
    let other : (place == 0) ≡ false = grind arith in
    let here : text_at kind sheet place ≡ track_text kind (track_of sheet (place - 1)) =
    cond-false _ _ _ other in
    spelled ∙ (text_of_track kind t ∙ (ap (track_text kind) same ∙ sym here))

pub track_text_is : (kind : CueText) (t : Track) (text : List ℕ) → IsTrack (track_value t)
    → text ≡ section_text kind (section_of t.section)
    → IsText text
track_text_is Title t text good is = subst IsText (sym is) good.title
track_text_is Performer t text good is = subst IsText (sym is) good.performer
track_text_is Songwriter t text good is = subst IsText (sym is) good.songwriter
