-- The sheet that a text is read as, with the places of its texts.
use Rattle.std.proofs.Common.{◌≡◌, ◌≢◌, ℕ, ◌-◌, ◌<◌, ◌≤◌, ◌==◌, List, length, All, arith}
use Rattle.std.specs.Prelude.{Ok}
use Rattle.std.proofs.lemmas.Bool.{cond_both, eqb-false}
use Rattle.std.proofs.lemmas.List.Elements.{All-get_or}
use Rattle.cue_sheet.specs.CueSheet.{CueTrack, CueSheet, IsSheet, no_track, track_of, album_text, track_text}
use Rattle.cue_sheet.specs.Grammar.{read_cue}
use Rattle.cue_sheet.specs.declared.fault.CueText.{CueText}
use Rattle.cue_sheet.specs.declared.fault.CueText.TheVariants.{Title, Performer, Songwriter}
use Rattle.cue_sheet.specs.SheetBytes.{HasByteTexts}
use Rattle.cue_sheet.proofs.AcceptedLines.{TrackHas, SheetHas, cue_read}

abbrev IsByte : ℕ → Type 0
IsByte b = b < 256

pub sheet_in_order : (text : List ℕ) (sheet : CueSheet) → length text ≤ 67108864 → read_cue text ≡ Ok sheet
    → IsSheet sheet
sheet_in_order text sheet short e = (cue_read (λ b. Unit {0}) text sheet (λ k d less. tt) short e).0

album_bytes : (sheet : CueSheet) (kind : CueText) → SheetHas IsByte sheet → All IsByte (album_text kind sheet)
album_bytes sheet Title has = has.title
album_bytes sheet Performer has = has.performer
album_bytes sheet Songwriter has = has.songwriter

track_bytes : (track : CueTrack) (kind : CueText) → TrackHas IsByte track → All IsByte (track_text kind track)
track_bytes track Title has = has.title
track_bytes track Performer has = has.performer
track_bytes track Songwriter has = has.songwriter

pub texts_of_bytes : (text : List ℕ) (sheet : CueSheet) → All (λ b. b < 256) text → length text ≤ 67108864
    → read_cue text ≡ Ok sheet
    → HasByteTexts sheet
texts_of_bytes text sheet bytes short e =
    let has : SheetHas IsByte sheet = (cue_read IsByte text sheet bytes short e).1 in
    λ kind place within.
    cond_both (place == 0) (album_text kind sheet) (track_text kind (track_of sheet (place - 1))) (All IsByte)
    (λ _. album_bytes sheet kind has)
    (λ later. let some : place ≢ 0 = eqb-false place 0 later in
    track_bytes (track_of sheet (place - 1)) kind
    (All-get_or (TrackHas IsByte) sheet.tracks (place - 1) no_track (omega arith) has.tracks))
