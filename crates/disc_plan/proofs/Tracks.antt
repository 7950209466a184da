-- The rows of the first tracks of a sheet.
use Rattle.std.proofs.Common.{◌≡◌, ℕ, suc, ◌+◌, ◌-◌, ◌<◌, ◌≤◌, List, [], ◌∷◌, ◌++◌, length, take, drop, refl, sym, ap, ap₂, ◌∙◌, arith, length-append}
use Rattle.std.specs.List.{flat_map}
use Rattle.std.proofs.lemmas.Grind.{flat_map-append}
use Rattle.std.proofs.lemmas.List.{append-nil, drop-drop, take_all}
use Rattle.std.proofs.lemmas.List.Folds.{length-flat_map-take}
use Rattle.std.proofs.Math.Seq.{drop-append-add, take-append_seam, take-suc}
use Rattle.cue_sheet.specs.CueSheet.{AreIndices, CueSheet, CueTrack, no_track, track_of}
use Rattle.disc_plan.specs.SheetRows.{sheet_rows, track_rows}
use Rattle.disc_plan.specs.declared.index_rows.SheetRow.{SheetRow}

-- the rows of the first n tracks
abbrev pub rows_before : CueSheet → ℕ → List SheetRow
rows_before sheet n = flat_map track_rows (take n sheet.tracks)

-- a track has at most a hundred index lines
pub few_lines : (track : CueTrack) → AreIndices track.indices → length track.indices ≤ 100
few_lines track good =
    let last : length track.indices - 1 < length track.indices = omega (arith, good.has_one, good.first) in
    omega (
      arith,
      good.numbers (length track.indices - 1) last,
      good.next (length track.indices - 1) last,
    )

-- one more track
pub rows_more : (sheet : CueSheet) (k : ℕ) → k < length sheet.tracks
    → rows_before sheet (k + 1) ≡ rows_before sheet k ++ track_rows (track_of sheet k)
rows_more sheet k lt =
    let next : k + 1 ≡ suc k = omega arith in
    ap (rows_before sheet) next
    ∙ ap (flat_map track_rows) (take-suc sheet.tracks k no_track lt)
    ∙ flat_map-append track_rows (take k sheet.tracks) (track_of sheet k ∷ [])
    ∙ ap (λ (l : List SheetRow). rows_before sheet k ++ l) (append-nil (track_rows (track_of sheet k)))

pub all_rows : (sheet : CueSheet) (k : ℕ) → k ≡ length sheet.tracks → rows_before sheet k ≡ sheet_rows sheet
all_rows sheet k all = ap (flat_map track_rows) (take_all k sheet.tracks (omega (arith, all)))

-- the rows of the next track fit
pub track_fits : (sheet : CueSheet) (k : ℕ) → k < length sheet.tracks
    → length (rows_before sheet k) + length (track_rows (track_of sheet k)) ≤ length (sheet_rows sheet)
track_fits sheet k lt = length-flat_map-take track_rows sheet.tracks k no_track lt

assoc : (xs ys zs : List SheetRow) → (xs ++ ys) ++ zs ≡ xs ++ (ys ++ zs)
assoc [] ys zs = refl
assoc (x ∷ xs) ys zs = ap (λ l. x ∷ l) (assoc xs ys zs)

-- rows that are written behind the rows at the front
pub put_more : (text piece room packs new : List SheetRow) (at : ℕ) → at ≡ length text
    → packs ≡ text ++ drop (length text) room
    → new ≡ take at packs ++ (piece ++ drop (at + length piece) packs)
    → new ≡ (text ++ piece) ++ drop (length (text ++ piece)) room
put_more text piece room packs new at is now put =
    let front : take at packs ≡ text =
    ap₂ (λ (k : ℕ) (l : List SheetRow). take k l) is now ∙ take-append_seam text (drop (length text) room) in
    let size : length (text ++ piece) ≡ length text + length piece = length-append text piece in
    let back : drop (at + length piece) packs ≡ drop (length (text ++ piece)) room =
    ap₂ (λ (k : ℕ) (l : List SheetRow). drop (k + length piece) l) is now
    ∙ drop-append-add text (drop (length text) room) (length piece)
    ∙ drop-drop (length piece) (length text) room ∙ ap (λ k. drop k room) (sym size) in
    put
    ∙ ap₂ (λ (a b : List SheetRow). a ++ (piece ++ b)) front back
    ∙ sym (assoc text piece (drop (length (text ++ piece)) room))
