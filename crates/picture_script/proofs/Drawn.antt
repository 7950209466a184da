-- The canvas after the first lines of a script were drawn.
use Rattle.std.proofs.Common.{◌≡◌, ℕ, ◌+◌, ◌-◌, ◌*◌, ◌/◌, ◌%◌, ◌<◌, ◌≤◌, true, List, [], ◌∷◌, ◌++◌, length, take, map, get_or, All, ap, sym, subst, ◌∙◌, arith}
use Rattle.std.specs.Prelude.{Option, Some, None, MatchOption}
use Rattle.std.proofs.lemmas.Grind.{same_number_lists}
use Rattle.std.proofs.lemmas.List.FromFn.{length-map-range_with_len, get_or-map-range_with_len}
use Rattle.bit_lists.specs.Counting.{below}
use Rattle.std.proofs.lemmas.List.{take_more, get_or-map, length-map, length-take}
use Rattle.std.proofs.lemmas.List.Elements.{All-get_or}
use Rattle.std.proofs.lemmas.List.Sums.{fold-append}
use Rattle.picture_script.specs.Script.{Drawing, Border, Fill, Picture, blank_picture, drawn, drawn_by, lines_before, picture_pixel, picture_border, picture_colour, picture_tile}
use Rattle.picture_script.specs.Lines.{said, all_said, is_kept}
use Rattle.picture_script.specs.declared.script.ScriptLine.{ScriptLine}
use Rattle.picture_script.specs.declared.script.ScriptLine.TheVariants.{Filled}
use Rattle.std.proofs.lemmas.Bool.Decides.{nat_tests}
use Rattle.picture_script.specs.Board.{Board, IsBlank, IsPicture, IsDrawn, IsSet, ArePixelsOf, StandsBefore, pixel_of, tile_of}
use Rattle.picture_script.proofs.Scripts.{before_prefix, before_rising}

pub blank-drawn : (script : List Drawing) (board : Board) → IsBlank board
    → IsDrawn (drawn_by (take 0 script)) board
blank-drawn script board h =
    record { pixels_are = h.pixels_are; border_is = h.border_is; colours_are = h.colours_are }

pub picture-drawn : (script : List Drawing) (k n : ℕ) (board : Board) → n ≡ length (lines_before script k)
    → IsPicture script k board
    → IsDrawn (drawn_by (take n script)) board
unfolding picture_pixel picture_border picture_colour
picture-drawn script k n board size h =
    let all : IsDrawn (drawn_by (lines_before script k)) board =
    record { pixels_are = h.pixels_are; border_is = h.border_is; colours_are = h.colours_are } in
    subst (λ lines. IsDrawn (drawn_by lines) board)
    (before_prefix script k ∙ ap (λ m. take m script) (sym size)) all

pub drawn-picture : (script : List Drawing) (k n : ℕ) (board : Board) (at : Option ℕ)
    → n ≡ length (lines_before script k) → IsDrawn (drawn_by (take n script)) board
    → IsPicture script k
    (record { pixels = board.pixels; border = board.border; colours = board.colours; at = at })
unfolding picture_pixel picture_border picture_colour
drawn-picture script k n board at size h =
    let all =
    subst (λ lines. IsDrawn (drawn_by lines) board)
    (sym (before_prefix script k ∙ ap (λ m. take m script) (sym size))) h in
    record { pixels_are = all.pixels_are; border_is = all.border_is; colours_are = all.colours_are }

pub length-all_said : (pixels : List ℕ) (lines : List ScriptLine)
    → length (all_said pixels lines) ≡ length lines
unfolding all_said
length-all_said pixels lines = length-map lines (said pixels)

pub before-most : (script : List Drawing) (k : ℕ) → length (lines_before script k) ≤ length script
before-most script k =
    omega (arith, ap length (before_prefix script k) ∙ length-take (length (lines_before script k)) script)

-- one more line
pub next_said : (pixels : List ℕ) (lines : List ScriptLine) (script : List Drawing) (i : ℕ)
    (line : ScriptLine) → all_said pixels lines ≡ script → i < length lines → line ≡ get_or lines i line
    → drawn (drawn_by (take i script)) (said pixels line) ≡ drawn_by (take (i + 1) script)
unfolding all_said
next_said pixels lines script i line view i_lt read =
    let size : length (map (said pixels) lines) ≡ length lines = length-map lines (said pixels) in
    let more : take (i + 1) script ≡ take i script ++ said pixels line ∷ [] =
    ap (take (i + 1)) (sym view) ∙ take_more (map (said pixels) lines) i (said pixels line) (omega arith)
    ∙ ap (λ xs. take i xs ++ get_or xs i (said pixels line) ∷ []) view
    ∙ ap (λ x. take i script ++ x ∷ []) (ap (λ xs. get_or xs i (said pixels line)) (sym view)
    ∙ get_or-map (said pixels) lines i line (said pixels line) i_lt
    ∙ ap (said pixels) (sym read)) in
    sym (ap drawn_by more ∙ fold-append drawn blank_picture (take i script) (said pixels line ∷ []))

-- the line at a place
pub said_at : (pixels : List ℕ) (lines : List ScriptLine) (script : List Drawing) (i : ℕ) (line : ScriptLine)
    → all_said pixels lines ≡ script → i < length lines → line ≡ get_or lines i line
    → said pixels line ≡ get_or script i (Border 0)
unfolding all_said
said_at pixels lines script i line view i_lt read =
    ap (said pixels) read ∙ sym (get_or-map (said pixels) lines i line (Border 0) i_lt)
    ∙ ap (λ xs. get_or xs i (Border 0)) view

pub next_line : (pixels : List ℕ) (lines : List ScriptLine) (script : List Drawing) (i : ℕ)
    (line : ScriptLine) (board : Board) → all_said pixels lines ≡ script → i < length lines
    → line ≡ get_or lines i line
    → IsDrawn (drawn (drawn_by (take i script)) (said pixels line)) board
    → IsDrawn (drawn_by (take (i + 1) script)) board
next_line pixels lines script i line board view i_lt read h =
    subst (λ p. IsDrawn p board) (next_said pixels lines script i line view i_lt read) h

-- the same for the colours that lines set
pub next_set : (pixels : List ℕ) (lines : List ScriptLine) (script : List Drawing) (i : ℕ) (line : ScriptLine)
    (board : Board) → all_said pixels lines ≡ script → i < length lines → line ≡ get_or lines i line
    → IsSet (drawn (drawn_by (take i script)) (said pixels line)) board
    → IsSet (drawn_by (take (i + 1) script)) board
next_set pixels lines script i line board view i_lt read h =
    subst (λ p. IsSet p board) (next_said pixels lines script i line view i_lt read) h

pub set_before : (picture : Picture) (board : Board) → IsDrawn picture board → IsSet picture board
set_before picture board h = record { border_is = h.border_is; colours_are = h.colours_are }

-- a line that fills the window hides all earlier drawing
pub filled-drawn : (script : List Drawing) (place colour border : ℕ) (pixels colours : List ℕ) (at : Option ℕ)
    (old : Board) → place < length script → get_or script place (Fill 0) ≡ Fill colour
    → ArePixelsOf pixels (λ x y. colour) → IsSet (drawn_by (take place script)) old → old.border ≡ border
    → old.colours ≡ colours
    → IsDrawn (drawn_by (take (place + 1) script))
    (record { pixels = pixels; border = border; colours = colours; at = at })
filled-drawn script place colour border pixels colours at old lt is filled h border_is colours_is =
    let more : take (place + 1) script ≡ take place script ++ Fill colour ∷ [] =
    take_more script place (Fill 0) lt ∙ ap (λ x. take place script ++ x ∷ []) is in
    let lines : drawn_by (take (place + 1) script) ≡ drawn (drawn_by (take place script)) (Fill colour) =
    ap drawn_by more ∙ fold-append drawn blank_picture (take place script) (Fill colour ∷ []) in
    let all : IsDrawn (drawn (drawn_by (take place script)) (Fill colour))
    (record { pixels = pixels; border = border; colours = colours; at = at }) = record {
      pixels_are = filled;
      border_is = sym border_is ∙ h.border_is;
      colours_are = λ n lt. ap (λ cs. get_or cs n 0) (sym colours_is) ∙ h.colours_are n lt;
    } in
    subst (λ p. IsDrawn p (record { pixels = pixels; border = border; colours = colours; at = at }))
    (sym lines) all

-- the line is in the script with this meaning
pub fill_there : (pixels : List ℕ) (lines : List ScriptLine) (script : List Drawing) (i colour : ℕ)
    (line : ScriptLine) → all_said pixels lines ≡ script → i < length lines → line ≡ get_or lines i line
    → line ≡ Filled colour
    → get_or script i (Fill 0) ≡ Fill colour
unfolding all_said
fill_there pixels lines script i colour line view i_lt read is =
    ap (λ xs. get_or xs i (Fill 0)) (sym view)
    ∙ get_or-map (said pixels) lines i line (Fill 0) i_lt
    ∙ ap (said pixels) (sym read)
    ∙ ap (said pixels) is

pub fill_small : (lines : List ScriptLine) (size i colour : ℕ) (line : ScriptLine)
    → All (λ l. is_kept size l ≡ true) lines → i < length lines → line ≡ get_or lines i line
    → line ≡ Filled colour
    → colour < 16
fill_small lines size i colour line all i_lt read is =
    let kept : is_kept size (Filled colour) ≡ true =
    subst (λ l. is_kept size l ≡ true) (sym read ∙ is)
    (All-get_or (λ l. is_kept size l ≡ true) lines i line i_lt all) in
    grind (arith, nat_tests)

pub kept_at : (lines : List ScriptLine) (size n i : ℕ) (line : ScriptLine)
    → All (λ l. is_kept size l ≡ true) lines → n ≡ size → i < length lines → line ≡ get_or lines i line
    → is_kept n line ≡ true
kept_at lines size n i line all same i_lt read =
    subst (λ m. is_kept m line ≡ true) (sym same) (subst (λ l. is_kept size l ≡ true) (sym read)
    (All-get_or (λ l. is_kept size l ≡ true) lines i line i_lt all))

pub drawn_before : (script : List Drawing) (k drawn n : ℕ) (board : Board) → board.at ≡ Some drawn
    → StandsBefore script k board → n ≡ length (lines_before script drawn)
    → IsDrawn (drawn_by (take n script)) board
drawn_before script k drawn n board at h size =
    picture-drawn script drawn n board size
    (subst (λ o. MatchOption o (IsBlank board) (λ j. (j ≤ k) × IsPicture script j board)) at h).1

pub none_before : (script : List Drawing) (k n : ℕ) (board : Board) → board.at ≡ None
    → StandsBefore script k board → n ≡ 0
    → IsDrawn (drawn_by (take n script)) board
none_before script k n board at h size =
    subst (λ m. IsDrawn (drawn_by (take m script)) board) (sym size)
    (blank-drawn script board
    (subst (λ o. MatchOption o (IsBlank board) (λ j. (j ≤ k) × IsPicture script j board)) at h))

-- the tile of a picture
pub tile_is : (pixels tile : List ℕ) (row column : ℕ) → length tile ≡ 72
    → ((q : ℕ) → q < 72
    → get_or tile q 0 ≡ pixel_of pixels (6 * (column - 1) + q % 6) (12 * (row - 1) + q / 6))
    → tile ≡ tile_of pixels row column
unfolding tile_of
tile_is pixels tile row column size all =
    let f : ℕ → ℕ = λ p. pixel_of pixels (6 * (column - 1) + p % 6) (12 * (row - 1) + p / 6) in
    let count = length-map-range_with_len f 0 72 in
    same_number_lists tile (map f (below 72)) (omega arith)
    (λ q q_lt. all q (omega arith) ∙ sym (get_or-map-range_with_len f 0 72 q q 0 (omega arith) (omega arith)))

pub picture_tile_is : (script : List Drawing) (k row column : ℕ) (board : Board) (tile : List ℕ) → 1 ≤ row
    → row ≤ 16 → 1 ≤ column → column ≤ 48 → length tile ≡ 72
    → ((q : ℕ) → q < 72
    → get_or tile q 0 ≡ pixel_of board.pixels (6 * (column - 1) + q % 6) (12 * (row - 1) + q / 6))
    → IsPicture script k board
    → tile ≡ picture_tile script k row column
unfolding picture_tile
picture_tile_is script k row column board tile row_ge row_le column_ge column_le size all h =
    let f : ℕ → ℕ = λ p. picture_pixel script k (6 * (column - 1) + p % 6) (12 * (row - 1) + p / 6) in
    let count = length-map-range_with_len f 0 72 in
    same_number_lists tile (map f (below 72)) (omega arith) (λ q q_lt.
    all q (omega arith)
    ∙ h.pixels_are (6 * (column - 1) + q % 6) (12 * (row - 1) + q / 6) (omega arith) (omega arith)
    ∙ sym (get_or-map-range_with_len f 0 72 q q 0 (omega arith) (omega arith)))

-- a picture on the canvas has no more lines before it than a later one
pub not_after : (script : List Drawing) (k drawn : ℕ) (board : Board) → board.at ≡ Some drawn
    → StandsBefore script k board
    → length (lines_before script drawn) ≤ length (lines_before script k)
not_after script k drawn board at h =
    before_rising script drawn k
    (subst (λ o. MatchOption o (IsBlank board) (λ j. (j ≤ k) × IsPicture script j board)) at h).0
