-- What a running trial knows is one optional fact: a sink keeps it truncated, and returns it on request.
use Rattle.std.proofs.Common.{◌≡◌, ℕ, ◌*◌, ◌<◌, ◌≤◌, List, Some, None}
use Rattle.std.specs.Prelude.{slice_index}
use Rattle.std.specs.declared.option.Option.{Option}
use denote.Struct.Props.{props}
use Rattle.std.specs.Coded.{×_prop}
use Rattle.std.specs.Prelude.{MatchOption}
use Rattle.picture_script.specs.Script.{Drawing, pictures, picture_pixel, picture_border, picture_colour}
use Rattle.picture_script.specs.Board.{Board, IsBlank, IsPicture, StandsBefore, pixel_of}
use Rattle.stream_trial.specs.Course.{IsSteady}
use Rattle.rw_interleave.specs.Interleave.{whole_packs}
use Rattle.stream_trial.specs.Differing.{differing}
use Rattle.stream_trial.specs.Replay.{IsBelow, IsPlayedOut}
use Rattle.stream_trial.specs.declared.run.Found.{Found}
use Rattle.stream_trial.specs.declared.course.Course.{Course}
use Rattle.stream_trial.specs.declared.replay.Replay.{Replay}

IsBlank-prop : (board : Board) → IsProp (IsBlank board)
IsBlank-prop board x y =
    let pixels_prop : IsProp ((x y : ℕ) → x < 288 → y < 192 → pixel_of board.pixels x y ≡ 0) = hlevel props in
    let border_prop : IsProp (board.border ≡ 0) = hlevel props in
    let colours_prop : IsProp ((n : ℕ) → n < 16 → slice_index board.colours n ≡ 0) = hlevel props in
    λ i. record {
      pixels_are = pixels_prop x.pixels_are y.pixels_are i;
      border_is = border_prop x.border_is y.border_is i;
      colours_are = colours_prop x.colours_are y.colours_are i;
    }

IsPicture-prop : (script : List Drawing) (k : ℕ) (board : Board) → IsProp (IsPicture script k board)
IsPicture-prop script k board x y =
    let pixels_prop : IsProp ((x y : ℕ) → x < 288 → y < 192
    → pixel_of board.pixels x y ≡ picture_pixel script k x y) =
    hlevel props in
    let border_prop : IsProp (board.border ≡ picture_border script k) = hlevel props in
    let colours_prop : IsProp ((n : ℕ) → n < 16 → slice_index board.colours n ≡ picture_colour script k n) =
    hlevel props in
    λ i. record {
      pixels_are = pixels_prop x.pixels_are y.pixels_are i;
      border_is = border_prop x.border_is y.border_is i;
      colours_are = colours_prop x.colours_are y.colours_are i;
    }

StandsAt-prop : (script : List Drawing) (k : ℕ) (board : Board) (at : Option ℕ)
    → IsProp (MatchOption at (IsBlank board) (λ j. (j ≤ k) × IsPicture script j board))
StandsAt-prop script k board None = IsBlank-prop board
StandsAt-prop script k board (Some j) =
    let before_prop : IsProp (j ≤ k) = hlevel props in ×_prop before_prop (IsPicture-prop script j board)

StandsBefore-prop : (script : List Drawing) (k : ℕ) (board : Board) → IsProp (StandsBefore script k board)
StandsBefore-prop script k board = StandsAt-prop script k board board.at

IsBelow-prop : (most : ℕ) (replay : Replay) → IsProp (IsBelow most replay)
IsBelow-prop most replay x y =
    let one_prop : IsProp (replay.one ≤ most) = hlevel props in
    let two_prop : IsProp (replay.two ≤ most) = hlevel props in
    let bad_prop : IsProp (replay.bad ≤ most) = hlevel props in
    λ i. record { one = one_prop x.one y.one i; two = two_prop x.two y.two i; bad = bad_prop x.bad y.bad i }

pub IsSteady-prop : (script : List Drawing) (course : Course) → IsProp (IsSteady script course)
IsSteady-prop script course x y =
    let next_prop : IsProp (course.gallery.next ≤ pictures script) = hlevel props in
    let equal_prop : IsProp (course.gallery.equal ≤ course.gallery.next) = hlevel props in
    λ i. record {
      small = IsBelow-prop (4 * course.blocks) course.replay x.small y.small i;
      canvas = StandsBefore-prop script course.gallery.next course.gallery.canvas x.canvas y.canvas i;
      next = next_prop x.next y.next i;
      equal = equal_prop x.equal y.equal i;
    }

pub IsPlayedOut-prop : (script : List Drawing) (blocks : ℕ) (symbols others : List ℕ) (found : Found)
    → IsProp (IsPlayedOut script blocks symbols others found)
IsPlayedOut-prop script blocks symbols others found x y =
    let one_prop : IsProp (found.one ≡ differing 1 (whole_packs blocks) symbols others) = hlevel props in
    let two_prop : IsProp (found.two ≡ differing 2 (whole_packs blocks) symbols others) = hlevel props in
    let bad_prop : IsProp (found.bad ≡ 0) = hlevel props in
    let equal_prop : IsProp (found.equal ≡ pictures script) = hlevel props in
    λ i. record {
      one = one_prop x.one y.one i;
      two = two_prop x.two y.two i;
      bad = bad_prop x.bad y.bad i;
      equal = equal_prop x.equal y.equal i;
    }
