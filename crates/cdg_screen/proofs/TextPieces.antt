-- The pixmap and the state, piece by piece.
use Rattle.std.proofs.Common.{◌≡◌, ℕ, ◌<◌, List, ◌++◌, flat_map, refl, subst, Result, Ok, Err, OnErr}
use Rattle.std.specs.declared.option.Option.{Option}
use Rattle.std.specs.Io.KnownBytes.{Appends}
use Rattle.cdg_io.specs.Moves.{AppendsPrefix}
use Rattle.bit_lists.specs.Counting.{below}
use Rattle.cdg_screen.specs.Standing.{Standing}
use Rattle.cdg_screen.specs.Texts.{pixmap, pixmap_header, pixmap_row, state_text, state_head, state_row}
use Rattle.cdg_screen.proofs.Pieces.{prefix_first, prefix_of_pieces}

pub on_err : {T E : Type 0} (r : Result T E) (P : Type 0) → P → OnErr r P
on_err (Ok x) P p = tt
on_err (Err e) P p = p

pub pixmap_first : (now : Standing) (a c : Option (List ℕ)) → AppendsPrefix a c pixmap_header
    → AppendsPrefix a c (pixmap now)
unfolding pixmap
pixmap_first now a c part =
    prefix_first a c pixmap_header (flat_map (pixmap_row now) (below 216)) (pixmap now) part refl

pub pixmap_next : (now : Standing) (a b c : Option (List ℕ)) (y : ℕ) → y < 216
    → Appends a b (pixmap_header ++ flat_map (pixmap_row now) (below y))
    → AppendsPrefix b c (pixmap_row now y)
    → AppendsPrefix a c (pixmap now)
unfolding pixmap
pixmap_next now a b c y lt put part = prefix_of_pieces a b c pixmap_header (pixmap_row now) 216 y lt put part

pub pixmap_whole : (now : Standing) (a b : Option (List ℕ)) (y : ℕ) → y ≡ 216
    → Appends a b (pixmap_header ++ flat_map (pixmap_row now) (below y))
    → Appends a b (pixmap now)
unfolding pixmap
pixmap_whole now a b y e put =
    subst (λ (n : ℕ). Appends a b (pixmap_header ++ flat_map (pixmap_row now) (below n))) e put

pub state_first : (now : Standing) (a c : Option (List ℕ)) → AppendsPrefix a c (state_head now)
    → AppendsPrefix a c (state_text now)
unfolding state_text
state_first now a c part =
    prefix_first a c (state_head now) (flat_map (state_row now) (below 16)) (state_text now) part refl

pub state_next : (now : Standing) (a b c : Option (List ℕ)) (k : ℕ) → k < 16
    → Appends a b (state_head now ++ flat_map (state_row now) (below k)) → AppendsPrefix b c (state_row now k)
    → AppendsPrefix a c (state_text now)
unfolding state_text
state_next now a b c k lt put part = prefix_of_pieces a b c (state_head now) (state_row now) 16 k lt put part

pub state_whole : (now : Standing) (a b : Option (List ℕ)) (k : ℕ) → k ≡ 16
    → Appends a b (state_head now ++ flat_map (state_row now) (below k))
    → Appends a b (state_text now)
unfolding state_text
state_whole now a b k e put =
    subst (λ (n : ℕ). Appends a b (state_head now ++ flat_map (state_row now) (below n))) e put
