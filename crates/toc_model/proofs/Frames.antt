-- The frame of a program block, from its place in the period of codes.
use Rattle.std.proofs.Common.{◌≡◌, ℕ, ◌%◌, true, false, List, Some, None, ap, sym, ◌∙◌, arith}
use Rattle.std.specs.Prelude.{◌==◌}
use Rattle.std.proofs.lemmas.Bool.{cond-true, cond-false}
use Rattle.disc_time.specs.Time.{frame_of}
use Rattle.toc_model.specs.Places.{TrackPlace, DiscLayout}
use Rattle.toc_model.specs.Layout.{program_frame, track_at, index_at, time_frame, catalogue_frame, isrc_frame}
use Rattle.q_channel.specs.declared.frame.QFrame.TheVariants.{Catalogue, Isrc}

catalogue_turn : (layout : DiscLayout) (block : ℕ) → block % 100 ≡ 49
    → program_frame layout block ≡ catalogue_frame (track_at layout block) block layout.catalogue
catalogue_turn layout block turn =
    let yes : (block % 100 == 49) ≡ true = grind arith in cond-true (block % 100 == 49) _ _ yes

isrc_turn : (layout : DiscLayout) (block : ℕ) (place : TrackPlace) → place ≡ track_at layout block
    → block % 100 ≡ 99
    → program_frame layout block ≡ isrc_frame place block place.isrc
isrc_turn layout block place is turn =
    let no : (block % 100 == 49) ≡ false = grind arith in
    let yes : (block % 100 == 99) ≡ true = grind arith in
    cond-false (block % 100 == 49) _ _ no
    ∙ (cond-true (block % 100 == 99) _ _ yes
    ∙ sym (ap (λ (p : TrackPlace). isrc_frame p block p.isrc) is))

pub frame_of_number : (layout : DiscLayout) (block : ℕ) (place : TrackPlace) (control : ℕ) (digits : List ℕ)
    (frame : ℕ)
    → place ≡ track_at layout block → block % 100 ≡ 49 → layout.catalogue ≡ Some digits
    → control ≡ place.control → frame ≡ frame_of block
    → Catalogue control digits frame ≡ program_frame layout block
frame_of_number layout block place control digits frame is turn number same at =
    let owner : control ≡ (track_at layout block).control = same ∙ ap (λ (p : TrackPlace). p.control) is in
    ap (λ (n : ℕ). Catalogue n digits frame) owner
    ∙ (ap (λ (f : ℕ). Catalogue (track_at layout block).control digits f) at
    ∙ sym (catalogue_turn layout block turn ∙ ap (catalogue_frame (track_at layout block) block) number))

pub frame_of_code : (layout : DiscLayout) (block : ℕ) (place : TrackPlace) (control : ℕ) (code : List ℕ)
    (frame : ℕ)
    → place ≡ track_at layout block → block % 100 ≡ 99 → place.isrc ≡ Some code
    → (index_at place block ≡ 0 → ⊥) → control ≡ place.control → frame ≡ frame_of block
    → Isrc control code frame ≡ program_frame layout block
frame_of_code layout block place control code frame is turn coded begun same at =
    let no : (index_at place block == 0) ≡ false = grind arith in
    ap (λ (n : ℕ). Isrc n code frame) same
    ∙ (ap (λ (f : ℕ). Isrc place.control code f) at
    ∙ sym (isrc_turn layout block place is turn
    ∙ (ap (isrc_frame place block) coded ∙ cond-false (index_at place block == 0) _ _ no)))

pub time_without_number : (layout : DiscLayout) (block : ℕ) (place : TrackPlace)
    → place ≡ track_at layout block → block % 100 ≡ 49 → layout.catalogue ≡ None
    → time_frame place block ≡ program_frame layout block
time_without_number layout block place is turn none =
    ap (λ (p : TrackPlace). time_frame p block) is
    ∙ sym (catalogue_turn layout block turn ∙ ap (catalogue_frame (track_at layout block) block) none)

pub time_in_pause : (layout : DiscLayout) (block : ℕ) (place : TrackPlace) (code : List ℕ)
    → place ≡ track_at layout block → block % 100 ≡ 99 → place.isrc ≡ Some code → index_at place block ≡ 0
    → time_frame place block ≡ program_frame layout block
time_in_pause layout block place code is turn coded none =
    let yes : (index_at place block == 0) ≡ true = grind arith in
    sym (isrc_turn layout block place is turn
    ∙ (ap (isrc_frame place block) coded ∙ cond-true (index_at place block == 0) _ _ yes))

pub time_without_code : (layout : DiscLayout) (block : ℕ) (place : TrackPlace)
    → place ≡ track_at layout block → block % 100 ≡ 99 → place.isrc ≡ None
    → time_frame place block ≡ program_frame layout block
time_without_code layout block place is turn none =
    sym (isrc_turn layout block place is turn ∙ ap (isrc_frame place block) none)

pub time_otherwise : (layout : DiscLayout) (block : ℕ) (place : TrackPlace)
    → place ≡ track_at layout block → (block % 100 ≡ 49 → ⊥) → (block % 100 ≡ 99 → ⊥)
    → time_frame place block ≡ program_frame layout block
time_otherwise layout block place is not_number not_code =
    let first : (block % 100 == 49) ≡ false = grind arith in
    let second : (block % 100 == 99) ≡ false = grind arith in
    ap (λ (p : TrackPlace). time_frame p block) is
    ∙ sym (cond-false (block % 100 == 49) _ _ first ∙ cond-false (block % 100 == 99) _ _ second)
