-- The entries of the table of contents: one for each track, and three for the disc.
use Rattle.std.proofs.Common.{◌≡◌, ℕ, ◌-◌, ◌+◌, ◌≤◌, ◌<◌, List, length, get_or, ap, sym, ◌∙◌, ◌∷◌, [], arith}
use Rattle.std.specs.Prelude.{map}
use Rattle.std.proofs.lemmas.List.{get_or_append_left, get_or-append_right, get_or-map, length-map, get_or_default}
use Rattle.toc_model.specs.Places.{TrackPlace, DiscLayout, no_place}
use Rattle.toc_model.specs.Layout.{toc_entries, music_begin, place_at}
use Rattle.q_channel.specs.declared.frame.TocPoint.{TocPoint}
use Rattle.q_channel.specs.declared.frame.TocPoint.TheVariants.{Track, First, Last, LeadOut}

abbrev track_entry : TrackPlace → ℕ × TocPoint
track_entry place = (place.control, Track place.number (music_begin place))

-- the entry of a track
pub track_entry_at : (layout : DiscLayout) (tracks : List TrackPlace) (k : ℕ) (place : TrackPlace)
    (control number start : ℕ) (default : ℕ × TocPoint)
    → layout.tracks ≡ tracks → k < length tracks → place ≡ get_or tracks k place → control ≡ place.control
    → number ≡ place.number → start ≡ music_begin place
    → (let entry : ℕ × TocPoint = (control, Track number start) in entry)
    ≡ get_or (toc_entries layout) k default
track_entry_at layout tracks k place control number start default is lt at a b c =
    let within : k < length layout.tracks = omega (arith, ap length is) in
    let inside : k < length (map track_entry layout.tracks) =
    omega (arith, length-map layout.tracks track_entry) in
    let found : get_or layout.tracks k place ≡ place =
    ap (λ (ts : List TrackPlace). get_or ts k place) is ∙ sym at in
    (λ i. (a i, Track (b i) (c i)))
    ∙ sym (get_or_append_left (map track_entry layout.tracks) _ default k inside
    ∙ get_or-map track_entry layout.tracks k place default within ∙ ap track_entry found)

-- the entries for the whole disc follow those of the tracks
abbrev disc_entry : DiscLayout → ℕ → (ℕ × TocPoint) → ℕ × TocPoint
disc_entry layout n default =
    let first = place_at layout 0 in
    let last = place_at layout (length layout.tracks - 1) in
    get_or ((first.control, First first.number 0) ∷ (last.control, Last last.number) ∷
    (last.control, LeadOut layout.blocks) ∷ []) n default

disc_entry_at : (layout : DiscLayout) (tracks : List TrackPlace) (k n : ℕ) (default : ℕ × TocPoint)
    → layout.tracks ≡ tracks → k ≡ n + length tracks
    → disc_entry layout n default ≡ get_or (toc_entries layout) k default
disc_entry_at layout tracks k n default is at =
    let size : length (map track_entry layout.tracks) ≡ length tracks =
    length-map layout.tracks track_entry ∙ ap length is in
    let place : k - length tracks ≡ n = omega arith in
    sym (get_or-append_right (map track_entry layout.tracks) _ (length tracks) k default size (omega arith)
    ∙ ap (λ m. disc_entry layout m default) place)

-- the place of a track that was read from the list
place_here : (layout : DiscLayout) (tracks : List TrackPlace) (k j : ℕ) (place : TrackPlace)
    → layout.tracks ≡ tracks → k < length tracks → j ≡ k → place ≡ get_or tracks k place
    → place ≡ place_at layout j
place_here layout tracks k j place is lt same at =
    at ∙ get_or_default tracks k place no_place lt ∙ (λ i. get_or (sym is i) (sym same i) no_place)

pub first_entry_at : (layout : DiscLayout) (tracks : List TrackPlace) (k count : ℕ) (first : TrackPlace)
    (control number : ℕ) (default : ℕ × TocPoint)
    → layout.tracks ≡ tracks → count ≡ length tracks → 0 < length tracks → (count ≤ k) × (k - count ≡ 0)
    → first ≡ get_or tracks 0 first → control ≡ first.control → number ≡ first.number
    → (let entry : ℕ × TocPoint = (control, First number 0) in entry)
    ≡ get_or (toc_entries layout) k default
first_entry_at layout tracks k count first control number default is size some turn at a b =
    let here = place_here layout tracks 0 0 first is some (omega arith) at in
    (λ i. (a i, First (b i) 0)) ∙ (λ i. ((here i).control, First (here i).number 0))
    ∙ disc_entry_at layout tracks k 0 default is (omega arith)

pub last_entry_at : (layout : DiscLayout) (tracks : List TrackPlace) (k count : ℕ) (last : TrackPlace)
    (control number : ℕ) (default : ℕ × TocPoint)
    → layout.tracks ≡ tracks → count ≡ length tracks → 0 < length tracks → (count ≤ k) × (k - count ≡ 1)
    → last ≡ get_or tracks (count - 1) last → control ≡ last.control → number ≡ last.number
    → (let entry : ℕ × TocPoint = (control, Last number) in entry) ≡ get_or (toc_entries layout) k default
last_entry_at layout tracks k count last control number default is size some turn at a b =
    let here =
    place_here layout tracks (count - 1) (length layout.tracks - 1) last is (omega arith)
    (omega (arith, ap length is)) at in
    (λ i. (a i, Last (b i))) ∙ (λ i. ((here i).control, Last (here i).number))
    ∙ disc_entry_at layout tracks k 1 default is (omega arith)

pub lead_out_entry_at : (layout : DiscLayout) (tracks : List TrackPlace) (k count : ℕ) (last : TrackPlace)
    (control start : ℕ) (default : ℕ × TocPoint)
    → layout.tracks ≡ tracks → count ≡ length tracks → 0 < length tracks → k ≡ count + 2
    → last ≡ get_or tracks (count - 1) last → control ≡ last.control → start ≡ layout.blocks
    → (let entry : ℕ × TocPoint = (control, LeadOut start) in entry) ≡ get_or (toc_entries layout) k default
lead_out_entry_at layout tracks k count last control start default is size some turn at a b =
    let here =
    place_here layout tracks (count - 1) (length layout.tracks - 1) last is (omega arith)
    (omega (arith, ap length is)) at in
    (λ i. (a i, LeadOut (b i))) ∙ (λ i. ((here i).control, LeadOut layout.blocks))
    ∙ disc_entry_at layout tracks k 2 default is (omega arith)
