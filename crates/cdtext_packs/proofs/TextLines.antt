-- The lines of texts.
use Rattle.std.proofs.Common.{◌≡◌, ℕ, suc, ◌+◌, ◌-◌, ◌<◌, ◌≤◌, true, false, not, ◌&&◌, ◌==◌, ◌⊎◌, inl, inr, [], ◌∷◌, ◌++◌, length, get_or, flat_map, refl, ap, ◌∙◌, arith}
use Rattle.std.specs.Prelude.{nat_le}
use Rattle.std.specs.List.{range_with_len}
use Rattle.std.proofs.lemmas.Bool.{cond-true, cond-false, and_left, and_right, eq-eqb, not_from_true, lt-leb}
use Rattle.std.proofs.lemmas.List.FromFn.{get_or-range_with_len, length-range_with_len}
use Rattle.bit_lists.specs.Digits.{hex_digits, line_feed}
use Rattle.cdtext_packs.specs.Texts.{Texts, text_of, is_empty}
use Rattle.cdtext_packs.specs.declared.kinds.TextKind.{TextKind}
use Rattle.cdtext_packs.specs.TextLines.{printed, line_head, text_line, tracks_of}

pub not_printable : (b : ℕ) → (b ≡ 92) ⊎ ((126 < b) ⊎ (b < 32)) → printed b ≡ 92 ∷ hex_digits 2 b
not_printable b (inl e) =
    cond-false (nat_le 32 b && nat_le b 126 && not (b == 92)) (b ∷ []) (92 ∷ hex_digits 2 b)
    (and_right (nat_le 32 b && nat_le b 126) (not (b == 92)) (not_from_true (b == 92) (eq-eqb b 92 e)))
not_printable b (inr (inl high)) =
    cond-false (nat_le 32 b && nat_le b 126 && not (b == 92)) (b ∷ []) (92 ∷ hex_digits 2 b)
    (and_left (nat_le 32 b && nat_le b 126) (not (b == 92))
    (and_right (nat_le 32 b) (nat_le b 126) (lt-leb b 126 high)))
not_printable b (inr (inr low)) =
    cond-false (nat_le 32 b && nat_le b 126 && not (b == 92)) (b ∷ []) (92 ∷ hex_digits 2 b)
    (and_left (nat_le 32 b && nat_le b 126) (not (b == 92))
    (and_left (nat_le 32 b) (nat_le b 126) (lt-leb 32 b low)))

pub line_none : (texts : Texts) (kind : TextKind) (track : ℕ) → is_empty (text_of kind track texts) ≡ true
    → text_line texts kind track ≡ []
unfolding text_line
line_none texts kind track e =
    cond-true (is_empty (text_of kind track texts)) []
    (line_head kind track ++ (flat_map printed (text_of kind track texts) ++ line_feed)) e

pub line_some : (texts : Texts) (kind : TextKind) (track : ℕ) → is_empty (text_of kind track texts) ≡ false
    → text_line texts kind track
    ≡ line_head kind track ++ (flat_map printed (text_of kind track texts) ++ line_feed)
unfolding text_line
line_some texts kind track e =
    cond-false (is_empty (text_of kind track texts)) []
    (line_head kind track ++ (flat_map printed (text_of kind track texts) ++ line_feed)) e

pub length-tracks_of : (texts : Texts) → length (tracks_of texts) ≡ texts.last - texts.first + 2
unfolding tracks_of
length-tracks_of texts = let size = length-range_with_len texts.first (texts.last - texts.first + 1) in
    omega arith

pub album_at : (texts : Texts) → get_or (tracks_of texts) 0 0 ≡ 0
unfolding tracks_of
album_at texts = refl

pub track_at : (texts : Texts) (track : ℕ) → texts.first ≤ track → track ≤ texts.last
    → get_or (tracks_of texts) (track - texts.first + 1) 0 ≡ track
unfolding tracks_of
track_at texts track from to =
    let k = track - texts.first in
    let next : k + 1 ≡ suc k = omega arith in
    let at =
    get_or-range_with_len texts.first (texts.last - texts.first + 1) (track - texts.first) 0 (omega arith) in
    ap (λ (n : ℕ). get_or (0 ∷ range_with_len texts.first (texts.last - texts.first + 1)) n 0) next
    ∙ at
    ∙ omega arith
