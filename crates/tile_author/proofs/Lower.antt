-- After m instructions, each pixel is one base value combined with combinations of m numbers.
use Rattle.std.proofs.Common.{◌≡◌, ℕ, suc, ◌-◌, ◌/◌, ◌%◌, ◌<◌, ◌≤◌, Bool, true, false, List, [], ◌∷◌, length, map, get_or, reverse, All, sym, ap, ◌∙◌, subst, inl, inr, ◌⊎◌, bit_xor, arith}
use Rattle.std.specs.Prelude.{slice_index, if◌then◌else◌}
use Rattle.std.specs.Int.Bits.{xor_self}
use Rattle.std.proofs.lemmas.List.{reverse-append}
use Rattle.std.proofs.lemmas.List.Elements.{All-head, All-tail, All-push}
use Rattle.std.proofs.lemmas.List.FromFn.{get_or-map-range_with_len}
use Rattle.bit_lists.specs.Counting.{below}
use Rattle.bit_lists.specs.Bits.{has_bit}
use Rattle.cdg_instructions.specs.Drawing.{IsOfPlace, drawn_pixel, tile_from}
use Rattle.cdg_instructions.specs.declared.instr.Instr.{Instr}
use Rattle.cdg_instructions.specs.declared.instr.Instr.TheVariants.{Idle, Foreign, Unknown, MemoryPreset, BorderPreset, SetTile, XorTile, ScrollPreset, ScrollCopy, Transparency, ColoursLow, ColoursHigh}
use Rattle.tile_author.proofs.Span.{Spans, Spanned}
use Rattle.tile_author.specs.Plan.{differences_from_first, basis}
use Rattle.tile_author.proofs.Combine.{twice, swap, middle, both}
use Rattle.tile_author.proofs.Exchange.{Spans-same, Spans-sum}
use Rattle.tile_author.proofs.BasisLaws.{rank_within}

pub at_below : {X : Type 0} (n p : ℕ) (f : ℕ → X) (d : X) → p < n → get_or (map f (below n)) p d ≡ f p
at_below n p f d h = get_or-map-range_with_len f 0 n p p d h (omega arith)

-- each value, combined with the base, is a combination of the given numbers
unfoldable pub Flat : List ℕ → ℕ → (ℕ → ℕ) → Type 0
Flat gs base value = (p : ℕ) → p < 72 → Spans gs (bit_xor base (value p))

-- a choice between two colours, combined with the first colour, is 0 or both colours combined
choice_spans : (b : Bool) (c0 c1 : ℕ) → Spans (bit_xor c0 c1 ∷ []) (bit_xor c0 (if b then c1 else c0))
unfolding Spans
choice_spans true c0 c1 = inr (xor_self (bit_xor c0 c1))
choice_spans false c0 c1 = inl (xor_self c0)

-- combining a value with this choice adds one number
choice_adds : (gs : List ℕ) (b : Bool) (c0 c1 base v : ℕ) → Spans gs (bit_xor base v)
    → Spans (bit_xor c0 c1 ∷ gs) (bit_xor (bit_xor c0 base) (bit_xor (if b then c1 else c0) v))
unfolding Spans
choice_adds gs true c0 c1 base v h =
    inr (Spans-same gs _ _
    (sym (ap (bit_xor (bit_xor c0 c1)) (middle c0 base c1 v) ∙ twice (bit_xor c0 c1) (bit_xor base v))) h)
choice_adds gs false c0 c1 base v h = inl (Spans-same gs _ _ (sym (both c0 base v)) h)

-- The pixels after some instructions (the last one first) are flat over some numbers, no more than the instructions,
-- or the differences from the old pixels are.
pub record Reached (old : List ℕ) (rs : List Instr) : Type 0 where
  pub gs : List ℕ
  pub base : ℕ
  pub few : length gs ≤ length rs
  pub flat : ((0 < length rs) × Flat gs base (λ p. slice_index (tile_from old rs) p))
      ⊎ Flat gs base (λ p. bit_xor (slice_index old p) (slice_index (tile_from old rs) p))

start : (old : List ℕ) → Reached old []
unfolding tile_from Flat Spans
start old = record {
  gs = [];
  base = 0;
  few = omega arith;
  flat = inr (λ p p_lt. ap (bit_xor 0) (xor_self (slice_index old p)));
}

after_set : (old lines : List ℕ) (c0 c1 row column : ℕ) (rs : List Instr)
    → Reached old (SetTile c0 c1 row column lines ∷ rs)
unfolding tile_from Flat
after_set old lines c0 c1 row column rs = record {
  gs = bit_xor c0 c1 ∷ [];
  base = c0;
  few = omega arith;
  flat = inl (
    omega arith,
    λ p p_lt.
        Spans-same (bit_xor c0 c1 ∷ []) _ _
        (ap (bit_xor c0) (sym (at_below 72 p (drawn_pixel c0 c1 lines) 0 p_lt)))
        (choice_spans (has_bit (5 - p % 6) (slice_index lines (p / 6))) c0 c1),
  );
}

after_xor : (old lines : List ℕ) (c0 c1 row column : ℕ) (rs : List Instr) → Reached old rs
    → Reached old (XorTile c0 c1 row column lines ∷ rs)
unfolding tile_from Flat
after_xor old lines c0 c1 row column rs e =
    let older = tile_from old rs in
    let value : (p : ℕ) → p < 72
    → bit_xor (drawn_pixel c0 c1 lines p) (slice_index older p)
    ≡ slice_index (tile_from old (XorTile c0 c1 row column lines ∷ rs)) p =
    λ p p_lt. sym (at_below 72 p (λ q. bit_xor (drawn_pixel c0 c1 lines q) (slice_index older q)) 0 p_lt) in
    record {
      gs = bit_xor c0 c1 ∷ e.gs;
      base = bit_xor c0 e.base;
      few = omega (arith, e.few);
      flat = elim e.flat [
        | inl set ↦ inl (
          omega arith,
          λ p p_lt.
              Spans-same (bit_xor c0 c1 ∷ e.gs) _ _ (ap (bit_xor (bit_xor c0 e.base)) (value p p_lt))
              (choice_adds e.gs (has_bit (5 - p % 6) (slice_index lines (p / 6))) c0 c1 e.base
              (slice_index older p) (set.1 p p_lt)),
        )
        | inr combined ↦ inr (λ p p_lt.
            Spans-same (bit_xor c0 c1 ∷ e.gs) _ _
            (ap (bit_xor (bit_xor c0 e.base)) (swap (drawn_pixel c0 c1 lines p) (slice_index old p)
            (slice_index older p)
            ∙ ap (bit_xor (slice_index old p)) (value p p_lt)))
            (choice_adds e.gs (has_bit (5 - p % 6) (slice_index lines (p / 6))) c0 c1 e.base
            (bit_xor (slice_index old p) (slice_index older p)) (combined p p_lt)))
      ];
    }

pub reached : (row column : ℕ) (old : List ℕ) (rs : List Instr) → All (IsOfPlace row column) rs
    → Reached old rs
reached row column old [] h = start old
reached row column old (SetTile c0 c1 r c lines ∷ rs) h = after_set old lines c0 c1 r c rs
reached row column old (XorTile c0 c1 r c lines ∷ rs) h =
    after_xor old lines c0 c1 r c rs (reached row column old rs (All-tail (IsOfPlace row column) _ rs h))
reached row column old (Idle ∷ rs) h = absurd (All-head (IsOfPlace row column) _ rs h)
reached row column old (Foreign ∷ rs) h = absurd (All-head (IsOfPlace row column) _ rs h)
reached row column old (Unknown ∷ rs) h = absurd (All-head (IsOfPlace row column) _ rs h)
reached row column old (MemoryPreset a b ∷ rs) h = absurd (All-head (IsOfPlace row column) _ rs h)
reached row column old (BorderPreset a ∷ rs) h = absurd (All-head (IsOfPlace row column) _ rs h)
reached row column old (ScrollPreset a b c d e ∷ rs) h = absurd (All-head (IsOfPlace row column) _ rs h)
reached row column old (ScrollCopy a b c d e ∷ rs) h = absurd (All-head (IsOfPlace row column) _ rs h)
reached row column old (Transparency a ∷ rs) h = absurd (All-head (IsOfPlace row column) _ rs h)
reached row column old (ColoursLow a ∷ rs) h = absurd (All-head (IsOfPlace row column) _ rs h)
reached row column old (ColoursHigh a ∷ rs) h = absurd (All-head (IsOfPlace row column) _ rs h)

pub All-reverse : {X : Type 0} (P : X → Type 0) (xs : List X) → All P xs → All P (reverse xs)
All-reverse P [] h = h
All-reverse P (x ∷ xs) h =
    subst (All P) (sym (reverse-append (x ∷ []) xs))
    (All-push P (reverse xs) x (All-reverse P xs (All-tail P x xs h)) (All-head P x xs h))

Spanned-map : (gs : List ℕ) (a : ℕ) (w : List ℕ)
    → ((p : ℕ) → p < length w → Spans gs (bit_xor a (slice_index w p)))
    → Spanned gs (map (bit_xor a) w)
unfolding Spanned
Spanned-map gs a [] h = tt
Spanned-map gs a (x ∷ w) h = (h 0 (omega arith), Spanned-map gs a w (λ p p_lt. h (suc p) (omega arith)))

-- flat pixels need no more numbers than those over which they are flat
pub flat_rank : (gs : List ℕ) (base : ℕ) (w : List ℕ) → length w ≡ 72 → Flat gs base (λ p. slice_index w p)
    → length (basis w) ≤ length gs
unfolding Flat basis differences_from_first
flat_rank gs base w size flat =
    rank_within gs (differences_from_first w) (Spanned-map gs (slice_index w 0) w (λ p p_lt.
    Spans-same gs _ _ (both base (slice_index w 0) (slice_index w p))
    (Spans-sum gs (bit_xor base (slice_index w 0)) (bit_xor base (slice_index w p)) (flat 0 (omega arith))
    (flat p (omega arith)))))
