-- The packs that were read, without those that the end of the stream cuts off, and the symbols that carry them.
use Rattle.std.proofs.Common.{◌≡◌, ℕ, zero, suc, ◌+◌, ◌-◌, ◌*◌, ◌<◌, ◌≤◌, List, [], ◌∷◌, ◌++◌, length, get_or, take, drop, replicate, All, refl, sym, ap, subst, ◌∙◌, arith}
use Rattle.std.specs.declared.option.Option.{Option}
use Rattle.std.specs.Io.KnownBytes.{Appends}
use Rattle.std.proofs.lemmas.List.{take-append-drop, length-take-le, length-drop, get_or-take, get_or-drop}
use Rattle.std.proofs.lemmas.List.Elements.{All-take}
use Rattle.cdg_io.specs.Change.{from_to}
use Rattle.rw_code.specs.Codeword.{IsCodeword}
use Rattle.rw_interleave.specs.Interleave.{whole_packs, Carries}
use Rattle.rw_interleave.specs.Spreading.{filled_with_idle}
use Rattle.toc_model.specs.Places.{DiscLayout}
use Rattle.stream_writer.specs.Blocks.{stream_bytes}
use Rattle.stream_writer.specs.Framing.{HasFraming}
use Rattle.rw_code.specs.Packs.{idle_pack}
use Rattle.stream_writer.specs.Given.{AreGiven, CarriesComing, PutsStream, PutsStreamPart, framing_of, symbols_from}

-- the packs that the end of the blocks cuts off are idle
abbrev pub AreCutIdle : (ℕ → List ℕ → Type 0) → ℕ → Type 0
AreCutIdle Comes blocks =
    (n : ℕ) (pack : List ℕ) → whole_packs blocks ≤ n → n < 4 * blocks → Comes n pack → pack ≡ idle_pack

-- the law of the crate below
abbrev pub SpreadCarries : Type 0
SpreadCarries = (blocks : ℕ) (packs : List (List ℕ)) → length packs ≡ whole_packs blocks
    → All IsCodeword packs
    → Carries blocks (symbols_from [] (filled_with_idle (4 * blocks) packs)) packs

all_same : (x : List ℕ) (xs : List (List ℕ)) (n : ℕ) → length xs ≡ n → ((k : ℕ) → k < n → get_or xs k [] ≡ x)
    → xs ≡ replicate n x
all_same x [] zero size each = refl
all_same x [] (suc n) size each = absurd (omega (arith, size))
all_same x (y ∷ xs) zero size each = absurd (omega (arith, size))
all_same x (y ∷ xs) (suc n) size each =
    ap (λ z. z ∷ xs) (each 0 (omega arith))
    ∙ ap (λ zs. x ∷ zs) (all_same x xs n (omega (arith, size)) (λ k lt. each (suc k) (omega arith)))

at_number : (Comes : ℕ → List ℕ → Type 0) (many : ℕ) (packs : List (List ℕ)) → AreGiven Comes 0 many packs
    → (n : ℕ) → n < many
    → Comes n (get_or packs n [])
at_number Comes many packs given n lt = let e : 0 + n ≡ n = omega arith in
    subst (λ k. Comes k (get_or packs n [])) e (given.each n lt)

-- `packs` are the packs of the whole words, followed by idle packs
pub record AreSplit (Comes : ℕ → List ℕ → Type 0) (blocks : ℕ) (packs whole : List (List ℕ)) : Type 0 where
  pub given_are : AreGiven Comes 0 (whole_packs blocks) whole
  pub filled : packs ≡ filled_with_idle (4 * blocks) whole

split : (Comes : ℕ → List ℕ → Type 0) (blocks : ℕ) (packs : List (List ℕ)) → AreCutIdle Comes blocks
    → AreGiven Comes 0 (4 * blocks) packs
    → AreSplit Comes blocks packs (take (whole_packs blocks) packs)
split Comes blocks packs idle given =
    let whole : ℕ = whole_packs blocks in
    let fits : whole ≤ length packs = omega (arith, given.count) in
    let count : length (take whole packs) ≡ whole = length-take-le whole packs fits in
    let rest : drop whole packs ≡ replicate (4 * blocks - length (take whole packs)) idle_pack =
    all_same idle_pack (drop whole packs) (4 * blocks - length (take whole packs))
    (omega (arith, length-drop whole packs, given.count, count))
    (λ k lt.
    let low : whole_packs blocks ≤ whole + k = omega arith in
    let high : whole + k < 4 * blocks = omega (arith, lt, count) in
    get_or-drop whole packs k []
    ∙ idle (whole + k) (get_or packs (whole + k) []) low high
    (at_number Comes (4 * blocks) packs given (whole + k) high)) in
    record {
      given_are = record {
        count = count;
        each = λ n lt.
            let there : n < 4 * blocks = omega (arith, lt) in
            let same : n ≡ 0 + n = omega arith in
            subst (λ k. Comes k (get_or (take (whole_packs blocks) packs) n [])) same
            (subst (Comes n) (sym (get_or-take (whole_packs blocks) packs n [] lt))
            (at_number Comes (4 * blocks) packs given n there));
        codewords = All-take IsCodeword whole packs given.codewords;
      };
      filled = sym (take-append-drop whole packs) ∙ ap (λ (xs : List (List ℕ)). take whole packs ++ xs) rest;
    }

-- the stream that was written carries its whole packs
pub stream_written : SpreadCarries → (layout : DiscLayout) (Comes : ℕ → List ℕ → Type 0)
    (texts : List (List ℕ)) (lead_in : ℕ) (a b : Option (List ℕ))
    → AreCutIdle Comes layout.blocks
    → (all : List (List ℕ)) × PutsStream (framing_of layout texts lead_in) Comes (from_to a b) all
    → (bytes : List ℕ)
    × (packs : List (List ℕ))
    × CarriesComing (framing_of layout texts lead_in) Comes bytes packs
    × Appends a b bytes
stream_written carries layout Comes texts lead_in a b idle (all, puts) =
    let parts = split Comes layout.blocks all idle puts.given_are in
    let whole : List (List ℕ) = take (whole_packs layout.blocks) all in (
      stream_bytes layout texts lead_in layout.blocks (symbols_from [] all),
      whole,
      record {
        given_are = parts.given_are;
        framing = puts.framing;
        carries =
            subst (λ (s : List ℕ). Carries layout.blocks s whole)
            (ap (symbols_from []) (sym parts.filled) ∙ sym puts.symbols_are)
            (carries layout.blocks whole parts.given_are.count parts.given_are.codewords);
      },
      puts.put,
    )

-- without a lead-in, the texts do not matter
pub framing_with : (layout : DiscLayout) (xs ys : List (List ℕ)) (lead_in : ℕ) (bytes : List ℕ)
    → (0 < lead_in → xs ≡ ys) → HasFraming layout xs lead_in bytes
    → HasFraming layout ys lead_in bytes
framing_with layout xs ys zero bytes same framing = record {
  size = framing.size;
  are_bytes = framing.are_bytes;
  program = framing.program;
  contents = λ l lt. absurd (omega arith);
  texts = λ l lt. absurd (omega arith);
}
framing_with layout xs ys (suc l) bytes same framing =
    subst (λ (t : List (List ℕ)). HasFraming layout t (suc l) bytes) (same (omega arith)) framing

pub part_with : (layout : DiscLayout) (Comes : ℕ → List ℕ → Type 0) (xs ys : List (List ℕ)) (lead_in : ℕ)
    (a b : Option (List ℕ)) (n : ℕ) (packs : List (List ℕ))
    → (0 < lead_in → xs ≡ ys) → PutsStreamPart (framing_of layout xs lead_in) Comes (from_to a b) n packs
    → PutsStreamPart (framing_of layout ys lead_in) Comes (from_to a b) n packs
unfolding stream_bytes
part_with layout Comes xs ys zero a b n packs same puts =
    record {
      within = puts.within;
      given_are = puts.given_are;
      put = puts.put;
      in_turn = puts.in_turn;
    }
part_with layout Comes xs ys (suc l) a b n packs same puts =
    subst (λ (t : List (List ℕ)). PutsStreamPart (framing_of layout t (suc l)) Comes (from_to a b) n packs)
    (same (omega arith)) puts
