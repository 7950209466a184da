-- The blocks of a stream.
use Rattle.std.proofs.Common.{◌≡◌, ℕ, zero, suc, ◌+◌, ◌-◌, ◌*◌, ◌/◌, ◌<◌, ◌≤◌, false, List, [], ◌∷◌, ◌++◌, length, get_or, map, flat_map, take, drop, All, refl, sym, ap, ap₂, subst, ◌∙◌, arith}
use Rattle.std.specs.List.{concat, range_with_len}
use Rattle.std.proofs.lemmas.List.{length-append, map-id, drop-drop, take-append-drop, drop_all, get_or_append_left, get_or-append_right}
use Rattle.std.proofs.lemmas.List.Elements.{All-append}
use Rattle.std.proofs.lemmas.List.Folds.{concat-append}
use Rattle.std.proofs.lemmas.List.FromFn.{length-map-range_with_len, get_or-map-range_with_len}
use Rattle.std.proofs.Math.Seq.{take-append_seam, drop-append_seam}
use Rattle.bit_lists.specs.Counting.{below, parts}
use Rattle.raw_subcode.specs.Channels.{symbols_of, block_of, blocks_of, program_symbols}
use Rattle.raw_subcode.specs.declared.form.Form.TheVariants.{Raw}
use Rattle.toc_model.specs.Places.{DiscLayout}
use Rattle.toc_model.specs.Layout.{p_bit, program_frame, toc_frame}
use Rattle.cdtext_packs.specs.LeadIn.{lead_in_symbols}
use Rattle.stream_writer.specs.Blocks.{lead_in_block, program_block, symbols_at, stream_bytes, HasChannels, IsBuilt}
use Rattle.stream_writer.specs.Framing.{raw_block, HasFraming}

-- the block has 96 bytes
record IsBlock (block : List ℕ) : Type 0 where
  size : length block ≡ 96
  are_bytes : All (λ byte. byte < 256) block

-- each block has 96 bytes
abbrev AreBlocks : List (List ℕ) → Type 0
AreBlocks [] = Unit {0}
AreBlocks (block ∷ blocks) = IsBlock block × AreBlocks blocks

AreBlocks-append : (xs ys : List (List ℕ)) → AreBlocks xs → AreBlocks ys → AreBlocks (xs ++ ys)
AreBlocks-append [] ys these those = those
AreBlocks-append (x ∷ xs) ys these those = (these.0, AreBlocks-append xs ys these.1 those)

blocks_in_range : (f : ℕ → List ℕ) (a n : ℕ) → ((i : ℕ) → a ≤ i → i < a + n → IsBlock (f i))
    → AreBlocks (map f (range_with_len a n))
blocks_in_range f a zero each = tt
blocks_in_range f a (suc n) each = (
  each a (omega arith) (omega arith),
  blocks_in_range f (a + 1) n (λ i low high. each i (omega arith) (omega arith)),
)

length-joined : (xs : List (List ℕ)) → AreBlocks xs → length (concat xs) ≡ 96 * length xs
length-joined [] sized = refl
length-joined (x ∷ xs) sized =
    length-append x (concat xs) ∙ omega (arith, length-joined xs sized.1, sized.0.size)

bytes-joined : (xs : List (List ℕ)) → AreBlocks xs → All (λ byte. byte < 256) (concat xs)
bytes-joined [] sized = λ k d lt. absurd (omega arith)
bytes-joined (x ∷ xs) sized =
    All-append (λ byte. byte < 256) x (concat xs) sized.0.are_bytes (bytes-joined xs sized.1)

parts-joined : (xs : List (List ℕ)) → AreBlocks xs → parts (length xs) 96 (concat xs) ≡ xs
parts-joined [] sized = refl
parts-joined (x ∷ xs) sized =
    let front : take 96 (x ++ concat xs) ≡ x =
    ap (λ k. take k (x ++ concat xs)) (sym sized.0.size) ∙ take-append_seam x (concat xs) in
    let back : drop 96 (x ++ concat xs) ≡ concat xs =
    ap (λ k. drop k (x ++ concat xs)) (sym sized.0.size) ∙ drop-append_seam x (concat xs) in
    ap₂ (λ y ys. y ∷ ys) front (ap (parts (length xs) 96) back ∙ parts-joined xs sized.1)

blocks_are : (xs : List (List ℕ)) → AreBlocks xs → blocks_of Raw (concat xs) ≡ xs
blocks_are xs sized =
    let count : length (concat xs) / 96 ≡ length xs = omega (arith, length-joined xs sized) in
    ap (map (block_of Raw)) (ap (λ n. parts n 96 (concat xs)) count ∙ parts-joined xs sized) ∙ map-id xs

flat_map-concat : (f : ℕ → List ℕ) (ns : List ℕ) → flat_map f ns ≡ concat (map f ns)
flat_map-concat f [] = refl
flat_map-concat f (n ∷ ns) = ap (λ xs. f n ++ xs) (flat_map-concat f ns)

-- the symbols of the blocks from a on
symbols_in_range : (g : ℕ → List ℕ) (symbols : List ℕ) (a n : ℕ)
    → ((b : ℕ) → a ≤ b → b < a + n → symbols_of (g b) ≡ symbols_at symbols b)
    → length symbols ≡ 96 * (a + n) → flat_map symbols_of (map g (range_with_len a n)) ≡ drop (96 * a) symbols
symbols_in_range g symbols a zero each size = sym (drop_all (96 * a) symbols (omega (arith, size)))
symbols_in_range g symbols a (suc n) each size =
    let next : 96 * (a + 1) ≡ 96 * a + 96 = omega arith in
    let rest : flat_map symbols_of (map g (range_with_len (a + 1) n)) ≡ drop 96 (drop (96 * a) symbols) =
    symbols_in_range g symbols (a + 1) n (λ b low high. each b (omega arith) (omega arith))
    (omega (arith, size))
    ∙ ap (λ k. drop k symbols) next ∙ sym (drop-drop 96 (96 * a) symbols) in
    ap₂ (λ xs ys. xs ++ ys) (each a (omega arith) (omega arith)) rest
    ∙ take-append-drop 96 (drop (96 * a) symbols)

-- the lead-in and the program of a stream
abbrev lead_in_blocks : DiscLayout → List (List ℕ) → ℕ → List (List ℕ)
lead_in_blocks layout texts lead_in = map (lead_in_block layout texts lead_in) (below lead_in)

abbrev blocks_after : DiscLayout → List ℕ → List (List ℕ)
blocks_after layout symbols = map (program_block layout symbols) (below layout.blocks)

-- the facts about each block
pub record AreBuilt (layout : DiscLayout) (texts : List (List ℕ)) (lead_in : ℕ) (symbols : List ℕ) : Type
    0 where
  pub contents : (l : ℕ) → l < lead_in
      → IsBuilt (lead_in_block layout texts lead_in l) false (toc_frame layout lead_in l)
      (lead_in_symbols texts l)
  pub program : (b : ℕ) → b < layout.blocks
      → IsBuilt (program_block layout symbols b) (p_bit layout b) (program_frame layout b)
      (symbols_at symbols b)

all_blocks : (layout : DiscLayout) (texts : List (List ℕ)) (lead_in : ℕ) (symbols : List ℕ)
    → AreBuilt layout texts lead_in symbols
    → AreBlocks (lead_in_blocks layout texts lead_in ++ blocks_after layout symbols)
all_blocks layout texts lead_in symbols built =
    AreBlocks-append (lead_in_blocks layout texts lead_in) (blocks_after layout symbols)
    (blocks_in_range (lead_in_block layout texts lead_in) 0 lead_in (λ i low high.
    let is = built.contents i (omega arith) in
    record { size = is.size; are_bytes = is.are_bytes }))
    (blocks_in_range (program_block layout symbols) 0 layout.blocks (λ i low high.
    let is = built.program i (omega arith) in
    record { size = is.size; are_bytes = is.are_bytes }))

stream_is : (layout : DiscLayout) (texts : List (List ℕ)) (lead_in : ℕ) (symbols : List ℕ)
    → stream_bytes layout texts lead_in layout.blocks symbols
    ≡ concat (lead_in_blocks layout texts lead_in ++ blocks_after layout symbols)
unfolding stream_bytes
stream_is layout texts lead_in symbols =
    ap₂ (λ xs ys. xs ++ ys) (flat_map-concat (lead_in_block layout texts lead_in) (below lead_in))
    (flat_map-concat (program_block layout symbols) (below layout.blocks))
    ∙ sym (concat-append (lead_in_blocks layout texts lead_in) (blocks_after layout symbols))

stream_blocks : (layout : DiscLayout) (texts : List (List ℕ)) (lead_in : ℕ) (symbols : List ℕ)
    → AreBuilt layout texts lead_in symbols
    → blocks_of Raw (stream_bytes layout texts lead_in layout.blocks symbols)
    ≡ lead_in_blocks layout texts lead_in ++ blocks_after layout symbols
stream_blocks layout texts lead_in symbols built =
    ap (blocks_of Raw) (stream_is layout texts lead_in symbols)
    ∙ blocks_are _ (all_blocks layout texts lead_in symbols built)

lead_in_at : (layout : DiscLayout) (texts : List (List ℕ)) (lead_in : ℕ) (symbols : List ℕ)
    → AreBuilt layout texts lead_in symbols → (l : ℕ) → l < lead_in
    → raw_block (stream_bytes layout texts lead_in layout.blocks symbols) l
    ≡ lead_in_block layout texts lead_in l
lead_in_at layout texts lead_in symbols built l lt =
    let f : ℕ → List ℕ = lead_in_block layout texts lead_in in
    let count : length (map f (below lead_in)) ≡ lead_in = length-map-range_with_len f 0 lead_in in
    ap (λ (xs : List (List ℕ)). get_or xs l []) (stream_blocks layout texts lead_in symbols built)
    ∙ get_or_append_left (map f (below lead_in)) (blocks_after layout symbols) [] l (omega (arith, count))
    ∙ get_or-map-range_with_len f 0 lead_in l l [] lt (omega arith)

program_at : (layout : DiscLayout) (texts : List (List ℕ)) (lead_in : ℕ) (symbols : List ℕ)
    → AreBuilt layout texts lead_in symbols → (b : ℕ) → b < layout.blocks
    → raw_block (stream_bytes layout texts lead_in layout.blocks symbols) (lead_in + b)
    ≡ program_block layout symbols b
program_at layout texts lead_in symbols built b lt =
    let f : ℕ → List ℕ = lead_in_block layout texts lead_in in
    let g : ℕ → List ℕ = program_block layout symbols in
    let count : length (map f (below lead_in)) ≡ lead_in = length-map-range_with_len f 0 lead_in in
    let place : lead_in + b - lead_in ≡ b = omega arith in
    ap (λ (xs : List (List ℕ)). get_or xs (lead_in + b) []) (stream_blocks layout texts lead_in symbols built)
    ∙ get_or-append_right (map f (below lead_in)) (map g (below layout.blocks)) lead_in (lead_in + b) [] count
    (omega arith)
    ∙ ap (λ i. get_or (map g (below layout.blocks)) i []) place
    ∙ get_or-map-range_with_len g 0 layout.blocks b b [] lt (omega arith)

pub framing : (layout : DiscLayout) (texts : List (List ℕ)) (lead_in : ℕ) (symbols : List ℕ)
    → AreBuilt layout texts lead_in symbols
    → HasFraming layout texts lead_in (stream_bytes layout texts lead_in layout.blocks symbols)
framing layout texts lead_in symbols built =
    let f : ℕ → List ℕ = lead_in_block layout texts lead_in in
    let g : ℕ → List ℕ = program_block layout symbols in
    record {
      size =
          ap length (stream_is layout texts lead_in symbols)
          ∙ length-joined _ (all_blocks layout texts lead_in symbols built)
          ∙ ap (λ n. 96 * n) (length-append (map f (below lead_in)) (map g (below layout.blocks))
          ∙ ap₂ (λ m n. m + n) (length-map-range_with_len f 0 lead_in)
          (length-map-range_with_len g 0 layout.blocks));
      are_bytes =
          subst (All (λ byte. byte < 256)) (sym (stream_is layout texts lead_in symbols))
          (bytes-joined _ (all_blocks layout texts lead_in symbols built));
      program =
          λ b lt. subst (λ block. HasChannels block (p_bit layout b) (program_frame layout b))
          (sym (program_at layout texts lead_in symbols built b lt)) (built.program b lt).channels;
      contents =
          λ l lt. subst (λ block. HasChannels block false (toc_frame layout lead_in l))
          (sym (lead_in_at layout texts lead_in symbols built l lt)) (built.contents l lt).channels;
      texts =
          λ l lt.
          ap symbols_of (lead_in_at layout texts lead_in symbols built l lt) ∙ (built.contents l lt).carried;
    }

pub program_is : (layout : DiscLayout) (texts : List (List ℕ)) (lead_in : ℕ) (symbols : List ℕ)
    → AreBuilt layout texts lead_in symbols
    → length symbols ≡ 96 * layout.blocks
    → program_symbols Raw (stream_bytes layout texts lead_in layout.blocks symbols) lead_in ≡ symbols
program_is layout texts lead_in symbols built size =
    let f : ℕ → List ℕ = lead_in_block layout texts lead_in in
    let g : ℕ → List ℕ = program_block layout symbols in
    let count : lead_in ≡ length (map f (below lead_in)) = sym (length-map-range_with_len f 0 lead_in) in
    let after : drop lead_in (map f (below lead_in) ++ map g (below layout.blocks))
    ≡ map g (below layout.blocks) =
    ap (λ n. drop n (map f (below lead_in) ++ map g (below layout.blocks))) count
    ∙ drop-append_seam (map f (below lead_in)) (map g (below layout.blocks)) in
    ap (λ (xs : List (List ℕ)). flat_map symbols_of (drop lead_in xs))
    (stream_blocks layout texts lead_in symbols built)
    ∙ ap (flat_map symbols_of) after
    ∙ symbols_in_range g symbols 0 layout.blocks (λ b low high. (built.program b (omega arith)).carried)
    (omega (arith, size))
