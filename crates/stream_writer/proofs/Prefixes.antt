-- The first blocks of a stream are a prefix of the whole one.
use Rattle.std.proofs.Common.{◌≡◌, ℕ, ◌+◌, ◌-◌, ◌*◌, ◌<◌, ◌≤◌, List, [], ◌++◌, length, get_or, flat_map, take, drop, replicate, append_assoc, refl, sym, ap, subst, ◌∙◌, inl, inr, arith}
use Rattle.std.specs.declared.option.Option.{Option}
use Rattle.std.proofs.lemmas.Bool.{cases_lt}
use Rattle.std.proofs.lemmas.List.{ext_get_or, get_or-take, get_or-replicate, get_or_append_left, get_or-append_right, length-append, length-replicate, length-take-le, take-append-drop}
use Rattle.bit_lists.specs.Counting.{below}
use Rattle.cdg_io.specs.Run.{run_state}
use Rattle.cdg_io.specs.Moves.{AppendsPrefix}
use Rattle.raw_subcode.specs.Channels.{program_symbols}
use Rattle.raw_subcode.specs.declared.form.Form.TheVariants.{Raw}
use Rattle.rw_interleave.specs.Interleave.{whole_packs, Carries}
use Rattle.rw_interleave.specs.Spreading.{filled_with_idle, spread_next}
use Rattle.toc_model.specs.Places.{DiscLayout}
use Rattle.cdg_io.specs.Change.{from_to}
use Rattle.stream_writer.specs.Blocks.{carrying_block, lead_in_block, program_block, stream_bytes}
use Rattle.stream_writer.specs.Framing.{HasFraming}
use Rattle.stream_writer.specs.Given.{AreGiven, PutsStreamPart as PutsPart, framing_of, symbols_from}
use Rattle.stream_writer.proofs.Whole.{SpreadCarries}
use Rattle.stream_writer.proofs.Programs.{same_in_range}
use Rattle.stream_writer.proofs.Pieces.{pieces_front, prefix_first}
use Rattle.stream_writer.proofs.Slots.{length-symbols_from, symbols_from-append, earlier_block}
use Rattle.stream_writer.proofs.Symbols.{same_symbols}
use Rattle.stream_writer.proofs.SameBytes.{stream_is}

-- the packs of some blocks, with one pack for each number and idle packs at their end
module _ (Comes : ℕ → List ℕ → Type 0)
    (one : (n : ℕ) (pack other : List ℕ) → Comes n pack → Comes n other → pack ≡ other)
    (blocks : ℕ) (packs : List (List ℕ)) (count : length packs ≡ whole_packs blocks)
    (come : (n : ℕ) → n < length packs → Comes n (get_or packs n []))
    (idle : (n : ℕ) (pack : List ℕ) → whole_packs blocks ≤ n → Comes n pack → pack ≡ replicate 24 0) where
  filled : List (List ℕ)
  filled = filled_with_idle (4 * blocks) packs

  length-filled : length filled ≡ 4 * blocks
  unfolding filled
  length-filled =
      length-append packs (replicate (4 * blocks - length packs) (replicate 24 0))
      ∙ omega (arith, count, length-replicate {A = List ℕ} (4 * blocks - length packs) (replicate 24 0))

  filled_at : (n : ℕ) (pack : List ℕ) → n < 4 * blocks → Comes n pack → get_or filled n [] ≡ pack
  unfolding filled
  filled_at n pack lt comes = elim (cases_lt n (length packs)) [
    | inl inside ↦
        get_or_append_left packs (replicate (4 * blocks - length packs) (replicate 24 0)) [] n inside
        ∙ one n (get_or packs n []) pack (come n inside) comes
    | inr past ↦
        get_or-append_right packs (replicate (4 * blocks - length packs) (replicate 24 0)) (length packs) n []
        refl past
        ∙ get_or-replicate {A = List ℕ} (4 * blocks - length packs) (n - length packs) (replicate 24 0) []
        (omega arith)
        ∙ sym (idle n pack (omega (arith, count, past)) comes)
  ]

  given_front : (n : ℕ) (given : List (List ℕ)) → n ≤ blocks → AreGiven Comes 0 (4 * n) given
      → take (4 * n) filled ≡ given
  given_front n given le are =
      let fits : 4 * n ≤ length filled = omega (arith, length-filled, le) in
      let size : length (take (4 * n) filled) ≡ 4 * n = length-take-le (4 * n) filled fits in
      ext_get_or {A = List ℕ} [] (take (4 * n) filled) given (size ∙ sym are.count) (λ k lt.
      let inside : k < 4 * n = omega (arith, lt, size) in
      let here : 0 + k ≡ k = omega arith in
      get_or-take (4 * n) filled k [] inside
      ∙ filled_at k (get_or given k []) (omega (arith, inside, le))
      (subst (λ m. Comes m (get_or given k [])) here (are.each k inside)))

  -- the symbols of the written packs are at the front of all symbols
  symbols_front : (n : ℕ) (given : List (List ℕ)) → n ≤ blocks → AreGiven Comes 0 (4 * n) given
      → (more : List ℕ)
      × (symbols_from [] (filled_with_idle (4 * blocks) packs) ≡ symbols_from [] given ++ more)
  unfolding filled
  symbols_front n given le are =
      let whole : filled ≡ given ++ drop (4 * n) filled =
      sym (take-append-drop (4 * n) filled)
      ∙ ap (λ xs. xs ++ drop (4 * n) filled) (given_front n given le are) in (
        symbols_from (run_state spread_next [] given) (drop (4 * n) filled),
        ap (symbols_from []) whole ∙ symbols_from-append [] given (drop (4 * n) filled),
      )

-- the first blocks of a stream that has more symbols
stream_front : (layout : DiscLayout) (texts : List (List ℕ)) (lead_in n blocks : ℕ)
    (symbols more all : List ℕ) → n ≤ blocks → length symbols ≡ 96 * n → all ≡ symbols ++ more
    → (rest : List ℕ)
    × (stream_bytes layout texts lead_in blocks all ≡ stream_bytes layout texts lead_in n symbols ++ rest)
unfolding stream_bytes
stream_front layout texts lead_in n blocks symbols more all le size joined =
    let start : List ℕ = flat_map (lead_in_block layout texts lead_in) (below lead_in) in
    let f : ℕ → List ℕ = program_block layout all in
    let g : ℕ → List ℕ = program_block layout symbols in
    let (rest, e) = pieces_front f n (blocks - n) blocks (omega (arith, le)) in
    let same : flat_map f (below n) ≡ flat_map g (below n) =
    same_in_range f g 0 n (λ b lt. ap (λ xs. program_block layout xs b) joined
    ∙ ap (carrying_block layout b) (earlier_block symbols more n b size (omega (arith, lt)))) in (
      rest,
      ap (λ xs. start ++ xs) (e ∙ ap (λ xs. xs ++ rest) same)
          ∙ sym (append_assoc start (flat_map g (below n)) rest),
    )

-- a part of a stream is a prefix of one that carries the packs to come
pub prefix_of_stream : SpreadCarries → (Comes : ℕ → List ℕ → Type 0)
    → ((n : ℕ) (pack other : List ℕ) → Comes n pack → Comes n other → pack ≡ other)
    → (layout : DiscLayout) (texts : List (List ℕ)) (lead_in n : ℕ) (bytes : List ℕ)
    (packs given : List (List ℕ)) (held held' : Option (List ℕ))
    → HasFraming layout texts lead_in bytes → Carries layout.blocks (program_symbols Raw bytes lead_in) packs
    → ((k : ℕ) → k < length packs → Comes k (get_or packs k []))
    → ((k : ℕ) (pack : List ℕ) → whole_packs layout.blocks ≤ k → Comes k pack → pack ≡ replicate 24 0)
    → PutsPart (framing_of layout texts lead_in) Comes (from_to held held') n given
    → AppendsPrefix held held' bytes
prefix_of_stream spread Comes one layout texts lead_in n bytes packs given held held' framing carries come
    idle part =
    let blocks : ℕ = layout.blocks in
    let symbols : program_symbols Raw bytes lead_in ≡ symbols_from [] (filled_with_idle (4 * blocks) packs) =
    same_symbols blocks (program_symbols Raw bytes lead_in)
    (symbols_from [] (filled_with_idle (4 * blocks) packs)) packs carries
    (spread blocks packs carries.count carries.codewords) in
    let (more, front) =
    symbols_front Comes one blocks packs carries.count come idle n given part.within part.given_are in
    let size : length (symbols_from [] given) ≡ 96 * n =
    length-symbols_from [] given ∙ omega (arith, part.given_are.count) in
    let (rest, whole) =
    stream_front layout texts lead_in n blocks (symbols_from [] given) more
    (program_symbols Raw bytes lead_in) part.within size (symbols ∙ front) in
    prefix_first held held' (stream_bytes layout texts lead_in n (symbols_from [] given)) rest bytes part.put
    (sym (stream_is layout texts lead_in bytes framing) ∙ whole)
