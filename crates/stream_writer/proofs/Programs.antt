-- The program blocks that were written, and one more block.
use Rattle.std.proofs.Common.{◌≡◌, ℕ, zero, suc, ◌+◌, ◌*◌, ◌<◌, List, [], ◌++◌, length, flat_map, inl, inr, refl, sym, ap, ap₂, subst, ◌∙◌, arith}
use Rattle.std.specs.List.{range_with_len}
use Rattle.std.specs.declared.option.Option.{Option}
use Rattle.std.specs.Io.KnownBytes.{Appends}
use Rattle.std.proofs.KnownBytes.{Appends-nil, Appends-trans}
use Rattle.std.proofs.lemmas.Bool.{cases_lt}
use Rattle.std.proofs.lemmas.List.{append-nil}
use Rattle.bit_lists.specs.Counting.{below}
use Rattle.cdg_io.specs.Change.{from_to}
use Rattle.cdg_io.specs.Run.{run_state}
use Rattle.cdg_io.specs.Moves.{AppendsBetween, AppendsPrefix}
use Rattle.rw_interleave.specs.Spreading.{spread_next}
use Rattle.toc_model.specs.Places.{DiscLayout}
use Rattle.toc_model.specs.Layout.{p_bit, program_frame}
use Rattle.stream_writer.specs.Blocks.{carrying_block, program_block, symbols_at, IsBuilt}
use Rattle.stream_writer.specs.Given.{symbols_from, AreGiven, ComesAfterBlocks, ComesLater, TakesPacks, PutsPart, PutsProgram}
use Rattle.stream_writer.proofs.Pieces.{between_pieces, pieces_more, prefix_on}
use Rattle.stream_writer.proofs.Slots.{none_given, later_more, given_later, given_more, length-symbols_from, symbols_from-append, run_state-append, earlier_block, last_block}

pub same_in_range : (f g : ℕ → List ℕ) (a n : ℕ) → ((i : ℕ) → i < a + n → f i ≡ g i)
    → flat_map f (range_with_len a n) ≡ flat_map g (range_with_len a n)
same_in_range f g a zero same = refl
same_in_range f g a (suc n) same =
    ap₂ (λ xs ys. xs ++ ys) (same a (omega arith))
    (same_in_range f g (a + 1) n (λ i lt. same i (omega arith)))

-- The first blocks were written, and four packs were read for each.
pub record AreDone (layout : DiscLayout) (Comes : ℕ → List ℕ → Type 0) (n : ℕ) (held held' : Option (List ℕ))
    (spread : List (List ℕ)) : Type 0 where
  pub packs : List (List ℕ)
  pub puts : PutsProgram layout Comes n (from_to held held') packs
  pub spread_is : spread ≡ run_state spread_next [] packs

pub none_done : (layout : DiscLayout) (Comes : ℕ → List ℕ → Type 0) (held : Option (List ℕ))
    (spread : List (List ℕ)) → spread ≡ []
    → AreDone layout Comes 0 held held spread
none_done layout Comes held spread start = record {
  packs = [];
  puts =
      record { given_are = none_given Comes 0; put = Appends-nil held; built = λ b lt. absurd (omega arith) };
  spread_is = start;
}

-- the packs of one more block, and its symbols
record NextBlock (layout : DiscLayout) (Comes : ℕ → List ℕ → Type 0) (n : ℕ) (packs four : List (List ℕ))
    (symbols : List ℕ) : Type 0 where
  given_are : AreGiven Comes 0 (4 * (n + 1)) (packs ++ four)
  bytes : flat_map (program_block layout (symbols_from [] (packs ++ four))) (below (n + 1))
      ≡ flat_map (program_block layout (symbols_from [] packs)) (below n) ++ carrying_block layout n symbols
  front : flat_map (program_block layout (symbols_from [] (packs ++ four))) (below n)
      ≡ flat_map (program_block layout (symbols_from [] packs)) (below n)
  earlier : (b : ℕ) → b < n
      → symbols_at (symbols_from [] (packs ++ four)) b ≡ symbols_at (symbols_from [] packs) b
  last : symbols_at (symbols_from [] (packs ++ four)) n ≡ symbols

next_block : (layout : DiscLayout) (Comes Later : ℕ → List ℕ → Type 0) (n : ℕ)
    (before after packs four : List (List ℕ)) (symbols : List ℕ)
    → AreGiven Comes 0 (4 * n) packs → before ≡ run_state spread_next [] packs
    → ComesLater Comes (4 * n) Later → TakesPacks Later 4 (from_to before after) symbols four
    → NextBlock layout Comes n packs four symbols
next_block layout Comes Later n before after packs four symbols given_are spread_is later taken =
    let so_far : List ℕ = symbols_from [] packs in
    let size : length so_far ≡ 96 * n = length-symbols_from [] packs ∙ omega (arith, given_are.count) in
    let one : length symbols ≡ 96 =
    ap length taken.symbols_are ∙ length-symbols_from before four ∙ omega (arith, taken.given_are.count) in
    let joined : symbols_from [] (packs ++ four) ≡ so_far ++ symbols =
    symbols_from-append [] packs four
    ∙ ap (λ xs. so_far ++ xs)
    (ap (λ (w : List (List ℕ)). symbols_from w four) (sym spread_is) ∙ sym taken.symbols_are) in
    let earlier : (b : ℕ) → b < n → symbols_at (symbols_from [] (packs ++ four)) b ≡ symbols_at so_far b =
    λ b lt. ap (λ xs. symbols_at xs b) joined ∙ earlier_block so_far symbols n b size lt in
    let last : symbols_at (symbols_from [] (packs ++ four)) n ≡ symbols =
    ap (λ xs. symbols_at xs n) joined ∙ last_block so_far symbols n size one in
    let next : n + 1 ≡ suc n = omega arith in
    let f : ℕ → List ℕ = program_block layout (symbols_from [] (packs ++ four)) in
    let front : flat_map f (below n) ≡ flat_map (program_block layout so_far) (below n) =
    same_in_range f (program_block layout so_far) 0 n
    (λ i lt. ap (carrying_block layout i) (earlier i (omega arith))) in
    record {
      given_are =
          given_more Comes 0 (4 * n) (4 * n) 4 (4 * (n + 1)) packs four given_are
          (given_later Comes Later (4 * n) 4 four later taken.given_are) (omega arith) (omega arith);
      bytes = ap (λ k. flat_map f (below k)) next ∙ pieces_more f n
          ∙ ap₂ (λ xs ys. xs ++ ys) front (ap (carrying_block layout n) last);
      front = front;
      earlier = earlier;
      last = last;
    }

-- one more block
pub block_more : (layout : DiscLayout) (Comes Later : ℕ → List ℕ → Type 0) (n : ℕ)
    (held held' held'' : Option (List ℕ)) (before after : List (List ℕ)) (symbols block : List ℕ)
    → AreDone layout Comes n held held' before → ComesLater Comes (4 * n) Later
    → (four : List (List ℕ)) × TakesPacks Later 4 (from_to before after) symbols four
    → block ≡ carrying_block layout n symbols
    → IsBuilt block (p_bit layout n) (program_frame layout n) symbols → Appends held' held'' block
    → AreDone layout Comes (n + 1) held held'' after
block_more layout Comes Later n held held' held'' before after symbols block done later (four, taken) bytes
    built put =
    let packs = done.packs in
    let puts = done.puts in
    let next =
    next_block layout Comes Later n before after packs four symbols puts.given_are done.spread_is later
    taken in
    let all : List ℕ = symbols_from [] (packs ++ four) in
    record {
      packs = packs ++ four;
      puts = record {
        given_are = next.given_are;
        put =
            subst (Appends held held'') (ap
            (λ xs. flat_map (program_block layout (symbols_from [] packs)) (below n) ++ xs) bytes
            ∙ sym next.bytes)
            (Appends-trans held held' held'' _ _ puts.put put);
        built = λ b lt. elim (cases_lt b n) [
          | inl below_n ↦
              subst (λ (s : List ℕ).
              IsBuilt (carrying_block layout b s) (p_bit layout b) (program_frame layout b) s)
              (sym (next.earlier b below_n)) (puts.built b below_n)
          | inr past ↦
              let here : n ≡ b = omega arith in
              subst (λ (k : ℕ). IsBuilt (program_block layout all k) (p_bit layout k) (program_frame layout k)
              (symbols_at all k)) here
              (subst (λ (s : List ℕ).
              IsBuilt (carrying_block layout n s) (p_bit layout n) (program_frame layout n) s) (sym next.last)
              (subst (λ (x : List ℕ). IsBuilt x (p_bit layout n) (program_frame layout n) symbols) bytes
              built))
        ];
      };
      spread_is =
          taken.after_is
          ∙ ap (λ (w : List (List ℕ)). run_state spread_next w four) done.spread_is
          ∙ sym (run_state-append [] packs four);
    }

-- a prefix of one more block
pub part_more : (layout : DiscLayout) (Comes Later : ℕ → List ℕ → Type 0) (n : ℕ)
    (held held' held'' : Option (List ℕ)) (before after : List (List ℕ)) (symbols block : List ℕ)
    → AreDone layout Comes n held held' before → n < layout.blocks → ComesLater Comes (4 * n) Later
    → (four : List (List ℕ)) × TakesPacks Later 4 (from_to before after) symbols four
    → block ≡ carrying_block layout n symbols → AppendsPrefix held' held'' block
    → (Latest : ℕ → List ℕ → Type 0) → ComesLater Later 4 Latest
    → (m : ℕ)
    × (packs : List (List ℕ))
    × PutsPart layout Comes (from_to held held'') m packs
    × ComesAfterBlocks Comes m Latest
part_more layout Comes Later n held held' held'' before after symbols block done lt later (four, taken) bytes
    part Latest next_later =
    let packs = done.packs in
    let puts = done.puts in
    let next =
    next_block layout Comes Later n before after packs four symbols puts.given_are done.spread_is later
    taken in
    let first : List ℕ = flat_map (program_block layout (symbols_from [] packs)) (below n) in
    let whole : flat_map (program_block layout (symbols_from [] (packs ++ four))) (below (n + 1))
    ≡ first ++ (block ++ []) =
    next.bytes ∙ ap (λ xs. first ++ xs) (sym (append-nil block ∙ bytes)) in
    let f : ℕ → List ℕ = program_block layout (symbols_from [] (packs ++ four)) in
    let cut : AppendsBetween held held'' (flat_map f (below n)) (flat_map f (below (n + 1))) =
    between_pieces held held' held'' _ block _ (subst (Appends held held') (sym next.front) puts.put) part
    (next.bytes ∙ ap₂ (λ xs ys. xs ++ ys) (sym next.front) (sym bytes)) in (
      n + 1,
      packs ++ four,
      record {
        within = omega arith;
        given_are = next.given_are;
        put = prefix_on held held' held'' first block [] _ puts.put part whole;
        in_turn = λ m e.
            let same : n ≡ m = omega (arith, e) in
            subst (λ k. AppendsBetween held held'' (flat_map f (below k)) (flat_map f (below (n + 1)))) same
            cut;
      },
      later_more Comes Later Latest (4 * n) 4 (4 * (n + 1)) later next_later (omega arith),
    )

-- all blocks
pub all_done : (layout : DiscLayout) (Comes : ℕ → List ℕ → Type 0) (n blocks : ℕ)
    (held held' : Option (List ℕ)) (spread : List (List ℕ))
    → AreDone layout Comes n held held' spread → n ≡ blocks
    → (packs : List (List ℕ)) × PutsProgram layout Comes blocks (from_to held held') packs
all_done layout Comes n blocks held held' spread done all =
    (done.packs, subst (λ k. PutsProgram layout Comes k (from_to held held') done.packs) all done.puts)
