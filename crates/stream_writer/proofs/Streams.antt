-- A whole stream that was written, or a prefix of one.
use Rattle.std.proofs.Common.{◌≡◌, ℕ, ◌*◌, ◌<◌, false, List, [], ◌++◌, length, flat_map, refl, sym, ap, ◌∙◌, arith}
use Rattle.std.specs.declared.option.Option.{Option}
use Rattle.std.specs.Io.KnownBytes.{Appends}
use Rattle.std.proofs.KnownBytes.{Appends-trans}
use Rattle.std.proofs.lemmas.List.{append-nil}
use Rattle.bit_lists.specs.Counting.{below}
use Rattle.cdg_io.specs.Change.{from_to}
use Rattle.cdg_io.specs.Moves.{AppendsPrefix}
use Rattle.toc_model.specs.Places.{DiscLayout}
use Rattle.toc_model.specs.Layout.{toc_frame}
use Rattle.cdtext_packs.specs.LeadIn.{lead_in_symbols}
use Rattle.stream_writer.specs.Blocks.{lead_in_block, program_block, stream_bytes, IsBuilt}
use Rattle.stream_writer.specs.Given.{ComesAfterBlocks, PutsPart, PutsProgram, PutsStream, PutsStreamPart, framing_of, symbols_from}
use Rattle.stream_writer.proofs.Pieces.{between_after, prefix_first, prefix_on}
use Rattle.stream_writer.proofs.Slots.{none_given, none_later, length-symbols_from}
use Rattle.stream_writer.proofs.Framed.{AreBuilt, framing, program_is}

-- the bytes of the lead-in
abbrev lead_in_bytes : DiscLayout → List (List ℕ) → ℕ → List ℕ
lead_in_bytes layout texts lead_in = flat_map (lead_in_block layout texts lead_in) (below lead_in)

pub stream_put : (layout : DiscLayout) (Comes : ℕ → List ℕ → Type 0) (texts : List (List ℕ)) (lead_in : ℕ)
    (a b c : Option (List ℕ))
    → Appends a b (flat_map (lead_in_block layout texts lead_in) (below lead_in))
    → ((l : ℕ) → l < lead_in → IsBuilt (lead_in_block layout texts lead_in l) false
    (toc_frame layout lead_in l) (lead_in_symbols texts l))
    → (packs : List (List ℕ)) × PutsProgram layout Comes layout.blocks (from_to b c) packs
    → (packs : List (List ℕ)) × PutsStream (framing_of layout texts lead_in) Comes (from_to a c) packs
unfolding stream_bytes
stream_put layout Comes texts lead_in a b c put contents (packs, puts) =
    let symbols : List ℕ = symbols_from [] packs in
    let built : AreBuilt layout texts lead_in symbols =
    record { contents = contents; program = puts.built } in
    let size : length symbols ≡ 96 * layout.blocks =
    length-symbols_from [] packs ∙ omega (arith, puts.given_are.count) in (
      packs,
      record {
        given_are = puts.given_are;
        put = Appends-trans a b c _ _ put puts.put;
        framing = framing layout texts lead_in symbols built;
        symbols_are = program_is layout texts lead_in symbols built size;
      },
    )

pub part_of_lead_in : (layout : DiscLayout) (Comes : ℕ → List ℕ → Type 0) (texts : List (List ℕ))
    (lead_in : ℕ) (a b : Option (List ℕ))
    → AppendsPrefix a b (flat_map (lead_in_block layout texts lead_in) (below lead_in))
    → (n : ℕ)
    × (packs : List (List ℕ))
    × PutsStreamPart (framing_of layout texts lead_in) Comes (from_to a b) n packs
    × ComesAfterBlocks Comes n Comes
unfolding stream_bytes
part_of_lead_in layout Comes texts lead_in a b part = (
  0,
  [],
  record {
    within = omega arith;
    given_are = none_given Comes 0;
    put = prefix_first a b (lead_in_bytes layout texts lead_in) [] _ part refl;
    in_turn = λ m e. absurd (omega (arith, e));
  },
  none_later Comes,
)

pub part_of_program : (layout : DiscLayout) (Comes Later : ℕ → List ℕ → Type 0) (texts : List (List ℕ))
    (lead_in : ℕ) (a b c : Option (List ℕ))
    → Appends a b (flat_map (lead_in_block layout texts lead_in) (below lead_in))
    → (n : ℕ)
    × (packs : List (List ℕ))
    × PutsPart layout Comes (from_to b c) n packs
    × ComesAfterBlocks Comes n Later
    → (n : ℕ)
    × (packs : List (List ℕ))
    × PutsStreamPart (framing_of layout texts lead_in) Comes (from_to a c) n packs
    × ComesAfterBlocks Comes n Later
unfolding stream_bytes
part_of_program layout Comes Later texts lead_in a b c put (n, packs, puts, later) =
    let first : List ℕ = lead_in_bytes layout texts lead_in in
    let second : List ℕ = flat_map (program_block layout (symbols_from [] packs)) (below n) in (
      n,
      packs,
      record {
        within = puts.within;
        given_are = puts.given_are;
        put =
            prefix_on a b c first second [] _ put puts.put (ap (λ xs. first ++ xs) (sym (append-nil second)));
        in_turn = λ m e. between_after a b c first _ _ put (puts.in_turn m e);
      },
      later,
    )
