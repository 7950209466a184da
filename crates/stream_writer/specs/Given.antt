-- The packs of a source, and the bytes written from them. `Comes n pack` says that pack n, from 0, may be this pack.
use Rattle.std.specs.Prelude.{◌≡◌, ℕ, ◌+◌, ◌*◌, ◌<◌, ◌≤◌, List, [], length, flat_map, replicate, ◌++◌, Some, slice_index_or, All}
use Rattle.std.specs.List.{concat}
use Rattle.std.specs.Io.KnownBytes.{Appends}
use Rattle.bit_lists.specs.Counting.{below}
use Rattle.cdg_io.specs.Change.{Bytes, Change}
use Rattle.cdg_io.specs.Run.{run_gives, run_state}
use Rattle.cdg_io.specs.Moves.{AppendsBetween, AppendsPrefix}
use Rattle.rw_code.specs.Packs.{idle_pack}
use Rattle.raw_subcode.specs.Channels.{program_symbols}
use Rattle.raw_subcode.specs.declared.form.Form.TheVariants.{Raw}
use Rattle.rw_code.specs.Codeword.{IsCodeword}
use Rattle.raw_subcode.specs.Sizes.{slots_a_block}
use Rattle.rw_interleave.specs.Interleave.{packs_kept_back, whole_packs, Carries}
use Rattle.rw_interleave.specs.Spreading.{spread_next, spread_gives}
use Rattle.toc_model.specs.Places.{DiscLayout}
use Rattle.toc_model.specs.Layout.{p_bit, program_frame}
use Rattle.stream_writer.specs.Blocks.{program_block, symbols_at, stream_bytes, IsBuilt}
use Rattle.stream_writer.specs.Framing.{HasFraming}

-- the symbols of all slots over which packs are spread, after these previous packs
abbrev pub symbols_from : List (List ℕ) → List (List ℕ) → List ℕ
symbols_from before packs = concat (run_gives spread_next spread_gives before packs)

-- The packs of `Later` are those of `Comes` after the first `many` packs.
abbrev pub ComesLater : (ℕ → List ℕ → Type 0) → ℕ → (ℕ → List ℕ → Type 0) → Type 0
ComesLater Comes many Later = (n : ℕ) (pack : List ℕ) → Later n pack → Comes (many + n) pack

-- Exactly the packs of the first `blocks` blocks were read.
abbrev pub ComesAfterBlocks : (ℕ → List ℕ → Type 0) → ℕ → (ℕ → List ℕ → Type 0) → Type 0
ComesAfterBlocks Comes blocks Later = ComesLater Comes (slots_a_block * blocks) Later

-- These are the next `many` packs, from number `first` on.
pub record AreGiven (Comes : ℕ → List ℕ → Type 0) (first many : ℕ) (packs : List (List ℕ)) : Type 0 where
  pub count : length packs ≡ many
  pub each : (k : ℕ) → k < many → Comes (first + k) (slice_index_or packs k [])
  pub codewords : All IsCodeword packs

-- The slot is written for one more pack. `before` and `after` are the unfinished packs of the spreader.
pub record TakesPack (Comes : ℕ → List ℕ → Type 0) (before after : List (List ℕ))
    (slot pack : List ℕ) : Type 0 where
  pub comes : Comes 0 pack
  pub codeword : IsCodeword pack
  pub after_is : after ≡ spread_next before pack
  pub slot_is : Some slot ≡ spread_gives before pack

-- The last `quiet` of the unfinished packs of the spreader are idle.
pub record AreQuiet (packs : List (List ℕ)) (quiet : ℕ) : Type 0 where
  pub few : length packs ≤ packs_kept_back
  pub before : List (List ℕ)
  pub idle : packs ≡ before ++ replicate quiet idle_pack

-- The symbols are written for these packs. `waiting` has the unfinished packs of the spreader before and after them.
pub record TakesPacks (Comes : ℕ → List ℕ → Type 0) (many : ℕ) (waiting : Change (List (List ℕ)))
    (symbols : List ℕ) (packs : List (List ℕ)) : Type 0 where
  pub given_are : AreGiven Comes 0 many packs
  pub symbols_are : symbols ≡ symbols_from waiting.before packs
  pub after_is : waiting.after ≡ run_state spread_next waiting.before packs

-- Program blocks with these packs were written.
pub record PutsProgram (layout : DiscLayout) (Comes : ℕ → List ℕ → Type 0) (blocks : ℕ)
    (held : Change Bytes) (packs : List (List ℕ)) : Type 0 where
  pub given_are : AreGiven Comes 0 (slots_a_block * blocks) packs
  pub put : Appends held.before held.after
      (flat_map (program_block layout (symbols_from [] packs)) (below blocks))
  pub built : (b : ℕ) → b < blocks
      → IsBuilt (program_block layout (symbols_from [] packs) b) (p_bit layout b) (program_frame layout b)
      (symbols_at (symbols_from [] packs) b)

-- A prefix of the first program blocks with these packs was written. It ends inside the last of them.
pub record PutsPart (layout : DiscLayout) (Comes : ℕ → List ℕ → Type 0) (held : Change Bytes) (n : ℕ)
    (packs : List (List ℕ)) : Type 0 where
  pub within : n ≤ layout.blocks
  pub given_are : AreGiven Comes 0 (slots_a_block * n) packs
  pub put : AppendsPrefix held.before held.after
      (flat_map (program_block layout (symbols_from [] packs)) (below n))
  -- all earlier blocks were written
  pub in_turn : (m : ℕ) → n ≡ m + 1 → AppendsBetween held.before held.after
      (flat_map (program_block layout (symbols_from [] packs)) (below m))
      (flat_map (program_block layout (symbols_from [] packs)) (below n))

-- the framing of a stream: the places of a disc, and the text packs and blocks of its lead-in
pub record Framing : Type 0 where
  pub layout : DiscLayout
  pub texts : List (List ℕ)
  pub lead_in : ℕ

-- the framing with these parts
abbrev pub framing_of : DiscLayout → List (List ℕ) → ℕ → Framing
framing_of layout texts lead_in = record { layout = layout; texts = texts; lead_in = lead_in }

-- the bytes of the lead-in and of the first n blocks of the program, with these packs
abbrev pub framed_bytes : Framing → ℕ → List (List ℕ) → List ℕ
framed_bytes around n packs = stream_bytes around.layout around.texts around.lead_in n (symbols_from [] packs)

-- A stream with these packs was written.
pub record PutsStream (around : Framing) (Comes : ℕ → List ℕ → Type 0) (held : Change Bytes)
    (packs : List (List ℕ)) : Type 0 where
  pub given_are : AreGiven Comes 0 (slots_a_block * around.layout.blocks) packs
  pub put : Appends held.before held.after (framed_bytes around around.layout.blocks packs)
  pub framing : HasFraming around.layout around.texts around.lead_in
      (framed_bytes around around.layout.blocks packs)
  pub symbols_are : program_symbols Raw (framed_bytes around around.layout.blocks packs) around.lead_in
      ≡ symbols_from [] packs

-- A prefix of the lead-in and the first program blocks with these packs was written. It ends inside the last of them.
pub record PutsStreamPart (around : Framing) (Comes : ℕ → List ℕ → Type 0) (held : Change Bytes) (n : ℕ)
    (packs : List (List ℕ)) : Type 0 where
  pub within : n ≤ around.layout.blocks
  pub given_are : AreGiven Comes 0 (slots_a_block * n) packs
  pub put : AppendsPrefix held.before held.after (framed_bytes around n packs)
  -- the whole lead-in and all earlier blocks were written
  pub in_turn : (m : ℕ) → n ≡ m + 1
      → AppendsBetween held.before held.after (framed_bytes around m packs) (framed_bytes around n packs)

-- The bytes have this framing, and their program carries these packs of the source.
pub record CarriesComing (around : Framing) (Comes : ℕ → List ℕ → Type 0) (bytes : List ℕ)
    (packs : List (List ℕ)) : Type 0 where
  pub given_are : AreGiven Comes 0 (whole_packs around.layout.blocks) packs
  pub framing : HasFraming around.layout around.texts around.lead_in bytes
  pub carries : Carries around.layout.blocks (program_symbols Raw bytes around.lead_in) packs
