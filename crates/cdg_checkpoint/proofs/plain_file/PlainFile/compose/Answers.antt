use Rattle.cdg_screen.specs.Memory.{seen}
use Rattle.std.proofs.Common.{◌≡◌, [], ◌∷◌, List, ℕ, refl, sym, ap, ap₂, ◌∙◌, ◌++◌}
use Rattle.cdg_screen.specs.Standing.{Standing}
use Rattle.bit_lists.specs.Check.{check_of}
use Rattle.cdg_checkpoint.specs.Table.{Border, Across, Down, Slots, Memory, Colours, Levels, Mark, ToCome, LeadIn, Program, Bad, body_parts}
use Rattle.cdg_checkpoint.specs.Checkpoint.{Checkpoint, kept, part_bytes, with_parts}
use Rattle.cdg_checkpoint.proofs.Writing.{slots_written, body_written, file_written, two_bytes}
use Rattle.cdg_checkpoint.proofs.plain_file.PlainFile.compose.Goals as goal

pub returns : goal.returns
returns c =
    let now : Standing = (seen c.args.screen.now) in
    let slots : List ℕ = c.args.slots.now in
    let k : Checkpoint = kept c.args.counts.now slots now in
    let then : List ℕ → List ℕ → List ℕ = λ a b. a ++ b in
    let counts : c.put_counts.new.self ≡ with_parts [] k (Mark ∷ ToCome ∷ LeadIn ∷ Program ∷ Bad ∷ []) =
    c.put_counts.ensures.parts slots now
    ∙ ap (λ (l : List ℕ). with_parts l k (Mark ∷ ToCome ∷ LeadIn ∷ Program ∷ Bad ∷ [])) c.clear.ensures in
    let symbols : c.put.new.self ≡ with_parts [] k (Mark ∷ ToCome ∷ LeadIn ∷ Program ∷ Bad ∷ Slots ∷ []) =
    c.put.ensures ∙ ap₂ then counts (sym (slots_written k 168 refl c.told-slots c.fits-slots)) in
    let memory : c.put_memory.new.self
    ≡ with_parts [] k (Mark ∷ ToCome ∷ LeadIn ∷ Program ∷ Bad ∷ Slots ∷ Memory ∷ []) =
    c.put_memory.ensures.part c.args.counts.now slots
    ∙ ap (λ (l : List ℕ). l ++ part_bytes k Memory) symbols in
    let places : c.put_places.new.self
    ≡ with_parts [] k
    (Mark ∷ ToCome ∷ LeadIn ∷ Program ∷ Bad ∷ Slots ∷ Memory ∷ Border ∷ Across ∷ Down ∷ []) =
    c.put_places.ensures.parts c.args.counts.now slots
    ∙ ap (λ (l : List ℕ). with_parts l k (Border ∷ Across ∷ Down ∷ [])) memory in
    let colours : c.put_colours.new.self
    ≡ with_parts [] k
    (Mark ∷ ToCome ∷ LeadIn ∷ Program ∷ Bad ∷ Slots ∷ Memory ∷ Border ∷ Across ∷ Down ∷ Colours ∷ []) =
    c.put_colours.ensures.part c.args.counts.now slots
    ∙ ap (λ (l : List ℕ). l ++ part_bytes k Colours) places in
    let levels : c.put_levels.new.self ≡ with_parts [] k body_parts =
    c.put_levels.ensures.part c.args.counts.now slots
    ∙ ap (λ (l : List ℕ). l ++ part_bytes k Levels) colours in
    let check : c.crc16-check.result ≡ check_of c.put_levels.new.self =
    c.crc16-check.ensures ∙ ap check_of c.bytes.ensures.same in
    file_written _ _ _ k c.put-2.ensures (body_written _ k levels)
    (c.to_be_bytes.ensures ∙ sym (two_bytes _ _ (sym check)))
