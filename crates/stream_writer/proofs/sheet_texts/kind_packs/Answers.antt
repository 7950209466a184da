use Rattle.std.proofs.Common.{◌≡◌, ℕ, ◌+◌, List, length, map, ap, ◌∙◌, refl, arith}
use Rattle.bit_lists.specs.Counting.{below}
use Rattle.cdtext_packs.specs.Writing.{joined}
use Rattle.stream_writer.specs.SheetTexts.{string_at, for_each}
use Rattle.stream_writer.proofs.SheetStrings.{string_at_string, length-for_each}
use Rattle.stream_writer.proofs.TextRoom.{joined_more, none_fill, some_fill}
use Rattle.stream_writer.proofs.sheet_texts.kind_packs.Goals as goal

pub loop-place-preserved : goal.loop-place-preserved
loop-place-preserved c =
    let f : ℕ → List ℕ = string_at c.args.kind c.args.sheet.now in
    let so_far = c.loop-place.invariant in
    let string =
    string_at_string c.args.sheet.now c.args.kind c.loop-place.place c.tracks-strings.ensures.sheet
    (omega (arith, c.tracks-strings.ensures.count)) in
    record {
      joined =
          ap (λ (s : List ℕ). c.loop-place.bytes + (length s + 1)) c.string_at.ensures
          ∙ joined_more f c.loop-place.place c.loop-place.bytes so_far.joined;
      bound = omega (arith, so_far.bound, ap length c.string_at.ensures, string.size);
    }

pub returns-then-bytes-strings-clause-packs : goal.returns-then-bytes-strings-clause-packs
returns-then-bytes-strings-clause-packs c =
    let sheet = c.args.sheet.now in
    let f : ℕ → List ℕ = string_at c.args.kind sheet in
    let end : c.loop-place.place ≡ length sheet.tracks + 1 =
    omega (arith, c.tracks-strings.ensures.count) in
    let count : c.tracks-strings.result + 1 ≡ length (for_each sheet f) =
    omega (arith, c.tracks-strings.ensures.count, length-for_each sheet f (for_each sheet f) refl) in
    none_fill (for_each sheet f) (c.tracks-strings.result + 1) c.loop-place.bytes count
    (c.loop-place.invariant.joined ∙ ap (λ n. length (joined (map f (below n)))) end)
    c.if-bytes-strings.true

pub returns-clause-packs : goal.returns-clause-packs
returns-clause-packs c =
    let sheet = c.args.sheet.now in
    let f : ℕ → List ℕ = string_at c.args.kind sheet in
    let end : c.loop-place.place ≡ length sheet.tracks + 1 =
    omega (arith, c.tracks-strings.ensures.count) in
    let count : c.tracks-strings.result + 1 ≡ length (for_each sheet f) =
    omega (arith, c.tracks-strings.ensures.count, length-for_each sheet f (for_each sheet f) refl) in
    some_fill (for_each sheet f) (c.tracks-strings.result + 1) c.loop-place.bytes count
    (c.loop-place.invariant.joined ∙ ap (λ n. length (joined (map f (below n)))) end)
    c.if-bytes-strings.false
