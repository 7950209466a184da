use Rattle.std.proofs.Common.{◌≡◌, ℕ, ◌+◌, ◌∙◌, List, ap, length, map, subst, sym, All, arith}
use Rattle.bit_lists.specs.Counting.{below}
use Rattle.std.proofs.lemmas.List.FromFn.{length-map-range_with_len}
use Rattle.std.proofs.lemmas.List.Elements.{All-push}
use Rattle.cdtext_packs.specs.Texts.{IsString}
use Rattle.stream_writer.specs.SheetTexts.{string_at}
use Rattle.stream_writer.proofs.SheetStrings.{string_at_string, pushed_string}
use Rattle.stream_writer.proofs.sheet_texts.sheet_strings.Goals as goal

pub loop-place-preserved : goal.loop-place-preserved
loop-place-preserved c =
    let f : ℕ → List ℕ = string_at c.args.kind c.args.sheet.now in
    let s = c.string_at.result.now in
    let string : IsString s =
    subst IsString (sym c.string_at.ensures) (string_at_string c.args.sheet.now c.args.kind c.loop-place.place
    c.tracks-place-end.ensures.sheet (omega (arith, c.tracks-place-end.ensures.count))) in
    record {
      strings =
          c.in_ok-push_copy.ensures
          ∙ pushed_string c.loop-place.strings f c.loop-place.place s c.loop-place.invariant.strings
          c.string_at.ensures;
      each =
          subst (All IsString) (sym c.in_ok-push_copy.ensures)
          (All-push IsString c.loop-place.strings s c.loop-place.invariant.each string);
    }

pub returns-clause-strings : goal.returns-clause-strings
returns-clause-strings c =
    let end : c.loop-place.place ≡ length c.args.sheet.now.tracks + 1 =
    omega (arith, c.tracks-place-end.ensures.count) in
    record {
      strings_are =
          subst (λ n. c.loop-place.strings ≡ map (string_at c.args.kind c.args.sheet.now) (below n)) end
          c.loop-place.invariant.strings;
      count_is =
          ap length c.loop-place.invariant.strings
          ∙ length-map-range_with_len (string_at c.args.kind c.args.sheet.now) 0 c.loop-place.place
          ∙ end;
      each = c.loop-place.invariant.each;
    }
