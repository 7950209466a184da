use Rattle.std.proofs.Common.{◌≡◌, ℕ, ◌+◌, inl, inr, arith}
use Rattle.cue_sheet.specs.CueSheet.{CueSheet, text_at}
use Rattle.cue_sheet.specs.declared.fault.CueText.TheVariants.{Title, Performer, Songwriter}
use Rattle.cdtext_packs.specs.Writing.{pack_count}
use Rattle.stream_writer.specs.SheetTexts.{code_at, for_each}
use Rattle.stream_writer.proofs.TextRoom.{packs_counted}
use Rattle.stream_writer.proofs.sheet_texts.count_text_packs.Goals as goal

abbrev sum : CueSheet → ℕ
sum sheet = pack_count (for_each sheet (text_at Title sheet))
    + pack_count (for_each sheet (text_at Performer sheet))
    + pack_count (for_each sheet (text_at Songwriter sheet)) + pack_count (for_each sheet (code_at sheet))

pub returns-then-filled-eq0 : goal.returns-then-filled-eq0
returns-then-filled-eq0 c =
    let all : ℕ =
    c.kind_packs.result + c.kind_packs-2.result + c.kind_packs-3.result + c.kind_packs-4.result in
    let is : all ≡ sum c.args.sheet.now =
    omega (
      arith,
      c.kind_packs.ensures.packs,
      c.kind_packs-2.ensures.packs,
      c.kind_packs-3.ensures.packs,
      c.kind_packs-4.ensures.packs,
    ) in
    let counted = packs_counted c.args.sheet.now all is in
    elim counted [ inl none ↦ omega (arith, none.1) | inr some ↦ omega (arith, some.0, c.if-filled-eq0.true) ]

pub returns : goal.returns
returns c =
    let all : ℕ =
    c.kind_packs.result + c.kind_packs-2.result + c.kind_packs-3.result + c.kind_packs-4.result in
    let is : all ≡ sum c.args.sheet.now =
    omega (
      arith,
      c.kind_packs.ensures.packs,
      c.kind_packs-2.ensures.packs,
      c.kind_packs-3.ensures.packs,
      c.kind_packs-4.ensures.packs,
    ) in
    let counted = packs_counted c.args.sheet.now all is in
    elim counted [ inl none ↦ absurd (c.if-filled-eq0.false none.0) | inr some ↦ omega (arith, some.1) ]
