use Rattle.std.proofs.Common.{◌≡◌, Some, None, true, false, refl, sym, ap, ◌∙◌}
use Rattle.text_lines.specs.Text.{first_word, argument_of}
use Rattle.cue_sheet.specs.CueLines.{command_named, said_by}
use Rattle.cue_sheet.specs.declared.command.SheetCommand.{SheetCommand}
use Rattle.cue_sheet.specs.declared.command.SheetCommand.TheVariants.{Remark, Catalogue, File, Title, Performer, Songwriter, Track, Flags, Isrc, Pregap, Index, Postgap}
use Rattle.cue_sheet.specs.Grammar.{CueState, is_second_file, is_placed}
use Rattle.cue_sheet.specs.Steps.{line_said, later_sheet_reason}
use Rattle.cue_sheet.proofs.Stepping.{obeyed_is}
use Rattle.cue_sheet.proofs.judge.SheetJudge.checked.Goals as goal
use Rattle.cue_sheet.proofs.judge.SheetJudge.checked.Goals.{else-self-via-then-self+else-matches, in-File, in_default-matches, else-self-via-else-self}

no_file : (s : CueState) (command : SheetCommand) → (command ≡ File → ⊥) → is_second_file s command ≡ false
no_file s File other = absurd (other refl)
no_file s Remark other = refl
no_file s Catalogue other = refl
no_file s Title other = refl
no_file s Performer other = refl
no_file s Songwriter other = refl
no_file s Track other = refl
no_file s Flags other = refl
no_file s Isrc other = refl
no_file s Pregap other = refl
no_file s Index other = refl
no_file s Postgap other = refl

first_file : (s : CueState) (command : SheetCommand) → s.has_file ≡ false → is_second_file s command ≡ false
first_file s File first = first
first_file s Remark first = refl
first_file s Catalogue first = refl
first_file s Title first = refl
first_file s Performer first = refl
first_file s Songwriter first = refl
first_file s Track first = refl
first_file s Flags first = refl
first_file s Isrc first = refl
first_file s Pregap first = refl
first_file s Index first = refl
first_file s Postgap first = refl

pub returns-in-Some-later_reason : goal.returns-in-Some-later_reason
returns-in-Some-later_reason c = λ before judges.
    let named : command_named (first_word c.args.line.now) ≡ Some c.in-Some.command =
    sym (c.in-Some.ensures ∙ ap command_named c.split_command.ensures.word) in
    let first : is_second_file before c.in-Some.command ≡ false =
    elim c.else-self.branch [
      | else-self-via-then-self+else-matches w ↦ elim w.match-matches.branch [
        | in-File w' ↦ cc
        | in_default-matches w' ↦ no_file before c.in-Some.command w'.in_default-matches.not-File
      ]
      | else-self-via-else-self w ↦ first_file before c.in-Some.command (sym judges.file ∙ w.if-self.false)
    ] in
    let here : is_placed before c.in-Some.command ≡ true =
    sym (c.is_placed.ensures before judges) ∙ c.if-not-is_placed.false in
    let says : said_by c.in-Some.command (argument_of c.args.line.now)
    ≡ Some (line_said c.in-Some-spelled.said) =
    sym (c.in-Some-spelled.ensures.line ∙ ap (said_by c.in-Some.command) c.split_command.ensures.argument) in
    obeyed_is before _ c.in-Some.command (argument_of c.args.line.now)
    (line_said c.in-Some-spelled.said) (Some c.in-Some-later_reason.why)
    named first here says (sym (c.later_reason.ensures before judges) ∙ c.in-Some-later_reason.is)

pub returns-in-None : goal.returns-in-None
returns-in-None c = λ before judges.
    let named : command_named (first_word c.args.line.now) ≡ Some c.in-Some.command =
    sym (c.in-Some.ensures ∙ ap command_named c.split_command.ensures.word) in
    let first : is_second_file before c.in-Some.command ≡ false =
    elim c.else-self.branch [
      | else-self-via-then-self+else-matches w ↦ elim w.match-matches.branch [
        | in-File w' ↦ cc
        | in_default-matches w' ↦ no_file before c.in-Some.command w'.in_default-matches.not-File
      ]
      | else-self-via-else-self w ↦ first_file before c.in-Some.command (sym judges.file ∙ w.if-self.false)
    ] in
    let here : is_placed before c.in-Some.command ≡ true =
    sym (c.is_placed.ensures before judges) ∙ c.if-not-is_placed.false in
    let says : said_by c.in-Some.command (argument_of c.args.line.now)
    ≡ Some (line_said c.in-Some-spelled.said) =
    sym (c.in-Some-spelled.ensures.line ∙ ap (said_by c.in-Some.command) c.split_command.ensures.argument) in
    let free : later_sheet_reason before (line_said c.in-Some-spelled.said) ≡ None =
    sym (c.later_reason.ensures before judges) ∙ c.in-None.is in (
      obeyed_is before _ c.in-Some.command (argument_of c.args.line.now)
          (line_said c.in-Some-spelled.said) None named first here says free,
      c.in-Some-spelled.ensures.range,
      free,
    )
