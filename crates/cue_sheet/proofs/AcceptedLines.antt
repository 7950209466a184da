-- The lines of a cue sheet, one after another: what they say is valid, and consists of bytes of the text.
use Rattle.std.proofs.Common.{◌≡◌, ℕ, zero, suc, ◌+◌, ◌≤◌, Bool, true, false, not, if◌then◌else◌, List, [], ◌∷◌, ◌++◌, length, Option, Some, None, All, refl, ap, sym, subst, ◌∙◌, arith}
use Rattle.std.specs.Prelude.{is_some, unwrap_or, Result, Ok, Err}
use Rattle.std.proofs.lemmas.Bool.{cond_both}
use Rattle.std.proofs.lemmas.List.Elements.{All-append}
use Rattle.text_lines.specs.Text.{trimmed, first_word, argument_of, lines_of, is_some_bytes}
use Rattle.text_lines.specs.Reading.{at_line, read_on}
use Rattle.text_lines.proofs.ReadOn.{read_on-taken, read_on-refused, read_on-end}
use Rattle.cue_sheet.specs.CueSheet.{CueTrack, CueSheet, CueSection, track_from, sheet_from, IsSheet}
use Rattle.cue_sheet.specs.CueLines.{CueLine, SaysNothing, SaysCatalogue, SaysFile, SaysTitle, SaysPerformer, SaysSongwriter, SaysTrack, SaysFlags, SaysIsrc, SaysPregap, SaysIndex, SaysPostgap, command_named}
use Rattle.cue_sheet.specs.Grammar.{CueState, no_section, nothing_said, track_with, has_index_one, obeyed, sheet_step, ended, read_cue}
use Rattle.cue_sheet.specs.Steps.{after, unless, end_reason, sheet_said}
use Rattle.cue_sheet.specs.declared.fault.CueWhy.{CueWhy}
use Rattle.cue_sheet.specs.declared.fault.CueWhy.TheVariants.{NoFile, NoTrack, NoIndex}
use Rattle.cue_sheet.proofs.Stepping.{ended_is}
use Rattle.cue_sheet.proofs.Good.{IsGood, good_start, good_more, good_sheet}
use Rattle.cue_sheet.proofs.LineBytes.{Fits, EachFits, fits_trimmed, fits_argument, lines_fit}
use Rattle.cue_sheet.proofs.SaidRanges.{SaysBytes, command_is}

-- a sheet that is not refused at its end is valid
sheet_ends : (s : CueState) (o : Option ℕ) (file one : Bool) → s.number ≡ o → has_index_one s.section ≡ one
    → IsGood s
    → (if not file
    then Some NoFile
    else (if not (is_some o) then Some NoTrack else (if one then None else Some NoIndex)))
    ≡ None
    → IsSheet (sheet_from s.album (s.tracks ++ track_with o s.section))
sheet_ends s None false one number is good e = cc
sheet_ends s None true one number is good e = cc
sheet_ends s (Some n) false one number is good e = cc
sheet_ends s (Some n) true false number is good e = cc
sheet_ends s (Some n) true true number is good e = good_sheet s n good number is

module _ (P : ℕ → Type 0) where
  pub record SectionHas (s : CueSection) : Type 0 where
    pub title : All P (unwrap_or s.title [])
    pub performer : All P (unwrap_or s.performer [])
    pub songwriter : All P (unwrap_or s.songwriter [])

  pub record TrackHas (t : CueTrack) : Type 0 where
    pub title : All P t.title
    pub performer : All P t.performer
    pub songwriter : All P t.songwriter

  pub record SheetHas (s : CueSheet) : Type 0 where
    pub title : All P s.title
    pub performer : All P s.performer
    pub songwriter : All P s.songwriter
    pub tracks : All TrackHas s.tracks

  record StateHas (s : CueState) : Type 0 where
    section : SectionHas s.section
    album : SectionHas s.album
    tracks : All TrackHas s.tracks

  nothing : {X : Type 0} → (Q : X → Type 0) → All Q []
  nothing Q = λ k d less. absurd (omega arith)

  one : {X : Type 0} → (Q : X → Type 0) (x : X) → Q x → All Q (x ∷ [])
  one Q x is zero d less = is
  one Q x is (suc k) d less = absurd (omega arith)

  empty : SectionHas (no_section)
  empty = record { title = nothing P; performer = nothing P; songwriter = nothing P }

  start : StateHas (nothing_said)
  start = record { section = empty; album = empty; tracks = nothing TrackHas }

  last_track : (o : Option ℕ) (s : CueSection) → SectionHas s → All TrackHas (track_with o s)
  last_track None s has = nothing TrackHas
  last_track (Some n) s has =
      one TrackHas (track_from n s)
      (record { title = has.title; performer = has.performer; songwriter = has.songwriter })

  more : (s : CueState) (line : CueLine) → StateHas s → SaysBytes P line → StateHas (after s line)
  more s SaysNothing has says = has
  more s (SaysCatalogue t) has says = record {
    section = record {
      title = has.section.title;
      performer = has.section.performer;
      songwriter = has.section.songwriter;
    };
    album = has.album;
    tracks = has.tracks;
  }
  more s SaysFile has says = record { section = has.section; album = has.album; tracks = has.tracks }
  more s (SaysTitle t) has says = record {
    section = record { title = says; performer = has.section.performer; songwriter = has.section.songwriter };
    album = has.album;
    tracks = has.tracks;
  }
  more s (SaysPerformer t) has says = record {
    section = record { title = has.section.title; performer = says; songwriter = has.section.songwriter };
    album = has.album;
    tracks = has.tracks;
  }
  more s (SaysSongwriter t) has says = record {
    section = record { title = has.section.title; performer = has.section.performer; songwriter = says };
    album = has.album;
    tracks = has.tracks;
  }
  more s (SaysTrack number audio) has says = record {
    section = empty;
    album = cond_both (is_some s.number) s.album s.section SectionHas (λ _. has.album) (λ _. has.section);
    tracks =
        All-append TrackHas s.tracks (track_with s.number s.section) has.tracks
        (last_track s.number s.section has.section);
  }
  more s (SaysFlags n) has says = record {
    section = record {
      title = has.section.title;
      performer = has.section.performer;
      songwriter = has.section.songwriter;
    };
    album = has.album;
    tracks = has.tracks;
  }
  more s (SaysIsrc t) has says = record {
    section = record {
      title = has.section.title;
      performer = has.section.performer;
      songwriter = has.section.songwriter;
    };
    album = has.album;
    tracks = has.tracks;
  }
  more s (SaysPregap n) has says = record {
    section = record {
      title = has.section.title;
      performer = has.section.performer;
      songwriter = has.section.songwriter;
    };
    album = has.album;
    tracks = has.tracks;
  }
  more s (SaysIndex number time) has says = record {
    section = record {
      title = has.section.title;
      performer = has.section.performer;
      songwriter = has.section.songwriter;
    };
    album = has.album;
    tracks = has.tracks;
  }
  more s (SaysPostgap n) has says = record {
    section = record {
      title = has.section.title;
      performer = has.section.performer;
      songwriter = has.section.songwriter;
    };
    album = has.album;
    tracks = has.tracks;
  }

  abbrev IsAccepted : CueSheet → Type 0
  IsAccepted sheet = IsSheet sheet × SheetHas sheet

  finish : (s : CueState) (number : ℕ) (sheet : CueSheet) (why : Option CueWhy) → end_reason s ≡ why
      → IsGood s → StateHas s → at_line number (unless (sheet_said s) why) ≡ Ok sheet
      → IsAccepted sheet
  finish s number sheet (Some why) is good has e = cc
  finish s number sheet None is good has e =
      let same : sheet_said s ≡ sheet = cc in
      subst IsAccepted same (
        sheet_ends s s.number s.has_file (has_index_one s.section) refl refl good is,
        record {
          title = has.album.title;
          performer = has.album.performer;
          songwriter = has.album.songwriter;
          tracks =
              All-append TrackHas s.tracks (track_with s.number s.section) has.tracks
              (last_track s.number s.section has.section);
        },
      )

  abbrev Reads : List (List ℕ) → CueSheet → Type 0
  Reads rest sheet = (number : ℕ) (s : CueState) → IsGood s → StateHas s
      → read_on sheet_step ended number s rest ≡ Ok sheet
      → IsAccepted sheet

  step_keeps : (s : CueState) (some : Bool) (word argument : List ℕ) (next : CueState)
      → Fits P 67108864 argument → IsGood s → StateHas s
      → (if some then obeyed s (command_named word) argument else Ok s) ≡ Ok next
      → IsGood next × StateHas next
  step_keeps s true word argument next fits good has e =
      let takes = command_is P s word argument next fits e in (
        subst IsGood (sym takes.is) (good_more s takes.line good takes.said.0 takes.free),
        subst StateHas (sym takes.is) (more s takes.line has takes.said.1),
      )
  step_keeps s false word argument next fits good has e = let same : s ≡ next = cc in
      (subst IsGood same good, subst StateHas same has)

  never : (fault : ℕ × CueWhy) (sheet : CueSheet) → Err fault ≡ Ok sheet → IsAccepted sheet
  never fault sheet e = cc

  line_read : (number : ℕ) (s : CueState) (line : List ℕ) (rest : List (List ℕ)) (sheet : CueSheet)
      (answer : Result CueState CueWhy)
      → sheet_step s line ≡ answer → ((next : CueState) → answer ≡ Ok next → IsGood next × StateHas next)
      → Reads rest sheet
      → read_on sheet_step ended number s (line ∷ rest) ≡ Ok sheet → IsAccepted sheet
  line_read number s line rest sheet (Ok next) is keeps reads e =
      let kept = keeps next refl in
      reads (number + 1) next kept.0 kept.1
      (sym (read_on-taken sheet_step ended number s next line rest is) ∙ e)
  line_read number s line rest sheet (Err why) is keeps reads e =
      never (number, why) sheet (sym (read_on-refused sheet_step ended number s why line rest is) ∙ e)

  lines_read : (lines : List (List ℕ)) (sheet : CueSheet) → EachFits P 67108864 lines → Reads lines sheet
  lines_read [] sheet fits number s good has e =
      finish s number sheet (end_reason s) refl good has
      (ap (at_line number) (sym (ended_is s)) ∙ (sym (read_on-end sheet_step ended number s) ∙ e))
  lines_read (line ∷ rest) sheet fits number s good has e =
      line_read number s line rest sheet (sheet_step s line) refl
      (λ next. step_keeps s (is_some_bytes (trimmed line)) (first_word (trimmed line))
      (argument_of (trimmed line)) next
      (fits_argument P 67108864 (trimmed line) (fits_trimmed P 67108864 line fits.0)) good has)
      (lines_read rest sheet fits.1) e

  pub cue_read : (text : List ℕ) (sheet : CueSheet) → All P text → length text ≤ 67108864
      → read_cue text ≡ Ok sheet
      → IsSheet sheet × SheetHas sheet
  cue_read text sheet bytes short e =
      lines_read (lines_of text) sheet (lines_fit P 67108864 text (record { bytes = bytes; size = short })) 1
      nothing_said good_start start e
