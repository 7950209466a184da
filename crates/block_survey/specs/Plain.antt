-- Frames of the Q channel with a number for their kind.
use Rattle.std.specs.Prelude.{◌≡◌, ◌==◌, if◌then◌else◌, ℕ, [], ◌∷◌, ◌++◌, ◌-◌, take, replicate, Option, Some, None, MatchOption, IfSome}
use Rattle.disc_time.specs.Fields.{catalogue_digits, isrc_characters}
use Rattle.q_channel.specs.QFrame.{IsValid}
use Rattle.q_channel.specs.Sizes.{rest_bytes}
use Rattle.q_channel.specs.declared.frame.QFrame.{QFrame}
use Rattle.q_channel.specs.declared.frame.QFrame.TheVariants.{Program, Toc, Catalogue, Isrc, Other}
use Rattle.q_channel.specs.declared.frame.TocPoint.TheVariants.{Track, First, Last, LeadOut}
use Rattle.block_survey.specs.declared.plain.PlainFrame.{PlainFrame}

-- the frame of a plain frame, by the number of its kind; fields that its kind does not use are ignored
abbrev pub frame_of_plain : PlainFrame → Option QFrame
frame_of_plain p =
    if p.kind == 0 then Some (Program p.control p.track p.index p.time p.absolute)
    else if p.kind == 1 then Some (Toc p.control (Track p.track p.absolute) p.time)
    else if p.kind == 2 then Some (Toc p.control (First p.track p.disc) p.time)
    else if p.kind == 3 then Some (Toc p.control (Last p.track) p.time)
    else if p.kind == 4 then Some (Toc p.control (LeadOut p.absolute) p.time)
    else if p.kind == 5 then Some (Catalogue p.control p.text p.frame)
    else if p.kind == 6 then Some (Isrc p.control (take isrc_characters p.text) p.frame)
    else if p.kind == 7 then Some (Other p.control p.mode (take rest_bytes p.text))
    else None

-- a plain frame of a kind, with zeros in all other fields
abbrev pub plain_kind : ℕ → ℕ → PlainFrame
plain_kind kind control = record {
  kind = kind;
  time = 0;
  absolute = 0;
  control = control;
  mode = 0;
  track = 0;
  index = 0;
  disc = 0;
  frame = 0;
  text = replicate catalogue_digits 0;
}

-- the plain frame of a frame; the fields that its kind does not use are zero
abbrev pub plain_of : QFrame → PlainFrame
plain_of (Program control track index time absolute) = record (plain_kind 0 control) {
  track = track;
  index = index;
  time = time;
  absolute = absolute;
}
plain_of (Toc control (Track number start) time) = record (plain_kind 1 control) {
  track = number;
  absolute = start;
  time = time;
}
plain_of (Toc control (First track kind) time) = record (plain_kind 2 control) {
  track = track;
  disc = kind;
  time = time;
}
plain_of (Toc control (Last track) time) = record (plain_kind 3 control) { track = track; time = time }
plain_of (Toc control (LeadOut start) time) = record (plain_kind 4 control) { absolute = start; time = time }
plain_of (Catalogue control digits frame) = record (plain_kind 5 control) { text = digits; frame = frame }
plain_of (Isrc control code frame) = record (plain_kind 6 control) { text = code ++ 0 ∷ []; frame = frame }
plain_of (Other control adr rest) = record (plain_kind 7 control) {
  mode = adr;
  text = rest ++ replicate (catalogue_digits - rest_bytes) 0;
}

-- The result is this frame if it is valid, or else None.
abbrev pub IsWhereValid : Option QFrame → QFrame → Type 0
IsWhereValid result frame = MatchOption result (¬ IsValid frame) (λ found. (found ≡ frame) × IsValid frame)

-- The result is the frame of a plain frame if it is valid, or else None.
abbrev pub IsValidOf : Option QFrame → PlainFrame → Type 0
IsValidOf result plain = MatchOption result (IfSome (frame_of_plain plain) (λ frame. ¬ IsValid frame))
    (λ found. (frame_of_plain plain ≡ Some found) × IsValid found)
