-- The sheet of a trial.
use Rattle.std.specs.Prelude.{ℕ, List, [], ◌∷◌, codes, None}
use Rattle.cue_sheet.specs.CueSheet.{CueSheet}

-- the text of the sheet: a file and one track, from the beginning on
abbrev pub trial_text : List ℕ
trial_text = codes "FILE \"trial\" WAVE\nTRACK 01 AUDIO\nINDEX 01 00:00:00\n"

-- the sheet: one track without a name
abbrev pub trial_sheet : CueSheet
trial_sheet = record {
  catalogue = None;
  title = [];
  performer = [];
  songwriter = [];
  tracks = record {
    number = 1;
    control = 0;
    isrc = None;
    pregap = 0;
    postgap = 0;
    indices = (1, 0) ∷ [];
    title = [];
    performer = [];
    songwriter = [];
  } ∷ [];
}
