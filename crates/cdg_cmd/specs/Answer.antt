-- The status and the output of a command.
use Rattle.std.specs.Prelude.{IfErr, IfSome, ℕ, ◌≡◌, ◌⊎◌, ⊤, List, length, Result}
use Rattle.std.specs.Io.KnownBytes.{Appends, IsAtEnd}
use Rattle.cdg_io.specs.Moves.{AppendsPrefix}
use Rattle.cdg_io.specs.Streams.{Streams, WritesAtEnd}
use Rattle.cdg_screen.specs.Standing.{Standing}
use Rattle.cdg_screen.specs.Texts.{pixmap, state_text}
use Rattle.raw_subcode.specs.Channels.{unit_size}
use Rattle.raw_subcode.specs.declared.form.Form.{Form}
use Rattle.stream_stages.specs.Calls.{IsAnsweredBy, IsListStop, IsMomentStop, IsStreamStop, at_end, in_turn}
use Rattle.stream_stages.specs.Convert.{IsConverted}
use Rattle.stream_stages.specs.Check.{IsCheckListed}
use Rattle.stream_stages.specs.Screen.{IsShownBy, Moment, Shows, moment}
use Rattle.stream_stages.specs.TextListing.{GivesTexts, IsListedBy, ListsTexts}
use Rattle.stream_stages.specs.declared.played.Played.{Played}
use Rattle.stream_stages.specs.declared.played.PlayStop.{PlayStop}
use Rattle.q_channel.specs.QList.{IsQListed}
use Rattle.q_channel.specs.PlanarStream.{IsBlockStream, IsPlanarStream}
use Rattle.cdg_cmd.specs.Authors.{AuthorsWith}
use Rattle.cdg_io.specs.Change.{Bytes, Change}
use Rattle.cdg_cmd.specs.Call.{Call, through}
use Rattle.cdg_cmd.specs.Checkpoints.{ResumesWith, SavesWith}
use Rattle.cdg_cmd.specs.Endings.{EndsWith}
use Rattle.cdg_cmd.specs.Merges.{MergesWith}
use Rattle.cdg_cmd.specs.Presses.{PressesWith}
use Rattle.cdg_cmd.specs.Thinned.{ThinsWith}
use Rattle.cdg_cmd.specs.Turns.{IsTurned, TurnsWith}
use Rattle.cdg_workload.specs.Scratches.{IsScratched}
use Rattle.cdg_workload.specs.Script.{generated_script}
use Rattle.stream_trial.specs.Trial.{IsTrial}
use Rattle.cdg_cmd.specs.Stops.{play_status}
use Rattle.cdg_cmd.specs.declared.command.Command.{Command}
use Rattle.cdg_cmd.specs.declared.command.Command.TheVariants.{Convert, Screen, State, Check, Q, Text, Author, Planar, Raw, Scratch, Gen, Trial, Merge, Thin, Press, Save, Resume}
use Rattle.cdg_cmd.specs.declared.status.Status.{Status}
use Rattle.cdg_cmd.specs.declared.status.Status.TheVariants.{Done, ReadFault, WriteFault, NoMemory}

-- For each input, playing a stream never results in a moment after the end or in faulty texts. If the input reveals its
-- bytes, the result is the exact one, or a fault.
abbrev pub IsPlayAnswer : Form → Bytes → Result Played PlayStop → Type 0
IsPlayAnswer form input answer = IfErr answer IsStreamStop
    × IfSome input (λ all. IsAnsweredBy answer (unit_size form) (length all))

-- A stream of blocks was played, and the text of its blocks was written as they were read.
abbrev pub PlaysAsRead : (List ℕ → List ℕ → ℕ → Type 0) → Form → ℕ → Call Bytes → Status → Type 0
PlaysAsRead writes form lead_in call status =
    EndsWith play_status (Streams (in_turn writes form lead_in) (through call))
    (IsPlayAnswer form call.first.before) status

-- A stream of blocks was played, and the text of its blocks was written after all of them were read.
abbrev pub PlaysWhole : (List ℕ → List ℕ → ℕ → Type 0) → Form → ℕ → Call Bytes → Status → Type 0
PlaysWhole writes form lead_in call status =
    EndsWith play_status (WritesAtEnd (at_end writes form lead_in) (through call))
    (IsPlayAnswer form call.first.before) status

-- Showing a moment may stop since the moment is after the end. If the input reveals its bytes, the result is the exact one,
-- or a fault.
abbrev pub IsMomentAnswer : Moment → Bytes → Result Played PlayStop → Type 0
IsMomentAnswer at input answer =
    IfErr answer IsMomentStop
    × IfSome input (λ all. IsShownBy answer at.lead_in at.time (unit_size at.form) (length all))

-- The screen at a moment of a stream was written; `write` makes the text from the screen.
abbrev pub ShowsMoment : (Standing → List ℕ) → Moment → Call Bytes → Status → Type 0
ShowsMoment write at call status =
    EndsWith play_status (Shows write at (through call)) (IsMomentAnswer at call.first.before) status

-- Listing texts may stop since the texts are faulty. If the input reveals its bytes, the result is the exact one, or a
-- fault.
abbrev pub IsListAnswer : Form → ℕ → Bytes → Result Played PlayStop → Type 0
IsListAnswer form lead_in input answer = IfErr answer IsListStop
    × IfSome input (λ all. IsListedBy answer form lead_in all)

-- The texts of the lead-in of a stream were listed.
abbrev pub ListsLeadIn : Form → ℕ → Call Bytes → Status → Type 0
ListsLeadIn form lead_in call status =
    EndsWith play_status (ListsTexts form lead_in (through call))
    (IsListAnswer form lead_in call.first.before) status

-- A text was written, or a prefix of it if a write failed.
abbrev pub Generates : List ℕ → Change Bytes → Status → Type 0
Generates text out Done = Appends out.before out.after text
Generates text out WriteFault = AppendsPrefix out.before out.after text
Generates text out status = ⊥

-- The text of a trial was written, or a prefix of it if a write failed.
abbrev pub Tries : ℕ → ℕ → Change Bytes → Status → Type 0
Tries seed pictures out status = (text : List ℕ) × IsTrial seed pictures text × Generates text out status

-- This is the effect of a command on its two inputs and its output if no allocation failed.
abbrev pub Does : Command → Call Bytes → Status → Type 0
Does (Convert lead_in form) call status = PlaysAsRead (IsConverted form lead_in) form lead_in call status
Does (Screen lead_in form at) call status = ShowsMoment pixmap (moment form lead_in at) call status
Does (State lead_in form at) call status = ShowsMoment state_text (moment form lead_in at) call status
Does (Check lead_in form) call status = PlaysWhole (IsCheckListed form lead_in) form lead_in call status
Does (Q lead_in form) call status = PlaysAsRead (IsQListed form) form lead_in call status
Does (Text lead_in form) call status = ListsLeadIn form lead_in call status
Does (Author lead_in length) call status = AuthorsWith lead_in length call status
Does Planar call status = TurnsWith (IsTurned IsPlanarStream) call status
Does Raw call status = TurnsWith (IsTurned IsBlockStream) call status
Does (Scratch lead_in seed) call status = TurnsWith (IsScratched lead_in seed) call status
Does (Gen seed pictures) call status = Generates (generated_script seed pictures) call.out status
Does (Trial seed pictures) call status = Tries seed pictures call.out status
Does (Merge lead_in) call status = MergesWith lead_in call status
Does Thin call status = ThinsWith call status
Does (Press lead_in length) call status = PressesWith lead_in length call status
Does (Save lead_in) call status = SavesWith lead_in call status
Does (Resume at) call status = ResumesWith at call status

-- The facts if an allocation failed. For `author` and `press` they are part of the ends of these commands. `text`
-- read nothing, or it read a whole input of not too many whole blocks, whose lead-in holds texts. The other commands
-- allocate before they read.
abbrev pub OutOfMemory : Command → Call Bytes → Type 0
OutOfMemory (Text lead_in form) call = (call.first.after ≡ call.first.before)
    ⊎ (IsAtEnd call.first.after × IfSome call.first.before (GivesTexts form lead_in))
OutOfMemory (Author lead_in length) call = AuthorsWith lead_in length call NoMemory
OutOfMemory (Press lead_in length) call = PressesWith lead_in length call NoMemory
OutOfMemory command call = ⊤

-- The status is `Done` and the statement `holds` is true; or a read or a write failed, or memory ran out.
abbrev pub OnDone : Type 0 → Status → Type 0
OnDone holds Done = holds
OnDone holds (ReadFault which) = ⊤
OnDone holds WriteFault = ⊤
OnDone holds NoMemory = ⊤
OnDone holds _ = ⊥

-- The status is `Done` and exactly the bytes `text` were written; or a read or a write failed.
abbrev pub GivesBack : List ℕ → Change Bytes → Status → Type 0
GivesBack text out Done = Appends out.before out.after text
GivesBack text out (ReadFault which) = ⊤
GivesBack text out WriteFault = ⊤
GivesBack text out _ = ⊥

-- This text was written, unless a read, a write or an allocation failed.
abbrev pub GivesIfFound : List ℕ → Change Bytes → Status → Type 0
GivesIfFound text out status = OnDone (Appends out.before out.after text) status
