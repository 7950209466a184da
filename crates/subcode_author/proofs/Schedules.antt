-- The packs that were written are a schedule.
use Rattle.std.proofs.Common.{◌≡◌, ℕ, ◌+◌, ◌*◌, ◌<◌, ◌≤◌, List, [], length, get_or, refl, inr, subst, arith}
use Rattle.std.specs.declared.option.Option.{Option}
use Rattle.std.specs.Io.KnownBytes.{Appends}
use Rattle.rw_interleave.specs.Interleave.{whole_packs}
use Rattle.cue_sheet.specs.CueSheet.{CueSheet}
use Rattle.toc_model.specs.Places.{DiscLayout, layout_of, program_blocks}
use Rattle.picture_script.specs.Script.{Drawing, pictures, ready_time, hold_time, picture_pixel}
use Rattle.pack_schedule.specs.Schedule.{start_of, IsInTime, IsSchedule}
use Rattle.pack_schedule.specs.PlannedChange.{planned_change}
use Rattle.pack_schedule.specs.Shown.{AreColoursInRange}
use Rattle.pack_schedule.specs.Survey.{IsSurvey, IsWithin}
use Rattle.pack_schedule.specs.Woven.{Woven, IsPackAt, ArePacks, most_counted}
use Rattle.pack_schedule.specs.declared.surveys.PlannedChange.{PlannedChange}
use Rattle.rw_code.specs.Packs.{idle_pack}
use Rattle.cdg_io.specs.Change.{from_to}
use Rattle.stream_writer.specs.Given.{AreGiven, CarriesComing, PutsStreamPart, framing_of}
use Rattle.stream_writer.specs.Needs.{text_packs, HasRoom}
use Rattle.stream_writer.proofs.Whole.{framing_with, part_with}
use Rattle.subcode_author.specs.Authored.{IsWrittenStream, disc_of}
use Rattle.subcode_author.specs.Inputs.{PackOf}
use Rattle.subcode_author.specs.AuthorAnswer.{AreReady, HoldsPictures, IsAccepted}
use Rattle.subcode_author.proofs.Prompt.{PlannedIsChange}

-- the facts about a script that has a schedule
pub record IsPlannedScript (script : List Drawing) (blocks : ℕ) : Type 0 where
  pub within : IsWithin script blocks
  pub survey : List PlannedChange
  pub surveyed : IsSurvey script survey
  pub held : (k : ℕ) → k < pictures script → ready_time script k ≤ hold_time script k
  pub ranges : AreColoursInRange script
  pub pixels : (k x y : ℕ) → picture_pixel script k x y < 16

in_time : (script : List Drawing) (survey : List PlannedChange) → IsSurvey script survey → (k : ℕ)
    → k < pictures script
    → IsInTime script k (length (planned_change script k))
in_time script survey surveyed k lt =
    subst (IsInTime script k) (surveyed.each k lt).need_is (surveyed.each k lt).in_time

are_ready : PlannedIsChange → (script : List Drawing) (survey : List PlannedChange) → AreColoursInRange script
    → ((k x y : ℕ) → picture_pixel script k x y < 16) → IsSurvey script survey → AreReady script
are_ready is_change script survey ranges pixels surveyed k lt = (
  length (planned_change script k),
  (planned_change script k, is_change script k ranges pixels, refl),
  in_time script survey surveyed k lt,
)

pub is_accepted : PlannedIsChange → (sheet : CueSheet) (script : List Drawing) (lead_in audio : ℕ)
    → HoldsPictures sheet script audio → HasRoom sheet lead_in
    → AreColoursInRange script → ((k x y : ℕ) → picture_pixel script k x y < 16)
    → ((survey : List PlannedChange) × IsSurvey script survey) → IsAccepted sheet script lead_in audio
is_accepted needs sheet script lead_in audio disc room ranges pixels planned = record {
  disc = disc;
  room = room;
  ready = are_ready needs script planned.0 ranges pixels planned.1;
}

-- a change ends before the packs that are cut off
change_ends : (script : List Drawing) (blocks : ℕ) → IsPlannedScript script blocks → (k : ℕ)
    → k < pictures script
    → start_of script k + length (planned_change script k) + 7 ≤ 4 * blocks
change_ends script blocks known k lt =
    let ready : start_of script k + length (planned_change script k) + 7 ≤ 4 * ready_time script k =
    in_time script known.survey known.surveyed k lt in
    let held : ready_time script k ≤ hold_time script k = known.held k lt in
    let within : hold_time script k ≤ blocks = known.within k lt in
    omega arith

-- a weaver before its first pack
pub record IsFirst (script : List Drawing) (woven : Woven) : Type 0 where
  pub script_is : woven.script ≡ script
  pub given_is : woven.given ≡ 0

pack_at : (script : List Drawing) (woven : Woven) → IsFirst script woven → (n : ℕ) (pack : List ℕ)
    → n < most_counted → PackOf woven n pack
    → IsPackAt script n pack
pack_at script woven first n pack small comes =
    let here : woven.given + n ≡ n = omega (arith, first.given_is) in
    subst (λ s. IsPackAt s n pack) first.script_is
    (subst (λ k. IsPackAt woven.script k pack) here (comes (omega (arith, here))))

-- the packs that the end of the program cuts off are idle
pub cut_idle : (script : List Drawing) (woven : Woven) (blocks : ℕ) → blocks ≤ 449999 → IsFirst script woven
    → IsPlannedScript script blocks
    → (n : ℕ) (pack : List ℕ) → whole_packs blocks ≤ n → n < 4 * blocks → PackOf woven n pack
    → pack ≡ idle_pack
cut_idle script woven blocks few first known n pack past lt comes =
    (pack_at script woven first n pack (omega arith) comes).idle (λ k below.
    let ends : start_of script k + length (planned_change script k) + 7 ≤ 4 * blocks =
    change_ends script blocks known k below in
    inr (omega (arith, ends, past)))

-- the law of the crate below
abbrev pub PacksAreSchedule : Type 0
PacksAreSchedule = (script : List Drawing) (blocks : ℕ) (survey : List PlannedChange) (packs : List (List ℕ))
    → AreColoursInRange script → ((k x y : ℕ) → picture_pixel script k x y < 16)
    → ((k : ℕ) → k < pictures script → ready_time script k ≤ hold_time script k)
    → IsWithin script blocks → IsSurvey script survey → length packs ≡ whole_packs blocks
    → ArePacks script packs
    → IsSchedule script blocks packs

given_of : (script : List Drawing) (woven : Woven) (many : ℕ) (packs : List (List ℕ)) → IsFirst script woven
    → many < most_counted → AreGiven (PackOf woven) 0 many packs
    → AreGiven (IsPackAt script) 0 many packs
given_of script woven many packs first small given = record {
  count = given.count;
  each = λ k lt. pack_at script woven first (0 + k) (get_or packs k []) (omega arith) (given.each k lt);
  codewords = given.codewords;
}

in_turn : (script : List Drawing) (blocks : ℕ) (packs : List (List ℕ))
    → AreGiven (IsPackAt script) 0 (whole_packs blocks) packs
    → ArePacks script packs
in_turn script blocks packs given n lt =
    let there : n < whole_packs blocks = omega (arith, lt, given.count) in
    let same : 0 + n ≡ n = omega arith in
    subst (λ k. IsPackAt script k (get_or packs n [])) same (given.each n there)

is_authored : PacksAreSchedule → (sheet : CueSheet) (script : List Drawing) (texts : List (List ℕ))
    (lead_in audio : ℕ) (bytes : List ℕ) (packs : List (List ℕ))
    → (0 < lead_in → texts ≡ text_packs sheet) → HasRoom sheet lead_in
    → IsPlannedScript script (program_blocks sheet audio)
    → CarriesComing (framing_of (layout_of sheet audio) texts lead_in) (IsPackAt script) bytes packs
    → IsWrittenStream (disc_of sheet script lead_in audio) bytes packs
is_authored schedule sheet script texts lead_in audio bytes packs texts_are room known stream = record {
  authored = record {
    schedule =
        schedule script (program_blocks sheet audio) known.survey packs known.ranges known.pixels known.held
        known.within known.surveyed stream.given_are.count
        (in_turn script (program_blocks sheet audio) packs stream.given_are);
    framing =
        framing_with (layout_of sheet audio) texts (text_packs sheet) lead_in bytes texts_are stream.framing;
    carries = stream.carries;
    enough = λ some. (room some).1;
  };
  planned = in_turn script (program_blocks sheet audio) packs stream.given_are;
}

few_given : (blocks : ℕ) → blocks ≤ 449999 → whole_packs blocks < most_counted
few_given blocks few = omega arith

of_script : (script : List Drawing) (woven : Woven) (layout : DiscLayout) (texts : List (List ℕ))
    (lead_in : ℕ) (bytes : List ℕ) (packs : List (List ℕ))
    → layout.blocks ≤ 449999 → IsFirst script woven
    → CarriesComing (framing_of layout texts lead_in) (PackOf woven) bytes packs
    → CarriesComing (framing_of layout texts lead_in) (IsPackAt script) bytes packs
of_script script woven layout texts lead_in bytes packs few first stream = record {
  given_are =
      given_of script woven (whole_packs layout.blocks) packs first (few_given layout.blocks few)
      stream.given_are;
  framing = stream.framing;
  carries = stream.carries;
}

-- the stream that was written is an authored stream
pub authored : PacksAreSchedule → (sheet : CueSheet) (script : List Drawing) (woven : Woven)
    (layout : DiscLayout) (texts : List (List ℕ)) (lead_in audio : ℕ) (a b : Option (List ℕ))
    → layout ≡ layout_of sheet audio → layout.blocks ≤ 449999 → IsFirst script woven
    → (0 < lead_in → texts ≡ text_packs sheet) → HasRoom sheet lead_in
    → IsPlannedScript script (program_blocks sheet audio)
    → (bytes : List ℕ)
    × (packs : List (List ℕ))
    × CarriesComing (framing_of layout texts lead_in) (PackOf woven) bytes packs
    × Appends a b bytes
    → (bytes : List ℕ)
    × (packs : List (List ℕ))
    × IsWrittenStream (disc_of sheet script lead_in audio) bytes packs
    × Appends a b bytes
authored schedule sheet script woven layout texts lead_in audio a b disc few first texts_are room known w = (
  w.0,
  w.1,
  is_authored schedule sheet script texts lead_in audio w.0 w.1 texts_are room known
      (subst (λ (l : DiscLayout). CarriesComing (framing_of l texts lead_in) (IsPackAt script) w.0 w.1) disc
      (of_script script woven layout texts lead_in w.0 w.1 few first w.2)),
  w.3,
)

part_of_script : (script : List Drawing) (woven : Woven) (layout : DiscLayout) (texts : List (List ℕ))
    (lead_in : ℕ) (a b : Option (List ℕ)) (n : ℕ) (packs : List (List ℕ))
    → layout.blocks ≤ 449999 → IsFirst script woven
    → PutsStreamPart (framing_of layout texts lead_in) (PackOf woven) (from_to a b) n packs
    → PutsStreamPart (framing_of layout texts lead_in) (IsPackAt script) (from_to a b) n packs
part_of_script script woven layout texts lead_in a b n packs few first part = record {
  within = part.within;
  given_are = given_of script woven (4 * n) packs first (omega (arith, part.within)) part.given_are;
  put = part.put;
  in_turn = part.in_turn;
}

-- the part that was written is a part of the stream of the sheet and the script
pub part_of : (sheet : CueSheet) (script : List Drawing) (woven : Woven) (layout : DiscLayout)
    (texts : List (List ℕ)) (lead_in audio : ℕ) (a b : Option (List ℕ))
    → layout ≡ layout_of sheet audio → layout.blocks ≤ 449999 → IsFirst script woven
    → (0 < lead_in → texts ≡ text_packs sheet)
    → (n : ℕ)
    × (packs : List (List ℕ))
    × PutsStreamPart (framing_of layout texts lead_in) (PackOf woven) (from_to a b) n packs
    → (n : ℕ)
    × (packs : List (List ℕ))
    × PutsStreamPart (framing_of (layout_of sheet audio) (text_packs sheet) lead_in) (IsPackAt script)
    (from_to a b) n packs
part_of sheet script woven layout texts lead_in audio a b disc few first texts_are w = (
  w.0,
  w.1,
  part_with (layout_of sheet audio) (IsPackAt script) texts (text_packs sheet) lead_in a b w.0 w.1 texts_are
      (subst (λ (l : DiscLayout).
      PutsStreamPart (framing_of l texts lead_in) (IsPackAt script) (from_to a b) w.0 w.1) disc
      (part_of_script script woven layout texts lead_in a b w.0 w.1 few first w.2)),
)
