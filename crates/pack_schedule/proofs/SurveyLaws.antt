-- The picture on a canvas during a survey, and what a survey says about the pictures.
use Rattle.std.proofs.Common.{◌≡◌, ℕ, zero, suc, ◌+◌, ◌-◌, ◌*◌, ◌<◌, ◌≤◌, true, false, List, [], ◌∷◌, ◌++◌, length, get_or, refl, ap, sym, subst, ◌∙◌, inl, inr, arith, length-append}
use Rattle.std.specs.Prelude.{Option, Some, None, MatchOption, nat_le, Result, Ok, Err, IfOk, IfErr}
use Rattle.std.proofs.lemmas.Bool.{cases_lt}
use Rattle.std.proofs.lemmas.Bool.Decides.{leb_tells}
use Rattle.std.proofs.lemmas.List.{get_or_append_left, get_or-append-add}
use Rattle.disc_time.specs.Counts.{time_count}
use Rattle.raw_subcode.specs.Sizes.{slots_a_block}
use Rattle.rw_interleave.specs.Interleave.{whole_packs}
use Rattle.picture_script.specs.Script.{Drawing, pictures, ready_time, hold_time, picture_pixel}
use Rattle.picture_script.specs.Board.{Board, IsBlank, IsPicture, StandsBefore}
use Rattle.pack_schedule.specs.Schedule.{start_of, IsInTime, IsLate, free_packs}
use Rattle.pack_schedule.specs.PlannedChange.{planned_change}
use Rattle.pack_schedule.specs.Shown.{AreTimesInOrder, AreColoursInRange}
use Rattle.pack_schedule.specs.Brings.{CannotBeReady, IsChange, IsNeed}
use Rattle.pack_schedule.specs.Survey.{nothing_planned, IsPlanned, ArePlanned, IsPastEnd, IsStop, IsSurvey, IsWithin}
use Rattle.pack_schedule.specs.Weaving.{Stands}
use Rattle.pack_schedule.specs.declared.surveys.PlannedChange.{PlannedChange}
use Rattle.pack_schedule.specs.declared.stops.LatePicture.{LatePicture}
use Rattle.pack_schedule.specs.declared.stops.Stop.{Stop}
use Rattle.pack_schedule.specs.declared.stops.Stop.TheVariants.{Late}
use Rattle.pack_schedule.proofs.TimeOrder.{hold_order}

-- picture k is on the canvas before the next one is drawn
pub stands_next : (script : List Drawing) (k : ℕ) (board : Board) → board.at ≡ Some k
    → IsPicture script k board
    → Stands script (k + 1) board
stands_next script k board at h =
    let here : k ≡ k + 1 - 1 = omega arith in
    record {
      at_none = λ e. absurd (omega (arith, e));
      blank = λ e. absurd (omega (arith, e));
      at_some = λ lt. at ∙ ap Some here;
      drawn = λ lt. subst (λ n. IsPicture script n board) here h;
    }

-- picture k is on the canvas
pub stands_now : (script : List Drawing) (k : ℕ) (board : Board) → Stands script (k + 1) board
    → IsPicture script k board × (board.at ≡ Some k)
stands_now script k board h =
    let here : k + 1 - 1 ≡ k = omega arith in (
      subst (λ n. IsPicture script n board) here (h.drawn (omega arith)),
      h.at_some (omega arith) ∙ ap Some here,
    )

-- nothing is drawn before the first picture
pub stands_first : (script : List Drawing) (board : Board) → IsBlank board → board.at ≡ None
    → Stands script 0 board
stands_first script board blank at = record {
  at_none = λ _. at;
  blank = λ _. blank;
  at_some = λ lt. absurd (omega (arith, lt));
  drawn = λ lt. absurd (omega (arith, lt));
}

-- the canvas is ready for picture k
pub stands_before : (script : List Drawing) (k : ℕ) (board : Board) → Stands script k board
    → StandsBefore script k board
stands_before script zero board h =
    subst (λ (at : Option ℕ). MatchOption at (IsBlank board) (λ j. (j ≤ 0) × IsPicture script j board))
    (sym (h.at_none refl)) (h.blank refl)
stands_before script (suc k) board h =
    subst (λ (at : Option ℕ). MatchOption at (IsBlank board) (λ j. (j ≤ suc k) × IsPicture script j board))
    (sym (h.at_some (omega arith))) (omega arith, h.drawn (omega arith))

-- a canvas with an earlier picture is ready
pub stands_at : (script : List Drawing) (k most : ℕ) (board : Board) → board.at ≡ Some k
    → IsPicture script k board → k ≤ most
    → StandsBefore script most board
stands_at script k most board at h le =
    subst (λ (at : Option ℕ). MatchOption at (IsBlank board) (λ j. (j ≤ most) × IsPicture script j board))
    (sym at) (le, h)

-- and so is a blank canvas
pub stands_blank : (script : List Drawing) (most : ℕ) (board : Board) → IsBlank board → board.at ≡ None
    → StandsBefore script most board
stands_blank script most board blank at =
    subst (λ (at : Option ℕ). MatchOption at (IsBlank board) (λ j. (j ≤ most) × IsPicture script j board))
    (sym at) blank

later_at : (at : Option ℕ) (Blank : Type 0) (There : ℕ → Type 0) (few most : ℕ) → few ≤ most
    → MatchOption at Blank (λ j. (j ≤ few) × There j)
    → MatchOption at Blank (λ j. (j ≤ most) × There j)
later_at None Blank There few most le h = h
later_at (Some j) Blank There few most le h = (omega (arith, h.0, le), h.1)

-- and it is ready for later pictures too
pub stands_later : (script : List Drawing) (few most : ℕ) (board : Board) → few ≤ most
    → StandsBefore script few board
    → StandsBefore script most board
stands_later script few most board le h =
    later_at board.at (IsBlank board) (λ j. IsPicture script j board) few most le h

pub none_planned : (script : List Drawing) (planned : List PlannedChange) → planned ≡ []
    → ArePlanned script 0 planned
none_planned script planned none =
    record { count_is = ap length none; each = λ j lt. absurd (omega (arith, lt)) }

pub one_planned : (script : List Drawing) (k : ℕ) (planned more : List PlannedChange) (new : PlannedChange)
    → ArePlanned script k planned → IsPlanned script k new → more ≡ planned ++ new ∷ []
    → ArePlanned script (k + 1) more
one_planned script k planned more new h is added =
    let size = length-append planned (new ∷ []) in
    subst (ArePlanned script (k + 1)) (sym added) (record {
      count_is = omega (arith, size, h.count_is);
      each = λ j lt. elim (cases_lt j k) [
        | inl before ↦
            subst (IsPlanned script j)
            (sym (get_or_append_left planned (new ∷ []) nothing_planned j (omega (arith, h.count_is))))
            (h.each j before)
        | inr past ↦
            let last : j ≡ length planned + 0 = omega (arith, h.count_is) in
            let here : k ≡ j = omega arith in
            subst (IsPlanned script j) (sym (ap (λ n. get_or (planned ++ new ∷ []) n nothing_planned) last
            ∙ get_or-append-add planned (new ∷ []) 0 nothing_planned))
            (subst (λ n. IsPlanned script n new) here is)
      ];
    })

-- the planned change is a change, each need is its length, and a late picture cannot be ready
pub record NeedsAreFewest : Type 0 where
  pub change : (script : List Drawing) (k : ℕ) → AreColoursInRange script
      → ((k x y : ℕ) → picture_pixel script k x y < 16)
      → IsChange script k (planned_change script k)
  pub planned : (script : List Drawing) (k need : ℕ) → AreColoursInRange script
      → ((k x y : ℕ) → picture_pixel script k x y < 16) → IsNeed script k need
      → need ≡ length (planned_change script k)
  pub late : (script : List Drawing) (k need free : ℕ) → AreTimesInOrder script → AreColoursInRange script
      → ((k x y : ℕ) → picture_pixel script k x y < 16) → IsLate script k need free
      → CannotBeReady script k need free

-- picture k is late
pub is_late : NeedsAreFewest → (script : List Drawing) (k need free : ℕ) (planned : List PlannedChange)
    → AreColoursInRange script → ((k x y : ℕ) → picture_pixel script k x y < 16) → k < pictures script
    → ArePlanned script k planned
    → need ≡ length (planned_change script k) → free ≡ free_packs script k → (IsInTime script k need → ⊥)
    → IsLate script k need free
is_late known script k need free planned ranges small lt are need_is' free_is' late = record {
  picture = lt;
  need_is = (planned_change script k, known.change script k ranges small, sym need_is');
  free_is = free_is';
  late = late;
  before = λ j j_lt.
      let row = are.each j j_lt in
      let need : ℕ = (get_or planned j nothing_planned).need in
      let is : IsNeed script j need =
      (planned_change script j, known.change script j ranges small, sym row.need_is) in
      (need, is, row.in_time);
}

-- each planned number is the number of packs that its picture needs
all_fewest : NeedsAreFewest → (script : List Drawing) (planned : List PlannedChange)
    → AreColoursInRange script → ((k x y : ℕ) → picture_pixel script k x y < 16) → IsSurvey script planned
    → (k : ℕ) → k < pictures script → IsNeed script k (get_or planned k nothing_planned).need
all_fewest needs script planned ranges small surveyed k lt =
    (planned_change script k, needs.change script k ranges small, sym (surveyed.each k lt).need_is)

late_reported : NeedsAreFewest → (script : List Drawing) (blocks : ℕ) (stop : Stop) → AreTimesInOrder script
    → AreColoursInRange script → ((k x y : ℕ) → picture_pixel script k x y < 16) → IsStop script blocks stop
    → (picture need free : ℕ) → stop ≡ Late picture need free → CannotBeReady script picture need free
late_reported needs script blocks stop order ranges small is picture need free late =
    needs.late script picture need free order ranges small (subst (IsStop script blocks) late is).1

-- ---- about the answer

pub fewest_of : NeedsAreFewest → (script : List Drawing) → AreColoursInRange script
    → ((k x y : ℕ) → picture_pixel script k x y < 16) → (result : Result (List PlannedChange) Stop)
    → IfOk result (IsSurvey script)
    → IfOk result
    (λ planned. (k : ℕ) → k < pictures script → IsNeed script k (get_or planned k nothing_planned).need)
fewest_of needs script ranges small (Ok planned) surveyed =
    all_fewest needs script planned ranges small surveyed
fewest_of needs script ranges small (Err stop) surveyed = tt

pub late_of : NeedsAreFewest → (script : List Drawing) (blocks : ℕ) → AreTimesInOrder script
    → AreColoursInRange script → ((k x y : ℕ) → picture_pixel script k x y < 16)
    → (result : Result (List PlannedChange) Stop) → IfErr result (IsStop script blocks)
    → (picture need free : ℕ) → result ≡ Err (Late picture need free) → CannotBeReady script picture need free
late_of needs script blocks order ranges small (Ok planned) is picture need free late = absurd (cc)
late_of needs script blocks order ranges small (Err stop) is picture need free late =
    let same : stop ≡ Late picture need free = cc in
    late_reported needs script blocks stop order ranges small is picture need free same

-- if the last picture is not held beyond the end, no picture is
pub is_within : (script : List Drawing) (blocks : ℕ) → AreTimesInOrder script → ¬ IsPastEnd script blocks
    → IsWithin script blocks
is_within script blocks order end k lt = elim (cases_lt blocks (hold_time script (pictures script - 1))) [
  | inl past ↦ absurd (end (omega arith, past))
  | inr le ↦ omega
      (arith, hold_order script order k (pictures script - 1) (omega (arith, lt)) (omega (arith, lt)), le)
]

-- the first pack of a picture's change
pub first_start : (script : List Drawing) (k : ℕ) → k ≡ 0 → 0 ≡ start_of script k
first_start script zero is = refl
first_start script (suc k) is = absurd (omega (arith, is))

pub later_start : (script : List Drawing) (k start hold : ℕ) → ¬ (k ≡ 0) → start ≡ whole_packs hold
    → hold ≡ hold_time script (k - 1)
    → start ≡ start_of script k
later_start script zero start hold later is held = absurd (later refl)
later_start script (suc k) start hold later is held =
    let before : suc k - 1 ≡ k = omega arith in
    is ∙ ap whole_packs (held ∙ ap (hold_time script) before)

pub start_below : (start hold : ℕ) → start ≡ whole_packs hold → hold < time_count
    → start < slots_a_block * time_count
start_below start hold is below = omega (arith, is, below)

pub not_in_time : (script : List Drawing) (k start need : ℕ) → start ≡ start_of script k
    → nat_le (start + need + 7) (4 * ready_time script k) ≡ false → IsInTime script k need
    → ⊥
not_in_time script k start need is test h = elim (leb_tells (start + need + 7) (4 * ready_time script k))
    [ inl less ↦ absurd (cc) | inr more ↦ omega (arith, more.1, is, h) ]

pub in_time : (script : List Drawing) (k start need : ℕ) → start ≡ start_of script k
    → nat_le (start + need + 7) (4 * ready_time script k) ≡ true
    → IsInTime script k need
in_time script k start need is test = elim (leb_tells (start + need + 7) (4 * ready_time script k))
    [ inl less ↦ omega (arith, less.1, is) | inr more ↦ absurd (cc) ]

abbrev pub late_picture : ℕ → ℕ → ℕ → LatePicture
late_picture k need free = record { picture = k; need = need; free = free }

-- the report of a change that is not in time
pub late_at : (script : List Drawing) (k start need free : ℕ) → start ≡ start_of script k
    → need ≡ length (planned_change script k) → free ≡ free_packs script k
    → nat_le (start + need + 7) (4 * ready_time script k) ≡ false
    → (late_picture k need free ≡ late_picture k (length (planned_change script k)) (free_packs script k))
    × (¬ IsInTime script k (length (planned_change script k)))
late_at script k start need free start_is need_is free_is test = (
  (λ i. late_picture k (need_is i) (free_is i)),
  subst (λ n. ¬ IsInTime script k n) need_is (not_in_time script k start need start_is test),
)
