-- The packs of an accepted script.
use Rattle.std.proofs.Common.{◌≡◌, ℕ, zero, suc, ◌+◌, ◌-◌, ◌*◌, ◌<◌, ◌≤◌, List, [], length, get_or, map, replicate, All, refl, sym, subst, inl, inr, arith}
use Rattle.std.proofs.lemmas.Bool.{cases_lt, cases_eq}
use Rattle.std.proofs.lemmas.List.Elements.{All-get_or, All-map, All-from_get_or}
use Rattle.std.proofs.lemmas.List.FromFn.{length-map-range_with_len, get_or-map-range_with_len}
use Rattle.bit_lists.specs.Counting.{below}
use Rattle.rw_code.specs.Codeword.{IsCodeword}
use Rattle.rw_code.proofs.CodewordLemmas.{idle_is_codeword}
use Rattle.std.specs.declared.option.Option.{Option}
use Rattle.cdg_instructions.specs.Instruction.{InRange, IsKnown, IsWritten}
use Rattle.cdg_instructions.specs.declared.instr.Instr.{Instr}
use Rattle.cdg_instructions.specs.declared.instr.Instr.TheVariants.{Idle}
use Rattle.picture_script.specs.Script.{Drawing, pictures, ready_time, hold_time, picture_pixel}
use Rattle.pack_schedule.specs.Schedule.{start_of}
use Rattle.pack_schedule.specs.Change.{IsChangeFrom}
use Rattle.pack_schedule.specs.PlannedChange.{chosen_start, planned_change}
use Rattle.pack_schedule.specs.Survey.{nothing_planned, IsPlanned, IsSurvey}
use Rattle.pack_schedule.specs.Woven.{IsPackAt, ArePacks}
use Rattle.pack_schedule.specs.declared.surveys.PlannedChange.{PlannedChange}
use Rattle.pack_schedule.proofs.TimeOrder.{hold_order}
use Rattle.pack_schedule.specs.Shown.{AreTimesInOrder, AreColoursInRange}
use Rattle.subcode_author.proofs.Prompt.{ArePrompt}
use Rattle.subcode_author.proofs.Packs.{in_change}
use Rattle.subcode_author.proofs.Messages.{has_word}

-- the instruction can be written
abbrev IsFine : Instr → Type 0
IsFine instr = InRange instr × IsKnown instr

pub record ChangesAreWritten : Type 0 where
  pub planned : (script : List Drawing) (k : ℕ) → ((k x y : ℕ) → picture_pixel script k x y < 16)
      → IsChangeFrom script k (chosen_start script k) (planned_change script k)
  pub written : (script : List Drawing) (k : ℕ) (start : Option ℕ) (instrs : List Instr)
      → AreColoursInRange script → IsChangeFrom script k start instrs
      → All IsFine instrs

module _ (script : List Drawing) (order : AreTimesInOrder script) (ready : ArePrompt script) where
  -- a change ends before the next one begins
  ends_before : (k j : ℕ) → k < j → j < pictures script
      → start_of script k + length (planned_change script k) ≤ start_of script j
  ends_before k zero lt within = absurd (omega arith)
  ends_before k (suc i) lt within =
      let in_time : start_of script k + length (planned_change script k) + 7 ≤ 4 * ready_time script k =
      ready k (omega arith) in
      let held : ready_time script k ≤ hold_time script k = order.held k (omega arith) in
      let last : hold_time script k ≤ hold_time script i =
      hold_order script order k i (omega (arith, lt)) (omega (arith, within)) in
      omega (arith, in_time, held, last)

  abbrev IsInside : ℕ → ℕ → Type 0
  IsInside n k = (k < pictures script)
      × (start_of script k ≤ n)
      × (n < start_of script k + length (planned_change script k))

  -- a pack number is in at most one change
  one_change : (n k j : ℕ) → IsInside n k → IsInside n j → k ≡ j
  one_change n k j (k_lt, k_from, k_end) (j_lt, j_from, j_end) = elim (cases_eq k j) [
    | inl same ↦ same
    | inr apart ↦ elim (cases_lt k j) [
      | inl before ↦ absurd (omega (arith, ends_before k j before j_lt, k_end, j_from))
      | inr after ↦ absurd (omega (arith, ends_before j k (omega (arith, apart, after)) k_lt, j_end, k_from))
    ]
  ]

  pack_of_change : (n k : ℕ) (pack : List ℕ) → IsInside n k
      → IsWritten (get_or (planned_change script k) (n - start_of script k) Idle) pack
      → IsPackAt script n pack
  pack_of_change n k pack inside written = record {
    changed =
        λ j lt from end. subst
        (λ i. IsWritten (get_or (planned_change script i) (n - start_of script i) Idle) pack)
        (one_change n k j inside (lt, from, end)) written;
    idle = λ none. elim (none k inside.0) [
      | inl early ↦ absurd (omega (arith, early, inside.1))
      | inr late ↦ absurd (omega (arith, late, inside.2))
    ];
  }

  module _ (known : ChangesAreWritten) (colours : AreColoursInRange script)
      (pixels : (k x y : ℕ) → picture_pixel script k x y < 16) where
    instruction_fine : (n k : ℕ) → IsInside n k
        → IsFine (get_or (planned_change script k) (n - start_of script k) Idle)
    instruction_fine n k inside =
        All-get_or IsFine (planned_change script k) (n - start_of script k) Idle
        (omega (arith, inside.1, inside.2)) (known.written script k (chosen_start script k)
        (planned_change script k) colours (known.planned script k pixels))

    pack_exists : (n : ℕ) → (pack : List ℕ) × IsPackAt script n pack × IsCodeword pack
    pack_exists n = elim (in_change script n (pictures script)) [
      | inl (k, lt, from, end) ↦
          let fine = instruction_fine n k (lt, from, end) in
          let (word, written) =
          has_word (get_or (planned_change script k) (n - start_of script k) Idle) fine.0 fine.1 in
          (word, pack_of_change n k word (lt, from, end) written, written.codeword)
      | inr none ↦ (
        replicate 24 0,
        record {
          changed = λ k lt from end. elim (none k lt) [
            | inl early ↦ absurd (omega (arith, early, from))
            | inr late ↦ absurd (omega (arith, late, end))
          ];
          idle = λ all. refl;
        },
        idle_is_codeword,
      )
    ]

    module _ (count : ℕ) where
      pub packs_exist : (packs : List (List ℕ))
          × (length packs ≡ count)
          × ArePacks script packs
          × All IsCodeword packs
      packs_exist =
          let f : ℕ → List ℕ = λ n. (pack_exists n).0 in
          let size : length (map f (below count)) ≡ count = length-map-range_with_len f 0 count in (
            map f (below count),
            size,
            (λ n lt.
                let here : 0 + n ≡ n = omega arith in
                subst (IsPackAt script n)
                (sym (get_or-map-range_with_len f 0 count n n [] (omega (arith, lt, size)) here))
                (pack_exists n).1),
            All-map IsCodeword f (below count) (All-from_get_or (λ n. IsCodeword (f n)) (below count) 0
                (λ i lt. (pack_exists (get_or (below count) i 0)).2)),
          )

  -- the start of each planned change
  pub survey_exists : (survey : List PlannedChange) × IsSurvey script survey
  survey_exists =
      let f : ℕ → PlannedChange = λ k. record {
        start = start_of script k;
        need = length (planned_change script k);
        preset = chosen_start script k;
      } in (
        map f (below (pictures script)),
        record {
          count_is = length-map-range_with_len f 0 (pictures script);
          each = λ k lt.
              let here : 0 + k ≡ k = omega arith in
              subst (IsPlanned script k)
              (sym (get_or-map-range_with_len f 0 (pictures script) k k nothing_planned lt here))
              (record { start_is = refl; preset_is = refl; need_is = refl; in_time = ready k lt });
        },
      )
