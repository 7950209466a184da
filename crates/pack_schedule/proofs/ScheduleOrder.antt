-- The standing while the packs of a schedule are played.
use Rattle.std.proofs.Common.{◌≡◌, ℕ, zero, suc, ◌+◌, ◌-◌, ◌<◌, ◌≤◌, inl, inr, List, [], ◌∷◌, length, nat_le, ◌&&◌, true, get_or, take, drop, refl, sym, ap, ◌∙◌, subst, arith, length-append, length-drop}
use Rattle.std.specs.Prelude.{reverse}
use Rattle.std.specs.List.{AllByRecursion}
use Rattle.std.proofs.Math.Seq.{take-add}
use Rattle.std.proofs.lemmas.Bool.Decides.{leb_tells}
use Rattle.std.proofs.lemmas.List.{ext_get_or, get_or-take, get_or-drop, length-take-le}
use Rattle.std.proofs.lemmas.List.Elements.{All-from_get_or, All-get_or, recursion_from_All}
use Rattle.rw_interleave.specs.Interleave.{whole_packs}
use Rattle.picture_script.specs.Script.{Drawing, pictures, hold_time}
use Rattle.rw_code.specs.Codeword.{IsCodeword}
use Rattle.cdg_instructions.specs.Instruction.{Means, InRange, IsKnown, IsWritten, content_of, message_of, written_symbols}
use Rattle.cdg_instructions.specs.declared.instr.Instr.{Instr}
use Rattle.cdg_instructions.specs.declared.instr.Instr.TheVariants.{Idle, ScrollPreset, ScrollCopy}
use Rattle.cdg_screen.specs.Standing.{Standing, blank, offsets_from, standing_after}
use Rattle.cdg_screen.proofs.Turns.{idle_changes_nothing, whole_after}
use Rattle.rw_code.specs.Packs.{idle_pack}
use Rattle.pack_schedule.specs.Schedule.{start_of, IsSchedule}
use Rattle.pack_schedule.specs.Brings.{IsBefore, IsChange, IsStill, IsUnmoved}
use Rattle.pack_schedule.specs.Shown.{AreTimesInOrder}
use Rattle.pack_schedule.proofs.TimeOrder.{hold_order}
use Rattle.pack_schedule.specs.Meanings.{AreMeantBy}
use Rattle.pack_schedule.proofs.Tiles.{InTurn, and_four, each_reverse, is_le}

-- the laws about instructions
abbrev pub OneMeaning : Type 0
OneMeaning = (word : List ℕ) (one other : Instr) → Means word one → Means word other → one ≡ other

abbrev pub ReadAsWritten : Type 0
ReadAsWritten = (instr read : Instr) (word : List ℕ) → InRange instr → IsKnown instr → IsWritten instr word
    → Means word read
    → read ≡ instr

-- ---- the standing after a change

-- an instruction that is written has a code
none_short : (word : List ℕ) → IsCodeword word → message_of word ≡ [] → ⊥
none_short word code none =
    omega (
      arith,
      ap length none,
      length-append (take 2 word) (content_of word),
      length-take-le 2 word (omega (arith, code.is_word.size)),
    )

is_known : (instr : Instr) (word : List ℕ) → IsWritten instr word → IsKnown instr
is_known instr word is = (
  λ e. none_short word is.codeword (is.message ∙ ap written_symbols e),
  λ e. none_short word is.codeword (is.message ∙ ap written_symbols e),
)

in_range : (instr : Instr) → IsStill instr → InRange instr
in_range (ScrollPreset colour across h down v) still = absurd still
in_range (ScrollCopy colour across h down v) still = absurd still
in_range instr still = still

pub offsets_kept : (start : ℕ × ℕ) (before : List Instr) → AllByRecursion IsStill before
    → offsets_from start before ≡ start
offsets_kept start [] all = refl
offsets_kept start (ScrollPreset a b h d v ∷ before) all = absurd all.0
offsets_kept start (ScrollCopy a b h d v ∷ before) all = absurd all.0
offsets_kept start (instr ∷ before) all = offsets_kept start before all.1

before_unmoved : (script : List Drawing) (k : ℕ) (now : Standing) → IsBefore script k now → IsUnmoved now
before_unmoved script zero now is = is
before_unmoved script (suc k) now is = is.1

-- after a change its picture is there, without offsets
changed : (script : List Drawing) (k : ℕ) (now : Standing) (instrs : List Instr) → IsChange script k instrs
    → IsBefore script k now
    → IsBefore script (suc k) (standing_after now instrs)
changed script k now instrs change before =
    let brings = change.brings now before in
    let unmoved = before_unmoved script k now before in
    let kept =
    offsets_kept (now.h, now.v) (reverse instrs)
    (each_reverse IsStill instrs (recursion_from_All IsStill instrs brings.still)) in
    (brings.shows, (ap (λ (o : ℕ × ℕ). o.0) kept ∙ unmoved.0, ap (λ (o : ℕ × ℕ). o.1) kept ∙ unmoved.1))

pub in_window : (x y : ℕ) → x < 288 → y < 192
    → (nat_le 6 (x + 6) && nat_le (x + 6) 293 && nat_le 12 (y + 12) && nat_le (y + 12) 203) ≡ true
in_window x y xs ys =
    and_four (nat_le 6 (x + 6)) (nat_le (x + 6) 293) (nat_le 12 (y + 12)) (nat_le (y + 12) 203)
    (is_le 6 (x + 6) (omega arith)) (is_le (x + 6) 293 (omega (arith, xs))) (is_le 12 (y + 12) (omega arith))
    (is_le (y + 12) 203 (omega (arith, ys)))

-- ---- packs by their numbers

-- instruction n is the meaning of pack n
pub record MeansEach (packs : List (List ℕ)) (instrs : List Instr) : Type 0 where
  pub count : length instrs ≡ length packs
  pub each : (n : ℕ) → n < length packs → Means (get_or packs n []) (get_or instrs n Idle)

means_cons : (pack : List ℕ) (packs : List (List ℕ)) (instr : Instr) (instrs : List Instr) → Means pack instr
    → ((n : ℕ) → n < length packs → Means (get_or packs n []) (get_or instrs n Idle))
    → (n : ℕ) → n < length (pack ∷ packs)
    → Means (get_or (pack ∷ packs) n []) (get_or (instr ∷ instrs) n Idle)
means_cons pack packs instr instrs here rest zero lt = here
means_cons pack packs instr instrs here rest (suc n) lt = rest n (omega (arith, lt))

pub means_each : (packs : List (List ℕ)) (instrs : List Instr) → AreMeantBy packs instrs
    → MeansEach packs instrs
means_each [] instrs meant = record { count = ap length meant; each = λ n lt. absurd (omega (arith, lt)) }
means_each (pack ∷ packs) [] meant = absurd meant
means_each (pack ∷ packs) (instr ∷ instrs) meant =
    let rest = means_each packs instrs meant.1 in
    record { count = omega (arith, rest.count); each = means_cons pack packs instr instrs meant.0 rest.each }

-- ---- times in increasing order

start_order : (script : List Drawing) → AreTimesInOrder script → (i j : ℕ) → i ≤ j → j < pictures script
    → start_of script i ≤ start_of script j
start_order script order zero j le lt = omega arith
start_order script order (suc i) zero le lt = absurd (omega (arith, le))
start_order script order (suc i) (suc j) le lt =
    omega (arith, hold_order script order i j (omega (arith, le)) (omega (arith, lt)))

-- ---- the packs of a schedule, as they are played

module _ (in_turn : InTurn) (one_meaning : OneMeaning) (read_back : ReadAsWritten) (script : List Drawing)
    (blocks : ℕ) (packs : List (List ℕ)) (order : AreTimesInOrder script)
    (schedule : IsSchedule script blocks packs)
    (many : ℕ) (some : many ≤ length packs) (instrs : List Instr)
    (means : MeansEach (take many packs) instrs) where
  total : length instrs ≡ many
  total = means.count ∙ length-take-le many packs some

  abbrev change_of : ℕ → List Instr
  change_of k = get_or schedule.changes k []

  -- the standing after the first m packs
  abbrev after : ℕ → Standing
  after m = standing_after blank (take m instrs)

  meant_at : (n : ℕ) → n < many → Means (get_or packs n []) (get_or instrs n Idle)
  meant_at n lt =
      subst (λ (w : List ℕ). Means w (get_or instrs n Idle)) (get_or-take many packs n [] lt)
      (means.each n (omega (arith, lt, length-take-le many packs some)))

  grows : (a n : ℕ) → after (a + n) ≡ standing_after (after a) (take n (drop a instrs))
  grows a n =
      subst (λ (is : List Instr). standing_after blank is ≡ standing_after (after a) (take n (drop a instrs)))
      (sym (take-add a n instrs)) (in_turn blank (take a instrs) (take n (drop a instrs)))

  segment : (a n : ℕ) → a + n ≤ many → length (take n (drop a instrs)) ≡ n
  segment a n fits = length-take-le n (drop a instrs) (omega (arith, length-drop a instrs, total, fits))

  segment_at : (a n i : ℕ) → i < n → get_or (take n (drop a instrs)) i Idle ≡ get_or instrs (a + i) Idle
  segment_at a n i lt = get_or-take n (drop a instrs) i Idle lt ∙ get_or-drop a instrs i Idle

  idle_segment : (a n : ℕ) → a + n ≤ many → ((i : ℕ) → a ≤ i → i < a + n → get_or instrs i Idle ≡ Idle)
      → after (a + n) ≡ after a
  idle_segment a n fits idle =
      let list : List Instr = take n (drop a instrs) in
      let all =
      All-from_get_or (λ (i : Instr). i ≡ Idle) (take n (drop a instrs)) Idle (λ i lt.
      let small : i < n = omega (arith, lt, segment a n fits) in
      segment_at a n i small ∙ idle (a + i) (omega arith) (omega (arith, small))) in
      grows a n
      ∙ idle_changes_nothing (after a) (take n (drop a instrs))
      (recursion_from_All (λ (i : Instr). i ≡ Idle) (take n (drop a instrs)) all)
      ∙ whole_after blank (take a instrs)

  change_segment : (k : ℕ) → k < pictures script → IsBefore script k (after (start_of script k))
      → start_of script k + length (change_of k) ≤ many
      → take (length (change_of k)) (drop (start_of script k) instrs) ≡ change_of k
  change_segment k picture ready fits =
      let still = ((schedule.change k picture).brings (after (start_of script k)) ready).still in
      ext_get_or Idle (take (length (change_of k)) (drop (start_of script k) instrs)) (change_of k)
      (segment (start_of script k) (length (change_of k)) fits) (λ j lt.
      let small : j < length (change_of k) =
      omega (arith, lt, segment (start_of script k) (length (change_of k)) fits) in
      let instr : Instr = get_or (change_of k) j Idle in
      let word : List ℕ = get_or packs (start_of script k + j) [] in
      let written = schedule.written k j picture small in
      segment_at (start_of script k) (length (change_of k)) j small
      ∙ read_back instr (get_or instrs (start_of script k + j) Idle) word
      (in_range instr (All-get_or IsStill (change_of k) j Idle small still)) (is_known instr word written)
      written
      (meant_at (start_of script k + j) (omega (arith, fits, small))))

  -- the change of a picture ends before the hold time of the picture
  in_hold : (k : ℕ) → k < pictures script
      → start_of script k + length (change_of k) ≤ whole_packs (hold_time script k)
  in_hold k picture = omega (arith, schedule.fits k picture, order.held k picture)

  -- before the hold time of picture k, no later change has begun, and every earlier one is complete
  not_begun : (k j n : ℕ) → k < pictures script → j < pictures script → suc k ≤ j
      → n < whole_packs (hold_time script k)
      → n < start_of script j
  not_begun k zero n picture other later to = absurd (omega (arith, later))
  not_begun k (suc j) n picture other later to =
      omega (arith, to, hold_order script order k j (omega (arith, later)) (omega (arith, other)))

  is_over : (k j n : ℕ) → k < pictures script → j < pictures script → j < suc k
      → start_of script k + length (change_of k) ≤ n
      → start_of script j + length (change_of j) ≤ n
  is_over k j n picture other sooner from = elim (leb_tells k j) [
    | inl same ↦ let is : k ≡ j = omega (arith, same.1, sooner) in
        subst (λ (i : ℕ). start_of script i + length (change_of i) ≤ n) is from
    | inr before ↦ omega
        (arith, in_hold j other, start_order script order (suc j) k (omega (arith, before.1)) picture, from)
  ]

  idle_at : (k n : ℕ) → k < pictures script → start_of script k + length (change_of k) ≤ n
      → n < whole_packs (hold_time script k) → n < many
      → get_or instrs n Idle ≡ Idle
  idle_at k n picture from to lt =
      let idle : get_or packs n [] ≡ idle_pack =
      schedule.others n (omega (arith, lt, some, schedule.count)) (λ j other. elim (leb_tells (suc k) j) [
        | inl later ↦ inl (not_begun k j n picture other later.1 to)
        | inr sooner ↦ inr (is_over k j n picture other sooner.1 from)
      ]) in
      let none : Means idle_pack Idle = refl in
      one_meaning (get_or packs n []) (get_or instrs n Idle) Idle (meant_at n lt)
      (subst (λ (w : List ℕ). Means w Idle) (sym idle) none)

  from_ready : (k : ℕ) → k < pictures script → IsBefore script k (after (start_of script k)) → (m : ℕ)
      → start_of script k + length (change_of k) ≤ m → m ≤ whole_packs (hold_time script k) → m ≤ many
      → IsBefore script (suc k) (after m)
  from_ready k picture ready m from to fits =
      let stands =
      changed script k (after (start_of script k)) (change_of k) (schedule.change k picture) ready in
      let whole =
      subst (λ (is : List Instr).
      after (start_of script k + length (change_of k)) ≡ standing_after (after (start_of script k)) is)
      (change_segment k picture ready (omega (arith, from, fits)))
      (grows (start_of script k) (length (change_of k))) in
      let base : IsBefore script (suc k) (after (start_of script k + length (change_of k))) =
      subst (IsBefore script (suc k)) (sym whole) stands in
      let sum : start_of script k + length (change_of k) + (m - (start_of script k + length (change_of k)))
      ≡ m =
      omega (arith, from) in
      let idle =
      idle_segment (start_of script k + length (change_of k)) (m - (start_of script k + length (change_of k)))
      (omega (arith, sum, fits)) (λ i i_from i_to.
      idle_at k i picture i_from (omega (arith, i_to, sum, to)) (omega (arith, i_to, sum, fits))) in
      subst (λ j. IsBefore script (suc k) (after j)) sum (subst (IsBefore script (suc k)) (sym idle) base)

  pub stands_at : (k : ℕ) → k < pictures script → (m : ℕ) → start_of script k + length (change_of k) ≤ m
      → m ≤ whole_packs (hold_time script k) → m ≤ many
      → IsBefore script (suc k) (after m)
  stands_at zero picture m from to fits = from_ready 0 picture (refl, refl) m from to fits
  stands_at (suc k) picture m from to fits =
      let before : k < pictures script = omega (arith, picture) in
      from_ready (suc k) picture (stands_at k before (whole_packs (hold_time script k)) (in_hold k before)
      (omega arith) (omega (arith, from, fits))) m from to fits
