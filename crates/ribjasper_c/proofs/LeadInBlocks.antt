-- The packs of a block at their places, and the lead-in blocks of a stream.
use Rattle.std.proofs.Common.{◌≡◌, ℕ, zero, suc, refl, ◌+◌, ◌*◌, ◌/◌, ◌<◌, ◌≤◌, min, List, [], ◌∷◌, ◌++◌, length, get_or, take, drop, sym, ap, ◌∙◌, arith, inl, inr, length-take-le}
use Rattle.std.proofs.Math.Seq.{drop-append_seam, take-append_seam}
use Rattle.std.proofs.lemmas.Bool.{cases_lt}
use Rattle.std.proofs.lemmas.List.{drop-take, take_all, take_min, take_more, length-take}
use Rattle.cdg_io.specs.Run.{run_state}
use Rattle.cdg_io.proofs.Runs.{run_state-append}
use Rattle.raw_subcode.specs.Channels.{unit_size, blocks_of}
use Rattle.raw_subcode.specs.declared.form.Form.{Form}
use Rattle.cdtext_packs.specs.LeadIn.{pack_at}
use Rattle.cdtext_packs.specs.TextSteps.{fresh_texts, text_next}
use Rattle.cdtext_packs.specs.declared.lead_in_texts.LeadInTexts.{LeadInTexts}
use Rattle.block_survey.proofs.EndedWords.{length-blocks}

front_of : (n m : ℕ) (xs : List ℕ) → n ≤ m → take n (take m xs) ≡ take n xs
front_of zero m xs le = refl
front_of (suc n) zero xs le = absurd (omega arith)
front_of (suc n) (suc m) [] le = refl
front_of (suc n) (suc m) (x ∷ xs) le = ap (λ l. x ∷ l) (front_of n m xs (omega arith))

-- eighteen bytes in an unchanged front are unchanged
pub stays : (at m : ℕ) (xs ys : List ℕ) → at + 18 ≤ m → take m xs ≡ take m ys
    → take 18 (drop at xs) ≡ take 18 (drop at ys)
stays at m xs ys le same =
    sym (drop-take at 18 xs)
    ∙ ap (drop at) (sym (front_of (at + 18) m xs le) ∙ ap (take (at + 18)) same ∙ front_of (at + 18) m ys le)
    ∙ drop-take at 18 ys

-- the state after one more block
pub block_more : (form : Form) (lead_in : ℕ) (bytes : List ℕ) (b : ℕ) (block : List ℕ) (old new : LeadInTexts)
    → b < length bytes / unit_size form → block ≡ get_or (blocks_of form bytes) b []
    → old ≡ run_state text_next (fresh_texts lead_in) (take b (blocks_of form bytes))
    → new ≡ text_next old block
    → new ≡ run_state text_next (fresh_texts lead_in) (take (b + 1) (blocks_of form bytes))
block_more form lead_in bytes b block old new lt is before step =
    let blocks : List (List ℕ) = blocks_of form bytes in
    let more : take (b + 1) blocks ≡ take b blocks ++ get_or blocks b [] ∷ [] =
    take_more blocks b [] (omega (arith, lt, length-blocks form bytes)) in
    step
    ∙ ap (λ (s : LeadInTexts). text_next s block) before
    ∙ ap (text_next (run_state text_next (fresh_texts lead_in) (take b blocks))) is
    ∙ sym (ap (run_state text_next (fresh_texts lead_in)) more
    ∙ run_state-append text_next (fresh_texts lead_in) (take b blocks) (get_or blocks b [] ∷ []))

-- the blocks of the lead-in, also of a stream that is shorter than its lead-in
pub lead_in_blocks : (form : Form) (lead_in : ℕ) (bytes : List ℕ) (n : ℕ) → n ≡ length bytes / unit_size form
    → take lead_in (take (min n lead_in) (blocks_of form bytes)) ≡ take lead_in (blocks_of form bytes)
lead_in_blocks form lead_in bytes n many =
    let blocks : List (List ℕ) = blocks_of form bytes in
    let few : length (take (min n lead_in) blocks) ≤ lead_in =
    omega (arith, length-take (min n lead_in) blocks) in
    let other : min n lead_in ≡ min lead_in (length blocks) = omega (arith, many, length-blocks form bytes) in
    take_all lead_in (take (min n lead_in) blocks) few
    ∙ ap (λ (k : ℕ). take k blocks) other
    ∙ take_min lead_in blocks

-- the bytes that were written, and those before them
pub put_here : (at : ℕ) (old pack rest new : List ℕ) → at ≤ length old → length pack ≡ 18
    → new ≡ take at old ++ (pack ++ rest)
    → take 18 (drop at new) ≡ pack
put_here at old pack rest new fits size is =
    let front : length (take at old) ≡ at = length-take-le at old fits in
    ap (λ (l : List ℕ). take 18 (drop at l)) is
    ∙ ap (λ n. take 18 (drop n (take at old ++ (pack ++ rest)))) (sym front)
    ∙ ap (take 18) (drop-append_seam (take at old) (pack ++ rest))
    ∙ ap (λ n. take n (pack ++ rest)) (sym size) ∙ take-append_seam pack rest

pub put_before : (at : ℕ) (old rest new : List ℕ) → at ≤ length old → new ≡ take at old ++ rest
    → take at new ≡ take at old
put_before at old rest new fits is =
    let front : length (take at old) ≡ at = length-take-le at old fits in
    ap (take at) is ∙ ap (λ n. take n (take at old ++ rest)) (sym front) ∙ take-append_seam (take at old) rest

-- pack k is written, and the packs before it are unchanged
pub pack_more : (block old new pack rest : List ℕ) (k : ℕ) → k < 4 → length old ≡ 72 → length pack ≡ 18
    → new ≡ take (18 * k) old ++ (pack ++ rest) → pack ≡ pack_at block k
    → ((j : ℕ) → j < k → take 18 (drop (18 * j) old) ≡ pack_at block j) → (j : ℕ) → j < k + 1
    → take 18 (drop (18 * j) new) ≡ pack_at block j
pack_more block old new pack rest k lt size pack_size is there before j within = elim (cases_lt j k) [
  | inl below ↦
      stays (18 * j) (18 * k) new old (omega arith)
      (put_before (18 * k) old (pack ++ rest) new (omega arith) is)
      ∙ before j below
  | inr above ↦ let same : j ≡ k = omega arith in
      ap (λ i. take 18 (drop (18 * i) new)) same
      ∙ put_here (18 * k) old pack rest new (omega arith) pack_size is
      ∙ there
      ∙ ap (pack_at block) (sym same)
]
