-- The meaning of a word does not depend on its parity.
use Rattle.std.proofs.Common.{◌≡◌, ℕ, ◌+◌, ◌*◌, ◌<◌, ◌%◌, List, length, get_or, drop, map, refl, sym, ap, ap₂, ◌∙◌, arith, lit<}
use Rattle.std.specs.Prelude.{◌==◌, if◌then◌else◌}
use Rattle.std.proofs.lemmas.List.{get_or-take, get_or-drop, length-take-le, length-drop}
use Rattle.std.proofs.lemmas.Grind.{same_number_lists}
use Rattle.cdg_instructions.specs.Instruction.{message_of, content_of, content, move, offset_across, offset_down, table_colour}
use Rattle.cdg_instructions.specs.Meaning.{graphics, meaning}
use Rattle.cdg_instructions.specs.declared.instr.Instr.{Instr}
use Rattle.cdg_instructions.specs.declared.instr.Instr.TheVariants.{Idle, Foreign, Unknown, MemoryPreset, BorderPreset, SetTile, XorTile, ScrollPreset, ScrollCopy, Transparency, ColoursLow, ColoursHigh}
use Rattle.cdg_instructions.proofs.Symbols.{head_of_message, body_of_message}
use Rattle.bit_lists.specs.Counting.{below}

-- the meaning of a graphics word, from its first four content symbols, all sixteen, and the colours of its table
graphics_of : ℕ → ℕ → ℕ → ℕ → List ℕ → List ℕ → ℕ → Instr
graphics_of a b c d symbols table code =
    if code == 1 then MemoryPreset (a % 16) (b % 16)
    else if code == 2 then BorderPreset (a % 16)
    else if code == 6 then SetTile (a % 16) (b % 16) (c % 32) d (drop 4 symbols)
    else if code == 20 then ScrollPreset (a % 16) (move b) (offset_across b) (move c) (offset_down c)
    else if code == 24 then ScrollCopy (a % 16) (move b) (offset_across b) (move c) (offset_down c)
    else if code == 28 then Transparency symbols
    else if code == 30 then ColoursLow table
    else if code == 31 then ColoursHigh table
    else if code == 38 then XorTile (a % 16) (b % 16) (c % 32) d (drop 4 symbols)
    else Unknown

graphics_is : (word : List ℕ) (code : ℕ)
    → graphics word code
    ≡ graphics_of (content word 0) (content word 1) (content word 2) (content word 3) (content_of word)
    (map (table_colour word) (below 8)) code
unfolding graphics_of
graphics_is word code = refl

-- the meaning of a word, from its mode and its meaning as a graphics word
meaning_of : Instr → ℕ → Instr
meaning_of drawn mode = if mode == 0 then Idle else if mode == 9 then drawn else Foreign

meaning_is : (word : List ℕ) → meaning word ≡ meaning_of (graphics word (get_or word 1 0)) (get_or word 0 0)
unfolding meaning meaning_of
meaning_is word = refl

module _ (word other : List ℕ) (size : length word ≡ 24) (size' : length other ≡ 24)
    (same : message_of word ≡ message_of other) where
  head_same : (k : ℕ) → k < 2 → get_or word k 0 ≡ get_or other k 0
  head_same k lt =
      sym (head_of_message word k size lt) ∙ ap (λ xs. get_or xs k 0) same ∙ head_of_message other k size' lt

  body_same : (k : ℕ) → k < 16 → content word k ≡ content other k
  body_same k lt =
      sym (body_of_message word k size lt)
      ∙ ap (λ xs. get_or xs (2 + k) 0) same
      ∙ body_of_message other k size' lt

  content_same : content_of word ≡ content_of other
  content_same =
      let one : length (content_of word) ≡ 16 =
      length-take-le 16 (drop 4 word) (omega (arith, length-drop 4 word, size)) in
      let two : length (content_of other) ≡ 16 =
      length-take-le 16 (drop 4 other) (omega (arith, length-drop 4 other, size')) in
      same_number_lists (content_of word) (content_of other) (one ∙ sym two) (λ k lt.
      let small : k < 16 = omega (arith, lt, one) in
      get_or-take 16 (drop 4 word) k 0 small ∙ get_or-drop 4 word k 0 ∙ body_same k small
      ∙ sym (get_or-take 16 (drop 4 other) k 0 small ∙ get_or-drop 4 other k 0))

  colour_same : (k : ℕ) → k < 8 → table_colour word k ≡ table_colour other k
  colour_same k lt =
      ap₂ (λ a b. 64 * a + b) (body_same (2 * k) (omega arith)) (body_same (2 * k + 1) (omega arith))

  table_same : map (table_colour word) (below 8) ≡ map (table_colour other) (below 8)
  table_same =
      let a = colour_same 0 (lit< tt) in
      let b = colour_same 1 (lit< tt) in
      let c = colour_same 2 (lit< tt) in
      let d = colour_same 3 (lit< tt) in
      let e = colour_same 4 (lit< tt) in
      let f = colour_same 5 (lit< tt) in
      let g = colour_same 6 (lit< tt) in
      let h = colour_same 7 (lit< tt) in
      cc

  graphics_same : (code : ℕ) → graphics word code ≡ graphics other code
  graphics_same code =
      let a = body_same 0 (lit< tt) in
      let b = body_same 1 (lit< tt) in
      let c = body_same 2 (lit< tt) in
      let d = body_same 3 (lit< tt) in
      graphics_is word code
      ∙ ap₂ (λ x y. graphics_of x y (content word 2) (content word 3) (content_of word)
      (map (table_colour word) (below 8)) code) a b
      ∙ ap₂ (λ x y. graphics_of (content other 0) (content other 1) x y (content_of word)
      (map (table_colour word) (below 8)) code) c d
      ∙ ap₂
      (λ x y. graphics_of (content other 0) (content other 1) (content other 2) (content other 3) x y code)
      content_same table_same
      ∙ sym (graphics_is other code)

  pub same_meaning : meaning word ≡ meaning other
  same_meaning =
      let first = head_same 0 (lit< tt) in
      let second = head_same 1 (lit< tt) in
      meaning_is word
      ∙ ap₂ meaning_of (ap (graphics word) second ∙ graphics_same (get_or other 1 0)) first
      ∙ sym (meaning_is other)
