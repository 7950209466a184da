-- A generated script as a text of lines, and what this text says.
use Rattle.std.proofs.Common.{◌≡◌, ℕ, zero, suc, ◌+◌, ◌*◌, ◌<◌, ◌≤◌, true, List, [], ◌∷◌, ◌++◌, map, flat_map, refl, sym, ap, ap₂, ◌∙◌, append_assoc, lit<, arith}
use Rattle.std.proofs.lemmas.Bool.{and_from}
use Rattle.std.proofs.lemmas.List.{append-nil}
use Rattle.std.proofs.lemmas.List.Folds.{list_all-append}
use Rattle.std.specs.List.{list_all, range_with_len}
use Rattle.bit_lists.specs.Counting.{below}
use Rattle.text_lines.specs.Text.{lines_in, without_mark}
use Rattle.picture_script.specs.Script.{shows}
use Rattle.picture_script.specs.ScriptGrammar.{checked_lines, read_script}
use Rattle.cdg_workload.specs.Generator.{generator_word}
use Rattle.cdg_workload.specs.Script.{generated_rect_line, grey_line, picture_lines, generated_script}
use Rattle.cdg_workload.specs.Generated.{grey, generated_drawings}
use Rattle.cdg_workload.proofs.Splitting.{all_from, text_of, text_of-append, lines_are}
use Rattle.cdg_workload.proofs.LineTexts.{rect_of_words, rect_accepted, rect_line_is, grey_text, grey_accepted, grey_line_is, show_text, show_accepted, show_line_is}
use Rattle.cdg_workload.proofs.Accepting.{result, Stands, picture_texts, accept_greys, accept_pictures}

-- ---- The text.

one_line : (line rest : List ℕ) (lines : List (List ℕ)) → rest ≡ text_of lines
    → (line ++ 10 ∷ []) ++ rest ≡ text_of (line ∷ lines)
unfolding text_of
one_line line rest lines is = append_assoc line (10 ∷ []) rest ∙ ap (λ t. line ++ 10 ∷ t) is

no_text : [] ≡ text_of []
unfolding text_of
no_text = refl

four_lines : (a b c d : List ℕ)
    → ((a ++ 10 ∷ []) ++ ((b ++ 10 ∷ []) ++ ((c ++ 10 ∷ []) ++ []))) ++ (d ++ 10 ∷ []) ≡ text_of
    (a ∷ b ∷ c ∷ d ∷ [])
unfolding text_of
four_lines a b c d = simp (append_assoc, append-nil)

greys_text : (m a : ℕ)
    → flat_map grey_line (range_with_len a m) ≡ text_of (map grey_text (range_with_len a m))
greys_text zero a = no_text
greys_text (suc m) a =
    ap (λ l. l ++ flat_map grey_line (range_with_len (a + 1) m)) (grey_line_is a)
    ∙ one_line (grey_text a) _ (map grey_text (range_with_len (a + 1) m)) (greys_text m (a + 1))

rect_next : (seed i j n m : ℕ) → i ≡ n → j ≡ m
    → generated_rect_line (generator_word seed i) (generator_word seed j) ≡ rect_of_words
    (generator_word seed n) (generator_word seed m) ++ 10 ∷ []
rect_next seed i j n m first second =
    ap₂ (λ (p q : ℕ). generated_rect_line (generator_word seed p) (generator_word seed q)) first second
    ∙ rect_line_is (generator_word seed n) (generator_word seed m)

picture_text : (seed k : ℕ) → picture_lines seed k ≡ text_of (picture_texts seed k)
unfolding picture_lines picture_texts
picture_text seed k =
    let r0 = rect_next seed (6 * k + 2 * 0) (6 * k + 2 * 0 + 1) (6 * k) (6 * k + 1) (omega arith)
    (omega arith) in
    let r1 = rect_next seed (6 * k + 2 * 1) (6 * k + 2 * 1 + 1) (6 * k + 2) (6 * k + 3) (omega arith)
    (omega arith) in
    let r2 = rect_next seed (6 * k + 2 * 2) (6 * k + 2 * 2 + 1) (6 * k + 4) (6 * k + 5) (omega arith)
    (omega arith) in
    let a : List ℕ = rect_of_words (generator_word seed (6 * k)) (generator_word seed (6 * k + 1)) in
    let b : List ℕ = rect_of_words (generator_word seed (6 * k + 2)) (generator_word seed (6 * k + 3)) in
    let c : List ℕ = rect_of_words (generator_word seed (6 * k + 4)) (generator_word seed (6 * k + 5)) in
    let d : List ℕ = show_text k in
    let lines : picture_lines seed k ≡ ((a ++ 10 ∷ []) ++ ((b ++ 10 ∷ []) ++ ((c ++ 10 ∷ []) ++ []))) ++
    (d ++ 10 ∷ []) =
    ap₂ (λ (x y : List ℕ). x ++ y)
    (ap₂ (λ (x y : List ℕ). x ++ y) r0 (ap₂ (λ (x y : List ℕ). x ++ y) r1 (ap (λ x. x ++ []) r2)))
    (show_line_is k) in
    lines ∙ four_lines a b c d

pictures_text : (seed m k : ℕ)
    → flat_map (picture_lines seed) (range_with_len k m) ≡ text_of
    (flat_map (picture_texts seed) (range_with_len k m))
pictures_text seed zero k = no_text
pictures_text seed (suc m) k =
    ap₂ (λ (x y : List ℕ). x ++ y) (picture_text seed k) (pictures_text seed m (k + 1))
    ∙ sym (text_of-append (picture_texts seed k) (flat_map (picture_texts seed) (range_with_len (k + 1) m)))

script_lines : ℕ → ℕ → List (List ℕ)
script_lines seed count = map grey_text (below 16) ++ flat_map (picture_texts seed) (below count)

script_text : (seed count : ℕ) → generated_script seed count ≡ text_of (script_lines seed count)
unfolding generated_script script_lines
script_text seed count =
    ap₂ (λ (x y : List ℕ). x ++ y) (greys_text 16 0) (pictures_text seed count 0)
    ∙ sym (text_of-append (map grey_text (below 16)) (flat_map (picture_texts seed) (below count)))

-- ---- All lines are printable, and the text does not begin with a byte order mark.

greys_printable : (m a : ℕ) → a + m ≤ 16 → list_all (all_from 32) (map grey_text (range_with_len a m)) ≡ true
greys_printable zero a within = refl
greys_printable (suc m) a within = and_from _ _ (grey_accepted [] a (omega arith)).printable
    (greys_printable m (a + 1) (omega arith))

picture_printable : (seed k : ℕ) → k < 500 → list_all (all_from 32) (picture_texts seed k) ≡ true
unfolding picture_texts shows
picture_printable seed k lt =
    and_from _ _ (rect_accepted [] (generator_word seed (6 * k)) (generator_word seed (6 * k + 1))).printable
    (and_from _ _
    (rect_accepted [] (generator_word seed (6 * k + 2)) (generator_word seed (6 * k + 3))).printable
    (and_from _ _
    (rect_accepted [] (generator_word seed (6 * k + 4)) (generator_word seed (6 * k + 5))).printable
    (and_from _ _ (show_accepted [] k lt (lit< tt) refl).printable refl)))

pictures_printable : (seed m k : ℕ) → k + m ≤ 500
    → list_all (all_from 32) (flat_map (picture_texts seed) (range_with_len k m)) ≡ true
pictures_printable seed zero k within = refl
pictures_printable seed (suc m) k within =
    list_all-append (all_from 32) (picture_texts seed k)
    (flat_map (picture_texts seed) (range_with_len (k + 1) m))
    ∙ and_from _ _ (picture_printable seed k (omega arith)) (pictures_printable seed m (k + 1) (omega arith))

no_mark : (rest : List (List ℕ))
    → without_mark (text_of (map grey_text (below 16) ++ rest)) ≡ text_of (map grey_text (below 16) ++ rest)
unfolding without_mark text_of grey_text
no_mark rest = refl

nothing_shown : Stands 0 (map grey (below 16))
unfolding shows
nothing_shown = refl

-- ---- What the text says.

pub script_is_read : (seed count : ℕ) → count ≤ 500
    → read_script (generated_script seed count) ≡ result (generated_drawings seed count)
unfolding read_script script_lines generated_drawings
script_is_read seed count few =
    let pictures : List (List ℕ) = flat_map (picture_texts seed) (below count) in
    let printable : list_all (all_from 32) (script_lines seed count) ≡ true =
    list_all-append (all_from 32) (map grey_text (below 16)) pictures
    ∙ and_from _ _ (greys_printable 16 0 (omega arith))
    (pictures_printable seed count 0 (omega (arith, few))) in
    let (last, greys) = accept_greys 16 0 1 [] pictures (omega arith) in
    ap read_script (script_text seed count)
    ∙ ap (λ t. checked_lines 1 [] (lines_in t)) (no_mark pictures)
    ∙ ap (checked_lines 1 []) (lines_are (script_lines seed count) printable)
    ∙ greys ∙ accept_pictures count 0 last (map grey (below 16)) seed (omega (arith, few)) nothing_shown
