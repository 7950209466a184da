-- The words of a stream, drawn one after another.
use Rattle.std.proofs.Common.{◌≡◌, ◌==◌, ℕ, zero, suc, ◌+◌, ◌-◌, ◌^◌, ◌<◌, false, cond, List, [], ◌∷◌, ◌++◌, length, get_or, map, take, refl, sym, ap, ap₂, ◌∙◌, subst, arith, Some, None, inl, inr}
use Rattle.std.specs.declared.option.Option.{Option}
use Rattle.std.proofs.lemmas.Bool.Decides.{eqb_tells}
use Rattle.std.proofs.lemmas.List.{take_more}
use Rattle.arrayvec.specs.ArrayVec.{ArrayVec}
use Rattle.cdg_io.specs.Run.{run_state}
use Rattle.std.specs.Prelude.{replicate}
use Rattle.rw_code.specs.Codeword.{IsCodeword}
use Rattle.rw_code.specs.Finding.{finding}
use Rattle.rw_interleave.specs.Stream.{bad_count}
use Rattle.cdg_instructions.specs.Meaning.{meaning}
use Rattle.cdg_instructions.proofs.Meaning.{meaning_means}
use Rattle.cdg_instructions.specs.declared.instr.Instr.{Instr}
use Rattle.cdg_screen.specs.Standing.{IsWholeStanding, Standing, standing_after}
use Rattle.cdg_screen.proofs.Turns.{in_turn, whole_after}
use Rattle.stream_stages.specs.Steps.{bad_next}
use Rattle.stream_stages.specs.Drawn.{entry_drawn, draw_next, draw_after, painting_next}
use Rattle.stream_stages.specs.Screen.{AreMeant}
use Rattle.stream_stages.proofs.Recovers.{found_itself, bad_some}
use Rattle.stream_stages.specs.declared.painting.Painting.{Painting}
use Rattle.stream_stages.proofs.StageRuns.{all_items, one_bad, count_more, at_most_one}

abbrev state : Standing → ℕ → ℕ → Painting
state standing left bad = record { screen = standing; left = left; bad = bad }

-- ---- a loop over words

draw_append : (s : Painting) (words others : List (List ℕ))
    → draw_after s (words ++ others) ≡ draw_after (draw_after s words) others
unfolding draw_after
draw_append s [] others = refl
draw_append s (w ∷ words) others = draw_append (draw_next s w) words others

draw_more : (s : Painting) (words : List (List ℕ)) (word : List ℕ)
    → draw_after s (words ++ word ∷ []) ≡ draw_next (draw_after s words) word
unfolding draw_after
draw_more s [] word = refl
draw_more s (w ∷ words) word = draw_more (draw_next s w) words word

pub draw_step : (words : List (List ℕ)) (i : ℕ) (word : List ℕ) (start old new : Painting) → i < length words
    → word ≡ get_or words i word → old ≡ draw_after start (take i words) → new ≡ draw_next old word
    → new ≡ draw_after start (take (i + 1) words)
draw_step words i word start old new lt is done step =
    step
    ∙ ap (λ (s : Painting). draw_next s word) done
    ∙ sym (draw_more start (take i words) word)
    ∙ ap (draw_after start) (sym (take_more words i word lt ∙ ap (λ w. take i words ++ w ∷ []) (sym is)))

pub drawn_none_yet : (start : Painting) → start ≡ draw_after start []
unfolding draw_after
drawn_none_yet start = refl

pub painting_runs : (s : Painting) (vs : List (ArrayVec (List ℕ)))
    → run_state painting_next s vs ≡ draw_after s (all_items vs)
unfolding painting_next draw_after
painting_runs s [] = refl
painting_runs s (v ∷ vs) =
    painting_runs (draw_after s v.items) vs ∙ sym (draw_append s v.items (all_items vs))

-- ---- the standing

-- the instructions of the codewords that are found
abbrev pub instrs_of : List (Option (List ℕ)) → List Instr
instrs_of [] = []
instrs_of (None ∷ rest) = instrs_of rest
instrs_of (Some word ∷ rest) = meaning word ∷ instrs_of rest

pub are_meant : (found : List (Option (List ℕ))) → AreMeant found (instrs_of found)
are_meant [] = refl
are_meant (None ∷ rest) = are_meant rest
are_meant (Some word ∷ rest) = (meaning_means word, are_meant rest)

-- an entry was drawn before the rest
entry_before : (standing : Standing) (entry : Option (List ℕ)) (rest : List (Option (List ℕ)))
    (end : Standing) → end ≡ standing_after (entry_drawn standing entry) (instrs_of rest)
    → end ≡ standing_after standing (instrs_of (entry ∷ rest))
entry_before standing None rest end same = same
entry_before standing (Some word) rest end same =
    same ∙ sym (in_turn standing (meaning word ∷ []) (instrs_of rest))

entry_whole : (standing : Standing) (entry : Option (List ℕ)) → IsWholeStanding standing
    → IsWholeStanding (entry_drawn standing entry)
entry_whole standing None whole = whole
entry_whole standing (Some word) whole = whole_after standing (meaning word ∷ [])

next_of : (standing : Standing) (left bad : ℕ) (word : List ℕ)
    → draw_next (state standing (suc left) bad) word
    ≡ state (entry_drawn standing (finding word)) left (bad_next bad word)
unfolding draw_next
next_of standing left bad word =
    let less : suc left - 1 ≡ left = omega arith in
    let more : (suc left == 0) ≡ false =
    elim (eqb_tells (suc left) 0) [ inl none ↦ absurd (omega (arith, none.1)) | inr some ↦ some.0 ] in
    ap (λ t. cond t (state standing (suc left) bad)
    (state (entry_drawn standing (finding word)) (suc left - 1) (bad_next bad word))) more
    ∙ ap (λ n. state (entry_drawn standing (finding word)) n (bad_next bad word)) less

none_left : (standing : Standing) (bad : ℕ) (words : List (List ℕ))
    → draw_after (state standing 0 bad) words ≡ state standing 0 bad
unfolding draw_after draw_next
none_left standing bad [] = refl
none_left standing bad (w ∷ words) = none_left standing bad words

-- an idle word does not change the standing
idle_drawn : (standing : Standing) (left bad : ℕ) → IsCodeword (replicate 24 0)
    → standing ≡ standing_after standing (meaning (replicate 24 0) ∷ [])
    → draw_next (state standing left bad) (replicate 24 0) ≡ state standing (left - 1) bad
unfolding draw_next
idle_drawn standing zero bad is stays = refl
idle_drawn standing (suc left) bad is stays =
    let word : List ℕ = replicate 24 0 in
    let same : entry_drawn standing (finding word) ≡ standing =
    sym (stays ∙ ap (entry_drawn standing) (found_itself word is)) in
    let none : bad_next bad word ≡ bad = sym (bad_some bad word word (found_itself word is)) in
    let less : left ≡ suc left - 1 = omega arith in
    next_of standing left bad word
    ∙ ap₂ (λ (p : Standing) (b : ℕ). state p left b) same none
    ∙ ap (λ n. state standing n bad) less

-- and neither do four of them
pub four_idle_drawn : (s : Painting) → IsCodeword (replicate 24 0)
    → s.screen ≡ standing_after s.screen (meaning (replicate 24 0) ∷ [])
    → record s { left = s.left - 4 } ≡ draw_after s (replicate 4 (replicate 24 0))
unfolding draw_after
four_idle_drawn s is stays =
    let next : Painting → Painting = λ (t : Painting). draw_next t (replicate 24 0) in
    let at : (left : ℕ) → next (state s.screen left s.bad) ≡ state s.screen (left - 1) s.bad =
    λ left. idle_drawn s.screen left s.bad is stays in
    let left : s.left - 1 - 1 - 1 - 1 ≡ s.left - 4 = omega arith in
    sym (ap next (ap next (ap next (at s.left) ∙ at (s.left - 1)) ∙ at (s.left - 1 - 1))
    ∙ at (s.left - 1 - 1 - 1)
    ∙ ap (λ n. state s.screen n s.bad) left)

-- The words were drawn from this state: the standing, and the number of bad words.
pub record AreDrawn (standing : Standing) (left bad : ℕ) (words : List (List ℕ)) (end : Painting) : Type
    0 where
  pub stands : end.screen ≡ standing_after standing (instrs_of (take left (map finding words)))
  pub counted : end.bad ≡ bad + bad_count (take left (map finding words))

one_counted : (bad : ℕ) (word : List ℕ) → bad + 1 < 2 ^ 32
    → bad_next bad word ≡ bad + bad_count (finding word ∷ [])
unfolding bad_next
one_counted bad word fits = one_bad bad (finding word) fits

first_drawn : (standing : Standing) (left bad : ℕ) (w : List ℕ) (words : List (List ℕ))
    → draw_after (state standing (suc left) bad) (w ∷ words)
    ≡ draw_after (state (entry_drawn standing (finding w)) left (bad_next bad w)) words
unfolding draw_after
first_drawn standing left bad w words =
    ap (λ (s : Painting). draw_after s words) (next_of standing left bad w)

pub are_drawn : (standing : Standing) (left bad : ℕ) (words : List (List ℕ)) → IsWholeStanding standing
    → bad + length words < 2 ^ 32
    → AreDrawn standing left bad words (draw_after (state standing left bad) words)
are_drawn standing zero bad words whole fits =
    subst (AreDrawn standing 0 bad words) (sym (none_left standing bad words))
    (record { stands = sym whole; counted = omega arith })
are_drawn standing (suc left) bad [] whole fits =
    subst (AreDrawn standing (suc left) bad []) (drawn_none_yet (state standing (suc left) bad))
    (record { stands = sym whole; counted = omega arith })
are_drawn standing (suc left) bad (w ∷ words) whole fits =
    let step : bad_next bad w ≡ bad + bad_count (finding w ∷ []) = one_counted bad w (omega (arith, fits)) in
    let later =
    are_drawn (entry_drawn standing (finding w)) left (bad_next bad w) words
    (entry_whole standing (finding w) whole) (omega (arith, fits, step, at_most_one (finding w))) in
    subst (AreDrawn standing (suc left) bad (w ∷ words)) (sym (first_drawn standing left bad w words))
    (record {
      stands =
          entry_before standing (finding w) (take left (map finding words))
          (draw_after (state (entry_drawn standing (finding w)) left (bad_next bad w)) words).screen
          later.stands;
      counted = later.counted ∙ omega (arith, step, count_more (finding w) (take left (map finding words)));
    })
