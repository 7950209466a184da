-- The pictures of a script, from the state of the generator.
use Rattle.std.proofs.Common.{◌≡◌, ℕ, zero, suc, ◌+◌, ◌*◌, List, [], ◌++◌, refl, sym, ap, ap₂, ◌∙◌, append_assoc, arith}
use Rattle.std.proofs.lemmas.List.{append-nil}
use Rattle.rand_pcg.specs.Lcg.{Lcg, next_state, state_after, advance}
use Rattle.rand_pcg.specs.Pcg.{pcg32, multiplier_64}
use Rattle.cdg_workload.specs.Generator.{generator, generator_word}
use Rattle.cdg_workload.specs.Script.{generated_rect_line, generated_show_line, picture_lines}
use Rattle.cdg_workload.specs.Pictures.{after_two, rect_from, picture_from}

state_next : (w m increment n state : ℕ)
    → next_state w m increment (state_after w m increment n state) ≡ state_after w m increment (suc n) state
unfolding state_after
state_next w m increment zero state = refl
state_next w m increment (suc n) state = state_next w m increment n (next_state w m increment state)

-- the generator after n words
abbrev pub after : ℕ → Lcg → Lcg
after n words = advance 64 multiplier_64 n words

one_more : (n : ℕ) (words : Lcg) → (pcg32 (after n words)).1 ≡ after (suc n) words
one_more n words = ap (λ s. record { state = s; increment = words.increment })
    (state_next 64 multiplier_64 words.increment n words.state)

two_more : (n m : ℕ) (words : Lcg) → m ≡ n + 2 → after_two (after n words) ≡ after m words
unfolding after_two
two_more n m words at =
    let e : suc (suc n) ≡ m = omega arith in
    ap (λ (g : Lcg). (pcg32 g).1) (one_more n words) ∙ one_more (suc n) words ∙ ap (λ k. after k words) e

rect_at : (seed n : ℕ)
    → rect_from (after n (generator seed)) ≡ generated_rect_line (generator_word seed n)
    (generator_word seed (n + 1))
unfolding rect_from generator_word
rect_at seed n =
    let e : suc n ≡ n + 1 = omega arith in
    ap (λ (g : Lcg). generated_rect_line (pcg32 (after n (generator seed))).0 (pcg32 g).0)
    (one_more n (generator seed) ∙ ap (λ k. after k (generator seed)) e)

-- the lines of picture k, and the generator after them
pub picture_is : (seed k : ℕ) (words : Lcg) → words ≡ after (6 * k) (generator seed)
    → picture_from words k ≡ picture_lines seed k
unfolding picture_from picture_lines
picture_is seed k words at =
    let f = λ (i : ℕ). generated_rect_line (generator_word seed (6 * k + 2 * i))
    (generator_word seed (6 * k + 2 * i + 1)) in
    let e0 : 6 * k ≡ 6 * k + 2 * 0 = omega arith in
    let e1 : 6 * k + 2 ≡ 6 * k + 2 * 1 = omega arith in
    let e2 : 6 * k + 4 ≡ 6 * k + 2 * 2 = omega arith in
    let second : after_two words ≡ after (6 * k + 2) (generator seed) = ap after_two at
    ∙ two_more (6 * k) (6 * k + 2) (generator seed) refl in
    let third : after_two (after_two words) ≡ after (6 * k + 4) (generator seed) = ap after_two second
    ∙ two_more (6 * k + 2) (6 * k + 4) (generator seed) (omega arith) in
    let r0 : rect_from words ≡ f 0 = ap rect_from at ∙ rect_at seed (6 * k)
    ∙ ap (λ n. generated_rect_line (generator_word seed n) (generator_word seed (n + 1))) e0 in
    let r1 : rect_from (after_two words) ≡ f 1 = ap rect_from second ∙ rect_at seed (6 * k + 2)
    ∙ ap (λ n. generated_rect_line (generator_word seed n) (generator_word seed (n + 1))) e1 in
    let r2 : rect_from (after_two (after_two words)) ≡ f 2 = ap rect_from third ∙ rect_at seed (6 * k + 4)
    ∙ ap (λ n. generated_rect_line (generator_word seed n) (generator_word seed (n + 1))) e2 in
    let lines : (rect_from words ++ rect_from (after_two words)) ++ rect_from (after_two (after_two words))
    ≡ f 0 ++ (f 1 ++ (f 2 ++ [])) =
    ap₂ (λ (a b : List ℕ). a ++ b) (ap₂ (λ (a b : List ℕ). a ++ b) r0 r1) (r2 ∙ sym (append-nil (f 2)))
    ∙ append_assoc (f 0) (f 1) (f 2 ++ []) in
    ap (λ l. l ++ generated_show_line k) lines

pub words_after : (seed k : ℕ) (words : Lcg) → words ≡ after (6 * k) (generator seed)
    → after_two (after_two (after_two words)) ≡ after (6 * (k + 1)) (generator seed)
words_after seed k words at =
    ap (λ g. after_two (after_two (after_two g))) at
    ∙ ap (λ g. after_two (after_two g)) (two_more (6 * k) (6 * k + 2) (generator seed) refl)
    ∙ ap after_two (two_more (6 * k + 2) (6 * k + 4) (generator seed) (omega arith))
    ∙ two_more (6 * k + 4) (6 * (k + 1)) (generator seed) (omega arith)
