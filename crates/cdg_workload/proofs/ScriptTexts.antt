-- The texts of a script, piece by piece.
use Rattle.std.proofs.Common.{◌≡◌, ℕ, zero, suc, cond, nat_lt, inl, inr, ◌+◌, ◌-◌, ◌*◌, ◌/◌, ◌%◌, ◌<◌, List, [], ◌∷◌, ◌++◌, flat_map, refl, sym, ap, ap₂, subst, ◌∙◌, append_assoc, decimal, codes, Result, Ok, Err, OnErr, arith}
use Rattle.std.proofs.lemmas.Bool.{cases_lt, lt-ltb, le-ltb}
use Rattle.std.proofs.lemmas.Fmt.{decimal_digit, decimal_step}
use Rattle.std.proofs.lemmas.List.{append-nil}
use Rattle.std.specs.Char.{digit_char}
use Rattle.std.specs.List.{range_with_len}
use Rattle.std.specs.declared.option.Option.{Option}
use Rattle.std.specs.Io.KnownBytes.{Appends}
use Rattle.bit_lists.specs.Counting.{below}
use Rattle.bit_lists.specs.Digits.{line_feed}
use Rattle.disc_time.specs.Time.{time_text}
use Rattle.rand_pcg.specs.Lcg.{Lcg}
use Rattle.rand_pcg.specs.Pcg.{pcg32}
use Rattle.cdg_io.specs.Moves.{AppendsPrefix}
use Rattle.cdg_workload.specs.declared.script.TheConstants.{GREYS}
use Rattle.cdg_workload.specs.Script.{generated_rect_line, grey_line, generated_show_line, picture_lines, generated_script}
use Rattle.cdg_workload.specs.Pictures.{rect_from}
use Rattle.cdg_workload.proofs.Pieces.{prefix_first, prefix_of_pieces, one_piece_more}

pub on_err : {T E : Type 0} (r : Result T E) (P : Type 0) → P → OnErr r P
on_err (Ok v) P p = tt
on_err (Err e) P p = p

-- ---- Pieces of a line.

-- five pieces one after another
pub five_joined : (l l1 l2 l3 l4 l5 a b c d e : List ℕ) → l1 ≡ l ++ a → l2 ≡ l1 ++ b → l3 ≡ l2 ++ c
    → l4 ≡ l3 ++ d → l5 ≡ l4 ++ e → l5 ≡ l ++ (a ++ b ++ c ++ d ++ e)
five_joined l l1 l2 l3 l4 l5 a b c d e e1 e2 e3 e4 e5 =
    let j2 : l2 ≡ l ++ (a ++ b) = e2 ∙ ap (λ x. x ++ b) e1 ∙ append_assoc l a b in
    let j3 : l3 ≡ l ++ (a ++ b ++ c) = e3 ∙ ap (λ x. x ++ c) j2 ∙ append_assoc l (a ++ b) c in
    let j4 : l4 ≡ l ++ (a ++ b ++ c ++ d) = e4 ∙ ap (λ x. x ++ d) j3 ∙ append_assoc l (a ++ b ++ c) d in
    e5 ∙ ap (λ x. x ++ e) j4 ∙ append_assoc l (a ++ b ++ c ++ d) e

pub eleven_joined : (l l1 l2 l3 l4 l5 l6 l7 l8 l9 l10 l11 a b c d e f g h i j k : List ℕ) → l1 ≡ l ++ a
    → l2 ≡ l1 ++ b → l3 ≡ l2 ++ c → l4 ≡ l3 ++ d → l5 ≡ l4 ++ e → l6 ≡ l5 ++ f → l7 ≡ l6 ++ g → l8 ≡ l7 ++ h
    → l9 ≡ l8 ++ i → l10 ≡ l9 ++ j → l11 ≡ l10 ++ k
    → l11 ≡ l ++ (a ++ b ++ c ++ d ++ e ++ f ++ g ++ h ++ i ++ j ++ k)
eleven_joined l l1 l2 l3 l4 l5 l6 l7 l8 l9 l10 l11 a b c d e f g h i j k e1 e2 e3 e4 e5 e6 e7 e8 e9 e10 e11 =
    let j6 : l6 ≡ l ++ (a ++ b ++ c ++ d ++ e ++ f) = e6
    ∙ ap (λ x. x ++ f) (five_joined l l1 l2 l3 l4 l5 a b c d e e1 e2 e3 e4 e5)
    ∙ append_assoc l (a ++ b ++ c ++ d ++ e) f in
    let j7 : l7 ≡ l ++ (a ++ b ++ c ++ d ++ e ++ f ++ g) = e7 ∙ ap (λ x. x ++ g) j6
    ∙ append_assoc l (a ++ b ++ c ++ d ++ e ++ f) g in
    let j8 : l8 ≡ l ++ (a ++ b ++ c ++ d ++ e ++ f ++ g ++ h) = e8 ∙ ap (λ x. x ++ h) j7
    ∙ append_assoc l (a ++ b ++ c ++ d ++ e ++ f ++ g) h in
    let j9 : l9 ≡ l ++ (a ++ b ++ c ++ d ++ e ++ f ++ g ++ h ++ i) = e9 ∙ ap (λ x. x ++ i) j8
    ∙ append_assoc l (a ++ b ++ c ++ d ++ e ++ f ++ g ++ h) i in
    let j10 : l10 ≡ l ++ (a ++ b ++ c ++ d ++ e ++ f ++ g ++ h ++ i ++ j) = e10 ∙ ap (λ x. x ++ j) j9
    ∙ append_assoc l (a ++ b ++ c ++ d ++ e ++ f ++ g ++ h ++ i) j in
    e11 ∙ ap (λ x. x ++ k) j10 ∙ append_assoc l (a ++ b ++ c ++ d ++ e ++ f ++ g ++ h ++ i ++ j) k

unfoldable pub show_text : List ℕ → List ℕ → List ℕ
show_text ready hold = codes "show " ++ ready ++ codes " " ++ hold ++ line_feed

pub show_text_is : (k : ℕ) (ready hold : List ℕ) → ready ≡ time_text (800 * (k + 1))
    → hold ≡ time_text (800 * (k + 1) + 20) → show_text ready hold ≡ generated_show_line k
unfolding show_text generated_show_line
show_text_is k ready hold ready_is hold_is =
    ap₂ (λ (r h : List ℕ). codes "show " ++ r ++ codes " " ++ h ++ line_feed) ready_is hold_is

-- a rectangle from the halves of two words of the generator
unfoldable pub halves_text : ℕ → ℕ → ℕ → ℕ → ℕ → List ℕ
halves_text x y w h size =
    codes "rect " ++ decimal (x % 288) ++ codes " " ++ decimal (y % 192) ++ codes " " ++ decimal
    (1 + w % (288 - x % 288))
    ++ codes " " ++ decimal (1 + h % (192 - y % 192)) ++ codes " " ++ decimal (size / 256 % 16) ++ line_feed

pub halves_text_is : (words : Lcg) (place size x y w h : ℕ) → place ≡ (pcg32 words).0
    → size ≡ (pcg32 (pcg32 words).1).0
    → x ≡ place % 65536 → y ≡ place / 65536 → w ≡ size % 65536 → h ≡ size / 65536
    → halves_text x y w h size ≡ rect_from words
unfolding halves_text rect_from generated_rect_line
halves_text_is words place size x y w h place_is size_is x_is y_is w_is h_is = cc

-- ---- Pieces of the script.

-- a number below a hundred in decimal
short : ℕ → List ℕ
short n = cond (nat_lt n 10) ((48 + n) ∷ []) ((48 + n / 10) ∷ (48 + n % 10) ∷ [])

short_is : (n : ℕ) → n < 100 → short n ≡ decimal n
unfolding short
short_is n lt =
    elim (cases_lt n 10) [
      | inl one ↦ ap (λ t. cond t ((48 + n) ∷ []) ((48 + n / 10) ∷ (48 + n % 10) ∷ [])) (lt-ltb n 10 one)
          ∙ sym (decimal_digit n one)
      | inr two ↦
          ap (λ t. cond t ((48 + n) ∷ []) ((48 + n / 10) ∷ (48 + n % 10) ∷ [])) (le-ltb n 10 two)
          ∙ sym (decimal_step n two (omega (arith, lt))
          ∙ ap (λ l. l ++ (48 + n % 10) ∷ []) (decimal_digit (n / 10) (omega arith)))
    ]

short_line : ℕ → List ℕ
short_line k = codes "colour " ++ short k ++ codes " 0" ++ digit_char k ∷ digit_char k ∷ digit_char k ∷ []
    ++ line_feed

short_lines : GREYS ≡ flat_map short_line (below 16)
unfolding short_line short
short_lines = refl

short_line_is : (k : ℕ) → k < 100 → short_line k ≡ grey_line k
unfolding short_line grey_line
short_line_is k lt =
    ap (λ l. codes "colour " ++ l ++ codes " 0" ++ digit_char k ∷ digit_char k ∷ digit_char k ∷ []
    ++ line_feed) (short_is k lt)

flat_map_range : (f g : ℕ → List ℕ) (a n : ℕ) → ((i : ℕ) → i < a + n → f i ≡ g i)
    → flat_map f (range_with_len a n) ≡ flat_map g (range_with_len a n)
flat_map_range f g a zero same = refl
flat_map_range f g a (suc n) same =
    ap₂ (λ (x y : List ℕ). x ++ y) (same a (omega arith))
    (flat_map_range f g (a + 1) n (λ i lt. same i (omega arith)))

greys_are : GREYS ≡ flat_map grey_line (below 16)
greys_are = short_lines ∙ flat_map_range short_line grey_line 0 16 (λ i lt. short_line_is i (omega arith))

pub script_first : (seed count : ℕ) (a c : Option (List ℕ)) → AppendsPrefix a c GREYS
    → AppendsPrefix a c (generated_script seed count)
unfolding generated_script
script_first seed count a c part =
    prefix_first a c (flat_map grey_line (below 16)) (flat_map (picture_lines seed) (below count)) _
    (subst (AppendsPrefix a c) greys_are part) refl

pub script_begun : (seed : ℕ) (a b : Option (List ℕ)) → Appends a b GREYS
    → Appends a b (generated_script seed 0)
unfolding generated_script
script_begun seed a b put = subst (Appends a b) (greys_are
    ∙ sym (append-nil (flat_map grey_line (below 16)))) put

pub script_next : (seed count k : ℕ) (a b c : Option (List ℕ)) → k < count
    → Appends a b (generated_script seed k) → AppendsPrefix b c (picture_lines seed k)
    → AppendsPrefix a c (generated_script seed count)
unfolding generated_script
script_next seed count k a b c lt put part =
    prefix_of_pieces a b c (flat_map grey_line (below 16)) (picture_lines seed) count k lt put part

pub script_more : (seed k : ℕ) (a b c : Option (List ℕ)) → Appends a b (generated_script seed k)
    → Appends b c (picture_lines seed k) → Appends a c (generated_script seed (k + 1))
unfolding generated_script
script_more seed k a b c put more =
    one_piece_more a b c (flat_map grey_line (below 16)) (picture_lines seed) k put more
