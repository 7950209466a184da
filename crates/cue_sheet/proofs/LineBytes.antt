-- The bytes of the lines of a text and of their arguments.
use Rattle.std.proofs.Common.{ℕ, zero, suc, ◌-◌, ◌≤◌, Bool, not, ◌==◌, List, [], ◌∷◌, length, take, drop, reverse, All, sym, subst, arith}
use Rattle.std.specs.Prelude.{slice_index, nat_eq}
use Rattle.std.specs.List.{slice_split, onto_first, position_or_len, starts_with}
use Rattle.std.specs.Str.Lines.{lines_of_parts, strip_carriage_return}
use Rattle.std.proofs.lemmas.Bool.{cond_both}
use Rattle.std.proofs.lemmas.List.{length-take, length-drop, length-reverse, reverse-append}
use Rattle.std.proofs.lemmas.List.Elements.{All-append, All-take, All-drop}
use Rattle.text_lines.specs.Text.{is_blank, without_blanks, trimmed, first_word, argument_of, without_mark, lines_in, lines_of}
use Rattle.text_lines.proofs.WordSteps.{without_blanks_by_place}

-- at most `most` bytes, for each of which P holds
pub record Fits (P : ℕ → Type 0) (most : ℕ) (s : List ℕ) : Type 0 where
  pub bytes : All P s
  pub size : length s ≤ most

module _ (P : ℕ → Type 0) where
  abbrev pub EachFits : ℕ → List (List ℕ) → Type 0
  EachFits most [] = Unit {0}
  EachFits most (s ∷ rest) = Fits P most s × EachFits most rest

  fits_nothing : (most : ℕ) → Fits P most []
  fits_nothing most = record { bytes = λ k d less. absurd (omega arith); size = omega arith }

  fits_more : (most more : ℕ) (s : List ℕ) → most ≤ more → Fits P most s → Fits P more s
  fits_more most more s le fits = record { bytes = fits.bytes; size = omega (arith, fits.size) }

  each_fits_more : (most more : ℕ) (ss : List (List ℕ)) → most ≤ more → EachFits most ss → EachFits more ss
  each_fits_more most more [] le fits = tt
  each_fits_more most more (s ∷ ss) le fits =
      (fits_more most more s le fits.0, each_fits_more most more ss le fits.1)

  pub fits_take : (most n : ℕ) (s : List ℕ) → Fits P most s → Fits P most (take n s)
  fits_take most n s fits =
      record { bytes = All-take P n s fits.bytes; size = omega (arith, length-take n s, fits.size) }

  pub fits_drop : (most n : ℕ) (s : List ℕ) → Fits P most s → Fits P most (drop n s)
  fits_drop most n s fits =
      record { bytes = All-drop P n s fits.bytes; size = omega (arith, length-drop n s, fits.size) }

  one_more : (b : ℕ) (s : List ℕ) → P b → All P s → All P (b ∷ s)
  one_more b s small are zero d less = small
  one_more b s small are (suc k) d less = are k d (omega arith)

  bytes_reverse : (s : List ℕ) → All P s → All P (reverse s)
  bytes_reverse [] are = are
  bytes_reverse (b ∷ s) are =
      subst (All P) (sym (reverse-append (b ∷ []) s))
      (All-append P (reverse s) (b ∷ []) (bytes_reverse s (λ k d less. are (suc k) d (omega arith)))
      (one_more b [] (are 0 0 (omega arith)) (λ k d less. absurd (omega arith))))

  fits_reverse : (most : ℕ) (s : List ℕ) → Fits P most s → Fits P most (reverse s)
  fits_reverse most s fits =
      record { bytes = bytes_reverse s fits.bytes; size = omega (arith, length-reverse s, fits.size) }

  fits_blanks : (most : ℕ) (s : List ℕ) → Fits P most s → Fits P most (without_blanks s)
  fits_blanks most s fits =
      subst (Fits P most) (without_blanks_by_place s)
      (fits_drop most (position_or_len (λ b. not (is_blank b)) s) s fits)

  pub fits_trimmed : (most : ℕ) (line : List ℕ) → Fits P most line → Fits P most (trimmed line)
  unfolding trimmed
  fits_trimmed most line fits =
      fits_reverse most (without_blanks (reverse (without_blanks line))) (fits_blanks most
      (reverse (without_blanks line)) (fits_reverse most (without_blanks line) (fits_blanks most line fits)))

  pub fits_argument : (most : ℕ) (line : List ℕ) → Fits P most line → Fits P most (argument_of line)
  unfolding argument_of
  fits_argument most line fits =
      fits_blanks most (drop (length (first_word line)) line)
      (fits_drop most (length (first_word line)) line fits)

  -- Lines

  first_more : (x n : ℕ) (parts : List (List ℕ)) → P x → EachFits n parts
      → EachFits (suc n) (onto_first x parts)
  first_more x n [] small fits =
      (record { bytes = one_more x [] small (λ k d less. absurd (omega arith)); size = omega arith }, tt)
  first_more x n (part ∷ parts) small fits = (
    record { bytes = one_more x part small fits.0.bytes; size = omega (arith, fits.0.size) },
    each_fits_more n (suc n) parts (omega arith) fits.1,
  )

  parts_fit : (p : ℕ → Bool) (s : List ℕ) → All P s → EachFits (length s) (slice_split p s)
  parts_fit p [] are = (fits_nothing 0, tt)
  parts_fit p (b ∷ s) are =
      let rest : EachFits (length s) (slice_split p s) =
      parts_fit p s (λ k d less. are (suc k) d (omega arith)) in
      cond_both (p b) ([] ∷ slice_split p s) (onto_first b (slice_split p s)) (EachFits (suc (length s)))
      (λ _. (
        fits_nothing (suc (length s)),
        each_fits_more (length s) (suc (length s)) (slice_split p s) (omega arith) rest,
      ))
      (λ _. first_more b (length s) (slice_split p s) (are 0 0 (omega arith)) rest)

  fits_line : (most : ℕ) (s : List ℕ) → Fits P most s → Fits P most (strip_carriage_return s)
  fits_line most s fits =
      cond_both (slice_index s (length s - 1) == 13) (take (length s - 1) s) s (Fits P most)
      (λ _. fits_take most (length s - 1) s fits) (λ _. fits)

  lines_fit_parts : (most : ℕ) (parts : List (List ℕ)) → EachFits most parts
      → EachFits most (lines_of_parts parts)
  lines_fit_parts most [] fits = tt
  lines_fit_parts most (x ∷ []) fits =
      cond_both (length x == 0) [] (x ∷ []) (EachFits most) (λ _. tt) (λ _. fits)
  lines_fit_parts most (x ∷ y ∷ more) fits = (fits_line most x fits.0, lines_fit_parts most (y ∷ more) fits.1)

  pub lines_fit : (most : ℕ) (text : List ℕ) → Fits P most text → EachFits most (lines_of text)
  unfolding lines_in without_mark
  lines_fit most text fits =
      let bare : Fits P most (without_mark text) =
      cond_both (starts_with nat_eq text (0xef ∷ 0xbb ∷ 0xbf ∷ [])) (drop 3 text) text (Fits P most)
      (λ _. fits_drop most 3 text fits) (λ _. fits) in
      each_fits_more (length (without_mark text)) most (lines_of text) bare.size
      (lines_fit_parts (length (without_mark text)) (slice_split (λ b. b == 10) (without_mark text))
      (parts_fit (λ b. b == 10) (without_mark text) bare.bytes))
