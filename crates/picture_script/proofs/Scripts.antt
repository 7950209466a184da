-- The lines before the show lines of a script.
use Rattle.std.proofs.Common.{◌≡◌, ℕ, zero, suc, ◌<◌, ◌≤◌, List, [], ◌∷◌, ◌++◌, length, take, refl, ap, arith}
use Rattle.picture_script.specs.Script.{Drawing, Show, shows, pictures, lines_before}

-- the lines before a `show` line are the first lines of the script
pub before_prefix : (script : List Drawing) (k : ℕ)
    → lines_before script k ≡ take (length (lines_before script k)) script
unfolding lines_before
before_prefix [] k = refl
before_prefix (Show ready hold ∷ rest) zero = refl
before_prefix (Show ready hold ∷ rest) (suc k) = ap (λ xs. Show ready hold ∷ xs) (before_prefix rest k)
before_prefix (line ∷ rest) k = ap (λ xs. line ∷ xs) (before_prefix rest k)

-- a later `show` line has no fewer lines before it
pub before_rising : (script : List Drawing) (j k : ℕ) → j ≤ k
    → length (lines_before script j) ≤ length (lines_before script k)
unfolding lines_before
before_rising [] j k h = omega arith
before_rising (Show ready hold ∷ rest) zero k h = omega arith
before_rising (Show ready hold ∷ rest) (suc j) zero h = absurd (omega arith)
before_rising (Show ready hold ∷ rest) (suc j) (suc k) h = omega (arith, before_rising rest j k (omega arith))
before_rising (line ∷ rest) j k h = omega (arith, before_rising rest j k h)

-- a further line does not change the lines before earlier `show` lines
pub before_snoc : (script : List Drawing) (line : Drawing) (k : ℕ) → k < pictures script
    → lines_before (script ++ line ∷ []) k ≡ lines_before script k
unfolding lines_before shows
before_snoc [] line k h = absurd (omega arith)
before_snoc (Show ready hold ∷ rest) line zero h = refl
before_snoc (Show ready hold ∷ rest) line (suc k) h =
    ap (λ xs. Show ready hold ∷ xs) (before_snoc rest line k (omega arith))
before_snoc (other ∷ rest) line k h = ap (λ xs. other ∷ xs) (before_snoc rest line k h)

-- a new `show` line has all lines before it
pub before_last : (script : List Drawing) (ready hold : ℕ)
    → lines_before (script ++ Show ready hold ∷ []) (pictures script) ≡ script
unfolding lines_before shows
before_last [] ready hold = refl
before_last (Show r h ∷ rest) ready hold = ap (λ xs. Show r h ∷ xs) (before_last rest ready hold)
before_last (line ∷ rest) ready hold = ap (λ xs. line ∷ xs) (before_last rest ready hold)
