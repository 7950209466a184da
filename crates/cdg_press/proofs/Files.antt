-- The packs of a file one after another.
use Rattle.std.proofs.Common.{◌≡◌, ℕ, zero, suc, ◌+◌, ◌-◌, ◌/◌, ◌<◌, ◌≤◌, List, [], ◌∷◌, length, get_or, map, take, drop, inl, inr, sym, ap, subst, ◌∙◌, arith}
use Rattle.std.proofs.lemmas.List.{length-drop}
use Rattle.bit_lists.specs.Counting.{parts}
use Rattle.raw_subcode.specs.Channels.{symbols_of}
use Rattle.cdg_instructions.specs.MadeGood.{IsMadeGood}
use Rattle.cdg_press.specs.Pressed.{file_pack, file_packs, IsPackAfter}
use Rattle.stream_writer.specs.Given.{ComesLater}

-- the first pack of a file, and the others
packs_are : (file : List ℕ) → 24 ≤ length file
    → file_packs file ≡ symbols_of (take 24 file) ∷ file_packs (drop 24 file)
packs_are file long =
    let count : length file / 24 ≡ suc (length (drop 24 file) / 24) = omega (arith, length-drop 24 file) in
    ap (λ n. map symbols_of (parts n 24 file)) count

next_packs : (file : List ℕ) (n : ℕ) → 24 ≤ length file → file_pack file (n + 1) ≡ file_pack (drop 24 file) n
next_packs file n long =
    let next : n + 1 ≡ suc n = omega arith in
    ap (λ k. file_pack file k) next ∙ ap (λ (xs : List (List ℕ)). get_or xs (suc n) []) (packs_are file long)

-- the other packs of the file follow its first pack
later_of_file : (file rest : List ℕ) → 24 ≤ length file → rest ≡ drop 24 file
    → ComesLater (IsPackAfter 0 file) 1 (IsPackAfter 0 rest)
later_of_file file rest long same n pack comes =
    let size : length rest ≡ length file - 24 = ap length same ∙ length-drop 24 file in
    record {
      of_file = λ k at lt.
          let here : n ≡ 0 + n = omega arith in
          let inside : n < length rest / 24 = omega (arith, at, lt, size, long) in
          let place : n + 1 ≡ k = omega (arith, at) in
          subst (λ i. IsMadeGood (file_pack file i) pack) place
          (subst (λ (s : List ℕ). IsMadeGood s pack)
          (ap (λ (r : List ℕ). file_pack r n) same ∙ sym (next_packs file n long))
          (comes.of_file n here inside));
      idle = λ out. comes.idle (elim out [
        | inl before ↦ absurd (omega (arith, before))
        | inr past ↦ inr (omega (arith, past, size, long))
      ]);
    }

pub file_later : (wait : ℕ) (file rest : List ℕ) → wait ≤ 0 → 24 ≤ length file → rest ≡ drop 24 file
    → ComesLater (IsPackAfter wait file) 1 (IsPackAfter wait rest)
file_later zero file rest none long same = later_of_file file rest long same
file_later (suc wait) file rest none long same = absurd (omega (arith, none))
