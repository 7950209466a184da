-- Each pack number of a script has one pack.
use Rattle.std.proofs.Common.{◌≡◌, ◌⊎◌, ℕ, zero, suc, ◌+◌, ◌<◌, ◌≤◌, List, [], length, get_or, drop, sym, subst, ◌∙◌, inl, inr, arith}
use Rattle.std.proofs.lemmas.Bool.{cases_lt, cases_eq}
use Rattle.std.proofs.lemmas.List.{ext_get_or, get_or-drop}
use Rattle.rw_code.specs.Codeword.{HasSymbols}
use Rattle.rw_code.proofs.Parity.{only_one_sealed}
use Rattle.cdg_instructions.specs.Instruction.{IsWritten, written_symbols}
use Rattle.cdg_instructions.specs.declared.instr.Instr.{Instr}
use Rattle.cdg_instructions.proofs.Symbols.{message_of-has}
use Rattle.picture_script.specs.Script.{Drawing, pictures}
use Rattle.pack_schedule.specs.Schedule.{start_of}
use Rattle.pack_schedule.specs.PlannedChange.{planned_change}
use Rattle.pack_schedule.specs.Woven.{IsPackAt, ArePacks}

has_symbols : (instr : Instr) (word : List ℕ) → IsWritten instr word
    → HasSymbols word (written_symbols instr) (drop 2 (written_symbols instr))
has_symbols instr word written =
    let has = message_of-has word (written_symbols instr) written.codeword.is_word.size written.message in
    record {
      at_head = has.head;
      at_body = λ k lt. has.body k lt ∙ sym (get_or-drop 2 (written_symbols instr) k 0);
    }

-- an instruction is written as one codeword
pub one_written : (instr : Instr) (one other : List ℕ) → IsWritten instr one → IsWritten instr other
    → one ≡ other
one_written instr one other a b =
    only_one_sealed (written_symbols instr) (drop 2 (written_symbols instr)) one other a.codeword b.codeword
    (has_symbols instr one a) (has_symbols instr other b)

-- a pack number is in one of the first changes, or in none of them
pub in_change : (script : List Drawing) (n m : ℕ)
    → ((k : ℕ)
    × (k < m)
    × (start_of script k ≤ n)
    × (n < start_of script k + length (planned_change script k)))
    ⊎ ((k : ℕ) → k < m → (n < start_of script k) ⊎ (start_of script k + length (planned_change script k) ≤ n))
in_change script n zero = inr (λ k lt. absurd (omega arith))
in_change script n (suc m) = elim (in_change script n m) [
  | inl here ↦ inl (here.0, omega (arith, here.1), here.2, here.3)
  | inr none ↦ elim (cases_lt n (start_of script m)) [
    | inl early ↦ inr (λ k lt. elim (cases_eq k m) [
      | inl same ↦
          subst (λ j. (n < start_of script j) ⊎ (start_of script j + length (planned_change script j) ≤ n))
          (sym same) (inl early)
      | inr apart ↦ none k (omega arith)
    ])
    | inr from ↦ elim (cases_lt n (start_of script m + length (planned_change script m))) [
      | inl inside ↦ inl (m, omega arith, from, inside)
      | inr late ↦ inr (λ k lt. elim (cases_eq k m) [
        | inl same ↦
            subst (λ j. (n < start_of script j) ⊎ (start_of script j + length (planned_change script j) ≤ n))
            (sym same) (inr late)
        | inr apart ↦ none k (omega arith)
      ])
    ]
  ]
]

pub one_pack : (script : List Drawing) (n : ℕ) (one other : List ℕ) → IsPackAt script n one
    → IsPackAt script n other
    → one ≡ other
one_pack script n one other a b = elim (in_change script n (pictures script)) [
  | inl (k, lt, from, inside) ↦
      one_written _ one other (a.changed k lt from inside) (b.changed k lt from inside)
  | inr none ↦ a.idle none ∙ sym (b.idle none)
]

pub same_packs : (script : List Drawing) (one other : List (List ℕ)) → length one ≡ length other
    → ArePacks script one → ArePacks script other
    → one ≡ other
same_packs script one other size a b =
    ext_get_or {A = List ℕ} [] one other size
    (λ n lt. one_pack script n (get_or one n []) (get_or other n []) (a n lt) (b n (omega (arith, size, lt))))
