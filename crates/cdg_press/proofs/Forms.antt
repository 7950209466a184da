-- Facts about thin forms.
use Rattle.std.proofs.Common.{◌≡◌, ℕ, zero, suc, ◌+◌, ◌*◌, ◌/◌, ◌<◌, true≢false, List, [], ◌∷◌, ◌++◌, length, get_or, take, drop, map, refl, sym, ap, ap₂, ◌∙◌, subst, inl, inr, arith, length-append}
use Rattle.std.specs.Prelude.{IsTrue}
use Rattle.std.specs.List.{concat}
use Rattle.std.proofs.lemmas.Bool.{cases_lt}
use Rattle.std.proofs.lemmas.List.{length-map, get_or-map, get_or-take, take_more, take_all, same_lists, length-take-le}
use Rattle.std.proofs.Math.Seq.{take-append_seam, drop-append_seam}
use Rattle.bit_lists.specs.Counting.{parts, whole_parts}
use Rattle.cdg_screen.specs.Standing.{Standing, blank, standing_after}
use Rattle.cdg_screen.proofs.Turns.{in_turn, same_further, whole_after}
use Rattle.cdg_instructions.specs.declared.instr.Instr.{Instr}
use Rattle.cdg_instructions.specs.declared.instr.Instr.TheVariants.{Idle}
use Rattle.rw_code.specs.Packs.{idle_pack}
use Rattle.cdg_press.specs.Thin.{AreInstructionsOf, IsInstructionOf, IsNeedless, IsThinned, is_graphic, IsThinForm, IsThinText, StandAlike}
use Rattle.cdg_press.specs.Steps.{pack_instruction}
use Rattle.cdg_press.proofs.Meanings.{only_instruction, instruction_size, idle_instruction}

-- pack n and instruction n of a list
abbrev pack_at : List (List ℕ) → ℕ → List ℕ
pack_at packs n = get_or packs n []

abbrev instr_at : List Instr → ℕ → Instr
instr_at instrs n = get_or instrs n Idle

-- the instructions of all packs, as a function
abbrev pub instructions_of : List (List ℕ) → List Instr
instructions_of packs = map pack_instruction packs

-- the standing after some instructions from the start
abbrev pub after : List Instr → Standing
after instrs = standing_after blank instrs

idle_changes_nothing : (before : List Instr) → after (before ++ Idle ∷ []) ≡ after before
idle_changes_nothing before = in_turn blank before (Idle ∷ []) ∙ whole_after blank before

-- ---- instructions of packs

pub instructions_at : (packs : List (List ℕ)) (n : ℕ) → n < length packs
    → instr_at (instructions_of packs) n ≡ pack_instruction (pack_at packs n)
instructions_at packs n lt = get_or-map pack_instruction packs n [] Idle lt

-- packs of 24 bytes have these instructions
pub read_each : (packs : List (List ℕ))
    → ((n : ℕ) → n < length packs → IsInstructionOf (pack_at packs n) (pack_instruction (pack_at packs n)))
    → AreInstructionsOf packs (instructions_of packs)
read_each packs each = record {
  count = length-map packs pack_instruction;
  each = λ n lt. subst (IsInstructionOf (pack_at packs n)) (sym (instructions_at packs n lt)) (each n lt);
}

default_at : {X : Type 0} (xs : List X) (n : ℕ) (d e : X) → n < length xs → get_or xs n d ≡ get_or xs n e
default_at [] n d e lt = absurd (omega arith)
default_at (x ∷ xs) zero d e lt = refl
default_at (x ∷ xs) (suc n) d e lt = default_at xs n d e (omega arith)

-- and no other instructions
pub only_reading : (packs : List (List ℕ)) (instrs : List Instr) → AreInstructionsOf packs instrs
    → instrs ≡ instructions_of packs
only_reading packs instrs h =
    same_lists instrs (instructions_of packs) (h.count ∙ sym (length-map packs pack_instruction)) (λ n d lt.
    let n_lt : n < length packs = omega (arith, h.count) in
    default_at instrs n d Idle lt
    ∙ only_instruction (pack_at packs n) (instr_at instrs n) (h.each n n_lt)
    ∙ sym (instructions_at packs n n_lt)
    ∙ sym (default_at (instructions_of packs) n d Idle (omega (arith, length-map packs pack_instruction))))

pub first_read : (m : ℕ) (packs : List (List ℕ)) (instrs : List Instr) → AreInstructionsOf packs instrs
    → AreInstructionsOf (take m packs) (take m instrs)
first_read m packs instrs h =
    elim (cases_lt m (length packs)) [
      | inl lt ↦
          let packs_len = length-take-le m packs (omega arith) in
          let instrs_len = length-take-le m instrs (omega (arith, h.count)) in
          record {
            count = omega (arith, packs_len, instrs_len);
            each = λ n n_lt.
                let within : n < m = omega (arith, packs_len) in
                subst (λ (p : List ℕ). IsInstructionOf p (instr_at (take m instrs) n))
                (sym (get_or-take m packs n [] within))
                (subst (IsInstructionOf (pack_at packs n)) (sym (get_or-take m instrs n Idle within))
                (h.each n (omega arith)));
          }
      | inr past ↦ rw (take_all m packs past, take_all m instrs (omega (arith, h.count))) h
    ]

-- ---- a thin form has the same standing

pub thin_read : (packs thins : List (List ℕ)) → IsThinForm packs thins
    → AreInstructionsOf thins (instructions_of thins)
thin_read packs thins f = read_each thins (λ n n_lt.
    let lt : n < length packs = omega (arith, f.count) in
    elim (f.each n lt) [
      | inl idle ↦
          subst (λ (p : List ℕ). IsInstructionOf p (pack_instruction p)) (sym idle.1) (subst
          (IsInstructionOf idle_pack) (only_instruction idle_pack Idle idle_instruction) idle_instruction)
      | inr kept ↦
          subst (λ (p : List ℕ). IsInstructionOf p (pack_instruction p)) (sym kept.1)
          (subst (IsInstructionOf (pack_at packs n))
          (only_instruction (pack_at packs n) (instr_at f.instrs n) (f.read.each n lt)) (f.read.each n lt))
    ])

-- instruction n of the thin form
idled_instr : (thins : List (List ℕ)) (n : ℕ) → n < length thins → pack_at thins n ≡ idle_pack
    → instr_at (instructions_of thins) n ≡ Idle
idled_instr thins n lt same =
    instructions_at thins n lt
    ∙ ap pack_instruction same
    ∙ sym (only_instruction idle_pack Idle idle_instruction)

kept_instr : (packs thins : List (List ℕ)) (instrs : List Instr) (n : ℕ) → AreInstructionsOf packs instrs
    → n < length packs → n < length thins → pack_at thins n ≡ pack_at packs n
    → instr_at (instructions_of thins) n ≡ instr_at instrs n
kept_instr packs thins instrs n read lt thin_lt same =
    instructions_at thins n thin_lt
    ∙ ap pack_instruction same
    ∙ sym (only_instruction (pack_at packs n) (instr_at instrs n) (read.each n lt))

pub stand_alike : (packs thins : List (List ℕ)) (f : IsThinForm packs thins) (m : ℕ)
    → after (take m f.instrs) ≡ after (take m (instructions_of thins))
stand_alike packs thins f zero = refl
stand_alike packs thins f (suc m) =
    let others : List Instr = instructions_of thins in
    let others_count : length others ≡ length packs = length-map thins pack_instruction ∙ f.count in
    let before = stand_alike packs thins f m in
    let next : suc m ≡ m + 1 = omega arith in
    subst (λ k. after (take k f.instrs) ≡ after (take k others)) (sym next)
    (elim (cases_lt m (length packs)) [
      | inl lt ↦
          let thin_lt : m < length thins = omega (arith, f.count) in
          rw (take_more f.instrs m Idle (omega (arith, f.read.count)), take_more others m Idle (omega arith))
          (elim (f.each m lt) [
            | inl idle ↦
                subst (λ (i : Instr).
                after (take m f.instrs ++ instr_at f.instrs m ∷ []) ≡ after (take m others ++ i ∷ []))
                (sym (idled_instr thins m thin_lt idle.1))
                (idle.0.nothing ∙ before ∙ sym (idle_changes_nothing (take m others)))
            | inr kept ↦
                subst (λ (i : Instr).
                after (take m f.instrs ++ instr_at f.instrs m ∷ []) ≡ after (take m others ++ i ∷ []))
                (sym (kept_instr packs thins f.instrs m f.read lt thin_lt kept.1))
                (same_further blank blank (take m f.instrs) (take m others) (instr_at f.instrs m ∷ []) before)
          ])
      | inr past ↦
          let all : (xs : List Instr) → length xs ≡ length packs → take (m + 1) xs ≡ take m xs =
          λ xs len. take_all (m + 1) xs (omega arith) ∙ sym (take_all m xs (omega arith)) in
          rw (all f.instrs f.read.count, all others others_count) before
    ])

-- whether an instruction is needless depends only on the standing before it
pub needless_alike : (one other : List Instr) (instr : Instr) → after one ≡ after other → IsNeedless one instr
    → IsNeedless other instr
needless_alike one other instr same h = record {
  graphic = h.graphic;
  nothing = sym (same_further blank blank one other (instr ∷ []) same) ∙ h.nothing ∙ same;
}

-- the thin form of a thin form
pub thin_again : (packs thins : List (List ℕ)) → IsThinForm packs thins → IsThinForm thins thins
thin_again packs thins f = record {
  instrs = instructions_of thins;
  read = thin_read packs thins f;
  count = refl;
  each = λ n thin_lt.
      let lt : n < length packs = omega (arith, f.count) in
      let others : List Instr = instructions_of thins in
      elim (f.each n lt) [
        | inl idle ↦
            let is_idle = idled_instr thins n thin_lt idle.1 in
            inr (
              (λ needless.
                  true≢false (sym (subst (λ (i : Instr). IsTrue (is_graphic i)) is_idle needless.graphic))),
              refl,
            )
        | inr kept ↦
            let same = kept_instr packs thins f.instrs n f.read lt thin_lt kept.1 in
            inr (
              (λ needless. kept.0 (needless_alike (take n others) (take n f.instrs) (instr_at f.instrs n)
                  (sym (stand_alike packs thins f n)) (subst (IsNeedless (take n others)) same needless))),
              refl,
            )
      ];
}

one_thinned : (before : List Instr) (instr : Instr) (pack one other : List ℕ)
    → IsThinned before instr pack one → IsThinned before instr pack other
    → one ≡ other
one_thinned before instr pack one other (inl a) (inl b) = a.1 ∙ sym b.1
one_thinned before instr pack one other (inl a) (inr b) = absurd (b.0 a.0)
one_thinned before instr pack one other (inr a) (inl b) = absurd (a.0 b.0)
one_thinned before instr pack one other (inr a) (inr b) = a.1 ∙ sym b.1

-- packs have one thin form
pub only_thin : (packs one other : List (List ℕ)) → IsThinForm packs one → IsThinForm packs other
    → one ≡ other
only_thin packs one other f g =
    let instrs : f.instrs ≡ g.instrs =
    only_reading packs f.instrs f.read ∙ sym (only_reading packs g.instrs g.read) in
    same_lists one other (f.count ∙ sym g.count) (λ n d lt.
    let n_lt : n < length packs = omega (arith, f.count) in
    let also : IsThinned (take n f.instrs) (instr_at f.instrs n) (pack_at packs n) (pack_at other n) =
    subst (λ (is : List Instr). IsThinned (take n is) (instr_at is n) (pack_at packs n) (pack_at other n))
    (sym instrs) (g.each n n_lt) in
    default_at one n d [] lt
    ∙ one_thinned _ _ _ _ _ (f.each n n_lt) also
    ∙ sym (default_at other n d [] (omega (arith, f.count, g.count))))

-- ---- the packs of a text

abbrev Sized : List (List ℕ) → Type 0
Sized packs = (n : ℕ) → n < length packs → length (pack_at packs n) ≡ 24

later : (pack : List ℕ) (packs : List (List ℕ)) → Sized (pack ∷ packs) → Sized packs
later pack packs sized n lt = sized (suc n) (omega arith)

length-joined : (packs : List (List ℕ)) → Sized packs → length (concat packs) ≡ 24 * length packs
length-joined [] sized = refl
length-joined (p ∷ packs) sized =
    length-append p (concat packs)
    ∙ omega (arith, length-joined packs (later p packs sized), sized 0 (omega arith))

parts-joined : (packs : List (List ℕ)) → Sized packs → parts (length packs) 24 (concat packs) ≡ packs
parts-joined [] sized = refl
parts-joined (p ∷ packs) sized =
    let size : length p ≡ 24 = sized 0 (omega arith) in
    let front : take 24 (p ++ concat packs) ≡ p =
    ap (λ k. take k (p ++ concat packs)) (sym size) ∙ take-append_seam p (concat packs) in
    let back : drop 24 (p ++ concat packs) ≡ concat packs =
    ap (λ k. drop k (p ++ concat packs)) (sym size) ∙ drop-append_seam p (concat packs) in
    ap₂ (λ (y : List ℕ) (ys : List (List ℕ)). y ∷ ys) front
    (ap (parts (length packs) 24) back ∙ parts-joined packs (later p packs sized))

thins_sized : (packs thins : List (List ℕ)) → IsThinForm packs thins → Sized thins
thins_sized packs thins f n lt = instruction_size (pack_at thins n) _ ((thin_read packs thins f).each n lt)

text_packs : (bytes text : List ℕ) (t : IsThinText bytes text) → whole_parts 24 text ≡ t.thins
text_packs bytes text t =
    let sized = thins_sized (whole_parts 24 bytes) t.thins t.form in
    let count : length text / 24 ≡ length t.thins =
    ap (λ (xs : List ℕ). length xs / 24) t.text_is ∙ omega (arith, length-joined t.thins sized) in
    ap₂ (λ k xs. parts k 24 xs) count t.text_is ∙ parts-joined t.thins sized

length-parts : (count : ℕ) (xs : List ℕ) → length (parts count 24 xs) ≡ count
length-parts zero xs = refl
length-parts (suc count) xs = ap suc (length-parts count (drop 24 xs))

pub text_size : (bytes text : List ℕ) → IsThinText bytes text → length text ≡ 24 * (length bytes / 24)
text_size bytes text t =
    ap length t.text_is
    ∙ length-joined t.thins (thins_sized (whole_parts 24 bytes) t.thins t.form)
    ∙ ap (λ n. 24 * n) (t.form.count ∙ length-parts (length bytes / 24) bytes)

pub text_alike : (bytes text : List ℕ) (m : ℕ) → IsThinText bytes text
    → StandAlike m (whole_parts 24 bytes) (whole_parts 24 text)
text_alike bytes text m t =
    let packs : List (List ℕ) = whole_parts 24 bytes in
    subst (StandAlike m packs) (sym (text_packs bytes text t)) record {
      instrs = take m t.form.instrs;
      other_instrs = take m (instructions_of t.thins);
      read = first_read m packs t.form.instrs t.form.read;
      other_read = first_read m t.thins (instructions_of t.thins) (thin_read packs t.thins t.form);
      same = stand_alike packs t.thins t.form m;
    }

pub text_again : (bytes text : List ℕ) → IsThinText bytes text → IsThinText text text
text_again bytes text t = record {
  thins = t.thins;
  form =
      subst (λ (packs : List (List ℕ)). IsThinForm packs t.thins) (sym (text_packs bytes text t))
      (thin_again (whole_parts 24 bytes) t.thins t.form);
  text_is = t.text_is;
}

pub only_text : (bytes one other : List ℕ) → IsThinText bytes one → IsThinText bytes other → one ≡ other
only_text bytes one other s t =
    s.text_is ∙ ap concat (only_thin (whole_parts 24 bytes) s.thins t.thins s.form t.form) ∙ sym t.text_is
