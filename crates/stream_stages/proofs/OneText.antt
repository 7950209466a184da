-- A call writes only one text for given bytes.
use Rattle.std.proofs.Common.{◌≡◌, ◌↔◌, ℕ, ◌-◌, ◌/◌, ◌<◌, Bool, List, [], ◌∷◌, length, map, take, drop, min, sym, ap, ap₂, ◌∙◌, subst, arith, count_by, Some, None, Result, Ok}
use Rattle.std.specs.Prelude.{is_err}
use Rattle.std.specs.declared.option.Option.{Option}
use Rattle.std.proofs.Math.Nat.{div-mul-le_self}
use Rattle.std.proofs.lemmas.List.{ext_get_or, length-map}
use Rattle.cdg_io.specs.Pump.{units_of}
use Rattle.bit_lists.specs.Counting.{below}
use Rattle.rw_code.specs.Codeword.{IsWord}
use Rattle.rw_code.specs.Finding.{IsFinding, finding}
use Rattle.rw_interleave.specs.Interleave.{whole_packs}
use Rattle.raw_subcode.specs.Channels.{unit_size, blocks_of, program_symbols, q_bits, channel_bit}
use Rattle.raw_subcode.specs.declared.form.Form.{Form}
use Rattle.raw_subcode.specs.declared.form.Form.TheVariants.{Raw, Sector, Cooked}
use Rattle.rw_interleave.specs.Stream.{IsRecovered, bad_count, form_word, word_count}
use Rattle.rw_interleave.specs.Texts.{cdg_bytes}
use Rattle.rw_interleave.proofs.Recovery.{form_words}
use Rattle.cdg_instructions.specs.Instruction.{Means}
use Rattle.cdg_instructions.specs.declared.instr.Instr.{Instr}
use Rattle.cdg_screen.specs.Standing.{Standing, blank, standing_after}
use Rattle.q_channel.specs.declared.frame.QFrame.{QFrame}
use Rattle.q_channel.specs.declared.frame.QFault.{QFault}
use Rattle.q_channel.specs.QReading.{IsReading}
use Rattle.q_channel.specs.ReadingOf.{reading_of}
use Rattle.q_channel.specs.QList.{AreQReadings, IsQListed, q_blocks, q_lines}
use Rattle.cdtext_packs.specs.Texts.{Texts}
use Rattle.cdtext_packs.specs.declared.kinds.TextFault.{TextFault}
use Rattle.cdtext_packs.specs.TextLines.{text_lines}
use Rattle.stream_stages.specs.Convert.{IsConverted}
use Rattle.stream_stages.specs.Check.{IsCheckListed, check_text}
use Rattle.stream_stages.specs.Screen.{AreMeant, AreShown, IsWrittenAt, moment}
use Rattle.stream_stages.specs.TextListing.{IsTextListed, packs_in}
use Rattle.stream_stages.proofs.Slots.{Sized, symbols_small}
use Rattle.stream_stages.proofs.Conversion.{units_sized, blocks_sized}

-- the laws that this file uses
abbrev pub OneFinding : Type 0
OneFinding = (received : List ℕ) (found : Option (List ℕ)) → IsWord received → IsFinding received found
    → found ≡ finding received

abbrev pub OneMeaning : Type 0
OneMeaning = (word : List ℕ) (one other : Instr) → Means word one → Means word other → one ≡ other

abbrev pub OneReading : Type 0
OneReading = (message : List Bool) (what : Result QFrame QFault) → length message ≡ 96
    → IsReading message what ↔ (what ≡ reading_of message)

-- the list of findings is unique
pub one_found : OneFinding → (form : Form) (lead_in : ℕ) (bytes : List ℕ) (one other : List (Option (List ℕ)))
    → IsRecovered form (program_symbols form bytes lead_in) one
    → IsRecovered form (program_symbols form bytes lead_in) other → one ≡ other
one_found law form lead_in bytes one other r r' =
    let symbols : List ℕ = program_symbols form bytes lead_in in
    let is_word : (n : ℕ) → IsWord (form_word form (program_symbols form bytes lead_in) n) =
    λ n. form_words form (program_symbols form bytes lead_in) n
    (symbols_small (drop lead_in (blocks_of form bytes))) in
    ext_get_or None one other (r.count ∙ sym r'.count) (λ n lt.
    let within : n < word_count form (length (program_symbols form bytes lead_in) / 96) =
    omega (arith, lt, r.count) in
    law _ _ (is_word n) (r.each n within) ∙ sym (law _ _ (is_word n) (r'.each n within)))

-- the list of instructions is unique
one_meant : OneMeaning → (found : List (Option (List ℕ))) (one other : List Instr) → AreMeant found one
    → AreMeant found other
    → one ≡ other
one_meant law [] one other a b = a ∙ sym b
one_meant law (None ∷ rest) one other a b = one_meant law rest one other a b
one_meant law (Some word ∷ rest) [] other a b = absurd a
one_meant law (Some word ∷ rest) (instr ∷ one) [] a b = absurd b
one_meant law (Some word ∷ rest) (instr ∷ one) (more ∷ other) a b =
    ap₂ (λ (i : Instr) (l : List Instr). i ∷ l) (law word instr more a.0 b.0)
    (one_meant law rest one other a.1 b.1)

-- the list of readings is unique
one_read : OneReading → (blocks : List (List ℕ)) → Sized 96 blocks → (one other : List (Result QFrame QFault))
    → AreQReadings blocks one → AreQReadings blocks other
    → one ≡ other
one_read law [] sized one other a b = a ∙ sym b
one_read law (block ∷ rest) sized [] other a b = absurd a
one_read law (block ∷ rest) sized (x ∷ one) [] a b = absurd b
one_read law (block ∷ rest) sized (x ∷ one) (y ∷ other) a b =
    let size : length (q_bits block) ≡ 96 = length-map block (channel_bit 1) ∙ sized.0 in
    ap₂ (λ (r : Result QFrame QFault) (l : List (Result QFrame QFault)). r ∷ l)
    ((law (q_bits block) x size).0 a.0 ∙ sym ((law (q_bits block) y size).0 b.0))
    (one_read law rest sized.1 one other a.1 b.1)

all_sized : (form : Form) (bytes : List ℕ) → Sized 96 (blocks_of form bytes)
all_sized form bytes =
    blocks_sized form (units_of (unit_size form) (length bytes / unit_size form) bytes)
    (units_sized (unit_size form) (length bytes / unit_size form) bytes
    (div-mul-le_self (length bytes) (unit_size form)))

q_sized : (form : Form) (bytes : List ℕ) → Sized 96 (q_blocks form bytes)
q_sized Raw bytes = all_sized Raw bytes
q_sized Sector bytes = all_sized Sector bytes
q_sized Cooked bytes = tt

pub one_conversion : OneFinding → (form : Form) (lead_in : ℕ) (bytes one other : List ℕ) (bad another : ℕ)
    → IsConverted form lead_in bytes one bad → IsConverted form lead_in bytes other another
    → (one ≡ other) × (bad ≡ another)
one_conversion law form lead_in bytes one other bad another a b =
    let same = one_found law form lead_in bytes a.found b.found a.recovered b.recovered in
    (a.text_is ∙ ap cdg_bytes same ∙ sym b.text_is, a.bad_is ∙ ap bad_count same ∙ sym b.bad_is)

pub one_showing : OneFinding → OneMeaning
    → (write : Standing → List ℕ) (form : Form) (lead_in time : ℕ) (bytes one other : List ℕ)
    (bad another : ℕ)
    → IsWrittenAt write (moment form lead_in time) bytes one bad
    → IsWrittenAt write (moment form lead_in time) bytes other another → (one ≡ other) × (bad ≡ another)
one_showing law meaning write form lead_in time bytes one other bad another a b =
    let same = one_found law form lead_in bytes a.found b.found a.recovered b.recovered in
    let shown : AreShown b.found time a.instrs =
    subst (λ (l : List (Option (List ℕ))). AreShown l time a.instrs) same a.shown in
    let instrs = one_meant meaning (take (whole_packs time) b.found) a.instrs b.instrs shown b.shown in (
      a.text_is ∙ ap (λ (l : List Instr). write (standing_after blank l)) instrs ∙ sym b.text_is,
      a.bad_is
          ∙ ap (λ (l : List (Option (List ℕ))). bad_count (take (whole_packs time) l)) same
          ∙ sym b.bad_is,
    )

pub one_check : OneFinding → OneReading
    → (form : Form) (lead_in : ℕ) (bytes one other : List ℕ) (bad another : ℕ)
    → IsCheckListed form lead_in bytes one bad → IsCheckListed form lead_in bytes other another
    → (one ≡ other) × (bad ≡ another)
one_check law reading form lead_in bytes one other bad another a b =
    let same = one_found law form lead_in bytes a.found b.found a.recovered b.recovered in
    let read =
    one_read reading (q_blocks form bytes) (q_sized form bytes) a.readings b.readings a.read b.read in
    let blocks : ℕ = length (blocks_of form bytes) in
    let words : List (List ℕ) =
    map (form_word form (program_symbols form bytes lead_in))
    (below (word_count form (length (blocks_of form bytes) - lead_in))) in (
      a.text_is ∙ ap₂ (check_text (min lead_in blocks) (blocks - lead_in) words) same read ∙ sym b.text_is,
      a.bad_is ∙ ap bad_count same ∙ sym b.bad_is,
    )

pub one_q_list : OneReading → (form : Form) (bytes one other : List ℕ) (bad another : ℕ)
    → IsQListed form bytes one bad → IsQListed form bytes other another
    → (one ≡ other) × (bad ≡ another)
one_q_list reading form bytes one other bad another a b =
    let read =
    one_read reading (q_blocks form bytes) (q_sized form bytes) a.readings b.readings a.read b.read in
    (a.text_is ∙ ap (q_lines 0) read ∙ sym b.text_is, a.bad_is ∙ ap (count_by is_err) read ∙ sym b.bad_is)

same_texts : (one other : Texts) → ◌≡◌ {A = Result Texts TextFault} (Ok one) (Ok other) → one ≡ other
same_texts one other e = (cc)

pub one_text_list : (form : Form) (lead_in : ℕ) (bytes one other : List ℕ) (bad another : ℕ)
    → IsTextListed form lead_in bytes one bad → IsTextListed form lead_in bytes other another
    → (one ≡ other) × (bad ≡ another)
one_text_list form lead_in bytes one other bad another a b = (
  a.text_is
      ∙ ap (λ (t : Texts). text_lines t (packs_in form lead_in bytes))
      (same_texts a.texts b.texts (sym a.read ∙ b.read))
      ∙ sym b.text_is,
  a.none_bad ∙ sym b.none_bad,
)
