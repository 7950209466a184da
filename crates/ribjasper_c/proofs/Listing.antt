-- The answers of a call that lists texts.
use Rattle.std.proofs.Common.{◌≡◌, ◌≢◌, ◌⊎◌, ℕ, ℤ, List, Ok, Err, Result, refl, sym, ap, ◌∙◌, subst, inl, inr}
use Rattle.std.specs.Prelude.{pos, IsOk, IfOk, IfErr}
use mir.Val.{to_z, of_z}
use mir.Syntax.{w32}
use Rattle.raw_subcode.specs.declared.form.Form.{Form}
use Rattle.cdtext_packs.specs.Reading.{read_texts}
use Rattle.cdtext_packs.specs.Texts.{Texts}
use Rattle.cdtext_packs.specs.TextLines.{counted_lines}
use Rattle.cdtext_packs.specs.TextSteps.{HasRead}
use Rattle.cdtext_packs.specs.declared.kinds.TextFault.{TextFault}
use Rattle.cdtext_packs.specs.declared.kinds.TextFault.TheVariants.{Missing, NoSize, Malformed, NoMemory}
use Rattle.cdtext_packs.specs.declared.lead_in_texts.LeadInTexts.{LeadInTexts}
use Rattle.stream_stages.specs.TextListing.{packs_in, texts_of_lead_in, IsTextFault, IsTextListed}
use Rattle.ribjasper_c.specs.LeadIns.{fault_answer, listed_fault, IsRefusedBy}
use Rattle.ribjasper_c.specs.declared.lead_in.Listed.{Listed}
use Rattle.ribjasper_c.proofs.ExitNumbers.{is_other}

same_counts : (texts : Texts) (good bad other good' bad' other' : ℕ) → good ≡ good' → bad ≡ bad'
    → other ≡ other'
    → counted_lines texts good bad other ≡ counted_lines texts good' bad' other'
same_counts texts good bad other good' bad' other' e f g =
    ap (λ (n : ℕ). counted_lines texts n bad other) e
    ∙ ap (λ (n : ℕ). counted_lines texts good' n other) f
    ∙ ap (λ (n : ℕ). counted_lines texts good' bad' n) g

-- an answer is unchanged as a C integer
pub passed_on : (fault : TextFault) (answer : ℤ) → answer ≡ fault_answer fault
    → to_z w32 (of_z w32 answer) ≡ fault_answer fault
passed_on (Missing seq) answer e = ap (λ (z : ℤ). to_z w32 (of_z w32 z)) e
passed_on NoSize answer e = ap (λ (z : ℤ). to_z w32 (of_z w32 z)) e
passed_on (Malformed seq byte) answer e = ap (λ (z : ℤ). to_z w32 (of_z w32 z)) e
passed_on NoMemory answer e = ap (λ (z : ℤ). to_z w32 (of_z w32 z)) e

-- memory is not found, or the packs have this fault
abbrev IsFaultOrShort : TextFault → Result Texts TextFault → Type 0
IsFaultOrShort fault texts = (fault ≡ NoMemory) ⊎ (texts ≡ Err fault)

pub fault_or_short : (fault : TextFault) (texts : Result Texts TextFault) → IsTextFault fault texts
    → IsFaultOrShort fault texts
fault_or_short (Missing seq) texts is = inr is
fault_or_short NoSize texts is = inr is
fault_or_short (Malformed seq byte) texts is = inr is
fault_or_short NoMemory texts is = inl refl

-- if the answer is that memory is not found, the packs have texts
pub gives_texts : (fault : TextFault) (answer : ℤ) (texts : Result Texts TextFault)
    → IsTextFault fault texts → answer ≡ fault_answer fault → answer ≡ pos 7
    → IsOk texts
gives_texts (Missing seq) answer texts is same e = is_other 8 7 (IsOk texts) refl refl (sym same ∙ e)
gives_texts NoSize answer texts is same e = is_other 9 7 (IsOk texts) refl refl (sym same ∙ e)
gives_texts (Malformed seq byte) answer texts is same e = is_other 10 7 (IsOk texts) refl refl (sym same ∙ e)
gives_texts NoMemory answer texts is same e = is

pub texts_given : (texts : Result Texts TextFault) (map : Texts) → texts ≡ Ok map → IsOk texts
texts_given (Ok texts) map is = refl
texts_given (Err fault) map is = absurd (cc)

module _ (form : Form) (lead_in : ℕ) (stream : List ℕ) where
  -- the lines of the packs that were read
  pub listed : (s : LeadInTexts) (text : List ℕ) → HasRead (packs_in form lead_in stream) s
      → (map : Texts) × (read_texts s.reader ≡ Ok map) × (text ≡ counted_lines map s.good s.bad s.other)
      → IsTextListed form lead_in stream text 0
  listed s text read (map, is, lines) = record {
    texts = map;
    read = sym (ap read_texts read.kept) ∙ is;
    text_is = lines ∙ same_counts map s.good s.bad s.other _ _ _ read.good read.bad read.other;
    none_bad = refl;
  }

  pub all_listed : {X : Type 0} (bytes : X → List ℕ) (s : LeadInTexts) (result : Result X TextFault)
      → HasRead (packs_in form lead_in stream) s
      → IfOk result (λ lines. (map : Texts)
      × (read_texts s.reader ≡ Ok map)
      × (bytes lines ≡ counted_lines map s.good s.bad s.other))
      → IfOk result (λ lines. IsTextListed form lead_in stream (bytes lines) 0)
  all_listed bytes s (Ok lines) read h = listed s (bytes lines) read h
  all_listed bytes s (Err fault) read h = tt

  pub all_refused : {X : Type 0} (s : LeadInTexts) (result : Result X TextFault)
      → HasRead (packs_in form lead_in stream) s
      → IfErr result (λ fault. IsTextFault fault (read_texts s.reader))
      → IfErr result (λ fault. IsTextFault fault (texts_of_lead_in form lead_in stream))
  all_refused s (Ok lines) read h = tt
  all_refused s (Err fault) read h =
      subst (λ (r : Result Texts TextFault). IsTextFault fault r) (ap read_texts read.kept) h

  -- the answer is the reason why the texts are refused
  abbrev Refusal : ℤ → Listed → Type 0
  Refusal answer reported = (fault : TextFault)
      × IsRefusedBy fault form lead_in stream
      × (answer ≡ fault_answer fault)
      × (reported ≡ listed_fault fault)

  pub refused_texts : (fault : TextFault) (answer : ℤ) (reported : Listed)
      → IsFaultOrShort fault (texts_of_lead_in form lead_in stream) → answer ≡ fault_answer fault
      → (fault ≢ NoMemory → reported ≡ listed_fault fault)
      → (answer ≡ pos 8) ⊎ (answer ≡ pos 9) ⊎ (answer ≡ pos 10)
      → Refusal answer reported
  refused_texts (Missing seq) answer reported (inr is) same decides given =
      (Missing seq, is, same, decides (λ e. (cc)))
  refused_texts NoSize answer reported (inr is) same decides given = (NoSize, is, same, decides (λ e. (cc)))
  refused_texts (Malformed seq byte) answer reported (inr is) same decides given =
      (Malformed seq byte, is, same, decides (λ e. (cc)))
  refused_texts (Missing seq) answer reported (inl short) same decides given = absurd (cc)
  refused_texts NoSize answer reported (inl short) same decides given = absurd (cc)
  refused_texts (Malformed seq byte) answer reported (inl short) same decides given = absurd (cc)
  refused_texts NoMemory answer reported why same decides (inl e) =
      is_other 7 8 (Refusal answer reported) refl refl (sym same ∙ e)
  refused_texts NoMemory answer reported why same decides (inr (inl e)) =
      is_other 7 9 (Refusal answer reported) refl refl (sym same ∙ e)
  refused_texts NoMemory answer reported why same decides (inr (inr e)) =
      is_other 7 10 (Refusal answer reported) refl refl (sym same ∙ e)
