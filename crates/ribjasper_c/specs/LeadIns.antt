-- The packs and the texts of a lead-in in memory.
use Rattle.std.specs.Prelude.{◌≡◌, ◌≢◌, ◌⊎◌, ◌↔◌, ℕ, ℤ, pos, ◌*◌, ◌<◌, List, ◌++◌, take, drop, length, Err, IsOk}
use Rattle.disc_time.specs.Counts.{most_lead_in}
use Rattle.raw_subcode.specs.declared.form.Form.{Form}
use Rattle.cdtext_packs.specs.LeadIn.{pack_at}
use Rattle.cdtext_packs.specs.declared.kinds.TextFault.{TextFault}
use Rattle.cdtext_packs.specs.declared.kinds.TextFault.TheVariants.{Missing, NoSize, Malformed, NoMemory}
use Rattle.stream_stages.specs.TextListing.{texts_of_lead_in, IsTextListed, IsWholeInput}
use Rattle.ribjasper_c.specs.Conversions.{stream_form}
use Rattle.ribjasper_c.specs.declared.lead_in.Listed.{Listed}

-- These are the four packs of a block, one after another, eighteen bytes each.
abbrev pub ArePacksOf : List ℕ → List ℕ → Type 0
ArePacksOf block packs = (k : ℕ) → k < 4 → take 18 (drop (18 * k) packs) ≡ pack_at block k

-- the result if packs have no texts
abbrev pub fault_answer : TextFault → ℤ
fault_answer (Missing seq) = pos 8
fault_answer NoSize = pos 9
fault_answer (Malformed seq byte) = pos 10
fault_answer NoMemory = pos 7

-- the report if packs have no texts: the number of a pack, and of its byte
abbrev pub listed_fault : TextFault → Listed
listed_fault (Missing seq) = record { bytes = 0; seq = seq; byte = 0 }
listed_fault (Malformed seq byte) = record { bytes = 0; seq = seq; byte = byte }
listed_fault _ = record { bytes = 0; seq = 0; byte = 0 }

-- this is why the packs of the lead-in have no texts
abbrev pub IsRefusedBy : TextFault → Form → ℕ → List ℕ → Type 0
IsRefusedBy fault form lead_in stream = texts_of_lead_in form lead_in stream ≡ Err fault

-- The lines of the texts of a lead-in are at the front of a buffer, with a correct report; or the result says why not.
pub record WritesTextsOfLeadIn (stream : List ℕ) (form lead_in : ℕ) (old new : List ℕ)
    (old_report new_report : Listed) (result : ℤ) : Type 0 where
  pub done : result ≡ pos 0 → (text : List ℕ) × IsTextListed (stream_form form) lead_in stream text 0
      × (new ≡ text ++ drop (length text) old)
      × (new_report ≡ record { bytes = length text; seq = 0; byte = 0 })
  pub usage : (result ≡ pos 2) ↔ ((form ≡ 1) ⊎ (2 < form) ⊎ (most_lead_in < lead_in))
  pub refused : result ≡ pos 3 → ¬ IsWholeInput (stream_form form) stream
  pub whole : result ≢ pos 2 → result ≢ pos 3 → IsWholeInput (stream_form form) stream
  pub small : result ≡ pos 6 → (text : List ℕ) × IsTextListed (stream_form form) lead_in stream text 0
      × (length old < length text)
  pub texts : (result ≡ pos 8) ⊎ (result ≡ pos 9) ⊎ (result ≡ pos 10) → (fault : TextFault)
      × IsRefusedBy fault (stream_form form) lead_in stream
      × (result ≡ fault_answer fault) × (new_report ≡ listed_fault fault)
  -- the call allocates lines only if the packs have texts
  pub memory : result ≡ pos 7 → IsOk (texts_of_lead_in (stream_form form) lead_in stream)
  pub answer : (result ≡ pos 0) ⊎ (result ≡ pos 2) ⊎ (result ≡ pos 3) ⊎ (result ≡ pos 6)
      ⊎ (result ≡ pos 7) ⊎ (result ≡ pos 8) ⊎ (result ≡ pos 9) ⊎ (result ≡ pos 10)
  pub untouched : result ≢ pos 0 → new ≡ old
  pub same : (result ≡ pos 2) ⊎ (result ≡ pos 3) ⊎ (result ≡ pos 6) ⊎ (result ≡ pos 7)
      → new_report ≡ old_report
