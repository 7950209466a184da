-- The output of calls of a player, for a whole input whose text is known.
use Rattle.std.proofs.Common.{◌≡◌, ◌<◌, ℕ, ◌/◌, List, length, map, Result, Ok, Err, Some, None, IfSome, ◌==◌, if◌then◌else◌, sym, ap, subst, ◌∙◌, arith}
use Rattle.std.specs.declared.option.Option.{Option}
use Rattle.std.specs.List.{concat}
use Rattle.std.specs.Io.KnownBytes.{Appends}
use Rattle.std.proofs.KnownBytes.{Consumes-whole}
use Rattle.std.proofs.lemmas.Simd.{map-map}
use Rattle.bit_lists.specs.Counting.{below}
use Rattle.raw_subcode.specs.Channels.{unit_size, program_symbols}
use Rattle.raw_subcode.specs.declared.form.Form.{Form}
use Rattle.rw_code.specs.Codeword.{IsCodeword}
use Rattle.rw_interleave.specs.Stream.{IsRecovered, bad_count, form_word, word_count}
use Rattle.rw_interleave.specs.Texts.{cdg_bytes}
use Rattle.stream_stages.specs.Calls.{IsAnsweredBy, IsPlayed, blocks_played, in_turn}
use Rattle.stream_stages.specs.Convert.{IsConverted}
use Rattle.stream_stages.specs.TextListing.{IsWholeInput}
use Rattle.stream_stages.specs.declared.played.Played.{Played}
use Rattle.stream_stages.specs.declared.played.PlayStop.{PlayStop}
use Rattle.stream_stages.specs.declared.played.PlayStop.TheVariants as play
use Rattle.cdg_cmd.specs.Answer.{Does, GivesBack}
use Rattle.cdg_io.specs.Change.{Bytes, Change, from_to}
use Rattle.cdg_io.specs.Streams.{Streams}
use Rattle.cdg_io.proofs.Frames.{passing}
use Rattle.cdg_cmd.specs.Stops.{play_status}
use Rattle.cdg_cmd.specs.declared.command.Command.TheVariants.{Convert}
use Rattle.cdg_cmd.proofs.WholeInputs.{both}
use Rattle.run_laws.specs.Undamaged.{IsCleanStream, form_words}
use Rattle.cdg_cmd.specs.declared.status.Status.{Status}
use Rattle.cdg_cmd.specs.declared.status.Status.TheVariants.{Done, Damaged}

-- the call played its whole input and wrote a text
abbrev IsGiven : (List ℕ → List ℕ → ℕ → Type 0) → Form → ℕ → Change Bytes → Played → List ℕ → Type 0
IsGiven writes form lead_in out played bytes = (text : List ℕ)
    × IsPlayed writes (blocks_played form lead_in) bytes played text
    × Appends out.before out.after text

given_text : (writes : List ℕ → List ℕ → ℕ → Type 0) (form : Form) (lead_in : ℕ) (out : Change Bytes)
    (played : Played) (all t : List ℕ)
    → ((text : List ℕ) (bad : ℕ) → writes all text bad → (text ≡ t) × (bad ≡ 0))
    → IsGiven writes form lead_in out played all
    → GivesBack t out (play_status (Ok played))
given_text writes form lead_in out played all t known given =
    let (text, is, put) = given in
    let (same, none) = known text played.bad is.written in
    subst (λ (n : ℕ). GivesBack t out (if n == 0 then Done else Damaged n)) (sym none)
    (subst (λ (x : List ℕ). Appends out.before out.after x) same put)

module _ (writes : List ℕ → List ℕ → ℕ → Type 0) (form : Form) (lead_in : ℕ) (all : List ℕ) (left' : Bytes)
    (out : Change Bytes) (taken t : List ℕ) where
  pub in_turn_given : (answer : Result Played PlayStop)
      → Streams (in_turn writes form lead_in) (passing (from_to (Some all) left') out) answer taken
      → IsAnsweredBy answer (unit_size form) (length all) → IsWholeInput form all
      → ((text : List ℕ) (bad : ℕ) → writes all text bad → (text ≡ t) × (bad ≡ 0))
      → GivesBack t out (play_status answer)
  in_turn_given (Ok played) plays exactly input known =
      let given : IsGiven writes form lead_in out played all =
      Consumes-whole (Some all) left' taken (IsGiven writes form lead_in out played) plays.taken_from
      plays.done.0 plays.done.1 in
      given_text writes form lead_in out played all t known given
  in_turn_given (Err play.ReadFault) plays exactly input known = tt
  in_turn_given (Err play.WriteFault) plays exactly input known = tt
  in_turn_given (Err (play.Torn block)) plays exactly input known = absurd (exactly.1 input.1)
  in_turn_given (Err play.TooLong) plays exactly input known = absurd (omega (arith, exactly, input.0))
  in_turn_given (Err (play.PastEnd blocks)) plays exactly input known = absurd exactly
  in_turn_given (Err (play.Text why)) plays exactly input known = absurd exactly

-- a conversion writes the words of a clean stream
clean_text : (form : Form) (symbols : List ℕ) (found : List (Option (List ℕ))) (text : List ℕ) (bad : ℕ)
    → found ≡ map (λ n. Some (form_word form symbols n)) (below (word_count form (length symbols / 96)))
    → ((packs : List (List ℕ)) → cdg_bytes (map (λ pack. Some pack) packs) ≡ concat packs)
    → ((packs : List (List ℕ)) → bad_count (map (λ pack. Some pack) packs) ≡ 0)
    → text ≡ cdg_bytes found → bad ≡ bad_count found → (text ≡ concat (form_words form symbols)) × (bad ≡ 0)
clean_text form symbols found text bad all written none text_is bad_is =
    let words : found ≡ map (λ (pack : List ℕ). Some pack) (form_words form symbols) =
    all
    ∙ sym (map-map (λ (pack : List ℕ). Some pack) (form_word form symbols)
    (below (word_count form (length symbols / 96)))) in (
      text_is ∙ ap cdg_bytes words ∙ written (form_words form symbols),
      bad_is ∙ ap bad_count words ∙ none (form_words form symbols),
    )

-- the words that are recovered from a clean stream
abbrev pub FindsWords : Form → List ℕ → Type 0
FindsWords form symbols = (found : List (Option (List ℕ)))
    → ((n : ℕ) → n < word_count form (length symbols / 96) → IsCodeword (form_word form symbols n))
    → IsRecovered form symbols found
    → found ≡ map (λ n. Some (form_word form symbols n)) (below (word_count form (length symbols / 96)))

module _ (form : Form) (lead_in : ℕ) (left' more more' : Bytes) (out : Change Bytes) (status : Status)
    (finds : (symbols : List ℕ) → FindsWords form symbols)
    (written : (packs : List (List ℕ)) → cdg_bytes (map (λ pack. Some pack) packs) ≡ concat packs)
    (none : (packs : List (List ℕ)) → bad_count (map (λ pack. Some pack) packs) ≡ 0) where
  clean_converted : (all : List ℕ) → Does (Convert lead_in form) (both (Some all) left' more more' out) status
      → IsCleanStream form lead_in all
      → GivesBack (concat (form_words form (program_symbols form all lead_in))) out status
  clean_converted all c clean =
      let symbols : List ℕ = program_symbols form all lead_in in
      subst (λ (s : Status). GivesBack (concat (form_words form symbols)) out s) (sym c.status_is)
      (in_turn_given (IsConverted form lead_in) form lead_in all left' out c.taken
      (concat (form_words form symbols)) c.answer c.did c.exactly.1 clean.input
      (λ text bad converted. clean_text form symbols converted.found text bad
      (finds symbols converted.found clean.codewords converted.recovered) written none converted.text_is
      converted.bad_is))

  pub clean_given : (left : Bytes) → Does (Convert lead_in form) (both left left' more more' out) status
      → IfSome left (λ all. IsCleanStream form lead_in all
      → GivesBack (concat (form_words form (program_symbols form all lead_in))) out status)
  clean_given None converts = tt
  clean_given (Some all) converts = λ clean. clean_converted all converts clean
