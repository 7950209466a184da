-- A conversion of a damaged stream writes its packs.
use Rattle.std.proofs.Common.{◌≡◌, ℕ, ◌<◌, List, ◌++◌, length, map, drop, sym, ap, ◌∙◌, arith, subst, append-nil, All, Some, None, IfSome, Result, Ok, Err}
use Rattle.std.specs.declared.option.Option.{Option}
use Rattle.std.specs.List.{concat}
use Rattle.std.specs.Io.KnownBytes.{Appends, Consumes, IsAtEnd}
use Rattle.std.proofs.lemmas.List.Elements.{All-from_get_or}
use Rattle.cdg_io.specs.Change.{from_to}
use Rattle.cdg_io.proofs.Frames.{passing}
use Rattle.rw_interleave.specs.Interleave.{Carries}
use Rattle.raw_subcode.specs.Channels.{unit_size, blocks_of, program_symbols}
use Rattle.rw_interleave.specs.Stream.{all_packs, IsDamaged, IsRecovered}
use Rattle.raw_subcode.specs.declared.form.Form.{Form}
use Rattle.stream_stages.specs.Calls.{IsAnsweredBy}
use Rattle.stream_stages.specs.Convert.{Converts, IsConverted, IsDamagedStream, Restores}
use Rattle.stream_stages.specs.declared.played.Played.{Played}
use Rattle.stream_stages.specs.declared.played.PlayStop.{PlayStop}
use Rattle.stream_stages.specs.declared.played.PlayStop.TheVariants.{ReadFault, WriteFault, Torn, TooLong, PastEnd, Text}
use Rattle.stream_stages.proofs.Slots.{symbols_small}

-- the laws about recovered packs
abbrev pub Recovers : Type 0
Recovers = (form : Form) (blocks : ℕ) (symbols others : List ℕ) (packs : List (List ℕ))
    (found : List (Option (List ℕ))) → Carries blocks symbols packs → All (λ symbol. symbol < 64) others
    → IsDamaged symbols form others
    → IsRecovered form others found → found ≡ map (λ pack. Some pack) (all_packs form blocks packs)

pub program_small : (form : Form) (bytes : List ℕ) (lead_in : ℕ)
    → All (λ symbol. symbol < 64) (program_symbols form bytes lead_in)
program_small form bytes lead_in =
    All-from_get_or (λ symbol. symbol < 64) (program_symbols form bytes lead_in) 0
    (λ i lt. symbols_small (drop lead_in (blocks_of form bytes)) i)

module _ (form : Form) (lead_in blocks : ℕ) (packs : List (List ℕ)) (bytes text : List ℕ) (bad : ℕ)
    (law : Recovers) (stream : IsDamagedStream form lead_in blocks packs bytes)
    (converted : IsConverted form lead_in bytes text bad) where
  pub found_packs : converted.found ≡ map (λ pack. Some pack) (all_packs form blocks packs)
  found_packs =
      law form blocks stream.symbols (program_symbols form bytes lead_in) packs converted.found stream.carries
      (program_small form bytes lead_in) stream.damaged converted.recovered

-- the bytes that were consumed up to the end are all bytes
pub taken_all : (all : List ℕ) (left : Option (List ℕ)) (taken : List ℕ) → Consumes (Some all) left taken
    → IsAtEnd left
    → taken ≡ all
taken_all all None taken takes end = absurd takes
taken_all all (Some rest) taken takes end = sym (takes ∙ ap (λ l. taken ++ l) end ∙ append-nil taken)

abbrev GivesPacks : Type 0
GivesPacks = (form : Form) (lead_in blocks : ℕ) (packs : List (List ℕ)) (bytes text : List ℕ) (bad : ℕ)
    → IsDamagedStream form lead_in blocks packs bytes → IsConverted form lead_in bytes text bad
    → text ≡ concat (all_packs form blocks packs)

abbrev GivesNoneBad : Type 0
GivesNoneBad = (form : Form) (lead_in blocks : ℕ) (packs : List (List ℕ)) (bytes text : List ℕ) (bad : ℕ)
    → IsDamagedStream form lead_in blocks packs bytes → IsConverted form lead_in bytes text bad
    → bad ≡ 0

pub restores : (form : Form) (lead_in : ℕ) (left left' held held' : Option (List ℕ))
    (result : Result Played PlayStop) (taken : List ℕ) → GivesPacks → GivesNoneBad
    → Converts form lead_in (passing (from_to left left') (from_to held held')) result taken
    → IfSome left (λ all. IsAnsweredBy result (unit_size form) (length all))
    → IfSome left (λ all. (blocks : ℕ) (packs : List (List ℕ)) → IsDamagedStream form lead_in blocks packs all
    → Restores result held held' (concat (all_packs form blocks packs)))
restores form lead_in None left' held held' result taken gives none_bad converts answer = tt
restores form lead_in (Some all) left' held held' (Ok played) taken gives none_bad converts answer =
    λ blocks packs stream.
    let (end, (text, is_played, put)) = converts.done in
    let same : taken ≡ all = taken_all all left' taken converts.taken_from end in
    let converted : IsConverted form lead_in all text played.bad =
    subst (λ (bytes : List ℕ). IsConverted form lead_in bytes text played.bad) same is_played.written in (
      none_bad form lead_in blocks packs all text played.bad stream converted,
      subst (Appends held held') (gives form lead_in blocks packs all text played.bad stream converted) put,
    )
restores form lead_in (Some all) left' held held' (Err ReadFault) taken gives none_bad converts answer =
    λ blocks packs stream. tt
restores form lead_in (Some all) left' held held' (Err WriteFault) taken gives none_bad converts answer =
    λ blocks packs stream. tt
restores form lead_in (Some all) left' held held' (Err (Torn block)) taken gives none_bad converts answer =
    λ blocks packs stream. absurd (answer.1 stream.whole)
restores form lead_in (Some all) left' held held' (Err TooLong) taken gives none_bad converts answer =
    λ blocks packs stream. absurd (omega (arith, answer, stream.few))
restores form lead_in (Some all) left' held held' (Err (PastEnd ended)) taken gives none_bad converts answer =
    λ blocks packs stream. absurd answer
restores form lead_in (Some all) left' held held' (Err (Text fault)) taken gives none_bad converts answer =
    λ blocks packs stream. absurd answer
