-- The reasons why kept packs have no texts; missing memory is never one of them.
use Rattle.std.proofs.Common.{◌≡◌, ◌≢◌, ◌⊎◌, ℕ, Bool, true, false, List, Option, Some, None, Result, Ok, Err, refl, ap, inl, inr, if◌then◌else◌}
use Rattle.std.specs.Prelude.{◌-◌, ◌+◌, ◌||◌, IfErr, nat_lt, slice_index, take}
use Rattle.disc_time.specs.Counts.{most_tracks}
use Rattle.cdtext_packs.specs.Packs.{first_track_place, last_number_place, last_track_place, pack_text, text_bytes}
use Rattle.cdtext_packs.specs.Reading.{first_missing, first_short, keeps_nothing, read_kinds, read_numbers, read_sized, read_sizes, read_texts, size_pack}
use Rattle.cdtext_packs.specs.Texts.{Texts}
use Rattle.cdtext_packs.specs.declared.kinds.TextFault.{TextFault}
use Rattle.cdtext_packs.specs.declared.kinds.TextFault.TheVariants.{Missing, NoSize, Malformed, NoMemory}
use Rattle.cdtext_packs.specs.declared.kinds.TextKind.{TextKind}
use Rattle.stream_stages.specs.TextListing.{IsTextFault}

abbrev IsJudged : Result Texts TextFault → Type 0
IsJudged read = read ≢ Err NoMemory

either : (test : Bool) (one other : Result Texts TextFault) → IsJudged one → IsJudged other
    → IsJudged (if test then one else other)
either true one other judged rest = judged
either false one other judged rest = rest

kinds : (kept : List (Option (List ℕ))) (first last : ℕ) (short : Option TextKind)
    → IsJudged (read_kinds kept first last short)
kinds kept first last (Some kind) = λ e. (cc)
kinds kept first last None = λ e. (cc)

numbers : (kept : List (Option (List ℕ))) (count first last : ℕ) (missing : Option ℕ)
    → IsJudged (read_numbers kept count first last missing)
numbers kept count first last (Some n) = λ e. (cc)
numbers kept count first last None =
    let used : List (Option (List ℕ)) = take count kept in
    kinds used first last (first_short used (last - first + 2))

sized : (kept : List (Option (List ℕ))) (size0 size1 : List ℕ) → IsJudged (read_sized kept size0 size1)
sized kept size0 size1 =
    let first : ℕ = slice_index (pack_text size0) first_track_place in
    let last : ℕ = slice_index (pack_text size0) last_track_place in
    let count : ℕ = slice_index (pack_text size1) (last_number_place - text_bytes) + 1 in
    either (nat_lt first 1 || nat_lt most_tracks first) _ _ (λ e. (cc))
    (either (nat_lt last first || nat_lt most_tracks last) _ _ (λ e. (cc))
    (numbers kept count first last (first_missing kept count)))

sizes : (kept : List (Option (List ℕ))) (a b c : Option (List ℕ)) → IsJudged (read_sizes kept a b c)
sizes kept (Some a) (Some b) (Some c) = sized kept a b
sizes kept (Some a) (Some b) None = λ e. (cc)
sizes kept (Some a) None c = λ e. (cc)
sizes kept None b c = λ e. (cc)

-- kept packs are read or refused
judged : (kept : List (Option (List ℕ))) → IsJudged (read_texts kept)
judged kept =
    either (keeps_nothing kept) _ _ (λ e. (cc))
    (sizes kept (size_pack kept 0) (size_pack kept 1) (size_pack kept 2))

fault_at : (fault : TextFault) (read : Result Texts TextFault) → IsJudged read
    → (fault ≡ NoMemory) ⊎ (read ≡ Err fault)
    → IfErr read (λ why. ◌≡◌ {A = Result Texts TextFault} (Err fault) (Err why))
    → IsTextFault fault read
fault_at (Missing seq) read never (inl short) refused = absurd (cc)
fault_at (Missing seq) read never (inr is) refused = is
fault_at NoSize read never (inl short) refused = absurd (cc)
fault_at NoSize read never (inr is) refused = is
fault_at (Malformed seq byte) read never (inl short) refused = absurd (cc)
fault_at (Malformed seq byte) read never (inr is) refused = is
fault_at NoMemory (Ok texts) never why refused = refl
fault_at NoMemory (Err other) never why refused =
    let same : other ≡ NoMemory = cc in absurd (never (ap Err same))

-- if memory for the texts of kept packs is not found, they have texts
pub text_fault : (kept : List (Option (List ℕ))) (fault : TextFault)
    → (fault ≡ NoMemory) ⊎ (read_texts kept ≡ Err fault)
    → IfErr (read_texts kept) (λ why. ◌≡◌ {A = Result Texts TextFault} (Err fault) (Err why))
    → IsTextFault fault (read_texts kept)
text_fault kept fault reported refused = fault_at fault (read_texts kept) (judged kept) reported refused
