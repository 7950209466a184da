-- The steps of a merge: what is found for the words that come with slots, and how a pair of blocks is read.
use Rattle.std.specs.Prelude.{◌≡◌, ◌⊎◌, ◌/◌, ℕ, ◌<◌, ◌≤◌, ⊤, Bool, true, false, IfOk, List, [], ◌∷◌, OnErr, length, map, take, Option, Result, Ok, Err}
use Rattle.std.specs.Io.KnownBytes.{Consumes, IsAtEnd}
use Rattle.bit_lists.specs.Counting.{parts}
use Rattle.raw_subcode.specs.Channels.{symbols_of}
use Rattle.rw_interleave.specs.Gathering.{gather_next, gather_gives}
use Rattle.cdg_io.specs.Run.{run_state, run_gives}
use Rattle.rw_interleave.specs.Stream.{bad_count}
use Rattle.rw_interleave.specs.Texts.{cdg_bytes}
use Rattle.rw_interleave.specs.Windows.{words_from_block}
use Rattle.rw_merge.specs.Agreement.{IsAgreement}
use Rattle.rw_merge.specs.Windows.{Windows}
use Rattle.rw_merge.specs.declared.packs.Packs.{Packs}
use Rattle.cdg_io.specs.Causes.{Count, HasCause, Rose}
use Rattle.cdg_io.specs.Counts.{ReportsRead}
use Rattle.cdg_io.specs.Change.{Change}
use Rattle.cdg_io.specs.Moves.{ConsumesBelow}
use Rattle.rw_merge.specs.Merging.{EndsAtStop, EndsBoth, ReadInput, ReadsBoth, EndReported, EndUnreported}
use Rattle.rw_merge.specs.declared.merge.Merged.{Merged}
use Rattle.rw_merge.specs.declared.merge.MergeStop.{MergeStop}
use Rattle.rw_merge.specs.declared.merge.MergeStop.TheVariants.{FirstFault, SecondFault, WriteFault, TooLong, Torn, SecondTorn, Unequal}
use Rattle.raw_subcode.specs.Sizes.{block_bytes, symbols_a_slot}

-- the first `count` slots of some bytes
abbrev pub leading_slots : ℕ → List ℕ → List (List ℕ)
leading_slots count bytes = map symbols_of (parts count symbols_a_slot bytes)

-- the window after these slots
abbrev pub window_after : List (List ℕ) → List (List ℕ) → List (List ℕ)
window_after window slots = run_state gather_next window slots

-- the words that these slots complete
abbrev pub words_after : List (List ℕ) → List (List ℕ) → List (List ℕ)
words_after window slots = run_gives gather_next gather_gives window slots

-- These are the agreed codewords of the words of two readings, one after another.
unfoldable pub AreAgreements : List (List ℕ) → List (List ℕ) → List (Option (List ℕ)) → Type 0
AreAgreements [] [] [] = ⊤
AreAgreements (x ∷ xs) (y ∷ ys) (f ∷ fs) = IsAgreement x y f × AreAgreements xs ys fs
AreAgreements xs ys fs = ⊥

-- The packs are the agreed packs of the words of two readings, at most four words of each.
abbrev pub AreAgreedPacks : List (List ℕ) → List (List ℕ) → Packs → Type 0
AreAgreedPacks first second packs = (found : List (Option (List ℕ))) × AreAgreements first second found
    × (packs.bytes ≡ cdg_bytes found) × (packs.bad ≡ bad_count found) × (length found ≤ 4)

-- These are the packs that end with a block of each reading, after these windows.
abbrev pub MergesBlocks : Windows → List ℕ → List ℕ → Packs → Type 0
MergesBlocks windows first second packs =
    AreAgreedPacks (words_from_block windows.first first) (words_from_block windows.second second) packs

-- A whole block of the first input was consumed, or the input was at its end.
abbrev pub IsHalfRead : Option (List ℕ) → List ℕ → Type 0
IsHalfRead left taken = (length taken ≡ block_bytes) ⊎ ((taken ≡ []) × IsAtEnd left)

-- the consumed bytes of an input, and the bytes that are left
pub record Taken : Type 0 where
  pub bytes : List ℕ
  pub left : Option (List ℕ)

-- these bytes were consumed, and these bytes are left
abbrev pub taken_of : List ℕ → Option (List ℕ) → Taken
taken_of bytes left = record { bytes = bytes; left = left }

-- These bytes of both inputs were consumed when the pair of blocks with this number was read.
abbrev pub IsPairRead : ℕ → Result Bool MergeStop → Taken → Taken → Type 0
IsPairRead block (Ok true) first second = (length first.bytes ≡ block_bytes)
    × (length second.bytes ≡ block_bytes)
IsPairRead block (Ok false) first second =
    (first.bytes ≡ []) × (second.bytes ≡ []) × IsAtEnd first.left × IsAtEnd second.left
IsPairRead block (Err FirstFault) first second = (length first.bytes < block_bytes) × (second.bytes ≡ [])
IsPairRead block (Err (Torn n)) first second = (n ≡ block) × (0 < length first.bytes)
    × (length first.bytes < block_bytes)
    × (second.bytes ≡ []) × IsAtEnd first.left
IsPairRead block (Err SecondFault) first second = IsHalfRead first.left first.bytes
    × (length second.bytes < block_bytes)
IsPairRead block (Err (SecondTorn n)) first second = (n ≡ block) × IsHalfRead first.left first.bytes
    × (0 < length second.bytes) × (length second.bytes < block_bytes) × IsAtEnd second.left
IsPairRead block (Err (Unequal n)) first second = (n ≡ block)
    × (((length first.bytes ≡ block_bytes) × (second.bytes ≡ []) × IsAtEnd second.left)
    ⊎ ((first.bytes ≡ []) × (length second.bytes ≡ block_bytes) × IsAtEnd first.left))
IsPairRead block (Err stop) first second = ⊥

-- These bytes of both inputs were consumed when the end of both inputs was checked.
abbrev pub IsEndRead : Result Merged MergeStop → Taken → Taken → Type 0
IsEndRead (Ok done) first second =
    (first.bytes ≡ []) × (second.bytes ≡ []) × IsAtEnd first.left × IsAtEnd second.left
IsEndRead (Err TooLong) first second = ((length first.bytes ≡ 1) × (second.bytes ≡ []))
    ⊎ ((first.bytes ≡ []) × (length second.bytes ≡ 1))
IsEndRead (Err FirstFault) first second = (first.bytes ≡ []) × (second.bytes ≡ [])
IsEndRead (Err SecondFault) first second = (first.bytes ≡ []) × (second.bytes ≡ [])
IsEndRead (Err stop) first second = ⊥

-- The ends of both inputs were recorded as this result requires, when a pair of blocks was read.
abbrev pub EndsOfPair : Result Bool MergeStop → ℕ → ℕ → Change Count → Change Count → Type 0
EndsOfPair (Ok true) one other first second = EndUnreported first × EndUnreported second
EndsOfPair (Ok false) one other first second = EndReported first × EndReported second
EndsOfPair (Err stop) one other first second = EndsAtStop stop one other first second

-- The pair of blocks with this number was read. If both blocks are whole, these are the blocks.
abbrev pub ReadsPair : ℕ → Result Bool MergeStop → List ℕ → List ℕ → ReadInput → ReadInput → Type 0
ReadsPair block result one other first second = ReadsBoth
    (λ xs ys. IsPairRead block result (taken_of xs first.left.after) (taken_of ys second.left.after)
    × (result ≡ Ok true → (xs ≡ one) × (ys ≡ other)))
    (EndsOfPair result) (λ bytes. bytes / block_bytes) first second

-- A byte of each input was requested, to check that nothing follows.
abbrev pub ReadsNoMore : Result Merged MergeStop → ReadInput → ReadInput → Type 0
ReadsNoMore result first second = ReadsBoth
    (λ xs ys. IsEndRead result (taken_of xs first.left.after) (taken_of ys second.left.after))
    (EndsBoth result) (λ bytes. bytes) first second

-- `size` bytes of an input were requested. These bytes were read, up to the end of the input if they are fewer, or a read
-- failed.
pub record AsksFor {E : Type 0} (size : ℕ) (input : ReadInput) (faults : Change ℕ) (result : Result ℕ E)
    (room : List ℕ) : Type 0 where
  pub size_is : length room ≡ size
  pub within : IfOk result (λ n. n ≤ size)
  pub took : IfOk result (λ n. Consumes input.left.before input.left.after (take n room))
  pub end : IfOk result (λ n. n < size → IsAtEnd input.left.after)
  pub part : OnErr result (ConsumesBelow input.left.before input.left.after size)
  pub cause : HasCause faults.before faults.after result
  pub counts : ReportsRead size size input.counts result

-- A count of faults rose.
abbrev pub Rises : Change ℕ → Type 0
Rises count = (count.before ≤ count.after) × Rose count.before count.after

-- A count of faults is unchanged.
abbrev pub Stays : Change ℕ → Type 0
Stays count = count.after ≡ count.before

-- The faults of both inputs were counted as this result requires, when a pair of blocks, or the end of both, was read.
abbrev pub CountsReadFaults : {A : Type 0} → Result A MergeStop → Change ℕ → Change ℕ → Type 0
CountsReadFaults (Err FirstFault) first second = Rises first × Stays second
CountsReadFaults (Err SecondFault) first second = Stays first × Rises second
CountsReadFaults (Err WriteFault) first second = ⊥
CountsReadFaults result first second = Stays first × Stays second

-- The faults of both inputs and of the output were counted as this result of a merge requires.
abbrev pub CountsFaults : Result Merged MergeStop → Change ℕ → Change ℕ → Change ℕ → Type 0
CountsFaults (Err FirstFault) first second out = Rises first × Stays second × Stays out
CountsFaults (Err SecondFault) first second out = Stays first × Rises second × Stays out
CountsFaults (Err WriteFault) first second out = Stays first × Stays second × Rises out
CountsFaults result first second out = Stays first × Stays second × Stays out
