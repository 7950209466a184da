-- The conditions of the laws of mending. `given_at programs r n` is what reading r has at word n: `Near` a codeword at some
-- distance, `Lost` if no codeword is near, or `Silent` if the word is unread.
use Rattle.std.specs.Prelude.{⊤, true, false, ◌≡◌, ◌≢◌, ◌⊎◌, ℕ, ◌+◌, ◌*◌, ◌<◌, List, [], All, length, slice_index_or, Option, Some, None}
use Rattle.std.specs.List.{flat_map}
use Rattle.bit_lists.specs.Counting.{below}
use Rattle.raw_subcode.specs.Channels.{program_symbols}
use Rattle.raw_subcode.specs.Sizes.{block_bytes}
use Rattle.raw_subcode.specs.declared.form.Form.TheVariants.{Raw}
use Rattle.rw_code.specs.Packs.{idle_pack}
use Rattle.rw_interleave.specs.Interleave.{Carries}
use Rattle.rw_interleave.specs.Stream.{IsDamaged}
use Rattle.rw_mend.specs.Choice.{AreAgreed}
use Rattle.rw_mend.specs.Drops.{IsDoubted, IsDropped}
use Rattle.rw_mend.specs.Candidates.{is_graphics_candidate, is_idle_pack, is_quiet_candidate}
use Rattle.rw_mend.specs.Words.{given_at}
use Rattle.rw_mend.specs.declared.choice.Mended.{Mended}
use Rattle.rw_mend.specs.declared.choice.WordSource.{WordSource}
use Rattle.rw_mend.specs.declared.choice.WordSource.TheVariants.{Reading, Agreed}
use Rattle.rw_mend.specs.declared.streams.MendCounts.{MendCounts}
use Rattle.rw_mend.specs.declared.candidates.Candidate.{Candidate}
use Rattle.rw_mend.specs.declared.candidates.Candidate.TheVariants.{Near, Silent}

-- the symbols of the codeword of a candidate, or zeros if it is no codeword
abbrev pub candidate_bytes : Candidate → List ℕ
candidate_bytes (Near pack distance) = pack
candidate_bytes candidate = idle_pack

-- the codewords of reading r as text, with zeros for a word without a codeword
abbrev pub given_text : ℕ → List (List ℕ) → ℕ → List ℕ
given_text words programs r = flat_map (λ n. candidate_bytes (given_at programs r n)) (below words)

-- Reading r has a codeword at distance 0 at every word. Every codeword at distance 0 of another reading is the same codeword
-- or the idle pack. Where reading r has the idle pack, no other reading has a graphics pack, at any distance. Readings
-- without channels R to W meet these conditions; readings with noise or scratches usually do.
pub record IsCleanBeside (words : ℕ) (programs : List (List ℕ)) (r : ℕ) : Type 0 where
  pub within : r < length programs
  pub codeword : ℕ → List ℕ
  pub clean : (n : ℕ) → n < words → given_at programs r n ≡ Near (codeword n) 0
  pub others : (n s : ℕ) (other : List ℕ) → n < words → s < length programs
      → given_at programs s n ≡ Near other 0 → (other ≡ codeword n) ⊎ (other ≡ idle_pack)
  pub quiet : (n s : ℕ) → n < words → s < length programs → is_idle_pack (codeword n) ≡ true
      → is_graphics_candidate (given_at programs s n) ≡ false

-- Reading r meets the conditions of `IsCleanBeside`, but is quiet at some idle words, as in a dump without P and Q. Where it
-- is quiet, every codeword of another reading that counts is the idle pack. Where it is unread, no two readings agree on a
-- codeword.
pub record IsErrorFreeBeside (words : ℕ) (programs : List (List ℕ)) (r : ℕ) : Type 0 where
  pub within : r < length programs
  pub codeword : ℕ → List ℕ
  pub whole : (n : ℕ) → n < words → (given_at programs r n ≡ Near (codeword n) 0)
      ⊎ ((is_quiet_candidate (given_at programs r n) ≡ true) × (codeword n ≡ idle_pack))
  pub others : (n s : ℕ) (other : List ℕ) → n < words → s < length programs
      → given_at programs s n ≡ Near other 0 → (other ≡ codeword n) ⊎ (other ≡ idle_pack)
  pub quiet : (n s : ℕ) → n < words → s < length programs → is_idle_pack (codeword n) ≡ true
      → is_graphics_candidate (given_at programs s n) ≡ false
  pub unsure : (n s : ℕ) (other : List ℕ) (more : ℕ) → n < words → s < length programs
      → is_quiet_candidate (given_at programs r n) ≡ true → ¬ IsDropped words programs s n
      → given_at programs s n ≡ Near other more → other ≡ idle_pack
  pub alone : (n s t : ℕ) (codeword : List ℕ) → n < words → given_at programs r n ≡ Silent
      → ¬ AreAgreed (given_at programs s n) (given_at programs t n) codeword

-- At each word, some reading has the pack of the stream, and this pack counts. No reading has another codeword that counts.
pub record AreEnough (words : ℕ) (programs packs : List (List ℕ)) : Type 0 where
  pub reading : ℕ → ℕ
  pub distance : ℕ → ℕ
  pub count : length packs ≡ words
  pub within : (n : ℕ) → n < words → reading n < length programs
  pub counts : (n : ℕ) → n < words → ¬ IsDropped words programs (reading n) n
  pub gives : (n : ℕ) → n < words
      → given_at programs (reading n) n ≡ Near (slice_index_or packs n []) (distance n)
  pub alone : (n s : ℕ) (other : List ℕ) (more : ℕ) → n < words → s < length programs
      → ¬ IsDropped words programs s n → given_at programs s n ≡ Near other more
      → other ≡ slice_index_or packs n []

-- Each reading has the pack of the stream at each word, at any distance.
pub record AllGive (words : ℕ) (programs packs : List (List ℕ)) : Type 0 where
  pub some : 0 < length programs
  pub count : length packs ≡ words
  pub distance : ℕ → ℕ → ℕ
  pub gives : (n r : ℕ) → n < words → r < length programs
      → given_at programs r n ≡ Near (slice_index_or packs n []) (distance n r)

-- These are one or more readings of program symbols that carry the packs. Each reading has this many blocks, and at most two
-- wrong symbols in each word, in any places.
pub record AreDamagedReadings (lead_in blocks : ℕ) (packs readings : List (List ℕ)) : Type 0 where
  pub some : 0 < length readings
  pub sizes : All (λ bytes. length bytes ≡ (lead_in + blocks) * block_bytes) readings
  pub symbols : List ℕ
  pub carries : Carries blocks symbols packs
  pub damage : All (λ bytes. IsDamaged symbols Raw (program_symbols Raw bytes lead_in)) readings

-- Every codeword of another reading that counts is what the conversion of reading r has at this word: its codeword, or
-- zeros. No reading is quiet at a word where reading r has a doubtful codeword.
pub record CountsAlone (words : ℕ) (programs : List (List ℕ)) (r : ℕ) : Type 0 where
  pub within : r < length programs
  pub others : (n s : ℕ) (codeword : List ℕ) (distance : ℕ) → n < words → s < length programs → s ≢ r
      → ¬ IsDropped words programs s n → given_at programs s n ≡ Near codeword distance
      → codeword ≡ candidate_bytes (given_at programs r n)
  pub sure : (n : ℕ) → n < words → ¬ IsDoubted programs r n

-- the result for a word is a codeword on which two readings agree
abbrev pub IsAgreedWord : Option Mended → Type 0
IsAgreedWord (Some mended) = mended.source ≡ Agreed
IsAgreedWord None = ⊥

-- Two orders of the same readings name the same source at word n: readings with equal candidates there, or an agreement of
-- two readings.
abbrev pub IsSameSource : List (List ℕ) → List (List ℕ) → ℕ → WordSource → WordSource → Type 0
IsSameSource programs others n (Reading r) (Reading k) = given_at programs r n ≡ given_at others k n
IsSameSource programs others n Agreed Agreed = ⊤
IsSameSource programs others n one other = ⊥

-- two orders have the same codeword and the same source at word n, or no codeword in both
abbrev pub IsSameFind : List (List ℕ) → List (List ℕ) → ℕ → Option Mended → Option Mended → Type 0
IsSameFind programs others n (Some one) (Some other) = (one.pack ≡ other.pack)
    × IsSameSource programs others n one.source other.source
IsSameFind programs others n None None = ⊤
IsSameFind programs others n one other = ⊥

-- The counts of the first and the second reading are exchanged. All other counts are equal.
pub record AreExchanged (counts others : MendCounts) : Type 0 where
  pub both : others.both ≡ counts.both
  pub of_first : others.of_first ≡ counts.of_second
  pub of_second : others.of_second ≡ counts.of_first
  pub agreed : others.agreed ≡ counts.agreed
  pub none : others.none ≡ counts.none
