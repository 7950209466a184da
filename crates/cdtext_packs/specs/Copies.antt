-- Copies of the packs of texts, with damaged packs among them.
use Rattle.std.specs.Prelude.{◌≡◌, ◌≢◌, ◌<◌, ◌⊎◌, ℕ, false, List, [], ◌∷◌, length, All, slice_index_or}
use Rattle.cdtext_packs.specs.Packs.{check_matches, text_pack_bytes}
use Rattle.cdtext_packs.specs.Texts.{Texts, strings_of}
use Rattle.cdtext_packs.specs.Writing.{packs_of}
use Rattle.cdtext_packs.specs.declared.kinds.TextKind.{TextKind}

-- The list is a pack: eighteen bytes.
pub record IsPack (pack : List ℕ) : Type 0 where
  pub size : length pack ≡ text_pack_bytes
  pub bytes : All (λ byte. byte < 256) pack

-- The pack is in the list.
abbrev pub StandsIn : List ℕ → List (List ℕ) → Type 0
StandsIn pack packs = (n : ℕ) × (n < length packs) × (pack ≡ slice_index_or packs n [])

-- Each offered pack is a pack of the texts, or its check does not match. Each pack of the texts is offered.
pub record AreCopies (texts : Texts) (offered : List (List ℕ)) : Type 0 where
  pub each : (i : ℕ) → i < length offered
      → (check_matches (slice_index_or offered i []) ≡ false)
      ⊎ StandsIn (slice_index_or offered i []) (packs_of texts)
  pub all : (n : ℕ) → n < length (packs_of texts) → StandsIn (slice_index_or (packs_of texts) n []) offered

-- No string is a single tab.
abbrev pub HasNoTab : Texts → Type 0
HasNoTab texts = (kind : TextKind) → All (λ s. s ≢ 9 ∷ []) (strings_of kind texts)
