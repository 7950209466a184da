-- The symbols of the mended words, at their places.
use Rattle.std.proofs.Common.{◌≡◌, ℕ, ◌+◌, ◌-◌, ◌*◌, ◌/◌, ◌%◌, ◌<◌, List, [], length, get_or, refl, sym, ap, ◌∙◌, inl, inr, arith}
use Rattle.std.specs.Prelude.{Some, None, if◌then◌else◌}
use Rattle.std.specs.declared.option.Option.{Option}
use Rattle.std.proofs.lemmas.Bool.{cases_lt, le-ltb, lt-ltb}
use Rattle.std.proofs.lemmas.List.{get_or_past}
use Rattle.std.proofs.lemmas.List.FromFn.{get_or-map-range_with_len}
use Rattle.raw_subcode.specs.Channels.{symbols_of}
use Rattle.rw_interleave.specs.Interleave.{swapped}
use Rattle.rw_interleave.proofs.Places.{swapped-lt}
use Rattle.rw_mend.specs.declared.choice.Mended.{Mended}
use Rattle.rw_mend.specs.Chosen.{IsChosen, blocks_at, channel_rule, channels_of, symbol_or, symbol_rule}
use Rattle.rw_mend.specs.Stream.{IsMendedBlock, IsMendedPlace, found_symbol, mended_symbol, mended_symbols}
use Rattle.rw_mend.specs.Symbols.{first_slot}
use Rattle.rw_mend.proofs.Bytes.{completed_at, symbol_at}
use Rattle.rw_mend.proofs.Standing.{slot_of, stands_at, symbol_of}

pub mended_before : (lead_in : ℕ) (found : List (Option Mended)) (p : ℕ) → p / 24 < 4 * lead_in + p % 24 % 8
    → mended_symbol lead_in found p ≡ None
unfolding mended_symbol
mended_before lead_in found p before =
    ap (λ t. if t then None
    else found_symbol (get_or found (p / 24 - first_slot lead_in p) None) (swapped (p % 24)))
    (lt-ltb (p / 24) (4 * lead_in + p % 24 % 8) before)

pub mended_there : (lead_in : ℕ) (found : List (Option Mended)) (p n : ℕ)
    → p / 24 ≡ 4 * lead_in + p % 24 % 8 + n
    → mended_symbol lead_in found p ≡ found_symbol (get_or found n None) (swapped (p % 24))
unfolding mended_symbol
mended_there lead_in found p n slot =
    let number : p / 24 - (4 * lead_in + p % 24 % 8) ≡ n = omega (arith, slot) in
    ap (λ t. if t then None
    else found_symbol (get_or found (p / 24 - first_slot lead_in p) None) (swapped (p % 24)))
    (le-ltb (p / 24) (4 * lead_in + p % 24 % 8) (omega (arith, slot)))
    ∙ ap (λ m. found_symbol (get_or found m None) (swapped (p % 24))) number

-- a mended word has its symbol at its place
pub mended_place : (lead_in : ℕ) (found : List (Option Mended)) (p n i : ℕ) (own : Mended)
    → IsMendedPlace lead_in found p n i own → mended_symbol lead_in found p ≡ Some (get_or own.pack i 0)
mended_place lead_in found p n i own at =
    let slot = slot_of lead_in n i p at.symbol at.place in
    mended_there lead_in found p n slot.1
    ∙ ap (λ f. found_symbol f (swapped (p % 24))) at.is
    ∙ ap (λ j. Some (get_or own.pack j 0)) (sym (symbol_of lead_in n i p at.symbol at.place))

found_by : (lead_in : ℕ) (found : List (Option Mended)) (p n : ℕ) (own : Option Mended)
    → get_or found n None ≡ own → n < length found → p / 24 ≡ 4 * lead_in + p % 24 % 8 + n
    → ((m i : ℕ) (mended : Mended) → ¬ IsMendedPlace lead_in found p m i mended)
    → found_symbol own (swapped (p % 24)) ≡ None
found_by lead_in found p n None is within slot free = refl
found_by lead_in found p n (Some own) is within slot free =
    absurd
    (free n (swapped (p % 24)) own (record {
      word = within;
      symbol = swapped-lt (p % 24) (omega arith);
      is = is;
      place = stands_at lead_in n p slot;
    }))

-- any other place has no symbol
pub mended_nowhere : (lead_in : ℕ) (found : List (Option Mended)) (p : ℕ)
    → ((n i : ℕ) (own : Mended) → ¬ IsMendedPlace lead_in found p n i own)
    → mended_symbol lead_in found p ≡ None
mended_nowhere lead_in found p free =
    elim (cases_lt (p / 24) (4 * lead_in + p % 24 % 8)) [
      | inl before ↦ mended_before lead_in found p before
      | inr behind ↦
          let n : ℕ = p / 24 - (4 * lead_in + p % 24 % 8) in
          let slot : p / 24 ≡ 4 * lead_in + p % 24 % 8 + n = omega (arith, behind) in
          elim (cases_lt n (length found)) [
            | inl within ↦
                mended_there lead_in found p n slot
                ∙ found_by lead_in found p n (get_or found n None) refl within slot free
            | inr outside ↦
                mended_there lead_in found p n slot
                ∙ ap (λ f. found_symbol f (swapped (p % 24))) (get_or_past found n None outside)
          ]
    ]

-- a block with the chosen channels and symbols is the mended block
pub mended_block : (lead_in : ℕ) (readings : List (List ℕ)) (found : List (Option Mended)) (b : ℕ)
    (block : List ℕ)
    → length block ≡ 96
    → IsChosen (channel_rule (blocks_at readings b)) (blocks_at readings b) (channels_of block)
    → IsChosen (symbol_rule (mended_symbols lead_in found b) (blocks_at readings b)) (blocks_at readings b)
    (symbols_of block)
    → IsMendedBlock lead_in readings found b block
mended_block lead_in readings found b block size channels symbols =
    let own : List ℕ = get_or (blocks_at readings b) symbols.reading [] in
    let symbol : (k : ℕ) → k < 96
    → get_or block k 0 % 64 ≡ symbol_or (mended_symbol lead_in found (96 * b + k)) (get_or own k 0) =
    λ (k : ℕ) (lt : k < 96).
    sym (symbol_at block k (omega (arith, lt, size)))
    ∙ ap (λ l. get_or l k 0) symbols.is
    ∙ completed_at (mended_symbols lead_in found b) own k lt
    ∙ ap (λ s. symbol_or s (get_or own k 0))
    (get_or-map-range_with_len (λ (j : ℕ). mended_symbol lead_in found (96 * b + j)) 0 96 k k None lt
    (omega arith)) in
    record {
      channels = channels;
      symbols = symbols;
      mended =
          λ k n i mended lt at.
          symbol k lt
          ∙ ap (λ s. symbol_or s (get_or own k 0)) (mended_place lead_in found (96 * b + k) n i mended at);
      others =
          λ k lt free.
          symbol k lt
          ∙ ap (λ s. symbol_or s (get_or own k 0)) (mended_nowhere lead_in found (96 * b + k) free);
    }
