-- The packs of the first units of a stream.
use Rattle.std.proofs.Common.{◌≡◌, ℕ, zero, suc, ◌+◌, ◌-◌, ◌*◌, ◌/◌, ◌<◌, ◌≤◌, List, [], ◌∷◌, ◌++◌, length, get_or, map, take, drop, refl, sym, ap, ap₂, ◌∙◌, subst, arith, None, Some, length-append, length-drop}
use Rattle.std.specs.declared.option.Option.{Option}
use Rattle.std.specs.List.{concat, flat_map}
use Rattle.std.proofs.lemmas.List.{append-nil, drop-drop, length-map, length-replicate}
use Rattle.std.proofs.lemmas.List.Folds.{concat-append}
use Rattle.std.proofs.Math.Nat.{mul-le-mul_left, suc-mul}
use Rattle.std.proofs.Math.Seq.{drop-append-add, take-append_seam}
use Rattle.cdg_io.specs.Run.{give, run_state, run_gives}
use Rattle.cdg_io.specs.Pump.{Machine, given, given_bytes, units_of}
use Rattle.cdg_io.proofs.Frames.{machine_of}
use Rattle.cdg_io.proofs.Runs.{run_state-append, run_gives-append}
use Rattle.rw_code.specs.Finding.{IsFinding}
use Rattle.raw_subcode.specs.Channels.{unit_size, block_of, symbols_of}
use Rattle.raw_subcode.specs.Sizes.{most_units}
use Rattle.raw_subcode.specs.declared.form.Form.{Form}
use Rattle.raw_subcode.specs.declared.form.Form.TheVariants.{Raw, Sector, Cooked}
use Rattle.rw_interleave.specs.Stream.{IsRecovered, form_word, word_count}
use Rattle.rw_interleave.specs.Texts.{cdg_bytes, entry_bytes}
use Rattle.stream_stages.specs.Convert.{IsConverted}
use Rattle.stream_stages.specs.Steps.{fresh_words, packs_give, packs_next}
use Rattle.stream_stages.specs.Watch.{on_units}
use Rattle.stream_stages.specs.declared.block_packs.BlockPacks.{BlockPacks}
use Rattle.stream_stages.proofs.Conversion.{blocks_sized, length-units_of, units_sized}
use Rattle.stream_stages.proofs.FormWords.{found_in, recovered}
use Rattle.stream_stages.proofs.PlayRuns.{block_text, plays_stream}
use Rattle.stream_stages.proofs.Slots.{Sized, sized_drop, length-all_symbols}
use Rattle.stream_stages.proofs.Views.{whole_taken}
use Rattle.stream_stages.proofs.WatchedBlocks.{given_on_units}

-- the stages before the first block
abbrev pub fresh : Form → ℕ → BlockPacks
fresh form lead_in = record { words = fresh_words form lead_in; bad = 0 }

-- the stages on units
abbrev pub machine : Form → Machine BlockPacks
machine form = machine_of (on_units form packs_next) (on_units form packs_give)

-- the stages after the first n units
abbrev pub stages_after : Form → ℕ → List ℕ → ℕ → BlockPacks
stages_after form lead_in stream n =
    run_state (machine form).next (fresh form lead_in) (units_of (unit_size form) n stream)

-- the output for them
abbrev pub text_of : Form → ℕ → List ℕ → ℕ → List ℕ
text_of form lead_in stream n = given (unit_size form) (machine form) (fresh form lead_in) stream n

-- ---- their lengths

entry_sized : (entry : Option (List ℕ)) (word : List ℕ) → IsFinding word entry
    → length (entry_bytes entry) ≡ 24
entry_sized None word is = length-replicate {A = ℕ} 24 0
entry_sized (Some codeword) word is = is.is_codeword.is_word.size

entries_sized : (found : List (Option (List ℕ)))
    → ((n : ℕ) → n < length found → length (entry_bytes (get_or found n None)) ≡ 24)
    → length (cdg_bytes found) ≡ 24 * length found
entries_sized [] each = refl
entries_sized (entry ∷ found) each =
    omega (
      arith,
      length-append (entry_bytes entry) (cdg_bytes found),
      each 0 (omega arith),
      entries_sized found (λ n lt. each (suc n) (omega (arith, lt))),
    )

text_sized : (form : Form) (blocks : List (List ℕ)) → Sized 96 blocks
    → length (cdg_bytes (found_in form blocks)) ≡ 24 * word_count form (length blocks)
text_sized form blocks sized =
    let found : List (Option (List ℕ)) = found_in form blocks in
    let is : IsRecovered form (flat_map symbols_of blocks) found = recovered form blocks sized in
    let many : length (flat_map symbols_of blocks) / 96 ≡ length blocks =
    omega (arith, length-all_symbols blocks sized) in
    let count : length found ≡ word_count form (length (flat_map symbols_of blocks) / 96) = is.count in
    entries_sized found (λ n lt. entry_sized (get_or found n None)
    (form_word form (flat_map symbols_of blocks) n) (is.each n (subst (λ k. n < k) count lt)))
    ∙ ap (λ k. 24 * k) (count ∙ ap (word_count form) many)

pub length-text_of : (form : Form) (lead_in : ℕ) (stream : List ℕ) (n : ℕ)
    → n * unit_size form ≤ length stream
    → length (text_of form lead_in stream n) ≡ 24 * word_count form (n - lead_in)
length-text_of form lead_in stream n fits =
    let units : List (List ℕ) = units_of (unit_size form) n stream in
    let blocks : List (List ℕ) = map (block_of form) units in
    let sized : Sized 96 blocks = blocks_sized form units (units_sized (unit_size form) n stream fits) in
    let count : length (drop lead_in blocks) ≡ n - lead_in = omega (
      arith,
      length-drop lead_in blocks,
      length-map units (block_of form),
      length-units_of (unit_size form) n stream,
    ) in
    ap length (ap concat (given_on_units form packs_next packs_give (fresh form lead_in) units)
    ∙ block_text form lead_in (fresh form lead_in) blocks refl)
    ∙ text_sized form (drop lead_in blocks) (sized_drop 96 lead_in blocks sized)
    ∙ ap (λ k. 24 * word_count form k) count

less_suc : (n units : ℕ) → n < units → n + 1 ≤ units
less_suc n units lt = omega (arith, lt)

pub more_words : (form : Form) (a b : ℕ) → a ≤ b → word_count form a ≤ word_count form b
more_words Raw a b le = omega (arith, le)
more_words Sector a b le = omega (arith, le)
more_words Cooked a b le = omega (arith, le)

-- ---- one more unit

-- unit n
abbrev pub unit_at : Form → List ℕ → ℕ → List ℕ
unit_at form stream n = take (unit_size form) (drop (n * unit_size form) stream)

units_more : (size n : ℕ) (bytes : List ℕ)
    → units_of size (suc n) bytes ≡ units_of size n bytes ++ take size (drop (n * size) bytes) ∷ []
units_more size zero bytes = let none : 0 ≡ 0 * size = omega arith in
    ap (λ k. take size (drop k bytes) ∷ []) none
units_more size (suc n) bytes =
    let next : size + n * size ≡ suc n * size = omega (arith, suc-mul n size) in
    let place : drop (n * size) (drop size bytes) ≡ drop (suc n * size) bytes =
    drop-drop (n * size) size bytes ∙ ap (λ k. drop k bytes) next in
    ap (λ us. take size bytes ∷ us) (units_more size n (drop size bytes)
    ∙ ap (λ (l : List ℕ). units_of size n (drop size bytes) ++ take size l ∷ []) place)

units_at : (form : Form) (stream : List ℕ) (n : ℕ)
    → units_of (unit_size form) (n + 1) stream
    ≡ units_of (unit_size form) n stream ++ unit_at form stream n ∷ []
units_at form stream n = let next : n + 1 ≡ suc n = omega arith in
    ap (λ k. units_of (unit_size form) k stream) next ∙ units_more (unit_size form) n stream

pub stages_more : (form : Form) (lead_in : ℕ) (stream : List ℕ) (n : ℕ) (old new : BlockPacks)
    (block : List ℕ)
    → old ≡ stages_after form lead_in stream n → block ≡ block_of form (unit_at form stream n)
    → new ≡ packs_next old block
    → new ≡ stages_after form lead_in stream (n + 1)
stages_more form lead_in stream n old new block now is next =
    next
    ∙ ap₂ packs_next now is
    ∙ sym (run_state-append (machine form).next (fresh form lead_in) (units_of (unit_size form) n stream)
    (unit_at form stream n ∷ []))
    ∙ ap (run_state (machine form).next (fresh form lead_in)) (sym (units_at form stream n))

given_alone : (o : Option (List ℕ)) → concat (give o []) ≡ given_bytes o
given_alone None = refl
given_alone (Some bytes) = append-nil bytes

pub text_more : (form : Form) (lead_in : ℕ) (stream : List ℕ) (n : ℕ) (old : BlockPacks) (block : List ℕ)
    (piece : Option (List ℕ))
    → old ≡ stages_after form lead_in stream n → block ≡ block_of form (unit_at form stream n)
    → piece ≡ packs_give old block
    → text_of form lead_in stream (n + 1) ≡ text_of form lead_in stream n ++ given_bytes piece
text_more form lead_in stream n old block piece now is gave =
    let m : Machine BlockPacks = machine form in
    let units : List (List ℕ) = units_of (unit_size form) n stream in
    let unit : List ℕ = unit_at form stream n in
    ap (λ us. concat (run_gives m.next m.gives (fresh form lead_in) us)) (units_at form stream n)
    ∙ ap concat (run_gives-append m.next m.gives (fresh form lead_in) units (unit ∷ []))
    ∙ concat-append (run_gives m.next m.gives (fresh form lead_in) units)
    (give (m.gives (stages_after form lead_in stream n) unit) [])
    ∙ ap (λ (l : List ℕ). text_of form lead_in stream n ++ l) (given_alone
    (m.gives (stages_after form lead_in stream n) unit)
    ∙ ap given_bytes (sym (gave ∙ ap₂ packs_give now is)))

-- ---- bytes written at the front

assoc : (xs ys zs : List ℕ) → (xs ++ ys) ++ zs ≡ xs ++ (ys ++ zs)
assoc [] ys zs = refl
assoc (x ∷ xs) ys zs = ap (λ l. x ∷ l) (assoc xs ys zs)

pub put_more : (text piece room packs new : List ℕ) (at : ℕ) → at ≡ length text
    → length text + length piece ≤ length room → packs ≡ text ++ drop (length text) room
    → new ≡ take at packs ++ (piece ++ drop (at + length piece) packs)
    → new ≡ (text ++ piece) ++ drop (length (text ++ piece)) room
put_more text piece room packs new at is fits now put =
    let front : take at packs ≡ text =
    ap₂ (λ (k : ℕ) (l : List ℕ). take k l) is now ∙ take-append_seam text (drop (length text) room) in
    let size : length (text ++ piece) ≡ length text + length piece = length-append text piece in
    let back : drop (at + length piece) packs ≡ drop (length (text ++ piece)) room =
    ap₂ (λ (k : ℕ) (l : List ℕ). drop (k + length piece) l) is now
    ∙ drop-append-add text (drop (length text) room) (length piece)
    ∙ drop-drop (length piece) (length text) room ∙ ap (λ k. drop k room) (sym size) in
    put
    ∙ ap₂ (λ (a b : List ℕ). a ++ (piece ++ b)) front back
    ∙ sym (assoc text piece (drop (length (text ++ piece)) room))

-- the output for one more unit fits into the room for all units
pub piece_fits : (form : Form) (lead_in : ℕ) (stream : List ℕ) (n units room : ℕ) (old : BlockPacks)
    (block : List ℕ) (piece : Option (List ℕ))
    → length stream ≡ units * unit_size form → n < units → 24 * word_count form (units - lead_in) ≤ room
    → old ≡ stages_after form lead_in stream n → block ≡ block_of form (unit_at form stream n)
    → piece ≡ packs_give old block
    → length (text_of form lead_in stream n) + length (given_bytes piece) ≤ room
piece_fits form lead_in stream n units room old block piece whole lt fits now is gave =
    let within : (n + 1) * unit_size form ≤ length stream =
    omega (arith, whole, mul-le-mul_left (unit_size form) (less_suc n units lt)) in
    let more : length (text_of form lead_in stream (n + 1))
    ≡ length (text_of form lead_in stream n ++ given_bytes piece) =
    ap length (text_more form lead_in stream n old block piece now is gave) in
    omega (
      arith,
      more,
      length-append (text_of form lead_in stream n) (given_bytes piece),
      length-text_of form lead_in stream (n + 1) within,
      more_words form (n + 1 - lead_in) (units - lead_in) (omega (arith, lt)),
      fits,
    )

-- ---- all units

pub converts : (form : Form) (lead_in : ℕ) (stream : List ℕ) (n : ℕ) → n ≤ most_units
    → length stream ≡ n * unit_size form
    → IsConverted form lead_in stream (text_of form lead_in stream n)
    (stages_after form lead_in stream n).bad
converts form lead_in stream n few whole = (plays_stream form lead_in (fresh form lead_in) refl refl).says
    stream n few (whole_taken form n stream whole)

pub finished : (form : Form) (lead_in : ℕ) (stream : List ℕ) (units n : ℕ) (packs room : List ℕ)
    (stages : BlockPacks) → units ≤ most_units
    → length stream ≡ units * unit_size form → n ≡ units → stages ≡ stages_after form lead_in stream n
    → packs ≡ text_of form lead_in stream n ++ drop (length (text_of form lead_in stream n)) room
    → (text : List ℕ)
    × IsConverted form lead_in stream text stages.bad
    × (length text ≡ 24 * word_count form (units - lead_in))
    × (packs ≡ text ++ drop (length text) room)
finished form lead_in stream units n packs room stages few whole all now written =
    let size : length stream ≡ n * unit_size form = whole ∙ ap (λ k. k * unit_size form) (sym all) in (
      text_of form lead_in stream n,
      subst (λ (s : BlockPacks). IsConverted form lead_in stream (text_of form lead_in stream n) s.bad)
          (sym now) (converts form lead_in stream n (omega (arith, few, all)) size),
      length-text_of form lead_in stream n (omega (arith, size))
          ∙ ap (λ k. 24 * word_count form (k - lead_in)) all,
      written,
    )
