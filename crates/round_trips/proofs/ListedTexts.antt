-- The texts of an authored lead-in, intact or damaged.
use Rattle.std.proofs.Common.{◌≡◌, ◌≢◌, ℕ, suc, ◌+◌, ◌*◌, ◌/◌, ◌%◌, ◌<◌, ◌≤◌, Bool, true, false, ◌&&◌, ◌==◌, List, [], ◌∷◌, length, get_or, map, replicate, find, All, Some, None, Result, Ok, Err, inl, inr, refl, sym, ap, subst, ◌∙◌, arith}
use Rattle.std.proofs.lemmas.Bool.{cases_Bool, cond-true, cond-false, ne_eqb, and_left}
use Rattle.std.proofs.lemmas.List.{length-append}
use Rattle.std.proofs.lemmas.List.Elements.{All-get_or, All-from_get_or}
use Rattle.std.proofs.lemmas.List.FromFn.{length-map-range_with_len, get_or-map-range_with_len}
use Rattle.std.proofs.Math.Nat.{mod-lt, mod-eq_of_lt}
use Rattle.bit_lists.specs.Counting.{below}
use Rattle.bit_lists.specs.Bits.{bits_of, number_of, bits_of_bytes}
use Rattle.bit_lists.specs.Check.{check_of, check_bits}
use Rattle.bit_lists.specs.Polynomial.{remainder, division_steps, division_step}
use Rattle.raw_subcode.specs.declared.form.Form.{Form}
use Rattle.raw_subcode.specs.declared.form.Form.TheVariants.{Raw}
use Rattle.cue_sheet.specs.CueSheet.{CueSheet}
use Rattle.toc_model.specs.Places.{layout_of}
use Rattle.cdtext_packs.specs.Packs.{check_matches, is_first_block, is_good, pack_number, sealed}
use Rattle.cdtext_packs.specs.Kept.{kept_among}
use Rattle.cdtext_packs.specs.Reading.{read_texts}
use Rattle.cdtext_packs.specs.Texts.{Texts, HasTracks, strings_of, has_no_text, no_texts}
use Rattle.cdtext_packs.specs.Writing.{Content, content_bytes, contents, packs_of}
use Rattle.stream_writer.specs.SheetTexts.{sheet_texts, texts_of_sheet}
use Rattle.cdtext_packs.specs.declared.kinds.TextFault.{TextFault}
use Rattle.cdtext_packs.specs.declared.kinds.TextKind.{TextKind}
use Rattle.cdtext_packs.proofs.Numbered.{length-numbered}
use Rattle.cdtext_packs.specs.TextLines.{text_line, tracks_of, kind_lines, offers_line, counted_lines, text_lines}
use Rattle.cdtext_packs.specs.Copies.{IsPack, StandsIn, AreCopies, HasNoTab}
use Rattle.cdtext_packs.proofs.Back.{contents_are, count_is}
use Rattle.cdtext_packs.proofs.Seals.{IsContent, numbered_at, seal_good}
use Rattle.picture_script.specs.Script.{Drawing}
use Rattle.subcode_author.specs.Authored.{IsAuthored, text_packs, disc_of}
use Rattle.stream_stages.specs.TextListing.{IsTextListed, packs_in, texts_of_lead_in}
use Rattle.round_trips.specs.Damage.{HasHurtSlots, count_whole, count_hurt}
use Rattle.round_trips.specs.SheetLines.{HasText, HasTextPacks, sheet_lines}
use Rattle.round_trips.specs.Slots.{pack_in_slot, packs_in_slots}
use Rattle.round_trips.proofs.SlotPacks.{lead_in_holds}
use Rattle.round_trips.proofs.PackBytes.{AreBytes, packs_have_bytes}
use Rattle.round_trips.proofs.SheetTracks.{sheet_has_tracks, sheet_has_no_tab}
use Rattle.round_trips.proofs.Found.{AreMarked, marked, found_each, all_whole, all_hurt, count_good, count_bad, count_other, all_are_whole, none_is_hurt, none_is_whole, all_are_hurt}

-- Texts are read back from copies of their packs.
abbrev pub ComeBack : Type 0
ComeBack =
    (texts : Texts) (offered : List (List ℕ)) → HasTracks texts → has_no_text texts ≡ false → HasNoTab texts
    → length (packs_of texts) ≤ 256 → AreCopies texts offered → read_texts (kept_among offered) ≡ Ok texts

abbrev the_texts : Result Texts TextFault → Texts
the_texts (Ok texts) = texts
the_texts (Err fault) = no_texts

counted_same : (texts texts' : Texts) (good bad other good' bad' other' : ℕ) → texts ≡ texts' → good ≡ good'
    → bad ≡ bad' → other ≡ other'
    → counted_lines texts good bad other ≡ counted_lines texts' good' bad' other'
counted_same texts texts' good bad other good' bad' other' t e f g =
    λ i. counted_lines (t i) (e i) (f i) (g i)

-- the listing of packs, from their marks
lines_of : (texts : Texts) (whole : List Bool) (form : Form) (lead_in : ℕ) (bytes text : List ℕ) (bad : ℕ)
    → AreMarked whole (packs_in form lead_in bytes) → texts_of_lead_in form lead_in bytes ≡ Ok texts
    → IsTextListed form lead_in bytes text bad
    → text ≡ counted_lines texts (count_whole whole) (count_hurt whole) 0
lines_of texts whole form lead_in bytes text bad are read listed =
    let same : listed.texts ≡ texts = ap the_texts (sym listed.read ∙ read) in
    listed.text_is
    ∙ counted_same listed.texts texts _ _ _ _ _ _ same (count_good whole (packs_in form lead_in bytes) are)
    (count_bad whole (packs_in form lead_in bytes) are) (count_other whole (packs_in form lead_in bytes) are)

module _ (sheet : CueSheet) (has : HasTextPacks sheet) (some : HasText sheet) where
  texts_are : texts_of_sheet sheet ≡ sheet_texts sheet
  texts_are = cond-false (has_no_text (sheet_texts sheet)) no_texts (sheet_texts sheet) some

  tracks : HasTracks (texts_of_sheet sheet)
  tracks = subst HasTracks (sym texts_are) (sheet_has_tracks sheet has.is_sheet)

  some_text : has_no_text (texts_of_sheet sheet) ≡ false
  some_text = ap has_no_text texts_are ∙ some

  no_tab : HasNoTab (texts_of_sheet sheet)
  no_tab = subst HasNoTab (sym texts_are) (sheet_has_no_tab sheet has.is_sheet)

  each_content : All IsContent (contents (texts_of_sheet sheet))
  each_content = contents_are (texts_of_sheet sheet) tracks some_text no_tab

  no_content : Content
  no_content = record { type = 0; track = 0; position = 0; text = [] }

  pub pack_good : (n : ℕ) → n < length (text_packs sheet) → is_good (get_or (text_packs sheet) n []) ≡ true
  pack_good n inside =
      let within : n < length (contents (texts_of_sheet sheet)) =
      omega (arith, length-numbered 0 (contents (texts_of_sheet sheet)), inside) in
      ap is_good (numbered_at 0 (contents (texts_of_sheet sheet)) n no_content within)
      ∙ seal_good (0 + n) (get_or (contents (texts_of_sheet sheet)) n no_content)
      (All-get_or IsContent (contents (texts_of_sheet sheet)) n no_content within each_content)

  pub some_packs : length (text_packs sheet) ≢ 0
  some_packs = λ none. let count = count_is (texts_of_sheet sheet) tracks some_text no_tab in
      absurd (omega (arith, count, none))

  length-pack : (n : ℕ) → n < length (text_packs sheet) → length (get_or (text_packs sheet) n []) ≡ 18
  unfolding sealed
  length-pack n inside =
      let within : n < length (contents (texts_of_sheet sheet)) =
      omega (arith, length-numbered 0 (contents (texts_of_sheet sheet)), inside) in
      let content : Content = get_or (contents (texts_of_sheet sheet)) n no_content in
      let is : IsContent content =
      All-get_or IsContent (contents (texts_of_sheet sheet)) n no_content within each_content in
      ap length (numbered_at 0 (contents (texts_of_sheet sheet)) n no_content within)
      ∙ length-append (content_bytes (0 + n) content) ((check_of (content_bytes (0 + n) content) / 256)
      ∷ (check_of (content_bytes (0 + n) content) % 256) ∷ [])
      ∙ omega (arith, is.text)

  packs_are_bytes : All AreBytes (text_packs sheet)
  packs_are_bytes =
      packs_have_bytes (texts_of_sheet sheet) tracks
      (subst (λ (t : Texts). (kind : TextKind) → All AreBytes (strings_of kind t)) (sym texts_are) has.bytes)
      some_text
      (omega (arith, length-numbered 0 (contents (texts_of_sheet sheet)), has.few))

  pub is_pack : (n : ℕ) → n < length (text_packs sheet) → IsPack (get_or (text_packs sheet) n [])
  is_pack n inside = record {
    size = length-pack n inside;
    bytes = All-get_or AreBytes (text_packs sheet) n [] inside packs_are_bytes;
  }

  -- each slot contains one of the packs
  module _ (count : ℕ) where
    slot_is : (i : ℕ) → i < length (packs_in_slots (text_packs sheet) count)
        → get_or (packs_in_slots (text_packs sheet) count) i []
        ≡ get_or (text_packs sheet) (i % length (text_packs sheet)) []
    slot_is i less =
        let size = length-map-range_with_len (pack_in_slot (text_packs sheet)) 0 count in
        get_or-map-range_with_len (pack_in_slot (text_packs sheet)) 0 count i i [] (omega arith) (omega arith)
        ∙ cond-false (length (text_packs sheet) == 0) (replicate 18 0)
        (get_or (text_packs sheet) (i % length (text_packs sheet)) [])
        (ne_eqb (length (text_packs sheet)) 0 some_packs)

    place_in : (i : ℕ) → i % length (text_packs sheet) < length (text_packs sheet)
    place_in i = mod-lt i (let some = some_packs in omega arith)

    slot_stands : (i : ℕ) → i < length (packs_in_slots (text_packs sheet) count)
        → StandsIn (get_or (packs_in_slots (text_packs sheet) count) i []) (text_packs sheet)
    slot_stands i less = (i % length (text_packs sheet), place_in i, slot_is i less)

    slot_good : (i : ℕ) → i < length (packs_in_slots (text_packs sheet) count)
        → is_good (get_or (packs_in_slots (text_packs sheet) count) i []) ≡ true
    slot_good i less = ap is_good (slot_is i less) ∙ pack_good (i % length (text_packs sheet)) (place_in i)

    -- with enough slots, each pack is in one
    pack_stands : length (text_packs sheet) ≤ count → (n : ℕ) → n < length (text_packs sheet)
        → StandsIn (get_or (text_packs sheet) n []) (packs_in_slots (text_packs sheet) count)
    pack_stands enough n inside =
        let size = length-map-range_with_len (pack_in_slot (text_packs sheet)) 0 count in
        let within : n < length (packs_in_slots (text_packs sheet) count) = omega arith in (
          n,
          within,
          sym (slot_is n within ∙ ap (λ (k : ℕ). get_or (text_packs sheet) k []) (mod-eq_of_lt inside)),
        )

    -- all slots are intact
    pub undamaged : length (text_packs sheet) ≤ count
        → HasHurtSlots (text_packs sheet) (replicate (length (packs_in_slots (text_packs sheet) count)) true)
        (packs_in_slots (text_packs sheet) count) (packs_in_slots (text_packs sheet) count)
    undamaged enough = record {
      slots = all_whole (packs_in_slots (text_packs sheet) count);
      left =
          All-from_get_or (λ (pack : List ℕ). StandsIn pack (packs_in_slots (text_packs sheet) count))
          (text_packs sheet) [] (pack_stands enough);
    }

    pub marks_are : (whole : List Bool) (found : List (List ℕ))
        → HasHurtSlots (text_packs sheet) whole (packs_in_slots (text_packs sheet) count) found
        → AreMarked whole found
    marks_are whole found damaged =
        marked whole (packs_in_slots (text_packs sheet) count) found damaged.slots slot_good

    pub texts_found : ComeBack → (whole : List Bool) (found : List (List ℕ))
        → HasHurtSlots (text_packs sheet) whole (packs_in_slots (text_packs sheet) count) found
        → read_texts (kept_among found) ≡ Ok (texts_of_sheet sheet)
    texts_found law whole found damaged =
        law (texts_of_sheet sheet) found tracks some_text no_tab has.few (record {
          each =
              found_each (λ (pack : List ℕ). StandsIn pack (text_packs sheet)) whole
              (packs_in_slots (text_packs sheet) count) found damaged.slots slot_stands;
          all =
              λ n inside.
              All-get_or (λ (pack : List ℕ). StandsIn pack found) (text_packs sheet) n [] inside damaged.left;
        })

-- Sheets without text

no_packs : (sheet : CueSheet) → has_no_text (sheet_texts sheet) ≡ true → text_packs sheet ≡ []
no_packs sheet none =
    ap packs_of (cond-true (has_no_text (sheet_texts sheet)) no_texts (sheet_texts sheet) none)

packs_are : (sheet : CueSheet) → HasTextPacks sheet → (n : ℕ) → n < length (text_packs sheet)
    → IsPack (get_or (text_packs sheet) n [])
packs_are sheet has n inside = elim (cases_Bool (has_no_text (sheet_texts sheet))) [
  | inl none ↦ absurd (omega (arith, ap length (no_packs sheet none), inside))
  | inr some ↦ is_pack sheet has some n inside
]

zero_pack_is_bad : check_matches (replicate 18 0) ≡ false
unfolding check_matches check_of check_bits bits_of_bytes bits_of number_of remainder division_steps
    division_step
zero_pack_is_bad = refl

bad_is_not_good : (pack : List ℕ) → check_matches pack ≡ false → is_good pack ≡ false
bad_is_not_good pack bad = and_left (check_matches pack) (is_first_block pack) bad

nothing_found : (found : List (List ℕ))
    → ((i : ℕ) → i < length found → check_matches (get_or found i []) ≡ false) → (n : ℕ)
    → find (λ pack. is_good pack && pack_number pack == n) found ≡ None
nothing_found [] bad n = refl
nothing_found (f ∷ found) bad n =
    cond-false (is_good f && pack_number f == n) (Some f)
    (find (λ pack. is_good pack && pack_number pack == n) found)
    (and_left (is_good f) (pack_number f == n) (bad_is_not_good f (bad 0 (omega arith))))
    ∙ nothing_found found (λ i less. bad (suc i) (omega arith)) n

nothing_read : (found : List (List ℕ))
    → ((i : ℕ) → i < length found → check_matches (get_or found i []) ≡ false)
    → read_texts (kept_among found) ≡ Ok no_texts
nothing_read found bad = λ i. read_texts (map (λ n. nothing_found found bad n i) (below 256))

zero_slot : (count i : ℕ) → i < length (packs_in_slots [] count)
    → check_matches (get_or (packs_in_slots [] count) i []) ≡ false
zero_slot count i less =
    let size = length-map-range_with_len (pack_in_slot []) 0 count in
    ap check_matches (get_or-map-range_with_len (pack_in_slot []) 0 count i i [] (omega arith) (omega arith))
    ∙ zero_pack_is_bad

no_lines : (bad : ℕ) → counted_lines no_texts 0 bad 0 ≡ offers_line 0 bad 0
unfolding kind_lines text_line tracks_of
no_lines bad = refl

-- The laws

pub packs_held : (sheet : CueSheet) (script : List Drawing) (lead_in audio : ℕ) (bytes : List ℕ)
    (packs : List (List ℕ))
    → HasTextPacks sheet → IsAuthored (disc_of sheet script lead_in audio) bytes packs
    → packs_in Raw lead_in bytes ≡ packs_in_slots (text_packs sheet) (4 * lead_in)
packs_held sheet script lead_in audio bytes packs has authored =
    lead_in_holds (text_packs sheet) (packs_are sheet has) (layout_of sheet audio) lead_in bytes
    authored.framing

pub damaged_texts : ComeBack → (sheet : CueSheet) (script : List Drawing) (lead_in audio : ℕ) (bytes : List ℕ)
    (packs : List (List ℕ)) (whole : List Bool) (form : Form) (changed : List ℕ)
    → HasTextPacks sheet → HasText sheet → IsAuthored (disc_of sheet script lead_in audio) bytes packs
    → HasHurtSlots (text_packs sheet) whole (packs_in Raw lead_in bytes) (packs_in form lead_in changed)
    → texts_of_lead_in form lead_in changed ≡ Ok (texts_of_sheet sheet)
damaged_texts law sheet script lead_in audio bytes packs whole form changed has some authored damaged =
    texts_found sheet has some (4 * lead_in) law whole (packs_in form lead_in changed)
    (subst (λ (written : List (List ℕ)).
    HasHurtSlots (text_packs sheet) whole written (packs_in form lead_in changed))
    (packs_held sheet script lead_in audio bytes packs has authored) damaged)

pub damaged_lines : ComeBack → (sheet : CueSheet) (script : List Drawing) (lead_in audio : ℕ) (bytes : List ℕ)
    (packs : List (List ℕ)) (whole : List Bool) (form : Form) (changed text : List ℕ) (bad : ℕ)
    → HasTextPacks sheet → HasText sheet → IsAuthored (disc_of sheet script lead_in audio) bytes packs
    → HasHurtSlots (text_packs sheet) whole (packs_in Raw lead_in bytes) (packs_in form lead_in changed)
    → IsTextListed form lead_in changed text bad
    → text ≡ sheet_lines sheet (count_whole whole) (count_hurt whole)
damaged_lines law sheet script lead_in audio bytes packs whole form changed text bad has some authored damaged
    listed =
    let held = packs_held sheet script lead_in audio bytes packs has authored in
    let are =
    subst (λ (written : List (List ℕ)).
    HasHurtSlots (text_packs sheet) whole written (packs_in form lead_in changed)) held damaged in
    lines_of (texts_of_sheet sheet) whole form lead_in changed text bad
    (marks_are sheet has some (4 * lead_in) whole (packs_in form lead_in changed) are)
    (damaged_texts law sheet script lead_in audio bytes packs whole form changed has some authored damaged)
    listed

-- in an authored lead-in all slots are intact
all_slots : ℕ → CueSheet → List Bool
all_slots lead_in sheet = replicate (length (packs_in_slots (text_packs sheet) (4 * lead_in))) true

whole_lead_in : (sheet : CueSheet) (script : List Drawing) (lead_in audio : ℕ) (bytes : List ℕ)
    (packs : List (List ℕ))
    → HasTextPacks sheet → HasText sheet → 0 < lead_in
    → IsAuthored (disc_of sheet script lead_in audio) bytes packs
    → HasHurtSlots (text_packs sheet) (all_slots lead_in sheet) (packs_in Raw lead_in bytes)
    (packs_in Raw lead_in bytes)
unfolding all_slots
whole_lead_in sheet script lead_in audio bytes packs has some begun authored =
    let held = packs_held sheet script lead_in audio bytes packs has authored in
    let enough : length (text_packs sheet) ≤ 4 * lead_in = omega (arith, authored.enough begun) in
    subst (λ (slots : List (List ℕ)). HasHurtSlots (text_packs sheet)
    (replicate (length (packs_in_slots (text_packs sheet) (4 * lead_in))) true) slots slots) (sym held)
    (undamaged sheet has some (4 * lead_in) enough)

pub authored_texts : ComeBack
    → (sheet : CueSheet) (script : List Drawing) (lead_in audio : ℕ) (bytes : List ℕ) (packs : List (List ℕ))
    → HasTextPacks sheet → HasText sheet → 0 < lead_in
    → IsAuthored (disc_of sheet script lead_in audio) bytes packs
    → texts_of_lead_in Raw lead_in bytes ≡ Ok (texts_of_sheet sheet)
authored_texts law sheet script lead_in audio bytes packs has some begun authored =
    damaged_texts law sheet script lead_in audio bytes packs (all_slots lead_in sheet) Raw bytes has some
    authored (whole_lead_in sheet script lead_in audio bytes packs has some begun authored)

pub authored_lines : ComeBack → (sheet : CueSheet) (script : List Drawing) (lead_in audio : ℕ)
    (bytes : List ℕ) (packs : List (List ℕ)) (text : List ℕ) (bad : ℕ)
    → HasTextPacks sheet → HasText sheet → 0 < lead_in
    → IsAuthored (disc_of sheet script lead_in audio) bytes packs
    → IsTextListed Raw lead_in bytes text bad → text ≡ sheet_lines sheet (4 * lead_in) 0
unfolding all_slots
authored_lines law sheet script lead_in audio bytes packs text bad has some begun authored listed =
    let size : length (packs_in_slots (text_packs sheet) (4 * lead_in)) ≡ 4 * lead_in =
    length-map-range_with_len (pack_in_slot (text_packs sheet)) 0 (4 * lead_in) in
    damaged_lines law sheet script lead_in audio bytes packs (all_slots lead_in sheet) Raw bytes text bad has
    some authored
    (whole_lead_in sheet script lead_in audio bytes packs has some begun authored) listed
    ∙ counted_same (texts_of_sheet sheet) (texts_of_sheet sheet) _ _ 0 _ _ 0 refl
    (all_are_whole (length (packs_in_slots (text_packs sheet) (4 * lead_in))) ∙ size)
    (none_is_hurt (length (packs_in_slots (text_packs sheet) (4 * lead_in)))) refl

-- without text
zeros_held : (sheet : CueSheet) (script : List Drawing) (lead_in audio : ℕ) (bytes : List ℕ)
    (packs : List (List ℕ))
    → has_no_text (sheet_texts sheet) ≡ true → IsAuthored (disc_of sheet script lead_in audio) bytes packs
    → packs_in Raw lead_in bytes ≡ packs_in_slots [] (4 * lead_in)
zeros_held sheet script lead_in audio bytes packs none authored =
    lead_in_holds (text_packs sheet)
    (λ n inside. absurd (omega (arith, ap length (no_packs sheet none), inside))) (layout_of sheet audio)
    lead_in bytes authored.framing
    ∙ ap (λ (ps : List (List ℕ)). packs_in_slots ps (4 * lead_in)) (no_packs sheet none)

pub no_texts_read : (sheet : CueSheet) (script : List Drawing) (lead_in audio : ℕ) (bytes : List ℕ)
    (packs : List (List ℕ))
    → has_no_text (sheet_texts sheet) ≡ true → IsAuthored (disc_of sheet script lead_in audio) bytes packs
    → texts_of_lead_in Raw lead_in bytes ≡ Ok no_texts
no_texts_read sheet script lead_in audio bytes packs none authored =
    ap (λ (ps : List (List ℕ)). read_texts (kept_among ps))
    (zeros_held sheet script lead_in audio bytes packs none authored)
    ∙ nothing_read (packs_in_slots [] (4 * lead_in)) (zero_slot (4 * lead_in))

pub no_text_lines : (sheet : CueSheet) (script : List Drawing) (lead_in audio : ℕ) (bytes : List ℕ)
    (packs : List (List ℕ)) (text : List ℕ) (bad : ℕ)
    → has_no_text (sheet_texts sheet) ≡ true → IsAuthored (disc_of sheet script lead_in audio) bytes packs
    → IsTextListed Raw lead_in bytes text bad → text ≡ offers_line 0 (4 * lead_in) 0
no_text_lines sheet script lead_in audio bytes packs text bad none authored listed =
    let held = zeros_held sheet script lead_in audio bytes packs none authored in
    let count : ℕ = length (packs_in_slots [] (4 * lead_in)) in
    let size : count ≡ 4 * lead_in = length-map-range_with_len (pack_in_slot []) 0 (4 * lead_in) in
    let are : AreMarked (replicate count false) (packs_in Raw lead_in bytes) =
    subst (AreMarked (replicate count false)) (sym held)
    (all_hurt (packs_in_slots [] (4 * lead_in)) (zero_slot (4 * lead_in))) in
    lines_of no_texts (replicate count false) Raw lead_in bytes text bad are
    (no_texts_read sheet script lead_in audio bytes packs none authored) listed
    ∙ counted_same no_texts no_texts _ _ 0 _ _ 0 refl (none_is_whole count) (all_are_hurt count ∙ size) refl
    ∙ no_lines (4 * lead_in)

-- Copies of a lead-in

pub copied_texts : (form : Form) (lead_in : ℕ) (bytes copy : List ℕ) (texts : Texts)
    → packs_in form lead_in copy ≡ packs_in Raw lead_in bytes
    → texts_of_lead_in Raw lead_in bytes ≡ Ok texts → texts_of_lead_in form lead_in copy ≡ Ok texts
copied_texts form lead_in bytes copy texts same read =
    ap (λ (ps : List (List ℕ)). read_texts (kept_among ps)) same ∙ read

pub copied_listing : (form : Form) (lead_in : ℕ) (bytes copy text : List ℕ) (bad : ℕ)
    → packs_in form lead_in copy ≡ packs_in Raw lead_in bytes
    → IsTextListed form lead_in copy text bad → IsTextListed Raw lead_in bytes text bad
copied_listing form lead_in bytes copy text bad same listed = record {
  texts = listed.texts;
  read = ap (λ (ps : List (List ℕ)). read_texts (kept_among ps)) (sym same) ∙ listed.read;
  text_is = listed.text_is ∙ ap (text_lines listed.texts) same;
  none_bad = listed.none_bad;
}
