-- The number of text packs of a sheet, and whether a lead-in has room for them.
use Rattle.std.proofs.Common.{◌≡◌, ◌≢◌, ◌⊎◌, ℕ, zero, suc, ◌+◌, ◌*◌, ◌/◌, ◌<◌, ◌≤◌, Bool, true, false, List, [], ◌∷◌, ◌++◌, length, map, flat_map, replicate, max, refl, sym, ap, subst, ◌∙◌, inl, inr, arith}
use Rattle.std.specs.Prelude.{◌&&◌, if◌then◌else◌}
use Rattle.std.specs.List.{enumerate_from, list_all}
use Rattle.std.proofs.lemmas.Bool.{cases_lt, cases_Bool, and_parts, and_from, eq-eqb, ne_eqb}
use Rattle.std.proofs.lemmas.Grind.{flat_map-append}
use Rattle.std.proofs.lemmas.List.{length-append, length-map}
use Rattle.std.proofs.lemmas.List.Concat.{length-flat_map}
use Rattle.std.proofs.lemmas.List.FromFn.{length-enumerate_from, length-map-range_with_len, map-range_with_len_more}
use Rattle.bit_lists.specs.Counting.{below}
use Rattle.cue_sheet.specs.CueSheet.{CueSheet, text_at}
use Rattle.cue_sheet.specs.declared.fault.CueText.TheVariants as cue
use Rattle.cdtext_packs.specs.Packs.{sealed}
use Rattle.cdtext_packs.specs.Texts.{Texts, are_empty, has_no_text, is_empty, kinds, no_texts, strings_of, unless_empty}
use Rattle.cdtext_packs.specs.Writing.{Content, contents, content_bytes, joined, kind_contents, pack_count, packs_of, size_contents, text_content, type_of}
use Rattle.cdtext_packs.specs.declared.kinds.TextKind.{TextKind}
use Rattle.cdtext_packs.specs.declared.kinds.TextKind.TheVariants.{Title, Performer, Songwriter, Composer, Arranger, Message, Code}
use Rattle.stream_writer.specs.SheetTexts.{code_at, for_each, sheet_texts}
use Rattle.stream_writer.specs.Needs.{text_packs, lead_in_need, HasRoom, IsLeadInShort, IsTextTooLong}

-- The bytes of strings, with a zero byte after each.

pub joined_more : (f : ℕ → List ℕ) (k bytes : ℕ) → bytes ≡ length (joined (map f (below k)))
    → bytes + (length (f k) + 1) ≡ length (joined (map f (below (k + 1))))
joined_more f k bytes is =
    let more : map f (below (k + 1)) ≡ map f (below k) ++ f k ∷ [] =
    map-range_with_len_more f 0 k k (omega arith) in
    let parts : joined (map f (below (k + 1))) ≡ joined (map f (below k)) ++ joined (f k ∷ []) =
    ap joined more ∙ flat_map-append (λ s. s ++ 0 ∷ []) (map f (below k)) (f k ∷ []) in
    omega (
      arith,
      is,
      ap length parts,
      length-append (joined (map f (below k))) (joined (f k ∷ [])),
      length-append (f k ++ 0 ∷ []) [],
      length-append (f k) (0 ∷ []),
    )

-- the strings are all empty, or they have more bytes than their zero bytes
Emptiness : List (List ℕ) → Type 0
Emptiness strings = ((are_empty strings ≡ true) × (length (joined strings) ≡ length strings))
    ⊎ ((are_empty strings ≡ false) × (length strings < length (joined strings)))

joined_size : (s : List ℕ) (rest : List (List ℕ))
    → length (joined (s ∷ rest)) ≡ length s + 1 + length (joined rest)
joined_size s rest = omega (arith, length-append (s ++ 0 ∷ []) (joined rest), length-append s (0 ∷ []))

at_least : (strings : List (List ℕ)) → length strings ≤ length (joined strings)
at_least [] = omega arith
at_least (s ∷ rest) = omega (arith, joined_size s rest, at_least rest)

emptiness : (strings : List (List ℕ)) → Emptiness strings
unfolding Emptiness
emptiness [] = inl (refl, refl)
emptiness (s ∷ rest) = elim (cases_lt 0 (length s)) [
  | inl some ↦ inr (
    ap (λ (b : Bool). b && are_empty rest) (ne_eqb (length s) 0 (λ e. omega (arith, some, e))),
    omega (arith, some, joined_size s rest, at_least rest),
  )
  | inr none ↦
      let here : is_empty s ≡ true = eq-eqb (length s) 0 (omega (arith, none)) in
      let both : are_empty (s ∷ rest) ≡ are_empty rest = ap (λ (b : Bool). b && are_empty rest) here in
      elim (emptiness rest) [
        | inl e ↦ inl (both ∙ e.0, omega (arith, none, joined_size s rest, e.1))
        | inr m ↦ inr (both ∙ m.0, omega (arith, none, joined_size s rest, m.1))
      ]
]

-- The packs that strings fill.

pub none_fill : (strings : List (List ℕ)) (count bytes : ℕ) → count ≡ length strings
    → bytes ≡ length (joined strings) → bytes ≡ count → 0 ≡ pack_count strings
unfolding Emptiness
none_fill strings count bytes counted is same = elim (emptiness strings) [
  | inl e ↦ sym (ap (λ (b : Bool). if b then 0 else (length (joined strings) + 11) / 12) e.0)
  | inr m ↦ absurd (omega (arith, m.1, is, counted, same))
]

pub some_fill : (strings : List (List ℕ)) (count bytes : ℕ) → count ≡ length strings
    → bytes ≡ length (joined strings) → bytes ≢ count → (bytes + 11) / 12 ≡ pack_count strings
unfolding Emptiness
some_fill strings count bytes counted is differ = elim (emptiness strings) [
  | inl e ↦ absurd (differ (omega (arith, e.1, is, counted)))
  | inr m ↦
      ap (λ n. (n + 11) / 12) is
      ∙ sym (ap (λ (b : Bool). if b then 0 else (length (joined strings) + 11) / 12) m.0)
]

none_filled : (strings : List (List ℕ)) → are_empty strings ≡ true → pack_count strings ≡ 0
none_filled strings empty = ap (λ (b : Bool). if b then 0 else (length (joined strings) + 11) / 12) empty

empty_of_none : (strings : List (List ℕ)) → pack_count strings ≡ 0 → are_empty strings ≡ true
unfolding Emptiness
empty_of_none strings none = elim (emptiness strings) [
  | inl e ↦ e.0
  | inr m ↦
      let count : pack_count strings ≡ (length (joined strings) + 11) / 12 =
      ap (λ (b : Bool). if b then 0 else (length (joined strings) + 11) / 12) m.0 in
      absurd (omega (arith, none, count, m.1))
]

all_empty : (n : ℕ) → are_empty (replicate n []) ≡ true
all_empty zero = refl
all_empty (suc n) = all_empty n

-- The number of packs of texts.

length-packs_of : (texts : Texts) → length (packs_of texts) ≡ length (contents texts)
length-packs_of texts =
    length-map (enumerate_from 0 (contents texts)) (λ (n : ℕ × Content). sealed (content_bytes n.0 n.1))
    ∙ length-enumerate_from 0 (contents texts)

length-kind : (texts : Texts) (kind : TextKind)
    → length (kind_contents texts kind) ≡ pack_count (strings_of kind texts)
unfolding kind_contents
length-kind texts kind =
    length-map-range_with_len (text_content texts.first (type_of kind) (strings_of kind texts)) 0
    (pack_count (strings_of kind texts))

abbrev count_of : Texts → TextKind → ℕ
count_of texts kind = pack_count (strings_of kind texts)

length-kinds : (texts : Texts) → length (flat_map (kind_contents texts) kinds)
    ≡ count_of texts Title + count_of texts Performer + count_of texts Songwriter + count_of texts Composer
    + count_of texts Arranger + count_of texts Message + count_of texts Code
length-kinds texts = omega (
  arith,
  length-flat_map (kind_contents texts) kinds,
  length-kind texts Title,
  length-kind texts Performer,
  length-kind texts Songwriter,
  length-kind texts Composer,
  length-kind texts Arranger,
  length-kind texts Message,
  length-kind texts Code,
)

-- the texts have no strings of the kinds that a sheet lacks
record HasFour (texts : Texts) : Type 0 where
  composer : are_empty texts.composer ≡ true
  arranger : are_empty texts.arranger ≡ true
  message : are_empty texts.message ≡ true

abbrev filled : Texts → ℕ
filled texts =
    count_of texts Title + count_of texts Performer + count_of texts Songwriter + count_of texts Code

length-with_text : (texts : Texts) → HasFour texts → has_no_text texts ≡ false
    → length (contents texts) ≡ filled texts + 3
length-with_text texts four some =
    let all : length (contents texts) ≡ length (flat_map (kind_contents texts) kinds ++ size_contents texts) =
    ap (λ (b : Bool). length (if b then [] else flat_map (kind_contents texts) kinds ++ size_contents texts))
    some in
    omega (
      arith,
      all,
      length-append (flat_map (kind_contents texts) kinds) (size_contents texts),
      length-kinds texts,
      none_filled texts.composer four.composer,
      none_filled texts.arranger four.arranger,
      none_filled texts.message four.message,
    )

-- if none of the four kinds fills a pack, there is no text
no_text : (texts : Texts) → HasFour texts → filled texts ≡ 0 → has_no_text texts ≡ true
no_text texts four none =
    let t : are_empty texts.title ≡ true = empty_of_none texts.title (omega (arith, none)) in
    let p : are_empty texts.performer ≡ true = empty_of_none texts.performer (omega (arith, none)) in
    let s : are_empty texts.songwriter ≡ true = empty_of_none texts.songwriter (omega (arith, none)) in
    let c : are_empty texts.code ≡ true = empty_of_none texts.code (omega (arith, none)) in
    and_from _ _ t (and_from _ _ p (and_from _ _ s (and_from _ _ four.composer
    (and_from _ _ four.arranger (and_from _ _ four.message (and_from _ _ c refl))))))

-- whether all strings of these kinds are empty
abbrev none_from : Texts → List TextKind → Bool
none_from texts rest = list_all (λ kind. are_empty (strings_of kind texts)) rest

none_here : (texts : Texts) (kind : TextKind) (rest : List TextKind) → none_from texts (kind ∷ rest) ≡ true
    → (are_empty (strings_of kind texts) ≡ true) × (none_from texts rest ≡ true)
none_here texts kind rest none = and_parts (are_empty (strings_of kind texts)) (none_from texts rest) none

-- and if there is no text, no kind fills a pack
none_of_no_text : (texts : Texts) → has_no_text texts ≡ true → filled texts ≡ 0
none_of_no_text texts none =
    let after_message : List TextKind = Code ∷ [] in
    let after_arranger : List TextKind = Message ∷ after_message in
    let after_composer : List TextKind = Arranger ∷ after_arranger in
    let after_songwriter : List TextKind = Composer ∷ after_composer in
    let after_performer : List TextKind = Songwriter ∷ after_songwriter in
    let after_title : List TextKind = Performer ∷ after_performer in
    let t = none_here texts Title after_title none in
    let p = none_here texts Performer after_performer t.1 in
    let s = none_here texts Songwriter after_songwriter p.1 in
    let composer = none_here texts Composer after_composer s.1 in
    let arranger = none_here texts Arranger after_arranger composer.1 in
    let message = none_here texts Message after_message arranger.1 in
    let c = none_here texts Code [] message.1 in
    omega (
      arith,
      none_filled texts.title t.0,
      none_filled texts.performer p.0,
      none_filled texts.songwriter s.0,
      none_filled texts.code c.0,
    )

length-unless_empty : (texts : Texts) → HasFour texts
    → ((filled texts ≡ 0) × (length (contents (unless_empty texts)) ≡ 0))
    ⊎ ((0 < filled texts) × (length (contents (unless_empty texts)) ≡ filled texts + 3))
length-unless_empty texts four = elim (cases_lt 0 (filled texts)) [
  | inr none ↦
      let zero_ : filled texts ≡ 0 = omega (arith, none) in
      let gone : unless_empty texts ≡ no_texts =
      ap (λ (b : Bool). if b then no_texts else texts) (no_text texts four zero_) in
      inl (zero_, ap (λ (t : Texts). length (contents t)) gone)
  | inl some ↦ elim (cases_Bool (has_no_text texts)) [
    | inl silent ↦ absurd (omega (arith, some, none_of_no_text texts silent))
    | inr text ↦
        let same : unless_empty texts ≡ texts = ap (λ (b : Bool). if b then no_texts else texts) text in
        inr (some, ap (λ (t : Texts). length (contents t)) same ∙ length-with_text texts four text)
  ]
]

-- The number of packs of a sheet.

pub packs_counted : (sheet : CueSheet) (all : ℕ)
    → all ≡ pack_count (for_each sheet (text_at cue.Title sheet))
    + pack_count (for_each sheet (text_at cue.Performer sheet))
    + pack_count (for_each sheet (text_at cue.Songwriter sheet)) + pack_count (for_each sheet (code_at sheet))
    → ((all ≡ 0) × (length (text_packs sheet) ≡ 0)) ⊎ ((0 < all) × (length (text_packs sheet) ≡ all + 3))
packs_counted sheet all is =
    let texts : Texts = sheet_texts sheet in
    let empty = all_empty (length sheet.tracks + 1) in
    let size : length (text_packs sheet) ≡ length (contents (unless_empty texts)) =
    length-packs_of (unless_empty texts) in
    elim (length-unless_empty texts (record { composer = empty; arranger = empty; message = empty })) [
      | inl none ↦ inl (is ∙ none.0, size ∙ none.1)
      | inr some ↦ inr (omega (arith, is, some.0), omega (arith, size, some.1, is))
    ]

-- Whether a lead-in has room.

pub too_long : (sheet : CueSheet) (lead_in packs : ℕ) → 0 < lead_in → packs ≡ length (text_packs sheet)
    → 256 < packs → IsTextTooLong sheet lead_in packs
too_long sheet lead_in packs some is many = (some, many, is)

need_is : (sheet : CueSheet) (packs need : ℕ) → packs ≡ length (text_packs sheet)
    → need ≡ max (3 * (length sheet.tracks + 3)) ((packs + 3) / 4) → need ≡ lead_in_need sheet
need_is sheet packs need is needed = needed ∙ ap (λ n. max (3 * (length sheet.tracks + 3)) ((n + 3) / 4)) is

pub lead_in_short : (sheet : CueSheet) (lead_in packs need : ℕ) → 0 < lead_in
    → packs ≡ length (text_packs sheet) → packs ≤ 256
    → need ≡ max (3 * (length sheet.tracks + 3)) ((packs + 3) / 4) → lead_in < need
    → IsLeadInShort sheet lead_in need
lead_in_short sheet lead_in packs need some is few needed short =
    (some, omega (arith, is, few), short, need_is sheet packs need is needed)

pub has_room : (sheet : CueSheet) (lead_in packs need : ℕ) → packs ≡ length (text_packs sheet) → packs ≤ 256
    → need ≡ max (3 * (length sheet.tracks + 3)) ((packs + 3) / 4) → need ≤ lead_in → HasRoom sheet lead_in
has_room sheet lead_in packs need is few needed fits some =
    (omega (arith, is, few), subst (λ n. n ≤ lead_in) (need_is sheet packs need is needed) fits)
