-- Texts that are read back from copies of their packs.
use Rattle.std.proofs.Common.{◌≡◌, ◌≢◌, ℕ, zero, suc, ◌+◌, ◌-◌, ◌*◌, ◌/◌, ◌≤◌, Bool, true, false, not, ◌==◌, List, [], ◌∷◌, ◌++◌, length, take, get_or, map, filter, flat_map, replicate, find, All, Option, Some, None, is_none, Ok, inl, inr, refl, sym, ap, ◌∙◌, subst, arith}
use Rattle.std.specs.Prelude.{nat_lt}
use Rattle.std.specs.Option.{option_or}
use Rattle.std.proofs.lemmas.List.{append-nil, length-append, length-map, take_at}
use Rattle.std.proofs.lemmas.List.Elements.{filter_map-append, All-append, All-map}
use Rattle.std.proofs.lemmas.List.Folds.{find-append}
use Rattle.std.proofs.lemmas.Bool.{cases_Bool, cond-false, and_left, and_right, ne_eqb, eq-eqb, le-ltb, not_from_true}
use Rattle.bit_lists.specs.Counting.{below}
use Rattle.cdtext_packs.specs.Packs.{sealed, pack_type, pack_text}
use Rattle.cdtext_packs.specs.Kept.{with_number, kept_among}
use Rattle.cdtext_packs.specs.Texts.{Texts, kinds, strings_of, are_empty, has_no_text, HasTracks}
use Rattle.cdtext_packs.specs.Writing.{Content, content_bytes, numbered, kind_contents, size_contents, size_content, contents, packs_of, text_content, pack_count, type_of, joined, twelve}
use Rattle.cdtext_packs.specs.Reading.{in_order, is_size_pack, size_pack, kind_packs, kind_bytes, ends_in, strings_in, resolved, kind_texts, is_short, first_missing, first_short, all_texts, read_kinds, read_texts, keeps_nothing}
use Rattle.cdtext_packs.specs.declared.kinds.TextKind.{TextKind}
use Rattle.cdtext_packs.specs.declared.kinds.TextKind.TheVariants.{Title, Performer, Songwriter, Composer, Arranger, Message, Code}
use Rattle.cdtext_packs.proofs.Numbered.{numbered-append, length-numbered, length-kind_contents, pack_count-empty, pack_count-full}
use Rattle.cdtext_packs.proofs.KeptPacks.{find_below_none}
use Rattle.cdtext_packs.proofs.Cuts.{texts_none, texts_some}
use Rattle.cdtext_packs.proofs.Steps.{sizes_pass, none_missing, all_read, sizes_read}
use Rattle.cdtext_packs.specs.Copies.{AreCopies, HasNoTab}
use Rattle.cdtext_packs.proofs.Seals.{IsContent, seal_type}
use Rattle.cdtext_packs.proofs.Copied.{placed, placed_at, copies_kept}
use Rattle.cdtext_packs.proofs.Cutting.{all_first, all_rest, all_together, joined_ends, joined_strings, resolved_same, all_empty, joined_some}
use Rattle.cdtext_packs.proofs.KindBytes.{bytes_among, count_among, kind_among, texts_of_contents, each_is_content}

in_order_some : (packs : List (List ℕ)) → in_order (map (λ (pack : List ℕ). Some pack) packs) ≡ packs
in_order_some [] = refl
in_order_some (p ∷ packs) = ap (λ (ps : List (List ℕ)). p ∷ ps) (in_order_some packs)

in_order_none : (k : ℕ) → in_order (replicate k None) ≡ []
in_order_none zero = refl
in_order_none (suc k) = in_order_none k

in_order_placed : (packs : List (List ℕ)) → in_order (placed packs) ≡ packs
unfolding placed
in_order_placed packs =
    filter_map-append (λ (pack : Option (List ℕ)). pack) (map (λ (pack : List ℕ). Some pack) packs)
    (replicate (256 - length packs) None)
    ∙ ap (λ (ps : List (List ℕ)). in_order (map (λ (pack : List ℕ). Some pack) packs) ++ ps)
    (in_order_none (256 - length packs))
    ∙ append-nil (in_order (map (λ (pack : List ℕ). Some pack) packs)) ∙ in_order_some packs

take_placed : (packs : List (List ℕ))
    → take (length packs) (placed packs) ≡ map (λ (pack : List ℕ). Some pack) packs
unfolding placed
take_placed packs =
    take_at (map (λ (pack : List ℕ). Some pack) packs) (replicate (256 - length packs) None) (length packs)
    (length-map packs (λ (pack : List ℕ). Some pack))

none_of_size : (d first : ℕ) (xs : List Content) → All (λ (c : Content). c.type ≢ 143) xs
    → find (is_size_pack d) (numbered first xs) ≡ None
none_of_size d first [] others = refl
none_of_size d first (x ∷ xs) others =
    let other = all_first (λ (c : Content). c.type ≢ 143) x xs others in
    cond-false (is_size_pack d (sealed (content_bytes first x))) (Some (sealed (content_bytes first x)))
    (find (is_size_pack d) (numbered (first + 1) xs))
    (and_left (pack_type (sealed (content_bytes first x)) == 143) _
    (ap (λ (t : ℕ). t == 143) (seal_type first x) ∙ ne_eqb x.type 143 other))
    ∙ none_of_size d (first + 1) xs (all_rest (λ (c : Content). c.type ≢ 143) x xs others)

other_types : (kind : TextKind) → type_of kind ≢ 143
other_types Title = λ e. omega arith
other_types Performer = λ e. omega arith
other_types Songwriter = λ e. omega arith
other_types Composer = λ e. omega arith
other_types Arranger = λ e. omega arith
other_types Message = λ e. omega arith
other_types Code = λ e. omega arith

kind_types : (texts : Texts) (kind : TextKind)
    → All (λ (c : Content). c.type ≢ 143) (kind_contents texts kind)
unfolding kind_contents text_content
kind_types texts kind =
    All-map (λ (c : Content). c.type ≢ 143) (text_content texts.first (type_of kind) (strings_of kind texts))
    (below (pack_count (strings_of kind texts))) (λ i d inside. other_types kind)

all_types : (texts : Texts) (ks : List TextKind)
    → All (λ (c : Content). c.type ≢ 143) (flat_map (kind_contents texts) ks)
all_types texts [] = λ i d inside. absurd (omega arith)
all_types texts (k ∷ ks) =
    All-append (λ (c : Content). c.type ≢ 143) (kind_contents texts k) (flat_map (kind_contents texts) ks)
    (kind_types texts k) (all_types texts ks)

none_pass : (p : TextKind → Bool) (ks : List TextKind) → ((k : TextKind) → p k ≡ false) → find p ks ≡ None
none_pass p [] fails = refl
none_pass p (k ∷ ks) fails = cond-false (p k) (Some k) (find p ks) (fails k) ∙ none_pass p ks fails

module _ (texts : Texts) (tracks : HasTracks texts) (some : has_no_text texts ≡ false)
    (plain : HasNoTab texts) where
  abbrev written : List Content
  written = flat_map (kind_contents texts) kinds ++ size_contents texts

  abbrev before : ℕ
  before = length (flat_map (kind_contents texts) kinds)

  contents_is : contents texts ≡ written
  contents_is = cond-false (has_no_text texts) [] written some

  packs_is : packs_of texts ≡ numbered 0 written
  packs_is = ap (numbered 0) contents_is

  pub count_is : length (packs_of texts) ≡ before + 3
  count_is =
      ap length packs_is
      ∙ length-numbered 0 written
      ∙ length-append (flat_map (kind_contents texts) kinds) (size_contents texts)

  pub contents_are : All IsContent (contents texts)
  contents_are = subst (All IsContent) (sym contents_is) (each_is_content texts)

  -- the size packs
  size_found : (d : ℕ)
      → size_pack (placed (packs_of texts)) d
      ≡ find (is_size_pack d) (numbered (0 + before) (size_contents texts))
  unfolding size_pack
  size_found d =
      ap (λ (ps : List (List ℕ)). find (is_size_pack d) ps) (in_order_placed (packs_of texts)
      ∙ packs_is
      ∙ numbered-append 0 (flat_map (kind_contents texts) kinds) (size_contents texts))
      ∙ find-append (is_size_pack d) (numbered 0 (flat_map (kind_contents texts) kinds))
      (numbered (0 + before) (size_contents texts))
      ∙ ap (λ (o : Option (List ℕ)).
      option_or o (find (is_size_pack d) (numbered (0 + before) (size_contents texts))))
      (none_of_size d 0 (flat_map (kind_contents texts) kinds) (all_types texts kinds))

  size0 : List ℕ
  size0 = sealed (content_bytes (0 + before) (size_content texts 0))

  size1 : List ℕ
  size1 = sealed (content_bytes (0 + before + 1) (size_content texts 1))

  size2 : List ℕ
  size2 = sealed (content_bytes (0 + before + 1 + 1) (size_content texts 2))

  first_size : size_pack (placed (packs_of texts)) 0 ≡ Some size0
  unfolding sealed size0
  first_size = size_found 0

  second_size : size_pack (placed (packs_of texts)) 1 ≡ Some size1
  unfolding sealed size1
  second_size = size_found 1

  third_size : size_pack (placed (packs_of texts)) 2 ≡ Some size2
  unfolding sealed size2
  third_size = size_found 2

  first_is : get_or size0 5 0 ≡ texts.first
  unfolding sealed size0
  first_is = refl

  last_is : get_or size0 6 0 ≡ texts.last
  unfolding sealed size0
  last_is = refl

  end_is : get_or size1 12 0 ≡ before + 2
  unfolding sealed size1
  end_is = refl

  abbrev used : List (Option (List ℕ))
  used = map (λ (pack : List ℕ). Some pack) (packs_of texts)

  -- the packs of a kind, and its bytes
  bytes_is : (kind : TextKind)
      → kind_bytes used kind
      ≡ flat_map (twelve (joined (strings_of kind texts))) (below (pack_count (strings_of kind texts)))
  unfolding kind_packs
  bytes_is kind =
      ap (λ (ps : List (List ℕ)). flat_map pack_text (filter (λ pack. pack_type pack == type_of kind) ps))
      (in_order_some (packs_of texts) ∙ packs_is)
      ∙ bytes_among 0 written kind (each_is_content texts)
      ∙ ap (λ (cs : List Content). flat_map (λ (c : Content). c.text) cs) (kind_among texts kind)
      ∙ texts_of_contents texts kind

  packs_count : (kind : TextKind) → length (kind_packs used kind) ≡ pack_count (strings_of kind texts)
  unfolding kind_packs
  packs_count kind =
      ap (λ (ps : List (List ℕ)). length (filter (λ pack. pack_type pack == type_of kind) ps))
      (in_order_some (packs_of texts) ∙ packs_is)
      ∙ count_among 0 written kind
      ∙ ap length (kind_among texts kind)
      ∙ length-kind_contents texts kind

  no_bytes : (kind : TextKind) → are_empty (strings_of kind texts) ≡ true → kind_bytes used kind ≡ []
  no_bytes kind none =
      bytes_is kind
      ∙ ap (λ (n : ℕ). flat_map (twelve (joined (strings_of kind texts))) (below n))
      (pack_count-empty (strings_of kind texts) none)

  abbrev padding : TextKind → List ℕ
  padding kind =
      replicate
      (12 * ((length (joined (strings_of kind texts)) + 11) / 12) - length (joined (strings_of kind texts))) 0

  full_bytes : (kind : TextKind) → are_empty (strings_of kind texts) ≡ false
      → kind_bytes used kind ≡ joined (strings_of kind texts) ++ padding kind
  full_bytes kind full =
      bytes_is kind
      ∙ ap (λ (n : ℕ). flat_map (twelve (joined (strings_of kind texts))) (below n))
      (pack_count-full (strings_of kind texts) full)
      ∙ all_together (joined (strings_of kind texts))

  not_short : (kind : TextKind) → is_short used (texts.last - texts.first + 2) kind ≡ false
  unfolding is_short
  not_short kind = elim (cases_Bool (are_empty (strings_of kind texts))) [
    | inl none ↦
        let packs : length (kind_packs used kind) ≡ 0 =
        packs_count kind ∙ pack_count-empty (strings_of kind texts) none in
        and_left (not (length (kind_packs used kind) == 0))
        (nat_lt (ends_in (kind_bytes used kind)) (texts.last - texts.first + 2))
        (not_from_true (length (kind_packs used kind) == 0) (eq-eqb (length (kind_packs used kind)) 0 packs))
    | inr full ↦
        let ends = joined_ends (strings_of kind texts) (padding kind) in
        let bytes = ap ends_in (full_bytes kind full) in
        let count = tracks.count kind in
        and_right (not (length (kind_packs used kind) == 0))
        (nat_lt (ends_in (kind_bytes used kind)) (texts.last - texts.first + 2))
        (le-ltb (ends_in (kind_bytes used kind)) (texts.last - texts.first + 2) (omega arith))
  ]

  none_short : first_short used (texts.last - texts.first + 2) ≡ None
  none_short = none_pass (is_short used (texts.last - texts.first + 2)) kinds not_short

  strings_back : (kind : TextKind)
      → kind_texts used (texts.last - texts.first + 2) kind ≡ strings_of kind texts
  strings_back kind = elim (cases_Bool (are_empty (strings_of kind texts))) [
    | inl none ↦
        texts_none used (texts.last - texts.first + 2) kind (ap length (no_bytes kind none))
        ∙ ap (λ (n : ℕ). replicate n []) (sym (tracks.count kind))
        ∙ sym (all_empty (strings_of kind texts) none)
    | inr full ↦
        let bytes = full_bytes kind full in
        let long = joined_some (strings_of kind texts) full in
        let sizes = ap length bytes ∙ length-append (joined (strings_of kind texts)) (padding kind) in
        texts_some used (texts.last - texts.first + 2) kind (λ e. omega arith)
        ∙ ap (λ (xs : List ℕ). resolved (strings_in (texts.last - texts.first + 2) xs)) bytes
        ∙ ap (λ (n : ℕ). resolved (strings_in n (joined (strings_of kind texts) ++ padding kind)))
        (sym (tracks.count kind))
        ∙ ap resolved (joined_strings (strings_of kind texts) (padding kind) (tracks.strings kind))
        ∙ resolved_same (strings_of kind texts) (plain kind)
  ]

  texts_back : all_texts used texts.first texts.last ≡ texts
  texts_back = λ i. record {
    first = texts.first;
    last = texts.last;
    title = strings_back Title i;
    performer = strings_back Performer i;
    songwriter = strings_back Songwriter i;
    composer = strings_back Composer i;
    arranger = strings_back Arranger i;
    message = strings_back Message i;
    code = strings_back Code i;
  }

  none_is_missing : first_missing (placed (packs_of texts)) (length (packs_of texts)) ≡ None
  none_is_missing =
      find_below_none (λ n. is_none (with_number (placed (packs_of texts)) n)) (length (packs_of texts))
      (λ n inside. ap is_none (placed_at (packs_of texts) n inside))

  read_back : read_texts (placed (packs_of texts)) ≡ Ok texts
  read_back =
      let first = tracks.first in
      let last = tracks.last in
      let limit = tracks.limit in
      let f = first_is in
      let l = last_is in
      let e = end_is in
      let count = count_is in
      let in_all = ap length (in_order_placed (packs_of texts)) in
      let any : keeps_nothing (placed (packs_of texts)) ≡ false =
      ne_eqb (length (in_order (placed (packs_of texts)))) 0 (λ none. omega arith) in
      let whole : get_or size1 12 0 + 1 ≡ length (packs_of texts) = omega arith in
      let missing : first_missing (placed (packs_of texts)) (get_or size1 12 0 + 1) ≡ None =
      ap (first_missing (placed (packs_of texts))) whole ∙ none_is_missing in
      sizes_read (placed (packs_of texts)) size0 size1 (Some size2) any first_size second_size refl third_size
      ∙ sizes_pass (placed (packs_of texts)) size0 size1 (omega arith) (omega arith) (omega arith)
      ∙ none_missing (placed (packs_of texts)) (get_or size1 12 0 + 1) (get_or size0 5 0) (get_or size0 6 0)
      missing
      ∙ ap (λ (n : ℕ). read_kinds (take n (placed (packs_of texts))) (get_or size0 5 0) (get_or size0 6 0)
      (first_short (take n (placed (packs_of texts))) (get_or size0 6 0 - get_or size0 5 0 + 2))) whole
      ∙ ap (λ (u : List (Option (List ℕ))). read_kinds u (get_or size0 5 0) (get_or size0 6 0)
      (first_short u (get_or size0 6 0 - get_or size0 5 0 + 2))) (take_placed (packs_of texts))
      ∙ ap (λ (n : ℕ). read_kinds used n (get_or size0 6 0) (first_short used (get_or size0 6 0 - n + 2)))
      first_is
      ∙ ap (λ (n : ℕ). read_kinds used texts.first n (first_short used (n - texts.first + 2))) last_is
      ∙ all_read used texts.first texts.last (first_short used (texts.last - texts.first + 2)) none_short
      ∙ ap Ok texts_back

  pub comes_back : (offered : List (List ℕ)) → length (packs_of texts) ≤ 256 → AreCopies texts offered
      → read_texts (kept_among offered) ≡ Ok texts
  comes_back offered few are = ap read_texts (copies_kept texts offered are contents_are few) ∙ read_back
