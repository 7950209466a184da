-- Packs of strings of bytes consist of bytes.
use Rattle.std.proofs.Common.{◌≡◌, ℕ, zero, suc, ◌+◌, ◌-◌, ◌*◌, ◌/◌, ◌%◌, ◌^◌, ◌<◌, ◌≤◌, false, ◌==◌, if◌then◌else◌, List, [], ◌∷◌, ◌++◌, length, get_or, map, flat_map, take, drop, replicate, All, inl, inr, sym, ap, subst, ◌∙◌, arith}
use Rattle.std.proofs.lemmas.Bool.{cases_lt, cond_both, cond-false}
use Rattle.std.proofs.lemmas.List.{length-append, get_or_past}
use Rattle.std.proofs.lemmas.List.Elements.{All-map, All-append, All-take, All-drop, All-replicate, All-get_or}
use Rattle.bit_lists.specs.Counting.{below}
use Rattle.bit_lists.specs.Bits.{bits_of_bytes}
use Rattle.bit_lists.specs.Check.{check_of, check_bits}
use Rattle.bit_lists.proofs.BitsLemmas.{number_of-lt}
use Rattle.bit_lists.proofs.Checks.{length-check_bits}
use Rattle.cdtext_packs.specs.Packs.{sealed}
use Rattle.cdtext_packs.specs.Texts.{Texts, kinds, strings_of, has_no_text, HasTracks}
use Rattle.cdtext_packs.specs.Writing.{Content, content_bytes, numbered, holders, joined, twelve, text_content, kind_contents, size_bytes, size_content, size_contents, contents, packs_of, pack_count, type_of}
use Rattle.cdtext_packs.specs.declared.kinds.TextKind.{TextKind}
use Rattle.cdtext_packs.specs.declared.kinds.TextKind.TheVariants.{Title, Performer, Songwriter, Composer, Arranger, Message, Code}

abbrev pub AreBytes : List ℕ → Type 0
AreBytes xs = All (λ b. b < 256) xs

pub no_bytes : AreBytes []
no_bytes = λ k d less. absurd (omega arith)

pub one_byte : (b : ℕ) (rest : List ℕ) → b < 256 → AreBytes rest → AreBytes (b ∷ rest)
one_byte b rest small are zero d less = small
one_byte b rest small are (suc k) d less = are k d (omega arith)

-- the content consists of bytes
record HasBytes (c : Content) : Type 0 where
  type : c.type < 256
  track : c.track < 256
  position : c.position < 256
  text : AreBytes c.text

small_check : (bytes : List ℕ) → check_of bytes < 65536
unfolding check_of
small_check bytes = let size = length-check_bits (bits_of_bytes bytes) in
    let power : 2 ^ length (check_bits (bits_of_bytes bytes)) ≡ 65536 = ap (λ n. 2 ^ n) size in
    let less = number_of-lt (check_bits (bits_of_bytes bytes)) in
    omega arith

sealed_bytes : (n : ℕ) (c : Content) → n < 256 → HasBytes c → AreBytes (sealed (content_bytes n c))
unfolding sealed
sealed_bytes n c few has =
    let small = small_check (content_bytes n c) in
    let check : List ℕ = (check_of (content_bytes n c) / 256) ∷ (check_of (content_bytes n c) % 256) ∷ [] in
    All-append (λ b. b < 256) (content_bytes n c) check
    (one_byte c.type (c.track ∷ n ∷ c.position ∷ c.text) has.type (one_byte c.track (n ∷ c.position ∷ c.text)
    has.track (one_byte n (c.position ∷ c.text) few (one_byte c.position c.text has.position has.text))))
    (one_byte (check_of (content_bytes n c) / 256) ((check_of (content_bytes n c) % 256) ∷ []) (omega arith)
    (one_byte (check_of (content_bytes n c) % 256) [] (omega arith) no_bytes))

numbered_bytes : (first : ℕ) (cs : List Content) → first + length cs ≤ 256 → All HasBytes cs
    → All AreBytes (numbered first cs)
numbered_bytes first [] few each = λ k d less. absurd (omega arith)
numbered_bytes first (c ∷ cs) few each =
    λ k. elim k as (λ k. (d : List ℕ) → k < length (numbered first (c ∷ cs))
    → AreBytes (get_or (numbered first (c ∷ cs)) k d)) [
      | zero ↦ λ d less. sealed_bytes first c (omega arith) (each 0 c (omega arith))
      | suc k ↦
          λ d less.
          numbered_bytes (first + 1) cs (omega arith) (λ i e inside. each (suc i) e (omega arith)) k d
          (omega arith)
    ]

joined_bytes : (strings : List (List ℕ)) → All AreBytes strings → AreBytes (joined strings)
joined_bytes [] are = no_bytes
joined_bytes (s ∷ strings) are =
    All-append (λ b. b < 256) (s ++ 0 ∷ []) (joined strings)
    (All-append (λ b. b < 256) s (0 ∷ []) (are 0 s (omega arith)) (one_byte 0 [] (omega arith) no_bytes))
    (joined_bytes strings (λ k d less. are (suc k) d (omega arith)))

twelve_bytes : (bytes : List ℕ) (k : ℕ) → AreBytes bytes → AreBytes (twelve bytes k)
twelve_bytes bytes k are =
    All-take (λ b. b < 256) 12 (drop (12 * k) bytes ++ replicate 12 0)
    (All-append (λ b. b < 256) (drop (12 * k) bytes) (replicate 12 0)
    (All-drop (λ b. b < 256) (12 * k) bytes are) (All-replicate (λ b. b < 256) 12 0 (omega arith)))

holders_within : (first : ℕ) (strings : List (List ℕ))
    → All (λ (h : ℕ × ℕ). h.0 < first + length strings) (holders first strings)
holders_within first [] = λ k d less. absurd (omega arith)
holders_within first (s ∷ strings) =
    All-append (λ (h : ℕ × ℕ). h.0 < first + length (s ∷ strings))
    (map (λ (offset : ℕ). (first, offset)) (below (length s + 1))) (holders (first + 1) strings)
    (All-map (λ (h : ℕ × ℕ). h.0 < first + length (s ∷ strings)) (λ (offset : ℕ). (first, offset))
    (below (length s + 1)) (λ k d less. omega arith))
    (λ k d less. let rest = holders_within (first + 1) strings k d less in omega arith)

holder_within : (strings : List (List ℕ)) (i : ℕ) → (get_or (holders 0 strings) i (0, 0)).0 ≤ length strings
holder_within strings i = elim (cases_lt i (length (holders 0 strings))) [
  | inl inside ↦ let less = holders_within 0 strings i (0, 0) inside in omega arith
  | inr past ↦ let none = ap (λ (h : ℕ × ℕ). h.0) (get_or_past (holders 0 strings) i (0, 0) past) in
      omega arith
]

small_type : (kind : TextKind) → type_of kind < 256
small_type Title = omega arith
small_type Performer = omega arith
small_type Songwriter = omega arith
small_type Composer = omega arith
small_type Arranger = omega arith
small_type Message = omega arith
small_type Code = omega arith

track_bound : (first count holder : ℕ) → first + count ≤ 200 → holder ≤ count
    → (if holder == 0 then 0 else first + holder - 1) < 256
track_bound first count holder few within =
    cond_both (holder == 0) 0 (first + holder - 1) (λ n. n < 256) (λ _. omega arith) (λ _. omega arith)

text_content_bytes : (first type : ℕ) (strings : List (List ℕ)) (k : ℕ) → type < 256
    → first + length strings ≤ 200 → All AreBytes strings
    → HasBytes (text_content first type strings k)
unfolding text_content
text_content_bytes first type strings k small few are = record {
  type = small;
  track = track_bound first (length strings) _ few (holder_within strings (12 * k));
  position = omega arith;
  text = twelve_bytes (joined strings) k (joined_bytes strings are);
}

module _ (texts : Texts) (tracks : HasTracks texts)
    (are : (kind : TextKind) → All AreBytes (strings_of kind texts)) where
  kind_bytes : (kind : TextKind) → All HasBytes (kind_contents texts kind)
  unfolding kind_contents
  kind_bytes kind =
      let count = tracks.count kind in
      All-map HasBytes (text_content texts.first (type_of kind) (strings_of kind texts))
      (below (pack_count (strings_of kind texts)))
      (λ i d less. text_content_bytes texts.first (type_of kind) (strings_of kind texts)
      (get_or (below (pack_count (strings_of kind texts))) i d) (small_type kind)
      (omega (arith, tracks.first, tracks.last, tracks.limit)) (are kind))

  all_bytes : (ks : List TextKind) → All HasBytes (flat_map (kind_contents texts) ks)
  all_bytes [] = λ k d less. absurd (omega arith)
  all_bytes (k ∷ ks) =
      All-append HasBytes (kind_contents texts k) (flat_map (kind_contents texts) ks) (kind_bytes k)
      (all_bytes ks)

  abbrev total : ℕ
  total = length (flat_map (kind_contents texts) kinds)

  -- no kind has more packs than all kinds together
  counted : (kind : TextKind) (ks : List TextKind)
      → length (flat_map (kind_contents texts) (kind ∷ ks))
      ≡ length (kind_contents texts kind) + length (flat_map (kind_contents texts) ks)
  counted kind ks = length-append (kind_contents texts kind) (flat_map (kind_contents texts) ks)

  fewer : (kind : TextKind) → length (kind_contents texts kind) ≤ total
  fewer kind =
      let c0 = counted Title (Performer ∷ Songwriter ∷ Composer ∷ Arranger ∷ Message ∷ Code ∷ []) in
      let c1 = counted Performer (Songwriter ∷ Composer ∷ Arranger ∷ Message ∷ Code ∷ []) in
      let c2 = counted Songwriter (Composer ∷ Arranger ∷ Message ∷ Code ∷ []) in
      let c3 = counted Composer (Arranger ∷ Message ∷ Code ∷ []) in
      let c4 = counted Arranger (Message ∷ Code ∷ []) in
      let c5 = counted Message (Code ∷ []) in
      let c6 = counted Code [] in
      elim kind as (λ kind. length (kind_contents texts kind) ≤ total) [
        | Title ↦ omega (arith, c0)
        | Performer ↦ omega (arith, c0, c1)
        | Songwriter ↦ omega (arith, c0, c1, c2)
        | Composer ↦ omega (arith, c0, c1, c2, c3)
        | Arranger ↦ omega (arith, c0, c1, c2, c3, c4)
        | Message ↦ omega (arith, c0, c1, c2, c3, c4, c5)
        | Code ↦ omega (arith, c0, c1, c2, c3, c4, c5, c6)
      ]

  size_bytes_are : total ≤ 253 → AreBytes (size_bytes texts)
  size_bytes_are few =
      let small : (kind : TextKind) → length (kind_contents texts kind) < 256 =
      λ kind. omega (arith, fewer kind) in
      let zeros : (n : ℕ) → AreBytes (replicate n 0) = λ n. All-replicate (λ b. b < 256) n 0 (omega arith) in
      let counts : AreBytes (map (λ (kind : TextKind). length (kind_contents texts kind)) (take 6 kinds)) =
      All-map (λ b. b < 256) (λ (kind : TextKind). length (kind_contents texts kind)) (take 6 kinds)
      (λ i d less. small (get_or (take 6 kinds) i d)) in
      let languages : List ℕ = 9 ∷ replicate 7 0 in
      let numbers : List ℕ = (total + 2) ∷ (replicate 7 0 ++ languages) in
      let last_counts : List ℕ = length (kind_contents texts Code) ∷ 3 ∷ numbers in
      let all_counts : List ℕ =
      map (λ (kind : TextKind). length (kind_contents texts kind)) (take 6 kinds)
      ++ (replicate 8 0 ++ last_counts) in
      let of_languages : AreBytes languages = one_byte 9 (replicate 7 0) (omega arith) (zeros 7) in
      let of_numbers : AreBytes numbers =
      one_byte (total + 2) (replicate 7 0 ++ languages) (omega arith)
      (All-append (λ b. b < 256) (replicate 7 0) languages (zeros 7) of_languages) in
      let of_last : AreBytes last_counts =
      one_byte (length (kind_contents texts Code)) (3 ∷ numbers) (small Code)
      (one_byte 3 numbers (omega arith) of_numbers) in
      let of_all : AreBytes all_counts =
      All-append (λ b. b < 256) (map (λ (kind : TextKind). length (kind_contents texts kind)) (take 6 kinds))
      (replicate 8 0 ++ last_counts) counts
      (All-append (λ b. b < 256) (replicate 8 0) last_counts (zeros 8) of_last) in
      one_byte 0 (texts.first ∷ texts.last ∷ 0 ∷ all_counts) (omega arith)
      (one_byte texts.first (texts.last ∷ 0 ∷ all_counts) (omega (arith, tracks.last, tracks.limit))
      (one_byte texts.last (0 ∷ all_counts) (omega (arith, tracks.limit))
      (one_byte 0 all_counts (omega arith) of_all)))

  size_contents_bytes : total ≤ 253 → All HasBytes (size_contents texts)
  size_contents_bytes few = All-map HasBytes (size_content texts) (below 3) (λ i d less. record {
    type = omega arith;
    track = let inside = All-get_or (λ k. k < 3) (below 3) i d less (below_three) in omega arith;
    position = omega arith;
    text = twelve_bytes (size_bytes texts) (get_or (below 3) i d) (size_bytes_are few);
  })
    where
      below_three : All (λ k. k < 3) (below 3)
      below_three zero d less = omega arith
      below_three (suc zero) d less = omega arith
      below_three (suc (suc zero)) d less = omega arith
      below_three (suc (suc (suc k))) d less = absurd (omega arith)

  pub packs_have_bytes : has_no_text texts ≡ false → length (contents texts) ≤ 256
      → All AreBytes (packs_of texts)
  packs_have_bytes some few =
      let is : contents texts ≡ flat_map (kind_contents texts) kinds ++ size_contents texts =
      cond-false (has_no_text texts) [] (flat_map (kind_contents texts) kinds ++ size_contents texts) some in
      let size = ap length is ∙ length-append (flat_map (kind_contents texts) kinds) (size_contents texts) in
      let enough : total ≤ 253 = omega (arith, size, few) in
      numbered_bytes 0 (contents texts) (omega arith)
      (subst (All HasBytes) (sym is) (All-append HasBytes (flat_map (kind_contents texts) kinds)
      (size_contents texts) (all_bytes kinds) (size_contents_bytes enough)))
