-- Packs that are numbered one after another.
use Rattle.std.proofs.Common.{◌≡◌, ℕ, ◌+◌, ◌-◌, ◌*◌, ◌/◌, ◌<◌, ◌≤◌, Bool, true, false, if◌then◌else◌, inl, inr, min, drop, replicate, ◌==◌, ◌≢◌, ◌⊎◌, get_or, slice_index_or, List, [], ◌∷◌, ◌++◌, length, map, flat_map, take, sym, ap, ◌∙◌, arith}
use Rattle.std.proofs.lemmas.List.{length-append, length-drop, length-map, length-take, append_assoc, append-nil, take-append-le, take_all, take_more, nil_from_length}
use Rattle.std.proofs.lemmas.Bool.{cases_Bool, cases_lt, cond-true, cond-false, eq-eqb, ne_eqb}
use Rattle.std.proofs.lemmas.List.Folds.{length-flat_map-take}
use Rattle.std.proofs.lemmas.Grind.{flat_map-append}
use Rattle.std.proofs.lemmas.List.FromFn.{length-map-range_with_len, length-enumerate_from, map-range_with_len_more}
use Rattle.std.specs.List.{enumerate_from}
use Rattle.bit_lists.specs.Counting.{below}
use Rattle.cdtext_packs.specs.Packs.{sealed}
use Rattle.cdtext_packs.specs.Texts.{Texts, kinds, strings_of, are_empty, has_no_text}
use Rattle.cdtext_packs.specs.Writing.{Content, joined, numbered, content_bytes, kind_contents, pack_count, text_content, type_of, holders, twelve, size_contents, contents, packs_of}
use Rattle.cdtext_packs.specs.declared.kinds.TextKind.{TextKind}

pub numbered-append : (first : ℕ) (xs ys : List Content)
    → numbered first (xs ++ ys) ≡ numbered first xs ++ numbered (first + length xs) ys
numbered-append first [] ys = ap (λ (n : ℕ). numbered n ys) (omega arith)
numbered-append first (x ∷ xs) ys =
    ap (λ (rest : List (List ℕ)). sealed (content_bytes first x) ∷ rest)
    (numbered-append (first + 1) xs ys
    ∙ ap (λ (n : ℕ). numbered (first + 1) xs ++ numbered n ys) (omega arith))

from_none : (xs ys : List Content) → numbered 0 (xs ++ ys) ≡ numbered 0 xs ++ numbered (length xs) ys
from_none xs ys = numbered-append 0 xs ys ∙ ap (λ (n : ℕ). numbered 0 xs ++ numbered n ys) (omega arith)

pub length-numbered : (first : ℕ) (xs : List Content) → length (numbered first xs) ≡ length xs
length-numbered first xs = length-map (enumerate_from first xs) _ ∙ length-enumerate_from first xs

pub length-kind_contents : (texts : Texts) (kind : TextKind)
    → length (kind_contents texts kind) ≡ pack_count (strings_of kind texts)
unfolding kind_contents
length-kind_contents texts kind =
    length-map-range_with_len (text_content texts.first (type_of kind) (strings_of kind texts)) 0
    (pack_count (strings_of kind texts))

pub pack_count-empty : (strings : List (List ℕ)) → are_empty strings ≡ true → pack_count strings ≡ 0
pack_count-empty strings e = ap (λ (b : Bool). if b then 0 else (length (joined strings) + 11) / 12) e

pub pack_count-full : (strings : List (List ℕ)) → are_empty strings ≡ false
    → pack_count strings ≡ (length (joined strings) + 11) / 12
pack_count-full strings e = ap (λ (b : Bool). if b then 0 else (length (joined strings) + 11) / 12) e

-- a pack of some strings begins before the end of their bytes
pub pack_begins : (strings : List (List ℕ)) (k : ℕ) → k < pack_count strings
    → 12 * k < length (joined strings)
pack_begins strings k below = elim (cases_Bool (are_empty strings)) [
  | inl e ↦ let none = pack_count-empty strings e in absurd (omega arith)
  | inr e ↦ let some = pack_count-full strings e in omega arith
]

pub length-pushed : (old : List (List ℕ)) (f : ℕ → Content) (first k : ℕ)
    → length (old ++ numbered first (map f (below k))) ≡ length old + k
length-pushed old f first k =
    let one = length-append old (numbered first (map f (below k))) in
    let two = length-numbered first (map f (below k)) in
    let three = length-map-range_with_len f 0 k in
    omega arith

-- one more pack
pub pushed_more : (old : List (List ℕ)) (f : ℕ → Content) (first k number : ℕ) → number ≡ first + k
    → (old ++ numbered first (map f (below k))) ++ sealed (content_bytes number (f k)) ∷ []
    ≡ old ++ numbered first (map f (below (k + 1)))
pushed_more old f first k number is =
    let size : length (map f (below k)) ≡ k = length-map-range_with_len f 0 k in
    let more = map-range_with_len_more f 0 k k (omega arith) in
    let place : number ≡ first + length (map f (below k)) = omega arith in
    append_assoc old (numbered first (map f (below k))) (sealed (content_bytes number (f k)) ∷ [])
    ∙ ap (λ (n : ℕ). old ++ (numbered first (map f (below k)) ++ sealed (content_bytes n (f k)) ∷ [])) place
    ∙ ap (λ (packs : List (List ℕ)). old ++ packs) (sym (numbered-append first (map f (below k)) (f k ∷ [])))
    ∙ ap (λ (xs : List Content). old ++ numbered first xs) (sym more)

-- a part of twelve bytes, or of fewer bytes at the end
pub part_of_twelve : (bytes : List ℕ) (k start end : ℕ) → start ≡ 12 * k → start < length bytes
    → end ≡ min (length bytes) (start + 12)
    → twelve (take (end - start) (drop start bytes)) 0 ≡ twelve bytes k
part_of_twelve bytes k start end from inside to =
    let rest : List ℕ = drop start bytes in
    let zeros : List ℕ = replicate 12 0 in
    let size : length rest ≡ length bytes - start = length-drop start bytes in
    let same : take 12 (take (end - start) rest ++ zeros) ≡ take 12 (rest ++ zeros) =
    elim (cases_lt (length rest) 12) [
      | inl short ↦ ap (λ (xs : List ℕ). take 12 (xs ++ zeros)) (take_all (end - start) rest (omega arith))
      | inr long ↦
          let twelve_bytes : end - start ≡ 12 = omega arith in
          let whole : length (take (end - start) rest) ≡ 12 =
          length-take (end - start) rest ∙ omega arith in
          take-append-le 12 (take (end - start) rest) zeros (omega arith)
          ∙ take_all 12 (take (end - start) rest) (omega arith)
          ∙ ap (λ (n : ℕ). take n rest) twelve_bytes
          ∙ sym (take-append-le 12 rest zeros long)
    ] in
    same ∙ ap (λ (n : ℕ). take 12 (drop n bytes ++ zeros)) from

-- the track of a string, from its place
pub track_is : (first place track : ℕ)
    → ((place ≡ 0) × (track ≡ 0)) ⊎ ((place ≡ 0 → ⊥) × (track ≡ first + (place - 1)))
    → track ≡ (if place == 0 then 0 else first + place - 1)
track_is first place track which = elim which [
  | inl at_first ↦ at_first.1 ∙ sym (cond-true (place == 0) 0 (first + place - 1) (eq-eqb place 0 at_first.0))
  | inr later ↦ let some : place ≢ 0 = later.0 in
      let is : track ≡ first + (place - 1) = later.1 in
      let same : track ≡ first + place - 1 = omega arith in
      same ∙ sym (cond-false (place == 0) 0 (first + place - 1) (ne_eqb place 0 later.0))
]

-- the bytes of a pack, from its parts
pub content_is : (first type number k track position : ℕ) (strings : List (List ℕ)) (text : List ℕ)
    (holder : ℕ × ℕ)
    → slice_index_or (holders 0 strings) (12 * k) (0, 0) ≡ holder
    → track ≡ (if holder.0 == 0 then 0 else first + holder.0 - 1)
    → position ≡ min holder.1 15 → text ≡ twelve (joined strings) k
    → type ∷ track ∷ number ∷ position ∷ text ≡ content_bytes number (text_content first type strings k)
unfolding text_content
content_is first type number k track position strings text holder held track_is position_is text_is =
    rw (track_is, position_is, text_is, held)

-- the list of all kinds, with one more kind
pub flat_map-kinds_more : (f : TextKind → List Content) (i : ℕ) (d : TextKind) → i < 7
    → flat_map f (take (i + 1) kinds) ≡ flat_map f (take i kinds) ++ f (get_or kinds i d)
flat_map-kinds_more f i d below =
    ap (flat_map f) (take_more kinds i d below)
    ∙ flat_map-append f (take i kinds) (get_or kinds i d ∷ [])
    ∙ ap (λ (xs : List Content). flat_map f (take i kinds) ++ xs) (append-nil (f (get_or kinds i d)))

-- the contents of packs, if there are packs
pub contents_full : (texts : Texts) → 0 < length (contents texts)
    → contents texts ≡ flat_map (kind_contents texts) kinds ++ size_contents texts
contents_full texts some = elim (cases_Bool (has_no_text texts)) [
  | inl none ↦ let empty : contents texts ≡ [] =
      cond-true (has_no_text texts) [] (flat_map (kind_contents texts) kinds ++ size_contents texts) none in
      let size = ap length empty in absurd (omega arith)
  | inr any ↦
      cond-false (has_no_text texts) [] (flat_map (kind_contents texts) kinds ++ size_contents texts) any
]

pub length-contents : (texts : Texts) → 0 < length (contents texts)
    → length (contents texts) ≡ length (flat_map (kind_contents texts) kinds) + 3
length-contents texts some =
    ap length (contents_full texts some)
    ∙ length-append (flat_map (kind_contents texts) kinds) (size_contents texts)

-- the packs of the first kinds leave room for the packs of the next kind
pub kind_fits : (texts : Texts) (all : List (List ℕ)) (i : ℕ) (d : TextKind) → 0 < length (contents texts)
    → length (contents texts) ≤ 256 → i < 7
    → all ≡ numbered 0 (flat_map (kind_contents texts) (take i kinds))
    → length all + length (kind_contents texts (get_or kinds i d)) ≤ 256
kind_fits texts all i d some few below is =
    let size = ap length is ∙ length-numbered 0 (flat_map (kind_contents texts) (take i kinds)) in
    let part = length-flat_map-take (kind_contents texts) kinds i d below in
    let whole = length-contents texts some in
    omega arith

pub kinds_more : (texts : Texts) (all more : List (List ℕ)) (i : ℕ) (d : TextKind) → i < 7
    → all ≡ numbered 0 (flat_map (kind_contents texts) (take i kinds))
    → more ≡ all ++ numbered (length all) (kind_contents texts (get_or kinds i d))
    → more ≡ numbered 0 (flat_map (kind_contents texts) (take (i + 1) kinds))
kinds_more texts all more i d below is next =
    let f = kind_contents texts in
    let size = ap length is ∙ length-numbered 0 (flat_map f (take i kinds)) in
    next ∙ ap (λ (n : ℕ). all ++ numbered n (f (get_or kinds i d))) size
    ∙ ap (λ (xs : List (List ℕ)). xs ++ numbered (length (flat_map f (take i kinds))) (f (get_or kinds i d)))
    is
    ∙ sym (from_none (flat_map f (take i kinds)) (f (get_or kinds i d)))
    ∙ ap (numbered 0) (sym (flat_map-kinds_more f i d below))

pub kinds_counted : (texts : Texts) (all : List (List ℕ)) (i : ℕ) → i ≡ 7
    → all ≡ numbered 0 (flat_map (kind_contents texts) (take i kinds))
    → length all ≡ length (flat_map (kind_contents texts) kinds)
kinds_counted texts all i end is =
    ap length is
    ∙ length-numbered 0 (flat_map (kind_contents texts) (take i kinds))
    ∙ ap (λ (k : ℕ). length (flat_map (kind_contents texts) (take k kinds))) end

pub packs_done : (texts : Texts) (all packs : List (List ℕ)) (i : ℕ) → 0 < length (contents texts) → i ≡ 7
    → all ≡ numbered 0 (flat_map (kind_contents texts) (take i kinds))
    → packs ≡ all ++ numbered (length all) (size_contents texts)
    → packs ≡ packs_of texts
packs_done texts all packs i some end is last =
    let f = kind_contents texts in
    let whole : all ≡ numbered 0 (flat_map f kinds) =
    is ∙ ap (λ (k : ℕ). numbered 0 (flat_map f (take k kinds))) end in
    let size = ap length whole ∙ length-numbered 0 (flat_map f kinds) in
    last ∙ ap (λ (n : ℕ). all ++ numbered n (size_contents texts)) size
    ∙ ap (λ (xs : List (List ℕ)). xs ++ numbered (length (flat_map f kinds)) (size_contents texts)) whole
    ∙ sym (from_none (flat_map f kinds) (size_contents texts))
    ∙ ap (numbered 0) (sym (contents_full texts some))

pub packs_none : (texts : Texts) (packs : List (List ℕ)) → length (contents texts) ≤ 0 → packs ≡ []
    → packs ≡ packs_of texts
packs_none texts packs none is = is ∙ sym (ap (numbered 0) (nil_from_length (contents texts) (omega arith)))
