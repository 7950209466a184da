-- A lead-in block has 96 symbols.
use Rattle.std.proofs.Common.{◌≡◌, ℕ, zero, suc, ◌+◌, ◌*◌, ◌/◌, ◌%◌, ◌<◌, ◌^◌, Bool, true, false, List, [], ◌∷◌, ◌++◌, length, get_or, map, flat_map, take, drop, replicate, refl, sym, subst, ◌∙◌, lit<, ne_eqb, eq-eqb, inl, inr, arith}
use Rattle.std.specs.Prelude.{if◌then◌else◌}
use Rattle.std.specs.List.{AllByRecursion}
use Rattle.std.proofs.lemmas.Bool.{cases_lt}
use Rattle.std.proofs.lemmas.Nat.{mod_below}
use Rattle.std.proofs.lemmas.List.{length-append, length-take-le, length-drop, length-map}
use Rattle.bit_lists.specs.Counting.{below, parts}
use Rattle.bit_lists.specs.Bits.{bits_of_bytes, number_of, numbers_of}
use Rattle.bit_lists.proofs.BitsLemmas.{number_of-lt, length-bits_of_bytes}
use Rattle.cdtext_packs.specs.Packs.{sealed}
use Rattle.cdtext_packs.specs.Texts.{Texts, kinds, has_no_text}
use Rattle.cdtext_packs.specs.Writing.{Content, text_content, kind_contents, size_content, size_contents, contents, content_bytes, numbered, packs_of, twelve}
use Rattle.cdtext_packs.specs.LeadIn.{pack_symbols, lead_in_slot, lead_in_symbols}
use Rattle.cdtext_packs.specs.declared.kinds.TextKind.{TextKind}

-- The packs of texts have eighteen bytes.

abbrev HasTwelve : Content → Type 0
HasTwelve content = length content.text ≡ 12

abbrev IsEighteen : List ℕ → Type 0
IsEighteen pack = length pack ≡ 18

length-twelve : (bytes : List ℕ) (k : ℕ) → length (twelve bytes k) ≡ 12
length-twelve bytes k =
    let rest : List ℕ = drop (12 * k) bytes in
    length-take-le 12 (rest ++ replicate 12 0) (omega (arith, length-append rest (replicate 12 0)))

all-append : {X : Type 0} (P : X → Type 0) (xs ys : List X) → AllByRecursion P xs → AllByRecursion P ys
    → AllByRecursion P (xs ++ ys)
all-append P [] ys these those = those
all-append P (x ∷ xs) ys these those = (these.0, all-append P xs ys these.1 those)

all-map : {X Y : Type 0} (P : Y → Type 0) (f : X → Y) (xs : List X) → ((x : X) → P (f x))
    → AllByRecursion P (map f xs)
all-map P f [] each = tt
all-map P f (x ∷ xs) each = (each x, all-map P f xs each)

all-flat_map : {X Y : Type 0} (P : Y → Type 0) (f : X → List Y) (xs : List X)
    → ((x : X) → AllByRecursion P (f x))
    → AllByRecursion P (flat_map f xs)
all-flat_map P f [] each = tt
all-flat_map P f (x ∷ xs) each = all-append P (f x) (flat_map f xs) (each x) (all-flat_map P f xs each)

text_content_twelve : (first type : ℕ) (strings : List (List ℕ)) (k : ℕ)
    → HasTwelve (text_content first type strings k)
unfolding text_content
text_content_twelve first type strings k = length-twelve _ k

kind_twelve : (texts : Texts) (kind : TextKind) → AllByRecursion HasTwelve (kind_contents texts kind)
unfolding kind_contents
kind_twelve texts kind = all-map HasTwelve _ _ (text_content_twelve texts.first _ _)

size_twelve : (texts : Texts) (d : ℕ) → HasTwelve (size_content texts d)
size_twelve texts d = length-twelve _ d

either_all : (b : Bool) (xs : List Content) → AllByRecursion HasTwelve xs
    → AllByRecursion HasTwelve (if b then [] else xs)
either_all true xs all = tt
either_all false xs all = all

contents_twelve : (texts : Texts) → AllByRecursion HasTwelve (contents texts)
contents_twelve texts =
    either_all (has_no_text texts) (flat_map (kind_contents texts) kinds ++ size_contents texts)
    (all-append HasTwelve (flat_map (kind_contents texts) kinds) (size_contents texts)
    (all-flat_map HasTwelve (kind_contents texts) kinds (kind_twelve texts))
    (all-map HasTwelve (size_content texts) (below 3) (size_twelve texts)))

length-sealed : (number : ℕ) (content : Content) → HasTwelve content
    → IsEighteen (sealed (content_bytes number content))
unfolding sealed
length-sealed number content size = length-append (content_bytes number content) _ ∙ omega (arith, size)

numbered_eighteen : (first : ℕ) (xs : List Content) → AllByRecursion HasTwelve xs
    → AllByRecursion IsEighteen (numbered first xs)
numbered_eighteen first [] all = tt
numbered_eighteen first (x ∷ xs) all = (length-sealed first x all.0, numbered_eighteen (first + 1) xs all.1)

pub packs_eighteen : (texts : Texts) → AllByRecursion IsEighteen (packs_of texts)
packs_eighteen texts = numbered_eighteen 0 (contents texts) (contents_twelve texts)

-- The symbols of a slot, and of four.

abbrev pub AreSymbols : List ℕ → Type 0
AreSymbols symbols = AllByRecursion (λ s. s < 64) symbols

abbrev pub IsSymbols : ℕ → List ℕ → Type 0
IsSymbols n symbols = (length symbols ≡ n) × AreSymbols symbols

length-parts : {X : Type 0} (n size : ℕ) (xs : List X) → length (parts n size xs) ≡ n
length-parts zero size xs = refl
length-parts (suc n) size xs = let rest = length-parts n size (drop size xs) in omega (arith, rest)

part_below : (bits : List Bool) (n : ℕ) → length bits ≡ 6 * suc n → number_of (take 6 bits) < 64
part_below bits n size =
    let six : length (take 6 bits) ≡ 6 = length-take-le 6 bits (omega (arith, size)) in
    subst (λ k. number_of (take 6 bits) < 2 ^ k) six (number_of-lt (take 6 bits))

parts_small : (n : ℕ) (bits : List Bool) → length bits ≡ 6 * n → AreSymbols (map number_of (parts n 6 bits))
parts_small zero bits size = tt
parts_small (suc n) bits size =
    (part_below bits n size, parts_small n (drop 6 bits) (omega (arith, size, length-drop 6 bits)))

pack_is : (pack : List ℕ) → IsEighteen pack → IsSymbols 24 (pack_symbols pack)
unfolding numbers_of
pack_is pack size =
    let bits : List Bool = bits_of_bytes pack in
    let long : length bits ≡ 144 = length-bits_of_bytes pack ∙ omega (arith, size) in
    let count : length bits / 6 ≡ 24 = omega (arith, long) in
    subst (λ n. IsSymbols 24 (map number_of (parts n 6 bits))) (sym count)
    (length-map (parts 24 6 bits) number_of ∙ length-parts 24 6 bits, parts_small 24 bits long)

zeros_are : (n : ℕ) → AreSymbols (replicate n 0)
zeros_are zero = tt
zeros_are (suc n) = (lit< tt, zeros_are n)

all_at : (packs : List (List ℕ)) (i : ℕ) → AllByRecursion IsEighteen packs → i < length packs
    → IsEighteen (get_or packs i [])
all_at [] i all lt = absurd (omega arith)
all_at (p ∷ packs) zero all lt = all.0
all_at (p ∷ packs) (suc i) all lt = all_at packs i all.1 (omega arith)

slot_is : (packs : List (List ℕ)) (j : ℕ) → AllByRecursion IsEighteen packs
    → IsSymbols 24 (lead_in_slot packs j)
slot_is packs j all = elim (cases_lt 0 (length packs)) [
  | inl some ↦
      subst (λ (b : Bool).
      IsSymbols 24 (if b then replicate 24 0 else pack_symbols (get_or packs (j % length packs) [])))
      (sym (ne_eqb (length packs) 0 (omega (arith, some))))
      (pack_is (get_or packs (j % length packs) [])
      (all_at packs (j % length packs) all (mod_below j (length packs) some)))
  | inr none ↦
      subst (λ (b : Bool).
      IsSymbols 24 (if b then replicate 24 0 else pack_symbols (get_or packs (j % length packs) [])))
      (sym (eq-eqb (length packs) 0 (omega (arith, none))))
      (refl, zeros_are 24)
]

joined_is : (m n all : ℕ) (xs ys : List ℕ) → IsSymbols m xs → IsSymbols n ys → m + n ≡ all
    → IsSymbols all (xs ++ ys)
joined_is m n all xs ys these those sum = (
  length-append xs ys ∙ omega (arith, these.0, those.0, sum),
  all-append (λ s. s < 64) xs ys these.1 those.1,
)

pub lead_in_is : (packs : List (List ℕ)) (block : ℕ) → AllByRecursion IsEighteen packs
    → IsSymbols 96 (lead_in_symbols packs block)
lead_in_is packs block all =
    let slot : ℕ → List ℕ = λ k. lead_in_slot packs (4 * block + k) in
    let is : (k : ℕ) → IsSymbols 24 (lead_in_slot packs (4 * block + k)) =
    λ k. slot_is packs (4 * block + k) all in
    joined_is 24 72 96 (slot 0) (slot 1 ++ (slot 2 ++ (slot 3 ++ []))) (is 0)
    (joined_is 24 48 72 (slot 1) (slot 2 ++ (slot 3 ++ [])) (is 1) (joined_is 24 24 48 (slot 2) (slot 3 ++ [])
    (is 2) (joined_is 24 0 24 (slot 3) [] (is 3) (refl, tt) refl) refl) refl) refl
