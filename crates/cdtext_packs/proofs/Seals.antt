-- Packs with their checks.
use Rattle.std.proofs.Common.{◌≡◌, ℕ, zero, suc, ◌+◌, ◌*◌, ◌/◌, ◌%◌, ◌<◌, true, List, [], ◌∷◌, ◌++◌, length, take, drop, get_or, replicate, refl, sym, ap, ◌∙◌, arith}
use Rattle.std.proofs.lemmas.List.{append_assoc, take_at, get_or_at, length-append, length-take, length-replicate}
use Rattle.std.proofs.lemmas.Bool.{eq-eqb, lt-ltb, and_from}
use Rattle.bit_lists.specs.Check.{check_of}
use Rattle.cdtext_packs.specs.Packs.{sealed, check_matches, is_first_block, is_good, pack_type, pack_number, pack_text}
use Rattle.cdtext_packs.specs.Texts.{Texts}
use Rattle.cdtext_packs.specs.Writing.{Content, content_bytes, numbered, twelve, text_content, size_content, size_bytes, joined}

-- the content fits into a pack
pub record IsContent (c : Content) : Type 0 where
  pub text : length c.text ≡ 12
  pub position : c.position < 16

pub length-twelve : (bytes : List ℕ) (k : ℕ) → length (twelve bytes k) ≡ 12
length-twelve bytes k =
    let whole = length-take 12 (drop (12 * k) bytes ++ replicate 12 0) in
    let more = length-append (drop (12 * k) bytes) (replicate 12 0) in
    let zeros = length-replicate {A = ℕ} 12 0 in
    omega arith

pub text_content_is : (first type : ℕ) (strings : List (List ℕ)) (k : ℕ)
    → IsContent (text_content first type strings k)
unfolding text_content
text_content_is first type strings k =
    record { text = length-twelve (joined strings) k; position = omega arith }

pub size_content_is : (texts : Texts) (d : ℕ) → IsContent (size_content texts d)
size_content_is texts d = record { text = length-twelve (size_bytes texts) d; position = omega arith }

seal_matches : (bytes : List ℕ) → length bytes ≡ 16 → check_matches (sealed bytes) ≡ true
unfolding check_matches sealed
seal_matches bytes size =
    let c = check_of bytes in
    let front : take 16 (bytes ++ (check_of bytes / 256) ∷ (check_of bytes % 256) ∷ []) ≡ bytes =
    take_at bytes ((check_of bytes / 256) ∷ (check_of bytes % 256) ∷ []) 16 size in
    let high : get_or (bytes ++ (check_of bytes / 256) ∷ (check_of bytes % 256) ∷ []) 16 0
    ≡ check_of bytes / 256 =
    get_or_at bytes (check_of bytes / 256) ((check_of bytes % 256) ∷ []) 0 16 size in
    let longer = length-append bytes ((check_of bytes / 256) ∷ []) in
    let low : get_or (bytes ++ (check_of bytes / 256) ∷ (check_of bytes % 256) ∷ []) 17 0
    ≡ check_of bytes % 256 =
    ap (λ (xs : List ℕ). get_or xs 17 0)
    (sym (append_assoc bytes ((check_of bytes / 256) ∷ []) ((check_of bytes % 256) ∷ [])))
    ∙ get_or_at (bytes ++ (check_of bytes / 256) ∷ []) (check_of bytes % 256) [] 0 17 (omega arith) in
    let same = ap check_of front in
    eq-eqb (check_of (take 16 (bytes ++ (check_of bytes / 256) ∷ (check_of bytes % 256) ∷ []))) _
    (omega arith)

pub seal_good : (n : ℕ) (c : Content) → IsContent c → is_good (sealed (content_bytes n c)) ≡ true
unfolding sealed
seal_good n c is =
    let text = is.text in
    and_from (check_matches (sealed (content_bytes n c))) (is_first_block (sealed (content_bytes n c)))
    (seal_matches (content_bytes n c) (omega arith)) (lt-ltb c.position 16 is.position)

pub seal_type : (n : ℕ) (c : Content) → pack_type (sealed (content_bytes n c)) ≡ c.type
unfolding sealed
seal_type n c = refl

pub seal_number : (n : ℕ) (c : Content) → pack_number (sealed (content_bytes n c)) ≡ n
unfolding sealed
seal_number n c = refl

pub seal_text : (n : ℕ) (c : Content) → IsContent c → pack_text (sealed (content_bytes n c)) ≡ c.text
unfolding sealed
seal_text n c is =
    take_at c.text ((check_of (content_bytes n c) / 256) ∷ (check_of (content_bytes n c) % 256) ∷ []) 12
    is.text

-- the pack with a given number
pub numbered_at : (first : ℕ) (xs : List Content) (i : ℕ) (d : Content) → i < length xs
    → get_or (numbered first xs) i [] ≡ sealed (content_bytes (first + i) (get_or xs i d))
numbered_at first [] i d inside = absurd (omega arith)
numbered_at first (x ∷ xs) zero d inside = ap (λ (n : ℕ). sealed (content_bytes n x)) (omega arith)
numbered_at first (x ∷ xs) (suc i) d inside =
    numbered_at (first + 1) xs i d (omega arith)
    ∙ ap (λ (n : ℕ). sealed (content_bytes n (get_or xs i d))) (omega arith)
