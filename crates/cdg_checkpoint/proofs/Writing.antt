-- The bytes of the parts of a file, written and read.
use Rattle.std.proofs.Common.{◌≡◌, ℕ, zero, suc, ◌+◌, ◌/◌, ◌%◌, ◌<◌, ◌≤◌, List, [], ◌∷◌, ◌++◌, length, get_or, take, refl, sym, ap, ap₂, ◌∙◌, arith, append_assoc}
use Rattle.std.specs.Int.{w16, to_be_bytes}
use Rattle.std.specs.List.{flat_map, range_with_len}
use Rattle.std.proofs.lemmas.List.{append-nil, take_more, take_all}
use Rattle.bit_lists.specs.Counting.{below}
use Rattle.bit_lists.specs.Check.{check_of}
use Rattle.cdg_checkpoint.specs.Table.{Part, Slots, row, body_parts}
use Rattle.cdg_checkpoint.specs.Checkpoint.{Checkpoint, written_value, bytes_of, part_bytes, with_parts, body, file_of}

-- a mapped list with one more element
pub flat_map_more : (f : ℕ → List ℕ) (a n j : ℕ) → a + n ≡ j
    → flat_map f (range_with_len a (n + 1)) ≡ flat_map f (range_with_len a n) ++ f j
flat_map_more f a zero j e = append-nil (f a) ∙ ap f (omega (arith, e))
flat_map_more f a (suc n) j e =
    let next : suc n + 1 ≡ suc (n + 1) = omega arith in
    ap (λ k. flat_map f (range_with_len a k)) next
    ∙ ap (λ l. f a ++ l) (flat_map_more f (a + 1) n j (omega (arith, e)))
    ∙ sym (append_assoc (f a) (flat_map f (range_with_len (a + 1) n)) (f j))

-- the first fields of a part
unfoldable pub first_fields : Checkpoint → Part → ℕ → List ℕ
first_fields c part n = flat_map (λ k. bytes_of (row part).size (written_value c part k)) (below n)

pub fields_more : (c : Checkpoint) (part : Part) (n : ℕ) (bytes : List ℕ)
    → bytes_of (row part).size (written_value c part n) ≡ bytes
    → first_fields c part (n + 1) ≡ first_fields c part n ++ bytes
unfolding first_fields
fields_more c part n bytes e =
    flat_map_more (λ k. bytes_of (row part).size (written_value c part k)) 0 n n (omega arith)
    ∙ ap (λ b. first_fields c part n ++ b) e

pub no_fields : (c : Checkpoint) (part : Part) → first_fields c part 0 ≡ []
unfolding first_fields
no_fields c part = refl

pub all_fields : (c : Checkpoint) (part : Part) (n : ℕ) → n ≡ (row part).count
    → first_fields c part n ≡ part_bytes c part
unfolding first_fields part_bytes
all_fields c part n e =
    ap (λ k. flat_map (λ k. bytes_of (row part).size (written_value c part k)) (below k)) e

-- a byte as it is written
pub one_byte : (n : ℕ) → n < 256 → bytes_of 1 n ≡ n ∷ []
one_byte n lt = ap (λ b. b ∷ []) (omega (arith, lt))

pub with_parts_are : (file : List ℕ) (c : Checkpoint) (parts : List Part)
    → with_parts file c parts ≡ file ++ flat_map (part_bytes c) parts
with_parts_are file c [] = sym (append-nil file)
with_parts_are file c (part ∷ parts) =
    with_parts_are (file ++ part_bytes c part) c parts
    ∙ append_assoc file (part_bytes c part) (flat_map (part_bytes c) parts)

-- the bytes of a part that has one field
pub one_field : (c : Checkpoint) (part : Part) (bytes : List ℕ) → (row part).count ≡ 1
    → bytes_of (row part).size (written_value c part 0) ≡ bytes
    → part_bytes c part ≡ bytes
one_field c part bytes one e =
    sym (all_fields c part 1 (sym one))
    ∙ fields_more c part 0 bytes e
    ∙ ap (λ l. l ++ bytes) (no_fields c part)

-- a part of one field, behind the bytes of a file
pub then_part : (file new old bytes : List ℕ) (c : Checkpoint) (part : Part) → new ≡ old ++ bytes → old ≡ file
    → (row part).count ≡ 1
    → bytes_of (row part).size (written_value c part 0) ≡ bytes → new ≡ file ++ part_bytes c part
then_part file new old bytes c part put before one e =
    put ∙ ap₂ (λ (a b : List ℕ). a ++ b) before (sym (one_field c part bytes one e))

-- a number below 256 as one byte
pub written_byte : (n byte : ℕ) → n ≡ byte → byte < 256 → bytes_of 1 n ≡ byte ∷ []
written_byte n byte e lt = ap (bytes_of 1) e ∙ one_byte byte lt

-- a number of two bytes
pub two_bytes : (n m : ℕ) → n ≡ m → bytes_of 2 n ≡ to_be_bytes w16 m
two_bytes n m e = ap (bytes_of 2) e ∙ ap (λ b. (m / 256 % 256) ∷ b ∷ []) (omega arith)

-- one more field was written
pub field_put : (file new old bytes : List ℕ) (c : Checkpoint) (part : Part) (n : ℕ) → new ≡ old ++ bytes
    → old ≡ file ++ first_fields c part n
    → bytes_of (row part).size (written_value c part n) ≡ bytes → new ≡ file ++ first_fields c part (n + 1)
field_put file new old bytes c part n put before e =
    put
    ∙ ap (λ o. o ++ bytes) before
    ∙ append_assoc file (first_fields c part n) bytes
    ∙ ap (λ l. file ++ l) (sym (fields_more c part n bytes e))

pub none_put : (file : List ℕ) (c : Checkpoint) (part : Part) → file ≡ file ++ first_fields c part 0
none_put file c part = sym (append-nil file) ∙ ap (λ l. file ++ l) (sym (no_fields c part))

pub all_put : (file new : List ℕ) (c : Checkpoint) (part : Part) (n : ℕ) → new ≡ file ++ first_fields c part n
    → n ≡ (row part).count
    → new ≡ file ++ part_bytes c part
all_put file new c part n put e = put ∙ ap (λ l. file ++ l) (all_fields c part n e)

-- ---- the slots, byte by byte

slots_taken : (c : Checkpoint) (n : ℕ) → n ≤ length c.slots → ((i : ℕ) → get_or c.slots i 0 < 256)
    → first_fields c Slots n ≡ take n c.slots
slots_taken c zero le small = no_fields c Slots
slots_taken c (suc n) le small =
    let next : suc n ≡ n + 1 = omega arith in
    ap (first_fields c Slots) next
    ∙ fields_more c Slots n (get_or c.slots n 0 ∷ []) (one_byte (get_or c.slots n 0) (small n))
    ∙ ap (λ l. l ++ get_or c.slots n 0 ∷ []) (slots_taken c n (omega (arith, le)) small)
    ∙ sym (take_more c.slots n 0 (omega (arith, le))) ∙ ap (λ k. take k c.slots) (sym next)

pub slots_written : (c : Checkpoint) (n : ℕ) → n ≡ 168 → length c.slots ≡ n
    → ((i : ℕ) → get_or c.slots i 0 < 256)
    → part_bytes c Slots ≡ c.slots
slots_written c n e size small =
    sym (all_fields c Slots n e)
    ∙ slots_taken c n (omega (arith, size)) small
    ∙ take_all n c.slots (omega (arith, size))

-- ---- the whole file

pub body_written : (file : List ℕ) (c : Checkpoint) → file ≡ with_parts [] c body_parts → file ≡ body c
body_written file c e = e ∙ with_parts_are [] c body_parts

pub file_written : (file body' check : List ℕ) (c : Checkpoint) → file ≡ body' ++ check → body' ≡ body c
    → check ≡ bytes_of 2 (check_of body')
    → file ≡ file_of c
unfolding file_of
file_written file body' check c put whole e =
    put ∙ ap₂ (λ (a b : List ℕ). a ++ b) whole (e ∙ ap (λ b. bytes_of 2 (check_of b)) whole)
