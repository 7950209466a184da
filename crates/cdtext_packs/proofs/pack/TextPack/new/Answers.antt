use Rattle.std.proofs.Common.{◌≡◌, ℕ, ◌+◌, ◌-◌, ◌/◌, ◌%◌, ◌<◌, ◌≤◌, List, [], ◌∷◌, ◌++◌, length, take, drop, replicate, sym, ap, ◌∙◌, arith}
use Rattle.std.proofs.Math.Seq.{take-append-add}
use Rattle.std.proofs.lemmas.List.{append_assoc, length-append, append-nil, take_at, drop_at, take-replicate, drop-replicate, replicate-append-replicate}
use borrow.Rule.Slice.PartMut.{put_mid}
use Rattle.bit_lists.specs.Check.{check_of}
use Rattle.cdtext_packs.specs.Packs.{sealed}
use Rattle.cdtext_packs.specs.Writing.{twelve}
use Rattle.cdtext_packs.proofs.Seals.{length-twelve}
use Rattle.cdtext_packs.proofs.pack.TextPack.new.Goals as goal

-- zeros behind a text
zeros_behind : (n : ℕ) → n ≤ 12
    → drop {A = ℕ} n (replicate 14 0) ≡ replicate (12 - n) 0 ++ replicate 2 0
zeros_behind n short =
    let more : 14 - n ≡ 12 - n + 2 = omega arith in
    drop-replicate n 14 0 ∙ ap (λ (k : ℕ). replicate k 0) more
    ∙ sym (replicate-append-replicate (12 - n) 2 0)

filled : (text : List ℕ) → length text ≤ 12 → twelve text 0 ≡ text ++ replicate (12 - length text) 0
filled text short =
    let all : length text + (12 - length text) ≡ 12 = omega arith in
    ap (λ (k : ℕ). take k (text ++ replicate 12 0)) (sym all)
    ∙ take-append-add text (replicate 12 0) (12 - length text)
    ∙ ap (λ (xs : List ℕ). text ++ xs) (take-replicate (12 - length text) 12 0 (omega arith))

-- a text, padded with zeros
padded : (text : List ℕ) → length text ≤ 12
    → text ++ drop (length text) (replicate 14 0) ≡ twelve text 0 ++ 0 ∷ 0 ∷ []
padded text short =
    ap (λ (xs : List ℕ). text ++ xs) (zeros_behind (length text) short)
    ∙ sym (append_assoc text (replicate (12 - length text) 0) (replicate 2 0))
    ∙ ap (λ (xs : List ℕ). xs ++ 0 ∷ 0 ∷ []) (sym (filled text short))

content_written : (kind track number position : ℕ) (text head copied : List ℕ) → length text ≤ 12
    → head ≡ kind ∷ track ∷ number ∷ position ∷ [] → copied ≡ text
    → put_mid 4 (4 + length text - 4) (head ++ replicate 14 0) copied
    ≡ (kind ∷ track ∷ number ∷ position ∷ twelve text 0) ++ 0 ∷ 0 ∷ []
content_written kind track number position text head copied short head_is text_is =
    let size : 4 + length text - 4 ≡ length text = omega arith in
    ap (λ (xs : List ℕ). put_mid 4 (4 + length text - 4) (xs ++ replicate 14 0) copied) head_is
    ∙ ap (λ (k : ℕ). kind ∷ track ∷ number ∷ position ∷ (copied ++ drop k (replicate 14 0))) size
    ∙ ap (λ (xs : List ℕ). kind ∷ track ∷ number ∷ position
    ∷ (xs ++ drop (length text) (replicate 14 0))) text_is
    ∙ ap (λ (xs : List ℕ). kind ∷ track ∷ number ∷ position ∷ xs) (padded text short)

-- the size of the pack with its text
size_written : (kind track number position : ℕ) (text head copied : List ℕ) → length text ≤ 12
    → head ≡ kind ∷ track ∷ number ∷ position ∷ [] → copied ≡ text
    → length (put_mid 4 (4 + length text - 4) (head ++ replicate 14 0) copied) ≡ 18
size_written kind track number position text head copied short head_is text_is =
    ap length (content_written kind track number position text head copied short head_is text_is)
    ∙ (let whole = length-append (twelve text 0) (0 ∷ 0 ∷ []) in
    omega (arith, whole, length-twelve text 0))

check_written : (content written check_bytes : List ℕ) (check : ℕ) → length content ≡ 16
    → written ≡ content ++ 0 ∷ 0 ∷ [] → check ≡ check_of (take 16 written) → check < 65536
    → check_bytes ≡ (check / 256 % 256) ∷ (check % 256) ∷ []
    → put_mid 16 2 written check_bytes ≡ sealed content
unfolding sealed
check_written content written check_bytes check size is check_is below bytes_are =
    let first : take 16 written ≡ content = ap (take 16) is ∙ take_at content (0 ∷ 0 ∷ []) 16 size in
    let rest : drop 16 written ≡ 0 ∷ 0 ∷ [] = ap (drop 16) is ∙ drop_at content (0 ∷ 0 ∷ []) 16 size in
    let high : check / 256 % 256 ≡ check / 256 = omega arith in
    ap (λ (xs : List ℕ). xs ++ (check_bytes ++ drop 2 (drop 16 written))) first
    ∙ ap (λ (xs : List ℕ). content ++ (check_bytes ++ drop 2 xs)) rest
    ∙ ap (λ (xs : List ℕ). content ++ xs)
    (append-nil check_bytes ∙ bytes_are ∙ ap (λ (n : ℕ). n ∷ (check % 256) ∷ []) high)
    ∙ ap (λ (n : ℕ). content ++ (n / 256) ∷ (n % 256) ∷ []) (check_is ∙ ap check_of first)

pub returns : goal.returns
returns c =
    let text = c.args.text.now in
    let content : List ℕ =
    c.args.kind ∷ c.args.track ∷ c.args.number ∷ c.args.position ∷ twelve text 0 in
    let twelve_bytes = length-twelve text 0 in
    let written =
    content_written c.args.kind c.args.track c.args.number c.args.position text
    c.copy_from_slice.new.self c.copy_from_slice-2.new.self c.requires c.copy_from_slice.ensures.after
    c.copy_from_slice-2.ensures.after in
    check_written content _ c.copy_from_slice-3.new.self c.crc16-check.result (omega arith) written
    c.crc16-check.ensures c.crc16-check.type_inv
    (c.copy_from_slice-3.ensures.after ∙ c.to_be_bytes.ensures)

pub slice_bounds-bytes-end : goal.slice_bounds-bytes-end
slice_bounds-bytes-end c = omega arith

pub slice_bounds-copy_from_slice-end : goal.slice_bounds-copy_from_slice-end
slice_bounds-copy_from_slice-end c = omega arith

pub slice_bounds-copy_from_slice-end-2 : goal.slice_bounds-copy_from_slice-end-2
slice_bounds-copy_from_slice-end-2 c = omega arith

pub overflow_add-text : goal.overflow_add-text
overflow_add-text c = omega arith

pub slice_bounds-copy_from_slice-count : goal.slice_bounds-copy_from_slice-count
slice_bounds-copy_from_slice-count c = omega arith

pub slice_bounds-bytes-start : goal.slice_bounds-bytes-start
slice_bounds-bytes-start c = omega arith

pub slice_bounds-copy_from_slice-count-2 : goal.slice_bounds-copy_from_slice-count-2
slice_bounds-copy_from_slice-count-2 c = omega arith

pub slice_bounds-bytes-start-2 : goal.slice_bounds-bytes-start-2
slice_bounds-bytes-start-2 c = omega arith

pub slice_bounds-copy_from_slice-end-3 : goal.slice_bounds-copy_from_slice-end-3
slice_bounds-copy_from_slice-end-3 c = omega arith

pub slice_bounds-bytes-end-3 : goal.slice_bounds-bytes-end-3
slice_bounds-bytes-end-3 c =
    omega (
      arith,
      size_written c.args.kind c.args.track c.args.number c.args.position c.args.text.now
          c.copy_from_slice.new.self c.copy_from_slice-2.new.self c.requires c.copy_from_slice.ensures.after
          c.copy_from_slice-2.ensures.after,
    )

pub slice_bounds-bytes-end-4 : goal.slice_bounds-bytes-end-4
slice_bounds-bytes-end-4 c =
    omega (
      arith,
      size_written c.args.kind c.args.track c.args.number c.args.position c.args.text.now
          c.copy_from_slice.new.self c.copy_from_slice-2.new.self c.requires c.copy_from_slice.ensures.after
          c.copy_from_slice-2.ensures.after,
    )

pub slice_bounds-bytes-end-2 : goal.slice_bounds-bytes-end-2
slice_bounds-bytes-end-2 c =
    omega (
      arith,
      length-append c.copy_from_slice.new.self (replicate 14 0),
      ap length c.copy_from_slice.ensures.after,
    )
