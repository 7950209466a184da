-- The length of the lines of the texts in packs.
use Rattle.std.proofs.Common.{◌≡◌, ℕ, zero, suc, ◌+◌, ◌-◌, ◌*◌, ◌^◌, ◌<◌, ◌≤◌, Bool, true, false, not, ◌&&◌, ◌==◌, if◌then◌else◌, List, [], ◌∷◌, ◌++◌, length, get_or, filter, flat_map, fold, take, drop, replicate, Some, None, Result, Ok, refl, sym, subst, arith, inl, inr}
use Rattle.std.specs.declared.option.Option.{Option}
use Rattle.std.specs.Prelude.{◌||◌, nat_lt, nat_le, codes, decimal, slice_index, IfOk}
use Rattle.std.specs.List.{slice_split, onto_first}
use Rattle.std.proofs.lemmas.Bool.{cases_lt}
use Rattle.std.proofs.lemmas.Bool.Decides.{nat_tests}
use Rattle.std.proofs.lemmas.List.{length-append, length-take}
use Rattle.std.proofs.lemmas.List.Splits.{slice_split-cons_yes, slice_split-cons_no}
use Rattle.bit_lists.specs.Digits.{hex_digits, line_feed}
use Rattle.disc_time.specs.Counts.{most_tracks}
use Rattle.cdtext_packs.specs.Packs.{first_track_place, last_number_place, last_track_place, pack_type, pack_text, text_bytes}
use Rattle.cdtext_packs.specs.Texts.{Texts, kinds, no_texts, strings_of, text_of, is_empty}
use Rattle.cdtext_packs.specs.TextLines.{printed, line_head, text_line, tracks_of, kind_lines, offers_line, counted_lines}
use Rattle.cdtext_packs.specs.Reading.{all_texts, first_missing, first_short, in_order, is_zero, keeps_nothing, kind_bytes, kind_packs, kind_texts, meant, read_kinds, read_numbers, read_sized, read_sizes, read_texts, resolved, size_pack, strings_in}
use Rattle.cdtext_packs.specs.declared.kinds.TextFault.{TextFault}
use Rattle.cdtext_packs.specs.declared.kinds.TextKind.{TextKind}
use Rattle.cdtext_packs.specs.declared.kinds.TextKind.TheVariants.{Title, Performer, Songwriter, Composer, Arranger, Message, Code}
use Rattle.std.proofs.lemmas.Fmt.{length-decimal-le}
use Rattle.cdtext_packs.proofs.TextLines.{length-tracks_of}

-- ---- A line.

printed_size : (b : Bool) (byte : ℕ) → length (if b then byte ∷ [] else 92 ∷ hex_digits 2 byte) ≤ 3
printed_size true byte = omega arith
printed_size false byte = omega arith

string_size : (s : List ℕ) → length (flat_map printed s) ≤ 3 * length s
string_size [] = omega arith
string_size (b ∷ s) =
    let one = printed_size (nat_le 0x20 b && nat_le b 0x7e && not (b == 92)) b in
    let rest = string_size s in
    let all = length-append (printed b) (flat_map printed s) in
    omega (arith, one, rest, all)

head_size : (kind : TextKind) (track : ℕ) → length (line_head kind track) ≤ 14
head_size Title track = omega arith
head_size Performer track = omega arith
head_size Songwriter track = omega arith
head_size Composer track = omega arith
head_size Arranger track = omega arith
head_size Message track = omega arith
head_size Code track = omega arith

line_size_by : (none : Bool) (head s : List ℕ) → length head ≤ 14
    → length (if none then [] else head ++ (flat_map printed s ++ line_feed)) ≤ 3 * length s + 15
line_size_by true head s h = omega arith
line_size_by false head s h =
    let a = length-append head (flat_map printed s ++ line_feed) in
    let b = length-append (flat_map printed s) line_feed in
    let c = string_size s in
    omega (arith, a, b, c, h)

line_size : (texts : Texts) (kind : TextKind) (track : ℕ)
    → length (text_line texts kind track) ≤ 3 * length (text_of kind track texts) + 15
unfolding text_line
line_size texts kind track =
    line_size_by (is_empty (text_of kind track texts)) (line_head kind track) (text_of kind track texts)
    (head_size kind track)

-- ---- The lines of a kind whose strings have at most a given length.

abbrev Fits : ℕ → List (List ℕ) → Type 0
Fits most strings = (i : ℕ) → length (get_or strings i []) ≤ most

text_fits_by : (album before : Bool) (most : ℕ) (a b : List ℕ) → length a ≤ most → length b ≤ most
    → length (if album then a else (if before then [] else b)) ≤ most
text_fits_by true before most a b h k = h
text_fits_by false true most a b h k = omega arith
text_fits_by false false most a b h k = k

text_fits : (texts : Texts) (kind : TextKind) (most track : ℕ) → Fits most (strings_of kind texts)
    → length (text_of kind track texts) ≤ most
text_fits texts kind most track fits =
    text_fits_by (track == 0) (nat_lt track texts.first) most (get_or (strings_of kind texts) 0 [])
    (get_or (strings_of kind texts) (track - texts.first + 1) []) (fits 0) (fits (track - texts.first + 1))

-- the length of lines of at most `most` bytes, of which there are at most a hundred
lines_size : (f : ℕ → List ℕ) (xs : List ℕ) (most left : ℕ) → ((x : ℕ) → length (f x) ≤ most)
    → length xs + left ≡ 100
    → length (flat_map f xs) + left * most ≤ 100 * most
lines_size f [] most left each count =
    let all : left ≡ 100 = omega (arith, count) in
    subst (λ (n : ℕ). length (flat_map f []) + n * most ≤ 100 * most) (sym all) (omega arith)
lines_size f (x ∷ xs) most left each count =
    let one = each x in
    let rest = lines_size f xs most (left + 1) each (omega (arith, count)) in
    let all = length-append (f x) (flat_map f xs) in
    let more : (left + 1) * most ≡ left * most + most = grind arith in
    omega (arith, one, rest, all, more)

kind_size : (texts : Texts) (kind : TextKind) (most : ℕ) → Fits most (strings_of kind texts)
    → texts.last - texts.first + 2 ≤ 100
    → length (kind_lines texts kind) ≤ 300 * most + 1500
unfolding kind_lines
kind_size texts kind most fits count =
    let tracks = length-tracks_of texts in
    let lines =
    lines_size (text_line texts kind) (tracks_of texts) (3 * most + 15) (100 - length (tracks_of texts))
    (λ track.
    let line = line_size texts kind track in
    let text = text_fits texts kind most track fits in
    omega (arith, line, text)) (omega (arith, tracks, count)) in
    omega (arith, lines)

-- ---- The strings of packs are no longer than the bytes of their kind.

onto_fits : (x most : ℕ) (parts : List (List ℕ)) → Fits most parts → Fits (most + 1) (onto_first x parts)
onto_fits x most [] fits zero = omega arith
onto_fits x most [] fits (suc i) = omega arith
onto_fits x most (part ∷ parts) fits zero = let first = fits 0 in omega (arith, first)
onto_fits x most (part ∷ parts) fits (suc i) = let later = fits (suc i) in omega (arith, later)

split_by : (b : Bool) (x : ℕ) (xs : List ℕ) (most : ℕ) → is_zero x ≡ b → Fits most (slice_split is_zero xs)
    → Fits (most + 1) (slice_split is_zero (x ∷ xs))
split_by true x xs most is fits =
    subst (Fits (most + 1)) (sym (slice_split-cons_yes is_zero x xs is))
    (after_none most (slice_split is_zero xs) fits)
  where
    after_none : (most : ℕ) (parts : List (List ℕ)) → Fits most parts → Fits (most + 1) ([] ∷ parts)
    after_none most parts fits zero = omega arith
    after_none most parts fits (suc i) = let later = fits i in omega (arith, later)
split_by false x xs most is fits =
    subst (Fits (most + 1)) (sym (slice_split-cons_no is_zero x xs is))
    (onto_fits x most (slice_split is_zero xs) fits)

split_fits : (bytes : List ℕ) → Fits (length bytes) (slice_split is_zero bytes)
split_fits [] zero = omega arith
split_fits [] (suc i) = omega arith
split_fits (x ∷ xs) i =
    let size : length xs + 1 ≡ length (x ∷ xs) = omega arith in
    subst (λ (n : ℕ). length (get_or (slice_split is_zero (x ∷ xs)) i []) ≤ n) size
    (split_by (is_zero x) x xs (length xs) refl (split_fits xs) i)

take_fits : (n most : ℕ) (xs : List (List ℕ)) → Fits most xs → Fits most (take n xs)
take_fits zero most xs fits i = omega arith
take_fits (suc n) most [] fits i = fits i
take_fits (suc n) most (x ∷ xs) fits zero = fits 0
take_fits (suc n) most (x ∷ xs) fits (suc i) = take_fits n most xs (λ k. fits (suc k)) i

push_fits : (most : ℕ) (before : List (List ℕ)) (s : List ℕ) → Fits most before → length s ≤ most
    → Fits most (before ++ s ∷ [])
push_fits most [] s fits h zero = h
push_fits most [] s fits h (suc i) = omega arith
push_fits most (b ∷ bs) s fits h zero = fits 0
push_fits most (b ∷ bs) s fits h (suc i) = push_fits most bs s (λ k. fits (suc k)) h i

chosen_fits : (tab : Bool) (most : ℕ) (a b : List ℕ) → length a ≤ most → length b ≤ most
    → length (if tab then a else b) ≤ most
chosen_fits true most a b h k = h
chosen_fits false most a b h k = k

meant_fits : (most : ℕ) (before : List (List ℕ)) (s : List ℕ) → Fits most before → length s ≤ most
    → length (meant before s) ≤ most
meant_fits most before s fits h =
    chosen_fits (length s == 1 && slice_index s 0 == 9 && not (length before == 0)) most
    (get_or before (length before - 1) []) s (fits (length before - 1)) h

folded_fits : (most : ℕ) (strings before : List (List ℕ)) → Fits most before → Fits most strings
    → Fits most (fold (λ (before : List (List ℕ)) (s : List ℕ). before ++ meant before s ∷ []) before strings)
folded_fits most [] before fits rest = fits
folded_fits most (s ∷ strings) before fits rest =
    folded_fits most strings (before ++ meant before s ∷ []) (push_fits most before (meant before s) fits
    (meant_fits most before s fits (rest 0))) (λ i. rest (suc i))

resolved_fits : (most : ℕ) (strings : List (List ℕ)) → Fits most strings → Fits most (resolved strings)
unfolding resolved
resolved_fits most strings fits = folded_fits most strings [] (λ i. omega arith) fits

empty_fits : (count most : ℕ) → Fits most (replicate count [])
empty_fits zero most i = omega arith
empty_fits (suc count) most zero = omega arith
empty_fits (suc count) most (suc i) = empty_fits count most i

one_fits : (none : Bool) (most : ℕ) (a b : List (List ℕ)) → Fits most a → Fits most b
    → Fits most (if none then a else b)
one_fits true most a b h k = h
one_fits false most a b h k = k

kind_fits : (kept : List (Option (List ℕ))) (count : ℕ) (kind : TextKind)
    → Fits (length (kind_bytes kept kind)) (kind_texts kept count kind)
unfolding kind_texts
kind_fits kept count kind =
    let bytes = kind_bytes kept kind in
    one_fits (length bytes == 0) (length bytes) (replicate count []) (resolved (strings_in count bytes))
    (empty_fits count (length bytes))
    (resolved_fits (length bytes) (strings_in count bytes)
    (take_fits count (length bytes) (slice_split is_zero bytes) (split_fits bytes)))

-- ---- A pack is of one kind.

abbrev part : ℕ → ℕ → ℕ → ℕ
part t k n = if t == k then n else 0

one_kind : (t n : ℕ)
    → part t 0x80 n + part t 0x81 n + part t 0x82 n + part t 0x83 n + part t 0x84 n + part t 0x85 n
    + part t 0x8e n ≤ n
one_kind t n =
    elim (cases_lt t 0x81) [
      | inl below ↦ grind (arith, nat_tests)
      | inr from_81 ↦
          elim (cases_lt t 0x82) [
            | inl below ↦ grind (arith, nat_tests)
            | inr from_82 ↦
                elim (cases_lt t 0x83) [
                  | inl below ↦ grind (arith, nat_tests)
                  | inr from_83 ↦
                      elim (cases_lt t 0x84) [
                        | inl below ↦ grind (arith, nat_tests)
                        | inr from_84 ↦
                            elim (cases_lt t 0x85) [
                              | inl below ↦ grind (arith, nat_tests)
                              | inr from_85 ↦
                                  elim (cases_lt t 0x8e) [
                                    | inl below ↦ grind (arith, nat_tests)
                                    | inr from_8e ↦ grind (arith, nat_tests)
                                  ]
                            ]
                      ]
                ]
          ]
    ]

abbrev bytes_of : List (List ℕ) → ℕ → List ℕ
bytes_of packs k = flat_map pack_text (filter (λ pack. pack_type pack == k) packs)

bytes_by : (b : Bool) (pack : List ℕ) (packs : List (List ℕ))
    → length (flat_map pack_text (if b then pack ∷ packs else packs))
    ≤ (if b then 12 else 0) + length (flat_map pack_text packs)
bytes_by true pack packs =
    let size = length-take 12 (drop 4 pack) in
    let all = length-append (pack_text pack) (flat_map pack_text packs) in
    omega (arith, size, all)
bytes_by false pack packs = omega arith

abbrev all_bytes : List (List ℕ) → ℕ
all_bytes packs =
    length (bytes_of packs 0x80) + length (bytes_of packs 0x81) + length (bytes_of packs 0x82)
    + length (bytes_of packs 0x83) + length (bytes_of packs 0x84) + length (bytes_of packs 0x85)
    + length (bytes_of packs 0x8e)

bytes_size : (packs : List (List ℕ)) → all_bytes packs ≤ 12 * length packs
bytes_size [] = omega arith
bytes_size (p ∷ ps) =
    let t = pack_type p in
    let one = one_kind t 12 in
    let rest = bytes_size ps in
    let a = bytes_by (t == 0x80) p (filter (λ pack. pack_type pack == 0x80) ps) in
    let b = bytes_by (t == 0x81) p (filter (λ pack. pack_type pack == 0x81) ps) in
    let c = bytes_by (t == 0x82) p (filter (λ pack. pack_type pack == 0x82) ps) in
    let d = bytes_by (t == 0x83) p (filter (λ pack. pack_type pack == 0x83) ps) in
    let e = bytes_by (t == 0x84) p (filter (λ pack. pack_type pack == 0x84) ps) in
    let f = bytes_by (t == 0x85) p (filter (λ pack. pack_type pack == 0x85) ps) in
    let g = bytes_by (t == 0x8e) p (filter (λ pack. pack_type pack == 0x8e) ps) in
    omega (arith, one, rest, a, b, c, d, e, f, g)

order_size : (kept : List (Option (List ℕ))) → length (in_order kept) ≤ length kept
order_size [] = omega arith
order_size (None ∷ kept) = let rest = order_size kept in omega (arith, rest)
order_size (Some pack ∷ kept) = let rest = order_size kept in omega (arith, rest)

kinds_bytes : (kept : List (Option (List ℕ)))
    → length (kind_bytes kept Title) + length (kind_bytes kept Performer)
    + length (kind_bytes kept Songwriter) + length (kind_bytes kept Composer)
    + length (kind_bytes kept Arranger) + length (kind_bytes kept Message)
    + length (kind_bytes kept Code) ≤ 12 * length kept
unfolding kind_packs
kinds_bytes kept =
    let all = bytes_size (in_order kept) in
    let some = order_size kept in
    omega (arith, all, some)

-- ---- The lines of all kinds.

one_more : (f : TextKind → List ℕ) (kind : TextKind) (rest : List TextKind)
    → length (flat_map f (kind ∷ rest)) ≡ length (f kind) + length (flat_map f rest)
one_more f kind rest = length-append (f kind) (flat_map f rest)

seven : (f : TextKind → List ℕ)
    → length (flat_map f kinds)
    ≡ length (f Title) + length (f Performer) + length (f Songwriter) + length (f Composer)
    + length (f Arranger) + length (f Message) + length (f Code)
seven f =
    let a = one_more f Title (Performer ∷ Songwriter ∷ Composer ∷ Arranger ∷ Message ∷ Code ∷ []) in
    let b = one_more f Performer (Songwriter ∷ Composer ∷ Arranger ∷ Message ∷ Code ∷ []) in
    let c = one_more f Songwriter (Composer ∷ Arranger ∷ Message ∷ Code ∷ []) in
    let d = one_more f Composer (Arranger ∷ Message ∷ Code ∷ []) in
    let e = one_more f Arranger (Message ∷ Code ∷ []) in
    let g = one_more f Message (Code ∷ []) in
    let h = one_more f Code [] in
    omega (arith, a, b, c, d, e, g, h)

abbrev lines_in : Texts → List ℕ
lines_in texts = flat_map (kind_lines texts) kinds

all_size : (kept : List (Option (List ℕ))) (first last : ℕ) → length kept ≤ 256 → last - first + 2 ≤ 100
    → length (lines_in (all_texts kept first last)) ≤ 932100
all_size kept first last few count =
    let texts : Texts = all_texts kept first last in
    let n : ℕ = last - first + 2 in
    let bytes = kinds_bytes kept in
    let sum = seven (kind_lines texts) in
    let a = kind_size texts Title (length (kind_bytes kept Title)) (kind_fits kept n Title) count in
    let b = kind_size texts Performer (length (kind_bytes kept Performer))
    (kind_fits kept n Performer) count in
    let c = kind_size texts Songwriter (length (kind_bytes kept Songwriter))
    (kind_fits kept n Songwriter) count in
    let d = kind_size texts Composer (length (kind_bytes kept Composer)) (kind_fits kept n Composer) count in
    let e = kind_size texts Arranger (length (kind_bytes kept Arranger)) (kind_fits kept n Arranger) count in
    let g = kind_size texts Message (length (kind_bytes kept Message)) (kind_fits kept n Message) count in
    let h = kind_size texts Code (length (kind_bytes kept Code)) (kind_fits kept n Code) count in
    omega (arith, bytes, sum, a, b, c, d, e, g, h, few)

none_fits : Fits 0 []
none_fits i = omega arith

nothing_size : length (lines_in no_texts) ≤ 932100
nothing_size =
    let sum = seven (kind_lines no_texts) in
    let a = kind_size no_texts Title 0 none_fits (omega arith) in
    let b = kind_size no_texts Performer 0 none_fits (omega arith) in
    let c = kind_size no_texts Songwriter 0 none_fits (omega arith) in
    let d = kind_size no_texts Composer 0 none_fits (omega arith) in
    let e = kind_size no_texts Arranger 0 none_fits (omega arith) in
    let g = kind_size no_texts Message 0 none_fits (omega arith) in
    let h = kind_size no_texts Code 0 none_fits (omega arith) in
    omega (arith, sum, a, b, c, d, e, g, h)

-- ---- The texts that packs are read as.

abbrev Short : Result Texts TextFault → Type 0
Short read = IfOk read (λ texts. length (lines_in texts) ≤ 932100)

either : (test : Bool) (one other : Result Texts TextFault) → Short one → (test ≡ false → Short other)
    → Short (if test then one else other)
either true one other short rest = short
either false one other short rest = rest refl

kinds_short : (kept : List (Option (List ℕ))) (first last : ℕ) (short : Option TextKind) → length kept ≤ 256
    → last - first + 2 ≤ 100
    → Short (read_kinds kept first last short)
kinds_short kept first last (Some kind) few count = tt
kinds_short kept first last None few count = all_size kept first last few count

numbers_short : (kept : List (Option (List ℕ))) (count first last : ℕ) (missing : Option ℕ)
    → length kept ≤ 256 → last - first + 2 ≤ 100
    → Short (read_numbers kept count first last missing)
numbers_short kept count first last (Some n) few tracks = tt
numbers_short kept count first last None few tracks =
    let used : List (Option (List ℕ)) = take count kept in
    let size = length-take count kept in
    kinds_short used first last (first_short used (last - first + 2)) (omega (arith, size, few)) tracks

tracks_few : (first last : ℕ) → (nat_lt first 1 || nat_lt 99 first) ≡ false
    → (nat_lt last first || nat_lt 99 last) ≡ false
    → last - first + 2 ≤ 100
tracks_few first last h k = grind (arith, nat_tests)

sized_short : (kept : List (Option (List ℕ))) (size0 size1 : List ℕ) → length kept ≤ 256
    → Short (read_sized kept size0 size1)
sized_short kept size0 size1 few =
    let first : ℕ = slice_index (pack_text size0) first_track_place in
    let last : ℕ = slice_index (pack_text size0) last_track_place in
    let count : ℕ = slice_index (pack_text size1) (last_number_place - text_bytes) + 1 in
    either (nat_lt first 1 || nat_lt most_tracks first) _ _ tt (λ some.
    either (nat_lt last first || nat_lt most_tracks last) _ _ tt (λ order.
    numbers_short kept count first last (first_missing kept count) few (tracks_few first last some order)))

sizes_short : (kept : List (Option (List ℕ))) (a b c : Option (List ℕ)) → length kept ≤ 256
    → Short (read_sizes kept a b c)
sizes_short kept (Some a) (Some b) (Some c) few = sized_short kept a b few
sizes_short kept (Some a) (Some b) None few = tt
sizes_short kept (Some a) None c few = tt
sizes_short kept None b c few = tt

read_short : (kept : List (Option (List ℕ))) → length kept ≤ 256 → Short (read_texts kept)
read_short kept few =
    either (keeps_nothing kept) _ _ nothing_size (λ some.
    sizes_short kept (size_pack kept 0) (size_pack kept 1) (size_pack kept 2) few)

-- ---- The last line.

sum_of : (a b c d e f g : List ℕ)
    → length ((((((a ++ b) ++ c) ++ d) ++ e) ++ f) ++ g)
    ≡ length a + length b + length c + length d + length e + length f + length g
sum_of a b c d e f g =
    let p = length-append a b in
    let q = length-append (a ++ b) c in
    let r = length-append ((a ++ b) ++ c) d in
    let s = length-append (((a ++ b) ++ c) ++ d) e in
    let t = length-append ((((a ++ b) ++ c) ++ d) ++ e) f in
    let u = length-append (((((a ++ b) ++ c) ++ d) ++ e) ++ f) g in
    omega (arith, p, q, r, s, t, u)

offers_size : (good bad other : ℕ) → good < 2 ^ 32 → bad < 2 ^ 32 → other < 2 ^ 32
    → length (offers_line good bad other) ≤ 54
unfolding offers_line
offers_size good bad other g b o =
    let x = length-decimal-le 10 good (omega arith) (omega (arith, g)) (omega (arith, g)) in
    let y = length-decimal-le 10 bad (omega arith) (omega (arith, b)) (omega (arith, b)) in
    let z = length-decimal-le 10 other (omega arith) (omega (arith, o)) (omega (arith, o)) in
    let all =
    sum_of (codes "packs good ") (decimal good) (codes " bad ") (decimal bad) (codes " other ")
    (decimal other) line_feed in
    subst (λ (n : ℕ). n ≤ 54) (sym all) (omega (arith, x, y, z))

pub lines_fit : (kept : List (Option (List ℕ))) (texts : Texts) (good bad other : ℕ) → length kept ≤ 256
    → read_texts kept ≡ Ok texts → good < 2 ^ 32 → bad < 2 ^ 32 → other < 2 ^ 32
    → length (counted_lines texts good bad other) ≤ 932154
lines_fit kept texts good bad other few is g b o =
    let lines : length (lines_in texts) ≤ 932100 = subst Short is (read_short kept few) in
    let last = offers_size good bad other g b o in
    let all = length-append (lines_in texts) (offers_line good bad other) in
    omega (arith, lines, last, all)
