-- The packs of one kind among all.
use Rattle.std.proofs.Common.{◌≡◌, ℕ, suc, ◌+◌, Bool, true, false, ◌==◌, if◌then◌else◌, List, [], ◌∷◌, ◌++◌, length, get_or, map, filter, flat_map, All, refl, ap, ◌∙◌, arith}
use Rattle.std.proofs.lemmas.List.{append-nil}
use Rattle.std.proofs.lemmas.List.Elements.{filter-append, All-append, All-map}
use Rattle.bit_lists.specs.Counting.{below}
use Rattle.cdtext_packs.specs.Packs.{sealed, pack_type, pack_text}
use Rattle.cdtext_packs.specs.Texts.{Texts, kinds, strings_of}
use Rattle.cdtext_packs.specs.Writing.{Content, content_bytes, numbered, kind_contents, size_contents, size_content, text_content, pack_count, type_of, joined, twelve}
use Rattle.cdtext_packs.specs.declared.kinds.TextKind.{TextKind}
use Rattle.cdtext_packs.specs.declared.kinds.TextKind.TheVariants.{Title, Performer, Songwriter, Composer, Arranger, Message, Code}
use Rattle.cdtext_packs.proofs.Seals.{IsContent, text_content_is, size_content_is, seal_type, seal_text}
use Rattle.cdtext_packs.proofs.Cutting.{all_first, all_rest}

of_kind : TextKind → Content → Bool
of_kind kind c = c.type == type_of kind

-- the packs of a kind among numbered packs have the bytes of the contents of this kind
pub bytes_among : (first : ℕ) (xs : List Content) (kind : TextKind) → All IsContent xs
    → flat_map pack_text (filter (λ pack. pack_type pack == type_of kind) (numbered first xs))
    ≡ flat_map (λ (c : Content). c.text) (filter (λ (c : Content). c.type == type_of kind) xs)
bytes_among first [] kind each = refl
bytes_among first (x ∷ xs) kind each =
    let is = all_first IsContent x xs each in
    let same : pack_type (sealed (content_bytes first x)) == type_of kind ≡ (x.type == type_of kind) =
    ap (λ (t : ℕ). t == type_of kind) (seal_type first x) in
    let rest = bytes_among (first + 1) xs kind (all_rest IsContent x xs each) in
    ap (λ (b : Bool). flat_map pack_text (if b
    then sealed (content_bytes first x)
    ∷ filter (λ pack. pack_type pack == type_of kind) (numbered (first + 1) xs)
    else filter (λ pack. pack_type pack == type_of kind) (numbered (first + 1) xs))) same
    ∙ chosen (x.type == type_of kind) (sealed (content_bytes first x)) x.text
    (filter (λ pack. pack_type pack == type_of kind) (numbered (first + 1) xs))
    (filter (λ (c : Content). c.type == type_of kind) xs) x refl (seal_text first x is) rest
  where
    chosen : (b : Bool) (pack text : List ℕ) (packs : List (List ℕ)) (cs : List Content) (c : Content)
        → text ≡ c.text → pack_text pack ≡ text
        → flat_map pack_text packs ≡ flat_map (λ (d : Content). d.text) cs
        → flat_map pack_text (if b then pack ∷ packs else packs)
        ≡ flat_map (λ (d : Content). d.text) (if b then c ∷ cs else cs)
    chosen true pack text packs cs c is e r =
        ap (λ (t : List ℕ). t ++ flat_map pack_text packs) (e ∙ is) ∙ ap (λ (t : List ℕ). c.text ++ t) r
    chosen false pack text packs cs c is e r = r

pub count_among : (first : ℕ) (xs : List Content) (kind : TextKind)
    → length (filter (λ pack. pack_type pack == type_of kind) (numbered first xs))
    ≡ length (filter (λ (c : Content). c.type == type_of kind) xs)
count_among first [] kind = refl
count_among first (x ∷ xs) kind =
    let same : pack_type (sealed (content_bytes first x)) == type_of kind ≡ (x.type == type_of kind) =
    ap (λ (t : ℕ). t == type_of kind) (seal_type first x) in
    ap (λ (b : Bool). length (if b
    then sealed (content_bytes first x)
    ∷ filter (λ pack. pack_type pack == type_of kind) (numbered (first + 1) xs)
    else filter (λ pack. pack_type pack == type_of kind) (numbered (first + 1) xs))) same
    ∙ chosen (x.type == type_of kind) (sealed (content_bytes first x))
    (filter (λ pack. pack_type pack == type_of kind) (numbered (first + 1) xs))
    (filter (λ (c : Content). c.type == type_of kind) xs) x (count_among (first + 1) xs kind)
  where
    chosen : (b : Bool) (pack : List ℕ) (packs : List (List ℕ)) (cs : List Content) (c : Content)
        → length packs ≡ length cs
        → length (if b then pack ∷ packs else packs) ≡ length (if b then c ∷ cs else cs)
    chosen true pack packs cs c r = ap suc r
    chosen false pack packs cs c r = r

-- all contents of a kind have its type
same_type : (kind other : TextKind) (first : ℕ) (strings : List (List ℕ)) (ks : List ℕ)
    → filter (λ (c : Content). c.type == type_of kind) (map (text_content first (type_of other) strings) ks)
    ≡ (if type_of other == type_of kind then map (text_content first (type_of other) strings) ks else [])
unfolding text_content
same_type kind other first strings [] = none (type_of other == type_of kind)
  where
    none : (b : Bool) → (let cs : List Content = [] in cs) ≡ (if b then [] else [])
    none true = refl
    none false = refl
same_type kind other first strings (k ∷ ks) =
    ap (λ (rest : List Content).
    if type_of other == type_of kind then text_content first (type_of other) strings k ∷ rest else rest)
    (same_type kind other first strings ks)
    ∙ both (type_of other == type_of kind) (text_content first (type_of other) strings k)
    (map (text_content first (type_of other) strings) ks)
  where
    both : (b : Bool) (c : Content) (cs : List Content)
        → (if b then c ∷ (if b then cs else []) else (if b then cs else [])) ≡ (if b then c ∷ cs else [])
    both true c cs = refl
    both false c cs = refl

of_other : (texts : Texts) (kind other : TextKind)
    → filter (λ (c : Content). c.type == type_of kind) (kind_contents texts other)
    ≡ (if type_of other == type_of kind then kind_contents texts other else [])
unfolding kind_contents
of_other texts kind other =
    same_type kind other texts.first (strings_of other texts) (below (pack_count (strings_of other texts)))

filter-flat_map : (p : Content → Bool) (f : TextKind → List Content) (ks : List TextKind)
    → filter p (flat_map f ks) ≡ flat_map (λ k. filter p (f k)) ks
filter-flat_map p f [] = refl
filter-flat_map p f (k ∷ ks) =
    filter-append p (f k) (flat_map f ks)
    ∙ ap (λ (xs : List Content). filter p (f k) ++ xs) (filter-flat_map p f ks)

flat_map-same : (f g : TextKind → List Content) → ((k : TextKind) → f k ≡ g k) → (ks : List TextKind)
    → flat_map f ks ≡ flat_map g ks
flat_map-same f g same [] = refl
flat_map-same f g same (k ∷ ks) =
    ap (λ (xs : List Content). xs ++ flat_map f ks) (same k)
    ∙ ap (λ (xs : List Content). g k ++ xs) (flat_map-same f g same ks)

only_kind : (texts : Texts) (kind : TextKind)
    → flat_map (λ other. if type_of other == type_of kind then kind_contents texts other else []) kinds
    ≡ kind_contents texts kind
only_kind texts Title = append-nil (kind_contents texts Title)
only_kind texts Performer = append-nil (kind_contents texts Performer)
only_kind texts Songwriter = append-nil (kind_contents texts Songwriter)
only_kind texts Composer = append-nil (kind_contents texts Composer)
only_kind texts Arranger = append-nil (kind_contents texts Arranger)
only_kind texts Message = append-nil (kind_contents texts Message)
only_kind texts Code = append-nil (kind_contents texts Code)

no_sizes : (texts : Texts) (kind : TextKind)
    → filter (λ (c : Content). c.type == type_of kind) (size_contents texts) ≡ []
no_sizes texts Title = refl
no_sizes texts Performer = refl
no_sizes texts Songwriter = refl
no_sizes texts Composer = refl
no_sizes texts Arranger = refl
no_sizes texts Message = refl
no_sizes texts Code = refl

-- the contents of a kind among all contents
pub kind_among : (texts : Texts) (kind : TextKind)
    → filter (λ (c : Content). c.type == type_of kind)
    (flat_map (kind_contents texts) kinds ++ size_contents texts)
    ≡ kind_contents texts kind
kind_among texts kind =
    filter-append (λ (c : Content). c.type == type_of kind) (flat_map (kind_contents texts) kinds)
    (size_contents texts)
    ∙ ap (λ (xs : List Content).
    filter (λ (c : Content). c.type == type_of kind) (flat_map (kind_contents texts) kinds) ++ xs)
    (no_sizes texts kind)
    ∙ append-nil (filter (λ (c : Content). c.type == type_of kind) (flat_map (kind_contents texts) kinds))
    ∙ filter-flat_map (λ (c : Content). c.type == type_of kind) (kind_contents texts) kinds
    ∙ flat_map-same (λ other. filter (λ (c : Content). c.type == type_of kind) (kind_contents texts other))
    (λ other. if type_of other == type_of kind then kind_contents texts other else []) (of_other texts kind)
    kinds
    ∙ only_kind texts kind

-- the bytes of the contents of a kind
pub texts_of_contents : (texts : Texts) (kind : TextKind)
    → flat_map (λ (c : Content). c.text) (kind_contents texts kind)
    ≡ flat_map (twelve (joined (strings_of kind texts))) (below (pack_count (strings_of kind texts)))
unfolding kind_contents text_content
texts_of_contents texts kind =
    of_map (text_content texts.first (type_of kind) (strings_of kind texts))
    (below (pack_count (strings_of kind texts)))
  where
    of_map : (f : ℕ → Content) (ks : List ℕ)
        → flat_map (λ (c : Content). c.text) (map f ks) ≡ flat_map (λ (k : ℕ). (f k).text) ks
    of_map f [] = refl
    of_map f (k ∷ ks) = ap (λ (xs : List ℕ). (f k).text ++ xs) (of_map f ks)

contents_of_kind : (texts : Texts) (kind : TextKind) → All IsContent (kind_contents texts kind)
unfolding kind_contents
contents_of_kind texts kind =
    of_map (text_content texts.first (type_of kind) (strings_of kind texts))
    (λ k. text_content_is texts.first (type_of kind) (strings_of kind texts) k)
    (below (pack_count (strings_of kind texts)))
  where
    of_map : (f : ℕ → Content) → ((k : ℕ) → IsContent (f k)) → (ks : List ℕ) → All IsContent (map f ks)
    of_map f each ks = All-map IsContent f ks (λ i d inside. each (get_or ks i d))

pub each_is_content : (texts : Texts)
    → All IsContent (flat_map (kind_contents texts) kinds ++ size_contents texts)
each_is_content texts =
    All-append IsContent (flat_map (kind_contents texts) kinds) (size_contents texts) (of_kinds kinds)
    (All-map IsContent (size_content texts) (below 3)
    (λ i d inside. size_content_is texts (get_or (below 3) i d)))
  where
    of_kinds : (ks : List TextKind) → All IsContent (flat_map (kind_contents texts) ks)
    of_kinds [] = λ i d inside. absurd (omega arith)
    of_kinds (k ∷ ks) =
        All-append IsContent (kind_contents texts k) (flat_map (kind_contents texts) ks)
        (contents_of_kind texts k) (of_kinds ks)
