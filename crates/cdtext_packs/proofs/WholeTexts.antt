-- Texts with a string of each kind for the album and each track.
use Rattle.std.proofs.Common.{◌≡◌, ℕ, zero, suc, ◌+◌, ◌-◌, ◌<◌, ◌≤◌, Bool, true, false, if◌then◌else◌, List, [], length, get_or, replicate, Option, All, inl, inr, refl, sym, ap, subst, ◌∙◌, arith}
use Rattle.std.proofs.lemmas.Bool.{and_from, cond-false}
use Rattle.std.proofs.lemmas.List.{length-replicate}
use Rattle.std.proofs.lemmas.List.Elements.{All-replicate}
use Rattle.std.proofs.lemmas.List.Folds.{list_all_at}
use Rattle.cdtext_packs.specs.Texts.{Texts, kinds, IsString, AreTexts, no_texts, texts_with, unless_empty, strings_of, are_empty, has_no_text}
use Rattle.cdtext_packs.specs.Reading.{kind_texts, all_texts}
use Rattle.cdtext_packs.specs.declared.kinds.TextKind.{TextKind}
use Rattle.cdtext_packs.specs.declared.kinds.TextKind.TheVariants as kind

pub has_tracks : (texts : Texts) (n : ℕ) → 1 ≤ n → 1 ≤ texts.first → texts.last ≡ texts.first + (n - 1)
    → texts.last ≤ 99
    → length texts.title ≡ n + 1 → length texts.performer ≡ n + 1 → length texts.songwriter ≡ n + 1
    → length texts.composer ≡ n + 1 → length texts.arranger ≡ n + 1 → length texts.message ≡ n + 1
    → length texts.code ≡ n + 1
    → All IsString texts.title → All IsString texts.performer → All IsString texts.songwriter
    → All IsString texts.composer → All IsString texts.arranger → All IsString texts.message
    → All IsString texts.code
    → AreTexts texts
has_tracks texts n some first last limit c0 c1 c2 c3 c4 c5 c6 s0 s1 s2 s3 s4 s5 s6 = inr (record {
  first = first;
  last = omega arith;
  limit = limit;
  count = λ k. elim k as (λ k. length (strings_of k texts) ≡ texts.last - texts.first + 2) [
    | kind.Title ↦ omega arith
    | kind.Performer ↦ omega arith
    | kind.Songwriter ↦ omega arith
    | kind.Composer ↦ omega arith
    | kind.Arranger ↦ omega arith
    | kind.Message ↦ omega arith
    | kind.Code ↦ omega arith
  ];
  strings = λ k. elim k as (λ k. All IsString (strings_of k texts)) [
    | kind.Title ↦ s0
    | kind.Performer ↦ s1
    | kind.Songwriter ↦ s2
    | kind.Composer ↦ s3
    | kind.Arranger ↦ s4
    | kind.Message ↦ s5
    | kind.Code ↦ s6
  ];
})

none_are_strings : (n : ℕ) → All IsString (replicate n [])
none_are_strings n = All-replicate IsString n [] (record {
  size = omega arith;
  nonzero = λ i d inside. absurd (omega arith);
})

-- the strings of a sheet, and empty strings of the other kinds
pub strings_with : (first n last : ℕ)
    (title performer songwriter composer arranger message code : List (List ℕ))
    → 1 ≤ first → 2 ≤ length title → first + length title ≤ 101 → n ≡ length title
    → length performer ≡ length title → length songwriter ≡ length title → length code ≡ length title
    → composer ≡ replicate n [] → arranger ≡ replicate n [] → message ≡ replicate n []
    → last ≡ first + (n - 2)
    → All IsString title → All IsString performer → All IsString songwriter → All IsString code
    → AreTexts (record {
      first = first;
      last = last;
      title = title;
      performer = performer;
      songwriter = songwriter;
      composer = composer;
      arranger = arranger;
      message = message;
      code = code;
    })
strings_with first n last title performer songwriter composer arranger message code least some most size p s c
    e3
    e4 e5 end s0 s1 s2 s6 =
    let whole : n ≡ n - 1 + 1 = omega arith in
    let none : (xs : List (List ℕ)) → xs ≡ replicate n [] → length xs ≡ n - 1 + 1 =
    λ xs is. ap length is ∙ length-replicate n [] ∙ whole in
    let strings : (xs : List (List ℕ)) → xs ≡ replicate n [] → All IsString xs =
    λ xs is. subst (All IsString) (sym is) (none_are_strings n) in
    has_tracks _ (n - 1) (omega arith) least (omega arith) (omega arith) (sym size ∙ whole)
    (p ∙ sym size ∙ whole) (s ∙ sym size ∙ whole) (none composer e3) (none arranger e4) (none message e5)
    (c ∙ sym size ∙ whole) s0 s1 s2 (strings composer e3) (strings arranger e4) (strings message e5) s6

same_strings : (first last : ℕ) {a b c d e f g a' b' c' d' e' f' g' : List (List ℕ)} → a ≡ a' → b ≡ b'
    → c ≡ c' → d ≡ d' → e ≡ e' → f ≡ f' → g ≡ g'
    → ◌≡◌ {A = Texts} (record {
      first = first;
      last = last;
      title = a;
      performer = b;
      songwriter = c;
      composer = d;
      arranger = e;
      message = f;
      code = g;
    })
    (record {
      first = first;
      last = last;
      title = a';
      performer = b';
      songwriter = c';
      composer = d';
      arranger = e';
      message = f';
      code = g';
    })
same_strings first last a b c d e f g = cc

-- the strings of a kind, one for the album and each track
pub record AreTextsOf (kept : List (Option (List ℕ))) (n : ℕ) (kind : TextKind) (strings : List (List ℕ))
    : Type 0 where
  pub texts : strings ≡ kind_texts kept n kind
  pub size : length strings ≡ n
  pub each : All IsString strings

-- texts with these strings of each kind
pub record AreAllTexts (kept : List (Option (List ℕ))) (n : ℕ) (texts : Texts) : Type 0 where
  pub title : AreTextsOf kept n kind.Title texts.title
  pub performer : AreTextsOf kept n kind.Performer texts.performer
  pub songwriter : AreTextsOf kept n kind.Songwriter texts.songwriter
  pub composer : AreTextsOf kept n kind.Composer texts.composer
  pub arranger : AreTextsOf kept n kind.Arranger texts.arranger
  pub message : AreTextsOf kept n kind.Message texts.message
  pub code : AreTextsOf kept n kind.Code texts.code

all_texts_at : (kept : List (Option (List ℕ))) (n : ℕ) (texts : Texts) → AreAllTexts kept n texts
    → (k : TextKind) → AreTextsOf kept n k (strings_of k texts)
all_texts_at kept n texts are kind.Title = are.title
all_texts_at kept n texts are kind.Performer = are.performer
all_texts_at kept n texts are kind.Songwriter = are.songwriter
all_texts_at kept n texts are kind.Composer = are.composer
all_texts_at kept n texts are kind.Arranger = are.arranger
all_texts_at kept n texts are kind.Message = are.message
all_texts_at kept n texts are kind.Code = are.code

pub tracks_of_kinds : (kept : List (Option (List ℕ))) (n : ℕ) (texts : Texts) → n ≡ texts.last - texts.first
    → 1 ≤ texts.first → texts.first ≤ texts.last → texts.last ≤ 99 → AreAllTexts kept (n + 2) texts
    → AreTexts texts
tracks_of_kinds kept n texts size first last limit are =
    let each = all_texts_at kept (n + 2) texts are in
    inr (record {
      first = first;
      last = last;
      limit = limit;
      count = λ k. (each k).size ∙ ap (λ (m : ℕ). m + 2) size;
      strings = λ k. (each k).each;
    })

-- the texts of kept packs, from the strings of each kind
pub texts_of_kinds : (kept : List (Option (List ℕ))) (n : ℕ) (texts : Texts) → n ≡ texts.last - texts.first
    → AreAllTexts kept (n + 2) texts
    → texts ≡ all_texts kept texts.first texts.last
texts_of_kinds kept n texts size are =
    same_strings texts.first texts.last (are.title.texts ∙ same kind.Title)
    (are.performer.texts ∙ same kind.Performer) (are.songwriter.texts ∙ same kind.Songwriter)
    (are.composer.texts ∙ same kind.Composer) (are.arranger.texts ∙ same kind.Arranger)
    (are.message.texts ∙ same kind.Message) (are.code.texts ∙ same kind.Code)
  where
    same : (k : TextKind) → kind_texts kept (n + 2) k ≡ kind_texts kept (texts.last - texts.first + 2) k
    same k = ap (λ (m : ℕ). kind_texts kept (m + 2) k) size

-- texts with only empty strings are no texts
empty_strings : (n : ℕ) → are_empty (replicate n []) ≡ true
empty_strings zero = refl
empty_strings (suc n) = empty_strings n

pub none_with : (first : ℕ) (title performer songwriter code : List (List ℕ)) → are_empty title ≡ true
    → are_empty performer ≡ true → are_empty songwriter ≡ true → are_empty code ≡ true
    → unless_empty (texts_with first title performer songwriter code) ≡ no_texts
none_with first title performer songwriter code t p s c =
    let none = empty_strings (length title) in
    let all : has_no_text (texts_with first title performer songwriter code) ≡ true =
    and_from _ _ t (and_from _ _ p (and_from _ _ s (and_from _ _ none (and_from _ _ none (and_from _ _ none
    (and_from _ _ c refl)))))) in
    ap (λ (b : Bool). if b then no_texts else texts_with first title performer songwriter code) all

-- there is text if one of the kinds has a string that is not empty
pub some_text : (texts : Texts) (i : ℕ) → i < 7
    → are_empty (strings_of (get_or kinds i kind.Title) texts) ≡ false
    → has_no_text texts ≡ false
some_text texts i inside some =
    list_all_at (λ kind. are_empty (strings_of kind texts)) kinds i kind.Title inside some

pub texts_not_empty : (first n last : ℕ)
    (title performer songwriter composer arranger message code : List (List ℕ))
    → n ≡ length title → last ≡ first + (n - 2)
    → composer ≡ replicate n [] → arranger ≡ replicate n [] → message ≡ replicate n []
    → has_no_text (texts_with first title performer songwriter code) ≡ false
    → ◌≡◌ {A = Texts} (record {
      first = first;
      last = last;
      title = title;
      performer = performer;
      songwriter = songwriter;
      composer = composer;
      arranger = arranger;
      message = message;
      code = code;
    })
    (unless_empty (texts_with first title performer songwriter code))
texts_not_empty first n last title performer songwriter composer arranger message code size end e3 e4 e5
    some =
    let none : replicate n [] ≡ replicate (length title) [] = ap (λ (k : ℕ). replicate k []) size in
    let whole = texts_with first title performer songwriter code in
    same_strings first last {a = title} {b = performer} {c = songwriter} {g = code} refl refl refl (e3 ∙ none)
    (e4 ∙ none) (e5 ∙ none) refl
    ∙ ap (λ (k : ℕ). record whole { last = k }) (end ∙ ap (λ (k : ℕ). first + (k - 2)) size)
    ∙ sym (cond-false (has_no_text whole) no_texts whole some)

-- a kind has at most the strings of the album and of 99 tracks
pub record AreFewStrings (xs : List (List ℕ)) : Type 0 where
  pub count : length xs ≤ 100
  pub each : All IsString xs

none_are_few : AreFewStrings []
none_are_few = record { count = omega arith; each = λ i d inside. absurd (omega arith) }

no_texts_are_few : (k : TextKind) → AreFewStrings (strings_of k no_texts)
no_texts_are_few kind.Title = none_are_few
no_texts_are_few kind.Performer = none_are_few
no_texts_are_few kind.Songwriter = none_are_few
no_texts_are_few kind.Composer = none_are_few
no_texts_are_few kind.Arranger = none_are_few
no_texts_are_few kind.Message = none_are_few
no_texts_are_few kind.Code = none_are_few

pub strings_fit : (texts : Texts) (k : TextKind) → AreTexts texts → AreFewStrings (strings_of k texts)
strings_fit texts k are = elim are [
  | inl none ↦ subst (λ (t : Texts). AreFewStrings (strings_of k t)) (sym none) (no_texts_are_few k)
  | inr tracks ↦ record {
    count = omega (arith, tracks.count k, tracks.first, tracks.last, tracks.limit);
    each = tracks.strings k;
  }
]

pub first_fits : (texts : Texts) → AreTexts texts → texts.first ≤ 99
first_fits texts are = elim are [
  | inl none ↦ omega (arith, ap (λ (t : Texts). t.first) none)
  | inr tracks ↦ omega (arith, tracks.last, tracks.limit)
]
