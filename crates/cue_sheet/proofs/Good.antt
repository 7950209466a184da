-- Facts about all values that lines set.
use Rattle.std.proofs.Common.{rules, ◌≡◌, ℕ, suc, ◌+◌, ◌-◌, ◌≤◌, ◌<◌, ◌⊎◌, true, false, Bool, List, [], ◌∷◌, ◌++◌, length, get_or, Option, Some, None, refl, ap, sym, ◌∙◌, arith, inl, inr, subst}
use Rattle.std.specs.Prelude.{IfSome, IfNone, IsTrue, is_some, max, not, ◌&&◌, ◌||◌, ◌==◌, nat_lt, nat_le, unwrap_or, if◌then◌else◌}
use Rattle.std.specs.Option.{ForSome}
use Rattle.std.specs.List.{list_any}
use Rattle.std.proofs.lemmas.Bool.{cases_lt, cases_Bool, eqb-true, false≢true, not-false}
use Rattle.std.proofs.lemmas.List.{get_or_append_left, length-append}
use Rattle.std.proofs.Math.Seq.{get_or-append_seam}
use Rattle.cue_sheet.specs.CueSheet.{CueTrack, IsText, IsTrack, IsSheet, CueSection, track_from, sheet_from, is_catalogue_number, is_capital_code, no_track}
use Rattle.cue_sheet.specs.CueLines.{CueLine, SaysNothing, SaysCatalogue, SaysFile, SaysTitle, SaysPerformer, SaysSongwriter, SaysTrack, SaysFlags, SaysIsrc, SaysPregap, SaysIndex, SaysPostgap, IsLineInRange}
use Rattle.cue_sheet.specs.Grammar.{CueState, nothing_said, follows_index, follows_number, has_index_one, lacks_index, track_with}
use Rattle.cue_sheet.specs.Steps.{after, later_sheet_reason}
use Rattle.cue_sheet.specs.declared.fault.CueWhy.TheVariants.{NoIndex, NotAudio, NumberOrder, IndexOrder, TimeOrder}

abbrev number_at : List (ℕ × ℕ) → ℕ → ℕ
number_at lines j = (get_or lines j (0, 0)).0

abbrev time_at : List (ℕ × ℕ) → ℕ → ℕ
time_at lines j = (get_or lines j (0, 0)).1

abbrev InRange : CueSection → Type 0
InRange s =
    IfSome s.catalogue (λ n. IsTrue (is_catalogue_number n))
    × IfSome s.title IsText
    × IfSome s.performer IsText
    × IfSome s.songwriter IsText
    × IfSome s.control (λ n. n < 16)
    × IfSome s.isrc (λ code. IsTrue (is_capital_code code))
    × IfSome s.pregap (λ n. n < 450000)
    × IfSome s.postgap (λ n. n < 450000)

-- the index lines so far are valid, and `latest` is the greatest time of all lines
pub record AreSoFar (lines : List (ℕ × ℕ)) (latest : ℕ) : Type 0 where
  pub first : number_at lines 0 ≤ 1
  pub next : (j : ℕ) → j < length lines → number_at lines j ≡ number_at lines 0 + j
  pub numbers : (j : ℕ) → j < length lines → number_at lines j ≤ 99
  pub times : (j : ℕ) → j < length lines → time_at lines j < 450000
  pub order : (i j : ℕ) → i ≤ j → j < length lines → time_at lines i ≤ time_at lines j
  pub past : (j : ℕ) → j < length lines → time_at lines j ≤ latest

-- one more index line
index_follows : (lines : List (ℕ × ℕ)) (latest number : ℕ) → AreSoFar lines latest
    → follows_index lines number ≡ true
    → ((0 < length lines) × (number ≡ number_at lines 0 + length lines)) ⊎ ((length lines ≡ 0) × (number ≤ 1))
index_follows lines latest number good follows = elim (cases_lt 0 (length lines)) [
  | inl some ↦ let none : (length lines == 0) ≡ false = grind arith in
      let at : (number == number_at lines (length lines - 1) + 1) ≡ true =
      subst (λ b. (if b then nat_le number 1 else number == number_at lines (length lines - 1) + 1) ≡ true)
      none follows in
      inl (
        some,
        omega (
          arith,
          eqb-true number (number_at lines (length lines - 1) + 1) at,
          good.next (length lines - 1) (omega arith),
        ),
      )
  | inr few ↦ let none : (length lines == 0) ≡ true = grind arith in
      let low : nat_le number 1 ≡ true =
      subst (λ b. (if b then nat_le number 1 else number == number_at lines (length lines - 1) + 1) ≡ true)
      none follows in
      inr (omega arith, grind (arith, low))
]

pushed_line : (lines : List (ℕ × ℕ)) (number time j : ℕ) → j < length lines + 1
    → ((j < length lines)
    × (number_at (lines ++ (number, time) ∷ []) j ≡ number_at lines j)
    × (time_at (lines ++ (number, time) ∷ []) j ≡ time_at lines j))
    ⊎ ((j ≡ length lines)
    × (number_at (lines ++ (number, time) ∷ []) j ≡ number)
    × (time_at (lines ++ (number, time) ∷ []) j ≡ time))
pushed_line lines number time j lt = elim (cases_lt j (length lines)) [
  | inl within ↦ let same = get_or_append_left lines ((number, time) ∷ []) (0, 0) j within in
      inl (within, ap (λ (l : ℕ × ℕ). l.0) same, ap (λ (l : ℕ × ℕ). l.1) same)
  | inr last ↦ let here : j ≡ length lines = omega arith in
      let line : ℕ × ℕ = (number, time) in
      let at : get_or (lines ++ line ∷ []) j (0, 0) ≡ line =
      ap (λ k. get_or (lines ++ line ∷ []) k (0, 0)) here ∙ get_or-append_seam lines line [] (0, 0) in
      inr (here, ap (λ (l : ℕ × ℕ). l.0) at, ap (λ (l : ℕ × ℕ). l.1) at)
]

length-pushed : {X : Type 0} (xs : List X) (x : X) → length (xs ++ x ∷ []) ≡ length xs + 1
length-pushed xs x = length-append xs (x ∷ [])

AreSoFar-pushed : (lines : List (ℕ × ℕ)) (latest number time : ℕ) → AreSoFar lines latest
    → follows_index lines number ≡ true → latest ≤ time → number ≤ 99 → time < 450000
    → AreSoFar (lines ++ (number, time) ∷ []) (max time latest)
AreSoFar-pushed lines latest number time good follows late small short =
    let line : ℕ × ℕ = (number, time) in
    let size = length-pushed lines line in
    let case = index_follows lines latest number good follows in
    let zero_at = pushed_line lines number time 0 (omega arith) in
    record {
      first = elim case [
        | inl c ↦ elim zero_at [ inl z ↦ omega (arith, z.1, good.first) | inr z ↦ omega (arith, z.0, c.0) ]
        | inr c ↦ elim zero_at [ inl z ↦ omega (arith, z.0, c.0) | inr z ↦ omega (arith, z.1, c.1) ]
      ];
      next = λ j lt. elim (pushed_line lines number time j (omega (arith, size))) [
        | inl p ↦ elim zero_at
            [ inl z ↦ omega (arith, p.1, z.1, good.next j p.0) | inr z ↦ omega (arith, z.0, p.0) ]
        | inr p ↦ elim case [
          | inl c ↦
              elim zero_at [ inl z ↦ omega (arith, p.0, p.1, z.1, c.1) | inr z ↦ omega (arith, z.0, c.0) ]
          | inr c ↦
              elim zero_at [ inl z ↦ omega (arith, z.0, c.0) | inr z ↦ omega (arith, p.0, p.1, z.1, c.0) ]
        ]
      ];
      numbers =
          λ j lt. elim (pushed_line lines number time j (omega (arith, size)))
          [ inl p ↦ omega (arith, p.1, good.numbers j p.0) | inr p ↦ omega (arith, p.1) ];
      times =
          λ j lt. elim (pushed_line lines number time j (omega (arith, size)))
          [ inl p ↦ omega (arith, p.2, good.times j p.0) | inr p ↦ omega (arith, p.2) ];
      order = λ i j le lt. elim (pushed_line lines number time j (omega (arith, size))) [
        | inl p ↦ elim (pushed_line lines number time i (omega (arith, size)))
            [ inl q ↦ omega (arith, p.2, q.2, good.order i j le p.0) | inr q ↦ omega (arith, p.0, q.0) ]
        | inr p ↦ elim (pushed_line lines number time i (omega (arith, size)))
            [ inl q ↦ omega (arith, p.2, q.2, good.past i q.0) | inr q ↦ omega (arith, p.2, q.2) ]
      ];
      past =
          λ j lt. elim (pushed_line lines number time j (omega (arith, size)))
          [ inl p ↦ omega (arith, p.2, good.past j p.0) | inr p ↦ omega (arith, p.2) ];
    }

-- the tracks are valid and in order
pub record AreTracks (tracks : List CueTrack) : Type 0 where
  pub each : (k : ℕ) → k < length tracks → IsTrack (get_or tracks k no_track)
  pub next : (k : ℕ) → k < length tracks
      → (get_or tracks k no_track).number ≡ (get_or tracks 0 no_track).number + k
  pub order : (j k i : ℕ) → j < k → k < length tracks → i < length (get_or tracks j no_track).indices
      → time_at (get_or tracks j no_track).indices i ≤ time_at (get_or tracks k no_track).indices 0

pushed_track : (tracks : List CueTrack) (track : CueTrack) (k : ℕ) → k < length tracks + 1
    → ((k < length tracks) × (get_or (tracks ++ track ∷ []) k no_track ≡ get_or tracks k no_track))
    ⊎ ((k ≡ length tracks) × (get_or (tracks ++ track ∷ []) k no_track ≡ track))
pushed_track tracks track k lt = elim (cases_lt k (length tracks)) [
  | inl within ↦ inl (within, get_or_append_left tracks (track ∷ []) no_track k within)
  | inr last ↦ let here : k ≡ length tracks = omega arith in
      inr (
        here,
        ap (λ n. get_or (tracks ++ track ∷ []) n no_track) here ∙ get_or-append_seam tracks track [] no_track,
      )
]

AreTracks-pushed : (tracks : List CueTrack) (track : CueTrack) → AreTracks tracks → IsTrack track
    → (0 < length tracks → track.number ≡ (get_or tracks 0 no_track).number + length tracks)
    → ((k i : ℕ) → k < length tracks → i < length (get_or tracks k no_track).indices
    → time_at (get_or tracks k no_track).indices i ≤ time_at track.indices 0)
    → AreTracks (tracks ++ track ∷ [])
AreTracks-pushed tracks track good fine follows late =
    let size = length-pushed tracks track in
    let number : CueTrack → ℕ = λ t. t.number in
    let zero_at = pushed_track tracks track 0 (omega arith) in
    record {
      each =
          λ k lt. elim (pushed_track tracks track k (omega (arith, size)))
          [ inl p ↦ subst IsTrack (sym p.1) (good.each k p.0) | inr p ↦ subst IsTrack (sym p.1) fine ];
      next = λ k lt. elim (pushed_track tracks track k (omega (arith, size))) [
        | inl p ↦ elim zero_at [
          | inl z ↦ omega (arith, ap number p.1, ap number z.1, good.next k p.0)
          | inr z ↦ omega (arith, z.0, p.0)
        ]
        | inr p ↦ elim zero_at [
          | inl z ↦ omega (arith, p.0, ap number p.1, ap number z.1, follows z.0)
          | inr z ↦ omega (arith, z.0, p.0, ap number p.1, ap number z.1)
        ]
      ];
      order = λ j k i lt within inner. elim (pushed_track tracks track j (omega (arith, size))) [
        | inr q ↦ absurd (omega (arith, q.0, size))
        | inl q ↦
            let here : i < length (get_or tracks j no_track).indices =
            subst (λ (t : CueTrack). i < length t.indices) q.1 inner in
            let left : time_at (get_or (tracks ++ track ∷ []) j no_track).indices i
            ≡ time_at (get_or tracks j no_track).indices i =
            ap (λ (t : CueTrack). time_at t.indices i) q.1 in
            elim (pushed_track tracks track k (omega (arith, size))) [
              | inl p ↦ let right : time_at (get_or (tracks ++ track ∷ []) k no_track).indices 0
                  ≡ time_at (get_or tracks k no_track).indices 0 =
                  ap (λ (t : CueTrack). time_at t.indices 0) p.1 in
                  omega (arith, left, right, good.order j k i lt p.0 here)
              | inr p ↦ let right : time_at (get_or (tracks ++ track ∷ []) k no_track).indices 0
                  ≡ time_at track.indices 0 =
                  ap (λ (t : CueTrack). time_at t.indices 0) p.1 in
                  omega (arith, left, right, late j i q.0 here)
            ]
      ];
    }

pub record AreInOrder (latest : ℕ) (album : CueSection) (tracks : List CueTrack) (number : Option ℕ)
    (lines : List (ℕ × ℕ)) : Type 0 where
  pub latest_time : latest < 450000
  pub album_texts : InRange album
  pub lines_so_far : AreSoFar lines latest
  pub number_range : IfSome number (λ n. (1 ≤ n) × (n ≤ 99))
  pub earlier : AreTracks tracks
  pub follows : IfSome number (λ n. 0 < length tracks → n ≡ (get_or tracks 0 no_track).number + length tracks)
  pub alone : IfNone number (tracks ≡ [])
  pub past : (k i : ℕ) → k < length tracks → i < length (get_or tracks k no_track).indices
      → time_at (get_or tracks k no_track).indices i ≤ latest
  pub before : (k i : ℕ) → k < length tracks → i < length (get_or tracks k no_track).indices
      → 0 < length lines
      → time_at (get_or tracks k no_track).indices i ≤ time_at lines 0

abbrev pub IsGood : CueState → Type 0
IsGood s = InRange s.section × AreInOrder s.latest s.album s.tracks s.number s.section.indices

no_lines : (latest : ℕ) → AreSoFar [] latest
no_lines latest = record {
  first = omega arith;
  next = λ j lt. absurd (omega arith);
  numbers = λ j lt. absurd (omega arith);
  times = λ j lt. absurd (omega arith);
  order = λ i j le lt. absurd (omega arith);
  past = λ j lt. absurd (omega arith);
}

no_tracks : AreTracks []
no_tracks = record {
  each = λ k lt. absurd (omega arith);
  next = λ k lt. absurd (omega arith);
  order = λ j k i le lt inner. absurd (omega arith);
}

pub good_start : IsGood nothing_said
good_start = (
  (tt, tt, tt, tt, tt, tt, tt, tt),
  record {
    latest_time = omega arith;
    album_texts = (tt, tt, tt, tt, tt, tt, tt, tt);
    lines_so_far = no_lines 0;
    number_range = tt;
    earlier = no_tracks;
    follows = tt;
    alone = refl;
    past = λ k i lt inner. absurd (omega arith);
    before = λ k i lt inner some. absurd (omega arith);
  },
)

index_free : (follows early : Bool)
    → (if follows then (if early then Some TimeOrder else None) else Some IndexOrder) ≡ None
    → (follows ≡ true) × (early ≡ false)
index_free true false h = (refl, refl)
index_free true true h = let no : ⊥ = cc in absurd no
index_free false early h = let no : ⊥ = cc in absurd no

track_free : (lacks audio follows : Bool) → (if lacks
    then Some NoIndex
    else (if not audio then Some NotAudio else (if follows then None else Some NumberOrder)))
    ≡ None
    → (lacks ≡ false) × (follows ≡ true)
track_free false true true h = (refl, refl)
track_free false true false h = let no : ⊥ = cc in absurd no
track_free false false follows h = let no : ⊥ = cc in absurd no
track_free true audio follows h = let no : ⊥ = cc in absurd no

with_index : (latest : ℕ) (album : CueSection) (tracks : List CueTrack) (n : Option ℕ) (lines : List (ℕ × ℕ))
    (number time : ℕ) → AreInOrder latest album tracks n lines
    → follows_index lines number ≡ true → nat_lt time latest ≡ false → number ≤ 99 → time < 450000
    → AreInOrder (max time latest) album tracks n (lines ++ (number, time) ∷ [])
with_index latest album tracks n lines number time good follows free small short =
    let late : latest ≤ time = grind (arith, free) in
    let zero_at = pushed_line lines number time 0 (omega arith) in
    record {
      latest_time = omega (arith, good.latest_time);
      album_texts = good.album_texts;
      lines_so_far = AreSoFar-pushed lines latest number time good.lines_so_far follows late small short;
      number_range = good.number_range;
      earlier = good.earlier;
      follows = good.follows;
      alone = good.alone;
      past = λ k i lt inner. omega (arith, good.past k i lt inner);
      before =
          λ k i lt inner some. elim zero_at [
            | inl z ↦ omega (arith, z.2, good.before k i lt inner z.0)
            | inr z ↦ omega (arith, z.2, good.past k i lt inner)
          ];
    }

or_below : (o : Option ℕ) (m : ℕ) → 0 < m → IfSome o (λ n. n < m) → unwrap_or o 0 < m
or_below None m some h = some
or_below (Some n) m some h = h

or_text : (o : Option (List ℕ)) → IfSome o IsText → IsText (unwrap_or o [])
or_text None h = record { short = omega arith; plain = λ k d lt. absurd (omega arith) }
or_text (Some t) h = h

for_some : {X : Type 0} (o : Option X) (P : X → Type 0) → IfSome o P → ForSome o P
for_some None P h = search rules
for_some (Some x) P h = search rules

some_one : (lines : List (ℕ × ℕ)) → list_any (λ (line : ℕ × ℕ). line.0 == 1) lines ≡ true
    → (k : ℕ) × (k < length lines) × (number_at lines k ≡ 1)
some_one [] h = absurd (false≢true h)
some_one (line ∷ lines) h = elim (cases_Bool (line.0 == 1)) [
  | inl here ↦ (0, omega arith, eqb-true line.0 1 here)
  | inr other ↦
      let more : list_any (λ (l : ℕ × ℕ). l.0 == 1) lines ≡ true =
      subst (λ b. (b || list_any (λ (l : ℕ × ℕ). l.0 == 1) lines) ≡ true) other h in
      let rest = some_one lines more in (suc rest.0, omega (arith, rest.1), rest.2)
]

-- a track that is complete
full_track : (s : CueState) (n : ℕ) → IsGood s → (1 ≤ n) × (n ≤ 99) → has_index_one s.section ≡ true
    → IsTrack (track_from n s.section)
full_track s n good range one =
    let lines = good.1.lines_so_far in
    let found = some_one s.section.indices one in
    record {
      number = range;
      control = or_below s.section.control 16 (omega arith) good.0.4;
      isrc = for_some s.section.isrc (λ code. IsTrue (is_capital_code code)) good.0.5;
      gaps = (
        or_below s.section.pregap 450000 (omega arith) good.0.6,
        or_below s.section.postgap 450000 (omega arith) good.0.7,
      );
      indices = record {
        first = lines.first;
        has_one = omega (arith, found.1, found.2, lines.next found.0 found.1);
        next = lines.next;
        numbers = lines.numbers;
        times = lines.times;
        order = lines.order;
      };
      title = or_text s.section.title good.0.1;
      performer = or_text s.section.performer good.0.2;
      songwriter = or_text s.section.songwriter good.0.3;
    }

-- and it follows the tracks before it
full_tracks : (s : CueState) (n : ℕ) → IsGood s → s.number ≡ Some n → has_index_one s.section ≡ true
    → AreTracks (s.tracks ++ track_from n s.section ∷ [])
full_tracks s n good is one =
    let order = good.1 in
    let found = some_one s.section.indices one in
    let range : (1 ≤ n) × (n ≤ 99) =
    subst (λ (o : Option ℕ). IfSome o (λ m. (1 ≤ m) × (m ≤ 99))) is order.number_range in
    let follows : 0 < length s.tracks → n ≡ (get_or s.tracks 0 no_track).number + length s.tracks =
    subst (λ (o : Option ℕ).
    IfSome o (λ m. 0 < length s.tracks → m ≡ (get_or s.tracks 0 no_track).number + length s.tracks)) is
    order.follows in
    AreTracks-pushed s.tracks (track_from n s.section) order.earlier (full_track s n good range one) follows
    (λ k i lt inner. order.before k i lt inner (omega (arith, found.1)))

-- the sheet of a state that may be the last one
pub good_sheet : (s : CueState) (n : ℕ) → IsGood s → s.number ≡ Some n → has_index_one s.section ≡ true
    → IsSheet (sheet_from s.album (s.tracks ++ track_from n s.section ∷ []))
good_sheet s n good is one =
    let album = good.1.album_texts in
    let all = full_tracks s n good is one in
    let size = length-pushed s.tracks (track_from n s.section) in
    let first = all.each 0 (omega (arith, size)) in
    let last = all.each (length s.tracks) (omega (arith, size)) in
    record {
      catalogue = for_some s.album.catalogue (λ number. IsTrue (is_catalogue_number number)) album.0;
      title = or_text s.album.title album.1;
      performer = or_text s.album.performer album.2;
      songwriter = or_text s.album.songwriter album.3;
      count = (
        omega (arith, size),
        omega (arith, size, first.number, last.number, all.next (length s.tracks) (omega (arith, size))),
      );
      tracks = all.each;
      next = all.next;
      order = all.order;
    }

number_free : (last number : ℕ) → follows_number (Some last) number ≡ true → number ≡ last + 1
number_free last number follows = eqb-true number (last + 1) follows

with_track_of : (s : CueState) (o : Option ℕ) (number : ℕ) → IsGood s → s.number ≡ o
    → (is_some o && not (has_index_one s.section)) ≡ false → follows_number o number ≡ true
    → (1 ≤ number) × (number ≤ 99)
    → AreInOrder s.latest (if is_some o then s.album else s.section) (s.tracks ++ track_with o s.section)
    (Some number) []
with_track_of s None number good is full follows range =
    let none : s.tracks ≡ [] = subst (λ (o : Option ℕ). IfNone o (s.tracks ≡ [])) is good.1.alone in
    subst (λ (ts : List CueTrack). AreInOrder s.latest s.section ts (Some number) [])
    (sym (ap (λ (ts : List CueTrack). ts ++ []) none)) (record {
      latest_time = good.1.latest_time;
      album_texts = good.0;
      lines_so_far = no_lines s.latest;
      number_range = range;
      earlier = no_tracks;
      follows = λ some. absurd (omega arith);
      alone = tt;
      past = λ k i lt inner. absurd (omega arith);
      before = λ k i lt inner some. absurd (omega arith);
    })
with_track_of s (Some n) number good is full follows range =
    let one = not-false (has_index_one s.section) full in
    let all = full_tracks s n good is one in
    let track : CueTrack = track_from n s.section in
    let size = length-pushed s.tracks track in
    let last : get_or (s.tracks ++ track ∷ []) (length s.tracks) no_track ≡ track =
    get_or-append_seam s.tracks track [] no_track in
    let last_number : (get_or (s.tracks ++ track ∷ []) (length s.tracks) no_track).number ≡ n =
    ap (λ (t : CueTrack). t.number) last in
    record {
      latest_time = good.1.latest_time;
      album_texts = good.1.album_texts;
      lines_so_far = no_lines s.latest;
      number_range = range;
      earlier = all;
      follows = λ some. omega (
        arith,
        size,
        number_free n number follows,
        last_number,
        all.next (length s.tracks) (omega (arith, size)),
      );
      alone = tt;
      past = λ k i lt inner. elim (pushed_track s.tracks track k (omega (arith, size))) [
        | inl p ↦ omega (
          arith,
          ap (λ (t : CueTrack). time_at t.indices i) p.1,
          good.1.past k i p.0 (subst (λ (t : CueTrack). i < length t.indices) p.1 inner),
        )
        | inr p ↦ omega (
          arith,
          ap (λ (t : CueTrack). time_at t.indices i) p.1,
          good.1.lines_so_far.past i (subst (λ (t : CueTrack). i < length t.indices) p.1 inner),
        )
      ];
      before = λ k i lt inner some. absurd (omega arith);
    }

with_track : (s : CueState) (number : ℕ) → IsGood s → lacks_index s ≡ false
    → follows_number s.number number ≡ true → (1 ≤ number) × (number ≤ 99)
    → AreInOrder s.latest (if is_some s.number then s.album else s.section)
    (s.tracks ++ track_with s.number s.section) (Some number) []
with_track s number good full follows range = with_track_of s s.number number good refl full follows range

pub good_more : (s : CueState) (line : CueLine) → IsGood s → IsLineInRange line
    → later_sheet_reason s line ≡ None
    → IsGood (after s line)
unfolding later_sheet_reason
good_more s SaysNothing g range free = g
good_more s SaysFile g range free = g
good_more s (SaysCatalogue t) g range free = ((range, g.0.1, g.0.2, g.0.3, g.0.4, g.0.5, g.0.6, g.0.7), g.1)
good_more s (SaysTitle t) g range free = ((g.0.0, range, g.0.2, g.0.3, g.0.4, g.0.5, g.0.6, g.0.7), g.1)
good_more s (SaysPerformer t) g range free = ((g.0.0, g.0.1, range, g.0.3, g.0.4, g.0.5, g.0.6, g.0.7), g.1)
good_more s (SaysSongwriter t) g range free = ((g.0.0, g.0.1, g.0.2, range, g.0.4, g.0.5, g.0.6, g.0.7), g.1)
good_more s (SaysFlags n) g range free = ((g.0.0, g.0.1, g.0.2, g.0.3, range, g.0.5, g.0.6, g.0.7), g.1)
good_more s (SaysIsrc t) g range free = ((g.0.0, g.0.1, g.0.2, g.0.3, g.0.4, range, g.0.6, g.0.7), g.1)
good_more s (SaysPregap n) g range free = ((g.0.0, g.0.1, g.0.2, g.0.3, g.0.4, g.0.5, range, g.0.7), g.1)
good_more s (SaysPostgap n) g range free = ((g.0.0, g.0.1, g.0.2, g.0.3, g.0.4, g.0.5, g.0.6, range), g.1)
good_more s (SaysIndex number time) g range free =
    let parts = index_free (follows_index s.section.indices number) (nat_lt time s.latest) free in (
      g.0,
      with_index s.latest s.album s.tracks s.number s.section.indices number time g.1 parts.0 parts.1 range.0
          range.1,
    )
good_more s (SaysTrack number audio) g range free =
    let parts = track_free (lacks_index s) audio (follows_number s.number number) free in
    ((tt, tt, tt, tt, tt, tt, tt, tt), with_track s number g parts.0 parts.1 range)
