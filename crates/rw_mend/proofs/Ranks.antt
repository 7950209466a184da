-- Ranks of blocks: a highest rank exists, and only its part is chosen.
use Rattle.std.proofs.Common.{◌≡◌, ℕ, zero, suc, ◌+◌, ◌<◌, ◌≤◌, Bool, true, false, ◌&&◌, ◌||◌, List, [], ◌∷◌, length, get_or, refl, sym, ap, ap₂, ◌∙◌, subst, inl, inr, arith, below_more}
use Rattle.std.specs.Prelude.{◌⊎◌, Some, if◌then◌else◌, not}
use Rattle.std.specs.Cmp.Lexicographic.{slice_cmp, slice_partial_cmp, texts_ties}
use Rattle.std.specs.List.{list_any}
use Rattle.std.specs.Str.{bytes_eq}
use Rattle.std.specs.Ordering.{MatchOrdering, is_eq, is_gt, is_some_and, nat_cmp, ordering_reverse, ordering_then}
use Rattle.std.specs.declared.cmp.Ordering.{Ordering}
use Rattle.std.specs.declared.cmp.Ordering.TheVariants.{Less, Equal, Greater}
use Rattle.std.proofs.lemmas.Cmp.{nat_cmp_total, nat_list_cmp_total, same_from_slice_cmp_tested, tied_itself, upto}
use Rattle.std.proofs.lemmas.Bool.{and_parts}
use Rattle.std.proofs.lemmas.Slice.Eq.{bytes_eq-Decides}
use Rattle.rw_mend.specs.Chosen.{IsAtMost, IsChosen, Rule, has_eligible_channels, has_eligible_symbols, is_framed_block, is_read_block, rank_of, votes_for}
use Rattle.rw_mend.specs.HeldReadings.{IsAny}

-- ---- The order of lists.

turned : (o other : Ordering) → other ≡ ordering_reverse o → is_gt o ≡ true → is_gt other ≡ false
turned Greater other is above = ap is_gt is
turned Less other is above = cc
turned Equal other is above = cc

neither : (o other : Ordering) → other ≡ ordering_reverse o → is_gt o ≡ false → is_gt other ≡ false
    → o ≡ Equal
neither Equal other is one two = refl
neither Greater other is one two = cc
neither Less other is one two = cc (ap is_gt is)

pub itself : (xs : List ℕ) → IsAtMost xs xs
itself xs = ap is_gt (tied_itself nat_list_cmp_total xs)

pub at_most_through : (xs ys zs : List ℕ) → IsAtMost xs ys → IsAtMost ys zs → IsAtMost xs zs
at_most_through xs ys zs = upto nat_list_cmp_total xs ys zs

pub at_most_or_above : (xs ys : List ℕ) → is_gt (slice_cmp nat_cmp xs ys) ≡ true → IsAtMost ys xs
at_most_or_above xs ys =
    turned (slice_cmp nat_cmp xs ys) (slice_cmp nat_cmp ys xs) (nat_list_cmp_total.antisymm ys xs)

pub both_at_most : (xs ys : List ℕ) → IsAtMost xs ys → IsAtMost ys xs → xs ≡ ys
both_at_most xs ys one other =
    (bytes_eq-Decides xs ys).0
    (texts_ties xs ys
    ∙ ap is_eq
    (neither (slice_cmp nat_cmp xs ys) (slice_cmp nat_cmp ys xs) (nat_list_cmp_total.antisymm ys xs) one
    other))

-- ---- A block that passes a test.

any_cons : (b : Bool) (p : List ℕ → Bool) (x : List ℕ) (xs : List (List ℕ)) → p x ≡ b
    → (b || list_any p xs) ≡ true → (list_any p xs ≡ true → IsAny p xs) → IsAny p (x ∷ xs)
any_cons true p x xs is any rest = record { reading = 0; within = omega arith; passes = is }
any_cons false p x xs is any rest =
    let later : IsAny p xs = rest any in
    record { reading = suc later.reading; within = omega (arith, later.within); passes = later.passes }

pub any_at : (p : List ℕ → Bool) (xs : List (List ℕ)) → list_any p xs ≡ true → IsAny p xs
any_at p [] any = cc
any_at p (x ∷ xs) any = any_cons (p x) p x xs refl any (any_at p xs)

or_true : (b : Bool) → (b || true) ≡ true
or_true true = refl
or_true false = refl

symbols_by : (b : Bool) (blocks : List (List ℕ)) → list_any is_read_block blocks ≡ b → 0 < length blocks
    → IsAny (has_eligible_symbols blocks) blocks
unfolding has_eligible_symbols
symbols_by true blocks is some =
    let read : IsAny is_read_block blocks = any_at is_read_block blocks is in
    record {
      reading = read.reading;
      within = read.within;
      passes = ap (λ t. t || not (list_any is_read_block blocks)) read.passes;
    }
symbols_by false blocks is some = record {
  reading = 0;
  within = some;
  passes =
      ap (λ t. is_read_block (get_or blocks 0 []) || not t) is ∙ or_true (is_read_block (get_or blocks 0 []));
}

pub any_symbols : (blocks : List (List ℕ)) → 0 < length blocks → IsAny (has_eligible_symbols blocks) blocks
any_symbols blocks = symbols_by (list_any is_read_block blocks) blocks refl

channels_by : (b : Bool) (blocks : List (List ℕ)) → list_any is_framed_block blocks ≡ b → 0 < length blocks
    → IsAny (has_eligible_channels blocks) blocks
unfolding has_eligible_channels
channels_by true blocks is some =
    let framed : IsAny is_framed_block blocks = any_at is_framed_block blocks is in
    let block : List ℕ = get_or blocks framed.reading [] in
    record {
      reading = framed.reading;
      within = framed.within;
      passes =
          ap (λ t. if t then is_framed_block block else has_eligible_symbols blocks block) is ∙ framed.passes;
    }
channels_by false blocks is some =
    let read : IsAny (has_eligible_symbols blocks) blocks = any_symbols blocks some in
    let block : List ℕ = get_or blocks read.reading [] in
    record {
      reading = read.reading;
      within = read.within;
      passes =
          ap (λ t. if t then is_framed_block block else has_eligible_symbols blocks block) is ∙ read.passes;
    }

pub any_channels : (blocks : List (List ℕ)) → 0 < length blocks → IsAny (has_eligible_channels blocks) blocks
any_channels blocks = channels_by (list_any is_framed_block blocks) blocks refl

-- ---- The highest rank.

-- reading r has the highest rank of the first n readings
pub record IsHighest (rule : Rule) (blocks : List (List ℕ)) (n r : ℕ) : Type 0 where
  pub within : r < n
  pub eligible : rule.is_eligible (get_or blocks r []) ≡ true
  pub highest : (k : ℕ) → k < n → rule.is_eligible (get_or blocks k []) ≡ true
      → IsAtMost (rank_of rule blocks (get_or blocks k [])) (rank_of rule blocks (get_or blocks r []))

abbrev pub IsSettled : Rule → List (List ℕ) → ℕ → Type 0
IsSettled rule blocks n = ((k : ℕ) → k < n → rule.is_eligible (get_or blocks k []) ≡ false)
    ⊎ ((r : ℕ) × IsHighest rule blocks n r)

higher : (b : Bool) (rule : Rule) (blocks : List (List ℕ)) (n r : ℕ) → IsHighest rule blocks n r
    → rule.is_eligible (get_or blocks n []) ≡ true
    → is_gt (slice_cmp nat_cmp (rank_of rule blocks (get_or blocks n []))
    (rank_of rule blocks (get_or blocks r []))) ≡ b
    → IsSettled rule blocks (n + 1)
higher false rule blocks n r have is above = inr (
  r,
  record {
    within = omega (arith, have.within);
    eligible = have.eligible;
    highest = below_more (λ k. rule.is_eligible (get_or blocks k []) ≡ true
        → IsAtMost (rank_of rule blocks (get_or blocks k [])) (rank_of rule blocks (get_or blocks r []))) n
        have.highest (λ own. above);
  },
)
higher true rule blocks n r have is above =
    let rank : ℕ → List ℕ = λ (k : ℕ). rank_of rule blocks (get_or blocks k []) in
    inr (
      n,
      record {
        within = omega arith;
        eligible = is;
        highest =
            below_more (λ k. rule.is_eligible (get_or blocks k []) ≡ true → IsAtMost (rank k) (rank n)) n
            (λ k lt own.
            at_most_through (rank k) (rank r) (rank n) (have.highest k lt own)
            (at_most_or_above (rank n) (rank r) above))
            (λ own. itself (rank n));
      },
    )

settled_more : (b : Bool) (rule : Rule) (blocks : List (List ℕ)) (n : ℕ) → IsSettled rule blocks n
    → rule.is_eligible (get_or blocks n []) ≡ b → IsSettled rule blocks (n + 1)
settled_more false rule blocks n (inl none) is =
    inl (below_more (λ k. rule.is_eligible (get_or blocks k []) ≡ false) n none is)
settled_more true rule blocks n (inl none) is = inr (
  n,
  record {
    within = omega arith;
    eligible = is;
    highest = below_more (λ k. rule.is_eligible (get_or blocks k []) ≡ true
        → IsAtMost (rank_of rule blocks (get_or blocks k [])) (rank_of rule blocks (get_or blocks n []))) n
        (λ k lt own. let other : rule.is_eligible (get_or blocks k []) ≡ false = none k lt in cc)
        (λ own. itself (rank_of rule blocks (get_or blocks n [])));
  },
)
settled_more false rule blocks n (inr have) is = inr (
  have.0,
  record {
    within = omega (arith, have.1.within);
    eligible = have.1.eligible;
    highest = below_more (λ k. rule.is_eligible (get_or blocks k []) ≡ true
        → IsAtMost (rank_of rule blocks (get_or blocks k [])) (rank_of rule blocks (get_or blocks have.0 [])))
        n
        have.1.highest (λ own. cc);
  },
)
settled_more true rule blocks n (inr have) is =
    higher (is_gt (slice_cmp nat_cmp (rank_of rule blocks (get_or blocks n []))
    (rank_of rule blocks (get_or blocks have.0 [])))) rule blocks n have.0 have.1 is refl

pub settled : (rule : Rule) (blocks : List (List ℕ)) (n : ℕ) → IsSettled rule blocks n
settled rule blocks zero = inl (λ k lt. absurd (omega (arith, lt)))
settled rule blocks (suc n) =
    let next : n + 1 ≡ suc n = omega arith in
    subst (IsSettled rule blocks) next
    (settled_more (rule.is_eligible (get_or blocks n [])) rule blocks n (settled rule blocks n) refl)

pub chosen_by : (rule : Rule) (blocks : List (List ℕ)) (n r : ℕ) (part : List ℕ) → n ≡ length blocks
    → IsHighest rule blocks n r → part ≡ rule.part (get_or blocks r []) → IsChosen rule blocks part
chosen_by rule blocks n r part all have is = record {
  reading = r;
  within = omega (arith, have.within, all);
  eligible = have.eligible;
  is = is;
  highest = λ k lt own. have.highest k (omega (arith, lt, all)) own;
}

chosen_same_by : (rule : Rule) (blocks : List (List ℕ)) (part : List ℕ)
    → IsSettled rule blocks (length blocks)
    → ((r : ℕ) → r < length blocks → rule.part (get_or blocks r []) ≡ part)
    → IsAny rule.is_eligible blocks → IsChosen rule blocks part
chosen_same_by rule blocks part (inl none) same any =
    let other : rule.is_eligible (get_or blocks any.reading []) ≡ false = none any.reading any.within in
    let own : rule.is_eligible (get_or blocks any.reading []) ≡ true = any.passes in
    cc
chosen_same_by rule blocks part (inr have) same any =
    chosen_by rule blocks (length blocks) have.0 part refl have.1 (sym (same have.0 have.1.within))

-- a part that all blocks have is chosen
pub chosen_same : (rule : Rule) (blocks : List (List ℕ)) (part : List ℕ)
    → ((r : ℕ) → r < length blocks → rule.part (get_or blocks r []) ≡ part)
    → IsAny rule.is_eligible blocks → IsChosen rule blocks part
chosen_same rule blocks part =
    chosen_same_by rule blocks part (settled rule blocks (length blocks))

-- ---- Two ranks compared number by number.

gt_more : (x y : ℕ) (xs ys : List ℕ) (o : Ordering) → o ≡ nat_cmp x y
    → MatchOrdering o (is_gt (slice_cmp nat_cmp (x ∷ xs) (y ∷ ys)) ≡ is_gt Less)
    (is_gt (slice_cmp nat_cmp (x ∷ xs) (y ∷ ys)) ≡ is_gt (slice_cmp nat_cmp xs ys))
    (is_gt (slice_cmp nat_cmp (x ∷ xs) (y ∷ ys)) ≡ is_gt Greater)
gt_more x y xs ys Less is = ap (λ q. is_gt (ordering_then q (slice_cmp nat_cmp xs ys))) (sym is)
gt_more x y xs ys Equal is = ap (λ q. is_gt (ordering_then q (slice_cmp nat_cmp xs ys))) (sym is)
gt_more x y xs ys Greater is = ap (λ q. is_gt (ordering_then q (slice_cmp nat_cmp xs ys))) (sym is)

pub gt_is : (xs ys : List ℕ) (r : Bool)
    → r ≡ is_some_and is_gt (slice_partial_cmp (λ x y. Some (nat_cmp x y)) xs ys)
    → r ≡ is_gt (slice_cmp nat_cmp xs ys)
gt_is =
    same_from_slice_cmp_tested nat_cmp is_gt (λ xs ys. is_gt (slice_cmp nat_cmp xs ys)) refl (λ _ _. refl)
    (λ _ _. refl) gt_more

level : (n m : ℕ) → n ≡ m → nat_cmp n m ≡ Equal
level n m same = ap (nat_cmp n) (sym same) ∙ tied_itself nat_cmp_total n

-- ranks with equal matches and votes
pub higher_part : (rule : Rule) (blocks : List (List ℕ)) (one other : List ℕ) (m m' v v' : ℕ)
    (own its : List ℕ) (r : Bool) → r ≡ is_gt (slice_cmp nat_cmp own its) → m ≡ rule.matches one
    → m' ≡ rule.matches other → own ≡ rule.part one → its ≡ rule.part other → v ≡ votes_for rule blocks own
    → v' ≡ votes_for rule blocks its → m ≡ m' → v ≡ v'
    → r ≡ is_gt (slice_cmp nat_cmp (rank_of rule blocks one) (rank_of rule blocks other))
higher_part rule blocks one other m m' v v' own its r is matches matches' own_is its_is votes_are votes'_are
    same
    level_votes =
    let parts : slice_cmp nat_cmp own its ≡ slice_cmp nat_cmp (rule.part one) (rule.part other) =
    ap₂ (slice_cmp nat_cmp) own_is its_is in
    let first : nat_cmp (rule.matches one) (rule.matches other) ≡ Equal =
    level (rule.matches one) (rule.matches other) (sym matches ∙ same ∙ matches') in
    let second : nat_cmp (votes_for rule blocks (rule.part one)) (votes_for rule blocks (rule.part other))
    ≡ Equal =
    level (votes_for rule blocks (rule.part one)) (votes_for rule blocks (rule.part other))
    (sym (votes_are ∙ ap (votes_for rule blocks) own_is) ∙ level_votes
    ∙ (votes'_are ∙ ap (votes_for rule blocks) its_is)) in
    is ∙ ap is_gt parts
    ∙ sym
    (ap (λ o. is_gt (ordering_then o
    (ordering_then (nat_cmp (votes_for rule blocks (rule.part one)) (votes_for rule blocks (rule.part other)))
    (slice_cmp nat_cmp (rule.part one) (rule.part other))))) first
    ∙ ap (λ o. is_gt (ordering_then o (slice_cmp nat_cmp (rule.part one) (rule.part other)))) second)

-- ---- The leading reading of the first n.

-- reading h is eligible if any is, and none has a higher rank
pub record IsLeading (rule : Rule) (blocks : List (List ℕ)) (n h : ℕ) : Type 0 where
  pub eligible : (k : ℕ) → k < n → rule.is_eligible (get_or blocks k []) ≡ true
      → rule.is_eligible (get_or blocks h []) ≡ true
  pub highest : (k : ℕ) → k < n → rule.is_eligible (get_or blocks k []) ≡ true
      → IsAtMost (rank_of rule blocks (get_or blocks k [])) (rank_of rule blocks (get_or blocks h []))

-- whether reading n takes the lead from reading h
abbrev pub leads : Rule → List (List ℕ) → ℕ → ℕ → Bool
leads rule blocks n h = rule.is_eligible (get_or blocks n [])
    && (not (rule.is_eligible (get_or blocks h []))
    || is_gt (slice_cmp nat_cmp (rank_of rule blocks (get_or blocks n []))
    (rank_of rule blocks (get_or blocks h []))))

pub leading_one : (rule : Rule) (blocks : List (List ℕ)) → IsLeading rule blocks 1 0
leading_one rule blocks = record {
  eligible =
      λ k lt own. let first : k ≡ 0 = omega (arith, lt) in
      ap (λ j. rule.is_eligible (get_or blocks j [])) (sym first) ∙ own;
  highest =
      λ k lt own. let first : 0 ≡ k = omega (arith, lt) in
      subst
      (λ j. IsAtMost (rank_of rule blocks (get_or blocks j [])) (rank_of rule blocks (get_or blocks 0 [])))
      first (itself (rank_of rule blocks (get_or blocks 0 [])));
}

pub leading_new : (rule : Rule) (blocks : List (List ℕ)) (n h : ℕ) → leads rule blocks n h ≡ true
    → IsLeading rule blocks n h → IsLeading rule blocks (n + 1) n
leading_new rule blocks n h new have =
    let rank : ℕ → List ℕ = λ (k : ℕ). rank_of rule blocks (get_or blocks k []) in
    let above : Bool = is_gt (slice_cmp nat_cmp (rank n) (rank h)) in
    let both = and_parts (rule.is_eligible (get_or blocks n []))
    (not (rule.is_eligible (get_or blocks h [])) || above) new in
    record {
      eligible = λ k lt own. both.0;
      highest = below_more (λ k. rule.is_eligible (get_or blocks k []) ≡ true → IsAtMost (rank k) (rank n)) n
          (λ k lt own.
          at_most_through (rank k) (rank h) (rank n) (have.highest k lt own)
          (at_most_or_above (rank n) (rank h)
          (sym (ap (λ t. not t || above) (have.eligible k lt own)) ∙ both.1)))
          (λ own. itself (rank n));
    }

nor_parts : (e above : Bool) → (not e || above) ≡ false → (e ≡ true) × (above ≡ false)
nor_parts true above is = (refl, is)
nor_parts false above is = cc

pub leading_kept : (rule : Rule) (blocks : List (List ℕ)) (n h : ℕ) → leads rule blocks n h ≡ false
    → IsLeading rule blocks n h → IsLeading rule blocks (n + 1) h
leading_kept rule blocks n h kept have =
    let rank : ℕ → List ℕ = λ (k : ℕ). rank_of rule blocks (get_or blocks k []) in
    let above : Bool = is_gt (slice_cmp nat_cmp (rank n) (rank h)) in
    let other : Bool = not (rule.is_eligible (get_or blocks h [])) || above in
    record {
      eligible = below_more (λ k. rule.is_eligible (get_or blocks k []) ≡ true
          → rule.is_eligible (get_or blocks h []) ≡ true) n have.eligible
          (λ own. (nor_parts (rule.is_eligible (get_or blocks h [])) above
          (sym (ap (λ t. t && other) own) ∙ kept)).0);
      highest = below_more (λ k. rule.is_eligible (get_or blocks k []) ≡ true → IsAtMost (rank k) (rank h)) n
          have.highest
          (λ own. (nor_parts (rule.is_eligible (get_or blocks h [])) above
          (sym (ap (λ t. t && other) own) ∙ kept)).1);
    }

-- the reading that leads at the end is chosen
pub leading_chosen : (rule : Rule) (blocks : List (List ℕ)) (n h : ℕ) → length blocks ≤ n
    → h < length blocks → IsAny rule.is_eligible blocks → IsLeading rule blocks n h
    → IsChosen rule blocks (rule.part (get_or blocks h []))
leading_chosen rule blocks n h all within any have = record {
  reading = h;
  within = within;
  eligible = have.eligible any.reading (omega (arith, any.within, all)) any.passes;
  is = refl;
  highest = λ k lt own. have.highest k (omega (arith, lt, all)) own;
}

-- ---- The result of comparing two readings.

pub leads_not : (a rest : Bool) → a ≡ false → false ≡ (a && rest)
leads_not a rest is = sym (ap (λ t. t && rest) is)

pub leads_surely : (a b above : Bool) → a ≡ true → b ≡ false → true ≡ (a && (not b || above))
leads_surely a b above is other =
    sym (ap (λ t. t && (not b || above)) is ∙ ap (λ t. not t || above) other)

pub leads_if : (a b above r : Bool) → a ≡ true → b ≡ true → r ≡ above → r ≡ (a && (not b || above))
leads_if a b above r is other same =
    same ∙ sym (ap (λ t. t && (not b || above)) is ∙ ap (λ t. not t || above) other)

-- ranks with equal matches and the same part
pub same_ranks : (rule : Rule) (blocks : List (List ℕ)) (one other : List ℕ) (m m' : ℕ) (own its : List ℕ)
    (same : Bool) → same ≡ bytes_eq own its → same ≡ true → m ≡ rule.matches one → m' ≡ rule.matches other
    → own ≡ rule.part one → its ≡ rule.part other → m ≡ m'
    → false ≡ is_gt (slice_cmp nat_cmp (rank_of rule blocks one) (rank_of rule blocks other))
same_ranks rule blocks one other m m' own its same is holds matches matches' own_is its_is level_matches =
    let parts : rule.part one ≡ rule.part other =
    sym own_is ∙ (bytes_eq-Decides own its).0 (sym is ∙ holds) ∙ its_is in
    let ranks : rank_of rule blocks one ≡ rank_of rule blocks other =
    ap₂ (λ n part. n ∷ votes_for rule blocks part ∷ part) (sym matches ∙ level_matches ∙ matches') parts in
    sym
    (ap (λ rank. is_gt (slice_cmp nat_cmp rank (rank_of rule blocks other))) ranks
    ∙ itself (rank_of rule blocks other))
