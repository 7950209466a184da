-- Which blocks are eligible.
use Rattle.std.proofs.Common.{◌≡◌, ℕ, ◌≤◌, Bool, true, false, ◌||◌, List, length, take, refl, sym, ap, ◌∙◌}
use Rattle.std.specs.Prelude.{if◌then◌else◌, not}
use Rattle.std.specs.List.{list_any}
use Rattle.std.proofs.Math.Bool.{or-false}
use Rattle.std.proofs.lemmas.List.{take_all}
use Rattle.rw_mend.specs.Chosen.{has_eligible_channels, has_eligible_symbols, is_framed_block, is_read_block}

pub whole_any : (p : List ℕ → Bool) (blocks : List (List ℕ)) (n : ℕ) (b any : Bool) → length blocks ≤ n
    → any ≡ list_any p (take n blocks) → any ≡ b → list_any p blocks ≡ b
whole_any p blocks n b any all is same =
    sym (ap (list_any p) (take_all n blocks all)) ∙ sym is ∙ same

pub read_eligible : (blocks : List (List ℕ)) (block : List ℕ) → list_any is_read_block blocks ≡ true
    → has_eligible_symbols blocks block ≡ is_read_block block
unfolding has_eligible_symbols
read_eligible blocks block any =
    ap (λ t. is_read_block block || not t) any ∙ or-false (is_read_block block)

or_true : (b : Bool) → (b || true) ≡ true
or_true true = refl
or_true false = refl

pub all_eligible : (blocks : List (List ℕ)) (block : List ℕ) → list_any is_read_block blocks ≡ false
    → has_eligible_symbols blocks block ≡ true
unfolding has_eligible_symbols
all_eligible blocks block any =
    ap (λ t. is_read_block block || not t) any ∙ or_true (is_read_block block)

pub framed_eligible : (blocks : List (List ℕ)) (block : List ℕ) → list_any is_framed_block blocks ≡ true
    → has_eligible_channels blocks block ≡ is_framed_block block
unfolding has_eligible_channels
framed_eligible blocks block any =
    ap (λ t. if t then is_framed_block block else has_eligible_symbols blocks block) any

pub read_framed : (blocks : List (List ℕ)) (block : List ℕ) → list_any is_framed_block blocks ≡ false
    → has_eligible_channels blocks block ≡ has_eligible_symbols blocks block
unfolding has_eligible_channels
read_framed blocks block any =
    ap (λ t. if t then is_framed_block block else has_eligible_symbols blocks block) any
