-- Channels P and Q, and symbols, of a block of a mended stream.
use Rattle.std.proofs.Common.{◌≡◌, ℕ, ◌/◌, ◌<◌, ◌≤◌, true, false, List, [], ◌∷◌, length, get_or, map, refl, sym, ap, ap₂, ◌∙◌, subst, arith}
use Rattle.std.specs.Prelude.{is_ok}
use Rattle.std.specs.Cmp.Lexicographic.{slice_cmp}
use Rattle.std.specs.List.{list_any}
use Rattle.std.specs.Ordering.{is_gt, nat_cmp, ordering_then}
use Rattle.std.specs.declared.cmp.Ordering.{Ordering}
use Rattle.std.specs.declared.cmp.Ordering.TheVariants.{Less, Equal, Greater}
use Rattle.std.proofs.lemmas.Cmp.{ranked}
use Rattle.std.proofs.lemmas.List.Folds.{list_any_at}
use Rattle.bit_lists.specs.Bits.{has_bit}
use Rattle.bit_lists.proofs.BitsLemmas.{has_bit-shr}
use Rattle.raw_subcode.specs.Channels.{channel_bit, p_bits, q_bits}
use Rattle.q_channel.specs.ReadingOf.{reading_of}
use Rattle.rw_mend.specs.Chosen.{IsAtMost, IsChosen, Rule, channel_rule, channels_of, is_framed_block, votes_for}
use Rattle.rw_mend.specs.StreamLaws.{HasChosenChannels}
use Rattle.rw_mend.proofs.Marks.{framed_eligible}

q_of_high : (byte : ℕ) → channel_bit 1 byte ≡ has_bit 0 (byte / 64)
q_of_high byte = has_bit-shr 0 6 byte

p_of_high : (byte : ℕ) → channel_bit 0 byte ≡ has_bit 1 (byte / 64)
p_of_high byte = has_bit-shr 1 6 byte

q_of : (block : List ℕ) → q_bits block ≡ map (has_bit 0) (channels_of block)
q_of [] = refl
q_of (x ∷ xs) = ap₂ (λ b bs. b ∷ bs) (q_of_high x) (q_of xs)

p_of : (block : List ℕ) → p_bits block ≡ map (has_bit 1) (channels_of block)
p_of [] = refl
p_of (x ∷ xs) = ap₂ (λ b bs. b ∷ bs) (p_of_high x) (p_of xs)

same_q : (one other : List ℕ) → channels_of one ≡ channels_of other → q_bits one ≡ q_bits other
same_q one other same = q_of one ∙ ap (map (has_bit 0)) same ∙ sym (q_of other)

same_p : (one other : List ℕ) → channels_of one ≡ channels_of other → p_bits one ≡ p_bits other
same_p one other same = p_of one ∙ ap (map (has_bit 1)) same ∙ sym (p_of other)

same_frame : (one other : List ℕ) → q_bits one ≡ q_bits other → is_framed_block one ≡ is_framed_block other
unfolding is_framed_block
same_frame one other same = ap (λ bits. is_ok (reading_of bits)) same

-- ---- A lower or equal rank has no more votes, if the matches are equal.

votes_by : (o : Ordering) (n m : ℕ) (rest : Ordering) → o ≡ nat_cmp n m → is_gt (ordering_then o rest) ≡ false
    → n ≤ m
votes_by Less n m rest is most = let below = ranked n m Less is in omega (arith, below)
votes_by Equal n m rest is most = let same = ranked n m Equal is in omega (arith, same)
votes_by Greater n m rest is most = cc

pub fewer_votes : (n m : ℕ) (xs ys : List ℕ) → IsAtMost (0 ∷ n ∷ xs) (0 ∷ m ∷ ys) → n ≤ m
fewer_votes n m xs ys most = votes_by (nat_cmp n m) n m (slice_cmp nat_cmp xs ys) refl most

pub channels_chosen : (blocks : List (List ℕ)) (block : List ℕ)
    → IsChosen (channel_rule blocks) blocks (channels_of block) → HasChosenChannels blocks block
channels_chosen blocks block chosen =
    let rule : Rule = channel_rule blocks in
    let own : List ℕ = get_or blocks chosen.reading [] in
    let q : q_bits block ≡ q_bits own = same_q block own chosen.is in
    record {
      reading = chosen.reading;
      within = chosen.within;
      eligible = chosen.eligible;
      q = q;
      p = same_p block own chosen.is;
      most =
          λ r lt eligible.
          subst
          (λ part. votes_for rule blocks (channels_of (get_or blocks r [])) ≤ votes_for rule blocks part)
          (sym chosen.is)
          (fewer_votes (votes_for rule blocks (channels_of (get_or blocks r [])))
          (votes_for rule blocks (channels_of own)) (channels_of (get_or blocks r [])) (channels_of own)
          (chosen.highest r lt eligible));
      framed =
          λ r lt framed.
          let any : list_any is_framed_block blocks ≡ true =
          list_any_at is_framed_block blocks r [] lt framed in
          same_frame block own q ∙ sym (framed_eligible blocks own any) ∙ chosen.eligible;
    }

-- if all eligible blocks have the same part, it is chosen
pub all_agree : (rule : Rule) (blocks : List (List ℕ)) (n : ℕ) (part other : List ℕ) → length blocks ≡ n
    → IsChosen rule blocks part
    → ((r : ℕ) → r < n → rule.is_eligible (get_or blocks r []) ≡ true
    → rule.part (get_or blocks r []) ≡ other)
    → part ≡ other
all_agree rule blocks n part other size chosen same =
    chosen.is ∙ same chosen.reading (omega (arith, chosen.within, size)) chosen.eligible
