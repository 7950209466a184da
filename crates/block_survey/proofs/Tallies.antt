-- Counts with one more block.
use Rattle.std.proofs.Common.{◌≡◌, ◌+◌, ◌-◌, ◌^◌, ℕ, Bool, List, [], ◌∷◌, ◌++◌, length, refl, ap, ap₂, sym, ◌∙◌, arith}
use Rattle.std.specs.Prelude.{count_by, min, sum_by, Option, Some, None, Result, Ok, Err, if◌then◌else◌, is_none}
use Rattle.std.proofs.lemmas.List.{length-append}
use Rattle.std.proofs.lemmas.List.Sums.{sum_by-append}
use Rattle.raw_subcode.specs.declared.form.Form.{Form}
use Rattle.rw_code.specs.Finding.{finding}
use Rattle.stream_stages.specs.Check.{has_wrong}
use Rattle.q_channel.specs.declared.frame.QFault.{QFault}
use Rattle.q_channel.specs.declared.frame.QFrame.{QFrame}
use Rattle.block_survey.specs.Rows.{reading_in}
use Rattle.live_player.specs.Lives.{Given, blocks_in, stream_words}
use Rattle.live_player.specs.Lives.Given.{Fed}
use Rattle.block_survey.specs.Tallies.{tallied_count, frame_after, more_read, more_refused, place_after, read_count, refused_count, tallied, IsTallyOf}
use Rattle.block_survey.specs.declared.tally.PlayerTally.{PlayerTally}

-- a saturating count, increased
stays : (count a k most : ℕ) → count ≡ min a most → min (count + k) most ≡ min (a + k) most
stays count a k most is = omega (arith, is)

more : (test : List ℕ → Bool) (before words : List (List ℕ))
    → count_by test (before ++ words) ≡ count_by test before + count_by test words
more test before words = sum_by-append (λ (w : List ℕ). if test w then 1 else 0) before words

-- counts of words
words_more : (test : List ℕ → Bool) (before words all : List (List ℕ)) (count most : ℕ)
    → all ≡ before ++ words → count ≡ min (count_by test before) most
    → min (count + count_by test words) most ≡ min (count_by test all) most
words_more test before words all count most all_is is =
    stays count (count_by test before) (count_by test words) most is
    ∙ ap (λ n. min n most) (sym (more test before words) ∙ ap (count_by test) (sym all_is))

read_more : (count a most : ℕ) (reading : Option (Result QFrame QFault)) → most ≡ 2 ^ 64 - 1
    → count ≡ min a most → more_read count reading ≡ min (a + read_count reading) most
read_more count a most (Some (Ok frame)) most_is is =
    ap (λ m. min (count + 1) m) (sym most_is) ∙ stays count a 1 most is
read_more count a most (Some (Err fault)) most_is is = omega (arith, is)
read_more count a most None most_is is = omega (arith, is)

refused_more : (count a most : ℕ) (reading : Option (Result QFrame QFault)) → most ≡ 2 ^ 64 - 1
    → count ≡ min a most → more_refused count reading ≡ min (a + refused_count reading) most
refused_more count a most (Some (Ok frame)) most_is is = omega (arith, is)
refused_more count a most (Some (Err fault)) most_is is =
    ap (λ m. min (count + 1) m) (sym most_is) ∙ stays count a 1 most is
refused_more count a most None most_is is = omega (arith, is)

-- a sum with one more block
one_more : (f : List ℕ → ℕ) (blocks : List (List ℕ)) (block : List ℕ)
    → sum_by f (blocks ++ block ∷ []) ≡ sum_by f blocks + f block
one_more f blocks block = sum_by-append f blocks (block ∷ []) ∙ omega arith

pub block_more : (form : Form) (lead_in : ℕ) (given : List Given) (block : List ℕ) (words : List (List ℕ))
    (t : PlayerTally) → IsTallyOf form lead_in given t
    → stream_words form lead_in (blocks_in given ++ block ∷ [])
    ≡ stream_words form lead_in (blocks_in given) ++ words
    → IsTallyOf form lead_in (Fed block ∷ given) (tallied form words block t)
block_more form lead_in given block words t so_far with_words =
    let blocks = blocks_in given in
    let before = stream_words form lead_in blocks in
    let all = stream_words form lead_in (blocks ++ block ∷ []) in
    let most : ℕ = 2 ^ 64 - 1 in
    let longer : length (blocks ++ block ∷ []) ≡ length blocks + 1 = length-append blocks (block ∷ []) in
    let here : tallied_count t.blocks 1 ≡ min (length (blocks ++ block ∷ [])) (2 ^ 64 - 1) =
    stays t.blocks (length blocks) 1 (2 ^ 64 - 1) so_far.blocks
    ∙ ap (λ n. min n (2 ^ 64 - 1)) (sym longer) in
    record {
      blocks = here;
      clean =
          words_more (λ word. has_wrong 0 (word, finding word)) before words all t.clean (2 ^ 64 - 1)
          with_words
          so_far.clean;
      one =
          words_more (λ word. has_wrong 1 (word, finding word)) before words all t.one (2 ^ 64 - 1) with_words
          so_far.one;
      two =
          words_more (λ word. has_wrong 2 (word, finding word)) before words all t.two (2 ^ 64 - 1) with_words
          so_far.two;
      bad =
          words_more (λ word. is_none (finding word)) before words all t.bad (2 ^ 64 - 1) with_words
          so_far.bad;
      frames =
          read_more t.frames _ (2 ^ 64 - 1) (reading_in form block) refl so_far.frames
          ∙ ap (λ n. min n (2 ^ 64 - 1))
          (sym (one_more (λ block. read_count (reading_in form block)) blocks block));
      bad_frames =
          refused_more t.bad_frames _ (2 ^ 64 - 1) (reading_in form block) refl so_far.bad_frames
          ∙ ap (λ n. min n (2 ^ 64 - 1))
          (sym (one_more (λ block. refused_count (reading_in form block)) blocks block));
      frame_block =
          ap₂ (λ last place. place_after last place (reading_in form block)) so_far.frame_block here;
      frame = ap (λ last. frame_after last (reading_in form block)) so_far.frame;
    }
