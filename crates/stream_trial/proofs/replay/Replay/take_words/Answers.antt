use Rattle.std.proofs.Common.{◌≡◌, ℕ, ◌+◌, ◌-◌, ◌*◌, ◌<◌, List, [], length, get_or, subst, ap, ◌∙◌, sym, arith}
use Rattle.std.proofs.lemmas.List.{get_or_default}
use Rattle.rw_code.specs.Codeword.{Reads}
use Rattle.rw_interleave.specs.Interleave.{whole_packs}
use Rattle.stream_trial.specs.Course.{HasTaken, words_with_stream_block}
use Rattle.stream_trial.specs.Replay.{TakesWord}
use Rattle.stream_trial.proofs.Slots.{length-given}
use Rattle.stream_trial.proofs.Plays.{takes_on, still_below}
use Rattle.stream_trial.proofs.replay.Replay.take_words.Goals as goal

pub loop-j-init : goal.loop-j-init
loop-j-init c =
    let replay = c.args.self.now in
    record {
      small = λ most below. still_below replay most (most + 0) (omega arith) below;
      taken = λ script bytes b fits is before.
          let none : 4 * b - 7 ≡ 4 * b - 7 + 0 = omega arith in
          subst (λ m. HasTaken script bytes m replay) none before;
    }

pub loop-j-preserved : goal.loop-j-preserved
loop-j-preserved c =
    let j = c.loop-j.j in
    let old = c.loop-j.self in
    let new = c.take_word.new.self in
    let items = c.args.words.now.items in
    let held : length c.deref.result.now ≡ length items =
    ap (λ (l : List (List ℕ)). length l) c.deref.ensures.0 in
    let lt : j < length items = omega (arith, held) in
    let word : c.index-deref-j.result ≡ get_or items j [] =
    c.index-deref-j.is ∙ get_or_default c.deref.result.now j c.index-deref-j.result [] (omega (arith, held))
    ∙ ap (λ (l : List (List ℕ)). get_or l j []) c.deref.ensures.0 in
    record {
      small = λ most below.
          still_below new (most + j + 1) (most + (j + 1)) (omega arith)
          (c.take_word.ensures.more (most + j) (c.loop-j.invariant.small most below));
      taken = λ script bytes b fits is before.
          let size = length-given c.gather_gives_words.ensures bytes b fits in
          let sizes : length items ≡ length (words_with_stream_block bytes b) =
          ap (λ (l : List (List ℕ)). length l) is in
          takes_on c.gather_gives_words.ensures c.instructions_in_turn.ensures script bytes b j old new items
          (omega (arith, fits)) is (omega (arith, size, sizes, lt, fits)) lt
          (c.loop-j.invariant.taken script bytes b fits is before)
          (λ codeword reads. subst (λ (w : List ℕ). TakesWord w codeword old new) word
          (c.take_word.ensures.near codeword (subst (λ (w : List ℕ). Reads w codeword) (sym word) reads)));
    }

pub returns-clause-taken : goal.returns-clause-taken
returns-clause-taken c = λ script bytes b fits is before.
    let j = c.loop-j.j in
    let size = length-given c.gather_gives_words.ensures bytes b fits in
    let sizes : length c.args.words.now.items ≡ length (words_with_stream_block bytes b) =
    ap (λ (l : List (List ℕ)). length l) is in
    let all : j ≡ length c.args.words.now.items = omega (arith, c.len-j-end.ensures.value) in
    let last : 4 * b - 7 + j ≡ whole_packs (b + 1) = omega (arith, size, sizes, all) in
    subst (λ m. HasTaken script bytes m c.loop-j.self) last
    (c.loop-j.invariant.taken script bytes b fits is before)
