use Rattle.std.proofs.Common.{◌∷◌, [], bit_xor, get_or, sym, ap, ◌∙◌}
use Rattle.rw_merge.specs.Elimination.{ArePlacedErrors}
use Rattle.rw_merge.proofs.Solving.{gaps, gap_at, errors_of, put_right, all_right, unmoved}
use Rattle.rw_merge.proofs.elimination.solved.Goals as goal

pub returns : goal.returns
returns c codeword is_codeword equal =
    let xs = c.args.word.now in
    let p = c.args.places.now in
    let apart = c.requires.apart in
    let x_word = c.requires.word in
    let w_word = is_codeword.is_word in
    let errors = gaps xs codeword in
    let are1 =
    errors_of c.args.sums.now (p.first ∷ p.second ∷ p.third ∷ p.fourth ∷ []) xs codeword x_word is_codeword
    c.requires.sums equal in
    let are2 : ArePlacedErrors c.args.sums.now (p.second ∷ p.first ∷ p.third ∷ p.fourth ∷ []) errors =
    record {
      is_word = are1.is_word;
      have_sums = are1.have_sums;
      outside = λ i lt out. are1.outside i lt (out.1.0, (out.0, out.1.1));
    } in
    let are3 : ArePlacedErrors c.args.sums.now (p.third ∷ p.first ∷ p.second ∷ p.fourth ∷ []) errors =
    record {
      is_word = are1.is_word;
      have_sums = are1.have_sums;
      outside = λ i lt out. are1.outside i lt (out.1.0, (out.1.1.0, (out.0, out.1.1.1)));
    } in
    let are4 : ArePlacedErrors c.args.sums.now (p.fourth ∷ p.first ∷ p.second ∷ p.third ∷ []) errors =
    record {
      is_word = are1.is_word;
      have_sums = are1.have_sums;
      outside = λ i lt out. are1.outside i lt (out.1.0, (out.1.1.0, (out.1.1.1.0, (out.0, tt))));
    } in
    let error1 = c.error_at.ensures errors are1 ∙ gap_at xs codeword p.first x_word w_word apart.first in
    let error2 =
    c.error_at-2.ensures errors are2 ∙ gap_at xs codeword p.second x_word w_word apart.second.0 in
    let error3 = c.error_at-3.ensures errors are3 ∙ gap_at xs codeword p.third x_word w_word apart.third.0 in
    let error4 =
    c.error_at-4.ensures errors are4 ∙ gap_at xs codeword p.fourth x_word w_word apart.fourth.0 in
    let one = c.plus-one.result in
    let two = c.plus-two.result in
    let three = c.plus-three.result in
    let (size1, equal1) =
    put_right xs codeword one (p.second ∷ p.third ∷ p.fourth ∷ []) p.first _ x_word.size apart.first equal
    error1 c.plus-one.ensures in
    let stands2 = unmoved xs one p.first p.second _ apart.second.1 c.plus-one.ensures in
    let (size2, equal2) =
    put_right one codeword two (p.third ∷ p.fourth ∷ []) p.second _ size1 apart.second.0 equal1
    (error2 ∙ ap (λ n. bit_xor n (get_or codeword p.second 0)) (sym stands2)) c.plus-two.ensures in
    let stands3 =
    unmoved one two p.second p.third _ apart.third.2 c.plus-two.ensures
    ∙ unmoved xs one p.first p.third _ apart.third.1 c.plus-one.ensures in
    let (size3, equal3) =
    put_right two codeword three (p.fourth ∷ []) p.third _ size2 apart.third.0 equal2
    (error3 ∙ ap (λ n. bit_xor n (get_or codeword p.third 0)) (sym stands3)) c.plus-three.ensures in
    let stands4 =
    unmoved two three p.third p.fourth _ apart.fourth.3 c.plus-three.ensures
    ∙ unmoved one two p.second p.fourth _ apart.fourth.2 c.plus-two.ensures
    ∙ unmoved xs one p.first p.fourth _ apart.fourth.1 c.plus-one.ensures in
    let (size4, equal4) =
    put_right three codeword c.plus.result [] p.fourth _ size3 apart.fourth.0 equal3
    (error4 ∙ ap (λ n. bit_xor n (get_or codeword p.fourth 0)) (sym stands4)) c.plus.ensures in
    all_right c.plus.result codeword size4 w_word equal4
