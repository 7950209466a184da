use Rattle.std.proofs.Common.{◌≡◌, ◌∙◌, Result, Ok, Err, IfOk, IfErr, get_or, sym, subst, ◌⊎◌, arith}
use Rattle.cdtext_packs.specs.Texts.{Texts}
use Rattle.cdtext_packs.specs.declared.kinds.TextFault.{TextFault}
use Rattle.cdtext_packs.specs.declared.kinds.TextFault.TheVariants.{NoMemory}
use Rattle.cdtext_packs.proofs.Steps.{size_at, all_pass}
use Rattle.cdtext_packs.proofs.reader.read_sized.Goals as goal

pub returns : goal.returns
returns c =
    let passed =
    all_pass c.args.kept.now c.args.tracks.now c.args.counts.now (get_or c.text.result.now 1 0)
    (get_or c.text-2.result.now 2 0) c.from-count.result
    (size_at c.args.tracks.now c.text.result.now 1 c.text.ensures.text (omega arith))
    (size_at c.args.tracks.now c.text-2.result.now 2 c.text-2.ensures.text (omega arith))
    (c.from-count.ensures
    ∙ size_at c.args.counts.now c.text-3.result.now 8 c.text-3.ensures.text (omega arith))
    c.if-first-lt1.false c.if-last-first.false c.if-last-gt-MOST_TRACKS.false in
    let answer : Result Texts TextFault = c.read_numbers.result in
    record {
      texts =
          subst (λ (read : Result Texts TextFault). IfOk answer (λ map. read ≡ Ok map)) (sym passed)
          c.read_numbers.ensures.texts;
      fault =
          subst
          (λ (read : Result Texts TextFault). IfErr answer (λ fault. (fault ≡ NoMemory) ⊎ (read ≡ Err fault)))
          (sym passed) c.read_numbers.ensures.fault;
      refused =
          subst (λ (read : Result Texts TextFault). IfErr read (λ fault. answer ≡ Err fault)) (sym passed)
          c.read_numbers.ensures.refused;
    }

pub bounds-text-1 : goal.bounds-text-1
bounds-text-1 c = omega (arith, c.text.ensures.size)

pub bounds-text-2 : goal.bounds-text-2
bounds-text-2 c = omega (arith, c.text-2.ensures.size)

pub bounds-text : goal.bounds-text
bounds-text c = omega (arith, c.text-3.ensures.size)

pub overflow_add-result : goal.overflow_add-result
overflow_add-result c = omega arith

pub overflow_cast-result : goal.overflow_cast-result
overflow_cast-result c = omega arith

pub overflow_add-result-then-last-first : goal.overflow_add-result-then-last-first
overflow_add-result-then-last-first c = omega arith

pub overflow_cast-result-then-last-first : goal.overflow_cast-result-then-last-first
overflow_cast-result-then-last-first c = omega arith

pub overflow_sub-from : goal.overflow_sub-from
overflow_sub-from c = omega arith

pub overflow_add-count : goal.overflow_add-count
overflow_add-count c = omega arith

pub read_numbers-requires-clause-kept : goal.read_numbers-requires-clause-kept
read_numbers-requires-clause-kept c = omega arith

pub read_numbers-requires-clause-few : goal.read_numbers-requires-clause-few
read_numbers-requires-clause-few c = omega arith

pub read_numbers-requires-clause-first : goal.read_numbers-requires-clause-first
read_numbers-requires-clause-first c = omega arith

pub read_numbers-requires-clause-last : goal.read_numbers-requires-clause-last
read_numbers-requires-clause-last c = omega arith

pub read_numbers-requires-clause-limit : goal.read_numbers-requires-clause-limit
read_numbers-requires-clause-limit c = omega arith
