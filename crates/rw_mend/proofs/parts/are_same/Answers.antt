use Rattle.std.proofs.Common.{◌≡◌, length, get_or, ap, arith}
use Rattle.std.specs.Str.{bytes_eq}
use Rattle.std.proofs.lemmas.Bool.Decides.{same_from_decides}
use Rattle.std.proofs.lemmas.List.{ext_get_or}
use Rattle.std.proofs.lemmas.Slice.Eq.{bytes_eq-Decides}
use Rattle.rw_mend.proofs.parts.are_same.Goals as goal

pub returns : goal.returns
returns c =
    let one = c.args.one.now in
    let other = c.args.other.now in
    let long : length one ≡ 96 = omega arith in
    let size : length one ≡ length other = omega arith in
    same_from_decides c.loop-k.same (bytes_eq one other) (
      λ same.
          ext_get_or 0 one other size
          (λ i lt. c.loop-k.invariant.sound same i (omega (arith, lt, long, c.loop-k-test.false))),
      λ same. c.loop-k.invariant.complete (λ i lt. ap (λ l. get_or l i 0) same),
    )
    (bytes_eq-Decides one other)
