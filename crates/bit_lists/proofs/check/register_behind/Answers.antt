use Rattle.std.proofs.Common.{◌≡◌, ◌+◌, ◌-◌, ◌*◌, length, get_or, arith, sym, subst, append-nil}
use Rattle.bit_lists.specs.Register.{IsRegisterOf, TakesByte}
use Rattle.bit_lists.proofs.Registers.{GoesOn, goes_on, goes_on_by_two, whole}
use Rattle.bit_lists.proofs.check.register_behind.Goals as goal

pub loop-k-init : goal.loop-k-init
loop-k-init c before is = subst (λ xs. IsRegisterOf xs c.args.begun) (sym (append-nil before)) is

pub loop-k-preserved : goal.loop-k-preserved
loop-k-preserved c =
    let next : 2 * c.loop-k.k + 2 ≡ 2 * (c.loop-k.k + 1) = omega arith in
    subst (λ k. GoesOn c.args.begun c.args.bytes.now k c.with_pair-register.result) next
    (goes_on_by_two c.args.begun _ _ _ _ (omega arith) c.loop-k.invariant c.with_pair-register.ensures)

pub returns-then-bytes-eq1 : goal.returns-then-bytes-eq1
returns-then-bytes-eq1 c =
    let bytes = c.args.bytes.now in
    let register = c.loop-k.register in
    let taken = 2 * c.loop-k.k in
    let last : length bytes - 1 ≡ taken = omega (arith, c.if-bytes-eq1.true) in
    let all : taken + 1 ≡ length bytes = omega (arith, c.if-bytes-eq1.true) in
    let next = c.with_byte-register.result in
    let takes : TakesByte register (get_or bytes taken 0) next =
    subst (λ k. TakesByte register (get_or bytes k 0) next) last c.with_byte-register.ensures in
    whole c.args.begun bytes (taken + 1) next all
    (goes_on c.args.begun bytes taken register next (omega arith) c.loop-k.invariant takes)

pub returns-else-bytes-eq1 : goal.returns-else-bytes-eq1
returns-else-bytes-eq1 c =
    let all : 2 * c.loop-k.k ≡ length c.args.bytes.now = omega (arith, c.if-bytes-eq1.false) in
    whole c.args.begun c.args.bytes.now (2 * c.loop-k.k) c.loop-k.register all c.loop-k.invariant
