-- The bits of a frame, changed within sixteen neighbouring bits.
use Rattle.std.proofs.Common.{◌≡◌, ◌+◌, ◌-◌, ◌≤◌, Bool, List, ◌++◌, length, take, drop, refl, ◌∙◌, arith, length-append, subst}
use Rattle.std.specs.Prelude.{◌≢◌, Ok, Err, Result}
use Rattle.bit_lists.specs.Check.{check_bits, IsChecked}
use Rattle.bit_lists.proofs.Bursts.{bursts_fail_the_check}
use Rattle.q_channel.specs.QFrame.{IsFrame}
use Rattle.q_channel.specs.declared.frame.QFrame.{QFrame}
use Rattle.q_channel.specs.declared.frame.QFault.{QFault}
use Rattle.q_channel.specs.declared.frame.QFault.TheVariants.{BadCrc, BadField}
use Rattle.q_channel.specs.QReading.{IsReading}
use Rattle.q_channel.proofs.OneReading.{frame_checked}

is_checked : (m : List Bool) → length m ≡ 96 → drop 80 m ≡ check_bits (take 80 m) → IsChecked m
is_checked m size check =
    let at : 80 ≡ length m - 16 = omega arith in
    record { size = omega arith; check = subst (λ k. drop k m ≡ check_bits (take k m)) at check }

no_check : (frame : QFrame) (before one other after : List Bool) → length one ≤ 16 → length other ≡ length one
    → one ≢ other
    → IsFrame frame (before ++ one ++ after)
    → drop 80 (before ++ other ++ after) ≢ check_bits (take 80 (before ++ other ++ after))
no_check frame before one other after small same differ is check =
    let was = frame_checked frame (before ++ one ++ after) is in
    let one_size : length (before ++ one ++ after) ≡ length before + length one + length after =
    length-append (before ++ one) after ∙ omega (arith, length-append before one) in
    let other_size : length (before ++ other ++ after) ≡ length before + length other + length after =
    length-append (before ++ other) after ∙ omega (arith, length-append before other) in
    differ
    (bursts_fail_the_check before one other after small same (is_checked (before ++ one ++ after) was.0 was.1)
    (is_checked (before ++ other ++ after) (omega (arith, was.0)) check))

pub burst_is_noticed : (frame : QFrame) (before one other after : List Bool) (what : Result QFrame QFault)
    → length one ≤ 16 → length other ≡ length one → one ≢ other
    → IsFrame frame (before ++ one ++ after) → IsReading (before ++ other ++ after) what → what ≡ Err BadCrc
burst_is_noticed frame before one other after (Ok found) small same differ is reading =
    absurd (no_check frame before one other after small same differ is
    (frame_checked found (before ++ other ++ after) reading).1)
burst_is_noticed frame before one other after (Err BadCrc) small same differ is reading = refl
burst_is_noticed frame before one other after (Err (BadField bit)) small same differ is reading =
    absurd (no_check frame before one other after small same differ is reading.0)
