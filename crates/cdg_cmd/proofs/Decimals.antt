-- Numbers in decimal are read back.
use Rattle.std.proofs.Common.{◌≡◌, ℕ, ◌≤◌, ◌<◌, ◌^◌, List, Result, Ok, arith}
use Rattle.std.specs.Fmt.{decimal}
use Rattle.std.specs.Str.Parse.{ParsesUnsigned}
use Rattle.std.proofs.lemmas.Fmt.{parse-decimal}

pub parsed_back : {E : Type 0} (n most : ℕ) (word : List ℕ) (r : Result ℕ E) → n ≤ most → most < 2 ^ 64
    → word ≡ decimal n → ParsesUnsigned 64 10 word r
    → r ≡ Ok n
parsed_back n most word r within fits written parses =
    let small : n < 2 ^ 64 = omega (arith, within, fits) in
    parse-decimal 64 n word r small small written parses
