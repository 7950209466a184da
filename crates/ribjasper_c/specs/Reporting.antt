-- Results in words.
use Rattle.std.specs.Prelude.{ℕ, ℤ, pos, negsuc, ◌==◌, if◌then◌else◌, List, codes}

-- the meaning of a result, in English
abbrev pub answer_text : ℤ → List ℕ
answer_text (negsuc k) =
    if k == 0 then codes "refused: a player is closed, or a number is out of its range"
    else codes "no answer of this library"
answer_text (pos n) =
    if n == 0 then codes "done"
    else if n == 1 then codes "done, but packs are damaged"
    else if n == 2 then codes "a number is out of its range"
    else if n == 3 then codes "what was given is refused"
    else if n == 4 then codes "done, but pictures are late"
    else if n == 6 then codes "there is too little room"
    else if n == 7 then codes "there is no memory"
    else if n == 8 then codes "a CD-TEXT pack is missing"
    else if n == 9 then codes "a CD-TEXT pack with the sizes is missing"
    else if n == 10 then codes "a byte of a CD-TEXT pack cannot be"
    else codes "no answer of this library"
