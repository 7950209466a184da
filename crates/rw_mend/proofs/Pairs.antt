-- Two readings as readings one behind another.
use Rattle.std.proofs.Common.{◌≡◌, ℕ, ◌-◌, ◌*◌, ◌/◌, ◌%◌, List, [], ◌∷◌, ◌++◌, length, get_or, map, min, take, drop, sym, ap, ap₂, ◌∙◌, subst₂, arith}
use Rattle.std.proofs.lemmas.List.{drop_min, take_all}
use Rattle.bit_lists.specs.Counting.{below}
use Rattle.rw_interleave.specs.Interleave.{whole_packs}
use Rattle.rw_mend.specs.Drops.{AreCandidates}
use Rattle.rw_mend.specs.Readings.{program_in, programs_in, size_in}
use Rattle.rw_mend.specs.Steps.{AreCounted, IsMendedTo}
use Rattle.rw_mend.specs.Streams.{IsMendedInto, mended_text}
use Rattle.rw_mend.specs.Words.{program_of}
use Rattle.rw_mend.specs.declared.readings.Readings.{Readings}
use Rattle.rw_mend.specs.declared.streams.MendCounts.{MendCounts}

-- the number of blocks behind those that were passed over
pub blocks_left : (size passed start : ℕ) → size % 96 ≡ 0 → start ≡ min (96 * passed) size
    → (size - start) / 96 ≡ size / 96 - passed
blocks_left size passed start whole is = omega (arith, whole, is)

pub same_drop : (lead_in start : ℕ) (bytes : List ℕ) → start ≡ min (96 * lead_in) (length bytes)
    → drop start bytes ≡ drop (96 * lead_in) bytes
same_drop lead_in start bytes is = ap (λ n. drop n bytes) is ∙ drop_min (96 * lead_in) bytes

two_programs : (readings : Readings) (lead_in : ℕ) → readings.count ≡ 2
    → readings.start ≡ min (96 * lead_in) (length readings.first.now)
    → length readings.first.now ≡ length readings.others.now
    → programs_in readings
    ≡ program_of lead_in readings.first.now ∷ program_of lead_in readings.others.now ∷ []
two_programs readings lead_in two start same =
    let first : program_in readings 0 ≡ program_of lead_in readings.first.now =
    same_drop lead_in readings.start readings.first.now start in
    let none : length readings.first.now * 0 ≡ 0 = omega arith in
    let taken : take (length readings.first.now) (drop (length readings.first.now * 0) readings.others.now)
    ≡ readings.others.now =
    ap (λ n. take (length readings.first.now) (drop n readings.others.now)) none
    ∙ take_all (length readings.first.now) readings.others.now (omega (arith, same)) in
    let second : program_in readings 1 ≡ program_of lead_in readings.others.now =
    ap (drop readings.start) taken
    ∙ same_drop lead_in readings.start readings.others.now (start ∙ ap (min (96 * lead_in)) same) in
    ap (λ n. map (program_in readings) (below n)) two
    ∙ ap₂ (λ (a b : List ℕ). a ∷ b ∷ []) first second

pub two_mended : (readings : Readings) (lead_in : ℕ) (old new : List ℕ) (counts : MendCounts)
    → readings.count ≡ 2
    → readings.start ≡ min (96 * lead_in) (length readings.first.now)
    → length readings.first.now ≡ length readings.others.now → length readings.first.now % 96 ≡ 0
    → IsMendedTo readings (whole_packs (size_in readings / 96)) (whole_packs (size_in readings / 96)) old new
    (AreCounted counts)
    → IsMendedInto lead_in readings.first.now readings.others.now old new counts
two_mended readings lead_in old new counts two start same whole done =
    let programs = two_programs readings lead_in two start same in
    let words : whole_packs (size_in readings / 96) ≡ whole_packs (length readings.first.now / 96 - lead_in) =
    ap whole_packs (blocks_left (length readings.first.now) lead_in readings.start whole start) in
    record {
      said = done.said;
      found = done.found;
      mended = record {
        said_count = done.said_count ∙ words;
        count = done.count ∙ words;
        candidates =
            λ n lt. subst₂ (λ w p. AreCandidates w p n (get_or done.said n [])) words programs
            (done.candidates n (omega (arith, lt, words)));
        each = λ n lt. done.each n (omega (arith, lt, words));
      };
      counts_are = done.has_it;
      size = done.size ∙ ap (λ n. 24 * n) words;
      text = done.text ∙ ap (λ n. mended_text done.found ++ drop n old) (sym done.size);
    }
