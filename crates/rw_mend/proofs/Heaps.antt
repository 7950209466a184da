-- Any number of readings, one behind another.
use Rattle.std.proofs.Common.{◌≡◌, ℕ, zero, suc, ◌+◌, ◌-◌, ◌*◌, ◌/◌, ◌%◌, ◌<◌, ◌≤◌, List, [], ◌++◌, length, get_or, map, min, take, drop, refl, sym, ap, ap₂, ◌∙◌, subst₂, arith, length-append, length-take, length-drop}
use Rattle.std.proofs.Math.Seq.{drop-append_seam, take-append_seam}
use Rattle.std.proofs.Math.Nat.{mul-div-le, mul-le-mul_left, mul-le-mul_right}
use Rattle.std.proofs.lemmas.List.{drop-drop, ext_get_or, get_or-map, length-map, take-append-drop, take_all}
use Rattle.bit_lists.specs.Counting.{parts}
use Rattle.rw_interleave.specs.Interleave.{whole_packs}
use Rattle.rw_mend.specs.Drops.{AreDropCounts, AreCandidates}
use Rattle.rw_mend.specs.Many.{AreAllReported, words_in_each}
use Rattle.rw_mend.specs.Readings.{program_in, programs_in, size_in}
use Rattle.rw_mend.specs.Steps.{AreReported, IsMendedTo}
use Rattle.rw_mend.specs.Streams.{mended_text}
use Rattle.rw_mend.specs.Tallies.{source_byte}
use Rattle.rw_mend.specs.Words.{program_of}
use Rattle.rw_mend.specs.declared.readings.Readings.{Readings}
use Rattle.rw_mend.specs.declared.tallies.Tallies.{Tallies}
use Rattle.rw_mend.proofs.Pairs.{blocks_left, same_drop}
use Rattle.rw_mend.proofs.Reading.{count_is, program_at}

pub part_at : (count size : ℕ) (xs : List ℕ) (b : ℕ) → b < count
    → get_or (parts count size xs) b [] ≡ take size (drop (size * b) xs)
part_at zero size xs b lt = absurd (omega arith)
part_at (suc count) size xs zero lt =
    let none : size * 0 ≡ 0 = omega arith in
    ap (λ n. take size (drop n xs)) (sym none)
part_at (suc count) size xs (suc b) lt =
    part_at count size (drop size xs) b (omega arith)
    ∙ ap (take size) (drop-drop (size * b) size xs ∙ ap (λ n. drop n xs) (omega arith))

pub parts_length : (count size : ℕ) (xs : List ℕ) → length (parts count size xs) ≡ count
parts_length zero size xs = refl
parts_length (suc count) size xs = ap (λ n. suc n) (parts_length count size (drop size xs))

fits : (size r count : ℕ) → r < count → size * r + size ≤ count * size
fits size r count lt = omega (arith, mul-le-mul_left size lt)

-- each part has the requested length
pub part_whole : (count : ℕ) (bytes : List ℕ) (r : ℕ) → r < count
    → length (get_or (parts count (length bytes / count) bytes) r []) ≡ length bytes / count
part_whole count bytes r lt =
    let size : ℕ = length bytes / count in
    ap length (part_at count size bytes r lt)
    ∙ length-take size (drop (size * r) bytes)
    ∙ omega (arith, length-drop (size * r) bytes, fits size r count lt, mul-div-le (length bytes) count)

part_size : (count size : ℕ) (bytes : List ℕ) (r : ℕ) → r < count → length bytes ≡ count * size
    → length (take size (drop (size * r) bytes)) ≡ size
part_size count size bytes r lt long =
    omega (
      arith,
      length-take size (drop (size * r) bytes),
      length-drop (size * r) bytes,
      fits size r count lt,
      long,
    )

program_is : (readings : Readings) (count size lead_in : ℕ) (bytes : List ℕ) → length bytes ≡ count * size
    → readings.first.now ≡ take size bytes → readings.others.now ≡ drop size bytes
    → length readings.first.now ≡ size → readings.start ≡ min (96 * lead_in) size
    → (r : ℕ) → r < count
    → program_in readings r ≡ program_of lead_in (take size (drop (size * r) bytes))
program_is readings count size lead_in bytes long first others first_size start zero lt =
    let none : size * 0 ≡ 0 = omega arith in
    ap (drop readings.start) (first ∙ ap (λ n. take size (drop n bytes)) (sym none))
    ∙ same_drop lead_in readings.start (take size (drop (size * 0) bytes))
    (start ∙ ap (min (96 * lead_in)) (sym (part_size count size bytes 0 lt long)))
program_is readings count size lead_in bytes long first others first_size start (suc r) lt =
    let part : take (length readings.first.now) (drop (length readings.first.now * r) readings.others.now)
    ≡ take size (drop (size * suc r) bytes) =
    ap (λ n. take n (drop (n * r) readings.others.now)) first_size
    ∙ ap (λ l. take size (drop (size * r) l)) others
    ∙ ap (take size) (drop-drop (size * r) size bytes ∙ ap (λ n. drop n bytes) (omega arith)) in
    ap (drop readings.start) part
    ∙ same_drop lead_in readings.start (take size (drop (size * suc r) bytes))
    (start ∙ ap (min (96 * lead_in)) (sym (part_size count size bytes (suc r) lt long)))

many_programs : (readings : Readings) (count size lead_in : ℕ) (bytes : List ℕ) → readings.count ≡ count
    → length bytes ≡ count * size
    → readings.first.now ≡ take size bytes → readings.others.now ≡ drop size bytes
    → length readings.first.now ≡ size → readings.start ≡ min (96 * lead_in) size
    → programs_in readings ≡ map (program_of lead_in) (parts count size bytes)
many_programs readings count size lead_in bytes same long first others first_size start =
    let all : List (List ℕ) = parts count size bytes in
    ext_get_or [] (programs_in readings) (map (program_of lead_in) all)
    (count_is readings ∙ same ∙ sym (length-map all (program_of lead_in) ∙ parts_length count size bytes))
    (λ r lt.
    let within : r < count = omega (arith, lt, count_is readings, same) in
    program_at readings r (omega (arith, within, same))
    ∙ program_is readings count size lead_in bytes long first others first_size start r within
    ∙ ap (program_of lead_in) (sym (part_at count size bytes r within))
    ∙ sym (get_or-map (program_of lead_in) all r [] []
    (omega (arith, within, parts_length count size bytes))))

pub many_mended : (readings : Readings) (count lead_in : ℕ)
    (bytes old new old_sources new_sources : List ℕ) (tallies : Tallies) (lost : List ℕ)
    → readings.count ≡ count
    → length bytes ≡ count * (length bytes / count) → (length bytes / count) % 96 ≡ 0
    → readings.first.now ≡ take (length bytes / count) bytes
    → readings.others.now ≡ drop (length bytes / count) bytes
    → length readings.first.now ≡ length bytes / count
    → readings.start ≡ min (96 * lead_in) (length bytes / count)
    → IsMendedTo readings (whole_packs (size_in readings / 96)) (whole_packs (size_in readings / 96)) old new
    (AreReported old_sources (whole_packs (size_in readings / 96)) new_sources tallies lost)
    → AreDropCounts (whole_packs (size_in readings / 96)) (programs_in readings)
    (whole_packs (size_in readings / 96)) tallies.dropped
    → AreAllReported count lead_in bytes old new old_sources new_sources tallies lost
many_mended readings count lead_in bytes old new old_sources new_sources tallies lost same long whole first
    others
    first_size start done dropped =
    let size : ℕ = length bytes / count in
    let programs = many_programs readings count size lead_in bytes same long first others first_size start in
    let words : whole_packs (size_in readings / 96) ≡ words_in_each count lead_in bytes =
    ap (λ n. whole_packs ((n - readings.start) / 96)) first_size
    ∙ ap whole_packs (blocks_left size lead_in readings.start whole start) in
    record {
      into = record {
        said = done.said;
        found = done.found;
        mended = record {
          said_count = done.said_count ∙ words;
          count = done.count ∙ words;
          candidates =
              λ n lt.
              subst₂ (λ w p. AreCandidates w p n (get_or done.said n [])) words programs
              (done.candidates n (omega (arith, lt, words)));
          each = λ n lt. done.each n (omega (arith, lt, words));
        };
        tallies_are = done.has_it.0.tallies_are;
        dropped =
            subst₂ (λ w p. AreDropCounts w p w tallies.dropped) words programs dropped;
        size = done.size ∙ ap (λ n. 24 * n) words;
        text = done.text ∙ ap (λ n. mended_text done.found ++ drop n old) (sym done.size);
        sources_size = done.has_it.0.size;
        sources =
            λ room.
            done.has_it.0.put (omega (arith, room, words))
            ∙ ap (λ n. map source_byte done.found ++ drop n old_sources) (done.count ∙ words);
      };
      losses = done.has_it.1;
    }

-- the first reading has the length of each reading
pub first_long : (count : ℕ) (bytes : List ℕ) → 0 < count → length bytes ≡ count * (length bytes / count)
    → length (take (length bytes / count) bytes) ≡ length bytes / count
first_long count bytes some long =
    let size : ℕ = length bytes / count in
    let fits_in : 1 * size ≤ count * size = mul-le-mul_right size some in
    length-take size bytes ∙ omega (arith, long, fits_in)

pub joined_parts : (size : ℕ) (bytes : List ℕ)
    → bytes ≡ take size bytes ++ take (length bytes - size) (drop size bytes)
joined_parts size bytes =
    sym (take-append-drop size bytes)
    ∙ ap (λ l. take size bytes ++ l)
    (sym (take_all (length bytes - size) (drop size bytes) (omega (arith, length-drop size bytes))))

all_long : (size count : ℕ) → 0 < count → size + size * (count - 1) ≡ count * size
all_long size zero some = absurd (omega (arith, some))
all_long size (suc n) some =
    let one : suc n - 1 ≡ n = omega arith in
    ap (λ k. size + size * k) one ∙ omega arith

pub split_mended : (readings : Readings) (lead_in : ℕ)
    (bytes old new old_sources new_sources : List ℕ) (tallies : Tallies) (lost : List ℕ)
    → length bytes / readings.count ≡ length readings.first.now
    → bytes ≡ readings.first.now ++ readings.others.now
    → 0 < readings.count → length readings.others.now ≡ length readings.first.now * (readings.count - 1)
    → length readings.first.now % 96 ≡ 0
    → readings.start ≡ min (96 * lead_in) (length readings.first.now)
    → IsMendedTo readings (whole_packs (size_in readings / 96)) (whole_packs (size_in readings / 96)) old new
    (AreReported old_sources (whole_packs (size_in readings / 96)) new_sources tallies lost)
    → AreDropCounts (whole_packs (size_in readings / 96)) (programs_in readings)
    (whole_packs (size_in readings / 96)) tallies.dropped
    → AreAllReported readings.count lead_in bytes old new old_sources new_sources tallies lost
split_mended readings lead_in bytes old new old_sources new_sources tallies lost size_is is some others whole
    start
    done dropped =
    let first : List ℕ = readings.first.now in
    let rest : List ℕ = readings.others.now in
    let count : ℕ = readings.count in
    let all : length bytes ≡ count * length first =
    ap length is ∙ length-append first rest ∙ ap (λ n. length first + n) others
    ∙ all_long (length first) count some in
    let first_is : take (length bytes / count) bytes ≡ first =
    ap₂ (λ (n : ℕ) (l : List ℕ). take n l) size_is is ∙ take-append_seam first rest in
    let rest_is : drop (length bytes / count) bytes ≡ rest =
    ap₂ (λ (n : ℕ) (l : List ℕ). drop n l) size_is is ∙ drop-append_seam first rest in
    many_mended readings count lead_in bytes old new old_sources new_sources tallies lost refl
    (all ∙ ap (λ n. count * n) (sym size_is)) (ap (λ n. n % 96) size_is ∙ whole) (sym first_is) (sym rest_is)
    (sym size_is) (start ∙ ap (min (96 * lead_in)) (sym size_is)) done dropped
