use Rattle.std.proofs.Common.{◌≡◌, ◌+◌, ◌<◌, ℕ, length, flat_map, get_or, arith}
use Rattle.std.proofs.lemmas.List.Folds.{length-flat_map-take}
use Rattle.cdtext_packs.specs.Texts.{Texts, kinds}
use Rattle.cdtext_packs.specs.Writing.{kind_contents}
use Rattle.cdtext_packs.specs.declared.kinds.TextKind.TheVariants.{Title}
use Rattle.cdtext_packs.proofs.pack.size_bytes.Goals as goal

-- the number of packs of a kind is a byte
count_fits : (map : Texts) (k count last : ℕ) → k < 7
    → last ≡ length (flat_map (kind_contents map) kinds) + 2 → last < 256
    → count ≡ length (kind_contents map (get_or kinds k Title)) → count < 256
count_fits map k count last lt is small at =
    omega (arith, length-flat_map-take (kind_contents map) kinds k Title lt)

pub bounds-bytes-1 : goal.bounds-bytes-1
bounds-bytes-1 c = omega arith

pub bounds-bytes-2 : goal.bounds-bytes-2
bounds-bytes-2 c = omega arith

pub overflow_cast-bytes : goal.overflow_cast-bytes
overflow_cast-bytes c =
    omega (
      arith,
      count_fits c.args.map.now 0 c.kind_packs.result c.args.last (omega arith) c.requires.last (omega arith)
          c.kind_packs.ensures.value,
    )

pub bounds-bytes-4 : goal.bounds-bytes-4
bounds-bytes-4 c = omega arith

pub overflow_cast-bytes-2 : goal.overflow_cast-bytes-2
overflow_cast-bytes-2 c =
    omega (
      arith,
      count_fits c.args.map.now 1 c.kind_packs-2.result c.args.last (omega arith) c.requires.last
          (omega arith)
          c.kind_packs-2.ensures.value,
    )

pub bounds-bytes-5 : goal.bounds-bytes-5
bounds-bytes-5 c = omega arith

pub overflow_cast-bytes-3 : goal.overflow_cast-bytes-3
overflow_cast-bytes-3 c =
    omega (
      arith,
      count_fits c.args.map.now 2 c.kind_packs-3.result c.args.last (omega arith) c.requires.last
          (omega arith)
          c.kind_packs-3.ensures.value,
    )

pub bounds-bytes-6 : goal.bounds-bytes-6
bounds-bytes-6 c = omega arith

pub overflow_cast-bytes-4 : goal.overflow_cast-bytes-4
overflow_cast-bytes-4 c =
    omega (
      arith,
      count_fits c.args.map.now 3 c.kind_packs-4.result c.args.last (omega arith) c.requires.last
          (omega arith)
          c.kind_packs-4.ensures.value,
    )

pub bounds-bytes-7 : goal.bounds-bytes-7
bounds-bytes-7 c = omega arith

pub overflow_cast-bytes-5 : goal.overflow_cast-bytes-5
overflow_cast-bytes-5 c =
    omega (
      arith,
      count_fits c.args.map.now 4 c.kind_packs-5.result c.args.last (omega arith) c.requires.last
          (omega arith)
          c.kind_packs-5.ensures.value,
    )

pub bounds-bytes-8 : goal.bounds-bytes-8
bounds-bytes-8 c = omega arith

pub overflow_cast-bytes-6 : goal.overflow_cast-bytes-6
overflow_cast-bytes-6 c =
    omega (
      arith,
      count_fits c.args.map.now 5 c.kind_packs-6.result c.args.last (omega arith) c.requires.last
          (omega arith)
          c.kind_packs-6.ensures.value,
    )

pub bounds-bytes-9 : goal.bounds-bytes-9
bounds-bytes-9 c = omega arith

pub overflow_cast-bytes-7 : goal.overflow_cast-bytes-7
overflow_cast-bytes-7 c =
    omega (
      arith,
      count_fits c.args.map.now 6 c.kind_packs-7.result c.args.last (omega arith) c.requires.last
          (omega arith)
          c.kind_packs-7.ensures.value,
    )

pub bounds-bytes-18 : goal.bounds-bytes-18
bounds-bytes-18 c = omega arith

pub bounds-bytes-19 : goal.bounds-bytes-19
bounds-bytes-19 c = omega arith

pub bounds-bytes-20 : goal.bounds-bytes-20
bounds-bytes-20 c = omega arith

pub bounds-bytes-28 : goal.bounds-bytes-28
bounds-bytes-28 c = omega arith
