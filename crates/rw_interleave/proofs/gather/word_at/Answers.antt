use Rattle.std.proofs.Common.{◌≡◌, ◌++◌, ◌<◌, ◌+◌, ◌*◌, ◌∙◌, ◌∷◌, [], refl, arith}
use Rattle.std.proofs.lemmas.Simd.{Each1-get_or}
use Rattle.rw_interleave.specs.Gathering.{gathered}
use Rattle.rw_interleave.specs.Interleave.{swapped}
use Rattle.rw_interleave.proofs.Windows.{place_fits, place_within, symbol_at_place, symbol_small}
use Rattle.rw_interleave.proofs.gather.word_at.Goals as goal

pub overflow_add-at : goal.overflow_add-at
overflow_add-at c = place_fits c.args.first 66 c.requires.first refl

pub overflow_add-at-2 : goal.overflow_add-at-2
overflow_add-at-2 c = place_fits c.args.first 125 c.requires.first refl

pub overflow_add-at-3 : goal.overflow_add-at-3
overflow_add-at-3 c = place_fits c.args.first 191 c.requires.first refl

pub overflow_add-at-4 : goal.overflow_add-at-4
overflow_add-at-4 c = place_fits c.args.first 100 c.requires.first refl

pub overflow_add-at-5 : goal.overflow_add-at-5
overflow_add-at-5 c = place_fits c.args.first 50 c.requires.first refl

pub overflow_add-at-6 : goal.overflow_add-at-6
overflow_add-at-6 c = place_fits c.args.first 150 c.requires.first refl

pub overflow_add-at-7 : goal.overflow_add-at-7
overflow_add-at-7 c = place_fits c.args.first 175 c.requires.first refl

pub overflow_add-at-8 : goal.overflow_add-at-8
overflow_add-at-8 c = place_fits c.args.first 8 c.requires.first refl

pub overflow_add-at-9 : goal.overflow_add-at-9
overflow_add-at-9 c = place_fits c.args.first 33 c.requires.first refl

pub overflow_add-at-10 : goal.overflow_add-at-10
overflow_add-at-10 c = place_fits c.args.first 58 c.requires.first refl

pub overflow_add-at-11 : goal.overflow_add-at-11
overflow_add-at-11 c = place_fits c.args.first 83 c.requires.first refl

pub overflow_add-at-12 : goal.overflow_add-at-12
overflow_add-at-12 c = place_fits c.args.first 108 c.requires.first refl

pub overflow_add-at-13 : goal.overflow_add-at-13
overflow_add-at-13 c = place_fits c.args.first 133 c.requires.first refl

pub overflow_add-at-14 : goal.overflow_add-at-14
overflow_add-at-14 c = place_fits c.args.first 158 c.requires.first refl

pub overflow_add-at-15 : goal.overflow_add-at-15
overflow_add-at-15 c = place_fits c.args.first 183 c.requires.first refl

pub overflow_add-at-16 : goal.overflow_add-at-16
overflow_add-at-16 c = place_fits c.args.first 16 c.requires.first refl

pub overflow_add-at-17 : goal.overflow_add-at-17
overflow_add-at-17 c = place_fits c.args.first 41 c.requires.first refl

pub overflow_add-at-18 : goal.overflow_add-at-18
overflow_add-at-18 c = place_fits c.args.first 25 c.requires.first refl

pub overflow_add-at-19 : goal.overflow_add-at-19
overflow_add-at-19 c = place_fits c.args.first 91 c.requires.first refl

pub overflow_add-at-20 : goal.overflow_add-at-20
overflow_add-at-20 c = place_fits c.args.first 116 c.requires.first refl

pub overflow_add-at-21 : goal.overflow_add-at-21
overflow_add-at-21 c = place_fits c.args.first 141 c.requires.first refl

pub overflow_add-at-22 : goal.overflow_add-at-22
overflow_add-at-22 c = place_fits c.args.first 166 c.requires.first refl

pub overflow_add-at-23 : goal.overflow_add-at-23
overflow_add-at-23 c = place_fits c.args.first 75 c.requires.first refl

pub symbol-requires-2 : goal.symbol-requires-2
symbol-requires-2 c = place_within c.args.first 66 c.requires.first refl

pub symbol-requires-3 : goal.symbol-requires-3
symbol-requires-3 c = place_within c.args.first 125 c.requires.first refl

pub symbol-requires-4 : goal.symbol-requires-4
symbol-requires-4 c = place_within c.args.first 191 c.requires.first refl

pub symbol-requires-5 : goal.symbol-requires-5
symbol-requires-5 c = place_within c.args.first 100 c.requires.first refl

pub symbol-requires-6 : goal.symbol-requires-6
symbol-requires-6 c = place_within c.args.first 50 c.requires.first refl

pub symbol-requires-7 : goal.symbol-requires-7
symbol-requires-7 c = place_within c.args.first 150 c.requires.first refl

pub symbol-requires-8 : goal.symbol-requires-8
symbol-requires-8 c = place_within c.args.first 175 c.requires.first refl

pub symbol-requires-9 : goal.symbol-requires-9
symbol-requires-9 c = place_within c.args.first 8 c.requires.first refl

pub symbol-requires-10 : goal.symbol-requires-10
symbol-requires-10 c = place_within c.args.first 33 c.requires.first refl

pub symbol-requires-11 : goal.symbol-requires-11
symbol-requires-11 c = place_within c.args.first 58 c.requires.first refl

pub symbol-requires-12 : goal.symbol-requires-12
symbol-requires-12 c = place_within c.args.first 83 c.requires.first refl

pub symbol-requires-13 : goal.symbol-requires-13
symbol-requires-13 c = place_within c.args.first 108 c.requires.first refl

pub symbol-requires-14 : goal.symbol-requires-14
symbol-requires-14 c = place_within c.args.first 133 c.requires.first refl

pub symbol-requires-15 : goal.symbol-requires-15
symbol-requires-15 c = place_within c.args.first 158 c.requires.first refl

pub symbol-requires-16 : goal.symbol-requires-16
symbol-requires-16 c = place_within c.args.first 183 c.requires.first refl

pub symbol-requires-17 : goal.symbol-requires-17
symbol-requires-17 c = place_within c.args.first 16 c.requires.first refl

pub symbol-requires-18 : goal.symbol-requires-18
symbol-requires-18 c = place_within c.args.first 41 c.requires.first refl

pub symbol-requires-19 : goal.symbol-requires-19
symbol-requires-19 c = place_within c.args.first 25 c.requires.first refl

pub symbol-requires-20 : goal.symbol-requires-20
symbol-requires-20 c = place_within c.args.first 91 c.requires.first refl

pub symbol-requires-21 : goal.symbol-requires-21
symbol-requires-21 c = place_within c.args.first 116 c.requires.first refl

pub symbol-requires-22 : goal.symbol-requires-22
symbol-requires-22 c = place_within c.args.first 141 c.requires.first refl

pub symbol-requires-23 : goal.symbol-requires-23
symbol-requires-23 c = place_within c.args.first 166 c.requires.first refl

pub symbol-requires-24 : goal.symbol-requires-24
symbol-requires-24 c = place_within c.args.first 75 c.requires.first refl

pub of_eights-requires : goal.of_eights-requires
of_eights-requires c =
    let b = c.args.early.now ++ (c.args.late.now ++ c.args.block.now) in
    let j = c.args.first in
    let first = c.requires.first in
    let small = c.requires.symbols in
    let none : 24 * j + 0 ≡ 24 * j = omega arith in
    let word =
    c.symbol.result ∷ c.symbol-2.result ∷ c.symbol-3.result ∷ c.symbol-4.result ∷ c.symbol-5.result
    ∷ c.symbol-6.result ∷ c.symbol-7.result ∷ c.symbol-8.result ∷ c.symbol-9.result ∷ c.symbol-10.result
    ∷ c.symbol-11.result ∷ c.symbol-12.result ∷ c.symbol-13.result ∷ c.symbol-14.result ∷ c.symbol-15.result
    ∷ c.symbol-16.result ∷ c.symbol-17.result ∷ c.symbol-18.result ∷ c.symbol-19.result ∷ c.symbol-20.result
    ∷ c.symbol-21.result ∷ c.symbol-22.result ∷ c.symbol-23.result ∷ c.symbol-24.result ∷ [] in
    λ k d lt. Each1-get_or (λ s. s < 64) word k d lt (
      symbol_small b j 0 (24 * j) c.symbol.result small first c.symbol.ensures none refl,
      (
        symbol_small b j 66 (24 * j + 66) c.symbol-2.result small first c.symbol-2.ensures refl refl,
        (
          symbol_small b j 125 (24 * j + 125) c.symbol-3.result small first c.symbol-3.ensures refl refl,
          (
            symbol_small b j 191 (24 * j + 191) c.symbol-4.result small first c.symbol-4.ensures refl refl,
            (
              symbol_small b j 100 (24 * j + 100) c.symbol-5.result small first c.symbol-5.ensures refl refl,
              (
                symbol_small b j 50 (24 * j + 50) c.symbol-6.result small first c.symbol-6.ensures refl refl,
                (
                  symbol_small b j 150 (24 * j + 150) c.symbol-7.result small first c.symbol-7.ensures refl
                      refl,
                  (
                    symbol_small b j 175 (24 * j + 175) c.symbol-8.result small first c.symbol-8.ensures refl
                        refl,
                    (
                      symbol_small b j 8 (24 * j + 8) c.symbol-9.result small first c.symbol-9.ensures refl
                          refl,
                      (
                        symbol_small b j 33 (24 * j + 33) c.symbol-10.result small first c.symbol-10.ensures
                            refl refl,
                        (
                          symbol_small b j 58 (24 * j + 58) c.symbol-11.result small first c.symbol-11.ensures
                              refl refl,
                          (
                            symbol_small b j 83 (24 * j + 83) c.symbol-12.result small first
                                c.symbol-12.ensures refl refl,
                            (
                              symbol_small b j 108 (24 * j + 108) c.symbol-13.result small first
                                  c.symbol-13.ensures refl refl,
                              (
                                symbol_small b j 133 (24 * j + 133) c.symbol-14.result small first
                                    c.symbol-14.ensures refl refl,
                                (
                                  symbol_small b j 158 (24 * j + 158) c.symbol-15.result small first
                                      c.symbol-15.ensures refl refl,
                                  (
                                    symbol_small b j 183 (24 * j + 183) c.symbol-16.result small first
                                        c.symbol-16.ensures refl refl,
                                    (
                                      symbol_small b j 16 (24 * j + 16) c.symbol-17.result small first
                                          c.symbol-17.ensures refl refl,
                                      (
                                        symbol_small b j 41 (24 * j + 41) c.symbol-18.result small first
                                            c.symbol-18.ensures refl refl,
                                        (
                                          symbol_small b j 25 (24 * j + 25) c.symbol-19.result small first
                                              c.symbol-19.ensures refl refl,
                                          (
                                            symbol_small b j 91 (24 * j + 91) c.symbol-20.result small first
                                                c.symbol-20.ensures refl refl,
                                            (
                                              symbol_small b j 116 (24 * j + 116) c.symbol-21.result small
                                                  first c.symbol-21.ensures refl refl,
                                              (
                                                symbol_small b j 141 (24 * j + 141) c.symbol-22.result small
                                                    first c.symbol-22.ensures refl refl,
                                                (
                                                  symbol_small b j 166 (24 * j + 166) c.symbol-23.result small
                                                      first c.symbol-23.ensures refl refl,
                                                  (
                                                    symbol_small b j 75 (24 * j + 75) c.symbol-24.result small
                                                        first c.symbol-24.ensures refl refl,
                                                    tt,
                                                  ),
                                                ),
                                              ),
                                            ),
                                          ),
                                        ),
                                      ),
                                    ),
                                  ),
                                ),
                              ),
                            ),
                          ),
                        ),
                      ),
                    ),
                  ),
                ),
              ),
            ),
          ),
        ),
      ),
    )

pub returns : goal.returns
unfolding gathered swapped
returns c =
    let b = c.args.early.now ++ (c.args.late.now ++ c.args.block.now) in
    let j = c.args.first in
    let first = c.requires.first in
    let small = c.requires.symbols in
    let none : 24 * j + 0 ≡ 24 * j = omega arith in
    c.of_eights.ensures
    ∙ (λ i. (symbol_at_place b j 0 0 0 (24 * j) c.symbol.result small first c.symbol.ensures none refl refl
    refl refl) i
    ∷ (symbol_at_place b j 1 18 66 (24 * j + 66) c.symbol-2.result small first c.symbol-2.ensures refl refl
    refl refl refl) i
    ∷ (symbol_at_place b j 2 5 125 (24 * j + 125) c.symbol-3.result small first c.symbol-3.ensures refl refl
    refl refl refl) i
    ∷ (symbol_at_place b j 3 23 191 (24 * j + 191) c.symbol-4.result small first c.symbol-4.ensures refl refl
    refl refl refl) i
    ∷ (symbol_at_place b j 4 4 100 (24 * j + 100) c.symbol-5.result small first c.symbol-5.ensures refl refl
    refl refl refl) i
    ∷ (symbol_at_place b j 5 2 50 (24 * j + 50) c.symbol-6.result small first c.symbol-6.ensures refl refl
    refl refl refl) i
    ∷ (symbol_at_place b j 6 6 150 (24 * j + 150) c.symbol-7.result small first c.symbol-7.ensures refl refl
    refl refl refl) i
    ∷ (symbol_at_place b j 7 7 175 (24 * j + 175) c.symbol-8.result small first c.symbol-8.ensures refl refl
    refl refl refl) i
    ∷ (symbol_at_place b j 8 8 8 (24 * j + 8) c.symbol-9.result small first c.symbol-9.ensures refl refl refl
    refl refl) i
    ∷ (symbol_at_place b j 9 9 33 (24 * j + 33) c.symbol-10.result small first c.symbol-10.ensures refl refl
    refl refl refl) i
    ∷ (symbol_at_place b j 10 10 58 (24 * j + 58) c.symbol-11.result small first c.symbol-11.ensures refl refl
    refl refl refl) i
    ∷ (symbol_at_place b j 11 11 83 (24 * j + 83) c.symbol-12.result small first c.symbol-12.ensures refl refl
    refl refl refl) i
    ∷ (symbol_at_place b j 12 12 108 (24 * j + 108) c.symbol-13.result small first c.symbol-13.ensures refl
    refl refl refl refl) i
    ∷ (symbol_at_place b j 13 13 133 (24 * j + 133) c.symbol-14.result small first c.symbol-14.ensures refl
    refl refl refl refl) i
    ∷ (symbol_at_place b j 14 14 158 (24 * j + 158) c.symbol-15.result small first c.symbol-15.ensures refl
    refl refl refl refl) i
    ∷ (symbol_at_place b j 15 15 183 (24 * j + 183) c.symbol-16.result small first c.symbol-16.ensures refl
    refl refl refl refl) i
    ∷ (symbol_at_place b j 16 16 16 (24 * j + 16) c.symbol-17.result small first c.symbol-17.ensures refl refl
    refl refl refl) i
    ∷ (symbol_at_place b j 17 17 41 (24 * j + 41) c.symbol-18.result small first c.symbol-18.ensures refl refl
    refl refl refl) i
    ∷ (symbol_at_place b j 18 1 25 (24 * j + 25) c.symbol-19.result small first c.symbol-19.ensures refl refl
    refl refl refl) i
    ∷ (symbol_at_place b j 19 19 91 (24 * j + 91) c.symbol-20.result small first c.symbol-20.ensures refl refl
    refl refl refl) i
    ∷ (symbol_at_place b j 20 20 116 (24 * j + 116) c.symbol-21.result small first c.symbol-21.ensures refl
    refl refl refl refl) i
    ∷ (symbol_at_place b j 21 21 141 (24 * j + 141) c.symbol-22.result small first c.symbol-22.ensures refl
    refl refl refl refl) i
    ∷ (symbol_at_place b j 22 22 166 (24 * j + 166) c.symbol-23.result small first c.symbol-23.ensures refl
    refl refl refl refl) i
    ∷ (symbol_at_place b j 23 3 75 (24 * j + 75) c.symbol-24.result small first c.symbol-24.ensures refl refl
    refl refl refl) i ∷ [])
