use Rattle.std.proofs.Common.{arith, ℕ, ◌≡◌, ◌%◌, length, map, sym, ap, ◌∙◌, rules}
use Rattle.std.specs.Prelude.{slice_index}
use Rattle.std.proofs.lemmas.List.{get_or-map, length-map}
use Rattle.std.proofs.lemmas.List.FromFn.{fill_by_all}
use Rattle.raw_subcode.specs.Channels.{symbols_of}
use Rattle.rw_interleave.specs.Interleave.{place, word_of}
use Rattle.rw_mend.proofs.Picking.{within}
use Rattle.rw_mend.proofs.rows.word_at.Goals as goal

pub returns : goal.returns
unfolding word_of
returns c =
    let program = c.args.program.now in
    let n = c.args.n in
    let bytes = c.pick.new.bytes in
    let size : length bytes ≡ 24 = search rules in
    c.new.ensures
    ∙ fill_by_all (λ i. slice_index (symbols_of program) (place n i)) (map (λ (byte : ℕ). byte % 64) bytes) 24
    0 (length-map bytes (λ (byte : ℕ). byte % 64) ∙ size)
    (λ k lt. get_or-map (λ (byte : ℕ). byte % 64) bytes k 0 0 (omega (arith, size, lt))
    ∙ ap (λ byte. byte % 64) (c.pick.ensures k lt)
    ∙ sym (get_or-map (λ (byte : ℕ). byte % 64) program (place n k) 0 0
    (within n k (length program) lt c.requires)))
