use Rattle.std.proofs.Common.{ℕ, ◌+◌, ◌-◌, ◌≤◌, List, ◌++◌, length, take, sym, ap, ◌∙◌, arith, rules}
use borrow.Rule.Slice.PartMut.{post_of}
use Rattle.std.proofs.Math.Seq.{take-length}
use Rattle.std.proofs.lemmas.Grind.{common_steps}
use Rattle.std.proofs.lemmas.List.{with_items_is, places}
use Rattle.std.proofs.KnownBytes.{append_known-grown, Keeps-refl}
use Rattle.cdg_io.proofs.Waiting.{piece_behind}
use Rattle.cdg_io.proofs.buffers.BufferedSinkSink.put.Goals as goal

pub returns-clause-bytes : goal.returns-clause-bytes
returns-clause-bytes g c =
    let self = c.self.inside in
    let held = c.deref_mut.result.now in
    let piece = c.args.piece.now in
    let within : self.end ≤ length held = omega (arith, c.deref_mut.ensures.len, c.self.invariant.2) in
    let post = post_of self.end (length held - self.end) held in
    let written = take self.end held ++ (c.copy_front.new.to ++ post) in
    let parts =
    ap (take (self.end + length piece)) (with_items_is self.buffer written (search (rules, places))) in
    let copied =
    ap (λ (l : List ℕ). take (self.end + length piece) (take self.end held ++ (l ++ post)))
    c.copy_front.ensures in
    let behind = piece_behind held piece _ _ self.end within in
    let before = ap (λ (l : List ℕ). take self.end l ++ piece) c.deref_mut.ensures.value in
    let whole = ap (λ (l : List ℕ). take self.end self.buffer.items ++ l) (sym (take-length piece)) in
    rw (← c.self.view_is)
    (append_known-grown _ _ _ _ _ (Keeps-refl _) (parts ∙ copied ∙ behind ∙ before ∙ whole))

pub returns-clause-kept : goal.returns-clause-kept
returns-clause-kept g c = grind (arith, common_steps)
