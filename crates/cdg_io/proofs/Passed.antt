-- Units that are fed one after another.
use Rattle.std.proofs.Common.{◌≡◌, ℕ, ◌+◌, ◌-◌, ◌≤◌, List, [], ◌++◌, length, take, drop, sym, ap, ◌∙◌, append-nil, length-append, Some, arith, length-drop, length-take-le, drop_at, slice_range, take_all}
use Rattle.std.proofs.Math.Seq.{take-append_seam}
use Rattle.std.proofs.lemmas.List.{take-append-drop, drop-drop, nil_from_length, take_rest}
use borrow.Rule.Slice.PartMut.{put_mid, post_of}
use Rattle.cdg_io.proofs.Bytes.{take-put_mid_on}
use Rattle.std.specs.Io.KnownBytes.{Appends, Consumes}

-- the output is behind the earlier bytes of the buffer
pub given_behind : (buffer new given rest : List ℕ) (end k n : ℕ) → end ≤ length buffer → n ≡ length given
    → new ≡ given ++ rest
    → Appends (Some (take end buffer)) (Some (take (end + n) (put_mid end k buffer new))) given
given_behind buffer new given rest end k n within count is =
    let front : take n new ≡ given =
    ap (take n) is ∙ ap (λ m. take m (given ++ rest)) count ∙ take-append_seam given rest in
    let fits : n ≤ length new = omega (arith, count, ap length is, length-append given rest) in
    sym (take-put_mid_on end k n buffer new within fits) ∙ ap (λ l. take end buffer ++ l) front

-- a unit was consumed from the front of a row
pub unit_taken : (row : List ℕ) (size n m : ℕ) → n ≡ size → m ≡ size → size ≤ length row
    → (length (take n row) ≡ size)
    × Consumes (Some row) (Some (take (length row - m) (drop m row))) (take n row)
unit_taken row size n m first last long =
    let rest : take (length row - m) (drop m row) ≡ drop n row =
    take_all (length row - m) (drop m row) (omega (arith, length-drop m row))
    ∙ ap (λ k. drop k row) (last ∙ sym first) in (
      length-take-le n row (omega (arith, first, long)) ∙ first,
      sym (take-append-drop n row) ∙ ap (λ l. take n row ++ l) (sym rest),
    )

-- behind the output, the buffer is unchanged
pub rest_stays : (buffer new given old : List ℕ) (end k n : ℕ) → end ≤ length buffer
    → length buffer ≤ end + k → n ≡ length given
    → new ≡ given ++ drop n (slice_range buffer end (length buffer)) → drop end buffer ≡ drop end old
    → drop (end + n) (put_mid end k buffer new) ≡ drop (end + n) old
rest_stays buffer new given old end k n within all count is same =
    let nothing : post_of end k buffer ≡ [] =
    nil_from_length _ (omega (arith, length-drop k (drop end buffer), length-drop end buffer, all)) in
    let part : drop end (put_mid end k buffer new) ≡ new =
    drop_at (take end buffer) (new ++ post_of end k buffer) end (length-take-le end buffer within)
    ∙ ap (λ l. new ++ l) nothing ∙ append-nil new in
    let rest : drop n new ≡ drop n (drop end buffer) =
    ap (drop n) is ∙ drop_at given (drop n (slice_range buffer end (length buffer))) n (sym count)
    ∙ ap (drop n) (take_rest buffer end) in
    sym (drop-drop n end (put_mid end k buffer new)) ∙ ap (drop n) part ∙ rest ∙ ap (drop n) same
    ∙ drop-drop n end old
