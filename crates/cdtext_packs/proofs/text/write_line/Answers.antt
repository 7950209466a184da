use Rattle.std.proofs.Common.{◌≡◌, ◌++◌, [], true, false, flat_map, refl, sym, subst, ap, ◌∙◌, rules}
use Rattle.std.specs.Io.KnownBytes.{Appends}
use Rattle.std.proofs.KnownBytes.{Appends-nil}
use Rattle.std.proofs.lemmas.List.{append_assoc}
use Rattle.cdg_io.specs.Moves.{AppendsPrefix}
use Rattle.bit_lists.specs.Digits.{line_feed}
use Rattle.cdtext_packs.specs.Texts.{text_of, is_empty}
use Rattle.cdtext_packs.specs.TextLines.{printed, line_head, text_line}
use Rattle.cdtext_packs.proofs.Pieces.{on_err, on_ok_map, on_err_map, prefix_on, prefix_first, put_both}
use Rattle.cdtext_packs.proofs.TextLines.{line_none, line_some}
use Rattle.cdtext_packs.proofs.text.write_line.Goals as goal

pub returns-then-is_empty-clause-ok : goal.returns-then-is_empty-clause-ok
returns-then-is_empty-clause-ok g c =
    let none : is_empty (text_of c.args.kind c.args.track c.args.map.now) ≡ true = search rules in
    subst (Appends (g.K.Sink.held c.args.out.now) (g.K.Sink.held c.args.out.now))
    (sym (line_none c.args.map.now c.args.kind c.args.track none))
    (Appends-nil (g.K.Sink.held c.args.out.now))

pub returns-in_err-put_all-clause-part : goal.returns-in_err-put_all-clause-part
returns-in_err-put_all-clause-part g c =
    let some : is_empty (text_of c.args.kind c.args.track c.args.map.now) ≡ false = search rules in
    on_err c.from_residual.result _ (prefix_first _ _ (line_head c.args.kind c.args.track) _
    (text_line c.args.map.now c.args.kind c.args.track)
    (subst (AppendsPrefix _ _) (c.bytes.ensures.bytes ∙ c.line_head.ensures) c.in_err-put_all.ensures.part)
    (line_some c.args.map.now c.args.kind c.args.track some))

pub returns-in_err-write_bytes-clause-part : goal.returns-in_err-write_bytes-clause-part
returns-in_err-write_bytes-clause-part g c =
    let some : is_empty (text_of c.args.kind c.args.track c.args.map.now) ≡ false = search rules in
    on_err c.from_residual-in_err-write_bytes.result _ (prefix_on _ _ _ (line_head c.args.kind c.args.track)
    (flat_map printed (text_of c.args.kind c.args.track c.args.map.now)) line_feed
    (text_line c.args.map.now c.args.kind c.args.track)
    (subst (Appends _ _) (c.bytes.ensures.bytes ∙ c.line_head.ensures) c.in_ok-put_all.ensures.ok)
    (subst (AppendsPrefix _ _) (ap (flat_map printed) c.text-string.ensures.text)
    c.in_err-write_bytes.ensures.part)
    (line_some c.args.map.now c.args.kind c.args.track some))

pub returns-clause-ok : goal.returns-clause-ok
returns-clause-ok g c =
    let some : is_empty (text_of c.args.kind c.args.track c.args.map.now) ≡ false = search rules in
    let text = text_of c.args.kind c.args.track c.args.map.now in
    on_ok_map c.put_all-2.result _ _ (λ last.
    put_both _ _ _ (line_head c.args.kind c.args.track)
    (flat_map printed (text_of c.args.kind c.args.track c.args.map.now) ++ line_feed)
    (text_line c.args.map.now c.args.kind c.args.track)
    (subst (Appends _ _) (c.bytes.ensures.bytes ∙ c.line_head.ensures) c.in_ok-put_all.ensures.ok)
    (put_both _ _ _ (flat_map printed (text_of c.args.kind c.args.track c.args.map.now)) line_feed
    (flat_map printed (text_of c.args.kind c.args.track c.args.map.now) ++ line_feed)
    (subst (Appends _ _) (ap (flat_map printed) c.text-string.ensures.text) c.in_ok-write_bytes.ensures.ok)
    last refl)
    (line_some c.args.map.now c.args.kind c.args.track some)) c.put_all-2.ensures.ok

pub returns-clause-part : goal.returns-clause-part
returns-clause-part g c =
    let some : is_empty (text_of c.args.kind c.args.track c.args.map.now) ≡ false = search rules in
    on_err_map c.put_all-2.result _ _ (λ last.
    prefix_on _ _ _
    (line_head c.args.kind c.args.track ++ flat_map printed (text_of c.args.kind c.args.track c.args.map.now))
    line_feed [] (text_line c.args.map.now c.args.kind c.args.track)
    (put_both _ _ _ (line_head c.args.kind c.args.track)
    (flat_map printed (text_of c.args.kind c.args.track c.args.map.now)) _
    (subst (Appends _ _) (c.bytes.ensures.bytes ∙ c.line_head.ensures) c.in_ok-put_all.ensures.ok)
    (subst (Appends _ _) (ap (flat_map printed) c.text-string.ensures.text) c.in_ok-write_bytes.ensures.ok)
    refl)
    last
    (line_some c.args.map.now c.args.kind c.args.track some
    ∙ sym (append_assoc (line_head c.args.kind c.args.track)
    (flat_map printed (text_of c.args.kind c.args.track c.args.map.now)) line_feed))) c.put_all-2.ensures.part
