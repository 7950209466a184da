use Rattle.std.proofs.Common.{◌≡◌, length, sym, ap, subst, ◌∙◌, rules}
use Rattle.q_channel.specs.QFrame.{spelled, fields_of, IsValid}
use Rattle.q_channel.proofs.Spelled.{toc_from, catalogue_from, isrc_from, tail_all, other_from}
use Rattle.q_channel.proofs.encoding.rare_fields.Goals as goal

pub returns-in-Isrc : goal.returns-in-Isrc
returns-in-Isrc c =
    let size : length c.in-Isrc.code ≡ 12 = (subst IsValid c.in-Isrc.is c.requires.valid).1 in
    c.bytes-in-Isrc.ensures
    ∙ isrc_from c.in-Isrc.control c.in-Isrc.frame _ c.in-Isrc.code _ _ _ _ _ _ _ _ _ _
    c.new-message.ensures c.to_bcd-in-Isrc.ensures (search rules) (tail_all c.in-Isrc.code size)
    c.with-in-Isrc.ensures.bits c.with-in-Isrc-2.ensures.bits c.with_characters-in-Isrc.ensures.bits
    c.with-in-Isrc-3.ensures.bits c.with_characters-in-Isrc-2.ensures.bits c.with-in-Isrc-4.ensures.bits
    c.with-in-Isrc-5.ensures.bits
    ∙ ap (λ f. spelled (fields_of f)) (sym c.in-Isrc.is)

pub returns-in-Other : goal.returns-in-Other
returns-in-Other c =
    c.bytes-in-Other.ensures
    ∙ other_from c.in-Other.control c.in-Other.adr c.in-Other.rest _ _ _ _ c.new-message.ensures
    c.with-in-Other.ensures.bits c.with-in-Other-2.ensures.bits c.with_bytes.ensures.bits
    ∙ ap (λ f. spelled (fields_of f)) (sym c.in-Other.is)

pub returns-in-Toc : goal.returns-in-Toc
returns-in-Toc c =
    toc_from c.in-Toc.control c.in-Toc.point c.in-Toc.time c.point_bytes.result _ (search rules)
    c.point_bytes.ensures c.mode_one.ensures
    ∙ ap (λ f. spelled (fields_of f)) (sym c.in-Toc.is)

pub returns-in-Catalogue : goal.returns-in-Catalogue
returns-in-Catalogue c =
    c.bytes.ensures
    ∙ catalogue_from c.in-Catalogue.control c.in-Catalogue.frame _ c.in-Catalogue.digits _ _ _ _ _ _
    c.new-message.ensures c.to_bcd.ensures c.with.ensures.bits c.with-in-Catalogue.ensures.bits
    c.with_characters.ensures.bits c.with-in-Catalogue-2.ensures.bits c.with-in-Catalogue-3.ensures.bits
    ∙ ap (λ f. spelled (fields_of f)) (sym c.in-Catalogue.is)
