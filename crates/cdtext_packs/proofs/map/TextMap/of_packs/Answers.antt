use Rattle.std.proofs.Common.{◌≡◌, ◌+◌, ℕ, false, List, Option, None, ap, ◌∙◌, arith}
use Rattle.std.proofs.lemmas.Result.{IfOk-from_err}
use Rattle.cdtext_packs.specs.Reading.{first_short, is_short}
use Rattle.cdtext_packs.specs.declared.kinds.TextKind.{TextKind}
use Rattle.cdtext_packs.specs.declared.kinds.TextKind.TheVariants.{Title, Performer, Songwriter, Composer, Arranger, Message, Code}
use Rattle.cdtext_packs.proofs.Steps.{none_short}
use Rattle.cdtext_packs.proofs.WholeTexts.{AreAllTexts, tracks_of_kinds, texts_of_kinds}
use Rattle.cdtext_packs.proofs.map.TextMap.of_packs.Goals as goal

pub overflow_sub-last : goal.overflow_sub-last
overflow_sub-last c = c.requires.last

pub overflow_add-count : goal.overflow_add-count
overflow_add-count c = omega (arith, c.from-count.ensures, c.ranges.last)

-- no kind has too few strings
enough : (kept : List (Option (List ℕ))) (n m : ℕ) (kind : TextKind) → n ≡ m
    → first_short kept (m + 2) ≡ None
    → is_short kept (n + 2) kind ≡ false
enough kept n m kind same none =
    none_short kept (n + 2) kind (ap (λ (k : ℕ). first_short kept (k + 2)) same ∙ none)

pub kind_texts-requires : goal.kind_texts-requires
kind_texts-requires c = record {
  few = c.requires.few;
  enough = enough c.args.kept.now _ _ Title c.from-count.ensures c.requires.enough;
}

pub kind_texts-requires-2 : goal.kind_texts-requires-2
kind_texts-requires-2 c = record {
  few = c.requires.few;
  enough = enough c.args.kept.now _ _ Performer c.from-count.ensures c.requires.enough;
}

pub kind_texts-requires-3 : goal.kind_texts-requires-3
kind_texts-requires-3 c = record {
  few = c.requires.few;
  enough = enough c.args.kept.now _ _ Songwriter c.from-count.ensures c.requires.enough;
}

pub kind_texts-requires-4 : goal.kind_texts-requires-4
kind_texts-requires-4 c = record {
  few = c.requires.few;
  enough = enough c.args.kept.now _ _ Composer c.from-count.ensures c.requires.enough;
}

pub kind_texts-requires-5 : goal.kind_texts-requires-5
kind_texts-requires-5 c = record {
  few = c.requires.few;
  enough = enough c.args.kept.now _ _ Arranger c.from-count.ensures c.requires.enough;
}

pub kind_texts-requires-6 : goal.kind_texts-requires-6
kind_texts-requires-6 c = record {
  few = c.requires.few;
  enough = enough c.args.kept.now _ _ Message c.from-count.ensures c.requires.enough;
}

pub kind_texts-requires-7 : goal.kind_texts-requires-7
kind_texts-requires-7 c = record {
  few = c.requires.few;
  enough = enough c.args.kept.now _ _ Code c.from-count.ensures c.requires.enough;
}

pub returns-in_err-title : goal.returns-in_err-title
returns-in_err-title c = IfOk-from_err c.from_residual.result _ c.from_residual.ensures.0

pub returns-in_err-performer : goal.returns-in_err-performer
returns-in_err-performer c =
    IfOk-from_err c.from_residual-in_err-performer.result _ c.from_residual-in_err-performer.ensures.0

pub returns-in_err-songwriter : goal.returns-in_err-songwriter
returns-in_err-songwriter c =
    IfOk-from_err c.from_residual-in_err-songwriter.result _ c.from_residual-in_err-songwriter.ensures.0

pub returns-in_err-composer : goal.returns-in_err-composer
returns-in_err-composer c =
    IfOk-from_err c.from_residual-in_err-composer.result _ c.from_residual-in_err-composer.ensures.0

pub returns-in_err-arranger : goal.returns-in_err-arranger
returns-in_err-arranger c =
    IfOk-from_err c.from_residual-in_err-arranger.result _ c.from_residual-in_err-arranger.ensures.0

pub returns-in_err-message : goal.returns-in_err-message
returns-in_err-message c =
    IfOk-from_err c.from_residual-in_err-message.result _ c.from_residual-in_err-message.ensures.0

pub returns-in_err-code : goal.returns-in_err-code
returns-in_err-code c =
    IfOk-from_err c.from_residual-in_err-code.result _ c.from_residual-in_err-code.ensures.0

are_all : (c : goal.In_ok-code) → AreAllTexts c.args.kept.now (c.from-count.result + 2) (record {
  first = c.args.first;
  last = c.args.last;
  title = c.in_ok-title.title;
  performer = c.in_ok-performer.performer;
  songwriter = c.in_ok-songwriter.songwriter;
  composer = c.in_ok-composer.composer;
  arranger = c.in_ok-arranger.arranger;
  message = c.in_ok-message.message;
  code = c.in_ok-code.code;
})
are_all c = record {
  title = record {
    texts = c.in_ok-title.ensures.texts;
    size = c.in_ok-title.ensures.count;
    each = c.in_ok-title.ensures.each;
  };
  performer = record {
    texts = c.in_ok-performer.ensures.texts;
    size = c.in_ok-performer.ensures.count;
    each = c.in_ok-performer.ensures.each;
  };
  songwriter = record {
    texts = c.in_ok-songwriter.ensures.texts;
    size = c.in_ok-songwriter.ensures.count;
    each = c.in_ok-songwriter.ensures.each;
  };
  composer = record {
    texts = c.in_ok-composer.ensures.texts;
    size = c.in_ok-composer.ensures.count;
    each = c.in_ok-composer.ensures.each;
  };
  arranger = record {
    texts = c.in_ok-arranger.ensures.texts;
    size = c.in_ok-arranger.ensures.count;
    each = c.in_ok-arranger.ensures.each;
  };
  message = record {
    texts = c.in_ok-message.ensures.texts;
    size = c.in_ok-message.ensures.count;
    each = c.in_ok-message.ensures.each;
  };
  code = record {
    texts = c.in_ok-code.ensures.texts;
    size = c.in_ok-code.ensures.count;
    each = c.in_ok-code.ensures.each;
  };
}

pub invariant_of-result : goal.invariant_of-result
invariant_of-result c =
    tracks_of_kinds c.args.kept.now c.from-count.result _ c.from-count.ensures c.requires.first
    c.requires.last
    c.requires.limit (are_all c)

pub returns : goal.returns
returns c = texts_of_kinds c.args.kept.now c.from-count.result _ c.from-count.ensures (are_all c)
