-- The texts in a map.
use Rattle.cdtext_packs.specs.Texts.{Texts, AreTexts}
use Rattle.cdtext_packs.specs.declared.map.TextMap.TheInside.{Inside}

-- the texts in the fields of a map
abbrev pub texts_of_map : Inside → Texts
texts_of_map m = record {
  first = m.first;
  last = m.last;
  title = m.title;
  performer = m.performer;
  songwriter = m.songwriter;
  composer = m.composer;
  arranger = m.arranger;
  message = m.message;
  code = m.code;
}

-- The fields are those of a map: they have no texts at all, or the texts of an album with tracks.
abbrev pub HoldsTexts : Inside → Type 0
HoldsTexts m = AreTexts (texts_of_map m)
