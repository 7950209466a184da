-- The stops of the author for the stops of layouts and lead-ins.
use Rattle.toc_model.specs.declared.layout.LayoutStop.{LayoutStop}
use Rattle.toc_model.specs.declared.layout.LayoutStop.TheVariants.{LengthShort as layout_short, DiscTooLong as layout_long, NoMemory as layout_memory}
use Rattle.stream_writer.specs.declared.sheet_texts.LeadInStop.{LeadInStop}
use Rattle.stream_writer.specs.declared.sheet_texts.LeadInStop.TheVariants.{TextTooLong as text_long, LeadInShort as lead_in_short}
use Rattle.subcode_author.specs.declared.stops.AuthorStop.{AuthorStop}
use Rattle.subcode_author.specs.declared.stops.AuthorStop.TheVariants.{LengthShort, DiscTooLong, TextTooLong, LeadInShort, NoMemory}

-- the author's stop for a stop of the layout
abbrev pub author_stop_of_layout : LayoutStop → AuthorStop
author_stop_of_layout (layout_short need) = LengthShort need
author_stop_of_layout (layout_long blocks) = DiscTooLong blocks
author_stop_of_layout layout_memory = NoMemory

-- the author's stop for a stop of the lead-in
abbrev pub author_stop_of_lead_in : LeadInStop → AuthorStop
author_stop_of_lead_in (text_long packs) = TextTooLong packs
author_stop_of_lead_in (lead_in_short need) = LeadInShort need
