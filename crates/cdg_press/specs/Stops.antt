-- The stops of a press for the stops of the calls that it makes.
use Rattle.toc_model.specs.declared.layout.LayoutStop.{LayoutStop}
use Rattle.toc_model.specs.declared.layout.LayoutStop.TheVariants.{LengthShort as layout_short, DiscTooLong as layout_long, NoMemory as layout_memory}
use Rattle.stream_writer.specs.declared.sheet_texts.LeadInStop.{LeadInStop}
use Rattle.stream_writer.specs.declared.sheet_texts.LeadInStop.TheVariants.{TextTooLong as text_long, LeadInShort as lead_in_short}
use Rattle.cdg_press.specs.declared.stops.PressStop.{PressStop}
use Rattle.cdg_press.specs.declared.stops.PressStop.TheVariants.{LengthShort, DiscTooLong, TextTooLong, LeadInShort, NoMemory}

-- the stop of a press for a stop of the layout
abbrev pub press_stop_of_layout : LayoutStop → PressStop
press_stop_of_layout (layout_short need) = LengthShort need
press_stop_of_layout (layout_long blocks) = DiscTooLong blocks
press_stop_of_layout layout_memory = NoMemory

-- the stop of a press for a stop of the lead-in
abbrev pub press_stop_of_lead_in : LeadInStop → PressStop
press_stop_of_lead_in (text_long packs) = TextTooLong packs
press_stop_of_lead_in (lead_in_short need) = LeadInShort need
