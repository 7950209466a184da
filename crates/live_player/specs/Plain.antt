-- The player of plain numbers.
use Rattle.std.specs.Prelude.{◌==◌, ◌-◌, ◌++◌, if◌then◌else◌, ℕ}
use Rattle.raw_subcode.specs.declared.form.Form.{Form}
use Rattle.raw_subcode.specs.declared.form.Form.TheVariants.{Raw, Cooked, Sector}
use Rattle.rw_interleave.specs.Interleave.{packs_kept_back}
use Rattle.rw_interleave.specs.Windows.{slots_in}
use Rattle.stream_stages.specs.declared.block_words.BlockWords.{BlockWords}
use Rattle.live_player.specs.declared.live.LivePlayer.{LivePlayer}
use Rattle.live_player.specs.declared.plain.PlainPlayer.{PlainPlayer}
use Rattle.live_player.specs.declared.plain.PlainWords.{PlainWords}

-- the form with a number: 0 a raw stream, 1 a stream of packs, else a stream of sectors
abbrev pub numbered_form : ℕ → Form
numbered_form n = if n == 0 then Raw else (if n == 1 then Cooked else Sector)

-- the gatherer with these numbers
abbrev pub gatherer_of : PlainWords → BlockWords
gatherer_of w = record {
  form = numbered_form w.form;
  lead_in = w.lead_in;
  gather = slots_in (w.early ++ w.late) (packs_kept_back - w.count) w.count;
}

-- the player with these numbers
abbrev pub player_of : PlainPlayer → LivePlayer
player_of p = record {
  words = gatherer_of p.words;
  screen = p.screen;
  lead_in = p.lead_in;
  blocks = p.blocks;
  bad = p.bad;
}
