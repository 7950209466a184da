-- The counts of a player.
use Rattle.std.specs.Prelude.{ℕ, ◌-◌}
use Rattle.raw_subcode.specs.declared.form.Form.{Form}
use Rattle.raw_subcode.specs.declared.form.Form.TheVariants.{Raw, Cooked, Sector}
use Rattle.rw_interleave.specs.Stream.{word_count}
use Rattle.live_player.specs.declared.live.LivePlayer.{LivePlayer}
use Rattle.ribjasper_c.specs.declared.counting.PlayerCounts.{PlayerCounts}

-- the number of a form
abbrev pub form_number : Form → ℕ
form_number Raw = 0
form_number Cooked = 1
form_number Sector = 2

-- the counts of a player; the words are those of the blocks after the lead-in
abbrev pub player_counts : LivePlayer → PlayerCounts
player_counts player = record {
  words = word_count player.words.form (player.blocks - player.lead_in);
  form = form_number player.words.form;
  lead_in = player.lead_in;
  blocks = player.blocks;
  bad = player.bad;
}
