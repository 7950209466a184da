-- Lending the player of a handle.
use mathlib.Core.List.{[], ◌∷◌}
use base.Fml.{Fml}
use denote.Follow.{follows}
use denote.Ref.{MutBor}
use Rattle.live_player.specs.contracts.live.LivePlayer.{the_row as player-row}
use Rattle.live_player.specs.declared.live.LivePlayer.{LivePlayer}
use Rattle.ribjasper_c.specs.contracts.handle.Handle.{the_row as handle-row}
use Rattle.ribjasper_c.specs.declared.handle.Handle.{Handle}

-- the handle with this player in the place of its own
abbrev pub with_player : Handle → LivePlayer → Handle
with_player h player = record { at = h.at; alloc = h.alloc; players = player ∷ [] }

-- once the borrow r ends, the handle behind h holds the player that was last written through r
abbrev pub handle_follows : MutBor Handle → MutBor LivePlayer → Fml
handle_follows h r = follows handle-row player-row h.ghost_name r.ghost_name (with_player h.now)
