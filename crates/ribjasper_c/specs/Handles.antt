-- The ownership of a handle: nothing, or a player on the heap.
use Rattle.std.specs.Prelude.{◌≡◌, ◌==◌, ◌<◌, ◌-◌, ◌/◌, ◌%◌, if◌then◌else◌, ℕ, List, [], ◌∷◌, length, map, slice_index}
use base.Fml.{Fml, ftrue}
use base.Stored.{Coded}
use denote.RawPtr.{Ptr}
use denote.Param.Members.{Once}
use denote.Ref.{Bor, MutBor}
use Rattle.std.specs.Box.Ownership.{box_owns}
use Rattle.std.specs.Coded.{coded_list}
use Rattle.std.specs.Global.{Global}
use Rattle.std_heap.specs.contracts.GlobalAllocator.TheImpl.{ghosts}
use Rattle.raw_subcode.specs.declared.form.Form.{Form}
use Rattle.raw_subcode.specs.declared.form.Form.TheVariants.{Raw, Cooked}
use Rattle.live_player.specs.contracts.live.LivePlayer.{the_row}
use Rattle.live_player.specs.declared.live.LivePlayer.{LivePlayer}
use Rattle.cdg_instructions.specs.Sizes.{screen_pixels, screen_width}
use Rattle.cdg_screen.specs.Standing.{Standing, blank, screen_pixel, standing_after}
use Rattle.live_player.specs.Lives.{Given, blocks_in, instruction_of, instructions_in, packs_given, picture_byte, picture_bytes, standing_on, HasPlayed, IsLiveView, IsLiveViewAt}

-- the memory that a handle owns: that of its player, if it has one
abbrev pub handle_owns : Global → Ptr → List LivePlayer → Fml
handle_owns alloc at [] = ftrue
handle_owns alloc at (player ∷ rest) = box_owns (ghosts.dealloc_token alloc) the_row at player

-- the coding of lists of players
abbrev pub players_coded : Coded (List LivePlayer)
players_coded = coded_list (the_row.coded)

-- there is one player: it began with a stream of this form and was given these inputs since, the last one first
abbrev pub IsPlaying : Form → ℕ → List Given → List LivePlayer → Type 0
IsPlaying form lead_in given players = (player : LivePlayer) × (players ≡ player ∷ [])
    × HasPlayed form lead_in given player

-- `goes` holds for the one player before and after a call.
abbrev pub PlayersGo : List LivePlayer → List LivePlayer → (LivePlayer → LivePlayer → Type 0) → Type 0
PlayersGo old new goes = (before : LivePlayer) × (after : LivePlayer)
    × (old ≡ before ∷ []) × (new ≡ after ∷ []) × goes before after

-- This is the screen of these blocks. For a raw stream it is also the screen at the end of the program so far.
pub record IsSeen (form : Form) (lead_in : ℕ) (blocks : List (List ℕ)) (now : Standing) : Type 0 where
  pub last : IsLiveView form lead_in blocks now
  pub so_far : form ≡ Raw → IsLiveViewAt Raw lead_in (length blocks - lead_in) blocks now

-- This is the screen of a player: what its inputs since it began draw, in order. If all inputs are blocks, it is the screen
-- of the blocks; if all are packs, it is what the packs draw.
pub record IsShownByPlayer (player : LivePlayer) (now : Standing) : Type 0 where
  pub stands : now ≡ standing_on player
  pub all : (form : Form) (lead_in : ℕ) (given : List Given) → HasPlayed form lead_in given player
      → now ≡ standing_after blank (instructions_in form lead_in given)
  pub blocks : (form : Form) (lead_in : ℕ) (given : List Given) → HasPlayed form lead_in given player
      → packs_given given ≡ [] → IsSeen form lead_in (blocks_in given) now
  pub packs : (form : Form) (lead_in : ℕ) (given : List Given) → HasPlayed form lead_in given player
      → blocks_in given ≡ [] → now ≡ standing_after blank (map instruction_of (packs_given given))

-- `property` holds for the screen of the one player.
abbrev pub PlayersShow : List LivePlayer → (Standing → Type 0) → Type 0
PlayersShow players property = (player : LivePlayer) → players ≡ player ∷ []
    → (now : Standing) × IsShownByPlayer player now × property now

-- a call of f with a `&` to a player with this screen, and a `&mut` to the old value, can leave the new value
pub record IsWrittenBy {F T : Type 0}
    (g : Once F (Bor LivePlayer × (MutBor T × Unit {0})) (Unit {0} × (MutBor T × Unit {0}))) (f : F)
    (old new : T) (now : Standing) : Type 0 where
  pub player : LivePlayer
  pub stands : now ≡ standing_on player
  pub seen : Bor LivePlayer
  pub seen_is : seen.now ≡ player
  pub room : MutBor T
  pub room_is : room.now ≡ old
  pub left : MutBor T
  pub called : g.post f (seen, (room, tt)) (tt, (left, tt))
  pub leaves : left.now ≡ new

-- These are the colour numbers of the screen's pixels, row by row.
abbrev pub IsScreen : List ℕ → Standing → Type 0
IsScreen pixels now = (n : ℕ) → n < screen_pixels
    → slice_index pixels n ≡ screen_pixel now (n % screen_width) (n / screen_width)

-- These are the colours of the table.
abbrev pub IsTable : List ℕ → Standing → Type 0
IsTable table now = (k : ℕ) → k < 16 → slice_index table k ≡ slice_index now.colours k

-- These are the levels of the colours.
abbrev pub AreLevels : List ℕ → Standing → Type 0
AreLevels levels now = (k : ℕ) → k < 16 → slice_index levels k ≡ slice_index now.levels k

-- These are red, green and blue of the screen's pixels, row by row.
abbrev pub ArePictureBytes : List ℕ → Standing → Type 0
ArePictureBytes bytes now = (n : ℕ) → n < picture_bytes → slice_index bytes n ≡ picture_byte now n

-- the form with a number: 0 a raw stream, 1 a stream of packs
abbrev pub form_of : ℕ → Form
form_of n = if n == 0 then Raw else Cooked
