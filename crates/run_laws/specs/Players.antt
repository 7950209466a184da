-- Players that are fed streams.
use Rattle.std.specs.Prelude.{◌≡◌, ℕ, List, []}
use Rattle.raw_subcode.specs.Channels.{blocks_of}
use Rattle.raw_subcode.specs.declared.form.Form.TheVariants.{Raw}
use Rattle.live_player.specs.Lives.{Given, blocks_in, packs_given}

-- A player was fed the blocks of a raw stream, in order, and no pack.
abbrev pub AreBlocksOf : List ℕ → List Given → Type 0
AreBlocksOf bytes given = (blocks_in given ≡ blocks_of Raw bytes) × (packs_given given ≡ [])
