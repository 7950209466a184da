-- How each command is spelled.
use Rattle.std.specs.Prelude.{◌≡◌, ℕ, List, [], ◌∷◌, IfSome, Option, Some}
use Rattle.cdg_cmd.specs.Profile.{profile}
use Rattle.cdg_cmd.specs.declared.command.Command.{Command}

-- A command has allowed numbers and an allowed form.
abbrev pub IsAllowed : Command → Type 0
IsAllowed command = (profile command).allowed

-- the name of a command
abbrev pub command_name : Command → List ℕ
command_name command = (profile command).name

-- The words spell an allowed command: its name, and then its options.
abbrev pub Spells : Command → List (List ℕ) → Type 0
Spells command [] = ⊥
Spells command (name ∷ options) = (name ≡ command_name command) × IsAllowed command
    × (profile command).options options

-- A name and options are read as the command that they spell, or as none if they spell none.
abbrev pub ReadsCommand : List ℕ → List (List ℕ) → Option Command → Type 0
ReadsCommand name options found = IfSome found (λ command. Spells command (name ∷ options))
    × ((command : Command) → Spells command (name ∷ options) → found ≡ Some command)
