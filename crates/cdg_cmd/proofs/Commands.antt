-- Commands that are found, or none.
use Rattle.std.proofs.Common.{◌≡◌, ◌==◌, ℕ, IfSome, Some, None, List, [], ◌∷◌, String, string_bytes, length, rules, true, false, refl, sym, subst, ap, ◌∙◌}
use Rattle.cdg_cmd.specs.Spelling.{ReadsCommand, Spells}
use Rattle.cdg_cmd.specs.Words.{texts}
use Rattle.std.specs.declared.option.Option.{Option}
use Rattle.cdg_cmd.specs.declared.command.Command.{Command}

pub same_command : (a b : Command) → Some a ≡ Some b → a ≡ b
same_command a b e = (cc)

pub no_command : (a : Command) → ◌≡◌ {A = Option Command} None (Some a) → ⊥
no_command a e = (cc)

-- the command from the options that were read is the command from the expected options
pub made : {O : Type 0} (make : O → Command) (found wanted : O) (command : Command) → Some found ≡ Some wanted
    → command ≡ make wanted → Some (make found) ≡ Some command
made make found wanted command e is = (cc)

pub none_made : {O : Type 0} (wanted : O) → ◌≡◌ {A = Option O} None (Some wanted) → ⊥
none_made wanted e = (cc)

apart : true ≡ false → ⊥
apart e = (cc)

-- a list of words is empty if and only if the list of their texts is empty
pub no_texts : {A : Type 0} (words : List (String A)) → true ≡ (length words == 0) → texts words ≡ []
no_texts [] e = refl
no_texts (w ∷ ws) e = (search rules)

pub some_texts : {A : Type 0} (words : List (String A)) → false ≡ (length words == 0) → texts words ≡ [] → ⊥
some_texts [] e none = absurd (apart (sym e))
some_texts (w ∷ ws) e none = (cc)

-- what is read for a name is read for an equal name
pub named : (name spelling : List ℕ) (options : List (List ℕ)) (found : Option Command) → name ≡ spelling
    → ReadsCommand spelling options found
    → ReadsCommand name options found
named name spelling options found same reads = subst (λ n. ReadsCommand n options found) (sym same) reads

-- what is read for the first word and the rest is read for the whole line
pub whole_line : {A : Type 0} (words options : List (String A)) (first : String A) (name : List ℕ)
    (found : Option Command) → words ≡ first ∷ options → name ≡ string_bytes first
    → ReadsCommand name (texts options) found
    → IfSome found (λ command. Spells command (texts words))
    × ((command : Command) → Spells command (texts words) → found ≡ Some command)
whole_line words options first name found split same reads =
    let line : texts words ≡ name ∷ texts options =
    ap (λ (ws : List (String _)). texts ws) split ∙ ap (λ (n : List ℕ). n ∷ texts options) (sym same) in
    subst (λ (ws : List (List ℕ)). IfSome found (λ command. Spells command ws)
    × ((command : Command) → Spells command ws → found ≡ Some command)) (sym line) reads
