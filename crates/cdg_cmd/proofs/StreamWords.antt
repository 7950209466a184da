-- The options that the words after the name of a command mean.
use Rattle.std.proofs.Common.{◌≡◌, ◌≢◌, ◌≤◌, ◌<◌, ◌^◌, ℕ, List, [], ◌∷◌, codes, bytes_eq, false, true, refl, sym, ap, ◌∙◌}
use Rattle.cdg_workload.specs.Script.{most_generated}
use Rattle.disc_time.specs.Counts.{most_lead_in, time_count}
use Rattle.raw_subcode.specs.declared.form.Form.{Form}
use Rattle.raw_subcode.specs.declared.form.Form.TheVariants.{Cooked}
use Rattle.cdg_cmd.specs.Words.{IsLeadInOption, IsLengths, IsMoment, IsScratchOptions, IsSeedOptions, IsStreamOptions, IsTimedOptions}
use Rattle.cdg_cmd.specs.Spelling.{Spells, command_name}
use Rattle.cdg_cmd.specs.declared.command.Command.{Command}
use Rattle.cdg_cmd.specs.declared.command.Command.TheVariants.{Convert, Screen, State, Check, Q, Text, Author, Planar, Raw, Scratch, Gen, Trial, Merge, Thin, Press, Save, Resume}

untrue : false ≡ true → ⊥
untrue e = (cc)

pub of_convert : (command : Command) (name : List ℕ) (rest : List (List ℕ)) → name ≡ codes "convert"
    → Spells command (name ∷ rest)
    → (lead_in : ℕ)
    × (form : Form)
    × (command ≡ Convert lead_in form)
    × (lead_in ≤ most_lead_in)
    × IsStreamOptions lead_in form rest
of_convert (Convert lead_in form) name rest same s = (lead_in, form, refl, s.1, s.2)
of_convert command name rest same s =
    absurd (untrue (ap (λ l. bytes_eq l (command_name command)) (sym same ∙ s.0)))

pub of_screen : (command : Command) (name : List ℕ) (rest : List (List ℕ)) → name ≡ codes "screen"
    → Spells command (name ∷ rest)
    → (lead_in : ℕ)
    × (form : Form)
    × (at : ℕ)
    × (command ≡ Screen lead_in form at)
    × (lead_in ≤ most_lead_in)
    × (at < time_count)
    × IsTimedOptions lead_in form at rest
of_screen (Screen lead_in form at) name rest same s = (lead_in, form, at, refl, s.1.0, s.1.1, s.2)
of_screen command name rest same s =
    absurd (untrue (ap (λ l. bytes_eq l (command_name command)) (sym same ∙ s.0)))

pub of_state : (command : Command) (name : List ℕ) (rest : List (List ℕ)) → name ≡ codes "state"
    → Spells command (name ∷ rest)
    → (lead_in : ℕ)
    × (form : Form)
    × (at : ℕ)
    × (command ≡ State lead_in form at)
    × (lead_in ≤ most_lead_in)
    × (at < time_count)
    × IsTimedOptions lead_in form at rest
of_state (State lead_in form at) name rest same s = (lead_in, form, at, refl, s.1.0, s.1.1, s.2)
of_state command name rest same s =
    absurd (untrue (ap (λ l. bytes_eq l (command_name command)) (sym same ∙ s.0)))

pub of_check : (command : Command) (name : List ℕ) (rest : List (List ℕ)) → name ≡ codes "check"
    → Spells command (name ∷ rest)
    → (lead_in : ℕ)
    × (form : Form)
    × (command ≡ Check lead_in form)
    × (lead_in ≤ most_lead_in)
    × IsStreamOptions lead_in form rest
of_check (Check lead_in form) name rest same s = (lead_in, form, refl, s.1, s.2)
of_check command name rest same s =
    absurd (untrue (ap (λ l. bytes_eq l (command_name command)) (sym same ∙ s.0)))

pub of_q : (command : Command) (name : List ℕ) (rest : List (List ℕ)) → name ≡ codes "q"
    → Spells command (name ∷ rest)
    → (lead_in : ℕ)
    × (form : Form)
    × (command ≡ Q lead_in form)
    × (lead_in ≤ most_lead_in)
    × (form ≢ Cooked)
    × IsStreamOptions lead_in form rest
of_q (Q lead_in form) name rest same s = (lead_in, form, refl, s.1.0, s.1.1, s.2)
of_q command name rest same s = absurd (untrue (ap (λ l. bytes_eq l (command_name command)) (sym same ∙ s.0)))

pub of_text : (command : Command) (name : List ℕ) (rest : List (List ℕ)) → name ≡ codes "text"
    → Spells command (name ∷ rest)
    → (lead_in : ℕ)
    × (form : Form)
    × (command ≡ Text lead_in form)
    × (lead_in ≤ most_lead_in)
    × (form ≢ Cooked)
    × IsStreamOptions lead_in form rest
of_text (Text lead_in form) name rest same s = (lead_in, form, refl, s.1.0, s.1.1, s.2)
of_text command name rest same s =
    absurd (untrue (ap (λ l. bytes_eq l (command_name command)) (sym same ∙ s.0)))

pub of_author : (command : Command) (name : List ℕ) (rest : List (List ℕ)) → name ≡ codes "author"
    → Spells command (name ∷ rest)
    → (lead_in : ℕ)
    × (length : ℕ)
    × (command ≡ Author lead_in length)
    × (lead_in ≤ most_lead_in)
    × (length < time_count)
    × IsLengths lead_in length rest
of_author (Author lead_in length) name rest same s = (lead_in, length, refl, s.1.0, s.1.1, s.2)
of_author command name rest same s =
    absurd (untrue (ap (λ l. bytes_eq l (command_name command)) (sym same ∙ s.0)))

pub of_press : (command : Command) (name : List ℕ) (rest : List (List ℕ)) → name ≡ codes "press"
    → Spells command (name ∷ rest)
    → (lead_in : ℕ)
    × (length : ℕ)
    × (command ≡ Press lead_in length)
    × (lead_in ≤ most_lead_in)
    × (length < time_count)
    × IsLengths lead_in length rest
of_press (Press lead_in length) name rest same s = (lead_in, length, refl, s.1.0, s.1.1, s.2)
of_press command name rest same s =
    absurd (untrue (ap (λ l. bytes_eq l (command_name command)) (sym same ∙ s.0)))

pub of_scratch : (command : Command) (name : List ℕ) (rest : List (List ℕ)) → name ≡ codes "scratch"
    → Spells command (name ∷ rest)
    → (lead_in : ℕ)
    × (seed : ℕ)
    × (command ≡ Scratch lead_in seed)
    × (lead_in ≤ most_lead_in)
    × (seed < 2 ^ 64)
    × IsScratchOptions lead_in seed rest
of_scratch (Scratch lead_in seed) name rest same s = (lead_in, seed, refl, s.1.0, s.1.1, s.2)
of_scratch command name rest same s =
    absurd (untrue (ap (λ l. bytes_eq l (command_name command)) (sym same ∙ s.0)))

pub of_gen : (command : Command) (name : List ℕ) (rest : List (List ℕ)) → name ≡ codes "gen"
    → Spells command (name ∷ rest)
    → (seed : ℕ)
    × (pictures : ℕ)
    × (command ≡ Gen seed pictures)
    × (seed < 2 ^ 64)
    × (1 ≤ pictures)
    × (pictures ≤ most_generated)
    × IsSeedOptions seed pictures rest
of_gen (Gen seed pictures) name rest same s = (seed, pictures, refl, s.1.0, s.1.1, s.1.2, s.2)
of_gen command name rest same s =
    absurd (untrue (ap (λ l. bytes_eq l (command_name command)) (sym same ∙ s.0)))

pub of_trial : (command : Command) (name : List ℕ) (rest : List (List ℕ)) → name ≡ codes "trial"
    → Spells command (name ∷ rest)
    → (seed : ℕ)
    × (pictures : ℕ)
    × (command ≡ Trial seed pictures)
    × (seed < 2 ^ 64)
    × (1 ≤ pictures)
    × (pictures ≤ most_generated)
    × IsSeedOptions seed pictures rest
of_trial (Trial seed pictures) name rest same s = (seed, pictures, refl, s.1.0, s.1.1, s.1.2, s.2)
of_trial command name rest same s =
    absurd (untrue (ap (λ l. bytes_eq l (command_name command)) (sym same ∙ s.0)))

pub of_merge : (command : Command) (name : List ℕ) (rest : List (List ℕ)) → name ≡ codes "merge"
    → Spells command (name ∷ rest)
    → (lead_in : ℕ) × (command ≡ Merge lead_in) × (lead_in ≤ most_lead_in) × IsLeadInOption lead_in rest
of_merge (Merge lead_in) name rest same s = (lead_in, refl, s.1, s.2)
of_merge command name rest same s =
    absurd (untrue (ap (λ l. bytes_eq l (command_name command)) (sym same ∙ s.0)))

pub of_save : (command : Command) (name : List ℕ) (rest : List (List ℕ)) → name ≡ codes "save"
    → Spells command (name ∷ rest)
    → (lead_in : ℕ) × (command ≡ Save lead_in) × (lead_in ≤ most_lead_in) × IsLeadInOption lead_in rest
of_save (Save lead_in) name rest same s = (lead_in, refl, s.1, s.2)
of_save command name rest same s =
    absurd (untrue (ap (λ l. bytes_eq l (command_name command)) (sym same ∙ s.0)))

pub of_resume : (command : Command) (name : List ℕ) (rest : List (List ℕ)) → name ≡ codes "resume"
    → Spells command (name ∷ rest)
    → (at : ℕ) × (command ≡ Resume at) × (at < time_count) × IsMoment at rest
of_resume (Resume at) name rest same s = (at, refl, s.1, s.2)
of_resume command name rest same s =
    absurd (untrue (ap (λ l. bytes_eq l (command_name command)) (sym same ∙ s.0)))

pub of_planar : (command : Command) (name : List ℕ) (rest : List (List ℕ)) → name ≡ codes "planar"
    → Spells command (name ∷ rest)
    → (command ≡ Planar) × (rest ≡ [])
of_planar Planar name rest same s = (refl, s.2)
of_planar command name rest same s =
    absurd (untrue (ap (λ l. bytes_eq l (command_name command)) (sym same ∙ s.0)))

pub of_raw : (command : Command) (name : List ℕ) (rest : List (List ℕ)) → name ≡ codes "raw"
    → Spells command (name ∷ rest)
    → (command ≡ Raw) × (rest ≡ [])
of_raw Raw name rest same s = (refl, s.2)
of_raw command name rest same s =
    absurd (untrue (ap (λ l. bytes_eq l (command_name command)) (sym same ∙ s.0)))

pub of_thin : (command : Command) (name : List ℕ) (rest : List (List ℕ)) → name ≡ codes "thin"
    → Spells command (name ∷ rest)
    → (command ≡ Thin) × (rest ≡ [])
of_thin Thin name rest same s = (refl, s.2)
of_thin command name rest same s =
    absurd (untrue (ap (λ l. bytes_eq l (command_name command)) (sym same ∙ s.0)))
