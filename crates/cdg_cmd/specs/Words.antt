-- The words of a command line, and the options of a stream.
use Rattle.std.specs.Prelude.{◌≡◌, ◌⊎◌, ℕ, List, [], ◌∷◌, ◌++◌, map, String, string_bytes, codes, decimal}
use Rattle.disc_time.specs.Time.{time_text}
use Rattle.raw_subcode.specs.declared.form.Form.{Form}
use Rattle.raw_subcode.specs.declared.form.Form.TheVariants.{Raw, Sector, Cooked}

-- the bytes of each word
abbrev pub texts : {A : Type 0} → List (String A) → List (List ℕ)
texts words = map string_bytes words

-- the name of a form
abbrev pub form_name : Form → List ℕ
form_name Raw = codes "raw"
form_name Sector = codes "sector"
form_name Cooked = codes "cooked"

-- These words are the option of a form. No words mean raw.
abbrev pub IsFormOption : Form → List (List ℕ) → Type 0
IsFormOption form options = (options ≡ codes "--form" ∷ form_name form ∷ []) ⊎ ((form ≡ Raw) × (options ≡ []))

-- These words are the options of a stream: its lead-in and its form.
abbrev pub IsStreamOptions : ℕ → Form → List (List ℕ) → Type 0
IsStreamOptions lead_in form words = (rest : List (List ℕ)) × IsFormOption form rest
    × (words ≡ codes "--lead-in" ∷ decimal lead_in ∷ rest)

-- These words are the options of a stream, and then a moment of it.
abbrev pub IsTimedOptions : ℕ → Form → ℕ → List (List ℕ) → Type 0
IsTimedOptions lead_in form at words = (options : List (List ℕ)) × IsStreamOptions lead_in form options
    × (words ≡ options ++ codes "--at" ∷ time_text at ∷ [])

-- These words are the option of a lead-in.
abbrev pub IsLeadInOption : ℕ → List (List ℕ) → Type 0
IsLeadInOption lead_in options = options ≡ codes "--lead-in" ∷ decimal lead_in ∷ []

-- These words are the option of a moment.
abbrev pub IsMoment : ℕ → List (List ℕ) → Type 0
IsMoment at options = options ≡ codes "--at" ∷ time_text at ∷ []

-- These words are the lengths of a lead-in and of an audio.
abbrev pub IsLengths : ℕ → ℕ → List (List ℕ) → Type 0
IsLengths lead_in length options =
    options ≡ codes "--lead-in" ∷ decimal lead_in ∷ codes "--length" ∷ time_text length ∷ []

-- These words are a seed and a number of pictures.
abbrev pub IsSeedOptions : ℕ → ℕ → List (List ℕ) → Type 0
IsSeedOptions seed pictures options =
    options ≡ codes "--seed" ∷ decimal seed ∷ codes "--pictures" ∷ decimal pictures ∷ []

-- These words are a lead-in and the seed of its scratches.
abbrev pub IsScratchOptions : ℕ → ℕ → List (List ℕ) → Type 0
IsScratchOptions lead_in seed options =
    options ≡ codes "--lead-in" ∷ decimal lead_in ∷ codes "--seed" ∷ decimal seed ∷ []
