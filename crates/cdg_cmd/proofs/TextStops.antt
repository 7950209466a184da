-- Why a text is refused: there is one reason, and none if its grammar reads it.
use Rattle.std.proofs.Common.{◌≡◌, ◌⊎◌, ◌<◌, ◌≤◌, ℕ, List, length, Result, Ok, Err, None, Some, IfSome, refl, sym, ap, ◌∙◌, inl, inr, arith, length-append}
use Rattle.std.specs.Io.KnownBytes.{Consumes, IsAtEnd}
use Rattle.std.proofs.KnownBytes.{Consumes-kept}
use Rattle.cdg_io.specs.Moves.{ConsumesBelow}
use Rattle.cdg_io.specs.Whole.{ReadsWithin, StopsAtFault}
use Rattle.cue_sheet.specs.CueSheet.{CueSheet}
use Rattle.cue_sheet.specs.Grammar.{read_cue}
use Rattle.picture_script.specs.Script.{Drawing}
use Rattle.picture_script.specs.ScriptGrammar.{read_script}
use Rattle.text_lines.specs.Text.{most_text_bytes}
use Rattle.cdg_cmd.specs.Authors.{IsScriptStop, IsScriptText, IsSheetStop, IsSheetText, IsStopped}
use Rattle.cdg_io.specs.Change.{Bytes}
use Rattle.cdg_cmd.specs.declared.status.Refusal.{Refusal}
use Rattle.cdg_cmd.specs.declared.status.Refusal.TheVariants.{Torn, TooLong, PastEnd, Cue, Script, LengthShort, DiscTooLong, LeadInShort, TextTooLong, TextMissing, TextNoSize, TextMalformed, SecondTorn, Unequal, PackTorn, Gap, CdgTooLong, BadSave, BeforeSave}
use Rattle.cdg_cmd.specs.declared.status.Status.{Status}
use Rattle.cdg_cmd.specs.declared.status.Status.TheVariants.{Done, Damaged, Usage, Refused, Late, ReadFault, WriteFault, NoMemory}

-- the bytes before a failed read are all that was consumed
pub taken_at_fault : {S : Type 0} (left : S → Bytes) (faults : S → ℕ) (most n : ℕ) (before after : S)
    → most < n
    → StopsAtFault left faults most before after → ConsumesBelow (left before) (left after) n
taken_at_fault left faults most n before after below stop =
    (stop.taken, omega (arith, stop.within, below), Consumes-kept _ _ _ _ stop.took stop.nothing)

within : (left left' : Bytes) (taken : List ℕ) (most : ℕ) → Consumes left left' taken → IsAtEnd left'
    → length taken ≤ most → IfSome left (λ text. length text ≤ most)
within None left' taken most took end few = tt
within (Some text) None taken most took end few = absurd took
within (Some text) (Some rest) taken most took end few =
    omega (arith, few, ap length took, length-append taken rest, ap length end)

-- an input that ended within the limit is not too long
pub known_within : {S : Type 0} (left : S → Bytes) (most : ℕ) (before after : S)
    → ReadsWithin left most before after → IfSome (left before) (λ text. length text ≤ most)
known_within left most before after read =
    within (left before) (left after) read.taken most read.took read.end read.within

both_answers : {A E : Type 0} (r : Result A E) (a : A) (e : E) → r ≡ Ok a → r ≡ Err e → ⊥
both_answers r a e ok err = (cc)

same_fault : {A E : Type 0} (r : Result A E) (a b : E) → r ≡ Err a → r ≡ Err b → a ≡ b
same_fault r a b first second = (cc)

-- a text is too long, or a line of it is refused
abbrev IsRefusal : {W S : Type 0} → (ℕ → W → Refusal) → (List ℕ → Result S (ℕ × W)) → List ℕ → Refusal
    → Type 0
IsRefusal {W} {S} named read text r =
    ((r ≡ TooLong) × (most_text_bytes < length text))
    ⊎ ((line : ℕ)
    × (why : W)
    × (r ≡ named line why)
    × (length text ≤ most_text_bytes)
    × (read text ≡ Err (line, why)))

one_refusal : {W S : Type 0} (named : ℕ → W → Refusal) (read : List ℕ → Result S (ℕ × W)) (text : List ℕ)
    (r q : Refusal) → IsRefusal named read text r → IsRefusal named read text q
    → r ≡ q
one_refusal named read text r q (inl a) (inl b) = a.0 ∙ sym b.0
one_refusal named read text r q (inl a) (inr (line, why, is, short, refused)) =
    absurd (omega (arith, a.1, short))
one_refusal named read text r q (inr (line, why, is, short, refused)) (inl b) =
    absurd (omega (arith, b.1, short))
one_refusal {W} named read text r q (inr (line, why, is, short, refused))
    (inr (line', why', is', short', refused')) =
    is
    ∙ ap (λ (p : ℕ × W). named p.0 p.1) (same_fault (read text) (line, why) (line', why') refused refused')
    ∙ sym is'

no_refusal : {W S : Type 0} (named : ℕ → W → Refusal) (read : List ℕ → Result S (ℕ × W)) (text : List ℕ)
    (r : Refusal) (s : S) → length text ≤ most_text_bytes → read text ≡ Ok s
    → IsRefusal named read text r → ⊥
no_refusal named read text r s within reads (inl a) = omega (arith, a.1, within)
no_refusal named read text r s within reads (inr (line, why, is, short, refused)) =
    both_answers (read text) s (line, why) reads refused

sheet_refusal : (text : List ℕ) (r : Refusal) → IsSheetStop (Some text) (Refused r)
    → IsRefusal Cue read_cue text r
sheet_refusal text TooLong s = inl (refl, s)
sheet_refusal text (Cue line why) s = inr (line, why, refl, s.0, s.1)
sheet_refusal text (Torn block) s = absurd s
sheet_refusal text (PastEnd blocks) s = absurd s
sheet_refusal text (LengthShort need) s = absurd s
sheet_refusal text (DiscTooLong blocks) s = absurd s
sheet_refusal text (LeadInShort need) s = absurd s
sheet_refusal text (TextTooLong packs) s = absurd s
sheet_refusal text (TextMissing seq) s = absurd s
sheet_refusal text TextNoSize s = absurd s
sheet_refusal text (TextMalformed seq byte) s = absurd s
sheet_refusal text (Script line why) s = absurd s
sheet_refusal text (SecondTorn block) s = absurd s
sheet_refusal text (Unequal blocks) s = absurd s
sheet_refusal text (PackTorn pack) s = absurd s
sheet_refusal text (Gap track) s = absurd s
sheet_refusal text (CdgTooLong packs room) s = absurd s
sheet_refusal text (BadSave byte) s = absurd s
sheet_refusal text (BeforeSave blocks) s = absurd s

script_refusal : (text : List ℕ) (r : Refusal) → IsScriptStop (Some text) (Refused r)
    → IsRefusal Script read_script text r
script_refusal text TooLong s = inl (refl, s)
script_refusal text (Script line why) s = inr (line, why, refl, s.0, s.1)
script_refusal text (Torn block) s = absurd s
script_refusal text (PastEnd blocks) s = absurd s
script_refusal text (LengthShort need) s = absurd s
script_refusal text (DiscTooLong blocks) s = absurd s
script_refusal text (LeadInShort need) s = absurd s
script_refusal text (TextTooLong packs) s = absurd s
script_refusal text (TextMissing seq) s = absurd s
script_refusal text TextNoSize s = absurd s
script_refusal text (TextMalformed seq byte) s = absurd s
script_refusal text (Cue line why) s = absurd s
script_refusal text (SecondTorn block) s = absurd s
script_refusal text (Unequal blocks) s = absurd s
script_refusal text (PackTorn pack) s = absurd s
script_refusal text (Gap track) s = absurd s
script_refusal text (CdgTooLong packs room) s = absurd s
script_refusal text (BadSave byte) s = absurd s
script_refusal text (BeforeSave blocks) s = absurd s

pub one_sheet_stop : (text : List ℕ) (r q : Refusal) → IsSheetStop (Some text) (Refused r)
    → IsSheetStop (Some text) (Refused q)
    → r ≡ q
one_sheet_stop text r q a b =
    one_refusal Cue read_cue text r q (sheet_refusal text r a) (sheet_refusal text q b)

pub one_script_stop : (text : List ℕ) (r q : Refusal) → IsScriptStop (Some text) (Refused r)
    → IsScriptStop (Some text) (Refused q)
    → r ≡ q
one_script_stop text r q a b =
    one_refusal Script read_script text r q (script_refusal text r a) (script_refusal text q b)

pub no_sheet_stop : (text : List ℕ) (r : Refusal) (sheet : CueSheet) → IsSheetText text sheet
    → IsSheetStop (Some text) (Refused r)
    → ⊥
no_sheet_stop text r sheet is s =
    no_refusal Cue read_cue text r sheet is.within is.reads (sheet_refusal text r s)

pub no_script_stop : (text : List ℕ) (r : Refusal) (script : List Drawing) → IsScriptText text script
    → IsScriptStop (Some text) (Refused r)
    → ⊥
no_script_stop text r script is s =
    no_refusal Script read_script text r script is.within is.reads (script_refusal text r s)

-- a status at a text: a read failed, no memory was found, or the text is refused
pub sheet_status : (text : List ℕ) (status : Status) → IsSheetStop (Some text) status
    → IsStopped status ⊎ ((r : Refusal) × (status ≡ Refused r) × IsSheetStop (Some text) (Refused r))
sheet_status text Done s = absurd s
sheet_status text (Damaged n) s = absurd s
sheet_status text Usage s = absurd s
sheet_status text (Refused r) s = inr (r, refl, s)
sheet_status text (Late picture need free) s = absurd s
sheet_status text (ReadFault which) s = inl tt
sheet_status text WriteFault s = absurd s
sheet_status text NoMemory s = inl tt

pub script_status : (text : List ℕ) (status : Status) → IsScriptStop (Some text) status
    → IsStopped status ⊎ ((r : Refusal) × (status ≡ Refused r) × IsScriptStop (Some text) (Refused r))
script_status text Done s = absurd s
script_status text (Damaged n) s = absurd s
script_status text Usage s = absurd s
script_status text (Refused r) s = inr (r, refl, s)
script_status text (Late picture need free) s = absurd s
script_status text (ReadFault which) s = inl tt
script_status text WriteFault s = absurd s
script_status text NoMemory s = inl tt

-- a text that its grammar reads is not refused
pub sheet_stopped : (text : List ℕ) (sheet : CueSheet) (status : Status) → IsSheetText text sheet
    → IsSheetStop (Some text) status
    → IsStopped status
sheet_stopped text sheet status is s = elim (sheet_status text status s) [
  | inl stopped ↦ stopped
  | inr (r, same, refused) ↦ absurd (no_sheet_stop text r sheet is refused)
]

pub script_stopped : (text : List ℕ) (script : List Drawing) (status : Status) → IsScriptText text script
    → IsScriptStop (Some text) status
    → IsStopped status
script_stopped text script status is s = elim (script_status text status s) [
  | inl stopped ↦ stopped
  | inr (r, same, refused) ↦ absurd (no_script_stop text r script is refused)
]
