-- The standing after the inputs of a player.
use Rattle.std.proofs.Common.{◌≡◌, ℕ, ◌+◌, ◌-◌, ◌*◌, ◌^◌, ◌<◌, replicate, List, [], ◌∷◌, ◌++◌, length, map, take, drop, refl, ap, ap₂, ◌∙◌, subst, sym, arith, None, Some, length-append, length-drop}
use Rattle.std.specs.declared.option.Option.{Option}
use Rattle.std.specs.List.{flat_map}
use Rattle.std.proofs.lemmas.List.{take_all, map-append}
use Rattle.arrayvec.specs.ArrayVec.{ArrayVec}
use Rattle.cdg_io.specs.Run.{give}
use Rattle.cdg_io.proofs.Runs.{run_state-append}
use Rattle.rw_code.specs.Finding.{finding}
use Rattle.std.specs.Prelude.{min}
use Rattle.std.proofs.lemmas.List.Sums.{sum_by-append}
use Rattle.rw_interleave.specs.Interleave.{whole_packs}
use Rattle.rw_interleave.specs.Stream.{bad_count}
use Rattle.raw_subcode.specs.Channels.{symbols_of}
use Rattle.raw_subcode.specs.declared.form.Form.{Form}
use Rattle.raw_subcode.specs.declared.form.Form.TheVariants.{Raw}
use Rattle.cdg_instructions.specs.Meaning.{meaning}
use Rattle.cdg_instructions.specs.declared.instr.Instr.{Instr}
use Rattle.cdg_screen.specs.Standing.{IsWholeStanding, Standing, blank, standing_after}
use Rattle.cdg_screen.proofs.Turns.{blank_is_whole, in_turn, whole_after}
use Rattle.rw_code.specs.Codeword.{IsCodeword}
use Rattle.stream_stages.specs.Drawn.{entry_drawn}
use Rattle.stream_stages.specs.Screen.{AreMeant}
use Rattle.stream_stages.specs.Steps.{bad_next, fresh_words, words_next, words_give}
use Rattle.stream_stages.specs.declared.block_words.BlockWords.{BlockWords}
use Rattle.stream_stages.proofs.Slots.{Sized, sized_append, sized_drop, length-all_symbols}
use Rattle.stream_stages.proofs.StageRuns.{all_items, one_bad}
use Rattle.stream_stages.proofs.Recovers.{found_itself}
use Rattle.stream_stages.proofs.FormWords.{found_in, recovered}
use Rattle.stream_stages.proofs.Draws.{instrs_of, are_meant}
use Rattle.live_player.specs.Lives.{Given, HasPlayed, IsLiveView, IsLiveViewAt, bad_counted, bad_words_in, blocks_in, drawn_for, instruction_of, instructions_in, instructions_of, meant_by, packs_given, standing_on, stream_words, words_with, PlaysOn}
use Rattle.live_player.specs.Lives.Given.{Drawn, Fed}
use Rattle.live_player.specs.Steps.{DrawsPack, TakesBlock}
use Rattle.live_player.specs.declared.live.LivePlayer.{LivePlayer}
use Rattle.live_player.proofs.Words.{more_words, nothing_after, no_words_yet, words_come, words_go_on, words_of_stream}

-- ---- instructions of words

meant_same : (found : List (Option (List ℕ))) → meant_by found ≡ instrs_of found
meant_same [] = refl
meant_same (None ∷ rest) = meant_same rest
meant_same (Some word ∷ rest) = ap (λ l. meaning word ∷ l) (meant_same rest)

meant_append : (xs ys : List (Option (List ℕ))) → meant_by (xs ++ ys) ≡ meant_by xs ++ meant_by ys
meant_append [] ys = refl
meant_append (None ∷ xs) ys = meant_append xs ys
meant_append (Some word ∷ xs) ys = ap (λ l. meaning word ∷ l) (meant_append xs ys)

pub instructions_append : (words others : List (List ℕ))
    → instructions_of (words ++ others) ≡ instructions_of words ++ instructions_of others
instructions_append words others =
    ap meant_by (map-append finding words others) ∙ meant_append (map finding words) (map finding others)

-- ---- a block

pub bad_append : (fs gs : List (Option (List ℕ))) → bad_count (fs ++ gs) ≡ bad_count fs + bad_count gs
bad_append fs gs = sum_by-append _ fs gs

-- the finding for a word is drawn
pub entry_meant : (now : Standing) (found : Option (List ℕ)) → IsWholeStanding now
    → entry_drawn now found ≡ standing_after now (meant_by (found ∷ []))
entry_meant now None whole = sym whole
entry_meant now (Some codeword) whole = refl

-- one more word
pub word_drawn : (start old new : Standing) (words : List (List ℕ)) (word : List ℕ)
    → old ≡ standing_after start (instructions_of words) → new ≡ entry_drawn old (finding word)
    → new ≡ standing_after start (instructions_of (words ++ word ∷ []))
word_drawn start old new words word done step =
    let whole : IsWholeStanding old =
    subst IsWholeStanding (sym done) (whole_after start (instructions_of words)) in
    step
    ∙ entry_meant old (finding word) whole
    ∙ ap (λ now. standing_after now (instructions_of (word ∷ []))) done
    ∙ sym (in_turn start (instructions_of words) (instructions_of (word ∷ [])))
    ∙ ap (standing_after start) (sym (instructions_append words (word ∷ [])))

pub word_counted : (old new : ℕ) (words : List (List ℕ)) (word : List ℕ)
    → old ≡ bad_count (map finding words) → old + 1 < 2 ^ 32 → new ≡ bad_next old word
    → new ≡ bad_count (map finding (words ++ word ∷ []))
unfolding bad_next
word_counted old new words word done fits step =
    step
    ∙ one_bad old (finding word) fits
    ∙ ap (λ n. n + bad_count (finding word ∷ [])) done
    ∙ sym (bad_append (map finding words) (finding word ∷ []))
    ∙ ap bad_count (sym (map-append finding words (word ∷ [])))

-- four idle words
pub idle_words_drawn : (now : Standing) → IsWholeStanding now → IsCodeword (replicate 24 0)
    → now ≡ standing_after now (instructions_of (replicate 4 (replicate 24 0)))
unfolding meaning
idle_words_drawn now whole is =
    sym whole
    ∙ ap (λ (o : Option (List ℕ)). standing_after now (meant_by (o ∷ o ∷ o ∷ o ∷ [])))
    (found_itself (replicate 24 0) is)

pub idle_words_counted : IsCodeword (replicate 24 0)
    → 0 ≡ bad_count (map finding (replicate 4 (replicate 24 0)))
idle_words_counted is =
    ap (λ (o : Option (List ℕ)). bad_count (o ∷ o ∷ o ∷ o ∷ [])) (found_itself (replicate 24 0) is)

pub idle_bad : (bad : ℕ) → bad < 2 ^ 32 → IsCodeword (replicate 24 0)
    → bad ≡ bad_counted bad (Some (record { items = replicate 4 (replicate 24 0) }))
idle_bad bad fits is = omega (arith, fits, idle_words_counted is)

-- the bad words so far, and those that end with a block
items_counted : (o : Option (ArrayVec (List ℕ))) (old before : ℕ) → old ≡ min before (2 ^ 32 - 1)
    → bad_counted old o ≡ min (before + bad_count (map finding (all_items (give o [])))) (2 ^ 32 - 1)
items_counted None old before is = let none : bad_count (map finding (all_items [])) ≡ 0 = refl in
    omega (arith, is, none)
items_counted (Some words) old before is =
    let same : bad_count (map finding (all_items (words ∷ []))) ≡ bad_count (map finding words.items) =
    ap (λ ws. bad_count (map finding ws)) (nothing_after words.items) in
    omega (arith, is, same)

pub nothing_drawn : (now : Standing) (s : BlockWords) (block : List ℕ) → IsWholeStanding now
    → None ≡ words_give s block
    → now ≡ standing_after now (drawn_for (words_give s block))
nothing_drawn now s block whole gave = sym whole ∙ ap (λ o. standing_after now (drawn_for o)) gave

items_drawn : (o : Option (ArrayVec (List ℕ))) → drawn_for o ≡ instructions_of (all_items (give o []))
items_drawn None = refl
items_drawn (Some words) = ap instructions_of (sym (nothing_after words.items))

-- ---- the inputs of a player

-- a block draws the instructions of the words that end with it
pub drawn_with : (form : Form) (lead_in : ℕ) (given : List Given) (block : List ℕ) (player : LivePlayer)
    → length block ≡ 96 → HasPlayed form lead_in given player
    → drawn_for (words_give player.words block)
    ≡ instructions_of (words_with form lead_in (blocks_in given) block)
drawn_with form lead_in given block player size played =
    items_drawn (words_give player.words block)
    ∙ ap instructions_of
    (sym (words_come form lead_in (blocks_in given) block player.words size played.sized played.gathers))

pub fed_more : (form : Form) (lead_in : ℕ) (given : List Given) (block : List ℕ) (old new : LivePlayer)
    → length block ≡ 96 → new.words ≡ words_next old.words block
    → standing_on new ≡ standing_after (standing_on old) (drawn_for (words_give old.words block))
    → new.lead_in ≡ old.lead_in → new.blocks ≡ min (old.blocks + 1) (2 ^ 32 - 1)
    → new.bad ≡ bad_counted old.bad (words_give old.words block)
    → HasPlayed form lead_in given old → HasPlayed form lead_in (Fed block ∷ given) new
fed_more form lead_in given block old new size next draws begun counted bad played =
    let more : bad_words_in form lead_in (blocks_in given ++ block ∷ [])
    ≡ bad_words_in form lead_in (blocks_in given)
    + bad_count (map finding (all_items (give (words_give old.words block) []))) =
    ap (λ ws. bad_count (map finding ws))
    (more_words form lead_in (blocks_in given) block old.words size played.sized played.gathers)
    ∙ ap bad_count (map-append finding (stream_words form lead_in (blocks_in given))
    (all_items (give (words_give old.words block) [])))
    ∙ bad_append (map finding (stream_words form lead_in (blocks_in given)))
    (map finding (all_items (give (words_give old.words block) []))) in
    let came : drawn_for (words_give old.words block)
    ≡ instructions_of (words_with form lead_in (blocks_in given) block) =
    drawn_with form lead_in given block old size played in
    record {
      sized = sized_append 96 (blocks_in given) (block ∷ []) played.sized (size, tt);
      gathers =
          next
          ∙ ap (λ w. words_next w block) played.gathers
          ∙ sym (run_state-append words_next (fresh_words form lead_in) (blocks_in given) (block ∷ []));
      stands = draws ∙ ap₂ (λ now instrs. standing_after now instrs) played.stands came
          ∙ sym (in_turn blank (instructions_in form lead_in given)
          (instructions_of (words_with form lead_in (blocks_in given) block)));
      begun = begun ∙ played.begun;
      counted = omega (arith, counted, played.counted, length-append (blocks_in given) (block ∷ []));
      bad =
          bad
          ∙ items_counted (words_give old.words block) old.bad (bad_words_in form lead_in (blocks_in given))
          played.bad
          ∙ ap (λ n. min n (2 ^ 32 - 1)) (sym more);
    }

pub drawn_more : (form : Form) (lead_in : ℕ) (given : List Given) (pack : List ℕ) (old new : LivePlayer)
    → new.words ≡ old.words
    → standing_on new ≡ standing_after (standing_on old) (instruction_of pack ∷ [])
    → new.lead_in ≡ old.lead_in → new.blocks ≡ old.blocks → new.bad ≡ old.bad
    → HasPlayed form lead_in given old
    → HasPlayed form lead_in (Drawn pack ∷ given) new
drawn_more form lead_in given pack old new same draws begun counted bad played = record {
  sized = played.sized;
  gathers = same ∙ played.gathers;
  stands =
      draws
      ∙ ap (λ now. standing_after now (instruction_of pack ∷ [])) played.stands
      ∙ sym (in_turn blank (instructions_in form lead_in given) (instruction_of pack ∷ []));
  begun = begun ∙ played.begun;
  counted = counted ∙ played.counted;
  bad = bad ∙ played.bad;
}

-- the instructions of a block follow the earlier ones
pub drawn_next : (form : Form) (lead_in : ℕ) (given : List Given) (block : List ℕ) (player : LivePlayer)
    → length block ≡ 96 → HasPlayed form lead_in given player
    → instructions_in form lead_in (Fed block ∷ given)
    ≡ instructions_in form lead_in given ++ drawn_for (words_give player.words block)
drawn_next form lead_in given block player size played =
    ap (λ (l : List Instr). instructions_in form lead_in given ++ l)
    (sym (drawn_with form lead_in given block player size played))

-- a player feeds a block or draws a pack, after any earlier inputs
pub fed_on : (block : List ℕ) (old new : LivePlayer) → length block ≡ 96 → TakesBlock block old new
    → PlaysOn (Fed block ∷ []) old new
fed_on block old new size takes form lead_in given played =
    fed_more form lead_in given block old new size takes.gathers takes.draws takes.lead_in takes.counts
    takes.bad
    played

pub drawn_on : (pack : List ℕ) (old new : LivePlayer) → DrawsPack pack old new
    → PlaysOn (Drawn pack ∷ []) old new
drawn_on pack old new draws form lead_in given played =
    drawn_more form lead_in given pack old new draws.gathers draws.draws draws.lead_in draws.counts draws.bad
    played

pub begun : (form : Form) (lead_in : ℕ) (player : LivePlayer) → player.words ≡ fresh_words form lead_in
    → standing_on player ≡ blank
    → player.lead_in ≡ lead_in → player.blocks ≡ 0 → player.bad ≡ 0 → HasPlayed form lead_in [] player
begun form lead_in player words zero lead_in_is none none_bad =
    let nothing : bad_words_in form lead_in [] ≡ 0 =
    ap (λ ws. bad_count (map finding ws)) (no_words_yet form lead_in) in
    record {
      sized = tt;
      gathers = words;
      stands = zero ∙ sym blank_is_whole;
      begun = lead_in_is;
      counted = omega (arith, none);
      bad = omega (arith, none_bad, nothing);
    }

-- ---- only blocks, and only packs

sized_before : (xs : List (List ℕ)) (x : List ℕ) → Sized 96 (xs ++ x ∷ []) → Sized 96 xs × (length x ≡ 96)
sized_before [] x sized = (tt, sized.0)
sized_before (y ∷ ys) x sized = let rest = sized_before ys x sized.1 in ((sized.0, rest.0), rest.1)

not_none : {A : Type 0} (xs : List A) (x : A) → xs ++ x ∷ [] ≡ [] → ⊥
not_none {A} xs x none = omega (arith, length-append xs (x ∷ []), ap (λ (l : List A). length l) none)

all_drawn : (form : Form) (lead_in : ℕ) (given : List Given) → Sized 96 (blocks_in given)
    → packs_given given ≡ []
    → instructions_in form lead_in given ≡ instructions_of (stream_words form lead_in (blocks_in given))
all_drawn form lead_in [] sized none = ap instructions_of (sym (no_words_yet form lead_in))
all_drawn form lead_in (Fed block ∷ before) sized none =
    let parts = sized_before (blocks_in before) block sized in
    ap (λ l. l ++ instructions_of (words_with form lead_in (blocks_in before) block))
    (all_drawn form lead_in before parts.0 none)
    ∙ sym (instructions_append (stream_words form lead_in (blocks_in before))
    (words_with form lead_in (blocks_in before) block))
    ∙ ap instructions_of (sym (words_go_on form lead_in (blocks_in before) block parts.1 parts.0))
all_drawn form lead_in (Drawn pack ∷ before) sized none = absurd (not_none (packs_given before) pack none)

packs_drawn : (form : Form) (lead_in : ℕ) (given : List Given) → blocks_in given ≡ []
    → instructions_in form lead_in given ≡ map instruction_of (packs_given given)
packs_drawn form lead_in [] none = refl
packs_drawn form lead_in (Fed block ∷ before) none = absurd (not_none (blocks_in before) block none)
packs_drawn form lead_in (Drawn pack ∷ before) none =
    ap (λ l. l ++ instruction_of pack ∷ []) (packs_drawn form lead_in before none)
    ∙ sym (map-append instruction_of (packs_given before) (pack ∷ []))

pub live_view : (form : Form) (lead_in : ℕ) (given : List Given) (player : LivePlayer)
    → HasPlayed form lead_in given player
    → packs_given given ≡ [] → IsLiveView form lead_in (blocks_in given) (standing_on player)
live_view form lead_in given player played none =
    let blocks : List (List ℕ) = blocks_in given in
    let found : List (Option (List ℕ)) = found_in form (drop lead_in blocks) in
    let words = words_of_stream form lead_in blocks played.sized in
    record {
      found = found;
      recovered = recovered form (drop lead_in blocks) (sized_drop 96 lead_in blocks played.sized);
      instrs = instrs_of found;
      meant = are_meant found;
      stands = played.stands ∙ ap (standing_after blank) (all_drawn form lead_in given played.sized none
          ∙ meant_same (map finding (stream_words form lead_in blocks))
          ∙ ap (λ ws. instrs_of (map finding ws)) (sym words));
    }

-- in a raw stream, the packs so far are those that are complete in the program
pub live_view_now : (lead_in : ℕ) (given : List Given) (player : LivePlayer)
    → HasPlayed Raw lead_in given player → packs_given given ≡ []
    → IsLiveViewAt Raw lead_in (length (blocks_in given) - lead_in) (blocks_in given) (standing_on player)
live_view_now lead_in given player played none =
    let blocks : List (List ℕ) = blocks_in given in
    let view : IsLiveView Raw lead_in blocks (standing_on player) =
    live_view Raw lead_in given player played none in
    let n : ℕ = length blocks - lead_in in
    let program : List (List ℕ) = drop lead_in blocks in
    let symbols : length (flat_map symbols_of program) ≡ 96 * length program =
    length-all_symbols program (sized_drop 96 lead_in blocks played.sized) in
    let count : length view.found ≡ whole_packs n =
    view.recovered.count ∙ ap whole_packs (omega (arith, symbols, length-drop lead_in blocks)) in
    let all : take (whole_packs n) view.found ≡ view.found =
    take_all (whole_packs n) view.found (omega (arith, count)) in
    record {
      found = view.found;
      recovered = view.recovered;
      instrs = view.instrs;
      shown = subst (λ (l : List (Option (List ℕ))). AreMeant l view.instrs) (sym all) view.meant;
      stands = view.stands;
    }

pub packs_view : (form : Form) (lead_in : ℕ) (given : List Given) (player : LivePlayer)
    → HasPlayed form lead_in given player → blocks_in given ≡ []
    → standing_on player ≡ standing_after blank (map instruction_of (packs_given given))
packs_view form lead_in given player played none =
    played.stands ∙ ap (standing_after blank) (packs_drawn form lead_in given none)
