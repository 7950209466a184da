-- A block of four idle packs changes nothing in the report of changes.
use Rattle.std.proofs.Common.{◌≡◌, ℕ, ◌≤◌, ◌∷◌, [], List, max, min, replicate, sym, ap, ◌∙◌, arith}
use Rattle.std.specs.declared.option.Option.{Option}
use Rattle.cdg_io.specs.Run.{run_state}
use Rattle.cdg_instructions.specs.Meaning.{meaning}
use Rattle.cdg_instructions.specs.declared.instr.Instr.{Instr}
use Rattle.cdg_instructions.specs.declared.instr.Instr.TheVariants.{Idle}
use Rattle.rw_code.specs.Codeword.{IsCodeword}
use Rattle.stream_stages.proofs.Recovers.{found_itself}
use Rattle.live_player.specs.Changes.{join, no_change, sees, IsWithinScreen}
use Rattle.live_player.specs.Lives.{instructions_of, meant_by}
use Rattle.live_player.specs.declared.change.ScreenChange.{ScreenChange}
use Rattle.live_player.specs.declared.watch.Watch.{Watch}

least : (a b : ℕ) → a ≤ b → min a b ≡ a
least a b le = omega (arith, le)

most : (a : ℕ) → max a 0 ≡ a
most a = omega arith

joined : (change : ScreenChange) → IsWithinScreen change → join change no_change ≡ change
joined change within = λ i. record {
  left = least change.left 300 within.0 i;
  top = least change.top 216 within.1 i;
  right = most change.right i;
  bottom = most change.bottom i;
  colours = most change.colours i;
  levels = most change.levels i;
}

pub once : (watch : Watch) → IsWithinScreen watch.change → sees watch Idle ≡ watch
once watch within = ap (λ (c : ScreenChange). record watch { change = c }) (joined watch.change within)

four : (watch : Watch) → IsWithinScreen watch.change
    → run_state sees watch (Idle ∷ Idle ∷ Idle ∷ Idle ∷ []) ≡ watch
four watch within =
    let one = once watch within in
    ap (λ (w : Watch). sees (sees (sees w Idle) Idle) Idle) one
    ∙ ap (λ (w : Watch). sees (sees w Idle) Idle) one
    ∙ ap (λ (w : Watch). sees w Idle) one
    ∙ one

pub idle_sees : (watch : Watch) → IsWithinScreen watch.change → IsCodeword (replicate 24 0)
    → watch ≡ run_state sees watch (instructions_of (replicate 4 (replicate 24 0)))
unfolding meaning
idle_sees watch within is =
    sym (four watch within)
    ∙ ap (λ (o : Option (List ℕ)). run_state sees watch (meant_by (o ∷ o ∷ o ∷ o ∷ [])))
    (found_itself (replicate 24 0) is)

less : (a b n : ℕ) → a ≤ n → min a b ≤ n
less a b n le = omega (arith, le)

-- the reported rectangle still begins on the screen
pub within_after : (watch : Watch) (instrs : List Instr) → IsWithinScreen watch.change
    → IsWithinScreen (run_state sees watch instrs).change
within_after watch [] within = within
within_after watch (instr ∷ rest) within =
    within_after (sees watch instr) rest
    (less watch.change.left _ 300 within.0, less watch.change.top _ 216 within.1)
