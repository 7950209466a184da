-- The lines for channel Q of a stream, from the runs of their stage.
use Rattle.std.proofs.Common.{◌≡◌, ◌≢◌, ℕ, List, length, map, refl, sym, ap, ◌∙◌, subst, arith}
use Rattle.std.specs.Prelude.{is_err, count_by}
use Rattle.std.specs.List.{concat}
use Rattle.std.proofs.lemmas.List.{length-map}
use Rattle.cdg_io.specs.Run.{run_state, run_gives}
use Rattle.cdg_io.specs.Pump.{units_of, given}
use Rattle.cdg_io.proofs.Frames.{machine_of}
use Rattle.cdg_io.proofs.Streaming.{IsWhole}
use Rattle.raw_subcode.specs.Channels.{unit_size, block_of, blocks_of}
use Rattle.q_channel.specs.QSteps.{q_next, q_give}
use Rattle.q_channel.specs.QList.{q_blocks, q_lines, AreQReadings, IsQListed}
use Rattle.q_channel.specs.declared.q_lines.QLines.{QLines}
use Rattle.q_channel.proofs.QRuns.{reading_at, lines_run, counts_run, readings_are}
use Rattle.raw_subcode.specs.declared.form.Form.{Form}
use Rattle.raw_subcode.specs.declared.form.Form.TheVariants.{Raw, Sector, Cooked}
use Rattle.stream_stages.proofs.Slots.{Sized}
use Rattle.stream_stages.proofs.Playing.{Plays, units_in}
use Rattle.stream_stages.proofs.Conversion.{length-units_of, units_sized, blocks_sized}
use Rattle.stream_stages.specs.Watch.{on_units}
use Rattle.stream_stages.proofs.WatchedBlocks.{given_on_units, run_on_units}

-- the lines of the blocks are the lines of the stream
listed : (form : Form) (bytes text : List ℕ) (bad : ℕ) (blocks : List (List ℕ)) → q_blocks form bytes ≡ blocks
    → Sized 96 blocks
    → text ≡ q_lines 0 (map reading_at blocks) → bad ≡ count_by is_err (map reading_at blocks)
    → IsQListed form bytes text bad
listed form bytes text bad blocks same sized text_is bad_is = record {
  readings = map reading_at blocks;
  read =
      subst (λ (bs : List (List ℕ)). AreQReadings bs (map reading_at blocks)) (sym same)
      (readings_are blocks sized);
  text_is = text_is;
  bad_is = bad_is;
}

abbrev pub start : QLines
start = record { block = 0; bad = 0 }

-- the blocks of the whole units
blocks_in : (form : Form) (n : ℕ) (bytes : List ℕ) → IsWhole (unit_size form) n bytes
    → blocks_of form bytes ≡ map (block_of form) (units_of (unit_size form) n bytes)
blocks_in form n bytes whole =
    ap (λ k. map (block_of form) (units_of (unit_size form) k bytes)) (units_in form n bytes whole)

-- the blocks of this form have a Q channel
q_blocks_are : (form : Form) (bytes : List ℕ) → form ≢ Cooked → q_blocks form bytes ≡ blocks_of form bytes
q_blocks_are Raw bytes form_is = refl
q_blocks_are Sector bytes form_is = refl
q_blocks_are Cooked bytes form_is = absurd (form_is refl)

pub plays_frames : (form : Form) (s : QLines) → form ≢ Cooked → s ≡ start
    → Plays (IsQListed form) form (machine_of (on_units form q_next) (on_units form q_give)) s
    (λ (t : QLines). t.bad)
plays_frames form s form_is begin = record {
  says = λ bytes n few whole.
      let units : List (List ℕ) = units_of (unit_size form) n bytes in
      let blocks : List (List ℕ) = map (block_of form) units in
      let size : length blocks ≡ n =
      length-map units (block_of form) ∙ length-units_of (unit_size form) n bytes in
      listed form bytes
      (given (unit_size form) (machine_of (on_units form q_next) (on_units form q_give)) s bytes n)
      (run_state (on_units form q_next) s units).bad blocks
      (q_blocks_are form bytes form_is ∙ blocks_in form n bytes whole)
      (blocks_sized form units (units_sized (unit_size form) n bytes whole.fits))
      (ap concat (given_on_units form q_next q_give s units)
      ∙ ap (λ (t : QLines). concat (run_gives q_next q_give t blocks)) begin
      ∙ lines_run 0 0 blocks (omega (arith, few, size)))
      (ap (λ (t : QLines). t.bad) (run_on_units form q_next s units)
      ∙ ap (λ (t : QLines). (run_state q_next t blocks).bad) begin
      ∙ counts_run 0 0 blocks (omega (arith, few, size)) ∙ omega arith);
}
