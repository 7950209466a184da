-- An authored stream with scratches is damaged.
use Rattle.std.proofs.Common.{◌≡◌, ℕ, ◌+◌, ◌*◌, ◌%◌, ◌≤◌, List, length, ap, ◌∙◌, arith}
use Rattle.std.specs.List.{concat}
use Rattle.raw_subcode.specs.Channels.{program_symbols}
use Rattle.raw_subcode.specs.declared.form.Form.TheVariants.{Raw}
use Rattle.rw_interleave.specs.Stream.{IsDamaged, all_packs}
use Rattle.cue_sheet.specs.CueSheet.{CueSheet}
use Rattle.toc_model.specs.Places.{program_blocks}
use Rattle.picture_script.specs.Script.{Drawing}
use Rattle.cdg_workload.specs.Scratches.{scratched}
use Rattle.stream_trial.proofs.Scratched.{no_more_packs}
use Rattle.subcode_author.specs.Authored.{IsAuthored, disc_of}
use Rattle.stream_stages.specs.Convert.{IsDamagedStream}

whole_blocks : (n size : ℕ) → size ≡ 96 * n → size % 96 ≡ 0
whole_blocks n size is = omega (arith, is)

-- the facts about a scratched stream
pub record ScratchesAreKnown (lead_in seed : ℕ) (bytes : List ℕ) : Type 0 where
  pub size : length (scratched lead_in seed bytes) ≡ length bytes
  pub damaged : IsDamaged (program_symbols Raw bytes lead_in) Raw
      (program_symbols Raw (scratched lead_in seed bytes) lead_in)

pub is_damaged : (sheet : CueSheet) (script : List Drawing) (lead_in audio seed : ℕ) (bytes : List ℕ)
    (packs : List (List ℕ)) → ScratchesAreKnown lead_in seed bytes
    → lead_in ≤ 450000 → program_blocks sheet audio ≤ 449999
    → IsAuthored (disc_of sheet script lead_in audio) bytes packs
    → IsDamagedStream Raw lead_in (program_blocks sheet audio) packs (scratched lead_in seed bytes)
is_damaged sheet script lead_in audio seed bytes packs known lead_in_few blocks_few is =
    let size = known.size ∙ is.framing.size in
    record {
      few = omega (arith, size, lead_in_few, blocks_few);
      whole =
          whole_blocks (lead_in + program_blocks sheet audio) (length (scratched lead_in seed bytes)) size;
      symbols = program_symbols Raw bytes lead_in;
      carries = is.carries;
      damaged = known.damaged;
    }

pub all_are : (sheet : CueSheet) (script : List Drawing) (lead_in audio : ℕ) (bytes : List ℕ)
    (packs : List (List ℕ)) → IsAuthored (disc_of sheet script lead_in audio) bytes packs
    → concat (all_packs Raw (program_blocks sheet audio) packs) ≡ concat packs
all_are sheet script lead_in audio bytes packs is =
    ap concat (no_more_packs (program_blocks sheet audio) packs is.carries.count)
