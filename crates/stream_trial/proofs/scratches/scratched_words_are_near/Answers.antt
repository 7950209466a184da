use Rattle.raw_subcode.specs.Channels.{program_symbols}
use Rattle.raw_subcode.specs.declared.form.Form.TheVariants.{Raw}
use Rattle.toc_model.specs.Places.{program_blocks}
use Rattle.cdg_workload.specs.Scratches.{scratched}
use Rattle.stream_trial.proofs.Scratched.{program_small, word_reads, only_pack, wrong_symbols}
use Rattle.stream_trial.proofs.scratches.scratched_words_are_near.Goals as goal

pub returns-clause-reads : goal.returns-clause-reads
returns-clause-reads c sheet script lead_in audio seed bytes packs n is lt =
    word_reads (program_blocks sheet audio) (program_symbols Raw bytes lead_in)
    (program_symbols Raw (scratched lead_in seed bytes) lead_in) packs is.carries
    (program_small (scratched lead_in seed bytes) lead_in)
    (c.scratched_streams_are_recovered.ensures.damaged sheet script lead_in audio seed bytes packs is) n lt

pub returns-clause-only : goal.returns-clause-only
returns-clause-only c sheet script lead_in audio seed bytes packs n word is lt reads =
    only_pack (program_blocks sheet audio) (program_symbols Raw bytes lead_in)
    (program_symbols Raw (scratched lead_in seed bytes) lead_in) packs is.carries
    (program_small (scratched lead_in seed bytes) lead_in)
    (c.scratched_streams_are_recovered.ensures.damaged sheet script lead_in audio seed bytes packs is) n lt
    c.only_one_codeword_is_near.ensures word reads

pub returns-clause-wrong : goal.returns-clause-wrong
returns-clause-wrong c sheet script lead_in audio seed bytes packs n word is lt reads =
    wrong_symbols (program_blocks sheet audio) (program_symbols Raw bytes lead_in)
    (program_symbols Raw (scratched lead_in seed bytes) lead_in) packs is.carries
    (program_small (scratched lead_in seed bytes) lead_in)
    (c.scratched_streams_are_recovered.ensures.damaged sheet script lead_in audio seed bytes packs is) n lt
    c.only_one_codeword_is_near.ensures word reads
