use Rattle.std.proofs.Common.{◌≡◌, ℕ, List, length, sym, ap, ◌∙◌, rules}
use Rattle.raw_subcode.specs.Channels.{symbols_of}
use Rattle.rw_code.proofs.CodewordLemmas.{idle_is_codeword}
use Rattle.cdg_instructions.specs.Instruction.{message_of}
use Rattle.cdg_instructions.specs.MadeGood.{IsMadeGood}
use Rattle.rw_code.specs.Packs.{idle_pack}
use Rattle.cdg_press.proofs.file.made_good.Goals as goal

zeros_made_good : (symbols : List ℕ) → symbols ≡ idle_pack → IsMadeGood symbols idle_pack
zeros_made_good symbols are =
    record { size = ap length are; codeword = idle_is_codeword; message = ap message_of (sym are) }

pub returns-then-eq : goal.returns-then-eq
returns-then-eq c =
    let zeros : c.bytes.result ≡ idle_pack = search rules in
    let copied : c.copy_from_slice.new.self ≡ c.args.pack.now = search rules in
    zeros_made_good (symbols_of c.args.pack.now)
    (sym (ap symbols_of copied) ∙ sym c.new-word.ensures ∙ sym c.bytes.ensures.same ∙ zeros)

pub returns-then-zeros : goal.returns-then-zeros
returns-then-zeros c =
    let zeros : c.copy_from_slice.new.self ≡ idle_pack = search rules in
    let copied : c.copy_from_slice.new.self ≡ c.args.pack.now = search rules in
    zeros_made_good (symbols_of c.args.pack.now) (sym (ap symbols_of copied) ∙ ap symbols_of zeros)
