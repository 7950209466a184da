use Rattle.std.proofs.Common.{◌≡◌, ◌<◌, ◌%◌, ℕ}
use Rattle.std.specs.Prelude.{slice_index}
use Rattle.cdtext_packs.proofs.lead_in_texts.is_idle.Given as goal

abbrev pub invariant-loop-byte : goal.invariant-loop-byte
invariant-loop-byte l = l.all % 64 ≡ 0 → (n : ℕ) → n < l.byte-index → slice_index l.block n % 64 ≡ 0
