-- Blocks that are built from a P bit, Q bits and symbols.
use Rattle.std.proofs.Common.{◌≡◌, ℕ, zero, suc, ◌+◌, ◌/◌, ◌%◌, ◌<◌, Bool, true, false, List, [], ◌∷◌, length, replicate, refl, ap, ap₂, ne_eqb, eq-eqb, arith}
use Rattle.std.specs.List.{AllByRecursion}
use Rattle.std.proofs.lemmas.List.Elements.{All-from_recursion}
use Rattle.raw_subcode.specs.Channels.{channel_bit, p_bits, q_bits, symbols_of}
use Rattle.q_channel.specs.QFrame.{IsValid}
use Rattle.q_channel.specs.declared.frame.QFrame.{QFrame}
use Rattle.stream_writer.specs.Blocks.{built_byte, built_block, bits_of_frame, IsBuilt}
use Rattle.stream_writer.proofs.FrameBits.{frame_size}
use Rattle.stream_writer.proofs.LeadIns.{AreSymbols, IsSymbols}

abbrev AreBytes : List ℕ → Type 0
AreBytes bytes = AllByRecursion (λ b. b < 256) bytes

record IsByte (p q : Bool) (symbol byte : ℕ) : Type 0 where
  p_is : channel_bit 0 byte ≡ p
  q_is : channel_bit 1 byte ≡ q
  symbol_is : byte % 64 ≡ symbol
  small : byte < 256

byte_is : (p q : Bool) (symbol : ℕ) → symbol < 64 → IsByte p q symbol (built_byte p q symbol)
byte_is true true s lt = record {
  p_is = eq-eqb ((128 + 64 + s) / 128 % 2) 1 (omega arith);
  q_is = eq-eqb ((128 + 64 + s) / 64 % 2) 1 (omega arith);
  symbol_is = omega arith;
  small = omega arith;
}
byte_is true false s lt = record {
  p_is = eq-eqb ((128 + 0 + s) / 128 % 2) 1 (omega arith);
  q_is = ne_eqb ((128 + 0 + s) / 64 % 2) 1 (omega arith);
  symbol_is = omega arith;
  small = omega arith;
}
byte_is false true s lt = record {
  p_is = ne_eqb ((0 + 64 + s) / 128 % 2) 1 (omega arith);
  q_is = eq-eqb ((0 + 64 + s) / 64 % 2) 1 (omega arith);
  symbol_is = omega arith;
  small = omega arith;
}
byte_is false false s lt = record {
  p_is = ne_eqb ((0 + 0 + s) / 128 % 2) 1 (omega arith);
  q_is = ne_eqb ((0 + 0 + s) / 64 % 2) 1 (omega arith);
  symbol_is = omega arith;
  small = omega arith;
}

record IsMade (n : ℕ) (p : Bool) (bits : List Bool) (symbols block : List ℕ) : Type 0 where
  size : length block ≡ n
  p_are : p_bits block ≡ replicate n p
  q_are : q_bits block ≡ bits
  symbols_are : symbols_of block ≡ symbols
  small : AreBytes block

made : (n : ℕ) (p : Bool) (bits : List Bool) (symbols : List ℕ) → length bits ≡ n → length symbols ≡ n
    → AreSymbols symbols
    → IsMade n p bits symbols (built_block p bits symbols)
unfolding built_block
made zero p [] [] bits_size size small =
    record { size = refl; p_are = refl; q_are = refl; symbols_are = refl; small = tt }
made zero p [] (s ∷ symbols) bits_size size small = absurd (omega (arith, size))
made zero p (q ∷ bits) symbols bits_size size small = absurd (omega (arith, bits_size))
made (suc n) p [] symbols bits_size size small = absurd (omega (arith, bits_size))
made (suc n) p (q ∷ bits) [] bits_size size small = absurd (omega (arith, size))
made (suc n) p (q ∷ bits) (s ∷ symbols) bits_size size small =
    let byte = byte_is p q s small.0 in
    let rest = made n p bits symbols (omega (arith, bits_size)) (omega (arith, size)) small.1 in
    record {
      size = ap suc rest.size;
      p_are = ap₂ (λ b bs. b ∷ bs) byte.p_is rest.p_are;
      q_are = ap₂ (λ b bs. b ∷ bs) byte.q_is rest.q_are;
      symbols_are = ap₂ (λ x xs. x ∷ xs) byte.symbol_is rest.symbols_are;
      small = (byte.small, rest.small);
    }

pub is_built : (p : Bool) (frame : QFrame) (symbols : List ℕ) → IsValid frame → IsSymbols 96 symbols
    → IsBuilt (built_block p (bits_of_frame frame) symbols) p frame symbols
unfolding bits_of_frame
is_built p frame symbols valid are =
    let block = made 96 p (bits_of_frame frame) symbols (frame_size frame valid) are.0 are.1 in
    record {
      size = block.size;
      are_bytes = All-from_recursion (λ b. b < 256) (built_block p (bits_of_frame frame) symbols) block.small;
      channels = record { p = block.p_are; q = record { valid = valid; spelling = block.q_are } };
      carried = block.symbols_are;
    }
