-- Whether bytes are a frame.
use Rattle.std.proofs.Common.{◌≡◌, ℕ, List, Bool, true, false, length, take, drop, Some, None, refl, sym, ap, ◌∙◌}
use Rattle.std.specs.Prelude.{is_none, is_ok, not, Ok, Err}
use Rattle.std.specs.declared.option.Option.{Option}
use Rattle.bit_lists.specs.Bits.{bits_of_bytes}
use Rattle.bit_lists.specs.Check.{check_bits}
use Rattle.q_channel.specs.QFrame.{field_value}
use Rattle.q_channel.specs.QReading.{first_bad_field, first_outside}
use Rattle.q_channel.specs.Kinds.{frame_at, kind_by, ranges_of_kind}
use Rattle.q_channel.specs.ReadingOf.{reading_of}
use Rattle.q_channel.specs.declared.frame.QFault.TheVariants.{BadField}
use Rattle.q_channel.specs.declared.kinds.Kind.{Kind}
use Rattle.q_channel.proofs.Frames.{good_at, bad_at, is_frame}
use Rattle.q_channel.proofs.ReadingLaws.{only_reading}

-- the opposite of a test
pub turned_round : (test other : Bool) → other ≡ not test → test ≡ not other
turned_round true other is = sym (ap not is)
turned_round false other is = sym (ap not is)

-- bytes with the right check are a frame if no field is out of its range
pub is_whole : (bytes : List ℕ) (m : List Bool) (kind : Kind) (mode track point : ℕ) (bad : Option ℕ)
    → m ≡ bits_of_bytes bytes → length (bits_of_bytes bytes) ≡ 96
    → kind ≡ kind_by mode track point → mode ≡ field_value m 4 4 → track ≡ field_value m 8 8
    → point ≡ field_value m 16 8
    → first_outside m (ranges_of_kind kind) ≡ bad
    → drop 80 (bits_of_bytes bytes) ≡ check_bits (take 80 (bits_of_bytes bytes))
    → is_none bad ≡ is_ok (reading_of (bits_of_bytes bytes))
is_whole bytes m kind mode track point None same size is e4 e8 e16 none check =
    ap is_ok (only_reading (bits_of_bytes bytes) (Ok (frame_at kind m)) size
    (is_frame bytes m (frame_at kind m) (frame_at kind m) same refl
    (good_at m kind mode track point (ap length same ∙ size) is e4 e8 e16 none) check))
is_whole bytes m kind mode track point (Some bit) same size is e4 e8 e16 some check =
    ap is_ok (only_reading (bits_of_bytes bytes) (Err (BadField bit)) size
    (check, ap first_bad_field (sym same) ∙ bad_at m kind mode track point bit is e4 e8 e16 some))
