-- The frames of the blocks of an authored stream, and their listing.
use Rattle.std.proofs.Common.{◌≡◌, ℕ, zero, suc, ◌+◌, ◌-◌, ◌*◌, ◌/◌, ◌<◌, Bool, List, [], ◌∷◌, length, get_or, map, drop, inl, inr, refl, sym, ap, ap₂, subst, ◌∙◌, arith}
use Rattle.std.specs.Prelude.{Result, Ok, is_err, count_by, if◌then◌else◌}
use Rattle.std.proofs.lemmas.Bool.{cases_lt}
use Rattle.std.proofs.lemmas.List.{length-map, length-append, get_or_append_left, get_or-append_right}
use Rattle.std.proofs.lemmas.List.FromFn.{length-map-range_with_len, get_or-map-range_with_len}
use Rattle.std.proofs.lemmas.List.Sums.{sum_by-cons}
use Rattle.bit_lists.specs.Counting.{below, parts, whole_parts}
use Rattle.raw_subcode.specs.Channels.{q_bits, block_of, blocks_of}
use Rattle.raw_subcode.specs.declared.form.Form.TheVariants.{Raw}
use Rattle.q_channel.specs.QFrame.{IsFrame}
use Rattle.q_channel.specs.declared.frame.QFrame.{QFrame}
use Rattle.q_channel.specs.declared.frame.QFault.{QFault}
use Rattle.q_channel.specs.QReading.{IsReading}
use Rattle.q_channel.specs.QList.{q_lines, AreQReadings, IsQListed}
use Rattle.toc_model.specs.Places.{DiscLayout}
use Rattle.toc_model.specs.Layout.{program_frame, toc_frame}
use Rattle.stream_writer.specs.Framing.{raw_block, HasFraming}
use Rattle.round_trips.specs.FrameLines.{stream_frames, frame_lines}

length-parts : {X : Type 0} → (count size : ℕ) (xs : List X) → length (parts count size xs) ≡ count
length-parts zero size xs = refl
length-parts (suc count) size xs = ap suc (length-parts count size (drop size xs))

pub length-whole_parts : {X : Type 0} → (size : ℕ) (xs : List X)
    → length (whole_parts size xs) ≡ length xs / size
length-whole_parts size xs = length-parts (length xs / size) size xs

pub length-raw_blocks : (bytes : List ℕ) (n : ℕ) → length bytes ≡ 96 * n → length (blocks_of Raw bytes) ≡ n
length-raw_blocks bytes n size =
    length-map (whole_parts 96 bytes) (block_of Raw) ∙ length-whole_parts 96 bytes ∙ omega (arith, size)

-- Bits that are a frame are read as this frame.
abbrev pub IsOneReading : Type 0
IsOneReading = (frame : QFrame) (message : List Bool) (what : Result QFrame QFault) → IsFrame frame message
    → IsReading message what
    → what ≡ Ok frame

readings_are : IsOneReading
    → (blocks : List (List ℕ)) (frames : List QFrame) (readings : List (Result QFrame QFault))
    → length frames ≡ length blocks
    → ((k : ℕ) (d : QFrame) → k < length blocks → IsFrame (get_or frames k d) (q_bits (get_or blocks k [])))
    → AreQReadings blocks readings → readings ≡ map (λ (frame : QFrame). Ok frame) frames
readings_are law [] [] readings size each are = are
readings_are law [] (f ∷ frames) readings size each are = absurd (omega (arith, size))
readings_are law (b ∷ blocks) [] readings size each are = absurd (omega (arith, size))
readings_are law (b ∷ blocks) (f ∷ frames) [] size each are = absurd are
readings_are law (b ∷ blocks) (f ∷ frames) (r ∷ readings) size each are =
    ap₂ (λ (x : Result QFrame QFault) (xs : List (Result QFrame QFault)). x ∷ xs)
    (law f (q_bits b) r (each 0 f (omega arith)) are.0)
    (readings_are law blocks frames readings (omega (arith, size)) (λ k d less. each (suc k) d (omega arith))
    are.1)

abbrev as_read : List QFrame → List (Result QFrame QFault)
as_read frames = map (λ (frame : QFrame). Ok frame) frames

none_refused : (frames : List QFrame) → count_by is_err (as_read frames) ≡ 0
none_refused [] = refl
none_refused (f ∷ frames) =
    sum_by-cons (λ (r : Result QFrame QFault). if is_err r then 1 else 0) (Ok f) (as_read frames)
    ∙ none_more (count_by is_err (as_read frames))
    ∙ none_refused frames
  where
    none_more : (n : ℕ) → 0 + n ≡ n
    none_more n = omega arith

module _ (layout : DiscLayout) (packs : List (List ℕ)) (lead_in : ℕ) (bytes : List ℕ)
    (framing : HasFraming layout packs lead_in bytes) where
  abbrev lead_in_frames : List QFrame
  lead_in_frames = map (toc_frame layout lead_in) (below lead_in)

  abbrev program_frames : List QFrame
  program_frames = map (program_frame layout) (below layout.blocks)

  length-lead_in_frames : length lead_in_frames ≡ lead_in
  length-lead_in_frames = length-map-range_with_len (toc_frame layout lead_in) 0 lead_in

  length-stream_frames : length (stream_frames layout lead_in) ≡ lead_in + layout.blocks
  length-stream_frames =
      length-append lead_in_frames program_frames
      ∙ ap₂ (λ m n. m + n) length-lead_in_frames
      (length-map-range_with_len (program_frame layout) 0 layout.blocks)

  size : length (blocks_of Raw bytes) ≡ lead_in + layout.blocks
  size = length-raw_blocks bytes (lead_in + layout.blocks) framing.size

  each_frame : (k : ℕ) (d : QFrame) → k < length (blocks_of Raw bytes)
      → IsFrame (get_or (stream_frames layout lead_in) k d) (q_bits (get_or (blocks_of Raw bytes) k []))
  each_frame k d less = elim (cases_lt k lead_in) [
    | inl here ↦
        let same : get_or (stream_frames layout lead_in) k d ≡ toc_frame layout lead_in k =
        get_or_append_left lead_in_frames program_frames d k (omega (arith, length-lead_in_frames))
        ∙ get_or-map-range_with_len (toc_frame layout lead_in) 0 lead_in k k d here (omega arith) in
        subst (λ (f : QFrame). IsFrame f (q_bits (raw_block bytes k))) (sym same) (framing.contents k here).q
    | inr past ↦
        let place : lead_in + (k - lead_in) ≡ k = omega arith in
        let within : k - lead_in < layout.blocks = omega (arith, size) in
        let same : get_or (stream_frames layout lead_in) k d ≡ program_frame layout (k - lead_in) =
        get_or-append_right lead_in_frames program_frames lead_in k d length-lead_in_frames past
        ∙ get_or-map-range_with_len (program_frame layout) 0 layout.blocks (k - lead_in) (k - lead_in) d
        within (omega arith) in
        subst (λ (f : QFrame). IsFrame f (q_bits (raw_block bytes k))) (sym same)
        (subst (λ (n : ℕ). IsFrame (program_frame layout (k - lead_in)) (q_bits (raw_block bytes n))) place
        (framing.program (k - lead_in) within).q)
  ]

  pub frames_listed : IsOneReading → (text : List ℕ) (bad : ℕ) → IsQListed Raw bytes text bad
      → (text ≡ frame_lines layout lead_in) × (bad ≡ 0)
  frames_listed law text bad listed =
      let are : listed.readings ≡ map (λ (frame : QFrame). Ok frame) (stream_frames layout lead_in) =
      readings_are law (blocks_of Raw bytes) (stream_frames layout lead_in) listed.readings
      (length-stream_frames ∙ sym size) each_frame listed.read in (
        listed.text_is ∙ ap (q_lines 0) are,
        listed.bad_is ∙ ap (count_by is_err) are ∙ none_refused (stream_frames layout lead_in),
      )
