-- Blocks that are built from the frames of a disc.
use Rattle.std.proofs.Common.{◌≡◌, ℕ, Bool, false, List, ap₂, subst, ◌∙◌}
use Rattle.q_channel.specs.declared.frame.QFrame.{QFrame}
use Rattle.toc_model.specs.Places.{DiscLayout}
use Rattle.toc_model.specs.Layout.{p_bit, program_frame, toc_frame}
use Rattle.cdtext_packs.specs.LeadIn.{lead_in_symbols}
use Rattle.stream_writer.specs.Blocks.{bits_of_frame, built_block, carrying_block, lead_in_block, IsBuilt}

pub record IsMade (block wanted : List ℕ) (paused : Bool) (frame : QFrame) (symbols : List ℕ) : Type 0 where
  pub bytes : block ≡ wanted
  pub built : IsBuilt block paused frame symbols

pub lead_in_made : (layout : DiscLayout) (texts : List (List ℕ)) (n l : ℕ) (frame : QFrame)
    (symbols block : List ℕ)
    → frame ≡ toc_frame layout n l → symbols ≡ lead_in_symbols texts l
    → block ≡ built_block false (bits_of_frame frame) symbols → IsBuilt block false frame symbols
    → IsMade block (lead_in_block layout texts n l) false (toc_frame layout n l) (lead_in_symbols texts l)
unfolding lead_in_block
lead_in_made layout texts n l frame symbols block frame_is symbols_are bytes built = record {
  bytes = bytes ∙ ap₂ (λ f s. built_block false (bits_of_frame f) s) frame_is symbols_are;
  built =
      subst (λ s. IsBuilt block false (toc_frame layout n l) s) symbols_are
      (subst (λ f. IsBuilt block false f symbols) frame_is built);
}

pub program_made : (layout : DiscLayout) (b : ℕ) (paused : Bool) (frame : QFrame) (symbols block : List ℕ)
    → paused ≡ p_bit layout b → frame ≡ program_frame layout b
    → block ≡ built_block paused (bits_of_frame frame) symbols → IsBuilt block paused frame symbols
    → IsMade block (carrying_block layout b symbols) (p_bit layout b) (program_frame layout b) symbols
unfolding carrying_block
program_made layout b paused frame symbols block paused_is frame_is bytes built = record {
  bytes = bytes ∙ ap₂ (λ p f. built_block p (bits_of_frame f) symbols) paused_is frame_is;
  built =
      subst (λ p. IsBuilt block p (program_frame layout b) symbols) paused_is
      (subst (λ f. IsBuilt block paused f symbols) frame_is built);
}
