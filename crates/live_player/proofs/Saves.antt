-- Valid and invalid files of checkpoints, and the calls that write and read them.
use Rattle.std.proofs.Common.{◌≡◌, ◌<◌, ◌^◌, ℕ, List, [], ◌∷◌, ◌++◌, ◌≤◌, length, subst, sym, refl, inl, inr, arith, rules}
use Rattle.std.specs.Prelude.{pos, negsuc}
use Rattle.std.specs.List.{AllByRecursion}
use Rattle.cdg_checkpoint.specs.Checkpoint.{Checkpoint, checkpoint_in, file_of}
use Rattle.cdg_checkpoint.specs.Table.{IsBadAt, IsCheckpointFile, IsPartInRange, LeadIn, Part, Program, ToCome, number}
use Rattle.disc_time.specs.Counts.{most_lead_in}
use Rattle.raw_subcode.specs.Sizes.{most_units}
use Rattle.raw_subcode.specs.declared.form.Form.TheVariants.{Raw}
use Rattle.live_player.specs.Lives.{Given, HasPlayed, blocks_in}
use Rattle.live_player.specs.Saving.{CannotBeSaved, IsAt, IsSavedAs, IsTooLong, LoadsLive, SavesLive, checkpoint_of}
use Rattle.live_player.specs.declared.live.LivePlayer.{LivePlayer}
use Rattle.live_player.proofs.Saved.{goes_on, is_file, is_raw}

in_middle : (P : Part → Type 0) (early : List Part) (part : Part) (late : List Part)
    → AllByRecursion P (early ++ part ∷ late)
    → P part
in_middle P [] part late all = all.0
in_middle P (x ∷ early) part late all = in_middle P early part late all.1

-- no valid file has an invalid field
not_both : (file : List ℕ) (byte : ℕ) → IsBadAt file byte → IsCheckpointFile file → ⊥
not_both file byte bad is =
    let first = bad.field is.size in
    let here = first.here in
    here.out (in_middle (IsPartInRange file) first.early first.part first.late
    (subst (AllByRecursion (IsPartInRange file)) first.order is.ranges) here.k here.field)

pub is_none : (file : List ℕ) (byte : ℕ) (live : LivePlayer) → file ≡ file_of (checkpoint_of live)
    → IsBadAt file byte
    → ¬ IsCheckpointFile (file_of (checkpoint_of live))
is_none file byte live same bad is = not_both file byte bad (subst IsCheckpointFile (sym same) is)

-- the file of a player with a lead-in that is too long is not valid
pub long_lead_in : (live : LivePlayer) (count : ℕ) → live.lead_in ≡ count → count < 2 ^ 32
    → ((c : Checkpoint) → c.to_come < 2 ^ 32 → number (file_of c) ToCome 0 ≡ c.to_come)
    → ((c : Checkpoint) → c.lead_in < 2 ^ 32 → number (file_of c) LeadIn 0 ≡ c.lead_in)
    → most_lead_in < count → ¬ IsCheckpointFile (file_of (checkpoint_of live))
long_lead_in live count same fits to_come lead_in long =
    let c : Checkpoint = checkpoint_of live in
    λ is. omega (
      arith,
      same,
      long,
      to_come c (omega (arith, same, fits)),
      lead_in c (omega (arith, same, fits)),
      is.ranges.1.1.0 0 (omega arith),
    )

-- nor is the file of a player that has read too many blocks
pub many_blocks : (live : LivePlayer) (count : ℕ) → live.blocks ≡ count → count < 2 ^ 32
    → ((c : Checkpoint) → c.lead_in < 2 ^ 32 → number (file_of c) LeadIn 0 ≡ c.lead_in)
    → ((c : Checkpoint) → c.program < 2 ^ 32 → number (file_of c) Program 0 ≡ c.program)
    → most_units < count → ¬ IsCheckpointFile (file_of (checkpoint_of live))
many_blocks live count same fits lead_in program far =
    let c : Checkpoint = checkpoint_of live in
    λ is. omega (
      arith,
      same,
      far,
      lead_in c (omega (arith, same, fits)),
      program c (omega (arith, same, fits)),
      (is.ranges.1.1.1.0 0 (omega arith)).0,
    )

-- a player of a raw stream that a checkpoint can count can be saved
saveable : (player : LivePlayer) (lead_in : ℕ) (given : List Given) → HasPlayed Raw lead_in given player
    → lead_in ≤ most_lead_in → length (blocks_in given) ≤ most_units
    → CannotBeSaved player
    → ⊥
saveable player lead_in given played lead_in_most few (inl other) =
    other (is_raw lead_in given player played)
saveable player lead_in given played lead_in_most few (inr invalid) =
    invalid (is_file lead_in given player played lead_in_most few)

-- the facts of a call that saves a player
pub writes : (player : LivePlayer) (old new : List ℕ) → player.words.form ≡ Raw → ¬ IsTooLong player
    → IsSavedAs new player
    → SavesLive player old new (pos 0)
writes player old new raw short is = record {
  saved = λ done. is;
  refused = search rules;
  can = λ lead_in given played lead_in_most few. search rules;
  packs = λ other. absurd (other raw);
  long = λ long. absurd (short long);
  answers = inl refl;
  untouched = λ other. absurd (other refl);
}

-- the facts of a call that refuses to save a player
pub refuses : (player : LivePlayer) (file : List ℕ) → CannotBeSaved player
    → SavesLive player file file (negsuc 0)
refuses player file cannot = record {
  saved = search rules;
  refused = λ done. cannot;
  can = λ lead_in given played lead_in_most few done.
      saveable player lead_in given played lead_in_most few cannot;
  packs = λ other. refl;
  long = λ long. refl;
  answers = inr (inl refl);
  untouched = λ other. refl;
}

-- the facts of a call that is out of memory
pub out_of_memory_is : (player : LivePlayer) (file : List ℕ) → player.words.form ≡ Raw → ¬ IsTooLong player
    → SavesLive player file file (pos 7)
out_of_memory_is player file raw short = record {
  saved = search rules;
  refused = search rules;
  can = λ lead_in given played lead_in_most few. search rules;
  packs = λ other. absurd (other raw);
  long = λ long. absurd (short long);
  answers = inr (inr refl);
  untouched = λ other. refl;
}

-- the facts of a call that restores a player from a valid file
pub restores : (file : List ℕ) (before after : LivePlayer) (byte : ℕ) → IsCheckpointFile file
    → IsAt (checkpoint_in file) after
    → LoadsLive file before after byte byte (pos 0)
restores file before after byte is there = record {
  loaded = λ done. (is, there);
  goes_on = λ done saved lead_in given saved_as played lead_in_most few.
      goes_on lead_in given saved played lead_in_most few after
      (subst (λ (it : List ℕ). IsAt (checkpoint_in it) after) saved_as.0 there);
  bad = search rules;
  memory = search rules;
  answers = inl refl;
  refused = λ other. absurd (other refl);
  same = λ other. refl;
}
