-- The reads of a merge from its beginning to each exit.
use Rattle.std.proofs.Common.{◌≡◌, ◌++◌, ◌-◌, ◌*◌, ◌<◌, ◌≤◌, ◌∙◌, ℕ, List, ap, length, arith, length-append}
use Rattle.std.specs.Prelude.{false, true, Option, Result, Ok, Err, IfOk}
use Rattle.std.specs.Io.KnownBytes.{Keeps}
use Rattle.std.proofs.KnownBytes.{Consumes-trans}
use Rattle.cdg_io.specs.Causes.{Count}
use Rattle.cdg_io.specs.Change.{from_to}
use Rattle.cdg_io.specs.Moves.{AppendsPrefix}
use Rattle.cdg_io.specs.Pump.{RoseBy}
use Rattle.cdg_io.proofs.Stops.{rose_once_since}
use Rattle.raw_subcode.specs.Sizes.{most_units}
use Rattle.rw_merge.specs.Merging.{EndsBoth, Merges, ReadInput, ReadsBoth, full_reads}
use Rattle.rw_merge.specs.Steps.{ReadsNoMore, ReadsPair}
use Rattle.rw_merge.specs.declared.merge.Merged.{Merged}
use Rattle.rw_merge.specs.declared.merge.MergeStop.{MergeStop}
use Rattle.rw_merge.specs.declared.merge.MergeStop.TheVariants.{WriteFault}
use Rattle.rw_merge.proofs.Ends.{blocks_filled, byte_filled_after, ends_since, stop_since}
use Rattle.rw_merge.proofs.Working.{IsPairFound, Works, ends, merges_at_end, pair_stops, short_pair, short_reads, works_kept, write_stops}

-- an input from one time to a later time
abbrev pub input_from : Option (List ℕ) → Option (List ℕ) → Count → Count → Count → Count → ReadInput
input_from left left' ends ends' fills fills' = record {
  left = from_to left left';
  counts = record { ends = from_to ends ends'; fills = from_to fills fills' };
}

-- both inputs were read to the exit with this result
abbrev pub ReadsTo : ℕ → Option (List ℕ) → Option (List ℕ) → ReadInput → ReadInput → Result Merged MergeStop
    → Type 0
ReadsTo lead_in held put first second result =
    ReadsBoth (Merges lead_in (from_to held put) result) (EndsBoth result) full_reads first second

module _ {lead_in blocks : ℕ} {left left' other other' held held' : Option (List ℕ)}
    {w v : List (List ℕ)} {bad : ℕ} {xs ys : List ℕ} {n n' m m' k k' j j' : Count}
    (worked : Works lead_in blocks left left' other other' held held' w v bad xs ys)
    (held'' : Option (List ℕ)) (kept : Keeps held' held'') (same : n' ≡ n) (same' : m' ≡ m)
    (rooms : RoseBy blocks k k') (rooms' : RoseBy blocks j j')
    (left'' other'' : Option (List ℕ)) (n'' m'' k'' j'' : Count) where
  works : Works lead_in blocks left left' other other' held held'' w v bad xs ys
  works = works_kept _ _ _ _ _ _ _ _ _ _ _ _ _ _ worked kept

  pub both_ended : (one two : List ℕ) (total : ℕ) → total ≡ blocks - lead_in → blocks < most_units
      → ReadsPair blocks (Ok false) one two (input_from left' left'' n' n'' k' k'')
      (input_from other' other'' m' m'' j' j'')
      → ReadsTo lead_in held held'' (input_from left left'' n n'' k k'')
      (input_from other other'' m m'' j j'')
      (Ok (record { blocks = total; bad = bad }))
  both_ended one two total total_is lt pair =
      let sizes = works.is_found in
      let (none, none', end, end') = pair.said.0 in
      record {
        taken = xs ++ pair.taken;
        other_taken = ys ++ pair.other_taken;
        took = Consumes-trans _ _ _ xs pair.taken works.first_taken pair.took;
        other_took = Consumes-trans _ _ _ ys pair.other_taken works.second_taken pair.other_took;
        said =
            ends lead_in blocks total _ _ _ _ _ _ _ _ bad xs ys _ _ works none none' (omega (arith, lt))
            total_is;
        ended = (rose_once_since same pair.ended.0, rose_once_since same' pair.ended.1);
        filled =
            blocks_filled blocks xs _ _ _ _ sizes.first_size (omega (arith, ap length none)) lt rooms
            pair.filled;
        other_filled =
            blocks_filled blocks ys _ _ _ _ sizes.second_size (omega (arith, ap length none')) lt rooms'
            pair.other_filled;
      }

  pub stopped : (one two : List ℕ) (stop : MergeStop) → blocks < most_units
      → ReadsPair blocks (Err stop) one two (input_from left' left'' n' n'' k' k'')
      (input_from other' other'' m' m'' j' j'')
      → ReadsTo lead_in held held'' (input_from left left'' n n'' k k'')
      (input_from other other'' m m'' j j'') (Err stop)
  stopped one two stop lt pair =
      let sizes = works.is_found in
      let short = short_pair blocks _ _ stop _ _ pair.said.0 in
      record {
        taken = xs ++ pair.taken;
        other_taken = ys ++ pair.other_taken;
        took = Consumes-trans _ _ _ xs pair.taken works.first_taken pair.took;
        other_took = Consumes-trans _ _ _ ys pair.other_taken works.second_taken pair.other_took;
        said =
            pair_stops lead_in blocks _ _ _ _ _ _ _ _ _ _ bad xs ys _ _ stop works pair.said.0 lt;
        ended =
            stop_since _ _ _ _ _ _ same same' (blocks * 96) _ _ _ _
            (omega (arith, length-append xs pair.taken, sizes.first_size))
            (omega (arith, length-append ys pair.other_taken, sizes.second_size)) stop pair.ended;
        filled = blocks_filled blocks xs _ _ _ _ sizes.first_size short.first lt rooms pair.filled;
        other_filled =
            blocks_filled blocks ys _ _ _ _ sizes.second_size short.second lt rooms' pair.other_filled;
      }

  pub read_all : (result : Result Merged MergeStop) (total : ℕ)
      → IfOk result (λ merged. merged ≡ record { blocks = total; bad = bad }) → blocks ≡ most_units
      → total ≡ most_units - lead_in
      → ReadsNoMore result (input_from left' left'' n' n'' k' k'') (input_from other' other'' m' m'' j' j'')
      → ReadsTo lead_in held held'' (input_from left left'' n n'' k k'')
      (input_from other other'' m m'' j j'') result
  read_all result total is all total_is pair =
      let sizes = works.is_found in
      let short = short_reads _ _ result _ _ pair.said in
      record {
        taken = xs ++ pair.taken;
        other_taken = ys ++ pair.other_taken;
        took = Consumes-trans _ _ _ xs pair.taken works.first_taken pair.took;
        other_took = Consumes-trans _ _ _ ys pair.other_taken works.second_taken pair.other_took;
        said =
            merges_at_end lead_in blocks total _ _ _ _ _ _ _ _ _ _ bad xs ys _ _ result works is pair.said
            all
            total_is;
        ended =
            ends_since _ _ _ _ _ _ same same' (blocks * 96) _ _ _ _
            (omega (arith, length-append xs pair.taken, sizes.first_size))
            (omega (arith, length-append ys pair.other_taken, sizes.second_size)) result pair.ended;
        filled =
            byte_filled_after blocks xs _ _ _ _ sizes.first_size short.0 all rooms pair.filled;
        other_filled =
            byte_filled_after blocks ys _ _ _ _ sizes.second_size short.1 all rooms' pair.other_filled;
      }

  pub write_failed : (one two : List ℕ) (w' v' : List (List ℕ)) (text : List ℕ) (more : ℕ)
      (put : Option (List ℕ)) → lead_in ≤ blocks → blocks < most_units
      → (pair : ReadsPair blocks (Ok true) one two (input_from left' left'' n' n'' k' k'')
      (input_from other' other'' m' m'' j' j''))
      → IsPairFound w v pair.taken pair.other_taken w' v' text more → AppendsPrefix held'' put text
      → ReadsTo lead_in held put (input_from left left'' n n'' k k'')
      (input_from other other'' m m'' j j'') (Err WriteFault)
  write_failed one two w' v' text more put le lt pair found part =
      let sizes = works.is_found in
      let (u_size, v_size) = pair.said.0 in
      record {
        taken = xs ++ pair.taken;
        other_taken = ys ++ pair.other_taken;
        took = Consumes-trans _ _ _ xs pair.taken works.first_taken pair.took;
        other_took = Consumes-trans _ _ _ ys pair.other_taken works.second_taken pair.other_took;
        said =
            write_stops lead_in blocks _ _ _ _ _ _ _ _ _ _ _ _ _ xs ys _ _ _ works u_size v_size le lt found
            part;
        ended = (pair.ended.0 ∙ same, pair.ended.1 ∙ same');
        filled =
            blocks_filled blocks xs _ _ _ _ sizes.first_size (omega (arith, u_size)) lt rooms pair.filled;
        other_filled =
            blocks_filled blocks ys _ _ _ _ sizes.second_size (omega (arith, v_size)) lt rooms'
            pair.other_filled;
      }
