-- The output of `save` for a stream that is not too long.
use Rattle.std.proofs.Common.{◌≡◌, ◌==◌, ℕ, ◌*◌, ◌/◌, ◌%◌, ◌≤◌, Bool, true, false, List, [], length, refl, sym, ap₂, subst, arith, append-nil, None, Some, Result, Ok, Err, if◌then◌else◌}
use Rattle.std.specs.Prelude.{nat_lt}
use Rattle.std.proofs.lemmas.Bool.Decides.{nat_tests}
use Rattle.cdg_io.specs.Change.{Bytes, from_to}
use Rattle.cdg_io.specs.Pump.{IsUnlessFault, answer_of}
use Rattle.cdg_io.specs.declared.pumping.Pumped.{Pumped}
use Rattle.cdg_io.specs.declared.pumping.PumpStop.{PumpStop}
use Rattle.cdg_io.specs.declared.pumping.PumpStop.TheVariants as pump
use Rattle.cdg_io.proofs.Frames.{passing}
use Rattle.stream_stages.proofs.Restoring.{taken_all}
use Rattle.stream_stages.proofs.Views.{done_tests, not_over, zero_rest}
use Rattle.cdg_checkpoint.specs.Resumed.{IsFirstPart}
use Rattle.cdg_checkpoint.specs.Saved.{IsSaved, Saves}
use Rattle.cdg_cmd.specs.Resumes.{IsSaveOf}
use Rattle.cdg_cmd.specs.Stops.{pump_status}
use Rattle.cdg_cmd.specs.declared.status.Status.TheVariants.{Done}

-- ---- from the call

saved_by : (lead_in : ℕ) (bytes file taken : List ℕ) (left : Bytes) (answer : Result Pumped PumpStop)
    → lead_in ≤ 450000
    → Saves lead_in (passing (from_to (Some bytes) left) (from_to (Some []) (Some file))) answer taken
    → IsUnlessFault answer (answer_of 96 1000000 (length bytes)) → Done ≡ pump_status answer
    → (pumped : Pumped) × IsSaved lead_in bytes pumped file × IsFirstPart lead_in bytes
saved_by lead_in bytes file taken left (Ok pumped) most saves exactly is =
    let (end, (text, is_saved, put)) = saves.done in
    let (within, whole, units) =
    done_tests (nat_lt (1000000 * 96) (length bytes)) (length bytes % 96 == 0) (length bytes / 96) pumped
    exactly in
    let text_is : text ≡ file = sym put in (
      pumped,
      subst (λ (t : List ℕ). IsSaved lead_in bytes pumped t) text_is (subst
          (λ (b : List ℕ). IsSaved lead_in b pumped text) (taken_all bytes left taken saves.taken_from end)
          is_saved),
      record {
        lead_in_most = most;
        most = not_over (1000000 * 96) (length bytes) within;
        whole = zero_rest (length bytes % 96) whole;
      },
    )
saved_by lead_in bytes file taken left (Err pump.ReadFault) most saves exactly is = absurd (cc)
saved_by lead_in bytes file taken left (Err pump.WriteFault) most saves exactly is = absurd (cc)
saved_by lead_in bytes file taken left (Err (pump.Torn unit)) most saves exactly is = absurd (cc)
saved_by lead_in bytes file taken left (Err pump.TooLong) most saves exactly is = absurd (cc)

pub saved_file : (lead_in : ℕ) (bytes file : List ℕ) → IsSaveOf lead_in bytes file
    → (pumped : Pumped) × IsSaved lead_in bytes pumped file × IsFirstPart lead_in bytes
saved_file lead_in bytes file s =
    saved_by lead_in bytes file s.done.taken s.left s.done.answer s.allowed s.done.did s.done.exactly
    s.done.status_is

-- ---- to the call

in_limit : (a b : ℕ) → b ≤ a → nat_lt a b ≡ false
in_limit a b few = grind (arith, nat_tests)

no_rest : (n : ℕ) → n ≡ 0 → (n == 0) ≡ true
no_rest n none = grind (arith, nat_tests)

-- the answer, from two tests
abbrev answer_by : Bool → Bool → ℕ → Result Pumped PumpStop
answer_by over whole n =
    if over then Err pump.TooLong else if whole then Ok (record { units = n }) else Err (pump.Torn n)

answer_is : (over whole : Bool) (n : ℕ) → over ≡ false → whole ≡ true
    → Ok (record { units = n }) ≡ answer_by over whole n
answer_is over whole n within even = sym (ap₂ (λ (o w : Bool). answer_by o w n) within even)

pub save_of : (lead_in : ℕ) (bytes file : List ℕ) → IsFirstPart lead_in bytes
    → IsSaved lead_in bytes (record { units = length bytes / 96 }) file
    → IsSaveOf lead_in bytes file
save_of lead_in bytes file first saved = record {
  allowed = first.lead_in_most;
  left = Some [];
  second = record { before = None; after = None };
  done = record {
    answer = Ok (record { units = length bytes / 96 });
    status_is = refl;
    taken = bytes;
    did = record {
      taken_from = sym (append-nil bytes);
      within = omega (arith, first.most);
      done = (refl, (file, saved, refl));
      stopped = λ stop e not. (cc);
      ended = λ stop e not. (cc);
      cut = λ e. (cc);
    };
    exactly =
        answer_is (nat_lt (1000000 * 96) (length bytes)) (length bytes % 96 == 0) (length bytes / 96)
        (in_limit (1000000 * 96) (length bytes) first.most) (no_rest (length bytes % 96) first.whole);
  };
}
