use Rattle.std.proofs.Common.{◌≡◌, Ok, refl, sym, subst}
use Rattle.cdg_io.specs.Change.{from_to}
use Rattle.cdg_cmd.specs.Words.{texts}
use Rattle.cdg_cmd.specs.declared.status.Status.{Status}
use Rattle.cdg_cmd.specs.declared.status.Status.TheVariants.{Usage}
use Rattle.cdg_cmd.proofs.Commands.{no_command, same_command}
use Rattle.cdg_cmd.proofs.Performed.{performed_as}
use Rattle.cdg_cmd.proofs.Reported.{unchanged}
use Rattle.ribjasper.specs.Runs.{RunsOver, taken_bytes}
use Rattle.ribjasper.proofs.Lines.{runs_line, runs_program}
use Rattle.ribjasper.proofs.run_line.Goals as goal
use Rattle.ribjasper.proofs.run_line.Goals.{in-Some, in-None}

-- what holds after a branch holds of the same values after the join
joined : {A B C D : Type 0} (P : A → B → C → D → Type 0) {a a' : A} {b b' : B} {c c' : C} {d d' : D}
    → a ≡ a' → b ≡ b' → c ≡ c' → d ≡ d' → P a' b' c' d' → P a b c d
joined P {a} {a'} {b} {b'} {c} {c'} {d} {d'} one two three four holds =
    subst (λ (x : _). P x b c d) (sym one) (subst (λ (y : _). P a' y c d) (sym two)
    (subst (λ (z : _). P a' b' z d) (sym three) (subst (P a' b' c') (sym four) holds)))

pub returns : goal.returns
returns g c =
    let after = c.match-read_words in
    let runs : RunsOver taken_bytes (texts c.parted.result.0.now) (from_to c.in_ok-first.first after.first)
    (from_to c.in_ok-second.second after.second) (from_to c.in_ok-out.out after.out) after.status =
    elim after.branch [
      | in-Some w ↦ joined
          (λ first second out status. RunsOver taken_bytes (texts c.parted.result.0.now)
          (from_to c.in_ok-first.first first) (from_to c.in_ok-second.second second)
          (from_to c.in_ok-out.out out) status)
          w.first-is w.second-is w.out-is w.status-is
          (record {
            usage = (
              (
                λ e command spelled. w.perform-status.ensures.never e,
                λ none. absurd (none w.in-Some.command w.in-Some.ensures.spelled),
              ),
              λ e. absurd (w.perform-status.ensures.never e),
            );
            performs = λ command spelled.
                performed_as (sym (same_command _ _ (w.in-Some.ensures.all command spelled)))
                w.perform-status.ensures.performs;
            faults = w.perform-status.ensures.faults;
          })
      | in-None w ↦ joined
          (λ first second out status. RunsOver taken_bytes (texts c.parted.result.0.now)
          (from_to c.in_ok-first.first first) (from_to c.in_ok-second.second second)
          (from_to c.in_ok-out.out out) status)
          w.first-is w.second-is w.out-is w.status-is
          (record {
            usage = (
              (λ e command spelled. no_command command (w.in-None.ensures.all command spelled), λ none. refl),
              λ e. (refl, refl, refl),
            );
            performs = λ command spelled. absurd (no_command command (w.in-None.ensures.all command spelled));
            faults = unchanged _ _ _;
          })
    ] in
    runs_program _ c.args.words c.args.stdin c.args.openers c.args.stdout c.new.result c.deref.result.now
    c.in_ok-line.line.items c.in_ok-out.out c.flushed.new.out (Ok c.flushed.result) c.in_ok-line.ensures.words
    c.deref.ensures.value c.new.ensures.writer c.new.ensures.nothing c.in_ok-out.ensures
    (runs_line _ c.args.stdin c.args.openers taken_bytes c.deref.result.now c.parted.result.0.now
    c.parted.result.1.now c.named-first.result.0 c.named-first.result.1
    (from_to c.in_ok-first.first after.first)
    (from_to c.in_ok-second.second after.second) c.in_ok-out.out after.out c.flushed.new.out
    after.status c.flushed.result c.parted.ensures.words c.parted.ensures.names c.named-first.ensures
    c.in_ok-first.ensures c.in_ok-second.ensures runs c.flushed.ensures)
