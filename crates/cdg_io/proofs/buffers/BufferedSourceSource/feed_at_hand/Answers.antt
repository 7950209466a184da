use Rattle.std.proofs.Common.{◌≡◌, ◌≤◌, ℕ, List, length, take, ap, sym, ◌∙◌, subst, arith, length-take-le}
use Rattle.std.specs.Io.Buffered.{reader_buffer, reader_remaining}
use Rattle.std.specs.Io.KnownBytes.{Consumes}
use Rattle.cdg_io.proofs.Bytes.{front_consumed}
use Rattle.cdg_io.proofs.buffers.BufferedSourceSource.feed_at_hand.Goals as goal

pub returns-clause-fed : goal.returns-clause-fed
returns-clause-fed g c = λ reported.
    let same : c.self.inside.reader ≡ c.args.self.now.inner = ap (λ (v : _). v.inner) c.self.view_is in
    let row = reader_buffer c.self.inside.reader in
    let shown : c.buffer-row.result.now ≡ row = c.buffer-row.ensures in
    let size : c.SIZE-2.result ≡ g.G.UnitStage.SIZE = c.SIZE-2.ensures in
    let fits : c.SIZE-2.result ≤ length row =
    omega (arith, c.SIZE.ensures, size, c.if-row-SIZE.false, ap length shown) in
    let unit = take c.SIZE-2.result row in
    let front : take c.SIZE-2.result c.buffer-row.result.now ≡ unit = ap (take c.SIZE-2.result) shown in
    let three : c.SIZE-3.result ≡ c.SIZE-2.result = c.SIZE-3.ensures ∙ sym size in
    let taken =
    front_consumed _ _ _ _ _ (subst (λ (n : ℕ). n ≤ length row) (sym three) fits) c.consume.ensures.bytes in (
      unit,
      length-take-le c.SIZE-2.result row fits ∙ size,
      subst (λ (r : _). Consumes (reader_remaining g.R.Read.remaining r)
          (reader_remaining g.R.Read.remaining c.consume.new.self) unit) same
          (subst (λ (n : ℕ). Consumes (reader_remaining g.R.Read.remaining c.self.inside.reader)
          (reader_remaining g.R.Read.remaining c.consume.new.self) (take n row)) three taken),
      subst (λ (u : List ℕ). c.take_unit.new.self ≡ g.G.UnitStage.next c.args.stage.now u) front
          c.take_unit.ensures.next,
      subst (λ (u : List ℕ). c.take_unit.new.given ≡ g.G.UnitStage.gives c.args.stage.now u) front
          c.take_unit.ensures.gives,
    )
