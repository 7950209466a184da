-- The stops of a reader and of a pump differ.
use Rattle.std.proofs.Common.{◌≡◌, ◌≢◌, ℕ, ◌+◌, ◌-◌, ◌<◌, ◌≤◌, min, List, ◌++◌, length, take, drop, length-append, Result, Ok, Err, refl, sym, ap, subst, arith, ◌∙◌}
use Rattle.std.specs.declared.option.Option.{Option}
use Rattle.std.proofs.KnownBytes.{Consumes-kept, Consumes-trans}
use Rattle.std.proofs.lemmas.List.{length-drop, length-take, take-append-le}
use Rattle.std.specs.Prelude.{IsErr}
use Rattle.std.specs.Io.KnownBytes.{Consumes}
use Rattle.cdg_io.specs.Causes.{RoseOnce}
use Rattle.cdg_io.specs.Moves.{ConsumesBelow}
use Rattle.cdg_io.specs.Whole.{ConsumesExactly, ReadsUpTo, ReadsWithin, StopsAtFault}
use Rattle.cdg_io.specs.declared.ends.Source.{Ghosts as Source}
use Rattle.cdg_io.specs.declared.whole.ReadStop.{ReadStop}
use Rattle.cdg_io.specs.declared.whole.ReadStop.TheVariants.{Failed, NoMemory, TooLong as TextTooLong}
use Rattle.cdg_io.specs.declared.pumping.PumpStop.{PumpStop}
use Rattle.cdg_io.specs.declared.pumping.PumpStop.TheVariants.{ReadFault, WriteFault, Torn, TooLong}

pub failed_is_no_length : ◌≡◌ {A = ReadStop} Failed TextTooLong → ⊥
failed_is_no_length same = (cc)

pub failed_is_no_memory : ◌≡◌ {A = ReadStop} Failed NoMemory → ⊥
failed_is_no_memory same = (cc)

pub same_stop : {T : Type 0} (a b : ReadStop) → ◌≡◌ {A = Result T ReadStop} (Err a) (Err b) → a ≡ b
same_stop a b same = (cc)

pub memory_is_no_length : ◌≡◌ {A = ReadStop} NoMemory TextTooLong → ⊥
memory_is_no_length same = (cc)

pub memory_is_no_fault : ◌≡◌ {A = ReadStop} NoMemory Failed → ⊥
memory_is_no_fault same = (cc)

pub long_is_no_fault : {T X : Type 0} → ◌≡◌ {A = Result T ReadStop} (Err TextTooLong) (Err Failed) → X
long_is_no_fault same = absurd (cc)

pub read_is_no_write : {T X : Type 0} → ◌≡◌ {A = Result T PumpStop} (Err ReadFault) (Err WriteFault) → X
read_is_no_write same = absurd (cc)

pub write_is_no_read : {T X : Type 0} → ◌≡◌ {A = Result T PumpStop} (Err WriteFault) (Err ReadFault) → X
write_is_no_read same = absurd (cc)

pub torn_is_no_read : {T X : Type 0} (n : ℕ) → ◌≡◌ {A = Result T PumpStop} (Err (Torn n)) (Err ReadFault) → X
torn_is_no_read n same = absurd (cc)

pub torn_is_no_write : {T X : Type 0} (n : ℕ) → ◌≡◌ {A = Result T PumpStop} (Err (Torn n)) (Err WriteFault)
    → X
torn_is_no_write n same = absurd (cc)

pub long_is_no_read : {T X : Type 0} → ◌≡◌ {A = Result T PumpStop} (Err TooLong) (Err ReadFault) → X
long_is_no_read same = absurd (cc)

pub long_is_no_write : {T X : Type 0} → ◌≡◌ {A = Result T PumpStop} (Err TooLong) (Err WriteFault) → X
long_is_no_write same = absurd (cc)

-- whatever ended the call, it consumed at most one byte more than its limit
pub read_part : {S : Type 0} (stop : ReadStop) (left : S → Option (List ℕ)) (faults : S → ℕ)
    (most : ℕ) {before after : S} → (stop ≡ NoMemory → ReadsWithin left most before after)
    → (stop ≡ TextTooLong → ConsumesExactly (left before) (left after) (most + 1))
    → (stop ≡ Failed → StopsAtFault left faults most before after)
    → ConsumesBelow (left before) (left after) (most + 2)
read_part NoMemory left faults most none long cut =
    let read = none refl in
    (read.taken, omega (arith, read.within), read.took)
read_part TextTooLong left faults most none long cut =
    let (taken, count, took) = long refl in
    (taken, omega (arith, count), took)
read_part Failed left faults most {before} {after} none long cut =
    let read = cut refl in (
      read.taken,
      omega (arith, read.within),
      Consumes-kept (left before) (left read.last) (left after) read.taken read.took read.nothing,
    )

-- a read failed, after some bytes were consumed without a fault
pub stops_after : {S : Type 0} (left : S → Option (List ℕ)) (faults : S → ℕ) (few most : ℕ)
    (before mid after : S) (taken : List ℕ) → Consumes (left before) (left mid) taken
    → faults mid ≡ faults before → length taken + few ≤ most → StopsAtFault left faults few mid after
    → StopsAtFault left faults most before after
stops_after left faults few most before mid after taken took quiet fits stops = record {
  last = stops.last;
  taken = taken ++ stops.taken;
  within = omega (arith, length-append taken stops.taken, stops.within, fits);
  took = Consumes-trans (left before) (left mid) (left stops.last) taken stops.taken took stops.took;
  quiet = stops.quiet ∙ quiet;
  nothing = stops.nothing;
}

-- the bytes that one more read consumed, and the sum
pub read_more : (a b c : Option (List ℕ)) (old buf : List ℕ) (n : ℕ) → n ≤ length buf → Consumes a b old
    → Consumes b c (take n buf)
    → Consumes a c (old ++ take n buf) × (length (old ++ take n buf) ≡ length old + n)
read_more a b c old buf n bound before now = (
  Consumes-trans a b c old (take n buf) before now,
  omega (arith, length-append old (take n buf), length-take n buf, bound),
)

-- `n` more bytes than `len` came, and then a rest that fits, has one byte too many, or at most one
pub rest_within : (limit len n : ℕ) (all rest : List ℕ) → length all ≡ len + n → len ≤ limit → n ≤ limit - len
    → length rest ≤ limit - len - n
    → length (all ++ rest) ≤ limit
rest_within limit len n all rest count within room few = omega (arith, length-append all rest)

pub rest_is_long : (limit len n : ℕ) (all rest : List ℕ) → length all ≡ len + n → len ≤ limit
    → n ≤ limit - len
    → length rest ≡ limit - len - n + 1
    → length (all ++ rest) ≡ limit + 1
rest_is_long limit len n all rest count within room few = omega (arith, length-append all rest)

pub rest_is_below : (limit len n : ℕ) (all rest : List ℕ) → length all ≡ len + n → len ≤ limit
    → n ≤ limit - len
    → length rest < limit - len - n + 2
    → length (all ++ rest) < limit + 2
rest_is_below limit len n all rest count within room few = omega (arith, length-append all rest)

-- one more byte than the limit
pub one_over_is_below : (n limit : ℕ) → n ≡ limit + 1 → n < limit + 2
one_over_is_below n limit over = omega arith

pub one_over_is_more : (n limit : ℕ) → n ≡ limit + 1 → limit < n
one_over_is_more n limit over = omega arith

-- ---- A chunk of 4096 bytes, of which a read was offered the first `n + 1`.

pub none_below : {n : ℕ} → n ≡ 0 → n < 1
none_below zero = omega (arith, zero)

pub some_at_least : {n : ℕ} → n ≢ 0 → 1 ≤ n
some_at_least some = omega (arith, some)

pub offer_fits : (n room : ℕ) (chunk : List ℕ) → n ≡ min room 4095 → length chunk ≡ 4096
    → n + 1 ≤ length chunk
offer_fits n room chunk is size = omega arith

pub offer_some : (n room : ℕ) (chunk : List ℕ) → n ≡ min room 4095 → length chunk ≡ 4096
    → 0 < length (take (n + 1) chunk)
offer_some n room chunk is size = omega (arith, length-take (n + 1) chunk)

-- the offered part is not empty after the read either
pub offer_is_some : (buf chunk : List ℕ) (n room : ℕ) → n ≡ min room 4095 → length chunk ≡ 4096
    → length buf ≡ length (take (n + 1) chunk)
    → 0 < length buf
offer_is_some buf chunk n room is size same = omega (arith, length-take (n + 1) chunk)

pub front_fits : (n : ℕ) (front rest : List ℕ) → n ≤ length front → n ≤ length (front ++ rest)
front_fits n front rest fits = omega (arith, length-append front rest)

pub refilled : (buf chunk : List ℕ) (n room : ℕ) → n ≡ min room 4095 → length chunk ≡ 4096
    → length buf ≡ length (take (n + 1) chunk)
    → length (buf ++ drop (n + 1) chunk) ≡ 4096
refilled buf chunk n room is size same =
    omega
    (arith, length-append buf (drop (n + 1) chunk), length-drop (n + 1) chunk, length-take (n + 1) chunk)

-- the bytes that a read returned were appended to the earlier bytes
pub read_kept : (a b c : Option (List ℕ)) (old new buf rest : List ℕ) (n : ℕ) → n ≤ length buf
    → new ≡ old ++ take n (buf ++ rest) → Consumes a b old → Consumes b c (take n buf)
    → Consumes a c new
read_kept a b c old new buf rest n fits is before now =
    subst (Consumes a c) (sym (is ∙ ap (λ (l : List ℕ). old ++ l) (take-append-le n buf rest fits)))
    (Consumes-trans a b c old (take n buf) before now)

-- and they fit within the limit
pub grown_fits : (limit len new seen n : ℕ) (buf rest : List ℕ) → new ≡ len + length (take n (buf ++ rest))
    → seen ≡ len → len ≤ limit → n ≤ limit - seen
    → new ≤ limit
grown_fits limit len new seen n buf rest is same within fits = omega (arith, length-take n (buf ++ rest))

pub room_shrinks : (limit len new seen n : ℕ) (buf rest : List ℕ) → new ≡ len + length (take n (buf ++ rest))
    → n ≤ length buf → seen ≡ len → len ≤ limit → n ≢ 0 → n ≤ limit - seen
    → limit + 1 - new < limit + 1 - len
room_shrinks limit len new seen n buf rest is all same within some fits =
    omega (arith, length-take n (buf ++ rest), length-append buf rest)

-- ---- A read of up to `room` bytes, and the size of a unit.

pub read_of_size : {S E : Type 0} (source : Source S) (room size : ℕ) (before after : S) (r : Result ℕ E)
    → ReadsUpTo source room before after r → room ≡ size
    → ReadsUpTo source size before after r
read_of_size source room size before after r read same =
    subst (λ (n : ℕ). ReadsUpTo source n before after r) same read

-- a whole unit was read
pub read_full : {S E : Type 0} (source : Source S) (room size : ℕ) (before after : S) (n least count : ℕ)
    → ReadsUpTo {E = E} source room before after (Ok n) → room ≡ size → least ≡ size → least ≤ n
    → count ≡ size
    → ReadsUpTo {E = E} source size before after (Ok count)
read_full {S} {E} source room size before after n least count read same all fits is =
    let within : n ≤ room = read.within in
    let whole : n ≡ count = omega arith in
    subst (λ (k : ℕ). ReadsUpTo {E = E} source size before after (Ok k)) whole
    (read_of_size source room size before after (Ok n) read same)

-- the read failed
pub read_failed : {S E F : Type 0} (source : Source S) (room size : ℕ) (before after : S) (fault : F)
    (r : Result ℕ E) → ReadsUpTo {E = F} source room before after (Err fault) → IsErr r → room ≡ size
    → ReadsUpTo source size before after r
read_failed source room size before after fault (Ok count) read err same = (cc)
read_failed {S} {E} {F} source room size before after fault (Err other) read err same =
    let sized = read_of_size {E = F} source room size before after (Err fault) read same in
    record {
      within = tt;
      part = sized.part;
      cut = sized.cut;
      cause = record { later = sized.cause.later; failed = sized.cause.failed; same = tt };
      counts = record {
        end = record { ended = tt; goes_on = tt; failed = sized.counts.end.failed };
        room = record { full = tt; short = tt; failed = sized.counts.room.failed };
      };
    }

-- the input ended after n bytes
pub read_short : {S E : Type 0} (source : Source S) (room : ℕ) (before after : S) (n : ℕ) → n < room
    → source.faults after ≡ source.faults before → RoseOnce (source.ends before) (source.ends after)
    → source.fills after ≡ source.fills before
    → ReadsUpTo {E = E} source room before after (Ok n)
read_short source room before after n few quiet ended rest = record {
  within = omega (arith, few);
  part = tt;
  cut = tt;
  cause = record { later = omega (arith, quiet); failed = tt; same = quiet };
  counts = record {
    end = record { ended = λ _. ended; goes_on = λ le. absurd (omega (arith, le, few)); failed = tt };
    room = record { full = λ le. absurd (omega (arith, le, few)); short = λ _. rest; failed = tt };
  };
}

-- all bytes were read
pub read_all : {S E : Type 0} (source : Source S) (room : ℕ) (before after : S) (n : ℕ) → n ≡ room
    → source.faults after ≡ source.faults before → source.ends after ≡ source.ends before
    → RoseOnce (source.fills before) (source.fills after)
    → ReadsUpTo {E = E} source room before after (Ok n)
read_all source room before after n all quiet rest full = record {
  within = omega (arith, all);
  part = tt;
  cut = tt;
  cause = record { later = omega (arith, quiet); failed = tt; same = quiet };
  counts = record {
    end = record { ended = λ lt. absurd (omega (arith, lt, all)); goes_on = λ _. rest; failed = tt };
    room = record { full = λ _. full; short = λ lt. absurd (omega (arith, lt, all)); failed = tt };
  };
}
