use Rattle.std.specs.Prelude.{ℕ}
use Rattle.time.specs.declared.duration.Duration.{Duration}
use Rattle.time.specs.declared.instant.Instant.{Instant}
use Rattle.time.specs.declared.rate.Rate.{Rate}

-- How many microseconds a duration lasts.
abbrev pub micros : Duration → ℕ
micros d = d.0

-- How many microseconds after the epoch an instant lies.
abbrev pub since_epoch : Instant → ℕ
since_epoch i = i.0

-- How many hertz a rate has.
abbrev pub hertz : Rate → ℕ
hertz r = r.0
