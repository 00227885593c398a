-- What taking the next numbers makes of the counters.
use Rattle.std.specs.Prelude.{ℕ, ◌+◌}
use Rattle.counters.specs.declared.Counters.{Counters}

-- the next commit number is given
abbrev pub numbered : Counters → Counters
numbered k = record { number = k.number + 1; version = k.version; installs = k.installs }

-- the next n commit numbers are given
abbrev pub counted : Counters → ℕ → Counters
counted k n = record { number = k.number + n; version = k.version; installs = k.installs }

-- the next n leaf versions are given
abbrev pub versioned : Counters → ℕ → Counters
versioned k n = record { number = k.number; version = k.version + n; installs = k.installs }

-- one install more is counted
abbrev pub installed : Counters → Counters
installed k = record { number = k.number; version = k.version; installs = k.installs + 1 }
