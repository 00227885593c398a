-- Scan, as it goes.
use Rattle.std.specs.Prelude.{ℕ, Result, Ok, Err}
use Rattle.spec.specs.declared.Refusal.{Refusal}
use Rattle.spec.specs.Steps.{Answer, listed, refused, scan}
use Rattle.map.specs.Views.{Lent}
use Rattle.transactions.specs.Cores.{Core}
use Rattle.buffers.specs.Buffers.{Buffers, places_of, rows_in, Beyond}
use Rattle.transactions.specs.Views.{Logs}
use Rattle.transactions.specs.Ready.{Refines}

-- document 01's answer: the first places of the buffers after the scan, as rows
abbrev pub scan_in : Result ℕ Refusal → Buffers → Answer
scan_in (Ok n) b = listed (rows_in n b)
scan_in (Err r) b = refused r

-- how many places of each buffer a scan may write
abbrev pub places : Result ℕ Refusal → ℕ
places (Ok n) = n
places (Err r) = 0

-- A scan taken: the arrays, the buffers and the core before it, its range, and those after it. Every place of a buffer
-- past those shown is as it was; of a refused scan every place is.
pub record Scans (l : Lent) (g : Logs) (c : Core) (w lo hi : ℕ) (b : Buffers) (g' : Logs) (d : Buffers) (c' : Core) (r : Result ℕ Refusal) : Type 0 where
  pub refines : Refines l g c (scan w lo hi (places_of b)) l g' c' (scan_in r d)
  pub beyond : Beyond (places r) b d
