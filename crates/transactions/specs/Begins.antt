-- Begin, as it goes: refused by 1 or 3, or the worker is open with nothing read or written.
use Rattle.std.specs.Prelude.{ℕ, Result, Ok, Err}
use Rattle.spec.specs.declared.Refusal.{Refusal}
use Rattle.spec.specs.Steps.{begin, Answer, done, refused}
use Rattle.map.specs.Views.{Lent}
use Rattle.transactions.specs.Cores.{Core}
use Rattle.transactions.specs.Views.{Logs}
use Rattle.transactions.specs.Ready.{Ready, Refines}

-- document 01's answer of a step that tells nothing more
abbrev pub plain_in : Result Unit Refusal → Answer
plain_in (Ok u) = done
plain_in (Err r) = refused r

-- the core before it and after it, whatever the arrays hold
pub record Begins (c : Core) (w : ℕ) (c' : Core) (r : Result Unit Refusal) : Type 0 where
  pub refines_so : (l : Lent) (g : Logs) → Ready l g c → Refines l g c (begin w) l g c' (plain_in r)
