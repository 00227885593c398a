-- Request 101: every waiting address is merged within as many merges of the oldest (the request's turns) as addresses can
-- wait. What that bound speaks of.
use Rattle.std.specs.Prelude.{ℕ, suc, ◌≤◌, ◌≡◌, Bool, true, false, List, [], ◌∷◌, ◌++◌}
use Rattle.std.proofs.Math.Option.{Option, none, some}
use Rattle.lists.specs.Tests.{pick, maybe}
use Rattle.lists.specs.Rows.{keys, has}
use Rattle.spec.specs.Slots.{Pending, content_of}
use Rattle.spec.specs.Maps.{MapState, merging, oldest}
use Rattle.spec.specs.Steps.{State, Step, act, merge, merge_oldest, final}

-- the install since which a write has waited at an address
unfoldable pub waits_since : MapState → ℕ → Option ℕ
waits_since m k = maybe (content_of m.slots k).pending none (λ (p : Pending). some p.since)

unfoldable pub is_merge_oldest : Step → Bool
is_merge_oldest (act w a) = false
is_merge_oldest (merge a) = false
is_merge_oldest merge_oldest = true

-- how many of the steps merge the oldest
unfoldable pub oldest_merges : List Step → ℕ
oldest_merges [] = 0
oldest_merges (s ∷ ss) = pick (is_merge_oldest s) (suc (oldest_merges ss)) (oldest_merges ss)

-- the step merges, and takes the write that waits at k into the index
unfoldable pub takes_in : State → ℕ → Step → Bool
takes_in σ k (act w a) = false
takes_in σ k (merge a) = has k (keys (merging σ.map a))
takes_in σ k merge_oldest = has k (keys (merging σ.map (oldest σ.map)))

-- One of the steps from a state takes in what waits at k there. It has waited all along, and up to and with that step at
-- most n merge the oldest.
pub record TakenWithin (σ : State) (k n : ℕ) (ss : List Step) : Type 0 where
  pub before : List Step
  pub taker : Step
  pub rest : List Step
  pub parts : ss ≡ before ++ (taker ∷ rest)
  pub waited : waits_since (final σ before).map k ≡ waits_since σ.map k
  pub takes : takes_in (final σ before) k taker ≡ true
  pub soon : oldest_merges (before ++ (taker ∷ [])) ≤ n
