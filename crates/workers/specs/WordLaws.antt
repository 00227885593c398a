-- The laws of workers in words: a worker put is the worker found, and the others stay.
use Rattle.std.specs.Prelude.{ℕ, zero, suc, ◌/◌, ◌%◌, ◌<◌, ◌≡◌, refl, List, ◌∷◌, map, length, get_or, set, replicate}
use Rattle.std.proofs.Common.{arith, sym, ap, ◌∙◌}
use Rattle.std.proofs.lemmas.List.{length-map}
use Rattle.std.proofs.Math.ListN.{get_or-map}
use Rattle.lists.specs.Mapped.{mapped_set}
use Rattle.lists.specs.Tests.{same}
use Rattle.lists.specs.TestLaws.{same_no}
use Rattle.spec.specs.declared.Stage.{Stage}
use Rattle.spec.specs.declared.Stage.TheVariants.{Free, Open, Locked, Checked}
use Rattle.workers.specs.declared.Worker.{Worker}
use Rattle.workers.specs.Workers.{number_field, freed, rank_of, stage_at, packed_at, packed, unpacked_at, unpacked, workers_of}

rank_small : (s : Stage) → rank_of s < 256
rank_small Free = omega arith
rank_small Open = omega arith
rank_small Locked = omega arith
rank_small Checked = omega arith

rank_stage : (s : Stage) → stage_at (rank_of s) ≡ s
unfolding stage_at same
rank_stage Free = refl
rank_stage Open = refl
rank_stage Locked = refl
rank_stage Checked = refl

-- ---- the code's stages and sums

pub stage_is : {n m : ℕ} {s : Stage} → n ≡ m → s ≡ stage_at m → s ≡ stage_at n
stage_is e q = q ∙ ap stage_at (sym e)

pub stage_checked : {n : ℕ} → (n ≡ 0 → ⊥) → (n ≡ 1 → ⊥) → (n ≡ 2 → ⊥) → Checked ≡ stage_at n
unfolding stage_at
stage_checked f g h = sym (rw (same_no f, same_no g, same_no h))

pub unpack_is : (n : ℕ) {s : Stage} → s ≡ stage_at (n / number_field % 256) → unpacked_at n s ≡ unpacked n
unfolding unpacked
unpack_is n e = ap (unpacked_at n) e

pub pack_is : (x : Worker) {r : ℕ} → r ≡ rank_of x.stage → packed_at x r ≡ packed x
unfolding packed
pack_is x e = ap (packed_at x) e

-- ---- there and back

-- The fields of a worker have their bits.
pub record Narrow (x : Worker) : Type 0 where
  pub number : x.number < number_field
  pub reads : x.reads < 256
  pub leaves : x.leaves < 256
  pub writes : x.writes < 256

pub unpack_pack : (x : Worker) → Narrow x → unpacked (packed x) ≡ x
unfolding packed unpacked
unpack_pack x h =
    λ i. record { number = number i; stage = (ap stage_at stage ∙ rank_stage x.stage) i; reads = reads i; leaves = leaves i; writes = writes i }
  where
    number : packed x % number_field ≡ x.number
    number = let a = h.number in omega arith

    stage : packed x / number_field % 256 ≡ rank_of x.stage
    stage = let a = h.number in let b = rank_small x.stage in omega arith

    reads : packed x / number_field / 256 % 256 ≡ x.reads
    reads = let a = h.number in let b = rank_small x.stage in let c = h.reads in omega arith

    leaves : packed x / number_field / 256 / 256 % 256 ≡ x.leaves
    leaves = let a = h.number in let b = rank_small x.stage in let c = h.reads in let d = h.leaves in omega arith

    writes : packed x / number_field / 256 / 256 / 256 % 256 ≡ x.writes
    writes = let a = h.number in let b = rank_small x.stage in let c = h.reads in let d = h.leaves in let e = h.writes in omega arith

-- ---- the workers of lent words

pub workers_length : (ws : List ℕ) → length (workers_of ws) ≡ length ws
unfolding workers_of
workers_length ws = length-map ws unpacked

-- worker w put
pub workers_put : (ws : List ℕ) (w n : ℕ) {x : Worker} → unpacked n ≡ x → workers_of (set ws w n) ≡ set (workers_of ws) w x
unfolding workers_of
workers_put ws w n e = mapped_set unpacked ws w n ∙ ap (set (map unpacked ws) w) e

freed_word : unpacked 0 ≡ freed
unfolding unpacked stage_at same
freed_word = refl

-- worker w of a word
pub worker_of_lem : (ws : List ℕ) (w : ℕ) → unpacked (get_or ws w 0) ≡ get_or (workers_of ws) w freed
unfolding workers_of
worker_of_lem ws w = sym (ap (get_or (map unpacked ws) w) (sym freed_word) ∙ get_or-map unpacked ws w 0)

-- free workers
pub workers_free : (n : ℕ) → workers_of (replicate n 0) ≡ replicate n freed
unfolding workers_of
workers_free zero = refl
workers_free (suc n) = λ i. freed_word i ∷ workers_free n i
