-- A worker with its three sets, as the model has it, what its methods make of it, and its word.
use Rattle.std.specs.Prelude.{ℕ, ◌+◌, ◌*◌, ◌/◌, ◌%◌, ◌^◌, List, map}
use Rattle.lists.specs.Tests.{pick, same}
use Rattle.spec.specs.declared.Stage.{Stage}
use Rattle.spec.specs.declared.Stage.TheVariants.{Free, Open, Locked, Checked}
use Rattle.spec.specs.Steps as model
use Rattle.workers.specs.declared.Worker.{Worker}
use Rattle.sets.specs.Reads.{ReadRows, reads_in}
use Rattle.sets.specs.Leaves.{LeafSetRows, versions_in, scans_in}
use Rattle.sets.specs.Writes.{WriteRows, writes_in}

-- worker w (document 01: a seat), with the rows of all read sets, leaf sets and write sets
unfoldable pub worker_in : Worker → List ReadRows → List LeafSetRows → List WriteRows → ℕ → model.Worker
worker_in x rs ls ws w =
    record {
      stage = x.stage;
      reads = reads_in rs w x.reads;
      versions = versions_in ls w x.leaves;
      scans = scans_in ls w x.leaves;
      writes = writes_in ws w x.writes;
      number = x.number;
    }

-- ---- stages

abbrev pub begun : Worker
begun = record { stage = Open; number = 0; reads = 0; leaves = 0; writes = 0 }

abbrev pub at_lock : Worker → Worker
at_lock x = record { stage = Locked; number = x.number; reads = x.reads; leaves = x.leaves; writes = x.writes }

abbrev pub at_check : Worker → ℕ → Worker
at_check x n = record { stage = Checked; number = n; reads = x.reads; leaves = x.leaves; writes = x.writes }

abbrev pub freed : Worker
freed = record { stage = Free; number = 0; reads = 0; leaves = 0; writes = 0 }

-- ---- counts

-- the worker with another count of one of its sets
abbrev pub with_reads : Worker → ℕ → Worker
with_reads x n = record { stage = x.stage; number = x.number; reads = n; leaves = x.leaves; writes = x.writes }

abbrev pub with_writes : Worker → ℕ → Worker
with_writes x n = record { stage = x.stage; number = x.number; reads = x.reads; leaves = x.leaves; writes = n }

-- ---- words

-- the stages numbered
abbrev pub rank_of : Stage → ℕ
rank_of Free = 0
rank_of Open = 1
rank_of Locked = 2
rank_of Checked = 3

unfoldable pub stage_at : ℕ → Stage
stage_at n = pick (same n 0) Free (pick (same n 1) Open (pick (same n 2) Locked Checked))

-- how many values the commit number can have in a worker's word: 32 bits
abbrev pub number_field : ℕ
number_field = 2 ^ 32

-- a worker's word: from its lowest bits on the number, then the rank of its stage and the three counts, of 8 each
abbrev pub packed_at : Worker → ℕ → ℕ
packed_at x rank = x.number + number_field * (rank + 256 * (x.reads + 256 * (x.leaves + 256 * x.writes)))

unfoldable pub packed : Worker → ℕ
packed x = packed_at x (rank_of x.stage)

-- the worker of a word whose stage is s
abbrev pub unpacked_at : ℕ → Stage → Worker
unpacked_at n s =
    record {
      number = n % number_field;
      stage = s;
      reads = n / number_field / 256 % 256;
      leaves = n / number_field / 256 / 256 % 256;
      writes = n / number_field / 256 / 256 / 256 % 256;
    }

-- any word is a worker's
unfoldable pub unpacked : ℕ → Worker
unpacked n = unpacked_at n (stage_at (n / number_field % 256))

-- the workers of lent words
unfoldable pub workers_of : List ℕ → List Worker
workers_of ws = map unpacked ws
