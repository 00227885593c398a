-- Document 01, "Refusals by number", and the requests: the number of each refusal, and which of them end the transaction.
use Rattle.std.specs.Prelude.{ℕ, Bool, true, false}
use Rattle.spec.specs.declared.Refusal.{Refusal}
use Rattle.spec.specs.declared.Refusal.TheVariants.{NoWorker, WorkerFree, WorkerTaken, WrongStage, Backward, LogFull, WritesFull, ShortBuffer, Held, IndexletFull, MapFull, Changed, UnderLock, Phantom, Spent, Unfit, Uncovered, Overlap, ExportOpen, NoExport}

abbrev pub number_of : Refusal → ℕ
number_of NoWorker = 1
number_of WorkerFree = 2
number_of WorkerTaken = 3
number_of WrongStage = 4
number_of Backward = 5
number_of LogFull = 6
number_of WritesFull = 7
number_of ShortBuffer = 8
number_of Held = 9
number_of IndexletFull = 10
number_of MapFull = 11
number_of Changed = 12
number_of UnderLock = 13
number_of Phantom = 14
number_of Spent = 15
number_of Unfit = 16
number_of Uncovered = 17
number_of Overlap = 18
number_of ExportOpen = 19
number_of NoExport = 20

-- 12, 13 and 14 end the transaction
abbrev pub ends : Refusal → Bool
ends NoWorker = false
ends WorkerFree = false
ends WorkerTaken = false
ends WrongStage = false
ends Backward = false
ends LogFull = false
ends WritesFull = false
ends ShortBuffer = false
ends Held = false
ends IndexletFull = false
ends MapFull = false
ends Changed = true
ends UnderLock = true
ends Phantom = true
ends Spent = false
ends Unfit = false
ends Uncovered = false
ends Overlap = false
ends ExportOpen = false
ends NoExport = false
