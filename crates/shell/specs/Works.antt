-- What the program keeps from turn to turn, what it asks of the system and when, and what it makes of each answer. What the
-- system reads and writes no contract can say. All that lies between two calls is said here: the bytes that a read brought,
-- those that were handed to a write, and that what is missing of `output` is due.
use Rattle.std.specs.Prelude.{ℕ, ◌+◌, ◌^◌, ◌<◌, ◌≤◌, ◌≡◌, Bool, true, false, not, List, [], ◌++◌, Option as Optional, Some, None, is_none, IfSome, min, ltb, length, take}
use Rattle.std.specs.Option.{unwrap_or}
use Rattle.lists.specs.Tests.{both}
use Rattle.map.specs.Views.{Lent}
use Rattle.transactions.specs.Views.{Logs, state_of, core_of}
use Rattle.transactions.specs.Ready.{Ready}
use Rattle.console.specs.declared.session.Session.{Session}
use Rattle.console.specs.Program.{output}
use Rattle.console.specs.Sessions.{session_of, Started, due, with_places, Told, Runs}
use Rattle.shell.specs.declared.Work.{Work}
use Rattle.shell.specs.declared.system.Calls.{Calls}

-- ---- what is made of an answer of the system

-- what a call that is handed n bytes may answer: how many bytes it moved, at most n, or none where it failed
abbrev pub Moved : ℕ → Optional ℕ → Type 0
Moved n got = IfSome got (λ (k : ℕ). k ≤ n)

-- the bytes that a read brought, into so many
abbrev pub bytes_moved : Optional ℕ → ℕ → ℕ
bytes_moved got size = min (unwrap_or got 0) size

-- whether it brought any
abbrev pub brought : Optional ℕ → Bool
brought got = ltb 0 (unwrap_or got 0)

-- whether it failed
abbrev pub broken : Optional ℕ → Bool
broken got = is_none got

-- before the first call
abbrev pub no_calls : Calls
no_calls = record { made = 0; fed = 0; told = 0; answer = Some 0 }

-- the calls with one more: a read into so many bytes
abbrev pub read_call : Calls → Optional ℕ → ℕ → Calls
read_call c got size = record { made = c.made + 1; fed = c.fed + bytes_moved got size; told = c.told; answer = got }

-- how a write is answered: it brings no bytes
abbrev pub write_answer : Bool → Optional ℕ
write_answer true = Some 0
write_answer false = None

-- the calls with one more: a write of so many bytes
abbrev pub write_call : Calls → ℕ → Bool → Calls
write_call c n written = record { made = c.made + 1; fed = c.fed; told = c.told + n; answer = write_answer written }

-- The work when a read was the last call: the bytes that it brought are run from the first on. With none there is nothing to
-- go on with.
abbrev pub with_read : Work → Calls → ℕ → Work
with_read w c size =
    record {
      session = with_places w.session 0 0;
      count = bytes_moved c.answer size;
      going = brought c.answer;
      failed = broken c.answer;
      calls = c;
    }

-- The work when a write of all that waited was the last call: the session goes on where it is, unless the write failed or the
-- script has ended.
abbrev pub with_write : Work → Calls → Work
with_write w c =
    record {
      session = with_places w.session w.session.next 0;
      count = w.count;
      going = both (not (broken c.answer)) (not w.session.stopped);
      failed = broken c.answer;
      calls = c;
    }

abbrev pub after_read : Work → Optional ℕ → ℕ → Work
after_read w got size = with_read w (read_call w.calls got size) size

abbrev pub after_write : Work → Bool → Work
after_write w written = with_write w (write_call w.calls w.session.at written)

-- the work with another session
abbrev pub with_session : Work → Session → Work
with_session w x =
    record { session = x; count = w.count; going = w.going; failed = w.failed; calls = w.calls }

-- ---- where the program stands

-- The bytes `fed` came from the system and `told` were handed to it, as many as the work counts. The text `waiting` is to be
-- written next. Whatever comes, all that is missing then of the output is due for what the session has yet to run.
pub record Stands (l : Lent) (g : Logs) (ws input waiting : List ℕ) (w : Work) : Type 0 where
  pub ready : Ready l g (core_of ws w.session.globals)
  pub started : Started l g (session_of ws w.session)
  pub waits : length waiting ≡ w.session.at
  pub count_fits : w.count ≤ length input
  pub fed : List ℕ
  pub told : List ℕ
  pub fed_count : length fed ≡ w.calls.fed
  pub told_count : length told ≡ w.calls.told
  pub line : List ℕ
  pub tells : (future : List ℕ) → Told (fed ++ future) l g (session_of ws w.session) line (take w.count input) future (told ++ waiting)

-- Between two turns nothing waits. Where the program goes on, no line was malformed; where it does not, and nothing failed,
-- only the end is missing. What failed was the last call.
pub record Rests (l : Lent) (g : Logs) (ws input : List ℕ) (w : Work) : Type 0 where
  pub stands : Stands l g ws input [] w
  pub goes : w.going ≡ true → w.session.stopped ≡ false
  pub ends : w.going ≡ false → w.failed ≡ false
      → stands.told ++ due (state_of l g (core_of ws w.session.globals)) w.session.first stands.line w.session.stopped [] 0 []
      ≡ output stands.fed
  pub fails : w.failed ≡ broken w.calls.answer

-- The counts are numbers of 64 bits: one more call, of so many bytes, fits.
pub record Countable (w : Work) (size : ℕ) : Type 0 where
  pub made : w.calls.made + 1 < 2 ^ 64
  pub fed : w.calls.fed + size < 2 ^ 64
  pub told : w.calls.told + size < 2 ^ 64

-- ---- what is asked of the system, and when

-- More input: all that there was is run, all that was due for it is written, and the input has not ended.
pub record Reads (l : Lent) (g : Logs) (ws input : List ℕ) (w : Work) : Type 0 where
  pub rests : Rests l g ws input w
  pub used : w.count ≤ w.session.next
  pub goes : w.going ≡ true

-- To write a text: what waits, to the byte, and at the end what is missing of the output.
pub record Owed (l : Lent) (g : Logs) (ws input : List ℕ) (w : Work) (text : List ℕ) : Type 0 where
  pub waiting : List ℕ
  pub stands : Stands l g ws input waiting w
  pub between : w.going ≡ true → text ≡ waiting
  pub last : w.going ≡ false → stands.told ++ text ≡ output stands.fed

-- ---- calls made, whatever they answered

pub record ReadMade (c : Calls) (size : ℕ) (r : Calls) : Type 0 where
  pub got : Optional ℕ
  pub moved : Moved size got
  pub after : r ≡ read_call c got size

pub record WriteMade (c : Calls) (n : ℕ) (r : Calls) : Type 0 where
  pub written : Bool
  pub after : r ≡ write_call c n written

-- ---- turns

-- a read
pub record ReadDone (w : Work) (size : ℕ) (r : Work) : Type 0 where
  pub got : Optional ℕ
  pub moved : Moved size got
  pub after : r ≡ after_read w got size

-- a write
pub record WriteDone (w : Work) (r : Work) : Type 0 where
  pub written : Bool
  pub after : r ≡ after_write w written

-- One turn: where all input is run, a read, which leaves the engine; else the lines of what there is, and a write.
pub record Turns (l : Lent) (g : Logs) (ws input out : List ℕ) (w : Work) (l' : Lent) (g' : Logs) (ws' input' out' : List ℕ) (r : Work) : Type 0 where
  pub reads : w.count ≤ w.session.next → (l' ≡ l) × (g' ≡ g) × (ws' ≡ ws) × ReadDone w (length input') r
  pub runs : w.session.next < w.count
      → (x : Session) × Runs l g (session_of ws w.session) (take w.count input) out l' g' (session_of ws' x) out' × WriteDone (with_session w x) r

-- ---- the end, and a whole run

-- At the end the rest of the output is handed over, unless a call failed or the input has not ended.
pub record Closes (l : Lent) (g : Logs) (ws input : List ℕ) (w : Work) (c : Calls) : Type 0 where
  pub failed : w.failed ≡ true → c ≡ w.calls
  pub goes : w.going ≡ true → c ≡ w.calls
  pub ends : w.going ≡ false → w.failed ≡ false → (h : Rests l g ws input w)
      → (text : List ℕ) × WriteMade w.calls (length text) c × (h.stands.told ++ text ≡ output h.stands.fed)

-- The turns that the program takes at most.
abbrev pub most_turns : ℕ
most_turns = 140737488355327

-- The calls of a whole run. What they handed over is a beginning of the output of what they read; and all of it, unless the
-- last one failed or the turns were used up.
pub record Ran (c : Calls) : Type 0 where
  pub fed : List ℕ
  pub told : List ℕ
  pub fed_count : length fed ≡ c.fed
  pub told_count : length told ≡ c.told
  pub begins : (rest : List ℕ) × (told ++ rest ≡ output fed)
  pub whole : broken c.answer ≡ false → c.made < most_turns → told ≡ output fed
