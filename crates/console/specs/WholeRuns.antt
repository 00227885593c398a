-- A whole run of the program. The input comes in pieces; a piece is fed until all of it is read; what was written is taken
-- away whenever it suits; at the end the rest is written. However the input is cut, and however often output is taken
-- away, all that was written is `output` of the input: `told_end`, and after a malformed line `told_stopped`.
use Rattle.std.specs.Prelude.{ℕ, ◌≤◌, ◌≡◌, Bool, true, length, drop}
use Rattle.std.proofs.Math.Path.{sym, ap}
use Rattle.std.proofs.Common.{◌∙◌, drop_of_length-le}
use mathlib.Core.List.{List, [], ◌++◌, append_assoc, append-nil}
use Rattle.lists.specs.Tests.{pick}
use Rattle.map.specs.Views.{Lent}
use Rattle.transactions.specs.Views.{Logs, state_of, core_of}
use Rattle.console.specs.declared.session.Session.{Session}
use Rattle.console.specs.Program.{output}
use Rattle.console.specs.Sessions.{Standing, session_of, due_for, due, Continues, Begins, with_places, Told}

-- a fresh session: nothing has come, nothing was written
pub told_start : {l : Lent} {g : Logs} {x : Standing} (whole : List ℕ) → Begins l g x → Told whole l g x [] [] whole []
unfolding due due_for
told_start {l} {g} {x} whole b =
    record {
      after = b.after;
      is =
          ap (λ (n : ℕ). output (drop n [] ++ whole)) (sym b.next_is)
          ∙ ap (λ (f : Bool). due_for (state_of l g x.core) f [] (drop x.next [] ++ whole)) (sym b.first_is)
          ∙ ap (λ (s : Bool). pick s [] (due_for (state_of l g x.core) x.first [] (drop x.next [] ++ whole))) (sym b.goes);
    }

module _ {whole : List ℕ} {l : Lent} {g : Logs} {line input told : List ℕ} where
  -- feeding writes a part of what is due
  pub told_fed : {x : Standing} {future old new : List ℕ} {l' : Lent} {g' : Logs} {y : Standing} → Told whole l g x line input future told
      → (c : Continues l g x input old l' g' y new line) → Told whole l' g' y c.line input future (told ++ c.text)
  told_fed {future = future} t c =
      record {
        after = c.after;
        is = t.is ∙ ap (λ (bs : List ℕ). told ++ bs) (c.rest future) ∙ sym (append_assoc told c.text _);
      }

  -- what was written is taken away
  pub told_taken : (ws : List ℕ) (x : Session) {future : List ℕ} (at : ℕ) → Told whole l g (session_of ws x) line input future told
      → Told whole l g (session_of ws (with_places x x.next at)) line input future told
  told_taken ws x at t = record { after = t.after; is = t.is }

  -- a piece is read, and the next one comes
  pub told_piece : (ws : List ℕ) (x : Session) {future : List ℕ} (more : List ℕ) (at : ℕ) → Told whole l g (session_of ws x) line input (more ++ future) told
      → length input ≤ x.next → Told whole l g (session_of ws (with_places x 0 at)) line more future told
  unfolding due
  told_piece ws x {future} more at t h =
      record {
        after = t.after;
        is = t.is ∙ ap (λ (bs : List ℕ). told ++ pick x.stopped [] (due_for (state_of l g (core_of ws x.globals)) x.first line (bs ++ (more ++ future)))) (drop_of_length-le input h);
      }

  -- the input is at its end: what `finish` writes then is all that is missing
  pub told_end : {x : Standing} → Told whole l g x line input [] told → length input ≤ x.next
      → told ++ due (state_of l g x.core) x.first line x.stopped [] 0 [] ≡ output whole
  unfolding due
  told_end {x} t h =
      sym (t.is ∙ ap (λ (bs : List ℕ). told ++ pick x.stopped [] (due_for (state_of l g x.core) x.first line (bs ++ []))) (drop_of_length-le input h))

  -- a malformed line was met: nothing is missing, whatever may still come
  pub told_stopped : {x : Standing} {future : List ℕ} → Told whole l g x line input future told → x.stopped ≡ true → told ≡ output whole
  unfolding due
  told_stopped {x} {future} t e =
      sym (t.is
      ∙ ap (λ (s : Bool). told ++ pick s [] (due_for (state_of l g x.core) x.first line (drop x.next input ++ future))) e
      ∙ append-nil told)
