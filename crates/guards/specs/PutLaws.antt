-- The laws of a test of all puts: what it says of one write, and a loop over the write set.
use Rattle.std.specs.Prelude.{ℕ, ◌+◌, ◌<◌, ◌≤◌, ◌≡◌, Bool, true, false, length}
use Rattle.std.proofs.Common.{arith, ◌∙◌}
use Rattle.std.proofs.Math.Path.{sym, ap}
use Rattle.lists.specs.Rows.{Row}
use Rattle.spec.specs.Records.{Write}
use Rattle.spec.specs.Guards.{of_put, any_put}
use Rattle.sets.specs.declared.writes.Entry.{Entry}
use Rattle.sets.specs.Writes.{WriteRows, edit_in, no_write, write_in, writes_of, GivesWrite}
use Rattle.sets.specs.SetLaws.{length_rows}
use Rattle.spec.specs.declared.PayloadWords.{PayloadWords}
use Rattle.sets.specs.declared.writes.Write.{Write as WriteWords}
use Rattle.sets.specs.declared.writes.Write.TheVariants.{Put, Deletion}
use Rattle.guards.specs.Promises.{of_entry}
use Rattle.guards.specs.SearchLaws.{Searching, search_start, search_on, search_hit, search_end, none_passes}

-- ---- one write

module _ (f : ℕ → ℕ → Bool) (e : Entry) where
  pub of_put_lem : {v : PayloadWords} → e.write ≡ Put v → of_entry f e ≡ f e.address v.value
  unfolding of_put
  of_put_lem h = ap (λ (w : WriteWords). of_put f e.address (edit_in w)) h

  pub entry_put : {v : PayloadWords} {b : Bool} → e.write ≡ Put v → b ≡ f e.address v.value → b ≡ of_entry f e
  entry_put h q = q ∙ sym (of_put_lem h)

  pub entry_deletion : e.write ≡ Deletion → false ≡ of_entry f e
  unfolding of_put
  entry_deletion h = sym (ap (λ (w : WriteWords). of_put f e.address (edit_in w)) h)

-- ---- all writes

abbrev of_row : (ℕ → ℕ → Bool) → Row Write → Bool
of_row f r = of_put f r.key r.item

-- the first i of n writes were tested, and none of them is a put that passes
pub record Testing (f : ℕ → ℕ → Bool) (ws : WriteRows) (n i : ℕ) : Type 0 where
  pub search : Searching (of_row f) (writes_of ws n) n i

pub test_start : (f : ℕ → ℕ → Bool) (ws : WriteRows) (n : ℕ) → Testing f ws n 0
test_start f ws n = record { search = search_start (of_row f) (writes_of ws n) n (length_rows write_in ws n) }

module _ {f : ℕ → ℕ → Bool} {ws : WriteRows} {n i : ℕ} (t : Testing f ws n i) where
  pub test_on : {e : Entry} {b : Bool} → i < n → GivesWrite ws i e → b ≡ of_entry f e → b ≡ false → Testing f ws n (i + 1)
  test_on h g q r = record { search = search_on no_write t.search h (g.at n h) q r }

  pub test_hit : {e : Entry} {b : Bool} → i < n → GivesWrite ws i e → b ≡ of_entry f e → b ≡ true → true ≡ any_put f (writes_of ws n)
  unfolding any_put
  test_hit h g q r = search_hit no_write t.search h (g.at n h) q r

  pub test_end : n ≤ i → false ≡ any_put f (writes_of ws n)
  unfolding any_put
  test_end h = search_end h t.search

-- where no put passes, write i is none that does
pub no_put : (f : ℕ → ℕ → Bool) {ws : WriteRows} {n i : ℕ} {e : Entry} → any_put f (writes_of ws n) ≡ false → i < n → GivesWrite ws i e → of_entry f e ≡ false
unfolding any_put
no_put f {ws} {n} {i} {e} a h g =
    let l : length (writes_of ws n) ≡ n = length_rows write_in ws n in
    ap (of_row f) (g.at n h) ∙ none_passes (of_row f) (writes_of ws n) i no_write a (omega arith)
