-- The laws of a run's end.
use Rattle.std.specs.Prelude.{ℕ, ◌≤◌, ◌≡◌, Bool, length}
use native.Mathlib.Omega.{arith}
use Rattle.std.proofs.Math.Path.{refl, sym, ap, subst}
use Rattle.std.proofs.Common.{◌∙◌}
use Rattle.std.proofs.Math.Bool.{true, false, not}
use mathlib.Core.List.{List, [], ◌∷◌, ◌++◌, append-nil}
use Rattle.lists.specs.Tests.{pick}
use Rattle.lists.specs.Rows.{Row, has}
use Rattle.lists.specs.Texts.{Wrote}
use Rattle.lists.specs.TextLaws.{wrote_join}
use Rattle.spec.specs.Records.{Record}
use Rattle.spec.specs.Maps.{contents}
use Rattle.map.specs.Views.{Lent}
use Rattle.queries.specs.Contents.{all_records}
use Rattle.contents.specs.Copies.{CopyRows, copied_in, Copied}
use Rattle.transactions.specs.Views.{Logs, state_of}
use Rattle.script.specs.Parsing.{filled, After}
use Rattle.answers.specs.Output.{field, end_line, malformed_line}
use Rattle.console.specs.Program.{written_from, starts_guarded}
use Rattle.console.specs.ProgramLaws.{starts_clear}
use Rattle.console.specs.Sessions.{Standing, Started, due_for, due}
use Rattle.console.specs.DueLaws.{due_unguarded}
use Rattle.console.specs.Closings.{triples_for, TriplesPut, triples_unstamped}
use Rattle.console.specs.Finishes.{Finishes}

-- ---- laws

-- `E`, the count, the triples and a line feed
pub end_wrote : {rs : List (Row Record)} {rows : CopyRows} {old a b new : List ℕ} {at i j k n : ℕ} → Copied rs rows n → Wrote old at (69 ∷ field n) a i → TriplesPut rows n a i b j
    → Wrote b j (10 ∷ []) new k → Wrote old at (end_line rs) new k
unfolding end_line
end_wrote {rs} {rows} {old} {a} {b} {new} {at} {i} {j} {k} {n} c x y z =
    subst (λ (t : List ℕ). Wrote old at t new k)
    (ap (λ (m : ℕ). (69 ∷ field m) ++ triples_for (copied_in rows n) ++ (10 ∷ [])) c.count_is
    ∙ ap (λ (t : List ℕ). (69 ∷ field (length rs)) ++ t ++ (10 ∷ [])) (ap triples_for c.rows_are ∙ triples_unstamped rs))
    (wrote_join (wrote_join x y.wrote) z)

module _ (l : Lent) (g : Logs) (x : Standing) (old : List ℕ) where
  pub finish_stopped : x.stopped ≡ true → x.at ≤ length old → Finishes l g x old old x.at
  unfolding due
  finish_stopped e h =
      record {
        wrote = λ seen a.
            subst (λ (b : Bool). Wrote old x.at (pick b [] (due_for (state_of l g x.core) x.first seen [])) old x.at) (sym e)
            (record { written = refl; within = omega arith; place = omega arith });
      }

  -- what is due at the end of the input: no line without its line feed is G
  due_last : (seen : List ℕ) (b : Bool) → Started l g x → has 10 seen ≡ false → x.stopped ≡ false → filled seen ≡ b
      → due (state_of l g x.core) x.first seen x.stopped [] 0 [] ≡ pick b malformed_line (end_line (contents (state_of l g x.core).map))
  unfolding due written_from
  due_last seen b k u e f =
      ap (λ (s : Bool). pick s [] (due_for (state_of l g x.core) x.first seen [])) e
      ∙ due_unguarded (state_of l g x.core) x.first k.opening seen [] u (ap starts_guarded (append-nil seen) ∙ starts_clear seen u)
      ∙ ap (λ (s : Bool). pick s malformed_line (end_line (contents (state_of l g x.core).map))) f

  module _ (new : List ℕ) (next : ℕ) (b : Bool) (k : Started l g x) (e : x.stopped ≡ false) (h : (seen : List ℕ) → After seen x.parser → b ≡ not (filled seen)) where
    pub finish_inside : b ≡ false → Wrote old x.at malformed_line new next → Finishes l g x old new next
    finish_inside f w =
        record {
          wrote = λ seen a.
              subst (λ (t : List ℕ). Wrote old x.at t new next) (sym (due_last seen true k a.unbroken e (some_line (filled seen) (sym (h seen a) ∙ f)))) w;
        }
      where
        some_line : (s : Bool) → not s ≡ false → s ≡ true
        some_line true q = refl
        some_line false q = sym q

    pub finish_whole : b ≡ true → Wrote old x.at (end_line (all_records l.rows x.core.sizes.records l.slots)) new next → Finishes l g x old new next
    unfolding contents state_of
    finish_whole f w =
        record {
          wrote = λ seen a.
              subst (λ (t : List ℕ). Wrote old x.at t new next) (sym (due_last seen false k a.unbroken e (no_line (filled seen) (sym (h seen a) ∙ f)))) w;
        }
      where
        no_line : (s : Bool) → not s ≡ true → s ≡ false
        no_line true q = sym q
        no_line false q = refl
