-- When a session goes on.
use Rattle.std.specs.Prelude.{ℕ, ◌+◌, ◌<◌, ◌≤◌, ◌≡◌, refl, Bool, true, false, not, List, [], ◌++◌, length}
use Rattle.std.proofs.Common.{sym, ap, ◌∙◌, arith, append_assoc}
use Rattle.lists.specs.Tests.{both, less, at_most}
use Rattle.lists.specs.TestLaws.{clash, less_yes, less_no, less_true, at_most_yes, at_most_no, at_most_true}
use Rattle.console.specs.Program.{longest_line}
use Rattle.transactions.specs.Starts.{guarded_core}
use Rattle.console.specs.Sessions.{Standing, can_go_on, Continues, Feeds, Started, due, EndsMalformed, BeginsGuarded, RunsGuard}
use Rattle.lists.specs.Texts.{Wrote}
use Rattle.lists.specs.TextLaws.{wrote_join}
use Rattle.map.specs.Views.{Lent}
use Rattle.transactions.specs.Cores.{Core}
use Rattle.transactions.specs.Views.{Logs, state_of}
use Rattle.transactions.specs.Ready.{Ready}
use Rattle.script.specs.declared.Parser.{Parser}
use Rattle.answers.specs.Output.{guarded_answer}

second_no : (s b d : Bool) → b ≡ false → false ≡ both (not s) (both b d)
second_no true b d e = refl
second_no false b d e = ap (λ (x : Bool). both x d) (sym e)

third_no : (s b d : Bool) → d ≡ false → false ≡ both (not s) (both b d)
third_no true b d e = refl
third_no false true d e = sym e
third_no false false d e = refl

all_yes : (s b d : Bool) → both (not s) (both b d) ≡ true → (s ≡ false) × (b ≡ true) × (d ≡ true)
all_yes true b d e = clash e refl
all_yes false true d e = (refl, refl, e)
all_yes false false d e = clash e refl

module _ (s : Bool) (n z a r : ℕ) where
  pub goes_stopped : s ≡ true → false ≡ can_go_on s n z a r
  unfolding can_go_on
  goes_stopped e = rw e

  pub goes_used : z ≤ n → false ≡ can_go_on s n z a r
  unfolding can_go_on
  goes_used h = second_no s (less n z) (at_most (a + longest_line) r) (less_no h)

  pub goes_full : r < a + longest_line → false ≡ can_go_on s n z a r
  unfolding can_go_on
  goes_full h = third_no s (less n z) (at_most (a + longest_line) r) (at_most_no h)

  pub goes_yes : s ≡ false → n < z → a + longest_line ≤ r → true ≡ can_go_on s n z a r
  unfolding can_go_on
  goes_yes e h g = rw (e, less_yes h, at_most_yes g)

  pub goes_true : can_go_on s n z a r ≡ true → (s ≡ false) × (n < z) × (a + longest_line ≤ r)
  unfolding can_go_on
  goes_true e =
      let t = all_yes s (less n z) (at_most (a + longest_line) r) e in
      (t.0, less_true n z t.1, at_most_true (a + longest_line) r t.2)

-- ---- laws

-- nothing run yet
pub feeds_none : {l : Lent} {g : Logs} {x : Standing} (input : List ℕ) {old : List ℕ}
    → Ready l g x.core → Started l g x → x.at ≤ length old → Feeds l g x input old l g x old
feeds_none input r s h =
    record {
      ready = r;
      started = s;
      size = refl;
      room = h;
      continues = λ seen a.
          record {
            text = [];
            wrote = record { written = refl; within = omega arith; place = omega arith };
            line = seen;
            after = a;
            rest = λ future. refl;
          };
    }

pub feeds_join : {l l' l'' : Lent} {g g' g'' : Logs} {x y z : Standing} {input old mid new : List ℕ}
    → Feeds l g x input old l' g' y mid → Feeds l' g' y input mid l'' g'' z new → Feeds l g x input old l'' g'' z new
feeds_join {l} {l'} {l''} {g} {g'} {g''} {x} {y} {z} {input} {old} {mid} {new} a b =
    record {
      ready = b.ready;
      started = b.started;
      size = b.size ∙ a.size;
      room = b.room;
      continues = λ seen s. joined seen (a.continues seen s);
    }
  where
    joined : (seen : List ℕ) → Continues l g x input old l' g' y mid seen → Continues l g x input old l'' g'' z new seen
    joined seen p =
        let q = b.continues p.line p.after in
        record {
          text = p.text ++ q.text;
          wrote = wrote_join p.wrote q.wrote;
          line = q.line;
          after = q.after;
          rest = λ future.
              p.rest future
              ∙ ap (λ (t : List ℕ). p.text ++ t) (q.rest future)
              ∙ sym (append_assoc p.text q.text (due (state_of l'' g'' z.core) z.first q.line z.stopped input z.next future));
        }

-- ---- the line G

module _ {x y : Standing} {p : Parser} {n : ℕ} {old new : List ℕ} where
  pub guard_first : x.first ≡ true → BeginsGuarded x p n old new y → RunsGuard x p n old new y
  guard_first e b = record { begins = λ q. b; ends = λ q. clash e q }

  pub guard_misplaced : x.first ≡ false → EndsMalformed x p n old new y → RunsGuard x p n old new y
  guard_misplaced e b = record { begins = λ q. clash q e; ends = λ q. b }

pub begins_guarded : {x : Standing} {p : Parser} {n : ℕ} {old new : List ℕ} {c : Core} {at : ℕ} → c ≡ guarded_core x.core → Wrote old x.at guarded_answer new at
    → BeginsGuarded x p n old new (record { core = c; parser = p; next = n; at = at; stopped = false; first = false })
begins_guarded {p = p} {n} {at = at} e w =
    record { wrote = w; after = ap (λ (k : Core). record { core = k; parser = p; next = n; at = at; stopped = false; first = false }) e }
