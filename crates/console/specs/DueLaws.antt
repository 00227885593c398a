-- What is still due, by what the bytes say that are read.
use Rattle.std.specs.Prelude.{ℕ, ◌≡◌, Bool, List, [], ◌∷◌, ◌++◌}
use Rattle.std.proofs.Math.Path.{refl, ap}
use Rattle.std.proofs.Common.{sym, ◌∙◌, append_assoc}
use Rattle.std.proofs.Math.Bool.{true, false}
use Rattle.std.proofs.Math.Option.{Option, some}
use Rattle.lists.specs.Rows.{has}
use Rattle.spec.specs.Records.{standard_map}
use Rattle.spec.specs.Steps.{State, fresh}
use Rattle.script.specs.declared.Line.{Line}
use Rattle.script.specs.Grammar.{meaning, guard_line, is_guard}
use Rattle.script.specs.GrammarLaws.{guard_letter}
use Rattle.script.specs.Parsing.{Whole, SaysNothing}
use Rattle.answers.specs.Output.{guarded_answer, malformed_line}
use Rattle.console.specs.Program.{written_from, starts_guarded, output}
use Rattle.console.specs.ProgramLaws.{told, from_clear, from_whole, from_spoiled, step_no_guard, starts_whole, starts_spoiled, output_unguarded, output_guarded}
use Rattle.console.specs.Sessions.{due_for}

-- the current line goes on
pub due_clear : (σ : State) (first : Bool) (seen taken rest : List ℕ) → has 10 taken ≡ false
    → due_for σ first seen (taken ++ rest) ≡ due_for σ first (seen ++ taken) rest
unfolding due_for
due_clear σ true seen taken rest h = ap output (sym (append_assoc seen taken rest))
due_clear σ false seen taken rest h = from_clear σ seen taken rest h

-- the bytes of a whole line, and what follows
whole_starts : (seen taken l rest : List ℕ) → Whole l (seen ++ taken) → seen ++ (taken ++ rest) ≡ l ++ (10 ∷ rest)
whole_starts seen taken l rest w =
    sym (append_assoc seen taken rest) ∙ ap (λ (bs : List ℕ). bs ++ rest) w.fed ∙ append_assoc l (10 ∷ []) rest

module _ (σ : State) (first : Bool) (o : first ≡ true → σ ≡ fresh (standard_map false)) where
  -- the first line is not G
  pub due_unguarded : (line rest : List ℕ) → has 10 line ≡ false → starts_guarded (line ++ rest) ≡ false
      → due_for σ first line rest ≡ written_from σ line rest
  unfolding due_for
  due_unguarded line rest h e = go first o
    where
      go : (b : Bool) → (b ≡ true → σ ≡ fresh (standard_map false)) → due_for σ b line rest ≡ written_from σ line rest
      go true q = output_unguarded line rest h e ∙ ap (λ (s : State). written_from s line rest) (sym (q refl))
      go false q = refl

  module _ (seen taken : List ℕ) (h : has 10 seen ≡ false) where
    due_whole : (l rest : List ℕ) → Whole l (seen ++ taken) → is_guard l ≡ false → due_for σ first seen (taken ++ rest) ≡ told σ (meaning l) rest
    due_whole l rest w e =
        due_unguarded seen (taken ++ rest) h (ap starts_guarded (whole_starts seen taken l rest w) ∙ starts_whole l rest w.unbroken ∙ e)
        ∙ from_whole σ seen taken l rest h w

    -- a step
    pub due_line : (u : Line) (l rest : List ℕ) → Whole l (seen ++ taken) → meaning l ≡ some u → due_for σ first seen (taken ++ rest) ≡ told σ (some u) rest
    due_line u l rest w e = due_whole l rest w (step_no_guard l u e) ∙ ap (λ (y : Option Line). told σ y rest) e

    -- a malformed line
    pub due_malformed : (l rest : List ℕ) → Whole l (seen ++ taken) → SaysNothing l → due_for σ first seen (taken ++ rest) ≡ malformed_line
    due_malformed l rest w n = due_whole l rest w n.1 ∙ ap (λ (y : Option Line). told σ y rest) n.0

    -- no line that begins so says anything
    pub due_spoiled : (rest : List ℕ) → has 10 (seen ++ taken) ≡ false → ((r : List ℕ) → SaysNothing ((seen ++ taken) ++ r))
        → due_for σ first seen (taken ++ rest) ≡ malformed_line
    due_spoiled rest g n =
        due_unguarded seen (taken ++ rest) h (ap starts_guarded (sym (append_assoc seen taken rest)) ∙ starts_spoiled (seen ++ taken) rest g n)
        ∙ from_spoiled σ seen taken rest g (λ r. (n r).0)

-- G, as the first line and as another one
pub due_guarded : (σ : State) (first : Bool) (seen taken rest : List ℕ) → first ≡ true → Whole guard_line (seen ++ taken)
    → due_for σ first seen (taken ++ rest) ≡ guarded_answer ++ written_from (fresh (standard_map true)) [] rest
unfolding due_for
due_guarded σ first seen taken rest e w =
    rw e (ap output (whole_starts seen taken guard_line rest w) ∙ output_guarded rest)

pub due_misplaced : (σ : State) (first : Bool) (seen taken rest : List ℕ) → first ≡ false → has 10 seen ≡ false → Whole guard_line (seen ++ taken)
    → due_for σ first seen (taken ++ rest) ≡ malformed_line
unfolding due_for
due_misplaced σ first seen taken rest e h w =
    rw e (from_whole σ seen taken guard_line rest h w ∙ ap (λ (y : Option Line). told σ y rest) (guard_letter []))
