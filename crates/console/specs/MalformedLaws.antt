-- What is written before `?` is the output of the lines before the malformed one, without its last line: a malformed line costs
-- no guarantee for those before it.
use Rattle.std.specs.Prelude.{ℕ, ◌≡◌, Bool, drop}
use Rattle.std.proofs.Common.{arith, sym, ◌∙◌, ⊎_elim}
use Rattle.std.proofs.Math.Path.{refl, ap, subst}
use Rattle.std.proofs.Math.Bool.{true, false}
use mathlib.Core.List.{List, [], ◌∷◌, ◌++◌, append_assoc}
use Rattle.std.proofs.Math.Option.{Option, none, some}
use Rattle.lists.specs.Tests.{pick, both, maybe, same}
use Rattle.lists.specs.TestLaws.{cases, clash, same_true}
use Rattle.lists.specs.Rows.{Row}
use Rattle.spec.specs.Records.{standard_map, Record}
use Rattle.spec.specs.Maps.{contents}
use Rattle.spec.specs.Steps.{State, fresh, answer, next}
use Rattle.script.specs.declared.Line.{Line}
use Rattle.script.specs.Grammar.{meaning, step_of}
use Rattle.script.specs.Parsing.{filled}
use Rattle.answers.specs.Output.{end_line, guarded_answer, malformed_line}
use Rattle.console.specs.Program.{places, answer_line, written_from, starts_guarded, output}
use Rattle.console.specs.SerialOutput.{lines_from, lines_of, SerialOutput}
use Rattle.console.specs.OutputEnds.{SerialUntilMalformed}
use Rattle.console.specs.SerialOutputLaws.{written_serial}
use Rattle.console.specs.GuardedOutputLaws.{output_apart}

-- ---- the bytes of a line that is not at its end

-- They can be read already, or be still to come.
record Unended (line : List ℕ) : Type 0 where
  lines : (bs : List ℕ) → lines_from [] (line ++ bs) ≡ lines_from line bs
  text : (σ : State) (bs : List ℕ) → written_from σ [] (line ++ bs) ≡ written_from σ line bs

unended_none : Unended []
unended_none = record { lines = λ bs. refl; text = λ σ bs. refl }

unended_more : (line : List ℕ) (b : ℕ) → same b 10 ≡ false → Unended line → Unended (line ++ (b ∷ []))
unfolding lines_from written_from
unended_more line b e u =
    record {
      lines =
          λ bs. ap (lines_from []) (append_assoc line (b ∷ []) bs) ∙ u.lines (b ∷ bs)
          ∙ ap
          (λ (x : Bool).
          pick x (maybe (meaning line) none (λ (l : Line). maybe (lines_from [] bs) none (λ (ls : List Line). some (l ∷ ls))))
          (lines_from (line ++ (b ∷ [])) bs))
          e;
      text =
          λ σ bs. ap (written_from σ []) (append_assoc line (b ∷ []) bs) ∙ u.text σ (b ∷ bs)
          ∙ ap
          (λ (x : Bool).
          pick x
          (maybe (meaning line) malformed_line (λ (l : Line). answer_line l (answer σ (step_of places l)) ++ written_from (next σ (step_of places l)) [] bs))
          (written_from σ (line ++ (b ∷ [])) bs))
          e;
    }

-- ---- from any state, up to the malformed line

record Until (σ : State) (input written : List ℕ) : Type 0 where
  whole : List ℕ
  rest : List ℕ
  cut : input ≡ whole ++ rest
  lines : List Line
  well_formed : lines_from [] whole ≡ some lines
  text : List ℕ
  contents : List (Row Record)
  alone : written_from σ [] whole ≡ text ++ end_line contents
  stopped : written ≡ text ++ malformed_line

-- nothing stands before the malformed line
until_here : (σ : State) (input : List ℕ) → Until σ input malformed_line
unfolding lines_from written_from
until_here σ input =
    record {
      whole = [];
      rest = input;
      cut = refl;
      lines = [];
      well_formed = refl;
      text = [];
      contents = contents σ.map;
      alone = refl;
      stopped = refl;
    }

-- one line more stands before it
until_line : (σ : State) (line : List ℕ) (l : Line) (bs written : List ℕ) → Unended line → meaning line ≡ some l → Until (next σ (step_of places l)) bs written
    → Until σ (line ++ (10 ∷ bs)) (answer_line l (answer σ (step_of places l)) ++ written)
unfolding lines_from written_from same
until_line σ line l bs written u e t =
    let said = answer_line l (answer σ (step_of places l)) in
    record {
      whole = line ++ (10 ∷ t.whole);
      rest = t.rest;
      cut = ap (λ (x : List ℕ). line ++ (10 ∷ x)) t.cut ∙ sym (append_assoc line (10 ∷ t.whole) t.rest);
      lines = l ∷ t.lines;
      well_formed =
          u.lines (10 ∷ t.whole)
          ∙ ap (λ (o : Option Line). maybe o none (λ (k : Line). maybe (lines_from [] t.whole) none (λ (ls : List Line). some (k ∷ ls)))) e
          ∙ ap (λ (o : Option (List Line)). maybe o none (λ (ls : List Line). some (l ∷ ls))) t.well_formed;
      text = said ++ t.text;
      contents = t.contents;
      alone =
          u.text σ (10 ∷ t.whole)
          ∙ ap
          (λ (o : Option Line). maybe o malformed_line (λ (k : Line). answer_line k (answer σ (step_of places k)) ++ written_from (next σ (step_of places k)) [] t.whole))
          e
          ∙ ap (λ (x : List ℕ). said ++ x) t.alone
          ∙ sym (append_assoc said t.text (end_line t.contents));
      stopped = ap (λ (x : List ℕ). said ++ x) t.stopped ∙ sym (append_assoc said t.text malformed_line);
    }

no_malformed : {A : Type 0} {ls : List Line} → some ls ≡ none → A
no_malformed e = let z : ◌≡◌ {A = ℕ} 0 1 = cc in absurd (omega arith)

until_malformed : (σ : State) (line bs : List ℕ) → Unended line → lines_from line bs ≡ none → Until σ (line ++ bs) (written_from σ line bs)
unfolding lines_from written_from
until_malformed σ line [] u e = go (filled line) e
  where
    go : (x : Bool) → ◌≡◌ {A = Option (List Line)} (pick x none (some [])) none → Until σ (line ++ []) (pick x malformed_line (end_line (contents σ.map)))
    go true q = until_here σ (line ++ [])
    go false q = no_malformed q
until_malformed σ line (b ∷ bs) u e =
    go (same b 10) (meaning line) (lines_from [] bs) refl refl refl e
    (λ l q. until_malformed (next σ (step_of places l)) [] bs unended_none q)
    (λ f q. until_malformed σ (line ++ (b ∷ [])) bs (unended_more line b f u) q)
  where
    go : (x : Bool) (o : Option Line) (p : Option (List Line)) → same b 10 ≡ x → meaning line ≡ o → lines_from [] bs ≡ p
        → pick x (maybe o none (λ (l : Line). maybe p none (λ (ms : List Line). some (l ∷ ms)))) (lines_from (line ++ (b ∷ [])) bs) ≡ none
        → ((l : Line) → lines_from [] bs ≡ none → Until (next σ (step_of places l)) bs (written_from (next σ (step_of places l)) [] bs))
        → (same b 10 ≡ false → lines_from (line ++ (b ∷ [])) bs ≡ none → Until σ ((line ++ (b ∷ [])) ++ bs) (written_from σ (line ++ (b ∷ [])) bs))
        → Until σ (line ++ (b ∷ bs))
        (pick x
        (maybe o malformed_line
        (λ (l : Line). answer_line l (answer σ (step_of places l)) ++ written_from (next σ (step_of places l)) [] bs))
        (written_from σ (line ++ (b ∷ [])) bs))
    go true none p c m q h f g = until_here σ (line ++ (b ∷ bs))
    go true (some l) none c m q h f g =
        subst (λ (d : ℕ). Until σ (line ++ (d ∷ bs)) (answer_line l (answer σ (step_of places l)) ++ written_from (next σ (step_of places l)) [] bs)) (sym (same_true b 10 c))
        (until_line σ line l bs (written_from (next σ (step_of places l)) [] bs) u m (f l q))
    go true (some l) (some ms) c m q h f g = no_malformed h
    go false o p c m q h f g =
        subst (λ (x : List ℕ). Until σ x (written_from σ (line ++ (b ∷ [])) bs)) (append_assoc line (b ∷ []) bs) (g c h)

-- ---- the statement

-- the first line G is among the lines before the malformed one
guarded_front : (s t : List ℕ) → starts_guarded (s ++ t) ≡ false → starts_guarded s ≡ false
unfolding starts_guarded
guarded_front [] t e = refl
guarded_front (b ∷ []) t e = refl
guarded_front (b ∷ c ∷ s) t e = e

guarded_drop : (input : List ℕ) → starts_guarded input ≡ true → input ≡ 71 ∷ 10 ∷ drop 2 input
unfolding starts_guarded
guarded_drop [] e = let z : ◌≡◌ {A = ℕ} 0 1 = cc in absurd (omega arith)
guarded_drop (b ∷ []) e = let z : ◌≡◌ {A = ℕ} 0 1 = cc in absurd (omega arith)
guarded_drop (b ∷ c ∷ bs) e = go (same b 71) (same c 10) refl refl e
  where
    go : (x y : Bool) → same b 71 ≡ x → same c 10 ≡ y → both x y ≡ true → b ∷ c ∷ bs ≡ 71 ∷ 10 ∷ bs
    go true true p q r = ap (λ (i : ℕ). i ∷ c ∷ bs) (same_true b 71 p) ∙ ap (λ (i : ℕ). 71 ∷ i ∷ bs) (same_true c 10 q)
    go true false p q r = let z : ◌≡◌ {A = ℕ} 0 1 = cc in absurd (omega arith)
    go false y p q r = let z : ◌≡◌ {A = ℕ} 0 1 = cc in absurd (omega arith)

module _ (input : List ℕ) where
  guarded_until : starts_guarded input ≡ true → lines_from [] (drop 2 input) ≡ none → SerialUntilMalformed input
  unfolding output starts_guarded same
  guarded_until g e =
      let t = until_malformed (fresh (standard_map true)) [] (drop 2 input) unended_none e in
      record {
        whole = 71 ∷ 10 ∷ t.whole;
        rest = t.rest;
        cut = guarded_drop input g ∙ ap (λ (x : List ℕ). 71 ∷ 10 ∷ x) t.cut;
        lines = t.lines;
        well_formed = t.well_formed;
        text = t.text;
        contents = t.contents;
        alone = ap (λ (x : List ℕ). guarded_answer ++ x) t.alone ∙ ap (λ (b : Bool). pick b guarded_answer [] ++ (t.text ++ end_line t.contents)) (sym g);
        stopped =
            ap (λ (b : Bool). pick b (guarded_answer ++ written_from (fresh (standard_map true)) [] (drop 2 input)) (written_from (fresh (standard_map false)) [] input)) g
            ∙ ap (λ (x : List ℕ). guarded_answer ++ x) t.stopped
            ∙ ap (λ (b : Bool). pick b guarded_answer [] ++ (t.text ++ malformed_line)) (sym g);
        serial = subst (SerialOutput t.lines) t.alone (written_serial true t.whole t.lines t.well_formed);
        apart = λ h. output_apart (71 ∷ 10 ∷ t.whole) t.lines refl t.well_formed;
      }

  plain_until : starts_guarded input ≡ false → lines_from [] input ≡ none → SerialUntilMalformed input
  unfolding output
  plain_until g e =
      let t = until_malformed (fresh (standard_map false)) [] input unended_none e in
      let f : starts_guarded t.whole ≡ false = guarded_front t.whole t.rest (sym (ap starts_guarded t.cut) ∙ g) in
      record {
        whole = t.whole;
        rest = t.rest;
        cut = t.cut;
        lines = t.lines;
        well_formed = ap (λ (b : Bool). lines_from [] (pick b (drop 2 t.whole) t.whole)) f ∙ t.well_formed;
        text = t.text;
        contents = t.contents;
        alone =
            ap (λ (b : Bool). pick b (guarded_answer ++ written_from (fresh (standard_map true)) [] (drop 2 t.whole)) (written_from (fresh (standard_map false)) [] t.whole)) f
            ∙ t.alone
            ∙ ap (λ (b : Bool). pick b guarded_answer [] ++ (t.text ++ end_line t.contents)) (sym g);
        stopped =
            ap (λ (b : Bool). pick b (guarded_answer ++ written_from (fresh (standard_map true)) [] (drop 2 input)) (written_from (fresh (standard_map false)) [] input)) g
            ∙ t.stopped
            ∙ ap (λ (b : Bool). pick b guarded_answer [] ++ (t.text ++ malformed_line)) (sym g);
        serial = subst (SerialOutput t.lines) t.alone (written_serial false t.whole t.lines t.well_formed);
        apart = λ h. clash h g;
      }

-- Up to a malformed line the output is that of a serial run, and in a guarded map of sections without overlaps.
pub output_before_malformed : (input : List ℕ) → lines_of input ≡ none → SerialUntilMalformed input
output_before_malformed input e =
    ⊎_elim
    (λ g. guarded_until input g (sym (ap (λ (b : Bool). lines_from [] (pick b (drop 2 input) input)) g) ∙ e))
    (λ g. plain_until input g (sym (ap (λ (b : Bool). lines_from [] (pick b (drop 2 input) input)) g) ∙ e))
    (cases (starts_guarded input))
