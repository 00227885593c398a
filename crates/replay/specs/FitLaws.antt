-- Whether the longest answer finds room.
use Rattle.std.specs.Prelude.{ℕ, ◌-◌, ◌/◌, ◌<◌, ◌≤◌, ◌≡◌, Bool, true, false, leb}
use native.Mathlib.Omega.{arith}
use Rattle.std.proofs.Common.{sym, ◌∙◌}
use Rattle.std.proofs.Math.Path.{ap}
use Rattle.std.proofs.Math.Bool.{not}
use Rattle.std.proofs.Math.Logic.{⊎_elim}
use Rattle.lists.specs.Tests.{less, at_most}
use Rattle.lists.specs.TestLaws.{less_yes, less_no, less_true, less_false, at_most_true, at_most_false, cases, clash}
use Rattle.spec.specs.Steps.{Places, shortest}
use Rattle.replay.specs.Replays.{longest_answer}

module _ (room : ℕ) (w : Places) where
  pub fits_few : room < 5 → false ≡ not (less room (longest_answer w))
  fits_few h = ap not (sym (less_yes {m = room} {n = longest_answer w} (let k : room < longest_answer w = omega arith in k)))

  enough : longest_answer w ≤ room → true ≡ not (less room (longest_answer w))
  enough h = ap not (sym (less_no {m = room} {n = longest_answer w} h))

  -- the least of the places wanted against a third of the room, less the five words
  pub fits_least : {n : ℕ} → 5 ≤ room → n ≡ shortest w → leb n ((room - 5) / 3) ≡ not (less room (longest_answer w))
  unfolding at_most
  fits_least {n} h e =
      ⊎_elim
      (λ t. let l : n ≤ (room - 5) / 3 = at_most_true n ((room - 5) / 3) t in
      t ∙ enough (let z : longest_answer w ≤ room = omega arith in z))
      (λ t. let l : (room - 5) / 3 < n = at_most_false n ((room - 5) / 3) t in
      t ∙ ap not (sym (less_yes {m = room} {n = longest_answer w} (let k : room < longest_answer w = omega arith in k))))
      (cases (at_most n ((room - 5) / 3)))

  pub fits_yes : {b : Bool} → b ≡ not (less room (longest_answer w)) → not b ≡ false → longest_answer w ≤ room
  fits_yes e t =
      ⊎_elim
      (λ l. clash (ap not (e ∙ ap not l)) t)
      (λ l. less_false room (longest_answer w) l)
      (cases (less room (longest_answer w)))

  pub fits_no : {b : Bool} → b ≡ not (less room (longest_answer w)) → not b ≡ true → room < longest_answer w
  fits_no e t =
      ⊎_elim
      (λ l. less_true room (longest_answer w) l)
      (λ l. clash t (ap not (e ∙ ap not l)))
      (cases (less room (longest_answer w)))
