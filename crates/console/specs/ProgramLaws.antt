-- What the bytes of a line make of what is written.
use Rattle.std.specs.Prelude.{ℕ, ◌≡◌, Bool, true, false, List, [], ◌∷◌, ◌++◌}
use Rattle.std.proofs.Common.{arith, sym, ap, ◌∙◌, ⊎_elim, append_assoc, append-nil}
use Rattle.std.proofs.Math.Path.{refl}
use Rattle.std.proofs.Math.Option.{Option, none, some}
use Rattle.lists.specs.Tests.{pick, both, maybe, same, less, at_most, within}
use Rattle.lists.specs.TestLaws.{cases, clash, same_true, same_refl}
use Rattle.lists.specs.Rows.{has}
use Rattle.lists.specs.Counting.{has_cons, has_append}
use Rattle.spec.specs.Records.{standard_map}
use Rattle.spec.specs.Steps.{State, fresh, answer, next}
use Rattle.script.specs.declared.Line.{Line}
use Rattle.script.specs.declared.Line.TheVariants.{Begin}
use Rattle.script.specs.Grammar.{first_word, more_words, is_digit, extend, number, numbers, seat_line, one_number, line_of, lettered, meaning, step_of, is_guard}
use Rattle.script.specs.GrammarLaws.{guard_letter}
use Rattle.script.specs.Parsing.{filled, Whole, SaysNothing}
use Rattle.answers.specs.Output.{guarded_answer, malformed_line}
use Rattle.console.specs.Program.{places, answer_line, written_from, starts_guarded, output}

-- what is written for a line and what follows it
abbrev pub told : State → Option Line → List ℕ → List ℕ
told σ o rest =
    maybe o malformed_line
    (λ (l : Line). answer_line l (answer σ (step_of places l)) ++ written_from (next σ (step_of places l)) [] rest)

-- ---- bytes

apart : (b : ℕ) (bs : List ℕ) → has 10 (b ∷ bs) ≡ false → (same 10 b ≡ false) × (has 10 bs ≡ false)
apart b bs h =
    ⊎_elim
    (λ e. clash (has_cons 10 b bs ∙ (rw e)) h)
    (λ e. (e, sym (has_cons 10 b bs ∙ (rw e)) ∙ h))
    (cases (same 10 b))

turned : (b : ℕ) → same 10 b ≡ false → same b 10 ≡ false
turned b h =
    ⊎_elim
    (λ e. let q : b ≡ 10 = same_true b 10 e in clash (rw q (same_refl 10)) h)
    (λ e. e)
    (cases (same b 10))

clear_first : (a b : List ℕ) → has 10 (a ++ b) ≡ false → has 10 a ≡ false
clear_first a b h = ⊎_elim (λ e. clash (has_append 10 a b ∙ (rw e)) h) (λ e. e) (cases (has 10 a))

pub clear_last : (a b : List ℕ) → has 10 (a ++ b) ≡ false → has 10 b ≡ false
clear_last a b h =
    sym (has_append 10 a b ∙ (rw (clear_first a b h))) ∙ h

-- ---- the current line goes on

from_byte : (σ : State) (line : List ℕ) (b : ℕ) (bs : List ℕ) → same b 10 ≡ false
    → written_from σ line (b ∷ bs) ≡ written_from σ (line ++ (b ∷ [])) bs
unfolding written_from
from_byte σ line b bs e = rw e

pub from_clear : (σ : State) (line bs rest : List ℕ) → has 10 bs ≡ false → written_from σ line (bs ++ rest) ≡ written_from σ (line ++ bs) rest
from_clear σ line [] rest h = ap (λ (x : List ℕ). written_from σ x rest) (sym (append-nil line))
from_clear σ line (b ∷ bs) rest h =
    let p = apart b bs h in
    from_byte σ line b (bs ++ rest) (turned b p.0)
    ∙ from_clear σ (line ++ (b ∷ [])) bs rest p.1
    ∙ ap (λ (x : List ℕ). written_from σ x rest) (append_assoc line (b ∷ []) bs)

-- ---- it ends

from_feed : (σ : State) (line bs : List ℕ) → written_from σ line (10 ∷ bs) ≡ told σ (meaning line) bs
unfolding written_from
from_feed σ line bs = rw (same_refl 10)

pub from_whole : (σ : State) (seen taken l rest : List ℕ) → has 10 seen ≡ false → Whole l (seen ++ taken)
    → written_from σ seen (taken ++ rest) ≡ told σ (meaning l) rest
from_whole σ seen taken l rest h w =
    sym (from_clear σ [] seen (taken ++ rest) h)
    ∙ ap (written_from σ []) (sym (append_assoc seen taken rest) ∙ ap (λ (x : List ℕ). x ++ rest) w.fed ∙ append_assoc l (10 ∷ []) rest)
    ∙ from_clear σ [] l (10 ∷ rest) w.unbroken
    ∙ from_feed σ l rest

-- ---- it can say nothing

spoiled : (σ : State) (line rest : List ℕ) → filled line ≡ true → ((r : List ℕ) → meaning (line ++ r) ≡ none) → written_from σ line rest ≡ malformed_line
unfolding written_from
spoiled σ line [] f h = rw f
spoiled σ line (b ∷ rest) f h =
    let on : written_from σ (line ++ (b ∷ [])) rest ≡ malformed_line
    = spoiled σ (line ++ (b ∷ [])) rest (filled_on line b) (λ r. ap meaning (append_assoc line (b ∷ []) r) ∙ h ((b ∷ []) ++ r)) in
    let here : meaning line ≡ none = ap meaning (sym (append-nil line)) ∙ h [] in
    ⊎_elim
    (λ e. ap (λ (x : Bool). pick x (told σ (meaning line) rest) (written_from σ (line ++ (b ∷ [])) rest)) e ∙ ap (λ (o : Option Line). told σ o rest) here)
    (λ e. ap (λ (x : Bool). pick x (told σ (meaning line) rest) (written_from σ (line ++ (b ∷ [])) rest)) e ∙ on)
    (cases (same b 10))
  where
    filled_on : (l : List ℕ) (b : ℕ) → filled (l ++ (b ∷ [])) ≡ true
    filled_on [] b = refl
    filled_on (x ∷ l) b = refl

-- a line can begin with nothing
begins : meaning (66 ∷ 32 ∷ 48 ∷ []) ≡ some (Begin 0)
unfolding same less at_most within first_word more_words is_digit extend number numbers seat_line one_number line_of lettered meaning
begins = refl

pub from_spoiled : (σ : State) (seen taken rest : List ℕ) → has 10 (seen ++ taken) ≡ false → ((r : List ℕ) → meaning ((seen ++ taken) ++ r) ≡ none)
    → written_from σ seen (taken ++ rest) ≡ malformed_line
from_spoiled σ seen taken rest h n =
    from_clear σ seen taken rest (clear_last seen taken h)
    ∙ spoiled σ (seen ++ taken) rest (some_line (seen ++ taken) n) n
  where
    some_line : (l : List ℕ) → ((r : List ℕ) → meaning (l ++ r) ≡ none) → filled l ≡ true
    some_line [] k =
        let e : ◌≡◌ {A = Option Line} none (some (Begin 0)) = sym (k (66 ∷ 32 ∷ 48 ∷ [])) ∙ begins in
        let z : ◌≡◌ {A = ℕ} 0 1 = cc in absurd (omega arith)
    some_line (b ∷ l) k = refl

-- ---- the first line of the input

-- a line that says a step is not G
pub step_no_guard : (l : List ℕ) (u : Line) → meaning l ≡ some u → is_guard l ≡ false
unfolding is_guard
step_no_guard [] u e = refl
step_no_guard (b ∷ []) u e =
    ⊎_elim
    (λ t. let q : ◌≡◌ {A = Option Line} none (some u) = sym (ap (λ (x : ℕ). meaning (x ∷ [])) (same_true b 71 t) ∙ guard_letter []) ∙ e in
    let z : ◌≡◌ {A = ℕ} 0 1 = cc in absurd (omega arith))
    (λ f. f)
    (cases (same b 71))
step_no_guard (b ∷ c ∷ l) u e = refl

second_false : (x y : Bool) → y ≡ false → both x y ≡ false
second_false true y e = e
second_false false y e = refl

second_true : (x y : Bool) → y ≡ true → both x y ≡ x
second_true true y e = e
second_true false y e = refl

-- the second byte is no line feed
starts_other : (b c : ℕ) (bs : List ℕ) → same 10 c ≡ false → starts_guarded (b ∷ c ∷ bs) ≡ false
unfolding starts_guarded
starts_other b c bs h = second_false (same b 71) (same c 10) (turned c h)

-- a whole line tells
pub starts_whole : (l rest : List ℕ) → has 10 l ≡ false → starts_guarded (l ++ (10 ∷ rest)) ≡ is_guard l
unfolding starts_guarded is_guard
starts_whole [] [] h = refl
starts_whole [] (c ∷ rest) h = unfold same in refl
starts_whole (b ∷ []) rest h = second_true (same b 71) (same 10 10) (same_refl 10)
starts_whole (b ∷ c ∷ l) rest h = starts_other b c (l ++ (10 ∷ rest)) (apart c l (apart b (c ∷ l) h).1).0

-- without a line feed there is none
pub starts_clear : (l : List ℕ) → has 10 l ≡ false → starts_guarded l ≡ false
unfolding starts_guarded
starts_clear [] h = refl
starts_clear (b ∷ []) h = refl
starts_clear (b ∷ c ∷ l) h = starts_other b c l (apart c l (apart b (c ∷ l) h).1).0

-- the line can say nothing
pub starts_spoiled : (bs rest : List ℕ) → has 10 bs ≡ false → ((r : List ℕ) → SaysNothing (bs ++ r)) → starts_guarded (bs ++ rest) ≡ false
unfolding starts_guarded is_guard
starts_spoiled [] rest h n = clash (same_refl 71) (n (71 ∷ [])).1
starts_spoiled (b ∷ []) [] h n = refl
starts_spoiled (b ∷ []) (c ∷ rest) h n = ap (λ (x : Bool). both x (same c 10)) (n []).1
starts_spoiled (b ∷ c ∷ bs) rest h n = starts_other b c (bs ++ rest) (apart c bs (apart b (c ∷ bs) h).1).0

-- what is written then
pub output_unguarded : (line bs : List ℕ) → has 10 line ≡ false → starts_guarded (line ++ bs) ≡ false
    → output (line ++ bs) ≡ written_from (fresh (standard_map false)) line bs
unfolding output
output_unguarded line bs h e = rw e (from_clear (fresh (standard_map false)) [] line bs h)

pub output_guarded : (rest : List ℕ) → output (71 ∷ 10 ∷ rest) ≡ guarded_answer ++ written_from (fresh (standard_map true)) [] rest
unfolding output starts_guarded
output_guarded rest = rw (same_refl 71, same_refl 10)
