-- What an event says of the current line of a whole input: the bytes up to its first line feed, whatever comes after.
use Rattle.std.specs.Prelude.{ℕ, ◌≡◌, refl, false, List, [], ◌∷◌, ◌++◌}
use Rattle.std.proofs.Common.{sym, ap, ◌∙◌, ⊎_elim, append_assoc}
use Rattle.std.proofs.Math.Option.{some}
use Rattle.lists.specs.Tests.{same}
use Rattle.lists.specs.TestLaws.{cases, clash, same_yes}
use Rattle.lists.specs.Rows.{has}
use Rattle.lists.specs.Counting.{has_cons}
use Rattle.script.specs.declared.Line.{Line}
use Rattle.script.specs.declared.Parser.{Parser}
use Rattle.script.specs.declared.Event.TheVariants as event
use Rattle.script.specs.Grammar.{meaning}
use Rattle.script.specs.Parsing.{Whole, Says}

head_clear : (b : ℕ) (l : List ℕ) → has 10 (b ∷ l) ≡ false → b ≡ 10 → ⊥
head_clear b l h e = clash (has_cons 10 b l ∙ (rw (same_yes {m = 10} {n = b} (sym e)))) h

tail_clear : (b : ℕ) (l : List ℕ) → has 10 (b ∷ l) ≡ false → has 10 l ≡ false
tail_clear b l h = ⊎_elim (λ e. clash (has_cons 10 b l ∙ (rw e)) h) (λ e. sym (has_cons 10 b l ∙ (rw e)) ∙ h) (cases (same 10 b))

-- bytes without a line feed, up to the first one, are told by the whole
feed_same : (l m a b : List ℕ) → has 10 l ≡ false → has 10 m ≡ false → l ++ (10 ∷ a) ≡ m ++ (10 ∷ b) → l ≡ m
feed_same [] [] a b h g e = refl
feed_same [] (y ∷ m) a b h g e = let q : y ≡ 10 = cc in absurd (head_clear y m g q)
feed_same (x ∷ l) [] a b h g e = let q : x ≡ 10 = cc in absurd (head_clear x l h q)
feed_same (x ∷ l) (y ∷ m) a b h g e =
    let q : x ≡ y = cc in
    let r : l ++ (10 ∷ a) ≡ m ++ (10 ∷ b) = cc in
    let s : l ≡ m = feed_same l m a b (tail_clear x l h) (tail_clear y m g) r in
    cc

whole_same : {l k bs : List ℕ} (a b : List ℕ) → Whole k bs → has 10 l ≡ false → l ++ (10 ∷ a) ≡ bs ++ b → l ≡ k
whole_same {l} {k} {bs} a b w h e =
    feed_same l k a b h w.unbroken (e ∙ ap (λ (x : List ℕ). x ++ b) w.fed ∙ append_assoc k (10 ∷ []) b)

-- a line that was told is the current line, and says so
pub line_told : (p : Parser) (x : Line) (bs l a b : List ℕ) → Says (event.Line x) p bs → has 10 l ≡ false → l ++ (10 ∷ a) ≡ bs ++ b
    → meaning l ≡ some x
unfolding Says
line_told p x bs l a b s h e = ap meaning (whole_same a b s.1 h e) ∙ s.2
