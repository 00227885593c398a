-- The laws of what is written.
use Rattle.std.specs.Prelude.{ℕ, suc, ◌+◌, ◌<◌, ◌≤◌, ◌≡◌, refl, List, [], ◌∷◌, ◌++◌, length, set}
use Rattle.std.proofs.Common.{arith, ap, ◌∙◌, length-append}
use Rattle.std.proofs.lemmas.List.Edits.{sets}
use Rattle.std.proofs.Math.Seq.{length-sets}
use Rattle.lists.specs.Texts.{Wrote}

sets_append : (l : List ℕ) (i : ℕ) (a b : List ℕ) → sets (sets l i a) (i + length a) b ≡ sets l i (a ++ b)
sets_append l i [] b = ap (λ (k : ℕ). sets l k b) (omega arith)
sets_append l i (x ∷ a) b =
    ap (λ (k : ℕ). sets (sets (set l i x) (suc i) a) k b) (omega arith)
    ∙ sets_append (set l i x) (suc i) a b

-- a text after a text
pub wrote_join : {l m n : List ℕ} {i j k : ℕ} {a b : List ℕ} → Wrote l i a m j → Wrote m j b n k → Wrote l i (a ++ b) n k
wrote_join {l} {m} {n} {i} {j} {k} {a} {b} x y =
    let p : j ≡ i + length a = x.place in
    let q : k ≡ j + length b = y.place in
    let s : length (a ++ b) ≡ length a + length b = length-append a b in
    let r : length m ≡ length l = ap length x.written ∙ length-sets l i a in
    let w : j + length b ≤ length m = y.within in
    record {
      written = y.written ∙ ap (λ (z : List ℕ). sets z j b) x.written ∙ ap (λ (z : ℕ). sets (sets l i a) z b) p ∙ sets_append l i a b;
      within = omega arith;
      place = omega arith;
    }

pub wrote_length : {l m : List ℕ} {i j : ℕ} {a : List ℕ} → Wrote l i a m j → length m ≡ length l
wrote_length {l} {m} {i} {j} {a} x = ap length x.written ∙ length-sets l i a

-- a byte
pub wrote_byte : (l : List ℕ) (at b : ℕ) → at < length l → Wrote l at (b ∷ []) (set l at b) (at + 1)
wrote_byte l at b h = record { written = refl; within = omega arith; place = refl }
