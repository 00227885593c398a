-- Request 102 of the program's output: behind a first line G, the sections that the last line tells do not overlap.
use Rattle.std.specs.Prelude.{ℕ, zero, suc, ◌+◌, ◌/◌, ◌%◌, ◌<◌, ◌≤◌, ◌≡◌, Bool, true, false, length, drop}
use Rattle.std.proofs.Common.{arith, sym, ap, ◌∙◌, subst}
use Rattle.std.proofs.Math.Path.{refl}
use mathlib.Core.List.{List, [], ◌∷◌, ◌++◌, append_assoc, Memᴰ}
use Rattle.std.proofs.Math.Option.{some}
use Rattle.lists.specs.Tests.{pick, less, at_most}
use Rattle.lists.specs.TestLaws.{less_true, at_most_yes, at_most_no}
use Rattle.lists.specs.Rows.{Row, row, map_items, any}
use Rattle.spec.specs.Records.{standard_map, Payload, Record}
use Rattle.spec.specs.Guards.{share, unfit, NoOverlap}
use Rattle.spec.specs.Maps.{contents}
use Rattle.spec.specs.Steps.{Event, fresh, final}
use Rattle.spec.specs.Exports.{unstamped}
use Rattle.serial.specs.NoOverlaps.{no_overlap_standard}
use Rattle.script.specs.declared.Line.{Line}
use Rattle.answers.specs.Output.{digits_within, decimal, field, triple, triples, end_line, guarded_answer}
use Rattle.console.specs.Program.{answer_line, written_from, starts_guarded, output}
use Rattle.console.specs.TranscriptLaws.{same_records}
use Rattle.console.specs.SerialOutput.{lines_from, lines_of, Transcript, end_line_lem, answer_line_lem}
use Rattle.console.specs.OutputEnds.{EndsApart}
use Rattle.console.specs.SerialOutputLaws.{steps_in, transcribes}

-- ---- the last line is what begins with the last letter

-- it has a letter; digits, spaces, `-` and line feeds are below 63
abbrev lettered : List ℕ → Bool
lettered t = any (at_most 63) t

unfoldable last_lettered : List ℕ → List ℕ
last_lettered [] = []
last_lettered (b ∷ t) = pick (lettered t) (last_lettered t) (b ∷ t)

lettered_at : (s : List ℕ) (b : ℕ) (t : List ℕ) → 63 ≤ b → lettered (s ++ (b ∷ t)) ≡ true
unfolding any
lettered_at [] b t h = rw (at_most_yes h)
lettered_at (c ∷ s) b t h = go (at_most 63 c) (lettered_at s b t h)
  where
    go : (x : Bool) → lettered (s ++ (b ∷ t)) ≡ true → pick x true (lettered (s ++ (b ∷ t))) ≡ true
    go true e = refl
    go false e = e

last_lettered_lem : (s : List ℕ) (b : ℕ) (t : List ℕ) → 63 ≤ b → lettered t ≡ false → last_lettered (s ++ (b ∷ t)) ≡ b ∷ t
unfolding last_lettered
last_lettered_lem [] b t h e = rw e
last_lettered_lem (c ∷ s) b t h e =
    ap (λ (x : Bool). pick x (last_lettered (s ++ (b ∷ t))) (c ∷ s ++ (b ∷ t))) (lettered_at s b t h) ∙ last_lettered_lem s b t h e

-- ---- no letters behind the first one of the last line

plain_both : (s t : List ℕ) → lettered s ≡ false → lettered t ≡ false → lettered (s ++ t) ≡ false
unfolding any
plain_both [] t d e = e
plain_both (b ∷ s) t d e = go (at_most 63 b) d (λ x. plain_both s t x e)
  where
    go : (x : Bool) → pick x true (lettered s) ≡ false → (lettered s ≡ false → lettered (s ++ t) ≡ false) → pick x true (lettered (s ++ t)) ≡ false
    go true y f = y
    go false y f = f y

plain_digit : (d : ℕ) → d < 10 → lettered ((48 + d) ∷ []) ≡ false
unfolding any
plain_digit d h = let z : 48 + d < 63 = omega arith in rw (at_most_no z)

plain_digits : (count n : ℕ) → lettered (digits_within count n) ≡ false
unfolding digits_within
plain_digits zero n = unfold any in refl
plain_digits (suc count) n = go (less n 10) refl (plain_digits count (n / 10))
  where
    go : (x : Bool) → less n 10 ≡ x → lettered (digits_within count (n / 10)) ≡ false
        → lettered (pick x ((48 + n) ∷ []) (digits_within count (n / 10) ++ ((48 + n % 10) ∷ []))) ≡ false
    go true e h = plain_digit n (less_true n 10 e)
    go false e h = plain_both (digits_within count (n / 10)) ((48 + n % 10) ∷ []) h (plain_digit (n % 10) (omega arith))

plain_field : (n : ℕ) → lettered (field n) ≡ false
unfolding field decimal any at_most
plain_field n = plain_digits (suc n) n

plain_triples : (rs : List (Row Record)) → lettered (triples (λ (r : Record). r.payload) rs) ≡ false
unfolding triples triple
plain_triples [] = unfold any in refl
plain_triples (r ∷ rs) =
    plain_both _ (triples (λ (r : Record). r.payload) rs)
    (plain_both _ (field r.item.payload.owner)
    (plain_both (field r.key) (field r.item.payload.value) (plain_field r.key) (plain_field r.item.payload.value))
    (plain_field r.item.payload.owner))
    (plain_triples rs)

last_is : (s : List ℕ) (rs : List (Row Record)) → last_lettered (s ++ end_line rs) ≡ end_line rs
unfolding end_line
last_is s rs =
    last_lettered_lem s 69 (field (length rs) ++ triples (λ (r : Record). r.payload) rs ++ (10 ∷ [])) (omega arith)
    (plain_both _ (10 ∷ [])
    (plain_both (field (length rs)) (triples (λ (r : Record). r.payload) rs) (plain_field (length rs)) (plain_triples rs))
    (unfold any at_most in refl))

-- what ends with the lines of two contents ends with one line
same_last : (s t : List ℕ) (rs qs : List (Row Record)) → s ++ end_line rs ≡ t ++ end_line qs → end_line rs ≡ end_line qs
same_last s t rs qs e = sym (last_is s rs) ∙ ap last_lettered e ∙ last_is t qs

-- ---- sections apart

-- A row of the contents with this address and payload.
record Stands (rs : List (Row Record)) (q : Row Payload) : Type 0 where
  at : Row Record
  member : Memᴰ at rs
  is : row at.key at.item.payload ≡ q

stands : (rs : List (Row Record)) (q : Row Payload) → Memᴰ q (unstamped rs) → Stands rs q
unfolding map_items
stands [] q x' = elim x' [ ]
stands (r ∷ rs) q (Memᴰ.head e) = record { at = r; member = Memᴰ.head refl; is = sym e }
stands (r ∷ rs) q (Memᴰ.tail m) =
    let w = stands rs q m in
    record { at = w.at; member = Memᴰ.tail w.member; is = w.is }

member_unstamped : (rs : List (Row Record)) (r : Row Record) → Memᴰ r rs → Memᴰ (row r.key r.item.payload) (unstamped rs)
unfolding map_items
member_unstamped [] r x' = elim x' [ ]
member_unstamped (x ∷ rs) r (Memᴰ.head e) = Memᴰ.head (ap (λ (y : Row Record). row y.key y.item.payload) e)
member_unstamped (x ∷ rs) r (Memᴰ.tail m) = Memᴰ.tail (member_unstamped rs r m)

-- commit numbers do not matter
apart_unstamped : (rs qs : List (Row Record)) → unstamped rs ≡ unstamped qs → NoOverlap rs → NoOverlap qs
apart_unstamped rs qs e h =
    record {
      fit =
          λ q m. let w = in_first q m in
          sym (ap (λ (x : Row Payload). unfit x.key x.item.value) w.is) ∙ h.fit w.at w.member;
      apart =
          λ p q m n d. let v = in_first p m in let w = in_first q n in
          sym (ap (λ (x : Row Payload). share x.key x.item.value q.key q.item.payload.value) v.is)
          ∙ sym (ap (λ (x : Row Payload). share v.at.key v.at.item.payload.value x.key x.item.value) w.is)
          ∙ h.apart v.at w.at v.member w.member
          (λ c. d (sym (ap (λ (x : Row Payload). x.key) v.is) ∙ c ∙ ap (λ (x : Row Payload). x.key) w.is));
    }
  where
    in_first : (q : Row Record) → Memᴰ q qs → Stands rs (row q.key q.item.payload)
    in_first q m = stands rs (row q.key q.item.payload) (subst (Memᴰ (row q.key q.item.payload)) (sym e) (member_unstamped qs q m))

-- what ends with the line of contents without overlaps ends with no other line
ends_apart : (written before : List ℕ) (rs : List (Row Record)) → written ≡ before ++ end_line rs → NoOverlap rs → EndsApart written
ends_apart written before rs e h =
    record {
      before = before;
      sections = rs;
      last_line = e;
      apart = λ other qs q. apart_unstamped rs qs (same_records rs qs (same_last before other rs qs (sym e ∙ q))) h;
    }

-- ---- the statement

-- a transcript ends with the line of its contents
record Ended (text : List ℕ) (rs : List (Row Record)) : Type 0 where
  before : List ℕ
  is : text ≡ before ++ end_line rs

ended : {ls : List Line} {text : List ℕ} {h : List Event} {rs : List (Row Record)} → Transcript ls text h rs → Ended text rs
ended (end_line_lem rs) = record { before = []; is = refl }
ended (answer_line_lem {rs = rs} l a p rest) =
    let w = ended rest in
    record {
      before = answer_line l a ++ w.before;
      is = ap (λ (t : List ℕ). answer_line l a ++ t) w.is ∙ sym (append_assoc (answer_line l a) w.before (end_line rs));
    }

-- the sections in the last line of a guarded script's output do not overlap
pub output_apart : (input : List ℕ) (ls : List Line) → starts_guarded input ≡ true → lines_of input ≡ some ls → EndsApart (output input)
unfolding output
output_apart input ls g e = go (starts_guarded input) g e
  where
    go : (x : Bool) → x ≡ true → lines_from [] (pick x (drop 2 input) input) ≡ some ls
        → EndsApart (pick x (guarded_answer ++ written_from (fresh (standard_map true)) [] (drop 2 input)) (written_from (fresh (standard_map false)) [] input))
    go false y q = let z : ◌≡◌ {A = ℕ} 0 1 = cc in absurd (omega arith)
    go true y q =
        let text = written_from (fresh (standard_map true)) [] (drop 2 input) in
        let w = ended (transcribes (fresh (standard_map true)) [] (drop 2 input) ls q) in
        ends_apart (guarded_answer ++ text) (guarded_answer ++ w.before) (contents (final (fresh (standard_map true)) (steps_in ls)).map)
        (ap (λ (t : List ℕ). guarded_answer ++ t) w.is
        ∙ sym (append_assoc guarded_answer w.before (end_line (contents (final (fresh (standard_map true)) (steps_in ls)).map))))
        (no_overlap_standard (steps_in ls))
