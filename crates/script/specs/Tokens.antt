-- What the parser's own functions promise: of the bytes taken, in terms of the parser before them. How turns join, and how
-- they come to what is promised of the line's bytes.
use Rattle.std.specs.Prelude.{ℕ, ◌+◌, ◌-◌, ◌*◌, ◌^◌, ◌<◌, ◌≤◌, ◌≡◌, refl, ◌⊎◌, Bool, true, false, not, List, [], ◌∷◌, ◌++◌, length, drop, get_or}
use Rattle.std.proofs.Common.{add-one, arith, sym, ap, ◌∙◌, subst, inl, inr, ⊎_elim, append_assoc, length-append, drop_of_length-le, drop-cons}
use Rattle.std.proofs.Math.Option.{Option, none, some}
use Rattle.lists.specs.Tests.{either}
use Rattle.lists.specs.TestLaws.{clash, same_true, same_no}
use Rattle.lists.specs.Rows.{has}
use Rattle.lists.specs.Counting.{has_nil, has_cons, has_append}
use Rattle.script.specs.declared.Line.{Line}
use Rattle.script.specs.declared.Parser.{Parser}
use Rattle.script.specs.declared.Parser.TheVariants.{Start}
use Rattle.script.specs.declared.Event.{Event}
use Rattle.script.specs.declared.Event.TheVariants as event
use Rattle.script.specs.declared.Parsed.{Parsed}
use Rattle.script.specs.declared.Run.{Run}
use Rattle.script.specs.Grammar.{is_digit, guard_line, is_guard}
use Rattle.script.specs.Parsing.{Before, in_number, continued, guard_on, started, filled, After, Whole, Cut, Says, Parses}

-- ---- bytes of a slice

pub cut_none : (s : List ℕ) (i : ℕ) → Cut s i [] i
cut_none s i = record { rest = refl; place = omega arith }

pub cut_byte : (s : List ℕ) (i : ℕ) → i < length s → Cut s i (get_or s i 0 ∷ []) (i + 1)
cut_byte s i h = record { rest = rw add-one (drop-cons s i 0 h); place = refl }

pub cut_join : {s : List ℕ} {i j k : ℕ} {a b : List ℕ} → Cut s i a j → Cut s j b k → Cut s i (a ++ b) k
cut_join {s} {i} {j} {k} {a} {b} x y =
    record {
      rest = x.rest ∙ ap (λ (l : List ℕ). a ++ l) y.rest ∙ sym (append_assoc a b (drop k s));
      place = let p = x.place in let q = y.place in let e : length (a ++ b) ≡ length a + length b = length-append a b in omega arith;
    }

pub has_join : (a b : List ℕ) → has 10 a ≡ false → has 10 b ≡ false → has 10 (a ++ b) ≡ false
has_join a b p q = has_append 10 a b ∙ (rw p q)

pub has_byte : (b : ℕ) → (b ≡ 10 → ⊥) → has 10 (b ∷ []) ≡ false
has_byte b h = has_cons 10 b [] ∙ (rw (same_no (λ (e : 10 ≡ b). h (sym e))) (has_nil 10))

-- ---- moves of the parser, and what an event tells in terms of the parser before it

-- the bytes take the parser p to the parser q
pub record Moves (p q : Parser) (bs : List ℕ) : Type 0 where
  pub unbroken : has 10 bs ≡ false
  pub begun : started q ≡ either (started p) (filled bs)
  pub means : (rest : List ℕ) → continued p (bs ++ rest) ≡ continued q rest
  pub guards : (rest : List ℕ) → guard_on p (bs ++ rest) ≡ guard_on q rest

-- with the bytes l the line is neither a step nor G
abbrev pub TellsNothing : Parser → List ℕ → Type 0
TellsNothing p l = (continued p l ≡ none) × (guard_on p l ≡ false)

unfoldable pub Tells : Parser → Event → Parser → List ℕ → Type 0
Tells p (event.Line x) q bs = (l : List ℕ) × Whole l bs × (continued p l ≡ some x) × (q ≡ Start)
Tells p event.Guard q bs = (l : List ℕ) × Whole l bs × (guard_on p l ≡ true) × (q ≡ Start)
Tells p event.Malformed q bs =
    (((l : List ℕ) × Whole l bs × TellsNothing p l)
    ⊎ ((has 10 bs ≡ false) × ((rest : List ℕ) → TellsNothing p (bs ++ rest))))
    × (q ≡ Start)
Tells p event.SliceEnd q bs = Moves p q bs

-- a turn from place i on, or several
pub record ParsesPart (s : List ℕ) (i : ℕ) (p : Parser) (r : Parsed) : Type 0 where
  pub taken : List ℕ
  pub cut : Cut s i taken r.next
  pub tells : Tells p r.event r.parser taken

-- digits take a number begun at place i on to place j
pub record Spells (s : List ℕ) (i : ℕ) (d : Bool) (n : ℕ) (j : ℕ) (e : Bool) (m : ℕ) : Type 0 where
  pub taken : List ℕ
  pub cut : Cut s i taken j
  pub moves : (c : ℕ) (f : Before) → Moves (in_number c f d n) (in_number c f e m) taken

-- the byte goes on with no number: it is no digit, or makes more than 64 bits
abbrev pub Stops : ℕ → ℕ → Type 0
Stops n b = (is_digit b ≡ false) ⊎ (2 ^ 64 ≤ n * 10 + (b - 48))

pub record Digits (s : List ℕ) (i : ℕ) (d : Bool) (n : ℕ) (r : Run) : Type 0 where
  pub spells : Spells s i d n r.next r.digit r.value
  pub stops : r.next < length s → Stops r.value (get_or s r.next 0)

pub record Advances (s : List ℕ) (i : ℕ) (p : Parser) (j : ℕ) (q : Parser) : Type 0 where
  pub taken : List ℕ
  pub cut : Cut s i taken j
  pub moves : Moves p q taken

begun_join : (x y : Bool) (a b : List ℕ) → y ≡ either x (filled a) → either y (filled b) ≡ either x (filled (a ++ b))
begun_join true y a b e = rw e
begun_join false y [] b e = rw e
begun_join false y (z ∷ a) b e = rw e

pub moves_join : {p q r : Parser} {a b : List ℕ} → Moves p q a → Moves q r b → Moves p r (a ++ b)
moves_join {p} {q} {r} {a} {b} x y =
    record {
      unbroken = has_join a b x.unbroken y.unbroken;
      begun = y.begun ∙ begun_join (started p) (started q) a b x.begun;
      means = λ l. ap (continued p) (append_assoc a b l) ∙ x.means (b ++ l) ∙ y.means l;
      guards = λ l. ap (guard_on p) (append_assoc a b l) ∙ x.guards (b ++ l) ∙ y.guards l;
    }

whole_join : (a : List ℕ) {l b : List ℕ} → has 10 a ≡ false → Whole l b → Whole (a ++ l) (a ++ b)
whole_join a {l} {b} h w =
    record {
      unbroken = has_join a l h w.unbroken;
      fed = ap (λ (x : List ℕ). a ++ x) w.fed ∙ sym (append_assoc a l (10 ∷ []));
    }

-- what an event tells after a move, it tells of all the bytes
pub tells_join : (e : Event) {p q : Parser} (r : Parser) {a : List ℕ} (b : List ℕ) → Moves p q a → Tells q e r b → Tells p e r (a ++ b)
unfolding Tells
tells_join (event.Line x) {p} {q} r {a} b m t = (a ++ t.0, whole_join a m.unbroken t.1, m.means t.0 ∙ t.2, t.3)
tells_join event.Guard {p} {q} r {a} b m t = (a ++ t.0, whole_join a m.unbroken t.1, m.guards t.0 ∙ t.2, t.3)
tells_join event.Malformed {p} {q} r {a} b m t = (
  ⊎_elim
      (λ w. inl (a ++ w.0, whole_join a m.unbroken w.1, on w.0 w.2))
      (λ w.
      inr (has_join a b m.unbroken w.0, λ l. subst (TellsNothing p) (sym (append_assoc a b l)) (on (b ++ l) (w.1 l))))
      t.0,
  t.1,
)
  where
    on : (l : List ℕ) → TellsNothing q l → TellsNothing p (a ++ l)
    on l n = (m.means l ∙ n.0, m.guards l ∙ n.1)
tells_join event.SliceEnd r b m t = moves_join m t

goes_turns : {s : List ℕ} {i j : ℕ} {p q : Parser} {r : Parsed} → Advances s i p j q → ParsesPart s j q r → ParsesPart s i p r
goes_turns {r = r} g t =
    record { taken = g.taken ++ t.taken; cut = cut_join g.cut t.cut; tells = tells_join r.event r.parser t.taken g.moves t.tells }

-- ---- from the parser to the bytes of the line

after_moves : {seen : List ℕ} {p : Parser} → After seen p → Moves Start p seen
unfolding continued guard_on
after_moves a = record { unbroken = a.unbroken; begun = a.begun; means = a.means; guards = a.guards }

guard_line_lem : (l : List ℕ) → is_guard l ≡ true → l ≡ guard_line
unfolding is_guard
guard_line_lem [] e = clash e refl
guard_line_lem (b ∷ []) e = ap (λ (x : ℕ). x ∷ []) (same_true b 71 e)
guard_line_lem (b ∷ c ∷ l) e = clash e refl

tells_says : (e : Event) (q : Parser) (bs : List ℕ) → Tells Start e q bs → Says e q bs
unfolding Tells Says continued guard_on
tells_says (event.Line x) q bs t = t
tells_says event.Guard q bs t = (subst (λ (l : List ℕ). Whole l bs) (guard_line_lem t.0 t.2) t.1, t.3)
tells_says event.Malformed q bs t = t
tells_says event.SliceEnd q bs t =
    record { unbroken = t.unbroken; begun = t.begun; means = t.means; guards = t.guards }

turns_reads : {seen s : List ℕ} {i : ℕ} {p : Parser} {r : Parsed} → After seen p → ParsesPart s i p r → (r.event ≡ event.SliceEnd → drop r.next s ≡ []) → Parses seen s i r
turns_reads {seen} {r = r} a t w =
    record {
      taken = t.taken;
      cut = t.cut;
      says = tells_says r.event r.parser (seen ++ t.taken) (tells_join r.event r.parser t.taken (after_moves a) t.tells);
      whole = w;
    }

pub after_fresh : After [] Start
unfolding continued guard_on
after_fresh = record { unbroken = has_nil 10; begun = refl; means = λ rest. refl; guards = λ rest. refl }

-- whether the parser has read something is whether bytes were seen
pub started_told : (p : Parser) (b : Bool) → started p ≡ b → (not b ≡ not (started p)) × ((seen : List ℕ) → After seen p → not b ≡ not (filled seen))
started_told p b e = (ap not (sym e), λ seen a. ap not (sym e ∙ a.begun))

abbrev pub told : Option Line → Event
told none = event.Malformed
told (some x) = event.Line x

-- the line is over
abbrev pub malformed : ℕ → Parsed
malformed j = record { parser = Start; next = j; event = event.Malformed }

pub moves_none : (p : Parser) → Moves p p []
moves_none p =
    record { unbroken = has_nil 10; begun = nothing (started p); means = λ rest. refl; guards = λ rest. refl }
  where
    nothing : (b : Bool) → b ≡ either b false
    nothing true = refl
    nothing false = refl

pub goes_join : {s : List ℕ} {i j k : ℕ} {p q r : Parser} → Advances s i p j q → Advances s j q k r → Advances s i p k r
goes_join g h = record { taken = g.taken ++ h.taken; cut = cut_join g.cut h.cut; moves = moves_join g.moves h.moves }

pub goes_none : (s : List ℕ) (i : ℕ) (p : Parser) → Advances s i p i p
goes_none s i p = record { taken = []; cut = cut_none s i; moves = moves_none p }

-- ---- turns, one after the other

-- a turn, and the parser known by its variant
pub turns_as : {s : List ℕ} {i : ℕ} {p q : Parser} {r : Parsed} → p ≡ q → ParsesPart s i q r → ParsesPart s i p r
turns_as {s} {i} {p} {q} {r} e t = subst (λ (x : Parser). ParsesPart s i x r) (sym e) t

ended_moves : {p q : Parser} {e : Event} {bs : List ℕ} → e ≡ event.SliceEnd → Tells p e q bs → Moves p q bs
unfolding Tells
ended_moves {p} {q} {e} {bs} h t = subst (λ (x : Event). Tells p x q bs) h t

pub goes_on_lem : {s : List ℕ} {i j : ℕ} {p q : Parser} {r : Parsed} → Advances s i p j q → ParsesPart s j q r → r.event ≡ event.SliceEnd → Advances s i p r.next r.parser
goes_on_lem g t e = goes_join g (record { taken = t.taken; cut = t.cut; moves = ended_moves e t.tells })

pub goes_ends : {s : List ℕ} {i j : ℕ} {p q : Parser} {r : Parsed} → Advances s i p j q → ParsesPart s j q r → (r.event ≡ event.SliceEnd → ⊥)
    → (seen : List ℕ) → After seen p → Parses seen s i r
goes_ends g t h seen a = turns_reads a (goes_turns g t) (λ e. absurd (h e))

pub goes_whole : {s : List ℕ} {i j : ℕ} {p q : Parser} → Advances s i p j q → length s ≤ j
    → (seen : List ℕ) → After seen p → Parses seen s i (record { parser = q; next = j; event = event.SliceEnd })
unfolding Tells
goes_whole {s} {i} {j} {p} {q} g h seen a =
    let t : ParsesPart s i p (record { parser = q; next = j; event = event.SliceEnd }) = record { taken = g.taken; cut = g.cut; tells = g.moves } in
    turns_reads a t (λ e. drop_of_length-le s h)
