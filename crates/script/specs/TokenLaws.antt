-- What one byte, a run of digits and the end of a number make of the parser.
use Rattle.std.specs.Prelude.{ℕ, ◌+◌, ◌-◌, ◌*◌, ◌<◌, ◌≤◌, ◌≡◌, refl, ◌⊎◌, Bool, true, false, not, List, [], ◌∷◌, ◌++◌, length, get_or}
use Rattle.std.proofs.Common.{arith, sym, ap, ◌∙◌, inl, inr, ⊎_elim}
use Rattle.std.proofs.Math.Option.{Option, none, some}
use Rattle.lists.specs.Tests.{either, same}
use Rattle.lists.specs.TestLaws.{cases, clash, same_true, same_false}
use Rattle.lists.specs.Counting.{has_nil}
use Rattle.script.specs.declared.Line.{Line}
use Rattle.script.specs.declared.Line.TheVariants.{MergeOldest}
use Rattle.script.specs.declared.Parser.{Parser}
use Rattle.script.specs.declared.Parser.TheVariants.{Start, Letter, Oldest, Guard, First, Second, Third, Fourth}
use Rattle.script.specs.declared.Event.{Event}
use Rattle.script.specs.declared.Event.TheVariants as event
use Rattle.script.specs.declared.Run.{Run}
use Rattle.script.specs.Grammar.{is_digit, line_of, meaning, is_guard}
use Rattle.script.specs.Parsing.{Before, none_before, one_before, two_before, three_before, values, in_number, fields_on, letter_on, alone_on, started, continued, guard_on}
use Rattle.script.specs.GrammarLaws.{digit_from, fields_five, fields_digit, fields_other, fields_blank, fields_nothing, fields_end, fields_space, fields_wide, start_space, start_nothing, start_letter, oldest_letter, other_alone, guard_letter, guard_alone, other_guard, letter_space, letter_nothing, letter_other, letter_byte}
use Rattle.script.specs.Tokens.{Digits, Moves, Spells, Stops, TellsNothing, Tells, ParsesPart, Advances, cut_byte, cut_join, cut_none, has_byte, has_join, moves_join, moves_none, tells_join, told}

-- ---- a byte

bad : (p : Parser) (b : ℕ) → (b ≡ 10 → TellsNothing p []) → ((rest : List ℕ) → (b ≡ 10 → ⊥) → TellsNothing p (b ∷ rest)) → Tells p event.Malformed Start (b ∷ [])
unfolding Tells
bad p b h g = (
  ⊎_elim
      (λ e. let q : b ≡ 10 = same_true b 10 e in inl ([], record { unbroken = has_nil 10; fed = ap (λ (x : ℕ). x ∷ []) q }, h q))
      (λ e. let q : b ≡ 10 → ⊥ = same_false b 10 e in inr (has_byte b q, λ rest. g rest q))
      (cases (same b 10)),
  refl,
)

-- the line feed: the line is complete
feed_tells : (p : Parser) (o : Option Line) → continued p [] ≡ o → guard_on p [] ≡ false → Tells p (told o) Start (10 ∷ [])
unfolding Tells
feed_tells p none e g = (inl ([], record { unbroken = has_nil 10; fed = refl }, (e, g)), refl)
feed_tells p (some x) e g = ([], record { unbroken = has_nil 10; fed = refl }, e, refl)

pub start_bad : (b : ℕ) → (b ≡ 32) ⊎ (b ≡ 10) → Tells Start event.Malformed Start (b ∷ [])
unfolding continued guard_on is_guard
start_bad b h =
    bad Start b (λ q. (start_nothing, refl))
    (λ rest q.
    ⊎_elim
    (λ e. (ap (λ (x : ℕ). meaning (x ∷ rest)) e ∙ start_space rest, other_guard b rest (λ g. omega arith)))
    (λ e. absurd (q e))
    h)

pub start_good : (b : ℕ) → (b ≡ 32 → ⊥) → (b ≡ 10 → ⊥) → (b ≡ 84 → ⊥) → (b ≡ 71 → ⊥) → Tells Start event.SliceEnd (Letter b) (b ∷ [])
unfolding Tells continued guard_on
start_good b h f t g =
    record {
      unbroken = has_byte b f;
      begun = refl;
      means = λ rest. start_letter b rest h (other_alone b t);
      guards = λ rest. other_guard b rest g;
    }

pub start_oldest : (b : ℕ) → b ≡ 84 → Tells Start event.SliceEnd Oldest (b ∷ [])
unfolding Tells continued guard_on
start_oldest b e =
    record {
      unbroken = has_byte b (λ q. omega arith);
      begun = refl;
      means = λ rest. ap (λ (x : ℕ). meaning (x ∷ rest)) e ∙ oldest_letter rest;
      guards = λ rest. other_guard b rest (λ g. omega arith);
    }

pub start_guard : (b : ℕ) → b ≡ 71 → Tells Start event.SliceEnd Guard (b ∷ [])
unfolding Tells continued guard_on
start_guard b e =
    record {
      unbroken = has_byte b (λ q. omega arith);
      begun = refl;
      means = λ rest. ap (λ (x : ℕ). meaning (x ∷ rest)) e ∙ guard_letter rest;
      guards = λ rest. ap (λ (x : ℕ). is_guard (x ∷ rest)) e ∙ guard_alone rest;
    }

pub letter_bad : (c b : ℕ) → (b ≡ 32 → ⊥) → Tells (Letter c) event.Malformed Start (b ∷ [])
unfolding continued guard_on
letter_bad c b h = bad (Letter c) b (λ q. (letter_nothing c, refl)) (λ rest q. (letter_other c b rest h, refl))

pub letter_good : (c b : ℕ) → b ≡ 32 → Tells (Letter c) event.SliceEnd (First c false 0) (b ∷ [])
unfolding Tells continued guard_on
letter_good c b h =
    record {
      unbroken = has_byte b (λ q. omega arith);
      begun = refl;
      means = λ rest. ap (λ (x : ℕ). letter_on c (x ∷ rest)) h ∙ letter_space c rest;
      guards = λ rest. refl;
    }

pub oldest_bad : (b : ℕ) → (b ≡ 10 → ⊥) → Tells Oldest event.Malformed Start (b ∷ [])
unfolding continued alone_on guard_on
oldest_bad b h = bad Oldest b (λ q. absurd (h q)) (λ rest q. (refl, refl))

pub oldest_feed : (b : ℕ) → b ≡ 10 → Tells Oldest (event.Line MergeOldest) Start (b ∷ [])
unfolding continued alone_on guard_on
oldest_feed b e = rw e (feed_tells Oldest (some MergeOldest) refl refl)

pub guard_bad : (b : ℕ) → (b ≡ 10 → ⊥) → Tells Guard event.Malformed Start (b ∷ [])
unfolding continued guard_on
guard_bad b h = bad Guard b (λ q. absurd (h q)) (λ rest q. (refl, refl))

pub guard_feed : (b : ℕ) → b ≡ 10 → Tells Guard event.Guard Start (b ∷ [])
unfolding Tells guard_on
guard_feed b e = rw e ([], record { unbroken = has_nil 10; fed = refl }, refl, refl)

-- ---- a number

within_started : (c : ℕ) (f : Before) (d : Bool) (n : ℕ) → started (in_number c f d n) ≡ true
unfolding in_number
within_started c none_before d n = refl
within_started c (one_before a) d n = refl
within_started c (two_before a b) d n = refl
within_started c (three_before a b e) d n = refl

within_continued : (c : ℕ) (f : Before) (d : Bool) (n : ℕ) (l : List ℕ) → continued (in_number c f d n) l ≡ fields_on c (values f) d n l
unfolding in_number continued
within_continued c none_before d n l = refl
within_continued c (one_before a) d n l = refl
within_continued c (two_before a b) d n l = refl
within_continued c (three_before a b e) d n l = refl

within_guard : (c : ℕ) (f : Before) (d : Bool) (n : ℕ) (l : List ℕ) → guard_on (in_number c f d n) l ≡ false
unfolding in_number guard_on
within_guard c none_before d n l = refl
within_guard c (one_before a) d n l = refl
within_guard c (two_before a b) d n l = refl
within_guard c (three_before a b e) d n l = refl

-- a byte within a number, or the space after it
within_moves : (c : ℕ) (f g : Before) (d e : Bool) (n m b : ℕ) → (b ≡ 10 → ⊥)
    → ((rest : List ℕ) → fields_on c (values f) d n (b ∷ rest) ≡ fields_on c (values g) e m rest) → Moves (in_number c f d n) (in_number c g e m) (b ∷ [])
within_moves c f g d e n m b h w =
    record {
      unbroken = has_byte b h;
      begun = within_started c g e m ∙ sym (ap (λ (x : Bool). either x true) (within_started c f d n));
      means = λ rest. within_continued c f d n (b ∷ rest) ∙ w rest ∙ sym (within_continued c g e m rest);
      guards = λ rest. within_guard c f d n (b ∷ rest) ∙ sym (within_guard c g e m rest);
    }

pub spells_none : (s : List ℕ) (i : ℕ) (d : Bool) (n : ℕ) → Spells s i d n i d n
spells_none s i d n = record { taken = []; cut = cut_none s i; moves = λ c f. moves_none (in_number c f d n) }

digit_moves : (c : ℕ) (f : Before) (d : Bool) (n b : ℕ) → is_digit b ≡ true → Moves (in_number c f d n) (in_number c f true (n * 10 + (b - 48))) (b ∷ [])
digit_moves c f d n b e =
    within_moves c f f d true n (n * 10 + (b - 48)) b (λ q. let h : 48 ≤ b = digit_from b e in omega arith)
    (λ rest. fields_digit c (values f) d n b rest e)

pub spells_digit : {s : List ℕ} {i j : ℕ} {d e : Bool} {n m : ℕ} → Spells s i d n j e m → j < length s → is_digit (get_or s j 0) ≡ true
    → Spells s i d n (j + 1) true (m * 10 + (get_or s j 0 - 48))
spells_digit {s} {i} {j} {d} {e} {n} {m} h g t =
    record {
      taken = h.taken ++ (get_or s j 0 ∷ []);
      cut = cut_join h.cut (cut_byte s j g);
      moves = λ c f. moves_join (h.moves c f) (digit_moves c f e m (get_or s j 0) t);
    }

field_bad : (c : ℕ) (f : Before) (d : Bool) (n b : ℕ) → (b ≡ 32 → d ≡ false) → (b ≡ 10 → d ≡ false) → Stops n b → Tells (in_number c f d n) event.Malformed Start (b ∷ [])
field_bad c f d n b h g t =
    bad (in_number c f d n) b
    (λ q. (within_continued c f d n [] ∙ ended q, within_guard c f d n []))
    (λ rest q. (within_continued c f d n (b ∷ rest) ∙ spoiled rest, within_guard c f d n (b ∷ rest)))
  where
    ended : b ≡ 10 → fields_on c (values f) d n [] ≡ none
    ended q = ap (λ (x : Bool). fields_on c (values f) x n []) (g q) ∙ fields_nothing c (values f) n

    stopped : (rest : List ℕ) → (b ≡ 32 → ⊥) → fields_on c (values f) d n (b ∷ rest) ≡ none
    stopped rest z =
        ⊎_elim
        (λ y. ⊎_elim (λ o. fields_other c (values f) d n b rest o z) (λ w. fields_wide c f d n b rest y w) t)
        (λ o. fields_other c (values f) d n b rest o z)
        (cases (is_digit b))

    spoiled : (rest : List ℕ) → fields_on c (values f) d n (b ∷ rest) ≡ none
    spoiled rest =
        ⊎_elim
        (λ e. let z : b ≡ 32 = same_true b 32 e in
        ap (λ (x : ℕ). fields_on c (values f) d n (x ∷ rest)) z
        ∙ ap (λ (x : Bool). fields_on c (values f) x n (32 ∷ rest)) (h z)
        ∙ fields_blank c (values f) n rest)
        (λ e. stopped rest (same_false b 32 e))
        (cases (same b 32))

-- ---- the end of a number

-- one more number before the current one
field_space : (c : ℕ) (f g : Before) (n : ℕ) → values g ≡ values f ++ (n ∷ []) → Tells (in_number c f true n) event.SliceEnd (in_number c g false 0) (32 ∷ [])
unfolding Tells
field_space c f g n e =
    within_moves c f g true false n 0 32 (λ q. omega arith)
    (λ rest. fields_space c (values f) n rest ∙ ap (λ (x : List ℕ). fields_on c x false 0 rest) (sym e))

-- the line is complete
field_feed : (c : ℕ) (f : Before) (n : ℕ) → Tells (in_number c f true n) (told (line_of c (values f ++ (n ∷ [])))) Start (10 ∷ [])
field_feed c f n =
    feed_tells (in_number c f true n) (line_of c (values f ++ (n ∷ []))) (within_continued c f true n [] ∙ fields_end c (values f) n) (within_guard c f true n [])

-- a fifth number
field_fifth : (c a b g n : ℕ) → Tells (in_number c (three_before a b g) true n) event.Malformed Start (32 ∷ [])
unfolding Tells continued guard_on in_number
field_fifth c a b g n = (
  inr (has_byte 32 (λ q. omega arith), λ rest. (fields_space c (a ∷ b ∷ g ∷ []) n rest ∙ fields_five c a b g n rest, refl)),
  refl,
)

-- after the fourth number, anything but a line feed that follows a digit
pub last_bad : (c a b g : ℕ) (d : Bool) (n x : ℕ) → (x ≡ 10 → d ≡ false) → Stops n x → Tells (in_number c (three_before a b g) d n) event.Malformed Start (x ∷ [])
last_bad c a b g d n x h t =
    ⊎_elim (λ e. blank (same_true x 32 e) d refl) (λ e. field_bad c (three_before a b g) d n x (λ q. absurd (same_false x 32 e q)) h t) (cases (same x 32))
  where
    blank : x ≡ 32 → (y : Bool) → d ≡ y → Tells (in_number c (three_before a b g) d n) event.Malformed Start (x ∷ [])
    blank q true p = rw (p, q) (field_fifth c a b g n)
    blank q false p = field_bad c (three_before a b g) d n x (λ e. p) h t

-- ---- the start of a line of numbers

-- one parser alone has read nothing
unstarted : (p : Parser) → true ≡ not (started p) → p ≡ Start
unstarted Start e = refl
unstarted (Letter c) e = clash refl e
unstarted Oldest e = clash refl e
unstarted Guard e = clash refl e
unstarted (First c d n) e = clash refl e
unstarted (Second c d a n) e = clash refl e
unstarted (Third c d a b n) e = clash refl e
unstarted (Fourth c d a b g n) e = clash refl e

letter_moves : (c b : ℕ) → 32 < c → b ≡ 32 → Moves Start (First c false 0) (c ∷ b ∷ [])
unfolding continued guard_on is_guard same
letter_moves c b h e =
    record {
      unbroken = has_join (c ∷ []) (b ∷ []) (has_byte c (λ q. omega arith)) (has_byte b (λ q. omega arith));
      begun = refl;
      means = λ rest. ap (λ (x : ℕ). meaning (c ∷ x ∷ rest)) e ∙ letter_byte c 32 rest (λ q. omega arith);
      guards = λ rest. refl;
    }

-- the letter of a line of numbers, and the space after it
pub letter_begins : {s : List ℕ} {i : ℕ} {p : Parser} → true ≡ not (started p) → i + 1 < length s → 32 < get_or s i 0 → get_or s (i + 1) 0 ≡ 32
    → Advances s i p (i + 2) (First (get_or s i 0) false 0)
letter_begins {s} {i} {p} e h l q =
    record {
      taken = (get_or s i 0 ∷ []) ++ (get_or s (i + 1) 0 ∷ []);
      cut = let z : i + 2 ≡ i + 1 + 1 = omega arith in rw z (cut_join (cut_byte s i (omega arith)) (cut_byte s (i + 1) h));
      moves = rw (unstarted p e) (letter_moves (get_or s i 0) (get_or s (i + 1) 0) l q);
    }

-- ---- a turn

-- a turn of one byte
pub turn_byte : (p : Parser) {s : List ℕ} {i : ℕ} (q : Parser) (e : Event) → i < length s → Tells p e q (get_or s i 0 ∷ []) → ParsesPart s i p (record { parser = q; next = i + 1; event = e })
turn_byte p {s} {i} q e h t = record { taken = get_or s i 0 ∷ []; cut = cut_byte s i h; tells = t }

-- a number at the slice's end
pub field_ended : (c : ℕ) (f : Before) {d : Bool} {n : ℕ} {s : List ℕ} {i : ℕ} {r : Run} → Digits s i d n r
    → ParsesPart s i (in_number c f d n) (record { parser = in_number c f r.digit r.value; next = r.next; event = event.SliceEnd })
unfolding Tells
field_ended c f h = record { taken = h.spells.taken; cut = h.spells.cut; tells = h.spells.moves c f }

-- a number and the byte after it
pub field_turn : (c : ℕ) (f : Before) {d : Bool} {n : ℕ} {s : List ℕ} {i : ℕ} {run : Run} (p : Parser) (e : Event) → Digits s i d n run → run.next < length s
    → Tells (in_number c f run.digit run.value) e p (get_or s run.next 0 ∷ [])
    → ParsesPart s i (in_number c f d n) (record { parser = p; next = run.next + 1; event = e })
field_turn c f {s = s} {run = run} p e h g t =
    record {
      taken = h.spells.taken ++ (get_or s run.next 0 ∷ []);
      cut = cut_join h.spells.cut (cut_byte s run.next g);
      tells = tells_join e p (get_or s run.next 0 ∷ []) (h.spells.moves c f) t;
    }

pub digits_from : {s : List ℕ} {i : ℕ} {d : Bool} {n : ℕ} {r : Run} → Digits s i d n r → i ≤ r.next
digits_from h = let p = h.spells.cut.place in omega arith

-- a number and the space after it
pub field_spaced : (c : ℕ) (f g : Before) {d : Bool} {n : ℕ} {s : List ℕ} {i : ℕ} {run : Run} → Digits s i d n run → run.next < length s
    → run.digit ≡ true → get_or s run.next 0 ≡ 32 → values g ≡ values f ++ (run.value ∷ [])
    → ParsesPart s i (in_number c f d n) (record { parser = in_number c g false 0; next = run.next + 1; event = event.SliceEnd })
field_spaced c f g {run = run} h l p q e =
    field_turn c f (in_number c g false 0) event.SliceEnd h l (rw (p, q) (field_space c f g run.value e))

-- a number and the line feed after it
pub field_fed : (c : ℕ) (f : Before) {d : Bool} {n : ℕ} {s : List ℕ} {i : ℕ} {run : Run} (e : Event) → Digits s i d n run → run.next < length s
    → run.digit ≡ true → get_or s run.next 0 ≡ 10 → e ≡ told (line_of c (values f ++ (run.value ∷ [])))
    → ParsesPart s i (in_number c f d n) (record { parser = Start; next = run.next + 1; event = e })
field_fed c f {run = run} e h l p q t = field_turn c f Start e h l (rw (p, q, t) (field_feed c f run.value))

-- a number, and neither a space nor a line feed after a digit of it
pub field_refused : (c : ℕ) (f : Before) {d : Bool} {n : ℕ} {s : List ℕ} {i : ℕ} {run : Run} → Digits s i d n run → run.next < length s
    → ((get_or s run.next 0 ≡ 32 → ⊥) × (get_or s run.next 0 ≡ 10 → ⊥)) ⊎ (run.digit ≡ false)
    → ParsesPart s i (in_number c f d n) (record { parser = Start; next = run.next + 1; event = event.Malformed })
field_refused c f {s = s} {run = run} h l w =
    field_turn c f Start event.Malformed h l
    (field_bad c f run.digit run.value (get_or s run.next 0)
    (λ q. ⊎_elim (λ y. absurd (y.0 q)) (λ y. y) w)
    (λ q. ⊎_elim (λ y. absurd (y.1 q)) (λ y. y) w)
    (h.stops l))
