-- A letter and its numbers, by the tests that the code makes: a number too wide, a letter known, a letter not known.
use Rattle.std.specs.Prelude.{ℕ, ◌^◌, ◌<◌, ◌≤◌, ◌≡◌, refl, Bool, true, false, [], ◌∷◌}
use Rattle.std.proofs.Common.{sym, ap, ◌∙◌}
use Rattle.std.proofs.Math.Option.{Option, none, some}
use Rattle.lists.specs.Tests.{pick, both, same, less}
use Rattle.lists.specs.TestLaws.{same_yes, same_no, less_yes, less_no}
use Rattle.spec.specs.Widths.{addresses, worker_names}
use Rattle.script.specs.declared.Line.{Line}
use Rattle.script.specs.declared.Event.TheVariants as event
use Rattle.script.specs.Grammar.{seat_line, one_number, two_numbers, three_numbers, four_numbers, line_of}
use Rattle.script.specs.Tokens.{told}

pick_none : (x : Bool) → ◌≡◌ {A = Option Line} none (pick x none none)
pick_none true = refl
pick_none false = refl

-- ---- one number

pub merge_letter : (c a : ℕ) → c ≡ 77 → a < addresses → event.Line (Line.Merge a) ≡ told (line_of c (a ∷ []))
unfolding line_of one_number
merge_letter c a e h = rw (same_yes e, less_yes h)

module _ (c a : ℕ) (m : c ≡ 77 → ⊥) where
  pub seat_letter : (k : ℕ) → c ≡ k → a < worker_names → told (seat_line k a) ≡ told (line_of c (a ∷ []))
  unfolding line_of one_number
  seat_letter k e h = rw (same_no m, less_yes h) (ap (λ (x : ℕ). told (seat_line x a)) (sym e))

  pub seat_other : (c ≡ 66 → ⊥) → (c ≡ 76 → ⊥) → (c ≡ 86 → ⊥) → (c ≡ 73 → ⊥) → (c ≡ 65 → ⊥) → a < worker_names → event.Malformed ≡ told (line_of c (a ∷ []))
  unfolding line_of one_number seat_line
  seat_other b l v i x h = rw (same_no m, less_yes h, same_no b, same_no l, same_no v, same_no i, same_no x)

-- an address and the number that names a worker have 32 bits each
pub one_wide : (c a : ℕ) → addresses ≤ a → event.Malformed ≡ told (line_of c (a ∷ []))
unfolding line_of one_number
one_wide c a h = rw (less_no h) (ap told (pick_none (same c 77)))

-- ---- two numbers

both_wide : (x y : Bool) (o : Option Line) → y ≡ false → pick (both x y) o none ≡ none
both_wide true y o e = rw e
both_wide false y o e = refl

pub two_wide : (c a b : ℕ) → worker_names ≤ a → event.Malformed ≡ told (line_of c (a ∷ b ∷ []))
unfolding line_of
two_wide c a b h = rw (less_no h)

pub two_wide' : (c a b : ℕ) → addresses ≤ b → event.Malformed ≡ told (line_of c (a ∷ b ∷ []))
unfolding line_of
two_wide' c a b h = sym (ap told (both_wide (less a worker_names) (less b addresses) (two_numbers c a b) (less_no h)))

pub two_letter : (c k a b : ℕ) → c ≡ k → a < worker_names → b < addresses → told (two_numbers k a b) ≡ told (line_of c (a ∷ b ∷ []))
unfolding line_of
two_letter c k a b e h g = rw (less_yes h, less_yes g) (ap (λ (x : ℕ). told (two_numbers x a b)) (sym e))

pub two_other : (c a b : ℕ) → (c ≡ 82 → ⊥) → (c ≡ 68 → ⊥) → a < worker_names → b < addresses → event.Malformed ≡ told (line_of c (a ∷ b ∷ []))
unfolding line_of two_numbers
two_other c a b r d h g = rw (less_yes h, less_yes g, same_no r, same_no d)

-- ---- three numbers

pub three_wide : (c a b d : ℕ) → worker_names ≤ a → event.Malformed ≡ told (line_of c (a ∷ b ∷ d ∷ []))
unfolding line_of
three_wide c a b d h = rw (less_no h)

pub three_wide' : (c a b d : ℕ) → addresses ≤ b → event.Malformed ≡ told (line_of c (a ∷ b ∷ d ∷ []))
unfolding line_of
three_wide' c a b d h = sym (ap told (both_wide (less a worker_names) (less b addresses) (three_numbers c a b d) (less_no h)))

three_letter : (c a b d : ℕ) → c ≡ 83 → a < worker_names → b < addresses → told (three_numbers 83 a b d) ≡ told (line_of c (a ∷ b ∷ d ∷ []))
unfolding line_of
three_letter c a b d e h g = rw (less_yes h, less_yes g) (ap (λ (x : ℕ). told (three_numbers x a b d)) (sym e))

pub three_scan : (c a b d : ℕ) → c ≡ 83 → a < worker_names → b < addresses → d < addresses → event.Line (Line.Scan a b d) ≡ told (line_of c (a ∷ b ∷ d ∷ []))
unfolding three_numbers same
three_scan c a b d e h g w = ap (λ (x : Bool). told (pick x (some (Line.Scan a b d)) none)) (sym (less_yes w)) ∙ three_letter c a b d e h g

pub three_scan_wide : (c a b d : ℕ) → c ≡ 83 → a < worker_names → b < addresses → addresses ≤ d → event.Malformed ≡ told (line_of c (a ∷ b ∷ d ∷ []))
unfolding three_numbers same
three_scan_wide c a b d e h g w = ap (λ (x : Bool). told (pick x (some (Line.Scan a b d)) none)) (sym (less_no w)) ∙ three_letter c a b d e h g

pub three_other : (c a b d : ℕ) → (c ≡ 83 → ⊥) → event.Malformed ≡ told (line_of c (a ∷ b ∷ d ∷ []))
unfolding line_of three_numbers
three_other c a b d s = rw (same_no s) (ap told (pick_none (both (less a worker_names) (less b addresses))))

-- ---- four numbers

pub four_wide : (c a b d o : ℕ) → worker_names ≤ a → event.Malformed ≡ told (line_of c (a ∷ b ∷ d ∷ o ∷ []))
unfolding line_of
four_wide c a b d o h = rw (less_no h)

pub four_wide' : (c a b d o : ℕ) → addresses ≤ b → event.Malformed ≡ told (line_of c (a ∷ b ∷ d ∷ o ∷ []))
unfolding line_of
four_wide' c a b d o h = sym (ap told (both_wide (less a worker_names) (less b addresses) (four_numbers c a b d o) (less_no h)))

four_letter : (c a b d o : ℕ) → c ≡ 80 → a < worker_names → b < addresses → told (four_numbers 80 a b d o) ≡ told (line_of c (a ∷ b ∷ d ∷ o ∷ []))
unfolding line_of
four_letter c a b d o e h g = rw (less_yes h, less_yes g) (ap (λ (x : ℕ). told (four_numbers x a b d o)) (sym e))

pub four_put : (c a b d o : ℕ) → c ≡ 80 → a < worker_names → b < addresses → d < 2 ^ 64 → o < 2 ^ 16
    → event.Line (Line.Put a b d o) ≡ told (line_of c (a ∷ b ∷ d ∷ o ∷ []))
unfolding four_numbers same
four_put c a b d o e h g v w =
    let t : both (less d (2 ^ 64)) (less o (2 ^ 16)) ≡ true = rw (less_yes v) (less_yes w) in
    ap (λ (x : Bool). told (pick x (some (Line.Put a b d o)) none)) (sym t)
    ∙ four_letter c a b d o e h g

pub four_put_wide : (c a b d o : ℕ) → c ≡ 80 → a < worker_names → b < addresses → 2 ^ 16 ≤ o → event.Malformed ≡ told (line_of c (a ∷ b ∷ d ∷ o ∷ []))
unfolding four_numbers same
four_put_wide c a b d o e h g w =
    sym (ap told (both_wide (less d (2 ^ 64)) (less o (2 ^ 16)) (some (Line.Put a b d o)) (less_no w)))
    ∙ four_letter c a b d o e h g

pub four_other : (c a b d o : ℕ) → (c ≡ 80 → ⊥) → event.Malformed ≡ told (line_of c (a ∷ b ∷ d ∷ o ∷ []))
unfolding line_of four_numbers
four_other c a b d o p = rw (same_no p) (ap told (pick_none (both (less a worker_names) (less b addresses))))
