-- What one more byte of a line makes of what the line says.
use Rattle.std.specs.Prelude.{ℕ, ◌+◌, ◌-◌, ◌*◌, ◌^◌, ◌≤◌, ◌≡◌, Bool, true, not}
use Rattle.std.proofs.Common.{arith, sym, ◌∙◌, ⊎_elim}
use Rattle.std.proofs.Math.Path.{refl, ap}
use Rattle.std.proofs.Math.Bool.{false}
use mathlib.Core.List.{List, [], ◌∷◌, ◌++◌}
use Rattle.std.proofs.Math.Option.{Option, none, some}
use Rattle.lists.specs.Tests.{pick, both, maybe, same, less, within, at_most}
use Rattle.lists.specs.TestLaws.{cases, clash, same_no, same_refl, less_no, at_most_true}
use Rattle.std.proofs.Math.Seq.{append_snoc}
use Rattle.spec.specs.Widths.{addresses, worker_names}
use Rattle.script.specs.declared.Line.{Line}
use Rattle.script.specs.declared.Line.TheVariants.{Put, Merge, MergeOldest}
use Rattle.script.specs.Grammar.{first_word, more_words, is_digit, extend, number, numbers, no_number, seat_line, one_number, two_numbers, three_numbers, four_numbers, line_of, lettered, meaning, is_guard}
use Rattle.script.specs.Parsing.{Before, none_before, one_before, two_before, three_before, filled, values, number_on, fields_on, letter_on, alone_on}

-- ---- bytes

pub digit_from : (b : ℕ) → is_digit b ≡ true → 48 ≤ b
unfolding is_digit within
digit_from b e = ⊎_elim (λ t. at_most_true 48 b t) (λ f. clash e (rw f)) (cases (at_most 48 b))

-- ---- words

word_space : (l : List ℕ) → first_word (32 ∷ l) ≡ []
unfolding first_word
word_space l = rw (same_refl 32)

word_byte : (b : ℕ) (l : List ℕ) → same b 32 ≡ false → first_word (b ∷ l) ≡ b ∷ first_word l
unfolding first_word
word_byte b l e = rw e

words_space : (l : List ℕ) → more_words (32 ∷ l) ≡ first_word l ∷ more_words l
unfolding more_words
words_space l = rw (same_refl 32)

words_byte : (b : ℕ) (l : List ℕ) → same b 32 ≡ false → more_words (b ∷ l) ≡ more_words l
unfolding more_words
words_byte b l e = rw e

-- ---- numbers

number_on_lem : (w : List ℕ) → number w ≡ number_on false 0 w
unfolding number number_on
number_on_lem [] = refl
number_on_lem (b ∷ w) = refl

on_digit : (d : Bool) (n b : ℕ) (w : List ℕ) → is_digit b ≡ true → number_on d n (b ∷ w) ≡ number_on true (n * 10 + (b - 48)) w
unfolding number_on extend
on_digit true n b w e = rw e
on_digit false n b w e = rw e

on_other : (d : Bool) (n b : ℕ) (w : List ℕ) → is_digit b ≡ false → number_on d n (b ∷ w) ≡ none
unfolding number_on extend
on_other true n b w e = rw e
on_other false n b w e = rw e

-- a number does not shrink
extend_from : (n : ℕ) (w : List ℕ) (m : ℕ) → extend n w ≡ some m → n ≤ m
unfolding extend
extend_from n [] m e = let q : n ≡ m = cc in omega arith
extend_from n (b ∷ w) m e =
    ⊎_elim
    (λ t. let h : n * 10 + (b - 48) ≤ m = extend_from (n * 10 + (b - 48)) w m (rw t at e) in omega arith)
    (λ f. let g : ◌≡◌ {A = Option ℕ} none (some m) = rw f at e in let z : ◌≡◌ {A = ℕ} 0 1 = cc in omega arith)
    (cases (is_digit b))

-- ---- lines

pick_same : {A : Type 0} (b : Bool) (x : A) → pick b x x ≡ x
pick_same true x = refl
pick_same false x = refl

three_wide : (c a b m : ℕ) → 2 ^ 64 ≤ m → three_numbers c a b m ≡ none
unfolding three_numbers
three_wide c a b m h = rw (less_no {m = m} {n = addresses} (omega arith)) (pick_same (same c 83) none)

four_wide : (c a b m x : ℕ) → 2 ^ 64 ≤ m → four_numbers c a b m x ≡ none
unfolding four_numbers
four_wide c a b m x h = rw (less_no {m = m} {n = 2 ^ 64} h) (pick_same (same c 80) none)

four_wide' : (c a b d m : ℕ) → 2 ^ 64 ≤ m → four_numbers c a b d m ≡ none
unfolding four_numbers
four_wide' c a b d m h =
    rw (less_no {m = m} {n = 2 ^ 16} (omega arith))
    (ap (λ (o : Option Line). pick (same c 80) o none) (none_wide (less d (2 ^ 64))) ∙ pick_same (same c 80) none)
  where
    none_wide : (x : Bool) → pick (both x false) (some (Put a b d m)) none ≡ none
    none_wide true = refl
    none_wide false = refl

one_wide : (c m : ℕ) → 2 ^ 64 ≤ m → one_number c m ≡ none
unfolding one_number
one_wide c m h =
    let p : less m addresses ≡ false = less_no (omega arith) in
    let q : less m worker_names ≡ false = less_no (omega arith) in
    (λ i. pick (same c 77) (pick (p i) (some (Merge m)) none) (pick (q i) (seat_line c m) none)) ∙ pick_same (same c 77) none

-- no number of a line has more than 64 bits
line_wide : (c : ℕ) (f : Before) (m : ℕ) (ms : List ℕ) → 2 ^ 64 ≤ m → line_of c (values f ++ (m ∷ ms)) ≡ none
unfolding line_of
line_wide c none_before m [] h = one_wide c m h
line_wide c none_before m (x ∷ []) h = rw (less_no {m = m} {n = worker_names} (omega arith))
line_wide c none_before m (x ∷ y ∷ []) h = rw (less_no {m = m} {n = worker_names} (omega arith))
line_wide c none_before m (x ∷ y ∷ z ∷ []) h = rw (less_no {m = m} {n = worker_names} (omega arith))
line_wide c none_before m (x ∷ y ∷ z ∷ u ∷ ms) h = refl
line_wide c (one_before a) m [] h = ⊎_elim (λ t. rw (t, less_no {m = m} {n = addresses} (omega arith))) (λ t. rw t) (cases (less a worker_names))
line_wide c (one_before a) m (x ∷ []) h = ⊎_elim (λ t. rw (t, less_no {m = m} {n = addresses} (omega arith))) (λ t. rw t) (cases (less a worker_names))
line_wide c (one_before a) m (x ∷ y ∷ []) h = ⊎_elim (λ t. rw (t, less_no {m = m} {n = addresses} (omega arith))) (λ t. rw t) (cases (less a worker_names))
line_wide c (one_before a) m (x ∷ y ∷ z ∷ ms) h = refl
line_wide c (two_before a b) m [] h = ap (λ (o : Option Line). pick (both (less a worker_names) (less b addresses)) o none) (three_wide c a b m h) ∙ pick_same (both (less a worker_names) (less b addresses)) none
line_wide c (two_before a b) m (x ∷ []) h = ap (λ (o : Option Line). pick (both (less a worker_names) (less b addresses)) o none) (four_wide c a b m x h) ∙ pick_same (both (less a worker_names) (less b addresses)) none
line_wide c (two_before a b) m (x ∷ y ∷ ms) h = refl
line_wide c (three_before a b d) m [] h = ap (λ (o : Option Line). pick (both (less a worker_names) (less b addresses)) o none) (four_wide' c a b d m h) ∙ pick_same (both (less a worker_names) (less b addresses)) none
line_wide c (three_before a b d) m (x ∷ ms) h = refl

module _ (c : ℕ) (ns : List ℕ) where
  on_none : (d : Bool) (n : ℕ) (l : List ℕ) → number_on d n (first_word l) ≡ none → fields_on c ns d n l ≡ none
  unfolding fields_on
  on_none d n l e = rw e

  -- a digit goes on with the number
  pub fields_digit : (d : Bool) (n b : ℕ) (l : List ℕ) → is_digit b ≡ true → fields_on c ns d n (b ∷ l) ≡ fields_on c ns true (n * 10 + (b - 48)) l
  unfolding fields_on
  fields_digit d n b l e =
      let f : same b 32 ≡ false = same_no (λ q. let h : 48 ≤ b = digit_from b e in omega arith) in
      rw (word_byte b l f, words_byte b l f, on_digit d n b (first_word l) e)

  -- any other byte but a space spoils the line
  pub fields_other : (d : Bool) (n b : ℕ) (l : List ℕ) → is_digit b ≡ false → (b ≡ 32 → ⊥) → fields_on c ns d n (b ∷ l) ≡ none
  fields_other d n b l e h =
      on_none d n (b ∷ l) (ap (number_on d n) (word_byte b l (same_no h)) ∙ on_other d n b (first_word l) e)

  -- so does a space with no digit before it
  pub fields_blank : (n : ℕ) (l : List ℕ) → fields_on c ns false n (32 ∷ l) ≡ none
  unfolding number_on
  fields_blank n l = on_none false n (32 ∷ l) (ap (number_on false n) (word_space l))

  pub fields_nothing : (n : ℕ) → fields_on c ns false n [] ≡ none
  unfolding fields_on first_word number_on
  fields_nothing n = refl

  -- the line's end
  pub fields_end : (n : ℕ) → fields_on c ns true n [] ≡ line_of c (ns ++ (n ∷ []))
  unfolding fields_on first_word number_on extend more_words numbers
  fields_end n = refl

  -- a space begins the next number
  pub fields_space : (n : ℕ) (l : List ℕ) → fields_on c ns true n (32 ∷ l) ≡ fields_on c (ns ++ (n ∷ [])) false 0 l
  unfolding fields_on number_on extend numbers
  fields_space n l =
      rw (word_space l, words_space l, number_on_lem (first_word l))
      (go (number_on false 0 (first_word l)) (numbers (more_words l)))
    where
      go : (o : Option ℕ) (q : Option (List ℕ))
          → maybe (maybe o none (λ (m : ℕ). maybe q none (λ (ms : List ℕ). some (m ∷ ms)))) none (λ (ms : List ℕ). line_of c (ns ++ (n ∷ ms)))
          ≡ maybe o none (λ (m : ℕ). maybe q none (λ (ms : List ℕ). line_of c (ns ++ (n ∷ []) ++ (m ∷ ms))))
      go none q = refl
      go (some m) none = refl
      go (some m) (some ms) = ap (line_of c) (sym (append_snoc ns n (m ∷ ms)))

-- a number of more than 64 bits spoils the line
pub fields_wide : (c : ℕ) (f : Before) (d : Bool) (n b : ℕ) (l : List ℕ) → is_digit b ≡ true → 2 ^ 64 ≤ n * 10 + (b - 48) → fields_on c (values f) d n (b ∷ l) ≡ none
unfolding fields_on number_on
fields_wide c f d n b l e h = fields_digit c (values f) d n b l e ∙ big (n * 10 + (b - 48)) h
  where
    over : (k : ℕ) → 2 ^ 64 ≤ k → (o : Option ℕ) (q : Option (List ℕ)) → number_on true k (first_word l) ≡ o
        → maybe o none (λ (m : ℕ). maybe q none (λ (ms : List ℕ). line_of c (values f ++ (m ∷ ms)))) ≡ none
    over k g none q z = refl
    over k g (some m) none z = refl
    over k g (some m) (some ms) z =
        line_wide c f m ms (let y : k ≤ m = extend_from k (first_word l) m z in omega arith)

    big : (k : ℕ) → 2 ^ 64 ≤ k → fields_on c (values f) true k l ≡ none
    big k g = over k g (number_on true k (first_word l)) (numbers (more_words l)) refl

-- so does a fifth one
pub fields_five : (c x y z u : ℕ) (l : List ℕ) → fields_on c (x ∷ y ∷ z ∷ u ∷ []) false 0 l ≡ none
unfolding fields_on line_of
fields_five c x y z u l = go (number_on false 0 (first_word l)) (numbers (more_words l))
  where
    go : (o : Option ℕ) (q : Option (List ℕ)) → maybe o none (λ (m : ℕ). maybe q none (λ (ms : List ℕ). line_of c ((x ∷ y ∷ z ∷ u ∷ []) ++ (m ∷ ms)))) ≡ none
    go none q = refl
    go (some m) none = refl
    go (some m) (some ms) = refl

-- ---- letters

pub start_space : (l : List ℕ) → meaning (32 ∷ l) ≡ none
unfolding meaning lettered
start_space l = rw (word_space l) (nothing (numbers (more_words (32 ∷ l))))
  where
    nothing : (o : Option (List ℕ)) → maybe o none (λ (ns : List ℕ). lettered [] ns) ≡ none
    nothing none = refl
    nothing (some ns) = refl

pub start_nothing : meaning [] ≡ none
unfolding meaning more_words numbers first_word lettered
start_nothing = refl

-- a letter and one more byte: a space begins the numbers, any other one spoils the line
pub letter_byte : (c b : ℕ) (l : List ℕ) → (c ≡ 32 → ⊥) → meaning (c ∷ b ∷ l) ≡ pick (same b 32) (fields_on c [] false 0 l) none
unfolding meaning lettered fields_on first_word more_words numbers
letter_byte c b l h =
    rw (same_no h)
    (⊎_elim
    (λ e. rw e (rw (← number_on_lem (first_word l)) (go (number (first_word l)) (numbers (more_words l)))))
    (λ e. rw e (long (numbers (more_words l))))
    (cases (same b 32)))
  where
    go : (o : Option ℕ) (q : Option (List ℕ))
        → maybe (maybe o none (λ (m : ℕ). maybe q none (λ (ms : List ℕ). some (m ∷ ms)))) none (λ (ms : List ℕ). line_of c ms)
        ≡ maybe o none (λ (m : ℕ). maybe q none (λ (ms : List ℕ). line_of c ([] ++ (m ∷ ms))))
    go none q = refl
    go (some m) none = refl
    go (some m) (some ms) = refl

    long : (q : Option (List ℕ)) → maybe q none (λ (ns : List ℕ). lettered (c ∷ b ∷ first_word l) ns) ≡ none
    long none = refl
    long (some ns) = refl

letter_alone : (c : ℕ) → (c ≡ 32 → ⊥) → meaning (c ∷ []) ≡ line_of c []
unfolding meaning lettered first_word more_words numbers
letter_alone c h = rw (same_no h)

-- a letter that is no line by itself
pub start_letter : (c : ℕ) (l : List ℕ) → (c ≡ 32 → ⊥) → line_of c [] ≡ none → meaning (c ∷ l) ≡ letter_on c l
unfolding letter_on
start_letter c [] h e = letter_alone c h ∙ e
start_letter c (b ∷ l) h e = letter_byte c b l h

-- a letter that is no line with numbers
no_numbers : (c b : ℕ) (l : List ℕ) → (c ≡ 32 → ⊥) → ((m : ℕ) (ms : List ℕ) → line_of c (m ∷ ms) ≡ none) → meaning (c ∷ b ∷ l) ≡ none
unfolding fields_on
no_numbers c b l h g =
    letter_byte c b l h
    ∙ ap (λ (o : Option Line). pick (same b 32) o none) (nothing (number_on false 0 (first_word l)) (numbers (more_words l)))
    ∙ pick_same (same b 32) none
  where
    nothing : (o : Option ℕ) (q : Option (List ℕ)) → maybe o none (λ (m : ℕ). maybe q none (λ (ms : List ℕ). line_of c ([] ++ (m ∷ ms)))) ≡ none
    nothing none q = refl
    nothing (some m) none = refl
    nothing (some m) (some ms) = g m ms

-- T
oldest_alone : line_of 84 [] ≡ some MergeOldest
unfolding line_of no_number same
oldest_alone = refl

oldest_numbers : (m : ℕ) (ms : List ℕ) → line_of 84 (m ∷ ms) ≡ none
unfolding line_of one_number seat_line two_numbers three_numbers four_numbers same
oldest_numbers a [] = pick_same (less a worker_names) none
oldest_numbers a (b ∷ []) = pick_same (both (less a worker_names) (less b addresses)) none
oldest_numbers a (b ∷ d ∷ []) = pick_same (both (less a worker_names) (less b addresses)) none
oldest_numbers a (b ∷ d ∷ e ∷ []) = pick_same (both (less a worker_names) (less b addresses)) none
oldest_numbers a (b ∷ d ∷ e ∷ f ∷ ms) = refl

pub oldest_letter : (l : List ℕ) → meaning (84 ∷ l) ≡ alone_on MergeOldest l
unfolding alone_on
oldest_letter [] = letter_alone 84 (λ q. omega arith) ∙ oldest_alone
oldest_letter (b ∷ l) = no_numbers 84 b l (λ q. omega arith) oldest_numbers

-- no other letter is a line by itself
pub other_alone : (c : ℕ) → (c ≡ 84 → ⊥) → line_of c [] ≡ none
unfolding line_of no_number
other_alone c t = rw (same_no t)

-- G
guard_numbers : (m : ℕ) (ms : List ℕ) → line_of 71 (m ∷ ms) ≡ none
unfolding line_of one_number seat_line two_numbers three_numbers four_numbers same
guard_numbers a [] = pick_same (less a worker_names) none
guard_numbers a (b ∷ []) = pick_same (both (less a worker_names) (less b addresses)) none
guard_numbers a (b ∷ d ∷ []) = pick_same (both (less a worker_names) (less b addresses)) none
guard_numbers a (b ∷ d ∷ e ∷ []) = pick_same (both (less a worker_names) (less b addresses)) none
guard_numbers a (b ∷ d ∷ e ∷ f ∷ ms) = refl

-- no step begins with it
pub guard_letter : (l : List ℕ) → meaning (71 ∷ l) ≡ none
guard_letter [] = letter_alone 71 (λ q. omega arith) ∙ other_alone 71 (λ q. omega arith)
guard_letter (b ∷ l) = no_numbers 71 b l (λ q. omega arith) guard_numbers

pub guard_alone : (l : List ℕ) → is_guard (71 ∷ l) ≡ not (filled l)
unfolding is_guard
guard_alone [] = same_refl 71
guard_alone (b ∷ l) = refl

pub other_guard : (c : ℕ) (l : List ℕ) → (c ≡ 71 → ⊥) → is_guard (c ∷ l) ≡ false
unfolding is_guard
other_guard c [] h = same_no h
other_guard c (b ∷ l) h = refl

pub letter_space : (c : ℕ) (l : List ℕ) → letter_on c (32 ∷ l) ≡ fields_on c [] false 0 l
unfolding letter_on
letter_space c l = rw (same_refl 32)

pub letter_nothing : (c : ℕ) → letter_on c [] ≡ none
unfolding letter_on
letter_nothing c = refl

pub letter_other : (c b : ℕ) (l : List ℕ) → (b ≡ 32 → ⊥) → letter_on c (b ∷ l) ≡ none
unfolding letter_on
letter_other c b l h = rw (same_no h)
