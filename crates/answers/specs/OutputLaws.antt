-- Decimal digits, how many there are, and what is written for a number, for triples and for an answer.
use Rattle.std.specs.Prelude.{ℕ, zero, suc, ◌+◌, ◌*◌, ◌/◌, ◌%◌, ◌^◌, ◌<◌, ◌≤◌, ◌≡◌, refl, List, [], ◌∷◌, ◌++◌, length, get_or, take}
use Rattle.std.proofs.Common.{pow-suc, add-one, arith, sym, ap, ◌∙◌, subst, ⊎_elim, append_assoc, append-nil, length-append, take-suc, length-take-le}
use Rattle.lists.specs.Tests.{less}
use Rattle.lists.specs.TestLaws.{cases, less_yes, less_no, less_true, less_false}
use Rattle.lists.specs.Texts.{Wrote}
use Rattle.lists.specs.TextLaws.{wrote_join}
use Rattle.answers.specs.Output.{digits_within, decimal, field, triple, triples_of}

-- ---- the equations that a reader expects

within_one : (f n : ℕ) → n < 10 → digits_within (suc f) n ≡ (48 + n) ∷ []
unfolding digits_within
within_one f n h = rw (less_yes h)

within_more : (f n : ℕ) → 10 ≤ n → digits_within (suc f) n ≡ digits_within f (n / 10) ++ ((48 + n % 10) ∷ [])
unfolding digits_within
within_more f n h = rw (less_no h)

-- any count that is not too small will do
within_any : (f g n : ℕ) → n ≤ f → n ≤ g → digits_within (suc f) n ≡ digits_within (suc g) n
within_any zero g n h k = within_one 0 n (omega arith) ∙ sym (within_one g n (omega arith))
within_any (suc f) zero n h k = within_one (suc f) n (omega arith) ∙ sym (within_one 0 n (omega arith))
within_any (suc f) (suc g) n h k =
    ⊎_elim
    (λ e. let l : n < 10 = less_true n 10 e in within_one (suc f) n l ∙ sym (within_one (suc g) n l))
    (λ e. let l : 10 ≤ n = less_false n 10 e in
    within_more (suc f) n l
    ∙ ap (λ (x : List ℕ). x ++ ((48 + n % 10) ∷ [])) (within_any f g (n / 10) (omega arith) (omega arith))
    ∙ sym (within_more (suc g) n l))
    (cases (less n 10))

pub decimal_one : (n : ℕ) → n < 10 → decimal n ≡ (48 + n) ∷ []
unfolding decimal
decimal_one n h = within_one n n h

pub decimal_more : (n : ℕ) → 10 ≤ n → decimal n ≡ decimal (n / 10) ++ ((48 + n % 10) ∷ [])
unfolding decimal
decimal_more zero h = absurd (omega arith)
decimal_more (suc n) h =
    within_more (suc n) (suc n) h
    ∙ ap (λ (x : List ℕ). x ++ ((48 + suc n % 10) ∷ [])) (within_any n (suc n / 10) (suc n / 10) (omega arith) (omega arith))

-- ---- parts of known width

-- two digits of a number below 100
unfoldable pub pair : ℕ → List ℕ
pair n = (48 + n / 10) ∷ (48 + n % 10) ∷ []

-- four of one below 10,000
unfoldable pub four : ℕ → List ℕ
four n = pair (n / 100) ++ pair (n % 100)

-- eight of one below 100,000,000
unfoldable pub eight : ℕ → List ℕ
eight n = four (n / 10000) ++ four (n % 10000)

pub length_pair : (n : ℕ) → length (pair n) ≡ 2
unfolding pair
length_pair n = refl

pub length_four : (n : ℕ) → length (four n) ≡ 4
unfolding pair four
length_four n = refl

pub length_eight : (n : ℕ) → length (eight n) ≡ 8
unfolding pair four eight
length_eight n = refl

decimal_pair : (n : ℕ) → 10 ≤ n → n < 100 → decimal n ≡ pair n
unfolding pair
decimal_pair n h g = decimal_more n h ∙ ap (λ (x : List ℕ). x ++ ((48 + n % 10) ∷ [])) (decimal_one (n / 10) (omega arith))

-- a number of more than two digits ends with its last two
decimal_two : (n : ℕ) → 100 ≤ n → decimal n ≡ decimal (n / 100) ++ pair (n % 100)
unfolding pair
decimal_two n h =
    let a : n / 10 / 10 ≡ n / 100 = omega arith in
    let b : n / 10 % 10 ≡ n % 100 / 10 = omega arith in
    let d : n % 10 ≡ n % 100 % 10 = omega arith in
    decimal_more n (omega arith)
    ∙ ap (λ (x : List ℕ). x ++ ((48 + n % 10) ∷ [])) (decimal_more (n / 10) (omega arith))
    ∙ append_assoc (decimal (n / 10 / 10)) ((48 + n / 10 % 10) ∷ []) ((48 + n % 10) ∷ [])
    ∙ ap (λ (x : ℕ). decimal x ++ ((48 + n / 10 % 10) ∷ (48 + n % 10) ∷ [])) a
    ∙ ap (λ (x : ℕ). decimal (n / 100) ++ ((48 + x) ∷ (48 + n % 10) ∷ [])) b
    ∙ ap (λ (x : ℕ). decimal (n / 100) ++ ((48 + n % 100 / 10) ∷ (48 + x) ∷ [])) d

decimal_four : (n : ℕ) → 10000 ≤ n → decimal n ≡ decimal (n / 10000) ++ four (n % 10000)
unfolding four
decimal_four n h =
    let a : n / 100 / 100 ≡ n / 10000 = omega arith in
    let b : n / 100 % 100 ≡ n % 10000 / 100 = omega arith in
    let d : n % 100 ≡ n % 10000 % 100 = omega arith in
    decimal_two n (omega arith)
    ∙ ap (λ (x : List ℕ). x ++ pair (n % 100)) (decimal_two (n / 100) (omega arith))
    ∙ append_assoc (decimal (n / 100 / 100)) (pair (n / 100 % 100)) (pair (n % 100))
    ∙ ap (λ (x : ℕ). decimal x ++ (pair (n / 100 % 100) ++ pair (n % 100))) a
    ∙ ap (λ (x : ℕ). decimal (n / 10000) ++ (pair x ++ pair (n % 100))) b
    ∙ ap (λ (x : ℕ). decimal (n / 10000) ++ (pair (n % 10000 / 100) ++ pair x)) d

decimal_eight : (n : ℕ) → 100000000 ≤ n → decimal n ≡ decimal (n / 100000000) ++ eight (n % 100000000)
unfolding eight
decimal_eight n h =
    let a : n / 10000 / 10000 ≡ n / 100000000 = omega arith in
    let b : n / 10000 % 10000 ≡ n % 100000000 / 10000 = omega arith in
    let d : n % 10000 ≡ n % 100000000 % 10000 = omega arith in
    decimal_four n (omega arith)
    ∙ ap (λ (x : List ℕ). x ++ four (n % 10000)) (decimal_four (n / 10000) (omega arith))
    ∙ append_assoc (decimal (n / 10000 / 10000)) (four (n / 10000 % 10000)) (four (n % 10000))
    ∙ ap (λ (x : ℕ). decimal x ++ (four (n / 10000 % 10000) ++ four (n % 10000))) a
    ∙ ap (λ (x : ℕ). decimal (n / 100000000) ++ (four x ++ four (n % 10000))) b
    ∙ ap (λ (x : ℕ). decimal (n / 100000000) ++ (four (n % 100000000 / 10000) ++ four x)) d

-- ---- how many digits a number has

pub decimal_most : (k n : ℕ) → n < 10 ^ suc k → length (decimal n) ≤ suc k
decimal_most zero n h = let e : length (decimal n) ≡ 1 = ap length (decimal_one n h) in omega arith
decimal_most (suc k) n h =
    ⊎_elim
    (λ e. let c : length (decimal n) ≡ 1 = ap length (decimal_one n (less_true n 10 e)) in omega arith)
    (λ e. let l : 10 ≤ n = less_false n 10 e in
    let p : 10 ^ suc (suc k) ≡ 10 ^ suc k * 10 = pow-suc 10 (suc k) in
    let a : length (decimal n) ≡ length (decimal (n / 10)) + 1
    = ap length (decimal_more n l) ∙ length-append (decimal (n / 10)) ((48 + n % 10) ∷ []) in
    let b : length (decimal (n / 10)) ≤ suc k = decimal_most k (n / 10) (omega arith) in
    omega arith)
    (cases (less n 10))

decimal_word : (n : ℕ) → n < 2 ^ 64 → length (decimal n) ≤ 20
decimal_word n h = decimal_most 19 n (omega arith)

-- ---- writing a number

-- a number of one digit
pub wrote_one : {l m : List ℕ} {at j : ℕ} (n : ℕ) → n < 10 → Wrote l at ((48 + n) ∷ []) m j → Wrote l at (decimal n) m j
wrote_one n h w = rw (decimal_one n h) w

-- of two
pub wrote_pair : {l m : List ℕ} {at j : ℕ} (n : ℕ) → 10 ≤ n → n < 100 → Wrote l at (pair n) m j → Wrote l at (decimal n) m j
wrote_pair n h g w = rw (decimal_pair n h g) w

-- its first digits, then the others
pub wrote_two : {l m o : List ℕ} {at i j : ℕ} (n : ℕ) → 100 ≤ n → Wrote l at (decimal (n / 100)) m i → Wrote m i (pair (n % 100)) o j
    → Wrote l at (decimal n) o j
wrote_two n h x y = rw (decimal_two n h) (wrote_join x y)

pub wrote_four : {l m o : List ℕ} {at i j : ℕ} (n : ℕ) → 10000 ≤ n → Wrote l at (decimal (n / 10000)) m i → Wrote m i (four (n % 10000)) o j
    → Wrote l at (decimal n) o j
wrote_four n h x y = rw (decimal_four n h) (wrote_join x y)

pub wrote_eight : {l m o : List ℕ} {at i j : ℕ} (n : ℕ) → 100000000 ≤ n → Wrote l at (decimal (n / 100000000)) m i
    → Wrote m i (eight (n % 100000000)) o j → Wrote l at (decimal n) o j
wrote_eight n h x y = rw (decimal_eight n h) (wrote_join x y)

-- the most bytes of a field
pub field_most : (n : ℕ) → n < 2 ^ 64 → length (field n) ≤ 21
unfolding field
field_most n h = let e : length (decimal n) ≤ 20 = decimal_word n h in omega arith

-- ---- triples

pub triple_most : (k v o : ℕ) → k < 2 ^ 64 → v < 2 ^ 64 → o < 2 ^ 64 → length (triple k v o) ≤ 63
unfolding triple
triple_most k v o h g f =
    let e : length (field k ++ field v ++ field o) ≡ length (field k ++ field v) + length (field o) = length-append (field k ++ field v) (field o) in
    let d : length (field k ++ field v) ≡ length (field k) + length (field v) = length-append (field k) (field v) in
    omega (arith, field_most k h, field_most v g, field_most o f)

triples_snoc : (ks vs os : List ℕ) (k v o : ℕ) → length ks ≡ length vs → length ks ≡ length os
    → triples_of (ks ++ (k ∷ [])) (vs ++ (v ∷ [])) (os ++ (o ∷ [])) ≡ triples_of ks vs os ++ triple k v o
unfolding triples_of
triples_snoc [] [] [] k v o e d = append-nil (triple k v o)
triples_snoc [] [] (z ∷ os) k v o e d = absurd (omega arith)
triples_snoc [] (y ∷ vs) os k v o e d = absurd (omega arith)
triples_snoc (x ∷ ks) [] os k v o e d = absurd (omega arith)
triples_snoc (x ∷ ks) (y ∷ vs) [] k v o e d = absurd (omega arith)
triples_snoc (x ∷ ks) (y ∷ vs) (z ∷ os) k v o e d =
    ap (λ (l : List ℕ). triple x y z ++ l) (triples_snoc ks vs os k v o (omega arith) (omega arith))
    ∙ sym (append_assoc (triple x y z) (triples_of ks vs os) (triple k v o))

-- one triple more
triples_more : (ks vs os : List ℕ) (i : ℕ) → i < length ks → i < length vs → i < length os
    → triples_of (take (i + 1) ks) (take (i + 1) vs) (take (i + 1) os)
    ≡ triples_of (take i ks) (take i vs) (take i os) ++ triple (get_or ks i 0) (get_or vs i 0) (get_or os i 0)
triples_more ks vs os i h g f =
    let e : length (take i ks) ≡ i = length-take-le i ks (omega arith) in
    rw (add-one, take-suc ks i 0 h, take-suc vs i 0 g, take-suc os i 0 f)
    (triples_snoc (take i ks) (take i vs) (take i os) (get_or ks i 0) (get_or vs i 0) (get_or os i 0)
    (e ∙ sym (length-take-le i vs (omega arith))) (e ∙ sym (length-take-le i os (omega arith))))

-- the first i triples are written
pub record Listing (ks vs os old : List ℕ) (at : ℕ) (new : List ℕ) (next i : ℕ) : Type 0 where
  pub wrote : Wrote old at (triples_of (take i ks) (take i vs) (take i os)) new next
  pub most : next ≤ at + 63 * i

pub listing_none : (ks vs os l : List ℕ) (at : ℕ) → at ≤ length l → Listing ks vs os l at l at 0
unfolding triples_of
listing_none ks vs os l at h = record { wrote = record { written = refl; within = omega arith; place = omega arith }; most = omega arith }

pub listing_on : {ks vs os l m n : List ℕ} {at j k : ℕ} (i : ℕ) → Listing ks vs os l at m j i → i < length ks → i < length vs → i < length os
    → get_or ks i 0 < 2 ^ 64 → get_or vs i 0 < 2 ^ 64 → get_or os i 0 < 2 ^ 64
    → Wrote m j (triple (get_or ks i 0) (get_or vs i 0) (get_or os i 0)) n k → Listing ks vs os l at n k (i + 1)
listing_on {ks} {vs} {os} {l} {m} {n} {at} {j} {k} i p h g f a b c w =
    record {
      wrote = rw (triples_more ks vs os i h g f) (wrote_join p.wrote w);
      most = let q = p.most in let e = w.place in omega (arith, triple_most (get_or ks i 0) (get_or vs i 0) (get_or os i 0) a b c);
    }

pub listing_end : {ks vs os l m : List ℕ} {at j : ℕ} (i n : ℕ) → Listing ks vs os l at m j i → i ≤ n → n ≤ i
    → Wrote l at (triples_of (take n ks) (take n vs) (take n os)) m j
listing_end {ks} {vs} {os} {l} {m} {at} {j} i n p h g =
    let e : i ≡ n = omega arith in
    subst (λ (x : ℕ). Wrote l at (triples_of (take x ks) (take x vs) (take x os)) m j) e p.wrote
