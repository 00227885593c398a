-- The laws of rows: what a look-up finds after each change, that keys go on rising, and that two lists of rows with
-- rising keys are equal if every look-up finds the same in both.
use Rattle.std.specs.Prelude.{ℕ, suc, ◌+◌, ◌<◌, ◌≤◌, ◌≡◌, Bool, true, false, length}
use Rattle.std.proofs.Common.{zero-le, le_refl, le_trans, arith, sym, ap, ◌∙◌, subst, ⊎_elim}
use Rattle.std.proofs.Math.Nat.{le_step}
use Rattle.std.proofs.Math.Path.{refl}
use mathlib.Core.List.{List, [], ◌∷◌, Memᴰ}
use Rattle.std.proofs.Math.Option.{Option, none, some, get_or, map}
use Rattle.lists.specs.Tests.{pick, present, same, less, within}
use Rattle.lists.specs.TestLaws.{cases, clash, same_true, same_false, same_yes, same_no, less_true, less_false}
use Rattle.lists.specs.Rows.{Row, row, look, insert, delete, assign, lay, between, keys, From, Rising, map_items, any, has, Different}

pub some_not_none : {A : Type 0} {a : A} → some a ≡ none → ⊥
some_not_none {a = a} e = let z : ◌≡◌ {A = ℕ} 0 1 = cc in omega arith

-- ---- look-up

pub look_nil : {A : Type 0} (k : ℕ) → look {A = A} [] k ≡ none
unfolding look
look_nil k = refl

pub look_here : {A : Type 0} (r : Row A) (rs : List (Row A)) (k : ℕ) → r.key ≡ k → look (r ∷ rs) k ≡ some r.item
unfolding look
look_here r rs k e = rw (same_yes {m = r.key} {n = k} e)

pub look_there : {A : Type 0} (r : Row A) (rs : List (Row A)) (k : ℕ) → (r.key ≡ k → ⊥) → look (r ∷ rs) k ≡ look rs k
unfolding look
look_there r rs k h = rw (same_no {m = r.key} {n = k} h)

pub look_insert : {A : Type 0} (k : ℕ) (a : A) (rs : List (Row A)) (j : ℕ) → look (insert k a rs) j ≡ pick (same k j) (some a) (look rs j)
unfolding look insert
look_insert k a [] j = refl
look_insert k a (r ∷ rs) j =
    ⊎_elim (λ e. rw e)
    (λ e. rw e (⊎_elim
    (λ f. rw f (⊎_elim (λ g. rw g) (λ g. rw (g, same_no {m = r.key} {n = j} (λ q. same_false k j g (same_true k r.key f ∙ q)))) (cases (same k j))))
    (λ f. rw f (ap (pick (same r.key j) (some r.item)) (look_insert k a rs j) ∙
    ⊎_elim (λ g. rw (g, same_no {m = r.key} {n = j} (λ q. same_false k r.key f (same_true k j g ∙ sym q)))) (λ g. rw g) (cases (same k j))))
    (cases (same k r.key))))
    (cases (less k r.key))

pub look_delete : {A : Type 0} (k : ℕ) (rs : List (Row A)) (j : ℕ) → look (delete k rs) j ≡ pick (same k j) none (look rs j)
unfolding look delete
look_delete k [] j = ⊎_elim (λ e. rw e) (λ e. rw e) (cases (same k j))
look_delete k (r ∷ rs) j =
    ⊎_elim
    (λ e. rw e (look_delete k rs j ∙
    ⊎_elim (λ g. rw g) (λ g. rw (g, same_no {m = r.key} {n = j} (λ q. same_false k j g (sym (same_true r.key k e) ∙ q)))) (cases (same k j))))
    (λ e. rw e (ap (pick (same r.key j) (some r.item)) (look_delete k rs j) ∙
    ⊎_elim (λ g. rw (g, same_no {m = r.key} {n = j} (λ q. same_false r.key k e (q ∙ sym (same_true k j g))))) (λ g. rw g) (cases (same k j))))
    (cases (same r.key k))

pub look_assign : {A : Type 0} (k : ℕ) (o : Option A) (rs : List (Row A)) (j : ℕ) → look (assign k o rs) j ≡ pick (same k j) o (look rs j)
unfolding assign
look_assign k none rs j = look_delete k rs j
look_assign k (some a) rs j = look_insert k a rs j

-- the rows laid over decide where they have the key
pub look_lay : {A : Type 0} (es : List (Row (Option A))) (rs : List (Row A)) (k : ℕ) → look (lay es rs) k ≡ get_or (look es k) (look rs k)
unfolding look lay
look_lay [] rs k = refl
look_lay (e ∷ es) rs k =
    look_assign e.key e.item (lay es rs) k
    ∙ ⊎_elim (λ g. rw g) (λ g. rw g (look_lay es rs k)) (cases (same e.key k))

pub look_between : {A : Type 0} (lo hi : ℕ) (rs : List (Row A)) (k : ℕ) → look (between lo hi rs) k ≡ pick (within lo hi k) (look rs k) none
unfolding look between
look_between lo hi [] k = ⊎_elim (λ e. rw e) (λ e. rw e) (cases (within lo hi k))
look_between lo hi (r ∷ rs) k =
    ⊎_elim
    (λ e. rw e (ap (pick (same r.key k) (some r.item)) (look_between lo hi rs k) ∙
    ⊎_elim
    (λ g. rw (g, sym (ap (within lo hi) (same_true r.key k g)) ∙ e))
    (λ g. rw g) (cases (same r.key k))))
    (λ e. rw e (look_between lo hi rs k ∙
    ⊎_elim
    (λ g. rw (g, sym (ap (within lo hi) (same_true r.key k g)) ∙ e))
    (λ g. rw g) (cases (same r.key k))))
    (cases (within lo hi r.key))

pub look_map_items : {A B : Type 0} (f : A → B) (rs : List (Row A)) (k : ℕ) → look (map_items f rs) k ≡ map f (look rs k)
unfolding look map_items
look_map_items f [] k = refl
look_map_items f (r ∷ rs) k = ⊎_elim (λ e. rw e) (λ e. rw e (look_map_items f rs k)) (cases (same r.key k))

-- ---- rising keys

pub from_weaken : {A : Type 0} (rs : List (Row A)) {lo lo' : ℕ} → lo' ≤ lo → From lo rs → From lo' rs
unfolding From
from_weaken [] h f = tt
from_weaken (r ∷ rs) h f = (le_trans h f.0, f.1)

pub look_low : {A : Type 0} (rs : List (Row A)) {lo : ℕ} (k : ℕ) → k < lo → From lo rs → look rs k ≡ none
unfolding From look
look_low [] k h f = refl
look_low (r ∷ rs) {lo} k h f =
    rw (same_no {m = r.key} {n = k} (λ q. let g : lo ≤ r.key = f.0 in omega arith))
    (look_low rs k (le_trans h (le_step f.0)) f.1)

pub from_insert : {A : Type 0} (k : ℕ) (a : A) (rs : List (Row A)) {lo : ℕ} → lo ≤ k → From lo rs → From lo (insert k a rs)
unfolding From insert
from_insert k a [] h f = (h, tt)
from_insert k a (r ∷ rs) {lo} h f =
    ⊎_elim
    (λ e. rw e (h, (less_true k r.key e, f.1)))
    (λ e. rw e (⊎_elim
    (λ g. rw g (h, from_weaken rs (let q : k ≡ r.key = same_true k r.key g in omega arith) f.1))
    (λ g. rw g (f.0, from_insert k a rs (let p : r.key ≤ k = less_false k r.key e in let q : k ≡ r.key → ⊥ = same_false k r.key g in omega arith) f.1))
    (cases (same k r.key))))
    (cases (less k r.key))

from_delete : {A : Type 0} (k : ℕ) (rs : List (Row A)) (lo : ℕ) → From lo rs → From lo (delete k rs)
unfolding From delete
from_delete k [] lo f = tt
from_delete k (r ∷ rs) lo f =
    ⊎_elim
    (λ e. rw e (from_weaken (delete k rs) (le_step f.0) (from_delete k rs _ f.1)))
    (λ e. rw e (f.0, from_delete k rs _ f.1))
    (cases (same r.key k))

pub from_assign : {A : Type 0} (k : ℕ) (o : Option A) (rs : List (Row A)) {lo : ℕ} → lo ≤ k → From lo rs → From lo (assign k o rs)
unfolding assign
from_assign k none rs h f = from_delete k rs _ f
from_assign k (some a) rs h f = from_insert k a rs h f

pub rising_assign : {A : Type 0} (k : ℕ) (o : Option A) (rs : List (Row A)) → Rising rs → Rising (assign k o rs)
unfolding Rising
rising_assign k o rs f = from_assign k o rs zero-le f

-- whether a key has a row, as a number
look_one : {A : Type 0} (r : Row A) (rs : List (Row A)) (k : ℕ) → r.key ≡ k → ◌≡◌ {A = ℕ} (pick (present (look (r ∷ rs) k)) 1 0) 1
look_one r rs k e = ap (λ (o : Option _). pick {A = ℕ} (present o) 1 0) (look_here r rs k e)

look_rest : {A : Type 0} (r : Row A) (rs : List (Row A)) (k : ℕ) → (r.key ≡ k → ⊥)
    → ◌≡◌ {A = ℕ} (pick (present (look (r ∷ rs) k)) 1 0) (pick (present (look rs k)) 1 0)
look_rest r rs k n = ap (λ (o : Option _). pick {A = ℕ} (present o) 1 0) (look_there r rs k n)

none_low : {A : Type 0} (rs : List (Row A)) (lo k : ℕ) → k < lo → From lo rs → ◌≡◌ {A = ℕ} (pick (present (look rs k)) 1 0) 0
none_low rs lo k h f = ap (λ (o : Option _). pick {A = ℕ} (present o) 1 0) (look_low rs k h f)

length_insert : {A : Type 0} (k : ℕ) (a : A) (rs : List (Row A)) (lo : ℕ) → From lo rs
    → length (insert k a rs) + pick (present (look rs k)) 1 0 ≡ length rs + 1
unfolding From insert
length_insert k a [] lo f = unfold look in refl
length_insert k a (r ∷ rs) lo f =
    ⊎_elim
    (λ e. let l : k < r.key = less_true k r.key e in
    let n : length (insert k a (r ∷ rs)) ≡ suc (suc (length rs)) = rw e in
    let z : pick (present (look (r ∷ rs) k)) 1 0 ≡ 0 = look_rest r rs k (λ q. omega arith) ∙ none_low rs (suc r.key) k (omega arith) f.1 in
    omega arith)
    (λ e. let l : less k r.key ≡ false = e in
    ⊎_elim
    (λ g. let q : k ≡ r.key = same_true k r.key g in
    let n : length (insert k a (r ∷ rs)) ≡ suc (length rs) = rw (l, g) in
    let z : pick (present (look (r ∷ rs) k)) 1 0 ≡ 1 = look_one r rs k (sym q) in
    omega arith)
    (λ g. let q : k ≡ r.key → ⊥ = same_false k r.key g in
    let n : length (insert k a (r ∷ rs)) ≡ suc (length (insert k a rs)) = rw (l, g) in
    let z : pick (present (look (r ∷ rs) k)) 1 0 ≡ pick (present (look rs k)) 1 0 = look_rest r rs k (λ y. q (sym y)) in
    let i : length (insert k a rs) + pick (present (look rs k)) 1 0 ≡ length rs + 1 = length_insert k a rs (suc r.key) f.1 in
    omega arith)
    (cases (same k r.key)))
    (cases (less k r.key))

length_delete : {A : Type 0} (k : ℕ) (rs : List (Row A)) (lo : ℕ) → From lo rs
    → length (delete k rs) + pick (present (look rs k)) 1 0 ≡ length rs
unfolding From delete
length_delete k [] lo f = unfold look in refl
length_delete k (r ∷ rs) lo f =
    let i : length (delete k rs) + pick (present (look rs k)) 1 0 ≡ length rs = length_delete k rs (suc r.key) f.1 in
    ⊎_elim
    (λ e. let q : r.key ≡ k = same_true r.key k e in
    let n : length (delete k (r ∷ rs)) ≡ length (delete k rs) = rw e in
    let z : pick (present (look rs k)) 1 0 ≡ 0 = none_low rs (suc r.key) k (omega arith) f.1 in
    let y : pick (present (look (r ∷ rs) k)) 1 0 ≡ 1 = look_one r rs k q in
    omega arith)
    (λ e. let n : length (delete k (r ∷ rs)) ≡ suc (length (delete k rs)) = rw e in
    let y : pick (present (look (r ∷ rs) k)) 1 0 ≡ pick (present (look rs k)) 1 0 = look_rest r rs k (same_false r.key k e) in
    omega arith)
    (cases (same r.key k))

-- how many rows there are after an assignment: one comes if the key had none, and one goes if it had
pub length_assign : {A : Type 0} (k : ℕ) (o : Option A) (rs : List (Row A)) → Rising rs
    → length (assign k o rs) + pick (present (look rs k)) 1 0 ≡ length rs + pick (present o) 1 0
unfolding assign Rising
length_assign k none rs f = let i : length (delete k rs) + pick (present (look rs k)) 1 0 ≡ length rs = length_delete k rs 0 f in omega arith
length_assign k (some a) rs f = length_insert k a rs 0 f

pub rising_lay : {A : Type 0} (es : List (Row (Option A))) (rs : List (Row A)) → Rising rs → Rising (lay es rs)
unfolding lay
rising_lay [] rs f = f
rising_lay (e ∷ es) rs f = rising_assign e.key e.item (lay es rs) (rising_lay es rs f)

pub rising_nil : (A : Type 0) → Rising {A = A} []
unfolding Rising From
rising_nil A = tt

from_between : {A : Type 0} (lo hi : ℕ) (rs : List (Row A)) (b : ℕ) → From b rs → From b (between lo hi rs)
unfolding From between
from_between lo hi [] b f = tt
from_between lo hi (r ∷ rs) b f =
    ⊎_elim
    (λ e. rw e (f.0, from_between lo hi rs _ f.1))
    (λ e. rw e (from_weaken (between lo hi rs) (le_step f.0) (from_between lo hi rs _ f.1)))
    (cases (within lo hi r.key))

pub from_map_items : {A B : Type 0} (f : A → B) (rs : List (Row A)) (b : ℕ) → From b rs → From b (map_items f rs)
unfolding From map_items
from_map_items f [] b h = tt
from_map_items f (r ∷ rs) b h = (h.0, from_map_items f rs _ h.1)

pub rising_between : {A : Type 0} (lo hi : ℕ) (rs : List (Row A)) → Rising rs → Rising (between lo hi rs)
unfolding Rising
rising_between lo hi rs f = from_between lo hi rs _ f

pub rising_map_items : {A B : Type 0} (f : A → B) (rs : List (Row A)) → Rising rs → Rising (map_items f rs)
unfolding Rising
rising_map_items f rs h = from_map_items f rs _ h

-- ---- when two lists of rows are equal

-- the first key of one is the first key of the other
first_key : {A : Type 0} (r : Row A) (rs : List (Row A)) (s : Row A) (ss : List (Row A))
    → From (suc s.key) ss → ((k : ℕ) → look (r ∷ rs) k ≡ look (s ∷ ss) k) → s.key ≤ r.key
first_key r rs s ss f h =
    ⊎_elim
    (λ e. absurd (some_not_none
    (sym (look_here r rs r.key refl) ∙ h r.key
    ∙ look_there s ss r.key (λ q. let g : r.key < s.key = less_true r.key s.key e in omega arith)
    ∙ look_low ss r.key (le_step (less_true r.key s.key e)) f)))
    (λ e. less_false r.key s.key e)
    (cases (less r.key s.key))

rows_equal_from : {A : Type 0} (lo : ℕ) (xs ys : List (Row A)) → From lo xs → From lo ys
    → ((k : ℕ) → look xs k ≡ look ys k) → xs ≡ ys
unfolding From
rows_equal_from lo [] [] f g h = refl
rows_equal_from lo [] (s ∷ ss) f g h =
    absurd (some_not_none (sym (look_here s ss s.key refl) ∙ sym (h s.key) ∙ look_nil s.key))
rows_equal_from lo (r ∷ rs) [] f g h =
    absurd (some_not_none (sym (look_here r rs r.key refl) ∙ h r.key ∙ look_nil r.key))
rows_equal_from lo (r ∷ rs) (s ∷ ss) f g h =
    let a : s.key ≤ r.key = first_key r rs s ss g.1 h in
    let b : r.key ≤ s.key = first_key s ss r rs f.1 (λ k. sym (h k)) in
    let e : r.key ≡ s.key = omega arith in
    let v : some r.item ≡ some s.item = sym (look_here r rs r.key refl) ∙ h r.key ∙ look_here s ss r.key (sym e) in
    let i : r.item ≡ s.item = cc in
    let t : rs ≡ ss = rows_equal_from (suc r.key) rs ss f.1 (subst (λ (n : ℕ). From (suc n) ss) (sym e) g.1) (tails e) in
    λ j. record { key = e j; item = i j } ∷ t j
  where
    tails : r.key ≡ s.key → (k : ℕ) → look rs k ≡ look ss k
    tails e k =
        ⊎_elim
        (λ q. look_low rs k (le_step' q) f.1 ∙ sym (look_low ss k (le_step'' e q) g.1))
        (λ q. sym (look_there r rs k (same_false r.key k q)) ∙ h k ∙ look_there s ss k (λ p. same_false r.key k q (e ∙ p)))
        (cases (same r.key k))
      where
        le_step' : same r.key k ≡ true → k < suc r.key
        le_step' q = let p : r.key ≡ k = same_true r.key k q in omega arith

        le_step'' : r.key ≡ s.key → same r.key k ≡ true → k < suc s.key
        le_step'' e q = let p : r.key ≡ k = same_true r.key k q in omega arith

-- two lists of rows with rising keys are equal if every look-up finds the same in both
pub rows_equal : {A : Type 0} (xs ys : List (Row A)) → Rising xs → Rising ys → ((k : ℕ) → look xs k ≡ look ys k) → xs ≡ ys
unfolding Rising
rows_equal xs ys f g h = rows_equal_from 0 xs ys f g h

-- ---- tests over a list

any_skip : {A : Type 0} (p : A → Bool) (y : A) (ys : List A) → p y ≡ false → any p (y ∷ ys) ≡ any p ys
unfolding any
any_skip p y ys f = rw f

pub any_false : {A : Type 0} (p : A → Bool) (xs : List A) → any p xs ≡ false → (x : A) → Memᴰ x xs → p x ≡ false
unfolding any
any_false {A = A} p [] e x x4 = elim x4 [ ]
any_false p (y ∷ ys) e x (Memᴰ.head q) =
    ⊎_elim (λ t. clash {b = any p (y ∷ ys)} (rw t) e) (λ f. ap p q ∙ f) (cases (p y))
any_false p (y ∷ ys) e x (Memᴰ.tail m) =
    ⊎_elim (λ t. clash {b = any p (y ∷ ys)} (rw t) e) (λ f. any_false p ys (sym (any_skip p y ys f) ∙ e) x m) (cases (p y))

pub any_true : {A : Type 0} (p : A → Bool) (xs : List A) → any p xs ≡ true → (x : A) × Memᴰ x xs × (p x ≡ true)
unfolding any
any_true p [] e = clash e refl
any_true p (y ∷ ys) e =
    ⊎_elim
    (λ t. (y, Memᴰ.head refl, t))
    (λ f. let r = any_true p ys (sym (any_skip p y ys f) ∙ e) in (r.0, Memᴰ.tail r.1, r.2))
    (cases (p y))

pub none_any : {A : Type 0} (p : A → Bool) (xs : List A) → ((x : A) → Memᴰ x xs → p x ≡ false) → any p xs ≡ false
unfolding any
none_any p [] h = refl
none_any p (y ∷ ys) h = rw (h y (Memᴰ.head refl)) (none_any p ys (λ x m. h x (Memᴰ.tail m)))

pub some_any : {A : Type 0} (p : A → Bool) (xs : List A) (x : A) → Memᴰ x xs → p x ≡ true → any p xs ≡ true
unfolding any
some_any {A = A} p [] x x4 e = elim x4 [ ]
some_any p (y ∷ ys) x (Memᴰ.head q) e = rw (sym (ap p q) ∙ e)
some_any p (y ∷ ys) x (Memᴰ.tail m) e = ⊎_elim (λ t. rw t) (λ t. rw t (some_any p ys x m e)) (cases (p y))

has_key : {A : Type 0} (r : Row A) (rs : List (Row A)) (k : ℕ) → has k (keys (r ∷ rs)) ≡ pick (same k r.key) true (has k (keys rs))
unfolding has any keys
has_key r rs k = refl

-- a key stands among the keys if a look-up finds it
pub has_keys : {A : Type 0} (rs : List (Row A)) (k : ℕ) → has k (keys rs) ≡ present (look rs k)
has_keys [] k = unfold has any keys look in refl
has_keys (r ∷ rs) k =
    has_key r rs k
    ∙ ⊎_elim
    (λ e. rw e (sym (ap present (look_here r rs k (sym (same_true k r.key e))))))
    (λ e. rw e (has_keys rs k ∙ sym (ap present (look_there r rs k (λ q. same_false k r.key e (sym q))))))
    (cases (same k r.key))

pub length_keys : {A : Type 0} (rs : List (Row A)) → length (keys rs) ≡ length rs
unfolding keys
length_keys [] = refl
length_keys (r ∷ rs) = ap suc (length_keys rs)

from_different : {A : Type 0} (lo : ℕ) (rs : List (Row A)) → From lo rs → Different (keys rs)
unfolding From keys Different
from_different lo [] f = tt
from_different lo (r ∷ rs) f =
    (has_keys rs r.key ∙ ap present (look_low rs r.key (le_refl (suc r.key)) f.1), from_different (suc r.key) rs f.1)

pub rising_different : {A : Type 0} (rs : List (Row A)) → Rising rs → Different (keys rs)
unfolding Rising
rising_different rs f = from_different 0 rs f

pub member_keys : {A : Type 0} (rs : List (Row A)) (k : ℕ) (a : A) → Memᴰ (row k a) rs → Memᴰ k (keys rs)
unfolding keys
member_keys {A = A} [] k a x' = elim x' [ ]
member_keys (r ∷ rs) k a (Memᴰ.head e) = Memᴰ.head (ap (λ (x : Row _). x.key) e)
member_keys (r ∷ rs) k a (Memᴰ.tail m) = Memᴰ.tail (member_keys rs k a m)

pub has_any : (p : ℕ → Bool) (ks : List ℕ) → any p ks ≡ false → (k : ℕ) → has k ks ≡ true → p k ≡ false
unfolding has
has_any p ks e k h =
    let m = any_true (same k) ks h in
    ap p (same_true k m.0 m.2) ∙ any_false p ks e m.0 m.1
