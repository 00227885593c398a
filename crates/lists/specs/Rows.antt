-- Rows: lists of a key and an item. Look-up, writing and dropping by key, overlay, range; rising keys; when two are equal.
use Rattle.std.specs.Prelude.{ℕ, suc, ◌≤◌, ◌≡◌, Bool, true, false, List, [], ◌∷◌}
use Rattle.std.proofs.Math.Option.{Option, none, some}
use Rattle.lists.specs.Tests.{pick, same, less, within}

pub record Row (A : Type 0) : Type 0 where
  pub key : ℕ
  pub item : A

abbrev pub row : {A : Type 0} → ℕ → A → Row A
row k a = record { key = k; item = a }

module _ {A : Type 0} where
  -- the item of the first row with the key
  unfoldable pub look : List (Row A) → ℕ → Option A
  look [] k = none
  look (r ∷ rs) k = pick (same r.key k) (some r.item) (look rs k)

  -- the rows with the item at the key: in place of one that stands there, else before the first larger key
  unfoldable pub insert : ℕ → A → List (Row A) → List (Row A)
  insert k a [] = row k a ∷ []
  insert k a (r ∷ rs) =
      pick (less k r.key) (row k a ∷ r ∷ rs) (pick (same k r.key) (row k a ∷ rs) (r ∷ insert k a rs))

  -- the rows without the key
  unfoldable pub delete : ℕ → List (Row A) → List (Row A)
  delete k [] = []
  delete k (r ∷ rs) = pick (same r.key k) (delete k rs) (r ∷ delete k rs)

  -- the rows with the item at the key, or with none there
  unfoldable pub assign : ℕ → Option A → List (Row A) → List (Row A)
  assign k none rs = delete k rs
  assign k (some a) rs = insert k a rs

  -- the rows with the first rows laid over: each says what its key has from now on, an item or nothing
  unfoldable pub lay : List (Row (Option A)) → List (Row A) → List (Row A)
  lay [] rs = rs
  lay (e ∷ es) rs = assign e.key e.item (lay es rs)

  -- the rows with keys from lo to hi
  unfoldable pub between : ℕ → ℕ → List (Row A) → List (Row A)
  between lo hi [] = []
  between lo hi (r ∷ rs) = pick (within lo hi r.key) (r ∷ between lo hi rs) (between lo hi rs)

  unfoldable pub keys : List (Row A) → List ℕ
  keys [] = []
  keys (r ∷ rs) = r.key ∷ keys rs

  -- keys rise, from lo on
  unfoldable pub From : ℕ → List (Row A) → Type 0
  From lo [] = Unit {0}
  From lo (r ∷ rs) = (lo ≤ r.key) × From (suc r.key) rs

  unfoldable pub Rising : List (Row A) → Type 0
  Rising rs = From 0 rs

-- the same keys, with items made of the old ones
unfoldable pub map_items : {A B : Type 0} → (A → B) → List (Row A) → List (Row B)
map_items f [] = []
map_items f (r ∷ rs) = row r.key (f r.item) ∷ map_items f rs

-- some element passes the test
unfoldable pub any : {A : Type 0} → (A → Bool) → List A → Bool
any p [] = false
any p (x ∷ xs) = pick (p x) true (any p xs)

unfoldable pub filter : {A : Type 0} → (A → Bool) → List A → List A
filter p [] = []
filter p (x ∷ xs) = pick (p x) (x ∷ filter p xs) (filter p xs)

unfoldable pub has : ℕ → List ℕ → Bool
has k ks = any (same k) ks

-- how many different numbers stand in the list
unfoldable pub distinct : List ℕ → ℕ
distinct [] = 0
distinct (k ∷ ks) = pick (has k ks) (distinct ks) (suc (distinct ks))

-- no number stands twice
unfoldable pub Different : List ℕ → Type 0
Different [] = Unit {0}
Different (k ∷ ks) = (has k ks ≡ false) × Different ks
