-- The observations go on explaining the answers, with one event more.
use Rattle.std.specs.Prelude.{ℕ, ◌≤◌, ◌≡◌, refl, Bool, true}
use Rattle.std.proofs.Common.{le_refl, ◌∙◌}
use Rattle.std.proofs.Math.Path.{sym, ap}
use Rattle.std.proofs.Math.Logic.{⊎_elim}
use mathlib.Core.List.Memᴰ
use mathlib.Core.List.{List, [], ◌∷◌, ◌++◌}
use Rattle.std.proofs.Math.Option.{Option, none, some, get_or, map}
use Rattle.lists.specs.Tests.{pick, both, maybe, within, at_most}
use Rattle.lists.specs.TestLaws.{cases, at_most_true}
use Rattle.lists.specs.Rows.{Row, look, Rising, lay, between, map_items}
use Rattle.lists.specs.RowLaws.{rows_equal, look_lay, look_nil, look_map_items, look_between, rising_lay, rising_nil, rising_map_items, rising_between}
use Rattle.spec.specs.Records.{Payload, Record, Write, written, deleted, outcome, own_view, payload_of}
use Rattle.spec.specs.Steps.{Places, Step, read, scan, Answer, found, listed, Event, access_of}
use Rattle.spec.specs.Sequential.{value_told, Agrees, after_steps, list_scan, AccessAgrees}
use Rattle.serial.specs.Feeding.{event_writes, laid, look_after_all, rising_after_all, all_agree_snoc}
use Rattle.serial.specs.Invariant.{Observation, Matches, Explains}

-- what a list says after the transaction's own writes were laid over another
abbrev Over : ℕ → List (Row Write) → List (Row Record) → List (Row Record) → Type 0
Over n ws l l' = (k : ℕ) → look l' k ≡ laid n ws k (look l k)

-- one event more, explained by these observations
explain : (os os' : List Observation) (es : List Event) (s : Step) (a : Answer) → Explains os es
    → ((l : List (Row Record)) → Matches os' l → Matches os l)
    → ((n : ℕ) (l l' : List (Row Record)) → Rising l' → Over n (event_writes es) l l' → Matches os' l → Agrees l' s a)
    → Explains os' (es ++ (record { step = s; answer = a } ∷ []))
explain os os' es s a h sub g n l r m =
    all_agree_snoc n l es (record { step = s; answer = a }) (h n l r (sub l m))
    (g n l (after_steps n l es) (rising_after_all n l es r) (look_after_all n l es) m)

-- an event that is not compared
pub explain_quiet : (os : List Observation) (es : List Event) (s : Step) (a : Answer) → ((l : List (Row Record)) → Agrees l s a)
    → Explains os es → Explains os (es ++ (record { step = s; answer = a } ∷ []))
explain_quiet os es s a q h = explain os os es s a h (λ l m. m) (λ n l l' r o m. q l')

own_outcome : (n : ℕ) (e : Write) → payload_of (outcome n e) ≡ own_view e
unfolding payload_of outcome own_view
own_outcome n (written p) = refl
own_outcome n deleted = refl

payload_map : (o : Option Record) → payload_of o ≡ map (λ (r : Record). r.payload) o
unfolding payload_of
payload_map none = refl
payload_map (some r) = refl

-- ---- a read

-- a read that the own write answered
pub explain_own_read : (os : List Observation) (es : List Event) (w k x : ℕ) (e : Write) → look (event_writes es) k ≡ some e
    → Explains os es → Explains os (es ++ (record { step = read w k; answer = found (own_view e) x } ∷ []))
unfolding Agrees AccessAgrees access_of value_told
explain_own_read os es w k x e q h =
    explain os os es (read w k) (found (own_view e) x) h (λ l m. m)
    (λ n l l' r o m.
    ap some (sym (own_outcome n e) ∙ ap payload_of (sym (o k ∙ ap (λ (x : Option Write). maybe x (look l k) (outcome n)) q))))

-- a read of what stands at the key
abbrev pub read_of : ℕ → Option Record → Observation
read_of k r = record { lo = k; hi = k; seen = λ (j : ℕ). r }

pub explain_read : (os : List Observation) (es : List Event) (w k x : ℕ) (r : Option Record) → look (event_writes es) k ≡ none
    → Explains os es
    → Explains (read_of k r ∷ os) (es ++ (record { step = read w k; answer = found (payload_of r) x } ∷ []))
unfolding Agrees AccessAgrees access_of value_told
explain_read os es w k x r q h =
    explain os (read_of k r ∷ os) es (read w k) (found (payload_of r) x) h (λ l m o mem. m o (Memᴰ.tail mem))
    (λ n l l' s o m.
    ap (λ (y : Option Record). some (payload_of y))
    (sym (o k ∙ ap (λ (x : Option Write). maybe x (look l k) (outcome n)) q ∙ m (read_of k r) (Memᴰ.head refl) k (le_refl k) (le_refl k))))

-- ---- a scan

-- What a scan looked at: the index keys of a range, each with its current record, as rows.
pub record ScanOf (indexed : ℕ → Bool) (current : ℕ → Option Record) (lo hi : ℕ) (rows : List (Row (Option Record))) : Type 0 where
  pub looks : (k : ℕ) → look rows k ≡ pick (both (within lo hi k) (indexed k)) (some (current k)) none

-- every key of the range, the absent ones too
abbrev pub scan_of : (ℕ → Bool) → (ℕ → Option Record) → ℕ → ℕ → Observation
scan_of indexed current lo hi = record { lo = lo; hi = hi; seen = λ (k : ℕ). pick (indexed k) (current k) none }

-- the records that a scan shows: those rows, and the own writes laid over
abbrev pub shown : List (Row Write) → ℕ → ℕ → List (Row (Option Record)) → List (Row Payload)
shown ws lo hi rows = lay (map_items own_view (between lo hi ws)) (lay (map_items payload_of rows) [])

pub within_low : (lo hi k : ℕ) → within lo hi k ≡ true → (lo ≤ k) × (k ≤ hi)
unfolding within
within_low lo hi k e =
    ⊎_elim (λ a. (at_most_true lo k a, at_most_true k hi (sym (side a) ∙ e))) (λ a. Rattle.lists.specs.TestLaws.clash e (rw a)) (cases (at_most lo k))
  where
    side : at_most lo k ≡ true → both (at_most lo k) (at_most k hi) ≡ at_most k hi
    side a = rw a

module _ {indexed : ℕ → Bool} {current : ℕ → Option Record} {lo hi : ℕ} {rows : List (Row (Option Record))} (h : ScanOf indexed current lo hi rows) where
  look_shown : (ws : List (Row Write)) (k : ℕ)
      → look (shown ws lo hi rows) k
      ≡ get_or (map own_view (pick (within lo hi k) (look ws k) none))
      (get_or (map payload_of (pick (both (within lo hi k) (indexed k)) (some (current k)) none)) none)
  look_shown ws k =
      look_lay (map_items own_view (between lo hi ws)) (lay (map_items payload_of rows) []) k
      ∙ ap (λ (x : Option (Option Payload)). get_or x (look (lay (map_items payload_of rows) []) k))
      (look_map_items own_view (between lo hi ws) k ∙ ap (map own_view) (look_between lo hi ws k))
      ∙ ap (λ (x : Option Payload). get_or (map own_view (pick (within lo hi k) (look ws k) none)) x)
      (look_lay (map_items payload_of rows) [] k
      ∙ ap (λ (x : Option Payload). get_or (look (map_items payload_of rows) k) x) (look_nil k)
      ∙ ap (λ (x : Option (Option Payload)). get_or x none) (look_map_items payload_of rows k ∙ ap (map payload_of) (h.looks k)))

  -- at a key of the range both show the own write, or what was seen
  same_inside : (n : ℕ) (k : ℕ) (x : Option Write) (o : Option Record) → o ≡ pick (indexed k) (current k) none
      → get_or (map own_view x) (get_or (map payload_of (pick (indexed k) (some (current k)) none)) none)
      ≡ map (λ (r : Record). r.payload) (maybe x o (outcome n))
  same_inside n k none o e =
      ⊎_elim
      (λ i. rw i (payload_map (current k) ∙ ap (map (λ (r : Record). r.payload)) (sym (rw i at e))))
      (λ i. rw i (ap (map (λ (r : Record). r.payload)) (sym (rw i at e))))
      (cases (indexed k))
  same_inside n k (some e) o q = sym (own_outcome n e) ∙ payload_map (outcome n e)

  look_scan : (n : ℕ) (ws : List (Row Write)) (l l' : List (Row Record)) → Over n ws l l'
      → ((k : ℕ) → lo ≤ k → k ≤ hi → look l k ≡ pick (indexed k) (current k) none)
      → (k : ℕ) → look (shown ws lo hi rows) k ≡ look (list_scan l' lo hi) k
  unfolding list_scan
  look_scan n ws l l' o m k =
      look_shown ws k
      ∙ ⊎_elim
      (λ e.
      let b = within_low lo hi k e in
      rw e (same_inside n k (look ws k) (look l k) (m k b.0 b.1) ∙ ap (map (λ (r : Record). r.payload)) (sym (o k))))
      (λ e. rw e)
      (cases (within lo hi k))
      ∙ sym (look_map_items (λ (r : Record). r.payload) (between lo hi l') k ∙ ap (map (λ (r : Record). r.payload)) (look_between lo hi l' k))

  pub explain_scan : (os : List Observation) (es : List Event) (w : ℕ) (b : Places) → Explains os es
      → Explains (scan_of indexed current lo hi ∷ os)
      (es ++ (record { step = scan w lo hi b; answer = listed (shown (event_writes es) lo hi rows) } ∷ []))
  unfolding Agrees AccessAgrees access_of
  explain_scan os es w b x =
      explain os (scan_of indexed current lo hi ∷ os) es (scan w lo hi b) (listed (shown (event_writes es) lo hi rows)) x
      (λ l m o mem. m o (Memᴰ.tail mem))
      (λ n l l' r o m.
      ap listed
      (rows_equal (shown (event_writes es) lo hi rows) (list_scan l' lo hi)
      (rising_lay (map_items own_view (between lo hi (event_writes es))) (lay (map_items payload_of rows) []) (rising_lay (map_items payload_of rows) [] (rising_nil Payload)))
      (unfold list_scan in rising_map_items (λ (q : Record). q.payload) (between lo hi l') (rising_between lo hi l' r))
      (look_scan n (event_writes es) l l' o (m (scan_of indexed current lo hi) (Memᴰ.head refl)))))
